-- Which octets spell which message, and which fault is the first in the others.
use Rattle.std.specs.Prelude.{◌≡◌, ◌≢◌, ℕ, ◌<◌, ◌≤◌, ◌^◌, Bool, true, false, ◌⊎◌, List, [], ◌∷◌, ◌++◌, length, take, slice_index, All, Some, None, Ok, Err, ◌↔◌}
use Rattle.std.specs.Int.{w32, from_be_bytes}
use Rattle.jm_wire.specs.Numbers.{be16, be32, be64}
use Rattle.apple_msg.specs.declared.message.Message.{Message}
use Rattle.apple_msg.specs.declared.message.Message.TheVariants.{Invite, Accept, Reject, Bye, Clock, Feedback, RateLimit}
use Rattle.apple_msg.specs.declared.message.MsgFault.{MsgFault}
use Rattle.apple_msg.specs.declared.message.MsgFault.TheVariants.{NotApple, UnknownVerb, Short, Version, NameNotEnded}
use Rattle.apple_msg.specs.declared.message.Verb.{Verb}
use Rattle.apple_msg.specs.declared.message.Verb.TheVariants as verbs
use Rattle.apple_msg.specs.Spelling.{marked, header, text, IsMessage}
use Rattle.apple_msg.specs.Reading.{read, verb_of}

-- each number of a list fits an octet
abbrev pub AreOctets : List ℕ → Type 0
AreOctets octets = (k : ℕ) → slice_index octets k < 256

-- ---- messages

-- a name ends at the first 0, and its first 63 octets are kept
pub record IsEnded (octets name : List ℕ) : Type 0 where
  pub whole : List ℕ
  pub spare : List ℕ
  pub none_ends : All (λ octet. octet ≢ 0) whole
  pub parts : octets ≡ whole ++ (0 ∷ spare)
  pub kept : name ≡ take 63 whole

-- nothing at all is an empty name too
pub record IsAbsent (octets name : List ℕ) : Type 0 where
  pub nothing : octets ≡ []
  pub empty : name ≡ []

abbrev pub NamesAs : (octets name : List ℕ) → Type 0
NamesAs octets name = IsAbsent octets name ⊎ IsEnded octets name

pub record SpellsInvitation (first second : ℕ) (octets : List ℕ) (token ssrc : ℕ) (name : List ℕ) : Type 0 where
  pub token_fits : token < 2 ^ 32
  pub ssrc_fits : ssrc < 2 ^ 32
  pub rest : List ℕ
  pub parts : octets ≡ marked first second (header token ssrc rest)
  pub named : NamesAs rest name

pub record SpellsBye (octets : List ℕ) (token ssrc : ℕ) : Type 0 where
  pub token_fits : token < 2 ^ 32
  pub ssrc_fits : ssrc < 2 ^ 32
  pub spare : List ℕ
  pub parts : octets ≡ marked 66 89 (header token ssrc spare)

pub record SpellsClock (octets : List ℕ) (ssrc count : ℕ) (times : List ℕ) : Type 0 where
  pub ssrc_fits : ssrc < 2 ^ 32
  pub first : ℕ
  pub second : ℕ
  pub third : ℕ
  pub first_fits : first < 2 ^ 64
  pub second_fits : second < 2 ^ 64
  pub third_fits : third < 2 ^ 64
  pub times_are : times ≡ first ∷ second ∷ third ∷ []
  -- 24 bits that are not looked at
  pub ignored : List ℕ
  pub three : length ignored ≡ 3
  pub spare : List ℕ
  pub parts : octets ≡ marked 67 75 (be32 ssrc ++ (count ∷ (ignored ++ (be64 first ++ (be64 second ++ (be64 third ++ spare))))))

pub record SpellsFeedback (octets : List ℕ) (ssrc seq : ℕ) : Type 0 where
  pub ssrc_fits : ssrc < 2 ^ 32
  pub seq_fits : seq < 2 ^ 16
  -- two octets that are not looked at, and more
  pub spare : List ℕ
  pub two : 2 ≤ length spare
  pub parts : octets ≡ marked 82 83 (be32 ssrc ++ (be16 seq ++ spare))

pub record SpellsRateLimit (octets : List ℕ) : Type 0 where
  pub spare : List ℕ
  pub parts : octets ≡ marked 82 76 spare

abbrev pub Spells : List ℕ → Message → Type 0
Spells octets (Invite token ssrc name) = SpellsInvitation 73 78 octets token ssrc name
Spells octets (Accept token ssrc name) = SpellsInvitation 79 75 octets token ssrc name
Spells octets (Reject token ssrc name) = SpellsInvitation 78 79 octets token ssrc name
Spells octets (Bye token ssrc) = SpellsBye octets token ssrc
Spells octets (Clock ssrc count times) = SpellsClock octets ssrc count times
Spells octets (Feedback ssrc seq) = SpellsFeedback octets ssrc seq
Spells octets RateLimit = SpellsRateLimit octets

-- ---- faults

-- how many octets stand behind_octets the letters at least
abbrev pub fixed : Verb → ℕ
fixed verbs.Invite = 12
fixed verbs.Accept = 12
fixed verbs.Reject = 12
fixed verbs.Bye = 12
fixed verbs.Clock = 32
fixed verbs.Feedback = 8
fixed verbs.RateLimit = 0

abbrev pub has_name : Verb → Bool
has_name verbs.Invite = true
has_name verbs.Accept = true
has_name verbs.Reject = true
has_name _ = false

abbrev pub has_version : Verb → Bool
has_version verbs.Bye = true
has_version verb = has_name verb

pub record LacksMark (octets : List ℕ) : Type 0 where
  pub unmarked : (rest : List ℕ) → octets ≢ 255 ∷ 255 ∷ rest

pub record HasUnknownVerb (octets : List ℕ) : Type 0 where
  pub first : ℕ
  pub second : ℕ
  pub rest : List ℕ
  pub parts : octets ≡ marked first second rest
  pub unknown : verb_of first second ≡ None

pub record EndsInVerb (octets : List ℕ) : Type 0 where
  pub rest : List ℕ
  pub parts : octets ≡ 255 ∷ 255 ∷ rest
  pub few : length rest < 2

-- the letters of a message, and the octets behind_octets them
pub record IsOf (octets : List ℕ) (verb : Verb) (rest : List ℕ) : Type 0 where
  pub first : ℕ
  pub second : ℕ
  pub parts : octets ≡ marked first second rest
  pub known : verb_of first second ≡ Some verb

pub record EndsInFields (octets : List ℕ) : Type 0 where
  pub verb : Verb
  pub rest : List ℕ
  pub of : IsOf octets verb rest
  pub few : length rest < fixed verb

pub record HasOtherVersion (octets : List ℕ) : Type 0 where
  pub verb : Verb
  pub rest : List ℕ
  pub of : IsOf octets verb rest
  pub versioned : has_version verb ≡ true
  pub enough : fixed verb ≤ length rest
  pub other : from_be_bytes w32 (take 4 rest) ≢ 2

pub record LacksNameEnd (octets : List ℕ) : Type 0 where
  pub verb : Verb
  pub token : ℕ
  pub ssrc : ℕ
  pub name : List ℕ
  pub of : IsOf octets verb (header token ssrc name)
  pub named : has_name verb ≡ true
  pub token_fits : token < 2 ^ 32
  pub ssrc_fits : ssrc < 2 ^ 32
  pub some : 0 < length name
  pub none_ends : All (λ octet. octet ≢ 0) name

abbrev pub IsFirstFault : List ℕ → MsgFault → Type 0
IsFirstFault octets NotApple = LacksMark octets
IsFirstFault octets UnknownVerb = HasUnknownVerb octets
IsFirstFault octets Short = EndsInVerb octets ⊎ EndsInFields octets
IsFirstFault octets Version = HasOtherVersion octets
IsFirstFault octets NameNotEnded = LacksNameEnd octets

-- ---- laws

-- what was written is read again, whatever follows
abbrev pub MessagesReadBack : Type 0
MessagesReadBack = (m : Message) (spare : List ℕ) → IsMessage m → read (text m ++ spare) ≡ Ok m

-- octets are read as just the message that they spell, and it is one that can be written
abbrev pub ReadsWhatIsSpelled : Type 0
ReadsWhatIsSpelled = (octets : List ℕ) (m : Message) → AreOctets octets → (read octets ≡ Ok m) ↔ (Spells octets m)

-- and the others get the first fault
abbrev pub ReadsFirstFault : Type 0
ReadsFirstFault = (octets : List ℕ) (f : MsgFault) → AreOctets octets → (read octets ≡ Err f) ↔ (IsFirstFault octets f)
