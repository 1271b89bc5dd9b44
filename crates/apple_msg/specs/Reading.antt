-- Reading a message from the front, with the first fault.
use Rattle.std.specs.Prelude.{◌≡◌, ℕ, Bool, ◌&&◌, List, [], ◌∷◌, length, take, drop, Option, Some, None, Result, Ok, Err, nat_lt, ◌==◌, if◌then◌else◌, position}
use Rattle.std.specs.Int.{Width, w16, w32, w64, byte_len, from_be_bytes}
use Rattle.jm_wire.specs.Readers.{◌>>=◌}
use Rattle.apple_msg.specs.declared.message.MsgFault.{MsgFault}
use Rattle.apple_msg.specs.declared.message.MsgFault.TheVariants.{NotApple, UnknownVerb, Short, Version, NameNotEnded}
use Rattle.apple_msg.specs.declared.message.Message.{Message}
use Rattle.apple_msg.specs.declared.message.Message.TheVariants.{Invite, Accept, Reject, Bye, Clock, Feedback, RateLimit}
use Rattle.apple_msg.specs.declared.message.Verb.{Verb}
use Rattle.apple_msg.specs.declared.message.Verb.TheVariants as verbs
use Rattle.apple_msg.specs.declared.message.Invitation.{Invitation}

-- What a function returned, seen by view, is what reading gives.
abbrev pub Gives : {X Y : Type 0} → (X → Y) → Result X MsgFault → Result Y MsgFault → Type 0
Gives view (Ok x) read = read ≡ Ok (view x)
Gives view (Err e) read = read ≡ Err e

-- ---- fields: a value and the octets behind_octets it

abbrev pub number_at : Width → List ℕ → Result (ℕ × List ℕ) MsgFault
number_at w octets = if nat_lt (length octets) (byte_len w) then Err Short else Ok (from_be_bytes w (take (byte_len w) octets), drop (byte_len w) octets)

abbrev pub octet_at : List ℕ → Result (ℕ × List ℕ) MsgFault
octet_at [] = Err Short
octet_at (octet ∷ rest) = Ok (octet, rest)

abbrev pub behind_octets : (count : ℕ) (octets : List ℕ) → Result (List ℕ) MsgFault
behind_octets count octets = if nat_lt (length octets) count then Err Short else Ok (drop count octets)

-- ---- what begins every message

-- FF FF
abbrev pub behind_mark : List ℕ → Result (List ℕ) MsgFault
behind_mark (first ∷ second ∷ rest) = if (first == 255) && (second == 255) then Ok rest else Err NotApple
behind_mark (first ∷ []) = Err NotApple
behind_mark [] = Err NotApple

abbrev pub verb_of : (first second : ℕ) → Option Verb
verb_of first second =
    if (first == 73) && (second == 78) then Some verbs.Invite
    else (if (first == 79) && (second == 75) then Some verbs.Accept
    else (if (first == 78) && (second == 79) then Some verbs.Reject
    else (if (first == 66) && (second == 89) then Some verbs.Bye
    else (if (first == 67) && (second == 75) then Some verbs.Clock
    else (if (first == 82) && (second == 83) then Some verbs.Feedback
    else (if (first == 82) && (second == 76) then Some verbs.RateLimit
    else None))))))

abbrev pub known : Option Verb → List ℕ → Result (Verb × List ℕ) MsgFault
known (Some verb) rest = Ok (verb, rest)
known None rest = Err UnknownVerb

abbrev pub verb_at : List ℕ → Result (Verb × List ℕ) MsgFault
verb_at (first ∷ second ∷ rest) = known (verb_of first second) rest
verb_at (first ∷ []) = Err Short
verb_at [] = Err Short

-- ---- the messages

-- version, token and SSRC, of 32 bits each; all are there before the version is looked at
unfoldable pub header_at : List ℕ → Result (ℕ × ℕ × List ℕ) MsgFault
header_at octets = do
  version ← number_at w32 octets
  token ← number_at w32 version.1
  ssrc ← number_at w32 token.1
  if version.0 == 2 then Ok (token.0, ssrc.0, ssrc.1) else Err Version

abbrev pub is_end : ℕ → Bool
is_end octet = octet == 0

-- the octets of a name that ends at this place, of which 63 are kept
abbrev pub ended : (end : Option ℕ) (octets : List ℕ) → Result (List ℕ) MsgFault
ended (Some end) octets = Ok (take 63 (take end octets))
ended None octets = Err NameNotEnded

-- nothing at all is an empty name; else the name ends before the first 0
unfoldable pub name_at : List ℕ → Result (List ℕ) MsgFault
name_at octets = if length octets == 0 then Ok [] else ended (position is_end octets) octets

unfoldable pub invitation_at : List ℕ → Result Invitation MsgFault
invitation_at octets = do
  header ← header_at octets
  name ← name_at header.2
  Ok (record { token = header.0; ssrc = header.1; name = name })

unfoldable pub bye_at : List ℕ → Result Message MsgFault
bye_at octets = do
  header ← header_at octets
  Ok (Bye header.0 header.1)

-- SSRC, count, 24 bits that are not looked at, three times
unfoldable pub clock_at : List ℕ → Result Message MsgFault
clock_at octets = do
  ssrc ← number_at w32 octets
  count ← octet_at ssrc.1
  rest ← behind_octets 3 count.1
  first ← number_at w64 rest
  second ← number_at w64 first.1
  third ← number_at w64 second.1
  Ok (Clock ssrc.0 count.0 (first.0 ∷ second.0 ∷ third.0 ∷ []))

-- SSRC, number, two octets that are not looked at
unfoldable pub feedback_at : List ℕ → Result Message MsgFault
feedback_at octets = do
  ssrc ← number_at w32 octets
  seq ← number_at w16 ssrc.1
  rest ← behind_octets 2 seq.1
  Ok (Feedback ssrc.0 seq.0)

abbrev pub read_as : Verb → List ℕ → Result Message MsgFault
read_as verbs.Invite octets = invitation_at octets >>= λ i. Ok (Invite i.token i.ssrc i.name)
read_as verbs.Accept octets = invitation_at octets >>= λ i. Ok (Accept i.token i.ssrc i.name)
read_as verbs.Reject octets = invitation_at octets >>= λ i. Ok (Reject i.token i.ssrc i.name)
read_as verbs.Bye octets = bye_at octets
read_as verbs.Clock octets = clock_at octets
read_as verbs.Feedback octets = feedback_at octets
read_as verbs.RateLimit octets = Ok RateLimit

unfoldable pub read : List ℕ → Result Message MsgFault
read octets = do
  rest ← behind_mark octets
  verb ← verb_at rest
  read_as verb.0 verb.1
