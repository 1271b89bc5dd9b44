-- The octets of a message: FF FF, two letters and the fields, numbers with the high octet first.
use Rattle.std.specs.Prelude.{◌≡◌, ℕ, ◌<◌, ◌≤◌, ◌^◌, List, [], ◌∷◌, ◌++◌, length, slice_index}
use Rattle.std.proofs.Common.{arith, length-append}
use Rattle.jm_wire.specs.Numbers.{be16, be32, be64}
use Rattle.apple_msg.specs.declared.message.Message.{Message}
use Rattle.apple_msg.specs.declared.message.Message.TheVariants.{Invite, Accept, Reject, Bye, Clock, Feedback, RateLimit}
use Rattle.apple_msg.specs.Name.{IsName}

-- FF FF and two letters before the fields
abbrev pub marked : (first second : ℕ) (fields : List ℕ) → List ℕ
marked first second fields = 255 ∷ 255 ∷ first ∷ second ∷ fields

-- version 2, token and SSRC
abbrev pub header : (token ssrc : ℕ) (rest : List ℕ) → List ℕ
header token ssrc rest = be32 2 ++ (be32 token ++ (be32 ssrc ++ rest))

-- three times
abbrev pub moments : (times : List ℕ) → List ℕ
moments times = be64 (slice_index times 0) ++ (be64 (slice_index times 1) ++ be64 (slice_index times 2))

-- the one text that is written of a message
abbrev pub text : Message → List ℕ
text (Invite token ssrc name) = marked 73 78 (header token ssrc (name ++ 0 ∷ []))
text (Accept token ssrc name) = marked 79 75 (header token ssrc (name ++ 0 ∷ []))
text (Reject token ssrc name) = marked 78 79 (header token ssrc (name ++ 0 ∷ []))
text (Bye token ssrc) = marked 66 89 (header token ssrc [])
text (Clock ssrc count times) = marked 67 75 (be32 ssrc ++ (count ∷ 0 ∷ 0 ∷ 0 ∷ moments times))
text (Feedback ssrc seq) = marked 82 83 (be32 ssrc ++ (be16 seq ++ (0 ∷ 0 ∷ [])))
text RateLimit = marked 82 76 []

-- what a message carries that a type of the program does not say
pub record IsInvitation (token ssrc : ℕ) (name : List ℕ) : Type 0 where
  pub token_fits : token < 2 ^ 32
  pub ssrc_fits : ssrc < 2 ^ 32
  pub is_name : IsName name

pub record IsBye (token ssrc : ℕ) : Type 0 where
  pub token_fits : token < 2 ^ 32
  pub ssrc_fits : ssrc < 2 ^ 32

pub record IsClock (ssrc count : ℕ) (times : List ℕ) : Type 0 where
  pub ssrc_fits : ssrc < 2 ^ 32
  pub count_fits : count < 2 ^ 8
  pub three : length times ≡ 3
  pub times_fit : (k : ℕ) → slice_index times k < 2 ^ 64

pub record IsFeedback (ssrc seq : ℕ) : Type 0 where
  pub ssrc_fits : ssrc < 2 ^ 32
  pub seq_fits : seq < 2 ^ 16

abbrev pub IsMessage : Message → Type 0
IsMessage (Invite token ssrc name) = IsInvitation token ssrc name
IsMessage (Accept token ssrc name) = IsInvitation token ssrc name
IsMessage (Reject token ssrc name) = IsInvitation token ssrc name
IsMessage (Bye token ssrc) = IsBye token ssrc
IsMessage (Clock ssrc count times) = IsClock ssrc count times
IsMessage (Feedback ssrc seq) = IsFeedback ssrc seq
IsMessage RateLimit = Unit {0}

-- the longest text is an invitation with a name of 63 octets
pub length-text : (m : Message) → IsMessage m → length (text m) ≤ 80
length-text (Invite token ssrc name) h = omega (arith, length-append name (0 ∷ []), h.is_name.few)
length-text (Accept token ssrc name) h = omega (arith, length-append name (0 ∷ []), h.is_name.few)
length-text (Reject token ssrc name) h = omega (arith, length-append name (0 ∷ []), h.is_name.few)
length-text (Bye token ssrc) h = omega arith
length-text (Clock ssrc count times) h = omega arith
length-text (Feedback ssrc seq) h = omega arith
length-text RateLimit h = omega arith
