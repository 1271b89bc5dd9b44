-- The octets of invitations and of their answers in hexadecimal digits.
use Rattle.std.proofs.Common.{◌≡◌, ℕ, List, [], ◌∷◌, ◌++◌, refl}
use Rattle.std.specs.Prelude.{codes}
use Rattle.hex.specs.Hex.{encode_with, encode_lower}
use Rattle.jm_wire.specs.Numbers.{be32}
use Rattle.apple_msg.specs.declared.message.Message.TheVariants.{Invite, Accept, Reject}
use Rattle.apple_msg.specs.Spelling.{text}
use Rattle.jm_script.proofs.HexLemmas.{encode-append}

pub invite_digits : (token ssrc : ℕ) (name : List ℕ) → encode_lower (text (Invite token ssrc name)) ≡ codes "ffff494e00000002" ++ (encode_lower (be32 token) ++ (encode_lower (be32 ssrc) ++ (encode_lower name ++ codes "00")))
unfolding encode_with
invite_digits token ssrc name = rw (encode-append name (0 ∷ [])) refl

pub accept_digits : (token ssrc : ℕ) (name : List ℕ) → encode_lower (text (Accept token ssrc name)) ≡ codes "ffff4f4b00000002" ++ (encode_lower (be32 token) ++ (encode_lower (be32 ssrc) ++ (encode_lower name ++ codes "00")))
unfolding encode_with
accept_digits token ssrc name = rw (encode-append name (0 ∷ [])) refl

pub reject_digits : (token ssrc : ℕ) (name : List ℕ) → encode_lower (text (Reject token ssrc name)) ≡ codes "ffff4e4f00000002" ++ (encode_lower (be32 token) ++ (encode_lower (be32 ssrc) ++ (encode_lower name ++ codes "00")))
unfolding encode_with
reject_digits token ssrc name = rw (encode-append name (0 ∷ [])) refl
