-- The pieces that answers are put together from.
use Rattle.std.specs.Prelude.{ℕ, ◌^◌, ◌-◌, List, [], ◌∷◌, ◌++◌, Option, Some, None, codes, decimal, min}
use Rattle.std.specs.Fmt.{signed_decimal}
use Rattle.hex.specs.Hex.{encode_lower}
use Rattle.jm_wire.specs.Numbers.{be16, be32, be64}
use Rattle.jm_cmds.specs.Command.{spelling}
use Rattle.jm_script.specs.declared.piece.Piece.{Piece}
use Rattle.jm_script.specs.declared.piece.Piece.TheVariants.{Text, Number, Signed, Octet, Short, Word, Long, Hex, Spelled, Seven, Frames}

-- behind a space a number, or `-` where there is none
unfoldable pub seven_text : Option ℕ → List ℕ
seven_text None = codes " -"
seven_text (Some value) = codes " " ++ decimal value

-- eight hexadecimal digits, or `-` where there are none
unfoldable pub frames_text : Option ℕ → List ℕ
frames_text None = codes "-"
frames_text (Some word) = encode_lower (be32 word)

abbrev pub piece_text : Piece → List ℕ
piece_text (Text text) = text.now
piece_text (Number n) = decimal n
piece_text (Signed z) = signed_decimal z
piece_text (Octet n) = encode_lower (n ∷ [])
piece_text (Short n) = encode_lower (be16 n)
piece_text (Word n) = encode_lower (be32 n)
piece_text (Long n) = encode_lower (be64 n)
piece_text (Hex octets) = encode_lower octets.now
piece_text (Spelled command) = encode_lower (spelling command.now)
piece_text (Seven value) = seven_text value
piece_text (Frames word) = frames_text word

-- pieces one behind the other
abbrev pub pieces_text : List Piece → List ℕ
pieces_text [] = []
pieces_text (piece ∷ pieces) = piece_text piece ++ pieces_text pieces

-- a length, as far as 64 bits count it
abbrev pub counted : ℕ → ℕ
counted n = min n (2 ^ 64 - 1)
