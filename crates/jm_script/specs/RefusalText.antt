-- What is printed of refusals and of what a message came to.
use Rattle.std.specs.Prelude.{ℕ, List, ◌++◌, Option, Some, None, codes, decimal}
use Rattle.std.specs.Fmt.{signed_decimal}
use Rattle.hex.specs.Hex.{encode_lower}
use Rattle.jm_wire.specs.Numbers.{be32}
use Rattle.apple_session.specs.declared.answer.Why.{Why}
use Rattle.apple_session.specs.declared.answer.Why.TheVariants as why
use Rattle.jm_book.specs.declared.answers.Acted.{Acted}
use Rattle.jm_book.specs.declared.answers.Acted.TheVariants as acted
use Rattle.jm_script.specs.declared.answer.Refusal.{Refusal}
use Rattle.jm_script.specs.declared.answer.Refusal.TheVariants.{UnknownPlayer, RecordFull, PlayersFull, ParamsFull, PolyFull, SysexFull, NeedsCut, Behind, UnknownSsrc, Old, NotSent, Already, SessionFull}

-- the number was no later than the mark
abbrev pub old_text : (mark : ℕ) → List ℕ
old_text mark = codes "refused old " ++ decimal mark ++ codes "\n"

-- the number was past the last packet sent, if there is one
unfoldable pub not_sent_text : Option ℕ → List ℕ
not_sent_text None = codes "refused not-sent none\n"
not_sent_text (Some last) = codes "refused not-sent " ++ decimal last ++ codes "\n"

unfoldable pub refusal_text : Refusal → List ℕ
refusal_text UnknownPlayer = codes "refused unknown-player\n"
refusal_text (RecordFull events) = codes "refused record-full " ++ decimal events ++ codes "\n"
refusal_text (PlayersFull most) = codes "refused players-full " ++ decimal most ++ codes "\n"
refusal_text (ParamsFull channel kept) = codes "refused params-full " ++ decimal channel ++ codes " " ++ decimal kept ++ codes "\n"
refusal_text (PolyFull channel kept) = codes "refused poly-full " ++ decimal channel ++ codes " " ++ decimal kept ++ codes "\n"
refusal_text (SysexFull logs octets) = codes "refused sysex-full " ++ decimal logs ++ codes " " ++ decimal octets ++ codes "\n"
refusal_text (NeedsCut pending octets delta) = codes "refused needs-cut " ++ decimal pending ++ codes " " ++ decimal octets ++ codes " " ++ decimal delta ++ codes "\n"
refusal_text (Behind ssrc mark) = codes "refused behind " ++ encode_lower (be32 ssrc) ++ codes " " ++ decimal mark ++ codes "\n"
refusal_text UnknownSsrc = codes "refused unknown-ssrc\n"
refusal_text (Old mark) = old_text mark
refusal_text (NotSent last) = not_sent_text last
refusal_text Already = codes "refused already\n"
refusal_text (SessionFull most) = codes "refused session-full " ++ decimal most ++ codes "\n"

-- why a message was ignored
unfoldable pub why_text : Why → List ℕ
why_text why.Unknown = codes "ignored unknown\n"
why_text why.NotJoined = codes "ignored not-joined\n"
why_text why.WrongPort = codes "ignored wrong-port\n"
why_text why.NotUsed = codes "ignored not-used\n"

-- what a message came to
unfoldable pub act_text : Acted → List ℕ
act_text acted.Plain = codes "none\n"
act_text (acted.Joined mark player) = codes "joined " ++ decimal mark ++ codes " " ++ decimal player ++ codes "\n"
act_text acted.Left = codes "left\n"
act_text (acted.Moved mark) = codes "mark " ++ decimal mark ++ codes "\n"
act_text (acted.Clocked offset) = codes "clock " ++ signed_decimal offset ++ codes "\n"
act_text (acted.Ignored why) = why_text why
act_text (acted.Old mark) = old_text mark
act_text (acted.NotSent last) = not_sent_text last
