-- The line of each answer of a session.
use Rattle.std.specs.Prelude.{ℕ, List}
use Rattle.jm_book.specs.declared.lists.FeedbackEntry.{FeedbackEntry}
use Rattle.jm_book.specs.declared.answers.Entered.{Entered}
use Rattle.jm_book.specs.declared.answers.Entered.TheVariants as entered
use Rattle.jm_book.specs.declared.answers.Played.{Played}
use Rattle.jm_book.specs.declared.answers.Played.TheVariants as played
use Rattle.jm_book.specs.declared.answers.PlayFault.{PlayFault}
use Rattle.jm_book.specs.declared.answers.PlayFault.TheVariants as play
use Rattle.jm_book.specs.declared.answers.Cutted.{Cutted}
use Rattle.jm_book.specs.declared.answers.Cutted.TheVariants as cutted
use Rattle.jm_book.specs.declared.answers.Acked.{Acked}
use Rattle.jm_book.specs.declared.answers.Acked.TheVariants as acked
use Rattle.jm_book.specs.declared.answers.Joined.{Joined}
use Rattle.jm_book.specs.declared.answers.Joined.TheVariants as joined
use Rattle.jm_book.specs.declared.answers.Gone.{Gone}
use Rattle.jm_book.specs.declared.answers.Gone.TheVariants as gone
use Rattle.jm_book.specs.declared.answers.Heard.{Heard}
use Rattle.jm_book.specs.declared.answers.Heard.TheVariants as heard
use Rattle.jm_book.specs.declared.answers.Given.{Given}
use Rattle.jm_book.specs.declared.answers.Given.TheVariants as given
use Rattle.jm_book.specs.declared.answers.Said.{Said}
use Rattle.jm_book.specs.declared.answers.Said.TheVariants as said
use Rattle.jm_script.specs.declared.answer.AnswerLine.{AnswerLine}
use Rattle.jm_script.specs.declared.answer.AnswerLine.TheVariants as line
use Rattle.jm_script.specs.declared.answer.Refusal.{Refusal}
use Rattle.jm_script.specs.declared.answer.Refusal.TheVariants as refusal

abbrev pub entered_line : Entered → AnswerLine
entered_line (entered.Player player) = line.Player player
entered_line (entered.RecordFull events) = line.Refused (refusal.RecordFull events)
entered_line (entered.PlayersFull most) = line.Refused (refusal.PlayersFull most)

abbrev pub play_refusal : PlayFault → Refusal
play_refusal play.UnknownPlayer = refusal.UnknownPlayer
play_refusal (play.RecordFull events) = refusal.RecordFull events
play_refusal (play.ParamsFull channel kept) = refusal.ParamsFull channel kept
play_refusal (play.PolyFull channel kept) = refusal.PolyFull channel kept
play_refusal (play.SysexFull logs octets) = refusal.SysexFull logs octets
play_refusal (play.NeedsCut pending octets delta) = refusal.NeedsCut pending octets delta

abbrev pub played_line : Played → AnswerLine
played_line (played.Accepted serial kept) = line.Accepted serial kept
played_line (played.Refused why command) = line.Refused (play_refusal why)

-- the answer of a cut, whose packet has these octets
abbrev pub cutted_line : Cutted → (packet : List ℕ) → AnswerLine
cutted_line (cutted.Packet number) packet = line.Packet number packet
cutted_line (cutted.RecordFull events) packet = line.Refused (refusal.RecordFull events)
cutted_line (cutted.Behind ssrc mark) packet = line.Refused (refusal.Behind ssrc mark)

abbrev pub acked_line : Acked → AnswerLine
acked_line (acked.Moved mark) = line.Mark mark
acked_line acked.UnknownSsrc = line.Refused refusal.UnknownSsrc
acked_line (acked.RecordFull events) = line.Refused (refusal.RecordFull events)
acked_line (acked.Old mark) = line.Refused (refusal.Old mark)
acked_line (acked.NotSent last) = line.Refused (refusal.NotSent last)

abbrev pub joined_line : Joined → AnswerLine
joined_line (joined.At mark player) = line.Joined mark player
joined_line joined.Already = line.Refused refusal.Already
joined_line (joined.RecordFull events) = line.Refused (refusal.RecordFull events)
joined_line (joined.SessionFull most) = line.Refused (refusal.SessionFull most)

abbrev pub gone_line : Gone → AnswerLine
gone_line gone.Left = line.Left
gone_line gone.UnknownSsrc = line.Refused refusal.UnknownSsrc
gone_line (gone.RecordFull events) = line.Refused (refusal.RecordFull events)

abbrev pub heard_line : Heard → AnswerLine
heard_line heard.Noted = line.Noted
heard_line heard.UnknownSsrc = line.Refused refusal.UnknownSsrc
heard_line (heard.RecordFull events) = line.Refused (refusal.RecordFull events)

-- the answer of `feedback` in the session of this host, which gave these entries
abbrev pub given_line : (ssrc : ℕ) → Given → List FeedbackEntry → AnswerLine
given_line ssrc given.Given entries = line.Feedback ssrc entries
given_line ssrc (given.RecordFull events) entries = line.Refused (refusal.RecordFull events)

abbrev pub said_line : Said → AnswerLine
said_line (said.RecordFull events) = line.Refused (refusal.RecordFull events)
said_line (said.Done reply act) = line.Said reply act
