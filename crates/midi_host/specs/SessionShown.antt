-- What `state` answers behind packets of one session: the text of the session's state.
use Rattle.std.specs.Prelude.{◌≡◌, ℕ, ◌<◌, ◌≤◌, true, false, List, [], ◌∷◌, ◌++◌, Option, Some, None, Result, Ok, IfSome, map, ⊤}
use Rattle.jm_cmds.specs.declared.history.Sent.{Sent}
use Rattle.jm_cmds.specs.History.{below}
use Rattle.jm_cmds.specs.Sent.{packet_of}
use Rattle.jm_state.specs.Parts.{no_state}
use Rattle.jm_state.specs.ReplayLaws.{state_behind}
use Rattle.jm_receiver.specs.Agreement.{is_crowded}
use Rattle.jm_receiver.specs.InStep.{first_lacking, CanTell}
use Rattle.jm_receiver.specs.StaysInStep.{IsPacket, IsSession}
use Rattle.jm_script.specs.declared.answer.AnswerLine.TheVariants as answer
use Rattle.jm_script.specs.declared.line.Line.{Line}
use Rattle.jm_script.specs.declared.line.Line.TheVariants.{RepairPacket, ShowState}
use Rattle.jm_script.specs.declared.line.LineFault.{LineFault}
use Rattle.jm_script.specs.declared.line.LineKind.TheVariants as kinds
use Rattle.jm_script.specs.AnswerText.{answer_text}
use Rattle.jm_script.specs.Line.{line_of}
use Rattle.midi_host.specs.declared.conversation.TheConstants.{MOST_OCTETS}
use Rattle.midi_host.specs.declared.run.VerbWord.TheVariants.{Repair}
use Rattle.midi_host.specs.declared.status.Status.{Status}
use Rattle.midi_host.specs.declared.status.Status.TheVariants.{Done, BadScript}
use Rattle.midi_host.specs.Repair.{repair_lined}
use Rattle.midi_host.specs.Run.{verb_of}
use Rattle.midi_host.specs.StateLines.{state_lines}
use Rattle.midi_host.specs.Text.{lines_of}
use Rattle.midi_host.specs.Told.{Told, told_by}
use Rattle.midi_host.specs.Wrote.{Wrote}

-- ## The packets that lines bring

-- what a line of `repair` is
abbrev pub line_read : List ℕ → Result Line LineFault
line_read line = line_of kinds.Repair 1 false line

abbrev pub packet_in : Result Line LineFault → List (List ℕ)
packet_in (Ok (RepairPacket octets)) = octets ∷ []
packet_in _ = []

-- the octets of the packets that these lines bring, in order
abbrev pub packets_in : List (List ℕ) → List (List ℕ)
packets_in [] = []
packets_in (line ∷ lines) = packet_in (line_read line) ++ packets_in lines

-- a packet of a session: its octets, its number, and its journal's checkpoint, 0 where it has no journal
pub record Brought : Type 0 where
  pub octets : List ℕ
  pub number : ℕ
  pub checkpoint : ℕ

abbrev pub octets_of : List Brought → List (List ℕ)
octets_of brought = map (λ one. one.octets) brought

-- The packet is one of the session of this stream that sent these commands. It is 1 to 32,767 ahead of the last one that was taken (as the
-- first one, below 65,536), and its checkpoint isn't later than the first packet that is lacking then: for the first one it is 0.
pub record IsNext (ssrc : ℕ) (sent : List Sent) (last : Option ℕ) (one : Brought) : Type 0 where
  pub packet : IsPacket ssrc one.octets one.checkpoint one.number sent
  pub session : IsSession one.checkpoint one.number sent
  pub early : one.checkpoint ≤ first_lacking last
  pub near : CanTell last one.number

-- So is each of them behind the one before it, whatever was lost between.
abbrev pub AreNext : (ssrc : ℕ) (sent : List Sent) (last : Option ℕ) → List Brought → Type 0
AreNext ssrc sent last [] = ⊤
AreNext ssrc sent last (one ∷ others) = IsNext ssrc sent last one × AreNext ssrc sent (Some one.number) others

-- the number of the last one
abbrev pub last_of : (last : Option ℕ) → List Brought → Option ℕ
last_of last [] = last
last_of last (one ∷ others) = last_of (Some one.number) others

-- ## The session's state

-- the commands of all packets up to this one
abbrev pub sent_by : (last : Option ℕ) → List Sent → List Sent
sent_by last sent = below packet_of (first_lacking last) sent

-- The text of the state that they leave.
abbrev pub session_text : (last : Option ℕ) → List Sent → List ℕ
session_text last sent = state_lines (state_behind no_state (sent_by last sent)) ++ answer_text answer.End

-- No channel is crowded: in none were more than 16 different parameters entered since the last Reset State command.
abbrev pub IsOpen : List Sent → Type 0
IsOpen sent = (channel : ℕ) → channel < 16 → is_crowded channel sent ≡ false

-- ## What was written

-- what lines of `repair` are told
abbrev pub repair_told : List (List ℕ) → Told
repair_told lines = told_by MOST_OCTETS repair_lined 0 None lines

-- Of these lines one is `state`, and those before it bring these packets of one session, each the next one to be taken. No channel is
-- crowded behind them.
pub record BringSession (lines front : List (List ℕ)) (line : List ℕ) (behind : List (List ℕ)) (ssrc : ℕ) (sent : List Sent) (brought : List Brought) : Type 0 where
  pub apart : lines ≡ front ++ line ∷ behind
  pub is_state : line_read line ≡ Ok ShowState
  pub packets : packets_in front ≡ octets_of brought
  pub next : AreNext ssrc sent None brought
  pub opens : IsOpen (sent_by (last_of None brought) sent)

-- What was written has this answer right behind those of the lines before.
pub record WroteAnswer (wrote wrote' : Option (List ℕ)) (before this : List ℕ) : Type 0 where
  pub later : List ℕ
  pub written : Wrote wrote wrote' (before ++ (this ++ later))

abbrev pub ShowsAll : (IsAnswered : List (List ℕ) → Type 0) → (left wrote wrote' : Option (List ℕ)) → Type 0
ShowsAll IsAnswered left wrote wrote' =
    IfSome left (λ input. (front : List (List ℕ)) (line : List ℕ) (behind : List (List ℕ)) (ssrc : ℕ) (sent : List Sent) (brought : List Brought) →
    BringSession (lines_of input) front line behind ssrc sent brought → IsAnswered (front ++ line ∷ []) → WroteAnswer wrote wrote' (repair_told front).text (session_text (last_of None brought) sent))

-- Where `repair` comes to the end of its input, each answer to `state` behind packets of one session is the text of the session's state
-- after the last of them, whichever packets were lost before it. So is each before the first line that is outside the grammar. (Not: a
-- `state` that tells what was before the last packet; a part of the state that its line leaves out.)
unfoldable pub ShowsSessions : Status → (words : List (List ℕ)) → (left wrote wrote' : Option (List ℕ)) → Type 0
ShowsSessions Done words left wrote wrote' = verb_of words ≡ Some Repair → ShowsAll (λ lines. ⊤) left wrote wrote'
ShowsSessions BadScript words left wrote wrote' = verb_of words ≡ Some Repair → ShowsAll (λ lines. (repair_told lines).good ≡ true) left wrote wrote'
ShowsSessions status words left wrote wrote' = ⊤
