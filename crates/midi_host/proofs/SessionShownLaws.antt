-- Each answer to `state` behind packets of one session is the text of the session's state.
use Rattle.std.proofs.Common.{◌≡◌, ℕ, ◌+◌, ◌≤◌, Bool, true, false, List, [], ◌∷◌, ◌++◌, Option, Some, None, length, refl, sym, ap, subst, ◌∙◌, inl, inr, arith, append_assoc}
use Rattle.std.specs.Prelude.{Result, Ok, Err, ◌==◌, nat_le, nat_lt, if◌then◌else◌}
use Rattle.std.proofs.lemmas.Bool.{cases_Bool, eqb-true, le-ltb}
use Rattle.jm_wire.specs.Readers.{◌>>=◌}
use Rattle.jm_cmds.specs.declared.history.Sent.{Sent}
use Rattle.jm_cmds.specs.declared.outcome.ReadError.TheVariants as errors
use Rattle.jm_cmds.specs.History.{below}
use Rattle.jm_cmds.specs.Sent.{packet_of}
use Rattle.jm_packet.specs.declared.reading.PacketFault.{PacketFault}
use Rattle.jm_packet.specs.Reading.{source_read}
use Rattle.jm_state.specs.Parts.{no_state}
use Rattle.jm_state.specs.ReplayLaws.{state_behind}
use Rattle.jm_receiver.specs.declared.opening.AcceptFault.{AcceptFault}
use Rattle.jm_receiver.specs.declared.opening.AcceptFault.TheVariants.{OtherSsrc}
use Rattle.jm_receiver.specs.declared.receiver.Took.{Took}
use Rattle.jm_receiver.specs.Accept.{Contents, of_packet, contents_read, opened, accepted}
use Rattle.jm_receiver.specs.Agreement.{Agrees}
use Rattle.jm_receiver.specs.InStep.{first_lacking, CanTell}
use Rattle.jm_receiver.specs.Receiver.{Received}
use Rattle.jm_receiver.specs.StaysInStep.{IsPacket, IsSession, IsInStep, IsStep, StaysInStep}
use Rattle.jm_receiver.specs.Whole.{new_whole}
use Rattle.jm_receiver.proofs.StepLaws.{stays_in_step}
use Rattle.jm_script.specs.declared.answer.AnswerLine.TheVariants as answer
use Rattle.jm_script.specs.declared.line.Line.{Line}
use Rattle.jm_script.specs.declared.line.Line.TheVariants as line
use Rattle.jm_script.specs.declared.line.Line.TheVariants.{ShowState}
use Rattle.jm_script.specs.declared.line.LineFault.{LineFault}
use Rattle.jm_script.specs.AnswerText.{answer_text}
use Rattle.midi_host.specs.declared.conversation.TheConstants.{MOST_LINES, MOST_OCTETS}
use Rattle.midi_host.specs.Repair.{took_lines, taken_by, made_for, packet_to, shown, repaired_line, repair_lined}
use Rattle.midi_host.specs.StateLines.{state_lines}
use Rattle.midi_host.specs.Told.{Told, Lined, taken, refused, lined_by, after, after_line, within_limits, told_by}
use Rattle.midi_host.specs.ToldBy.{told_by_nothing, told_by_more}
use Rattle.midi_host.specs.declared.run.VerbWord.TheVariants.{Repair}
use Rattle.midi_host.specs.declared.status.Status.{Status}
use Rattle.midi_host.specs.declared.status.Status.TheVariants.{Done, Usage, BadScript, ReadFault, WriteFault, NoMemory, PortFault, RecordFull}
use Rattle.midi_host.specs.Ends.{Ends}
use Rattle.midi_host.specs.Run.{verb_of, repair_answer}
use Rattle.midi_host.specs.Text.{lines_of}
use Rattle.midi_host.specs.Wrote.{Wrote}
use Rattle.midi_host.specs.SessionShown.{line_read, packet_in, packets_in, Brought, octets_of, IsNext, AreNext, last_of, sent_by, session_text, IsOpen, repair_told, BringSession, WroteAnswer, ShowsSessions}
use Rattle.midi_host.proofs.StateTextLaws.{state_same, no_state_lines}

-- ## A packet

source_in : (ssrc : ℕ) (octets : List ℕ) (c : Contents) (source : Result ℕ PacketFault) → (of_packet source >>= (λ source. if source == ssrc then contents_read octets else Err OtherSsrc)) ≡ Ok c → source ≡ Ok ssrc
source_in ssrc octets c (Ok source) e =
    elim (cases_Bool (source == ssrc)) [
      | inl t ↦ ap (λ (n : ℕ). Ok n) (eqb-true source ssrc t)
      | inr f ↦ absurd (let no : ◌≡◌ {A = Result Contents AcceptFault} (Err OtherSsrc) (Ok c) = rw f at e in cc)
    ]
source_in ssrc octets c (Err fault) e = absurd cc

-- a packet that opens has the stream's source
source_opened : (ssrc : ℕ) (octets : List ℕ) (c : Contents) → opened ssrc octets ≡ Ok c → source_read octets ≡ Ok ssrc
unfolding opened
source_opened ssrc octets c e = source_in ssrc octets c (source_read octets) e

none_before : (sent : List Sent) → below packet_of 0 sent ≡ []
none_before [] = refl
none_before (one ∷ sent) = rw (le-ltb (packet_of one) 0 (omega arith)) (none_before sent)

nothing_agrees : Agrees no_state []
nothing_agrees = record {
  song = λ n. refl;
  sequencer = λ n. refl;
  time_code = λ n. refl;
  sysex_count = λ n. refl;
  program = λ channel l n. refl;
  control = λ channel number l k n. refl;
  toggles = λ channel l n. refl;
  selection = λ channel l n. refl;
  param = λ channel nrpn high low l n. refl;
  wheel = λ channel l n. refl;
  note = λ channel note l k n. refl;
  pressure = λ channel l n. refl;
  poly = λ channel note l k n. refl;
}

abbrev begun : (ssrc : ℕ) → Received
begun ssrc = record { ssrc = ssrc; last = None; state = no_state; unfinished = None }

-- the packet is taken, and the receiver is in step behind it
record Takes (r : Received) (octets : List ℕ) (packet : ℕ) (sent : List Sent) : Type 0 where
  next : Received
  took : Took
  is_taken : accepted r octets ≡ Ok (next, took)
  step : IsStep r packet sent took next

takes : (r : Received) (octets : List ℕ) (checkpoint packet : ℕ) (sent : List Sent) → IsPacket r.ssrc octets checkpoint packet sent → IsSession checkpoint packet sent → checkpoint ≤ first_lacking r.last → CanTell r.last packet → IsInStep r sent → Takes r octets packet sent
unfolding StaysInStep
takes r octets checkpoint packet sent is session early near in_step = by_answer (accepted r octets) refl
  where
    by_answer : (meant : Result (Received × Took) AcceptFault) → accepted r octets ≡ meant → Takes r octets packet sent
    by_answer (Ok (next, took)) e = record { next = next; took = took; is_taken = e; step = stays_in_step r octets (Ok took) next e checkpoint packet sent is session early near in_step }
    by_answer (Err fault) e = absurd (stays_in_step r octets (Err (errors.Fault fault)) r e checkpoint packet sent is session early near in_step)

-- ## The lines

module _ (ssrc : ℕ) (sent : List Sent) where
  -- the receiver is in step, and this is the last packet that it took
  record IsBehind (number : ℕ) (r : Received) : Type 0 where
    source : r.ssrc ≡ ssrc
    last : r.last ≡ Some number
    in_step : IsInStep r sent

  -- none is made before the first packet
  abbrev Behind : (last : Option ℕ) → Option Received → Type 0
  Behind None None = Unit {0}
  Behind None (Some r) = ⊥
  Behind (Some number) None = ⊥
  Behind (Some number) (Some r) = IsBehind number r

  -- a packet leaves a receiver behind it
  record GoesOn (lined : Lined (Option Received)) (number : ℕ) : Type 0 where
    text : List ℕ
    receiver : Received
    lined_is : lined ≡ taken text (Some receiver)
    behind : IsBehind number receiver

  goes_on : (r : Received) (one : Brought) (lined : Lined (Option Received)) → r.ssrc ≡ ssrc → lined ≡ taken_by r (accepted r one.octets) → Takes r one.octets one.number sent → GoesOn lined one.number
  goes_on r one lined source is t = record {
    text = took_lines t.took;
    receiver = t.next;
    lined_is = is ∙ ap (taken_by r) t.is_taken;
    behind = record { source = t.step.ssrc ∙ source; last = t.step.number; in_step = t.step.in_step };
  }

  packet_told : (last : Option ℕ) (receiver : Option Received) (one : Brought) → Behind last receiver → IsNext ssrc sent last one → GoesOn (packet_to receiver one.octets) one.number
  packet_told None None one behind is =
      let source = source_opened ssrc one.octets is.packet.read is.packet.opens in
      goes_on (begun ssrc) one (packet_to None one.octets) refl (ap (λ (read : Result ℕ PacketFault). made_for read one.octets) source)
      (takes (begun ssrc) one.octets one.checkpoint one.number sent is.packet is.session is.early is.near
      (record { received = new_whole ssrc; unfinished = tt; agrees = subst (λ (list : List Sent). Agrees no_state list) (sym (none_before sent)) nothing_agrees }))
  packet_told None (Some r) one behind is = absurd behind
  packet_told (Some number) None one behind is = absurd behind
  packet_told (Some number) (Some r) one behind is =
      goes_on r one (packet_to (Some r) one.octets) behind.source refl
      (takes r one.octets one.checkpoint one.number sent (subst (λ (n : ℕ). IsPacket n one.octets one.checkpoint one.number sent) (sym behind.source) is.packet) is.session
      (subst (λ (last : Option ℕ). one.checkpoint ≤ first_lacking last) (sym behind.last) is.early) (subst (λ (last : Option ℕ). CanTell last one.number) (sym behind.last) is.near) behind.in_step)

  -- what `state` prints is the session's
  shown_told : (last : Option ℕ) (receiver : Option Received) → Behind last receiver → IsOpen (sent_by last sent) → shown receiver ≡ session_text last sent
  shown_told None None behind opens =
      ap (λ (text : List ℕ). text ++ answer_text answer.End) (sym no_state_lines)
      ∙ ap (λ (list : List Sent). state_lines (state_behind no_state list) ++ answer_text answer.End) (sym (none_before sent))
  shown_told None (Some r) behind opens = absurd behind
  shown_told (Some number) None behind opens = absurd behind
  shown_told (Some number) (Some r) behind opens =
      let agrees : Agrees r.state (sent_by (Some number) sent) = subst (λ (last : Option ℕ). Agrees r.state (below packet_of (first_lacking last) sent)) behind.last behind.in_step.agrees in
      ap (λ (text : List ℕ). text ++ answer_text answer.End) (state_same (sent_by (Some number) sent) r.state agrees opens)

  -- ## A line

  abbrev was_taken : Lined (Option Received) → Bool
  was_taken (taken text next) = true
  was_taken (refused cause) = false

  -- a line leaves this, and these packets are still to come
  record Leaves (lined : Lined (Option Received)) (later : List (List ℕ)) (last : Option ℕ) (brought : List Brought) : Type 0 where
    text : List ℕ
    next : Option Received
    lined_is : lined ≡ taken text next
    newest : Option ℕ
    others : List Brought
    behind : Behind newest next
    packets : later ≡ octets_of others
    are_next : AreNext ssrc sent newest others
    end : last_of newest others ≡ last_of last brought

  module _ (receiver : Option Received) (later : List (List ℕ)) (last : Option ℕ) (behind : Behind last receiver) where
    passes : (lined : Lined (Option Received)) (text : List ℕ) (brought : List Brought) → lined ≡ taken text receiver → later ≡ octets_of brought → AreNext ssrc sent last brought → Leaves lined later last brought
    passes lined text brought is packets are = record { text = text; next = receiver; lined_is = is; newest = last; others = brought; behind = behind; packets = packets; are_next = are; end = refl }

    brings : (octets : List ℕ) (brought : List Brought) → octets ∷ later ≡ octets_of brought → AreNext ssrc sent last brought → Leaves (packet_to receiver octets) later last brought
    brings octets [] packets are = absurd cc
    brings octets (one ∷ others) packets are =
        let first : octets ≡ one.octets = cong_head packets in
        let on = packet_told last receiver one behind are.0 in
        record {
          text = on.text;
          next = Some on.receiver;
          lined_is = ap (packet_to receiver) first ∙ on.lined_is;
          newest = Some one.number;
          others = others;
          behind = on.behind;
          packets = cong_tail packets;
          are_next = are.1;
          end = refl;
        }
      where
        head_or : List (List ℕ) → List ℕ
        head_or [] = []
        head_or (x ∷ xs) = x

        tail_or : List (List ℕ) → List (List ℕ)
        tail_or [] = []
        tail_or (x ∷ xs) = xs

        cong_head : octets ∷ later ≡ octets_of (one ∷ others) → octets ≡ one.octets
        cong_head e = ap head_or e

        cong_tail : octets ∷ later ≡ octets_of (one ∷ others) → later ≡ octets_of others
        cong_tail e = ap tail_or e

    line_leaves : (read : Result Line LineFault) (brought : List Brought) → was_taken (lined_by (repaired_line receiver) read) ≡ true → packet_in read ++ later ≡ octets_of brought → AreNext ssrc sent last brought
        → Leaves (lined_by (repaired_line receiver) read) later last brought
    line_leaves (Ok line.Blank) brought good packets are = passes (taken [] receiver) [] brought refl packets are
    line_leaves (Ok (line.RepairPacket octets)) brought good packets are = brings octets brought packets are
    line_leaves (Ok line.ShowState) brought good packets are = passes (taken (shown receiver) receiver) (shown receiver) brought refl packets are
    line_leaves (Ok line.Script) brought good packets are = absurd cc
    line_leaves (Ok (line.Session source events)) brought good packets are = absurd cc
    line_leaves (Ok line.Enter) brought good packets are = absurd cc
    line_leaves (Ok (line.EnterAs name)) brought good packets are = absurd cc
    line_leaves (Ok (line.Play player tick command)) brought good packets are = absurd cc
    line_leaves (Ok (line.PlayAs name tick command)) brought good packets are = absurd cc
    line_leaves (Ok (line.Cut tick)) brought good packets are = absurd cc
    line_leaves (Ok (line.Ack source seq)) brought good packets are = absurd cc
    line_leaves (Ok (line.Join source)) brought good packets are = absurd cc
    line_leaves (Ok (line.Leave source)) brought good packets are = absurd cc
    line_leaves (Ok (line.Hear source seq)) brought good packets are = absurd cc
    line_leaves (Ok line.Feedback) brought good packets are = absurd cc
    line_leaves (Ok (line.Message port from now octets)) brought good packets are = absurd cc
    line_leaves (Ok (line.ReadCommand octets)) brought good packets are = absurd cc
    line_leaves (Ok (line.ReadSection octets)) brought good packets are = absurd cc
    line_leaves (Ok (line.ReadPacket octets)) brought good packets are = absurd cc
    line_leaves (Ok (line.ReadMessage octets)) brought good packets are = absurd cc
    line_leaves (Err fault) brought good packets are = absurd cc

  -- ## All lines

  abbrev told : (before : ℕ) → Option Received → List (List ℕ) → Told
  told before receiver lines = told_by MOST_OCTETS repair_lined before receiver lines

  -- a line with which the text is still good is within the limits, and taken
  record IsGood (before : ℕ) (line : List ℕ) (lined : Lined (Option Received)) (later : Option Received → Told) : Type 0 where
    few : nat_le MOST_LINES before ≡ false
    short : nat_lt MOST_OCTETS (length line) ≡ false
    good : was_taken lined ≡ true

  good_line : (before : ℕ) (line : List ℕ) (lined : Lined (Option Received)) (later : Option Received → Told) → (after_line before (within_limits MOST_OCTETS before line lined) later).good ≡ true → IsGood before line lined later
  good_line before line lined later good =
      elim (cases_Bool (nat_le MOST_LINES before)) [
        | inl t ↦ absurd (let no : false ≡ true = rw t at good in cc)
        | inr f ↦ elim (cases_Bool (nat_lt MOST_OCTETS (length line))) [
          | inl t ↦ absurd (let no : false ≡ true = rw (f, t) at good in cc)
          | inr g ↦ record { few = f; short = g; good = by_lined lined (rw (f, g) at good) }
        ]
      ]
    where
      by_lined : (lined : Lined (Option Received)) → (after_line before lined later).good ≡ true → was_taken lined ≡ true
      by_lined (taken text next) good = refl
      by_lined (refused cause) good = absurd cc

  -- so it is told by itself, whatever lines come behind it
  line_told : (before : ℕ) (receiver : Option Received) (line : List ℕ) (lines : List (List ℕ)) (text : List ℕ) (next : Option Received) → nat_le MOST_LINES before ≡ false → nat_lt MOST_OCTETS (length line) ≡ false →
      repair_lined receiver line ≡ taken text next → told before receiver (line ∷ lines) ≡ after text (told (before + 1) next lines)
  line_told before receiver line lines text next few short is = rw (told_by_more MOST_OCTETS repair_lined before receiver line lines, few, short, is) refl

  -- a text that has this answer right behind those before it
  record Answers (text before this : List ℕ) : Type 0 where
    later : List ℕ
    parts : text ≡ before ++ (this ++ later)

  more : (text before this whole : List ℕ) → Answers whole before this → Answers (text ++ whole) (text ++ before) this
  more text before this whole a = record { later = a.later; parts = ap (λ (l : List ℕ). text ++ l) a.parts ∙ sym (append_assoc text before (this ++ a.later)) }

  walk : (front : List (List ℕ)) (before : ℕ) (receiver : Option Received) (last : Option ℕ) (brought : List Brought) (line : List ℕ) (behind : List (List ℕ)) → Behind last receiver →
      packets_in front ≡ octets_of brought → AreNext ssrc sent last brought → line_read line ≡ Ok ShowState → IsOpen (sent_by (last_of last brought) sent) → (told before receiver (front ++ line ∷ [])).good ≡ true →
      Answers (told before receiver (front ++ line ∷ behind)).text (told before receiver front).text (session_text (last_of last brought) sent)
  walk [] before receiver last [] line behind is packets are state opens good =
      let whole = told_by_more MOST_OCTETS repair_lined before receiver line [] in
      let fine = good_line before line (repair_lined receiver line) (λ next. told (before + 1) next []) (rw whole at good) in
      let this : repair_lined receiver line ≡ taken (shown receiver) receiver = ap (lined_by (repaired_line receiver)) state in
      record {
        later = (told (before + 1) receiver behind).text;
        parts =
            ap (λ (t : Told). t.text) (line_told before receiver line behind (shown receiver) receiver fine.few fine.short this)
            ∙ ap (λ (text : List ℕ). text ++ (told (before + 1) receiver behind).text) (shown_told last receiver is opens)
            ∙ ap (λ (t : Told). t.text ++ (session_text last sent ++ (told (before + 1) receiver behind).text)) (sym (told_by_nothing MOST_OCTETS repair_lined before receiver));
      }
  walk [] before receiver last (one ∷ others) line behind is packets are state opens good = absurd cc
  walk (first ∷ front) before receiver last brought line behind is packets are state opens good =
      let whole = told_by_more MOST_OCTETS repair_lined before receiver first (front ++ line ∷ []) in
      let fine = good_line before first (repair_lined receiver first) (λ next. told (before + 1) next (front ++ line ∷ [])) (rw whole at good) in
      let left = line_leaves receiver (packets_in front) last is (line_read first) brought fine.good packets are in
      let one : (lines : List (List ℕ)) → told before receiver (first ∷ lines) ≡ after left.text (told (before + 1) left.next lines) =
      λ lines. line_told before receiver first lines left.text left.next fine.few fine.short left.lined_is in
      let rest = walk front (before + 1) left.next left.newest left.others line behind left.behind left.packets left.are_next state
      (subst (λ (end : Option ℕ). IsOpen (sent_by end sent)) (sym left.end) opens) (rw (← ap (λ (t : Told). t.good) (one (front ++ line ∷ []))) good) in
      rw (one (front ++ line ∷ behind), one front, ← left.end)
      (more left.text (told (before + 1) left.next front).text (session_text (last_of left.newest left.others) sent) (told (before + 1) left.next (front ++ line ∷ behind)).text rest)

-- ## What was written

good_later : (before : ℕ) (lined : Lined (Option Received)) (later other : Option Received → Told) → ((next : Option Received) → (later next).good ≡ true → (other next).good ≡ true) → (after_line before lined later).good ≡ true → (after_line before lined other).good ≡ true
good_later before (taken text next) later other on good = on next good
good_later before (refused cause) later other on good = absurd cc

-- a text without a bad line has none at its front
good_front : (front behind : List (List ℕ)) (before : ℕ) (receiver : Option Received) → (told_by MOST_OCTETS repair_lined before receiver (front ++ behind)).good ≡ true → (told_by MOST_OCTETS repair_lined before receiver front).good ≡ true
good_front [] behind before receiver good = ap (λ (t : Told). t.good) (told_by_nothing MOST_OCTETS repair_lined before receiver)
good_front (line ∷ front) behind before receiver good =
    ap (λ (t : Told). t.good) (told_by_more MOST_OCTETS repair_lined before receiver line front)
    ∙ good_later before (within_limits MOST_OCTETS before line (repair_lined receiver line)) (λ next. told_by MOST_OCTETS repair_lined (before + 1) next (front ++ behind)) (λ next. told_by MOST_OCTETS repair_lined (before + 1) next front)
    (λ next good. good_front front behind (before + 1) next good)
    (rw (told_by_more MOST_OCTETS repair_lined before receiver line (front ++ behind)) at good)

module _ (input : List ℕ) (wrote wrote' : Option (List ℕ)) (front : List (List ℕ)) (line : List ℕ) (behind : List (List ℕ)) (ssrc : ℕ) (sent : List Sent) (brought : List Brought) (brings : BringSession (lines_of input) front line behind ssrc sent brought) where
  answered : (repair_told (front ++ line ∷ [])).good ≡ true → Wrote wrote wrote' (repair_answer input).text → WroteAnswer wrote wrote' (repair_told front).text (session_text (last_of None brought) sent)
  answered good written =
      let a = walk ssrc sent front 0 None None brought line behind tt brings.packets brings.next brings.is_state brings.opens good in
      record { later = a.later; written = subst (Wrote wrote wrote') (ap (λ (lines : List (List ℕ)). (repair_told lines).text) brings.apart ∙ a.parts) written }

  front_good : (repair_answer input).good ≡ true → (repair_told (front ++ line ∷ [])).good ≡ true
  front_good good =
      good_front (front ++ line ∷ []) behind 0 None
      (ap (λ (lines : List (List ℕ)). (repair_told lines).good) (append_assoc front (line ∷ []) behind ∙ sym brings.apart) ∙ good)

-- Where the verb is `repair`, what was written shows sessions.
pub shows_sessions : (status : Status) (words : List (List ℕ)) (left left' wrote wrote' : Option (List ℕ)) → Ends status repair_answer left left' wrote wrote' → ShowsSessions status words left wrote wrote'
unfolding ShowsSessions
shows_sessions Done words None left' wrote wrote' e = λ verb. tt
shows_sessions Done words (Some input) left' wrote wrote' e =
    λ verb front line behind ssrc sent brought brings answered_all. answered input wrote wrote' front line behind ssrc sent brought brings (front_good input wrote wrote' front line behind ssrc sent brought brings e.1) e.2
shows_sessions BadScript words None left' wrote wrote' e = λ verb. tt
shows_sessions BadScript words (Some input) left' wrote wrote' e =
    λ verb front line behind ssrc sent brought brings good. answered input wrote wrote' front line behind ssrc sent brought brings good e.1
shows_sessions Usage words left left' wrote wrote' e = tt
shows_sessions ReadFault words left left' wrote wrote' e = tt
shows_sessions WriteFault words left left' wrote wrote' e = tt
shows_sessions NoMemory words left left' wrote wrote' e = tt
shows_sessions PortFault words left left' wrote wrote' e = tt
shows_sessions RecordFull words left left' wrote wrote' e = tt

-- Of other words nothing is said.
pub shows_none : (status : Status) (words : List (List ℕ)) (left wrote wrote' : Option (List ℕ)) → (verb_of words ≡ Some Repair → ⊥) → ShowsSessions status words left wrote wrote'
unfolding ShowsSessions
shows_none Done words left wrote wrote' other = λ verb. absurd (other verb)
shows_none BadScript words left wrote wrote' other = λ verb. absurd (other verb)
shows_none Usage words left wrote wrote' other = tt
shows_none ReadFault words left wrote wrote' other = tt
shows_none WriteFault words left wrote wrote' other = tt
shows_none NoMemory words left wrote wrote' other = tt
shows_none PortFault words left wrote wrote' other = tt
shows_none RecordFull words left wrote wrote' other = tt
