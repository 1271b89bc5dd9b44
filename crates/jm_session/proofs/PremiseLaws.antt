-- Sessions meet the premises of repair.
use Rattle.std.proofs.Common.{◌≡◌, ℕ, ◌+◌, ◌≤◌, ltb, List, [], ◌∷◌, ◌++◌, length, refl, sym, ap, subst, ◌∙◌, arith, append-nil, append_assoc}
use Rattle.std.specs.List.{AllByRecursion}
use Rattle.std.proofs.lemmas.Bool.{le-ltb}
use Rattle.std.proofs.lemmas.List.Elements.{filter-append}
use Rattle.jm_cmds.specs.declared.history.Sent.{Sent}
use Rattle.jm_cmds.specs.History.{below}
use Rattle.jm_cmds.specs.HistoryLaws.{AllByRecursion-weaker}
use Rattle.jm_cmds.specs.Sent.{packet_of}
use Rattle.jm_journal.specs.Limits.{KeepsLimits}
use Rattle.jm_state.specs.declared.state.State.{State}
use Rattle.jm_state.specs.Parts.{no_state, song_of, sequencer_of, time_code_of, program_of, control_of, wheel_of, note_of, pressure_of, poly_of}
use Rattle.jm_state.specs.ReplayLaws.{state_behind}
use Rattle.jm_reader.specs.WrittenJournal.{journal_logs}
use Rattle.jm_receiver.specs.Repair.{repaired}
use Rattle.jm_receiver.specs.Repairs.{Repairs}
use Rattle.jm_receiver.specs.Agreement.{Agrees, StatesAreRepaired}
use Rattle.jm_receiver.specs.FreshLogs.{fresh_of}
use Rattle.jm_receiver.specs.FreshAgreement.{FreshLogsRepairStates}
use Rattle.jm_receiver.specs.KnownLaw.{RepairsCommands}
use Rattle.jm_receiver.specs.Laws.{ProgramsAreRepaired, ControlsAreRepaired, WheelsAreRepaired, NotesAreRepaired, PressuresAreRepaired, SongIsRepaired, SequencerIsRepaired, TimeCodeIsRepaired}
use Rattle.jm_book.specs.Stream.{Stream, Packet, stream_of, as_sent, sent_from, sent_of, pending_of}
use Rattle.jm_book.specs.Session.{session_of, checkpoint_of, session_stream}
use Rattle.jm_book.specs.LimitLaws.{legal_limits, sent_below}
use Rattle.jm_book.specs.MarkLaws.{checkpoint_at_most}
use Rattle.jm_book.specs.OrderLaws.{sent_from_in_order, sent_from_above}
use Rattle.jm_book.specs.StreamConduct.{Begins}
use Rattle.jm_book.specs.StreamLaws.{keeps_packets}
use Rattle.jm_book.specs.Commands.{AreCommands}
use Rattle.jm_book.specs.CommandLaws.{keeps_commands, first_commands}
use Rattle.jm_session.specs.Packets.{number_of, tick_of_cut, logs_of_cut}
use Rattle.jm_session.specs.Premises.{sent_in, SessionsMeetPremises, SentStays, RepairsInSessions, RepairsStatesInSessions, FreshLogsRepairInSessions, SessionsAreRepaired}

pub premises_met : SessionsMeetPremises
premises_met config steps legal brings =
    let session = session_of config steps in
    let all = first_commands (sent_of (stream_of steps)) (pending_of (stream_of steps)) (keeps_commands steps brings) in
    record {
      in_order = sent_from_in_order 0 session.stream.packets;
      commands = subst (λ (s : Stream). AreCommands (sent_of s)) (sym (session_stream config steps)) all;
      limits = rw (sent_below session.stream) (legal_limits config steps legal).sent;
      before = sent_below session.stream;
      reaches = checkpoint_at_most (length session.stream.packets) session.members.joined;
    }

-- ---- what was sent stays

pub sent_from-append : (number : ℕ) (packets more : List Packet) → sent_from number (packets ++ more) ≡ sent_from number packets ++ sent_from (number + length packets) more
sent_from-append number [] more = let same : number + 0 ≡ number = omega arith in rw same refl
sent_from-append number (one ∷ packets) more =
    let same : number + 1 + length packets ≡ number + length (one ∷ packets) = omega arith in
    rw (sent_from-append (number + 1) packets more, same)
    (sym (append_assoc (as_sent number one.entries) (sent_from (number + 1) packets) (sent_from (number + length (one ∷ packets)) more)))

-- none of these is before `next`
none_below : (next : ℕ) (sent : List Sent) → AllByRecursion (λ one. next ≤ packet_of one) sent → below packet_of next sent ≡ []
none_below next [] h = refl
none_below next (one ∷ sent) h = rw (le-ltb (packet_of one) next h.0) (none_below next sent h.1)

pub sent_stays : SentStays
sent_stays steps more next l =
    let old = (stream_of steps).packets in
    let on : Begins old (stream_of (steps ++ more)).packets = keeps_packets steps more in
    let first = 0 + length old in
    let later = sent_from first on.later in
    let above = AllByRecursion-weaker (λ one. first ≤ packet_of one) (λ one. next ≤ packet_of one) (λ one m. omega arith) later (sent_from_above first on.later) in
    ap (λ (packets : List Packet). below packet_of next (sent_from 0 packets)) on.parts
    ∙ ap (below packet_of next) (sent_from-append 0 old on.later)
    ∙ filter-append (λ one. ltb (packet_of one) next) (sent_from 0 old) later
    ∙ ap (λ (rest : List Sent). below packet_of next (sent_from 0 old) ++ rest) (none_below next later above)
    ∙ append-nil (below packet_of next (sent_from 0 old))

-- ---- the laws of repair

module _ {V : Type 0} (part : State → V) where
  pub in_sessions : RepairsCommands part → RepairsInSessions part
  in_sessions law config steps next tick legal brings early late =
      let session = session_of config steps in
      let premises = premises_met config steps legal brings in
      law (checkpoint_of session) next (number_of session) (tick_of_cut session tick) (sent_in session) premises.commands premises.in_order early late
      ∙ ap (λ (sent : List Sent). part (state_behind no_state sent)) premises.before

  pub also_in_sessions : Repairs part → RepairsInSessions part
  also_in_sessions law = in_sessions (λ checkpoint next packet tick sent commands. law checkpoint next packet tick sent)

pub states_in_sessions : StatesAreRepaired → RepairsStatesInSessions
states_in_sessions law config steps next tick s legal brings early late is agrees =
    let session = session_of config steps in
    let premises = premises_met config steps legal brings in
    subst (Agrees (repaired s (logs_of_cut session tick))) premises.before
    (law (checkpoint_of session) next (number_of session) (tick_of_cut session tick) (sent_in session) s premises.commands premises.in_order premises.limits.logs early late is agrees)

pub fresh_in_sessions : FreshLogsRepairStates → FreshLogsRepairInSessions
fresh_in_sessions law config steps last tick s legal brings early next is agrees =
    let session = session_of config steps in
    let sent = sent_in session in
    let checkpoint = checkpoint_of session in
    let premises = premises_met config steps legal brings in
    let limits : KeepsLimits checkpoint (below packet_of (last + 1) sent) = subst (λ n. KeepsLimits checkpoint (below packet_of n sent)) next premises.limits in
    let repairs : Agrees (repaired s (fresh_of (journal_logs checkpoint (last + 1) (tick_of_cut session tick) sent))) (below packet_of (last + 1) sent) =
    law checkpoint last (tick_of_cut session tick) sent s premises.commands premises.in_order limits.logs early is agrees in
    subst (Agrees (repaired s (fresh_of (logs_of_cut session tick)))) premises.before
    (subst (λ n. Agrees (repaired s (fresh_of (journal_logs checkpoint n (tick_of_cut session tick) sent))) (below packet_of n sent)) (sym next) repairs)

pub sessions_repaired : ProgramsAreRepaired → ControlsAreRepaired → WheelsAreRepaired → NotesAreRepaired → PressuresAreRepaired → SongIsRepaired → SequencerIsRepaired → TimeCodeIsRepaired →
    StatesAreRepaired → FreshLogsRepairStates → SessionsAreRepaired
sessions_repaired programs controls wheels notes pressures song sequencer time_code states fresh = record {
  programs = λ channel l. also_in_sessions (λ s. program_of s channel) (programs channel l);
  controls = λ channel control l m. also_in_sessions (λ s. control_of s channel control) (controls channel control l m);
  wheels = λ channel l. also_in_sessions (λ s. wheel_of s channel) (wheels channel l);
  notes = λ channel note l m. also_in_sessions (λ s. note_of s channel note) (notes channel note l m);
  pressures = λ channel l. also_in_sessions (λ s. pressure_of s channel) (pressures.channel channel l);
  key_pressures = λ channel note l m. also_in_sessions (λ s. poly_of s channel note) (pressures.key channel note l m);
  song = also_in_sessions song_of song;
  sequencer = in_sessions sequencer_of sequencer;
  time_code = in_sessions time_code_of time_code;
  states = states_in_sessions states;
  states_by_fresh = fresh_in_sessions fresh;
}
