-- The session with a lost note meets the premises on honest participants.
use Rattle.std.proofs.Common.{◌≡◌, ℕ, true, List, [], ◌∷◌, ◌++◌, Some, refl, sym, ap, subst, arith}
use Rattle.std.specs.Prelude.{Result, Ok}
use Rattle.jm_cmds.specs.declared.commands.Command.TheVariants.{NoteOn}
use Rattle.jm_cmds.specs.Command.{IsCommand}
use Rattle.jm_state.specs.Parts.{no_state, no_channels, note_of}
use Rattle.jm_state.specs.Table.{no_values}
use Rattle.jm_journal.specs.Limits.{fit_of}
use Rattle.jm_section.specs.Section.{command_text, item_text, what_text}
use Rattle.jm_receiver.specs.declared.opening.AcceptFault.{AcceptFault}
use Rattle.jm_receiver.specs.declared.receiver.Took.{Took}
use Rattle.jm_receiver.specs.Accept.{accepted}
use Rattle.jm_receiver.specs.Agreement.{Agrees}
use Rattle.jm_receiver.specs.Receiver.{Received}
use Rattle.jm_receiver.specs.Whole.{new_whole}
use Rattle.jm_book.specs.declared.answers.Acked.{Acked}
use Rattle.jm_book.specs.declared.answers.Acked.TheVariants.{Moved, Old, NotSent, UnknownSsrc, RecordFull}
use Rattle.jm_book.specs.declared.steps.Step.TheVariants.{Enter, Cut, Ack, Join}
use Rattle.jm_book.specs.Participants.{free_from}
use Rattle.jm_book.specs.Session.{session_of, checkpoint_of}
use Rattle.jm_book.specs.Packet.{packet_of as octets_of_cut}
use Rattle.jm_session.specs.InStep.{ComesInStep}
use Rattle.jm_session.specs.Honest.{Situation, Event, goes, with_answer, is_one_of, IsHonestStep, IsLater, JoinsInStep, situation_of, HonestParticipantsStayInStep}
use Rattle.jm_session.specs.SomeSession.{host, listener, joined, struck, before_last, SomeSessionIsHonest}

is_struck : IsCommand (NoteOn 0 60 100)
is_struck = (omega arith, omega arith, omega arith)

pub nothing_agrees : Agrees no_state []
nothing_agrees = record {
  song = λ n. refl;
  sequencer = λ n. refl;
  time_code = λ n. refl;
  sysex_count = λ n. refl;
  program = λ channel l n. refl;
  control = λ channel number l k n. refl;
  toggles = λ channel l n. refl;
  selection = λ channel l n. refl;
  param = λ channel nrpn high low l n. refl;
  wheel = λ channel l n. refl;
  note = λ channel note l k n. refl;
  pressure = λ channel l n. refl;
  poly = λ channel note l k n. refl;
}

joins_in_step : JoinsInStep host 2 (Enter ∷ []) (Join 2) listener
unfolding free_from
joins_in_step = record {
  legal = (refl, (refl, tt));
  commands = (tt, (tt, tt));
  absent = refl;
  joined = refl;
  in_step = record { ssrc = refl; whole = new_whole 1; unfinished = tt; agrees = nothing_agrees };
  last = omega arith;
}

-- behind the steps until the first packet arrives
abbrev first_events : List Event
first_events = goes struck ∷ goes (Cut 10) ∷ goes (Cut 20) ∷ []

abbrev until : Situation
until = situation_of host joined first_events

plays : IsHonestStep host 2 joined struck
unfolding free_from fit_of command_text item_text what_text
plays = record { legal = refl; command = is_struck; stays = refl; reports = tt }

cuts : IsHonestStep host 2 (situation_of host joined (goes struck ∷ [])) (Cut 10)
unfolding free_from
cuts = record { legal = refl; command = tt; stays = refl; reports = tt }

cuts_again : IsHonestStep host 2 (situation_of host joined (goes struck ∷ goes (Cut 10) ∷ [])) (Cut 20)
unfolding free_from
cuts_again = record { legal = refl; command = tt; stays = refl; reports = tt }

is_later : IsLater host until before_last 20
is_later = record { behind = []; cut = refl; later = omega arith }

-- the mark of a report
mark_in : Acked → ℕ
mark_in (Moved mark) = mark
mark_in (Old mark) = mark
mark_in (NotSent sent) = 0
mark_in UnknownSsrc = 0
mark_in (RecordFull events) = 0

module _ (law : HonestParticipantsStayInStep) where
  -- the packet is taken, and the receiver is in step behind it
  again : ComesInStep host before_last 20 listener
  again = ((law host 2 (Enter ∷ []) (Join 2) listener first_events (omega arith) (omega arith) joins_in_step (plays, (cuts, (cuts_again, tt)))).next before_last 20 is_later).again

  told_one : again.took.number ≡ 1
  told_one = again.told

  reports : IsHonestStep host 2 (with_answer until (Ok (again.after, again.took))) (Ack 2 1)
  unfolding free_from mark_in
  reports = record {
    legal = refl;
    command = tt;
    stays = refl;
    reports = λ mark own moved.
        let is : 1 ≡ mark = ap mark_in moved in
        subst (λ (n : ℕ). is_one_of n (again.took.number ∷ []) ≡ true) is (subst (λ (n : ℕ). is_one_of 1 (n ∷ []) ≡ true) (sym told_one) refl);
  }

  abbrev Answer : Type 0
  Answer = Result (Received × Took) AcceptFault

  -- what holds behind the answer that was given holds in the end
  by_answer : (P : Situation → Type 0) → P (with_answer until (Ok (again.after, again.took))) → P (with_answer until (accepted listener (octets_of_cut (session_of host before_last) 20)))
  by_answer P = subst (λ (answer : Answer). P (with_answer until answer)) (sym again.taken)

  note_sounds : note_of again.after.state 0 60 ≡ Some 100
  unfolding no_channels no_values
  note_sounds = again.all_sent.note 0 60 (omega arith) (omega arith) refl

  pub some_session : SomeSessionIsHonest
  unfolding free_from
  some_session = record {
    joins = joins_in_step;
    honest = (plays, (cuts, (cuts_again, (is_later, (by_answer (λ s. IsHonestStep host 2 s (Ack 2 1)) reports, tt)))));
    taken = by_answer (λ s. s.taken ≡ 1 ∷ []) (ap (λ (n : ℕ). n ∷ []) told_one);
    sounds = by_answer (λ s. note_of s.receiver.state 0 60 ≡ Some 100) note_sounds;
    reported = by_answer (λ s. checkpoint_of (session_of host (s.steps ++ Ack 2 1 ∷ [])) ≡ 1) refl;
  }
