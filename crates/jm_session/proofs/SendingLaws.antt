-- The packets of a session are those of which a receiver's clause speaks.
use Rattle.std.proofs.Common.{◌≡◌, ℕ, ◌≤◌, eqb, List, [], ◌∷◌, ◌++◌, refl, sym, ap, subst, ◌∙◌, inl, inr, arith}
use Rattle.std.proofs.lemmas.Bool.{cases_Bool, eqb-true}
use Rattle.std.proofs.lemmas.Bool.Decides.{nat_tests}
use Rattle.std.proofs.lemmas.List.{append_cancel_left}
use Rattle.jm_cmds.specs.declared.history.Sent.{Sent}
use Rattle.jm_cmds.specs.History.{below, InOrder}
use Rattle.jm_cmds.specs.Sent.{packet_of}
use Rattle.ch_sysex.specs.ChapterX.{sysex_logs}
use Rattle.jm_reader.specs.WrittenJournal.{journal_logs}
use Rattle.jm_receiver.specs.InStep.{HoldsCommands}
use Rattle.jm_receiver.specs.StaysInStep.{commands_of, IsPacket, IsSession}
use Rattle.jm_receiver.proofs.StepLaws.{with_own}
use Rattle.jm_book.specs.declared.steps.Config.{Config}
use Rattle.jm_book.specs.declared.steps.Step.{Step}
use Rattle.jm_book.specs.declared.steps.Step.TheVariants.{Cut}
use Rattle.jm_book.specs.Stream.{next_of}
use Rattle.jm_book.specs.Session.{session_of, checkpoint_of}
use Rattle.jm_book.specs.LegalLaws.{taken_apart}
use Rattle.jm_book.specs.Legal.{IsLegal}
use Rattle.jm_book.specs.Commands.{HaveCommands}
use Rattle.jm_book.specs.Packet.{packet_of as octets_of_cut}
use Rattle.jm_session.specs.Packets.{number_of, tick_of_cut, items_of_cut, IsRead, PacketsAreRead}
use Rattle.jm_session.specs.Premises.{sent_in}
use Rattle.jm_session.proofs.PremiseLaws.{premises_met}
use Rattle.jm_session.proofs.InStepLaws.{held, sent_by_cut, sent_by_then}
use Rattle.jm_session.proofs.HonestLaws.{same_sent, first_have}
use Rattle.jm_session.proofs.SameLogs.{same_logs}
use Rattle.jm_session.specs.Sending.{SessionsSendPackets}

module _ (config : Config) (before behind : List Step) (tick : ℕ) (legal : IsLegal config (before ++ Cut tick ∷ behind)) (brings : HaveCommands (before ++ Cut tick ∷ behind)) where
  abbrev all : List Sent
  all = sent_in (session_of config (before ++ Cut tick ∷ behind))

  abbrev number : ℕ
  number = number_of (session_of config before)

  abbrev checkpoint : ℕ
  checkpoint = checkpoint_of (session_of config before)

  legal_before : IsLegal config before
  legal_before = (taken_apart config [] before (Cut tick ∷ behind) legal).0

  brings_before : HaveCommands before
  brings_before = first_have before (Cut tick ∷ behind) brings

  -- those before the packet are what was sent by then
  by_then : below packet_of number all ≡ sent_in (session_of config before)
  by_then = same_sent config before (Cut tick ∷ behind) number (omega arith) ∙ (premises_met config before legal_before brings_before).before

  ordered : InOrder packet_of all
  ordered = (premises_met config (before ++ Cut tick ∷ behind) legal brings).in_order

  own : commands_of number all ≡ next_of (session_of config before).stream tick
  own =
      append_cancel_left (sent_in (session_of config before)) (commands_of number all) (next_of (session_of config before).stream tick)
      (ap (λ (front : List Sent). front ++ commands_of number all) (sym by_then)
      ∙ with_own number all ordered
      ∙ sent_by_then config before behind tick
      ∙ sent_by_cut config before tick)

  commands : HoldsCommands (commands_of number all) (items_of_cut (session_of config before) tick)
  commands = subst (λ (list : List Sent). HoldsCommands list (items_of_cut (session_of config before) tick)) (sym own) (held config before tick legal_before brings_before)

  logs : journal_logs checkpoint number (tick_of_cut (session_of config before) tick) (sent_in (session_of config before)) ≡ journal_logs checkpoint number (tick_of_cut (session_of config before) tick) all
  logs = same_logs checkpoint number (tick_of_cut (session_of config before) tick) (sent_in (session_of config before)) all
      (sym (same_sent config before (Cut tick ∷ behind) number (omega arith)))

  is_packet : IsRead config.ssrc (session_of config before) tick → IsPacket config.ssrc (octets_of_cut (session_of config before) tick) checkpoint number all
  is_packet reads =
      elim (cases_Bool (eqb number 0)) [
        | inl t ↦
            let none : number ≡ 0 = eqb-true number 0 t in
            record {
              tick = tick_of_cut (session_of config before) tick;
              read = _;
              opens = reads.first none;
              says = record { number = omega (arith, none); first = λ n. refl; later = λ some. absurd (omega (arith, none, some)); commands = commands };
            }
        | inr f ↦
            let some : 1 ≤ number = grind (arith, nat_tests, f) in
            record {
              tick = tick_of_cut (session_of config before) tick;
              read = _;
              opens = reads.later some;
              says = record { number = refl; first = λ none. absurd (omega (arith, none, some)); later = λ n. logs; commands = commands };
            }
      ]

  is_session : IsSession checkpoint number all
  is_session = record {
    commands = (premises_met config (before ++ Cut tick ∷ behind) legal brings).commands;
    ordered = ordered;
    few = subst (λ (list : List Sent). sysex_logs checkpoint list ≤ 128) (sym (same_sent config before (Cut tick ∷ behind) number (omega arith))) (premises_met config before legal_before brings_before).limits.logs;
  }

pub sessions_send_packets : PacketsAreRead → SessionsSendPackets
sessions_send_packets read config before behind tick small legal brings = record {
  packet = is_packet config before behind tick legal brings (read config before tick small (legal_before config before behind tick legal brings) (brings_before config before behind tick legal brings));
  session = is_session config before behind tick legal brings;
}
