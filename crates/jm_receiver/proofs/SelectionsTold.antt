-- What repair hands on of a journal's logs tells a listener of selections.
use Rattle.std.proofs.Common.{◌≡◌, ℕ, ◌+◌, ◌<◌, ◌≤◌, Bool, ◌||◌, List, Option, map, refl, sym, ap, subst, ◌∙◌}
use Rattle.std.specs.Prelude.{is_some}
use Rattle.std.specs.List.{AllByRecursion}
use Rattle.jm_cmds.specs.declared.history.Sent.{Sent}
use Rattle.jm_cmds.specs.declared.selection.Selection.{Selection}
use Rattle.jm_cmds.specs.History.{below, coded, InOrder}
use Rattle.jm_cmds.specs.HistoryLaws.{InOrder-filter, filter-swap}
use Rattle.jm_cmds.specs.Sent.{packet_of}
use Rattle.ch_control.specs.ControlEvent.{control_ends}
use Rattle.ch_param.specs.ChapterM.{Entered as Coded, entered, session_places}
use Rattle.ch_sysex.specs.ChapterX.{sysex_logs}
use Rattle.jm_state.specs.declared.state.State.{State}
use Rattle.jm_state.specs.Final.{final, speaks}
use Rattle.jm_state.specs.Kept.{IsState}
use Rattle.jm_state.specs.KeptLaws.{no_state_is}
use Rattle.jm_state.specs.Parts.{no_state, selection_of}
use Rattle.jm_state.specs.ReplayLaws.{state_behind}
use Rattle.jm_reader.specs.declared.logs.Log.{Log}
use Rattle.jm_reader.specs.Written.{AreCommands}
use Rattle.jm_reader.specs.WrittenC.{c_said}
use Rattle.jm_reader.specs.WrittenJournal.{journal_logs}
use Rattle.jm_reader.specs.WrittenM.{m_said, entered_said}
use Rattle.jm_receiver.specs.declared.group.Group.{Group}
use Rattle.jm_receiver.specs.declared.group.Group.TheVariants.{Params, Controls}
use Rattle.jm_receiver.specs.Agreement.{Agrees, states_repaired}
use Rattle.jm_receiver.specs.Chapters.{group_logs, group_of_journal}
use Rattle.jm_receiver.specs.FreshAgreement.{states_by_fresh}
use Rattle.jm_receiver.specs.FreshLogs.{fresh_of, m_fresh, group_fresh}
use Rattle.jm_receiver.specs.Group.{is_of}
use Rattle.jm_receiver.specs.HeardLaw.{listening, handed_on_by}
use Rattle.jm_receiver.specs.Listened.{listened, repair_listened}
use Rattle.jm_receiver.specs.Order.{of_group, log_says}
use Rattle.jm_receiver.specs.ParamLaw.{mapped}
use Rattle.jm_receiver.specs.Repair.{repaired}
use Rattle.jm_receiver.specs.SelectionLaw.{half_in, half_says, half_key, key_log_says, chapter_heard}
use Rattle.jm_receiver.specs.SelectionsHeard.{SelectionsAreTold, SelectionsAreHeard}
use Rattle.jm_receiver.specs.Whole.{IsWhole}
use Rattle.jm_receiver.proofs.SelectionCovered.{said_of, IsCovered, entered_covered, session_chosen, none_chosen}
use Rattle.jm_receiver.proofs.SelectionGiven.{AreChosen}
use Rattle.jm_receiver.proofs.SelectionTold.{told, Covered, CoversLog, selection_told}

-- Logs whose controls of the channel are the journal's for this checkpoint, and whose parameters are of its coded ones, and by which the
-- selection is repaired.
module _ (channel : ℕ) (l : channel < 16) (c checkpoint packet : ℕ) (sent : List Sent) (o : InOrder packet_of sent) (logs : List Log) (s : State) (is : IsState s)
    (controls : of_group Controls channel logs ≡ c_said channel c packet sent)
    (params : of_group Params channel logs ≡ map (entered_said channel checkpoint packet (session_places channel (below packet_of packet sent))) (entered channel c (session_places channel (below packet_of packet sent))))
    (right : selection_of (repaired s logs) channel ≡ selection_of (state_behind no_state (below packet_of packet sent)) channel) where
  abbrev seen : List Sent
  seen = below packet_of packet sent

  ordered : InOrder packet_of seen
  ordered = InOrder-filter packet_of _ sent o

  covered : (nrpn high : Bool) → IsCovered channel l c seen ordered nrpn high → Covered channel l logs s is nrpn high
  covered nrpn high h =
      let part = half_in nrpn high in
      let says = half_says nrpn high in
      let key = half_key nrpn high in
      let coded_says = said_of channel l c seen ordered nrpn high (coded (control_ends channel) packet_of c seen) in
      let same : told channel l logs s is part says key ≡ coded_says = ap (final (log_says (key_log_says part says key channel))) controls ∙ chapter_heard part says key channel c packet sent in
      ap (λ (w : Option (Option ℕ)). speaks w || is_some (part (selection_of (repaired s logs) channel))) same
      ∙ ap (λ (r : Option Selection). speaks coded_says || is_some (part r)) right
      ∙ h

  covers : AllByRecursion (λ log. CoversLog channel l logs s is log.what) (of_group Params channel logs)
  covers =
      let places = session_places channel seen in
      subst (λ (list : List Log). AllByRecursion (λ log. CoversLog channel l logs s is log.what) list) (sym params)
      (mapped (λ (e : Coded). (half : Bool) → IsCovered channel l c seen ordered e.param.nrpn half) (λ log. CoversLog channel l logs s is log.what) (entered_said channel checkpoint packet places)
      (λ e h half. covered e.param.nrpn half (h half)) (entered channel c places) (entered_covered channel l c seen ordered))

  chosen : AreChosen (selection_of (repaired s logs) channel)
  chosen = subst AreChosen (sym right) (session_chosen channel l no_state seen no_state_is (none_chosen channel l))

  heard : (time : ℕ) → selection_of (listened s (handed_on_by logs s time)) channel ≡ selection_of (repaired s logs) channel
  heard time =
      subst (λ (t : State). selection_of t channel ≡ selection_of (repaired s logs) channel) (repair_listened s logs (repaired s logs) (listening s time) refl)
      (selection_told channel l logs s is covers chosen time)

all_heard : (checkpoint next packet tick time : ℕ) (sent : List Sent) (s : State) → AreCommands sent → InOrder packet_of sent → sysex_logs checkpoint (below packet_of packet sent) ≤ 128 → checkpoint ≤ next → next ≤ packet → IsWhole s → Agrees s (below packet_of next sent) →
    SelectionsAreTold (journal_logs checkpoint packet tick sent) s time
unfolding m_said
all_heard checkpoint next packet tick time sent s h o few early late is agrees channel l =
    heard channel l checkpoint checkpoint packet sent o (journal_logs checkpoint packet tick sent) s is.state
    (group_of_journal Controls channel checkpoint packet tick sent l) (group_of_journal Params channel checkpoint packet tick sent l)
    ((states_repaired checkpoint next packet tick sent s h o few early late is agrees).selection channel l refl) time

fresh_heard : (checkpoint last tick time : ℕ) (sent : List Sent) (s : State) → AreCommands sent → InOrder packet_of sent → sysex_logs checkpoint (below packet_of (last + 1) sent) ≤ 128 → checkpoint ≤ last → IsWhole s → Agrees s (below packet_of last sent) →
    SelectionsAreTold (fresh_of (journal_logs checkpoint (last + 1) tick sent)) s time
fresh_heard checkpoint last tick time sent s h o few early is agrees channel l =
    let swapped : (group : Group) → of_group group channel (fresh_of (journal_logs checkpoint (last + 1) tick sent)) ≡ fresh_of (group_logs group channel checkpoint (last + 1) tick sent) = λ group.
    filter-swap (λ (log : Log). is_of group channel log.what) (λ log. log.fresh) (journal_logs checkpoint (last + 1) tick sent) ∙ ap fresh_of (group_of_journal group channel checkpoint (last + 1) tick sent l) in
    heard channel l last checkpoint (last + 1) sent o (fresh_of (journal_logs checkpoint (last + 1) tick sent)) s is.state
    (swapped Controls ∙ group_fresh checkpoint last sent early Controls channel tick refl) (swapped Params ∙ m_fresh checkpoint last sent early channel)
    ((states_by_fresh checkpoint last tick sent s h o few early is agrees).selection channel l refl) time

pub selections_heard : SelectionsAreHeard
selections_heard = record { by_all = all_heard; by_fresh = fresh_heard }
