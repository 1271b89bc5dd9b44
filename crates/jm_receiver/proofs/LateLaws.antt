-- Late joiners have what was told since the checkpoint of their first packet.
use Rattle.std.proofs.Common.{◌≡◌, ℕ, ◌+◌, ◌-◌, ◌*◌, ◌/◌, ◌%◌, ◌^◌, ◌<◌, ◌≤◌, false, eqb, ltb, List, [], None, refl, sym, ap, subst, ◌∙◌, inl, inr, arith}
use Rattle.std.specs.Prelude.{Ok}
use Rattle.std.proofs.lemmas.Bool.{cases_Bool, eqb-true, le-ltb}
use Rattle.std.proofs.lemmas.Bool.Decides.{nat_tests}
use Rattle.jm_cmds.specs.declared.history.Sent.{Sent}
use Rattle.jm_cmds.specs.History.{below, InOrder}
use Rattle.jm_cmds.specs.HistoryLaws.{filter_none}
use Rattle.jm_cmds.specs.Sent.{packet_of}
use Rattle.jm_state.specs.declared.state.State.{State}
use Rattle.jm_state.specs.Kept.{IsState}
use Rattle.jm_state.specs.Parts.{no_state}
use Rattle.jm_state.specs.ReplayLaws.{state_behind}
use Rattle.jm_reader.specs.WrittenJournal.{journal_logs}
use Rattle.jm_receiver.specs.declared.heard.Hearing.{Hearing}
use Rattle.jm_receiver.specs.declared.place.Placed.{Placed}
use Rattle.jm_receiver.specs.declared.place.Uses.TheVariants.{All}
use Rattle.jm_receiver.specs.Receiver.{Received}
use Rattle.jm_receiver.specs.Repair.{repaired}
use Rattle.jm_receiver.specs.Accept.{placed, used_after, repaired_using, heard_in, took_at, accepted}
use Rattle.jm_receiver.specs.FreshLogs.{fresh_of}
use Rattle.jm_receiver.specs.InStep.{IsLongBegun}
use Rattle.jm_receiver.specs.Late.{HasValues, IsLate, IsTakenLate, LateJoinersHaveValues}
use Rattle.jm_receiver.specs.Order.{all_of}
use Rattle.jm_receiver.specs.SectionLaws.{none_repaired, ahead_placed}
use Rattle.jm_receiver.specs.StaysInStep.{commands_of, IsPacket}
use Rattle.jm_receiver.specs.Whole.{IsReceived, accepted_whole, used_whole}
use Rattle.jm_receiver.proofs.InStepLaws.{begins, heard_state, heard_long}
use Rattle.jm_receiver.proofs.LateValues.{values_also, values_first, values_repaired, values_fresh}
use Rattle.jm_receiver.proofs.StepLaws.{with_own}

-- the logs that are used behind so many lost packets
used_values : (from checkpoint next gap tick : ℕ) (sent : List Sent) (h : Hearing) → InOrder packet_of sent → checkpoint ≤ next → IsState h.state → HasValues from h.state (below packet_of next sent) →
    HasValues from (repaired_using (used_after gap) (journal_logs checkpoint (next + gap) tick sent) h).state (below packet_of (next + gap) sent)
used_values from checkpoint next gap tick sent h o early is has =
    elim (cases_Bool (eqb gap 0)) [
      | inl t ↦
          let same : next ≡ next + gap = (let none = eqb-true gap 0 t in omega (arith, none)) in
          rw t (subst (λ n. HasValues from h.state (below packet_of n sent)) same has)
      | inr f ↦ elim (cases_Bool (eqb gap 1)) [
        | inl u ↦
            let one : gap ≡ 1 = eqb-true gap 1 u in
            rw (f, u)
            (subst (λ n. HasValues from (repaired h.state (fresh_of (journal_logs checkpoint (next + n) tick sent))) (below packet_of (next + n) sent)) (sym one)
            (values_fresh from checkpoint next tick h.state sent is o early has))
        | inr g ↦ rw (f, g) (values_repaired from checkpoint next (next + gap) tick h.state sent is o early (omega arith) has)
      ]
    ]

module _ (from : ℕ) (r : Received) (octets : List ℕ) (checkpoint packet : ℕ) (sent : List Sent) (stands : IsPacket r.ssrc octets checkpoint packet sent) (o : InOrder packet_of sent) (is : IsReceived r) (long : IsLongBegun r.unfinished) where
  abbrev start : Hearing
  start = begins r octets stands.read packet (below packet_of packet sent) (commands_of packet sent) stands.opens stands.says.commands is long

  -- where what is used of the journal leaves the values of all packets before
  taken_late : (place : Placed) (wraps : ℕ) → placed r.last stands.read.number ≡ Ok place → place.number + 65536 * wraps ≡ packet →
      HasValues from (repaired_using place.uses stands.read.logs start).state (below packet_of packet sent) → IsTakenLate r octets from packet sent
  unfolding accepted
  taken_late place wraps found number has =
      let both = took_at place (heard_in r stands.read place) r in
      let answer : accepted r octets ≡ Ok (both.0, both.1) = rw (stands.opens, found) refl in
      let used = repaired_using place.uses stands.read.logs start in
      let own = commands_of packet sent in
      let same : (heard_in r stands.read place).state ≡ state_behind used.state own =
      heard_state r octets stands.read packet (below packet_of packet sent) own stands.opens stands.says.commands is long place in
      let whole = used_whole place.uses stands.read.logs start is.whole in
      let values : HasValues from (state_behind used.state own) (below packet_of (packet + 1) sent) =
      subst (λ (list : List Sent). HasValues from (state_behind used.state own) list) (with_own packet sent o) (values_also from used.state (below packet_of packet sent) own whole.state has) in
      record {
        after = both.0;
        took = both.1;
        taken = answer;
        ssrc = refl;
        late = record {
          received = accepted_whole r octets both.0 both.1 is answer;
          unfinished = heard_long r octets stands.read packet (below packet_of packet sent) own stands.opens stands.says.commands is long place;
          number = place.number;
          wraps = wraps;
          takes = refl;
          place = number;
          values = subst (λ (s : State). HasValues from s (below packet_of (packet + 1) sent)) (sym same) values;
        };
      }

none_before : (sent : List Sent) → below packet_of 0 sent ≡ []
none_before sent =
    filter_none (λ place. ltb (packet_of place) 0) sent (all_of (λ place. ltb (packet_of place) 0 ≡ false) (λ place. le-ltb (packet_of place) 0 (omega arith)) sent)

late_begins : (r : Received) (octets : List ℕ) (checkpoint packet : ℕ) (sent : List Sent) → IsPacket r.ssrc octets checkpoint packet sent → InOrder packet_of sent → r.last ≡ None → IsReceived r → IsTakenLate r octets checkpoint packet sent
late_begins r octets checkpoint packet sent stands o none is =
    let empty : r.state ≡ no_state = is.begins none in
    taken_late checkpoint r octets checkpoint packet sent stands o is (rw (is.empty none) tt) (record { number = stands.read.number; gap = 0; uses = All }) (packet / 65536) (rw none refl)
    (rw (stands.says.number) (omega arith))
    (elim (cases_Bool (eqb packet 0)) [
      | inl t ↦
          let here : packet ≡ 0 = eqb-true packet 0 t in
          rw (stands.says.first here, none_repaired r.state, empty)
          (subst (λ n. HasValues checkpoint no_state (below packet_of n sent)) (sym here) (subst (λ (list : List Sent). HasValues checkpoint no_state list) (sym (none_before sent)) (nothing checkpoint)))
      | inr f ↦
          let some : 1 ≤ packet = grind (arith, nat_tests, f) in
          rw (stands.says.later some) (values_first checkpoint packet stands.tick r.state sent is.whole.state o)
    ])
  where
    nothing : (from : ℕ) → HasValues from no_state []
    nothing from = record {
      program = λ channel l h. refl;
      control = λ channel number l m h. refl;
      wheel = λ channel l h. refl;
      note = λ channel note l m h. refl;
      pressure = λ channel l h. refl;
      poly = λ channel note l m h. refl;
    }

late_goes_on : (from last : ℕ) (r : Received) (octets : List ℕ) (checkpoint packet : ℕ) (sent : List Sent) → IsLate from last r sent → IsPacket r.ssrc octets checkpoint packet sent → InOrder packet_of sent →
    checkpoint ≤ last + 1 → last < packet → packet ≤ last + 32767 → packet < 2 ^ 64 → IsTakenLate r octets from packet sent
late_goes_on from last r octets checkpoint packet sent late stands o early later near small =
    let gap = packet - (last + 1) in
    let same : last + 1 + gap ≡ packet = omega (arith, later) in
    let number = late.number + 1 + gap in
    let counted : number + 65536 * late.wraps ≡ packet = (let place = late.place in omega (arith, place, same)) in
    let low : stands.read.number ≡ number % 65536 = stands.says.number ∙ omega (arith, counted) in
    let some : 1 ≤ packet = omega (arith, later) in
    let logs : stands.read.logs ≡ journal_logs checkpoint (last + 1 + gap) stands.tick sent = stands.says.later some ∙ ap (λ n. journal_logs checkpoint n stands.tick sent) (sym same) in
    taken_late from r octets checkpoint packet sent stands o late.received late.unfinished (record { number = number; gap = gap; uses = used_after gap }) late.wraps
    (rw (late.takes, low) (ahead_placed late.number gap (omega (arith, later, near)) (omega (arith, counted, small)))) counted
    (rw logs
    (subst (λ n. HasValues from (repaired_using (used_after gap) (journal_logs checkpoint (last + 1 + gap) stands.tick sent) (start from r octets checkpoint packet sent stands o late.received late.unfinished)).state (below packet_of n sent)) same
    (used_values from checkpoint (last + 1) gap stands.tick sent (start from r octets checkpoint packet sent stands o late.received late.unfinished) o early late.received.whole.state late.values)))

pub late_joiners_have_values : LateJoinersHaveValues
late_joiners_have_values = record { begins = late_begins; goes_on = late_goes_on }
