-- Receivers come in step again.
use Rattle.std.proofs.Common.{◌≡◌, ℕ, ◌+◌, ◌-◌, ◌^◌, ◌<◌, ◌≤◌, eqb, List, [], ◌∷◌, ◌++◌, Option, Some, None, fold, refl, sym, ap, subst, ◌∙◌, inl, inr, arith}
use Rattle.std.specs.Prelude.{Ok}
use Rattle.std.proofs.lemmas.Bool.{cases_Bool, eqb-true}
use Rattle.std.proofs.lemmas.Bool.Decides.{nat_tests}
use Rattle.jm_cmds.specs.declared.history.Sent.{Sent}
use Rattle.jm_cmds.specs.History.{below, InOrder}
use Rattle.jm_cmds.specs.Sent.{packet_of}
use Rattle.ch_sysex.specs.ChapterX.{sysex_logs}
use Rattle.jm_state.specs.declared.state.State.{State}
use Rattle.jm_state.specs.ReplayLaws.{state_behind}
use Rattle.jm_reader.specs.Written.{AreCommands}
use Rattle.jm_reader.specs.WrittenJournal.{journal_logs}
use Rattle.jm_receiver.specs.declared.heard.Hearing.{Hearing}
use Rattle.jm_receiver.specs.declared.place.Placed.{Placed}
use Rattle.jm_receiver.specs.declared.place.Uses.TheVariants.{All}
use Rattle.jm_receiver.specs.Receiver.{Received}
use Rattle.jm_receiver.specs.Repair.{repaired}
use Rattle.jm_receiver.specs.Heard.{sent_also, sent_all}
use Rattle.jm_receiver.specs.Accept.{Contents, opened, placed, used_after, repaired_using, kept_over, heard_in, took_at, accepted}
use Rattle.jm_receiver.specs.Whole.{IsWhole, IsReceived, used_whole}
use Rattle.jm_receiver.specs.Agreement.{Agrees, states_repaired}
use Rattle.jm_receiver.specs.FreshLogs.{fresh_of}
use Rattle.jm_receiver.specs.FreshAgreement.{states_by_fresh}
use Rattle.jm_receiver.specs.KeptAgreement.{commands_agree}
use Rattle.jm_receiver.specs.SectionLaws.{items_state, items_long, kept_long, own_state, none_repaired, ahead_placed}
use Rattle.jm_receiver.specs.InStep.{first_lacking, CanTell, IsLongBegun, HoldsCommands, IsOfStream, IsTaken, ReceiversComeInStep}

-- ## The logs that are used

-- Repair by the logs that are used behind so many lost packets.
pub used_agree : (checkpoint next gap tick : ℕ) (sent : List Sent) (h : Hearing) → AreCommands sent → InOrder packet_of sent → sysex_logs checkpoint (below packet_of (next + gap) sent) ≤ 128 → checkpoint ≤ next →
    IsWhole h.state → Agrees h.state (below packet_of next sent) → Agrees (repaired_using (used_after gap) (journal_logs checkpoint (next + gap) tick sent) h).state (below packet_of (next + gap) sent)
used_agree checkpoint next gap tick sent h commands o messages early is agrees =
    elim (cases_Bool (eqb gap 0)) [
      | inl t ↦
          let same : next ≡ next + gap = (let none = eqb-true gap 0 t in omega (arith, none)) in
          rw t (subst (λ n. Agrees h.state (below packet_of n sent)) same agrees)
      | inr f ↦ elim (cases_Bool (eqb gap 1)) [
        | inl u ↦
            let one : gap ≡ 1 = eqb-true gap 1 u in
            let few : sysex_logs checkpoint (below packet_of (next + 1) sent) ≤ 128 = rw one at messages in
            rw (f, u)
            (subst (λ n. Agrees (repaired h.state (fresh_of (journal_logs checkpoint (next + n) tick sent))) (below packet_of (next + n) sent)) (sym one)
            (states_by_fresh checkpoint next tick sent h.state commands o few early is agrees))
        | inr g ↦ rw (f, g) (states_repaired checkpoint next (next + gap) tick sent h.state commands o messages early (omega arith) is agrees)
      ]
    ]

-- ## The packet

module _ (r : Received) (octets : List ℕ) (c : Contents) (packet : ℕ) (before own : List Sent) (read : opened r.ssrc octets ≡ Ok c) (holds : HoldsCommands own c.items) (is : IsReceived r) (long : IsLongBegun r.unfinished) where
  abbrev pub begins : Hearing
  begins = record { state = r.state; tick = c.tick; heard = []; unfinished = None }

  -- the state behind the packet is that behind what is used of its journal and then its own commands
  pub heard_state : (place : Placed) → (heard_in r c place).state ≡ state_behind (repaired_using place.uses c.logs begins).state own
  unfolding sent_all
  heard_state place =
      let unfinished = kept_over place.gap r.unfinished in
      let h : Hearing = record (repaired_using place.uses c.logs begins) { unfinished = unfinished } in
      items_state h c.items ∙ own_state h.state unfinished own c.items (kept_long place.gap r.unfinished long) holds

  pub heard_long : (place : Placed) → IsLongBegun (heard_in r c place).unfinished
  unfolding sent_all
  heard_long place =
      let h : Hearing = record (repaired_using place.uses c.logs begins) { unfinished = kept_over place.gap r.unfinished } in
      items_long h c.items (kept_long place.gap r.unfinished long) holds.segments

  heard_agrees : (place : Placed) → Agrees (repaired_using place.uses c.logs begins).state before → Agrees (heard_in r c place).state (before ++ own)
  heard_agrees place agrees =
      let h = repaired_using place.uses c.logs begins in
      subst (λ (s : State). Agrees s (before ++ own)) (sym (heard_state place)) (commands_agree before own h.state (used_whole place.uses c.logs begins is.whole) agrees)

  placed_taken : (place : Placed) → placed r.last c.number ≡ Ok place → place.number ≡ packet → ((last : ℕ) → r.last ≡ Some last → last + 1 + place.gap ≡ packet) →
      Agrees (repaired_using place.uses c.logs begins).state before → IsTaken r octets packet before own
  unfolding accepted
  placed_taken place found number missed agrees = record {
    after = (took_at place (heard_in r c place) r).0;
    took = (took_at place (heard_in r c place) r).1;
    taken = rw (read, found) refl;
    ssrc = refl;
    number = ap (λ (n : ℕ). Some n) number;
    told = number;
    missed = missed;
    in_step = heard_agrees place agrees;
    unfinished = heard_long place;
  }

-- the first packet
first_taken : (r : Received) (octets : List ℕ) (c : Contents) (checkpoint packet tick : ℕ) (sent own : List Sent) → opened r.ssrc octets ≡ Ok c → IsOfStream checkpoint packet tick sent own c →
    AreCommands sent → InOrder packet_of sent → sysex_logs checkpoint (below packet_of packet sent) ≤ 128 → checkpoint ≤ 0 → packet < 65536 → r.last ≡ None →
    IsReceived r → IsLongBegun r.unfinished → Agrees r.state (below packet_of 0 sent) → IsTaken r octets packet (below packet_of packet sent) own
first_taken r octets c checkpoint packet tick sent own read stands commands o messages early small none is long agrees =
    let number : c.number ≡ packet = stands.number ∙ omega (arith, small) in
    placed_taken r octets c packet (below packet_of packet sent) own read stands.commands is long (record { number = c.number; gap = 0; uses = All }) (rw none refl) number
    (λ last some. absurd (let no : ◌≡◌ {A = Option ℕ} None (Some last) = sym none ∙ some in cc))
    (elim (cases_Bool (eqb packet 0)) [
      | inl t ↦
          let zero_here : packet ≡ 0 = eqb-true packet 0 t in
          rw (stands.first zero_here, none_repaired r.state) (subst (λ n. Agrees r.state (below packet_of n sent)) (sym zero_here) agrees)
      | inr f ↦
          let some : 1 ≤ packet = grind (arith, nat_tests, f) in
          rw (stands.later some) (states_repaired checkpoint 0 packet tick sent r.state commands o messages early (omega arith) is.whole agrees)
    ])

-- a later one, so many packets behind the first one that is lacked
later_taken : (r : Received) (octets : List ℕ) (c : Contents) (checkpoint last gap tick : ℕ) (sent own : List Sent) → opened r.ssrc octets ≡ Ok c → IsOfStream checkpoint (last + 1 + gap) tick sent own c →
    AreCommands sent → InOrder packet_of sent → sysex_logs checkpoint (below packet_of (last + 1 + gap) sent) ≤ 128 → checkpoint ≤ last + 1 → gap < 32767 → last + 1 + gap < 2 ^ 64 → r.last ≡ Some last →
    IsReceived r → IsLongBegun r.unfinished → Agrees r.state (below packet_of (last + 1) sent) → IsTaken r octets (last + 1 + gap) (below packet_of (last + 1 + gap) sent) own
later_taken r octets c checkpoint last gap tick sent own read stands commands o messages early near small some is long agrees =
    let packet = last + 1 + gap in
    placed_taken r octets c packet (below packet_of packet sent) own read stands.commands is long (record { number = packet; gap = gap; uses = used_after gap })
    (rw (some, stands.number) (ahead_placed last gap near small)) refl
    (λ other e. let same : last ≡ other = (let both : ◌≡◌ {A = Option ℕ} (Some last) (Some other) = sym some ∙ e in cc) in omega (arith, same))
    (rw (stands.later (omega arith)) (used_agree checkpoint (last + 1) gap tick sent (begins r octets c packet (below packet_of packet sent) own read stands.commands is long) commands o messages early is.whole agrees))

pub receivers_come_in_step : ReceiversComeInStep
receivers_come_in_step r octets c checkpoint packet tick sent own read stands commands o messages early tells is long agrees = by_last r.last refl early tells agrees
  where
    by_last : (last : Option ℕ) → r.last ≡ last → checkpoint ≤ first_lacking last → CanTell last packet → Agrees r.state (below packet_of (first_lacking last) sent) → IsTaken r octets packet (below packet_of packet sent) own
    by_last None none early tells agrees = first_taken r octets c checkpoint packet tick sent own read stands commands o messages early tells none is long agrees
    by_last (Some last) some early tells agrees =
        let gap = packet - (last + 1) in
        let same : last + 1 + gap ≡ packet = (let l = tells.later in omega (arith, l)) in
        subst (λ n. IsTaken r octets n (below packet_of n sent) own) same
        (later_taken r octets c checkpoint last gap tick sent own read (subst (λ n. IsOfStream checkpoint n tick sent own c) (sym same) stands) commands o
        (subst (λ n. sysex_logs checkpoint (below packet_of n sent) ≤ 128) (sym same) messages) early (let l = tells.later in let n = tells.near in omega (arith, l, n)) (let m = tells.small in omega (arith, same, m)) some is long agrees)
