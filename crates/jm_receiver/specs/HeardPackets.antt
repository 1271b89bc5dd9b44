-- What a receiver hears of a packet, played to a listener.
use Rattle.std.proofs.Common.{◌≡◌, ℕ, ◌+◌, ◌-◌, ◌%◌, ◌^◌, ◌≤◌, eqb, List, [], ◌∷◌, Option, Some, None, fold, refl, sym, ap, subst, ◌∙◌, inl, inr, arith}
use Rattle.std.specs.Prelude.{Result, Ok}
use Rattle.std.proofs.lemmas.Bool.{cases_Bool, eqb-true}
use Rattle.std.proofs.lemmas.Bool.Decides.{nat_tests}
use Rattle.std.proofs.lemmas.List.Sums.{fold-append}
use Rattle.jm_cmds.specs.declared.commands.Command.{Command}
use Rattle.jm_cmds.specs.declared.history.Sent.{Sent}
use Rattle.jm_cmds.specs.History.{below, InOrder}
use Rattle.jm_cmds.specs.Sent.{packet_of}
use Rattle.jm_section.specs.declared.item.Item.{Item}
use Rattle.ch_sysex.specs.ChapterX.{sysex_logs}
use Rattle.jm_state.specs.declared.state.State.{State}
use Rattle.jm_state.specs.Apply.{applied}
use Rattle.jm_state.specs.KeptLaws.{state_after_is}
use Rattle.jm_state.specs.PartLaws.{by_part}
use Rattle.jm_state.specs.Says.{said, count_after, song_says, control_says, wheel_says, note_says, pressure_says, poly_says}
use Rattle.jm_state.specs.SettingLaws.{SameBut}
use Rattle.jm_reader.specs.declared.logs.Log.{Log}
use Rattle.jm_reader.specs.Written.{AreCommands}
use Rattle.jm_reader.specs.WrittenJournal.{journal_logs}
use Rattle.jm_receiver.specs.declared.heard.Heard.{Heard}
use Rattle.jm_receiver.specs.declared.heard.Hearing.{Hearing}
use Rattle.jm_receiver.specs.declared.opening.AcceptFault.{AcceptFault}
use Rattle.jm_receiver.specs.declared.place.Placed.{Placed}
use Rattle.jm_receiver.specs.declared.place.Uses.TheVariants.{All}
use Rattle.jm_receiver.specs.declared.receiver.Took.{Took}
use Rattle.jm_receiver.specs.Accept.{Contents, opened, placed, used_after, repaired_by, repaired_using, kept_over, heard_in, took_at, accepted}
use Rattle.jm_receiver.specs.Agreement.{Agrees}
use Rattle.jm_receiver.specs.BankHeard.{no_programs, no_controls}
use Rattle.jm_receiver.specs.Follows.{Follows, self_follows}
use Rattle.jm_receiver.specs.FreshLogs.{fresh_of}
use Rattle.jm_receiver.specs.HandedOn.{repair_handed_on}
use Rattle.jm_receiver.specs.Heard.{command_said, heard_if, sent_also, sent_all}
use Rattle.jm_receiver.specs.HeardLaw.{listening}
use Rattle.jm_receiver.specs.HeardStates.{untold, all_followed, journal_follows, fresh_follows}
use Rattle.jm_receiver.specs.InStep.{first_lacking, CanTell, IsOfStream}
use Rattle.jm_receiver.specs.SectionLaws.{ahead_placed, none_repaired}
use Rattle.jm_receiver.specs.Listened.{listened, repair_listened}
use Rattle.jm_receiver.specs.Needless.{none_handed_on}
use Rattle.jm_receiver.specs.Receiver.{Received}
use Rattle.jm_receiver.specs.Repair.{repaired}
use Rattle.jm_receiver.specs.Whole.{IsWhole, IsReceived, ok_value}

-- What is heard of a packet of the stream that is taken, each command played in order into the old state, gives the new one, but for the
-- parts that aren't told: under the premises of `ReceiversComeInStep`, whatever was lost before the packet.
abbrev pub PacketsAreHeard : Type 0
PacketsAreHeard =
    (r : Received) (octets : List ℕ) (c : Contents) (checkpoint packet tick : ℕ) (sent own : List Sent) (after : Received) (took : Took) → opened r.ssrc octets ≡ Ok c → IsOfStream checkpoint packet tick sent own c →
    AreCommands sent → InOrder packet_of sent → sysex_logs checkpoint (below packet_of packet sent) ≤ 128 → checkpoint ≤ first_lacking r.last → CanTell r.last packet →
    IsReceived r → Agrees r.state (below packet_of (first_lacking r.last) sent) → accepted r octets ≡ Ok (after, took) → SameBut untold after.state (listened r.state took.heard)

-- what a listener made of this and the hearing's state
abbrev Told : State → Hearing → Type 0
Told s h = Follows no_programs no_controls (listened s h.heard) h.state

-- ## The commands of a section

-- any command is applied to both
all_applied : (t s : State) (command : Command) → Follows no_programs no_controls t s → Follows no_programs no_controls (applied t command) (applied s command)
all_applied t s command f =
    let a = by_part t command f.left in
    let b = by_part s command f.right in
    record {
      left = state_after_is t command f.left;
      right = state_after_is s command f.right;
      song = a.song ∙ ap (said (song_says command)) f.song ∙ sym b.song;
      sysex_count = a.sysex_count ∙ ap (λ (n : ℕ). count_after n command) f.sysex_count ∙ sym b.sysex_count;
      program = λ channel l n.
          a.program channel l
          ∙ rw (f.control channel 0 l (omega arith) refl, f.control channel 32 l (omega arith) refl, f.program channel l refl) refl
          ∙ sym (b.program channel l);
      control = λ channel number l k n. a.control channel number l k ∙ ap (said (control_says channel number command)) (f.control channel number l k n) ∙ sym (b.control channel number l k);
      wheel = λ channel l. a.wheel channel l ∙ ap (said (wheel_says channel command)) (f.wheel channel l) ∙ sym (b.wheel channel l);
      note = λ channel note l k. a.note channel note l k ∙ ap (said (note_says channel note command)) (f.note channel note l k) ∙ sym (b.note channel note l k);
      pressure = λ channel l. a.pressure channel l ∙ ap (said (pressure_says channel command)) (f.pressure channel l) ∙ sym (b.pressure channel l);
      poly = λ channel note l k. a.poly channel note l k ∙ ap (said (poly_says channel note command)) (f.poly channel note l k) ∙ sym (b.poly channel note l k);
    }

said_told : (s : State) (h : Hearing) (said : Option Command) → Told s h → Told s (heard_if h said)
said_told s h None f = f
said_told s h (Some command) f =
    subst (λ t. Follows no_programs no_controls t (applied h.state command))
    (sym (fold-append (λ (t : State) (one : Heard). applied t one.command) s h.heard _)) (all_applied (listened s h.heard) h.state command f)

items_told : (s : State) (h : Hearing) (items : List Item) → Told s h → Told s (fold sent_also h items)
items_told s h [] f = f
items_told s h (item ∷ items) f = items_told s (sent_also h item) items (said_told s (record h { tick = (h.tick + item.delta) % 2 ^ 32 }) (command_said h.unfinished item.what) f)

-- ## The logs that are used

by_told : (s : State) (time : ℕ) (logs : List Log) → Follows no_programs no_controls (repair_handed_on logs (repaired s logs) (listening s time)).state (repaired s logs) → Told s (repaired_by logs (listening s time))
by_told s time logs f = subst (λ (t : State). Follows no_programs no_controls t (repaired s logs)) (repair_listened s logs (repaired s logs) (listening s time) refl) f

used_told : (checkpoint next gap tick time : ℕ) (sent : List Sent) (s : State) → AreCommands sent → InOrder packet_of sent → sysex_logs checkpoint (below packet_of (next + gap) sent) ≤ 128 → checkpoint ≤ next →
    IsWhole s → Agrees s (below packet_of next sent) → Told s (repaired_using (used_after gap) (journal_logs checkpoint (next + gap) tick sent) (listening s time))
used_told checkpoint next gap tick time sent s commands o messages early is agrees =
    elim (cases_Bool (eqb gap 0)) [
      | inl t ↦ rw t (self_follows no_programs no_controls s is.state)
      | inr f ↦ elim (cases_Bool (eqb gap 1)) [
        | inl u ↦
            let one : gap ≡ 1 = eqb-true gap 1 u in
            let few : sysex_logs checkpoint (below packet_of (next + 1) sent) ≤ 128 = rw one at messages in
            rw (f, u)
            (subst (λ n. Told s (repaired_by (fresh_of (journal_logs checkpoint (next + n) tick sent)) (listening s time))) (sym one)
            (by_told s time (fresh_of (journal_logs checkpoint (next + 1) tick sent)) (fresh_follows checkpoint next tick time sent s commands o few early is agrees)))
        | inr g ↦ rw (f, g) (by_told s time (journal_logs checkpoint (next + gap) tick sent) (journal_follows checkpoint next (next + gap) tick time sent s commands o messages early (omega arith) is agrees))
      ]
    ]

-- ## The packet

placed_told : (r : Received) (octets : List ℕ) (c : Contents) (place : Placed) (after : Received) (took : Took) → opened r.ssrc octets ≡ Ok c → placed r.last c.number ≡ Ok place → accepted r octets ≡ Ok (after, took) →
    Told r.state (repaired_using place.uses c.logs (listening r.state c.tick)) → SameBut untold after.state (listened r.state took.heard)
unfolding accepted sent_all
placed_told r octets c place after took read found e f =
    let own : Received × Took = took_at place (heard_in r c place) r in
    let taken : ◌≡◌ {A = Result (Received × Took) AcceptFault} (Ok own) (Ok (after, took)) = rw (read, found) at e in
    let same : own ≡ (after, took) = ok_value own (after, took) taken in
    let begins : Hearing = record (repaired_using place.uses c.logs (listening r.state c.tick)) { unfinished = kept_over place.gap r.unfinished } in
    let h = fold sent_also begins c.items in
    let all : SameBut untold h.state (listened r.state h.heard) = all_followed (listened r.state h.heard) h.state (items_told r.state begins c.items f) in
    subst (λ (p : Received × Took). SameBut untold p.0.state (listened r.state p.1.heard)) same all

pub packets_heard : PacketsAreHeard
packets_heard r octets c checkpoint packet tick sent own after took read stands commands o messages early tells is agrees e = by_last r.last refl early tells agrees
  where
    by_last : (last : Option ℕ) → r.last ≡ last → checkpoint ≤ first_lacking last → CanTell last packet → Agrees r.state (below packet_of (first_lacking last) sent) → SameBut untold after.state (listened r.state took.heard)
    by_last None none early tells agrees =
        let number : c.number ≡ packet = stands.number ∙ omega (arith, tells) in
        placed_told r octets c (record { number = c.number; gap = 0; uses = All }) after took read (rw none refl) e
        (elim (cases_Bool (eqb packet 0)) [
          | inl t ↦
              rw (stands.first (eqb-true packet 0 t), none_repaired r.state, none_handed_on r.state (listening r.state c.tick)) (self_follows no_programs no_controls r.state is.whole.state)
          | inr f ↦
              let some : 1 ≤ packet = grind (arith, nat_tests, f) in
              rw (stands.later some) (by_told r.state c.tick (journal_logs checkpoint packet tick sent) (journal_follows checkpoint 0 packet tick c.tick sent r.state commands o messages early (omega arith) is.whole agrees))
        ])
    by_last (Some last) some early tells agrees =
        let gap = packet - (last + 1) in
        let same : last + 1 + gap ≡ packet = (let l = tells.later in omega (arith, l)) in
        let found : placed (Some last) ((last + 1 + gap) % 65536) ≡ Ok (record { number = last + 1 + gap; gap = gap; uses = used_after gap }) =
        ahead_placed last gap (let l = tells.later in let n = tells.near in omega (arith, l, n)) (let m = tells.small in omega (arith, same, m)) in
        placed_told r octets c (record { number = last + 1 + gap; gap = gap; uses = used_after gap }) after took read
        (rw (some, stands.number) (subst (λ n. placed (Some last) (n % 65536) ≡ Ok (record { number = last + 1 + gap; gap = gap; uses = used_after gap })) same found)) e
        (let later : 1 ≤ packet = (let l = tells.later in omega (arith, l)) in
        rw (stands.later later)
        (subst (λ n. Told r.state (repaired_using (used_after gap) (journal_logs checkpoint n tick sent) (listening r.state c.tick))) same
        (used_told checkpoint (last + 1) gap tick c.tick sent r.state commands o (subst (λ n. sysex_logs checkpoint (below packet_of n sent) ≤ 128) (sym same) messages) early is.whole agrees)))
