-- Where nothing was lost, nothing needless is heard.
use Rattle.std.proofs.Common.{◌≡◌, ℕ, ◌+◌, ◌-◌, ◌%◌, ◌^◌, ◌||◌, eqb, leb, List, [], ◌∷◌, ◌++◌, Option, Some, None, length, fold, refl, sym, ap, ◌∙◌, inl, inr, arith, append_assoc, append-nil}
use Rattle.std.specs.Prelude.{Result, Ok, Err}
use Rattle.std.proofs.lemmas.Bool.{cases_Bool, eq-eqb}
use Rattle.jm_wire.specs.Readers.{◌>>=◌}
use Rattle.jm_cmds.specs.declared.commands.Command.{Command}
use Rattle.jm_section.specs.declared.item.Item.{Item}
use Rattle.jm_state.specs.declared.state.State.{State}
use Rattle.jm_state.specs.Apply.{applied}
use Rattle.jm_reader.specs.declared.logs.Log.{Log}
use Rattle.jm_receiver.specs.declared.heard.Heard.{Heard}
use Rattle.jm_receiver.specs.declared.heard.HeardKind.TheVariants.{Sent}
use Rattle.jm_receiver.specs.declared.heard.Hearing.{Hearing}
use Rattle.jm_receiver.specs.declared.opening.AcceptFault.{AcceptFault}
use Rattle.jm_receiver.specs.declared.place.Placed.{Placed}
use Rattle.jm_receiver.specs.declared.place.Uses.{Uses}
use Rattle.jm_receiver.specs.declared.place.Uses.TheVariants.{Nothing, Fresh, All}
use Rattle.jm_receiver.specs.declared.receiver.Took.{Took}
use Rattle.jm_receiver.specs.Accept.{Contents, opened, packets_ahead, placed, placed_ahead, used_after, repaired_by, repaired_using, kept_over, heard_in, took_at, accepted}
use Rattle.jm_receiver.specs.FreshLogs.{fresh_of}
use Rattle.jm_receiver.specs.Group.{all_channels}
use Rattle.jm_receiver.specs.HandedOn.{resets_handed_on, messages_handed_on, songs_handed_on, group_handed_on, controls_handed_on, channel_handed_on, repair_handed_on}
use Rattle.jm_receiver.specs.Heard.{left_unfinished, command_said, commands_said, heard_if, sent_also, sent_all}
use Rattle.jm_receiver.specs.SectionLaws.{items_state, none_repaired}
use Rattle.jm_receiver.specs.Receiver.{Received}
use Rattle.jm_receiver.specs.Whole.{ok_value}

-- a command that an entry says, heard at this time
abbrev pub command_held : (tick : ℕ) → Option Command → List Heard
command_held tick None = []
command_held tick (Some command) = record { command = command; tick = tick; kind = Sent } ∷ []

-- What entries of a section hold, behind deltas of this sum: the commands that they say in order, each at the packet's timestamp plus all
-- deltas up to its own, modulo 2^32; of a message in segments, up to its last one. A command that is left out, told twice or in another
-- order, or whose delta isn't added to those before it, is no such list; nor is one that repair hands on, whose kind is another.
abbrev pub held : (tick deltas : ℕ) → (unfinished : Option (List ℕ)) → List Item → List Heard
held tick deltas unfinished [] = []
held tick deltas unfinished (item ∷ items) =
    command_held ((tick + (deltas + item.delta)) % 2 ^ 32) (command_said unfinished item.what) ++ held tick (deltas + item.delta) (left_unfinished unfinished item.what) items

-- What is heard of a packet is just what its section holds, and the state is the old one behind those commands.
pub record HearsJust (r : Received) (c : Contents) (after : Received) (took : Took) : Type 0 where
  pub heard : took.heard ≡ held c.tick 0 (kept_over took.gap r.unfinished) c.items
  pub state : after.state ≡ fold applied r.state (commands_said (kept_over took.gap r.unfinished) c.items)

-- Where no packet was missed before it, just what its section holds is heard of a packet that is taken, whatever its journal has: behind an
-- earlier packet always, and as the first one where it has no logs. This excludes repair where the gap is 0, even one that leaves
-- the state as it is.
abbrev pub NothingNeedlessIsHeard : Type 0
NothingNeedlessIsHeard =
    (r : Received) (octets : List ℕ) (c : Contents) (after : Received) (took : Took) → opened r.ssrc octets ≡ Ok c → accepted r octets ≡ Ok (after, took) → took.gap ≡ 0 → (r.last ≡ None → c.logs ≡ []) → HearsJust r c after took

-- ## The section

pub said_held : (h : Hearing) (said : Option Command) → (heard_if h said).heard ≡ h.heard ++ command_held h.tick said
said_held h None = sym (append-nil h.heard)
said_held h (Some command) = refl

said_tick : (h : Hearing) (said : Option Command) → (heard_if h said).tick ≡ h.tick
said_tick h None = refl
said_tick h (Some command) = refl

later_tick : (now tick deltas delta : ℕ) → now % 2 ^ 32 ≡ (tick + deltas) % 2 ^ 32 → (now + delta) % 2 ^ 32 ≡ (tick + (deltas + delta)) % 2 ^ 32
later_tick now tick deltas delta e = omega (arith, e)

kept_tick : (n m : ℕ) → n ≡ m % 2 ^ 32 → n % 2 ^ 32 ≡ m % 2 ^ 32
kept_tick n m e = omega (arith, e)

items_held : (h : Hearing) (tick deltas : ℕ) (items : List Item) → h.tick % 2 ^ 32 ≡ (tick + deltas) % 2 ^ 32 → (fold sent_also h items).heard ≡ h.heard ++ held tick deltas h.unfinished items
items_held h tick deltas [] e = sym (append-nil h.heard)
items_held h tick deltas (item ∷ items) e =
    let now : Hearing = record h { tick = (h.tick + item.delta) % 2 ^ 32 } in
    let at = later_tick h.tick tick deltas item.delta e in
    let said = command_said h.unfinished item.what in
    let others = held tick (deltas + item.delta) (left_unfinished h.unfinished item.what) items in
    let next = said_tick now said ∙ at in
    items_held (sent_also h item) tick (deltas + item.delta) items (kept_tick (sent_also h item).tick (tick + (deltas + item.delta)) next)
    ∙ ap (λ (heard : List Heard). heard ++ others) (said_held now said ∙ ap (λ (n : ℕ). h.heard ++ command_held n said) at)
    ∙ append_assoc h.heard (command_held ((tick + (deltas + item.delta)) % 2 ^ 32) said) others

-- ## No logs

none_of_channel : (repaired : State) (h : Hearing) (channel : ℕ) → channel_handed_on [] repaired h channel ≡ h
unfolding channel_handed_on controls_handed_on group_handed_on
none_of_channel repaired h channel = rw (eq-eqb (length h.heard) (length h.heard) refl) refl

still : {S X : Type 0} (step : S → X → S) (s : S) → ((x : X) → step s x ≡ s) → (xs : List X) → fold step s xs ≡ s
still step s h [] = refl
still step s h (x ∷ xs) = ap (λ t. fold step t xs) (h x) ∙ still step s h xs

-- Repair without logs hands on nothing.
pub none_handed_on : (repaired : State) (h : Hearing) → repair_handed_on [] repaired h ≡ h
unfolding repair_handed_on resets_handed_on messages_handed_on songs_handed_on
none_handed_on repaired h = still (channel_handed_on [] repaired) h (none_of_channel repaired h) all_channels

-- those of the logs that are used
abbrev pub used_of : Uses → List Log → List Log
used_of Nothing logs = []
used_of Fresh logs = fresh_of logs
used_of All logs = logs

by_none : (h : Hearing) (logs : List Log) → logs ≡ [] → repaired_by logs h ≡ h
by_none h logs none = rw (none, none_repaired h.state, none_handed_on h.state h) refl

pub none_used : (uses : Uses) (logs : List Log) (h : Hearing) → used_of uses logs ≡ [] → repaired_using uses logs h ≡ h
none_used Nothing logs h none = refl
none_used Fresh logs h none = by_none h (fresh_of logs) none
none_used All logs h none = by_none h logs none

-- ## The packet

pub just_held : (r : Received) (c : Contents) (place : Placed) → used_of place.uses c.logs ≡ [] → HearsJust r c (took_at place (heard_in r c place) r).0 (took_at place (heard_in r c place) r).1
unfolding sent_all
just_held r c place none =
    let begins : Hearing = record { state = r.state; tick = c.tick; heard = []; unfinished = None } in
    let unfinished = kept_over place.gap r.unfinished in
    let same : repaired_using place.uses c.logs begins ≡ begins = none_used place.uses c.logs begins none in
    let own : Hearing = record begins { unfinished = unfinished } in
    record {
      heard = ap (λ (h : Hearing). (fold sent_also (record h { unfinished = unfinished }) c.items).heard) same ∙ items_held own c.tick 0 c.items (kept_zero c.tick);
      state = ap (λ (h : Hearing). (fold sent_also (record h { unfinished = unfinished }) c.items).state) same ∙ items_state own c.items;
    }
  where
    kept_zero : (tick : ℕ) → tick % 2 ^ 32 ≡ (tick + 0) % 2 ^ 32
    kept_zero tick = omega arith

-- where it was taken at this place, the gap is the place's
abbrev pub UsedNone : Option ℕ → Contents → Took → Type 0
UsedNone last c took = (place : Placed) → placed last c.number ≡ Ok place → place.gap ≡ took.gap → used_of place.uses c.logs ≡ []

taken_just : (r : Received) (c : Contents) (place : Placed) (after : Received) (took : Took) → (place.gap ≡ took.gap → used_of place.uses c.logs ≡ []) → ◌≡◌ {A = Result (Received × Took) AcceptFault} (Ok (took_at place (heard_in r c place) r)) (Ok (after, took)) → HearsJust r c after took
taken_just r c place after took none e =
    let same : took_at place (heard_in r c place) r ≡ (after, took) = ok_value (took_at place (heard_in r c place) r) (after, took) e in
    let first : (took_at place (heard_in r c place) r).0 ≡ after = ap (λ (p : Received × Took). p.0) same in
    let second : (took_at place (heard_in r c place) r).1 ≡ took = ap (λ (p : Received × Took). p.1) same in
    let gap : place.gap ≡ took.gap = ap (λ (t : Took). t.gap) second in
    rw (← first, ← second) (just_held r c place (none gap))

placed_just : (r : Received) (c : Contents) (o : Result Placed AcceptFault) (after : Received) (took : Took) → placed r.last c.number ≡ o → UsedNone r.last c took → (o >>= (λ place. Ok (took_at place (heard_in r c place) r))) ≡ Ok (after, took) → HearsJust r c after took
placed_just r c (Ok place) after took found none e = taken_just r c place after took (none place found) e
placed_just r c (Err fault) after took found none e = absurd cc

pub accepted_just : (r : Received) (octets : List ℕ) (c : Contents) (after : Received) (took : Took) → opened r.ssrc octets ≡ Ok c → accepted r octets ≡ Ok (after, took) → UsedNone r.last c took → HearsJust r c after took
unfolding accepted
accepted_just r octets c after took read e none =
    let open_too : (placed r.last c.number >>= (λ place. Ok (took_at place (heard_in r c place) r))) ≡ Ok (after, took) = rw read at e in
    placed_just r c (placed r.last c.number) after took refl none open_too

-- ## The place

ok_place : (a b : Placed) → ◌≡◌ {A = Result Placed AcceptFault} (Ok a) (Ok b) → a ≡ b
ok_place a b e = cc

-- behind an earlier packet what is used goes by the gap
ahead_uses : (last ahead : ℕ) (place : Placed) → placed_ahead last ahead ≡ Ok place → place.uses ≡ used_after place.gap
ahead_uses last ahead place e =
    elim (cases_Bool (eqb ahead 0 || leb 32768 ahead)) [
      | inl t ↦ absurd (let bad : ◌≡◌ {A = Result Placed AcceptFault} (Err _) (Ok place) = rw t at e in cc)
      | inr f ↦
          let found : Placed = record { number = (last + ahead) % 2 ^ 64; gap = ahead - 1; uses = used_after (ahead - 1) } in
          let same : found ≡ place = ok_place found place (rw f at e) in
          rw (← same) refl
    ]

zero_used : (last : Option ℕ) (c : Contents) (took : Took) → took.gap ≡ 0 → (last ≡ None → c.logs ≡ []) → UsedNone last c took
zero_used None c took zero none place found gap =
    let first : Placed = record { number = c.number; gap = 0; uses = All } in
    let same : first ≡ place = ok_place first place found in
    rw (← same) (none refl)
zero_used (Some last) c took zero none place found gap =
    let uses : place.uses ≡ used_after 0 = ahead_uses last (packets_ahead last c.number) place found ∙ ap used_after (gap ∙ zero) in
    rw uses refl

pub nothing_needless : NothingNeedlessIsHeard
nothing_needless r octets c after took read e zero none = accepted_just r octets c after took read e (zero_used r.last c took zero none)

-- Where just one packet was missed, the fresh logs alone are used.
pub one_used : (last : Option ℕ) (c : Contents) (took : Took) → took.gap ≡ 1 → fresh_of c.logs ≡ [] → UsedNone last c took
one_used None c took one none place found gap =
    let first : Placed = record { number = c.number; gap = 0; uses = All } in
    let zero_gap : 0 ≡ place.gap = ap (λ (p : Placed). p.gap) (ok_place first place found) in
    absurd (omega (arith, zero_gap, gap, one))
one_used (Some last) c took one none place found gap =
    let uses : place.uses ≡ used_after 1 = ahead_uses last (packets_ahead last c.number) place found ∙ ap used_after (gap ∙ one) in
    rw uses none
