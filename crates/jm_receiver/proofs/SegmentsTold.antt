-- A message in segments is heard once.
use Rattle.std.proofs.Common.{◌≡◌, ℕ, ◌+◌, ◌-◌, ◌%◌, ◌^◌, ◌≤◌, ltb, false, List, [], ◌∷◌, ◌++◌, Option, Some, None, length, length-append, fold, refl, ap, subst, ◌∙◌, arith, append_assoc}
use Rattle.std.specs.Prelude.{Result, Ok}
use Rattle.std.proofs.lemmas.Bool.{le-ltb}
use Rattle.jm_cmds.specs.declared.commands.Command.TheVariants.{Sysex}
use Rattle.jm_section.specs.declared.item.Item.{Item}
use Rattle.jm_section.specs.declared.item.PartKind.{PartKind}
use Rattle.jm_section.specs.declared.item.PartKind.TheVariants as part
use Rattle.jm_section.specs.declared.item.What.{What}
use Rattle.jm_section.specs.declared.item.What.TheVariants.{Part}
use Rattle.jm_receiver.specs.declared.heard.Heard.{Heard}
use Rattle.jm_receiver.specs.declared.heard.HeardKind.TheVariants.{Sent}
use Rattle.jm_receiver.specs.declared.heard.Hearing.{Hearing}
use Rattle.jm_receiver.specs.declared.opening.AcceptFault.{AcceptFault}
use Rattle.jm_receiver.specs.declared.place.Placed.{Placed}
use Rattle.jm_receiver.specs.declared.place.Uses.TheVariants.{Nothing, All}
use Rattle.jm_receiver.specs.declared.receiver.Took.{Took}
use Rattle.jm_receiver.specs.Accept.{Contents, opened, placed, kept_over, heard_in, took_at, accepted}
use Rattle.jm_receiver.specs.Heard.{joined_to, left_unfinished, command_said, sent_also, sent_all}
use Rattle.jm_receiver.specs.Needless.{command_held, said_held, used_of, none_used}
use Rattle.jm_receiver.specs.Receiver.{Received}
use Rattle.jm_receiver.specs.SegmentsHeard.{HasSegment, HaveLaterSegments, ends, goes_on, begins, TakesAll, takes_none, takes_one, HasBefore, SegmentsAreHeardOnce}
use Rattle.jm_receiver.specs.Whole.{ok_value}

-- ## One packet

-- Of a packet with one entry, before which none was missed, just what it says is heard, and the next packet is the next one.
record TakesEntry (r after : Received) (took : Took) (tick packet : ℕ) (what : What) : Type 0 where
  ssrc : after.ssrc ≡ r.ssrc
  number : ℕ
  last : after.last ≡ Some number
  next : (number + 1) % 65536 ≡ (packet + 1) % 65536
  unfinished : after.unfinished ≡ left_unfinished r.unfinished what
  heard : took.heard ≡ command_held (tick % 2 ^ 32) (command_said r.unfinished what)

-- what is heard of its section
module _ (r : Received) (c : Contents) (place : Placed) (what : What) (items : c.items ≡ record { delta = 0; what = what } ∷ []) (near : place.gap ≡ 0) (none : used_of place.uses c.logs ≡ []) where
  abbrev start : Hearing
  start = record { state = r.state; tick = c.tick; heard = []; unfinished = r.unfinished }

  section_heard : heard_in r c place ≡ sent_also start (record { delta = 0; what = what })
  unfolding sent_all
  section_heard =
      let nothing : Hearing = record { state = r.state; tick = c.tick; heard = []; unfinished = None } in
      ap (λ (h : Hearing). fold sent_also (record h { unfinished = kept_over place.gap r.unfinished }) c.items) (none_used place.uses c.logs nothing none)
      ∙ ap (λ (gap : ℕ). fold sent_also (record nothing { unfinished = kept_over gap r.unfinished }) c.items) near
      ∙ ap (λ (list : List Item). fold sent_also start list) items

  entry_heard : (tick : ℕ) → c.tick ≡ tick % 2 ^ 32 → (heard_in r c place).heard ≡ command_held (tick % 2 ^ 32) (command_said r.unfinished what)
  entry_heard tick time =
      let at : (c.tick + 0) % 2 ^ 32 ≡ tick % 2 ^ 32 = omega (arith, time) in
      ap (λ (h : Hearing). h.heard) section_heard
      ∙ said_held (record start { tick = (c.tick + 0) % 2 ^ 32 }) (command_said r.unfinished what)
      ∙ ap (λ (n : ℕ). command_held n (command_said r.unfinished what)) at

entry_taken : (r after : Received) (took : Took) (octets : List ℕ) (c : Contents) (place : Placed) (tick packet : ℕ) (what : What) → opened r.ssrc octets ≡ Ok c → placed r.last c.number ≡ Ok place → place.gap ≡ 0 → used_of place.uses c.logs ≡ [] →
    (place.number + 1) % 65536 ≡ (packet + 1) % 65536 → c.items ≡ record { delta = 0; what = what } ∷ [] → c.tick ≡ tick % 2 ^ 32 → accepted r octets ≡ Ok (after, took) → TakesEntry r after took tick packet what
unfolding accepted
entry_taken r after took octets c place tick packet what read found near none next items time e =
    let own : Received × Took = took_at place (heard_in r c place) r in
    let taken : ◌≡◌ {A = Result (Received × Took) AcceptFault} (Ok own) (Ok (after, took)) = rw (read, found) at e in
    subst (λ (p : Received × Took). TakesEntry r p.0 p.1 tick packet what) (ok_value own (after, took) taken)
    (record {
      ssrc = refl;
      number = place.number;
      last = refl;
      next = next;
      unfinished = ap (λ (h : Hearing). h.unfinished) (section_heard r c place what items near none);
      heard = entry_heard r c place what items near none tick time;
    })

-- ## One segment

next_placed : (last packet : ℕ) → (last + 1) % 65536 ≡ packet % 65536 → placed (Some last) (packet % 65536) ≡ Ok (record { number = (last + 1) % 2 ^ 64; gap = 0; uses = Nothing })
next_placed last packet same =
    let ahead : (packet % 65536 + 65536 - last % 65536) % 65536 ≡ 1 = omega (arith, same) in
    rw ahead refl

segment_taken : (r after : Received) (took : Took) (ssrc tick packet last : ℕ) (kind : PartKind) (segment octets : List ℕ) → r.ssrc ≡ ssrc → r.last ≡ Some last → (last + 1) % 65536 ≡ packet % 65536 → HasSegment ssrc tick packet kind segment octets →
    accepted r octets ≡ Ok (after, took) → TakesEntry r after took tick packet (Part kind segment)
segment_taken r after took ssrc tick packet last kind segment octets source some same s e =
    let place : Placed = record { number = (last + 1) % 2 ^ 64; gap = 0; uses = Nothing } in
    let opens : opened r.ssrc octets ≡ Ok s.read = ap (λ (n : ℕ). opened n octets) source ∙ s.opens in
    let found : placed r.last s.read.number ≡ Ok place =
    ap (λ (o : Option ℕ). placed o s.read.number) some ∙ ap (λ (n : ℕ). placed (Some last) n) s.number ∙ next_placed last packet same in
    entry_taken r after took octets s.read place tick packet (Part kind segment) opens found refl refl (omega (arith, same)) s.alone s.time e

-- the first one, before which the packet before was taken, or none where there is none
first_taken : (r after : Received) (took : Took) (tick packet : ℕ) (kind : PartKind) (segment octets : List ℕ) → HasBefore r.last packet → HasSegment r.ssrc tick packet kind segment octets → accepted r octets ≡ Ok (after, took) →
    TakesEntry r after took tick packet (Part kind segment)
first_taken r after took tick packet kind segment octets before s e = by_last r.last refl before
  where
    by_last : (last : Option ℕ) → r.last ≡ last → HasBefore last packet → TakesEntry r after took tick packet (Part kind segment)
    by_last None none zero =
        let place : Placed = record { number = s.read.number; gap = 0; uses = All } in
        let found : placed r.last s.read.number ≡ Ok place = ap (λ (o : Option ℕ). placed o s.read.number) none in
        entry_taken r after took octets s.read place tick packet (Part kind segment) s.opens found refl (s.first zero) (let number = s.number in omega (arith, number)) s.alone s.time e
    by_last (Some last) some next = segment_taken r after took r.ssrc tick packet last kind segment octets refl some next s e

-- ## All

joined : (begun octets : List ℕ) → length begun + length octets ≤ 65536 → joined_to (Some begun) octets ≡ Some (begun ++ octets)
joined begun octets few =
    let room : ltb 65536 (length begun + length octets) ≡ false = le-ltb 65536 (length begun + length octets) few in
    rw room refl

later_heard : (ssrc tick packet last : ℕ) (r : Received) (begun rest : List ℕ) (packets : List (List ℕ)) (heard : List Heard) → HaveLaterSegments ssrc tick packet rest packets → TakesAll r packets heard → r.ssrc ≡ ssrc → r.last ≡ Some last →
    (last + 1) % 65536 ≡ packet % 65536 → r.unfinished ≡ Some begun → length begun + length rest ≤ 65536 → heard ≡ record { command = Sysex (begun ++ rest); tick = tick % 2 ^ 32; kind = Sent } ∷ []
later_heard ssrc tick packet last r begun rest packets heard (ends _ segment octets s) (takes_one _ after took _ others more e (takes_none _)) source some same kept few =
    let t = segment_taken r after took ssrc tick packet last part.Last segment octets source some same s e in
    let message = rw (kept, joined begun segment few) at t.heard in
    rw message refl
later_heard ssrc tick packet last r begun rest packets heard (goes_on _ segment behind octets others s h) (takes_one _ after took _ _ more e taken) source some same kept few =
    let t = segment_taken r after took ssrc tick packet last part.Middle segment octets source some same s e in
    let size = length-append segment behind in
    let now : after.unfinished ≡ Some (begun ++ segment) = t.unfinished ∙ ap (λ (u : Option (List ℕ)). joined_to u segment) kept ∙ joined begun segment (omega (arith, few, size)) in
    let none : took.heard ≡ [] = t.heard in
    let all = later_heard ssrc tick (packet + 1) t.number after (begun ++ segment) behind others more h taken (t.ssrc ∙ source) t.last t.next now (omega (arith, few, size, length-append begun segment)) in
    ap (λ (list : List Heard). list ++ more) none ∙ all
    ∙ ap (λ (list : List ℕ). record { command = Sysex list; tick = tick % 2 ^ 32; kind = Sent } ∷ []) (append_assoc begun segment behind)

pub segments_heard : SegmentsAreHeardOnce
segments_heard r tick packet message packets heard (begins _ segment rest octets others s h) few before (takes_one _ after took _ _ more e taken) =
    let t = first_taken r after took tick packet part.First segment octets before s e in
    let none : took.heard ≡ [] = t.heard in
    ap (λ (list : List Heard). list ++ more) none
    ∙ later_heard r.ssrc tick (packet + 1) t.number after segment rest others more h taken t.ssrc t.last t.next t.unfinished (omega (arith, few, length-append segment rest))
