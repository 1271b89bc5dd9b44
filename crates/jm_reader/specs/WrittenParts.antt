-- A channel journal by its parts: chapters that are each read again are read one behind the other, and behind their header.
use Rattle.std.proofs.Common.{◌≡◌, ℕ, ◌+◌, ◌-◌, ◌≤◌, true, false, List, [], ◌∷◌, ◌++◌, length, take, drop, map, Some, Ok, refl, sym, ap, ◌∙◌, arith, inl, inr, length-append, append_assoc, append-nil}
use Rattle.std.specs.List.{flat_map, AllByRecursion}
use Rattle.std.proofs.Math.Seq.{take-append_seam, drop-append_seam}
use Rattle.std.proofs.lemmas.Bool.{cases_Bool, le-ltb, ltb-false}
use Rattle.jm_wire.specs.declared.heads.ChannelHead.{ChannelHead}
use Rattle.jm_wire.specs.Heads.{FitsChannel, channel_octets}
use Rattle.jm_wire.specs.HeadLaws.{channel_back}
use Rattle.jm_journal.specs.Channel.{is_there}
use Rattle.jm_reader.specs.declared.channel.ChannelChapter.{ChannelChapter}
use Rattle.jm_reader.specs.declared.logs.Log.{Log}
use Rattle.jm_reader.specs.Chapter.{Chapter, chapter, with_size}
use Rattle.jm_reader.specs.ChannelJournal.{is_flagged, chapter_read, flagged_read, order, behind_chapter, chapters_read, sized, head_read, inside_read, behind_head, channel_read}

-- a chapter, its octets, and its logs
pub record Part : Type 0 where
  pub which : ChannelChapter
  pub text : List ℕ
  pub logs : List Log

-- it is read by this header, whatever octets follow
abbrev pub IsRead : ChannelHead → Part → Type 0
IsRead head part = (rest : List ℕ) → flagged_read head part.which (part.text ++ rest) ≡ Some (part.logs, length part.text)

-- what isn't there has no octets
pub nothing : (octets : List ℕ) → is_there octets ≡ false → octets ≡ []
nothing [] e = refl
nothing (x ∷ xs) e = absurd (let none = ltb-false 0 (length (x ∷ xs)) e in omega (arith, none))

-- what is told of a chapter's octets gives that, where the header flags it exactly if it is there
pub part_read : (head : ChannelHead) (part : Part) → is_flagged head part.which ≡ is_there part.text →
    (is_there part.text ≡ true → (rest : List ℕ) → chapter_read head.chan part.which (part.text ++ rest) ≡ Some (part.logs, length part.text)) →
    (is_there part.text ≡ false → part.logs ≡ []) → IsRead head part
part_read head part flag again none rest =
    elim (cases_Bool (is_there part.text)) [
      | inl t ↦ rw (flag ∙ t) (again t rest)
      | inr f ↦ rw (flag ∙ f, nothing part.text f, none f) refl
    ]

abbrev pub text_of : Part → List ℕ
text_of part = part.text

abbrev pub logs_of : Part → List Log
logs_of part = part.logs

abbrev pub which_of : Part → ChannelChapter
which_of part = part.which

pub parts_read : (head : ChannelHead) (parts : List Part) (place : ℕ) (before : List Log) → AllByRecursion (IsRead head) parts →
    chapters_read head (map which_of parts) place before (flat_map text_of parts) ≡ Ok (before ++ flat_map logs_of parts)
parts_read head [] place before h = ap (λ (logs : List Log). Ok logs) (sym (append-nil before))
parts_read head (p ∷ ps) place before h =
    let later = flat_map text_of ps in
    ap (λ (read : Chapter). behind_chapter (chapter place before read) (λ used. chapters_read head (map which_of ps) (place + used.1) used.0 (drop used.1 (p.text ++ later)))) (h.0 later)
    ∙ ap (λ (octets : List ℕ). chapters_read head (map which_of ps) (place + length p.text) (before ++ p.logs) octets) (drop-append_seam p.text later)
    ∙ parts_read head ps (place + length p.text) (before ++ p.logs) h.1
    ∙ ap (λ (logs : List Log). Ok logs) (append_assoc before p.logs (flat_map logs_of ps))

sized_again : (place size : ℕ) (head : ChannelHead) → head.length ≤ size → 3 ≤ head.length → sized place size head ≡ Ok head
sized_again place size head within some =
    rw (le-ltb size head.length within, le-ltb head.length 3 some) refl

-- a header and its chapters, whatever octets follow
pub headed_read : (head : ChannelHead) (chapters rest : List ℕ) (place : ℕ) (before after : List Log) → FitsChannel head → head.h ≡ false → head.length ≡ 3 + length chapters →
    chapters_read head order (place + 3) before chapters ≡ Ok after →
    channel_read place before ((channel_octets head ++ chapters) ++ rest) ≡ Ok (after, head.length)
unfolding channel_read
headed_read head chapters rest place before after fits no_h size read =
    let octets = (channel_octets head ++ chapters) ++ rest in
    let found : head_read place octets ≡ Ok head =
    ap (sized place (length (chapters ++ rest) + 3)) (channel_back head fits)
    ∙ sized_again place (length (chapters ++ rest) + 3) head (omega (arith, length-append chapters rest)) (omega arith) in
    let inside : take (head.length - 3) (chapters ++ rest) ≡ chapters =
    ap (λ (n : ℕ). take n (chapters ++ rest)) (let n : head.length - 3 ≡ length chapters = omega arith in n) ∙ take-append_seam chapters rest in
    ap (behind_head place before octets) found
    ∙ ap (λ (taken : List ℕ). with_size head.length (inside_read head (place + 3) before taken)) inside
    ∙ rw no_h (ap (with_size head.length) read)
