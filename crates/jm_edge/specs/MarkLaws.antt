-- Datagrams stand as they are when more octets come behind them, and one more mark is one more datagram.
use Rattle.std.specs.Prelude.{◌≡◌, ℕ, zero, suc, ◌+◌, ◌-◌, ◌≤◌, List, [], ◌∷◌, ◌++◌, length, take, drop, slice_get, IfSome}
use Rattle.std.proofs.Common.{refl, arith, length-append}
use Rattle.std.proofs.lemmas.List.{take-append-le, drop-append-le, length-drop, take_all}
use Rattle.std.proofs.Math.Seq.{drop-append_seam}
use Rattle.jm_edge.specs.declared.Addr.{Addr}
use Rattle.jm_edge.specs.declared.memory_port.Mark.{Mark}
use Rattle.jm_edge.specs.Wire.{Letter}
use Rattle.jm_edge.specs.Marks.{letter_at, letters, AreWithin}

part-longer : (octets more : List ℕ) (start past : ℕ) → start ≤ past → past ≤ length octets → take (past - start) (drop start (octets ++ more)) ≡ take (past - start) (drop start octets)
part-longer octets more start past s p =
    rw (drop-append-le start octets more (omega (arith, s, p)))
    (take-append-le (past - start) (drop start octets) more (omega (arith, s, p, length-drop start octets)))

pub letters-longer : (octets more : List ℕ) (marks : List Mark) → AreWithin (length octets) marks → letters (octets ++ more) marks ≡ letters octets marks
letters-longer octets more [] w = refl
letters-longer octets more (mark ∷ marks) w = rw (part-longer octets more mark.start mark.past w.0 w.1, letters-longer octets more marks w.2) refl

pub AreWithin-longer : (len more : ℕ) (marks : List Mark) → AreWithin len marks → AreWithin (len + more) marks
AreWithin-longer len more [] w = tt
AreWithin-longer len more (mark ∷ marks) w = (w.0, omega (arith, w.1), AreWithin-longer len more marks w.2)

pub AreWithin-push : (len : ℕ) (marks : List Mark) (mark : Mark) → AreWithin len marks → mark.start ≤ mark.past → mark.past ≤ len → AreWithin len (marks ++ mark ∷ [])
AreWithin-push len [] mark w s p = (s, p, tt)
AreWithin-push len (first ∷ marks) mark w s p = (w.0, w.1, AreWithin-push len marks mark w.2 s p)

pub letters-append : (octets : List ℕ) (marks : List Mark) (mark : Mark) → letters octets (marks ++ mark ∷ []) ≡ letters octets marks ++ letter_at octets mark ∷ []
letters-append octets [] mark = refl
letters-append octets (first ∷ marks) mark = rw (letters-append octets marks mark) refl

-- a datagram behind all others
pub letters-push : (octets more : List ℕ) (marks : List Mark) (to : Addr) (past : ℕ) → AreWithin (length octets) marks → past ≡ length octets + length more
    → letters (octets ++ more) (marks ++ record { to = to; start = length octets; past = past } ∷ []) ≡ letters octets marks ++ record { addr = to; octets = more } ∷ []
letters-push octets more marks to past w e =
    rw (letters-append (octets ++ more) marks (record { to = to; start = length octets; past = past }), letters-longer octets more marks w, drop-append_seam octets more, take_all (past - length octets) more (omega (arith, e))) refl

-- what stands after one was added
pub letters_added : (octets octets' more : List ℕ) (marks marks' : List Mark) (to : Addr) (start past : ℕ) → AreWithin (length octets) marks
    → octets' ≡ octets ++ more → start ≡ length octets → past ≡ length octets' → marks' ≡ marks ++ record { to = to; start = start; past = past } ∷ []
    → letters octets' marks' ≡ letters octets marks ++ record { addr = to; octets = more } ∷ []
letters_added octets octets' more marks marks' to start past w o s p m =
    rw (m, s, o) (letters-push octets more marks to past w (rw (p, o) (length-append octets more)))

pub within_added : (octets octets' more : List ℕ) (marks marks' : List Mark) (to : Addr) (start past : ℕ) → AreWithin (length octets) marks
    → octets' ≡ octets ++ more → start ≡ length octets → past ≡ length octets' → marks' ≡ marks ++ record { to = to; start = start; past = past } ∷ []
    → AreWithin (length octets') marks'
within_added octets octets' more marks marks' to start past w o s p m =
    let len : length octets' ≡ length octets + length more = rw o (length-append octets more) in
    rw (m, len) (AreWithin-push (length octets + length more) marks (record { to = to; start = start; past = past }) (AreWithin-longer (length octets) (length more) marks w) (omega (arith, s, p, len)) (omega (arith, p, len)))

-- a mark lies within the octets
pub within_at : (len : ℕ) (marks : List Mark) (k : ℕ) → AreWithin len marks → IfSome (slice_get marks k) (λ mark. (mark.start ≤ mark.past) × (mark.past ≤ len))
within_at len [] k w = tt
within_at len (mark ∷ marks) zero w = (w.0, w.1)
within_at len (mark ∷ marks) (suc k) w = within_at len marks k w.2
