-- What is known of the numbers of Chapter N, one note more.
use Rattle.std.proofs.Common.{◌≡◌, ◌+◌, ◌≤◌, Bool, refl, arith}
use Rattle.ch_notes.specs.declared.events.NoteEvent.{NoteEvent}
use Rattle.ch_notes.specs.declared.events.NoteEvent.TheVariants.{Struck, Released, Cleared, Other}
use Rattle.ch_notes.specs.declared.shape.Shape.{Shape}
use Rattle.ch_notes.specs.NoteEvent.{IsWithin}
use Rattle.ch_notes.specs.Shape.{no_notes, shape_step}
use Rattle.ch_notes.specs.Count.{IsCount}

pub count_none : IsCount no_notes
count_none = record {
  low = omega arith;
  high = omega arith;
  notes = omega arith;
  none_low = λ e. refl;
  none_high = λ e. refl;
  one = λ e. absurd (omega (arith, e));
  some = λ e. absurd (omega (arith, e));
}

pub count_step : (s : Shape) (fresh : Bool) (event : NoteEvent) → IsWithin event → IsCount s → s.logs + s.off ≤ 127 → IsCount (shape_step s fresh event)
count_step s fresh (Struck note velocity) w c l = record {
  low = c.low;
  high = c.high;
  notes = omega (arith, l);
  none_low = c.none_low;
  none_high = c.none_high;
  one = c.one;
  some = c.some;
}
count_step s fresh (Released note velocity) w c l = record {
  low = omega (arith, c.low);
  high = omega (arith, c.high, w);
  notes = omega (arith, l);
  none_low = λ e. absurd (omega (arith, e));
  none_high = λ e. absurd (omega (arith, e));
  one = λ e. (
      let none : s.off ≡ 0 = omega (arith, e) in
      omega (arith, c.none_low none, c.none_high none, w)
      );
  some = λ e. omega arith;
}
count_step s fresh Cleared w c l = c
count_step s fresh Other w c l = c
