use Rattle.std.proofs.Common.{◌≡◌, ℕ, List, [], ap, sym, ◌∙◌}
use Rattle.ch_system.specs.declared.kept.Latest.{Latest}
use Rattle.ch_system.specs.declared.kept.Counted.{Counted}
use Rattle.ch_system.specs.Tables.{CountedKept, SimpleKept, none_counted, none_simple, counted_in, latest_in}
use Rattle.ch_system.specs.TableLaws.{simple_none}
use Rattle.ch_system.proofs.simple_table.SimpleTable.new.Goals as goal

empty : (reset tune : Counted) (song : Latest) → counted_in reset ≡ none_counted → counted_in tune ≡ none_counted → latest_in song ≡ [] →
    record { reset = counted_in reset; tune = counted_in tune; song = latest_in song } ≡ none_simple
empty reset tune song r t s =
    let one : CountedKept → SimpleKept = λ a. record { reset = a; tune = counted_in tune; song = latest_in song } in
    let two : CountedKept → SimpleKept = λ a. record { reset = none_counted; tune = a; song = latest_in song } in
    let three : List (ℕ × ℕ) → SimpleKept = λ a. record { reset = none_counted; tune = none_counted; song = a } in
    ap one r ∙ ap two t ∙ ap three s

pub returns-clause-stands : goal.returns-clause-stands
returns-clause-stands c = empty c.none.result c.none-2.result c.none-3.result c.none.ensures.state c.none-2.ensures.state c.none-3.ensures ∙ sym simple_none
