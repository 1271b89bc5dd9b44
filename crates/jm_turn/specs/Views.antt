-- What each step makes of the view of the pass that steps.
use Rattle.std.specs.Prelude.{ℕ, ◌+◌, ◌-◌, List, [], ◌∷◌, ◌++◌, length, Some, None}
use Rattle.jm_turn.specs.declared.view.Made.{Made}
use Rattle.jm_turn.specs.declared.view.View.{View}
use Rattle.jm_turn.specs.declared.view.Stage.TheVariants.{Idle, Waiting, Holding}
use Rattle.jm_turn.specs.declared.view.Kind.TheVariants.{Opening, Split, Note, Spent}
use Rattle.jm_turn.specs.Turns.{made, longer}

module _ {T C : Type 0} where
  -- the opening pass at the start: its number is 0, and the next pass gets 1
  abbrev pub newcomer : T → View T C
  newcomer first = record { first = Some first; stage = Idle; ticket = 0; kind = Opening; number = 0; seen = []; mine = []; next = 1; out = 0; ended = []; before = []; told = [] }

  -- it has drawn this ticket
  abbrev pub drew : ℕ → View T C → View T C
  drew ticket v = record v { stage = Waiting; ticket = ticket }

  -- it has seen this much
  abbrev pub saw : List (Made C) → View T C → View T C
  saw seen v = record v { seen = seen }

  -- its turn has come, and it has seen the whole history
  abbrev pub took : List (Made C) → View T C → View T C
  took seen v = record v { stage = Holding; seen = seen }

  -- it has made this turn, which is the last of the history, and has no ticket
  abbrev pub gave : C → View T C → View T C
  gave what v = record v { stage = Idle; ticket = 0; seen = v.seen ++ made v.number what ∷ []; mine = v.mine ++ length v.seen ∷ [] }

  -- the opening pass after a split, and the pass that was split from it
  abbrev pub parted : View T C → View T C
  parted v = record v { next = v.next + 1; out = v.out + 1 }

  abbrev pub part_of : View T C → View T C
  part_of v = record { first = v.first; stage = Idle; ticket = 0; kind = Split; number = v.next; seen = v.seen; mine = []; next = 0; out = 0; ended = []; before = []; told = [] }

  -- a note has neither number nor places
  abbrev pub note_of : View T C → View T C
  note_of v = record { first = v.first; stage = Idle; ticket = 0; kind = Note; number = 0; seen = v.seen; mine = []; next = 0; out = 0; ended = []; before = []; told = [] }

  -- v has learned what w has seen: it keeps the longer list, and both as they were
  abbrev pub learned : View T C → View T C → View T C
  learned v w = record v { seen = longer v.seen w.seen; before = v.seen; told = w.seen }

  -- the same, and the pass w has ended: its number and its places are kept
  abbrev pub joined : View T C → View T C → View T C
  joined v w = record v { seen = longer v.seen w.seen; before = v.seen; told = w.seen; out = v.out - 1; ended = v.ended ++ (w.number, w.mine) ∷ [] }

  abbrev pub spent : View T C
  spent = record { first = None; stage = Idle; ticket = 0; kind = Spent; number = 0; seen = []; mine = []; next = 0; out = 0; ended = []; before = []; told = [] }
