use Rattle.std.proofs.Common.{◌≡◌, fold, drop}
use Rattle.jm_cmds.specs.Selection.{no_selection}
use Rattle.ch_param.specs.Event.{selection_step}
use Rattle.ch_param.proofs.walk.selection_of.Given as goal

abbrev pub invariant-loop-place : goal.invariant-loop-place
invariant-loop-place l =
    fold (selection_step l.channel) l.selection (drop l.place-index l.list) ≡ fold (selection_step l.channel) no_selection l.list
