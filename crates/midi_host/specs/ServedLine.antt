-- The line that a served session ends with.
use Rattle.std.specs.Prelude.{ℕ, List, ◌++◌, codes, decimal}
use Rattle.midi_host.specs.declared.counts.Counts.{Counts}

-- `served packets P commands C joins J leaves L send-faults F`
unfoldable pub served_line : Counts → (send_faults : ℕ) → List ℕ
served_line counts send_faults =
    codes "served packets " ++ decimal counts.packets ++ codes " commands " ++ decimal counts.commands ++ codes " joins " ++ decimal counts.joins
    ++ codes " leaves " ++ decimal counts.leaves ++ codes " send-faults " ++ decimal send_faults ++ codes "\n"
