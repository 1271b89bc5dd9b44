-- What the table of Chapter M keeps.
use Rattle.std.specs.Prelude.{ℕ, ◌+◌, Bool, true, false, not, ◌&&◌, List, [], ◌∷◌, ◌++◌, Option, Some, None, fold, filter, ◌==◌, nat_le, if◌then◌else◌, option_to_list}
use Rattle.std.proofs.Math.Bool.{beq}
use Rattle.std.specs.List.{list_any, flat_map, filter_map}
use Rattle.jm_cmds.specs.declared.history.Sent.{Sent}
use Rattle.jm_cmds.specs.declared.param.Param.{Param}
use Rattle.jm_cmds.specs.declared.selection.ParamCommand.{ParamCommand}
use Rattle.jm_cmds.specs.declared.selection.Selection.{Selection}
use Rattle.jm_cmds.specs.History.{coded, standing}
use Rattle.jm_cmds.specs.Param.{same_param}
use Rattle.jm_cmds.specs.Selection.{no_selection, selection_after}
use Rattle.jm_cmds.specs.Sent.{s_of}
use Rattle.ch_param.specs.declared.events.ParamEvent.{ParamEvent}
use Rattle.ch_param.specs.declared.events.ParamEvent.TheVariants.{Entry, Cleared, Other}
use Rattle.ch_param.specs.declared.param_table.HalfRow.{HalfRow}
use Rattle.ch_param.specs.Event.{Place, param_event, selection_step, packet_at, event_at, takes_half, half_ends}
use Rattle.ch_param.specs.ChapterM.{session_places, param_log, chapter_of}

-- The selection that the whole session left, and the halves that a journal codes, oldest first.
pub record ParamsKept : Type 0 where
  pub selection : Selection
  pub halves : List HalfRow

abbrev pub half_row : (packet : ℕ) → ParamEvent → Option HalfRow
half_row packet (Entry param high value) = Some (record { packet = packet; param = param; high = high; value = value })
half_row packet Cleared = None
half_row packet Other = None

abbrev pub half_row_at : (channel : ℕ) → Place → Option HalfRow
half_row_at channel place = half_row (packet_at place) (event_at channel place)

-- What is kept behind these commands, with this checkpoint: it trims halves, and never the selection.
unfoldable pub params_kept : (channel checkpoint : ℕ) → List Sent → ParamsKept
params_kept channel checkpoint sent = record {
  selection = fold (selection_step channel) no_selection sent;
  halves = filter_map (half_row_at channel) (coded (half_ends channel) packet_at checkpoint (session_places channel sent));
}

-- ## One command more

abbrev pub is_left : ParamEvent → HalfRow → Bool
is_left event row = not (takes_half row.param row.high event)

-- the halves that it doesn't end, and behind them its own
abbrev pub halves_noted : ParamEvent → (packet : ℕ) → List HalfRow → List HalfRow
halves_noted event packet rows = filter (is_left event) rows ++ option_to_list (half_row packet event)

abbrev pub param_noted : ParamCommand → (packet : ℕ) → ParamsKept → ParamsKept
param_noted command packet table = record {
  selection = selection_after table.selection command;
  halves = halves_noted (param_event table.selection command) packet table.halves;
}

abbrev pub rows_since : (packet : ℕ) → List HalfRow → List HalfRow
rows_since packet rows = filter (λ row. nat_le packet row.packet) rows

-- a later checkpoint trims halves
abbrev pub param_cut : (packet : ℕ) → ParamsKept → ParamsKept
param_cut packet table = record { selection = table.selection; halves = rows_since packet table.halves }

-- ## The octets

abbrev pub same_row : HalfRow → HalfRow → Bool
same_row row later = same_param row.param later.param

-- the latest half of each parameter
abbrev pub last_halves : List HalfRow → List HalfRow
last_halves rows = standing same_row rows

-- the value of this half of this parameter, where it is there
abbrev pub half_of : Param → (high : Bool) → List HalfRow → Option ℕ
half_of param high [] = None
half_of param high (row ∷ rows) = if same_param param row.param && beq high row.high then Some row.value else half_of param high rows

abbrev pub row_log : (packet : ℕ) → List HalfRow → HalfRow → List ℕ
row_log packet rows row = param_log (s_of (row.packet + 1 == packet)) row.param (half_of row.param true rows) (half_of row.param false rows)

abbrev pub row_logs : (packet : ℕ) → List HalfRow → List ℕ
row_logs packet rows = flat_map (row_log packet rows) (last_halves rows)

abbrev pub rows_fresh : (packet : ℕ) → List HalfRow → Bool
rows_fresh packet rows = list_any (λ row. row.packet + 1 == packet) (last_halves rows)

-- whether this parameter has a half
abbrev pub has_row : Param → List HalfRow → Bool
has_row param rows = list_any (λ row. same_param param row.param) (last_halves rows)

abbrev pub params_text : (packet : ℕ) → List HalfRow → List ℕ
params_text packet rows = chapter_of (rows_fresh packet rows) (row_logs packet rows)
