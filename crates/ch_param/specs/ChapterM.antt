-- Chapter M of a channel (RFC 6295, A.4, Figure A.4.1, and A.4.2, Figures A.4.2 to A.4.4). Four things are this project's own: P and E
-- are 0 also where a transaction is open, each half of a value is coded by itself, and the first bit of both is 0.
use Rattle.std.specs.Prelude.{ℕ, ◌+◌, ◌*◌, Bool, true, false, not, ◌&&◌, List, [], ◌∷◌, ◌++◌, Option, Some, None, length, fold, is_some, ◌==◌, if◌then◌else◌, option_to_list}
use Rattle.std.proofs.Math.Bool.{beq}
use Rattle.std.specs.List.{list_any, flat_map, filter_map}
use Rattle.jm_wire.specs.declared.heads.ParamHead.{ParamHead}
use Rattle.jm_wire.specs.Heads.{bit, param_octets}
use Rattle.jm_cmds.specs.declared.history.Sent.{Sent}
use Rattle.jm_cmds.specs.History.{coded, below}
use Rattle.jm_cmds.specs.Sent.{packet_of, is_fresh, s_bit}
use Rattle.jm_cmds.specs.declared.param.Param.{Param}
use Rattle.ch_param.specs.declared.events.ParamEvent.{ParamEvent}
use Rattle.ch_param.specs.declared.events.ParamEvent.TheVariants.{Entry, Cleared, Other}
use Rattle.jm_cmds.specs.Param.{same_param}
use Rattle.jm_cmds.specs.Selection.{no_selection, selected_param}
use Rattle.ch_param.specs.Event.{Place, placed, selection_step, packet_at, event_at, param_ends, half_ends}

-- ## What is coded

-- a parameter, and the command that entered one of its halves last
pub record Entered : Type 0 where
  pub param : Param
  pub latest : Sent

abbrev pub event_param : ParamEvent → Option Param
event_param (Entry param high value) = Some param
event_param Cleared = None
event_param Other = None

abbrev pub entered_by : Sent → Option Param → Option Entered
entered_by sent (Some param) = Some (record { param = param; latest = sent })
entered_by sent None = None

abbrev pub entered_at : (channel : ℕ) → Place → Option Entered
entered_at channel place = entered_by place.1 (event_param (event_at channel place))

-- The parameters that are coded, each with the later of its coded halves, oldest first.
abbrev pub entered : (channel checkpoint : ℕ) → List Place → List Entered
entered channel checkpoint places = filter_map (entered_at channel) (coded (param_ends channel) packet_at checkpoint places)

abbrev pub is_half : Param → (high : Bool) → ParamEvent → Bool
is_half param high (Entry other half value) = same_param param other && beq high half
is_half param high Cleared = false
is_half param high Other = false

abbrev pub event_value : ParamEvent → Option ℕ
event_value (Entry param high value) = Some value
event_value Cleared = None
event_value Other = None

-- the value of this half of this parameter among the places, where it is there
abbrev pub half_among : (channel : ℕ) → Param → (high : Bool) → List Place → Option ℕ
half_among channel param high [] = None
half_among channel param high (place ∷ places) =
    if is_half param high (event_at channel place) then event_value (event_at channel place)
    else half_among channel param high places

-- its coded value
abbrev pub coded_half : (channel checkpoint : ℕ) → List Place → Param → (high : Bool) → Option ℕ
coded_half channel checkpoint places param high = half_among channel param high (coded (half_ends channel) packet_at checkpoint places)

-- ## A log

-- a flag of the third octet: whether this half is there
abbrev pub half_flag : (weight : ℕ) → Option ℕ → ℕ
half_flag weight half = if is_some half then weight else 0

-- S PNUM-LSB, Q PNUM-MSB, J K L M N T V R, and the halves that are there: J tells the high one, K the low one.
-- V is 1, and the other flags are 0.
abbrev pub param_log : (s : ℕ) → Param → (high low : Option ℕ) → List ℕ
param_log s param high low =
    (s + param.low) ∷ (128 * bit param.nrpn + param.high) ∷ (half_flag 128 high + half_flag 64 low + 2)
    ∷ (option_to_list high ++ option_to_list low)

-- the log of a parameter, where all places of the session are these
abbrev pub entered_log : (channel checkpoint packet : ℕ) → List Place → Entered → List ℕ
entered_log channel checkpoint packet places e =
    param_log (s_bit packet e.latest) e.param (coded_half channel checkpoint places e.param true) (coded_half channel checkpoint places e.param false)

abbrev pub param_logs : (channel checkpoint packet : ℕ) → List Place → List ℕ
param_logs channel checkpoint packet places = flat_map (entered_log channel checkpoint packet places) (entered channel checkpoint places)

abbrev pub fresh_among : (packet : ℕ) → List Entered → Bool
fresh_among packet params = list_any (λ e. is_fresh packet e.latest) params

-- ## The chapter

-- S P E U W Z LENGTH: S is 0 where a log is of the packet before, the next five are 0, and LENGTH is that of the
-- whole chapter.
abbrev pub param_head : (fresh : Bool) (logs : ℕ) → ParamHead
param_head fresh logs = record { s = not fresh; p = false; e = false; u = false; w = false; z = false; length = 2 + logs }

-- the chapter of these logs; nothing where there is none
abbrev pub chapter_of : (fresh : Bool) → List ℕ → List ℕ
chapter_of fresh logs = if length logs == 0 then [] else param_octets (param_head fresh (length logs)) ++ logs

-- the places of a session
abbrev pub session_places : (channel : ℕ) → List Sent → List Place
session_places channel sent = placed channel no_selection sent

-- Chapter M of this channel in the journal of this packet, with this checkpoint.
unfoldable pub chapter_m : (channel checkpoint packet : ℕ) → List Sent → List ℕ
chapter_m channel checkpoint packet sent =
    let places = session_places channel (below packet_of packet sent) in
    chapter_of (fresh_among packet (entered channel checkpoint places)) (param_logs channel checkpoint packet places)

-- whether the S of one of its logs is 0
unfoldable pub fresh_m : (channel checkpoint packet : ℕ) → List Sent → Bool
fresh_m channel checkpoint packet sent = fresh_among packet (entered channel checkpoint (session_places channel (below packet_of packet sent)))

-- ## What the book asks of a list of sent commands

-- how many parameters the chapter codes
unfoldable pub param_count : (channel checkpoint : ℕ) → List Sent → ℕ
param_count channel checkpoint sent = length (entered channel checkpoint (session_places channel sent))

-- whether this parameter is among them
unfoldable pub has_param : (channel checkpoint : ℕ) (nrpn : Bool) (high low : ℕ) → List Sent → Bool
has_param channel checkpoint nrpn high low sent =
    list_any (λ e. same_param (record { nrpn = nrpn; high = high; low = low }) e.param) (entered channel checkpoint (session_places channel sent))

abbrev pub param_parts : Option Param → Option (Bool × ℕ × ℕ)
param_parts (Some param) = Some (param.nrpn, param.high, param.low)
param_parts None = None

-- the parameter that is selected behind all commands: whether it is an NRPN, and the halves of its number
unfoldable pub selected : (channel : ℕ) → List Sent → Option (Bool × ℕ × ℕ)
selected channel sent = param_parts (selected_param (fold (selection_step channel) no_selection sent))
