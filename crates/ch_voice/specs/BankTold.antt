-- The bank that Chapter P tells with a program, by the commands that stand before the program (RFC 6295, A.2). That the last
-- Control 32 counts wherever it stands since the reset, also before Control 0, is this project's own.
use Rattle.std.specs.Prelude.{◌≡◌, ℕ, ◌+◌, ◌≤◌, Bool, false, ◌&&◌, ◌||◌, List, [], ◌∷◌, ◌++◌, Option, Some, None, is_some, ◌==◌, if◌then◌else◌}
use Rattle.std.specs.List.{list_any}
use Rattle.std.specs.Option.{option_or}
use Rattle.jm_cmds.specs.declared.commands.Command.{Command}
use Rattle.jm_cmds.specs.declared.commands.Command.TheVariants.{Program, Control}
use Rattle.jm_cmds.specs.declared.history.Sent.{Sent}
use Rattle.jm_cmds.specs.Control.{is_reset}
use Rattle.jm_cmds.specs.History.{below}
use Rattle.jm_cmds.specs.Sent.{packet_of, s_bit}
use Rattle.ch_voice.specs.Bank.{half_of}
use Rattle.ch_voice.specs.ChapterP.{chapter_p}

-- ## Commands, looked for from the end

-- the value that the command gives the controller with this number in this channel
abbrev pub control_value : (channel number : ℕ) → Command → Option ℕ
control_value channel number (Control at other value) = if at == channel && other == number then Some value else None
control_value channel number _ = None

abbrev pub is_control : (channel number : ℕ) → Sent → Bool
is_control channel number place = is_some (control_value channel number place.command)

-- the value that the last of these commands that is such a Control gives it
abbrev pub last_control : (channel number : ℕ) → List Sent → Option ℕ
last_control channel number [] = None
last_control channel number (place ∷ later) = option_or (last_control channel number later) (control_value channel number place.command)

-- the places behind the last one that passes the test; all, where none does
abbrev pub behind_last : (Sent → Bool) → List Sent → List Sent
behind_last test [] = []
behind_last test (place ∷ later) = if list_any test later then behind_last test later else (if test place then later else place ∷ later)

-- the places since the last Reset State command
abbrev pub since_reset : List Sent → List Sent
since_reset places = behind_last (λ place. is_reset place.command) places

abbrev pub is_program : (channel : ℕ) → Command → Bool
is_program channel (Program at program) = at == channel
is_program channel _ = false

-- ## What the chapter says

-- A packet's history has this Program of the channel behind `before`, and in `later` no other one and no Reset State
-- command; and its packet is none before the checkpoint.
pub record IsLastProgram (channel checkpoint packet program : ℕ) (sent before : List Sent) (place : Sent) (later : List Sent) : Type 0 where
  pub command : place.command ≡ Program channel program
  pub recent : checkpoint ≤ place.packet
  pub history : below packet_of packet sent ≡ before ++ place ∷ later
  pub last : list_any (λ after. is_program channel after.command || is_reset after.command) later ≡ false

-- X as the high bit of an octet: 1 where a Control 121 stands behind the last Control 0
abbrev pub x_bit : (channel : ℕ) → List Sent → ℕ
x_bit channel places = if list_any (is_control channel 121) (behind_last (is_control channel 0) places) then 128 else 0

pub record BankTold : Type 0 where
  -- Without a Control 0 before the program since the last reset, B, BANK-MSB, X and BANK-LSB are 0.
  pub untold : (channel checkpoint packet program : ℕ) (sent before : List Sent) (place : Sent) (later : List Sent)
      → IsLastProgram channel checkpoint packet program sent before place later
      → last_control channel 0 (since_reset before) ≡ None
      → chapter_p channel checkpoint packet sent ≡ (s_bit packet place + program) ∷ 0 ∷ 0 ∷ []
  -- With one, B is 1, BANK-MSB is the value of the last, X says whether a Control 121 stands between it and the program, and BANK-LSB is
  -- the value of the last Control 32, or 0.
  pub told : (channel checkpoint packet program msb : ℕ) (sent before : List Sent) (place : Sent) (later : List Sent)
      → IsLastProgram channel checkpoint packet program sent before place later
      → last_control channel 0 (since_reset before) ≡ Some msb
      → chapter_p channel checkpoint packet sent
      ≡ (s_bit packet place + program) ∷ (128 + msb) ∷ (x_bit channel (since_reset before) + half_of (last_control channel 32 (since_reset before))) ∷ []
