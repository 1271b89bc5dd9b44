-- What the table of Chapter X keeps.
use Rattle.std.specs.Prelude.{◌≡◌, ℕ, ◌+◌, ◌%◌, ◌<◌, ◌≤◌, Bool, List, [], ◌∷◌, ◌++◌, filter, map, take, fold, length, nat_le, ◌==◌}
use Rattle.std.specs.List.{flat_map, AllByRecursion}
use Rattle.jm_cmds.specs.declared.history.Sent.{Sent}
use Rattle.jm_cmds.specs.Sent.{s_of}
use Rattle.ch_sysex.specs.declared.events.SysexEvent.{SysexEvent}
use Rattle.ch_sysex.specs.declared.events.SysexEvent.TheVariants.{Kept, ResetMessage, Reset, Other}
use Rattle.ch_sysex.specs.declared.kept.KeptMessage.{KeptMessage}
use Rattle.ch_sysex.specs.SysexEvent.{event_at, data_of, is_logged, count_step}
use Rattle.ch_sysex.specs.ChapterX.{Counted, counted_packet, last_marked, d_bit, coded_counted}

-- A message that is coded: its packet, its COUNT, and its data octets, the last one with its high bit set.
pub record SysexLog : Type 0 where
  pub packet : ℕ
  pub count : ℕ
  pub marked : List ℕ

-- how many kept messages the session has since the last Reset State command, modulo 256, and the logs, oldest first
pub record SysexKept : Type 0 where
  pub count : ℕ
  pub logs : List SysexLog

-- ## What it stands for

-- the COUNT of this event, before which there were so many
abbrev pub log_count : (count : ℕ) → SysexEvent → ℕ
log_count count Kept = (count + 1) % 256
log_count count ResetMessage = 0
log_count count Reset = 0
log_count count Other = 0

abbrev pub log_at : Counted → SysexLog
log_at counted = record {
  packet = counted_packet counted;
  count = log_count counted.0 (event_at counted.1);
  marked = last_marked (data_of counted.1.command);
}

abbrev pub logs_of : List Counted → List SysexLog
logs_of places = map log_at (filter (λ counted. is_logged (event_at counted.1)) places)

-- What is kept behind these commands, with this checkpoint: it trims the logs, and never the count.
unfoldable pub sysex_kept : (checkpoint : ℕ) → List Sent → SysexKept
sysex_kept checkpoint sent = record { count = fold count_step 0 sent % 256; logs = logs_of (coded_counted checkpoint 0 sent) }

abbrev pub none_kept : SysexKept
none_kept = record { count = 0; logs = [] }

abbrev pub log_packet : SysexLog → ℕ
log_packet log = log.packet

-- none is of a packet past this one
abbrev pub AreLogsUpTo : (packet : ℕ) → List SysexLog → Type 0
AreLogsUpTo packet logs = AllByRecursion (λ log. log_packet log ≤ packet) logs

-- ## What the calls do

-- one event more, with its data octets
abbrev pub sysex_noted : SysexEvent → (octets : List ℕ) → (packet : ℕ) → SysexKept → SysexKept
sysex_noted Kept octets packet table = record {
  count = (table.count + 1) % 256;
  logs = table.logs ++ record { packet = packet; count = (table.count + 1) % 256; marked = last_marked octets } ∷ [];
}
sysex_noted ResetMessage octets packet table = record { count = 0; logs = record { packet = packet; count = 0; marked = last_marked octets } ∷ [] }
sysex_noted Reset octets packet table = none_kept
sysex_noted Other octets packet table = table

-- what asks for room: a kept message
abbrev pub HasRoom : SysexEvent → List SysexLog → Type 0
HasRoom event logs = event ≡ Kept → length logs < 128

abbrev pub logs_since : (packet : ℕ) → List SysexLog → List SysexLog
logs_since packet logs = filter (λ log. nat_le packet (log_packet log)) logs

-- a later checkpoint trims the logs
abbrev pub sysex_cut : (packet : ℕ) → SysexKept → SysexKept
sysex_cut packet table = record { count = table.count; logs = logs_since packet table.logs }

-- ## Its octets

abbrev pub log_fresh : (packet : ℕ) → SysexLog → Bool
log_fresh packet log = log_packet log + 1 == packet

-- S T=0 C=1 F=0 D L=1 STA=3, COUNT, the data octets
abbrev pub kept_text : (packet : ℕ) → SysexLog → List ℕ
kept_text packet log = (s_of (log_fresh packet log) + (0x27 + d_bit log.marked)) ∷ log.count ∷ log.marked

abbrev pub sysex_text : (packet : ℕ) → List SysexLog → List ℕ
sysex_text packet logs = flat_map (kept_text packet) logs

abbrev pub kept_len : SysexLog → ℕ
kept_len log = 2 + length log.marked

abbrev pub kept_octets : List SysexLog → ℕ
kept_octets [] = 0
kept_octets (log ∷ logs) = kept_len log + kept_octets logs

-- ## In a ring

abbrev pub log_in : KeptMessage → SysexLog
log_in message = record { packet = message.packet; count = message.count; marked = take message.len message.marked }

abbrev pub logs_in : List KeptMessage → List SysexLog
logs_in messages = map log_in messages

-- a message has at most the octets that there is room for
abbrev pub IsShort : KeptMessage → Type 0
IsShort message = (message.len ≤ 254) × (length message.marked ≡ 254)

abbrev pub AreShort : List KeptMessage → Type 0
AreShort messages = AllByRecursion IsShort messages
