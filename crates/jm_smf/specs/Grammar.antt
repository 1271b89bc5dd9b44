-- The grammar of a file (Standard MIDI Files 1.0), apart from reading and writing: which commands its octets spell, and at which
-- ticks. Each event stands under what the events before it leave (`Before`).
use Rattle.std.specs.Prelude.{◌≡◌, ◌≢◌, ℕ, ◌+◌, ◌<◌, ◌≤◌, true, false, List, [], ◌∷◌, ◌++◌, drop, length, Some, None}
use Rattle.std.specs.List.{flat_map, AllByRecursion}
use Rattle.jm_wire.specs.Delta.{value, IsField}
use Rattle.jm_cmds.specs.declared.commands.Command.{Command}
use Rattle.jm_cmds.specs.declared.commands.Command.TheVariants.{Sysex}
use Rattle.jm_cmds.specs.Command.{spelling, status_of, IsCommand}
use Rattle.jm_cmds.specs.Data.{IsSysex}
use Rattle.jm_smf.specs.declared.before.Before.{Before}
use Rattle.jm_smf.specs.declared.timed.Timed.{Timed}
use Rattle.jm_smf.specs.Reading.{number2, number4, timed_at, nothing_before, header_name}

-- ---- events

-- These octets stand behind a field that tells how many they are.
pub record IsBlock (text octets : List ℕ) : Type 0 where
  pub field : List ℕ
  pub field_is : IsField field
  pub size_is : value field ≡ length octets
  pub text_is : text ≡ field ++ octets

-- the last of these octets is no F7, or there is none
abbrev pub IsUnended : List ℕ → Type 0
IsUnended octets = (front : List ℕ) → octets ≡ front ++ 0xf7 ∷ [] → ⊥

-- These octets spell commands one after another, each with its status octet; octets that spell none so tell nothing.
pub data Escapes : List ℕ → List Command → Type 0 where
  wholly : (commands : List Command) → AllByRecursion IsCommand commands → Escapes (flat_map spelling commands) commands
  passed : (octets : List ℕ) → ((commands : List Command) → AllByRecursion IsCommand commands → octets ≡ flat_map spelling commands → ⊥) → Escapes octets []

-- A channel command leaves its status octet as the running status; every other event leaves none.
abbrev pub behind_channel : Before → Command → Before
behind_channel before command = record { running = Some (status_of command); unfinished = before.unfinished }

abbrev pub no_running : Before → Before
no_running before = record { running = None; unfinished = before.unfinished }

abbrev pub message_begun : Before
message_begun = record { running = None; unfinished = true }

abbrev pub message_ended : Before
message_ended = record { running = None; unfinished = false }

-- The octets of one event behind its delta, the commands that it tells, and what it leaves for the next one. The meta event
-- that ends a track is none of them. An F7 event goes on with a message that an F0 event began and didn't end, as long as
-- it isn't ended; elsewhere it is an escape, which tells commands.
pub data SpellsEvent (before : Before) : List ℕ → List Command → Before → Type 0 where
  with_status : (command : Command) → IsCommand command → status_of command < 0xf0 → SpellsEvent before (spelling command) (command ∷ []) (behind_channel before command)
  without_status : (command : Command) → IsCommand command → status_of command < 0xf0 → before.running ≡ Some (status_of command)
      → SpellsEvent before (drop 1 (spelling command)) (command ∷ []) (behind_channel before command)
  meta : (kind : ℕ) (text octets : List ℕ) → kind ≢ 0x2f → IsBlock text octets → SpellsEvent before (0xff ∷ kind ∷ text) [] (no_running before)
  message : (text octets : List ℕ) → IsSysex octets → IsBlock text (octets ++ 0xf7 ∷ []) → SpellsEvent before (0xf0 ∷ text) (Sysex octets ∷ []) (no_running before)
  message_begins : (text octets : List ℕ) → IsUnended octets → IsBlock text octets → SpellsEvent before (0xf0 ∷ text) [] message_begun
  message_goes_on : (text octets : List ℕ) → before.unfinished ≡ true → IsUnended octets → IsBlock text octets → SpellsEvent before (0xf7 ∷ text) [] message_begun
  message_ends : (text octets : List ℕ) → before.unfinished ≡ true → IsBlock text (octets ++ 0xf7 ∷ []) → SpellsEvent before (0xf7 ∷ text) [] message_ended
  escape : (text octets : List ℕ) (commands : List Command) → before.unfinished ≡ false → IsBlock text octets → Escapes octets commands → SpellsEvent before (0xf7 ∷ text) commands message_ended

-- ---- the track

-- The octets of a track from here on, behind what stands at this tick: the commands of its events, each at the sum of all deltas up to
-- its own. The first FF 2F ends the track, and what follows it tells nothing.
pub data SpellsTrack : Before → (tick : ℕ) → List ℕ → List Timed → Type 0 where
  track_ends : (before : Before) (tick : ℕ) (field rest : List ℕ) → IsField field → SpellsTrack before tick (field ++ 0xff ∷ 0x2f ∷ rest) []
  one_more : (before after : Before) (tick : ℕ) (field text rest : List ℕ) (commands : List Command) (list : List Timed) → IsField field → SpellsEvent before text commands after
      → SpellsTrack after (tick + value field) rest list → SpellsTrack before tick (field ++ (text ++ rest)) (timed_at (tick + value field) commands ++ list)

-- ---- chunks

-- four octets as the number that they tell, the high one first
pub data IsSize : List ℕ → ℕ → Type 0 where
  four : (a b c d : ℕ) → IsSize (a ∷ b ∷ c ∷ d ∷ []) (number4 a b c d)

-- a chunk: a name of four octets, the number of the octets in it, and these
pub record IsChunk (text name octets : List ℕ) : Type 0 where
  pub size : List ℕ
  pub four : length name ≡ 4
  pub size_is : IsSize size (length octets)
  pub text_is : text ≡ name ++ (size ++ octets)

abbrev pub track_name : List ℕ
track_name = 0x4d ∷ 0x54 ∷ 0x72 ∷ 0x6b ∷ []

-- The chunks behind the header: those of other names are passed over up to the first track, and what follows it tells nothing.
pub data SpellsChunks : List ℕ → List Timed → Type 0 where
  first_track : (text octets rest : List ℕ) (list : List Timed) → IsChunk text track_name octets → SpellsTrack nothing_before 0 octets list → SpellsChunks (text ++ rest) list
  passed_over : (text name octets rest : List ℕ) (list : List Timed) → name ≢ track_name → IsChunk text name octets → SpellsChunks rest list → SpellsChunks (text ++ rest) list

-- What stands in the header: format 0, any number of tracks, a division in ticks for a quarter note, and maybe more.
pub data IsHeader : List ℕ → Type 0 where
  header : (e f a b c d : ℕ) (more : List ℕ) → number2 e f ≡ 0 → 1 ≤ number2 c d → number2 c d < 0x8000 → IsHeader (e ∷ f ∷ a ∷ b ∷ c ∷ d ∷ more)

-- The octets are a file of format 0 whose first track spells this list.
pub record IsFile (octets : List ℕ) (list : List Timed) : Type 0 where
  pub text : List ℕ
  pub head : List ℕ
  pub rest : List ℕ
  pub split : octets ≡ text ++ rest
  pub headed : IsChunk text header_name head
  pub header : IsHeader head
  pub spelled : SpellsChunks rest list
