-- Why octets are no file of format 0 that is read (Standard MIDI Files 1.0), apart from reading: what stands whole at their front, and how what
-- stands behind it can't go on, or can only with further octets. Places are counted from the file's first octet, as 0.
use Rattle.std.specs.Prelude.{◌≡◌, ◌≢◌, ℕ, ◌+◌, ◌≤◌, ◌<◌, List, [], ◌∷◌, ◌++◌, length, None}
use Rattle.jm_wire.specs.Delta.{IsField}
use Rattle.jm_cmds.specs.declared.commands.Command.{Command}
use Rattle.jm_smf.specs.declared.before.Before.{Before}
use Rattle.jm_smf.specs.declared.fault.FileFault.{FileFault}
use Rattle.jm_smf.specs.declared.fault.FileFault.TheVariants.{NotSmf, Short, HeadLength, Format, Division, BadEvent, NoStatus}
use Rattle.jm_smf.specs.Reading.{number2, nothing_before, header_name}
use Rattle.jm_smf.specs.Grammar.{SpellsEvent, IsChunk, track_name, IsHeader}

-- Nothing of a kind stands at the front of these octets, but with some octets behind them it would.
pub record IsCutOff (stands : List ℕ → Type 0) (octets : List ℕ) : Type 0 where
  pub none_yet : stands octets → ⊥
  pub more : List ℕ
  pub whole : stands (octets ++ more)

-- Nothing of a kind stands at the front of these octets, whatever follows them.
abbrev pub IsNever : (stands : List ℕ → Type 0) → List ℕ → Type 0
IsNever stands octets = (more : List ℕ) → stands (octets ++ more) → ⊥

-- ---- events

-- An event with its delta stands at the front, or the end of the track.
pub data StandsEvent (before : Before) : List ℕ → Type 0 where
  some_event : (field text rest : List ℕ) (commands : List Command) (after : Before) → IsField field → SpellsEvent before text commands after → StandsEvent before (field ++ (text ++ rest))
  last_event : (field rest : List ℕ) → IsField field → StandsEvent before (field ++ 0xff ∷ 0x2f ∷ rest)

-- Behind a delta stands a data octet, and no status octet is running that it could go with.
pub record NeedsStatus (before : Before) (octets : List ℕ) : Type 0 where
  pub field : List ℕ
  pub first : ℕ
  pub rest : List ℕ
  pub field_is : IsField field
  pub split : octets ≡ field ++ first ∷ rest
  pub low : first < 128
  pub none_runs : before.running ≡ None

-- What octets show where an event has to begin, at this place.
pub data EventShows (place : ℕ) (before : Before) (octets : List ℕ) : FileFault → Type 0 where
  event_cut_off : IsCutOff (StandsEvent before) octets → EventShows place before octets (Short place)
  needs_status : NeedsStatus before octets → EventShows place before octets (NoStatus place)
  never_event : (NeedsStatus before octets → ⊥) → IsNever (StandsEvent before) octets → EventShows place before octets (BadEvent place)

-- ---- the track

-- Whole events one after another, none of which ends the track, and what they leave.
pub data WholeEvents : Before → List ℕ → Before → Type 0 where
  no_event : (before : Before) → WholeEvents before [] before
  event_then : (before after last : Before) (field text rest : List ℕ) (commands : List Command) → IsField field → SpellsEvent before text commands after → WholeEvents after rest last
      → WholeEvents before (field ++ (text ++ rest)) last

-- What the octets of a track show from this place on: behind whole events something that is none.
pub record TrackShows (place : ℕ) (before : Before) (octets : List ℕ) (fault : FileFault) : Type 0 where
  pub front : List ℕ
  pub rest : List ℕ
  pub last : Before
  pub split : octets ≡ front ++ rest
  pub whole : WholeEvents before front last
  pub shown : EventShows (place + length front) last rest fault

-- ---- chunks

-- A chunk stands at the front.
pub data StandsChunk : List ℕ → Type 0 where
  some_chunk : (text name octets rest : List ℕ) → IsChunk text name octets → StandsChunk (text ++ rest)

-- What octets show where a chunk has to begin, at this place: no whole chunk, or a track that shows a fault.
pub data ChunkShows (place : ℕ) : List ℕ → FileFault → Type 0 where
  chunk_cut_off : (octets : List ℕ) → IsCutOff StandsChunk octets → ChunkShows place octets (Short place)
  track_shows : (text octets rest : List ℕ) (fault : FileFault) → IsChunk text track_name octets → TrackShows (place + 8) nothing_before octets fault → ChunkShows place (text ++ rest) fault

-- Whole chunks one after another, none of which is a track.
pub data WholeChunks : List ℕ → Type 0 where
  no_chunk : WholeChunks []
  chunk_then : (text name octets rest : List ℕ) → name ≢ track_name → IsChunk text name octets → WholeChunks rest → WholeChunks (text ++ rest)

-- What the octets behind the header show, which begin at this place.
pub record ChunksShow (place : ℕ) (octets : List ℕ) (fault : FileFault) : Type 0 where
  pub front : List ℕ
  pub rest : List ℕ
  pub split : octets ≡ front ++ rest
  pub whole : WholeChunks front
  pub shown : ChunkShows (place + length front) rest fault

-- ---- the file

-- A header chunk stands at the front.
pub data StandsHeader : List ℕ → Type 0 where
  some_header : (text octets rest : List ℕ) → IsChunk text header_name octets → StandsHeader (text ++ rest)

-- What the octets of a header show.
pub data HeaderShows : List ℕ → FileFault → Type 0 where
  too_small : (octets : List ℕ) → length octets < 6 → HeaderShows octets (HeadLength 4)
  other_format : (e f a b c d : ℕ) (more : List ℕ) → number2 e f ≢ 0 → HeaderShows (e ∷ f ∷ a ∷ b ∷ c ∷ d ∷ more) (Format (number2 e f))
  no_ticks : (e f a b c d : ℕ) (more : List ℕ) → number2 e f ≡ 0 → number2 c d ≡ 0 → HeaderShows (e ∷ f ∷ a ∷ b ∷ c ∷ d ∷ more) (Division 0)
  in_frames : (e f a b c d : ℕ) (more : List ℕ) → number2 e f ≡ 0 → 0x8000 ≤ number2 c d → HeaderShows (e ∷ f ∷ a ∷ b ∷ c ∷ d ∷ more) (Division (number2 c d))

-- What octets show that are no file: the first thing in order of place that isn't as it has to be.
pub data FileShows : List ℕ → FileFault → Type 0 where
  other_name : (octets : List ℕ) → ((more rest : List ℕ) → octets ++ more ≡ header_name ++ rest → ⊥) → FileShows octets NotSmf
  header_cut_off : (octets : List ℕ) → IsCutOff StandsHeader octets → FileShows octets (Short 0)
  header_shows : (text octets rest : List ℕ) (fault : FileFault) → IsChunk text header_name octets → HeaderShows octets fault → FileShows (text ++ rest) fault
  chunks_show : (text octets rest : List ℕ) (fault : FileFault) → IsChunk text header_name octets → IsHeader octets → ChunksShow (length text) rest fault → FileShows (text ++ rest) fault
