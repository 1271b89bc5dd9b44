-- What the tables of the system chapters keep.
use Rattle.std.specs.Prelude.{ℕ, ◌+◌, ◌%◌, Bool, ◌||◌, List, [], ◌∷◌, ◌++◌, Option, map, if◌then◌else◌}
use Rattle.std.specs.List.{flat_map, list_any}
use Rattle.std.specs.Option.{option_to_list}
use Rattle.jm_cmds.specs.declared.commands.Command.{Command}
use Rattle.jm_cmds.specs.declared.history.Sent.{Sent}
use Rattle.jm_cmds.specs.declared.sequencing.SequencerPart.{SequencerPart}
use Rattle.jm_cmds.specs.declared.frames.TimePart.{TimePart}
use Rattle.jm_cmds.specs.Control.{is_reset}
use Rattle.jm_cmds.specs.Frames.{frame_event, time_code_step, time_code_after}
use Rattle.jm_cmds.specs.KeptItem.{kept, kept_fresh, kept_since}
use Rattle.jm_cmds.specs.Sent.{packet_of, s_of}
use Rattle.jm_cmds.specs.Sequencing.{sequencer_event, sequencer_step, sequencer_after}
use Rattle.ch_system.specs.declared.items.SystemItem.{SystemItem}
use Rattle.ch_system.specs.declared.items.SystemItem.TheVariants.{Reset, Tune, Song, Sensing, Sequence, Frames}
use Rattle.ch_system.specs.declared.kept.Latest.{Latest}
use Rattle.ch_system.specs.declared.kept.Counted.{Counted}
use Rattle.ch_system.specs.Items.{is_of, is_place_of, touches, item_count}
use Rattle.ch_system.specs.ChapterD.{song_of, d_head, headed}
use Rattle.ch_system.specs.ChapterQ.{position_octets}
use Rattle.ch_system.specs.ChapterF.{time_octets_of}

-- ## One item

-- the song of a place, 0 where it chooses none
abbrev pub song_at : Sent → ℕ
song_at place = song_of place.command

-- The place of the item that a journal with this checkpoint codes behind these commands: its packet and its song.
unfoldable pub item_kept : SystemItem → (checkpoint : ℕ) → List Sent → List (ℕ × ℕ)
item_kept item checkpoint sent = kept (is_place_of item) (touches item) packet_of song_at checkpoint sent

-- one command more
abbrev pub item_noted : SystemItem → Command → (packet : ℕ) → List (ℕ × ℕ) → List (ℕ × ℕ)
item_noted item command packet ks =
    if is_of item command then (packet, song_of command) ∷ []
    else (if is_reset command then [] else ks)

abbrev pub latest_in : Latest → List (ℕ × ℕ)
latest_in latest = option_to_list latest.place

-- ## An item that is counted

-- how often the session sent it, modulo 128, and the place that is coded
pub record CountedKept : Type 0 where
  pub count : ℕ
  pub kept : List (ℕ × ℕ)

-- What is kept behind these commands, with this checkpoint: it trims the place, and never the count.
abbrev pub counted_kept : SystemItem → (checkpoint : ℕ) → List Sent → CountedKept
counted_kept item checkpoint sent = record { count = item_count item sent; kept = item_kept item checkpoint sent }

abbrev pub count_noted : SystemItem → Command → (count : ℕ) → ℕ
count_noted item command count = if is_of item command then (count + 1) % 128 else count

abbrev pub counted_noted : SystemItem → Command → (packet : ℕ) → CountedKept → CountedKept
counted_noted item command packet table = record { count = count_noted item command table.count; kept = item_noted item command packet table.kept }

abbrev pub counted_cut : (packet : ℕ) → CountedKept → CountedKept
counted_cut packet table = record { count = table.count; kept = kept_since packet table.kept }

abbrev pub none_counted : CountedKept
none_counted = record { count = 0; kept = [] }

-- S COUNT
abbrev pub counted_text : (packet : ℕ) → CountedKept → List ℕ
counted_text packet table = map (λ k. s_of (kept_fresh packet k) + table.count) table.kept

abbrev pub counted_in : Counted → CountedKept
counted_in counted = record { count = counted.count; kept = latest_in counted.latest }

-- ## Chapter D

pub record SimpleKept : Type 0 where
  pub reset : CountedKept
  pub tune : CountedKept
  pub song : List (ℕ × ℕ)

unfoldable pub simple_kept : (checkpoint : ℕ) → List Sent → SimpleKept
simple_kept checkpoint sent = record {
  reset = counted_kept Reset checkpoint sent;
  tune = counted_kept Tune checkpoint sent;
  song = item_kept Song checkpoint sent;
}

abbrev pub none_simple : SimpleKept
none_simple = record { reset = none_counted; tune = none_counted; song = [] }

abbrev pub simple_noted : Command → (packet : ℕ) → SimpleKept → SimpleKept
simple_noted command packet table = record {
  reset = counted_noted Reset command packet table.reset;
  tune = counted_noted Tune command packet table.tune;
  song = item_noted Song command packet table.song;
}

abbrev pub simple_cut : (packet : ℕ) → SimpleKept → SimpleKept
simple_cut packet table = record {
  reset = counted_cut packet table.reset;
  tune = counted_cut packet table.tune;
  song = kept_since packet table.song;
}

-- S VALUE
abbrev pub song_text : (packet : ℕ) → List (ℕ × ℕ) → List ℕ
song_text packet ks = map (λ k. s_of (kept_fresh packet k) + k.1) ks

abbrev pub simple_fresh : (packet : ℕ) → SimpleKept → Bool
simple_fresh packet table = list_any (kept_fresh packet) table.reset.kept || list_any (kept_fresh packet) table.tune.kept || list_any (kept_fresh packet) table.song

abbrev pub simple_text : (packet : ℕ) → SimpleKept → List ℕ
simple_text packet table =
    let resets = counted_text packet table.reset in
    let tunes = counted_text packet table.tune in
    let songs = song_text packet table.song in
    headed (d_head (simple_fresh packet table) resets tunes songs) (resets ++ tunes ++ songs)

-- ## Chapter V

unfoldable pub sensing_kept : (checkpoint : ℕ) → List Sent → CountedKept
sensing_kept checkpoint sent = counted_kept Sensing checkpoint sent

-- ## Chapter Q

-- the song position that the whole session left, and the place that is coded
pub record SequencerKept : Type 0 where
  pub state : Option SequencerPart
  pub kept : List (ℕ × ℕ)

unfoldable pub sequencer_kept : (checkpoint : ℕ) → List Sent → SequencerKept
sequencer_kept checkpoint sent = record { state = sequencer_after sent; kept = item_kept Sequence checkpoint sent }

abbrev pub sequencer_noted : Command → (packet : ℕ) → SequencerKept → SequencerKept
sequencer_noted command packet table = record {
  state = sequencer_step table.state (sequencer_event command);
  kept = item_noted Sequence command packet table.kept;
}

abbrev pub sequencer_cut : (packet : ℕ) → SequencerKept → SequencerKept
sequencer_cut packet table = record { state = table.state; kept = kept_since packet table.kept }

abbrev pub sequencer_text : (packet : ℕ) → SequencerKept → List ℕ
sequencer_text packet table = flat_map (λ k. position_octets (kept_fresh packet k) table.state) table.kept

-- ## Chapter F

-- the time code that the whole session left, and the place that is coded
pub record TimeKept : Type 0 where
  pub code : Option TimePart
  pub kept : List (ℕ × ℕ)

unfoldable pub time_kept : (checkpoint : ℕ) → List Sent → TimeKept
time_kept checkpoint sent = record { code = time_code_after sent; kept = item_kept Frames checkpoint sent }

abbrev pub time_noted : Command → (packet : ℕ) → TimeKept → TimeKept
time_noted command packet table = record {
  code = time_code_step table.code (frame_event command);
  kept = item_noted Frames command packet table.kept;
}

abbrev pub time_cut : (packet : ℕ) → TimeKept → TimeKept
time_cut packet table = record { code = table.code; kept = kept_since packet table.kept }

abbrev pub time_text : (packet : ℕ) → TimeKept → List ℕ
time_text packet table = flat_map (λ k. time_octets_of (kept_fresh packet k) table.code) table.kept
