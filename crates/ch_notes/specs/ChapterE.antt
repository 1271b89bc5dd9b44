-- Chapter E of a channel (RFC 6295, A.7).
use Rattle.std.specs.Prelude.{ℕ, ◌+◌, ◌-◌, Bool, List, [], ◌∷◌, fold, min, ◌==◌, if◌then◌else◌}
use Rattle.jm_cmds.specs.declared.history.Sent.{Sent}
use Rattle.jm_cmds.specs.History.{below}
use Rattle.jm_cmds.specs.Sent.{packet_of}
use Rattle.ch_notes.specs.declared.events.NoteEvent.{NoteEvent}
use Rattle.ch_notes.specs.declared.events.NoteEvent.TheVariants.{Struck, Released, Cleared, Other}
use Rattle.jm_chapter.specs.declared.log.Log.{Log}
use Rattle.ch_notes.specs.NoteEvent.{event_at}
use Rattle.ch_notes.specs.ChapterN.{coded_notes}
use Rattle.jm_chapter.specs.Logs.{listed, has_fresh}

-- The reference count of a note behind one more event: a NoteOn adds 1, up to 127, which is this project's own bound, a
-- NoteOff takes 1, down to 0, and what ends all notes makes it 0.
abbrev pub count_event : (note count : ℕ) → NoteEvent → ℕ
count_event note count (Struck other velocity) = if other == note then min 127 (count + 1) else count
count_event note count (Released other velocity) = if other == note then count - 1 else count
count_event note count Cleared = 0
count_event note count Other = count

abbrev pub count_step : (channel note count : ℕ) → Sent → ℕ
count_step channel note count place = count_event note count (event_at channel place)

-- the reference count of a note of the channel behind the whole session
abbrev pub ref_count : (channel note : ℕ) → (session : List Sent) → ℕ
ref_count channel note session = fold (count_step channel note) 0 session

-- The log of a struck note: V=0 and the count where it isn't 1, which Chapter N alone says.
abbrev pub struck_logs : (note count : ℕ) → List Log
struck_logs note count = if count == 1 then [] else record { number = note; field = count } ∷ []

-- The log of a released note: V=0 and the count where it isn't 0, else V=1 and the release velocity where it isn't 64.
abbrev pub released_logs : (note velocity count : ℕ) → List Log
released_logs note velocity count =
    if count == 0
    then (if velocity == 64 then [] else record { number = note; field = 128 + velocity } ∷ [])
    else record { number = note; field = count } ∷ []

abbrev pub extra_logs : (channel : ℕ) → (session : List Sent) → NoteEvent → List Log
extra_logs channel session (Struck note velocity) = struck_logs note (ref_count channel note session)
extra_logs channel session (Released note velocity) = released_logs note velocity (ref_count channel note session)
extra_logs channel session Cleared = []
extra_logs channel session Other = []

-- the logs that a place of the session has
abbrev pub extra_at : (channel : ℕ) → (session : List Sent) → Sent → List Log
extra_at channel session place = extra_logs channel session (event_at channel place)

-- Chapter E of this channel in the journal of this packet: its items are those of Chapter N.
unfoldable pub chapter_e : (channel checkpoint packet : ℕ) → List Sent → List ℕ
chapter_e channel checkpoint packet sent = listed (extra_at channel (below packet_of packet sent)) packet (coded_notes channel checkpoint packet sent)

-- whether an S bit of the chapter is 0
unfoldable pub fresh_e : (channel checkpoint packet : ℕ) → List Sent → Bool
fresh_e channel checkpoint packet sent = has_fresh (extra_at channel (below packet_of packet sent)) packet (coded_notes channel checkpoint packet sent)
