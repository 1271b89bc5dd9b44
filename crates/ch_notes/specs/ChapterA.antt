-- Chapter A of a channel (RFC 6295, A.9).
use Rattle.std.specs.Prelude.{ℕ, ◌+◌, Bool, false, ◌||◌, List, [], ◌∷◌, fold, if◌then◌else◌}
use Rattle.jm_cmds.specs.declared.history.Sent.{Sent}
use Rattle.jm_cmds.specs.Control.{ends_notes}
use Rattle.jm_cmds.specs.History.{coded, below}
use Rattle.jm_cmds.specs.Keys.{key_count, has_key}
use Rattle.jm_cmds.specs.Sent.{packet_of}
use Rattle.ch_notes.specs.declared.presses.PolyEvent.{PolyEvent}
use Rattle.ch_notes.specs.declared.presses.PolyEvent.TheVariants.{Pressed, Dropped, Other}
use Rattle.jm_chapter.specs.declared.log.Log.{Log}
use Rattle.ch_notes.specs.PolyEvent.{poly_at, poly_ends, poly_key, presses}
use Rattle.jm_chapter.specs.Logs.{listed, has_fresh}

-- Whether the latest pressure on the note is no longer N-active: what ends all notes of the channel came
-- behind it.
abbrev pub muted_step : (channel note : ℕ) → (muted : Bool) → Sent → Bool
muted_step channel note muted place = if presses note (poly_at channel place) then false else muted || ends_notes channel place.command

abbrev pub is_muted : (channel note : ℕ) → (session : List Sent) → Bool
is_muted channel note session = fold (muted_step channel note) false session

-- the X bit as the high bit of an octet
abbrev pub x_bit : Bool → ℕ
x_bit muted = if muted then 128 else 0

-- X and the pressure
abbrev pub press_logs : (channel : ℕ) → (session : List Sent) → PolyEvent → List Log
press_logs channel session (Pressed note value) = record { number = note; field = x_bit (is_muted channel note session) + value } ∷ []
press_logs channel session Dropped = []
press_logs channel session Other = []

-- the logs that a place of the session has
abbrev pub press_at : (channel : ℕ) → (session : List Sent) → Sent → List Log
press_at channel session place = press_logs channel session (poly_at channel place)

-- the places that the chapter codes
abbrev pub coded_presses : (channel checkpoint : ℕ) → List Sent → List Sent
coded_presses channel checkpoint sent = coded (poly_ends channel) packet_of checkpoint sent

-- Chapter A of this channel in the journal of this packet.
unfoldable pub chapter_a : (channel checkpoint packet : ℕ) → List Sent → List ℕ
chapter_a channel checkpoint packet sent = listed (press_at channel (below packet_of packet sent)) packet (coded_presses channel checkpoint (below packet_of packet sent))

-- whether an S bit of the chapter is 0
unfoldable pub fresh_a : (channel checkpoint packet : ℕ) → List Sent → Bool
fresh_a channel checkpoint packet sent = has_fresh (press_at channel (below packet_of packet sent)) packet (coded_presses channel checkpoint (below packet_of packet sent))

-- ## How many notes there are

-- how many notes of the channel would have a log where all of these were sent
unfoldable pub poly_count : (channel checkpoint : ℕ) → List Sent → ℕ
poly_count channel checkpoint sent = key_count (poly_key channel) (coded_presses channel checkpoint sent)

-- whether this note would have one
unfoldable pub has_poly : (channel checkpoint note : ℕ) → List Sent → Bool
has_poly channel checkpoint note sent = has_key (poly_key channel) note (coded_presses channel checkpoint sent)
