-- Chapter X (RFC 6295, B.5.1, Figure B.5.1). Three things are this project's own: COUNT is of the messages kept since the last Reset
-- State command, messages of more than 254 data octets have no log, and the first log has an S of its own.
use Rattle.std.specs.Prelude.{ℕ, ◌+◌, ◌%◌, Bool, ◌&&◌, List, [], ◌∷◌, length, count_by, sum_by}
use Rattle.std.specs.List.{list_any, flat_map}
use Rattle.jm_cmds.specs.declared.history.Sent.{Sent}
use Rattle.jm_cmds.specs.History.{coded, below, scanned}
use Rattle.jm_cmds.specs.Sent.{packet_of, is_fresh, s_bit}
use Rattle.ch_sysex.specs.declared.events.SysexEvent.{SysexEvent}
use Rattle.ch_sysex.specs.declared.events.SysexEvent.TheVariants.{Kept, ResetMessage, Reset, Other}
use Rattle.ch_sysex.specs.SysexEvent.{event_at, data_of, is_logged, sysex_ends, count_step}

-- ## A log

-- the data octets, the last one with its high bit set
abbrev pub last_marked : List ℕ → List ℕ
last_marked [] = []
last_marked (octet ∷ []) = (128 + octet) ∷ []
last_marked (octet ∷ next ∷ later) = octet ∷ last_marked (next ∷ later)

-- D: whether there is a data octet
abbrev pub d_bit : List ℕ → ℕ
d_bit [] = 0
d_bit (octet ∷ octets) = 8

-- S T=0 C=1 F=0 D L=1 STA=3, COUNT, the data octets
abbrev pub log_text : (s count : ℕ) → List ℕ → List ℕ
log_text s count octets = (s + (0x27 + d_bit octets)) ∷ count ∷ last_marked octets

-- The log of an event, before which there were so many kept messages. A Reset State command isn't counted.
abbrev pub event_text : (s count : ℕ) → SysexEvent → List ℕ → List ℕ
event_text s count Kept octets = log_text s ((count + 1) % 256) octets
event_text s count ResetMessage octets = log_text s 0 octets
event_text s count Reset octets = []
event_text s count Other octets = []

-- ## The chapter

-- a place with the number of kept messages before it since the last Reset State command
abbrev pub Counted : Type 0
Counted = ℕ × Sent

abbrev pub place_of : Counted → Sent
place_of counted = counted.1

abbrev pub counted_packet : Counted → ℕ
counted_packet counted = packet_of counted.1

abbrev pub counted_ends : Counted → Counted → Bool
counted_ends counted later = sysex_ends counted.1 later.1

-- the log of a place, where it has one
abbrev pub sysex_log : (packet : ℕ) → Counted → List ℕ
sysex_log packet counted = event_text (s_bit packet counted.1) counted.0 (event_at counted.1) (data_of counted.1.command)

-- the coded places of a history, each with the count of the whole session before it
abbrev pub coded_counted : (checkpoint count : ℕ) → List Sent → List Counted
coded_counted checkpoint count places = coded counted_ends counted_packet checkpoint (scanned count_step count places)

-- Chapter X in the journal of this packet, with this checkpoint. Its logs stand oldest first.
unfoldable pub chapter_x : (checkpoint packet : ℕ) → List Sent → List ℕ
chapter_x checkpoint packet sent = flat_map (sysex_log packet) (coded_counted checkpoint 0 (below packet_of packet sent))

-- the coded places by themselves
abbrev pub coded_sysex : (checkpoint : ℕ) → List Sent → List Sent
coded_sysex checkpoint places = coded sysex_ends packet_of checkpoint places

abbrev pub is_fresh_log : (packet : ℕ) → Sent → Bool
is_fresh_log packet place = is_logged (event_at place) && is_fresh packet place

-- whether some log's S is 0
unfoldable pub fresh_x : (checkpoint packet : ℕ) → List Sent → Bool
fresh_x checkpoint packet sent = list_any (is_fresh_log packet) (coded_sysex checkpoint (below packet_of packet sent))

-- ## Its size, were all of a list sent

abbrev pub has_log : Sent → Bool
has_log place = is_logged (event_at place)

abbrev pub event_len : SysexEvent → List ℕ → ℕ
event_len Kept octets = 2 + length octets
event_len ResetMessage octets = 2 + length octets
event_len Reset octets = 0
event_len Other octets = 0

abbrev pub log_len : Sent → ℕ
log_len place = event_len (event_at place) (data_of place.command)

-- the number of its logs
unfoldable pub sysex_logs : (checkpoint : ℕ) → List Sent → ℕ
sysex_logs checkpoint sent = count_by has_log (coded_sysex checkpoint sent)

-- the number of its octets
unfoldable pub sysex_octets : (checkpoint : ℕ) → List Sent → ℕ
sysex_octets checkpoint sent = sum_by log_len (coded_sysex checkpoint sent)
