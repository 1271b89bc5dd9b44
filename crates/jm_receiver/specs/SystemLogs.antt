-- What holds of the logs of each chapter of the system journal; they are of no channel.
use Rattle.std.proofs.Common.{◌≡◌, ℕ, ◌+◌, ◌%◌, Bool, List, [], ◌∷◌, ◌++◌, Option, Some, None, map, refl}
use Rattle.std.specs.List.{flat_map, AllByRecursion}
use Rattle.jm_cmds.specs.declared.history.Sent.{Sent}
use Rattle.jm_cmds.specs.declared.frames.TimePart.{TimePart}
use Rattle.jm_cmds.specs.declared.sequencing.SequencerPart.{SequencerPart}
use Rattle.jm_cmds.specs.Frames.{time_code_after}
use Rattle.jm_cmds.specs.History.{below}
use Rattle.jm_cmds.specs.HistoryLaws.{AllByRecursion-append}
use Rattle.jm_cmds.specs.Sent.{packet_of, is_fresh}
use Rattle.jm_cmds.specs.Sequencing.{sequencer_after}
use Rattle.ch_system.specs.declared.items.SystemItem.TheVariants.{Reset, Tune, Song, Sensing, Sequence, Frames}
use Rattle.ch_system.specs.Items.{item_coded, item_count}
use Rattle.ch_system.specs.ChapterD.{song_of}
use Rattle.ch_sysex.specs.declared.events.SysexEvent.{SysexEvent}
use Rattle.ch_sysex.specs.declared.events.SysexEvent.TheVariants as messages
use Rattle.ch_sysex.specs.SysexEvent.{event_at, data_of}
use Rattle.ch_sysex.specs.ChapterX.{coded_counted}
use Rattle.jm_reader.specs.declared.logs.Log.{Log}
use Rattle.jm_reader.specs.declared.logs.LogKind.{LogKind}
use Rattle.jm_reader.specs.declared.logs.LogKind.TheVariants as kinds
use Rattle.jm_reader.specs.WrittenD.{d_said, place_said}
use Rattle.jm_reader.specs.WrittenV.{v_said}
use Rattle.jm_reader.specs.WrittenQ.{q_said, position_said}
use Rattle.jm_reader.specs.WrittenF.{f_said, code_said}
use Rattle.jm_reader.specs.WrittenX.{x_said, event_said, sysex_said}
use Rattle.jm_reader.specs.WrittenSystem.{system_logs}
use Rattle.jm_receiver.specs.Order.{tag}

abbrev pub AreUntagged : List Log → Type 0
AreUntagged logs = AllByRecursion (λ log. tag log.what ≡ None) logs

pub all_flat : {X : Type 0} (P : Log → Type 0) (list : X → List Log) → ((x : X) → AllByRecursion P (list x)) → (xs : List X) → AllByRecursion P (flat_map list xs)
all_flat P list h [] = tt
all_flat P list h (x ∷ xs) = AllByRecursion-append P (list x) (flat_map list xs) (h x) (all_flat P list h xs)

pub all_map : {X : Type 0} (P : Log → Type 0) (log : X → Log) → ((x : X) → P (log x)) → (xs : List X) → AllByRecursion P (map log xs)
all_map P log h [] = tt
all_map P log h (x ∷ xs) = (h x, all_map P log h xs)

-- the logs of these kinds
abbrev pub All : (LogKind → Type 0) → List Log → Type 0
All P logs = AllByRecursion (λ log. P log.what) logs

-- ## Each chapter

pub d_all : (P : LogKind → Type 0) → ((count : ℕ) → P (kinds.Reset count)) → ((count : ℕ) → P (kinds.Tune count)) → ((song : ℕ) → P (kinds.Song song)) → (checkpoint packet : ℕ) (sent : List Sent) → All P (d_said checkpoint packet sent)
unfolding d_said
d_all P reset tune song checkpoint packet sent =
    let joined = AllByRecursion-append (λ (log : Log). P log.what) in
    let session = below packet_of packet sent in
    let resets = place_said packet (λ place. kinds.Reset (item_count Reset session)) in
    let tunes = place_said packet (λ place. kinds.Tune (item_count Tune session)) in
    let songs = place_said packet (λ place. kinds.Song (song_of place.command)) in
    let r = item_coded Reset checkpoint packet sent in
    let t = item_coded Tune checkpoint packet sent in
    let s = item_coded Song checkpoint packet sent in
    joined (map resets r ++ map tunes t) (map songs s)
    (joined (map resets r) (map tunes t) (all_map (λ log. P log.what) resets (λ x. reset (item_count Reset session)) r) (all_map (λ log. P log.what) tunes (λ x. tune (item_count Tune session)) t))
    (all_map (λ log. P log.what) songs (λ x. song (song_of x.command)) s)

pub v_all : (P : LogKind → Type 0) → ((count : ℕ) → P (kinds.Sensing count)) → (checkpoint packet : ℕ) (sent : List Sent) → All P (v_said checkpoint packet sent)
unfolding v_said
v_all P sensing checkpoint packet sent =
    all_map (λ log. P log.what) (λ place. let log : Log = record { fresh = is_fresh packet place; what = kinds.Sensing (item_count Sensing (below packet_of packet sent)) } in log)
    (λ x. sensing (item_count Sensing (below packet_of packet sent))) (item_coded Sensing checkpoint packet sent)

position_all : (P : LogKind → Type 0) → ((running downbeat : Bool) (position : ℕ) → P (kinds.Sequencer running downbeat position)) → (fresh : Bool) (state : Option SequencerPart) → All P (position_said fresh state)
position_all P sequencer fresh None = tt
position_all P sequencer fresh (Some state) = (sequencer state.running state.downbeat state.position, tt)

pub q_all : (P : LogKind → Type 0) → ((running downbeat : Bool) (position : ℕ) → P (kinds.Sequencer running downbeat position)) → (checkpoint packet : ℕ) (sent : List Sent) → All P (q_said checkpoint packet sent)
unfolding q_said
q_all P sequencer checkpoint packet sent =
    all_flat (λ log. P log.what) (λ place. position_said (is_fresh packet place) (sequencer_after (below packet_of packet sent)))
    (λ x. position_all P sequencer (is_fresh packet x) (sequencer_after (below packet_of packet sent))) (item_coded Sequence checkpoint packet sent)

code_all : (P : LogKind → Type 0) → ((complete partial : Option ℕ) (backward : Bool) (point : ℕ) → P (kinds.TimeCode complete partial backward point)) → (fresh : Bool) (state : Option TimePart) → All P (code_said fresh state)
code_all P code fresh None = tt
code_all P code fresh (Some state) = (code state.complete state.partial state.backward state.point, tt)

pub f_all : (P : LogKind → Type 0) → ((complete partial : Option ℕ) (backward : Bool) (point : ℕ) → P (kinds.TimeCode complete partial backward point)) → (checkpoint packet : ℕ) (sent : List Sent) → All P (f_said checkpoint packet sent)
unfolding f_said
f_all P code checkpoint packet sent =
    all_flat (λ log. P log.what) (λ place. code_said (is_fresh packet place) (time_code_after (below packet_of packet sent)))
    (λ x. code_all P code (is_fresh packet x) (time_code_after (below packet_of packet sent))) (item_coded Frames checkpoint packet sent)

message_all : (P : LogKind → Type 0) → ((count : ℕ) (octets : List ℕ) → P (kinds.Sysex count octets)) → (fresh : Bool) (count : ℕ) (event : SysexEvent) (octets : List ℕ) → All P (event_said fresh count event octets)
message_all P message fresh count messages.Kept octets = (message ((count + 1) % 256) octets, tt)
message_all P message fresh count messages.ResetMessage octets = (message 0 octets, tt)
message_all P message fresh count messages.Reset octets = tt
message_all P message fresh count messages.Other octets = tt

pub x_all : (P : LogKind → Type 0) → ((count : ℕ) (octets : List ℕ) → P (kinds.Sysex count octets)) → (checkpoint packet : ℕ) (sent : List Sent) → All P (x_said checkpoint packet sent)
unfolding x_said
x_all P message checkpoint packet sent =
    all_flat (λ log. P log.what) (sysex_said packet) (λ x. message_all P message (is_fresh packet x.1) x.0 (event_at x.1) (data_of x.1.command)) (coded_counted checkpoint 0 (below packet_of packet sent))

-- ## All of them

pub system_untagged : (checkpoint packet : ℕ) (sent : List Sent) → AreUntagged (system_logs checkpoint packet sent)
unfolding system_logs
system_untagged checkpoint packet sent =
    let joined = AllByRecursion-append (λ (log : Log). tag log.what ≡ None) in
    let d = d_said checkpoint packet sent in
    let v = v_said checkpoint packet sent in
    let q = q_said checkpoint packet sent in
    let f = f_said checkpoint packet sent in
    let x = x_said checkpoint packet sent in
    joined (d ++ v ++ q ++ f) x
    (joined (d ++ v ++ q) f (joined (d ++ v) q (joined d v (d_all (λ what. tag what ≡ None) (λ n. refl) (λ n. refl) (λ n. refl) checkpoint packet sent)
    (v_all (λ what. tag what ≡ None) (λ n. refl) checkpoint packet sent)) (q_all (λ what. tag what ≡ None) (λ r d p. refl) checkpoint packet sent)) (f_all (λ what. tag what ≡ None) (λ c p b n. refl) checkpoint packet sent))
    (x_all (λ what. tag what ≡ None) (λ n o. refl) checkpoint packet sent)
