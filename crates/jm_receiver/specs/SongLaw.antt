-- The law of repair for the song.
use Rattle.std.proofs.Common.{◌≡◌, ℕ, Bool, true, false, cond, ◌&&◌, ◌||◌, List, ◌++◌, Option, Some, None, map, refl, sym, ap, ◌∙◌}
use Rattle.jm_cmds.specs.declared.commands.Command.{Command}
use Rattle.jm_cmds.specs.declared.commands.Command.TheVariants as commands
use Rattle.jm_cmds.specs.declared.history.Sent.{Sent}
use Rattle.jm_cmds.specs.Control.{is_reset}
use Rattle.jm_cmds.specs.History.{below, coded, InOrder}
use Rattle.jm_cmds.specs.HistoryLaws.{InOrder-filter}
use Rattle.jm_cmds.specs.Sent.{packet_of}
use Rattle.ch_system.specs.declared.items.SystemItem.TheVariants.{Reset, Tune, Song}
use Rattle.ch_system.specs.Items.{item_coded, item_count, item_ends, is_place_of, is_song}
use Rattle.ch_system.specs.ChapterD.{song_of as song_chosen}
use Rattle.ch_sysex.specs.SysexEvent.{resets}
use Rattle.jm_state.specs.Parts.{no_state, song_of}
use Rattle.jm_state.specs.Says.{said, ended, song_says}
use Rattle.jm_state.specs.PartLaws.{song_after}
use Rattle.jm_state.specs.KeptLaws.{no_state_is}
use Rattle.jm_state.specs.Replay.{over}
use Rattle.jm_state.specs.ReplayLaws.{state_behind, part_behind}
use Rattle.jm_state.specs.Final.{final, speaks, over_none, final-append, final-map, final-filter, final-none, final-same, final-coded, latest-final, repaired_by}
use Rattle.jm_reader.specs.declared.logs.LogKind.{LogKind}
use Rattle.jm_reader.specs.declared.logs.LogKind.TheVariants as kinds
use Rattle.jm_reader.specs.WrittenD.{d_said, place_said}
use Rattle.jm_reader.specs.WrittenV.{v_said}
use Rattle.jm_reader.specs.WrittenQ.{q_said}
use Rattle.jm_reader.specs.WrittenF.{f_said}
use Rattle.jm_reader.specs.WrittenX.{x_said}
use Rattle.jm_reader.specs.WrittenJournal.{journal_logs}
use Rattle.jm_receiver.specs.Repair.{has_reset, with_session_log}
use Rattle.jm_receiver.specs.Chapters.{is_session}
use Rattle.jm_state.specs.declared.state.State.{State}
use Rattle.jm_receiver.specs.Order.{log_says, all_of}
use Rattle.jm_receiver.specs.SystemLogs.{v_all, q_all, f_all, x_all}
use Rattle.jm_receiver.specs.Repairs.{Repairs, resets_heard, seen_since, place_says, below_next}
use Rattle.jm_receiver.specs.Session.{IsSessionPart, session_part, system_heard, chapters_heard}

-- what a log says of the song
abbrev pub song_log_says : LogKind → Option (Option ℕ)
song_log_says (kinds.Song song) = Some (Some song)
song_log_says log = None

pub song_is : IsSessionPart song_of song_log_says
song_is = record {
  absent = refl;
  counted = λ s count. refl;
  set = λ s log. song_set s log;
  stays = λ s t same. same.song;
  silent = λ log h. song_silent log h;
}
  where
    song_set : (s : State) (log : LogKind) → song_of (with_session_log s log) ≡ said (song_log_says log) (song_of s)
    song_set s (kinds.Song song) = refl
    song_set s (kinds.Sequencer running downbeat position) = refl
    song_set s (kinds.TimeCode complete partial backward point) = refl
    song_set s log = refl

    song_silent : (log : LogKind) → is_session log ≡ false → song_log_says log ≡ None
    song_silent (kinds.Song song) h = absurd (let f : true ≡ false = h in cc)
    song_silent log h = refl

-- what a place says where it chooses a song
abbrev chooses : Sent → Option (Option ℕ)
chooses place = cond (is_song place.command) (Some (Some (song_chosen place.command))) None

d_heard : (checkpoint packet : ℕ) (sent : List Sent) → final (log_says song_log_says) (d_said checkpoint packet sent) ≡ final chooses (coded (item_ends Song) packet_of checkpoint (below packet_of packet sent))
unfolding d_said item_coded
d_heard checkpoint packet sent =
    let session = below packet_of packet sent in
    let resets_said = place_said packet (λ place. kinds.Reset (item_count Reset session)) in
    let tunes_said = place_said packet (λ place. kinds.Tune (item_count Tune session)) in
    let songs_said = place_said packet (λ place. kinds.Song (song_chosen place.command)) in
    let r = item_coded Reset checkpoint packet sent in
    let t = item_coded Tune checkpoint packet sent in
    let s = item_coded Song checkpoint packet sent in
    let says = log_says song_log_says in
    let none : (xs : List Sent) → final {V = ℕ} (λ (x : Sent). None) xs ≡ None = λ xs. final-none (λ (x : Sent). None) xs (all_of (λ x. ◌≡◌ {A = Option (Option ℕ)} None None) (λ x. refl) xs) in
    final-append says (map resets_said r ++ map tunes_said t) (map songs_said s)
    ∙ rw (final-append says (map resets_said r) (map tunes_said t), final-map says resets_said r, final-map says tunes_said t, none r, none t) (over_none (final says (map songs_said s)))
    ∙ final-map says songs_said s
    ∙ final-filter (λ place. Some (Some (song_chosen place.command))) (is_place_of Song) (coded (item_ends Song) packet_of checkpoint session)

spoken : (b : Bool) (song : ℕ) → speaks (cond b (Some (Some song)) None) ≡ true → b ≡ true
spoken true song h = refl
spoken false song h = cc

spoken_end : (b : Bool) → speaks (ended {X = ℕ} b) ≡ true → b ≡ true
spoken_end true h = refl
spoken_end false h = cc

covered : (a b c : Bool) (song : ℕ) → (a && (b || c)) ≡ true → speaks (over (cond b (Some (Some song)) None) (ended c)) ≡ true
covered true true c song h = refl
covered true false true song h = refl
covered true false false song h = cc
covered false b c song h = cc

touched : (a b c : Bool) → a ≡ true → c ≡ true → (a && (b || c)) ≡ true
touched true true true h k = refl
touched true false true h k = refl
touched true b false h k = cc
touched false b c h k = cc

said_so : (command : Command) → over (cond (is_song command) (Some (Some (song_chosen command))) None) (ended (is_reset command)) ≡ song_says command
said_so (commands.SongSelect song) = refl
said_so command = refl

-- The logs of a journal say of the song what the commands from the checkpoint on say.
song_heard : (checkpoint packet tick : ℕ) (sent : List Sent) → InOrder packet_of sent →
    over (final (log_says song_log_says) (journal_logs checkpoint packet tick sent)) (ended (has_reset (journal_logs checkpoint packet tick sent))) ≡ final (place_says song_says) (seen_since checkpoint packet sent)
song_heard checkpoint packet tick sent o =
    let seen = below packet_of packet sent in
    let says = log_says song_log_says in
    let reset : Sent → Option (Option ℕ) = λ place. ended (resets place) in
    let silent : LogKind → Type 0 = λ what. song_log_says what ≡ None in
    let v : final says (v_said checkpoint packet sent) ≡ None = final-none says (v_said checkpoint packet sent) (v_all silent (λ n. refl) checkpoint packet sent) in
    let q : final says (q_said checkpoint packet sent) ≡ None = final-none says (q_said checkpoint packet sent) (q_all silent (λ r d p. refl) checkpoint packet sent) in
    let f : final says (f_said checkpoint packet sent) ≡ None = final-none says (f_said checkpoint packet sent) (f_all silent (λ c p b n. refl) checkpoint packet sent) in
    let x : final says (x_said checkpoint packet sent) ≡ None = final-none says (x_said checkpoint packet sent) (x_all silent (λ n octets. refl) checkpoint packet sent) in
    rw (system_heard song_of song_log_says song_is checkpoint packet tick sent, chapters_heard song_of song_log_says song_is checkpoint packet sent, v, q, f, x, d_heard checkpoint packet sent, resets_heard {V = ℕ} checkpoint packet tick sent o)
    (final-coded (item_ends Song) chooses reset
    (λ a b s e. covered (is_place_of Song a) (is_song b.command) (is_reset b.command) (song_chosen b.command) e)
    (λ a b s r. touched (is_place_of Song a) (is_song b.command) (is_reset b.command) (spoken (is_song a.command) (song_chosen a.command) s) (spoken_end (resets b) r))
    packet_of checkpoint seen (InOrder-filter packet_of _ sent o)
    ∙ final-same (λ place. over (chooses place) (reset place)) (place_says song_says) (λ place. said_so place.command) (seen_since checkpoint packet sent))

-- The song is repaired.
pub song_repaired : Repairs song_of
song_repaired checkpoint next packet tick sent o early late =
    let seen = below packet_of packet sent in
    let before = below packet_of next sent in
    let logs = journal_logs checkpoint packet tick sent in
    let journal = over (final (log_says song_log_says) logs) (ended (has_reset logs)) in
    let behind : (places : List Sent) → song_of (state_behind no_state places) ≡ said (final (place_says song_says) places) None =
    λ places. part_behind song_of song_says (λ s command is. song_after s command) no_state places no_state_is ∙ latest-final (place_says song_says) None places in
    session_part song_of song_log_says song_is (state_behind no_state before) logs
    ∙ ap (said journal) (behind before ∙ ap (λ (places : List Sent). said (final (place_says song_says) places) None) (sym (below_next next packet sent late)))
    ∙ repaired_by (place_says song_says) packet_of checkpoint next None seen journal (InOrder-filter packet_of _ sent o) early (song_heard checkpoint packet tick sent o)
    ∙ sym (behind seen)
