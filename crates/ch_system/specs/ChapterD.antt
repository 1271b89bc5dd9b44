-- Chapter D (RFC 6295, B.1, Figures B.1.1 to B.1.3).
use Rattle.std.specs.Prelude.{ℕ, ◌+◌, ◌*◌, Bool, ◌||◌, List, [], ◌∷◌, ◌++◌, map}
use Rattle.jm_cmds.specs.declared.commands.Command.{Command}
use Rattle.jm_cmds.specs.declared.commands.Command.TheVariants.{SongSelect}
use Rattle.jm_cmds.specs.declared.history.Sent.{Sent}
use Rattle.jm_cmds.specs.History.{below}
use Rattle.jm_cmds.specs.Sent.{packet_of, s_of, s_bit}
use Rattle.ch_system.specs.declared.items.SystemItem.{SystemItem}
use Rattle.ch_system.specs.declared.items.SystemItem.TheVariants.{Reset, Tune, Song}
use Rattle.ch_system.specs.Items.{item_coded, item_count, item_fresh}

-- the song that a command chooses
abbrev pub song_of : Command → ℕ
song_of (SongSelect song) = song
song_of _ = 0

-- the log of an item that is counted, where it is coded: S COUNT
abbrev pub count_logs : SystemItem → (checkpoint packet : ℕ) → List Sent → List ℕ
count_logs item checkpoint packet sent = map (λ place. s_bit packet place + item_count item (below packet_of packet sent)) (item_coded item checkpoint packet sent)

-- the log of the song, where it is coded: S VALUE
abbrev pub song_logs : (checkpoint packet : ℕ) → List Sent → List ℕ
song_logs checkpoint packet sent = map (λ place. s_bit packet place + song_of place.command) (item_coded Song checkpoint packet sent)

-- whether there are logs, as a bit
abbrev pub any_bit : List ℕ → ℕ
any_bit [] = 0
any_bit (log ∷ more) = 1

-- whether the S of a log is 0
unfoldable pub fresh_d : (checkpoint packet : ℕ) → List Sent → Bool
fresh_d checkpoint packet sent = item_fresh Reset checkpoint packet sent || item_fresh Tune checkpoint packet sent || item_fresh Song checkpoint packet sent

-- S B G H 0 0 0 0, by whether there are logs of each kind
abbrev pub d_head : (fresh : Bool) (resets tunes songs : List ℕ) → ℕ
d_head fresh resets tunes songs = s_of fresh + 64 * any_bit resets + 32 * any_bit tunes + 16 * any_bit songs

-- the logs behind a header, or nothing where there is none
abbrev pub headed : (head : ℕ) → List ℕ → List ℕ
headed head [] = []
headed head (log ∷ logs) = head ∷ log ∷ logs

-- Chapter D in the journal of a packet
unfoldable pub chapter_d : (checkpoint packet : ℕ) → List Sent → List ℕ
chapter_d checkpoint packet sent =
    let resets = count_logs Reset checkpoint packet sent in
    let tunes = count_logs Tune checkpoint packet sent in
    let songs = song_logs checkpoint packet sent in
    headed (d_head (fresh_d checkpoint packet sent) resets tunes songs) (resets ++ tunes ++ songs)
