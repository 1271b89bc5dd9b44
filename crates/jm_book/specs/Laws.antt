-- What the laws of this crate say of every list of steps.
use Rattle.std.specs.Prelude.{ℕ, ◌≡◌, ◌≤◌, ◌<◌, ◌==◌, nat_eq, Bool, true, List, [], ◌∷◌, ◌++◌, length, map, filter}
use Rattle.std.specs.List.{AllByRecursion, IsDistinct, range_with_len}
use Rattle.jm_cmds.specs.History.{InOrder}
use Rattle.jm_cmds.specs.Sent.{packet_of, tick_of}
use Rattle.jm_book.specs.declared.steps.Config.{Config}
use Rattle.jm_book.specs.declared.steps.Step.{Step}
use Rattle.jm_book.specs.declared.steps.Step.TheVariants.{Ack, Join}
use Rattle.jm_book.specs.Stream.{Entry, stream_of, sent_of, pending_of, last_sent}
use Rattle.jm_book.specs.Session.{session_of, members_of, checkpoint_of}
use Rattle.jm_book.specs.Book.{Told, Takes}
use Rattle.jm_book.specs.Marks.{Advances, Enters}
use Rattle.jm_book.specs.Participants.{ssrcs_of, slots_of}
use Rattle.jm_book.specs.Legal.{IsTaken, IsLegal}
use Rattle.jm_book.specs.Limited.{KeepsBoth}
use Rattle.jm_book.specs.Plays.{play_count, greatest_tick, plays_of, played_by, entries_of, sent_pair, entry_pair}

-- Packet numbers never fall along the sent commands, nor along those and the pending ones.
abbrev pub PacketsInOrder : Type 0
PacketsInOrder = (steps : List Step) → InOrder packet_of (sent_of (stream_of steps)) × InOrder packet_of (sent_of (stream_of steps) ++ pending_of (stream_of steps))

-- Ticks never fall along the sent and pending commands, and none of them is past the session's tick.
abbrev pub TicksInOrder : Type 0
TicksInOrder = (steps : List Step) → InOrder tick_of (sent_of (stream_of steps) ++ pending_of (stream_of steps)) × AllByRecursion (λ one. tick_of one ≤ (stream_of steps).tick) (sent_of (stream_of steps) ++ pending_of (stream_of steps))

-- The entries of all packets in order, and then those pending, are the plays in order: each with its
-- player and command, and the greatest tick among it and all plays and cuts before it.
abbrev pub KeepsPlays : Type 0
KeepsPlays = (steps : List Step) → entries_of (stream_of steps) ≡ plays_of steps

-- Their serials are 0, 1, 2 and so on, each once, up to the number of plays.
abbrev pub NumbersPlays : Type 0
NumbersPlays = (steps : List Step) → map (λ (one : Entry). one.serial) (entries_of (stream_of steps)) ≡ range_with_len 0 (play_count steps)

-- The commands of each player stand in the order of its plays.
abbrev pub KeepsPlayersInOrder : Type 0
KeepsPlayersInOrder = (player : ℕ) (steps : List Step) → map (λ (one : Entry). one.command) (filter (λ one. one.player == player) (entries_of (stream_of steps))) ≡ played_by player steps

-- A session counts the plays, and has the greatest tick of all plays and cuts.
abbrev pub CountsPlays : Type 0
CountsPlays = (steps : List Step) → ((stream_of steps).plays ≡ play_count steps) × ((stream_of steps).tick ≡ greatest_tick steps)

-- The plain list of sent and pending commands has the ticks and commands of those entries, in order.
abbrev pub SendsEntries : Type 0
SendsEntries = (steps : List Step) → map sent_pair (sent_of (stream_of steps) ++ pending_of (stream_of steps)) ≡ map entry_pair (entries_of (stream_of steps))

-- No steps are legal, and with one more taken step legal steps are legal.
abbrev pub TakesLegally : Type 0
TakesLegally = (config : Config) → IsLegal config [] × ((steps : List Step) (step : Step) → IsLegal config steps → IsTaken config steps step → IsLegal config (steps ++ step ∷ []))

-- The steps before the last of legal ones are legal, and the last is taken after them.
abbrev pub TookLegally : Type 0
TookLegally = (config : Config) (steps : List Step) (step : Step) → IsLegal config (steps ++ step ∷ []) → IsLegal config steps × IsTaken config steps step

-- The checkpoint passes no joined participant's mark.
abbrev pub PassesNoMark : Type 0
PassesNoMark = (config : Config) (steps : List Step) → AllByRecursion (λ one. checkpoint_of (session_of config steps) ≤ one.mark) (members_of config steps).joined

-- Along legal steps the checkpoint never falls.
abbrev pub NeverFalls : Type 0
NeverFalls = (config : Config) (steps more : List Step) → IsLegal config (steps ++ more) → checkpoint_of (session_of config steps) ≤ checkpoint_of (session_of config (steps ++ more))

-- After legal steps no mark is past the last sent packet, or 0 where none was sent.
abbrev pub MarksSent : Type 0
MarksSent = (config : Config) (steps : List Step) → IsLegal config steps → AllByRecursion (λ one. one.mark ≤ last_sent (stream_of steps)) (members_of config steps).joined

-- After legal steps no SSRC is joined twice.
abbrev pub JoinsOnce : Type 0
JoinsOnce = (config : Config) (steps : List Step) → IsLegal config steps → IsDistinct nat_eq (ssrcs_of (members_of config steps).joined)

-- After legal steps each joined participant has a slot of its own, one of 32.
abbrev pub SharesNoSlot : Type 0
SharesNoSlot = (config : Config) (steps : List Step) → IsLegal config steps → IsDistinct nat_eq (slots_of (members_of config steps).joined) × AllByRecursion (λ slot. slot < 32) (slots_of (members_of config steps).joined)

-- Legal steps are no more than the session was made for.
abbrev pub FitsTape : Type 0
FitsTape = (config : Config) (steps : List Step) → IsLegal config steps → length steps ≤ config.events

-- A call of a book that has legal steps leaves legal steps, where it takes a step just as it answers.
abbrev pub CallsKeepLegal : Type 0
CallsKeepLegal = (old new : Told) (step : Step) (taken : Bool) → (taken ≡ true → IsTaken old.config old.steps step) → Takes old new taken step → IsLegal old.config old.steps → IsLegal new.config new.steps

-- A taken report of 16 bits moves the mark to the sent packet that it tells of, and no other mark.
abbrev pub ReportsAdvance : Type 0
ReportsAdvance = (config : Config) (steps : List Step) (ssrc seq : ℕ) → seq < 65536 → IsTaken config steps (Ack ssrc seq) → Advances (session_of config steps) (session_of config (steps ++ Ack ssrc seq ∷ [])) ssrc seq

-- A joiner's mark is the last sent packet, or 0 where none was sent.
abbrev pub JoinsAtLast : Type 0
JoinsAtLast = (config : Config) (steps : List Step) (ssrc : ℕ) → IsTaken config steps (Join ssrc) → Enters (session_of config (steps ++ Join ssrc ∷ [])) ssrc

-- After legal steps what is coded keeps the journal's limits, also were all pending commands sent.
abbrev pub KeepsTheLimits : Type 0
KeepsTheLimits = (config : Config) (steps : List Step) → IsLegal config steps → KeepsBoth (session_of config steps)
