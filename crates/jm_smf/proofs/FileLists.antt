-- What holds of each list that a file spells.
use Rattle.std.proofs.Common.{ℕ, ◌+◌, ◌≤◌, List, [], ◌∷◌, arith}
use Rattle.std.specs.List.{AllByRecursion}
use Rattle.jm_wire.specs.Delta.{value}
use Rattle.jm_cmds.specs.declared.commands.Command.{Command}
use Rattle.jm_cmds.specs.Command.{IsCommand}
use Rattle.jm_cmds.specs.History.{InOrder}
use Rattle.jm_cmds.specs.HistoryLaws.{InOrder-append, AllByRecursion-append, AllByRecursion-weaker}
use Rattle.jm_smf.specs.declared.before.Before.{Before}
use Rattle.jm_smf.specs.declared.timed.Timed.{Timed}
use Rattle.jm_smf.specs.Reading.{timed_at, nothing_before}
use Rattle.jm_smf.specs.Grammar.{Escapes, wholly, passed, SpellsEvent, with_status, without_status, meta, message, message_begins, message_goes_on, message_ends, escape, SpellsTrack, track_ends, one_more, SpellsChunks, first_track, passed_over}
use Rattle.jm_smf.specs.Laws.{AreCommands, tick_of, ListsAreInOrder}

escape_commands : (octets : List ℕ) (commands : List Command) → Escapes octets commands → AllByRecursion IsCommand commands
escape_commands octets commands (wholly spelled h) = h
escape_commands octets commands (passed others unspelled) = tt

event_commands : (before : Before) (text : List ℕ) (commands : List Command) (after : Before) → SpellsEvent before text commands after → AllByRecursion IsCommand commands
event_commands before text commands after (with_status command h low) = (h, tt)
event_commands before text commands after (without_status command h low e) = (h, tt)
event_commands before text commands after (meta kind block octets other b) = tt
event_commands before text commands after (message block octets h b) = (h, tt)
event_commands before text commands after (message_begins block octets u b) = tt
event_commands before text commands after (message_goes_on block octets is u b) = tt
event_commands before text commands after (message_ends block octets is b) = tt
event_commands before text commands after (escape block octets others is b told) = escape_commands octets others told

-- commands at one tick
record AreAt (tick : ℕ) (list : List Timed) : Type 0 where
  commands : AreCommands list
  at_most : AllByRecursion (λ t. tick_of t ≤ tick) list
  at_least : AllByRecursion (λ t. tick ≤ tick_of t) list
  order : InOrder tick_of list

all_at : (tick : ℕ) (commands : List Command) → AllByRecursion IsCommand commands → AreAt tick (timed_at tick commands)
all_at tick [] h = record { commands = tt; at_most = tt; at_least = tt; order = tt }
all_at tick (command ∷ commands) h =
    let later = all_at tick commands h.1 in
    record { commands = (h.0, later.commands); at_most = (omega arith, later.at_most); at_least = (omega arith, later.at_least); order = (later.at_least, later.order) }

record AreFrom (tick : ℕ) (list : List Timed) : Type 0 where
  commands : AreCommands list
  at_least : AllByRecursion (λ t. tick ≤ tick_of t) list
  order : InOrder tick_of list

track_in_order : (before : Before) (tick : ℕ) (octets : List ℕ) (list : List Timed) → SpellsTrack before tick octets list → AreFrom tick list
track_in_order before tick octets list (track_ends old from field rest f) = record { commands = tt; at_least = tt; order = tt }
track_in_order before tick octets list (one_more old after from field text rest commands others f s t) =
    let now = from + value field in
    let here = all_at now commands (event_commands old text commands after s) in
    let later = track_in_order after now rest others t in
    let sooner : (list : List Timed) → AllByRecursion (λ timed. now ≤ tick_of timed) list → AllByRecursion (λ timed. from ≤ tick_of timed) list =
    AllByRecursion-weaker (λ timed. now ≤ tick_of timed) (λ timed. from ≤ tick_of timed) (λ timed le. omega (arith, le)) in
    record {
      commands = AllByRecursion-append (λ timed. IsCommand timed.command) (timed_at now commands) others here.commands later.commands;
      at_least = AllByRecursion-append (λ timed. from ≤ tick_of timed) (timed_at now commands) others (sooner (timed_at now commands) here.at_least) (sooner others later.at_least);
      order = InOrder-append tick_of now (timed_at now commands) others here.order here.at_most later.at_least later.order;
    }

chunks_in_order : (octets : List ℕ) (list : List Timed) → SpellsChunks octets list → AreFrom 0 list
chunks_in_order octets list (first_track text inside rest spelled c t) = track_in_order nothing_before 0 inside spelled t
chunks_in_order octets list (passed_over text name inside rest spelled other c others) = chunks_in_order rest spelled others

pub lists_are_in_order : ListsAreInOrder
lists_are_in_order octets list f = let a = chunks_in_order f.rest list f.spelled in (a.commands, a.order)
