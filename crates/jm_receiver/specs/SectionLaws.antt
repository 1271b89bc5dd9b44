-- What a section's commands make of the state, that no logs repair nothing, and where a packet ahead of the last one is placed.
use Rattle.std.proofs.Common.{◌≡◌, ℕ, ◌+◌, ◌-◌, ◌%◌, ◌^◌, ◌<◌, ◌≤◌, true, false, eqb, leb, ltb, List, [], ◌∷◌, ◌++◌, Option, Some, None, length, length-append, map, fold, refl, sym, ap, ◌∙◌, inl, inr, arith}
use Rattle.std.specs.Prelude.{Ok, filter, not, option_map}
use Rattle.std.specs.List.{cons_option, AllByRecursion}
use Rattle.std.proofs.lemmas.Bool.{cases_Bool, lt-leb, lt-ltb}
use Rattle.std.proofs.lemmas.Bool.Decides.{nat_tests}
use Rattle.std.proofs.lemmas.List.Sums.{fold-append}
use Rattle.jm_cmds.specs.declared.commands.Command.{Command}
use Rattle.jm_cmds.specs.declared.commands.Command.TheVariants.{Sysex}
use Rattle.jm_cmds.specs.declared.history.Sent.{Sent}
use Rattle.jm_cmds.specs.Command.{is_long}
use Rattle.jm_section.specs.declared.item.Item.{Item}
use Rattle.jm_section.specs.declared.item.PartKind.TheVariants as part
use Rattle.jm_section.specs.declared.item.What.{What}
use Rattle.jm_section.specs.declared.item.What.TheVariants.{Whole, Part, Passed}
use Rattle.jm_state.specs.declared.state.State.{State}
use Rattle.jm_state.specs.Apply.{applied}
use Rattle.jm_state.specs.LongState.{long_sets_nothing}
use Rattle.jm_state.specs.ReplayLaws.{state_behind}
use Rattle.jm_receiver.specs.declared.heard.Hearing.{Hearing}
use Rattle.jm_receiver.specs.Group.{all_groups, all_channels}
use Rattle.jm_receiver.specs.Order.{in_order, repaired-fold}
use Rattle.jm_receiver.specs.Repair.{repaired}
use Rattle.jm_receiver.specs.Heard.{is_message, are_too_many, joined_to, left_unfinished, command_said, commands_said, heard_if, sent_also}
use Rattle.jm_receiver.specs.Accept.{placed, used_after, kept_over}
use Rattle.jm_receiver.specs.InStep.{whole_of, commands_in, IsLongBegun, IsSent, HoldsCommands}

said_state : (h : Hearing) (said : Option Command) (others : List Command) → fold applied (heard_if h said).state others ≡ fold applied h.state (cons_option said others)
said_state h None others = refl
said_state h (Some command) others = refl

pub items_state : (h : Hearing) (items : List Item) → (fold sent_also h items).state ≡ fold applied h.state (commands_said h.unfinished items)
items_state h [] = refl
items_state h (item ∷ items) =
    items_state (sent_also h item) items
    ∙ said_state (record h { tick = (h.tick + item.delta) % 2 ^ 32 }) (command_said h.unfinished item.what) (commands_said (left_unfinished h.unfinished item.what) items)

-- ## Long messages

joined_long : (unfinished : Option (List ℕ)) (octets : List ℕ) → IsLongBegun unfinished → IsLongBegun (joined_to unfinished octets)
joined_long None octets long = tt
joined_long (Some begun) octets long =
    elim (cases_Bool (are_too_many begun octets)) [ inl t ↦ rw t tt | inr f ↦ rw f (omega (arith, length-append begun octets, long)) ]

left_long : (unfinished : Option (List ℕ)) (what : What) → IsLongBegun unfinished → IsSent what → IsLongBegun (left_unfinished unfinished what)
left_long unfinished (Whole command) long sent = elim (cases_Bool (is_message command)) [ inl t ↦ rw t tt | inr f ↦ rw f long ]
left_long unfinished (Part part.First octets) long sent = sent
left_long unfinished (Part part.Middle octets) long sent = joined_long unfinished octets long
left_long unfinished (Part part.Last octets) long sent = tt
left_long unfinished (Part part.Cancel octets) long sent = tt
left_long unfinished (Passed octet) long sent = long

-- What is unfinished behind a section of a session is as long as its first segment.
pub items_long : (h : Hearing) (items : List Item) → IsLongBegun h.unfinished → AllByRecursion (λ item. IsSent item.what) items → IsLongBegun (fold sent_also h items).unfinished
items_long h [] long sent = long
items_long h (item ∷ items) long sent = items_long (sent_also h item) items (left_long h.unfinished item.what long sent.0) sent.1

pub kept_long : (gap : ℕ) (unfinished : Option (List ℕ)) → IsLongBegun unfinished → IsLongBegun (kept_over gap unfinished)
kept_long gap unfinished long = elim (cases_Bool (eqb gap 0)) [ inl t ↦ rw t long | inr f ↦ rw f tt ]

finished_sets : (s : State) (unfinished : Option (List ℕ)) (octets : List ℕ) (others : List Command) → IsLongBegun unfinished → 1 ≤ length octets → fold applied s (cons_option (option_map Sysex (joined_to unfinished octets)) others) ≡ fold applied s others
finished_sets s None octets others long some = refl
finished_sets s (Some begun) octets others long some =
    elim (cases_Bool (are_too_many begun octets)) [
      | inl t ↦ rw t refl
      | inr f ↦
          let many : ltb 2046 (length (begun ++ octets)) ≡ true = lt-ltb 2046 (length (begun ++ octets)) (omega (arith, length-append begun octets, long, some)) in
          rw f (ap (λ (t : State). fold applied t others) (long_sets_nothing s (Sysex (begun ++ octets)) many))
    ]

said_sets : (s : State) (unfinished : Option (List ℕ)) (what : What) (others : List Command) → IsLongBegun unfinished → IsSent what → fold applied s (cons_option (command_said unfinished what) others) ≡ fold applied s (whole_of what ++ others)
said_sets s unfinished (Whole command) others long sent = refl
said_sets s unfinished (Part part.First octets) others long sent = refl
said_sets s unfinished (Part part.Middle octets) others long sent = refl
said_sets s unfinished (Part part.Last octets) others long sent = finished_sets s unfinished octets others long sent
said_sets s unfinished (Part part.Cancel octets) others long sent = refl
said_sets s unfinished (Passed octet) others long sent = refl

-- What is finished in a session sets nothing, so its whole commands alone do.
whole_set : (s : State) (unfinished : Option (List ℕ)) (items : List Item) → IsLongBegun unfinished → AllByRecursion (λ item. IsSent item.what) items → fold applied s (commands_said unfinished items) ≡ fold applied s (commands_in items)
whole_set s unfinished [] long sent = refl
whole_set s unfinished (item ∷ items) long sent =
    let left = left_unfinished unfinished item.what in
    let whole = whole_of item.what in
    said_sets s unfinished item.what (commands_said left items) long sent.0
    ∙ fold-append applied s whole (commands_said left items)
    ∙ whole_set (fold applied s whole) left items (left_long unfinished item.what long sent.0) sent.1
    ∙ sym (fold-append applied s whole (commands_in items))

short_set : (s : State) (commands : List Command) → fold applied s (filter (λ command. not (is_long command)) commands) ≡ fold applied s commands
short_set s [] = refl
short_set s (command ∷ commands) =
    elim (cases_Bool (is_long command)) [
      | inl t ↦ rw t (short_set s commands ∙ ap (λ (u : State). fold applied u commands) (sym (long_sets_nothing s command t)))
      | inr f ↦ rw f (short_set (applied s command) commands)
    ]

commands_state : (s : State) (own : List Sent) → fold applied s (map (λ one. one.command) own) ≡ state_behind s own
commands_state s [] = refl
commands_state s (one ∷ own) = commands_state (applied s one.command) own

-- The commands that a section of a session says leave what the packet's own commands do.
pub own_state : (s : State) (unfinished : Option (List ℕ)) (own : List Sent) (items : List Item) → IsLongBegun unfinished → HoldsCommands own items → fold applied s (commands_said unfinished items) ≡ state_behind s own
own_state s unfinished own items long holds =
    whole_set s unfinished items long holds.segments
    ∙ ap (fold applied s) holds.whole
    ∙ short_set s (map (λ one. one.command) own)
    ∙ commands_state s own

-- ## Places

pub none_repaired : (s : State) → repaired s [] ≡ s
unfolding in_order all_groups all_channels
none_repaired s = repaired-fold s []

-- the place of a packet that is so many ahead
pub ahead_placed : (last gap : ℕ) → gap < 32767 → last + 1 + gap < 2 ^ 64 → placed (Some last) ((last + 1 + gap) % 65536) ≡ Ok (record { number = last + 1 + gap; gap = gap; uses = used_after gap })
ahead_placed last gap l m =
    let ahead : ((last + 1 + gap) % 65536 + 65536 - last % 65536) % 65536 ≡ gap + 1 = omega (arith, l) in
    let some : eqb (gap + 1) 0 ≡ false = grind (arith, nat_tests) in
    let near : leb 32768 (gap + 1) ≡ false = lt-leb 32768 (gap + 1) (omega (arith, l)) in
    let number : (last + (gap + 1)) % 2 ^ 64 ≡ last + 1 + gap = omega (arith, m) in
    let lost : gap + 1 - 1 ≡ gap = omega arith in
    rw (ahead, some, near, number, lost) refl
