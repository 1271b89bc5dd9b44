-- The parts of a state that the last command that speaks of them decides, behind a history of commands.
use Rattle.std.proofs.Common.{◌≡◌, ℕ, ◌≤◌, ◌<◌, List, [], ◌∷◌, Option, fold, refl, sym, ap, ◌∙◌}
use Rattle.jm_cmds.specs.declared.commands.Command.{Command}
use Rattle.jm_cmds.specs.declared.history.Sent.{Sent}
use Rattle.jm_cmds.specs.History.{below, since, InOrder}
use Rattle.jm_cmds.specs.Pedal.{pedal_along, pedal_after}
use Rattle.jm_cmds.specs.Sent.{packet_of}
use Rattle.jm_state.specs.declared.state.State.{State}
use Rattle.jm_state.specs.Parts.{no_state, pedal_at, pedal_of, song_of, control_of, wheel_of, note_of, pressure_of, poly_of}
use Rattle.jm_state.specs.Apply.{applied}
use Rattle.jm_state.specs.Says.{said, song_says, control_says, wheel_says, note_says, pressure_says, poly_says}
use Rattle.jm_state.specs.Kept.{IsState, no_channel_at}
use Rattle.jm_state.specs.KeptLaws.{state_after_is, no_state_is}
use Rattle.jm_state.specs.PartLaws.{by_part, no_pedal_at}
use Rattle.jm_state.specs.Replay.{latest, replay}

-- the state behind the commands of a history
abbrev pub state_behind : State → List Sent → State
state_behind s sent = fold (λ t place. applied t place.command) s sent

-- what a command does to this part goes by what it says of it
abbrev LastSays : {V : Type 0} → (State → Option V) → (Command → Option (Option V)) → Type 0
LastSays part says = (s : State) (command : Command) → IsState s → part (applied s command) ≡ said (says command) (part s)

pub behind_is : (s : State) (sent : List Sent) → IsState s → IsState (state_behind s sent)
behind_is s [] is = is
behind_is s (x ∷ xs) is = behind_is (applied s x.command) xs (state_after_is s x.command is)

-- the pedal of a channel is moved by each command
pub pedal_behind : (channel : ℕ) (s : State) (sent : List Sent) → channel < 16 → IsState s → pedal_of (state_behind s sent) channel ≡ fold (pedal_along channel) (pedal_of s channel) sent
pedal_behind channel s [] l is = refl
pedal_behind channel s (x ∷ xs) l is =
    pedal_behind channel (applied s x.command) xs l (state_after_is s x.command is)
    ∙ ap (λ p. fold (pedal_along channel) p xs) ((by_part s x.command is).pedal channel l)

-- the pedal of a session
pub pedal_counted : (channel : ℕ) (sent : List Sent) → channel < 16 → pedal_of (state_behind no_state sent) channel ≡ pedal_after channel sent
unfolding pedal_after
pedal_counted channel sent l =
    pedal_behind channel no_state sent l no_state_is
    ∙ ap (λ p. fold (pedal_along channel) p sent) (ap pedal_at (no_channel_at channel l) ∙ no_pedal_at)

pub part_behind : {V : Type 0} (part : State → Option V) (says : Command → Option (Option V)) → LastSays part says → (s : State) (sent : List Sent) → IsState s →
    part (state_behind s sent) ≡ latest (λ place. says place.command) (part s) sent
part_behind part says h s [] is = refl
part_behind part says h s (x ∷ xs) is =
    part_behind part says h (applied s x.command) xs (state_after_is s x.command is)
    ∙ ap (λ v. latest (λ (place : Sent). says place.command) v xs) (h s x.command is)

part_again : {V : Type 0} (part : State → Option V) (says : Command → Option (Option V)) → LastSays part says → (checkpoint packet : ℕ) (sent : List Sent) → InOrder packet_of sent → checkpoint ≤ packet →
    part (state_behind (state_behind no_state (below packet_of packet sent)) (since packet_of checkpoint sent)) ≡ part (state_behind no_state sent)
part_again part says h checkpoint packet sent o l =
    let old = below packet_of packet sent in
    part_behind part says h (state_behind no_state old) (since packet_of checkpoint sent) (behind_is no_state old no_state_is)
    ∙ ap (λ v. latest (λ (place : Sent). says place.command) v (since packet_of checkpoint sent)) (part_behind part says h no_state old no_state_is)
    ∙ replay (λ (place : Sent). says place.command) packet_of checkpoint packet (part no_state) sent o l
    ∙ sym (part_behind part says h no_state sent no_state_is)

-- A state behind the packets below one, to which the commands from another packet on that isn't later are applied once more, has
-- these parts as the state behind all.
pub record PlaysAgain (checkpoint packet : ℕ) (sent : List Sent) : Type 0 where
  pub song : song_of (state_behind (state_behind no_state (below packet_of packet sent)) (since packet_of checkpoint sent)) ≡ song_of (state_behind no_state sent)
  pub control : (channel number : ℕ) → channel < 16 → number < 128 → control_of (state_behind (state_behind no_state (below packet_of packet sent)) (since packet_of checkpoint sent)) channel number ≡ control_of (state_behind no_state sent) channel number
  pub wheel : (channel : ℕ) → channel < 16 → wheel_of (state_behind (state_behind no_state (below packet_of packet sent)) (since packet_of checkpoint sent)) channel ≡ wheel_of (state_behind no_state sent) channel
  pub note : (channel note : ℕ) → channel < 16 → note < 128 → note_of (state_behind (state_behind no_state (below packet_of packet sent)) (since packet_of checkpoint sent)) channel note ≡ note_of (state_behind no_state sent) channel note
  pub pressure : (channel : ℕ) → channel < 16 → pressure_of (state_behind (state_behind no_state (below packet_of packet sent)) (since packet_of checkpoint sent)) channel ≡ pressure_of (state_behind no_state sent) channel
  pub poly : (channel note : ℕ) → channel < 16 → note < 128 → poly_of (state_behind (state_behind no_state (below packet_of packet sent)) (since packet_of checkpoint sent)) channel note ≡ poly_of (state_behind no_state sent) channel note

pub plays_again : (checkpoint packet : ℕ) (sent : List Sent) → InOrder packet_of sent → checkpoint ≤ packet → PlaysAgain checkpoint packet sent
plays_again checkpoint packet sent o l = record {
  song = part_again song_of song_says (λ s command is. (by_part s command is).song) checkpoint packet sent o l;
  control = λ channel number c n. part_again (λ s. control_of s channel number) (control_says channel number) (λ s command is. (by_part s command is).control channel number c n) checkpoint packet sent o l;
  wheel = λ channel c. part_again (λ s. wheel_of s channel) (wheel_says channel) (λ s command is. (by_part s command is).wheel channel c) checkpoint packet sent o l;
  note = λ channel note c n. part_again (λ s. note_of s channel note) (note_says channel note) (λ s command is. (by_part s command is).note channel note c n) checkpoint packet sent o l;
  pressure = λ channel c. part_again (λ s. pressure_of s channel) (pressure_says channel) (λ s command is. (by_part s command is).pressure channel c) checkpoint packet sent o l;
  poly = λ channel note c n. part_again (λ s. poly_of s channel note) (poly_says channel note) (λ s command is. (by_part s command is).poly channel note c n) checkpoint packet sent o l;
}
