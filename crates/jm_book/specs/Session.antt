-- The session after a list of steps: its stream, and its members.
use Rattle.std.specs.Prelude.{ℕ, ◌≡◌, List, [], ◌∷◌, length, fold}
use Rattle.std.proofs.Common.{refl}
use Rattle.jm_book.specs.declared.steps.Config.{Config}
use Rattle.jm_book.specs.declared.steps.Step.{Step}
use Rattle.jm_book.specs.Stream.{Stream, no_stream, stream_after, stream_of}
use Rattle.jm_book.specs.Members.{Members, no_members, members_after}
use Rattle.jm_book.specs.Participants.{checkpoint_at}

pub record Session : Type 0 where
  pub stream : Stream
  pub members : Members

abbrev pub nothing : Config → Session
nothing config = record { stream = no_stream; members = no_members config }

-- the session after one more step
abbrev pub after : Session → Step → Session
after session step = record {
  stream = stream_after session.stream step;
  members = members_after (length session.stream.packets) session.members step;
}

-- the session after a list of steps
abbrev pub session_of : Config → List Step → Session
session_of config steps = fold after (nothing config) steps

abbrev pub members_of : Config → List Step → Members
members_of config steps = (session_of config steps).members

-- the first packet of which the next journal tells
abbrev pub checkpoint_of : Session → ℕ
checkpoint_of session = checkpoint_at (length session.stream.packets) session.members.joined

stream_along : (session : Session) (steps : List Step) → (fold after session steps).stream ≡ fold stream_after session.stream steps
stream_along session [] = refl
stream_along session (step ∷ steps) = stream_along (after session step) steps

-- its stream is that of the steps, whatever the configuration
pub session_stream : (config : Config) (steps : List Step) → (session_of config steps).stream ≡ stream_of steps
session_stream config steps = stream_along (nothing config) steps
