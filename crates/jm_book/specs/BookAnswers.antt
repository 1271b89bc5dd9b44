-- What each call of a book answers: as in the session after its steps, with room where the tape isn't full.
use Rattle.std.specs.Prelude.{ℕ, Bool, nat_lt, Option, List, length}
use Rattle.jm_cmds.specs.declared.commands.Command.{Command}
use Rattle.jm_edge.specs.declared.Addr.{Addr}
use Rattle.apple_msg.specs.declared.message.Message.{Message}
use Rattle.apple_session.specs.declared.answer.PortKind.{PortKind}
use Rattle.jm_book.specs.declared.steps.Config.{Config}
use Rattle.jm_book.specs.declared.steps.Step.{Step}
use Rattle.jm_book.specs.declared.lists.FeedbackEntry.{FeedbackEntry}
use Rattle.jm_book.specs.declared.answers.Entered.{Entered}
use Rattle.jm_book.specs.declared.answers.Played.{Played}
use Rattle.jm_book.specs.declared.answers.PlayFault.{PlayFault}
use Rattle.jm_book.specs.declared.answers.Cutted.{Cutted}
use Rattle.jm_book.specs.declared.answers.Acked.{Acked}
use Rattle.jm_book.specs.declared.answers.Joined.{Joined}
use Rattle.jm_book.specs.declared.answers.Gone.{Gone}
use Rattle.jm_book.specs.declared.answers.Heard.{Heard}
use Rattle.jm_book.specs.declared.answers.Given.{Given}
use Rattle.jm_book.specs.declared.answers.Said.{Said}
use Rattle.jm_book.specs.Session.{session_of, members_of}
use Rattle.jm_book.specs.Answers.{enter_in, refusal_in, play_in, cut_in, ack_in, join_in, leave_in, hear_in, feedback_in, say_in, feedback_of, addresses_of}

-- the tape has fewer steps than the session was made for
abbrev pub has_room : Config → List Step → Bool
has_room config steps = nat_lt (length steps) config.events

abbrev pub enter_answer : Config → List Step → Entered
enter_answer config steps = enter_in (has_room config steps) config.events (session_of config steps)

abbrev pub play_refusal : Config → List Step → (player : ℕ) → Command → (tick : ℕ) → Option PlayFault
play_refusal config steps player command tick =
    refusal_in (has_room config steps) config.events (session_of config steps) player command tick

abbrev pub play_answer : Config → List Step → (player : ℕ) → Command → (tick : ℕ) → Played
play_answer config steps player command tick =
    play_in (has_room config steps) config.events (session_of config steps) player command tick

abbrev pub cut_answer : Config → List Step → Cutted
cut_answer config steps = cut_in (has_room config steps) config.events (session_of config steps)

abbrev pub ack_answer : Config → List Step → (ssrc seq : ℕ) → Acked
ack_answer config steps ssrc seq = ack_in (has_room config steps) config.events (session_of config steps) ssrc seq

abbrev pub join_answer : Config → List Step → (ssrc : ℕ) → Joined
join_answer config steps ssrc = join_in (has_room config steps) config.events (session_of config steps) ssrc

abbrev pub leave_answer : Config → List Step → (ssrc : ℕ) → Gone
leave_answer config steps ssrc = leave_in (has_room config steps) config.events (session_of config steps) ssrc

abbrev pub hear_answer : Config → List Step → (ssrc : ℕ) → Heard
hear_answer config steps ssrc = hear_in (has_room config steps) config.events (session_of config steps) ssrc

abbrev pub feedback_answer : Config → List Step → Given
feedback_answer config steps = feedback_in (has_room config steps) config.events (session_of config steps)

abbrev pub say_answer : Config → List Step → PortKind → Addr → Message → (now : ℕ) → Said
say_answer config steps port from message now =
    say_in (has_room config steps) config.events (session_of config steps) port from message now

-- what `feedback` puts into its list
abbrev pub feedback_list : Config → List Step → List FeedbackEntry
feedback_list config steps = feedback_of (members_of config steps).joined (members_of config steps).host.peers

-- what `addresses` puts into its list
abbrev pub address_list : Config → List Step → List Addr
address_list config steps = addresses_of (members_of config steps).host.peers
