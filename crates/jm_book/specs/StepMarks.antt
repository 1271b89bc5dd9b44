-- A taken report moves a mark, and a joiner's mark is the last sent packet.
use Rattle.std.proofs.Common.{ℕ, ◌+◌, ◌%◌, ◌<◌, ◌≡◌, refl, List, [], ◌∷◌, ◌++◌, None, arith}
use Rattle.jm_book.specs.declared.steps.Config.{Config}
use Rattle.jm_book.specs.declared.steps.Step.{Step}
use Rattle.jm_book.specs.declared.steps.Step.TheVariants.{Ack, Join}
use Rattle.jm_book.specs.declared.participants.Participant.{Participant}
use Rattle.jm_book.specs.Participants.{free_slot, distance, reaches}
use Rattle.jm_book.specs.Stream.{last_sent}
use Rattle.jm_book.specs.Session.{Session, session_of, after}
use Rattle.jm_book.specs.Legal.{IsTaken}
use Rattle.jm_book.specs.Marks.{Advances, Enters}
use Rattle.jm_book.specs.TakenLaws.{Reports, ack_taken, join_taken, taken_in}
use Rattle.jm_book.specs.JoinedLaws.{find_changed, find_other, find_push}
use Rattle.jm_book.specs.StepLaws.{session_push}

-- a mark and its distance to 16 bits have these low 16 bits
pub distance_reaches : (mark seq : ℕ) → seq < 65536 → (mark + distance mark seq) % 65536 ≡ seq
distance_reaches mark seq small = omega arith

advances : (s : Session) (ssrc seq : ℕ) → seq < 65536 → Reports s ssrc seq → Advances s (after s (Ack ssrc seq)) ssrc seq
advances s ssrc seq small r =
    let to = reaches r.one seq in
    let change : Participant → Participant = λ other. record other { mark = to } in
    let past = r.news.past in
    let near = r.news.near in
    let sent = r.news.sent in
    rw (r.found, r.moves) record {
      one = r.one;
      mark = to;
      was = r.found;
      is = find_changed change ssrc s.members.joined r.one (λ other. refl) r.found;
      low = distance_reaches r.one.mark seq small;
      past = omega arith;
      near = omega arith;
      sent = omega arith;
      others = λ other apart. find_other change ssrc other s.members.joined (λ one. refl) apart;
    }

pub ack_advances : (config : Config) (steps : List Step) (ssrc seq : ℕ) → seq < 65536 → IsTaken config steps (Ack ssrc seq) → Advances (session_of config steps) (session_of config (steps ++ Ack ssrc seq ∷ [])) ssrc seq
ack_advances config steps ssrc seq small taken =
    rw (session_push config steps (Ack ssrc seq)) (advances (session_of config steps) ssrc seq small (ack_taken config.events (session_of config steps) ssrc seq (taken_in config steps (Ack ssrc seq) taken)))

pub join_enters : (config : Config) (steps : List Step) (ssrc : ℕ) → IsTaken config steps (Join ssrc) → Enters (session_of config (steps ++ Join ssrc ∷ [])) ssrc
join_enters config steps ssrc taken =
    let s = session_of config steps in
    let one : Participant = record { ssrc = ssrc; mark = last_sent s.stream; slot = free_slot s.members.joined; heard = None } in
    rw (session_push config steps (Join ssrc)) record { one = one; is = find_push s.members.joined one (join_taken config.events s ssrc (taken_in config steps (Join ssrc) taken)).absent; mark = refl }
