-- What comes of a datagram of the data port, and its worker's round, put together from their parts.
use Rattle.std.proofs.Common.{◌≡◌, ℕ, ◌+◌, ◌%◌, true, false, List, [], ◌∷◌, ◌++◌, Option, Some, None, Result, Ok, Err, refl, sym, subst}
use Rattle.std.proofs.lemmas.List.{append-nil}
use Rattle.std.specs.declared.alloc.AllocError.{AllocError}
use Rattle.jm_edge.specs.declared.Addr.{Addr}
use Rattle.jm_edge.specs.Wire.{Letter, Wire}
use Rattle.apple_msg.specs.declared.message.Message.{Message}
use Rattle.apple_session.specs.declared.answer.PortKind.TheVariants.{Rtp}
use Rattle.jm_book.specs.declared.steps.Step.TheVariants as step
use Rattle.jm_book.specs.declared.answers.Heard.{Heard}
use Rattle.jm_book.specs.declared.answers.Heard.TheVariants as heard
use Rattle.jm_desk.specs.declared.turn.Outcome.TheVariants as outcome
use Rattle.jm_desk.specs.History.{before_last}
use Rattle.jm_desk.specs.Sharing.{Shared, PassView, MakesTurn, config_of}
use Rattle.jm_serve.specs.declared.receivers.Slot.{Slot}
use Rattle.jm_serve.specs.declared.receivers.Came.{Came}
use Rattle.jm_serve.specs.declared.listener.Listener.{Listener}
use Rattle.jm_serve.specs.declared.sender.Sender.{Sender}
use Rattle.jm_serve.specs.declared.sender.Pumped.{Pumped}
use Rattle.jm_serve.specs.declared.worked.Rounded.{Rounded}
use Rattle.jm_serve.specs.declared.worked.Rounded.TheVariants as rounded
use Rattle.jm_serve.specs.declared.message_calls.Told.{Told}
use Rattle.jm_serve.specs.declared.playing.Course.{Course}
use Rattle.jm_serve.specs.Exchange.{Posts}
use Rattle.jm_serve.specs.Acts.{act, Scene, Works}
use Rattle.jm_serve.specs.Pump.{Pumps}
use Rattle.jm_serve.specs.Messages.{message_in, said_outcome, reply_letters, Tells}
use Rattle.jm_serve.specs.Receivers.{TakesPacket}
use Rattle.jm_serve.specs.Playing.{Pace, pace_of, scene_of, pace_after, pumped_came, is_next, PlaysList}
use Rattle.jm_serve.specs.Listening.{Welcomes, heard_outcome, heard_course, Hears, unplayed, played, slots_after, came_by, Takes, nothing, no_room, taken, begins_as_message, Listens, quiet, message_came, passed_over, packet_came, HearsOnce, HearsPacket, TellsOnce, TakesOnce, ListensOnce}
use Rattle.jm_serve.specs.Data.{pace_at, Sends, was_full, sent, DataRound, SendsWhatIsDue}
use Rattle.jm_serve.specs.Data.{no_room as no_memory}
use Rattle.jm_serve.specs.Rounds.{DoesRound}
use Rattle.jm_serve.proofs.Joins.{posts_nothing, gains_call, works-then, works_nothing}
use Rattle.jm_serve.proofs.Retrying.{paced_pumps}

-- ---- a message

pub tells_once : (desk : Shared) (from : Addr) (m : Message) (moment : ℕ) (what : Told) (came : Rounded) (slots slots' : List Slot) (old new : Scene) → Tells desk Rtp from m moment what old new → Welcomes m what slots came slots' → TellsOnce desk from m moment came slots slots' old new
tells_once desk from m moment what came slots slots' old new t w = record {
  before = t.before;
  answer = t.answer;
  welcomes = subst (λ (k : Told). Welcomes m k slots came slots') (sym t.told_is) w;
  works = t.works;
}

-- ---- a packet

pub hears_once : (desk : Shared) (ssrc number : ℕ) (result : Result Heard AllocError) (old new : PassView) (call call' : ℕ) → MakesTurn desk old new (step.Hear ssrc number) (heard_outcome result) → call' ≡ (call + 1) % 4294967296 → HearsOnce desk ssrc number result old new call call'
hears_once desk ssrc number result old new call call' made e = record {
  before = before_last new.view.seen;
  gains = gains_call desk old new (step.Hear ssrc number) (heard_outcome result) made;
  calls = e;
}

-- the report alone
reported : (desk : Shared) (ssrc number : ℕ) (result : Result Heard AllocError) (old new : Scene) (h : HearsOnce desk ssrc number result old.pass new.pass old.call new.call) → new.wire ≡ old.wire → new.faults ≡ old.faults
    → Works desk (act h.before (step.Hear ssrc number) (heard_outcome result) ∷ []) [] [] old new
reported desk ssrc number result old new h wire faults =
    let posts : Posts [] [] old.faults old.faults old.wire old.wire = posts_nothing old.faults old.wire in
    record {
      gains = h.gains;
      posts = subst (λ (k : ℕ). Posts [] [] old.faults k old.wire new.wire) (sym faults) (subst (λ (k : Wire). Posts [] [] old.faults old.faults old.wire k) (sym wire) posts);
      calls = h.calls;
    }

module _ (desk : Shared) (came : Came) (moment : ℕ) where
  pub hears_unplayed : (number : ℕ) (result : Result Heard AllocError) (pace : Pace) (old new : Scene) → number ≡ came.took.number % 65536 → is_next (heard_course result) ≡ false → HearsOnce desk came.ssrc number result old.pass new.pass old.call new.call → new.wire ≡ old.wire → new.faults ≡ old.faults
      → HearsPacket desk came moment (heard_course result) pace pace old new
  hears_unplayed number result pace old new e off h wire faults = record {
    acts = act h.before (step.Hear came.ssrc number) (heard_outcome result) ∷ [];
    letters = [];
    hears = subst (λ (k : ℕ). Hears (config_of desk) came moment pace (act h.before (step.Hear came.ssrc k) (heard_outcome result) ∷ []) [] (heard_course result) pace) (sym e) (unplayed h.before result off);
    works = reported desk came.ssrc number result old new h wire faults;
  }

  pub hears_played : (number : ℕ) (come : Course) (pace pace' : Pace) (old middle new : Scene) → number ≡ came.took.number % 65536 → HearsOnce desk came.ssrc number (Ok heard.Noted) old.pass middle.pass old.call middle.call → middle.wire ≡ old.wire → middle.faults ≡ old.faults
      → PlaysList desk came.player came.took.heard moment come pace pace' middle new → HearsPacket desk came moment come pace pace' old new
  hears_played number come pace pace' old middle new e h wire faults p = record {
    acts = act h.before (step.Hear came.ssrc number) (outcome.Heard heard.Noted) ∷ p.acts;
    letters = p.letters;
    hears = subst (λ (k : ℕ). Hears (config_of desk) came moment pace (act h.before (step.Hear came.ssrc k) (outcome.Heard heard.Noted) ∷ p.acts) p.letters come pace') (sym e) (played h.before p.acts p.letters come pace' p.plays);
    works = works-then (reported desk came.ssrc number (Ok heard.Noted) old middle h wire faults) p.works;
  }

module _ (desk : Shared) (octets : List ℕ) (moment : ℕ) where
  pub takes_nothing : (slots slots' : List Slot) (pace : Pace) (scene : Scene) → TakesPacket octets slots (Ok None) slots' → TakesOnce desk octets moment rounded.Whole slots slots' pace pace scene scene
  takes_nothing slots slots' pace scene t = record { acts = []; letters = []; takes = nothing slots' t; works = works_nothing desk scene }

  pub takes_starved : (none : AllocError) (slots slots' : List Slot) (pace : Pace) (scene : Scene) → TakesPacket octets slots (Err none) slots' → TakesOnce desk octets moment rounded.NoMemory slots slots' pace pace scene scene
  takes_starved none slots slots' pace scene t = record { acts = []; letters = []; takes = no_room none slots' t; works = works_nothing desk scene }

  pub takes_taken : (came : Came) (come : Course) (result : Rounded) (slots middle last : List Slot) (pace pace' : Pace) (old new : Scene) → TakesPacket octets slots (Ok (Some came)) middle → HearsPacket desk came moment come pace pace' old new
      → result ≡ came_by come → last ≡ slots_after come came.place middle → TakesOnce desk octets moment result slots last pace pace' old new
  takes_taken came come result slots middle last pace pace' old new t h r l = record {
    acts = h.acts;
    letters = h.letters;
    takes = subst (λ (k : Rounded). Takes (config_of desk) octets moment slots pace h.acts h.letters k last pace') (sym r)
        (subst (λ (k : List Slot). Takes (config_of desk) octets moment slots pace h.acts h.letters (came_by come) k pace') (sym l) (taken came middle h.acts h.letters come pace' t h.hears));
    works = h.works;
  }

-- ---- a datagram

module _ (desk : Shared) (given : Option Letter) (moment : ℕ) where
  pub listens_quiet : (slots : List Slot) (pace : Pace) (scene : Scene) → given ≡ None → ListensOnce desk given moment rounded.Whole slots slots pace pace scene scene
  listens_quiet slots pace scene e = record { acts = []; letters = []; listens = quiet e; works = works_nothing desk scene }

  pub listens_message : (from : Addr) (m : Message) (came : Rounded) (slots slots' : List Slot) (pace pace' : Pace) (old new : Scene) → message_in given ≡ Some (from, m) → TellsOnce desk from m moment came slots slots' old new → pace' ≡ pace
      → ListensOnce desk given moment came slots slots' pace pace' old new
  listens_message from m came slots slots' pace pace' old new e t p = record {
    acts = act t.before (step.Say Rtp from m moment) (said_outcome t.answer) ∷ [];
    letters = reply_letters from t.answer;
    listens = subst (λ (k : Pace). Listens (config_of desk) given moment slots pace (act t.before (step.Say Rtp from m moment) (said_outcome t.answer) ∷ []) (reply_letters from t.answer) came slots' k) (sym p)
        (message_came t.before from m t.answer came slots' e t.welcomes);
    works = t.works;
  }

  pub listens_over : (letter : Letter) (slots : List Slot) (pace : Pace) (scene : Scene) → given ≡ Some letter → begins_as_message letter.octets ≡ true → message_in given ≡ None → ListensOnce desk given moment rounded.Whole slots slots pace pace scene scene
  listens_over letter slots pace scene e f n = record { acts = []; letters = []; listens = passed_over letter e f n; works = works_nothing desk scene }

  pub listens_packet : (letter : Letter) (came : Rounded) (slots slots' : List Slot) (pace pace' : Pace) (old new : Scene) → given ≡ Some letter → begins_as_message letter.octets ≡ false → TakesOnce desk letter.octets moment came slots slots' pace pace' old new
      → ListensOnce desk given moment came slots slots' pace pace' old new
  listens_packet letter came slots slots' pace pace' old new e f t = record {
    acts = t.acts;
    letters = t.letters;
    listens = packet_came letter t.acts t.letters came slots' pace' e f t.takes;
    works = t.works;
  }

-- ---- the round

pub sends_due : (desk : Shared) (moment : ℕ) (result : Result Pumped AllocError) (came : Rounded) (sender sender' : Sender) (old new : Scene) → Pumps desk false moment result sender sender' old new → came ≡ pumped_came result → SendsWhatIsDue desk moment came (pace_of sender) (pace_of sender') old new
sends_due desk moment result came sender sender' old new p e = record {
  acts = p.acts;
  letters = p.letters;
  sends = subst (λ (k : Pace). Sends (config_of desk) moment (pace_of sender) rounded.Whole p.acts p.letters came k) (sym (paced_pumps p))
      (subst (λ (k : Rounded). Sends (config_of desk) moment (pace_of sender) rounded.Whole p.acts p.letters k (pace_after moment result (pace_of sender))) (sym e) (sent p.acts p.letters result p.does));
  works = p.works;
}

module _ (desk : Shared) (given : Option Letter) (moment : ℕ) (listener : Listener) where
  -- a round begins
  pub listens_begun : (begun : Listener) (came : Rounded) (slots : List Slot) (pace : Pace) (pass : PassView) (wire : Wire) (new : Scene) → pace_of begun.sender ≡ pace_at moment listener → begun.receivers ≡ listener.receivers
      → begun.sender.call ≡ listener.sender.call → begun.sender.send_faults ≡ listener.sender.send_faults
      → ListensOnce desk given moment came begun.receivers slots (pace_of begun.sender) pace (scene_of pass wire begun.sender) new
      → ListensOnce desk given moment came listener.receivers slots (pace_at moment listener) pace (scene_of pass wire listener.sender) new
  listens_begun begun came slots pace pass wire new paced same call faults l =
      subst (λ (k : ℕ). ListensOnce desk given moment came listener.receivers slots (pace_at moment listener) pace (record { pass = pass; wire = wire; call = listener.sender.call; faults = k }) new) faults
      (subst (λ (k : ℕ). ListensOnce desk given moment came listener.receivers slots (pace_at moment listener) pace (record { pass = pass; wire = wire; call = k; faults = begun.sender.send_faults }) new) call
      (subst (λ (k : List Slot). ListensOnce desk given moment came k slots (pace_at moment listener) pace (scene_of pass wire begun.sender) new) same
      (subst (λ (k : Pace). ListensOnce desk given moment came begun.receivers slots k pace (scene_of pass wire begun.sender) new) paced l)))

  pub round_whole : (came : Rounded) (listener' : Listener) (pace : Pace) (slots : List Slot) (a b c : Scene) → ListensOnce desk given moment rounded.Whole listener.receivers slots (pace_at moment listener) pace a b
      → SendsWhatIsDue desk moment came pace (pace_of listener'.sender) b c → listener'.receivers ≡ slots → listener'.has_begun ≡ true
      → DoesRound (DataRound (config_of desk)) desk given moment came listener listener' a c
  round_whole came listener' pace slots a b c x y s e = record {
    acts = x.acts ++ y.acts;
    letters = x.letters ++ y.letters;
    does = record {
      heard = x.acts;
      replies = x.letters;
      first = rounded.Whole;
      middle = pace;
      listens = subst (λ (k : List Slot). Listens (config_of desk) given moment listener.receivers (pace_at moment listener) x.acts x.letters rounded.Whole k pace) (sym s) x.listens;
      cuts = y.acts;
      packets = y.letters;
      sends = y.sends;
      has_begun = e;
      acts_are = refl;
      letters_are = refl;
    };
    works = works-then x.works y.works;
  }

  stopped : (came : Rounded) (listener' : Listener) (a b : Scene) → Sends (config_of desk) moment (pace_of listener'.sender) came [] [] came (pace_of listener'.sender) → ListensOnce desk given moment came listener.receivers listener'.receivers (pace_at moment listener) (pace_of listener'.sender) a b
      → listener'.has_begun ≡ true → DoesRound (DataRound (config_of desk)) desk given moment came listener listener' a b
  stopped came listener' a b s x e = record {
    acts = x.acts;
    letters = x.letters;
    does = record {
      heard = x.acts;
      replies = x.letters;
      first = came;
      middle = pace_of listener'.sender;
      listens = x.listens;
      cuts = [];
      packets = [];
      sends = s;
      has_begun = e;
      acts_are = sym (append-nil x.acts);
      letters_are = sym (append-nil x.letters);
    };
    works = x.works;
  }

  pub round_full : (listener' : Listener) (a b : Scene) → ListensOnce desk given moment rounded.RecordFull listener.receivers listener'.receivers (pace_at moment listener) (pace_of listener'.sender) a b → listener'.has_begun ≡ true
      → DoesRound (DataRound (config_of desk)) desk given moment rounded.RecordFull listener listener' a b
  round_full listener' a b x e = stopped rounded.RecordFull listener' a b was_full x e

  pub round_starved : (listener' : Listener) (a b : Scene) → ListensOnce desk given moment rounded.NoMemory listener.receivers listener'.receivers (pace_at moment listener) (pace_of listener'.sender) a b → listener'.has_begun ≡ true
      → DoesRound (DataRound (config_of desk)) desk given moment rounded.NoMemory listener listener' a b
  round_starved listener' a b x e = stopped rounded.NoMemory listener' a b no_memory x e
