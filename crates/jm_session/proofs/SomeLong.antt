-- The session with a long message meets the premises on long commands.
use Rattle.std.proofs.Common.{◌≡◌, ℕ, ◌+◌, ◌/◌, ◌<◌, ◌≤◌, Bool, true, false, List, [], ◌∷◌, ◌++◌, Option, length, take, refl, sym, ap, subst, arith, append-nil, length-append}
use Rattle.std.specs.Prelude.{nat_lt}
use Rattle.std.proofs.lemmas.Bool.{le-ltb, ltb-true}
use Rattle.std.proofs.lemmas.List.{length-take-le}
use Rattle.jm_cmds.specs.declared.commands.Command.{Command}
use Rattle.jm_cmds.specs.declared.commands.Command.TheVariants.{Sysex}
use Rattle.jm_cmds.specs.Data.{IsSysex, is_long_message}
use Rattle.jm_cmds.specs.LongLaws.{long_unkept}
use Rattle.jm_journal.specs.declared.fits.Fit.{Fit}
use Rattle.jm_journal.specs.declared.fits.Fit.TheVariants as fit
use Rattle.jm_journal.specs.Limits.{fit_of}
use Rattle.jm_section.specs.declared.item.What.{What}
use Rattle.jm_section.specs.declared.next.Place.TheVariants.{First}
use Rattle.jm_section.specs.Section.{item_text, what_text, items_text}
use Rattle.jm_receiver.specs.declared.heard.Heard.{Heard}
use Rattle.jm_receiver.specs.InStep.{CanTell, first_lacking}
use Rattle.jm_receiver.specs.SegmentsHeard.{TakesAll, takes_none, takes_one}
use Rattle.jm_receiver.specs.Whole.{new_whole}
use Rattle.jm_book.specs.declared.steps.Step.{Step}
use Rattle.jm_book.specs.declared.steps.Step.TheVariants.{Enter, Play, Cut}
use Rattle.jm_book.specs.Segments.{first_segment, segments_in, part_of, text_of}
use Rattle.jm_book.specs.SegmentLaws.{length_segments}
use Rattle.jm_book.specs.Session.{Session, session_of, checkpoint_of}
use Rattle.jm_book.specs.Answers.{what_of, is_behind_others, fit_after, fit_refusal, or_else, cut_refusal, list_with, delta_with, played_as, is_accepted}
use Rattle.jm_book.specs.Legal.{IsTaken, IsLegal}
use Rattle.jm_book.specs.Commands.{HaveCommands}
use Rattle.jm_book.specs.Packet.{packet_of as octets_of_cut}
use Rattle.jm_session.specs.InStep.{IsInStep, ComesInStep, ReceiversStayInStep}
use Rattle.jm_session.specs.LongHeard.{packets_with, LongCommandsAreHeardOnce}
use Rattle.jm_session.specs.SomeSession.{host, listener}
use Rattle.jm_session.specs.SomeLongSession.{two_cuts, IsHeardInTwo, SomeLongCommandsAreHeard}
use Rattle.jm_session.proofs.SomeHonest.{nothing_agrees}

-- a play is accepted where its command fits, no segment waits, and no limit of a packet is passed
accepted_with : (serial : ℕ) (command : Command) (answer : Fit) (behind : Bool) (octets delta : ℕ) → answer ≡ fit.Yes → behind ≡ false → octets ≤ 4095 → delta ≡ 0
    → is_accepted (played_as serial command (or_else (fit_refusal answer) (cut_refusal [] behind 0 octets delta))) ≡ true
accepted_with serial command answer behind octets delta fits first few none =
    let short : nat_lt 4095 octets ≡ false = le-ltb 4095 octets few in
    rw (fits, first, short, none) refl

abbrev at_first : Session
at_first = session_of host (Enter ∷ [])

module _ (octets : List ℕ) (is : IsSysex octets) (long : is_long_message octets ≡ true) (few : length octets ≤ 4092) where
  abbrev play : Step
  play = Play 0 (Sysex octets) 10

  abbrev played : List Step
  played = Enter ∷ play ∷ []

  many : 2046 < length octets
  many = ltb-true 2046 (length octets) long

  -- its first segment is the list of a packet
  list_few : list_with at_first.stream (Sysex octets) 10 ≤ 4095
  unfolding item_text what_text
  list_few =
      let first = take 2046 octets in
      let list_size : What → ℕ = λ one. length (items_text First (record { delta = 0; what = one } ∷ [])) in
      let size : length first ≡ 2046 = length-take-le 2046 octets (omega (arith, many)) in
      let text : length (text_of (first_segment octets)) ≡ length first + 2 = omega (arith, length-append first (0xf0 ∷ [])) in
      let list : list_size (part_of (first_segment octets)) ≡ length (text_of (first_segment octets)) = ap length (append-nil (text_of (first_segment octets))) in
      let short : list_size (part_of (first_segment octets)) ≤ 4095 = omega (arith, list, text, size) in
      let what : what_of (Sysex octets) ≡ part_of (first_segment octets) = rw long refl in
      subst (λ (one : What). list_size one ≤ 4095) (sym what) short

  it_fits : fit_after at_first (Sysex octets) ≡ fit.Yes
  unfolding fit_of
  it_fits = rw (long_unkept octets long) refl

  not_behind : is_behind_others (Sysex octets) 0 ≡ false
  not_behind = rw long refl

  plays : IsTaken host (Enter ∷ []) play
  plays = accepted_with 0 (Sysex octets) (fit_after at_first (Sysex octets)) (is_behind_others (Sysex octets) 0) (list_with at_first.stream (Sysex octets) 10) (delta_with at_first.stream 10) it_fits not_behind list_few refl

  two : length (segments_in (Sysex octets)) ≡ 2
  two =
      let count : length (segments_in (Sysex octets)) ≡ (length octets + 2045) / 2046 = rw long (length_segments octets long) in
      omega (arith, count, many, few)

  module _ (stays : ReceiversStayInStep) (law : LongCommandsAreHeardOnce) where
    begins : IsInStep host played listener
    begins = record { ssrc = refl; whole = new_whole 1; unfinished = tt; agrees = nothing_agrees }

    -- packet 0
    first : ComesInStep host played 10 listener
    first = stays host played 10 listener (omega arith) (refl, (plays, tt)) (tt, (is, tt)) (omega arith) (omega arith) begins

    abbrev cut_once : List Step
    cut_once = played ++ Cut 10 ∷ []

    -- packet 1
    second : ComesInStep host cut_once 20 first.after
    second =
        let session = session_of host cut_once in
        let early : checkpoint_of session ≤ first_lacking first.after.last = subst (λ (last : Option ℕ). checkpoint_of session ≤ first_lacking last) (sym first.number) (omega arith) in
        let tells : CanTell first.after.last 1 = subst (λ (last : Option ℕ). CanTell last 1) (sym first.number) record { later = omega arith; near = omega arith; small = omega arith } in
        stays host cut_once 20 first.after (omega arith) (refl, (plays, (refl, tt))) (tt, (is, (tt, tt))) early tells (first.in_step [])

    abbrev in_all : List Heard
    in_all = first.took.heard ++ (second.took.heard ++ [])

    takes_both : TakesAll listener (packets_with host (Enter ∷ []) 0 (Sysex octets) 10 two_cuts) in_all
    takes_both =
        let zero = octets_of_cut (session_of host played) 10 in
        let one = octets_of_cut (session_of host cut_once) 20 in
        subst (λ (count : ℕ). TakesAll listener (take count (zero ∷ one ∷ [])) in_all) (sym two)
        (takes_one listener first.after first.took zero (one ∷ []) (second.took.heard ++ []) first.taken
        (takes_one first.after second.after second.took one [] [] second.taken (takes_none second.after)))

    heard_in_two : IsHeardInTwo octets
    heard_in_two =
        let legal : IsLegal host (Enter ∷ play ∷ two_cuts) = (refl, (plays, (refl, (refl, tt)))) in
        let brings : HaveCommands (Enter ∷ play ∷ two_cuts) = (tt, (is, (tt, (tt, tt)))) in
        record {
          legal = legal;
          commands = brings;
          sent = omega (arith, two);
          heard = in_all;
          takes = takes_both;
          hears = (law host (Enter ∷ []) 0 (Sysex octets) 10 two_cuts (omega arith) legal brings long (omega (arith, two))).once listener in_all refl refl takes_both;
        }

pub some_long_heard : ReceiversStayInStep → LongCommandsAreHeardOnce → SomeLongCommandsAreHeard
some_long_heard stays law octets is long few = heard_in_two octets is long few stays law
