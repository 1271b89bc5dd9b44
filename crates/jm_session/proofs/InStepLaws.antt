-- Receivers of a session stay in step.
use Rattle.std.proofs.Common.{◌≡◌, ℕ, ◌+◌, ◌≤◌, Bool, true, false, eqb, List, [], ◌∷◌, ◌++◌, map, length, refl, sym, ap, subst, ◌∙◌, inl, inr, arith, append-nil, append_assoc, length-append}
use Rattle.std.proofs.lemmas.Bool.{cases_Bool, eqb-true}
use Rattle.std.proofs.lemmas.Bool.Decides.{nat_tests}
use Rattle.std.proofs.lemmas.List.Sums.{fold-append}
use Rattle.std.specs.Prelude.{Ok, filter, not}
use Rattle.std.specs.List.{AllByRecursion}
use Rattle.jm_cmds.specs.declared.commands.Command.{Command}
use Rattle.jm_cmds.specs.Command.{is_long}
use Rattle.jm_cmds.specs.HistoryLaws.{filter_all}
use Rattle.jm_section.specs.declared.item.PartKind.{PartKind}
use Rattle.jm_section.specs.declared.item.PartKind.TheVariants as part
use Rattle.jm_section.specs.declared.item.What.TheVariants.{Part}
use Rattle.jm_section.specs.Section.{Timed, items_of}
use Rattle.jm_cmds.specs.declared.history.Sent.{Sent}
use Rattle.jm_cmds.specs.History.{below}
use Rattle.jm_cmds.specs.Sent.{packet_of}
use Rattle.jm_receiver.specs.Accept.{Contents, opened}
use Rattle.jm_receiver.specs.Agreement.{Agrees}
use Rattle.jm_receiver.specs.InStep.{first_lacking, CanTell, commands_in, IsSent, HoldsCommands, IsOfStream, IsTaken, ReceiversComeInStep}
use Rattle.jm_receiver.specs.Receiver.{Received}
use Rattle.jm_receiver.specs.Whole.{accepted_whole}
use Rattle.jm_book.specs.declared.steps.Config.{Config}
use Rattle.jm_book.specs.declared.steps.Step.{Step}
use Rattle.jm_book.specs.declared.steps.Step.TheVariants.{Cut}
use Rattle.jm_book.specs.Stream.{Stream, Entry, stream_after, stream_of, as_sent, sent_of, pending_of, number_of_pending, next_packet, next_of, entries_sent, cut_off}
use Rattle.jm_book.specs.Segments.{Segment, next_segment}
use Rattle.jm_book.specs.SegmentLaws.{IsSectionPart}
use Rattle.jm_book.specs.Waiting.{WaitOfOne, WaitAlone}
use Rattle.jm_book.specs.InTurnLaws.{waits_alone}
use Rattle.jm_book.specs.CommandLaws.{commands_any, keeps_commands, later_commands}
use Rattle.jm_book.specs.Session.{session_of, checkpoint_of, session_stream}
use Rattle.jm_book.specs.LimitLaws.{sent_below}
use Rattle.jm_book.specs.Pending.{timed_after, timed_of}
use Rattle.jm_book.specs.Legal.{IsLegal}
use Rattle.jm_book.specs.Commands.{HaveCommands, AreCommands}
use Rattle.jm_book.specs.Packet.{packet_of as octets_of_cut}
use Rattle.jm_session.specs.Packets.{number_of, tick_of_cut, items_by, items_of_cut, IsRead, PacketsAreRead}
use Rattle.jm_session.proofs.PacketLaws.{some_segments, first_part}
use Rattle.jm_session.specs.Premises.{sent_in}
use Rattle.jm_session.proofs.PremiseLaws.{premises_met, sent_from-append, sent_stays}
use Rattle.jm_session.specs.InStep.{IsInStep, ComesInStep, ReceiversStayInStep}

-- ---- the commands of a cut

timed_commands : (before : ℕ) (own : List Sent) → commands_in (items_of (timed_after before own)) ≡ map (λ one. one.command) own
timed_commands before [] = refl
timed_commands before (one ∷ own) = ap (λ (l : List _). one.command ∷ l) (timed_commands one.tick own)

own_commands : (own : List Sent) → commands_in (items_of (timed_of own)) ≡ map (λ one. one.command) own
own_commands [] = refl
own_commands (one ∷ own) = timed_commands one.tick (one ∷ own)

-- those that aren't long stand whole
abbrev is_whole : Command → Bool
is_whole command = not (is_long command)

none_long : (number : ℕ) (pending : List Entry) → AllByRecursion (λ (one : Entry). is_long one.command ≡ false) pending → AllByRecursion (λ command. is_whole command ≡ true) (map (λ one. one.command) (as_sent number pending))
none_long number [] h = tt
none_long number (one ∷ others) h = (rw h.0 refl, none_long number others h.1)

whole_sent : (ts : List Timed) → AllByRecursion (λ item. IsSent item.what) (items_of ts)
whole_sent [] = tt
whole_sent (one ∷ ts) = (tt, whole_sent ts)

-- a segment that a session sends
part_sent : (kind : PartKind) (octets : List ℕ) → IsSectionPart (record { kind = kind; octets = octets }) → IsSent (Part kind octets)
part_sent part.First octets is = is.full refl
part_sent part.Middle octets is = tt
part_sent part.Last octets is = is.some
part_sent part.Cancel octets is = tt

-- the long command that comes with its last segment isn't among the whole ones
long_not_whole : (number : ℕ) (segment : Segment) (others : List Segment) (pending : List Entry) → WaitOfOne (segment ∷ others) pending
    → [] ≡ filter (λ command. is_whole command) (map (λ one. one.command) (as_sent number (entries_sent (segment ∷ others) pending)))
long_not_whole number segment (next ∷ others) pending waits = refl
long_not_whole number segment [] pending waits =
    let long : is_long waits.entry.command ≡ true = some_segments waits.entry.command waits.sent segment [] waits.parts in
    rw (waits.alone, long) refl

holds : (number : ℕ) (waiting : List Segment) (pending : List Entry) → WaitAlone waiting pending → AreCommands (as_sent number pending)
    → HoldsCommands (as_sent number (entries_sent waiting pending)) (items_by (next_segment waiting) (timed_of (as_sent number (entries_sent waiting pending))))
holds number [] pending alone are =
    let own = as_sent number pending in
    record {
      whole = own_commands own ∙ sym (filter_all (λ command. is_whole command) (map (λ one. one.command) own) (none_long number pending alone));
      segments = whole_sent (timed_of own);
    }
holds number (segment ∷ others) pending alone are = record {
  whole = long_not_whole number segment others pending alone;
  segments = (part_sent segment.kind segment.octets (first_part number segment others pending alone are), tt);
}

-- the packet of a cut holds the commands that are sent with it
pub held : (config : Config) (steps : List Step) (tick : ℕ) → IsLegal config steps → HaveCommands steps → HoldsCommands (next_of (session_of config steps).stream tick) (items_of_cut (session_of config steps) tick)
held config steps tick legal brings =
    let stream = stream_of steps in
    let pending = later_commands (sent_of stream) (pending_of stream) (keeps_commands steps brings) in
    let there = holds (length stream.packets) stream.waiting stream.pending (waits_alone config steps legal) (commands_any (number_of_pending stream) (length stream.packets) [] stream.pending pending) in
    subst (λ (s : Stream). HoldsCommands (next_of s tick) (items_by (next_packet s tick).packet.part (timed_of (next_of s tick)))) (sym (session_stream config steps)) there

-- a cut adds the next packet's commands to those that were sent
cut_sent : (stream : Stream) (tick : ℕ) → sent_of (cut_off stream tick) ≡ sent_of stream ++ next_of stream tick
cut_sent stream tick =
    let entries = (next_packet stream tick).packet.entries in
    let same : 0 + length stream.packets ≡ length stream.packets = omega arith in
    sent_from-append 0 stream.packets ((next_packet stream tick).packet ∷ [])
    ∙ ap (λ (n : ℕ). sent_of stream ++ (as_sent n entries ++ [])) same
    ∙ ap (λ (l : List Sent). sent_of stream ++ l) (append-nil (as_sent (length stream.packets) entries))

cut_stream : (config : Config) (steps : List Step) (tick : ℕ) → (session_of config (steps ++ Cut tick ∷ [])).stream ≡ cut_off (session_of config steps).stream tick
cut_stream config steps tick =
    session_stream config (steps ++ Cut tick ∷ [])
    ∙ fold-append stream_after _ steps (Cut tick ∷ [])
    ∙ ap (λ (stream : Stream). cut_off stream tick) (sym (session_stream config steps))

pub sent_by_cut : (config : Config) (steps : List Step) (tick : ℕ) → sent_in (session_of config (steps ++ Cut tick ∷ [])) ≡ sent_in (session_of config steps) ++ next_of (session_of config steps).stream tick
sent_by_cut config steps tick = ap sent_of (cut_stream config steps tick) ∙ cut_sent (session_of config steps).stream tick

pub number_by_cut : (config : Config) (steps : List Step) (tick : ℕ) → number_of (session_of config (steps ++ Cut tick ∷ [])) ≡ number_of (session_of config steps) + 1
number_by_cut config steps tick =
    ap (λ (stream : Stream). length stream.packets) (cut_stream config steps tick)
    ∙ (let all = length-append (session_of config steps).stream.packets ((next_packet (session_of config steps).stream tick).packet ∷ []) in omega (arith, all))

-- further steps leave what was sent by then
pub sent_by_then : (config : Config) (steps more : List Step) (tick : ℕ) →
    below packet_of (number_of (session_of config steps) + 1) (sent_in (session_of config (steps ++ Cut tick ∷ more))) ≡ sent_in (session_of config (steps ++ Cut tick ∷ []))
sent_by_then config steps more tick =
    let next = number_of (session_of config steps) + 1 in
    let cut = steps ++ Cut tick ∷ [] in
    let all : cut ++ more ≡ steps ++ Cut tick ∷ more = append_assoc steps (Cut tick ∷ []) more in
    let same : length (stream_of cut).packets ≡ next = ap (λ (stream : Stream). length stream.packets) (sym (session_stream config cut)) ∙ number_by_cut config steps tick in
    ap (λ (stream : Stream). below packet_of next (sent_of stream)) (session_stream config (steps ++ Cut tick ∷ more))
    ∙ ap (λ (l : List Step). below packet_of next (sent_of (stream_of l))) (sym all)
    ∙ sent_stays cut more next (omega (arith, same))
    ∙ ap (λ (n : ℕ). below packet_of n (sent_of (stream_of cut))) (sym same)
    ∙ sent_below (stream_of cut)
    ∙ ap sent_of (sym (session_stream config cut))

-- ---- the packet

module _ (config : Config) (steps : List Step) (tick : ℕ) (r : Received) (receive : ReceiversComeInStep) (legal : IsLegal config steps) (brings : HaveCommands steps)
    (early : checkpoint_of (session_of config steps) ≤ first_lacking r.last) (tells : CanTell r.last (number_of (session_of config steps))) (is : IsInStep config steps r) where
  -- of its number, whatever a receiver finds in it
  taken_as : (c : Contents) → opened config.ssrc (octets_of_cut (session_of config steps) tick) ≡ Ok c →
      IsOfStream (checkpoint_of (session_of config steps)) (number_of (session_of config steps)) (tick_of_cut (session_of config steps) tick) (sent_in (session_of config steps)) (next_of (session_of config steps).stream tick) c →
      ComesInStep config steps tick r
  taken_as c read stands =
      let session = session_of config steps in
      let number = number_of session in
      let own = next_of session.stream tick in
      let octets = octets_of_cut session tick in
      let premises = premises_met config steps legal brings in
      let mine : opened r.ssrc octets ≡ Ok c = ap (λ (n : ℕ). opened n octets) is.ssrc ∙ read in
      let taken : IsTaken r octets number (below packet_of number (sent_in session)) own =
      receive r octets c (checkpoint_of session) number (tick_of_cut session tick) (sent_in session) own mine stands premises.commands premises.in_order premises.limits.logs early tells is.whole is.unfinished is.agrees in
      let agrees : Agrees taken.after.state (sent_in (session_of config (steps ++ Cut tick ∷ []))) =
      subst (Agrees taken.after.state) (ap (λ (l : List Sent). l ++ own) premises.before ∙ sym (sent_by_cut config steps tick)) taken.in_step in
      record {
        after = taken.after;
        took = taken.took;
        taken = taken.taken;
        number = taken.number;
        told = taken.told;
        missed = taken.missed;
        all_sent = agrees;
        in_step = λ more. record {
          ssrc = taken.ssrc ∙ is.ssrc;
          whole = accepted_whole r octets taken.after taken.took is.whole taken.taken;
          unfinished = taken.unfinished;
          agrees = subst (Agrees taken.after.state) (sym (ap (λ last. below packet_of (first_lacking last) (sent_in (session_of config (steps ++ Cut tick ∷ more)))) taken.number ∙ sent_by_then config steps more tick)) agrees;
        };
      }

  stays : IsRead config.ssrc (session_of config steps) tick → ComesInStep config steps tick r
  stays reads =
      let session = session_of config steps in
      let number = number_of session in
      elim (cases_Bool (eqb number 0)) [
        | inl t ↦
            let none : number ≡ 0 = eqb-true number 0 t in
            taken_as _ (reads.first none)
            (record { number = omega (arith, none); first = λ n. refl; later = λ some. absurd (omega (arith, none, some)); commands = held config steps tick legal brings })
        | inr f ↦
            let some : 1 ≤ number = grind (arith, nat_tests, f) in
            taken_as _ (reads.later some)
            (record { number = refl; first = λ none. absurd (omega (arith, none, some)); later = λ n. refl; commands = held config steps tick legal brings })
      ]

pub stay_in_step : ReceiversComeInStep → PacketsAreRead → ReceiversStayInStep
stay_in_step receive read config steps tick r small legal brings early tells is = stays config steps tick r receive legal brings early tells is (read config steps tick small legal brings)
