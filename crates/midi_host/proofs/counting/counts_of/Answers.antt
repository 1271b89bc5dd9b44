use Rattle.std.proofs.Common.{rules, ◌≡◌, ◌+◌, ◌≤◌, ◌∙◌, drop, List, [], ◌∷◌, refl, sym, ap, arith}
use Rattle.std.specs.List.{fold}
use Rattle.jm_book.specs.declared.steps.Step.{Step}
use Rattle.jm_book.specs.Session.{nothing, after}
use Rattle.midi_host.specs.Counts.{tallied, tally_at_first, with_change, with_kind}
use Rattle.midi_host.proofs.Attending.{AreFew, few_more, one_more, at_step}
use Rattle.midi_host.proofs.counting.counts_of.Goals as goal

pub loop-step-init : goal.loop-step-init
loop-step-init c = (
  nothing c.args.config.now,
  rw (c.new-attendance.ensures, c.copy.ensures) (record { host_is = refl; joined_are = refl }),
  refl,
  omega arith,
  omega arith,
  omega arith,
  omega arith,
)

pub loop-step-preserved : goal.loop-step-preserved
loop-step-preserved c =
    let session = c.loop-step.invariant.0 in
    let held = c.loop-step.invariant in
    let one = c.step-item.result in
    let i = c.loop-step.step-index in
    let rest : drop i c.args.tape.now ≡ one ∷ drop (i + 1) c.args.tape.now = at_step c.args.tape.now i one c.loop-step-test.true c.step-item.is in
    let whole = ap (fold tallied (record { session = session; counts = c.loop-step.counts })) (sym rest) ∙ held.2 in
    let counted = c.add_kind.ensures ∙ ap (with_kind one) c.add_change.ensures in
    let more = one_more session c.loop-step.attendance c.follow.new.self one c.in_ok-change.change c.loop-step.counts c.add_kind.new.counts (drop (i + 1) c.args.tape.now) (fold tallied (tally_at_first c.args.config.now) c.args.tape.now)
    held.1 c.in_ok-change.ensures counted whole in
    let few = few_more i one c.in_ok-change.change c.loop-step.counts (held.3, held.4, held.5, held.6) in
    let less : AreFew (i + 1) c.add_kind.new.counts = rw counted few in
    (after session one, more.0, more.1, less.0, less.1, less.2, less.3)
