use Rattle.std.proofs.Common.{◌≡◌, eqb, inl, inr, arith}
use Rattle.std.proofs.lemmas.Bool.{cases_Bool, eqb-true, eqb-false}
use Rattle.jm_state.proofs.comparing.same_controls.Goals as goal

-- src/comparing.rt
pub loop-number-preserved : goal.loop-number-preserved
loop-number-preserved c = λ k h. elim (cases_Bool (eqb k c.loop-number.number)) [
  | inl t ↦
      let number : c.low.result ≡ c.loop-number.number = omega (arith, c.low.ensures.value, c.loop-number-test.true) in
      rw (eqb-true k c.loop-number.number t) (rw number at (c.same_control.ensures.holds c.if-not-same_control.false))
  | inr f ↦ c.loop-number.invariant k (omega (arith, h, eqb-false k c.loop-number.number f))
]
