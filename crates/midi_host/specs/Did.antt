-- What a verb did with a line, beside what it makes of it.
use Rattle.std.specs.Prelude.{◌≡◌, ℕ, List, ◌++◌, ⊤}
use Rattle.std.specs.declared.result.Result.{Result}
use Rattle.std.specs.declared.result.Result.TheVariants.{Ok, Err}
use Rattle.midi_host.specs.declared.conversation.LineOutcome.{LineOutcome}
use Rattle.midi_host.specs.declared.conversation.LineOutcome.TheVariants.{Taken, Bad}
use Rattle.midi_host.specs.Told.{Lined, taken, refused}

-- it was taken: the answer stands at the end of what is put out, and this state was left
pub record DidTake {State : Type 0} (lined : Lined State) (next : State) (out out' : List ℕ) : Type 0 where
  pub text : List ℕ
  pub lined_is : lined ≡ taken text next
  pub out_is : out' ≡ out ++ text

abbrev pub Did : {State E : Type 0} → Result LineOutcome E → Lined State → State → List ℕ → List ℕ → Type 0
Did (Ok Taken) lined next out out' = DidTake lined next out out'
Did (Ok (Bad cause)) lined next out out' = (lined ≡ refused cause) × (out' ≡ out)
Did (Err e) lined next out out' = ⊤
