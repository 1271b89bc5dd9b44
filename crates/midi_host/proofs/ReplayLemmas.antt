-- What a session did with a line is what the script's state makes of it.
use Rattle.std.proofs.Common.{refl, ℕ, List, Result, Ok, Err}
use Rattle.midi_host.specs.declared.conversation.LineOutcome.{LineOutcome}
use Rattle.midi_host.specs.declared.conversation.LineOutcome.TheVariants.{Taken, Bad}
use Rattle.midi_host.specs.Told.{Lined}
use Rattle.midi_host.specs.Did.{Did}
use Rattle.midi_host.specs.Replay.{Playing, within, in_session}

pub did-in_session : {E : Type 0} (result : Result LineOutcome E) (lined : Lined Playing) (next : Playing) (out out' : List ℕ)
    → Did result lined next out out' → Did result (in_session lined) (within next) out out'
did-in_session (Ok Taken) lined next out out' did = let lined_is = did.lined_is in record { text = did.text; lined_is = rw lined_is refl; out_is = did.out_is }
did-in_session (Ok (Bad cause)) lined next out out' did = let lined_is = did.0 in (rw lined_is refl, did.1)
did-in_session (Err e) lined next out out' did = tt
