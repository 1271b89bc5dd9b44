-- What repair hands on tells a listener most of what it repairs, whatever the state and the logs are.
use Rattle.std.proofs.Common.{◌≡◌, ℕ, true, false, List, [], None, refl, subst}
use Rattle.jm_state.specs.declared.state.State.{State}
use Rattle.jm_state.specs.Kept.{IsState}
use Rattle.jm_state.specs.SettingLaws.{Touched, nothing, SameBut}
use Rattle.jm_reader.specs.declared.logs.Log.{Log}
use Rattle.jm_receiver.specs.declared.heard.Heard.{Heard}
use Rattle.jm_receiver.specs.declared.heard.Hearing.{Hearing}
use Rattle.jm_receiver.specs.Follows.{Follows, self_follows, AreKept, all_programs, bank_controls, repair_follows}
use Rattle.jm_receiver.specs.HandedOn.{repair_handed_on}
use Rattle.jm_receiver.specs.Listened.{listened, repair_listened}
use Rattle.jm_receiver.specs.Repair.{repaired}

-- the hearing of a listener that has this state and has heard nothing
abbrev pub listening : State → (tick : ℕ) → Hearing
listening s tick = record { state = s; tick = tick; heard = []; unfinished = None }

-- the commands that repair of this state by these logs hands on, in order
abbrev pub handed_on_by : List Log → State → (tick : ℕ) → List Heard
handed_on_by logs s tick = (repair_handed_on logs (repaired s logs) (listening s tick)).heard

-- the parts of which this law says nothing: song position, time code and the pedal's toggles, of which no command tells, and the
-- programs, Controls 0 and 32, selections and parameters, whose logs go by what came before them
abbrev pub unheard : Touched
unheard = record nothing { sequencer = true; time_code = true; program = all_programs; control = bank_controls; toggles = all_programs; selection = all_programs; params = all_programs }

-- The commands that repair hands on, each applied in order to the old state, leave it with the song, the number of messages, the controls
-- but 0 and 32, the wheels, the sounding notes with their velocities and the pressures of the repaired state: whatever the logs are,
-- of which the messages that reset nothing have at most 254 data octets. It excludes that a log hands on nothing where it changes
-- the listener, be it a reset, a count or a message.
abbrev pub MostPartsAreHeard : Type 0
MostPartsAreHeard = (s : State) (logs : List Log) (tick : ℕ) → IsState s → AreKept logs → SameBut unheard (repaired s logs) (listened s (handed_on_by logs s tick))

followed : (t s : State) → Follows all_programs bank_controls t s → SameBut unheard s t
followed t s f = record {
  song = λ n. f.song;
  sequencer = λ n. absurd (let b : true ≡ false = n in cc);
  time_code = λ n. absurd (let b : true ≡ false = n in cc);
  sysex_count = λ n. f.sysex_count;
  program = λ channel l n. absurd (let b : true ≡ false = n in cc);
  control = λ channel number l k n. f.control channel number l k n;
  toggles = λ channel l n. absurd (let b : true ≡ false = n in cc);
  selection = λ channel l n. absurd (let b : true ≡ false = n in cc);
  param = λ channel nrpn high low l n. absurd (let b : true ≡ false = n in cc);
  wheel = λ channel l n. f.wheel channel l;
  note = λ channel note l k n. f.note channel note l k;
  pressure = λ channel l n. f.pressure channel l;
  poly = λ channel note l k n. f.poly channel note l k;
}

pub most_heard : MostPartsAreHeard
most_heard s logs tick is kept =
    let whole = repaired s logs in
    let h = listening s tick in
    subst (λ (t : State). SameBut unheard whole t) (repair_listened s logs whole h refl)
    (followed (repair_handed_on logs whole h).state whole (repair_follows logs whole h s kept (self_follows all_programs bank_controls s is)))
