use Rattle.jm_session.proofs.PremiseLaws.{sessions_repaired}
use Rattle.jm_session.proofs.laws.sessions_are_repaired.Goals as goal

pub returns : goal.returns
returns c =
    sessions_repaired c.programs_are_repaired.ensures c.controls_are_repaired.ensures c.wheels_are_repaired.ensures c.notes_are_repaired.ensures
    c.pressures_are_repaired.ensures c.song_is_repaired.ensures c.sequencer_is_repaired.ensures c.time_code_is_repaired.ensures
    c.states_are_repaired.ensures c.fresh_logs_repair_states.ensures
