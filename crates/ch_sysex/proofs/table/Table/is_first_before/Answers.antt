use Rattle.std.proofs.Common.{◌≡◌, ap, sym}
use Rattle.std.proofs.lemmas.Bool.{ltb-true, ltb-false}
use Rattle.ch_sysex.specs.SysexTable.{SysexKept, logs_in}
use Rattle.ch_sysex.proofs.KeptLaws.{first_none, first_late, first_early}
use Rattle.ch_sysex.proofs.table.Table.is_first_before.Goals as goal

pub returns-in-None-clause-late : goal.returns-in-None-clause-late
returns-in-None-clause-late c = λ e.
    let logs : logs_in c.self.inside.messages.items ≡ c.args.self.now.logs = ap (λ (t : SysexKept). t.logs) c.self.view_is in
    rw logs at (first_none c.args.packet c.self.inside.messages.items (sym c.in-None.ensures))

pub returns-in-Some-clause-early : goal.returns-in-Some-clause-early
returns-in-Some-clause-early c = λ e.
    let logs : logs_in c.self.inside.messages.items ≡ c.args.self.now.logs = ap (λ (t : SysexKept). t.logs) c.self.view_is in
    rw logs at (first_early c.args.packet c.in-Some.first.now c.self.inside.messages.items (sym c.in-Some.ensures) (ltb-true c.in-Some.first.now.packet c.args.packet e))

pub returns-in-Some-clause-late : goal.returns-in-Some-clause-late
returns-in-Some-clause-late c = λ e.
    let logs : logs_in c.self.inside.messages.items ≡ c.args.self.now.logs = ap (λ (t : SysexKept). t.logs) c.self.view_is in
    rw logs at (first_late c.args.packet c.in-Some.first.now c.self.inside.messages.items c.self.invariant.2 (sym c.in-Some.ensures) (ltb-false c.in-Some.first.now.packet c.args.packet e))
