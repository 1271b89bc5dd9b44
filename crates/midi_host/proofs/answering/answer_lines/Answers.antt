-- Each read brings the run further, and each end of it is met with what was answered so far.
use Rattle.std.proofs.Common.{◌≤◌, length, take, refl, arith}
use Rattle.std.proofs.lemmas.List.{length-take-le}
use Rattle.midi_host.proofs.TextLemmas.{has_end-none}
use Rattle.midi_host.proofs.Progress.{Comes-start, Comes-next, Ends-finish, Ends-read, Ends-part, Ends-bad_part, Ends-memory, Ends-bad, ReadSoFar-start, ReadSoFar-next, ReadsFew-last}
use Rattle.midi_host.proofs.answering.answer_lines.Goals as goal

pub reads-init : goal.reads-init
reads-init g c = record {
  kept = record { few = omega arith; short = omega (arith, c.new.ensures.len); of_line = rw c.new.ensures.items has_end-none };
  written = c.new-2.ensures;
  comes = Comes-start (g.V.Conversation.told c.args.verb.now 0) c.new.result.items _ _ c.new.ensures.items;
  reads = omega arith;
  writes = omega arith;
  few = ReadSoFar-start _ _;
  room = refl;
}

pub returns-in-Done-clause-ends : goal.returns-in-Done-clause-ends
returns-in-Done-clause-ends g c =
    let reader = c.reads.reader in
    Ends-finish c.finish.result _ (g.V.Conversation.told c.reads.verb reader.before) reader.line.items _ _ _ _ _ _ c.reads.invariant.comes c.in-Done.ensures.takes c.finish.ensures.finishes

pub returns-in-Failed-clause-ends : goal.returns-in-Failed-clause-ends
returns-in-Failed-clause-ends g c =
    let reader = c.reads.reader in
    Ends-read _ (g.V.Conversation.told c.reads.verb reader.before) reader.line.items _ _ _ _ _ c.reads.invariant.comes c.in-Failed.ensures.takes c.reads.invariant.kept.of_line (g.met.V.Conversation.told_nothing c.reads.verb reader.before)

pub returns-in-Err-clause-ends : goal.returns-in-Err-clause-ends
returns-in-Err-clause-ends g c =
    let reader = c.reads.reader in
    Ends-memory _ (g.V.Conversation.told c.reads.verb reader.before) reader.line.items _ _ (g.S.Source.left c.read.new.self) _ _ c.reads.invariant.comes

pub reads-preserved : goal.reads-preserved
reads-preserved g c =
    let reader = c.reads.reader in
    let reader' = c.take_piece.new.reader in
    let fed = rw c.in-Ok-On.field-0-is at c.in-Ok-On.ensures.fed in
    let nears = rw c.in-Ok-On.field-0-is at c.in-Ok-On.ensures.nears in
    let within = c.in-Octets.ensures.within in
    let some : 1 ≤ length (take c.in-Octets.count c.read.new.buf) = rw (length-take-le c.in-Octets.count c.read.new.buf within.1) within.0 in
    record {
      kept = record { few = nears.0.few; short = nears.0.short; of_line = nears.0.of_line };
      written = c.in-Ok.ensures.cleared;
      comes = Comes-next _ (g.V.Conversation.told c.reads.verb reader.before) (g.V.Conversation.told c.take_piece.new.verb reader'.before) reader.line.items reader'.line.items _ reader.answers reader'.answers _ _ _ _ _ _ c.reads.invariant.comes c.in-Octets.ensures.takes c.reads.invariant.written fed c.in-Ok.ensures.ok;
      reads = omega (arith, c.in-Octets.ensures.counted);
      writes = omega (arith, c.in-Ok.ensures.counted);
      few = ReadSoFar-next _ _ _ _ _ _ _ c.reads.invariant.few c.in-Octets.ensures.takes some c.in-Octets.ensures.read_once;
      room = omega (arith, c.read.auto.buf, c.reads.invariant.room);
    }

pub returns-in-Err-write_out-clause-ends : goal.returns-in-Err-write_out-clause-ends
returns-in-Err-write_out-clause-ends g c =
    let reader = c.reads.reader in
    let reader' = c.take_piece.new.reader in
    let fed = rw c.in-Ok-On.field-0-is at c.in-Ok-On.ensures.fed in
    Ends-part _ (g.V.Conversation.told c.reads.verb reader.before) (g.V.Conversation.told c.take_piece.new.verb reader'.before) reader.line.items reader'.line.items _ reader.answers reader'.answers _ _ _ _ _ _ c.reads.invariant.comes c.in-Octets.ensures.takes c.reads.invariant.written fed c.in-Err-write_out.ensures.err

pub returns-in-Err-write_out-2-clause-ends : goal.returns-in-Err-write_out-2-clause-ends
returns-in-Err-write_out-2-clause-ends g c =
    let reader = c.reads.reader in
    let reader' = c.take_piece.new.reader in
    let fed = rw c.in-Ok-Stop.field-0-is at c.in-Ok-Stop.ensures.fed in
    Ends-bad_part _ (g.V.Conversation.told c.reads.verb reader.before) reader.line.items _ reader.answers reader'.answers _ _ _ _ _ _ c.reads.invariant.comes c.in-Octets.ensures.takes c.reads.invariant.written fed c.in-Err-write_out-2.ensures.err

pub returns-in-Ok-write_out-clause-ends : goal.returns-in-Ok-write_out-clause-ends
returns-in-Ok-write_out-clause-ends g c =
    let reader = c.reads.reader in
    let reader' = c.take_piece.new.reader in
    let fed = rw c.in-Ok-Stop.field-0-is at c.in-Ok-Stop.ensures.fed in
    Ends-bad _ (g.V.Conversation.told c.reads.verb reader.before) reader.line.items _ reader.answers reader'.answers _ _ _ _ _ _ c.reads.invariant.comes c.in-Octets.ensures.takes c.reads.invariant.written fed c.in-Ok-write_out.ensures.ok

pub returns-in-Done-clause-reads_few : goal.returns-in-Done-clause-reads_few
returns-in-Done-clause-reads_few g c =
    ReadsFew-last (g.S.Source.left c.args.source.now) (g.S.Source.left c.reads.source) (g.S.Source.reads c.args.source.now) (g.S.Source.reads c.reads.source) (g.S.Source.reads c.read.new.self) c.reads.invariant.few c.in-Done.ensures.read_once

pub returns-in-Failed-clause-reads_few : goal.returns-in-Failed-clause-reads_few
returns-in-Failed-clause-reads_few g c =
    ReadsFew-last (g.S.Source.left c.args.source.now) (g.S.Source.left c.reads.source) (g.S.Source.reads c.args.source.now) (g.S.Source.reads c.reads.source) (g.S.Source.reads c.read.new.self) c.reads.invariant.few c.in-Failed.ensures.read_once

pub returns-in-Err-clause-reads_few : goal.returns-in-Err-clause-reads_few
returns-in-Err-clause-reads_few g c =
    ReadsFew-last (g.S.Source.left c.args.source.now) (g.S.Source.left c.reads.source) (g.S.Source.reads c.args.source.now) (g.S.Source.reads c.reads.source) (g.S.Source.reads c.read.new.self) c.reads.invariant.few c.in-Octets.ensures.read_once

pub returns-in-Err-write_out-clause-reads_few : goal.returns-in-Err-write_out-clause-reads_few
returns-in-Err-write_out-clause-reads_few g c =
    ReadsFew-last (g.S.Source.left c.args.source.now) (g.S.Source.left c.reads.source) (g.S.Source.reads c.args.source.now) (g.S.Source.reads c.reads.source) (g.S.Source.reads c.read.new.self) c.reads.invariant.few c.in-Octets.ensures.read_once

pub returns-in-Ok-write_out-clause-reads_few : goal.returns-in-Ok-write_out-clause-reads_few
returns-in-Ok-write_out-clause-reads_few g c =
    ReadsFew-last (g.S.Source.left c.args.source.now) (g.S.Source.left c.reads.source) (g.S.Source.reads c.args.source.now) (g.S.Source.reads c.reads.source) (g.S.Source.reads c.read.new.self) c.reads.invariant.few c.in-Octets.ensures.read_once

pub returns-in-Err-write_out-2-clause-reads_few : goal.returns-in-Err-write_out-2-clause-reads_few
returns-in-Err-write_out-2-clause-reads_few g c =
    ReadsFew-last (g.S.Source.left c.args.source.now) (g.S.Source.left c.reads.source) (g.S.Source.reads c.args.source.now) (g.S.Source.reads c.reads.source) (g.S.Source.reads c.read.new.self) c.reads.invariant.few c.in-Octets.ensures.read_once
