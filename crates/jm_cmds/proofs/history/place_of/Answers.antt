use Rattle.std.proofs.Common.{ltb, rules}
use Rattle.std.proofs.lemmas.List.Sorted.{IsPartitionPoint-from_clause, IsPartitionedBy-ltb}
use Rattle.jm_cmds.specs.HistoryLaws.{IsNonDecreasingBy-from_InOrder, below-cut, since-cut}
use Rattle.jm_cmds.specs.Sent.{packet_of}
use Rattle.jm_cmds.proofs.history.place_of.Goals as goal

pub returns-clause-before : goal.returns-clause-before
returns-clause-before c =
    let list = c.args.list.now in
    let rises = IsNonDecreasingBy-from_InOrder packet_of list c.requires in
    let cut = IsPartitionPoint-from_clause (λ s. ltb (packet_of s) c.args.packet) list c.partition_point.result c.partition_point.ensures.partitioned (IsPartitionedBy-ltb packet_of list c.args.packet rises) (λ a r f h. search rules) in
    below-cut packet_of c.args.packet c.partition_point.result list cut c.partition_point.ensures.bound

pub returns-clause-from_on : goal.returns-clause-from_on
returns-clause-from_on c =
    let list = c.args.list.now in
    let rises = IsNonDecreasingBy-from_InOrder packet_of list c.requires in
    let cut = IsPartitionPoint-from_clause (λ s. ltb (packet_of s) c.args.packet) list c.partition_point.result c.partition_point.ensures.partitioned (IsPartitionedBy-ltb packet_of list c.args.packet rises) (λ a r f h. search rules) in
    since-cut packet_of c.args.packet c.partition_point.result list cut c.partition_point.ensures.bound
