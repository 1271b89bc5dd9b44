use Rattle.std.proofs.Common.{ltb}
use Rattle.jm_cmds.specs.declared.history.Sent.{Sent}
use Rattle.jm_cmds.specs.History.{below}
use Rattle.jm_cmds.specs.HistoryLaws.{coded-scanned, InOrder-filter}
use Rattle.jm_cmds.specs.Sent.{packet_of}
use Rattle.ch_voice.specs.Bank.{no_bank, bank_step}
use Rattle.ch_voice.specs.ChapterP.{banked_packet, program_ends}
use Rattle.ch_voice.proofs.laws.coded_in_order.Goals as goal

pub returns : goal.returns
returns c number_of channel checkpoint packet sent h =
    coded-scanned number_of (bank_step channel) (program_ends channel) banked_packet no_bank checkpoint (below packet_of packet sent)
    (InOrder-filter number_of (λ (place : Sent). ltb (packet_of place) packet) sent h)
