-- What a receiver does with a packet.
use Rattle.std.specs.Prelude.{◌≡◌, ℕ, ◌+◌, ◌-◌, ◌%◌, ◌^◌, List, [], drop, filter, Option, Some, None, Result, Ok, Err, ◌==◌, ◌||◌, nat_le, if◌then◌else◌}
use Rattle.jm_wire.specs.Readers.{◌>>=◌}
use Rattle.jm_cmds.specs.declared.outcome.ReadError.{ReadError}
use Rattle.jm_cmds.specs.declared.outcome.ReadError.TheVariants as errors
use Rattle.jm_section.specs.declared.item.Item.{Item}
use Rattle.jm_packet.specs.declared.reading.PacketFault.{PacketFault}
use Rattle.jm_packet.specs.Reading.{source_read, packet_read}
use Rattle.jm_reader.specs.declared.faults.JournalFault.{JournalFault}
use Rattle.jm_reader.specs.declared.journal.Report.{Report}
use Rattle.jm_reader.specs.declared.logs.Log.{Log}
use Rattle.jm_reader.specs.Journal.{journal_read}
use Rattle.jm_receiver.specs.declared.opening.AcceptFault.{AcceptFault}
use Rattle.jm_receiver.specs.declared.opening.AcceptFault.TheVariants.{Packet, OtherSsrc, Journal, Older}
use Rattle.jm_receiver.specs.declared.opening.Opened.{Opened}
use Rattle.jm_receiver.specs.declared.place.Uses.{Uses}
use Rattle.jm_receiver.specs.declared.place.Uses.TheVariants.{Nothing, Fresh, All}
use Rattle.jm_receiver.specs.declared.place.Placed.{Placed}
use Rattle.jm_receiver.specs.declared.heard.Hearing.{Hearing}
use Rattle.jm_receiver.specs.declared.receiver.Took.{Took}
use Rattle.jm_receiver.specs.Repair.{repaired}
use Rattle.jm_receiver.specs.HandedOn.{repair_handed_on}
use Rattle.jm_receiver.specs.Heard.{sent_all}
use Rattle.jm_receiver.specs.Receiver.{Received}

-- ## What stands in a packet

-- a packet of the right stream: the low 16 bits of its number, its timestamp, the entries of its section, and the logs of its
-- journal, none where it has no journal
pub record Contents : Type 0 where
  pub number : ℕ
  pub tick : ℕ
  pub items : List Item
  pub logs : List Log

-- what was read of a packet's header or section
abbrev pub of_packet : {A : Type 0} → Result A PacketFault → Result A AcceptFault
of_packet (Ok read) = Ok read
of_packet (Err fault) = Err (Packet fault)

-- what was read of a journal
abbrev pub of_journal : Result Report JournalFault → Result (List Log) AcceptFault
of_journal (Ok report) = Ok report.logs
of_journal (Err fault) = Err (Journal fault)

-- the logs of the journal that begins at this place of the packet, if there is one
abbrev pub logs_read : List ℕ → (journal : Option ℕ) → Result (List Log) AcceptFault
logs_read octets None = Ok []
logs_read octets (Some place) = of_journal (journal_read (drop place octets))

-- a packet of any stream
abbrev pub contents_read : List ℕ → Result Contents AcceptFault
contents_read octets = do
  packet ← of_packet (packet_read octets)
  logs ← logs_read octets packet.journal
  Ok (record { number = packet.number; tick = packet.tick; items = packet.section.items; logs = logs })

-- The header's fault comes first, then that the stream is another, then the section's fault, then the journal's.
unfoldable pub opened : (ssrc : ℕ) → List ℕ → Result Contents AcceptFault
opened ssrc octets = do
  source ← of_packet (source_read octets)
  (if source == ssrc then contents_read octets else Err OtherSsrc)

abbrev pub contents : Opened → Contents
contents o = record { number = o.number; tick = o.tick; items = o.items.items; logs = o.logs }

-- ## Its place after the last one

-- how many packets the one with these low 16 bits is ahead of the last, modulo 65,536
abbrev pub packets_ahead : (last number : ℕ) → ℕ
packets_ahead last number = (number + 65536 - last % 65536) % 65536

-- After no gap the journal isn't used, after one lost packet the logs of what came in it alone, else all.
abbrev pub used_after : (gap : ℕ) → Uses
used_after gap = if gap == 0 then Nothing else (if gap == 1 then Fresh else All)

-- A packet that is 0 or at least 32,768 ahead of the last is no newer than it.
abbrev pub placed_ahead : (last ahead : ℕ) → Result Placed AcceptFault
placed_ahead last ahead =
    if ahead == 0 || nat_le 32768 ahead then Err (Older last)
    else Ok (record { number = (last + ahead) % 2 ^ 64; gap = ahead - 1; uses = used_after (ahead - 1) })

-- The first packet has the number that its low bits are, and all of its journal is used.
abbrev pub placed : (last : Option ℕ) → (number : ℕ) → Result Placed AcceptFault
placed None number = Ok (record { number = number; gap = 0; uses = All })
placed (Some last) number = placed_ahead last (packets_ahead last number)

-- ## What is done

-- The state is repaired by these logs, and what repair hands on is heard.
abbrev pub repaired_by : List Log → Hearing → Hearing
repaired_by logs h = record (repair_handed_on logs (repaired h.state logs) h) { state = repaired h.state logs }

-- by those of these logs that are used
abbrev pub repaired_using : Uses → List Log → Hearing → Hearing
repaired_using Nothing logs h = h
repaired_using Fresh logs h = repaired_by (filter (λ log. log.fresh) logs) h
repaired_using All logs h = repaired_by logs h

-- An unfinished message is kept only where no packet was missed.
abbrev pub kept_over : (gap : ℕ) → (unfinished : Option (List ℕ)) → Option (List ℕ)
kept_over gap unfinished = if gap == 0 then unfinished else None

-- the state after the packet, and what is heard: first what repair hands on, then the commands of the section
abbrev pub heard_in : Received → Contents → Placed → Hearing
heard_in r c place =
    let repaired = repaired_using place.uses c.logs (record { state = r.state; tick = c.tick; heard = []; unfinished = None }) in
    sent_all (record repaired { unfinished = kept_over place.gap r.unfinished }) c.items

abbrev pub took_at : Placed → Hearing → Received → Received × Took
took_at place h r = (record r { last = Some place.number; state = h.state; unfinished = h.unfinished }, record { number = place.number; gap = place.gap; heard = h.heard })

-- the receiver after a packet, and what it took; or why it takes nothing
unfoldable pub accepted : Received → List ℕ → Result (Received × Took) AcceptFault
accepted r octets = do
  c ← opened r.ssrc octets
  place ← placed r.last c.number
  Ok (took_at place (heard_in r c place) r)

-- The answer and the receiver afterwards are those that are meant, unless memory was refused.
abbrev pub Accepts : Result Took (ReadError AcceptFault) → Received → Result (Received × Took) AcceptFault → Type 0
Accepts (Ok took) after meant = meant ≡ Ok (after, took)
Accepts (Err errors.Memory) after meant = Unit {0}
Accepts (Err (errors.Fault fault)) after meant = meant ≡ Err fault
