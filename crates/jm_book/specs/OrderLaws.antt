-- The sent and pending commands of a session stand in the order of their packets.
use Rattle.std.proofs.Common.{ℕ, ◌+◌, ◌≤◌, List, [], ◌∷◌, ◌++◌, length, arith}
use Rattle.std.specs.List.{AllByRecursion}
use Rattle.jm_cmds.specs.History.{InOrder}
use Rattle.jm_cmds.specs.HistoryLaws.{AllByRecursion-weaker, AllByRecursion-append, InOrder-append}
use Rattle.jm_cmds.specs.Sent.{packet_of}
use Rattle.jm_book.specs.declared.steps.Step.{Step}
use Rattle.jm_book.specs.Stream.{Stream, Entry, Packet, stream_of, as_sent, sent_from, sent_of, pending_of, number_of_pending}

-- the commands of one packet have its number
pub as_sent_all : (P : ℕ → Type 0) (number : ℕ) (entries : List Entry) → P number → AllByRecursion (λ one. P (packet_of one)) (as_sent number entries)
as_sent_all P number [] h = tt
as_sent_all P number (one ∷ others) h = (h, as_sent_all P number others h)

pub as_sent_in_order : (number : ℕ) (entries : List Entry) → InOrder packet_of (as_sent number entries)
as_sent_in_order number [] = tt
as_sent_in_order number (one ∷ others) =
    (as_sent_all (λ packet. number ≤ packet) number others (omega arith), as_sent_in_order number others)

-- the commands of packets from a number on have numbers from there on, and below the next
pub sent_from_above : (number : ℕ) (packets : List Packet) → AllByRecursion (λ one. number ≤ packet_of one) (sent_from number packets)
sent_from_above number [] = tt
sent_from_above number (one ∷ others) =
    let later = AllByRecursion-weaker (λ sent. number + 1 ≤ packet_of sent) (λ sent. number ≤ packet_of sent) (λ sent l. omega arith) (sent_from (number + 1) others) (sent_from_above (number + 1) others) in
    AllByRecursion-append (λ sent. number ≤ packet_of sent) (as_sent number one.entries) (sent_from (number + 1) others) (as_sent_all (λ packet. number ≤ packet) number one.entries (omega arith)) later

pub sent_from_below : (number : ℕ) (packets : List Packet) (next : ℕ) → number + length packets ≤ next → AllByRecursion (λ one. packet_of one + 1 ≤ next) (sent_from number packets)
sent_from_below number [] next h = tt
sent_from_below number (one ∷ others) next h =
    AllByRecursion-append (λ sent. packet_of sent + 1 ≤ next) (as_sent number one.entries) (sent_from (number + 1) others) (as_sent_all (λ packet. packet + 1 ≤ next) number one.entries (omega arith)) (sent_from_below (number + 1) others next (omega arith))

pub sent_from_in_order : (number : ℕ) (packets : List Packet) → InOrder packet_of (sent_from number packets)
sent_from_in_order number [] = tt
sent_from_in_order number (one ∷ others) =
    let later = AllByRecursion-weaker (λ sent. number + 1 ≤ packet_of sent) (λ sent. number ≤ packet_of sent) (λ sent l. omega arith) (sent_from (number + 1) others) (sent_from_above (number + 1) others) in
    InOrder-append packet_of number (as_sent number one.entries) (sent_from (number + 1) others) (as_sent_in_order number one.entries) (as_sent_all (λ packet. packet ≤ number) number one.entries (omega arith)) later (sent_from_in_order (number + 1) others)

-- packet numbers never fall along the sent commands
pub sent_in_order : (steps : List Step) → InOrder packet_of (sent_of (stream_of steps))
sent_in_order steps = sent_from_in_order 0 (stream_of steps).packets

-- every sent command is of a packet below the next one
pub sent_below_next : (stream : Stream) → AllByRecursion (λ one. packet_of one + 1 ≤ length stream.packets) (sent_of stream)
sent_below_next stream = sent_from_below 0 stream.packets (length stream.packets) (omega arith)

-- nor along the sent commands and those pending
pub all_in_order : (stream : Stream) → InOrder packet_of (sent_of stream ++ pending_of stream)
all_in_order stream =
    let next = number_of_pending stream in
    let sent = AllByRecursion-weaker (λ one. packet_of one + 1 ≤ length stream.packets) (λ one. packet_of one ≤ next) (λ one l. omega arith) (sent_of stream) (sent_below_next stream) in
    InOrder-append packet_of next (sent_of stream) (pending_of stream) (sent_from_in_order 0 stream.packets) sent (as_sent_all (λ packet. next ≤ packet) next stream.pending (omega arith)) (as_sent_in_order next stream.pending)
