use Rattle.jm_wire.specs.Octets.{joined}
use Rattle.apple_msg.proofs.writing.write_message.Goals as goal

pub returns-in-Invite : goal.returns-in-Invite
returns-in-Invite c = rw c.in-Invite.is (joined c.write_letters.ensures c.write_invitation.ensures)

pub returns-in-Accept : goal.returns-in-Accept
returns-in-Accept c = rw c.in-Accept.is (joined c.write_letters-in-Accept.ensures c.write_invitation-in-Accept.ensures)

pub returns-in-Reject : goal.returns-in-Reject
returns-in-Reject c = rw c.in-Reject.is (joined c.write_letters-in-Reject.ensures c.write_invitation-in-Reject.ensures)

pub returns-in-Bye : goal.returns-in-Bye
returns-in-Bye c = rw c.in-Bye.is (joined c.write_letters-in-Bye.ensures c.write_header.ensures)

pub returns-in-Clock : goal.returns-in-Clock
returns-in-Clock c = rw c.in-Clock.is (joined c.write_letters-in-Clock.ensures (joined c.push_u32.ensures (joined c.push_slice.ensures (joined c.push_u64.ensures (joined c.push_u64-in-Clock.ensures c.push_u64-in-Clock-2.ensures)))))
