-- What `invite` does: the turns of a call, the close, and the line that tells how it ended.
use Rattle.std.specs.Prelude.{◌≡◌, ℕ, List, ◌⊎◌, Option, Some, None, codes, ⊤}
use Rattle.jm_edge.specs.declared.Addr.{Addr}
use Rattle.apple_invite.specs.Caller.{Caller, fresh}
use Rattle.apple_invite.specs.declared.dialed.Phase.{Phase}
use Rattle.apple_call.specs.declared.turns.TurnsEnd.{TurnsEnd}
use Rattle.apple_call.specs.declared.turns.TurnsEnd.TheVariants.{Made, ControlFailed, DataFailed}
use Rattle.apple_call.specs.Whole.{Outside, CallEnds}
use Rattle.jm_edge.specs.Faults.{Rose}
use Rattle.midi_host.specs.declared.invitation.Invitation.{Invitation}
use Rattle.midi_host.specs.declared.status.Status.{Status}
use Rattle.midi_host.specs.declared.status.Status.TheVariants.{Done, Usage, BadScript, ReadFault, WriteFault, NoMemory, PortFault, RecordFull}
use Rattle.midi_host.specs.Wrote.{Wrote, WrotePart}
use Rattle.midi_host.specs.Ended.{ended_line}

-- the inviter of this program before its first turn: the SSRC 4d494455, the token 1 and the name are always the same
abbrev pub caller_to : Addr → Caller
caller_to to = fresh 1296647253 1 (codes "midi_host") to

-- what a sink was told and has, with its count of faults
pub record Paper : Type 0 where
  pub written : Option (List ℕ)
  pub faults : ℕ

-- a front of the line was written, and a write failed
pub record Breaks (line : List ℕ) (old new : Paper) : Type 0 where
  pub part : WrotePart old.written new.written line
  pub rose : Rose old.faults new.faults

-- The turns came to this end with our inviter, which was closed then, and the line that tells so fits what was written.
pub record Calls (end : TurnsEnd) (invitation : Invitation) (old new : Outside) (Writes : (line : List ℕ) → Type 0) : Type 0 where
  pub phase : Phase
  pub clocks : ℕ
  pub ends : CallEnds end invitation.turns phase clocks invitation.to (caller_to invitation.to) old new
  pub line : Writes (ended_line phase clocks)

-- a receive failed
abbrev pub IsCut : TurnsEnd → Type 0
IsCut Made = ⊥
IsCut ControlFailed = ⊤
IsCut DataFailed = ⊤

-- a receive ended the turns; the line may have been written whole or not
pub record IsCutOff (invitation : Invitation) (old new : Outside) (before after : Paper) : Type 0 where
  pub end : TurnsEnd
  pub is_cut : IsCut end
  pub calls : Calls end invitation old new (λ line. Wrote before.written after.written line ⊎ Breaks line before after)

-- nothing was received, sent or written, and the clock wasn't asked
pub record IsUntouched (old new : Outside) (before after : Paper) : Type 0 where
  pub outside : new ≡ old
  pub paper : after.written ≡ before.written

-- the ends of a call that the words ask for
abbrev pub Invites : Status → Invitation → (old new : Outside) → (before after : Paper) → Type 0
Invites Done invitation old new before after = Calls Made invitation old new (Wrote before.written after.written)
Invites WriteFault invitation old new before after = Calls Made invitation old new (λ line. Breaks line before after)
Invites PortFault invitation old new before after = IsCutOff invitation old new before after
Invites RecordFull invitation old new before after = ⊥
Invites NoMemory invitation old new before after = IsUntouched old new before after
Invites Usage invitation old new before after = ⊥
Invites BadScript invitation old new before after = ⊥
Invites ReadFault invitation old new before after = ⊥

-- the same, where they may not be such words
abbrev pub InvitesBy : Option Invitation → Status → (old new : Outside) → (before after : Paper) → Type 0
InvitesBy None status old new before after = (status ≡ Usage) × IsUntouched old new before after
InvitesBy (Some invitation) status old new before after = Invites status invitation old new before after
