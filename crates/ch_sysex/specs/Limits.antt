-- How the size of Chapter X grows.
use Rattle.std.proofs.Common.{◌≡◌, ℕ, ◌+◌, ◌≤◌, Bool, true, false, not, cond, ◌&&◌, List, [], ◌∷◌, ◌++◌, length, refl, ap, arith}
use Rattle.jm_cmds.specs.declared.commands.Command.{Command}
use Rattle.jm_cmds.specs.declared.commands.Command.TheVariants.{Sysex, SystemReset}
use Rattle.jm_cmds.specs.declared.history.Sent.{Sent}
use Rattle.jm_cmds.specs.Control.{is_reset, is_reset_message}
use Rattle.jm_cmds.specs.Keys.{weights_push, weights_ended, weights_later}
use Rattle.jm_cmds.specs.Sent.{packet_of}
use Rattle.ch_sysex.specs.declared.events.SysexEvent.{SysexEvent}
use Rattle.ch_sysex.specs.declared.events.SysexEvent.TheVariants.{Kept, ResetMessage, Reset, Other}
use Rattle.ch_sysex.specs.SysexEvent.{sysex_event, event_at, data_of, is_logged, resets, sysex_ends}
use Rattle.ch_sysex.specs.ChapterX.{event_len, has_log, log_len, sysex_logs, sysex_octets}

abbrev one_log : Sent → ℕ
one_log place = cond (has_log place) 1 0

-- ## Any command

-- One more command adds at most its own log.
pub sysex_logs-push : (checkpoint : ℕ) (sent : List Sent) (x : Sent) → checkpoint ≤ x.packet → sysex_logs checkpoint (sent ++ x ∷ []) ≤ sysex_logs checkpoint sent + cond (is_logged (event_at x)) 1 0
unfolding sysex_logs
sysex_logs-push checkpoint sent x l = weights_push sysex_ends packet_of one_log checkpoint sent x l

pub sysex_octets-push : (checkpoint : ℕ) (sent : List Sent) (x : Sent) → checkpoint ≤ x.packet → sysex_octets checkpoint (sent ++ x ∷ []) ≤ sysex_octets checkpoint sent + log_len x
unfolding sysex_octets
sysex_octets-push checkpoint sent x l = weights_push sysex_ends packet_of log_len checkpoint sent x l

-- ## A kept message

pub sysex_logs-kept : (checkpoint : ℕ) (sent : List Sent) (x : Sent) → checkpoint ≤ x.packet → sysex_event x.command ≡ Kept → sysex_logs checkpoint (sent ++ x ∷ []) ≤ sysex_logs checkpoint sent + 1
sysex_logs-kept checkpoint sent x l e =
    let more = sysex_logs-push checkpoint sent x l in
    let one : one_log x ≡ 1 = rw e refl in
    omega (arith, more, one)

pub sysex_octets-kept : (checkpoint : ℕ) (sent : List Sent) (x : Sent) → checkpoint ≤ x.packet → sysex_event x.command ≡ Kept → sysex_octets checkpoint (sent ++ x ∷ []) ≤ sysex_octets checkpoint sent + (2 + length (data_of x.command))
sysex_octets-kept checkpoint sent x l e =
    let more = sysex_octets-push checkpoint sent x l in
    let one : log_len x ≡ 2 + length (data_of x.command) = rw e refl in
    omega (arith, more, one)

-- ## A command without a log

pub sysex_logs-other : (checkpoint : ℕ) (sent : List Sent) (x : Sent) → checkpoint ≤ x.packet → is_logged (sysex_event x.command) ≡ false → sysex_logs checkpoint (sent ++ x ∷ []) ≤ sysex_logs checkpoint sent
sysex_logs-other checkpoint sent x l e =
    let more = sysex_logs-push checkpoint sent x l in
    let none : one_log x ≡ 0 = rw e refl in
    omega (arith, more, none)

no_len : (event : SysexEvent) (octets : List ℕ) → is_logged event ≡ false → event_len event octets ≡ 0
no_len Kept octets e = cc
no_len ResetMessage octets e = cc
no_len Reset octets e = refl
no_len Other octets e = refl

pub sysex_octets-other : (checkpoint : ℕ) (sent : List Sent) (x : Sent) → checkpoint ≤ x.packet → is_logged (sysex_event x.command) ≡ false → sysex_octets checkpoint (sent ++ x ∷ []) ≤ sysex_octets checkpoint sent
sysex_octets-other checkpoint sent x l e =
    let more = sysex_octets-push checkpoint sent x l in
    let none = no_len (event_at x) (data_of x.command) e in
    omega (arith, more, none)

-- ## A Reset State command

unlogged : (x y : Sent) → resets y ≡ true → not (sysex_ends x y) ≡ true → is_logged (event_at x) ≡ false
unlogged x y r h = one (is_logged (event_at x)) (rw r at h)
  where
    one : (b : Bool) → not (b && true) ≡ true → b ≡ false
    one true e = cc
    one false e = refl

-- What it ends are all logs, so its own is all.
pub sysex_logs-reset : (checkpoint : ℕ) (sent : List Sent) (x : Sent) → checkpoint ≤ x.packet → is_reset x.command ≡ true → sysex_logs checkpoint (sent ++ x ∷ []) ≡ cond (is_logged (event_at x)) 1 0
unfolding sysex_logs
sysex_logs-reset checkpoint sent x l r =
    weights_ended sysex_ends packet_of one_log checkpoint sent x l (λ y h. let e = unlogged y x r h in ap (λ (b : Bool). cond b 1 0) e)

pub sysex_octets-reset : (checkpoint : ℕ) (sent : List Sent) (x : Sent) → checkpoint ≤ x.packet → is_reset x.command ≡ true → sysex_octets checkpoint (sent ++ x ∷ []) ≡ log_len x
unfolding sysex_octets
sysex_octets-reset checkpoint sent x l r =
    weights_ended sysex_ends packet_of log_len checkpoint sent x l (λ y h. no_len (event_at y) (data_of y.command) (unlogged y x r h))

-- A message that turns General MIDI on has four data octets.
four : (octets : List ℕ) → is_reset_message octets ≡ true → length octets ≡ 4
four [] h = cc
four (a ∷ []) h = cc
four (a ∷ b ∷ []) h = cc
four (a ∷ b ∷ c ∷ []) h = cc
four (a ∷ b ∷ c ∷ d ∷ []) h = refl
four (a ∷ b ∷ c ∷ d ∷ e ∷ es) h = cc

len-reset : (command : Command) → is_reset command ≡ true → event_len (sysex_event command) (data_of command) ≤ 6
len-reset SystemReset h = omega arith
len-reset (Sysex octets) h = let l = four octets h in rw h (omega (arith, l))
len-reset command h = cc

pub sysex_logs-reset-le : (checkpoint : ℕ) (sent : List Sent) (x : Sent) → checkpoint ≤ x.packet → is_reset x.command ≡ true → sysex_logs checkpoint (sent ++ x ∷ []) ≤ 1
sysex_logs-reset-le checkpoint sent x l r =
    let e = sysex_logs-reset checkpoint sent x l r in
    rw e (small (is_logged (event_at x)))
  where
    small : (b : Bool) → cond b 1 0 ≤ 1
    small true = omega arith
    small false = omega arith

pub sysex_octets-reset-le : (checkpoint : ℕ) (sent : List Sent) (x : Sent) → checkpoint ≤ x.packet → is_reset x.command ≡ true → sysex_octets checkpoint (sent ++ x ∷ []) ≤ 6
sysex_octets-reset-le checkpoint sent x l r =
    let e = sysex_octets-reset checkpoint sent x l r in
    rw e (len-reset x.command r)

-- ## A later checkpoint

pub sysex_logs-later : (checkpoint later : ℕ) (sent : List Sent) → checkpoint ≤ later → sysex_logs later sent ≤ sysex_logs checkpoint sent
unfolding sysex_logs
sysex_logs-later checkpoint later sent l = weights_later sysex_ends packet_of one_log checkpoint later sent l

pub sysex_octets-later : (checkpoint later : ℕ) (sent : List Sent) → checkpoint ≤ later → sysex_octets later sent ≤ sysex_octets checkpoint sent
unfolding sysex_octets
sysex_octets-later checkpoint later sent l = weights_later sysex_ends packet_of log_len checkpoint later sent l
