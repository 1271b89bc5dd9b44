use Rattle.std.proofs.Common.{◌≡◌, drop, fold}
use Rattle.jm_receiver.specs.HandedOn.{song_handed_on}
use Rattle.jm_receiver.proofs.heard.Hearing.hand_on_songs.Given as goal

abbrev pub invariant-loop-log : goal.invariant-loop-log
invariant-loop-log l = fold (λ h log. song_handed_on h log.what) l.self (drop l.log-index l.logs) ≡ fold (λ h log. song_handed_on h log.what) l.initial.self l.logs
