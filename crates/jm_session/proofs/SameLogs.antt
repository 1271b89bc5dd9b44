-- The logs of a packet's journal are told by the commands before that packet alone, whatever was sent since.
use Rattle.std.proofs.Common.{◌≡◌, ℕ, List, [], ◌∷◌, refl}
use Rattle.std.specs.List.{flat_map}
use Rattle.jm_cmds.specs.declared.history.Sent.{Sent}
use Rattle.jm_cmds.specs.History.{below}
use Rattle.jm_cmds.specs.Sent.{packet_of}
use Rattle.ch_system.specs.Items.{item_coded}
use Rattle.jm_journal.specs.Journal.{channels}
use Rattle.jm_reader.specs.WrittenA.{a_said}
use Rattle.jm_reader.specs.WrittenC.{c_said}
use Rattle.jm_reader.specs.WrittenD.{d_said}
use Rattle.jm_reader.specs.WrittenE.{e_said}
use Rattle.jm_reader.specs.WrittenF.{f_said}
use Rattle.jm_reader.specs.WrittenM.{m_said}
use Rattle.jm_reader.specs.WrittenN.{n_said}
use Rattle.jm_reader.specs.WrittenP.{p_said}
use Rattle.jm_reader.specs.WrittenQ.{q_said}
use Rattle.jm_reader.specs.WrittenT.{t_said}
use Rattle.jm_reader.specs.WrittenV.{v_said}
use Rattle.jm_reader.specs.WrittenW.{w_said}
use Rattle.jm_reader.specs.WrittenX.{x_said}
use Rattle.jm_reader.specs.WrittenChannel.{channel_logs}
use Rattle.jm_reader.specs.WrittenSystem.{system_logs}
use Rattle.jm_reader.specs.WrittenJournal.{journal_logs}

module _ (checkpoint packet tick : ℕ) (sent other : List Sent) (h : below packet_of packet sent ≡ below packet_of packet other) where
  system_same : system_logs checkpoint packet sent ≡ system_logs checkpoint packet other
  unfolding system_logs d_said v_said q_said f_said x_said item_coded
  system_same = rw h refl

  channel_same : (channel : ℕ) → channel_logs checkpoint packet tick sent channel ≡ channel_logs checkpoint packet tick other channel
  unfolding channel_logs p_said c_said m_said w_said n_said e_said t_said a_said
  channel_same channel = rw h refl

  channels_same : (cs : List ℕ) → flat_map (channel_logs checkpoint packet tick sent) cs ≡ flat_map (channel_logs checkpoint packet tick other) cs
  channels_same [] = refl
  channels_same (c ∷ cs) = rw (channel_same c, channels_same cs) refl

  pub same_logs : journal_logs checkpoint packet tick sent ≡ journal_logs checkpoint packet tick other
  unfolding journal_logs
  same_logs = rw (system_same, channels_same channels) refl
