-- A channel journal (RFC 6295, section 5, Figure 9): its header, and the chapters of which something is coded.
use Rattle.std.specs.Prelude.{ℕ, ◌+◌, Bool, false, not, ◌||◌, ◌==◌, List, [], ◌++◌, length, nat_lt, if◌then◌else◌}
use Rattle.jm_wire.specs.declared.heads.ChannelHead.{ChannelHead}
use Rattle.jm_wire.specs.Heads.{channel_octets}
use Rattle.jm_cmds.specs.declared.history.Sent.{Sent}
use Rattle.ch_voice.specs.ChapterP.{chapter_p, fresh_p}
use Rattle.ch_control.specs.ChapterC.{chapter_c, fresh_c}
use Rattle.ch_param.specs.ChapterM.{chapter_m, fresh_m}
use Rattle.ch_voice.specs.ChapterW.{chapter_w, fresh_w}
use Rattle.ch_notes.specs.ChapterN.{chapter_n, fresh_n}
use Rattle.ch_notes.specs.ChapterE.{chapter_e, fresh_e}
use Rattle.ch_voice.specs.ChapterT.{chapter_t, fresh_t}
use Rattle.ch_notes.specs.ChapterA.{chapter_a, fresh_a}

-- a chapter is there where something of it is coded
abbrev pub is_there : List ℕ → Bool
is_there octets = nat_lt 0 (length octets)

-- the chapters of a channel, in their order
unfoldable pub channel_chapters : (checkpoint packet tick : ℕ) → List Sent → (channel : ℕ) → List ℕ
channel_chapters checkpoint packet tick sent channel =
    chapter_p channel checkpoint packet sent
    ++ chapter_c channel checkpoint packet sent
    ++ chapter_m channel checkpoint packet sent
    ++ chapter_w channel checkpoint packet sent
    ++ chapter_n channel checkpoint packet tick sent
    ++ chapter_e channel checkpoint packet sent
    ++ chapter_t channel checkpoint packet sent
    ++ chapter_a channel checkpoint packet sent

-- whether something in them is of the packet before
unfoldable pub channel_fresh : (checkpoint packet : ℕ) → List Sent → (channel : ℕ) → Bool
channel_fresh checkpoint packet sent channel =
    fresh_p channel checkpoint packet sent
    || fresh_c channel checkpoint packet sent
    || fresh_m channel checkpoint packet sent
    || fresh_w channel checkpoint packet sent
    || fresh_n channel checkpoint packet sent
    || fresh_e channel checkpoint packet sent
    || fresh_t channel checkpoint packet sent
    || fresh_a channel checkpoint packet sent

-- the header: its length counts it too
unfoldable pub channel_head : (checkpoint packet tick : ℕ) → List Sent → (channel : ℕ) → ChannelHead
channel_head checkpoint packet tick sent channel = record {
  s = not (channel_fresh checkpoint packet sent channel);
  chan = channel;
  h = false;
  length = 3 + length (channel_chapters checkpoint packet tick sent channel);
  p = is_there (chapter_p channel checkpoint packet sent);
  c = is_there (chapter_c channel checkpoint packet sent);
  m = is_there (chapter_m channel checkpoint packet sent);
  w = is_there (chapter_w channel checkpoint packet sent);
  n = is_there (chapter_n channel checkpoint packet tick sent);
  e = is_there (chapter_e channel checkpoint packet sent);
  t = is_there (chapter_t channel checkpoint packet sent);
  a = is_there (chapter_a channel checkpoint packet sent);
}

-- The journal of a channel: nothing where nothing of the channel is coded.
unfoldable pub channel_journal : (checkpoint packet tick : ℕ) → List Sent → (channel : ℕ) → List ℕ
channel_journal checkpoint packet tick sent channel =
    if length (channel_chapters checkpoint packet tick sent channel) == 0 then []
    else channel_octets (channel_head checkpoint packet tick sent channel) ++ channel_chapters checkpoint packet tick sent channel
