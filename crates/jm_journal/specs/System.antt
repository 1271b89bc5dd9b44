-- The system journal (RFC 6295, section 5, Figure 10): its header, and the chapters of which something is coded.
use Rattle.std.specs.Prelude.{ℕ, ◌+◌, Bool, not, ◌||◌, ◌==◌, List, [], ◌++◌, length, if◌then◌else◌}
use Rattle.jm_wire.specs.declared.heads.SystemHead.{SystemHead}
use Rattle.jm_wire.specs.Heads.{system_octets}
use Rattle.jm_cmds.specs.declared.history.Sent.{Sent}
use Rattle.ch_system.specs.ChapterD.{chapter_d, fresh_d}
use Rattle.ch_system.specs.ChapterV.{chapter_v, fresh_v}
use Rattle.ch_system.specs.ChapterQ.{chapter_q, fresh_q}
use Rattle.ch_system.specs.ChapterF.{chapter_f, fresh_f}
use Rattle.ch_sysex.specs.ChapterX.{chapter_x, fresh_x}
use Rattle.jm_journal.specs.Channel.{is_there}

-- the system chapters, in their order
unfoldable pub system_chapters : (checkpoint packet : ℕ) → List Sent → List ℕ
system_chapters checkpoint packet sent =
    chapter_d checkpoint packet sent
    ++ chapter_v checkpoint packet sent
    ++ chapter_q checkpoint packet sent
    ++ chapter_f checkpoint packet sent
    ++ chapter_x checkpoint packet sent

-- whether something in them is of the packet before
unfoldable pub system_fresh : (checkpoint packet : ℕ) → List Sent → Bool
system_fresh checkpoint packet sent =
    fresh_d checkpoint packet sent
    || fresh_v checkpoint packet sent
    || fresh_q checkpoint packet sent
    || fresh_f checkpoint packet sent
    || fresh_x checkpoint packet sent

-- the header: its length counts it too
unfoldable pub system_head : (checkpoint packet : ℕ) → List Sent → SystemHead
system_head checkpoint packet sent = record {
  s = not (system_fresh checkpoint packet sent);
  d = is_there (chapter_d checkpoint packet sent);
  v = is_there (chapter_v checkpoint packet sent);
  q = is_there (chapter_q checkpoint packet sent);
  f = is_there (chapter_f checkpoint packet sent);
  x = is_there (chapter_x checkpoint packet sent);
  length = 2 + length (system_chapters checkpoint packet sent);
}

-- The system journal: nothing where nothing of the system chapters is coded.
unfoldable pub system_journal : (checkpoint packet : ℕ) → List Sent → List ℕ
system_journal checkpoint packet sent =
    if length (system_chapters checkpoint packet sent) == 0 then []
    else system_octets (system_head checkpoint packet sent) ++ system_chapters checkpoint packet sent
