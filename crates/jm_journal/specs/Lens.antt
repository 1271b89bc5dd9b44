-- The lengths of a channel's chapters, and of the system chapters, each within its bound.
use Rattle.std.specs.Prelude.{ℕ, ◌≡◌, ◌≤◌, ◌<◌, ◌+◌, ◌==◌, false, List, [], ◌++◌, length}
use Rattle.std.proofs.Common.{refl, length-append, arith}
use Rattle.std.proofs.lemmas.Bool.Decides.{nat_tests}
use Rattle.jm_wire.specs.Heads.{channel_octets, system_octets}
use Rattle.jm_cmds.specs.declared.history.Sent.{Sent}
use Rattle.ch_voice.specs.ChapterP.{chapter_p}
use Rattle.ch_control.specs.ChapterC.{chapter_c}
use Rattle.ch_param.specs.ChapterM.{chapter_m}
use Rattle.ch_voice.specs.ChapterW.{chapter_w}
use Rattle.ch_notes.specs.ChapterN.{chapter_n}
use Rattle.ch_notes.specs.ChapterE.{chapter_e}
use Rattle.ch_voice.specs.ChapterT.{chapter_t}
use Rattle.ch_notes.specs.ChapterA.{chapter_a}
use Rattle.ch_system.specs.ChapterD.{chapter_d}
use Rattle.ch_system.specs.ChapterV.{chapter_v}
use Rattle.ch_system.specs.ChapterQ.{chapter_q}
use Rattle.ch_system.specs.ChapterF.{chapter_f}
use Rattle.ch_sysex.specs.ChapterX.{chapter_x}
use Rattle.jm_journal.specs.declared.channel.Lens.{Lens}
use Rattle.jm_journal.specs.declared.system.SystemLens.{SystemLens}
use Rattle.jm_journal.specs.Channel.{channel_chapters, channel_head, channel_journal}
use Rattle.jm_journal.specs.System.{system_chapters, system_head, system_journal}

pub record AreLens (checkpoint packet tick : ℕ) (sent : List Sent) (channel : ℕ) (lens : Lens) : Type 0 where
  pub p : lens.p ≡ length (chapter_p channel checkpoint packet sent)
  pub c : lens.c ≡ length (chapter_c channel checkpoint packet sent)
  pub m : lens.m ≡ length (chapter_m channel checkpoint packet sent)
  pub w : lens.w ≡ length (chapter_w channel checkpoint packet sent)
  pub n : lens.n ≡ length (chapter_n channel checkpoint packet tick sent)
  pub e : lens.e ≡ length (chapter_e channel checkpoint packet sent)
  pub t : lens.t ≡ length (chapter_t channel checkpoint packet sent)
  pub a : lens.a ≡ length (chapter_a channel checkpoint packet sent)

-- each within its bound, where the limits are kept
pub record AreShort (lens : Lens) : Type 0 where
  pub short_p : lens.p ≤ 3
  pub short_c : lens.c ≤ 251
  pub short_m : lens.m ≤ 82
  pub short_w : lens.w ≤ 2
  pub short_n : lens.n ≤ 270
  pub short_e : lens.e ≤ 257
  pub short_t : lens.t ≤ 1
  pub short_a : lens.a ≤ 129

-- the octets of all
abbrev pub lens_total : Lens → ℕ
lens_total lens = lens.p + (lens.c + (lens.m + (lens.w + (lens.n + (lens.e + (lens.t + lens.a))))))

pub record AreSystemLens (checkpoint packet : ℕ) (sent : List Sent) (lens : SystemLens) : Type 0 where
  pub d : lens.d ≡ length (chapter_d checkpoint packet sent)
  pub v : lens.v ≡ length (chapter_v checkpoint packet sent)
  pub q : lens.q ≡ length (chapter_q checkpoint packet sent)
  pub f : lens.f ≡ length (chapter_f checkpoint packet sent)
  pub x : lens.x ≡ length (chapter_x checkpoint packet sent)

pub record AreSystemShort (lens : SystemLens) : Type 0 where
  pub short_d : lens.d ≤ 4
  pub short_v : lens.v ≤ 1
  pub short_q : lens.q ≤ 3
  pub short_f : lens.f ≤ 9
  pub short_x : lens.x ≤ 1000

abbrev pub system_total : SystemLens → ℕ
system_total lens = lens.d + (lens.v + (lens.q + (lens.f + lens.x)))

-- a journal is nothing where its chapters are, else its header and its chapters
pub channel_journal_none : (checkpoint packet tick : ℕ) (sent : List Sent) (channel : ℕ) → length (channel_chapters checkpoint packet tick sent channel) ≡ 0 → channel_journal checkpoint packet tick sent channel ≡ []
unfolding channel_journal
channel_journal_none checkpoint packet tick sent channel none = rw none refl

pub channel_journal_some : (checkpoint packet tick : ℕ) (sent : List Sent) (channel : ℕ) → 0 < length (channel_chapters checkpoint packet tick sent channel)
    → channel_journal checkpoint packet tick sent channel ≡ channel_octets (channel_head checkpoint packet tick sent channel) ++ channel_chapters checkpoint packet tick sent channel
unfolding channel_journal
channel_journal_some checkpoint packet tick sent channel some =
    let test : (length (channel_chapters checkpoint packet tick sent channel) == 0) ≡ false = grind (arith, nat_tests) in
    rw test refl

pub system_journal_none : (checkpoint packet : ℕ) (sent : List Sent) → length (system_chapters checkpoint packet sent) ≡ 0 → system_journal checkpoint packet sent ≡ []
unfolding system_journal
system_journal_none checkpoint packet sent none = rw none refl

pub system_journal_some : (checkpoint packet : ℕ) (sent : List Sent) → 0 < length (system_chapters checkpoint packet sent)
    → system_journal checkpoint packet sent ≡ system_octets (system_head checkpoint packet sent) ++ system_chapters checkpoint packet sent
unfolding system_journal
system_journal_some checkpoint packet sent some =
    let test : (length (system_chapters checkpoint packet sent) == 0) ≡ false = grind (arith, nat_tests) in
    rw test refl

-- the chapters' octets, added up
pub chapters_length : (checkpoint packet tick : ℕ) (sent : List Sent) (channel : ℕ) → length (channel_chapters checkpoint packet tick sent channel)
    ≡ length (chapter_p channel checkpoint packet sent) + (length (chapter_c channel checkpoint packet sent) + (length (chapter_m channel checkpoint packet sent) + (length (chapter_w channel checkpoint packet sent)
    + (length (chapter_n channel checkpoint packet tick sent) + (length (chapter_e channel checkpoint packet sent) + (length (chapter_t channel checkpoint packet sent) + length (chapter_a channel checkpoint packet sent)))))))
unfolding channel_chapters
chapters_length checkpoint packet tick sent channel = simp length-append (omega arith)

pub system_chapters_length : (checkpoint packet : ℕ) (sent : List Sent) → length (system_chapters checkpoint packet sent)
    ≡ length (chapter_d checkpoint packet sent) + (length (chapter_v checkpoint packet sent) + (length (chapter_q checkpoint packet sent) + (length (chapter_f checkpoint packet sent) + length (chapter_x checkpoint packet sent))))
unfolding system_chapters
system_chapters_length checkpoint packet sent = simp length-append (omega arith)

pub total_length : (checkpoint packet tick : ℕ) (sent : List Sent) (channel : ℕ) (lens : Lens) → AreLens checkpoint packet tick sent channel lens → length (channel_chapters checkpoint packet tick sent channel) ≡ lens_total lens
total_length checkpoint packet tick sent channel lens are =
    omega (arith, chapters_length checkpoint packet tick sent channel, are.p, are.c, are.m, are.w, are.n, are.e, are.t, are.a)

pub system_length : (checkpoint packet : ℕ) (sent : List Sent) (lens : SystemLens) → AreSystemLens checkpoint packet sent lens → length (system_chapters checkpoint packet sent) ≡ system_total lens
system_length checkpoint packet sent lens are =
    omega (arith, system_chapters_length checkpoint packet sent, are.d, are.v, are.q, are.f, are.x)
