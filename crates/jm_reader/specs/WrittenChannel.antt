-- A channel journal: what is written is read.
use Rattle.std.proofs.Common.{◌≡◌, ℕ, ◌+◌, ◌-◌, ◌<◌, ◌≤◌, ◌&&◌, Bool, true, false, cond, ltb, eqb, List, [], ◌∷◌, ◌++◌, length, map, Some, None, Ok, refl, sym, ap, ◌∙◌, arith, inl, inr, append-nil, append_assoc}
use Rattle.std.specs.List.{flat_map, AllByRecursion}
use Rattle.std.proofs.lemmas.Bool.{cases_Bool, ltb-false, eqb-true, eqb-false}
use Rattle.jm_wire.specs.declared.heads.NoteHead.{NoteHead}
use Rattle.jm_wire.specs.Heads.{FitsChannel, channel_octets, note_fields}
use Rattle.jm_cmds.specs.declared.history.Sent.{Sent}
use Rattle.jm_cmds.specs.History.{below}
use Rattle.jm_chapter.specs.Logs.{listed_size as logs_size, log_count}
use Rattle.jm_chapter.specs.LogsLaws.{length-listed}
use Rattle.jm_cmds.specs.Sent.{packet_of}
use Rattle.ch_voice.specs.ChapterP.{chapter_p}
use Rattle.ch_voice.specs.ChapterT.{chapter_t}
use Rattle.ch_voice.specs.ChapterW.{chapter_w}
use Rattle.ch_control.specs.ChapterC.{chapter_c}
use Rattle.ch_param.specs.ChapterM.{chapter_m, chapter_of, entered, fresh_among, param_logs, session_places, param_count}
use Rattle.ch_param.specs.LogLaws.{logs_short}
use Rattle.ch_notes.specs.ChapterN.{chapter_n}
use Rattle.ch_notes.specs.ChapterE.{chapter_e}
use Rattle.ch_notes.specs.ChapterA.{chapter_a, coded_presses, press_at, poly_count}
use Rattle.ch_notes.specs.PressLaws.{logs-keys}
use Rattle.jm_journal.specs.Limits.{KeepsLimits}
use Rattle.jm_journal.specs.Channel.{is_there, channel_chapters, channel_head, channel_journal}
use Rattle.jm_journal.specs.Lens.{channel_journal_none, channel_journal_some, chapters_length}
use Rattle.jm_reader.specs.declared.channel.ChannelChapter.{ChannelChapter}
use Rattle.jm_reader.specs.declared.channel.ChannelChapter.TheVariants.{P, C, M, W, N, E, T, A}
use Rattle.jm_reader.specs.declared.logs.Log.{Log}
use Rattle.jm_reader.specs.declared.pairs.PairKind.{PairKind}
use Rattle.jm_reader.specs.declared.pairs.PairKind.TheVariants.{Controllers, Extras}
use Rattle.jm_reader.specs.Chapter.{Chapter}
use Rattle.jm_reader.specs.ChapterN.{n_read, n_size}
use Rattle.jm_reader.specs.ChapterP.{p_read}
use Rattle.jm_reader.specs.ChapterT.{t_read}
use Rattle.jm_reader.specs.ChapterW.{w_read}
use Rattle.jm_reader.specs.Pairs.{listed_read, listed_size}
use Rattle.jm_reader.specs.ChannelJournal.{chapter_read, order, chapters_read, channel_read}
use Rattle.jm_reader.specs.Written.{AreCommands}
use Rattle.jm_reader.specs.WrittenP.{p_said, p_again, p_none}
use Rattle.jm_reader.specs.WrittenC.{c_said, c_again, c_none}
use Rattle.jm_reader.specs.WrittenM.{m_said, m_again, m_none}
use Rattle.jm_reader.specs.WrittenW.{w_said, w_again, w_none}
use Rattle.jm_reader.specs.WrittenN.{n_said, n_again, n_none}
use Rattle.jm_reader.specs.WrittenE.{e_said, e_again, e_none}
use Rattle.jm_reader.specs.WrittenT.{t_said, t_again, t_none}
use Rattle.jm_reader.specs.WrittenA.{a_said, a_again, a_none}
use Rattle.jm_reader.specs.WrittenParts.{Part, IsRead, part_read, text_of, logs_of, parts_read, headed_read}

-- The logs of a channel in the journal of this packet, in the order of its chapters.
unfoldable pub channel_logs : (checkpoint packet tick : ℕ) → List Sent → (channel : ℕ) → List Log
channel_logs checkpoint packet tick sent channel =
    p_said channel checkpoint packet sent
    ++ c_said channel checkpoint packet sent
    ++ m_said channel checkpoint packet sent
    ++ w_said channel checkpoint packet sent
    ++ n_said channel checkpoint packet tick sent
    ++ e_said channel checkpoint packet sent
    ++ t_said channel checkpoint packet sent
    ++ a_said channel checkpoint packet sent

-- Where a channel's journal is there, it is read as these logs behind those before it, whatever octets follow, and as so
-- many octets; and where it isn't, there are no logs.
pub record ChannelsAreRead : Type 0 where
  pub there : (checkpoint packet tick channel : ℕ) (sent : List Sent) → channel < 16 → AreCommands sent → KeepsLimits checkpoint (below packet_of packet sent) →
      is_there (channel_journal checkpoint packet tick sent channel) ≡ true → (place : ℕ) (before : List Log) (rest : List ℕ) →
      channel_read place before (channel_journal checkpoint packet tick sent channel ++ rest)
      ≡ Ok (before ++ channel_logs checkpoint packet tick sent channel, length (channel_journal checkpoint packet tick sent channel))
  pub none : (checkpoint packet tick channel : ℕ) (sent : List Sent) → AreCommands sent →
      is_there (channel_journal checkpoint packet tick sent channel) ≡ false → channel_logs checkpoint packet tick sent channel ≡ []

-- ## The chapters are short

-- a chapter that is read from its octets as a chapter of at most so many
short : (read : List ℕ → Chapter) (bound : ℕ) (text : List ℕ) (logs : List Log) → ((octets : List ℕ) (logs : List Log) (size : ℕ) → read octets ≡ Some (logs, size) → size ≤ bound) →
    (is_there text ≡ true → (rest : List ℕ) → read (text ++ rest) ≡ Some (logs, length text)) → length text ≤ bound
short read bound text logs few again =
    elim (cases_Bool (is_there text)) [
      | inl t ↦ few (text ++ []) logs (length text) (again t [])
      | inr f ↦ let none = ltb-false 0 (length text) f in omega (arith, none)
    ]

sized : (first : List Log) (n size bound : ℕ) (logs : List Log) (read : Chapter) → read ≡ Some (first, n) → n ≤ bound → read ≡ Some (logs, size) → size ≤ bound
sized first n size bound logs read e l r =
    let pair : ◌≡◌ {A = List Log × ℕ} (first, n) (logs, size) = cc in
    let same : n ≡ size = ap (λ (p : List Log × ℕ). p.1) pair in
    omega (arith, same, l)

p_short : (channel : ℕ) (octets : List ℕ) (logs : List Log) (size : ℕ) → p_read channel octets ≡ Some (logs, size) → size ≤ 3
p_short channel [] logs size e = absurd cc
p_short channel (a ∷ []) logs size e = absurd cc
p_short channel (a ∷ b ∷ []) logs size e = absurd cc
p_short channel (a ∷ b ∷ c ∷ rest) logs size e = sized _ 3 size 3 logs (p_read channel (a ∷ b ∷ c ∷ rest)) refl (omega arith) e

w_short : (channel : ℕ) (octets : List ℕ) (logs : List Log) (size : ℕ) → w_read channel octets ≡ Some (logs, size) → size ≤ 2
w_short channel [] logs size e = absurd cc
w_short channel (a ∷ []) logs size e = absurd cc
w_short channel (a ∷ b ∷ rest) logs size e = sized _ 2 size 2 logs (w_read channel (a ∷ b ∷ rest)) refl (omega arith) e

t_short : (channel : ℕ) (octets : List ℕ) (logs : List Log) (size : ℕ) → t_read channel octets ≡ Some (logs, size) → size ≤ 1
t_short channel [] logs size e = absurd cc
t_short channel (a ∷ rest) logs size e = sized _ 1 size 1 logs (t_read channel (a ∷ rest)) refl (omega arith) e

-- of the chapters whose octets are enough
enough : (b : Bool) (first logs : List Log) (n size bound : ℕ) → cond {A = Chapter} b None (Some (first, n)) ≡ Some (logs, size) → n ≤ bound → size ≤ bound
enough true first logs n size bound e l = absurd cc
enough false first logs n size bound e l = sized first n size bound logs (Some (first, n)) refl l e

listed_short : (kind : PairKind) (channel : ℕ) (octets : List ℕ) (logs : List Log) (size : ℕ) → listed_read kind channel octets ≡ Some (logs, size) → size ≤ 257
listed_short kind channel [] logs size e = absurd cc
listed_short kind channel (first ∷ rest) logs size e = enough _ _ logs (listed_size first + 1) size 257 e (omega arith)

count_short : (b : Bool) (len : ℕ) → len < 128 → cond b 128 len ≤ 128
count_short true len l = omega arith
count_short false len l = omega arith

off_short : (b : Bool) (low high : ℕ) → high < 16 → cond b 0 (high + 1 - low) ≤ 16
off_short true low high h = omega arith
off_short false low high h = omega arith

n_size_short : (head : NoteHead) → head.len < 128 → head.high < 16 → n_size head + 2 ≤ 274
n_size_short head l h =
    let count = count_short (eqb head.len 127 && eqb head.low 15 && eqb head.high 0) head.len l in
    let off = off_short (ltb head.high head.low) head.low head.high h in
    omega (arith, count, off)

n_short : (channel : ℕ) (octets : List ℕ) (logs : List Log) (size : ℕ) → n_read channel octets ≡ Some (logs, size) → size ≤ 274
n_short channel [] logs size e = absurd cc
n_short channel (a ∷ []) logs size e = absurd cc
n_short channel (a ∷ b ∷ rest) logs size e =
    enough _ _ logs (n_size (note_fields (a ∷ b ∷ [])) + 2) size 274 e (n_size_short (note_fields (a ∷ b ∷ [])) (omega arith) (omega arith))

m_length : (fresh : Bool) (octets : List ℕ) → length (chapter_of fresh octets) ≤ 2 + length octets
m_length fresh octets = elim (cases_Bool (eqb (length octets) 0)) [ inl t ↦ rw t (omega arith) | inr f ↦ rw f (omega arith) ]

m_short : (channel checkpoint packet : ℕ) (sent : List Sent) → param_count channel checkpoint (below packet_of packet sent) ≤ 16 → length (chapter_m channel checkpoint packet sent) ≤ 82
unfolding chapter_m param_count
m_short channel checkpoint packet sent few =
    let places = session_places channel (below packet_of packet sent) in
    let params = entered channel checkpoint places in
    omega (arith, few, m_length (fresh_among packet params) (param_logs channel checkpoint packet places), logs_short channel checkpoint packet places params)

logs_size_short : (count : ℕ) → count ≤ 64 → logs_size count ≤ 129
logs_size_short count few = elim (cases_Bool (eqb count 0)) [ inl t ↦ rw t (omega arith) | inr f ↦ rw f (omega arith) ]

a_short : (channel checkpoint packet : ℕ) (sent : List Sent) → poly_count channel checkpoint (below packet_of packet sent) ≤ 64 → length (chapter_a channel checkpoint packet sent) ≤ 129
unfolding chapter_a poly_count
a_short channel checkpoint packet sent few =
    let seen = below packet_of packet sent in
    let places = coded_presses channel checkpoint seen in
    let count = log_count (press_at channel seen) places in
    omega (arith, length-listed (press_at channel seen) packet places, logs_size_short count (omega (arith, few, logs-keys channel seen places)))

chapters_short : (checkpoint packet tick channel : ℕ) (sent : List Sent) → channel < 16 → AreCommands sent → KeepsLimits checkpoint (below packet_of packet sent) → length (channel_chapters checkpoint packet tick sent channel) ≤ 1005
chapters_short checkpoint packet tick channel sent c h limits =
    let params = limits.params channel c in
    let p = short (p_read channel) 3 (chapter_p channel checkpoint packet sent) (p_said channel checkpoint packet sent) (p_short channel) (p_again channel checkpoint packet sent h) in
    let k = short (listed_read Controllers channel) 257 (chapter_c channel checkpoint packet sent) (c_said channel checkpoint packet sent) (listed_short Controllers channel) (c_again channel checkpoint packet sent h) in
    let m = m_short channel checkpoint packet sent params in
    let w = short (w_read channel) 2 (chapter_w channel checkpoint packet sent) (w_said channel checkpoint packet sent) (w_short channel) (w_again channel checkpoint packet sent h) in
    let n = short (n_read channel) 274 (chapter_n channel checkpoint packet tick sent) (n_said channel checkpoint packet tick sent) (n_short channel) (n_again channel checkpoint packet tick sent h) in
    let e = short (listed_read Extras channel) 257 (chapter_e channel checkpoint packet sent) (e_said channel checkpoint packet sent) (listed_short Extras channel) (e_again channel checkpoint packet sent h) in
    let t = short (t_read channel) 1 (chapter_t channel checkpoint packet sent) (t_said channel checkpoint packet sent) (t_short channel) (t_again channel checkpoint packet sent h) in
    let a = a_short channel checkpoint packet sent (limits.notes channel c) in
    omega (arith, chapters_length checkpoint packet tick sent channel, p, k, m, w, n, e, t, a)

-- ## The chapters are read

-- the chapters of a channel's journal
abbrev part_of : (checkpoint packet tick channel : ℕ) → List Sent → ChannelChapter → Part
part_of checkpoint packet tick channel sent P = record { which = P; text = chapter_p channel checkpoint packet sent; logs = p_said channel checkpoint packet sent }
part_of checkpoint packet tick channel sent C = record { which = C; text = chapter_c channel checkpoint packet sent; logs = c_said channel checkpoint packet sent }
part_of checkpoint packet tick channel sent M = record { which = M; text = chapter_m channel checkpoint packet sent; logs = m_said channel checkpoint packet sent }
part_of checkpoint packet tick channel sent W = record { which = W; text = chapter_w channel checkpoint packet sent; logs = w_said channel checkpoint packet sent }
part_of checkpoint packet tick channel sent N = record { which = N; text = chapter_n channel checkpoint packet tick sent; logs = n_said channel checkpoint packet tick sent }
part_of checkpoint packet tick channel sent E = record { which = E; text = chapter_e channel checkpoint packet sent; logs = e_said channel checkpoint packet sent }
part_of checkpoint packet tick channel sent T = record { which = T; text = chapter_t channel checkpoint packet sent; logs = t_said channel checkpoint packet sent }
part_of checkpoint packet tick channel sent A = record { which = A; text = chapter_a channel checkpoint packet sent; logs = a_said channel checkpoint packet sent }

abbrev parts : (checkpoint packet tick channel : ℕ) → List Sent → List Part
parts checkpoint packet tick channel sent = map (part_of checkpoint packet tick channel sent) order

parts_text : (checkpoint packet tick channel : ℕ) (sent : List Sent) → flat_map text_of (parts checkpoint packet tick channel sent) ≡ channel_chapters checkpoint packet tick sent channel
unfolding channel_chapters
parts_text checkpoint packet tick channel sent = simp (append_assoc, append-nil)

parts_logs : (checkpoint packet tick channel : ℕ) (sent : List Sent) → flat_map logs_of (parts checkpoint packet tick channel sent) ≡ channel_logs checkpoint packet tick sent channel
unfolding channel_logs
parts_logs checkpoint packet tick channel sent = simp (append_assoc, append-nil)

all_read : (checkpoint packet tick channel : ℕ) (sent : List Sent) → channel < 16 → AreCommands sent → KeepsLimits checkpoint (below packet_of packet sent) →
    AllByRecursion (IsRead (channel_head checkpoint packet tick sent channel)) (parts checkpoint packet tick channel sent)
unfolding channel_head chapter_read
all_read checkpoint packet tick channel sent c h limits =
    let head = channel_head checkpoint packet tick sent channel in
    let part = part_of checkpoint packet tick channel sent in
    let p = part_read head (part P) refl (p_again channel checkpoint packet sent h) (p_none channel checkpoint packet sent h) in
    let k = part_read head (part C) refl (c_again channel checkpoint packet sent h) (c_none channel checkpoint packet sent h) in
    let m = part_read head (part M) refl (m_again channel checkpoint packet sent h (limits.params channel c)) (m_none channel checkpoint packet sent) in
    let w = part_read head (part W) refl (w_again channel checkpoint packet sent h) (w_none channel checkpoint packet sent h) in
    let n = part_read head (part N) refl (n_again channel checkpoint packet tick sent h) (n_none channel checkpoint packet tick sent) in
    let e = part_read head (part E) refl (e_again channel checkpoint packet sent h) (e_none channel checkpoint packet sent h) in
    let t = part_read head (part T) refl (t_again channel checkpoint packet sent h) (t_none channel checkpoint packet sent h) in
    let a = part_read head (part A) refl (a_again channel checkpoint packet sent h) (a_none channel checkpoint packet sent h) in
    (p, (k, (m, (w, (n, (e, (t, (a, tt))))))))

chapters_again : (checkpoint packet tick channel : ℕ) (sent : List Sent) → channel < 16 → AreCommands sent → KeepsLimits checkpoint (below packet_of packet sent) → (place : ℕ) (before : List Log) →
    chapters_read (channel_head checkpoint packet tick sent channel) order place before (channel_chapters checkpoint packet tick sent channel) ≡ Ok (before ++ channel_logs checkpoint packet tick sent channel)
chapters_again checkpoint packet tick channel sent c h limits place before =
    let head = channel_head checkpoint packet tick sent channel in
    let all = parts checkpoint packet tick channel sent in
    ap (λ (octets : List ℕ). chapters_read head order place before octets) (sym (parts_text checkpoint packet tick channel sent))
    ∙ parts_read head all place before (all_read checkpoint packet tick channel sent c h limits)
    ∙ ap (λ (logs : List Log). Ok (before ++ logs)) (parts_logs checkpoint packet tick channel sent)

-- ## The journal

some_chapters : (checkpoint packet tick channel : ℕ) (sent : List Sent) → is_there (channel_journal checkpoint packet tick sent channel) ≡ true → 0 < length (channel_chapters checkpoint packet tick sent channel)
some_chapters checkpoint packet tick channel sent there =
    elim (cases_Bool (eqb (length (channel_chapters checkpoint packet tick sent channel)) 0)) [
      | inl t ↦
          let none = channel_journal_none checkpoint packet tick sent channel (eqb-true (length (channel_chapters checkpoint packet tick sent channel)) 0 t) in
          absurd (let f : false ≡ true = rw none at there in cc)
      | inr f ↦
          let apart : length (channel_chapters checkpoint packet tick sent channel) ≡ 0 → ⊥ = eqb-false (length (channel_chapters checkpoint packet tick sent channel)) 0 f in
          omega arith
    ]

head_fits : (checkpoint packet tick channel : ℕ) (sent : List Sent) → channel < 16 → length (channel_chapters checkpoint packet tick sent channel) ≤ 1005 → FitsChannel (channel_head checkpoint packet tick sent channel)
unfolding channel_head
head_fits checkpoint packet tick channel sent c few = (c, omega (arith, few))

head_flag : (checkpoint packet tick channel : ℕ) (sent : List Sent) → (channel_head checkpoint packet tick sent channel).h ≡ false
unfolding channel_head
head_flag checkpoint packet tick channel sent = refl

head_length : (checkpoint packet tick channel : ℕ) (sent : List Sent) → (channel_head checkpoint packet tick sent channel).length ≡ 3 + length (channel_chapters checkpoint packet tick sent channel)
unfolding channel_head
head_length checkpoint packet tick channel sent = refl

pub channel_again : (checkpoint packet tick channel : ℕ) (sent : List Sent) → channel < 16 → AreCommands sent → KeepsLimits checkpoint (below packet_of packet sent) →
    is_there (channel_journal checkpoint packet tick sent channel) ≡ true → (place : ℕ) (before : List Log) (rest : List ℕ) →
    channel_read place before (channel_journal checkpoint packet tick sent channel ++ rest)
    ≡ Ok (before ++ channel_logs checkpoint packet tick sent channel, length (channel_journal checkpoint packet tick sent channel))
channel_again checkpoint packet tick channel sent c h limits there place before rest =
    let head = channel_head checkpoint packet tick sent channel in
    let chapters = channel_chapters checkpoint packet tick sent channel in
    let after = before ++ channel_logs checkpoint packet tick sent channel in
    let whole = channel_journal_some checkpoint packet tick sent channel (some_chapters checkpoint packet tick channel sent there) in
    let size : head.length ≡ length (channel_octets head ++ chapters) = omega (arith, head_length checkpoint packet tick channel sent) in
    ap (λ (octets : List ℕ). channel_read place before (octets ++ rest)) whole
    ∙ headed_read head chapters rest place before after (head_fits checkpoint packet tick channel sent c (chapters_short checkpoint packet tick channel sent c h limits)) (head_flag checkpoint packet tick channel sent)
    (head_length checkpoint packet tick channel sent) (chapters_again checkpoint packet tick channel sent c h limits (place + 3) before)
    ∙ ap (λ (n : ℕ). Ok (after, n)) (size ∙ ap length (sym whole))

absent : (octets : List ℕ) → length octets ≡ 0 → is_there octets ≡ false
absent octets e = rw e refl

no_chapters : (checkpoint packet tick channel : ℕ) (sent : List Sent) → is_there (channel_journal checkpoint packet tick sent channel) ≡ false → length (channel_chapters checkpoint packet tick sent channel) ≡ 0
no_chapters checkpoint packet tick channel sent none =
    elim (cases_Bool (eqb (length (channel_chapters checkpoint packet tick sent channel)) 0)) [
      | inl t ↦ eqb-true (length (channel_chapters checkpoint packet tick sent channel)) 0 t
      | inr f ↦
          let apart : length (channel_chapters checkpoint packet tick sent channel) ≡ 0 → ⊥ = eqb-false (length (channel_chapters checkpoint packet tick sent channel)) 0 f in
          let whole = channel_journal_some checkpoint packet tick sent channel (omega arith) in
          let few = ltb-false 0 (length (channel_journal checkpoint packet tick sent channel)) none in
          absurd (omega (arith, few, ap length whole))
    ]

pub channel_none : (checkpoint packet tick channel : ℕ) (sent : List Sent) → AreCommands sent →
    is_there (channel_journal checkpoint packet tick sent channel) ≡ false → channel_logs checkpoint packet tick sent channel ≡ []
unfolding channel_logs
channel_none checkpoint packet tick channel sent h none =
    let nothing = no_chapters checkpoint packet tick channel sent none in
    let total = chapters_length checkpoint packet tick sent channel in
    let p = p_none channel checkpoint packet sent h (absent (chapter_p channel checkpoint packet sent) (omega (arith, nothing, total))) in
    let k = c_none channel checkpoint packet sent h (absent (chapter_c channel checkpoint packet sent) (omega (arith, nothing, total))) in
    let m = m_none channel checkpoint packet sent (absent (chapter_m channel checkpoint packet sent) (omega (arith, nothing, total))) in
    let w = w_none channel checkpoint packet sent h (absent (chapter_w channel checkpoint packet sent) (omega (arith, nothing, total))) in
    let n = n_none channel checkpoint packet tick sent (absent (chapter_n channel checkpoint packet tick sent) (omega (arith, nothing, total))) in
    let e = e_none channel checkpoint packet sent h (absent (chapter_e channel checkpoint packet sent) (omega (arith, nothing, total))) in
    let t = t_none channel checkpoint packet sent h (absent (chapter_t channel checkpoint packet sent) (omega (arith, nothing, total))) in
    let a = a_none channel checkpoint packet sent h (absent (chapter_a channel checkpoint packet sent) (omega (arith, nothing, total))) in
    rw (p, k, m, w, n, e, t, a) refl

pub channels_are_read : ChannelsAreRead
channels_are_read = record { there = channel_again; none = channel_none }
