-- What is written of the system chapters is read: the system journal (RFC 6295, section 5, Figure 10).
use Rattle.std.proofs.Common.{◌≡◌, ℕ, suc, ◌+◌, ◌-◌, ◌≤◌, ◌<◌, Bool, true, false, ltb, eqb, List, [], ◌∷◌, ◌++◌, Option, Some, None, Ok, length, map, refl, sym, ap, ◌∙◌, arith, inl, inr, append_assoc, length-append}
use Rattle.std.proofs.Math.Seq.{take-append_seam, drop-append_seam}
use Rattle.std.specs.List.{AllByRecursion}
use Rattle.std.proofs.lemmas.Bool.{cases_Bool, lt-ltb, le-ltb, eqb-true, eqb-false}
use Rattle.std.proofs.lemmas.List.{append-nil}
use Rattle.jm_wire.specs.declared.heads.SystemHead.{SystemHead}
use Rattle.jm_wire.specs.Heads.{system_octets, FitsSystem}
use Rattle.jm_wire.specs.HeadLaws.{system_back}
use Rattle.jm_cmds.specs.declared.history.Sent.{Sent}
use Rattle.jm_cmds.specs.declared.frames.TimePart.{TimePart}
use Rattle.jm_cmds.specs.declared.sequencing.SequencerPart.{SequencerPart}
use Rattle.jm_cmds.specs.Command.{IsCommand}
use Rattle.jm_cmds.specs.Frames.{time_code_after}
use Rattle.jm_cmds.specs.History.{below}
use Rattle.jm_cmds.specs.Sent.{packet_of, is_fresh}
use Rattle.jm_cmds.specs.Sequencing.{sequencer_after}
use Rattle.ch_system.specs.declared.items.SystemItem.TheVariants.{Reset, Tune, Song, Sensing, Sequence, Frames}
use Rattle.ch_system.specs.Items.{item_coded}
use Rattle.ch_system.specs.ItemLaws.{OneAtMost, none, one, one-coded}
use Rattle.ch_system.specs.ChapterD.{chapter_d, fresh_d, d_head, headed, count_logs, song_logs}
use Rattle.ch_system.specs.ChapterV.{chapter_v}
use Rattle.ch_system.specs.ChapterQ.{chapter_q, position_octets}
use Rattle.ch_system.specs.ChapterF.{chapter_f, time_octets_of, word_octets}
use Rattle.ch_sysex.specs.ChapterX.{chapter_x, sysex_octets}
use Rattle.ch_sysex.specs.ChapterLaws.{length-chapter_x}
use Rattle.jm_journal.specs.Channel.{is_there}
use Rattle.jm_journal.specs.System.{system_chapters, system_head, system_journal}
use Rattle.jm_journal.specs.Lens.{system_journal_none, system_journal_some, system_chapters_length}
use Rattle.jm_reader.specs.declared.logs.Log.{Log}
use Rattle.jm_reader.specs.declared.system.Letter.{Letter}
use Rattle.jm_reader.specs.declared.system.Letter.TheVariants.{D, V, Q, F, X}
use Rattle.jm_reader.specs.SystemJournal.{in_order, chapter_read, ends_journal, chapters_read, system_at, system_read, is_there as is_flagged}
use Rattle.jm_reader.specs.WrittenD.{d_said, d_again, d_goes_on, d_none}
use Rattle.jm_reader.specs.WrittenV.{v_said, v_again, v_none}
use Rattle.jm_reader.specs.WrittenQ.{q_said, q_again, q_goes_on, q_none}
use Rattle.jm_reader.specs.WrittenF.{f_said, f_again, f_none}
use Rattle.jm_reader.specs.WrittenX.{x_said, x_again, x_none}

-- The logs of the system chapters in the journal of this packet, in their order.
unfoldable pub system_logs : (checkpoint packet : ℕ) → List Sent → List Log
system_logs checkpoint packet sent =
    d_said checkpoint packet sent
    ++ v_said checkpoint packet sent
    ++ q_said checkpoint packet sent
    ++ f_said checkpoint packet sent
    ++ x_said checkpoint packet sent

-- ## The chapters are short

at_most_one : {X : Type 0} (text : Sent → X) (places : List Sent) → OneAtMost places → length (map text places) ≤ 1
at_most_one text places o = elim o [ none e ↦ rw e (omega arith) | one x e ↦ rw e (omega arith) ]

headed_short : (head : ℕ) (octets : List ℕ) → length (headed head octets) ≤ 1 + length octets
headed_short head [] = omega arith
headed_short head (log ∷ more) = omega arith

d_short : (checkpoint packet : ℕ) (sent : List Sent) → length (chapter_d checkpoint packet sent) ≤ 4
unfolding chapter_d
d_short checkpoint packet sent =
    let resets = count_logs Reset checkpoint packet sent in
    let tunes = count_logs Tune checkpoint packet sent in
    let songs = song_logs checkpoint packet sent in
    let r : length resets ≤ 1 = at_most_one _ (item_coded Reset checkpoint packet sent) (one-coded Reset checkpoint packet sent) in
    let t : length tunes ≤ 1 = at_most_one _ (item_coded Tune checkpoint packet sent) (one-coded Tune checkpoint packet sent) in
    let s : length songs ≤ 1 = at_most_one _ (item_coded Song checkpoint packet sent) (one-coded Song checkpoint packet sent) in
    let all = headed_short (d_head (fresh_d checkpoint packet sent) resets tunes songs) (resets ++ tunes ++ songs) in
    omega (arith, all, r, t, s, length-append (resets ++ tunes) songs, length-append resets tunes)

v_short : (checkpoint packet : ℕ) (sent : List Sent) → length (chapter_v checkpoint packet sent) ≤ 1
unfolding chapter_v
v_short checkpoint packet sent = at_most_one _ (item_coded Sensing checkpoint packet sent) (one-coded Sensing checkpoint packet sent)

position_short : (fresh : Bool) (state : Option SequencerPart) → length (position_octets fresh state ++ []) ≤ 3
position_short fresh None = omega arith
position_short fresh (Some s) = elim (cases_Bool (eqb s.position 0)) [ inl z ↦ rw z (omega arith) | inr m ↦ rw m (omega arith) ]

q_short : (checkpoint packet : ℕ) (sent : List Sent) → length (chapter_q checkpoint packet sent) ≤ 3
unfolding chapter_q
q_short checkpoint packet sent =
    elim (one-coded Sequence checkpoint packet sent) [
      | none e ↦ rw e (omega arith)
      | one x e ↦ rw e (position_short (is_fresh packet x) (sequencer_after (below packet_of packet sent)))
    ]

word_short : (word : Option ℕ) → length (word_octets word) ≤ 4
word_short None = omega arith
word_short (Some word) = omega arith

code_short : (fresh : Bool) (state : Option TimePart) → length (time_octets_of fresh state ++ []) ≤ 9
code_short fresh None = omega arith
code_short fresh (Some code) =
    let words = length-append (word_octets code.complete) (word_octets code.partial) in
    let all = length-append (word_octets code.complete ++ word_octets code.partial) [] in
    omega (arith, words, all, word_short code.complete, word_short code.partial)

f_short : (checkpoint packet : ℕ) (sent : List Sent) → length (chapter_f checkpoint packet sent) ≤ 9
unfolding chapter_f
f_short checkpoint packet sent =
    elim (one-coded Frames checkpoint packet sent) [
      | none e ↦ rw e (omega arith)
      | one x e ↦ rw e (code_short (is_fresh packet x) (time_code_after (below packet_of packet sent)))
    ]

chapters_short : (checkpoint packet : ℕ) (sent : List Sent) → sysex_octets checkpoint (below packet_of packet sent) ≤ 1000 → length (system_chapters checkpoint packet sent) ≤ 1017
chapters_short checkpoint packet sent few =
    omega (arith, few, system_chapters_length checkpoint packet sent, d_short checkpoint packet sent, v_short checkpoint packet sent, q_short checkpoint packet sent, f_short checkpoint packet sent, length-chapter_x checkpoint packet sent)

-- ## One chapter after the other

nothing : (octets : List ℕ) → is_there octets ≡ false → octets ≡ []
nothing [] n = refl
nothing (first ∷ rest) n = absurd (let some : is_there (first ∷ rest) ≡ true = lt-ltb 0 (suc (length rest)) (omega arith) in cc)

-- a chapter that is read as these logs, and those behind it
step : (letter : Letter) (letters : List Letter) (head : SystemHead) (place : ℕ) (before said after : List Log) (text later : List ℕ) → is_flagged head letter ≡ is_there text →
    (is_there text ≡ true → chapter_read letter (text ++ later) ≡ Some (said, length text)) → (is_there text ≡ true → ends_journal letter (text ++ later) ≡ false) →
    (is_there text ≡ false → said ≡ []) → ((at : ℕ) → chapters_read letters head at (before ++ said) later ≡ Ok after) →
    chapters_read (letter ∷ letters) head place before (text ++ later) ≡ Ok after
unfolding chapters_read
step letter letters head place before said after text later flag again goes_on isnt others =
    elim (cases_Bool (is_there text)) [
      | inl t ↦
          rw (flag ∙ t, goes_on t, again t)
          (ap (λ (octets : List ℕ). chapters_read letters head (place + length text) (before ++ said) octets) (drop-append_seam text later) ∙ others (place + length text))
      | inr f ↦
          rw (flag ∙ f)
          (ap (λ (octets : List ℕ). chapters_read letters head place before (octets ++ later)) (nothing text f)
          ∙ ap (λ (logs : List Log). chapters_read letters head place logs later) (sym (append-nil before) ∙ ap (λ (logs : List Log). before ++ logs) (sym (isnt f)))
          ∙ others place)
    ]

last : (head : SystemHead) (place : ℕ) (logs : List Log) → chapters_read [] head place logs [] ≡ Ok logs
unfolding chapters_read
last head place logs = refl

-- the last chapter goes to the end of the octets
x_alone : (checkpoint packet : ℕ) (sent : List Sent) → AllByRecursion (λ place. IsCommand place.command) sent → is_there (chapter_x checkpoint packet sent) ≡ true →
    chapter_read X (chapter_x checkpoint packet sent ++ []) ≡ Some (x_said checkpoint packet sent, length (chapter_x checkpoint packet sent))
x_alone checkpoint packet sent h t = ap (chapter_read X) (append-nil (chapter_x checkpoint packet sent)) ∙ x_again checkpoint packet sent h t

chapters_again : (checkpoint packet : ℕ) (sent : List Sent) (place : ℕ) (before : List Log) → AllByRecursion (λ place. IsCommand place.command) sent →
    chapters_read in_order (system_head checkpoint packet sent) place before
    (chapter_d checkpoint packet sent ++ (chapter_v checkpoint packet sent ++ (chapter_q checkpoint packet sent ++ (chapter_f checkpoint packet sent ++ (chapter_x checkpoint packet sent ++ [])))))
    ≡ Ok (((((before ++ d_said checkpoint packet sent) ++ v_said checkpoint packet sent) ++ q_said checkpoint packet sent) ++ f_said checkpoint packet sent) ++ x_said checkpoint packet sent)
unfolding system_head
chapters_again checkpoint packet sent place before h =
    let head = system_head checkpoint packet sent in
    let d = chapter_d checkpoint packet sent in
    let v = chapter_v checkpoint packet sent in
    let q = chapter_q checkpoint packet sent in
    let f = chapter_f checkpoint packet sent in
    let x = chapter_x checkpoint packet sent in
    let with_d = before ++ d_said checkpoint packet sent in
    let with_v = with_d ++ v_said checkpoint packet sent in
    let with_q = with_v ++ q_said checkpoint packet sent in
    let with_f = with_q ++ f_said checkpoint packet sent in
    let after = with_f ++ x_said checkpoint packet sent in
    step D (V ∷ Q ∷ F ∷ X ∷ []) head place before (d_said checkpoint packet sent) after d (v ++ (q ++ (f ++ (x ++ [])))) refl
    (λ t. d_again checkpoint packet sent h t (v ++ (q ++ (f ++ (x ++ []))))) (λ t. d_goes_on checkpoint packet sent t (v ++ (q ++ (f ++ (x ++ []))))) (d_none checkpoint packet sent)
    (λ at_v. step V (Q ∷ F ∷ X ∷ []) head at_v with_d (v_said checkpoint packet sent) after v (q ++ (f ++ (x ++ []))) refl
    (λ t. v_again checkpoint packet sent t (q ++ (f ++ (x ++ [])))) (λ t. refl) (v_none checkpoint packet sent)
    (λ at_q. step Q (F ∷ X ∷ []) head at_q with_v (q_said checkpoint packet sent) after q (f ++ (x ++ [])) refl
    (λ t. q_again checkpoint packet sent h t (f ++ (x ++ []))) (λ t. q_goes_on checkpoint packet sent h t (f ++ (x ++ []))) (q_none checkpoint packet sent)
    (λ at_f. step F (X ∷ []) head at_f with_q (f_said checkpoint packet sent) after f (x ++ []) refl
    (λ t. f_again checkpoint packet sent h t (x ++ [])) (λ t. refl) (f_none checkpoint packet sent)
    (λ at_x. step X [] head at_x with_f (x_said checkpoint packet sent) after x [] refl
    (x_alone checkpoint packet sent h) (λ t. refl) (x_none checkpoint packet sent)
    (λ end. last head end after)))))

-- ## The journal

regrouped : {T : Type 0} (d v q f x : List T) → d ++ v ++ q ++ f ++ x ≡ d ++ (v ++ (q ++ (f ++ (x ++ []))))
regrouped d v q f x = rw (append-nil x) (simp append_assoc)

logs_grouped : (before d v q f x : List Log) → ((((before ++ d) ++ v) ++ q) ++ f) ++ x ≡ before ++ (d ++ v ++ q ++ f ++ x)
logs_grouped before d v q f x = simp append_assoc

inside_again : (checkpoint packet : ℕ) (sent : List Sent) (place : ℕ) (before : List Log) → AllByRecursion (λ place. IsCommand place.command) sent →
    chapters_read in_order (system_head checkpoint packet sent) place before (system_chapters checkpoint packet sent) ≡ Ok (before ++ system_logs checkpoint packet sent)
unfolding system_chapters system_logs
inside_again checkpoint packet sent place before h =
    ap (chapters_read in_order (system_head checkpoint packet sent) place before)
    (regrouped (chapter_d checkpoint packet sent) (chapter_v checkpoint packet sent) (chapter_q checkpoint packet sent) (chapter_f checkpoint packet sent) (chapter_x checkpoint packet sent))
    ∙ chapters_again checkpoint packet sent place before h
    ∙ ap (λ (logs : List Log). Ok logs) (logs_grouped before (d_said checkpoint packet sent) (v_said checkpoint packet sent) (q_said checkpoint packet sent) (f_said checkpoint packet sent) (x_said checkpoint packet sent))

-- a header and its chapters, whatever octets follow
headed_read : (head : SystemHead) (chapters rest : List ℕ) (place : ℕ) (before after : List Log) → FitsSystem head → head.length ≡ 2 + length chapters →
    chapters_read in_order head (place + 2) before chapters ≡ Ok after →
    system_read place before ((system_octets head ++ chapters) ++ rest) ≡ Ok (after, head.length)
unfolding system_read
headed_read head chapters rest place before after fits size read =
    let octets = (system_octets head ++ chapters) ++ rest in
    let enough : ltb (suc (suc (length (chapters ++ rest)))) head.length ≡ false = le-ltb (suc (suc (length (chapters ++ rest)))) head.length (omega (arith, size, length-append chapters rest)) in
    let some : ltb head.length 2 ≡ false = le-ltb head.length 2 (omega (arith, size)) in
    let same : head.length - 2 ≡ length chapters = omega (arith, size) in
    ap (λ (h : SystemHead). system_at h place before octets) (system_back head fits)
    ∙ rw (enough, some, same, take-append_seam chapters rest, read) refl

system_full : (checkpoint packet : ℕ) (sent : List Sent) → is_there (system_journal checkpoint packet sent) ≡ true → 0 < length (system_chapters checkpoint packet sent)
system_full checkpoint packet sent t =
    elim (cases_Bool (eqb (length (system_chapters checkpoint packet sent)) 0)) [
      | inl z ↦ absurd (let empty : is_there (system_journal checkpoint packet sent) ≡ false = ap is_there (system_journal_none checkpoint packet sent (eqb-true (length (system_chapters checkpoint packet sent)) 0 z)) in cc)
      | inr f ↦ let some = eqb-false (length (system_chapters checkpoint packet sent)) 0 f in omega (arith, some)
    ]

head_size : (checkpoint packet : ℕ) (sent : List Sent) → (system_head checkpoint packet sent).length ≡ 2 + length (system_chapters checkpoint packet sent)
unfolding system_head
head_size checkpoint packet sent = refl

-- Where a system journal is there, it is read as what its chapters code behind the logs before it, whatever octets follow.
pub system_again : (checkpoint packet : ℕ) (sent : List Sent) → AllByRecursion (λ place. IsCommand place.command) sent → sysex_octets checkpoint (below packet_of packet sent) ≤ 1000 →
    is_there (system_journal checkpoint packet sent) ≡ true → (place : ℕ) (before : List Log) (rest : List ℕ) →
    system_read place before (system_journal checkpoint packet sent ++ rest) ≡ Ok (before ++ system_logs checkpoint packet sent, length (system_journal checkpoint packet sent))
system_again checkpoint packet sent h few t place before rest =
    let head = system_head checkpoint packet sent in
    let chapters = system_chapters checkpoint packet sent in
    let size = head_size checkpoint packet sent in
    let whole = system_journal_some checkpoint packet sent (system_full checkpoint packet sent t) in
    let fits : FitsSystem head = omega (arith, size, chapters_short checkpoint packet sent few) in
    let long : head.length ≡ length (system_octets head ++ chapters) = omega (arith, size) in
    rw whole
    (headed_read head chapters rest place before (before ++ system_logs checkpoint packet sent) fits size (inside_again checkpoint packet sent (place + 2) before h)
    ∙ ap (λ (n : ℕ). Ok (before ++ system_logs checkpoint packet sent, n)) long)

system_bare : (checkpoint packet : ℕ) (sent : List Sent) → is_there (system_journal checkpoint packet sent) ≡ false → length (system_chapters checkpoint packet sent) ≡ 0
system_bare checkpoint packet sent n =
    elim (cases_Bool (eqb (length (system_chapters checkpoint packet sent)) 0)) [
      | inl z ↦ eqb-true (length (system_chapters checkpoint packet sent)) 0 z
      | inr f ↦
          let some = eqb-false (length (system_chapters checkpoint packet sent)) 0 f in
          let whole = system_journal_some checkpoint packet sent (omega (arith, some)) in
          absurd (let there : is_there (system_journal checkpoint packet sent) ≡ true = rw whole (lt-ltb 0 (suc (suc (length (system_chapters checkpoint packet sent)))) (omega arith)) in cc)
    ]

isnt : (octets : List ℕ) → length octets ≡ 0 → is_there octets ≡ false
isnt [] e = refl
isnt (first ∷ rest) e = absurd (omega (arith, e))

-- Where it isn't there, nothing of its chapters is coded.
pub system_none : (checkpoint packet : ℕ) (sent : List Sent) → is_there (system_journal checkpoint packet sent) ≡ false → system_logs checkpoint packet sent ≡ []
unfolding system_logs
system_none checkpoint packet sent n =
    let bare = system_bare checkpoint packet sent n in
    let all = system_chapters_length checkpoint packet sent in
    let d = d_none checkpoint packet sent (isnt (chapter_d checkpoint packet sent) (omega (arith, bare, all))) in
    let v = v_none checkpoint packet sent (isnt (chapter_v checkpoint packet sent) (omega (arith, bare, all))) in
    let q = q_none checkpoint packet sent (isnt (chapter_q checkpoint packet sent) (omega (arith, bare, all))) in
    let f = f_none checkpoint packet sent (isnt (chapter_f checkpoint packet sent) (omega (arith, bare, all))) in
    let x = x_none checkpoint packet sent (isnt (chapter_x checkpoint packet sent) (omega (arith, bare, all))) in
    rw (d, v, q, f, x) refl

pub record SystemsAreRead : Type 0 where
  pub there : (checkpoint packet : ℕ) (sent : List Sent) → AllByRecursion (λ place. IsCommand place.command) sent → sysex_octets checkpoint (below packet_of packet sent) ≤ 1000 →
      is_there (system_journal checkpoint packet sent) ≡ true → (place : ℕ) (before : List Log) (rest : List ℕ) →
      system_read place before (system_journal checkpoint packet sent ++ rest) ≡ Ok (before ++ system_logs checkpoint packet sent, length (system_journal checkpoint packet sent))
  pub none : (checkpoint packet : ℕ) (sent : List Sent) → is_there (system_journal checkpoint packet sent) ≡ false → system_logs checkpoint packet sent ≡ []

pub systems_are_read : SystemsAreRead
systems_are_read = record { there = system_again; none = system_none }
