-- A command is read from its spelling, and from nothing else.
use Rattle.std.proofs.Common.{◌≡◌, ℕ, ◌+◌, ◌*◌, ◌/◌, ◌%◌, ◌≤◌, ◌<◌, true, false, List, [], ◌∷◌, ◌++◌, ltb, eqb, Result, Ok, Err, refl, ap, sym, ◌∙◌, arith, inl, inr, take, drop, length, get_or, suc, add-one, add_comm, append_assoc, length-append, subst, drop-cons}
use Rattle.std.proofs.lemmas.Bool.{lt-ltb, le-ltb, ltb-true, ltb-false, eqb-true, eqb-false, and_parts, ne_eqb, cases_Bool}
use Rattle.std.specs.List.{list_all}
use Rattle.std.proofs.Math.Seq.{take-append_seam}
use Rattle.std.proofs.lemmas.List.{take-append-drop, length-take-le}
use Rattle.std.proofs.lemmas.List.Sums.{prefix_len-le-length}
use Rattle.jm_cmds.specs.DataLaws.{IsSysex-front}
use Rattle.jm_cmds.specs.declared.commands.Command.{Command}
use Rattle.jm_cmds.specs.declared.commands.Command.TheVariants.{NoteOff, NoteOn, PolyPressure, Control, Program, Pressure, Wheel, QuarterFrame, SongPosition, SongSelect, TuneRequest, Clock, Start, Continue, Stop, ActiveSensing, SystemReset, Sysex}
use Rattle.jm_cmds.specs.declared.reading.CmdFault.{CmdFault}
use Rattle.jm_cmds.specs.declared.reading.CmdFault.TheVariants.{Empty, DataOctet, BadStatus, BadData, TooLong, Short}
use Rattle.jm_cmds.specs.Command.{spelling, IsCommand}
use Rattle.jm_cmds.specs.Data.{is_data, IsData, data_len, IsSysex}
use Rattle.jm_cmds.specs.Reading.{with_one, with_two, channel_read, system_read, message_read, after_status, command_read}

with_one-data : (made : ℕ → Command) (value : ℕ) (rest : List ℕ) → value < 128 → with_one made (value ∷ rest) ≡ Ok (made value, 2)
with_one-data made value rest v = rw (lt-ltb value 128 v) refl

with_two-data : (made : ℕ → ℕ → Command) (first second : ℕ) (rest : List ℕ) → first < 128 → second < 128 → with_two made (first ∷ second ∷ rest) ≡ Ok (made first second, 3)
with_two-data made first second rest f s = rw (lt-ltb first 128 f, lt-ltb second 128 s) refl

data_len-whole : (octets rest : List ℕ) → IsData octets → data_len (octets ++ 0xf7 ∷ rest) ≡ length octets
data_len-whole [] rest h = refl
data_len-whole (octet ∷ octets) rest h =
    let both = and_parts (is_data octet) (list_all is_data octets) h in
    rw both.0 (ap (λ n. 1 + n) (data_len-whole octets rest both.1) ∙ add_comm 1 (length octets) ∙ add-one (length octets))

message_read-whole : (octets rest : List ℕ) → IsSysex octets → message_read (octets ++ 0xf7 ∷ rest) ≡ Ok (Sysex octets, length octets + 2)
message_read-whole octets rest h =
    let n = data_len-whole octets rest h.octets_are_data in
    let l : length (octets ++ 0xf7 ∷ rest) ≡ length octets + (length rest + 1) = grind (arith, length-append, add-one) in
    let some : eqb (length octets) (length (octets ++ 0xf7 ∷ rest)) ≡ false = ne_eqb (length octets) (length (octets ++ 0xf7 ∷ rest)) (λ e. omega arith) in
    let stop : get_or (octets ++ 0xf7 ∷ rest) (length octets) 0 ≡ 0xf7 = get_or-append_seam octets rest in
    rw (n, le-ltb 65536 (length octets) h.few, some, stop, take-append_seam octets (0xf7 ∷ rest)) refl
  where
    get_or-append_seam : (xs ys : List ℕ) → get_or (xs ++ 0xf7 ∷ ys) (length xs) 0 ≡ 0xf7
    get_or-append_seam [] ys = refl
    get_or-append_seam (x ∷ xs) ys = get_or-append_seam xs ys

-- Reading what is spelled gives the command back, whatever follows.
pub command_read-spelling : (command : Command) (rest : List ℕ) → IsCommand command → command_read (spelling command ++ rest) ≡ Ok (command, length (spelling command))
unfolding command_read after_status
command_read-spelling (NoteOff channel note velocity) rest h =
    let e : (128 + channel) % 16 ≡ channel = omega arith in
    rw (le-ltb (128 + channel) 128 (omega arith), lt-ltb (128 + channel) 240 (omega arith), lt-ltb (128 + channel) 144 (omega arith))
    (with_two-data (NoteOff ((128 + channel) % 16)) note velocity rest h.1 h.2 ∙ rw e refl)
command_read-spelling (NoteOn channel note velocity) rest h =
    let e : (144 + channel) % 16 ≡ channel = omega arith in
    rw (le-ltb (144 + channel) 128 (omega arith), lt-ltb (144 + channel) 240 (omega arith), le-ltb (144 + channel) 144 (omega arith), lt-ltb (144 + channel) 160 (omega arith))
    (with_two-data (NoteOn ((144 + channel) % 16)) note velocity rest h.1 h.2 ∙ rw e refl)
command_read-spelling (PolyPressure channel note value) rest h =
    let e : (160 + channel) % 16 ≡ channel = omega arith in
    rw (le-ltb (160 + channel) 128 (omega arith), lt-ltb (160 + channel) 240 (omega arith), le-ltb (160 + channel) 144 (omega arith), le-ltb (160 + channel) 160 (omega arith), lt-ltb (160 + channel) 176 (omega arith))
    (with_two-data (PolyPressure ((160 + channel) % 16)) note value rest h.1 h.2 ∙ rw e refl)
command_read-spelling (Control channel number value) rest h =
    let e : (176 + channel) % 16 ≡ channel = omega arith in
    rw (le-ltb (176 + channel) 128 (omega arith), lt-ltb (176 + channel) 240 (omega arith), le-ltb (176 + channel) 144 (omega arith), le-ltb (176 + channel) 160 (omega arith), le-ltb (176 + channel) 176 (omega arith), lt-ltb (176 + channel) 192 (omega arith))
    (with_two-data (Control ((176 + channel) % 16)) number value rest h.1 h.2 ∙ rw e refl)
command_read-spelling (Program channel program) rest h =
    let e : (192 + channel) % 16 ≡ channel = omega arith in
    rw (le-ltb (192 + channel) 128 (omega arith), lt-ltb (192 + channel) 240 (omega arith), le-ltb (192 + channel) 144 (omega arith), le-ltb (192 + channel) 160 (omega arith), le-ltb (192 + channel) 176 (omega arith), le-ltb (192 + channel) 192 (omega arith), lt-ltb (192 + channel) 208 (omega arith))
    (with_one-data (Program ((192 + channel) % 16)) program rest h.1 ∙ rw e refl)
command_read-spelling (Pressure channel value) rest h =
    let e : (208 + channel) % 16 ≡ channel = omega arith in
    rw (le-ltb (208 + channel) 128 (omega arith), lt-ltb (208 + channel) 240 (omega arith), le-ltb (208 + channel) 144 (omega arith), le-ltb (208 + channel) 160 (omega arith), le-ltb (208 + channel) 176 (omega arith), le-ltb (208 + channel) 192 (omega arith), le-ltb (208 + channel) 208 (omega arith), lt-ltb (208 + channel) 224 (omega arith))
    (with_one-data (Pressure ((208 + channel) % 16)) value rest h.1 ∙ rw e refl)
command_read-spelling (Wheel channel first second) rest h =
    let e : (224 + channel) % 16 ≡ channel = omega arith in
    rw (le-ltb (224 + channel) 128 (omega arith), lt-ltb (224 + channel) 240 (omega arith), le-ltb (224 + channel) 144 (omega arith), le-ltb (224 + channel) 160 (omega arith), le-ltb (224 + channel) 176 (omega arith), le-ltb (224 + channel) 192 (omega arith), le-ltb (224 + channel) 208 (omega arith), le-ltb (224 + channel) 224 (omega arith))
    (with_two-data (Wheel ((224 + channel) % 16)) first second rest h.1 h.2 ∙ rw e refl)
command_read-spelling (QuarterFrame value) rest h = with_one-data QuarterFrame value rest h
command_read-spelling (SongPosition value) rest h =
    let e : value % 128 + 128 * (value / 128) ≡ value = omega arith in
    with_two-data (λ low high. SongPosition (low + 128 * high)) (value % 128) (value / 128) rest (omega arith) (omega arith) ∙ rw e refl
command_read-spelling (SongSelect song) rest h = with_one-data SongSelect song rest h
command_read-spelling TuneRequest rest h = refl
command_read-spelling Clock rest h = refl
command_read-spelling Start rest h = refl
command_read-spelling Continue rest h = refl
command_read-spelling Stop rest h = refl
command_read-spelling ActiveSensing rest h = refl
command_read-spelling SystemReset rest h = refl
command_read-spelling (Sysex octets) rest h =
    rw (append_assoc octets (0xf7 ∷ []) rest) (message_read-whole octets rest h ∙ ap made same)
  where
    made : ℕ → Result (Command × ℕ) CmdFault
    made n = Ok (Sysex octets, n)

    same : length octets + 2 ≡ length (0xf0 ∷ (octets ++ 0xf7 ∷ []))
    same = grind (arith, length-append, add-one)

abbrev got : Command × ℕ → Result (Command × ℕ) CmdFault
got read = Ok read

abbrev refused : CmdFault → Result (Command × ℕ) CmdFault
refused fault = Err fault

same_read : (x y : Command × ℕ) → got x ≡ got y → x ≡ y
same_read x y e = cc

not_refused : (fault : CmdFault) (x : Command × ℕ) → refused fault ≡ got x → ⊥
not_refused fault x e = cc

-- Each command has one spelling, and no spelling is a prefix of another command's.
pub spelling-unique : (a b : Command) (more others : List ℕ) → IsCommand a → IsCommand b → spelling a ++ more ≡ spelling b ++ others → a ≡ b
spelling-unique a b more others p q e =
    ap (λ x. x.0) (same_read (a, length (spelling a)) (b, length (spelling b))
    (sym (command_read-spelling a more p) ∙ ap command_read e ∙ command_read-spelling b others q))

-- these octets begin with this command, which has so many
pub record BeginsWith (octets : List ℕ) (command : Command) (size : ℕ) : Type 0 where
  pub bounds : IsCommand command
  pub whole : size ≡ length (spelling command)
  pub split : octets ≡ spelling command ++ drop size octets

-- ## What is read is spelled

record ReadOne (made : ℕ → Command) (rest : List ℕ) (command : Command) (size : ℕ) : Type 0 where
  value : ℕ
  tail : List ℕ
  rest_is : rest ≡ value ∷ tail
  bound : value < 128
  command_is : command ≡ made value
  size_is : size ≡ 2

read_one : (made : ℕ → Command) (rest : List ℕ) (command : Command) (size : ℕ) → with_one made rest ≡ got (command, size) → ReadOne made rest command size
read_one made [] command size e = absurd (not_refused Short (command, size) e)
read_one made (value ∷ tail) command size e =
    elim (cases_Bool (is_data value)) [
      | inl t ↦
          let p : (made value, 2) ≡ (command, size) = same_read (made value, 2) (command, size) (rw t at e) in
          record { value = value; tail = tail; rest_is = refl; bound = ltb-true value 128 t; command_is = sym (ap (λ x. x.0) p); size_is = sym (ap (λ x. x.1) p) }
      | inr f ↦ absurd (not_refused (BadData 1) (command, size) (rw f at e))
    ]

record ReadTwo (made : ℕ → ℕ → Command) (rest : List ℕ) (command : Command) (size : ℕ) : Type 0 where
  first : ℕ
  second : ℕ
  tail : List ℕ
  rest_is : rest ≡ first ∷ second ∷ tail
  first_bound : first < 128
  second_bound : second < 128
  command_is : command ≡ made first second
  size_is : size ≡ 3

read_two : (made : ℕ → ℕ → Command) (rest : List ℕ) (command : Command) (size : ℕ) → with_two made rest ≡ got (command, size) → ReadTwo made rest command size
read_two made [] command size e = absurd (not_refused Short (command, size) e)
read_two made (first ∷ []) command size e =
    elim (cases_Bool (is_data first)) [
      | inl t ↦ absurd (not_refused Short (command, size) (rw t at e))
      | inr f ↦ absurd (not_refused (BadData 1) (command, size) (rw f at e))
    ]
read_two made (first ∷ second ∷ tail) command size e =
    elim (cases_Bool (is_data first)) [
      | inl t ↦ elim (cases_Bool (is_data second)) [
        | inl u ↦
            let p : (made first second, 3) ≡ (command, size) = same_read (made first second, 3) (command, size) (rw (t, u) at e) in
            record { first = first; second = second; tail = tail; rest_is = refl; first_bound = ltb-true first 128 t; second_bound = ltb-true second 128 u; command_is = sym (ap (λ x. x.0) p); size_is = sym (ap (λ x. x.1) p) }
        | inr g ↦ absurd (not_refused (BadData 2) (command, size) (rw (t, g) at e))
      ]
      | inr f ↦ absurd (not_refused (BadData 1) (command, size) (rw f at e))
    ]

split_one : (status value size : ℕ) (rest tail spelled : List ℕ) → rest ≡ value ∷ tail → spelled ≡ status ∷ value ∷ [] → size ≡ 2 → status ∷ rest ≡ spelled ++ drop size (status ∷ rest)
split_one status value size rest tail spelled r s z = rw (s, r, z) refl

split_two : (status first second size : ℕ) (rest tail spelled : List ℕ) → rest ≡ first ∷ second ∷ tail → spelled ≡ status ∷ first ∷ second ∷ [] → size ≡ 3 → status ∷ rest ≡ spelled ++ drop size (status ∷ rest)
split_two status first second size rest tail spelled r s z = rw (s, r, z) refl

begins_one : (made : ℕ → Command) (status : ℕ) (rest : List ℕ) (command : Command) (size : ℕ) →
    ((value : ℕ) → value < 128 → IsCommand (made value)) → ((value : ℕ) → spelling (made value) ≡ status ∷ value ∷ []) →
    with_one made rest ≡ got (command, size) → BeginsWith (status ∷ rest) command size
begins_one made status rest command size is spelled e =
    let r = read_one made rest command size e in
    record {
      bounds = rw r.command_is (is r.value r.bound);
      whole = rw (r.command_is, spelled r.value) r.size_is;
      split = split_one status r.value size rest r.tail (spelling command) r.rest_is (ap spelling r.command_is ∙ spelled r.value) r.size_is;
    }

begins_two : (made : ℕ → ℕ → Command) (status : ℕ) (rest : List ℕ) (command : Command) (size : ℕ) →
    ((first second : ℕ) → first < 128 → second < 128 → IsCommand (made first second)) → ((first second : ℕ) → first < 128 → second < 128 → spelling (made first second) ≡ status ∷ first ∷ second ∷ []) →
    with_two made rest ≡ got (command, size) → BeginsWith (status ∷ rest) command size
begins_two made status rest command size is spelled e =
    let r = read_two made rest command size e in
    let s = spelled r.first r.second r.first_bound r.second_bound in
    record {
      bounds = rw r.command_is (is r.first r.second r.first_bound r.second_bound);
      whole = rw (r.command_is, s) r.size_is;
      split = split_two status r.first r.second size rest r.tail (spelling command) r.rest_is (ap spelling r.command_is ∙ s) r.size_is;
    }

channel_begins : (status : ℕ) (rest : List ℕ) (command : Command) (size : ℕ) → ltb status 128 ≡ false → ltb status 240 ≡ true → channel_read status rest ≡ got (command, size) → BeginsWith (status ∷ rest) command size
channel_begins status rest command size from below e =
    let least : 128 ≤ status = ltb-false status 128 from in
    let most : status < 240 = ltb-true status 240 below in
    elim (cases_Bool (ltb status 144)) [
      | inl t ↦ let m : status < 144 = ltb-true status 144 t in begins_two (NoteOff (status % 16)) status rest command size (λ x y p q. (omega arith, p, q)) (λ x y p q. let s : 128 + status % 16 ≡ status = omega arith in ap (λ k. k ∷ x ∷ y ∷ []) s) (rw (t) at e)
      | inr f0 ↦ elim (cases_Bool (ltb status 160)) [
        | inl t ↦ let l : 144 ≤ status = ltb-false status 144 f0 in let m : status < 160 = ltb-true status 160 t in begins_two (NoteOn (status % 16)) status rest command size (λ x y p q. (omega arith, p, q)) (λ x y p q. let s : 144 + status % 16 ≡ status = omega arith in ap (λ k. k ∷ x ∷ y ∷ []) s) (rw (f0, t) at e)
        | inr f1 ↦ elim (cases_Bool (ltb status 176)) [
          | inl t ↦ let l : 160 ≤ status = ltb-false status 160 f1 in let m : status < 176 = ltb-true status 176 t in begins_two (PolyPressure (status % 16)) status rest command size (λ x y p q. (omega arith, p, q)) (λ x y p q. let s : 160 + status % 16 ≡ status = omega arith in ap (λ k. k ∷ x ∷ y ∷ []) s) (rw (f0, f1, t) at e)
          | inr f2 ↦ elim (cases_Bool (ltb status 192)) [
            | inl t ↦ let l : 176 ≤ status = ltb-false status 176 f2 in let m : status < 192 = ltb-true status 192 t in begins_two (Control (status % 16)) status rest command size (λ x y p q. (omega arith, p, q)) (λ x y p q. let s : 176 + status % 16 ≡ status = omega arith in ap (λ k. k ∷ x ∷ y ∷ []) s) (rw (f0, f1, f2, t) at e)
            | inr f3 ↦ elim (cases_Bool (ltb status 208)) [
              | inl t ↦ let l : 192 ≤ status = ltb-false status 192 f3 in let m : status < 208 = ltb-true status 208 t in begins_one (Program (status % 16)) status rest command size (λ x p. (omega arith, p)) (λ x. let s : 192 + status % 16 ≡ status = omega arith in ap (λ k. k ∷ x ∷ []) s) (rw (f0, f1, f2, f3, t) at e)
              | inr f4 ↦ elim (cases_Bool (ltb status 224)) [
                | inl t ↦ let l : 208 ≤ status = ltb-false status 208 f4 in let m : status < 224 = ltb-true status 224 t in begins_one (Pressure (status % 16)) status rest command size (λ x p. (omega arith, p)) (λ x. let s : 208 + status % 16 ≡ status = omega arith in ap (λ k. k ∷ x ∷ []) s) (rw (f0, f1, f2, f3, f4, t) at e)
                | inr f5 ↦ let l : 224 ≤ status = ltb-false status 224 f5 in begins_two (Wheel (status % 16)) status rest command size (λ x y p q. (omega arith, p, q)) (λ x y p q. let s : 224 + status % 16 ≡ status = omega arith in ap (λ k. k ∷ x ∷ y ∷ []) s) (rw (f0, f1, f2, f3, f4, f5) at e)
              ]
            ]
          ]
        ]
      ]
    ]

split_message : (rest : List ℕ) (n : ℕ) → n < length rest → get_or rest n 0 ≡ 0xf7 → 0xf0 ∷ rest ≡ (0xf0 ∷ (take n rest ++ 0xf7 ∷ [])) ++ drop (n + 2) (0xf0 ∷ rest)
split_message rest n l stop =
    let back : drop n rest ≡ 0xf7 ∷ drop (suc n) rest = drop-cons rest n 0 l ∙ ap (λ k. k ∷ drop (suc n) rest) stop in
    let two : n + 2 ≡ suc (suc n) = omega arith in
    rw two (ap (λ k. 0xf0 ∷ k) (sym (take-append-drop n rest) ∙ ap (λ k. take n rest ++ k) back ∙ sym (append_assoc (take n rest) (0xf7 ∷ []) (drop (suc n) rest))))

begins_message : (rest : List ℕ) (command : Command) (size : ℕ) → message_read rest ≡ got (command, size) → BeginsWith (0xf0 ∷ rest) command size
begins_message rest command size e =
    let n = data_len rest in
    let most : n ≤ length rest = prefix_len-le-length is_data rest in
    elim (cases_Bool (ltb 65536 n)) [
      | inl t ↦ absurd (not_refused TooLong (command, size) (rw t at e))
      | inr few ↦ elim (cases_Bool (eqb n (length rest))) [
        | inl t ↦ absurd (not_refused Short (command, size) (rw (few, t) at e))
        | inr some ↦ elim (cases_Bool (eqb (get_or rest n 0) 0xf7)) [
          | inl stop ↦
              let inside : n < length rest = (let apart : n ≡ length rest → ⊥ = eqb-false n (length rest) some in omega arith) in
              let is_sysex = IsSysex-front rest n refl most (ltb-false 65536 n few) in
              let front = length-take-le n rest most in
              let whole : n + 2 ≡ length (spelling (Sysex (take n rest))) = grind (arith, length-append, add-one) in
              subst (λ (r : Command × ℕ). BeginsWith (0xf0 ∷ rest) r.0 r.1) (same_read (Sysex (take n rest), n + 2) (command, size) (rw (few, some, stop) at e))
              (record { bounds = is_sysex; whole = whole; split = split_message rest n inside (eqb-true (get_or rest n 0) 0xf7 stop) })
          | inr f ↦ absurd (not_refused (BadData (n + 1)) (command, size) (rw (few, some, f) at e))
        ]
      ]
    ]

begins_alone : (made : Command) (status : ℕ) (rest : List ℕ) (command : Command) (size : ℕ) → IsCommand made → spelling made ≡ status ∷ [] → got (made, 1) ≡ got (command, size) → BeginsWith (status ∷ rest) command size
begins_alone made status rest command size is spelled e =
    subst (λ (r : Command × ℕ). BeginsWith (status ∷ rest) r.0 r.1) (same_read (made, 1) (command, size) e)
    (record { bounds = is; whole = rw spelled refl; split = rw spelled refl })

begins_system : (status : ℕ) (rest : List ℕ) (command : Command) (size : ℕ) → system_read status rest ≡ got (command, size) → BeginsWith (status ∷ rest) command size
begins_system status rest command size e =
    elim (cases_Bool (eqb status 241)) [
      | inl t ↦ let is : 241 ≡ status = sym (eqb-true status 241 t) in begins_one QuarterFrame status rest command size (λ x p. p) (λ x. ap (λ k. k ∷ x ∷ []) is) (rw (t) at e)
      | inr f0 ↦ elim (cases_Bool (eqb status 242)) [
        | inl t ↦ let is : 242 ≡ status = sym (eqb-true status 242 t) in begins_two (λ low high. SongPosition (low + 128 * high)) status rest command size (λ x y p q. omega arith) (λ x y p q. let low : (x + 128 * y) % 128 ≡ x = omega arith in let high : (x + 128 * y) / 128 ≡ y = omega arith in rw (low, high) (ap (λ k. k ∷ x ∷ y ∷ []) is)) (rw (f0, t) at e)
        | inr f1 ↦ elim (cases_Bool (eqb status 243)) [
          | inl t ↦ let is : 243 ≡ status = sym (eqb-true status 243 t) in begins_one SongSelect status rest command size (λ x p. p) (λ x. ap (λ k. k ∷ x ∷ []) is) (rw (f0, f1, t) at e)
          | inr f2 ↦ elim (cases_Bool (eqb status 246)) [
            | inl t ↦ let is : 246 ≡ status = sym (eqb-true status 246 t) in begins_alone TuneRequest status rest command size tt (ap (λ k. k ∷ []) is) (rw (f0, f1, f2, t) at e)
            | inr f3 ↦ elim (cases_Bool (eqb status 248)) [
              | inl t ↦ let is : 248 ≡ status = sym (eqb-true status 248 t) in begins_alone Clock status rest command size tt (ap (λ k. k ∷ []) is) (rw (f0, f1, f2, f3, t) at e)
              | inr f4 ↦ elim (cases_Bool (eqb status 250)) [
                | inl t ↦ let is : 250 ≡ status = sym (eqb-true status 250 t) in begins_alone Start status rest command size tt (ap (λ k. k ∷ []) is) (rw (f0, f1, f2, f3, f4, t) at e)
                | inr f5 ↦ elim (cases_Bool (eqb status 251)) [
                  | inl t ↦ let is : 251 ≡ status = sym (eqb-true status 251 t) in begins_alone Continue status rest command size tt (ap (λ k. k ∷ []) is) (rw (f0, f1, f2, f3, f4, f5, t) at e)
                  | inr f6 ↦ elim (cases_Bool (eqb status 252)) [
                    | inl t ↦ let is : 252 ≡ status = sym (eqb-true status 252 t) in begins_alone Stop status rest command size tt (ap (λ k. k ∷ []) is) (rw (f0, f1, f2, f3, f4, f5, f6, t) at e)
                    | inr f7 ↦ elim (cases_Bool (eqb status 254)) [
                      | inl t ↦ let is : 254 ≡ status = sym (eqb-true status 254 t) in begins_alone ActiveSensing status rest command size tt (ap (λ k. k ∷ []) is) (rw (f0, f1, f2, f3, f4, f5, f6, f7, t) at e)
                      | inr f8 ↦ elim (cases_Bool (eqb status 255)) [
                        | inl t ↦ let is : 255 ≡ status = sym (eqb-true status 255 t) in begins_alone SystemReset status rest command size tt (ap (λ k. k ∷ []) is) (rw (f0, f1, f2, f3, f4, f5, f6, f7, f8, t) at e)
                        | inr f9 ↦ absurd (not_refused (BadStatus status) (command, size) (rw (f0, f1, f2, f3, f4, f5, f6, f7, f8, f9) at e))
                      ]
                    ]
                  ]
                ]
              ]
            ]
          ]
        ]
      ]
    ]

-- What is read is spelled at the front.
pub BeginsWith-command_read : (octets : List ℕ) (command : Command) (size : ℕ) → command_read octets ≡ got (command, size) → BeginsWith octets command size
unfolding command_read after_status
BeginsWith-command_read [] command size e = absurd (not_refused Empty (command, size) e)
BeginsWith-command_read (status ∷ rest) command size e =
    elim (cases_Bool (ltb status 128)) [
      | inl t ↦ absurd (not_refused DataOctet (command, size) (rw t at e))
      | inr from ↦ elim (cases_Bool (ltb status 240)) [
        | inl t ↦ channel_begins status rest command size from t (rw (from, t) at e)
        | inr f ↦ elim (cases_Bool (eqb status 240)) [
          | inl t ↦
              subst (λ (s : ℕ). BeginsWith (s ∷ rest) command size) (sym (eqb-true status 240 t)) (begins_message rest command size (rw (from, f, t) at e))
          | inr g ↦ begins_system status rest command size (rw (from, f, g) at e)
        ]
      ]
    ]
