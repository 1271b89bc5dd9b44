-- What a bit header packs is read back.
use Rattle.std.proofs.Common.{◌≡◌, ℕ, ◌+◌, ◌*◌, ◌/◌, ◌%◌, ◌<◌, Bool, true, false, eqb, refl, arith}
use Rattle.jm_wire.specs.declared.heads.JournalHead.{JournalHead}
use Rattle.jm_wire.specs.declared.heads.SystemHead.{SystemHead}
use Rattle.jm_wire.specs.declared.heads.ChannelHead.{ChannelHead}
use Rattle.jm_wire.specs.declared.heads.ParamHead.{ParamHead}
use Rattle.jm_wire.specs.declared.heads.NoteHead.{NoteHead}
use Rattle.jm_wire.specs.declared.heads.SeqHead.{SeqHead}
use Rattle.jm_wire.specs.declared.heads.TimeHead.{TimeHead}
use Rattle.jm_wire.specs.Heads.{bit, HeadsReadBack, FitsJournal, FitsSystem, FitsChannel, FitsParam, FitsNote, FitsSeq, FitsTime, journal_octets, system_octets, channel_octets, param_octets, note_octets, seq_octets, time_octets, journal_fields, system_fields, channel_fields, param_fields, note_fields, seq_fields, time_fields}

bit-small : (b : Bool) → bit b < 2
bit-small true = omega arith
bit-small false = omega arith

told : (b : Bool) (n : ℕ) → n ≡ bit b → eqb n 1 ≡ b
told true n e = rw e refl
told false n e = rw e refl

pub journal_back : (head : JournalHead) → FitsJournal head → journal_fields (journal_octets head) ≡ head
journal_back head f =
    let small_s = bit-small head.s in
    let small_y = bit-small head.y in
    let small_a = bit-small head.a in
    let small_h = bit-small head.h in
    let is_s = told head.s ((128 * bit head.s + 64 * bit head.y + 32 * bit head.a + 16 * bit head.h + head.totchan) / 128 % 2) (omega (arith, f, small_s, small_y, small_a, small_h)) in
    let is_y = told head.y ((128 * bit head.s + 64 * bit head.y + 32 * bit head.a + 16 * bit head.h + head.totchan) / 64 % 2) (omega (arith, f, small_s, small_y, small_a, small_h)) in
    let is_a = told head.a ((128 * bit head.s + 64 * bit head.y + 32 * bit head.a + 16 * bit head.h + head.totchan) / 32 % 2) (omega (arith, f, small_s, small_y, small_a, small_h)) in
    let is_h = told head.h ((128 * bit head.s + 64 * bit head.y + 32 * bit head.a + 16 * bit head.h + head.totchan) / 16 % 2) (omega (arith, f, small_s, small_y, small_a, small_h)) in
    let is_totchan : (128 * bit head.s + 64 * bit head.y + 32 * bit head.a + 16 * bit head.h + head.totchan) % 16 ≡ head.totchan = omega (arith, f, small_s, small_y, small_a, small_h) in
    let is_checkpoint : (head.checkpoint / 256) * 256 + (head.checkpoint % 256) ≡ head.checkpoint = omega (arith, f) in
    rw (is_s, is_y, is_a, is_h, is_totchan, is_checkpoint) refl

pub system_back : (head : SystemHead) → FitsSystem head → system_fields (system_octets head) ≡ head
system_back head f =
    let small_s = bit-small head.s in
    let small_d = bit-small head.d in
    let small_v = bit-small head.v in
    let small_q = bit-small head.q in
    let small_f = bit-small head.f in
    let small_x = bit-small head.x in
    let is_s = told head.s ((128 * bit head.s + 64 * bit head.d + 32 * bit head.v + 16 * bit head.q + 8 * bit head.f + 4 * bit head.x + head.length / 256) / 128 % 2) (omega (arith, f, small_s, small_d, small_v, small_q, small_f, small_x)) in
    let is_d = told head.d ((128 * bit head.s + 64 * bit head.d + 32 * bit head.v + 16 * bit head.q + 8 * bit head.f + 4 * bit head.x + head.length / 256) / 64 % 2) (omega (arith, f, small_s, small_d, small_v, small_q, small_f, small_x)) in
    let is_v = told head.v ((128 * bit head.s + 64 * bit head.d + 32 * bit head.v + 16 * bit head.q + 8 * bit head.f + 4 * bit head.x + head.length / 256) / 32 % 2) (omega (arith, f, small_s, small_d, small_v, small_q, small_f, small_x)) in
    let is_q = told head.q ((128 * bit head.s + 64 * bit head.d + 32 * bit head.v + 16 * bit head.q + 8 * bit head.f + 4 * bit head.x + head.length / 256) / 16 % 2) (omega (arith, f, small_s, small_d, small_v, small_q, small_f, small_x)) in
    let is_f = told head.f ((128 * bit head.s + 64 * bit head.d + 32 * bit head.v + 16 * bit head.q + 8 * bit head.f + 4 * bit head.x + head.length / 256) / 8 % 2) (omega (arith, f, small_s, small_d, small_v, small_q, small_f, small_x)) in
    let is_x = told head.x ((128 * bit head.s + 64 * bit head.d + 32 * bit head.v + 16 * bit head.q + 8 * bit head.f + 4 * bit head.x + head.length / 256) / 4 % 2) (omega (arith, f, small_s, small_d, small_v, small_q, small_f, small_x)) in
    let is_length : (128 * bit head.s + 64 * bit head.d + 32 * bit head.v + 16 * bit head.q + 8 * bit head.f + 4 * bit head.x + head.length / 256) % 4 * 256 + (head.length % 256) ≡ head.length = omega (arith, f, small_s, small_d, small_v, small_q, small_f, small_x) in
    rw (is_s, is_d, is_v, is_q, is_f, is_x, is_length) refl

pub channel_back : (head : ChannelHead) → FitsChannel head → channel_fields (channel_octets head) ≡ head
channel_back head f =
    let small_s = bit-small head.s in
    let small_h = bit-small head.h in
    let small_p = bit-small head.p in
    let small_c = bit-small head.c in
    let small_m = bit-small head.m in
    let small_w = bit-small head.w in
    let small_n = bit-small head.n in
    let small_e = bit-small head.e in
    let small_t = bit-small head.t in
    let small_a = bit-small head.a in
    let is_s = told head.s ((128 * bit head.s + 8 * head.chan + 4 * bit head.h + head.length / 256) / 128 % 2) (omega (arith, f.0, f.1, small_s, small_h)) in
    let is_h = told head.h ((128 * bit head.s + 8 * head.chan + 4 * bit head.h + head.length / 256) / 4 % 2) (omega (arith, f.0, f.1, small_s, small_h)) in
    let is_p = told head.p ((128 * bit head.p + 64 * bit head.c + 32 * bit head.m + 16 * bit head.w + 8 * bit head.n + 4 * bit head.e + 2 * bit head.t + bit head.a) / 128 % 2) (omega (arith, f.0, f.1, small_p, small_c, small_m, small_w, small_n, small_e, small_t, small_a)) in
    let is_c = told head.c ((128 * bit head.p + 64 * bit head.c + 32 * bit head.m + 16 * bit head.w + 8 * bit head.n + 4 * bit head.e + 2 * bit head.t + bit head.a) / 64 % 2) (omega (arith, f.0, f.1, small_p, small_c, small_m, small_w, small_n, small_e, small_t, small_a)) in
    let is_m = told head.m ((128 * bit head.p + 64 * bit head.c + 32 * bit head.m + 16 * bit head.w + 8 * bit head.n + 4 * bit head.e + 2 * bit head.t + bit head.a) / 32 % 2) (omega (arith, f.0, f.1, small_p, small_c, small_m, small_w, small_n, small_e, small_t, small_a)) in
    let is_w = told head.w ((128 * bit head.p + 64 * bit head.c + 32 * bit head.m + 16 * bit head.w + 8 * bit head.n + 4 * bit head.e + 2 * bit head.t + bit head.a) / 16 % 2) (omega (arith, f.0, f.1, small_p, small_c, small_m, small_w, small_n, small_e, small_t, small_a)) in
    let is_n = told head.n ((128 * bit head.p + 64 * bit head.c + 32 * bit head.m + 16 * bit head.w + 8 * bit head.n + 4 * bit head.e + 2 * bit head.t + bit head.a) / 8 % 2) (omega (arith, f.0, f.1, small_p, small_c, small_m, small_w, small_n, small_e, small_t, small_a)) in
    let is_e = told head.e ((128 * bit head.p + 64 * bit head.c + 32 * bit head.m + 16 * bit head.w + 8 * bit head.n + 4 * bit head.e + 2 * bit head.t + bit head.a) / 4 % 2) (omega (arith, f.0, f.1, small_p, small_c, small_m, small_w, small_n, small_e, small_t, small_a)) in
    let is_t = told head.t ((128 * bit head.p + 64 * bit head.c + 32 * bit head.m + 16 * bit head.w + 8 * bit head.n + 4 * bit head.e + 2 * bit head.t + bit head.a) / 2 % 2) (omega (arith, f.0, f.1, small_p, small_c, small_m, small_w, small_n, small_e, small_t, small_a)) in
    let is_a = told head.a ((128 * bit head.p + 64 * bit head.c + 32 * bit head.m + 16 * bit head.w + 8 * bit head.n + 4 * bit head.e + 2 * bit head.t + bit head.a) / 1 % 2) (omega (arith, f.0, f.1, small_p, small_c, small_m, small_w, small_n, small_e, small_t, small_a)) in
    let is_chan : (128 * bit head.s + 8 * head.chan + 4 * bit head.h + head.length / 256) / 8 % 16 ≡ head.chan = omega (arith, f.0, f.1, small_s, small_h) in
    let is_length : (128 * bit head.s + 8 * head.chan + 4 * bit head.h + head.length / 256) % 4 * 256 + (head.length % 256) ≡ head.length = omega (arith, f.0, f.1, small_s, small_h) in
    rw (is_s, is_h, is_p, is_c, is_m, is_w, is_n, is_e, is_t, is_a, is_chan, is_length) refl

pub param_back : (head : ParamHead) → FitsParam head → param_fields (param_octets head) ≡ head
param_back head f =
    let small_s = bit-small head.s in
    let small_p = bit-small head.p in
    let small_e = bit-small head.e in
    let small_u = bit-small head.u in
    let small_w = bit-small head.w in
    let small_z = bit-small head.z in
    let is_s = told head.s ((128 * bit head.s + 64 * bit head.p + 32 * bit head.e + 16 * bit head.u + 8 * bit head.w + 4 * bit head.z + head.length / 256) / 128 % 2) (omega (arith, f, small_s, small_p, small_e, small_u, small_w, small_z)) in
    let is_p = told head.p ((128 * bit head.s + 64 * bit head.p + 32 * bit head.e + 16 * bit head.u + 8 * bit head.w + 4 * bit head.z + head.length / 256) / 64 % 2) (omega (arith, f, small_s, small_p, small_e, small_u, small_w, small_z)) in
    let is_e = told head.e ((128 * bit head.s + 64 * bit head.p + 32 * bit head.e + 16 * bit head.u + 8 * bit head.w + 4 * bit head.z + head.length / 256) / 32 % 2) (omega (arith, f, small_s, small_p, small_e, small_u, small_w, small_z)) in
    let is_u = told head.u ((128 * bit head.s + 64 * bit head.p + 32 * bit head.e + 16 * bit head.u + 8 * bit head.w + 4 * bit head.z + head.length / 256) / 16 % 2) (omega (arith, f, small_s, small_p, small_e, small_u, small_w, small_z)) in
    let is_w = told head.w ((128 * bit head.s + 64 * bit head.p + 32 * bit head.e + 16 * bit head.u + 8 * bit head.w + 4 * bit head.z + head.length / 256) / 8 % 2) (omega (arith, f, small_s, small_p, small_e, small_u, small_w, small_z)) in
    let is_z = told head.z ((128 * bit head.s + 64 * bit head.p + 32 * bit head.e + 16 * bit head.u + 8 * bit head.w + 4 * bit head.z + head.length / 256) / 4 % 2) (omega (arith, f, small_s, small_p, small_e, small_u, small_w, small_z)) in
    let is_length : (128 * bit head.s + 64 * bit head.p + 32 * bit head.e + 16 * bit head.u + 8 * bit head.w + 4 * bit head.z + head.length / 256) % 4 * 256 + (head.length % 256) ≡ head.length = omega (arith, f, small_s, small_p, small_e, small_u, small_w, small_z) in
    rw (is_s, is_p, is_e, is_u, is_w, is_z, is_length) refl

pub note_back : (head : NoteHead) → FitsNote head → note_fields (note_octets head) ≡ head
note_back head f =
    let small_b = bit-small head.b in
    let is_b = told head.b ((128 * bit head.b + head.len) / 128 % 2) (omega (arith, f.0, f.1, small_b)) in
    let is_len : (128 * bit head.b + head.len) % 128 ≡ head.len = omega (arith, f.0, f.1, small_b) in
    let is_low : (16 * head.low + head.high) / 16 ≡ head.low = omega (arith, f.0, f.1) in
    let is_high : (16 * head.low + head.high) % 16 ≡ head.high = omega (arith, f.0, f.1) in
    rw (is_b, is_len, is_low, is_high) refl

pub seq_back : (head : SeqHead) → FitsSeq head → seq_fields (seq_octets head) ≡ head
seq_back head f =
    let small_s = bit-small head.s in
    let small_n = bit-small head.n in
    let small_d = bit-small head.d in
    let small_c = bit-small head.c in
    let small_t = bit-small head.t in
    let is_s = told head.s ((128 * bit head.s + 64 * bit head.n + 32 * bit head.d + 16 * bit head.c + 8 * bit head.t + head.top) / 128 % 2) (omega (arith, f, small_s, small_n, small_d, small_c, small_t)) in
    let is_n = told head.n ((128 * bit head.s + 64 * bit head.n + 32 * bit head.d + 16 * bit head.c + 8 * bit head.t + head.top) / 64 % 2) (omega (arith, f, small_s, small_n, small_d, small_c, small_t)) in
    let is_d = told head.d ((128 * bit head.s + 64 * bit head.n + 32 * bit head.d + 16 * bit head.c + 8 * bit head.t + head.top) / 32 % 2) (omega (arith, f, small_s, small_n, small_d, small_c, small_t)) in
    let is_c = told head.c ((128 * bit head.s + 64 * bit head.n + 32 * bit head.d + 16 * bit head.c + 8 * bit head.t + head.top) / 16 % 2) (omega (arith, f, small_s, small_n, small_d, small_c, small_t)) in
    let is_t = told head.t ((128 * bit head.s + 64 * bit head.n + 32 * bit head.d + 16 * bit head.c + 8 * bit head.t + head.top) / 8 % 2) (omega (arith, f, small_s, small_n, small_d, small_c, small_t)) in
    let is_top : (128 * bit head.s + 64 * bit head.n + 32 * bit head.d + 16 * bit head.c + 8 * bit head.t + head.top) % 8 ≡ head.top = omega (arith, f, small_s, small_n, small_d, small_c, small_t) in
    rw (is_s, is_n, is_d, is_c, is_t, is_top) refl

pub time_back : (head : TimeHead) → FitsTime head → time_fields (time_octets head) ≡ head
time_back head f =
    let small_s = bit-small head.s in
    let small_c = bit-small head.c in
    let small_p = bit-small head.p in
    let small_q = bit-small head.q in
    let small_d = bit-small head.d in
    let is_s = told head.s ((128 * bit head.s + 64 * bit head.c + 32 * bit head.p + 16 * bit head.q + 8 * bit head.d + head.point) / 128 % 2) (omega (arith, f, small_s, small_c, small_p, small_q, small_d)) in
    let is_c = told head.c ((128 * bit head.s + 64 * bit head.c + 32 * bit head.p + 16 * bit head.q + 8 * bit head.d + head.point) / 64 % 2) (omega (arith, f, small_s, small_c, small_p, small_q, small_d)) in
    let is_p = told head.p ((128 * bit head.s + 64 * bit head.c + 32 * bit head.p + 16 * bit head.q + 8 * bit head.d + head.point) / 32 % 2) (omega (arith, f, small_s, small_c, small_p, small_q, small_d)) in
    let is_q = told head.q ((128 * bit head.s + 64 * bit head.c + 32 * bit head.p + 16 * bit head.q + 8 * bit head.d + head.point) / 16 % 2) (omega (arith, f, small_s, small_c, small_p, small_q, small_d)) in
    let is_d = told head.d ((128 * bit head.s + 64 * bit head.c + 32 * bit head.p + 16 * bit head.q + 8 * bit head.d + head.point) / 8 % 2) (omega (arith, f, small_s, small_c, small_p, small_q, small_d)) in
    let is_point : (128 * bit head.s + 64 * bit head.c + 32 * bit head.p + 16 * bit head.q + 8 * bit head.d + head.point) % 8 ≡ head.point = omega (arith, f, small_s, small_c, small_p, small_q, small_d) in
    rw (is_s, is_c, is_p, is_q, is_d, is_point) refl

pub heads_back : HeadsReadBack
heads_back = record {
  journal = journal_back;
  system = system_back;
  channel = channel_back;
  param = param_back;
  note = note_back;
  seq = seq_back;
  time = time_back;
}
