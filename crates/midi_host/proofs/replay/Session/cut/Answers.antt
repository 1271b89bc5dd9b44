use Rattle.std.proofs.Common.{◌≡◌, refl, ℕ, List, IsTrue}
use Rattle.jm_book.specs.declared.answers.Cutted.{Cutted}
use Rattle.jm_book.specs.declared.answers.Cutted.TheVariants.{Packet, RecordFull, Behind}
use Rattle.jm_book.specs.Answers.{is_packet}
use Rattle.jm_book.specs.BookAnswers.{cut_answer}
use Rattle.jm_book.specs.Packet.{packet_of}
use Rattle.jm_book.specs.Session.{session_of}
use Rattle.jm_script.specs.AnswerText.{answer_text}
use Rattle.midi_host.specs.SessionAnswers.{cutted_line}
use Rattle.midi_host.proofs.replay.Session.cut.Goals as goal

-- the octets count only where there is a packet
cutted_line-same : (answer : Cutted) (octets packet : List ℕ) → (IsTrue (is_packet answer) → octets ≡ packet) → cutted_line answer octets ≡ cutted_line answer packet
cutted_line-same (Packet number) octets packet same = rw (same refl) refl
cutted_line-same (RecordFull events) octets packet same = refl
cutted_line-same (Behind ssrc mark) octets packet same = refl

pub returns : goal.returns
returns c =
    let book = c.args.self.now.book in
    let answer = cut_answer book.config book.steps in
    let packet = packet_of (session_of book.config book.steps) c.args.tick in
    let answer_is : c.cut-answer.result ≡ answer = rw (c.in_ok-reserve.ensures.config, c.in_ok-reserve.ensures.steps) at c.cut-answer.ensures.answer in
    let there : IsTrue (is_packet c.cut-answer.result) → c.cut-answer.new.self ≡ packet = rw (c.in_ok-reserve.ensures.config, c.in_ok-reserve.ensures.steps) at c.cut-answer.ensures.packet in
    record {
      text = answer_text (cutted_line answer packet);
      lined_is = rw (c.cut-answer.ensures.taken.config, c.cut-answer.ensures.taken.steps, c.in_ok-reserve.ensures.config, c.in_ok-reserve.ensures.steps, answer_is) refl;
      out_is = rw (← answer_is, ← cutted_line-same c.cut-answer.result c.cut-answer.new.self packet there, ← c.as_slice.ensures, ← c.in_ok-cutted_line.ensures) c.in_ok-add.ensures;
    }
