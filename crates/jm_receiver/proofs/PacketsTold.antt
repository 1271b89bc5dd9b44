-- What a receiver hears of a packet tells a listener selections and parameters.
use Rattle.std.proofs.Common.{◌≡◌, ℕ, ◌+◌, ◌-◌, ◌%◌, ◌^◌, ◌<◌, ◌≤◌, eqb, List, [], ◌∷◌, ◌++◌, Option, Some, None, fold, refl, sym, ap, subst, ◌∙◌, inl, inr, arith}
use Rattle.std.specs.Prelude.{Result, Ok}
use Rattle.std.specs.List.{cons_option}
use Rattle.std.proofs.lemmas.Bool.{cases_Bool, eqb-true}
use Rattle.std.proofs.lemmas.Bool.Decides.{nat_tests}
use Rattle.std.proofs.lemmas.List.Sums.{fold-append}
use Rattle.jm_cmds.specs.declared.commands.Command.{Command}
use Rattle.jm_cmds.specs.declared.history.Sent.{Sent}
use Rattle.jm_cmds.specs.declared.selection.Selection.{Selection}
use Rattle.jm_cmds.specs.History.{below, InOrder}
use Rattle.jm_cmds.specs.Selection.{param_command}
use Rattle.jm_cmds.specs.Sent.{packet_of}
use Rattle.jm_section.specs.declared.item.Item.{Item}
use Rattle.ch_sysex.specs.ChapterX.{sysex_logs}
use Rattle.jm_state.specs.declared.state.State.{State}
use Rattle.jm_state.specs.Apply.{applied}
use Rattle.jm_state.specs.Kept.{IsState}
use Rattle.jm_state.specs.KeptLaws.{state_after_is}
use Rattle.jm_state.specs.PartLaws.{by_part}
use Rattle.jm_state.specs.Parts.{selection_of}
use Rattle.jm_state.specs.ReplayLaws.{state_behind}
use Rattle.jm_state.specs.Says.{selection_behind}
use Rattle.jm_reader.specs.Written.{AreCommands}
use Rattle.jm_reader.specs.WrittenJournal.{journal_logs}
use Rattle.jm_receiver.specs.declared.heard.Heard.{Heard}
use Rattle.jm_receiver.specs.declared.heard.Hearing.{Hearing}
use Rattle.jm_receiver.specs.declared.opening.AcceptFault.{AcceptFault}
use Rattle.jm_receiver.specs.declared.place.Placed.{Placed}
use Rattle.jm_receiver.specs.declared.place.Uses.TheVariants.{All}
use Rattle.jm_receiver.specs.declared.receiver.Took.{Took}
use Rattle.jm_receiver.specs.Accept.{Contents, opened, placed, used_after, repaired_using, kept_over, heard_in, took_at, accepted}
use Rattle.jm_receiver.specs.Agreement.{few_of, Agrees, states_repaired}
use Rattle.jm_receiver.specs.FreshLogs.{fresh_of}
use Rattle.jm_receiver.specs.HandedOn.{repair_handed_on}
use Rattle.jm_receiver.specs.Heard.{left_unfinished, command_said, commands_said, heard_if, sent_also, sent_all}
use Rattle.jm_receiver.specs.HeardLaw.{listening}
use Rattle.jm_receiver.specs.InStep.{first_lacking, CanTell, IsLongBegun, HoldsCommands}
use Rattle.jm_receiver.specs.KeptAgreement.{commands_agree, param_along}
use Rattle.jm_receiver.specs.Listened.{listened}
use Rattle.jm_receiver.specs.Needless.{none_handed_on}
use Rattle.jm_receiver.specs.PacketsTell.{TellsParams, PacketsTellParams}
use Rattle.jm_receiver.specs.Receiver.{Received}
use Rattle.jm_receiver.specs.Repair.{repaired}
use Rattle.jm_receiver.specs.SectionLaws.{items_state, kept_long, own_state, none_repaired, ahead_placed}
use Rattle.jm_receiver.specs.Whole.{IsWhole, applied_whole, used_whole, ok_value}
use Rattle.jm_receiver.proofs.InStepLaws.{used_agree}
use Rattle.jm_receiver.proofs.ParamsTold.{parameters_heard}
use Rattle.jm_receiver.proofs.SelectionsTold.{selections_heard}

-- ## The commands of a section

said_listened : (s : State) (h : Hearing) (said : Option Command) (others : List Command) → fold applied (listened s (heard_if h said).heard) others ≡ fold applied (listened s h.heard) (cons_option said others)
said_listened s h None others = refl
said_listened s h (Some command) others = ap (λ (t : State). fold applied t others) (fold-append (λ (t : State) (one : Heard). applied t one.command) s h.heard _)

items_listened : (s : State) (h : Hearing) (items : List Item) → listened s (fold sent_also h items).heard ≡ fold applied (listened s h.heard) (commands_said h.unfinished items)
items_listened s h [] = refl
items_listened s h (item ∷ items) =
    items_listened s (sent_also h item) items
    ∙ said_listened s (record h { tick = (h.tick + item.delta) % 2 ^ 32 }) (command_said h.unfinished item.what) (commands_said (left_unfinished h.unfinished item.what) items)

selection_along : (channel : ℕ) → channel < 16 → (t u : State) (own : List Sent) → IsState t → IsState u → selection_of t channel ≡ selection_of u channel → selection_of (state_behind t own) channel ≡ selection_of (state_behind u own) channel
selection_along channel l t u [] is w e = e
selection_along channel l t u (x ∷ own) is w e =
    selection_along channel l (applied t x.command) (applied u x.command) own (state_after_is t x.command is) (state_after_is u x.command w)
    ((by_part t x.command is).selection channel l
    ∙ ap (λ (s : Option Selection). selection_behind s (param_command channel x.command)) e
    ∙ sym ((by_part u x.command w).selection channel l))

heard_whole : (s : State) (heard : List Heard) → IsWhole s → IsWhole (listened s heard)
heard_whole s [] is = is
heard_whole s (one ∷ heard) is = heard_whole (applied s one.command) heard (applied_whole s one.command is)

-- Two states that have the same selections and parameters have so behind the same commands, where one agrees with the session.
tells_along : (t u : State) (before own : List Sent) → IsWhole t → IsWhole u → Agrees u before → TellsParams u t before → TellsParams (state_behind u own) (state_behind t own) (before ++ own)
tells_along t u before own is w agrees told = record {
  selection = λ channel l. selection_along channel l t u own is.state w.state (told.selection channel l);
  param = λ channel nrpn high low l open_too.
      let few = few_of channel (before ++ own) open_too in
      let after = commands_agree before own u w agrees in
      param_along channel l before own t is
      (told.selection channel l ∙ agrees.selection channel l refl)
      (λ nrpn high low some. told.param channel nrpn high low l some ∙ agrees.param channel nrpn high low l some) few nrpn high low
      ∙ sym (after.param channel nrpn high low l open_too);
}

-- ## The logs that are used

used_tell : (checkpoint next gap tick time : ℕ) (sent : List Sent) (s : State) → AreCommands sent → InOrder packet_of sent → sysex_logs checkpoint (below packet_of (next + gap) sent) ≤ 128 → checkpoint ≤ next → IsWhole s → Agrees s (below packet_of next sent) →
    TellsParams (repaired_using (used_after gap) (journal_logs checkpoint (next + gap) tick sent) (listening s time)).state (listened s (repaired_using (used_after gap) (journal_logs checkpoint (next + gap) tick sent) (listening s time)).heard) (below packet_of (next + gap) sent)
used_tell checkpoint next gap tick time sent s commands o messages early is agrees =
    elim (cases_Bool (eqb gap 0)) [
      | inl t ↦ rw t (record { selection = λ channel l. refl; param = λ channel nrpn high low l some. refl })
      | inr f ↦ elim (cases_Bool (eqb gap 1)) [
        | inl u ↦
            let one : gap ≡ 1 = eqb-true gap 1 u in
            let few : sysex_logs checkpoint (below packet_of (next + 1) sent) ≤ 128 = rw one at messages in
            rw (f, u)
            (subst (λ n. TellsParams (repaired s (fresh_of (journal_logs checkpoint (next + n) tick sent))) (listened s (repair_handed_on (fresh_of (journal_logs checkpoint (next + n) tick sent)) (repaired s (fresh_of (journal_logs checkpoint (next + n) tick sent))) (listening s time)).heard) (below packet_of (next + n) sent)) (sym one)
            (record {
              selection = selections_heard.by_fresh checkpoint next tick time sent s commands o few early is agrees;
              param = parameters_heard.by_fresh checkpoint next tick time sent s o early is agrees;
            }))
        | inr g ↦ rw (f, g) (record {
          selection = selections_heard.by_all checkpoint next (next + gap) tick time sent s commands o messages early (omega arith) is agrees;
          param = parameters_heard.by_all checkpoint next (next + gap) tick time sent s o early (omega arith) is agrees;
        })
      ]
    ]

-- ## The packet

placed_tells : (r : Received) (octets : List ℕ) (c : Contents) (place : Placed) (before own : List Sent) (after : Received) (took : Took) → opened r.ssrc octets ≡ Ok c → HoldsCommands own c.items → placed r.last c.number ≡ Ok place → IsWhole r.state → IsLongBegun r.unfinished → accepted r octets ≡ Ok (after, took) →
    Agrees (repaired_using place.uses c.logs (listening r.state c.tick)).state before →
    TellsParams (repaired_using place.uses c.logs (listening r.state c.tick)).state (listened r.state (repaired_using place.uses c.logs (listening r.state c.tick)).heard) before → TellsParams after.state (listened r.state took.heard) (before ++ own)
unfolding accepted sent_all
placed_tells r octets c place before own after took read holds found is long e agrees told =
    let unfinished = kept_over place.gap r.unfinished in
    let g : Hearing = record (repaired_using place.uses c.logs (listening r.state c.tick)) { unfinished = unfinished } in
    let h = fold sent_also g c.items in
    let mine : Received × Took = took_at place (heard_in r c place) r in
    let kept = kept_long place.gap r.unfinished long in
    let taken : ◌≡◌ {A = Result (Received × Took) AcceptFault} (Ok mine) (Ok (after, took)) = rw (read, found) at e in
    let same : mine ≡ (after, took) = ok_value mine (after, took) taken in
    let state : h.state ≡ state_behind g.state own = items_state g c.items ∙ own_state g.state unfinished own c.items kept holds in
    let listener : listened r.state h.heard ≡ state_behind (listened r.state g.heard) own = items_listened r.state g c.items ∙ own_state (listened r.state g.heard) unfinished own c.items kept holds in
    let along = tells_along (listened r.state g.heard) g.state before own (heard_whole r.state g.heard is) (used_whole place.uses c.logs (listening r.state c.tick) is) agrees told in
    let all : TellsParams h.state (listened r.state h.heard) (before ++ own) =
    subst (λ (t : State). TellsParams t (listened r.state h.heard) (before ++ own)) (sym state) (subst (λ (t : State). TellsParams (state_behind g.state own) t (before ++ own)) (sym listener) along) in
    subst (λ (p : Received × Took). TellsParams p.0.state (listened r.state p.1.heard) (before ++ own)) same all

pub packets_tell_params : PacketsTellParams
packets_tell_params r octets c checkpoint packet tick sent own after took read stands commands o messages early tells is long agrees e = by_last r.last refl early tells agrees
  where
    by_last : (last : Option ℕ) → r.last ≡ last → checkpoint ≤ first_lacking last → CanTell last packet → Agrees r.state (below packet_of (first_lacking last) sent) → TellsParams after.state (listened r.state took.heard) (below packet_of packet sent ++ own)
    by_last None none early tells agrees =
        let number : c.number ≡ packet = stands.number ∙ omega (arith, tells) in
        let place : Placed = record { number = c.number; gap = 0; uses = All } in
        elim (cases_Bool (eqb packet 0)) [
          | inl t ↦
              let here : packet ≡ 0 = eqb-true packet 0 t in
              placed_tells r octets c place (below packet_of packet sent) own after took read stands.commands (rw none refl) is.whole long e
              (rw (stands.first here, none_repaired r.state) (subst (λ n. Agrees r.state (below packet_of n sent)) (sym here) agrees))
              (rw (stands.first here, none_repaired r.state, none_handed_on r.state (listening r.state c.tick)) (record { selection = λ channel l. refl; param = λ channel nrpn high low l some. refl }))
          | inr f ↦
              let some : 1 ≤ packet = grind (arith, nat_tests, f) in
              placed_tells r octets c place (below packet_of packet sent) own after took read stands.commands (rw none refl) is.whole long e
              (rw (stands.later some) (states_repaired checkpoint 0 packet tick sent r.state commands o messages early (omega arith) is.whole agrees))
              (rw (stands.later some) (record {
                selection = selections_heard.by_all checkpoint 0 packet tick c.tick sent r.state commands o messages early (omega arith) is.whole agrees;
                param = parameters_heard.by_all checkpoint 0 packet tick c.tick sent r.state o early (omega arith) is.whole agrees;
              }))
        ]
    by_last (Some last) some early tells agrees =
        let gap = packet - (last + 1) in
        let same : last + 1 + gap ≡ packet = (let l = tells.later in omega (arith, l)) in
        let few : sysex_logs checkpoint (below packet_of (last + 1 + gap) sent) ≤ 128 = subst (λ n. sysex_logs checkpoint (below packet_of n sent) ≤ 128) (sym same) messages in
        let found : placed (Some last) ((last + 1 + gap) % 65536) ≡ Ok (record { number = last + 1 + gap; gap = gap; uses = used_after gap }) =
        ahead_placed last gap (let l = tells.later in let n = tells.near in omega (arith, l, n)) (let m = tells.small in omega (arith, same, m)) in
        let later : 1 ≤ packet = (let l = tells.later in omega (arith, l)) in
        placed_tells r octets c (record { number = last + 1 + gap; gap = gap; uses = used_after gap }) (below packet_of packet sent) own after took read stands.commands
        (rw (some, stands.number) (subst (λ n. placed (Some last) (n % 65536) ≡ Ok (record { number = last + 1 + gap; gap = gap; uses = used_after gap })) same found)) is.whole long e
        (rw (stands.later later)
        (subst (λ n. Agrees (repaired_using (used_after gap) (journal_logs checkpoint n tick sent) (listening r.state c.tick)).state (below packet_of n sent)) same
        (used_agree checkpoint (last + 1) gap tick sent (listening r.state c.tick) commands o few early is.whole agrees)))
        (rw (stands.later later)
        (subst (λ n. TellsParams (repaired_using (used_after gap) (journal_logs checkpoint n tick sent) (listening r.state c.tick)).state (listened r.state (repaired_using (used_after gap) (journal_logs checkpoint n tick sent) (listening r.state c.tick)).heard) (below packet_of n sent)) same
        (used_tell checkpoint (last + 1) gap tick c.tick sent r.state commands o few early is.whole agrees)))
