use Rattle.std.proofs.Common.{◌≡◌, rules, List, ◌∷◌, [], ◌++◌, ap, ◌∙◌}
use Rattle.std.specs.Prelude.{filter}
use Rattle.std.proofs.lemmas.Fn.{filter_same}
use Rattle.jm_receiver.specs.Receiver.{Received}
use Rattle.jm_serve.specs.declared.receivers.Slot.{Slot}
use Rattle.jm_serve.specs.Receivers.{is_other}
use Rattle.jm_serve.proofs.receivers.Receivers.welcome.Goals as goal

pub returns-clause-joined : goal.returns-clause-joined
returns-clause-joined c =
    let others = is_other c.args.player c.args.ssrc in
    let kept : c.retain.new.self.items ≡ filter others c.reserve.new.self.items = filter_same _ others _ (λ x b f' k. search rules) _ _ c.retain.ensures.filtered in
    let all : c.retain.new.self.items ≡ filter others c.args.self.now = kept ∙ ap (λ (k : List Slot). filter others k) (c.in_ok-reserve.ensures.items ∙ c.self.view_is) in
    c.push_reserved.ensures.items ∙ ap (λ (k : List Slot). k ++ record { player = c.args.player; ssrc = c.args.ssrc; receiver = c.in_ok-receiver.receiver } ∷ []) all
    ∙ ap (λ (k : Received). filter others c.args.self.now ++ record { player = c.args.player; ssrc = c.args.ssrc; receiver = k } ∷ []) c.in_ok-receiver.ensures
