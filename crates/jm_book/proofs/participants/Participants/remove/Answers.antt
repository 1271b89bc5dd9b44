use Rattle.std.proofs.Common.{◌∙◌, sym}
use Rattle.jm_book.proofs.Changing.{others-at, others-nowhere}
use Rattle.jm_book.proofs.participants.Participants.remove.Goals as goal

pub returns-in-Some : goal.returns-in-Some
returns-in-Some c =
    rw (← c.self.view_is) (c.remove.ensures.items ∙ others-at c.args.ssrc c.self.inside.list.items c.in-Some.place (rw (← c.as_slice.ensures.value) (sym c.place_of.ensures ∙ c.in-Some.is)))

pub returns-in_default : goal.returns-in_default
returns-in_default c =
    rw (← c.self.view_is) (sym (others-nowhere c.args.ssrc c.self.inside.list.items (rw (← c.as_slice.ensures.value) (sym c.place_of.ensures ∙ c.in_default.is))))
