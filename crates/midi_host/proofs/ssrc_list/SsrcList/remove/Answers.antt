use Rattle.std.proofs.Common.{◌∙◌, sym}
use Rattle.midi_host.proofs.Removing.{removed_at, removed_nowhere}
use Rattle.midi_host.proofs.ssrc_list.SsrcList.remove.Goals as goal

pub returns-in-Some : goal.returns-in-Some
returns-in-Some c =
    rw (← c.self.view_is) (c.remove.ensures.items ∙ removed_at c.args.ssrc c.self.inside.items.items c.in-Some.place (rw (← c.as_slice.ensures.value) (sym c.place_of.ensures ∙ c.in-Some.is)))

pub returns-in_default : goal.returns-in_default
returns-in_default c =
    rw (← c.self.view_is) (sym (removed_nowhere c.args.ssrc c.self.inside.items.items (rw (← c.as_slice.ensures.value) (sym c.place_of.ensures ∙ c.in_default.is))))
