use Rattle.std.proofs.Common.{◌≡◌, Option, sym, ◌∙◌, ap, subst}
use Rattle.jm_recency.specs.Links.{key_at}
use Rattle.jm_recency.specs.Recency.{next_key, IsAtKey}
use Rattle.jm_recency.proofs.LinkLaws.{next-by_link, IsAtKey-next}
use Rattle.jm_recency.proofs.recency.Recency.next.Goals as goal

-- a link leads to the next key
pub returns-clause-next : goal.returns-clause-next
returns-clause-next g c =
    let e = c.link_of.ensures in
    c.key_of.ensures ∙ ap key_at e.link ∙ next-by_link g.row.N 0 c.args.k c.args.self.now e.few e.order

pub returns-clause-key : goal.returns-clause-key
returns-clause-key g c =
    let e = c.link_of.ensures in
    let found : c.key_of.result ≡ next_key c.args.k c.args.self.now = c.key_of.ensures ∙ ap key_at e.link ∙ next-by_link g.row.N 0 c.args.k c.args.self.now e.few e.order in
    rw found (IsAtKey-next g.row.N 0 c.args.k c.args.self.now e.order)
