use Rattle.std.proofs.Common.{sym, subst, ◌∙◌}
use Rattle.local_index.specs.Claims.{joined}
use Rattle.local_index.specs.Entries.{changed, Gives}
use Rattle.local_index.proofs.Claims.{joined_again}
use Rattle.local_index.proofs.Changed.{one_more}
use Rattle.local_index.proofs.lists.+add_all.Goals as goal

pub returns-in-Ok-clause-ok : goal.returns-in-Ok-clause-ok
returns-in-Ok-clause-ok g t c =
    let cmp = g.E.Ord.cmp in
    let others = c.args.others.now in
    let change = joined c.args.claim in
    subst (λ come. Gives cmp (changed cmp come others change) c.args.entries.now c.add_all-2.new.entries) (sym c.in-Some.ensures.cases.0)
    (λ q. c.in-Ok.ensures.ok q
    ∙ one_more g.met.E.Ord.total others change (joined_again c.args.claim) c.args.entries.now c.add.new.entries c.in-Some.first.now c.in-Some.rest.now
    (sym c.is_among.ensures ∙ c.if-is_among.false) c.in_ok-old.ensures.new q)
