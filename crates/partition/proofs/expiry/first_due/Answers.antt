use Rattle.std.proofs.Common.{◌++◌, sym, subst, ap, ◌∙◌, take}
use Rattle.std.specs.BTreeMap.{IsOrdered}
use Rattle.std.specs.List.{flat_map}
use Rattle.index_feed.specs.Feed.{Each}
use Rattle.partition.specs.Expiry.{AreAtHome, due_in}
use Rattle.partition.proofs.Expired.{next_due}
use Rattle.partition.proofs.expiry.first_due.Goals as goal

pub loop-number-preserved : goal.loop-number-preserved
loop-number-preserved g c =
    let l = c.loop-number in
    let steps = c.in-Some.ensures.steps in
    let cell = c.args.cell.now in
    record {
      due = λ n home.
          let S = g.R.Rules.protocol n in
          let before = l.invariant.due n home in
          let here = subst (λ ts. AreAtHome S ts) steps before.0 in (
            here.1,
            next_due (λ t. due_in S cell.catalog c.args.moment t.1.slots.entries) c.args.limit l.keys.items c.add_due_of_table.new.keys.items (c.in-Some.number.now, c.in-Some.table.now) c.next.new.self
                (c.in_ok-add_due_of_table.ensures.due n here.0)
                ∙ ap (λ ts. take c.args.limit (l.keys.items ++ flat_map (λ t. due_in S cell.catalog c.args.moment t.1.slots.entries) ts)) (sym steps)
                ∙ before.1,
          );
      few = c.in_ok-add_due_of_table.ensures.few l.invariant.few;
      inner = λ rest. l.invariant.inner (subst (λ ts. Each (λ e. IsOrdered g.R.Key.Ord.cmp e.1.slots) ts) (sym steps) (c.in_ok-add_due_of_table.ensures.order, rest));
    }
