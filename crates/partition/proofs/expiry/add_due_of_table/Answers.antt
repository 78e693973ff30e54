use Rattle.std.proofs.Common.{◌++◌, sym, ap, ◌∙◌, take}
use Rattle.partition.proofs.Expired.{all_due, never_due}
use Rattle.partition.proofs.expiry.add_due_of_table.Goals as goal

pub returns-then-not-may_expire-clause-due : goal.returns-then-not-may_expire-clause-due
returns-then-not-may_expire-clause-due g c = λ n home.
    let S = g.R.Rules.protocol n in
    let cat = c.args.catalog.now in
    let keys = c.args.keys.now.items in
    let never = c.may_expire.ensures c.if-not-may_expire.true n in
    all_due S cat c.args.moment c.args.limit keys
    ∙ ap (λ ks. take c.args.limit (keys ++ ks)) (sym (never_due S cat c.args.moment c.args.table never c.args.items.now.slots.entries home))
