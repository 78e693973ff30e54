use Rattle.std.proofs.Common.{sym, ap, ◌∙◌}
use Rattle.std.specs.BTreeMap.{get}
use Rattle.local_index.specs.Claims.{without}
use Rattle.local_index.specs.Entries.{changed}
use Rattle.local_index.proofs.Claims.{without_again}
use Rattle.local_index.proofs.Changed.{left_from, one_more, passed}
use Rattle.local_index.proofs.lists.take_all.Goals as goal

pub loop-entry-preserved-then-is_among : goal.loop-entry-preserved-then-is_among
loop-entry-preserved-then-is_among g c q =
    let cmp = g.E.Ord.cmp in
    let others = c.args.others.now in
    let change = without c.args.claim in
    let left = left_from c.args.gone.now c.loop-entry.entry-index c.entry-item.result c.loop-entry-test.true c.entry-item.is in
    passed g.met.E.Ord.total others change c.entry-item.result _ (sym c.is_among.ensures ∙ c.if-is_among.true) q (get cmp c.loop-entry.entries q)
    ∙ ap (λ gone. changed cmp gone others change q (get cmp c.loop-entry.entries q)) (sym left)
    ∙ c.loop-entry.invariant q

pub loop-entry-preserved : goal.loop-entry-preserved
loop-entry-preserved g c q =
    let cmp = g.E.Ord.cmp in
    let others = c.args.others.now in
    let change = without c.args.claim in
    let left = left_from c.args.gone.now c.loop-entry.entry-index c.entry-item.result c.loop-entry-test.true c.entry-item.is in
    one_more g.met.E.Ord.total others change (without_again c.args.claim) c.loop-entry.entries c.take.new.entries c.entry-item.result _
    (sym c.is_among.ensures ∙ c.if-is_among.false) c.take.ensures q
    ∙ ap (λ gone. changed cmp gone others change q (get cmp c.loop-entry.entries q)) (sym left)
    ∙ c.loop-entry.invariant q
