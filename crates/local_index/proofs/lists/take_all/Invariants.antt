use Rattle.std.proofs.Common.{◌≡◌, drop}
use Rattle.std.specs.BTreeMap.{get}
use Rattle.local_index.specs.Claims.{without}
use Rattle.local_index.specs.Entries.{changed}
use Rattle.local_index.proofs.lists.take_all.Given as goal

abbrev pub invariant-loop-entry : goal.invariant-loop-entry
invariant-loop-entry g l =
    let cmp = g.E.Ord.cmp in
    (q : _) → changed cmp (drop l.entry-index l.gone) l.others (without l.claim) q (get cmp l.entries q)
    ≡ changed cmp l.gone l.others (without l.claim) q (get cmp l.fn.entries q)
