use Rattle.std.proofs.Common.{◌≡◌, [], drop}
use Rattle.std.specs.BTreeMap.{get}
use Rattle.local_index.specs.declared.claim.Claim.TheVariants.{Committed}
use Rattle.local_index.specs.Claims.{instead}
use Rattle.local_index.specs.Entries.{changed}
use Rattle.local_index.proofs.lists.commit_all.Given as goal

abbrev pub invariant-loop-entry : goal.invariant-loop-entry
invariant-loop-entry g l =
    let cmp = g.E.Ord.cmp in
    (q : _) → changed cmp (drop l.entry-index l.image) [] (instead Committed) q (get cmp l.entries q)
    ≡ changed cmp l.image [] (instead Committed) q (get cmp l.fn.entries q)
