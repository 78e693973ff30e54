use Rattle.std.proofs.Common.{rules, ◌≡◌, Some, ap, sym, ◌∙◌}
use Rattle.std.specs.Map.{lookup}
use Rattle.std.specs.Ordering.{nat_cmp}
use Rattle.std.specs.BTreeMap.{get, is_at}
use Rattle.local_index.specs.Entries.{claim_between, end_of}
use Rattle.local_index.specs.Tables.{claim_in}
use Rattle.local_index.proofs.Alike.{between_is}
use Rattle.local_index.proofs.indexes.LocalIndexes.between.Goals as goal

pub returns-in-Some-clause-claims : goal.returns-in-Some-clause-claims
returns-in-Some-clause-claims g c q =
    let cmp = g.E.Ord.cmp in
    let found : get nat_cmp c.args.self.now.tables c.args.table ≡ Some c.in-Some.entries.now = search rules in
    ap (lookup (is_at (cmp q))) c.new.ensures
    ∙ between_is g.met.E.Ord.total (end_of c.args.low) (end_of c.args.high) c.in-Some.entries.now q
    ∙ ap (λ o. claim_between cmp (end_of c.args.low) (end_of c.args.high) q (claim_in cmp o q)) (sym found)
