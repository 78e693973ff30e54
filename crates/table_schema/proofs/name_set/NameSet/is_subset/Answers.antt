use Rattle.std.proofs.Common.{subst}
use Rattle.std.specs.Prelude.{◌↔◌, IsTrue}
use Rattle.table_schema.specs.NameSet.{IsWithin, names_in}
use Rattle.table_schema.proofs.NameSets.{within, each_within}
use Rattle.table_schema.proofs.name_set.NameSet.is_subset.Goals as goal

pub returns : goal.returns
returns c =
    let xs = c.self.inside.names.keys in
    let ys = c.other.inside.names.keys in
    let both : IsTrue c.is_subset.result ↔ IsWithin (names_in c.self.inside.names) (names_in c.other.inside.names) =
    (λ yes. within xs ys (c.is_subset.ensures.0 yes), λ all. c.is_subset.ensures.1 (each_within xs ys all)) in
    subst (λ names. IsTrue c.is_subset.result ↔ IsWithin names c.args.other.now) c.self.view_is
    (subst (λ names. IsTrue c.is_subset.result ↔ IsWithin (names_in c.self.inside.names) names) c.other.view_is both)
