use Rattle.std.proofs.Common.{◌≡◌, fold, sym, ap, ◌∙◌}
use Rattle.number38.specs.declared.number.Number.TheInside.{Inside}
use Rattle.number38.specs.Number.{canonical}
use Rattle.number38.specs.NumberLaws.{canonical-whole}
use Rattle.number38.specs.Hashed.{fields_writes}
use Rattle.number38.proofs.number.NumberHash.hash.Goals as goal

pub returns : goal.returns
returns g c =
    let fields : canonical c.args.self.now ≡ c.self.inside = ap canonical (sym c.self.view_is) ∙ canonical-whole c.self.inside c.self.invariant in
    let first = c.hash.ensures in
    let second = c.hash-2.ensures in
    let third = c.hash-3.ensures in
    let writes = ap (λ (a : Inside). fold g.H.Hasher.write c.args.state.now (fields_writes a)) (sym fields) in
    cc (first, second, third, writes)
