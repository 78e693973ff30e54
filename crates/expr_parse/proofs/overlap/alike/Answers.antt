use Rattle.std.proofs.Common.{◌↔◌, IsTrue, List, subst₂}
use Rattle.base_types.specs.declared.path.Step.{Step}
use Rattle.expr_parse.specs.Agreement.{Agree}
use Rattle.expr_parse.proofs.Agreement.{overlap_agree}
use Rattle.expr_parse.proofs.overlap.alike.Goals as goal

pub returns : goal.returns
returns c =
    let P : List Step → List Step → Type 0 = λ p q. IsTrue c.agree.result ↔ Agree p q in
    let h = subst₂ P c.as_slice.ensures c.as_slice-2.ensures c.agree.ensures in
    let o = overlap_agree c.args.one.now c.args.other.now in
    ((λ t. o.0 (h.0 t)), (λ v. h.1 (o.1 v)))
