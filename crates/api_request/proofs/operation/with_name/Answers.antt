use Rattle.std.proofs.Common.{◌∙◌, drop, suc, sym, subst, add-one}
use Rattle.std.specs.Cmp.Lexicographic.{bytes_decides}
use Rattle.std.specs.Prelude.{get_or}
use Rattle.std.proofs.Math.Seq.{drop-cons}
use Rattle.std.proofs.lemmas.Bool.{false≢true}
use Rattle.std.proofs.lemmas.List.{drop_all}
use Rattle.api_request.specs.declared.operation.Operation.TheVariants as operation
use Rattle.api_request.proofs.Operations.{one_missed, no_operation, none_left, all, Miss}
use Rattle.api_request.proofs.operation.with_name.Goals as goal

pub loop-operation-preserved : goal.loop-operation-preserved
loop-operation-preserved c =
    let i = c.loop-operation.operation-index in
    let name = c.args.name.now in
    let o = get_or all i operation.PutItem in λ missed.
    c.loop-operation.invariant (one_missed o (drop i all) (drop (suc i) all) name (drop-cons all i operation.PutItem c.loop-operation-test.true)
    (λ is. false≢true (c.if-eq.ensures ∙ (bytes_decides c.as_bytes.result.now name).1 (c.as_bytes.ensures.value ∙ c.name.ensures ∙ sym is)))
    (subst (λ n. Miss (drop n all) name) (add-one i) missed))

pub returns : goal.returns
returns c = no_operation c.args.name.now (c.loop-operation.invariant (none_left (drop c.loop-operation.operation-index all) c.args.name.now (drop_all c.loop-operation.operation-index all c.loop-operation-test.false)))
