use Rattle.std.proofs.Common.{◌≡◌, ◌∙◌, ◌+◌, ◌∷◌, drop, sym, ap}
use Rattle.std.proofs.lemmas.List.{at_drop_more, drop_all}
use Rattle.schema_update.proofs.Types.{put_in, append_none}
use Rattle.schema_update.proofs.kinds.kinds_of.Goals as goal

pub loop-definition-preserved : goal.loop-definition-preserved
loop-definition-preserved c = λ n.
    let i = c.loop-definition.definition-index in
    let ds = c.args.definitions.now in
    let d = c.definition-item.result in
    let next : drop i ds ≡ d ∷ drop (i + 1) ds =
    at_drop_more (λ xs. xs) ds i d c.loop-definition-test.true ∙ ap (λ x. x ∷ drop (i + 1) ds) (sym c.definition-item.is) in
    put_in n d c.loop-definition.kinds c.add.new.self (drop i ds) (drop (i + 1) ds) next c.in_ok-add.ensures.kinds ∙ c.loop-definition.invariant n

pub returns : goal.returns
returns c = λ n.
    append_none n c.loop-definition.kinds (drop c.loop-definition.definition-index c.args.definitions.now)
    (drop_all c.loop-definition.definition-index c.args.definitions.now c.loop-definition-test.false)
    ∙ c.loop-definition.invariant n
