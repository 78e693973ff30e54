use Rattle.std.proofs.Common.{◌≡◌, ◌∙◌, ◌+◌, ◌∷◌, drop, sym, ap}
use Rattle.std.proofs.lemmas.List.{at_drop_more}
use Rattle.schema_update.proofs.Types.{alike, contradicted, looked_at}
use Rattle.schema_update.proofs.kinds.is_contradicted.Goals as goal

pub loop-definition-init : goal.loop-definition-init
loop-definition-init c = alike c.args.added.now c.in_ok-kinds.kinds c.args.known.now c.in_ok-kinds.ensures

pub returns-then-branch : goal.returns-then-branch
returns-then-branch c =
    let i = c.loop-definition.definition-index in
    let ds = c.args.added.now in
    let d = c.definition-item.result in
    let next : drop i ds ≡ d ∷ drop (i + 1) ds =
    at_drop_more (λ xs. xs) ds i d c.loop-definition-test.true ∙ ap (λ x. x ∷ drop (i + 1) ds) (sym c.definition-item.is) in
    contradicted d c.loop-definition.kinds (drop i ds) (drop (i + 1) ds) next (sym c.if-branch.true ∙ c.in_ok-add.ensures.contradicts) ∙ c.loop-definition.invariant

pub loop-definition-preserved : goal.loop-definition-preserved
loop-definition-preserved c =
    let i = c.loop-definition.definition-index in
    let ds = c.args.added.now in
    let d = c.definition-item.result in
    let next : drop i ds ≡ d ∷ drop (i + 1) ds =
    at_drop_more (λ xs. xs) ds i d c.loop-definition-test.true ∙ ap (λ x. x ∷ drop (i + 1) ds) (sym c.definition-item.is) in
    looked_at d c.loop-definition.kinds c.add.new.self (drop i ds) (drop (i + 1) ds) next (sym c.if-branch.false ∙ c.in_ok-add.ensures.contradicts) c.in_ok-add.ensures.kinds ∙ c.loop-definition.invariant
