use Rattle.std.proofs.Common.{◌≡◌, ◌∙◌, ◌+◌, ◌-◌, ◌++◌, ◌∷◌, ℕ, [], map, arith, sym, ap}
use Rattle.std.specs.List.{range_with_len}
use Rattle.std.proofs.lemmas.List.FromFn.{map-range_with_len_more}
use Rattle.expr_words.specs.declared.tree.Operand.TheVariants.{Value}
use Rattle.legacy_params.proofs.leaf.choices.Goals as goal

pub loop-place-init : goal.loop-place-init
loop-place-init c =
    let none : c.args.first - c.args.first ≡ 0 = omega arith in
    c.new-choices.ensures ∙ ap (λ (n : ℕ). map (λ place. Value place) (range_with_len c.args.first n)) (sym none)

pub loop-place-preserved : goal.loop-place-preserved
loop-place-preserved c =
    let l = c.loop-place in
    let here : c.args.first + (l.place - c.args.first) ≡ l.place = omega (arith, l.auto.place) in
    let next : (l.place + 1) - c.args.first ≡ (l.place - c.args.first) + 1 = omega (arith, l.auto.place) in
    c.in_ok-push.ensures.ok ∙ ap (λ cs. cs ++ Value l.place ∷ []) l.invariant
    ∙ sym (map-range_with_len_more (λ place. Value place) c.args.first (l.place - c.args.first) l.place here)
    ∙ ap (λ (n : ℕ). map (λ place. Value place) (range_with_len c.args.first n)) (sym next)

pub returns : goal.returns
returns c =
    let l = c.loop-place in
    let upper = l.auto.place-end (omega arith) in
    let all : l.place - c.args.first ≡ c.args.count = omega (arith, upper, l.auto.place, c.loop-place-test.false) in
    l.invariant ∙ ap (λ (n : ℕ). map (λ place. Value place) (range_with_len c.args.first n)) all
