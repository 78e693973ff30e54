use Rattle.std.proofs.Common.{◌≡◌, ◌+◌, ◌-◌, false, get_or, sym, ap, ◌∙◌, arith}
use Rattle.std.specs.Ordering.{is_lt}
use Rattle.std.proofs.lemmas.List.{get_or_read}
use Rattle.ordered_set.proofs.set.is_ascending.Goals as goal

pub returns-then-not-is_lt : goal.returns-then-not-is_lt
returns-then-not-is_lt g c =
    let xs = c.args.elements.now in
    let i = c.loop-place.place in
    let a = c.index-elements-place.result in
    let b = c.index-elements-place-in-loop-place.result in
    let answered : false ≡ is_lt (g.T.Ord.cmp a b) = sym (c.if-not-is_lt.true) ∙ c.is_lt.ensures ∙ ap is_lt c.cmp.ensures in
    let next : i - 1 + 1 ≡ i = omega arith in (
      i - 1,
      omega arith,
      λ d. let first : get_or xs (i - 1) d ≡ a = sym (get_or_read xs (i - 1) a (omega arith) c.index-elements-place.is d) in
          let second : get_or xs (i - 1 + 1) d ≡ b = ap (λ k. get_or xs k d) next ∙ sym (get_or_read xs i b (omega arith) c.index-elements-place-in-loop-place.is d) in
          rw (first, second) answered,
    )
