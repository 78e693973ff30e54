use Rattle.std.proofs.Common.{◌≡◌, ℕ, ◌%◌, ◌^◌, [], ◌∷◌, ◌++◌, sum_by, ap, ◌∙◌, arith}
use Rattle.std.proofs.lemmas.List.Sums.{sum_by-append}
use Rattle.turnstile.specs.Histories.{at_cell}
use Rattle.store_cases.specs.declared.turns.Added.{Added}
use Rattle.turnstile.proofs.Histories.{trail_self}
use Rattle.store_cases.proofs.turns.commit_all.Goals as goal

pub commit_all-requires-clause-may : goal.commit_all-requires-clause-may
commit_all-requires-clause-may g c = record { seen = c.args.pass.now.front; trail = trail_self _ _ c.args.pass.now.front; may_then = tt }

pub commit_all-requires-clause-stands : goal.commit_all-requires-clause-stands
commit_all-requires-clause-stands g c = λ k x at. let e = g.E.EntryOf.entry in let f : Added → ℕ = λ y. y.amount in let l = at_cell (λ (y : Added). y.cell) k c.args.pass.now.front in
    let amount : f e ≡ 0 = ap f c.requires.entry in
    let whole : sum_by f l ≡ sum_by f (l ++ e ∷ []) = let a = sum_by-append f l (e ∷ []) in omega arith in
    c.requires.stands k x at ∙ ap (λ (k : ℕ). k % 2 ^ 64) whole
