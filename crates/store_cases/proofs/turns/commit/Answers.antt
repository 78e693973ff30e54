use Rattle.std.proofs.Common.{◌≡◌, ℕ, ◌+◌, ◌%◌, ◌^◌, [], ◌∷◌, ◌++◌, sum_by, ap, ◌∙◌}
use Rattle.std.proofs.Common.{arith}
use Rattle.std.proofs.lemmas.List.Sums.{sum_by-append}
use Rattle.turnstile.specs.Histories.{at_cell}
use Rattle.store_cases.specs.declared.turns.Added.{Added}
use Rattle.turnstile.proofs.Histories.{trail_self}
use Rattle.store_cases.proofs.turns.commit.Goals as goal

pub commit_entry-requires-clause-may : goal.commit_entry-requires-clause-may
commit_entry-requires-clause-may g c = record { seen = c.args.pass.now.front; trail = trail_self _ _ c.args.pass.now.front; may_then = tt }

pub commit_entry-requires-clause-stands : goal.commit_entry-requires-clause-stands
commit_entry-requires-clause-stands g c = let e = g.E.EntryOf.entry in let f : Added → ℕ = λ x. x.amount in let l = at_cell (λ (x : Added). x.cell) c.args.turn.now.cell c.args.pass.now.front in
    let amount : f e ≡ c.args.amount.now = ap f c.requires.entry in
    let whole : sum_by f l + c.args.amount.now ≡ sum_by f (l ++ e ∷ []) = let a = sum_by-append f l (e ∷ []) in omega arith in
    c.requires.stands ∙ ap (λ (k : ℕ). k % 2 ^ 64) whole
