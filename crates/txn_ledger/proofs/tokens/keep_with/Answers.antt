use Rattle.std.proofs.Common.{rules, ◌≡◌, None, ap, sym, ◌∙◌}
use Rattle.std.specs.FinMap.{get}
use Rattle.txn_ledger.specs.Tokens.{kept_with, living}
use Rattle.txn_ledger.proofs.tokens.keep_with.Goals as goal

pub returns-in_default-clause-ok : goal.returns-in_default-clause-ok
returns-in_default-clause-ok g c other =
    let none : c.args.token ≡ None = search rules in
    c.purge.ensures other
    ∙ ap (λ t. kept_with t c.args.number other (living c.args.moment (get c.args.tokens.now other))) (sym none)
