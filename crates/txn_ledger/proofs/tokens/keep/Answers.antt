use Rattle.std.proofs.Common.{rules, ◌≡◌, ap, ◌∙◌}
use Rattle.std.specs.FinMap.{get, insert}
use Rattle.client_tokens.specs.TokenMap.{purged}
use Rattle.txn_ledger.proofs.Kept.{keeps}
use Rattle.txn_ledger.proofs.tokens.keep.Goals as goal

pub returns-clause-ok : goal.returns-clause-ok
returns-clause-ok g c other =
    let put : c.put.new.tokens ≡ insert c.args.tokens.now c.args.token c.args.kept = search rules in
    ap (λ m. get m other) (c.purge.ensures ∙ ap (λ m. purged m c.args.moment) put)
    ∙ keeps c.args.tokens.now c.args.token c.args.kept c.args.moment c.requires.new other
