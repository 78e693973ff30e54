use Rattle.std.proofs.Common.{ℕ, List, Option, map, sym, subst}
use Rattle.std.proofs.lemmas.Result.{IfOk-weaker}
use Rattle.transact_writes.specs.Aimed.{action_in}
use Rattle.transact_writes.specs.Writes.{IsAnswered}
use Rattle.transact_writes.proofs.write.answered.Goals as goal

pub returns-in-None-clause-ok : goal.returns-in-None-clause-ok
returns-in-None-clause-ok c =
    let tokens = c.args.tokens.now in
    IfOk-weaker c.made.result _ _
    (λ reply is.
    subst
    (λ (token : Option (List ℕ)).
    IsAnswered c.args.tables.now.entries tokens (map action_in c.args.aimed) token c.args.moment c.made.new.tables.entries tokens reply)
    (sym c.in-None.is) (λ consumed made. is consumed tokens made c.args.moment))
    c.made.ensures.ok
