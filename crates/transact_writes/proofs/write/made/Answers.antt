use Rattle.std.proofs.Common.{map, None, subst}
use Rattle.transact_writes.specs.Aimed.{database_of, action_in}
use Rattle.transact_writes.specs.Verdicts.{AreJudged}
use Rattle.transact_writes.proofs.Whole.{once_each, made_with}
use Rattle.transact_writes.proofs.write.made.Goals as goal

pub change_all-requires-clause-apart : goal.change_all-requires-clause-apart
change_all-requires-clause-apart c =
    let db = database_of c.args.tables.now.entries in
    once_each db c.args.aimed c.in-Ok.changes c.requires.fit (subst (AreJudged db (map action_in c.args.aimed)) c.in-Ok.is c.in_ok-changes.ensures)

pub returns-in_ok-change_all-in-Ok-clause-ok : goal.returns-in_ok-change_all-in-Ok-clause-ok
returns-in_ok-change_all-in-Ok-clause-ok c =
    let es = c.args.tables.now.entries in
    let judged = subst (AreJudged (database_of es) (map action_in c.args.aimed)) c.in-Ok.is c.in_ok-changes.ensures in
    λ consumed tokens made moment.
    made_with consumed es c.change_all.new.tables.entries tokens made moment c.args.aimed None c.in-Ok.changes c.requires.fit judged
    c.in_ok-change_all-in-Ok.ensures.ok
