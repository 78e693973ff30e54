use Rattle.std.proofs.Common.{subst}
use Rattle.txn_replay.specs.Standing.{Leads, Tells}
use Rattle.txn_replay.proofs.Judged.{answered, answered_on, unanswered, unanswered_ends}
use Rattle.txn_replay.proofs.answers.is_answered.Goals as goal

pub returns-in-Some-clause-judges : goal.returns-in-Some-clause-judges
returns-in-Some-clause-judges g c =
    let S = g.R.Rules.protocol c.args.partitions in
    let L = g.R.CellRules.locals in
    let old = c.args.cells.now in
    let e = c.args.entry.now in
    answered S L old c.ask.new.cells e c.in-Some.given c.is_told_so.result
    (subst (λ o. Tells S L old e.message e.moment o) c.in-Some.is c.in_ok-answer.ensures.tells) (c.is_told_so.ensures c.args.partitions)

pub returns-in-Some-clause-advances : goal.returns-in-Some-clause-advances
returns-in-Some-clause-advances g c =
    let S = g.R.Rules.protocol c.args.partitions in
    let L = g.R.CellRules.locals in
    let old = c.args.cells.now in
    let new = c.ask.new.cells in
    let e = c.args.entry.now in
    answered_on S L old new e c.in-Some.given c.is_told_so.result
    (subst (λ o. Tells S L old e.message e.moment o) c.in-Some.is c.in_ok-answer.ensures.tells) (c.is_told_so.ensures c.args.partitions)
    (subst (λ o. Leads S L old new e.message e.moment o) c.in-Some.is c.in_ok-answer.ensures.leads)

pub returns-in-None-clause-judges : goal.returns-in-None-clause-judges
returns-in-None-clause-judges g c =
    let S = g.R.Rules.protocol c.args.partitions in
    let L = g.R.CellRules.locals in
    let old = c.args.cells.now in
    let e = c.args.entry.now in
    unanswered S L old c.ask.new.cells e (subst (λ o. Tells S L old e.message e.moment o) c.in-None.is c.in_ok-answer.ensures.tells)

pub returns-in-None-clause-advances : goal.returns-in-None-clause-advances
returns-in-None-clause-advances g c =
    let S = g.R.Rules.protocol c.args.partitions in
    let L = g.R.CellRules.locals in
    let old = c.args.cells.now in
    let e = c.args.entry.now in
    unanswered_ends S L old c.ask.new.cells e (subst (λ o. Tells S L old e.message e.moment o) c.in-None.is c.in_ok-answer.ensures.tells)
