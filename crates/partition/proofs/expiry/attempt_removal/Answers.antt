use Rattle.std.proofs.Common.{◌∙◌, subst, sym}
use Rattle.partition.specs.Knows.{LeftByWrite}
use Rattle.partition.proofs.Evaluated.{expire_answers, expire_leaves, expire_removes, removed_is, removed_says}
use Rattle.partition.proofs.Moved.{if_ok_with, if_ok_and}
use Rattle.partition.proofs.expiry.attempt_removal.Goals as goal

pub remove-requires : goal.remove-requires
remove-requires g c = λ n.
    (expire_removes (g.R.Rules.protocol n) c.args.cell.now c.args.action g.R.CellRules.locals c.args.moment c.in_ok-answer.field-0 c.in-Made.item c.in-Made.changes c.in-Made.is (c.in_ok-answer.ensures n)).makes

pub returns-in-Answered-clause-says : goal.returns-in-Answered-clause-says
returns-in-Answered-clause-says g c = λ n.
    (expire_answers (g.R.Rules.protocol n) c.args.cell.now c.args.action g.R.CellRules.locals c.args.moment c.in_ok-answer.field-0 c.in-Answered.answer c.in-Answered.is (c.in_ok-answer.ensures n)).0

pub returns-in-Answered-clause-left : goal.returns-in-Answered-clause-left
returns-in-Answered-clause-left g c = λ n.
    expire_leaves (g.R.Rules.protocol n) c.args.cell.now c.args.action c.in-Answered.answer c.args.moment
    (expire_answers (g.R.Rules.protocol n) c.args.cell.now c.args.action g.R.CellRules.locals c.args.moment c.in_ok-answer.field-0 c.in-Answered.answer c.in-Answered.is (c.in_ok-answer.ensures n)).1

pub returns-in-Made-clause-says : goal.returns-in-Made-clause-says
returns-in-Made-clause-says g c =
    if_ok_with c.remove.result c.remove.ensures.says
    (λ a says n. says n
    ∙ removed_is (g.R.Rules.protocol n) c.args.cell.now c.args.action g.R.CellRules.locals c.args.moment c.in-Made.item c.in-Made.changes
    (expire_removes (g.R.Rules.protocol n) c.args.cell.now c.args.action g.R.CellRules.locals c.args.moment c.in_ok-answer.field-0 c.in-Made.item c.in-Made.changes c.in-Made.is (c.in_ok-answer.ensures n)))

pub returns-in-Made-clause-left : goal.returns-in-Made-clause-left
returns-in-Made-clause-left g c =
    if_ok_and c.remove.result c.remove.ensures.says c.remove.ensures.left
    (λ a says left n.
    let S = g.R.Rules.protocol n in
    subst (λ b. LeftByWrite S c.args.cell.now c.remove.new.cell c.args.action c.args.moment b)
    (sym (removed_says S c.args.cell.now c.args.action g.R.CellRules.locals c.args.moment c.in-Made.item c.in-Made.changes
    (expire_removes S c.args.cell.now c.args.action g.R.CellRules.locals c.args.moment c.in_ok-answer.field-0 c.in-Made.item c.in-Made.changes c.in-Made.is (c.in_ok-answer.ensures n)) a (says n))) (left n))
