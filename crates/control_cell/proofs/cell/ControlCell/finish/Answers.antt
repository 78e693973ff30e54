use Rattle.std.proofs.Common.{sym, ap, ◌∙◌, if◌then◌else◌}
use Rattle.txn_core.specs.declared.message.Message.{Message}
use Rattle.txn_core.specs.declared.answer.Answer.{Answer}
use Rattle.txn_ledger.specs.Contents.{record_at, kept_at}
use Rattle.txn_ledger.specs.Tokens.{completed}
use Rattle.control_cell.proofs.Entries.{holds_by, done_left, done_missing}
use Rattle.control_cell.proofs.cell.ControlCell.finish.Goals as goal

pub returns-then-finish-clause-takes : goal.returns-then-finish-clause-takes
returns-then-finish-clause-takes g c =
    let d = c.finish.ensures in
    let old = c.args.self.now.ledger in
    let number = c.args.number in
    λ n es e h is.
    holds_by (g.R.Rules.protocol n) es e c.args.moment (Message.Done number) Answer.Finished _ is
    (done_left (g.R.Rules.protocol n) es c.args.moment number c.args.self.now.catalog old c.finish.new.self (record_at old number)
    (λ _. record_at old number) (sym d.there ∙ c.if-finish.true) h.catalog_is h.keeps d.next d.records
    (λ token. d.tokens token ∙ ap (λ b. if b then completed number c.args.moment (kept_at old token) else kept_at old token) c.if-finish.true))

pub returns-else-finish-clause-takes : goal.returns-else-finish-clause-takes
returns-else-finish-clause-takes g c =
    let d = c.finish.ensures in
    let old = c.args.self.now.ledger in
    let number = c.args.number in
    λ n es e h is.
    holds_by (g.R.Rules.protocol n) es e c.args.moment (Message.Done number) Answer.Nothing _ is
    (done_missing (g.R.Rules.protocol n) es c.args.moment number c.args.self.now.catalog old c.finish.new.self
    (sym d.there ∙ c.if-finish.false) h.catalog_is h.keeps d.next d.records
    (λ token. d.tokens token ∙ ap (λ b. if b then completed number c.args.moment (kept_at old token) else kept_at old token) c.if-finish.false))
