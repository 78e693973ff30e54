use Rattle.std.proofs.Common.{sym, ap, ◌∙◌}
use Rattle.std.specs.FinMap as map
use Rattle.txn_core.specs.declared.message.Message.{Message}
use Rattle.txn_core.specs.declared.answer.Answer.{Answer}
use Rattle.txn_ledger.specs.Contents.{record_at}
use Rattle.control_cell.proofs.Entries.{holds_by, forget_left, forget_missing, was_finished}
use Rattle.control_cell.proofs.cell.ControlCell.forget.Goals as goal

pub returns-then-forget-clause-takes : goal.returns-then-forget-clause-takes
returns-then-forget-clause-takes g c =
    let d = c.forget.ensures in
    let old = c.args.self.now.ledger in
    let number = c.args.number in
    λ n moment es e h allowed is.
    holds_by (g.R.Rules.protocol n) es e moment (Message.Forget number) Answer.Forgotten _ is
    (forget_left (g.R.Rules.protocol n) es moment number c.args.self.now.catalog old c.forget.new.self (record_at old number)
    (λ _. record_at old number) (sym d.there ∙ c.if-forget.true) h.catalog_is (was_finished (g.R.Rules.protocol n) es number allowed.0)
    h.keeps d.next d.records (λ token. ap (λ m. map.get m token) d.tokens))

pub returns-else-forget-clause-takes : goal.returns-else-forget-clause-takes
returns-else-forget-clause-takes g c =
    let d = c.forget.ensures in
    let old = c.args.self.now.ledger in
    let number = c.args.number in
    λ n moment es e h allowed is.
    holds_by (g.R.Rules.protocol n) es e moment (Message.Forget number) Answer.Nothing _ is
    (forget_missing (g.R.Rules.protocol n) es moment number c.args.self.now.catalog old c.forget.new.self
    (sym d.there ∙ c.if-forget.false) h.catalog_is h.keeps d.next d.records (λ token. ap (λ m. map.get m token) d.tokens))
