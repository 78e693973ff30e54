use Rattle.std.proofs.Common.{◌∙◌, ap, sym}
use Rattle.cell_model.specs.declared.key.CellKey.{CellKey}
use Rattle.cell_model.specs.Actions.{action_of}
use Rattle.cell_rules.proofs.copies.copy_of_action.Goals as goal

pub returns : goal.returns
returns c =
    c.new.ensures ∙ ap (λ (key : CellKey). action_of key c.in_ok-says.says) (c.in_ok-key.ensures ∙ c.key.ensures)
    ∙ c.in_ok-says.ensures c.args.action.now.key ∙ sym c.statement.ensures
