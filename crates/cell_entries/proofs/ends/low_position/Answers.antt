use Rattle.std.specs.Ordering.{is_le}
use Rattle.std.proofs.Common.{ap, ◌∙◌}
use Rattle.std.proofs.lemmas.Result.{IfOk-weaker}
use Rattle.row_keys.specs.Keys.{position_order}
use Rattle.cell_entries.proofs.Walks.{first_from}
use Rattle.cell_entries.proofs.ends.low_position.Goals as goal

pub returns-in-None : goal.returns-in-None
returns-in-None c =
    IfOk-weaker c.first_position.result _ _ (λ first is at from. ap (λ p. is_le (position_order p at)) is ∙ first_from at) c.first_position.ensures
