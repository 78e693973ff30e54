use Rattle.table_rows.proofs.Listed.{filled_over}
use Rattle.table_rows.proofs.index.Index.over.Goals as goal

pub returns : goal.returns
returns c =
    filled_over c.args.schema.now c.args.keys c.args.slots.now c.new-index.result c.fill.new.self c.new-index.ensures c.fill.ensures.keys c.fill.ensures.moves
    c.in_ok-fill.ensures.places c.fill.ensures.ordered
