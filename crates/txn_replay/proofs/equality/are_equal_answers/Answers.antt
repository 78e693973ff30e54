use Rattle.txn_replay.proofs.Equal.{words}
use Rattle.txn_replay.proofs.equality.are_equal_answers.Goals as goal

pub returns : goal.returns
returns g c =
    words c.args.left.now c.args.right.now c.are_equal_of_items.result c.are_equal_of_cells.result c.are_equal_of_numbers.result
    c.are_equal_of_fates.result c.are_equal_of_tables.result c.are_equal_words.result c.are_equal_of_items.ensures
    c.are_equal_of_cells.ensures c.are_equal_of_numbers.ensures c.are_equal_of_fates.ensures c.are_equal_of_tables.ensures
    c.are_equal_words.ensures c.if-are_equal_of_items.false c.if-are_equal_of_cells.false c.if-are_equal_of_numbers.false
    c.if-are_equal_of_fates.false c.if-are_equal_of_tables.false
