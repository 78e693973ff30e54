use Rattle.std.proofs.Common.{rules}
use Rattle.client_tokens.proofs.Dues.{due_read}
use Rattle.client_tokens.proofs.heap.is_earlier.Goals as goal

pub returns : goal.returns
returns g c =
    let one = due_read c.args.map.now.entries c.args.one c.index.result.now c.index.ensures in
    let other = due_read c.args.map.now.entries c.args.other c.index-2.result.now c.index-2.ensures in
    rw (one, other, ← c.due.ensures, ← c.due-2.ensures) (search rules)
