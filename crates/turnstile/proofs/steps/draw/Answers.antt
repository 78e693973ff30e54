use Rattle.std.proofs.Common.{arith}
use Rattle.turnstile.proofs.Draws.{draws}
use Rattle.turnstile.proofs.steps.draw.Goals as goal

pub fetch_add-requires : goal.fetch_add-requires
fetch_add-requires g c = let W = g.W.World in let b = c.args.board.now.shared in let z = c.requires.sized in let words = z.words in let lt = c.requires.cell in (
  c.requires.of,
  omega arith,
  draws W.by W.cell W.stands W.legal b.table_id.slots b.key.passes b.key.cells z.cells c.args.cell lt _ c.args.place.now.me c.requires.idle c.requires.room,
)
