use Rattle.std.proofs.Common.{arith, []}
use Rattle.turnstile.proofs.Histories.{trail_on, trail_none}
use Rattle.turnstile.proofs.Counts.{counts}
use Rattle.turnstile.proofs.steps.count.Goals as goal

pub fetch_add-requires : goal.fetch_add-requires
fetch_add-requires g c = let W = g.W.World in let e = g.E.EntryOf.entry in let b = c.args.board.now.shared in let z = c.requires.sized in let words = z.words in let m = c.args.place.now.me in let may = c.requires.may in (
  c.requires.of,
  omega arith,
  counts W.by W.cell W.stands W.legal b.table_id.slots b.key.passes b.key.cells z.cells _ m e c.requires.mine c.requires.idle c.requires.held
      (λ log is pre same cells lawful. W.goes_on b.table_id.slots log m.0.front e lawful is pre (same, cells)
      (W.may_still b.table_id.slots may.seen log e is (trail_on W.by (W.by e) may.seen [] m.0.front [] log may.trail (trail_none W.by (W.by e) m.0.front log pre same)) may.may_then) c.requires.answers),
)
