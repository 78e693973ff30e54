use Rattle.std.proofs.Common.{refl, arith, ap, ◌∙◌, ◌+◌, ◌∷◌, drop}
use Rattle.atomic_table.specs.Table.{rest}
use Rattle.turnstile.specs.Histories.{at_cell}
use Rattle.turnstile.specs.Kept.{ticket}
use Rattle.turnstile.proofs.Leaves.{leaves_at}
use Rattle.turnstile.proofs.steps.put_back.Goals as goal

pub store-requires : goal.store-requires
store-requires g c = let W = g.W.World in let b = c.args.board.now.shared in let z = c.requires.sized in let words = z.words in let lt = c.requires.cell in let m = c.args.place.now.me in (
  c.requires.of,
  omega arith,
  leaves_at W.by W.cell W.stands W.legal b.table_id.slots b.key.passes b.key.cells z.cells _ (m.0, (c.args.cell, c.replace.new.self) ∷ rest m.1) (ticket c.args.cell c.args.number) (drop 1 m.0.held)
      c.requires.turn c.requires.idle c.requires.alone c.args.value (rest m.1) (ap (λ o. (c.args.cell, o) ∷ rest m.1) c.replace.ensures.is) c.requires.stands _ refl,
)
