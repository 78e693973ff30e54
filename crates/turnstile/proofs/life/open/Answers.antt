use Rattle.std.proofs.Common.{◌≡◌, length, vec_len, arith, refl}
use Rattle.turnstile.proofs.Ends.{opens_at}
use Rattle.turnstile.proofs.life.open.Goals as goal

pub new-requires : goal.new-requires
new-requires g c = let W = g.W.World in let k = c.args.size.now in let xs = c.args.slots.items in let cells = c.requires.cells in
    let len = c.len.ensures in let ok : vec_len c.args.slots ≡ length xs = c.args.slots.ok.0 in let words = c.blank.ensures.count in
    opens_at W.by W.cell W.stands W.legal k.cells k.passes k.cells refl c.blank.result.now xs c.requires.passes (omega arith) (omega arith) (omega arith) c.blank.ensures.blank (W.starts k.cells) c.requires.stand
