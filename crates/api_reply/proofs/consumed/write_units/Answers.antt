use Rattle.api_reply.proofs.Units.{units_are_number}
use Rattle.api_reply.proofs.consumed.write_units.Goals as goal

pub number-requires : goal.number-requires
number-requires c = rw (c.as_str.ensures, c.in_ok-text.ensures) (units_are_number c.args.halves c.ranges.halves.fits)
