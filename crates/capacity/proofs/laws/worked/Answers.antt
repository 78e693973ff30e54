use Rattle.std.proofs.Common.{refl}
use Rattle.std.specs.Fmt.{digits}
use Rattle.capacity.proofs.laws.worked.Goals as goal

pub returns : goal.returns
unfolding digits
returns c = record {
  consistent_read = refl;
  absent_read = refl;
  one_piece = refl;
  eventual_read = refl;
  consistent_read_beyond = refl;
  transact_read = refl;
  one_piece_written = refl;
  write = refl;
  transact_writes = refl;
  half = refl;
  one = refl;
  four = refl;
  ten_and_a_half = refl;
}
