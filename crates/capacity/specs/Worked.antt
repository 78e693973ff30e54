-- Worked examples: what small reads and writes count for, and how that is printed.
use Rattle.std.specs.Prelude.{◌≡◌, ◌+◌, codes}
use Rattle.capacity.specs.declared.halves.Mode.TheVariants.{Eventual, Consistent, Transact}
use Rattle.capacity.specs.Units.{read_halves, write_halves, units}

pub record Worked : Type 0 where
  -- a read of 28 bytes, and one of an item that is not there
  pub consistent_read : read_halves Consistent 28 ≡ 2
  pub absent_read : read_halves Eventual 0 ≡ 1
  -- a piece, and one byte more
  pub one_piece : read_halves Eventual 4096 ≡ 1
  pub eventual_read : read_halves Eventual 4097 ≡ 2
  pub consistent_read_beyond : read_halves Consistent 4097 ≡ 4
  pub transact_read : read_halves Transact 4097 ≡ 8
  -- the same of writes
  pub one_piece_written : write_halves Eventual 1024 ≡ 2
  pub write : write_halves Eventual 1025 ≡ 4
  -- a transaction of two puts of 100 bytes
  pub transact_writes : write_halves Transact 100 + write_halves Transact 100 ≡ 8
  -- texts
  pub half : units 1 ≡ codes "0.5"
  pub one : units 2 ≡ codes "1.0"
  pub four : units 8 ≡ codes "4.0"
  pub ten_and_a_half : units 21 ≡ codes "10.5"
