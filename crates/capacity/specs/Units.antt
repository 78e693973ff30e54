-- What reads and writes count for, in halves of a unit, and how units are printed (Developer Guide: Capacity unit
-- consumption).
use Rattle.std.specs.Prelude.{ℕ, ◌-◌, ◌^◌, ◌*◌, ◌/◌, ◌%◌, ◌==◌, min, max, List, ◌++◌, codes, decimal, if◌then◌else◌}
use Rattle.std.specs.Int.{div_ceil}
use Rattle.capacity.specs.declared.halves.Mode.{Mode}
use Rattle.capacity.specs.declared.halves.Mode.TheVariants as mode

-- a sum, which counts as the last number of 64 bits where it is more
abbrev pub counted : ℕ → ℕ
counted sum = min sum (2 ^ 64 - 1)

-- how many pieces of this size so many bytes begin, and one where there is none
abbrev pub pieces : ℕ → ℕ → ℕ
pieces size bytes = max 1 (div_ceil bytes size)

-- of a read
abbrev pub read_halves : Mode → ℕ → ℕ
read_halves mode.Eventual bytes = pieces 4096 bytes
read_halves mode.Consistent bytes = 2 * pieces 4096 bytes
read_halves mode.Transact bytes = 4 * pieces 4096 bytes

-- of a write
abbrev pub write_halves : Mode → ℕ → ℕ
write_halves mode.Transact bytes = 4 * pieces 1024 bytes
write_halves other bytes = 2 * pieces 1024 bytes

-- halves as a number of units
abbrev pub units : ℕ → List ℕ
units halves = decimal (halves / 2) ++ (if halves % 2 == 0 then codes ".0" else codes ".5")
