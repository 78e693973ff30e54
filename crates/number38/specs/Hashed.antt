-- What a number gives a hasher.
use Rattle.std.specs.Prelude.{◌≡◌, ℤ, ◌++◌, IsTrue}
use Rattle.std.proofs.Common.{ap}
use Rattle.std.specs.Hash as fed
use Rattle.std.specs.Hash.{HashWrites}
use Rattle.std.specs.Ordering.{int_eq}
use Rattle.number38.specs.Number.{canonical}
use Rattle.number38.specs.NumberLaws.{same_from_int_eq}
use Rattle.number38.specs.declared.number.Number.TheInside.{Inside}

-- the sign, the coefficient and the exponent
abbrev pub fields_writes : Inside → HashWrites
fields_writes a = fed.bool a.negative ++ (fed.u128 a.coefficient ++ fed.i16 a.exponent)

abbrev pub hash_writes : ℤ → HashWrites
hash_writes z = fields_writes (canonical z)

pub hash_writes-same : (x y : ℤ) → IsTrue (int_eq x y) → hash_writes x ≡ hash_writes y
hash_writes-same x y h = ap hash_writes (same_from_int_eq x y h)
