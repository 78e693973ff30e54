-- The order of stamps.
use Rattle.std.proofs.Common.{◌≡◌, true, arith}
use Rattle.std.proofs.lemmas.Bool.Decides.{nat_tests}
use Rattle.txn_core.specs.declared.stamp.Stamp.{Stamp}
use Rattle.txn_core.specs.Stamps.{earlier, later, IsBy}

pub by_itself : (s : Stamp) → IsBy s s
by_itself s = grind (arith, nat_tests)

pub by_earlier : (s t : Stamp) → earlier s t ≡ true → IsBy s t
by_earlier s t h = grind (arith, nat_tests)

pub by_left : (t s u : Stamp) → IsBy t s → IsBy t (later s u)
by_left t s u h = grind (arith, nat_tests)

pub by_right : (t s u : Stamp) → IsBy t u → IsBy t (later s u)
by_right t s u h = grind (arith, nat_tests)

pub by_before : (s t u : Stamp) → IsBy s t → earlier t u ≡ true → earlier s u ≡ true
by_before s t u h k = grind (arith, nat_tests)
