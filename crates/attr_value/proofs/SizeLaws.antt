-- Sums that stop at a limit, and how a list or a map weighs without its first entry.
use Rattle.std.proofs.Common.{◌≡◌, ℕ, ◌+◌, List, [], ◌∷◌, length, min, max, refl, arith}
use Rattle.attr_value.specs.Sizes.{attribute_count}
use Rattle.attr_value.specs.View.{attributes_of}
use Rattle.attr_value.proofs.Views.{Entry}

pub saturates : (t s w n m : ℕ) → min (min (min (t + min s m) m + n) m + w) m ≡ min (t + (n + s + w)) m
saturates t s w n m = omega arith

pub deepens : (t s w m : ℕ) → max (max t (min s m)) (min w m) ≡ max t (min (max s w) m)
deepens t s w m = omega arith

pub attribute_count-length : (es : List Entry) → attribute_count (attributes_of es) ≡ length es
attribute_count-length [] = refl
attribute_count-length (e ∷ es) = omega (arith, attribute_count-length es)
