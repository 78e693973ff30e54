-- Sums that stop at a limit, and depths that stop at the most of a number, part by part.
use Rattle.std.proofs.Common.{◌≡◌, ℕ, ◌+◌, ◌-◌, ◌^◌, ◌<◌, ◌≤◌, min, max, arith}

-- one part more: of what was to come, w, the part has x and the rest has r
pub counted : (a part x r w whole limit new : ℕ) → a ≤ limit → part ≡ min x (limit - a) → w ≡ x + r → min (a + w) limit ≡ min whole limit
    → limit < 2 ^ 64 → new ≡ min (a + part) (2 ^ 64 - 1) → (new ≤ limit) × (min (new + r) limit ≡ min whole limit)
counted a part x r w whole limit new within is split sum fits made = (omega (arith, within, is, fits, made), omega (arith, within, is, split, sum, fits, made))

pub deepened : (a part x r w whole most new : ℕ) → part ≡ min x most → w ≡ max x r → max a (min w most) ≡ min whole most → new ≡ max a part
    → max new (min r most) ≡ min whole most
deepened a part x r w whole most new is split deepest made = omega (arith, is, split, deepest, made)

-- the last part, behind which nothing is to come
pub counted_last : (a part x w kept whole limit new : ℕ) → a ≤ limit → part ≡ min x (limit - a) → w ≡ 0 → min (a + w) limit ≡ min kept limit → whole ≡ kept + x
    → limit < 2 ^ 64 → new ≡ min (a + part) (2 ^ 64 - 1) → new ≡ min whole limit
counted_last a part x w kept whole limit new within is none sum split fits made = omega (arith, within, is, none, sum, split, fits, made)

pub deepened_last : (a part x w kept whole most new : ℕ) → part ≡ min x most → w ≡ 0 → max a (min w most) ≡ min kept most → whole ≡ max kept x → new ≡ max a part
    → new ≡ min whole most
deepened_last a part x w kept whole most new is none deepest split made = omega (arith, is, none, deepest, split, made)
