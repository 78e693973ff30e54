-- Each word has one pair of halves.
use Rattle.std.proofs.Common.{◌≡◌, ◌+◌, ◌*◌, ◌/◌, ◌%◌, ◌^◌, arith}
use Rattle.number38.specs.declared.halves.Halves.TheInside.{Inside}
use Rattle.number38.specs.Halves.{joined, AreWords, halves_of}

pub halves-joined : (h : Inside) → AreWords h → halves_of (joined h) ≡ h
halves-joined h w =
    let high : (h.high * 2 ^ 64 + h.low) / 2 ^ 64 ≡ h.high = omega (arith, w.low) in
    let low : (h.high * 2 ^ 64 + h.low) % 2 ^ 64 ≡ h.low = omega (arith, w.low) in
    λ i. record { high = high i; low = low i }
