-- Segments of a Scan (API Reference: Scan, Segment).
use Rattle.std.specs.Prelude.{ℕ, ◌+◌, ◌*◌, ◌^◌, Bool, ◌&&◌, nat_le, nat_lt}

-- the places are cut into `total` parts of one length, and this is one of that part
abbrev pub is_at_segment : ℕ → ℕ → ℕ → Bool
is_at_segment segment total place =
    nat_le (segment * 2 ^ 64) (place * total) && nat_lt (place * total) ((segment + 1) * 2 ^ 64)
