use Rattle.std.proofs.Common.{◌≡◌, ◌*◌, ◌^◌, IsTrue, SomeIff, IsSome, Option, Some, None, ◌∙◌, ℕ, refl, sym, ap, subst, arith}
use Rattle.number38.specs.Number.{is_in_range}
use Rattle.number38.specs.Scaled.{magnitude}
use Rattle.number38.proofs.RangeLaws.{is_in_range_from, least_le, whole_below_limit}
use Rattle.number38.proofs.number.from_u64.Goals as goal

IsSome-from_SomeIff : {A P : Type 0} (v : A) (o : Option A) → SomeIff o P v → P → IsSome o
IsSome-from_SomeIff v None h p = absurd (h p)
IsSome-from_SomeIff v (Some x) h p = refl

pub unwrap-requires : goal.unwrap-requires
unwrap-requires c =
    let n = c.args.n in
    let inside : IsTrue (is_in_range (n * 10 ^ 167)) = is_in_range_from (n * 10 ^ 167) (least_le 0 167 n (omega arith) (omega arith)) (whole_below_limit n (omega arith)) in
    let same : magnitude c.stripped.result ≡ n * 10 ^ 167 = c.stripped.ensures.same ∙ ap (λ (x : ℕ). x * 10 ^ 167) c.from.ensures in
    IsSome-from_SomeIff _ c.in_range.result c.in_range.ensures (subst (λ (x : ℕ). IsTrue (is_in_range x)) (sym same) inside)
