-- Keys that compare alike are one.
use Rattle.std.specs.Prelude.{◌≡◌, ℕ, true, refl, Option, None, Some}
use Rattle.std.specs.declared.cmp.Ordering.{Ordering}
use Rattle.std.specs.declared.cmp.Ordering.TheVariants.{Less, Equal, Greater}
use Rattle.std.specs.Option.{option_cmp}
use Rattle.std.specs.Ordering.{nat_cmp, ordering_then, is_eq}
use Rattle.std.specs.Cmp.{IsTotalOrder, nat_cmp_total, unsigned_ties, eq_by_cmp_equiv}
use Rattle.std.specs.Cmp.Lexicographic.{options_total}
use Rattle.std.proofs.Common.{ap, ◌∙◌, arith}
use Rattle.std.proofs.lemmas.Bool.{eqb-true}
use Rattle.std.proofs.lemmas.Cmp.{on_total, then_total}
use Rattle.case_rules.specs.declared.key.Name.{Name}
use Rattle.case_rules.specs.declared.key.Name.TheVariants.{Orders, Payments}
use Rattle.case_rules.specs.declared.key.Key.{Key}
use Rattle.case_rules.specs.Keys.{rank, key_cmp, same_key, same_name}

pub keys_total : IsTotalOrder key_cmp
keys_total =
    then_total (on_total (λ k. rank k.name) nat_cmp_total)
    (then_total (on_total (λ k. k.table) nat_cmp_total)
    (then_total (on_total (λ k. k.customer) (options_total nat_cmp_total)) (on_total (λ k. k.number) nat_cmp_total)))

pub same_itself : (x : Key) → same_key x x ≡ true
same_itself x = (eq_by_cmp_equiv keys_total).refl x

-- what is equal by two orders is equal by each
pub both : (o p : Ordering) → is_eq (ordering_then o p) ≡ true → (is_eq o ≡ true) × (is_eq p ≡ true)
both Less p e = absurd (cc)
both Equal p e = (refl, e)
both Greater p e = absurd (cc)

numbers_exact : (n m : ℕ) → is_eq (nat_cmp n m) ≡ true → n ≡ m
numbers_exact n m e = eqb-true n m (unsigned_ties n m ∙ e)

options_exact : (a b : Option ℕ) → is_eq (option_cmp nat_cmp a b) ≡ true → a ≡ b
options_exact None None e = refl
options_exact None (Some m) e = absurd (cc)
options_exact (Some n) None e = absurd (cc)
options_exact (Some n) (Some m) e = ap (λ z. Some z) (numbers_exact n m e)

ranks_exact : (a b : Name) → rank a ≡ rank b → a ≡ b
ranks_exact Orders Orders e = refl
ranks_exact Orders Payments e = absurd (omega arith)
ranks_exact Payments Orders e = absurd (omega arith)
ranks_exact Payments Payments e = refl

-- what keys are compared by, behind the name and behind the table
abbrev by_customer : Key → Key → Ordering
by_customer x y = ordering_then (option_cmp nat_cmp x.customer y.customer) (nat_cmp x.number y.number)

abbrev by_table : Key → Key → Ordering
by_table x y = ordering_then (nat_cmp x.table y.table) (by_customer x y)

-- keys that compare alike are one
pub same_is : (x y : Key) → same_key x y ≡ true → x ≡ y
same_is x y e =
    let a = both (nat_cmp (rank x.name) (rank y.name)) (by_table x y) e in
    let b = both (nat_cmp x.table y.table) (by_customer x y) a.1 in
    let c = both (option_cmp nat_cmp x.customer y.customer) (nat_cmp x.number y.number) b.1 in
    let name = ranks_exact x.name y.name (numbers_exact (rank x.name) (rank y.name) a.0) in
    let table = numbers_exact x.table y.table b.0 in
    let customer = options_exact x.customer y.customer c.0 in
    let number = numbers_exact x.number y.number c.1 in
    λ i. record { name = name i; table = table i; customer = customer i; number = number i }

pub name_is : (a b : Name) → same_name a b ≡ true → a ≡ b
name_is Orders Orders e = refl
name_is Payments Payments e = refl
name_is _ _ e = absurd (cc)
