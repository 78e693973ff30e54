-- The least fault of several.
use Rattle.std.proofs.Common.{◌≡◌, Bool, true, false, nat_le, cond, Option, None, Some, refl, sym, ap, ◌∙◌, arith}
use Rattle.std.proofs.lemmas.Bool.Decides.{nat_tests}
use Rattle.legacy_params.specs.declared.fault.LegacyFault.{LegacyFault}
use Rattle.legacy_params.specs.Faults.{number, least}

pub least_none : (a : Option LegacyFault) → least a None ≡ a
least_none None = refl
least_none (Some a) = refl

-- where two tests on numbers are told, so is the third
by_tests : (a b c : LegacyFault) (ab bc ac : Bool) → nat_le (number a) (number b) ≡ ab → nat_le (number b) (number c) ≡ bc → nat_le (number a) (number c) ≡ ac
    → least (cond ab (Some a) (Some b)) (Some c) ≡ least (Some a) (cond bc (Some b) (Some c))
by_tests a b c true true true p q r = grind arith
by_tests a b c true true false p q r = absurd (grind (arith, nat_tests))
by_tests a b c true false ac p q r = refl
by_tests a b c false true ac p q r = grind arith
by_tests a b c false false true p q r = absurd (grind (arith, nat_tests))
by_tests a b c false false false p q r = grind arith

pub least_assoc : (a b c : Option LegacyFault) → least (least a b) c ≡ least a (least b c)
least_assoc None b c = refl
least_assoc (Some a) None c = refl
least_assoc (Some a) (Some b) None = least_none (least (Some a) (Some b))
least_assoc (Some a) (Some b) (Some c) = by_tests a b c _ _ _ refl refl refl

-- the next fault, of those that are left
pub one_more : (first new fault rest left : Option LegacyFault) → new ≡ least first fault → left ≡ least fault rest → least new rest ≡ least first left
one_more first new fault rest left made is = ap (λ a. least a rest) made ∙ least_assoc first fault rest ∙ ap (least first) (sym is)
