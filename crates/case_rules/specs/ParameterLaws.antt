-- Actions that pass their test are one, so to have the same parameters is an equivalence.
use Rattle.std.specs.Prelude.{◌≡◌, ℕ, Bool, true, ◌&&◌, nat_eq, refl, List, [], ◌∷◌, Option, None, Some}
use Rattle.std.specs.Option.{option_eq}
use Rattle.std.specs.Cmp.{IsEquivalence}
use Rattle.std.specs.Cmp.Lexicographic.{lists_equiv}
use Rattle.std.proofs.Common.{ap, sym, ◌∙◌, inl, inr}
use Rattle.std.proofs.lemmas.Bool.{cases_Bool, and_parts, and_from, eqb-true, eq-eqb}
use Rattle.case_rules.specs.declared.item.Item.{Item}
use Rattle.case_rules.specs.declared.action.Condition.{Condition}
use Rattle.case_rules.specs.declared.action.Condition.TheVariants.{Always, Absent, Holds}
use Rattle.case_rules.specs.declared.action.Deed.{Deed}
use Rattle.case_rules.specs.declared.action.Deed.TheVariants.{Put, Take, Delete, Check}
use Rattle.case_rules.specs.declared.action.Action.{Action}
use Rattle.case_rules.specs.Keys.{same_key}
use Rattle.case_rules.specs.KeyLaws.{same_itself, same_is}
use Rattle.case_rules.specs.Parameters.{same_item, same_condition, same_deed, same_action, same_actions}

-- a test that only what is one passes is an equivalence
exact_equiv :
    {X : Type 0} (E : X → X → Bool) → ((x : X) → E x x ≡ true) → ((x y : X) → E x y ≡ true → x ≡ y) → IsEquivalence E
exact_equiv {X} E itself exact =
    record { refl = itself; symm = turned; congr = λ x y z e. ap (λ w. E w z) (exact x y e) }
  where
    turned : (x y : X) → E x y ≡ E y x
    turned x y = elim (cases_Bool (E x y)) [
      | inl e ↦ e ∙ sym (ap (λ z. E y z) (exact x y e) ∙ itself y)
      | inr e ↦ elim (cases_Bool (E y x)) [
        | inl f ↦ let g = ap (λ z. E x z) (exact y x f) ∙ itself x in absurd (cc)
        | inr f ↦ e ∙ sym f
      ]
    ]

number_itself : (a : Option ℕ) → option_eq nat_eq a a ≡ true
number_itself None = refl
number_itself (Some n) = eq-eqb n n refl

number_is : (a b : Option ℕ) → option_eq nat_eq a b ≡ true → a ≡ b
number_is None None e = refl
number_is None (Some m) e = absurd (cc)
number_is (Some n) None e = absurd (cc)
number_is (Some n) (Some m) e = ap (λ z. Some z) (eqb-true n m e)

pub item_itself : (x : Item) → same_item x x ≡ true
item_itself x =
    and_from (option_eq nat_eq x.customer x.customer) (nat_eq x.amount x.amount && option_eq nat_eq x.expires x.expires)
    (number_itself x.customer)
    (and_from (nat_eq x.amount x.amount) (option_eq nat_eq x.expires x.expires) (eq-eqb x.amount x.amount refl)
    (number_itself x.expires))

pub item_is : (x y : Item) → same_item x y ≡ true → x ≡ y
item_is x y e =
    let p = and_parts (option_eq nat_eq x.customer y.customer) (nat_eq x.amount y.amount && option_eq nat_eq x.expires y.expires) e in
    let q = and_parts (nat_eq x.amount y.amount) (option_eq nat_eq x.expires y.expires) p.1 in
    let customer = number_is x.customer y.customer p.0 in
    let amount = eqb-true x.amount y.amount q.0 in
    let expires = number_is x.expires y.expires q.1 in
    λ i. record { customer = customer i; amount = amount i; expires = expires i }

condition_itself : (x : Condition) → same_condition x x ≡ true
condition_itself Always = refl
condition_itself Absent = refl
condition_itself (Holds n) = eq-eqb n n refl

condition_is : (x y : Condition) → same_condition x y ≡ true → x ≡ y
condition_is Always Always e = refl
condition_is Absent Absent e = refl
condition_is (Holds n) (Holds m) e = ap (λ z. Holds z) (eqb-true n m e)
condition_is _ _ e = absurd (cc)

deed_itself : (x : Deed) → same_deed x x ≡ true
deed_itself (Put x) = item_itself x
deed_itself (Take n) = eq-eqb n n refl
deed_itself Delete = refl
deed_itself Check = refl

deed_is : (x y : Deed) → same_deed x y ≡ true → x ≡ y
deed_is (Put x) (Put y) e = ap (λ z. Put z) (item_is x y e)
deed_is (Take n) (Take m) e = ap (λ z. Take z) (eqb-true n m e)
deed_is Delete Delete e = refl
deed_is Check Check e = refl
deed_is _ _ e = absurd (cc)

action_itself : (x : Action) → same_action x x ≡ true
action_itself x =
    and_from (same_key x.key x.key) (same_condition x.condition x.condition && same_deed x.deed x.deed) (same_itself x.key)
    (and_from (same_condition x.condition x.condition) (same_deed x.deed x.deed) (condition_itself x.condition) (deed_itself x.deed))

action_is : (x y : Action) → same_action x y ≡ true → x ≡ y
action_is x y e =
    let p = and_parts (same_key x.key y.key) (same_condition x.condition y.condition && same_deed x.deed y.deed) e in
    let q = and_parts (same_condition x.condition y.condition) (same_deed x.deed y.deed) p.1 in
    let key = same_is x.key y.key p.0 in
    let condition = condition_is x.condition y.condition q.0 in
    let deed = deed_is x.deed y.deed q.1 in
    λ i. record { key = key i; condition = condition i; deed = deed i }

pub actions_equiv : IsEquivalence same_actions
actions_equiv = lists_equiv (exact_equiv same_action action_itself action_is)

pub actions_are : (xs ys : List Action) → same_actions xs ys ≡ true → xs ≡ ys
actions_are [] [] e = refl
actions_are [] (y ∷ ys) e = absurd (cc)
actions_are (x ∷ xs) [] e = absurd (cc)
actions_are (x ∷ xs) (y ∷ ys) e =
    let p = and_parts (same_action x y) (same_actions xs ys) e in
    let first = action_is x y p.0 in
    let rest = actions_are xs ys p.1 in
    λ i. first i ∷ rest i
