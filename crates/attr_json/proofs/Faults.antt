-- The first fault of a list or a map: that of its first part, or else that of the others.
use Rattle.std.proofs.Common.{◌≡◌, ℕ, zero, suc, ◌-◌, List, Some, None, Result, Ok, Err, refl, sym, ap, ◌∙◌, arith}
use Rattle.serde_json.specs.Data.{Data, Items, item, Members, member}
use Rattle.attr_value.specs.Tree.{Tree, tree, attribute}
use Rattle.attr_json.specs.declared.fault.JsonFault.{JsonFault}
use Rattle.attr_json.specs.Steps.{and_then, mapped}
use Rattle.attr_json.specs.Values.{value_of, elements_of, attributes_of, deeper, fault_in}

-- what is made of a value has the value's faults
pub fault_mapped : {A B : Type 0} (f : A → B) (r : Result A JsonFault) → fault_in (mapped f r) ≡ fault_in r
fault_mapped f (Ok a) = refl
fault_mapped f (Err fault) = refl

-- the first part is at fault
first_at_fault : {A B C : Type 0} (f : A → B → C) (r : Result A JsonFault) (s : Result B JsonFault) (fault : JsonFault)
    → Some fault ≡ fault_in r → Some fault ≡ fault_in (and_then (λ a. mapped (f a) s) r)
first_at_fault f (Ok a) s fault is = absurd (cc)
first_at_fault f (Err other) s fault is = is

-- the first part is not
first_is_well : {A B C : Type 0} (f : A → B → C) (r : Result A JsonFault) (s : Result B JsonFault)
    → None ≡ fault_in r → fault_in s ≡ fault_in (and_then (λ a. mapped (f a) s) r)
first_is_well f (Ok a) (Ok b) is = refl
first_is_well f (Ok a) (Err fault) is = refl
first_is_well f (Err fault) s is = absurd (cc)

module _ (levels : ℕ) (d : Data) where
  pub element_at_fault : (ds : Items) (fault : JsonFault) → Some fault ≡ fault_in (value_of d levels)
      → Some fault ≡ fault_in (elements_of (item d ds) levels)
  element_at_fault ds fault is = first_at_fault tree (value_of d levels) (elements_of ds levels) fault is

  pub element_is_well : (ds : Items) → None ≡ fault_in (value_of d levels) → fault_in (elements_of ds levels) ≡ fault_in (elements_of (item d ds) levels)
  element_is_well ds is = first_is_well tree (value_of d levels) (elements_of ds levels) is

  pub attribute_at_fault : (name : List ℕ) (ms : Members) (fault : JsonFault) → Some fault ≡ fault_in (value_of d levels)
      → Some fault ≡ fault_in (attributes_of (member name d ms) levels)
  attribute_at_fault name ms fault is = first_at_fault (attribute name) (value_of d levels) (attributes_of ms levels) fault is

  pub attribute_is_well : (name : List ℕ) (ms : Members) → None ≡ fault_in (value_of d levels)
      → fault_in (attributes_of ms levels) ≡ fault_in (attributes_of (member name d ms) levels)
  attribute_is_well name ms is = first_is_well (attribute name) (value_of d levels) (attributes_of ms levels) is

-- what lies a level deeper has the faults of its parts, where a level is left
pub fault_deeper : {A : Type 0} (f : A → Tree) (inside : ℕ → Result A JsonFault) (levels : ℕ) → (levels ≡ 0 → ⊥)
    → fault_in (inside (levels - 1)) ≡ fault_in (deeper levels (λ below. mapped f (inside below)))
fault_deeper f inside zero some = absurd (some refl)
fault_deeper f inside (suc below) some =
    let e : suc below - 1 ≡ below = omega arith in
    ap (λ n. fault_in (inside n)) e ∙ sym (fault_mapped f (inside below))
