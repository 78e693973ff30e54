-- The only member of an object, told by how many there are and by the first.
use Rattle.std.proofs.Common.{◌≡◌, ℕ, List, [], ◌∷◌, length, slice_get, Some, Err, refl}
use Rattle.serde_json.specs.View.{members_view}
use Rattle.attr_json.specs.declared.fault.JsonFault.TheVariants.{NotOneMember}
use Rattle.attr_json.specs.Values.{only_of}
use Rattle.attr_json.proofs.Members.{Entry}

pub first_alone : (es : List Entry) (e : Entry) → length es ≡ 1 → slice_get es 0 ≡ Some e → es ≡ e ∷ []
first_alone [] e one first = absurd (cc)
first_alone (x ∷ []) e one first = cc
first_alone (x ∷ y ∷ es) e one first = absurd (cc)

pub not_one : (es : List Entry) (levels : ℕ) → (length es ≡ 1 → ⊥) → only_of (members_view es) levels ≡ Err NotOneMember
not_one [] levels many = refl
not_one (e ∷ []) levels many = absurd (many refl)
not_one (x ∷ y ∷ es) levels many = refl
