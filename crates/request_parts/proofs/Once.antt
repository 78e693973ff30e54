-- The changes that an object states are of attributes with names of their own, since the names of its members ascend.
use Rattle.std.proofs.Common.{◌≡◌, ◌≢◌, ℕ, List, [], ◌∷◌, map, All, AllPairs, String, Global, string_bytes, sym, ap, subst, ◌∙◌, nat_cmp, arith}
use Rattle.std.specs.declared.cmp.Ordering.{Ordering}
use Rattle.std.specs.declared.cmp.Ordering.TheVariants.{Less, Equal, Greater}
use Rattle.std.specs.Cmp.{tied_itself}
use Rattle.std.specs.Cmp.Lexicographic.{slice_cmp, nat_list_cmp_total}
use Rattle.std.specs.Map.{keys_of}
use Rattle.std.specs.List.Sorted.{IsStrictlySortedBy}
use Rattle.std.proofs.lemmas.List.Elements.{All-cons, All-nil}
use Rattle.std.proofs.lemmas.List.Kept.{AllPairs-cons}
use Rattle.std.proofs.lemmas.Map.Keys.{sorted_head, sorted_tail}
use Rattle.serde_json.specs.View.{members_view}
use Rattle.serde_json.specs.declared.value.Value.{Value}
use Rattle.legacy_params.specs.declared.part.LegacyChange.{LegacyChange}
use Rattle.request_parts.specs.Legacy.{ShownChange, changes_in, shown_change}

-- a member of an object, as the code keeps it
abbrev pub Entry : Type 0
Entry = String Global × Value

abbrev order : String Global → String Global → Ordering
order a b = slice_cmp nat_cmp (string_bytes a) (string_bytes b)

-- each key is above the name
abbrev Above : List ℕ → List (String Global) → Type 0
Above n [] = Unit {0}
Above n (k ∷ ks) = (slice_cmp nat_cmp n (string_bytes k) ≡ Less) × Above n ks

first_name : List ShownChange → List ℕ
first_name [] = []
first_name (c ∷ cs) = c.name

behind : List ShownChange → List ShownChange
behind [] = []
behind (c ∷ cs) = cs

not_both : (o : Ordering) → o ≡ Less → o ≡ Equal → ⊥
not_both Less a b = cc
not_both Equal a b = cc
not_both Greater a b = cc

-- a name is not one that is above it
differs : (n m k : List ℕ) → slice_cmp nat_cmp n k ≡ Less → m ≡ k → n ≢ m
differs n m k less is same =
    not_both (slice_cmp nat_cmp n n) (subst (λ x. slice_cmp nat_cmp n x ≡ Less) (sym (same ∙ is)) less) (tied_itself nat_list_cmp_total n)

above : (n : List ℕ) (cs : List LegacyChange) (es : List Entry) → Above n (keys_of es) → map shown_change cs ≡ changes_in (members_view es)
    → All (λ c. n ≢ c.name) cs
unfolding first_name behind
above n [] es keys is = All-nil (λ c. n ≢ c.name)
above n (c ∷ cs) [] keys is = absurd (cc)
above n (c ∷ cs) (e ∷ es) keys is =
    All-cons (λ c. n ≢ c.name) c cs (differs n c.name (string_bytes e.0) keys.0 (ap first_name is)) (above n cs es keys.1 (ap behind is))

moved : (c : LegacyChange) (e : Entry) (es : List Entry) → c.name ≡ string_bytes e.0 → Above (string_bytes e.0) (keys_of es) → Above c.name (keys_of es)
moved c e es is keys = subst (λ n. Above n (keys_of es)) (sym is) keys

pub once : (cs : List LegacyChange) (es : List Entry) → IsStrictlySortedBy order (keys_of es) → map shown_change cs ≡ changes_in (members_view es)
    → AllPairs (λ one other. one.name ≢ other.name) cs
unfolding first_name behind
once [] es ordered is = λ i j d lt within. absurd (omega arith)
once (c ∷ cs) [] ordered is = absurd (cc)
once (c ∷ cs) (e ∷ es) ordered is =
    AllPairs-cons (λ one other. one.name ≢ other.name) c cs
    (above c.name cs es (moved c e es (ap first_name is) (sorted_head order e.0 (keys_of es) ordered)) (ap behind is))
    (once cs es (sorted_tail order e.0 (keys_of es) ordered) (ap behind is))
