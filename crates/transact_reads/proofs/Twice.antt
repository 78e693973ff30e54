-- Items looked for one after the other among those before.
use Rattle.std.proofs.Common.{◌≡◌, refl, sym, ap, ◌∙◌, Bool, true, false, ◌||◌, ◌&&◌, not, cond, List, [], ◌∷◌}
use Rattle.std.specs.List.{list_any}
use Rattle.std.specs.Ordering.{nat_cmp, ordering_then, is_eq}
use Rattle.std.specs.declared.cmp.Ordering.{Ordering}
use Rattle.std.specs.declared.cmp.Ordering.TheVariants.{Less, Equal, Greater}
use Rattle.std.specs.Cmp.Lexicographic.{slice_cmp}
use Rattle.std.proofs.lemmas.Map.Text.{is_eq-slice_cmp}
use Rattle.row_keys.specs.Keys.{row_order}
use Rattle.table_model.specs.Transactions.{Target, is_one, has_repeat}
use Rattle.transact_reads.specs.declared.targets.Spot.{Spot}
use Rattle.transact_reads.specs.Spots.{holds}

or_within : (a s r : Bool) → ((a || s) || r) ≡ (s || (a || r))
or_within true true r = refl
or_within true false r = refl
or_within false s r = refl

any_either : (p q new : Target → Bool) (ts : List Target) → ((t : Target) → new t ≡ (p t || q t)) → list_any new ts ≡ (list_any p ts || list_any q ts)
any_either p q new [] h = refl
any_either p q new (t ∷ ts) h =
    (λ i. h t i || any_either p q new ts h i) ∙ mixed (p t) (q t) (list_any p ts) (list_any q ts)
  where
    mixed : (a b c d : Bool) → ((a || b) || (c || d)) ≡ ((a || c) || (b || d))
    mixed true b c d = refl
    mixed false true true d = refl
    mixed false true false d = refl
    mixed false false c d = refl

-- one item more is kept, which was not among those before
pub one_more : (seen new : Target → Bool) (t : Target) (rest others : List Target) → rest ≡ t ∷ others → seen t ≡ false
    → ((q : Target) → new q ≡ (is_one t q || seen q)) → (list_any new others || has_repeat others) ≡ (list_any seen rest || has_repeat rest)
one_more seen new t rest others is absent after =
    ap (λ (b : Bool). b || has_repeat others) (any_either (is_one t) seen new others after)
    ∙ or_within (list_any (is_one t) others) (list_any seen others) (has_repeat others)
    ∙ ap (λ (b : Bool). (b || list_any seen others) || has_repeat (t ∷ others)) (sym absent)
    ∙ ap (λ (ts : List Target). list_any seen ts || has_repeat ts) (sym is)

none_seen : (ts : List Target) → list_any (λ t. false) ts ≡ false
none_seen [] = refl
none_seen (t ∷ ts) = none_seen ts

-- at first nothing is kept
pub at_first : (seen : Target → Bool) (ts : List Target) → ((t : Target) → seen t ≡ false) → (list_any seen ts || has_repeat ts) ≡ has_repeat ts
at_first seen ts none =
    ap (λ (b : Bool). b || has_repeat ts) (ap (λ (p : Target → Bool). list_any p ts) (λ i t. none t i) ∙ none_seen ts)

tie : (a b : Ordering) → is_eq (ordering_then a b) ≡ (is_eq a && is_eq b)
tie Less b = refl
tie Equal b = refl
tie Greater b = refl

or_is : (b r : Bool) → cond b true r ≡ (b || r)
or_is true r = refl
or_is false r = refl

-- an item is found in a set where it is one with the item that was put in, or was found before
pub put : (key : Spot) (target : Target) (xs ys : List Spot) → key.table.now ≡ target.name → key.key.now ≡ target.key
    → ((q : Spot) → list_any (λ k. is_eq (ordering_then (slice_cmp nat_cmp q.table.now k.table.now) (row_order q.key.now k.key.now))) ys
    ≡ cond (is_eq (ordering_then (slice_cmp nat_cmp key.table.now q.table.now) (row_order key.key.now q.key.now))) true
    (list_any (λ k. is_eq (ordering_then (slice_cmp nat_cmp q.table.now k.table.now) (row_order q.key.now k.key.now))) xs))
    → (t : Target) → holds ys t ≡ (is_one target t || holds xs t)
put key target xs ys name same after t =
    after (record key { table = record key.table { now = t.name }; key = record key.key { now = t.key } })
    ∙ or_is (is_eq (ordering_then (slice_cmp nat_cmp key.table.now t.name) (row_order key.key.now t.key))) (holds xs t)
    ∙ ap (λ (b : Bool). b || holds xs t)
    (tie (slice_cmp nat_cmp key.table.now t.name) (row_order key.key.now t.key)
    ∙ (λ i. is_eq-slice_cmp (name i) t.name i && is_eq (row_order (same i) t.key)))

not_true : (b : Bool) → true ≡ not b → b ≡ false
not_true true e = absurd (cc)
not_true false e = refl

-- what was told where an item was put in
module _ (key : Spot) (target : Target) (xs : List Spot) (name : key.table.now ≡ target.name) (same : key.key.now ≡ target.key) where
  abbrev found_in : Bool
  found_in = list_any (λ k. is_eq (ordering_then (slice_cmp nat_cmp key.table.now k.table.now) (row_order key.key.now k.key.now))) xs

  held_is : found_in ≡ holds xs target
  held_is = λ i. list_any (λ k. is_eq (ordering_then (slice_cmp nat_cmp (name i) k.table.now) (row_order (same i) k.key.now))) xs

  pub was_out : true ≡ not found_in → holds xs target ≡ false
  was_out e = sym held_is ∙ not_true found_in e
