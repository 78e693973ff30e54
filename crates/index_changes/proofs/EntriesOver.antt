-- The entries of a table's items, one item after another, are those of the item that each names.
use Rattle.std.proofs.Common.{◌≡◌, ◌++◌, ◌||◌, Bool, true, false, Less, if◌then◌else◌, List, [], ◌∷◌, Option, None, Some, inl, inr, refl, sym, ap, ◌∙◌}
use Rattle.std.specs.List.{AllByRecursion, list_any}
use Rattle.std.specs.List.Sorted.{IsStrictlySortedBy}
use Rattle.std.specs.Cmp.{IsTotalOrder, tied_itself}
use Rattle.std.specs.Map.{keys_of, lookup}
use Rattle.std.specs.Ordering.{is_eq}
use Rattle.std.specs.BTreeMap.{is_at}
use Rattle.std.specs.declared.cmp.Ordering.{Ordering}
use Rattle.std.proofs.lemmas.Bool.{cases_Bool, cond-false, cond-true}
use Rattle.item_store.specs.declared.slot.Committed.{Committed}
use Rattle.item_store.specs.declared.slot.Slot.{Slot}
use Rattle.item_store.specs.Slots.{item_of, row_of}
use Rattle.local_index.specs.declared.claim.Claim.{Claim}
use Rattle.local_index.specs.declared.claim.Claim.TheVariants.{Committed as Is}
use Rattle.local_index.specs.Claims.{claim_of}
use Rattle.local_index.specs.Entries.{is_among}
use Rattle.index_changes.specs.Entries.{LocalEntries, entries_at}
use Rattle.index_changes.proofs.Basics.{no_both, not_true}

-- one more of a list at its end
any_last : {X : Type 0} (f : X → Bool) (xs : List X) (x : X) → list_any f (xs ++ (x ∷ [])) ≡ (list_any f xs || f x)
any_last f [] x = or_none (f x)
  where
    or_none : (b : Bool) → (b || false) ≡ b
    or_none true = refl
    or_none false = refl
any_last f (y ∷ xs) x = ap (λ b. f y || b) (any_last f xs x) ∙ sym (or_more (f y) (list_any f xs) (f x))
  where
    or_more : (a b c : Bool) → ((a || b) || c) ≡ (a || (b || c))
    or_more true b c = refl
    or_more false b c = refl

-- what is put in place where a test passes, in two steps and in one
in_steps : {X : Type 0} (a b : Bool) (x y : X) → (if a then x else (if b then x else y)) ≡ (if a || b then x else y)
in_steps true b x y = refl
in_steps false b x y = refl

pub popped :
    {N X : Type 0} (f : N → Bool) (whole left : List N) (e : N) (x now more first : X) → (whole ≡ left ++ (e ∷ []))
    → more ≡ (if f e then x else now) → (if list_any f whole then x else now) ≡ first → (if list_any f left then x else more) ≡ first
popped f whole left e x now more first is new so =
    ap (λ y. if list_any f left then x else y) new
    ∙ in_steps (list_any f left) (f e) x now
    ∙ sym (ap (λ b. if b then x else now) (ap (λ l. list_any f l) is ∙ any_last f left e))
    ∙ so

module _ {K V C N : Type 0} (L : LocalEntries K V C N) (cmp : N → N → Ordering) (cat : C) (q : N) where
  -- the entry is among those of what is kept of an item
  abbrev pub is_of : K × Slot V → Bool
  is_of e = is_among cmp (entries_at L cat e.0 (row_of (Some e.1))) q

  abbrev pub some_has : List (K × Slot V) → Bool
  some_has es = list_any is_of es

  -- one item more, which is absent or is this
  module _ (whole rest : List (K × Slot V)) (e : K × Slot V) (is : whole ≡ e ∷ rest) (now first : Option Claim)
      (so : (if some_has whole then Some Is else now) ≡ first) where
    one : (b : Bool) → is_of e ≡ b → (if some_has rest then Some Is else (if b then Some Is else now)) ≡ first
    one b is_b =
        in_steps (some_has rest) b (Some Is) now
        ∙ ap (λ x. if x then Some Is else now) (turned (some_has rest) b ∙ ap (λ x. x || some_has rest) (sym is_b) ∙ sym (ap (λ l. some_has l) is))
        ∙ so
      where
        turned : (a b : Bool) → (a || b) ≡ (b || a)
        turned true true = refl
        turned true false = refl
        turned false true = refl
        turned false false = refl

    pub free : e.1.committed ≡ None → (if some_has rest then Some Is else now) ≡ first
    free none = one false (ap (λ o. is_among cmp (entries_at L cat e.0 (item_of o)) q) none)

    pub entered :
        (more : Option Claim) (x : Committed V) → e.1.committed ≡ Some x
        → more ≡ (if is_among cmp (L.entries cat e.0 x.item) q then Some Is else now)
        → (if some_has rest then Some Is else more) ≡ first
    entered more x is_x new =
        ap (λ y. if some_has rest then Some Is else y) new
        ∙ one (is_among cmp (L.entries cat e.0 x.item) q) (ap (λ o. is_among cmp (entries_at L cat e.0 (item_of o)) q) is_x)

  module _
      (by : K → K → Ordering) (total : IsTotalOrder by) (exact : (x y : K) → is_at (by x) y ≡ true → x ≡ y)
      (named : (k : K) (v : V) → is_among cmp (L.entries cat k v) q ≡ true → k ≡ L.item q) where
    its_item : (k : K) (o : Option V) → is_among cmp (entries_at L cat k o) q ≡ true → k ≡ L.item q
    its_item k None among = absurd (cc)
    its_item k (Some v) among = named k v among

    itself : (k : K) → is_at (by k) k ≡ true
    itself k = ap is_eq (tied_itself total k)

    -- behind the item that it names none has it
    none_behind : (k : K) (es : List (K × Slot V)) → k ≡ L.item q → AllByRecursion (λ y. by k y ≡ Less) (keys_of es) → some_has es ≡ false
    none_behind k [] is above = refl
    none_behind k (e ∷ es) is above =
        (λ j. not_true (is_of e) (λ among. no_both (is_at (by k) k) (itself k)
        (ap (λ z. is_at (by k) z) (is ∙ sym (its_item e.0 (row_of (Some e.1)) among)) ∙ ap is_eq above.0)) j || none_behind k es is above.1 j)

    -- the item that it names has it, or none
    pub of_its_item :
        (es : List (K × Slot V)) → IsStrictlySortedBy by (keys_of es)
        → some_has es ≡ is_among cmp (entries_at L cat (L.item q) (row_of (lookup (is_at (by (L.item q))) es))) q
    unfolding IsStrictlySortedBy
    of_its_item [] rise = refl
    of_its_item (e ∷ es) rise = elim (cases_Bool (is_at (by (L.item q)) e.0)) [
      | inl at ↦
          let is : L.item q ≡ e.0 = exact (L.item q) e.0 at in
          (λ j. is_of e || none_behind e.0 es (sym is) rise.0 j)
          ∙ or_none (is_of e)
          ∙ (λ j. is_among cmp (entries_at L cat (sym is j) (row_of (Some e.1))) q)
          ∙ sym (ap (λ o. is_among cmp (entries_at L cat (L.item q) (row_of o)) q) (cond-true (is_at (by (L.item q)) e.0) (Some e.1) (lookup (is_at (by (L.item q))) es) at))
      | inr apart ↦
          (λ j. not_true (is_of e) (λ among. no_both (is_at (by (L.item q)) e.0)
          (ap (λ z. is_at (by (L.item q)) z) (its_item e.0 (row_of (Some e.1)) among) ∙ itself (L.item q)) apart) j || some_has es)
          ∙ of_its_item es rise.1
          ∙ sym (ap (λ o. is_among cmp (entries_at L cat (L.item q) (row_of o)) q) (cond-false (is_at (by (L.item q)) e.0) (Some e.1) (lookup (is_at (by (L.item q))) es) apart))
    ]
      where
        or_none : (b : Bool) → (b || false) ≡ b
        or_none true = refl
        or_none false = refl

-- an entry that is committed or not there
pub committed_where : (b : Bool) → (if b then Some Is else None) ≡ claim_of b false
committed_where true = refl
committed_where false = refl
