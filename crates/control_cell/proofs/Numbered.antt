-- The numbers that are begun and not done, as a ledger lists them and as the state has them.
use Rattle.std.specs.Ordering.{nat_cmp, eq_by_cmp}
use Rattle.std.specs.declared.cmp.Ordering.TheVariants.{Less}
use Rattle.std.specs.BTreeMap.{IsOrdered}
use Rattle.std.specs.Cmp.{nat_cmp_is, eq_by_cmp_equiv}
use Rattle.std.specs.List.{AllByRecursion, list_any, filter}
use Rattle.std.specs.List.Sorted.{IsStrictlySortedBy}
use Rattle.std.specs.Map.{keys_of}
use Rattle.std.proofs.Common.{◌≡◌, ℕ, zero, suc, ◌<◌, ◌≤◌, Bool, true, false, not, ◌&&◌, ◌||◌, nat_eq, nat_le, nat_lt, List, [], ◌∷◌, ◌++◌, Option, None, Some, is_some, if◌then◌else◌, inl, inr, true≢false, refl, sym, ap, ◌∙◌, arith}
use Rattle.std.proofs.lemmas.Bool.{cases_Bool, cond_both, eqb-true, eqb-false, ltb-true, ltb-false, lt-ltb}
use Rattle.std.proofs.Math.Bool.{and-false}
use Rattle.std.proofs.lemmas.Cmp.{nat_cmp_total}
use Rattle.std.proofs.lemmas.List.Folds.{list_any-append}
use Rattle.std.proofs.lemmas.List.Kept.{IsStrictlySortedBy-filter}
use Rattle.std.proofs.lemmas.Map.Entries.{option_filter, lookup-filter-values}
use Rattle.std.proofs.lemmas.Map.Keys.{IsDistinct-from_sorted}
use Rattle.std.proofs.lemmas.Map.Lookups.{btree_set_from_contains, exact_unsigned}
use Rattle.std.proofs.lemmas.Map.Made.{is_some-lookup, is_member-filter}
use Rattle.txn_core.specs.Answers.{KeptToken, numbers_below, unfinished}
use Rattle.txn_core.specs.State.{Ledger}
use Rattle.txn_ledger.specs.declared.record.Record.{Record}
use Rattle.txn_ledger.specs.declared.ledger.TxnLedger.{TxnLedger}
use Rattle.txn_ledger.specs.Contents.{record_at}
use Rattle.txn_ledger.specs.Records.{unfinished_in}
use Rattle.control_cell.specs.Keeping.{Keeps}
use Rattle.control_cell.proofs.Altered.{at_is}

-- two numbers are one by the test of a map
abbrev same : ℕ → ℕ → Bool
same x y = eq_by_cmp nat_cmp x y

less_is : (x y : ℕ) → x < y → nat_cmp x y ≡ Less
less_is x y lt = sym (nat_cmp_is x y Less lt)

-- a list with one more
all_more : {X : Type 0} (P : X → Type 0) (xs : List X) (y : X) → AllByRecursion P xs → P y → AllByRecursion P (xs ++ y ∷ [])
all_more P [] y all last = (last, all)
all_more P (x ∷ xs) y all last = (all.0, all_more P xs y all.1 last)

all_weaker : {X : Type 0} (P Q : X → Type 0) → ((x : X) → P x → Q x) → (xs : List X) → AllByRecursion P xs → AllByRecursion Q xs
all_weaker P Q h [] all = all
all_weaker P Q h (x ∷ xs) all = (h x all.0, all_weaker P Q h xs all.1)

sorted_more :
    (xs : List ℕ) (n : ℕ) → IsStrictlySortedBy nat_cmp xs → AllByRecursion (λ x. x < n) xs → IsStrictlySortedBy nat_cmp (xs ++ n ∷ [])
unfolding IsStrictlySortedBy
sorted_more [] n sorted below = (sorted, sorted)
sorted_more (x ∷ xs) n sorted below =
    (all_more (λ y. nat_cmp x y ≡ Less) xs n sorted.0 (less_is x n below.0), sorted_more xs n sorted.1 below.1)

all_below : (n : ℕ) → AllByRecursion (λ x. x < n) (numbers_below n)
all_below zero = tt
all_below (suc n) =
    all_more (λ x. x < suc n) (numbers_below n) n (all_weaker (λ x. x < n) (λ x. x < suc n) (λ x lt. omega arith) (numbers_below n) (all_below n))
    (omega arith)

below_sorted : (n : ℕ) → IsStrictlySortedBy nat_cmp (numbers_below n)
unfolding IsStrictlySortedBy
below_sorted zero = tt
below_sorted (suc n) = sorted_more (numbers_below n) n (below_sorted n) (all_below n)

same_is : (x y : ℕ) → same x y ≡ nat_eq x y
same_is x y = at_is x y

-- a number is among those below n
among_more : (q n : ℕ) → (nat_lt q n || (same q n || false)) ≡ nat_lt q (suc n)
among_more q n = elim (cases_Bool (nat_lt q n)) [
  | inl e ↦
      let lt : q < n = ltb-true q n e in
      ap (λ b. b || (same q n || false)) e ∙ sym (lt-ltb q (suc n) (omega arith))
  | inr e ↦
      let ge : n ≤ q = ltb-false q n e in
      ap (λ b. b || (same q n || false)) e
      ∙ elim (cases_Bool (nat_eq q n)) [
        | inl h ↦
            let one : q ≡ n = eqb-true q n h in
            ap (λ b. b || false) (same_is q n ∙ h) ∙ sym (lt-ltb q (suc n) (omega arith))
        | inr h ↦
            ap (λ b. b || false) (same_is q n ∙ h)
            ∙ elim (cases_Bool (nat_lt q (suc n))) [
              | inl k ↦
                  let lt : q < suc n = ltb-true q (suc n) k in
                  let one : q ≡ n = omega arith in
                  absurd (eqb-false q n h one)
              | inr k ↦ sym k
            ]
      ]
]

among_below : (q n : ℕ) → list_any (same q) (numbers_below n) ≡ nat_lt q n
among_below q zero = elim (cases_Bool (nat_lt q zero)) [
  | inl e ↦ let lt : q < zero = ltb-true q zero e in absurd (omega arith)
  | inr e ↦ sym e
]
among_below q (suc n) =
    list_any-append (same q) (numbers_below n) (n ∷ []) ∙ ap (λ b. b || (same q n || false)) (among_below q n) ∙ among_more q n

module _ {X : Type 0} where
  all_kept :
      (P : ℕ → Type 0) (p : ℕ × X → Bool) (es : List (ℕ × X)) → AllByRecursion P (keys_of es) → AllByRecursion P (keys_of (filter p es))
  all_kept P p [] all = all
  all_kept P p (e ∷ es) all =
      cond_both (p e) (e ∷ filter p es) (filter p es) (λ xs. AllByRecursion P (keys_of xs)) (λ _. (all.0, all_kept P p es all.1))
      (λ _. all_kept P p es all.1)

  sorted_kept :
      (p : ℕ × X → Bool) (es : List (ℕ × X)) → IsStrictlySortedBy nat_cmp (keys_of es) → IsStrictlySortedBy nat_cmp (keys_of (filter p es))
  unfolding IsStrictlySortedBy
  sorted_kept p [] sorted = sorted
  sorted_kept p (e ∷ es) sorted =
      cond_both (p e) (e ∷ filter p es) (filter p es) (λ xs. IsStrictlySortedBy nat_cmp (keys_of xs))
      (λ _. (all_kept (λ y. nat_cmp e.0 y ≡ Less) p es sorted.0, sorted_kept p es sorted.1))
      (λ _. sorted_kept p es sorted.1)

-- whether a number is listed, by what is known of it
not_listed :
    (le lt gone done : Bool) → (gone ≡ true → done ≡ true) → (le && (lt && not gone)) ≡ false → false ≡ (lt && (le && not done))
not_listed true true true done h e = sym (ap not (h refl))
not_listed true true false done h e = absurd (true≢false e)
not_listed true false gone done h e = refl
not_listed false lt gone done h e = sym (and-false lt)

listed : (le lt gone done : Bool) → (le && (lt && not gone)) ≡ true → not done ≡ (lt && (le && not done))
listed true true gone done e = refl
listed true false gone done e = absurd (true≢false (sym e))
listed false lt gone done e = absurd (true≢false (sym e))

module _ {A Q : Type 0} where
  open_by :
      (l : Ledger A) (rs : ℕ → List Q) (kept : List ℕ → Option (KeptToken A)) (ledger : TxnLedger A Q) → Keeps l rs kept ledger → (q : ℕ)
      (o : Option (Record A Q)) → record_at ledger q ≡ o
      → is_some (option_filter (λ r. not r.done) o) ≡ (nat_lt q l.next && (nat_le 1 q && not (l.done q)))
  open_by l rs kept ledger h q None is =
      not_listed (nat_le 1 q) (nat_lt q l.next) (l.gone q) (l.done q) (h.gone_are_done q) (sym (h.recorded q) ∙ ap is_some is)
  open_by l rs kept ledger h q (Some r) is =
      some_open (not r.done) r ∙ ap not (h.records q r is).done_is
      ∙ listed (nat_le 1 q) (nat_lt q l.next) (l.gone q) (l.done q) (sym (h.recorded q) ∙ ap is_some is)
    where
      some_open : (b : Bool) (r : Record A Q) → is_some (if b then Some r else None) ≡ b
      some_open true r = refl
      some_open false r = refl

  pub unfinished_are :
      (l : Ledger A) (rs : ℕ → List Q) (kept : List ℕ → Option (KeptToken A)) (ledger : TxnLedger A Q) → Keeps l rs kept ledger
      → IsOrdered nat_cmp ledger.records → unfinished_in ledger.records.entries ≡ unfinished l
  unfinished_are l rs kept ledger h ordered =
      let es = ledger.records.entries in
      let open_one : Record A Q → Bool = λ r. not r.done in
      let test : ℕ → Bool = λ n. nat_le 1 n && not (l.done n) in
      btree_set_from_contains nat_cmp_total (record { keys = unfinished_in es }) (record { keys = unfinished l })
      (sorted_kept (λ e. open_one e.1) es ordered) (IsStrictlySortedBy-filter nat_cmp test (numbers_below l.next) (below_sorted l.next))
      (λ q.
      sym (is_some-lookup (same q) (filter (λ e. open_one e.1) es))
      ∙ ap is_some (lookup-filter-values (eq_by_cmp_equiv nat_cmp_total) open_one q es (IsDistinct-from_sorted nat_cmp (keys_of es) ordered))
      ∙ open_by l rs kept ledger h q (record_at ledger q) refl
      ∙ sym
      (is_member-filter (eq_by_cmp_equiv nat_cmp_total) test q (λ x e. ap test (eqb-true q x (sym (same_is q x) ∙ e))) (numbers_below l.next)
      ∙ ap (λ b. b && test q) (among_below q l.next)))
      exact_unsigned
