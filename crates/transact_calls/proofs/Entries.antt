-- What is so of each table, as tables are added and found.
use Rattle.std.specs.List.{AllByRecursion}
use Rattle.std.specs.BTreeMap.{is_at, insert_entry}
use Rattle.std.specs.Ordering.{nat_cmp, is_eq, match_ordering}
use Rattle.std.specs.Cmp.{Equal-is}
use Rattle.std.specs.Cmp.Lexicographic.{slice_cmp, nat_list_cmp_total}
use Rattle.std.specs.declared.cmp.Ordering.{Ordering}
use Rattle.std.specs.declared.cmp.Ordering.TheVariants.{Less, Equal, Greater}
use Rattle.std.proofs.Common.{◌≡◌, ℕ, Bool, true, false, cond, List, [], ◌∷◌, ◌++◌, Some, is_some, refl, sym, ap, subst, ◌∙◌}
use Rattle.std.proofs.lemmas.Cmp.{tied_itself}
use Rattle.std.proofs.lemmas.Map.Lookups.{exact_bytes}
use Rattle.numbered_tables.specs.declared.table.NumberedTable.{NumberedTable}
use Rattle.numbered_tables.specs.Tables.{Kept, new_table}
use Rattle.cell_model.specs.declared.answer.TableLook.{TableLook}
use Rattle.table_history.specs.Entries.{TableEvent}
use Rattle.cell_asks.specs.Told.{WasTold}
use Rattle.transact_calls.specs.Known.{known_of, HasAdded, IsKnown, AreKnown}

module _ (P : List ℕ × NumberedTable → Type 0) where
  -- of one more table
  pub all_with : (name : List ℕ) (t : NumberedTable) → P (name, t) → (entries : Kept) → AllByRecursion P entries
      → AllByRecursion P (insert_entry (slice_cmp nat_cmp) entries name t)
  all_with name t here [] all = (here, tt)
  all_with name t here (e ∷ entries) all = by_order (slice_cmp nat_cmp name e.0) refl (all_with name t here entries all.1)
    where
      by_order : (r : Ordering) → slice_cmp nat_cmp name e.0 ≡ r → AllByRecursion P (insert_entry (slice_cmp nat_cmp) entries name t)
          → AllByRecursion P (match_ordering r ((name, t) ∷ e ∷ entries) ((e.0, t) ∷ entries) (e ∷ insert_entry (slice_cmp nat_cmp) entries name t))
      by_order Less is rest = (here, all)
      by_order Equal is rest = (subst (λ k. P (k, t)) (exact_bytes name e.0 is) here, all.1)
      by_order Greater is rest = (all.0, rest)

  some_table : (x y : NumberedTable) → Some x ≡ Some y → x ≡ y
  some_table x y e = cc

  -- of the one that a name finds
  pub found_so : (entries : Kept) (name : List ℕ) (t : NumberedTable) → AllByRecursion P entries → known_of entries name ≡ Some t → P (name, t)
  found_so [] name t all is = absurd (cc)
  found_so (e ∷ entries) name t all is = by_test (is_at (slice_cmp nat_cmp name) e.0) refl is (found_so entries name t all.1)
    where
      by_test : (b : Bool) → is_at (slice_cmp nat_cmp name) e.0 ≡ b → cond b (Some e.1) (known_of entries name) ≡ Some t
          → (known_of entries name ≡ Some t → P (name, t)) → P (name, t)
      by_test true hit it rest =
          let same = exact_bytes name e.0 ((Equal-is (slice_cmp nat_cmp name e.0)).0 hit) in
          subst P (λ i. (sym same i, some_table e.1 t it i)) all.0
      by_test false miss it rest = rest it

-- no table
pub known_none : (es : List TableEvent) (entries : Kept) → entries ≡ [] → AreKnown es entries
known_none es entries none = subst (AreKnown es) (sym none) tt

pub known_with : (es : List TableEvent) (old new : Kept) (name : List ℕ) (look : TableLook) → HasAdded name look old new → WasTold es name look
    → AreKnown es old → AreKnown es new
known_with es old new name look added told known =
    subst (AreKnown es) (sym added.entries) (all_with (IsKnown es) name (new_table look.number look.schema) (look, told, refl) old known)

-- a table that is there stays there
stays_there : (old new : Kept) (name : List ℕ) (look : TableLook) → HasAdded name look old new → (other : List ℕ)
    → is_some (known_of old other) ≡ true → is_some (known_of new other) ≡ true
stays_there old new name look added other there = ap is_some (added.found other) ∙ by_test (is_at (slice_cmp nat_cmp name) other)
  where
    by_test : (b : Bool) → is_some (cond b (Some (new_table look.number look.schema)) (known_of old other)) ≡ true
    by_test true = refl
    by_test false = there

itself : (name : List ℕ) → is_at (slice_cmp nat_cmp name) name ≡ true
itself name = ap is_eq (tied_itself nat_list_cmp_total name)

-- the one that was added is there
is_added : (old new : Kept) (name : List ℕ) (look : TableLook) → HasAdded name look old new → is_some (known_of new name) ≡ true
is_added old new name look added =
    ap is_some (added.found name ∙ ap (λ b. cond b (Some (new_table look.number look.schema)) (known_of old name)) (itself name))

all_stay : (old new : Kept) (name : List ℕ) (look : TableLook) → HasAdded name look old new → (names : List (List ℕ))
    → AllByRecursion (λ other. is_some (known_of old other) ≡ true) names → AllByRecursion (λ other. is_some (known_of new other) ≡ true) names
all_stay old new name look added [] all = tt
all_stay old new name look added (other ∷ names) all = (stays_there old new name look added other all.0, all_stay old new name look added names all.1)

-- so of all that were there, and the one that was added
pub all_there : {X : Type 0} (P : X → Type 0) (xs : List X) (x : X) → AllByRecursion P xs → P x → AllByRecursion P (xs ++ x ∷ [])
all_there P [] x all here = (here, tt)
all_there P (y ∷ ys) x all here = (all.0, all_there P ys x all.1 here)

pub there_with : (old new : Kept) (name : List ℕ) (look : TableLook) → HasAdded name look old new → (names : List (List ℕ))
    → AllByRecursion (λ other. is_some (known_of old other) ≡ true) names
    → AllByRecursion (λ other. is_some (known_of new other) ≡ true) (names ++ name ∷ [])
there_with old new name look added names all =
    all_there (λ other. is_some (known_of new other) ≡ true) names name (all_stay old new name look added names all) (is_added old new name look added)
