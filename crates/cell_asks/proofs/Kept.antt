-- What is kept of Looks stays told, as the history grows and as more is kept.
use Rattle.std.proofs.Common.{◌≡◌, ℕ, Bool, true, false, cond, List, ◌∷◌, ◌++◌, Some, refl, sym, ap, subst, ◌∙◌}
use Rattle.std.specs.Ordering.{nat_cmp}
use Rattle.std.specs.Cmp.{Equal-is}
use Rattle.std.specs.Cmp.Lexicographic.{slice_cmp}
use Rattle.std.specs.BTreeMap.{is_at}
use Rattle.std.proofs.lemmas.List.{append_assoc}
use Rattle.std.proofs.lemmas.Map.Lookups.{exact_bytes}
use Rattle.cell_model.specs.declared.answer.TableLook.{TableLook}
use Rattle.table_history.specs.Entries.{TableEvent}
use Rattle.cell_asks.specs.declared.looks.Looks.{Looks}
use Rattle.cell_asks.specs.Told.{WasTold, AreTold, kept_of}

-- what was told was told in every longer history
pub told_later : (newer es : List TableEvent) (name : List ℕ) (look : TableLook) → WasTold es name look → WasTold (newer ++ es) name look
told_later newer es name look told = record {
  newer = newer ++ told.newer;
  entry = told.entry;
  older = told.older;
  is = append_assoc newer told.newer (told.entry ∷ told.older) ∙ ap (λ rest. newer ++ rest) told.is;
  message = told.message;
  answer = told.answer;
}

pub all_told_later : (newer es : List TableEvent) (looks : Looks) → AreTold es looks → AreTold (newer ++ es) looks
all_told_later newer es looks are name look at = told_later newer es name look (are name look at)

some_look : (x y : TableLook) → Some x ≡ Some y → x ≡ y
some_look x y e = cc

pub told_with : (es : List TableEvent) (old new : Looks) (name : List ℕ) (look : TableLook)
    → ((q : List ℕ) → kept_of new q ≡ cond (is_at (slice_cmp nat_cmp name) q) (Some look) (kept_of old q))
    → AreTold es old → WasTold es name look → AreTold es new
told_with es old new name look is are told other found at =
    by_test (is_at (slice_cmp nat_cmp name) other) refl (sym (is other) ∙ at)
  where
    by_test : (b : Bool) → is_at (slice_cmp nat_cmp name) other ≡ b → cond b (Some look) (kept_of old other) ≡ Some found → WasTold es other found
    by_test true same it =
        subst (λ x. WasTold es other x) (some_look look found it)
        (subst (λ x. WasTold es x look) (exact_bytes name other ((Equal-is (slice_cmp nat_cmp name other)).0 same)) told)
    by_test false differs it = are other found it
