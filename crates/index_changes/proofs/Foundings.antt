-- Rows in indexes that are new, one item after another.
use Rattle.std.proofs.Common.{◌≡◌, ℕ, ◌∷◌, ◌++◌, Bool, true, false, if◌then◌else◌, List, [], None, Some, refl, sym, ap, ◌∙◌}
use Rattle.std.specs.List.{flat_map}
use Rattle.std.proofs.lemmas.List.{append_assoc, append-nil}
use Rattle.index_feed.specs.declared.change.Change.{Change}
use Rattle.index_feed.specs.Feed.{Indexed, change_of, founding, row_in, served}
use Rattle.txn_core.specs.Indexing.{indexed}
use Rattle.txn_core.specs.Service.{Service}
use Rattle.item_store.specs.declared.slot.Committed.{Committed}
use Rattle.item_store.specs.declared.slot.Slot.{Slot}
use Rattle.item_store.specs.Slots.{item_of}
use Rattle.index_changes.specs.Plans.{founding_at}

-- one element more
pub one_step :
    {X Y : Type 0} (F : X → List Y) (ws ms : List Y) (x : X) (rest all : List X) → all ≡ x ∷ rest → ms ≡ ws ++ F x
    → ms ++ flat_map F rest ≡ ws ++ flat_map F all
one_step F ws ms x rest all is e =
    ap (λ l. l ++ flat_map F rest) e ∙ append_assoc ws (F x) (flat_map F rest) ∙ ap (λ l. ws ++ flat_map F l) (sym is)

module _ {K V C : Type 0} (I : Indexed K V C) where
  -- an item that is absent has no rows
  pub founding_none : (c next : C) (k : K) → founding I c next k None ≡ []
  founding_none c next k = none_of (I.indexes next k)
    where
      either : (b : Bool) → (if b then [] else change_of I 0 None None) ≡ []
      either true = refl
      either false = refl

      one : (g : ℕ) (b : Bool) → (if b then [] else change_of I g None (row_in I next g k None)) ≡ []
      one g true = refl
      one g false = refl

      none_of : (gs : List ℕ) → flat_map (λ g. if served I c g k then [] else change_of I g None (row_in I next g k None)) gs ≡ []
      none_of [] = refl
      none_of (g ∷ gs) = λ j. one g (served I c g k) j ++ none_of gs j

module _ {K V A F C D Q B : Type 0} (S : Service K V A F C D Q B) (c next : C) (e : K × Slot V) where
  -- by what the item's slot holds
  pub founding_free : (ws : List (Change K V)) → e.1.committed ≡ None → ws ≡ ws ++ founding_at S c next e
  founding_free ws none =
      sym (append-nil ws)
      ∙ sym (ap (λ l. ws ++ l) (founding_none (indexed S.core S.index) c next e.0))
      ∙ sym (ap (λ o. ws ++ founding (indexed S.core S.index) c next e.0 (item_of o)) none)

  pub founding_item :
      (ws ms : List (Change K V)) (x : Committed V) → e.1.committed ≡ Some x → ms ≡ ws ++ founding (indexed S.core S.index) c next e.0 (Some x.item)
      → ms ≡ ws ++ founding_at S c next e
  founding_item ws ms x is e' = e' ∙ sym (ap (λ o. ws ++ founding (indexed S.core S.index) c next e.0 (item_of o)) is)
