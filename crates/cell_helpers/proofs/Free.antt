-- Which entries bind nothing: those of feeds, lists, drives and removals.
use Rattle.std.specs.Prelude.{if◌then◌else◌}
use Rattle.std.specs.List.{list_any, zip}
use Rattle.std.proofs.Common.{◌≡◌, ℕ, ◌+◌, true, false, List, [], ◌∷◌, ◌++◌, map, refl, sym, ap, ◌∙◌, inl, inr}
use Rattle.std.proofs.lemmas.List.Elements.{filter-append}
use Rattle.attr_value.specs.Tree.{Attributes}
use Rattle.turnstile.specs.Passes.{PassView}
use Rattle.txn_core.specs.declared.message.Message.{Message}
use Rattle.txn_core.specs.declared.answer.HeldItem.{HeldItem}
use Rattle.cell_model.specs.declared.key.CellKey.{CellKey}
use Rattle.cell_model.specs.Service.{service}
use Rattle.table_history.specs.Entries.{TableMessage, TableAnswer, TableEvent}
use Rattle.cell_asks.specs.Steps.{binds, bound}
use Rattle.coordinator.specs.Driving.{is_driving}
use Rattle.index_feeder.specs.Feeds as feeds
use Rattle.index_feeder.specs.Feeds.{Feeding, Found, Fed, entries}
use Rattle.recovery_manager.specs.Lists.{Listing, lists, lists_held, lists_numbers}
use Rattle.recovery_manager.specs.Parts.{AllOn}
use Rattle.recovery_manager.specs.Sweeps.{AreLists}
use Rattle.recovery_manager.specs.Expiries as expiries
use Rattle.recovery_manager.specs.Expiries.{expires, expires_each}

-- two stretches that bind nothing
pub free_on : (xs ys : List TableEvent) → bound xs ≡ [] → bound ys ≡ [] → bound (xs ++ ys) ≡ []
free_on xs ys none more = filter-append (λ e. binds e.message e.answer) xs ys ∙ ap (λ l. l ++ bound ys) none ∙ more

-- ---- drives

never : (numbers : List ℕ) → list_any (λ n. false) numbers ≡ false
never [] = refl
never (n ∷ numbers) = never numbers

-- a message that drives a transaction is no Write, no Begin and no command
drive_free : (numbers : List ℕ) (m : TableMessage) (a : TableAnswer) → list_any (λ n. is_driving n m) numbers ≡ true → binds m a ≡ false
drive_free numbers (Message.Write action) a on = absurd (let e : true ≡ false = sym on ∙ never numbers in cc)
drive_free numbers (Message.Begin token actions) a on = absurd (let e : true ≡ false = sym on ∙ never numbers in cc)
drive_free numbers (Message.Command command) a on = absurd (let e : true ≡ false = sym on ∙ never numbers in cc)
drive_free numbers _ a on = refl

module _ (n : ℕ) where
  pub drives_free : (numbers : List ℕ) (own : List TableEvent) → AllOn (service n) numbers own → bound own ≡ []
  drives_free numbers [] each = refl
  drives_free numbers (e ∷ own) each =
      ap (λ b. if b then e ∷ bound own else bound own) (drive_free numbers e.message e.answer each.0) ∙ drives_free numbers own each.1

  module _ (p : PassView TableEvent) where
    -- ---- feeds, whole and cut off

    pub feeds_free : (fs : List (Feeding CellKey Attributes)) → bound (entries (service n) p fs) ≡ []
    feeds_free [] = refl
    feeds_free (Found cell ∷ fs) = feeds_free fs
    feeds_free (Fed cell out applied acked ∷ fs) = feeds_free fs

    pub cut_free : (cell : ℕ) (es : List TableEvent) → feeds.IsCutOff (service n) p cell es → bound es ≡ []
    cut_free cell es (inl none) = ap bound none
    cut_free cell es (inr (out, inl shown)) = ap bound shown
    cut_free cell es (inr (out, inr (now, applied))) = ap bound applied

    -- ---- lists

    held_free : (cell : ℕ) (held : List (List (HeldItem CellKey))) → bound (lists_held (service n) p cell held) ≡ []
    held_free cell [] = refl
    held_free cell (items ∷ held) = held_free (cell + 1) held

    pub lists_free : (l : Listing CellKey) → bound (lists (service n) p l) ≡ []
    lists_free l = free_on (lists_held (service n) p 0 l.held) (lists_numbers (service n) p l.unfinished ∷ []) (held_free 0 l.held) refl

    pub some_lists_free : (k : ℕ) (l : Listing CellKey) (told : List TableEvent) → AreLists (service n) k p l told → bound told ≡ []
    some_lists_free k l told (inl some) = ap bound some.0 ∙ held_free 0 l.held
    some_lists_free k l told (inr all) = ap bound all.0 ∙ lists_free l

    -- ---- removals

    removals_free : (xs : List (CellKey × TableAnswer)) → bound (map (λ x. expires (service n) p x.0 x.1) xs) ≡ []
    removals_free [] = refl
    removals_free (x ∷ xs) = removals_free xs

    pub expires_free : (keys : List CellKey) (answers : List TableAnswer) → bound (expires_each (service n) p keys answers) ≡ []
    expires_free keys answers = removals_free (zip keys answers)

    pub expiry_cut_free : (limit cell : ℕ) (own : List TableEvent) → expiries.IsCutOff (service n) limit cell p own → bound own ≡ []
    expiry_cut_free limit cell own (inl none) = ap bound none
    expiry_cut_free limit cell own (inr (keys, answers, few, fewer, is)) = ap bound is ∙ expires_free keys answers
