-- Changes that are prepared: their keys, their slots, and the rows with them made.
use Rattle.std.specs.Prelude.{◌||◌, ◌++◌, is_some}
use Rattle.std.specs.List.Sorted.{IsStrictlySortedBy}
use Rattle.std.specs.Map.{keys_of}
use Rattle.std.specs.BTreeMap.{is_at}
use Rattle.std.proofs.Common.{◌≡◌, Bool, true, false, cond, List, [], ◌∷◌, Option, None, Some, refl, sym, ap, ◌∙◌, subst}
use Rattle.std.proofs.lemmas.Bool.{cond-true, cond-false}
use Rattle.std.proofs.lemmas.List.Folds.{list_any-append}
use Rattle.attr_value.specs.Tree.{Attributes}
use Rattle.row_keys.specs.declared.row_key.RowKey.{RowKey}
use Rattle.row_keys.specs.Keys.{row_order}
use Rattle.row_keys.specs.KeyLaws.{row_total}
use Rattle.row_keys.specs.Rows.{Rows, item_at, with_item}
use Rattle.table_rows.specs.declared.change.RowChange.{RowChange}
use Rattle.table_rows.specs.View.{is_pending, committed}
use Rattle.table_rows.specs.Slots.{SlotList, rows_of, has_slot, KeepsOtherSlots}
use Rattle.table_rows.specs.State.{AreDistinct, AreInStep}
use Rattle.table_rows.proofs.Entries.{by_bool, at_is, at_self, flip}
use Rattle.table_rows.proofs.Exact.{row_exact}
use Rattle.table_rows.proofs.SlotLists.{with_sorted, with_at}

pub or_none : (a b : Bool) → (a || b) ≡ false → (a ≡ false) × (b ≡ false)
or_none true b e = absurd (cc)
or_none false b e = (refl, e)

or_false : (a : Bool) → (a || false) ≡ a
or_false true = refl
or_false false = refl

pub or_both : (a b : Bool) → a ≡ false → b ≡ false → (a || b) ≡ false
or_both true b e f = absurd (cc)
or_both false b e f = f

-- what the item at a key is to be by the changes
abbrev pub new_at : List RowChange → RowKey → Option (Option Attributes)
new_at [] k = None
new_at (change ∷ changes) k = cond (is_at (row_order k) change.key) (Some change.new) (new_at changes k)

abbrev pub changed_to : Option (Option Attributes) → Option Attributes → Option Attributes
changed_to None old = old
changed_to (Some new) old = new

pub not_pending : (cs : List RowChange) (k : RowKey) → is_pending cs k ≡ false → new_at cs k ≡ None
not_pending [] k h = refl
not_pending (c ∷ cs) k h =
    let parts = or_none (is_at (row_order k) c.key) (is_pending cs k) h in
    cond-false (is_at (row_order k) c.key) (Some c.new) (new_at cs k) parts.0 ∙ not_pending cs k parts.1

pub committed_sorted : (rows : Rows) (cs : List RowChange) → IsStrictlySortedBy row_order (keys_of rows) → IsStrictlySortedBy row_order (keys_of (committed rows cs))
committed_sorted rows [] s = s
committed_sorted rows (c ∷ cs) s = with_sorted (committed rows cs) c.key c.new (committed_sorted rows cs s)

pub committed_at : (rows : Rows) (cs : List RowChange) → IsStrictlySortedBy row_order (keys_of rows)
    → (k : RowKey) → item_at (committed rows cs) k ≡ changed_to (new_at cs k) (item_at rows k)
committed_at rows [] s k = refl
committed_at rows (c ∷ cs) s k =
    with_at (committed rows cs) c.key c.new (committed_sorted rows cs s) k
    ∙ ap (λ l. cond (is_at (row_order c.key) k) c.new l) (committed_at rows cs s k)
    ∙ ap (λ b. cond b c.new (changed_to (new_at cs k) (item_at rows k))) (flip row_total row_exact c.key k)
    ∙ spread (is_at (row_order k) c.key) (new_at cs k)
  where
    spread : (b : Bool) (n : Option (Option Attributes))
        → cond b c.new (changed_to n (item_at rows k)) ≡ changed_to (cond b (Some c.new) n) (item_at rows k)
    spread true n = refl
    spread false n = refl

pub committed_last : (rows : Rows) (cs : List RowChange) (c : RowChange) → committed rows (cs ++ c ∷ []) ≡ committed (with_item rows c.key c.new) cs
committed_last rows [] c = refl
committed_last rows (d ∷ cs) c = ap (λ (r : Rows). with_item r d.key d.new) (committed_last rows cs c)

module _ (c : RowChange) where
  pub distinct_more : (cs : List RowChange) → AreDistinct cs → is_pending cs c.key ≡ false → AreDistinct (cs ++ c ∷ [])
  distinct_more [] d h = (refl, tt)
  distinct_more (x ∷ cs) d h =
      let parts = or_none (is_at (row_order c.key) x.key) (is_pending cs c.key) h in (
        list_any-append (λ change. is_at (row_order x.key) change.key) cs (c ∷ [])
            ∙ or_both (is_pending cs x.key) (is_at (row_order x.key) c.key || false) d.0
            (or_both (is_at (row_order x.key) c.key) false (flip row_total row_exact x.key c.key ∙ parts.0) refl),
        distinct_more cs d.1 parts.1,
      )

  pub distinct_less : (cs : List RowChange) → AreDistinct (cs ++ c ∷ []) → AreDistinct cs × (is_pending cs c.key ≡ false)
  distinct_less [] d = (tt, refl)
  distinct_less (x ∷ cs) d =
      let rest = distinct_less cs d.1 in
      let parts = or_none (is_pending cs x.key) (is_at (row_order x.key) c.key || false)
      (sym (list_any-append (λ change. is_at (row_order x.key) change.key) cs (c ∷ [])) ∙ d.0) in
      let apart = or_none (is_at (row_order x.key) c.key) false parts.1 in
      ((parts.0, rest.0), or_both (is_at (row_order c.key) x.key) (is_pending cs c.key) (flip row_total row_exact c.key x.key ∙ apart.0) rest.1)

  -- one change more is of its own key, and of no other
  own_pending : (cs : List RowChange) → is_pending (cs ++ c ∷ []) c.key ≡ true
  own_pending cs =
      list_any-append (λ change. is_at (row_order c.key) change.key) cs (c ∷ [])
      ∙ last_true (is_pending cs c.key) (is_at (row_order c.key) c.key) (at_self row_total row_exact c.key)
    where
      last_true : (a b : Bool) → b ≡ true → (a || (b || false)) ≡ true
      last_true true b e = refl
      last_true false true e = refl
      last_true false false e = e

  other_pending : (cs : List RowChange) (q : RowKey) → is_at (row_order c.key) q ≡ false → is_pending (cs ++ c ∷ []) q ≡ is_pending cs q
  other_pending cs q h =
      list_any-append (λ change. is_at (row_order q) change.key) cs (c ∷ [])
      ∙ last_false (is_pending cs q) (is_at (row_order q) c.key) (flip row_total row_exact q c.key ∙ h)
    where
      last_false : (a b : Bool) → b ≡ false → (a || (b || false)) ≡ a
      last_false true b e = refl
      last_false false true e = e
      last_false false false e = refl

  -- a change that is prepared has a slot
  pub slot_there : (slots : SlotList) (cs : List RowChange) → AreInStep slots (cs ++ c ∷ []) → has_slot slots c.key ≡ true
  slot_there slots cs step =
      step c.key ∙ ap (λ b. is_some (item_at (rows_of slots) c.key) || b) (own_pending cs) ∙ either (is_some (item_at (rows_of slots) c.key))
    where
      either : (a : Bool) → (a || true) ≡ true
      either true = refl
      either false = refl

  module _ (old new : SlotList) (keeps : KeepsOtherSlots c.key old new) where
    -- a step at one key keeps the others in step
    others_in_step : (cs ds : List RowChange) → ((q : RowKey) → is_at (row_order c.key) q ≡ false → item_at (rows_of new) q ≡ item_at (rows_of old) q)
        → ((q : RowKey) → is_at (row_order c.key) q ≡ false → is_pending ds q ≡ is_pending cs q) → AreInStep old cs
        → has_slot new c.key ≡ (is_some (item_at (rows_of new) c.key) || is_pending ds c.key) → AreInStep new ds
    others_in_step cs ds items changes step own = λ q. by_bool (is_at (row_order c.key) q) _
        (λ h. subst (λ (k : RowKey). has_slot new k ≡ (is_some (item_at (rows_of new) k) || is_pending ds k)) (at_is row_total row_exact c.key q h) own)
        (λ h. keeps q h ∙ step q ∙ (λ i. is_some (sym (items q h) i) || sym (changes q h) i))

    -- one change more is prepared
    pub more_in_step : (cs : List RowChange) → rows_of new ≡ rows_of old → AreInStep old cs → has_slot new c.key ≡ true → AreInStep new (cs ++ c ∷ [])
    more_in_step cs rows step has =
        others_in_step cs (cs ++ c ∷ []) (λ q h. ap (λ (r : Rows). item_at r q) rows) (other_pending cs) step
        (has ∙ sym (ap (λ b. is_some (item_at (rows_of new) c.key) || b) (own_pending cs) ∙ either (is_some (item_at (rows_of new) c.key))))
      where
        either : (a : Bool) → (a || true) ≡ true
        either true = refl
        either false = refl

    -- no change more is
    pub same_in_step : (cs : List RowChange) → rows_of new ≡ rows_of old → AreInStep old cs → has_slot new c.key ≡ has_slot old c.key → AreInStep new cs
    same_in_step cs rows step has =
        others_in_step cs cs (λ q h. ap (λ (r : Rows). item_at r q) rows) (λ q h. refl) step
        (has ∙ step c.key ∙ ap (λ (r : Rows). is_some (item_at r c.key) || is_pending cs c.key) (sym rows))

    module _ (cs : List RowChange) (apart : is_pending cs c.key ≡ false) (step : AreInStep old (cs ++ c ∷ [])) where
      fewer : (q : RowKey) → is_at (row_order c.key) q ≡ false → is_pending cs q ≡ is_pending (cs ++ c ∷ []) q
      fewer q h = sym (other_pending cs q h)

      -- the change is made
      pub made_in_step : IsStrictlySortedBy row_order (keys_of (rows_of old)) → rows_of new ≡ with_item (rows_of old) c.key c.new
          → has_slot new c.key ≡ is_some c.new → AreInStep new cs
      made_in_step up rows has =
          let found : (q : RowKey) → item_at (rows_of new) q ≡ cond (is_at (row_order c.key) q) c.new (item_at (rows_of old) q) =
          λ q. ap (λ (r : Rows). item_at r q) rows ∙ with_at (rows_of old) c.key c.new up q in
          let own : item_at (rows_of new) c.key ≡ c.new =
          found c.key ∙ cond-true (is_at (row_order c.key) c.key) c.new (item_at (rows_of old) c.key) (at_self row_total row_exact c.key) in
          others_in_step (cs ++ c ∷ []) cs
          (λ q h. found q ∙ cond-false (is_at (row_order c.key) q) c.new (item_at (rows_of old) q) h) fewer step
          (has ∙ sym ((λ i. is_some (own i) || apart i) ∙ or_false (is_some c.new)))

      -- the change is given up
      pub dropped_in_step : rows_of new ≡ rows_of old → has_slot new c.key ≡ is_some (item_at (rows_of old) c.key) → AreInStep new cs
      dropped_in_step rows has =
          others_in_step (cs ++ c ∷ []) cs (λ q h. ap (λ (r : Rows). item_at r q) rows) fewer step
          (has ∙ sym ((λ i. is_some (item_at (rows i) c.key) || apart i) ∙ or_false (is_some (item_at (rows_of old) c.key))))
