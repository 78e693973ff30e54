-- Writes of a request that nothing refuses: none has a condition or too large an item, so a Write of one is refused by an index alone.
use Rattle.std.proofs.Common.{◌≡◌, ℕ, Bool, true, false, if◌then◌else◌, List, [], ◌∷◌, ◌++◌, map, ◌||◌, Option, None, Some, refl}
use Rattle.std.specs.List.{AllByRecursion, list_any}
use Rattle.attr_value.specs.Tree.{Attributes}
use Rattle.update_eval.specs.declared.fault.EvalFault.{EvalFault}
use Rattle.update_eval.specs.declared.fault.EvalFault.TheVariants.{IndexKey, ItemTooLarge}
use Rattle.row_keys.specs.Rows.{is_refused}
use Rattle.turnstile.specs.Passes.{PassView}
use Rattle.table_schema.specs.declared.schema.Schema.{Schema}
use Rattle.table_request.specs.declared.batches.TableWrites.{TableWrites}
use Rattle.table_request.specs.declared.batches.WriteRequest.{WriteRequest}
use Rattle.table_request.specs.declared.batches.WriteRequest.TheVariants as write
use Rattle.table_model.specs.declared.refusal.Refusal.{Refusal}
use Rattle.table_model.specs.declared.refusal.Refusal.TheVariants.{Invalid}
use Rattle.table_model.specs.declared.refusal.Invalid.TheVariants as invalid
use Rattle.table_model.specs.Outcome.{becomes, is_faulty, is_too_large, fit}
use Rattle.table_model.specs.Database.{Database, first, where_true, table_named}
use Rattle.table_model.specs.Batches.{missing, key_refusal, place_if, has_twice, write_keys, is_oversized, is_unfit_write, batch_write_refusal}
use Rattle.std.specs.Prelude.{filter_map}
use Rattle.std.specs.List.{flat_map}
use Rattle.txn_core.specs.declared.message.Message.{Message}
use Rattle.txn_core.specs.declared.outcome.Outcome.{Outcome}
use Rattle.txn_core.specs.declared.outcome.Outcome.TheVariants.{New, Unmet, Fails}
use Rattle.txn_core.specs.Answers.{write_answer}
use Rattle.cell_model.specs.declared.key.CellKey.{CellKey}
use Rattle.cell_model.specs.declared.catalog.CatalogTable.{CatalogTable}
use Rattle.cell_model.specs.Actions.{outcome_of, outcome_in}
use Rattle.table_history.specs.Entries.{TableEvent}
use Rattle.cell_asks.specs.declared.asks.Wrote.{Wrote}
use Rattle.cell_asks.specs.Steps.{One}
use Rattle.cell_asks.specs.Answers.{wrote_answer}
use Rattle.cell_asks.proofs.Histories.{is_answer}
use Rattle.batch_calls.specs.Singles.{all_writes, action_alone}
use Rattle.batch_calls.specs.Writes.{CanBe}

-- ---- one write

-- it becomes some item, or none; else an index refuses it
abbrev IsPlain : Outcome Attributes EvalFault → Type 0
IsPlain (New item) = Unit {0}
IsPlain Unmet = ⊥
IsPlain (Fails fault) = fault ≡ IndexKey

fits : (schema : Schema) (item : Attributes) → is_too_large item ≡ false → IsPlain (outcome_of (fit schema item))
fits schema item small = by_tests (is_too_large item) (is_refused schema item) small
  where
    by_tests : (b c : Bool) → b ≡ false
        → IsPlain (outcome_of (if b then is_faulty ItemTooLarge else (if c then is_faulty IndexKey else becomes (Some item))))
    by_tests true c small = absurd (cc)
    by_tests false true small = refl
    by_tests false false small = tt

plain : (name : List ℕ) (w : WriteRequest) (at : CellKey) → is_oversized w ≡ false → (table : Option CatalogTable) (old : Option Attributes)
    → IsPlain (outcome_in table (action_alone name w at) old)
plain name w at small None old = tt
plain name (write.Put item) at small (Some table) old = fits table.schema item small
plain name (write.Delete key) at small (Some table) old = tt

answered_so : (b : Bool) (holding : Option ℕ) (row : Option Attributes) (o : Outcome Attributes EvalFault) → IsPlain o → (wrote : Wrote)
    → wrote_answer wrote ≡ write_answer b holding row o → CanBe wrote
answered_so b holding row o is (Wrote.Written old new) e = tt
answered_so b holding row o is (Wrote.Held number) e = tt
answered_so b holding row o is Wrote.Stale e = tt
answered_so false holding row o is (Wrote.CondFalse old) e = absurd (cc)
answered_so true (Some k) row o is (Wrote.CondFalse old) e = absurd (cc)
answered_so true None row (New item) is (Wrote.CondFalse old) e = absurd (cc)
answered_so true None row Unmet is (Wrote.CondFalse old) e = absurd is
answered_so true None row (Fails fault) is (Wrote.CondFalse old) e = absurd (cc)
answered_so false holding row o is (Wrote.Invalid found) e = absurd (cc)
answered_so true (Some k) row o is (Wrote.Invalid found) e = absurd (cc)
answered_so true None row (New item) is (Wrote.Invalid found) e = absurd (cc)
answered_so true None row Unmet is (Wrote.Invalid found) e = absurd is
answered_so true None row (Fails fault) is (Wrote.Invalid found) e = let same : found ≡ fault = cc in cc

pub can_be : (n : ℕ) (p : PassView TableEvent) (name : List ℕ) (w : WriteRequest) (at : CellKey) → is_oversized w ≡ false → (wrote : Wrote) (q : PassView TableEvent)
    → One n p (Message.Write (action_alone name w at)) (wrote_answer wrote) q → CanBe wrote
can_be n p name w at small wrote q one =
    answered_so _ _ _ _ (plain name w at small _ _) wrote (is_answer n p (Message.Write (action_alone name w at)) (wrote_answer wrote) q one)

-- ---- those of a request

-- so it is of each of these writes
abbrev pub AreSmall : List (List ℕ × WriteRequest) → Type 0
AreSmall ws = AllByRecursion (λ w. is_oversized w.1 ≡ false) ws

both_false : (a b : Bool) → (a || b) ≡ false → (a ≡ false) × (b ≡ false)
both_false true b is = absurd (cc)
both_false false b is = (refl, is)

small_before : (name : List ℕ) (ws : List WriteRequest) (more : List (List ℕ × WriteRequest)) → list_any is_oversized ws ≡ false → AreSmall more
    → AreSmall (map (λ w. (name, w)) ws ++ more)
small_before name [] more none rest = rest
small_before name (w ∷ ws) more none rest =
    let e = both_false (is_oversized w) (list_any is_oversized ws) none in
    (e.0, small_before name ws more e.1 rest)

all_small : (ts : List TableWrites) → list_any (λ t. list_any is_oversized t.writes) ts ≡ false → AreSmall (all_writes ts)
all_small [] none = tt
all_small (t ∷ ts) none =
    let e = both_false (list_any is_oversized t.writes) (list_any (λ u. list_any is_oversized u.writes) ts) none in
    small_before t.table t.writes (all_writes ts) e.0 (all_small ts e.1)

-- nothing refuses a request, so its items are not too large
pub none_large : (db : Database) (ts : List TableWrites) → batch_write_refusal db ts ≡ None → AreSmall (all_writes ts)
none_large db ts free =
    all_small ts (by_stages (first (map (λ t. missing db t.table) ts)) (first (map key_refusal (flat_map (write_keys db) ts)))
    (list_any (λ t. has_twice (filter_map place_if (write_keys db t))) ts) (list_any (λ t. list_any is_oversized t.writes) ts)
    (list_any (λ t. list_any (is_unfit_write (table_named db t.table)) t.writes) ts) free)
  where
    by_stages : (tables keys : Option Refusal) (twice large unfit : Bool)
        → first
        (tables ∷ keys ∷ where_true twice (Invalid invalid.Twice) ∷ where_true large (Invalid invalid.ItemTooLarge)
        ∷ where_true unfit (Invalid (invalid.Evaluation IndexKey)) ∷ [])
        ≡ None
        → large ≡ false
    by_stages (Some why) keys twice large unfit is = absurd (cc)
    by_stages None (Some why) twice large unfit is = absurd (cc)
    by_stages None None true large unfit is = absurd (cc)
    by_stages None None false true unfit is = absurd (cc)
    by_stages None None false false unfit is = refl
