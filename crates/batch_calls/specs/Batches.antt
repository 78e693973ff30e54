-- What a try of a request on many items comes to (API Reference: BatchGetItem).
use Rattle.std.specs.Prelude.{◌≡◌, ◌⊎◌, ℕ, suc, ◌≤◌, List, [], ◌∷◌, ◌++◌, map, length, Option, reverse}
use Rattle.attr_value.specs.Tree.{Attributes}
use Rattle.turnstile.specs.Passes.{PassView}
use Rattle.txn_core.specs.declared.message.Message.{Message}
use Rattle.txn_core.specs.declared.answer.Answer.{Answer}
use Rattle.table_request.specs.declared.request.Request.TheVariants as request
use Rattle.table_request.specs.declared.items.GetItem.{GetItem}
use Rattle.table_request.specs.declared.batches.BatchGet.{BatchGet}
use Rattle.table_model.specs.declared.reply.Reply.{Reply}
use Rattle.table_model.specs.Batches.{most_batch_bytes, read_count, batch_get_refusal}
use Rattle.table_model.specs.Reads.{told_read}
use Rattle.table_batches.specs.Reads.{read_of}
use Rattle.cell_model.specs.declared.key.CellKey.{CellKey}
use Rattle.table_history.specs.Entries.{TableEvent}
use Rattle.cell_asks.specs.declared.tried.Tried.{Tried}
use Rattle.cell_asks.specs.Steps.{One, IsInVain}
use Rattle.item_calls.specs.Items.{Reads}
use Rattle.batch_calls.specs.Looks.{LookedAll, Admits, RefusedByLooks}
use Rattle.batch_calls.specs.Singles.{all_gets}

-- one own Get, of this item; it reads the key as a GetItem does by itself, of what readers are shown before its entry
pub record Gets (n : ℕ) (p : PassView TableEvent) (r : GetItem) (item : Option Attributes) (q : PassView TableEvent) : Type 0 where
  pub at : CellKey
  pub got : One n p (Message.Get at) (Answer.Row item) q
  pub alone : Reads n p r (told_read r item) q

-- own Gets of the first of these keys, one after another, found these items
abbrev pub AreGot : ℕ → PassView TableEvent → List GetItem → List (Option Attributes) → PassView TableEvent → Type 0
AreGot n p rs [] q = q ≡ p
AreGot n p (r ∷ rs) (item ∷ items) q = (mid : PassView TableEvent) × Gets n p r item mid × AreGot n mid rs items q
AreGot n p [] (item ∷ items) q = ⊥

abbrev pub names_read : BatchGet → List (List ℕ)
names_read r = map (λ t. t.table) r.tables

module _ (n : ℕ) (p : PassView TableEvent) where
  -- read key by key, up to the first item that has no room; so the reply is that to all the items, whatever those behind are
  pub record ReadsAll (r : BatchGet) (reply : Reply) (q : PassView TableEvent) : Type 0 where
    pub mid : PassView TableEvent
    pub looked : LookedAll n p (names_read r) mid
    pub free : Admits (λ db. batch_get_refusal db r.tables) (names_read r) (reverse mid.front)
    pub items : List (Option Attributes)
    pub gets : AreGot n mid (all_gets r.tables) items q
    pub last : length items ≤ suc (read_count most_batch_bytes items)
    pub is : (more : List (Option Attributes)) → length (items ++ more) ≡ length (all_gets r.tables)
        → reply ≡ read_of r.capacity r.tables (items ++ more)

  abbrev pub IsBatchGetTry : BatchGet → Tried → PassView TableEvent → Type 0
  IsBatchGetTry r (Tried.Reply reply) q = RefusedByLooks n p (names_read r) (request.BatchGet r) reply q ⊎ ReadsAll r reply q
  IsBatchGetTry r Tried.Again q = IsInVain n p q
