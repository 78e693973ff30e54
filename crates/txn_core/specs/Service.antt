-- What the messages need to know beside the protocol: tokens, the catalog's own answers, and the cells' numbers.
use Rattle.std.specs.Prelude.{◌≡◌, ℕ, ◌<◌, ◌≤◌, Bool, true, false, List, Option, None, is_some}
use Rattle.std.specs.Cmp.{IsEquivalence}
use Rattle.txn_core.specs.declared.message.Message.{Message}
use Rattle.txn_core.specs.declared.answer.Answer.{Answer}
use Rattle.txn_core.specs.declared.entry.Entry.{Entry}
use Rattle.txn_core.specs.declared.ruling.Ruling.{Ruling}
use Rattle.txn_core.specs.Protocol.{Protocol, IsLawful}
use Rattle.txn_core.specs.State.{on_item}
use Rattle.txn_core.specs.Indexing.{Indexing, indexed, IsIndexingLawful}
use Rattle.index_feed.specs.Feed.{served}

-- Q: a question about the catalog or a page; B: what is told of it
pub record Service (K V A F C D Q B : Type 0) : Type 0 where
  pub core : Protocol K V A F C D
  -- the order of keys and the index rows of items
  pub index : Indexing K V C D
  -- the cell of the catalog's answers, of transactions and of tokens; the partitions are the cells below it
  pub control : ℕ
  -- whether two transactions have the same parameters
  pub same_actions : List A → List A → Bool
  -- the answer to a question
  pub tell : C → Q → B
  -- the partition of a page of rows, and whether the catalog has the page's table and index
  pub page_cell : Q → ℕ
  pub serves : C → Q → Bool
  -- the number of the index that a page is of; none, where it is of the table's items
  pub page_index : Q → Option ℕ
  -- what a page tells of the rows of its cell, which come in the order of keys
  pub page : C → List (K × V) → Q → B
  -- the refusal of a command's name or number, which comes before all else
  pub refuses : D → C → Option B
  -- whether an item is of the command's table, so that a pending on it stands in the command's way
  pub concerns : D → C → K → Bool
  -- what becomes of a command that nothing stands in the way of
  pub rules : D → ℕ → C → Ruling B

-- items and pages live in partitions; a command concerns an item however its key is written, and spares the tables that it
-- doesn't concern, what actions do there, and their indexes
pub record IsServiceLawful {K V A F C D Q B : Type 0} (S : Service K V A F C D Q B) : Type 0 where
  pub core : IsLawful S.core
  -- to have the same parameters is an equivalence, and keeps the items
  pub same_parameters : IsEquivalence S.same_actions
  pub same_items :
      (xs ys : List A) → S.same_actions xs ys ≡ true → (q : K)
      → is_some (on_item S.core xs q) ≡ is_some (on_item S.core ys q)
  pub index : IsIndexingLawful S.core S.index
  pub cell_below : 1 ≤ S.control → (k : K) → S.core.cell_of k < S.control
  pub page_below : 1 ≤ S.control → (q : Q) → S.page_cell q < S.control
  pub one_concern : (d : D) (c : C) (x y : K) → S.core.same x y ≡ true → S.concerns d c x ≡ S.concerns d c y
  pub spares :
      (d : D) (moment : ℕ) (c : C) (q : K) → S.refuses d c ≡ None → S.concerns d c q ≡ false
      → S.core.there c q ≡ true → S.core.there (S.core.change d moment c) q ≡ true
  pub acts_alike :
      (d : D) (moment : ℕ) (c : C) (q : K) (a : A) (v : Option V) → S.refuses d c ≡ None → S.concerns d c q ≡ false
      → S.core.there c q ≡ true → S.core.same (S.core.key_of a) q ≡ true
      → S.core.act (S.core.change d moment c) a v ≡ S.core.act c a v
  pub spares_indexes :
      (d : D) (moment : ℕ) (c : C) (q : K) (g : ℕ) → S.refuses d c ≡ None → S.concerns d c q ≡ false
      → S.core.there c q ≡ true → served (indexed S.core S.index) (S.core.change d moment c) g q ≡ true
      → served (indexed S.core S.index) c g q ≡ true

-- under these rules: what is asked and answered, an entry, and a history, which is its entries, the newest first
module _ {K V A F C D Q B : Type 0} (S : Service K V A F C D Q B) where
  abbrev pub Asked : Type 0
  Asked = Message K V A F D Q

  abbrev pub Reply : Type 0
  Reply = Answer K V A F B

  abbrev pub Event : Type 0
  Event = Entry K V A F D Q B

  abbrev pub History : Type 0
  History = List (Entry K V A F D Q B)
