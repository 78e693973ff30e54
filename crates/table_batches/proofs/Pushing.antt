-- The changes that the writes of a table are, one after another.
use Rattle.std.proofs.Common.{◌≡◌, ℕ, List, [], ◌∷◌, ◌++◌, map, length, drop, Option, None, Some, Result, Ok, Err, refl, sym, ap, ◌∙◌, append_assoc}
use Rattle.std.specs.Prelude.{filter_map}
use Rattle.std.specs.List.{cons_option}
use Rattle.std.proofs.lemmas.List.{append-nil, drop_at}
use Rattle.item_keys.specs.declared.fault.KeyFault.{KeyFault}
use Rattle.item_keys.specs.declared.key.Key.{Key}
use Rattle.row_keys.specs.declared.row_key.RowKey.{RowKey}
use Rattle.row_keys.specs.Keys.{row_key}
use Rattle.table_request.specs.declared.batches.WriteRequest.{WriteRequest}
use Rattle.table_model.specs.Database.{Table}
use Rattle.table_model.specs.Batches.{place_if, write_key, write_image}
use Rattle.table_items.specs.Outcomes.{row_key_if}
use Rattle.numbered_tables.specs.declared.change.TableChange.{TableChange}
use Rattle.table_batches.specs.Keys.{behind, gathered}
use Rattle.table_batches.specs.Writes.{change_if, changes_of}
use Rattle.table_batches.proofs.Gathered.{behind_none, one_more, a_fault, places}

-- the place of a key that was read
pub place_is : (read : Result Key KeyFault) (key : RowKey) → Ok key ≡ row_key_if read → place_if read ≡ Some key
place_is (Ok found) key is =
    let same : row_key found ≡ key = cc in
    ap (λ (k : RowKey). Some k) same
place_is (Err fault) key is = absurd (cc)

pub no_place : (read : Result Key KeyFault) (fault : KeyFault) → Err fault ≡ row_key_if read → place_if read ≡ None
no_place (Ok found) fault is = absurd (cc)
no_place (Err other) fault is = refl

module _ (table : Table) (name : List ℕ) (writes : List WriteRequest) where
  -- what was changed so far, the keys of it, and how the whole follows from the rest
  pub record Pushing (old now : List TableChange) (rest : List WriteRequest) : Type 0 where
    pub all : now ++ changes_of table name rest ≡ old ++ changes_of table name writes
    pub keys : List RowKey
    pub seen : behind keys (gathered (map (write_key table) rest)) ≡ gathered (map (write_key table) writes)

  pub begun : (old : List TableChange) → Pushing old old writes
  begun old = record { all = refl; keys = []; seen = behind_none (gathered (map (write_key table) writes)) }

  pub one_change :
      (old now more : List TableChange) (write : WriteRequest) (left rest : List WriteRequest) (key : RowKey) → left ≡ write ∷ rest
      → Ok key ≡ row_key_if (write_key table write) → more ≡ now ++ record { table = name; key = key; new = write_image write } ∷ []
      → Pushing old now left → Pushing old more rest
  one_change old now more write left rest key is read pushed before =
      let change : TableChange = record { table = name; key = key; new = write_image write } in
      let first : change ∷ changes_of table name rest ≡ changes_of table name left =
      ap (λ (o : Option RowKey). cons_option (change_if name write o) (changes_of table name rest)) (sym (place_is (write_key table write) key read))
      ∙ ap (changes_of table name) (sym is) in record {
        all =
            ap (λ (cs : List TableChange). cs ++ changes_of table name rest) pushed ∙ append_assoc now (change ∷ []) (changes_of table name rest)
            ∙ ap (λ (cs : List TableChange). now ++ cs) first ∙ before.all;
        keys = before.keys ++ key ∷ [];
        seen =
            one_more before.keys key (write_key table write) (map (write_key table) rest) read
            ∙ ap (λ (ws : List WriteRequest). behind before.keys (gathered (map (write_key table) ws))) (sym is)
            ∙ before.seen;
      }

  pub one_fault :
      (old now : List TableChange) (write : WriteRequest) (left rest : List WriteRequest) (fault : KeyFault) → left ≡ write ∷ rest
      → Err fault ≡ row_key_if (write_key table write) → Pushing old now left → gathered (map (write_key table) writes) ≡ Err fault
  one_fault old now write left rest fault is read before =
      sym (a_fault before.keys fault (write_key table write) (map (write_key table) rest) read
      ∙ ap (λ (ws : List WriteRequest). behind before.keys (gathered (map (write_key table) ws))) (sym is)
      ∙ before.seen)

  pub all_pushed :
      (old now : List TableChange) (left : List WriteRequest) → left ≡ [] → Pushing old now left
      → (keys : List RowKey) × (gathered (map (write_key table) writes) ≡ Ok keys) × (now ≡ old ++ changes_of table name writes)
  all_pushed old now left is before = (
    before.keys ++ [],
    sym (ap (λ (ws : List WriteRequest). behind before.keys (gathered (map (write_key table) ws))) (sym is) ∙ before.seen),
    sym (append-nil now) ∙ ap (λ (ws : List WriteRequest). now ++ changes_of table name ws) (sym is) ∙ before.all,
  )

-- ---- the keys of the changes

one_key :
    (name : List ℕ) (write : WriteRequest) (o : Option RowKey) (cs : List TableChange) (ks : List RowKey) → map (λ (c : TableChange). c.key) cs ≡ ks
    → map (λ (c : TableChange). c.key) (cons_option (change_if name write o) cs) ≡ cons_option o ks
one_key name write None cs ks is = is
one_key name write (Some key) cs ks is = ap (λ (zs : List RowKey). key ∷ zs) is

keys_of :
    (table : Table) (name : List ℕ) (writes : List WriteRequest)
    → map (λ (c : TableChange). c.key) (changes_of table name writes) ≡ filter_map place_if (map (write_key table) writes)
keys_of table name [] = refl
keys_of table name (w ∷ ws) =
    one_key name w (place_if (write_key table w)) (changes_of table name ws) (filter_map place_if (map (write_key table) ws)) (keys_of table name ws)

-- the keys of what was added are those that were gathered
pub added_keys :
    (table : Table) (name : List ℕ) (writes : List WriteRequest) (old now : List TableChange) (keys : List RowKey) (n : ℕ) → n ≡ length old
    → now ≡ old ++ changes_of table name writes → gathered (map (write_key table) writes) ≡ Ok keys
    → map (λ (c : TableChange). c.key) (drop n now) ≡ keys
added_keys table name writes old now keys n long is are =
    ap (λ (cs : List TableChange). map (λ (c : TableChange). c.key) (drop n cs)) is
    ∙ ap (λ (cs : List TableChange). map (λ (c : TableChange). c.key) cs) (drop_at old (changes_of table name writes) n (sym long))
    ∙ keys_of table name writes ∙ places (map (write_key table) writes) keys are
