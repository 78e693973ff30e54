-- Places and rows, taken apart; and what was kept, and what a Look told, as the place that it gives.
use Rattle.std.proofs.Common.{◌≡◌, ℕ, List, reverse, Option, None, Some, Result, Ok, Err, refl, sym, ap, subst, inl, inr}
use Rattle.std.specs.Prelude.{◌⊎◌}
use Rattle.turnstile.specs.Passes.{PassView}
use Rattle.item_keys.specs.declared.fault.KeyFault.{KeyFault}
use Rattle.item_keys.specs.declared.key.Key.{Key}
use Rattle.row_keys.specs.declared.row_key.RowKey.{RowKey}
use Rattle.row_keys.specs.Keys.{row_key}
use Rattle.table_schema.specs.declared.schema.Schema.{Schema}
use Rattle.table_model.specs.declared.refusal.Refusal.{Refusal}
use Rattle.table_model.specs.declared.refusal.Refusal.TheVariants as refusal
use Rattle.table_model.specs.declared.refusal.Invalid.{Invalid}
use Rattle.table_model.specs.declared.refusal.Invalid.TheVariants as invalid
use Rattle.table_items.specs.Outcomes.{row_key_if}
use Rattle.txn_core.specs.declared.message.Message.{Message}
use Rattle.cell_model.specs.declared.answer.TableLook.{TableLook}
use Rattle.cell_model.specs.declared.key.CellKey.{CellKey}
use Rattle.cell_model.specs.declared.question.CatalogQuestion.TheVariants.{Look}
use Rattle.table_history.specs.Entries.{TableEvent}
use Rattle.cell_asks.specs.declared.looks.Looks.{Looks}
use Rattle.cell_asks.specs.Steps.{One}
use Rattle.cell_asks.specs.Answers.{look_answer}
use Rattle.cell_asks.specs.Told.{AreTold, WasTold, kept_of}
use Rattle.cell_asks.proofs.Trails.{looked}
use Rattle.item_calls.specs.declared.place.Place.{Place}
use Rattle.item_calls.specs.Places.{row_at, row_unless, place_if, place_told, kept_at, kept_place, IsKnown, IsPlaced}

-- ---- rows and their keys

pub record HasKey (k : Result Key KeyFault) (row : RowKey) : Type 0 where
  pub key : Key
  pub is : k ≡ Ok key
  pub row_is : row_key key ≡ row

pub record HasFault (k : Result Key KeyFault) (why : Invalid) : Type 0 where
  pub fault : KeyFault
  pub is : k ≡ Err fault
  pub why_is : invalid.Key fault ≡ why

pub key_behind : (k : Result Key KeyFault) (row : RowKey) → row_at (row_key_if k) ≡ Ok row → HasKey k row
key_behind (Ok key) row is = record { key = key; is = refl; row_is = cc }
key_behind (Err fault) row is = absurd (cc)

pub fault_behind : (k : Result Key KeyFault) (why : Invalid) → row_at (row_key_if k) ≡ Err why → HasFault k why
fault_behind (Ok key) why is = absurd (cc)
fault_behind (Err fault) why is = record { fault = fault; is = refl; why_is = cc }

-- the same beside an update of a key attribute
pub record HasKeyAlone (k : Result Key KeyFault) (touched : Option (List ℕ)) (row : RowKey) : Type 0 where
  pub has : HasKey k row
  pub none : touched ≡ None

pub record HasTouched (k : Result Key KeyFault) (touched : Option (List ℕ)) (why : Invalid) : Type 0 where
  pub key : Key
  pub is : k ≡ Ok key
  pub name : List ℕ
  pub touched_is : touched ≡ Some name
  pub why_is : invalid.UpdateOfKey name ≡ why

pub key_unless : (k : Result Key KeyFault) (touched : Option (List ℕ)) (row : RowKey) → row_unless touched (row_key_if k) ≡ Ok row → HasKeyAlone k touched row
key_unless (Ok key) None row is = record { has = record { key = key; is = refl; row_is = cc }; none = refl }
key_unless (Ok key) (Some name) row is = absurd (cc)
key_unless (Err fault) touched row is = absurd (cc)

pub fault_unless : (k : Result Key KeyFault) (touched : Option (List ℕ)) (why : Invalid) → row_unless touched (row_key_if k) ≡ Err why
    → HasFault k why ⊎ HasTouched k touched why
fault_unless (Ok key) None why is = absurd (cc)
fault_unless (Ok key) (Some name) why is = inr (record { key = key; is = refl; name = name; touched_is = refl; why_is = cc })
fault_unless (Err fault) touched why is = inl (record { fault = fault; is = refl; why_is = cc })

-- ---- places

pub record RowRefuses (row : Result RowKey Invalid) (why : Refusal) : Type 0 where
  pub bad : Invalid
  pub is : row ≡ Err bad
  pub why_is : refusal.Invalid bad ≡ why

pub row_refuses : (number : ℕ) (row : Result RowKey Invalid) (why : Refusal) → place_if number row ≡ Place.Refused why → RowRefuses row why
row_refuses number (Ok row) why is = absurd (cc)
row_refuses number (Err bad) why is = record { bad = bad; is = refl; why_is = cc }

module _ (n : ℕ) (p : PassView TableEvent) (name : List ℕ) (rows : Schema → Result RowKey Invalid) where
  -- by what is kept
  pub placed_kept : (looks : Looks) → AreTold (reverse p.front) looks → (key : CellKey) → kept_place rows (kept_of looks name) ≡ Some key → IsKnown n p name rows key p
  placed_kept looks told key is = by_look (kept_of looks name) refl is
    where
      by_row : (look : TableLook) → WasTold (reverse p.front) name look → (row : Result RowKey Invalid) → rows look.schema ≡ row → kept_at look.number row ≡ Some key
          → IsKnown n p name rows key p
      by_row look was (Ok row) row_is is = record { look = look; told = was; row = row; row_is = row_is; is = cc; looked = inl refl }
      by_row look was (Err why) row_is is = absurd (cc)

      by_look : (o : Option TableLook) → kept_of looks name ≡ o → kept_place rows o ≡ Some key → IsKnown n p name rows key p
      by_look None kept is = absurd (cc)
      by_look (Some look) kept is = by_row look (told name look kept) (rows look.schema) refl is

  -- of a Look for a copy of the name
  pub look_named : (asked : List ℕ) → asked ≡ name → (told : Option TableLook) (q : PassView TableEvent) → One n p (Message.Ask (Look asked)) (look_answer told) q
      → One n p (Message.Ask (Look name)) (look_answer told) q
  look_named asked same told q one = subst (λ x. One n p (Message.Ask (Look x)) (look_answer told) q) same one

  pub look_told : (told : Option TableLook) (q : PassView TableEvent) → One n p (Message.Ask (Look name)) (look_answer told) q
      → (look : TableLook) → told ≡ Some look → WasTold (reverse q.front) name look
  look_told told q one look is = looked n p name look q (subst (λ o. One n p (Message.Ask (Look name)) (look_answer o) q) is one)

  -- by an own Look
  pub placed_told : (told : Option TableLook) (q : PassView TableEvent) → One n p (Message.Ask (Look name)) (look_answer told) q
      → (place : Place) → place ≡ place_told name rows told → IsPlaced n p name rows place q
  placed_told None q one place is = subst (λ x. IsPlaced n p name rows x q) (sym is) (record { told = None; look = one; is = refl })
  placed_told (Some look) q one place is = subst (λ x. IsPlaced n p name rows x q) (sym is) (by_row (rows look.schema) refl)
    where
      by_row : (row : Result RowKey Invalid) → rows look.schema ≡ row → IsPlaced n p name rows (place_if look.number row) q
      by_row (Ok row) row_is = record {
        look = look;
        told = looked n p name look q one;
        row = row;
        row_is = row_is;
        is = refl;
        looked = inr (Some look, one);
      }
      by_row (Err why) row_is = record { told = Some look; look = one; is = ap (place_if look.number) row_is }
