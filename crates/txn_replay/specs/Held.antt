-- Lists of held items, which may stand in any order.
use Rattle.std.specs.Prelude.{◌↔◌, ℕ, Bool, true, not, ◌&&◌, nat_eq, IsTrue, List, [], ◌∷◌}
use Rattle.std.specs.List.{list_all, list_any}
use Rattle.txn_core.specs.declared.answer.HeldItem.{HeldItem}
use Rattle.txn_core.specs.Protocol.{Protocol}
use Rattle.txn_core.specs.Service.{Service, Reply}
use Rattle.txn_core.specs.State.{State}
use Rattle.txn_core.specs.Legal.{IsPendingList}

module _ {K V A F C D : Type 0} (P : Protocol K V A F C D) where
  -- both are one item, held by one transaction
  abbrev pub is_hold : HeldItem K → HeldItem K → Bool
  is_hold p o = P.same o.key p.key && nat_eq o.number p.number

  -- it is one of these
  abbrev pub is_listed : List (HeldItem K) → HeldItem K → Bool
  is_listed others p = list_any (is_hold p) others

  -- each of these is one of the others
  abbrev pub are_among : List (HeldItem K) → List (HeldItem K) → Bool
  are_among pendings others = list_all (is_listed others) pendings

  -- no two of these are one item
  abbrev pub are_once : List (HeldItem K) → Bool
  are_once [] = true
  are_once (x ∷ xs) = not (list_any (λ y. P.same x.key y.key) xs) && are_once xs

module _ {K V A F C D Q B : Type 0} (S : Service K V A F C D Q B) where
  -- of each state and cell of which the one list is told, the other one is exactly where this is true
  abbrev pub TellsPendings : Reply S → Reply S → Bool → Type 0
  TellsPendings given told right =
      (w : State K V A C) (cell : ℕ) → IsPendingList S w cell given → IsTrue right ↔ IsPendingList S w cell told
