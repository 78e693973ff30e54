-- What two reads of an item tell of it.
use Rattle.std.specs.Prelude.{◌≡◌, ◌≢◌, ℕ, nat_eq, List, map, All, Any, Option, None, Some, if◌then◌else◌}
use Rattle.std.specs.List.{zip}
use Rattle.txn_core.specs.declared.reason.Reason.{Reason}
use Rattle.txn_reader.specs.declared.item_version.ItemVersion.{ItemVersion}
use Rattle.txn_reader.specs.declared.read_end.ReadEnd.{ReadEnd}

module _ {V F : Type 0} where
  -- why two reads of an item may be of two points: a transaction held it at one of them, or its version differed
  abbrev pub reason_by : Option ℕ → Option ℕ → ℕ → ℕ → Reason V F
  reason_by (Some number) held first second = Reason.Held number
  reason_by None (Some number) first second = Reason.Held number
  reason_by None None first second = if nat_eq first second then Reason.None else Reason.Moved first second

  abbrev pub reason_of : ItemVersion V → ItemVersion V → Reason V F
  reason_of one two = reason_by one.held two.held one.version two.version

  -- the same of each item
  abbrev pub reasons_of : List (ItemVersion V) → List (ItemVersion V) → List (Reason V F)
  reasons_of first second = map (λ reads. reason_of reads.0 reads.1) (zip first second)

  -- no item has a reason, and these are the items of the first reads; or one has, and these are the reasons
  abbrev pub IsRuled : List (ItemVersion V) → List (ItemVersion V) → ReadEnd V F → Type 0
  IsRuled first second (ReadEnd.Rows items) =
      (items ≡ map (λ found. found.item) first) × All (λ (r : Reason V F). r ≡ Reason.None) (reasons_of first second)
  IsRuled first second (ReadEnd.Cancelled reasons) =
      (reasons ≡ reasons_of first second) × Any (λ r. r ≢ Reason.None) reasons
  IsRuled first second _ = ⊥
