-- The cells of a cluster in which nothing happened yet.
use Rattle.std.proofs.Common.{◌≡◌, ℕ, ◌<◌, List, [], ◌∷◌, ◌++◌, Some, length, sym, subst, ⊎_elim}
use Rattle.std.specs.Prelude.{slice_get}
use Rattle.std.specs.declared.cmp.Ord as ord
use Rattle.std.specs.declared.cmp.PartialEq as eq
use Rattle.std.specs.declared.cmp.PartialOrd as partial
use Rattle.turnstile.proofs.Basics.{get_push}
use Rattle.txn_core.specs.Service.{Service, History}
use Rattle.partition.specs.declared.cell.Partition.{Partition}
use Rattle.index_changes.specs.Entries.{LocalEntries}
use Rattle.partition.specs.InStep.{IsInStep}
use Rattle.partition.specs.Says.{Stands}
use Rattle.control_cell.specs.declared.cell.ControlCell.{ControlCell}
use Rattle.control_cell.specs.Holding.{Holds}
use Rattle.cluster.specs.declared.cell.ClusterCell.{ClusterCell}
use Rattle.cluster.specs.Standing.{StandsFor}

-- what holds at each place of a list, with one more at its end
pub one_more :
    {X : Type 0} (T : ℕ → X → Type 0) (xs : List X) (y : X) (all : List X) → all ≡ xs ++ y ∷ []
    → ((i : ℕ) (x : X) → slice_get xs i ≡ Some x → T i x) → T (length xs) y → (i : ℕ) (x : X) → slice_get all i ≡ Some x → T i x
one_more {X} T xs y all is each last i x at =
    ⊎_elim (λ old. each i x old) (λ new. subst (λ (z : ℕ × X). T z.0 z.1) (λ j. (sym new.0 j, new.1 j)) last)
    (get_push xs y x i (subst (λ l. slice_get l i ≡ Some x) is at))

module _
    {R K V A F C D Q B N : Type 0} (S : Service K V A F C D Q B) (L : LocalEntries K V C N)
    {O : ord.Ghosts K} {E : eq.Ghosts K} {P : partial.Ghosts K} {X : ord.Ghosts N} {Y : eq.Ghosts N} {Z : partial.Ghosts N} where
  pub partition_stands :
      (i : ℕ) (v : ClusterCell (Partition K V C N O E P X Y Z) (ControlCell R K V A F C D Q B)) (p : Partition K V C N O E P X Y Z) (es : History S)
      → v ≡ ClusterCell.Partition p → i < S.control → Stands S i p es → IsInStep S L p → StandsFor S L i v es
  partition_stands i v p es is below stands step = subst (λ x. StandsFor S L i x es) (sym is) (below, stands, step)

  pub control_stands :
      (i : ℕ) (v : ClusterCell (Partition K V C N O E P X Y Z) (ControlCell R K V A F C D Q B)) (c : ControlCell R K V A F C D Q B) (es : History S)
      → v ≡ ClusterCell.Control c → i ≡ S.control → Holds S es c → StandsFor S L i v es
  control_stands i v c es is at holds = subst (λ x. StandsFor S L i x es) (sym is) (at, holds)
