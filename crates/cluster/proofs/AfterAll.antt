-- What is left where a cluster is closed.
use Rattle.std.proofs.Common.{◌≡◌, ℕ, zero, suc, ◌<◌, List, [], ◌∷◌, map, Some, reverse, refl, sym, ap, ◌∙◌, subst, arith}
use Rattle.std.specs.Prelude.{slice_get}
use Rattle.std.specs.declared.cmp.Ord as ord
use Rattle.std.specs.declared.cmp.PartialEq as eq
use Rattle.std.specs.declared.cmp.PartialOrd as partial
use Rattle.turnstile.specs.Histories.{at_cell}
use Rattle.txn_core.specs.Service.{Service, History}
use Rattle.txn_core.specs.Cells.{of_cell}
use Rattle.txn_core.proofs.Exports.{of_cell_reversed}
use Rattle.partition.specs.declared.cell.Partition.{Partition}
use Rattle.index_changes.specs.Entries.{LocalEntries}
use Rattle.partition.specs.Says.{Stands}
use Rattle.control_cell.specs.declared.cell.ControlCell.{ControlCell}
use Rattle.control_cell.specs.Holding.{Holds}
use Rattle.cluster.specs.declared.cell.ClusterCell.{ClusterCell}
use Rattle.cluster.specs.Commanding.{IsControl}
use Rattle.cluster.specs.Events.{cell_of}
use Rattle.cluster.specs.Standing.{IsInPlace, IsPartition, StandsFor}

-- of two lists that are made into one: what stands at a place of the second, and what at that of the first
pub mapped_at :
    {X Y Z : Type 0} (f : X → Z) (g : Y → Z) (xs : List X) (ys : List Y) → map f xs ≡ map g ys → (i : ℕ) (y : Y) → slice_get ys i ≡ Some y
    → (x : X) × (slice_get xs i ≡ Some x) × (f x ≡ g y)
mapped_at f g xs [] same i y at = absurd (cc)
mapped_at f g [] (z ∷ ys) same i y at = absurd (cc)
mapped_at f g (x ∷ xs) (z ∷ ys) same zero y at = let head : f x ≡ g z = cc in let is : z ≡ y = cc in (x, refl, head ∙ ap g is)
mapped_at f g (x ∷ xs) (z ∷ ys) same (suc i) y at = let tail : map f xs ≡ map g ys = cc in mapped_at f g xs ys tail i y at

module _ {P L : Type 0} where
  -- where only a partition can be, nothing else is
  pub no_other : (v w : ClusterCell P L) → w ≡ v → IsPartition v → ((p : P) → w ≡ ClusterCell.Partition p → ⊥) → ⊥
  no_other (ClusterCell.Partition p) w same is other = other p same
  no_other (ClusterCell.Control c) w same is other = is

  -- a cell below the control cell's place is a partition
  pub below_is_partition : (control i : ℕ) (v : ClusterCell P L) → IsInPlace control i v → i < control → IsPartition v
  below_is_partition control i (ClusterCell.Partition p) at below = tt
  below_is_partition control i (ClusterCell.Control c) at below = let same : i ≡ control = at in absurd (omega arith)

  -- and that at its place isn't one
  pub last_is_control : (control : ℕ) (v : ClusterCell P L) (p : P) → IsInPlace control control v → v ≡ ClusterCell.Partition p → ⊥
  last_is_control control (ClusterCell.Partition p) q at is = let below : control < control = at in omega arith
  last_is_control control (ClusterCell.Control c) q at is = cc

module _
    {R K V A F C D Q B N : Type 0} (S : Service K V A F C D Q B) (L : LocalEntries K V C N)
    {O : ord.Ghosts K} {E : eq.Ghosts K} {P : partial.Ghosts K} {X : ord.Ghosts N} {Y : eq.Ghosts N} {Z : partial.Ghosts N} where
  -- a cell that stands is in its place
  pub in_place :
      (i : ℕ) (v : ClusterCell (Partition K V C N O E P X Y Z) (ControlCell R K V A F C D Q B)) (es : History S) → StandsFor S L i v es
      → IsInPlace S.control i v
  in_place i (ClusterCell.Partition p) es stands = stands.0
  in_place i (ClusterCell.Control c) es stands = stands.0

  -- a cell that stands in the control cell's place is it
  pub is_control :
      (i : ℕ) (v : ClusterCell (Partition K V C N O E P X Y Z) (ControlCell R K V A F C D Q B)) (es : History S) → i ≡ S.control
      → StandsFor S L i v es → IsControl v
  is_control i (ClusterCell.Partition p) es at stands = let below = stands.0 in absurd (omega arith)
  is_control i (ClusterCell.Control c) es at stands = tt

  -- a partition that stands for its entries of a history
  pub partition_stands :
      (i : ℕ) (log : History S) (v : ClusterCell (Partition K V C N O E P X Y Z) (ControlCell R K V A F C D Q B)) (x : Partition K V C N O E P X Y Z)
      → v ≡ ClusterCell.Partition x → StandsFor S L i v (reverse (at_cell cell_of i log)) → Stands S i x (of_cell i (reverse log))
  partition_stands i log v x is stands =
      (subst (λ z. StandsFor S L i z (of_cell i (reverse log))) is (subst (λ es. StandsFor S L i v es) (sym (of_cell_reversed i log)) stands)).1

  pub control_holds :
      (i : ℕ) (log : History S) (v : ClusterCell (Partition K V C N O E P X Y Z) (ControlCell R K V A F C D Q B)) (c : ControlCell R K V A F C D Q B)
      → v ≡ ClusterCell.Control c → StandsFor S L i v (reverse (at_cell cell_of i log)) → Holds S (of_cell S.control (reverse log)) c
  control_holds i log v c is stands =
      let here = subst (λ z. StandsFor S L i z (of_cell i (reverse log))) is (subst (λ es. StandsFor S L i v es) (sym (of_cell_reversed i log)) stands) in
      subst (λ k. Holds S (of_cell k (reverse log)) c) here.0 here.1
