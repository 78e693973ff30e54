-- The cells in the order of their numbers, of which one is changed.
use Rattle.std.proofs.Common.{◌≡◌, ℕ, zero, suc, ◌+◌, ◌<◌, ◌≤◌, List, [], ◌∷◌, Some, length, reverse, sym, ap, ◌∙◌, subst, arith}
use Rattle.std.specs.Prelude.{slice_get, slice_set}
use Rattle.turnstile.specs.Histories.{at_cell}
use Rattle.turnstile.proofs.Basics.{Some-injective, Some-ne-None, below_get}
use Rattle.std.specs.Prelude.{Box, slice_index_or}
use Rattle.std.proofs.lemmas.Option.{slice_get-get_or}
use Rattle.std.specs.declared.cmp.Ord as ord
use Rattle.std.specs.declared.cmp.PartialEq as eq
use Rattle.std.specs.declared.cmp.PartialOrd as partial
use Rattle.txn_core.specs.Service.{Service, Event, History}
use Rattle.txn_core.specs.Legal.{IsLegal}
use Rattle.index_changes.specs.declared.command_rules.TableChange.{TableChange}
use Rattle.partition.specs.Carrying.{IsCarriedOut}
use Rattle.txn_core.specs.Cells.{of_cell}
use Rattle.txn_core.proofs.Exports.{of_cell_reversed}
use Rattle.partition.specs.declared.cell.Partition.{Partition}
use Rattle.index_changes.specs.Entries.{LocalEntries}
use Rattle.control_cell.specs.declared.cell.ControlCell.{ControlCell}
use Rattle.cluster.specs.declared.cell.ClusterCell.{ClusterCell}
use Rattle.cluster.specs.Events.{cell_of}
use Rattle.cluster.specs.Standing.{StandsFor}
use Rattle.cluster.specs.Commanding.{AllStand, AllStandAfter, CarriedBefore, CarriesPlanned, EachSo, HasPlanned, KeepsAll, PlannedBefore, TakesCatalog, own}

-- what holds at the place of a changed element, and at each other one
pub one_changed :
    {X : Type 0} (T : ℕ → X → Type 0) (xs : List X) (i : ℕ) (y : X)
    → ((k : ℕ) (x : X) → slice_get xs k ≡ Some x → (k ≡ i → ⊥) → T k x) → T i y → EachSo (slice_set xs i y) T
one_changed T [] i y others here k x at = absurd (Some-ne-None x (sym at))
one_changed T (z ∷ zs) zero y others here zero x at = subst (λ w. T zero w) (Some-injective y x at) here
one_changed T (z ∷ zs) zero y others here (suc k) x at = others (suc k) x at (λ same. omega arith)
one_changed T (z ∷ zs) (suc i) y others here zero x at = others zero x at (λ same. omega arith)
one_changed T (z ∷ zs) (suc i) y others here (suc k) x at =
    one_changed (λ j. T (suc j)) zs i y (λ j w there apart. others (suc j) w there (λ same. apart (omega arith))) here k x at

-- what is lent of the place i stands there
pub lent : {X : Type 0} (xs : List X) (i : ℕ) (x : X) → i < length xs → x ≡ slice_index_or xs i x → slice_get xs i ≡ Some x
lent xs i x below is = slice_get-get_or xs i x below ∙ ap Some (sym is)

module _
    {R K V A F C D Q B N : Type 0} (S : Service K V A F C D Q B) (L : LocalEntries K V C N)
    {O : ord.Ghosts K} {E : eq.Ghosts K} {P : partial.Ghosts K} {X : ord.Ghosts N} {Y : eq.Ghosts N} {Z : partial.Ghosts N} {G : Type 0} where
  -- the cell that is lent stands
  pub lent_stands :
      (cells : List (Box (ClusterCell (Partition K V C N O E P X Y Z) (ControlCell R K V A F C D Q B)) G)) (es : History S) (i : ℕ)
      (b : Box (ClusterCell (Partition K V C N O E P X Y Z) (ControlCell R K V A F C D Q B)) G)
      (old : ClusterCell (Partition K V C N O E P X Y Z) (ControlCell R K V A F C D Q B)) → i < length cells → b ≡ slice_index_or cells i b
      → old ≡ b.value → AllStand S L cells es → StandsFor S L i old (of_cell i es)
  lent_stands cells es i b old below is same stand =
      subst (λ v. StandsFor S L i v (of_cell i es)) (sym same) (stand.each i b (lent cells i b below is))

  -- where it stands for all that it stood for, all still do
  pub stand_kept :
      (cells : List (Box (ClusterCell (Partition K V C N O E P X Y Z) (ControlCell R K V A F C D Q B)) G)) (es : History S) (i : ℕ)
      (b y : Box (ClusterCell (Partition K V C N O E P X Y Z) (ControlCell R K V A F C D Q B)) G)
      (old : ClusterCell (Partition K V C N O E P X Y Z) (ControlCell R K V A F C D Q B)) → i < length cells → b ≡ slice_index_or cells i b
      → old ≡ b.value → AllStand S L cells es → KeepsAll S L old y.value → AllStand S L (slice_set cells i y) es
  stand_kept cells es i b y old below is same stand keeps =
      record {
        each =
            one_changed (λ k x. StandsFor S L k x.value (of_cell k es)) cells i y (λ k x at apart. stand.each k x at)
            (keeps.keeps i (of_cell i es) (lent_stands cells es i b old below is same stand));
      }

  -- and where it is left as it was
  pub stand_left :
      (cells : List (Box (ClusterCell (Partition K V C N O E P X Y Z) (ControlCell R K V A F C D Q B)) G)) (es : History S) (i : ℕ)
      (b : Box (ClusterCell (Partition K V C N O E P X Y Z) (ControlCell R K V A F C D Q B)) G) → i < length cells → b ≡ slice_index_or cells i b
      → AllStand S L cells es → AllStand S L (slice_set cells i b) es
  stand_left cells es i b below is stand =
      record {
        each =
            one_changed (λ k x. StandsFor S L k x.value (of_cell k es)) cells i b (λ k x at apart. stand.each k x at)
            (stand.each i b (lent cells i b below is));
      }

  -- that each stands for its entries in what a pass sees, the oldest first, and the newest first
  pub each_newest :
      (cells : List (Box (ClusterCell (Partition K V C N O E P X Y Z) (ControlCell R K V A F C D Q B)) G)) (front : History S)
      → EachSo cells (λ i b. StandsFor S L i b.value (reverse (at_cell cell_of i front))) → AllStand S L cells (reverse front)
  each_newest cells front each = record { each = λ i b at. subst (λ es. StandsFor S L i b.value es) (sym (of_cell_reversed i front)) (each i b at) }

  pub each_oldest :
      (cells : List (Box (ClusterCell (Partition K V C N O E P X Y Z) (ControlCell R K V A F C D Q B)) G)) (front : History S)
      → AllStand S L cells (reverse front) → EachSo cells (λ i b. StandsFor S L i b.value (reverse (at_cell cell_of i front)))
  each_oldest cells front stand i b at = subst (λ es. StandsFor S L i b.value es) (of_cell_reversed i front) (stand.each i b at)

  module _ (target : D → C → TableChange) (numbers : C → ℕ → List ℕ) where
    -- the next partition carries out what it has planned
    pub carried_more :
        (cells : List (Box (ClusterCell (Partition K V C N O E P X Y Z) (ControlCell R K V A F C D Q B)) G)) (es : History S) (d : D) (moment i : ℕ)
        (b y : Box (ClusterCell (Partition K V C N O E P X Y Z) (ControlCell R K V A F C D Q B)) G)
        (old : ClusterCell (Partition K V C N O E P X Y Z) (ControlCell R K V A F C D Q B)) → i < length cells → i < S.control
        → b ≡ slice_index_or cells i b → old ≡ b.value → CarriedBefore S L target numbers i cells es d moment
        → CarriesPlanned S L target numbers old y.value moment → CarriedBefore S L target numbers (i + 1) (slice_set cells i y) es d moment
    carried_more cells es d moment i b y old below partition is same before carries =
        let here = lent cells i b below is in
        let reached : i ≤ i = omega arith in
        let ready = before.ready i b here reached in
        let stands = subst (λ v. StandsFor S L i v (of_cell i es)) (sym same) ready.0 in
        let planned = subst (λ v. HasPlanned S L target numbers i v d moment) (sym same) ready.1 in
        record {
          carried =
              one_changed
              (λ k x. k < i + 1 → (e : Event S) → IsCarriedOut S moment d e → IsLegal S (e ∷ es) → StandsFor S L k x.value (of_cell k (e ∷ es)))
              cells i y (λ k x at apart lt. let less : k < i = omega arith in before.carried k x at less)
              (λ lt e out legal. carries.carries i es e d partition planned out legal stands);
          ready =
              one_changed (λ k x. i + 1 ≤ k → StandsFor S L k x.value (of_cell k es) × HasPlanned S L target numbers k x.value d moment) cells i y
              (λ k x at apart le. let later : i ≤ k = omega arith in before.ready k x at later)
              (λ le. let none : ⊥ = omega arith in absurd none);
        }

    -- the next partition plans
    pub planned_more :
        (cells : List (Box (ClusterCell (Partition K V C N O E P X Y Z) (ControlCell R K V A F C D Q B)) G)) (d : D) (now moment i : ℕ)
        (y : Box (ClusterCell (Partition K V C N O E P X Y Z) (ControlCell R K V A F C D Q B)) G) → PlannedBefore S L target numbers i cells d moment
        → HasPlanned S L target numbers i y.value d now → now ≡ moment → PlannedBefore S L target numbers (i + 1) (slice_set cells i y) d moment
    planned_more cells d now moment i y before here same =
        record {
          each =
              one_changed (λ k x. k < i + 1 → HasPlanned S L target numbers k x.value d moment) cells i y
              (λ k x at apart lt. let less : k < i = omega arith in before.each k x at less)
              (λ lt. subst (λ t. HasPlanned S L target numbers i y.value d t) same here);
        }

    -- what has been planned may be carried out
    pub all_ready :
        (cells : List (Box (ClusterCell (Partition K V C N O E P X Y Z) (ControlCell R K V A F C D Q B)) G)) (es : History S) (d : D) (moment : ℕ)
        → AllStand S L cells es → PlannedBefore S L target numbers S.control cells d moment → CarriedBefore S L target numbers 0 cells es d moment
    all_ready cells es d moment stand planned = record {
      carried = λ k x at lt. let none : ⊥ = omega arith in absurd none;
      ready = λ k x at le. (stand.each k x at, ready k x.value (stand.each k x at) (planned.each k x at));
    }
      where
        ready :
            (k : ℕ) (v : ClusterCell (Partition K V C N O E P X Y Z) (ControlCell R K V A F C D Q B)) → StandsFor S L k v (of_cell k es)
            → (k < S.control → HasPlanned S L target numbers k v d moment) → HasPlanned S L target numbers k v d moment
        ready k (ClusterCell.Partition p) stands has = has stands.0
        ready k (ClusterCell.Control c) stands has = tt

    -- when the control cell has taken the catalog, all stand
    pub all_carried :
        (cells : List (Box (ClusterCell (Partition K V C N O E P X Y Z) (ControlCell R K V A F C D Q B)) G)) (es : History S) (d : D) (moment i : ℕ)
        (b y : Box (ClusterCell (Partition K V C N O E P X Y Z) (ControlCell R K V A F C D Q B)) G)
        (old : ClusterCell (Partition K V C N O E P X Y Z) (ControlCell R K V A F C D Q B)) (next : C) → length cells ≡ i + 1 → i ≡ S.control
        → b ≡ slice_index_or cells i b → old ≡ b.value → CarriedBefore S L target numbers i cells es d moment
        → next ≡ S.core.change d moment (own S es i).catalog → TakesCatalog S L old y.value moment next
        → AllStandAfter S L (slice_set cells i y) es d moment
    all_carried cells es d moment i b y old next many last is same before made takes =
        let below : i < length cells = omega arith in
        let reached : i ≤ i = omega arith in
        let ready = before.ready i b (lent cells i b below is) reached in
        let stands = subst (λ v. StandsFor S L i v (of_cell i es)) (sym same) ready.0 in
        record {
          after = λ e out legal. record {
            each =
                one_changed (λ k x. StandsFor S L k x.value (of_cell k (e ∷ es))) cells i y
                (λ k x at apart.
                let within = below_get cells k x at in let less : k < i = omega arith in before.carried k x at less e out legal)
                (takes.takes i es e d last made out legal stands);
          };
        }
