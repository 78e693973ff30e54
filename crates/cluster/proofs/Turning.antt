-- The step of a cell at its turn.
use Rattle.std.proofs.Common.{◌≡◌, ℕ, ◌-◌, ◌<◌, ◌≤◌, List, [], ◌∷◌, None, Some, reverse, refl, sym, subst, arith}
use Rattle.std.specs.Prelude.{Box}
use Rattle.std.specs.declared.cmp.Ord as ord
use Rattle.std.specs.declared.cmp.PartialEq as eq
use Rattle.std.specs.declared.cmp.PartialOrd as partial
use Rattle.turnstile.specs.declared.board.Ticket.{Ticket}
use Rattle.turnstile.specs.Histories.{at_cell, Trail, IsTimely}
use Rattle.turnstile.specs.Passes.{PassView}
use Rattle.txn_core.specs.declared.message.Message.{Message}
use Rattle.txn_core.specs.Service.{Service, IsServiceLawful, Asked, Reply, Event, History}
use Rattle.txn_core.specs.Legal.{IsAnswer, Allowed, sent_to}
use Rattle.txn_core.specs.Cells.{of_cell}
use Rattle.txn_core.proofs.Exports.{of_cell_reversed}
use Rattle.partition.specs.declared.cell.Partition.{Partition}
use Rattle.index_changes.specs.Entries.{LocalEntries}
use Rattle.control_cell.specs.declared.cell.ControlCell.{ControlCell}
use Rattle.cluster.specs.declared.cell.ClusterCell.{ClusterCell}
use Rattle.cluster.specs.Commanding.{AllStand, AllStandWith}
use Rattle.cluster.specs.Events.{pass_of, moment_of, cell_of, event_of}
use Rattle.cluster.specs.Standing.{StandsFor}
use Rattle.cluster.specs.World.{IsLegalLog}
use Rattle.cluster.specs.Serving.{ServeAnswers, ServeStands}
use Rattle.cluster.specs.Steps.{Fits}
use Rattle.cluster.proofs.Counting.{fits, follows}

module _
    {R K V A F C D Q B N : Type 0} (S : Service K V A F C D Q B) (L : LocalEntries K V C N)
    {O : ord.Ghosts K} {E : eq.Ghosts K} {P : partial.Ghosts K} {X : ord.Ghosts N} {Y : eq.Ghosts N} {Z : partial.Ghosts N} where
  -- a cell that stands for its entries in what the pass sees stands for those of the newest first
  pub stands_newest :
      (i : ℕ) (front : History S) (v w : ClusterCell (Partition K V C N O E P X Y Z) (ControlCell R K V A F C D Q B)) → w ≡ v
      → StandsFor S L i v (reverse (at_cell cell_of i front)) → StandsFor S L i w (of_cell i (reverse front))
  stands_newest i front v w same stands =
      subst (λ x. StandsFor S L i x (of_cell i (reverse front))) (sym same) (subst (λ es. StandsFor S L i v es) (sym (of_cell_reversed i front)) stands)

  -- what a pass has of n cells, i the one whose turn it has, and what that cell answered and became: the entry may be counted, and
  -- with it the cell stands
  pub turned :
      IsServiceLawful S → (n i used moment : ℕ) (p taken : PassView (Event S)) (turns : List Ticket) (m : Asked S) (a : Reply S)
      (v w : ClusterCell (Partition K V C N O E P X Y Z) (ControlCell R K V A F C D Q B)) → 2 ≤ n → S.control ≡ n - 1 → i ≤ S.control
      → sent_to S m ≡ Some i → taken ≡ record p { used = used; front = taken.front; turns = turns } → IsLegalLog S taken.front
      → Trail pass_of p.number p.front [] taken.front → Allowed S (reverse p.front) p.number m
      → IsTimely pass_of moment_of taken.number taken.moment taken.front → StandsFor S L i v (of_cell i (reverse taken.front))
      → moment ≡ taken.moment → ServeAnswers S L v m moment a → ServeStands S L v w m moment a → (k : ℕ) (x : Asked S) → k ≡ i → x ≡ m
      → Fits S n taken.front (event_of taken (Some k) x a) × StandsFor S L k w (event_of taken (Some k) x a ∷ of_cell k (reverse taken.front))
  turned law n i used moment p taken turns m a v w cells numbered within sent is legal trail may timely stands now says leaves k x cell same =
      let some : 1 ≤ S.control = omega arith in
      let all : S.control < n = omega arith in
      let answer = subst (λ t. IsAnswer S (reverse taken.front) t m a) now (says.answers i (reverse taken.front) sent legal stands) in
      let fit = fits S law n used (Some i) p taken turns m a some all (λ j at. let one : i ≡ j = cc in omega arith) sent is legal trail may timely answer in
      let after =
      leaves.stands i (reverse taken.front) (event_of taken (Some i) m a) sent legal (follows S n taken.front (event_of taken (Some i) m a) fit)
      record { moment_is = sym now; message_is = refl; answer_is = refl } stands in
      subst
      (λ (z : ℕ × Asked S).
      Fits S n taken.front (event_of taken (Some z.0) z.1 a) × StandsFor S L z.0 w (event_of taken (Some z.0) z.1 a ∷ of_cell z.0 (reverse taken.front)))
      (λ j. (sym cell j, sym same j)) (fit, after)

  -- the same of all cells, which have answered a command
  pub all_turned :
      {G : Type 0} → IsServiceLawful S → (n used : ℕ) (p taken : PassView (Event S)) (turns : List Ticket) (d : D) (a : Reply S)
      (cells : List (Box (ClusterCell (Partition K V C N O E P X Y Z) (ControlCell R K V A F C D Q B)) G)) → 2 ≤ n → S.control ≡ n - 1
      → taken ≡ record p { used = used; front = taken.front; turns = turns } → IsLegalLog S taken.front
      → Trail pass_of p.number p.front [] taken.front → IsTimely pass_of moment_of taken.number taken.moment taken.front
      → IsAnswer S (reverse taken.front) taken.moment (Message.Command d) a → AllStandWith S L cells (reverse taken.front) d taken.moment a
      → Fits S n taken.front (event_of taken None (Message.Command d) a)
      × AllStand S L cells (event_of taken None (Message.Command d) a ∷ reverse taken.front)
  all_turned law n used p taken turns d a cells two numbered is legal trail timely answer stand =
      let e : Event S = event_of taken None (Message.Command d) a in
      let some : 1 ≤ S.control = omega arith in
      let all : S.control < n = omega arith in
      let fit = fits S law n used None p taken turns (Message.Command d) a some all (λ i at. absurd (cc)) refl is legal trail tt timely answer in
      (fit, stand.after e record { moment_is = refl; message_is = refl; answer_is = refl } (legal, follows S n taken.front e fit))
