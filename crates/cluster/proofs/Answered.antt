-- What the cells answer to a command, and where nothing changes.
use Rattle.std.proofs.Common.{◌≡◌, ℕ, false, List, ◌∷◌, None, Some, inl, inr, refl, sym, ap, ◌∙◌, subst}
use Rattle.std.specs.Prelude.{Box}
use Rattle.std.specs.declared.cmp.Ord as ord
use Rattle.std.specs.declared.cmp.PartialEq as eq
use Rattle.std.specs.declared.cmp.PartialOrd as partial
use Rattle.index_feed.specs.Feed.{Feed, Rests, step as feed_step}
use Rattle.txn_core.specs.declared.message.Message.{Message}
use Rattle.txn_core.specs.declared.answer.Answer.{Answer}
use Rattle.txn_core.specs.declared.ruling.Ruling.{Ruling}
use Rattle.txn_core.specs.Service.{Service, IsServiceLawful, Asked, Reply, Event, History}
use Rattle.txn_core.specs.Effects.{Changed}
use Rattle.txn_core.specs.Feeding.{event_of, feed_after, item_event}
use Rattle.txn_core.specs.History.{effect_of, is_changed, where_so}
use Rattle.txn_core.specs.Indexing.{indexed}
use Rattle.txn_core.specs.Legal.{IsAnswer, IsLegal, ruling_answer, sent_to, state}
use Rattle.txn_core.specs.Cells.{of_cell, IsRuledByCells}
use Rattle.txn_core.specs.State.{State, step}
use Rattle.txn_core.proofs.Exports.{cells_answer}
use Rattle.partition.specs.declared.cell.Partition.{Partition}
use Rattle.index_changes.specs.Entries.{LocalEntries}
use Rattle.partition.specs.Holds.{Holds as Keeps}
use Rattle.control_cell.specs.declared.cell.ControlCell.{ControlCell}
use Rattle.control_cell.specs.declared.commands.CatalogPlan.{CatalogPlan}
use Rattle.control_cell.specs.Plans.{IsPlan}
use Rattle.control_cell.specs.Holding.{IsEntry, OthersLeaveIt, is_of_control}
use Rattle.cluster.specs.declared.cell.ClusterCell.{ClusterCell}
use Rattle.cluster.specs.Standing.{StandsFor}
use Rattle.cluster.specs.Commanding.{AllStand, AllStandAfter, AllStandWith, TellsFirst, own}
use Rattle.cluster.proofs.Commanded.{of_each}

module _ {K V A F C D Q B : Type 0} (S : Service K V A F C D Q B) where
  module _ (law : IsServiceLawful S) (es : History S) (legal : IsLegal S es) (moment : ℕ) (d : D) where
    -- a name or number that is refused
    pub refused_answers : (told : B) → S.refuses d (own S es S.control).catalog ≡ Some told → IsAnswer S es moment (Message.Command d) (Answer.Refused told)
    refused_answers told is =
        (cells_answer S law es legal moment d (Answer.Refused told)).1
        (subst (λ o. IsRuledByCells S (own S es) d moment o (Answer.Refused told)) (sym is) refl)

    -- else who stands in the way
    pub held_answers :
        (n : ℕ) → S.refuses d (own S es S.control).catalog ≡ None → TellsFirst S (own S es) d (Some n)
        → IsAnswer S es moment (Message.Command d) (Answer.Held n)
    held_answers n is first =
        (cells_answer S law es legal moment d (Answer.Held n)).1
        (subst (λ o. IsRuledByCells S (own S es) d moment o (Answer.Held n)) (sym is) (inl (n, first.0, refl, first.1, first.2)))

    -- else what the catalog says
    pub ruling_answers :
        (ruling : Ruling B) → S.refuses d (own S es S.control).catalog ≡ None → TellsFirst S (own S es) d None
        → S.rules d moment (own S es S.control).catalog ≡ ruling → IsAnswer S es moment (Message.Command d) (ruling_answer S ruling)
    ruling_answers ruling is clear ruled =
        (cells_answer S law es legal moment d (ruling_answer S ruling)).1
        (subst (λ o. IsRuledByCells S (own S es) d moment o (ruling_answer S ruling)) (sym is) (inr (ap (λ r. ruling_answer S r) (sym ruled), clear)))

  -- where the control cell has planned the command: what is refused by its name, what is held up, and what the catalog says
  module _ (law : IsServiceLawful S) (es : History S) (legal : IsLegal S es) (moment : ℕ) (d : D) (i : ℕ) (at : S.control ≡ i) (plan : CatalogPlan B C) (says : IsPlan S (own S es i).catalog d moment plan) where
    there : (next : CatalogPlan B C) → plan ≡ next → IsPlan S (own S es S.control).catalog d moment next
    there next is = subst (λ (z : ℕ × CatalogPlan B C). IsPlan S (own S es z.0).catalog d moment z.1) (λ j. (sym at j, is j)) says

    pub refused_planned : (told : B) → plan ≡ CatalogPlan.Refused told → IsAnswer S es moment (Message.Command d) (Answer.Refused told)
    refused_planned told is = refused_answers law es legal moment d told (there (CatalogPlan.Refused told) is)

    pub denied_held :
        (told : B) (n : ℕ) → plan ≡ CatalogPlan.Denied told → TellsFirst S (own S es) d (Some n)
        → IsAnswer S es moment (Message.Command d) (Answer.Held n)
    denied_held told n is first = held_answers law es legal moment d n (there (CatalogPlan.Denied told) is).0 first

    pub denied_planned :
        (told : B) → plan ≡ CatalogPlan.Denied told → TellsFirst S (own S es) d None → IsAnswer S es moment (Message.Command d) (Answer.Refused told)
    denied_planned told is clear =
        let h = there (CatalogPlan.Denied told) is in ruling_answers law es legal moment d (Ruling.Refuses told) h.0 clear h.1

    pub carried_held :
        (told : B) (next : C) (n : ℕ) → plan ≡ CatalogPlan.Carried told next → TellsFirst S (own S es) d (Some n)
        → IsAnswer S es moment (Message.Command d) (Answer.Held n)
    carried_held told next n is first = held_answers law es legal moment d n (there (CatalogPlan.Carried told next) is).0 first

    pub carried_planned :
        (told : B) (next : C) → plan ≡ CatalogPlan.Carried told next → TellsFirst S (own S es) d None
        → IsAnswer S es moment (Message.Command d) (Answer.Changed told)
    carried_planned told next is clear =
        let h = there (CatalogPlan.Carried told next) is in ruling_answers law es legal moment d (Ruling.Carries told) h.0 clear h.1.0

  module _
      {N : Type 0} (L : LocalEntries K V C N) {O : ord.Ghosts K} {E : eq.Ghosts K} {P : partial.Ghosts K}
      {X : ord.Ghosts N} {Y : eq.Ghosts N} {Z : partial.Ghosts N} where
    -- a command that changes nothing leaves what a partition holds
    leaves_partition :
        (i : ℕ) (p : Partition K V C N O E P X Y Z) (w : State K V A C) (f : Feed K V C) (e : Event S) (moment : ℕ) (d : D) (a : Reply S)
        → is_changed a ≡ false → IsEntry S moment (Message.Command d) a e → Keeps S i p w f
        → Keeps S i p (step S.core w (effect_of e.moment e.message e.answer))
        (feed_step (indexed S.core S.index) f (event_of S w e.moment e.message e.answer))
    leaves_partition i p w f e moment d a same is h =
        subst
        (λ (z : ℕ × Asked S × Reply S). Keeps S i p (step S.core w (effect_of z.0 z.1 z.2)) (feed_step (indexed S.core S.index) f (event_of S w z.0 z.1 z.2)))
        (λ j. (sym is.moment_is j, sym is.message_is j, sym is.answer_is j))
        (subst
        (λ b.
        Keeps S i p (step S.core w (where_so b (Changed d moment)))
        (feed_step (indexed S.core S.index) f (item_event S.core S.index w (where_so b (Changed d moment)) Rests)))
        (sym same) h)

    pub command_leaves :
        {R : Type 0} → OthersLeaveIt R S → (i : ℕ) (v : ClusterCell (Partition K V C N O E P X Y Z) (ControlCell R K V A F C D Q B)) (es : History S)
        (e : Event S) (moment : ℕ) (d : D) (a : Reply S) → is_changed a ≡ false → IsEntry S moment (Message.Command d) a e → IsLegal S (e ∷ es)
        → StandsFor S L i v (of_cell i es) → StandsFor S L i v (of_cell i (e ∷ es))
    command_leaves {R} leave i (ClusterCell.Partition p) es e moment d a same is legal stands =
        let over : e.cell ≡ None = legal.1.cell ∙ ap (λ m. sent_to S m) is.message_is in
        let mine = of_cell i es in
        subst (λ xs. StandsFor {R = R} S L i (ClusterCell.Partition p) xs) (sym (of_each S i es e over))
        (stands.0, leaves_partition i p (state S mine) (feed_after S mine) e moment d a same is stands.1, stands.2)
    command_leaves {R} leave i (ClusterCell.Control c) es e moment d a same is legal stands =
        let over : e.cell ≡ None = legal.1.cell ∙ ap (λ m. sent_to S m) is.message_is in
        let other = ap (λ x. is_of_control S x e.answer) is.message_is ∙ (ap is_changed is.answer_is ∙ same) in
        subst (λ xs. StandsFor {R = R} S L {O = O} {E = E} {P = P} {X = X} {Y = Y} {Z = Z} i (ClusterCell.Control c) xs) (sym (of_each S i es e over))
        (stands.0, leave (of_cell i es) e c stands.1 other)

    module _ {G : Type 0} where
      -- with a command that changes nothing all cells stand as they are
      pub all_left :
          {R : Type 0} → OthersLeaveIt R S → (cells : List (Box (ClusterCell (Partition K V C N O E P X Y Z) (ControlCell R K V A F C D Q B)) G))
          (es : History S) (moment : ℕ) (d : D) (a : Reply S) → is_changed a ≡ false → AllStand S L cells es → AllStandWith S L cells es d moment a
      all_left leave cells es moment d a same stand = record {
        after = λ e is legal. record { each = λ k b at. command_leaves leave k b.value es e moment d a same is legal (stand.each k b at) };
      }

      -- with one that was carried out they stand with its entry
      pub all_changed :
          {R : Type 0} (cells : List (Box (ClusterCell (Partition K V C N O E P X Y Z) (ControlCell R K V A F C D Q B)) G)) (es : History S)
          (moment : ℕ) (d : D) (told : B) → AllStandAfter S L cells es d moment → AllStandWith S L cells es d moment (Answer.Changed told)
      all_changed cells es moment d told stand = record {
        after = λ e is legal.
            stand.after e record { moment_is = is.moment_is; message = is.message_is; told = told; answer = is.answer_is } legal;
      }
