-- A command: what the cells answer to it, and that they stand with its entry.
use Rattle.std.proofs.Common.{◌≡◌, ℕ, ◌+◌, ◌<◌, ◌≤◌, true, false, List, ◌∷◌, Option, None, Some, MatchOption, is_some, inl, inr, length, refl, sym, ap, ◌∙◌, subst, arith}
use Rattle.std.specs.Prelude.{slice_get, slice_index_or, slice_set}
use Rattle.std.proofs.lemmas.List.{length-set}
use Rattle.std.proofs.lemmas.Option.{slice_get_within}
use Rattle.std.specs.declared.cmp.Ord as ord
use Rattle.std.specs.declared.cmp.PartialEq as eq
use Rattle.std.specs.declared.cmp.PartialOrd as partial
use Rattle.index_feed.specs.Feed.{Feed, Rests, step as feed_step}
use Rattle.txn_core.specs.declared.message.Message.{Message}
use Rattle.txn_core.specs.declared.answer.Answer.{Answer}
use Rattle.txn_core.specs.Service.{Service, IsServiceLawful, Asked, Reply, Event, History}
use Rattle.txn_core.specs.Effects.{Changed}
use Rattle.txn_core.specs.Feeding.{event_of, feed_after, item_event}
use Rattle.txn_core.specs.History.{effect_of, is_changed, where_so}
use Rattle.txn_core.specs.Indexing.{indexed}
use Rattle.txn_core.specs.Legal.{IsAnswer, IsLegal, ruling_answer, sent_to, state}
use Rattle.txn_core.specs.Cells.{IsClearThere, IsFirstHolder, IsRuledByCells, of_cell}
use Rattle.txn_core.specs.State.{State, step}
use Rattle.txn_core.proofs.Basics.{some_is}
use Rattle.txn_core.proofs.Exports.{cells_answer, own_entries_tell}
use Rattle.index_changes.specs.Entries.{LocalEntries}
use Rattle.index_changes.specs.declared.command_rules.TableChange.{TableChange}
use Rattle.partition.specs.declared.cell.Partition.{Partition}
use Rattle.partition.specs.Carrying.{CarriesOwnEntries, CarriesOwnOut, IsCarriedOut}
use Rattle.partition.specs.Holders.{TellsHolder}
use Rattle.partition.specs.Holds.{Holds as Keeps}
use Rattle.partition.specs.InStep.{StaysInStep}
use Rattle.partition.specs.Plans.{IsPlanned}
use Rattle.partition.specs.Says.{Keeps as KeepsAll}
use Rattle.control_cell.specs.declared.cell.ControlCell.{ControlCell}
use Rattle.control_cell.specs.declared.commands.CatalogPlan.{CatalogPlan}
use Rattle.control_cell.specs.Plans.{IsPlan, TakesPlan}
use Rattle.control_cell.specs.Holding.{IsEntry, OthersLeaveIt, is_of_control}
use Rattle.txn_replay.specs.declared.cells.Cells.{Cells}
use Rattle.txn_replay.specs.Standing.{AllStand, CarriesAll, CarriesHere, EachCarries, EachStands, Leads, StandsAs, Tells, TellsFirst, own}
use Rattle.txn_replay.proofs.Lists.{lent, one_changed}
use Rattle.txn_replay.proofs.Staying.{each_more}

module _ {K V A F C D Q B : Type 0} (S : Service K V A F C D Q B) (at : ℕ → State K V A C) (d : D) where
  -- one more cell that is clear
  pub clear_more :
      (i : ℕ) (holder : Option ℕ) → is_some holder ≡ false
      → MatchOption holder (IsClearThere S (at i) d i) (λ n. IsFirstHolder S (at i) d i n)
      → ((j : ℕ) → j < i → IsClearThere S (at j) d j) → (j : ℕ) → j < i + 1 → IsClearThere S (at j) d j
  clear_more i (Some n) none here before j below = absurd (cc)
  clear_more i None none here before j below = by (native.Mathlib.Decide.ℕ_discrete j i)
    where
      by : Dec (j ≡ i) → IsClearThere S (at j) d j
      by (yes same) = subst (λ k. IsClearThere S (at k) d k) (sym same) here
      by (no apart) = before j (omega arith)

  -- the first that is not
  pub first_found :
      (i : ℕ) (holder : Option ℕ) → is_some holder ≡ true
      → MatchOption holder (IsClearThere S (at i) d i) (λ n. IsFirstHolder S (at i) d i n)
      → ((j : ℕ) → j < i → IsClearThere S (at j) d j) → TellsFirst S at d holder
  first_found i (Some n) some here before = (i, here, before)
  first_found i None some here before = absurd (cc)

  -- where all partitions are clear, all cells are
  pub all_clear :
      IsServiceLawful S → 1 ≤ S.control → (i : ℕ) → S.control ≤ i → ((j : ℕ) → j < i → IsClearThere S (at j) d j) → TellsFirst S at d None
  all_clear law some i all before = λ j q lives concerned.
      let lt = law.cell_below some q in
      let below : j < i = omega arith in
      before j below q lives concerned

module _
    {K V A F C D Q B N : Type 0} (S : Service K V A F C D Q B) (L : LocalEntries K V C N) (target : D → C → TableChange) (numbers : C → ℕ → List ℕ)
    {O : ord.Ghosts K} {E : eq.Ghosts K} {P : partial.Ghosts K} {X : ord.Ghosts N} {Y : eq.Ghosts N} {Z : partial.Ghosts N} where
  -- a partition that plans a command and carries it out
  pub carries_here :
      (i : ℕ) (c planned d : Partition K V C N O E P X Y Z) (command : D) (moment : ℕ)
      → (c.partitions ≡ S.control → IsPlanned S L target numbers i planned command moment) → ((j : ℕ) → KeepsAll S j c planned)
      → StaysInStep S L c planned → CarriesOwnOut S L target numbers i planned d moment → CarriesOwnEntries S L target numbers i planned d moment
      → CarriesHere S L i c d command moment
  carries_here i c planned d command moment plan keeps kept carries steps = record {
    carries = λ es e out legal stands.
        let mine = of_cell i es in
        let held = keeps i (state S mine) (feed_after S mine) stands.0 in
        let ready = plan stands.0.partitions in
        (carries command es e ready out legal held, steps command es e ready out legal held (kept stands.1));
  }

module _
    {K V A F C D Q B N : Type 0} (S : Service K V A F C D Q B) (L : LocalEntries K V C N)
    {O : ord.Ghosts K} {E : eq.Ghosts K} {P : partial.Ghosts K} {X : ord.Ghosts N} {Y : eq.Ghosts N} {Z : partial.Ghosts N} where
  -- who stands in the way in one of them
  pub holder_here :
      (cells : List (Partition K V C N O E P X Y Z)) (es : History S) (i : ℕ) (p : Partition K V C N O E P X Y Z) → i < length cells
      → p ≡ slice_index_or cells i p → (d : D) (holder : Option ℕ) → TellsHolder S i p d holder → EachStands S L cells es
      → MatchOption holder (IsClearThere S (own S es i) d i) (λ n. IsFirstHolder S (own S es i) d i n)
  holder_here cells es i p below is d holder tells stand =
      let mine = of_cell i es in
      tells (state S mine) (feed_after S mine) (stand.each i p (lent cells i p below is)).0

  -- the first of them stand with the command's entry, the others as before
  pub record CarriedUntil (k : ℕ) (old new : List (Partition K V C N O E P X Y Z)) (command : D) (moment : ℕ) : Type 0 where
    pub count : length new ≡ length old
    pub done :
        (es : History S) (e : Event S) → IsCarriedOut S moment command e → IsLegal S (e ∷ es) → EachStands S L old es → (i : ℕ)
        (p : Partition K V C N O E P X Y Z) → slice_get new i ≡ Some p → i < k → StandsAs S L i p (of_cell i (e ∷ es))
    pub open_ :
        (es : History S) → EachStands S L old es → (i : ℕ) (p : Partition K V C N O E P X Y Z) → slice_get new i ≡ Some p → k ≤ i
        → StandsAs S L i p (of_cell i es)

  pub none_carried : (old : List (Partition K V C N O E P X Y Z)) (command : D) (moment : ℕ) → CarriedUntil 0 old old command moment
  none_carried old command moment = record {
    count = refl;
    done = λ es e out legal stand i p there lt. let none : ⊥ = omega arith in absurd none;
    open_ = λ es stand i p there le. stand.each i p there;
  }

  pub carried_more :
      (k : ℕ) (old new : List (Partition K V C N O E P X Y Z)) (x y : Partition K V C N O E P X Y Z) (command : D) (moment : ℕ) → k < length new
      → x ≡ slice_index_or new k x → CarriesHere S L k x y command moment → CarriedUntil k old new command moment
      → CarriedUntil (k + 1) old (slice_set new k y) command moment
  carried_more k old new x y command moment below is carries before = record {
    count = length-set new k y ∙ before.count;
    done = λ es e out legal stand.
        one_changed (λ i p. i < k + 1 → StandsAs S L i p (of_cell i (e ∷ es))) new k y
        (λ i p there apart lt. let less : i < k = omega arith in before.done es e out legal stand i p there less)
        (λ lt. carries.carries es e out legal (before.open_ es stand k x (lent new k x below is) (omega arith)));
    open_ = λ es stand.
        one_changed (λ i p. k + 1 ≤ i → StandsAs S L i p (of_cell i es)) new k y
        (λ i p there apart le. let later : k ≤ i = omega arith in before.open_ es stand i p there later)
        (λ le. let none : ⊥ = omega arith in absurd none);
  }

  pub all_carried :
      (k : ℕ) (old new : List (Partition K V C N O E P X Y Z)) (command : D) (moment : ℕ) → length old ≤ k → CarriedUntil k old new command moment
      → EachCarries S L old new command moment
  all_carried k old new command moment all before = record {
    carries = λ es e out legal stand. record {
      count = before.count ∙ stand.count;
      each = λ i p there.
          let below = slice_get_within new i p there in
          let many = before.count in
          let less : i < k = omega arith in
          before.done es e out legal stand i p there less;
    };
  }

  -- a command that changes nothing leaves what a partition stands for
  leaves_partition :
      (i : ℕ) (p : Partition K V C N O E P X Y Z) (w : State K V A C) (f : Feed K V C) (e : Event S) (moment : ℕ) (d : D) (a : Reply S)
      → is_changed a ≡ false → IsEntry S moment (Message.Command d) a e → Keeps S i p w f
      → Keeps S i p (step S.core w (effect_of e.moment e.message e.answer))
      (feed_step (indexed S.core S.index) f (event_of S w e.moment e.message e.answer))
  leaves_partition i p w f e moment d a same is h =
      subst
      (λ (z : ℕ × Asked S × Reply S). Keeps S i p (step S.core w (effect_of z.0 z.1 z.2)) (feed_step (indexed S.core S.index) f (event_of S w z.0 z.1 z.2)))
      (λ j. (sym is.moment_is j, sym is.message_is j, sym is.answer_is j))
      (subst
      (λ b.
      Keeps S i p (step S.core w (where_so b (Changed d moment)))
      (feed_step (indexed S.core S.index) f (item_event S.core S.index w (where_so b (Changed d moment)) Rests)))
      (sym same) h)

  module _ {R : Type 0} (cells : Cells (Partition K V C N O E P X Y Z) (ControlCell R K V A F C D Q B) C) (moment : ℕ) (d : D) where
    over_all : (a : Reply S) (es : History S) (e : Event S) → IsEntry S moment (Message.Command d) a e → IsLegal S (e ∷ es) → e.cell ≡ None
    over_all a es e is legal = legal.1.cell ∙ ap (λ m. sent_to S m) is.message_is

    this_entry : (a b : Reply S) (e : Event S) → Some a ≡ Some b → IsEntry S moment (Message.Command d) b e → IsEntry S moment (Message.Command d) a e
    this_entry a b e same entry = subst (λ x. IsEntry S moment (Message.Command d) x e) (sym (some_is a b same)) entry

    -- with a command that changes nothing all stand as they are
    pub leads_same : OthersLeaveIt R S → (a : Reply S) → is_changed a ≡ false → Leads S L cells cells (Message.Command d) moment (Some a)
    leads_same leave a same = record { leads = λ es e b eq entry legal stand. lead es e (this_entry a b e eq entry) legal stand }
      where
        lead :
            (es : History S) (e : Event S) → IsEntry S moment (Message.Command d) a e → IsLegal S (e ∷ es) → AllStand S L cells es
            → AllStand S L cells (e ∷ es)
        lead es e is legal stand =
            let over = over_all a es e is legal in
            record {
              partitions = record {
                count = stand.partitions.count;
                each = λ i p there.
                    let mine = of_cell i es in
                    let stands = stand.partitions.each i p there in
                    subst (λ xs. StandsAs S L i p xs) (sym (each_more S es e i over))
                    (leaves_partition i p (state S mine) (feed_after S mine) e moment d a same is stands.0, stands.1);
              };
              control =
                  leave es e cells.control stand.control
                  (ap (λ x. is_of_control S x e.answer) is.message_is ∙ (ap is_changed is.answer_is ∙ same));
              catalog =
                  stand.catalog
                  ∙ sym ((λ j. (step S.core (state S es) (effect_of (is.moment_is j) (is.message_is j) (is.answer_is j))).catalog)
                  ∙ ap (λ b. (step S.core (state S es) (where_so b (Changed d moment))).catalog) same);
            }

    -- with one that is carried out
    pub carries_all :
        (new : Cells (Partition K V C N O E P X Y Z) (ControlCell R K V A F C D Q B) C) (next : C)
        → EachCarries S L cells.partitions.items new.partitions.items d moment → TakesPlan S cells.control new.control moment next
        → new.catalog ≡ S.core.change d moment cells.catalog → CarriesAll S L cells new d moment next
    carries_all new next carries takes made = record {
      carries = λ es e next_is out legal stand.
          let entry : IsEntry S moment (Message.Command d) (Answer.Changed out.told) e =
          record { moment_is = out.moment_is; message_is = out.message; answer_is = out.answer } in
          record {
            partitions = carries.carries es e out legal stand.partitions;
            control =
                takes es e d out.told stand.control
                (next_is ∙ ap (λ c. S.core.change d moment c) (sym stand.control.catalog_is)) entry;
            catalog =
                made ∙ (ap (λ c. S.core.change d moment c) stand.catalog
                ∙ sym (λ j. (step S.core (state S es) (effect_of (out.moment_is j) (out.message j) (out.answer j))).catalog));
          };
    }

    pub leads_carried :
        (new : Cells (Partition K V C N O E P X Y Z) (ControlCell R K V A F C D Q B) C) (told : B) (next : C)
        → next ≡ S.core.change d moment cells.control.catalog → CarriesAll S L cells new d moment next
        → Leads S L cells new (Message.Command d) moment (Some (Answer.Changed told))
    leads_carried new told next next_is all = record {
      leads = λ es e b eq entry legal stand.
          let is = this_entry (Answer.Changed told) b e eq entry in
          all.carries es e (next_is ∙ ap (λ c. S.core.change d moment c) stand.control.catalog_is)
          record { moment_is = is.moment_is; message = is.message_is; told = told; answer = is.answer_is } legal stand;
    }

    module _
        (law : IsServiceLawful S) (holder : Option ℕ) (slice : List (Partition K V C N O E P X Y Z)) (lent_is : slice ≡ cells.partitions.items)
        (first : (es : History S) → EachStands S L slice es → TellsFirst S (own S es) d holder) (plan : CatalogPlan B C)
        (says : IsPlan S cells.control.catalog d moment plan) where
      -- what the control cell has planned is what its own entries say
      there :
          (es : History S) → IsLegal S es → AllStand S L cells es → (now : CatalogPlan B C) → plan ≡ now
          → IsPlan S (own S es S.control).catalog d moment now
      there es legal stand now is =
          let cat : cells.control.catalog ≡ (own S es S.control).catalog =
          stand.control.catalog_is ∙ sym (own_entries_tell S law es legal S.control).catalog in
          subst (λ (z : C × CatalogPlan B C). IsPlan S z.0 d moment z.1) (λ j. (cat j, is j)) says

      ruled :
          (es : History S) → IsLegal S es → (a : Reply S) → S.refuses d (own S es S.control).catalog ≡ None
          → IsRuledByCells S (own S es) d moment None a → IsAnswer S es moment (Message.Command d) a
      ruled es legal a is by =
          (cells_answer S law es legal moment d a).1 (subst (λ o. IsRuledByCells S (own S es) d moment o a) (sym is) by)

      told : (es : History S) → EachStands S L cells.partitions.items es → TellsFirst S (own S es) d holder
      told es stand = first es (subst (λ ps. EachStands S L ps es) (sym lent_is) stand)

      held_by : (n : ℕ) → holder ≡ Some n → (es : History S) → EachStands S L cells.partitions.items es → TellsFirst S (own S es) d (Some n)
      held_by n is es stand = subst (λ h. TellsFirst S (own S es) d h) is (told es stand)

      clear : holder ≡ None → (es : History S) → EachStands S L cells.partitions.items es → TellsFirst S (own S es) d None
      clear is es stand = subst (λ h. TellsFirst S (own S es) d h) is (told es stand)

      -- a name or number that is refused
      pub refused : (told : B) → plan ≡ CatalogPlan.Refused told → Tells S L cells (Message.Command d) moment (Some (Answer.Refused told))
      refused told is = record {
        tells = λ es legal stand.
            (cells_answer S law es legal moment d (Answer.Refused told)).1
            (subst (λ o. IsRuledByCells S (own S es) d moment o (Answer.Refused told)) (sym (there es legal stand (CatalogPlan.Refused told) is)) refl);
      }

      -- else who stands in the way
      pub denied_held :
          (told : B) (n : ℕ) → plan ≡ CatalogPlan.Denied told → holder ≡ Some n → Tells S L cells (Message.Command d) moment (Some (Answer.Held n))
      denied_held told n is held = record {
        tells = λ es legal stand.
            let h = held_by n held es stand.partitions in
            ruled es legal (Answer.Held n) (there es legal stand (CatalogPlan.Denied told) is).0 (inl (n, h.0, refl, h.1, h.2));
      }

      pub carried_held :
          (told : B) (next : C) (n : ℕ) → plan ≡ CatalogPlan.Carried told next → holder ≡ Some n
          → Tells S L cells (Message.Command d) moment (Some (Answer.Held n))
      carried_held told next n is held = record {
        tells = λ es legal stand.
            let h = held_by n held es stand.partitions in
            ruled es legal (Answer.Held n) (there es legal stand (CatalogPlan.Carried told next) is).0 (inl (n, h.0, refl, h.1, h.2));
      }

      -- else what the catalog says
      pub denied :
          (told : B) → plan ≡ CatalogPlan.Denied told → holder ≡ None → Tells S L cells (Message.Command d) moment (Some (Answer.Refused told))
      denied told is none = record {
        tells = λ es legal stand.
            let h = there es legal stand (CatalogPlan.Denied told) is in
            ruled es legal (Answer.Refused told) h.0 (inr (ap (λ r. ruling_answer S r) (sym h.1), clear none es stand.partitions));
      }

      pub carried :
          (told : B) (next : C) → plan ≡ CatalogPlan.Carried told next → holder ≡ None
          → Tells S L cells (Message.Command d) moment (Some (Answer.Changed told))
      carried told next is none = record {
        tells = λ es legal stand.
            let h = there es legal stand (CatalogPlan.Carried told next) is in
            ruled es legal (Answer.Changed told) h.0 (inr (ap (λ r. ruling_answer S r) (sym h.1.0), clear none es stand.partitions));
      }

      pub next_is : (told : B) (next : C) → plan ≡ CatalogPlan.Carried told next → next ≡ S.core.change d moment cells.control.catalog
      next_is told next is = (subst (λ z. IsPlan S cells.control.catalog d moment z) is says).1.1
