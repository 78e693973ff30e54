-- What a legal history knows of a command that is carried out.
use Rattle.std.proofs.Common.{◌≡◌, ℕ, Bool, true, false, is_some, List, [], ◌∷◌, Option, None, Some, inl, inr, refl, sym, ap, ◌∙◌, subst}
use Rattle.std.specs.Cmp.{IsTotalOrder}
use Rattle.std.specs.declared.cmp.Ord as ord
use Rattle.std.specs.declared.cmp.PartialEq as eq
use Rattle.std.specs.declared.cmp.PartialOrd as partial
use Rattle.index_feed.specs.Feed.{Commands, Event as FeedEvent, items_in, served, step as feed_step}
use Rattle.index_feed.specs.Laws.{IsListOf}
use Rattle.index_feed.proofs.Always.{no_index_no_row}
use Rattle.index_feed.proofs.Homes.{items_listed}
use Rattle.txn_core.specs.declared.fate.Fate.{Fate}
use Rattle.txn_core.specs.declared.message.Message.{Message}
use Rattle.txn_core.specs.declared.answer.Answer.{Answer}
use Rattle.txn_core.specs.Cells.{of_cell}
use Rattle.txn_core.specs.Effects.{Effect, Wrote, Prepared, Applied, Released, Finished, Forgot}
use Rattle.txn_core.specs.Feeding.{event_of, feed_after, feed_events}
use Rattle.txn_core.specs.History.{begin_effect, decide_effect, effect_of, effects, is_accepted, is_applied, is_expired, is_finished, is_forgotten, is_released, is_written, where_so}
use Rattle.txn_core.specs.Indexing.{indexed}
use Rattle.txn_core.specs.Legal.{IsAnswer, IsClear, IsLegal, IsRuled, state}
use Rattle.txn_core.specs.Service.{Asked, Event, History, Reply, Service, IsServiceLawful}
use Rattle.txn_core.specs.State.{Pending as Held, State, step}
use Rattle.txn_core.proofs.Exports.{agrees, alike_turned, good, legal_events, legal_run, own_entries_tell}
use Rattle.partition.specs.declared.cell.Partition.{Partition}
use Rattle.index_changes.specs.declared.command_rules.TableChange.{TableChange}
use Rattle.index_changes.specs.declared.command_rules.TableChange.TheVariants.{Makes, Drops, Alters, Nothing}
use Rattle.index_changes.specs.declared.plan.CatalogPlan.{CatalogPlan}
use Rattle.index_changes.specs.declared.plan.MadeTable.{MadeTable}
use Rattle.item_store.specs.declared.slot.Slot.{Slot}
use Rattle.std.specs.Ordering.{nat_cmp}
use Rattle.std.specs.BTreeMap.{BTreeMap, get}
use Rattle.partition.specs.Carrying.{IsCarriedOut}
use Rattle.index_changes.specs.Commands.{AreCommandsLawful, KeepsEntries}
use Rattle.index_changes.specs.Entering.{AreEntered}
use Rattle.index_changes.specs.Entries.{AreEntriesLawful, LocalEntries}
use Rattle.partition.specs.Holds.{Holds}
use Rattle.partition.specs.InStep.{StaysInStep}
use Rattle.index_changes.specs.Plans.{IsMade, IsPlan}
use Rattle.partition.specs.Plans.{HasPlace, HasRoom, IsPlaced, LeftByPlan}
use Rattle.partition.specs.Says.{Stands}
use Rattle.index_changes.proofs.Basics.{no_both}
use Rattle.partition.proofs.Brought.{IsClean, after}
use Rattle.partition.proofs.Carried.{carried, now}
use Rattle.partition.proofs.Changing.{moved_to}
use Rattle.partition.proofs.Entered.{stays_in_step}

module _
    {K V N T : Type 0} {O : ord.Ghosts K} {E : eq.Ghosts K} {P : partial.Ghosts K}
    {X : ord.Ghosts N} {Y : eq.Ghosts N} {Z : partial.Ghosts N} (tables : BTreeMap ℕ T) where
  placed :
      (t : TableChange) (slot : K → Option (Slot V)) (made : Option (MadeTable K V N O E P X Y Z)) → IsMade t slot made → IsPlaced t tables
      → HasPlace tables made
  placed (Makes n) slot (Some made) m here = subst (λ u. is_some (get nat_cmp tables u) ≡ true) (sym m.number) here
  placed (Makes n) slot None m here = absurd m
  placed (Drops n) slot None m here = tt
  placed (Drops n) slot (Some made) m here = absurd m
  placed (Alters n) slot None m here = tt
  placed (Alters n) slot (Some made) m here = absurd m
  placed Nothing slot None m here = tt
  placed Nothing slot (Some made) m here = absurd m

module _ {K V A F C D Q B : Type 0} (S : Service K V A F C D Q B) where
  -- a command that is carried out is not refused, and nothing stands in its way
  ruled : (w : State K V A C) (d : D) (moment : ℕ) (o : Option B) (told : B) → IsRuled S w d moment o (Answer.Changed told) → (o ≡ None) × IsClear S w d
  ruled w d moment (Some t) told e = absurd (cc)
  ruled w d moment None told (inl h) = let no' = h.1 in absurd (cc)
  ruled w d moment None told (inr h) = (refl, h.1)

  -- only commands change the catalog
  module _ (w : State K V A C) where
    where_same : (b : Bool) (e : Effect K A D) → (step S.core w e).catalog ≡ w.catalog → (step S.core w (where_so b e)).catalog ≡ w.catalog
    where_same true e same = same
    where_same false e same = refl

    begins_same : (actions : List A) (a : Reply S) → (step S.core w (begin_effect {K = K} {D = D} actions a)).catalog ≡ w.catalog
    begins_same actions (Answer.Begun n stamp) = refl
    begins_same actions _ = refl

    decides_same : (n : ℕ) (a : Reply S) → (step S.core w (decide_effect {K = K} {D = D} n a)).catalog ≡ w.catalog
    decides_same n (Answer.Decided Fate.Committed true) = refl
    decides_same n (Answer.Decided Fate.Cancelled true) = refl
    decides_same n _ = refl

  module _
      (law : IsServiceLawful S) {sound : C → Type 0} {target : D → C → TableChange} {numbers : C → ℕ → List ℕ}
      (laws : AreCommandsLawful S sound target numbers) where
    commanded_sound :
        (w : State K V A C) (d : D) (moment : ℕ) (a : Reply S) → IsRuled S w d moment (S.refuses d w.catalog) a → sound w.catalog
        → sound (step S.core w (effect_of {Q = Q} moment (Message.Command d) a)).catalog
    commanded_sound w d moment (Answer.Changed told) is ok =
        laws.kept d moment w.catalog ok (ruled w d moment (S.refuses d w.catalog) told is).0
    commanded_sound w d moment _ is ok = ok

    step_sound :
        (es : History S) (moment : ℕ) (m : Asked S) (a : Reply S) → IsAnswer S es moment m a → sound (state S es).catalog
        → sound (step S.core (state S es) (effect_of moment m a)).catalog
    step_sound es moment (Message.Write action) a is ok = subst (λ c. sound c) (sym (where_same (state S es) (is_written a) (Wrote action moment) refl)) ok
    step_sound es moment (Message.Expire action) a is ok = subst (λ c. sound c) (sym (where_same (state S es) (is_expired a) (Wrote action moment) refl)) ok
    step_sound es moment (Message.Prepare n stamp action) a is ok = subst (λ c. sound c) (sym (where_same (state S es) (is_accepted a) (Prepared n stamp action) refl)) ok
    step_sound es moment (Message.Apply n key) a is ok = subst (λ c. sound c) (sym (where_same (state S es) (is_applied a) (Applied n key) refl)) ok
    step_sound es moment (Message.Release n key) a is ok = subst (λ c. sound c) (sym (where_same (state S es) (is_released a) (Released n key) refl)) ok
    step_sound es moment (Message.Begin token actions) a is ok = subst (λ c. sound c) (sym (begins_same (state S es) actions a)) ok
    step_sound es moment (Message.Decide n commit reasons) a is ok = subst (λ c. sound c) (sym (decides_same (state S es) n a)) ok
    step_sound es moment (Message.Done n) a is ok = subst (λ c. sound c) (sym (where_same (state S es) (is_finished a) (Finished n) refl)) ok
    step_sound es moment (Message.Forget n) a is ok = subst (λ c. sound c) (sym (where_same (state S es) (is_forgotten a) (Forgot n) refl)) ok
    step_sound es moment (Message.Command d) a is ok = commanded_sound (state S es) d moment a is ok
    step_sound es moment _ a is ok = ok

    -- the catalog of a legal history is one that programs make
    pub always_sound : (es : History S) → IsLegal S es → sound (state S es).catalog
    always_sound [] legal = laws.first
    always_sound (e ∷ es) legal = step_sound es e.moment e.message e.answer legal.1.answer (always_sound es legal.0)

    module _ (d : D) (moment : ℕ) (es : History S) (e : Event S) (is : IsCarriedOut S moment d e) (legal : IsLegal S (e ∷ es)) where
      -- the entry, by its parts
      parts : ◌≡◌ {A = ℕ × Asked S × Reply S} (e.moment, e.message, e.answer) (moment, Message.Command d, Answer.Changed is.told)
      parts = λ j. (is.moment_is j, is.message j, is.answer j)

      rule : (S.refuses d (state S es).catalog ≡ None) × IsClear S (state S es) d
      rule =
          ruled (state S es) d moment (S.refuses d (state S es).catalog) is.told
          (subst (λ (y : ℕ × Asked S × Reply S). IsAnswer S es y.0 y.1 y.2) parts legal.1.answer)

      ok : sound (state S es).catalog
      ok = always_sound es legal.0

      clean : IsClean S law laws d moment (state S es) ok rule.0
      clean =
          let g = good S.core law.core (effects es) (legal_run S law es legal.0) in
          record {
            absent = λ q none. (g.spots q).absent none;
            free = λ q none. by_pend q none ((state S es).spot q).pend refl (g.spots q).alive;
            clear = λ q concerned. rule.1 q concerned;
          }
        where
          by_pend :
              (q : K) → S.core.there (state S es).catalog q ≡ false → (o : Option (Held V)) → ((state S es).spot q).pend ≡ o
              → ((p : Held V) → ((state S es).spot q).pend ≡ Some p → S.core.there (state S es).catalog q ≡ true) → ((state S es).spot q).pend ≡ None
          by_pend q none None e alive = e
          by_pend q none (Some p) e alive = absurd (no_both (S.core.there (state S es).catalog q) (alive p e) none)

      unserved :
          (g : ℕ) (q : K) → served (indexed S.core S.index) (state S es).catalog g (S.index.item_of q) ≡ false → (feed_after S es).shown g q ≡ None
      unserved g q none =
          no_index_no_row (indexed S.core S.index) law.index.feed S.core.empty (feed_events S es) (legal_events S law es legal.0) g q
          (ap (λ c. served (indexed S.core S.index) c g (S.index.item_of q)) (agrees S law es).catalog ∙ none)

      abbrev event : FeedEvent K V C
      event = Commands (after S law laws d moment (state S es) ok rule.0) (S.index.brings d (state S es).catalog) (now S law laws d moment (state S es) ok rule.0 clean 0)

      event_is : event_of S (state S es) e.moment e.message e.answer ≡ event
      event_is = ap (λ (y : ℕ × Asked S × Reply S). event_of S (state S es) y.0 y.1 y.2) parts

      listed : (i : ℕ) → IsListOf (indexed S.core S.index) i (feed_step (indexed S.core S.index) (feed_after S es) event).row (items_in (indexed S.core S.index) (feed_step (indexed S.core S.index) (feed_after S es) event) i)
      listed i =
          subst (λ x. IsListOf (indexed S.core S.index) i (feed_step (indexed S.core S.index) (feed_after S es) x).row (items_in (indexed S.core S.index) (feed_step (indexed S.core S.index) (feed_after S es) x) i)) event_is
          (items_listed (indexed S.core S.index) law.index.feed S.core.empty (feed_events S (e ∷ es)) (legal_events S law (e ∷ es) legal) i)

      module _
          {O : ord.Ghosts K} {E : eq.Ghosts K} {P : partial.Ghosts K} {N : Type 0} {X : ord.Ghosts N} {Y : eq.Ghosts N} {Z : partial.Ghosts N} (total : IsTotalOrder O.cmp) (ordered : (x y : K) → S.index.cmp x y ≡ O.cmp x y) (i : ℕ)
          (c c2 : Partition K V C N O E P X Y Z) (p : CatalogPlan K V C N O E P X Y Z) (plan : IsPlan S target numbers i c.catalog c.items d moment p) (left : LeftByPlan c c2 p) where
        pub stands : Stands S i c es → Stands S i c2 (e ∷ es)
        stands here =
            subst (λ (y : ℕ × Asked S × Reply S). Holds S i c2 (step S.core (state S es) (effect_of y.0 y.1 y.2)) (feed_step (indexed S.core S.index) (feed_after S es) (event_of S (state S es) y.0 y.1 y.2)))
            (λ j. (sym is.moment_is j, sym is.message j, sym is.answer j))
            (carried S law laws d moment (state S es) ok rule.0 clean i total ordered c (feed_after S es) here c2 p plan left (listed i) (λ g q home none. unserved g q none))

      module _
          {O : ord.Ghosts K} {E : eq.Ghosts K} {P : partial.Ghosts K} {N : Type 0} {X : ord.Ghosts N} {Y : eq.Ghosts N} {Z : partial.Ghosts N} (i : ℕ)
          (c c2 : Partition K V C N O E P X Y Z) (p : CatalogPlan K V C N O E P X Y Z) (plan : IsPlan S target numbers i c.catalog c.items d moment p) (left : LeftByPlan c c2 p) where
        pub steps :
            (L : LocalEntries K V C N) → AreEntriesLawful S L X.cmp → KeepsEntries S L sound target → AreEntered L p.catalog p.made
            → Stands S i c es → StaysInStep S L c c2
        steps L fair stay comes here step =
            stays_in_step S law laws L fair stay d moment (state S es) ok rule.0 clean i c (feed_after S es) here c2 p plan left comes step

  -- a cell stands for the entries of a legal history where it stands for its own
  module _
      (law : IsServiceLawful S) {O : ord.Ghosts K} {E : eq.Ghosts K} {P : partial.Ghosts K} {N : Type 0} {X : ord.Ghosts N} {Y : eq.Ghosts N} {Z : partial.Ghosts N} (i : ℕ) (c : Partition K V C N O E P X Y Z) (es : History S)
      (legal : IsLegal S es) where
    pub from_own : Stands S i c (of_cell i es) → Stands S i c es
    from_own here =
        let a = own_entries_tell S law es legal i in
        moved_to S i c (state S (of_cell i es)) (state S es) (feed_after S (of_cell i es)) (feed_after S es) a.items a.numbers a.catalog a.feed here

    pub to_own : Stands S i c es → Stands S i c (of_cell i es)
    to_own here =
        let a = alike_turned S law i (of_cell i es) es (own_entries_tell S law es legal i) in
        moved_to S i c (state S es) (state S (of_cell i es)) (feed_after S es) (feed_after S (of_cell i es)) a.items a.numbers a.catalog a.feed here

  -- a plan has room
  pub has_room :
      (target : D → C → TableChange) (numbers : C → ℕ → List ℕ) {O : ord.Ghosts K} {E : eq.Ghosts K} {P : partial.Ghosts K}
      {N : Type 0} {X : ord.Ghosts N} {Y : eq.Ghosts N} {Z : partial.Ghosts N} (i : ℕ) (c : Partition K V C N O E P X Y Z)
      (d : D) (moment : ℕ) (p : CatalogPlan K V C N O E P X Y Z) → IsPlan S target numbers i c.catalog c.items d moment p
      → IsPlaced (target d c.catalog) c.items.tables → IsPlaced (target d c.catalog) c.locals.tables → HasRoom c p
  has_room target numbers i c d moment p plan here beside =
      record {
        number = plan.number;
        place = placed c.items.tables (target d c.catalog) _ p.made plan.made here;
        entries = placed c.locals.tables (target d c.catalog) _ p.made plan.made beside;
      }
