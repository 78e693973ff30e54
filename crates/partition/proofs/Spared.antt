-- What a command of the catalog does to the indexes of an item's table.
use Rattle.std.proofs.Common.{◌≡◌, ℕ, nat_eq, not, ◌&&◌, Bool, true, false, if◌then◌else◌, List, [], Option, None, Some, refl, sym, ap, ◌∙◌}
use Rattle.std.specs.List.{flat_map}
use Rattle.std.proofs.lemmas.Bool.{eq-eqb, eqb-true}
use Rattle.index_feed.specs.Feed.{change_of, changes, founding, row_in, served}
use Rattle.txn_core.specs.Indexing.{indexed}
use Rattle.txn_core.specs.Service.{Service, IsServiceLawful}
use Rattle.index_changes.specs.declared.command_rules.TableChange.{TableChange}
use Rattle.index_changes.specs.declared.command_rules.TableChange.TheVariants.{Makes, Drops, Alters, Nothing}
use Rattle.index_changes.specs.Commands.{AreCommandsLawful, alters, drops, is_in, is_number, makes, subject}
use Rattle.index_changes.specs.Plans.{closed_by, has_new}
use Rattle.index_changes.proofs.Basics.{no_both, not_true, not_is}
use Rattle.partition.proofs.Numbers.{in_without, none_passes, nothing_at_all, same_at_each}

module _
    {K V A F C D Q B : Type 0} (S : Service K V A F C D Q B) (law : IsServiceLawful S) {sound : C → Type 0} {target : D → C → TableChange}
    {numbers : C → ℕ → List ℕ} (laws : AreCommandsLawful S sound target numbers) (d : D) (moment : ℕ) (cat : C) (ok : sound cat)
    (kept : S.refuses d cat ≡ None) where
  abbrev pub next : C
  next = S.core.change d moment cat

  next_sound : sound next
  next_sound = laws.kept d moment cat ok kept

  -- an item of another table
  pub others : (t : TableChange) → target d cat ≡ t → (k : K) → is_number (subject t) (S.core.table k) ≡ false → S.concerns d cat k ≡ false
  others t is k e = laws.concerned d cat k ∙ ap (λ y. is_number (subject y) (S.core.table k)) is ∙ e

  -- a table that wasn't there is the one that is made
  pub not_made : (k : K) → makes (target d cat) (S.core.table k) ≡ false → S.core.there cat k ≡ false → S.core.there next k ≡ false
  not_made k e absent = not_true (S.core.there next k) (λ comes. no_both _ (laws.comes d moment cat k ok kept comes absent) e)

  module _ (k : K) (there : S.core.there cat k ≡ true) where
    module _ (away : S.concerns d cat k ≡ false) where
      pub stays_there : S.core.there next k ≡ true
      stays_there = law.spares d moment cat k kept away there

      same_indexes : S.index.indexes next k ≡ S.index.indexes cat k
      same_indexes = laws.spares d moment cat k ok kept away there

      same_row : (g : ℕ) (v : Option V) → is_in (S.index.indexes cat k) g ≡ true
          → row_in (indexed S.core S.index) next g k v ≡ row_in (indexed S.core S.index) cat g k v
      same_row g None e = refl
      same_row g (Some v) e = law.index.steady d moment cat g k v (ap (λ gs. is_in gs g) same_indexes ∙ e) e

      -- its changes are the same, and it queues nothing
      pub same_changes :
          (old new : Option V) → changes (indexed S.core S.index) cat k old new ≡ changes (indexed S.core S.index) next k old new
      same_changes old new =
          let I = indexed S.core S.index in
          sym
          (ap (λ gs. flat_map (λ g. change_of I g (row_in I next g k old) (row_in I next g k new)) gs) same_indexes
          ∙ same_at_each (λ g. change_of I g (row_in I next g k old) (row_in I next g k new))
          (λ g. change_of I g (row_in I cat g k old) (row_in I cat g k new)) (S.index.indexes cat k)
          (λ g e. λ j. change_of I g (same_row g old e j) (same_row g new e j)))

      pub founds_nothing : (v : Option V) → founding (indexed S.core S.index) cat next k v ≡ []
      founds_nothing v =
          let I = indexed S.core S.index in
          ap (λ gs. flat_map (λ g. if served I cat g k then [] else change_of I g None (row_in I next g k v)) gs) same_indexes
          ∙ nothing_at_all (λ g. if served I cat g k then [] else change_of I g None (row_in I next g k v)) (S.index.indexes cat k)
          (λ g e. λ j. if e j then [] else change_of I g None (row_in I next g k v))

      still_served : (g : ℕ) → served (indexed S.core S.index) cat g k ≡ true → served (indexed S.core S.index) next g k ≡ true
      still_served g e = ap (λ gs. is_in gs g) same_indexes ∙ e

    by_number : S.index.indexes cat k ≡ numbers cat (S.core.table k)
    by_number = laws.by_number cat k ok there

    -- a table that gets no new index
    pub founds_none :
        (n : ℕ) → n ≡ S.core.table k → S.core.there next k ≡ true → has_new numbers n cat next ≡ false → (v : Option V)
        → founding (indexed S.core S.index) cat next k v ≡ []
    founds_none n is now none v =
        let I = indexed S.core S.index in
        ap (λ gs. flat_map (λ g. if served I cat g k then [] else change_of I g None (row_in I next g k v)) gs)
        (laws.by_number next k next_sound now ∙ ap (λ u. numbers next u) (sym is))
        ∙ nothing_at_all (λ g. if served I cat g k then [] else change_of I g None (row_in I next g k v)) (numbers next n)
        (λ g e.
        let had : served I cat g k ≡ true =
        ap (λ gs. is_in gs g) (by_number ∙ ap (λ u. numbers cat u) (sym is))
        ∙ not_is (is_in (numbers cat n) g) (none_passes (λ x. not (is_in (numbers cat n) x)) (numbers next n) g none e) in
        λ j. if had j then [] else change_of I g None (row_in I next g k v))

    -- an index that its table had is there still where it is not among those that go
    module _ (g : ℕ) (had : served (indexed S.core S.index) cat g k ≡ true) where
      closes_not : (n : ℕ) → nat_eq n (S.core.table k) ≡ false → is_in (closed_by numbers (Some n) cat next) g ≡ false
      closes_not n e =
          in_without (numbers next n) (numbers cat n) g
          ∙ ap (λ b. b && not (is_in (numbers next n) g))
          (not_true (is_in (numbers cat n) g)
          (λ is. no_both (nat_eq n (S.core.table k)) (eq-eqb n (S.core.table k) (sym (laws.of_one cat n g k ok is had))) e))

      closes_own :
          (n : ℕ) → n ≡ S.core.table k → is_in (numbers next n) g ≡ served (indexed S.core S.index) next g k
          → is_in (closed_by numbers (Some n) cat next) g ≡ not (served (indexed S.core S.index) next g k)
      closes_own n is same =
          in_without (numbers next n) (numbers cat n) g
          ∙ (λ j. (sym (ap (λ gs. is_in gs g) (by_number ∙ ap (λ u. numbers cat u) (sym is))) ∙ had) j && not (same j))

      spared_open : (t : TableChange) → target d cat ≡ t → is_number (subject t) (S.core.table k) ≡ false
          → is_in (closed_by numbers (subject t) cat next) g ≡ false → is_in (closed_by numbers (subject t) cat next) g ≡ not (served (indexed S.core S.index) next g k)
      spared_open t is away none = none ∙ sym (ap not (still_served (others t is k away) g had))

      pub closes : (t : TableChange) → target d cat ≡ t → is_in (closed_by numbers (subject t) cat next) g ≡ not (served (indexed S.core S.index) next g k)
      closes (Makes n) is = spared_open (Makes n) is refl refl
      closes Nothing is = spared_open Nothing is refl refl
      closes (Drops n) is = by_table (nat_eq n (S.core.table k)) refl
        where
          by_table : (b : Bool) → nat_eq n (S.core.table k) ≡ b → is_in (closed_by numbers (Some n) cat next) g ≡ not (served (indexed S.core S.index) next g k)
          by_table false e = spared_open (Drops n) is e (closes_not n e)
          by_table true e =
              let dropped : drops (target d cat) (S.core.table k) ≡ true = ap (λ y. drops y (S.core.table k)) is ∙ e in
              let gone = laws.goes d moment cat k ok kept dropped in
              let none : numbers next n ≡ [] = laws.none d moment cat n ok kept (ap (λ y. drops y n) is ∙ eq-eqb n n refl) in
              closes_own n (eqb-true n (S.core.table k) e)
              (ap (λ gs. is_in gs g) none
              ∙ sym (not_true (served (indexed S.core S.index) next g k) (λ s. no_both (S.core.there next k) (law.index.there next g k s) gone)))
      closes (Alters n) is = by_table (nat_eq n (S.core.table k)) refl
        where
          by_table : (b : Bool) → nat_eq n (S.core.table k) ≡ b → is_in (closed_by numbers (Some n) cat next) g ≡ not (served (indexed S.core S.index) next g k)
          by_table false e = spared_open (Alters n) is e (closes_not n e)
          by_table true e =
              let altered : alters (target d cat) (S.core.table k) ≡ true = ap (λ y. alters y (S.core.table k)) is ∙ e in
              let now = laws.stays d moment cat k ok kept altered there in
              let one = eqb-true n (S.core.table k) e in
              closes_own n one (ap (λ u. is_in (numbers next u) g) one ∙ ap (λ gs. is_in gs g) (sym (laws.by_number next k next_sound now)))
