-- What a whole sweep did, and what it did where it left off.
use Rattle.std.proofs.Common.{◌≡◌, ◌⊎◌, inl, inr, ℕ, ◌+◌, Bool, true, false, List, [], ◌∷◌, ◌++◌, length, map, reverse, Result, Ok, Err, IfOk, IfErr, OnOk, Some, refl, sym, ap, subst, arith, length-append, append-nil}
use Rattle.std.specs.Prelude.{Contains, IsErrAnd}
use Rattle.std.specs.List.{AllByRecursion}
use Rattle.turnstile.specs.Histories.{Trail}
use Rattle.turnstile.specs.Passes.{PassView, most_units}
use Rattle.txn_core.specs.declared.message.Message.{Message}
use Rattle.txn_core.specs.declared.answer.Answer.{Answer}
use Rattle.txn_core.specs.declared.answer.HeldItem.{HeldItem}
use Rattle.txn_core.specs.History.{Had, begins}
use Rattle.txn_core.specs.Legal.{releases, IsLegal}
use Rattle.txn_core.specs.Service.{Service, IsServiceLawful, Event, History}
use Rattle.cluster.specs.declared.step.StepError.{StepError}
use Rattle.cluster.specs.Events.{pass_of}
use Rattle.cluster.specs.Counts.{Counts, CountsUntil}
use Rattle.cluster.proofs.OwnEntries.{counts_on, same_event}
use Rattle.coordinator.specs.Driving.{is_driving, Added}
use Rattle.coordinator.proofs.Moving.{added_on, until_added}
use Rattle.recovery_manager.specs.declared.sweep_end.SweepEnd.{SweepEnd}
use Rattle.recovery_manager.specs.Ends.{left_off, IsDone, IsForgotten, lets_go}
use Rattle.recovery_manager.specs.Lists.{Listing, all_items, numbers_in, AreTheNumbers, lists_held, lists_numbers, lists, AllBegun, ListsHeld, ListsNumbers, ListsPartly}
use Rattle.recovery_manager.specs.Parts.{is_on, AllOn, DrivesAll, DrivesPartly, ReleasesGone, ReleasesPartly}
use Rattle.recovery_manager.specs.Sweeps.{IsEnded, IsLetGo, Sweeps, AreLists, SweepsPartly}
use Rattle.cluster.proofs.Lists.{any_back, each_append}
use Rattle.recovery_manager.proofs.Each.{any_among, each_among, each_both, each_from, each_so}
use Rattle.recovery_manager.proofs.Grown.{counted, same_most, still_begun, still_done, still_forgotten, with_more}

-- a step that was not taken stops no drive
pub never_stopped : {X : Type 0} (r : Result X SweepEnd) (v : StepError) → IsErrAnd r (λ e. e ≡ left_off v) → r ≡ Err SweepEnd.Stopped → ⊥
never_stopped (Ok x) v h is = absurd h
never_stopped (Err e) StepError.Spent h is = absurd (let s : e ≡ SweepEnd.Stopped = cc in cc)
never_stopped (Err e) StepError.NoMemory h is = absurd (let s : e ≡ SweepEnd.Stopped = cc in cc)

-- nor does want of memory
pub never_stopped_by_memory : {X : Type 0} (r : Result X SweepEnd) → IsErrAnd r (λ e. e ≡ SweepEnd.NoMemory) → r ≡ Err SweepEnd.Stopped → ⊥
never_stopped_by_memory (Ok x) h is = absurd h
never_stopped_by_memory (Err e) h is = absurd (let s : e ≡ SweepEnd.Stopped = cc in cc)

-- memory was refused where a sweep left off for want of it
forgot_memory : (why : StepError) → left_off why ≡ SweepEnd.NoMemory → why ≡ StepError.NoMemory
forgot_memory StepError.NoMemory is = refl
forgot_memory StepError.Spent is = absurd (cc)

module _ {K V A F C D Q B : Type 0} (S : Service K V A F C D Q B) where
  until_spent :
      (p : PassView (Event S)) (es : List (Event S)) (why : StepError) (q : PassView (Event S)) → CountsUntil S p es why q
      → left_off why ≡ SweepEnd.Spent → q.used ≡ most_units
  until_spent p es StepError.Spent q h is = h.1
  until_spent p es StepError.NoMemory q h is = absurd (cc)

  -- the pass is the same but for what it has seen and used
  pub drives_pass :
      {X : Type 0} (numbers : List ℕ) (p q : PassView (Event S)) (gone : X → ℕ → Bool) (r : Result X SweepEnd)
      → IfOk r (λ x. DrivesAll S (gone x) numbers p q) → IfErr r (λ why. DrivesPartly S numbers p why q)
      → q ≡ record p { used = q.used; front = q.front }
  drives_pass numbers p q gone (Ok x) h k = h.drives.added.pass
  drives_pass numbers p q gone (Err e) h k = k.drives.added.pass

  pub releases_pass :
      {X : Type 0} (gone : ℕ → Bool) (items : List (HeldItem K)) (p q : PassView (Event S)) (r : Result X StepError)
      → OnOk r (ReleasesGone S gone items p q) → IfErr r (λ why. ReleasesPartly S items p why q) → q ≡ record p { used = q.used; front = q.front }
  releases_pass gone items p q (Ok x) h k = h.counts.pass
  releases_pass gone items p q (Err why) h k = (until_added S p k.own q why k.counts).pass

  -- entries on some of these numbers are on others that have them all
  on_among : (ms ns : List ℕ) (own : List (Event S)) → ((m : ℕ) → Contains ms m → Contains ns m) → AllOn S ms own → AllOn S ns own
  on_among ms ns own within h =
      each_so (λ e. is_on S ms e ≡ true) (λ e. is_on S ns e ≡ true) (λ e is. any_among (λ m. is_driving m e.message) ms ns within is) own h

  module _ (n : ℕ) (p : PassView (Event S)) where
    -- a sweep that left off at these lists
    left_at :
        (l : Listing K) (told : List (Event S)) (q : PassView (Event S)) (why : SweepEnd) → AreLists S n p l told → Added S 1 p told q
        → (why ≡ SweepEnd.Spent → q.used ≡ most_units) → SweepsPartly S n p why q
    left_at l told q why are added spent =
        record {
          listing = l;
          told = told;
          told_is = are;
          numbers = [];
          rises = λ k lt. absurd (omega arith);
          listed = λ m at. absurd (let lt = at.1 in omega arith);
          own = [];
          added = subst (λ es. Added S (0 + 1) p es q) (sym (append-nil told)) added;
          each = tt;
          few = omega arith;
          spent = spent;
          memory = λ _ m is. absurd (cc);
        }

    pub left_in_lists : (why : StepError) (q : PassView (Event S)) → ListsPartly S n p why q → SweepsPartly S n p (left_off why) q
    left_in_lists why q h =
        left_at record { held = h.held; unfinished = [] } (lists_held S p 0 h.held) q (left_off why) (inl (refl, h.few, refl))
        (until_added S p (lists_held S p 0 h.held) q why h.counts) (until_spent p (lists_held S p 0 h.held) why q h.counts)

    module _
        (items : List (HeldItem K)) (q : PassView (Event S)) (one : ListsHeld S n p items q) (unfinished : List ℕ) (r : PassView (Event S))
        (two : ListsNumbers S q unfinished r) where
      abbrev listing : Listing K
      listing = record { held = one.held; unfinished = unfinished }

      abbrev told : List (Event S)
      told = lists S p listing

      are : AreLists S n p listing told
      are = inr (refl, one.many)

      counts : Counts S p told 0 r
      counts =
          counts_on S p (lists_held S p 0 one.held) 0 q (lists_numbers S p unfinished ∷ []) 0 r one.counts
          (subst (λ (e : Event S). Counts S q (e ∷ []) 0 r)
          (same_event S p (lists_held S p 0 one.held) 0 q one.counts (Some S.control) Message.Unfinished (Answer.Numbers unfinished)) two.counts)

      -- no memory for the numbers
      pub left_at_numbers : SweepsPartly S n p SweepEnd.NoMemory r
      left_at_numbers = left_at listing told r SweepEnd.NoMemory are (with_more S 0 1 p told r (omega arith) (counted S p told 0 r counts)) (λ e. absurd (cc))

      module _ (numbers : List ℕ) (they : AreTheNumbers (numbers_in unfinished items) numbers) where
        -- each of them was begun
        pub numbers_begun : AllBegun S (reverse r.front) numbers
        numbers_begun =
            each_among (λ m. Had (begins m) (reverse r.front)) (numbers_in unfinished items) numbers (λ m at. (they.same m).0 at)
            (each_append (λ m. Had (begins m) (reverse r.front)) unfinished (map (λ item. item.number) items) two.begun
            (still_begun S q.number q.front (lists_numbers S q unfinished ∷ []) r.front two.counts.trail (map (λ item. item.number) items) one.begun))

        they_all : AreTheNumbers (numbers_in unfinished (all_items one.held)) numbers
        they_all = subst (λ xs. AreTheNumbers (numbers_in unfinished xs) numbers) one.items_are they

        module _ (law : IsServiceLawful S) where
          -- a drive did not come to its end
          pub left_in_drives :
              (why : SweepEnd) (s : PassView (Event S)) → IsLegal S (reverse s.front) → DrivesPartly S numbers r why s → SweepsPartly S n p why s
          left_in_drives why s legal h =
              let d = h.drives in
              let same = same_most S r.number r.front d.own s.front d.added.trail law legal numbers numbers_begun in
              let few = d.few in
              record {
                listing = listing;
                told = told;
                told_is = are;
                numbers = numbers;
                rises = they.rises;
                listed = λ m at. (they_all.same m).0 at;
                own = d.own;
                added =
                    with_more S (0 + length numbers) (length numbers + 1) p (told ++ d.own) s (omega arith)
                    (added_on S 0 (length numbers) p r s told d.own (counted S p told 0 r counts) d.added);
                each = d.each;
                few = omega arith;
                spent = h.spent;
                memory = h.memory;
              }

          module _ (gone : ℕ → Bool) (s : PassView (Event S)) (all : DrivesAll S gone numbers r s) where
            abbrev driven : List (Event S)
            driven = all.drives.own

            -- the items' numbers are among them
            within : (m : ℕ) → Contains (map (λ item. item.number) items) m → Contains numbers m
            within m at = (they.same m).1 (behind unfinished at)
              where
                behind : (xs : List ℕ) → Contains (map (λ item. item.number) items) m → Contains (xs ++ map (λ item. item.number) items) m
                behind [] h = h
                behind (x ∷ xs) h = let r = behind xs h in (Rattle.std.specs.Prelude.suc r.0, (let lt = r.1 in omega arith), r.2)

            -- no unit was left for a Release
            pub left_in_releases :
                (why : StepError) (t : PassView (Event S)) → IsLegal S (reverse t.front) → (why ≡ StepError.NoMemory → ⊥)
                → ReleasesPartly S items s why t → SweepsPartly S n p (left_off why) t
            left_in_releases why t legal sure h =
                let added =
                added_on S (length numbers) 1 r s t driven h.own all.drives.added (until_added S s h.own t why h.counts) in
                let same = same_most S r.number r.front (driven ++ h.own) t.front added.trail law legal numbers numbers_begun in
                let few = all.drives.few in
                let more = h.few in
                let long = length-append driven h.own in
                let count = ap length one.items_are in
                record {
                  listing = listing;
                  told = told;
                  told_is = are;
                  numbers = numbers;
                  rises = they.rises;
                  listed = λ m at. (they_all.same m).0 at;
                  own = driven ++ h.own;
                  added =
                      with_more S (0 + (length numbers + 1)) (length numbers + 1) p (told ++ (driven ++ h.own)) t (omega arith)
                      (added_on S 0 (length numbers + 1) p r t told (driven ++ h.own) (counted S p told 0 r counts) added);
                  each =
                      each_append (λ e. is_on S numbers e ≡ true) driven h.own all.drives.each
                      (on_among (map (λ item. item.number) items) numbers h.own within h.each);
                  few = omega arith;
                  spent = until_spent s h.own why t h.counts;
                  memory = λ is. absurd (sure (forgot_memory why is));
                }

            -- all is done
            module _ (t : PassView (Event S)) (legal : IsLegal S (reverse t.front)) (h : ReleasesGone S gone items s t) where
              abbrev own : List (Event S)
              own = driven ++ h.own

              abbrev es : History S
              es = reverse t.front

              trail : Trail pass_of s.number s.front h.own t.front
              trail = h.counts.trail

              -- of each number whether it is gone
              ended_as : (m : ℕ) → (gone m ≡ false → IsDone S (reverse s.front) driven m) → (g : Bool) → gone m ≡ g
                  → ((gone m ≡ true) × IsForgotten S es own m) ⊎ IsDone S es own m
              ended_as m done true is =
                  inl (is, still_forgotten S s.number s.front h.own t.front trail driven h.own m (all.forgotten m is))
              ended_as m done false is = inr (still_done S s.number s.front h.own t.front trail driven h.own m (done is))

              each_ended : AllByRecursion (λ m. ((gone m ≡ true) × IsForgotten S es own m) ⊎ IsDone S es own m) numbers
              each_ended =
                  each_so (λ m. gone m ≡ false → IsDone S (reverse s.front) driven m)
                  (λ m. ((gone m ≡ true) × IsForgotten S es own m) ⊎ IsDone S es own m)
                  (λ m done. ended_as m done (gone m) refl) numbers all.done

              ended : (m : ℕ) → ((gone m ≡ true) × IsForgotten S es own m) ⊎ IsDone S es own m → IsEnded S es own m
              ended m (inl x) = inr x.1
              ended m (inr x) = inl x

              let_go :
                  (item : HeldItem K) → ((gone item.number ≡ true) × IsForgotten S es own item.number) ⊎ IsDone S es own item.number
                  → (gone item.number ≡ true → lets_go S item.number item.key h.own ≡ true) → IsLetGo S es own item
              let_go item (inr x) sent = inl x
              let_go item (inl x) sent =
                  inr (x.1, any_back (λ e. releases S item.number item.key e.message e.answer) driven h.own (sent x.0))

              pub swept : Sweeps S n p (length numbers) t
              swept =
                  let added = added_on S (length numbers) 0 r s t driven h.own all.drives.added (counted S s h.own 0 t h.counts) in
                  let same = same_most S r.number r.front own t.front added.trail law legal numbers numbers_begun in
                  let few = all.drives.few in
                  let more = h.few in
                  let long = length-append driven h.own in
                  let count = ap length one.items_are in
                  record {
                    listing = listing;
                    all_asked = one.many;
                    numbers = numbers;
                    they_are = they_all;
                    counted = refl;
                    own = own;
                    added =
                        with_more S (0 + (length numbers + 0)) (length numbers) p (told ++ own) t (omega arith)
                        (added_on S 0 (length numbers + 0) p r t told own (counted S p told 0 r counts) added);
                    each =
                        each_append (λ e. is_on S numbers e ≡ true) driven h.own all.drives.each
                        (on_among (map (λ item. item.number) items) numbers h.own within h.each);
                    few = omega arith;
                    ended = each_so (λ m. ((gone m ≡ true) × IsForgotten S es own m) ⊎ IsDone S es own m) (IsEnded S es own) ended numbers each_ended;
                    let_go =
                        subst (AllByRecursion (IsLetGo S es own)) one.items_are
                        (each_both (λ (item : HeldItem K). ((gone item.number ≡ true) × IsForgotten S es own item.number) ⊎ IsDone S es own item.number)
                        (λ item. gone item.number ≡ true → lets_go S item.number item.key h.own ≡ true) (IsLetGo S es own) let_go items
                        (each_from (λ m. ((gone m ≡ true) × IsForgotten S es own m) ⊎ IsDone S es own m) (λ item. item.number) items
                        (each_among (λ m. ((gone m ≡ true) × IsForgotten S es own m) ⊎ IsDone S es own m) numbers (map (λ item. item.number) items) within
                        each_ended)) h.sent);
                  }
