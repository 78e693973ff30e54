-- All own entries of a transaction that was written.
use Rattle.std.proofs.Common.{◌≡◌, ◌≢◌, inl, inr, ℕ, zero, suc, ◌+◌, ◌≤◌, Bool, true, false, cond, List, [], ◌∷◌, ◌++◌, length, Option, None, Some, refl, sym, ap, ◌∙◌, subst, arith, length-append, ◌&&◌, reverse, eq-eqb}
use Rattle.std.specs.List.{list_any, filter, AllByRecursion}
use Rattle.std.proofs.lemmas.Bool.{or_right}
use Rattle.std.proofs.lemmas.List.{append-nil}
use Rattle.std.proofs.lemmas.List.Elements.{filter-append}
use Rattle.turnstile.specs.Histories.{Has, Trail}
use Rattle.turnstile.specs.Passes.{PassView}
use Rattle.turnstile.proofs.Histories.{trail_on}
use Rattle.txn_core.specs.declared.message.Message.{Message}
use Rattle.txn_core.specs.declared.answer.Answer.{Answer}
use Rattle.txn_core.specs.History.{Had, commits, finishes, is_stale}
use Rattle.txn_core.specs.Legal.{prepares, IsLegal}
use Rattle.txn_core.specs.Service.{IsServiceLawful, Service, Asked, Reply, Event, History}
use Rattle.cluster.specs.declared.step.StepError.{StepError}
use Rattle.txn_core.proofs.Exports.{beginning_is_tail, had_more, repeats_are_done}
use Rattle.cluster.specs.Steps.{IsLater}
use Rattle.cluster.specs.Events.{pass_of, event_of}
use Rattle.cluster.specs.Counts.{Counts, CountsUntil}
use Rattle.cluster.proofs.OwnEntries.{all_at_on, counts_none}
use Rattle.cluster.proofs.Lists.{any_back, any_front, each_append}
use Rattle.coordinator.specs.declared.drive_end.DriveEnd.{DriveEnd}
use Rattle.coordinator.specs.declared.transact_end.TransactEnd.{TransactEnd}
use Rattle.coordinator.specs.Driving.{is_driving, is_done, Added, AllDrive, ended}
use Rattle.coordinator.specs.Drives.{is_gone_end, IsEnd, LeavesNoneDecided}
use Rattle.coordinator.specs.Writes.{is_cut_off, ended_by, unanswered, draws_some, Forgets, ForgetsDone, RunsDrawn, Follows, Turns, TurnsAgain, Writes, IsOfWrite, IsAlike, WasAnswered, WasNamed, EndsBy, AddsWriting}
use Rattle.coordinator.proofs.Finishing.{some_weaker}
use Rattle.coordinator.proofs.Leaving.{is_cut, both_leave, end_leaves, quiet_leaves}
use Rattle.coordinator.proofs.Moving.{added_after, added_by, exactly, until_added, until_exact}
use Rattle.coordinator.proofs.Alike.{IsBegunAlike, alike_stays, running_is_alike}
use Rattle.coordinator.proofs.Writing.{none_by}

module _ {V F : Type 0} where
  -- so is the end of a turn, where it is one
  abbrev cut_off : Option (TransactEnd V F) → Bool
  cut_off None = false
  cut_off (Some end) = is_cut_off end

  cut_alike : (driven : DriveEnd V F) → cut_off (ended_by driven) ≡ is_cut driven
  cut_alike DriveEnd.Committed = refl
  cut_alike (DriveEnd.Cancelled reasons) = refl
  cut_alike (DriveEnd.NoTable place) = refl
  cut_alike DriveEnd.Gone = refl
  cut_alike DriveEnd.Stopped = refl
  cut_alike DriveEnd.Spent = refl
  cut_alike DriveEnd.NoMemory = refl

  calm_of : (driven : DriveEnd V F) (end : Option (TransactEnd V F)) → end ≡ ended_by driven → cut_off end ≡ false → is_cut driven ≡ false
  calm_of driven end is calm = sym (cut_alike driven) ∙ (ap cut_off (sym is) ∙ calm)

module _ {K V A F C D Q B : Type 0} (S : Service K V A F C D Q B) (token : Option (List ℕ)) (actions : List A) where
  -- how many of these drew a number
  abbrev drew : List (Event S) → ℕ
  drew own = length (filter (λ e. draws_some e.message e.answer) own)

  abbrev Each : List (Event S) → Type 0
  Each own = AllByRecursion (λ e. IsOfWrite S token actions e.message) own

  drew_append : (xs ys : List (Event S)) → drew (xs ++ ys) ≡ drew xs + drew ys
  drew_append xs ys =
      ap length (filter-append (λ (e : Event S). draws_some e.message e.answer) xs ys)
      ∙ length-append (filter (λ (e : Event S). draws_some e.message e.answer) xs) (filter (λ (e : Event S). draws_some e.message e.answer) ys)

  -- entries that drive belong to the writing and draw nothing
  drives_of : (n : ℕ) (m : Asked S) (a : Reply S) → is_driving n m ≡ true → IsOfWrite S token actions m × (draws_some m a ≡ false)
  drives_of n (Message.Recall k) a h = (tt, refl)
  drives_of n (Message.Prepare k stamp action) a h = (tt, refl)
  drives_of n (Message.Decide k commit reasons) a h = (tt, refl)
  drives_of n (Message.Apply k key) a h = (tt, refl)
  drives_of n (Message.Release k key) a h = (tt, refl)
  drives_of n (Message.Done k) a h = (tt, refl)
  drives_of n _ a h = absurd (cc)

  all_drive : (n : ℕ) (own : List (Event S)) → AllDrive S n own → Each own × (drew own ≡ 0)
  all_drive n [] each = (tt, refl)
  all_drive n (e ∷ own) each =
      let here = drives_of n e.message e.answer each.0 in
      let rest = all_drive n own each.1 in
      ((here.0, rest.0), ap (λ b. length (cond b (e ∷ filter (λ (x : Event S). draws_some x.message x.answer) own) (filter (λ (x : Event S). draws_some x.message x.answer) own))) here.1 ∙ rest.1)

  drew_one : (e : Event S) → drew (e ∷ []) ≤ 1
  drew_one e = by_case (draws_some e.message e.answer)
    where
      by_case : (b : Bool) → length (cond b (e ∷ []) []) ≤ 1
      by_case true = omega arith
      by_case false = omega arith

  -- some own entries between two moments of the pass: exactly a unit each where this is so, none left between its decision and its end
  -- where they were not cut off, and at most so many drew a number
  record Part (sure : Type 0) (cut : Bool) (most : ℕ) (p q : PassView (Event S)) : Type 0 where
    pub own : List (Event S)
    pub added : Added S 1 p own q
    pub exact : sure → q.used ≡ p.used + length own
    pub each : Each own
    pub few : drew own ≤ most
    pub leaves : cut ≡ false → LeavesNoneDecided S own

  counted :
      (sure : Type 0) (cut : Bool) (most : ℕ) (p q : PassView (Event S)) (own : List (Event S)) → Counts S p own 0 q → Each own → drew own ≤ most
      → LeavesNoneDecided S own → Part sure cut most p q
  counted sure cut most p q own h each few leaves =
      record {
        own = own;
        added = added_by S 1 0 p own q (omega arith) h;
        exact = λ _. exactly S p own q h;
        each = each;
        few = few;
        leaves = λ _. leaves;
      }

  -- two stretches, of which only the last may use more
  behind :
      (sure : Type 0) (cut : Bool) (i j : ℕ) (p q r : PassView (Event S)) (xs : List (Event S)) → Counts S p xs 0 q → Each xs → drew xs ≤ i
      → LeavesNoneDecided S xs → Part sure cut j q r → Part sure cut (i + j) p r
  behind sure cut i j p q r xs one each few leaves two =
      let units = one.units in
      let long = length-append xs two.own in
      let all = drew_append xs two.own in
      let more = two.few in
      record {
        own = xs ++ two.own;
        added = added_after S 1 p q r xs two.own one two.added;
        exact = λ s. (let later = two.exact s in omega arith);
        each = each_append (λ e. IsOfWrite S token actions e.message) xs two.own each two.each;
        few = omega arith;
        leaves = λ calm. both_leave S xs two.own leaves (two.leaves calm);
      }

  added_before : (p q r : PassView (Event S)) (xs ys : List (Event S)) → Added S 1 p xs q → Counts S q ys 0 r → Added S 1 p (xs ++ ys) r
  added_before p q r xs ys one two =
      let number : q.number ≡ p.number = ap (λ (z : PassView (Event S)). z.number) one.pass in
      let units = one.units in
      let later = two.units in
      let long = length-append xs ys in
      record {
        pass = two.pass ∙ ap (λ (z : PassView (Event S)). record z { used = r.used; front = r.front }) one.pass;
        trail =
            trail_on pass_of p.number p.front xs q.front ys r.front one.trail
            (subst (λ k. Trail pass_of k q.front ys r.front) number two.trail);
        moments = all_at_on S p q xs ys one.pass one.moments two.moments;
        units = omega arith;
      }

  -- the Forget
  record Last (p q : PassView (Event S)) : Type 0 where
    pub own : List (Event S)
    pub counts : Counts S p own 0 q
    pub each : Each own
    pub none : drew own ≡ 0
    pub quiet : (n : ℕ) → ended S n own ≡ false

  nothing : (p q : PassView (Event S)) → q ≡ p → Last p q
  nothing p q same = record { own = []; counts = subst (λ (z : PassView (Event S)). Counts S p [] 0 z) (sym same) (counts_none S p); each = tt; none = refl; quiet = λ n. refl }

  forget_part : (p q : PassView (Event S)) (n : ℕ) → Forgets S p n q → Last p q
  forget_part p q n (inl h) = record { own = _; counts = h.1; each = (tt, tt); none = refl; quiet = λ n. refl }
  forget_part p q n (inr h) = nothing p q h.0

  last_part : (driven : DriveEnd V F) (p q : PassView (Event S)) (n : ℕ) → ForgetsDone S driven p n q → Last p q
  last_part DriveEnd.Committed p q n h = forget_part p q n h
  last_part (DriveEnd.Cancelled reasons) p q n h = forget_part p q n h
  last_part (DriveEnd.NoTable place) p q n h = forget_part p q n h
  last_part DriveEnd.Gone p q n h = nothing p q h
  last_part DriveEnd.Stopped p q n h = nothing p q h
  last_part DriveEnd.Spent p q n h = nothing p q h
  last_part DriveEnd.NoMemory p q n h = nothing p q h

  drawn_part :
      (n : ℕ) (stamp : _) (p q : PassView (Event S)) (driven : DriveEnd V F) → RunsDrawn S n stamp actions p driven q → Part (driven ≢ DriveEnd.NoMemory) (is_cut driven) 0 p q
  drawn_part n stamp p q driven h =
      let last = last_part driven h.middle q n h.forgets in
      let drives = all_drive n h.own h.each in
      let units = last.counts.units in
      let long = length-append h.own last.own in
      let all = drew_append h.own last.own in
      let one = drives.1 in
      let two = last.none in
      record {
        own = h.own ++ last.own;
        added = added_before p h.middle q h.own last.own h.added last.counts;
        exact = λ sure. (let before = h.exact sure in omega arith);
        each = each_append (λ e. IsOfWrite S token actions e.message) h.own last.own drives.0 last.each;
        few = omega arith;
        leaves = λ calm. both_leave S h.own last.own (end_leaves S q n h.own h.each driven h.is calm) (quiet_leaves S last.own last.quiet);
      }

  sure_of : (driven : DriveEnd V F) (end : Option (TransactEnd V F)) → end ≡ ended_by driven → end ≢ Some TransactEnd.NoMemory → driven ≢ DriveEnd.NoMemory
  sure_of driven end is sure e = sure (is ∙ ap ended_by e)

  weaker :
      (one two : Type 0) (b c : Bool) (i j : ℕ) (p q : PassView (Event S)) → (two → one) → (c ≡ false → b ≡ false) → i ≤ j → Part one b i p q
      → Part two c j p q
  weaker one two b c i j p q f calm le h =
      let few = h.few in
      record { own = h.own; added = h.added; exact = λ s. h.exact (f s); each = h.each; few = omega arith; leaves = λ s. h.leaves (calm s) }

  at_once : (sure : Type 0) (cut : Bool) (p q : PassView (Event S)) → q ≡ p → Part sure cut 0 p q
  at_once sure cut p q same =
      let l = nothing p q same in
      counted sure cut 0 p q l.own l.counts l.each (let none = l.none in omega arith) (quiet_leaves S l.own l.quiet)

  -- what follows a Begin draws nothing
  follow_part :
      (a : Reply S) (p q : PassView (Event S)) (end : Option (TransactEnd V F)) → Follows S actions a p end q
      → Part (end ≢ Some TransactEnd.NoMemory) (cut_off end) 0 p q
  follow_part (Answer.Begun n stamp) p q end h =
      weaker _ _ (is_cut h.0) (cut_off end) 0 0 p q (sure_of h.0 end h.2) (calm_of h.0 end h.2) (omega arith) (drawn_part n stamp p q h.0 h.1)
  follow_part (Answer.Running n) p q end h =
      let drives = all_drive n h.1.own h.1.each in
      let none = drives.1 in
      record {
        own = h.1.own;
        added = h.1.added;
        exact = λ sure. h.1.exact (sure_of h.0 end h.2 sure);
        each = drives.0;
        few = omega arith;
        leaves = λ calm. end_leaves S q n h.1.own h.1.each h.0 h.1.is (calm_of h.0 end h.2 calm);
      }
  follow_part (Answer.Repeat n) p q end h = at_once _ (cut_off end) p q h.0
  follow_part (Answer.Mismatch n) p q end h = at_once _ (cut_off end) p q h.0
  follow_part Answer.Stale p q end h = at_once _ (cut_off end) p q h.0
  follow_part _ p q end h = absurd h

  unanswered_sure : (why : StepError) (end : Option (TransactEnd V F)) → end ≡ Some (unanswered why) → end ≢ Some TransactEnd.NoMemory → why ≢ StepError.NoMemory
  unanswered_sure why end is sure e = sure (is ∙ ap (λ w. Some (unanswered w)) e)

  turn_part :
      (p q : PassView (Event S)) (end : Option (TransactEnd V F)) → Turns S token actions p end q
      → Part (end ≢ Some TransactEnd.NoMemory) (cut_off end) 1 p q
  turn_part p q end (inl h) =
      let e : Event S = event_of p h.cell (Message.Begin token actions) h.answer in
      behind _ (cut_off end) 1 0 p h.middle q (e ∷ []) h.begin ((refl, refl), tt) (drew_one e) (quiet_leaves S (e ∷ []) (λ n. refl))
      (follow_part h.answer h.middle q end h.follows)
  turn_part p q end (inr h) =
      record {
        own = [];
        added = until_added S p [] q h.0 h.1;
        exact = λ sure. until_exact S p [] q h.0 h.1 (unanswered_sure h.0 end h.2 sure);
        each = tt;
        few = omega arith;
        leaves = λ _. quiet_leaves S [] (λ n. refl);
      }

  -- one after which the Begin is sent again drew nothing
  again_by :
      (p m q : PassView (Event S)) (cell : Option ℕ) (a : Reply S) → Counts S p (event_of p cell (Message.Begin token actions) a ∷ []) 0 m
      → Follows S actions a m None q → Part (Unit {0}) false 0 p q
  again_by p m q cell (Answer.Running n) counts h =
      let part = follow_part (Answer.Running n) m q None h in
      let e : Event S = event_of p cell (Message.Begin token actions) (Answer.Running n) in
      behind (Unit {0}) false 0 0 p m q (e ∷ []) counts ((refl, refl), tt) (omega arith) (quiet_leaves S (e ∷ []) (λ k. refl))
      (weaker _ (Unit {0}) false false 0 0 m q (λ _ e. (let k : None ≡ Some TransactEnd.NoMemory = e in cc)) (λ calm. calm) (omega arith) part)
  again_by p m q cell (Answer.Begun n stamp) counts h =
      let gone = none_by h.0 (sym h.2) in absurd (let e = sym (ap is_gone_end gone) ∙ h.1.there in cc)
  again_by p m q cell (Answer.Repeat n) counts h = absurd (let e = h.1 in cc)
  again_by p m q cell (Answer.Mismatch n) counts h = absurd (let e = h.1 in cc)
  again_by p m q cell Answer.Stale counts h = absurd (let e = h.1 in cc)
  again_by p m q cell _ counts h = absurd h

  again_turn : (p q : PassView (Event S)) → Turns S token actions p None q → Part (Unit {0}) false 0 p q
  again_turn p q (inl h) = again_by p h.middle q h.cell h.answer h.begin h.follows
  again_turn p q (inr h) = absurd (let e = h.2 in cc)

  counts_of : (most : ℕ) (p q : PassView (Event S)) (h : Part (Unit {0}) false most p q) → Counts S p h.own 0 q
  counts_of most p q h = let units = h.exact tt in record { pass = h.added.pass; trail = h.added.trail; moments = h.added.moments; units = omega arith }

  again_part : (p : PassView (Event S)) (k : ℕ) (q : PassView (Event S)) → TurnsAgain S token actions p k q → Part (Unit {0}) false 0 p q
  again_part p zero q h = at_once (Unit {0}) false p q h
  again_part p (suc k) q h =
      let before = again_part p k h.0 h.1 in
      behind (Unit {0}) false 0 0 p h.0 q before.own (counts_of 0 p h.0 before) before.each before.few (before.leaves refl)
      (again_turn h.0 q h.2)

  has_back : (xs ys : List (Event S)) (e : Event S) → Has ys e → Has (xs ++ ys) e
  has_back [] ys e h = h
  has_back (x ∷ xs) ys e h = inr (has_back xs ys e h)

  -- what some of these entries pass, all of them do
  abbrev Within : List (Event S) → List (Event S) → Type 0
  Within xs own = (f : Event S → Bool) → list_any f xs ≡ true → list_any f own ≡ true

  -- the end of a number that an own Begin named
  driven_cause :
      (driven : DriveEnd V F) (end : TransactEnd V F) (n : ℕ) (xs own : List (Event S)) (q : PassView (Event S)) → Some end ≡ ended_by driven
      → IsEnd S q n xs driven → WasNamed S token actions own (reverse q.front) n → Within xs own → EndsBy S token actions own q end
  driven_cause DriveEnd.Committed end n xs own q e is named up =
      let same : TransactEnd.Committed ≡ end = cc in
      subst (λ z. EndsBy S token actions own q z) same (n, named, is.cause.0, inl (up (λ x. is_done n x.message) is.cause.1))
  driven_cause (DriveEnd.Cancelled reasons) end n xs own q e is named up =
      let same : TransactEnd.Cancelled reasons ≡ end = cc in
      let c = is.cause.0 in
      subst (λ z. EndsBy S token actions own q z) same
      (n, named, record { cancelled = c.cancelled; reasons_are = c.reasons_are; done = up (λ x. is_done n x.message) c.done }, is.cause.1)
  driven_cause (DriveEnd.NoTable place) end n xs own q e is named up =
      let same : TransactEnd.NoTable place ≡ end = cc in
      let c = is.cause.1 in
      subst (λ z. EndsBy S token actions own q z) same (
        n,
        named,
        is.cause.0,
        record { cancelled = c.cancelled; reasons_are = c.reasons_are; done = up (λ x. is_done n x.message) c.done },
        is.cause.2,
        some_weaker place is.cause.3
            (λ at f. record {
              action = f.action;
              its_place = f.its_place;
              stale = up (λ x. prepares S n (S.core.key_of f.action) x.message && is_stale x.answer) f.stale;
            }),
      )
  driven_cause DriveEnd.Gone end n xs own q e is named up = absurd (cc)
  driven_cause DriveEnd.Stopped end n xs own q e is named up =
      let same : TransactEnd.Stopped ≡ end = cc in subst (λ z. EndsBy S token actions own q z) same tt
  driven_cause DriveEnd.Spent end n xs own q e is named up =
      let same : TransactEnd.Spent ≡ end = cc in subst (λ z. EndsBy S token actions own q z) same is.cause
  driven_cause DriveEnd.NoMemory end n xs own q e is named up =
      let same : TransactEnd.NoMemory ≡ end = cc in subst (λ z. EndsBy S token actions own q z) same tt

  -- what came of a Begin that was answered, behind other own entries
  module _ (law : IsServiceLawful S) (older : List (Event S)) (p m : PassView (Event S)) (cell : Option ℕ) where
    abbrev begin_of : Reply S → Event S
    begin_of a = event_of p cell (Message.Begin token actions) a

    answered_so : (a : Reply S) (rest : List (Event S)) → WasAnswered S token actions (older ++ (begin_of a ∷ rest)) a
    answered_so a rest = (begin_of a, has_back older (begin_of a ∷ rest) (begin_of a) (inl refl), refl, refl)

    within : (a : Reply S) (xs ys : List (Event S)) → Within xs (older ++ (begin_of a ∷ (xs ++ ys)))
    within a xs ys f h =
        any_back f older (begin_of a ∷ (xs ++ ys)) (or_right (f (begin_of a)) (list_any f (xs ++ ys)) (any_front f xs ys h))

    -- what was begun with these parameters before the Begin was answered, in what the pass has seen since
    alike_then :
        (a : Reply S) (q : PassView (Event S)) (rest : List (Event S)) → m.front ++ rest ≡ q.front → IsLegal S (reverse q.front)
        → (later : IsLater S (reverse p.front) (begin_of a) (reverse m.front)) (n : ℕ)
        → IsBegunAlike S (later.newer ++ reverse p.front) actions n → IsAlike S (reverse q.front) actions n
    alike_then a q rest is legal later n begun =
        let es : History S = later.newer ++ reverse p.front in
        let whole : reverse q.front ≡ reverse rest ++ reverse m.front = ap reverse (sym is) ∙ beginning_is_tail m.front rest in
        let then_ = subst (λ xs. IsBegunAlike S xs actions n) later.is (alike_stays S law (begin_of a ∷ []) es later.legal actions n begun) in
        (subst (λ xs. IsBegunAlike S xs actions n) (sym whole)
        (alike_stays S law (reverse rest) (reverse m.front) (subst (IsLegal S) whole legal) actions n then_)).alike

    follow_cause :
        (a : Reply S) (q : PassView (Event S)) (end : TransactEnd V F) (h : Follows S actions a m (Some end) q) → IsLegal S (reverse q.front)
        → IsLater S (reverse p.front) (begin_of a) (reverse m.front)
        → EndsBy S token actions (older ++ (begin_of a ∷ (follow_part a m q (Some end) h).own)) q end
    unfolding follow_part weaker drawn_part at_once counted nothing
    follow_cause (Answer.Begun n stamp) q end h legal later =
        let a : Reply S = Answer.Begun n stamp in
        let last = last_part h.0 h.1.middle q n h.1.forgets in
        driven_cause h.0 end n h.1.own (older ++ (begin_of a ∷ (h.1.own ++ last.own))) q h.2 h.1.is
        record {
          answer = a;
          told = answered_so a (h.1.own ++ last.own);
          named = eq-eqb n n refl;
          alike = ap (λ xs. S.same_actions xs actions) h.1.begun.its_actions ∙ law.same_parameters.refl actions;
        }
        (within a h.1.own last.own)
    follow_cause (Answer.Running n) q end h legal later =
        let a : Reply S = Answer.Running n in
        let begun = running_is_alike S law (later.newer ++ reverse p.front) later.legal.0 p.moment token actions n later.legal.1.answer in
        driven_cause h.0 end n h.1.own (older ++ (begin_of a ∷ h.1.own)) q h.2 h.1.is
        record {
          answer = a;
          told = answered_so a h.1.own;
          named = eq-eqb n n refl;
          alike = alike_then a q h.1.added.trail.rest h.1.added.trail.is legal later n begun;
        }
        (subst (λ ys. Within h.1.own (older ++ (begin_of a ∷ ys))) (append-nil h.1.own) (within a h.1.own []))
    follow_cause (Answer.Repeat n) q end h legal later =
        let a : Reply S = Answer.Repeat n in
        let es = later.newer ++ reverse p.front in
        let done = repeats_are_done S law es later.legal.0 p.moment token actions n later.legal.1.answer in
        let front : reverse m.front ≡ reverse q.front = ap (λ (z : PassView (Event S)). reverse z.front) (sym h.0) in
        let same : TransactEnd.Committed ≡ end = (let e = h.1 in cc) in
        subst (λ z. EndsBy S token actions (older ++ (begin_of a ∷ [])) q z) same (
          n,
          record {
            answer = a;
            told = answered_so a [];
            named = eq-eqb n n refl;
            alike =
                alike_then a q [] (append-nil m.front ∙ ap (λ (z : PassView (Event S)). z.front) (sym h.0)) legal later n
                record { begun = done.begun; alike = done.alike };
          },
          subst (λ xs. Had (commits n) xs) (later.is ∙ front) (had_more (commits n) (begin_of a) es done.committed),
          inr (subst (λ xs. Had (finishes n) xs) (later.is ∙ front) (had_more (finishes n) (begin_of a) es done.done)),
        )
    follow_cause (Answer.Mismatch n) q end h legal later =
        let same : TransactEnd.Mismatch n ≡ end = (let e = h.1 in cc) in
        subst (λ z. EndsBy S token actions (older ++ (begin_of (Answer.Mismatch n) ∷ [])) q z) same (answered_so (Answer.Mismatch n) [])
    follow_cause Answer.Stale q end h legal later =
        let same : TransactEnd.Stale ≡ end = (let e = h.1 in cc) in
        subst (λ z. EndsBy S token actions (older ++ (begin_of Answer.Stale ∷ [])) q z) same (answered_so Answer.Stale [])
    follow_cause _ q end h legal later = absurd h

  unanswered_cause :
      (why : StepError) (p q : PassView (Event S)) (own : List (Event S)) (end : TransactEnd V F) → CountsUntil S p [] why q
      → Some end ≡ Some (unanswered why) → EndsBy S token actions own q end
  unanswered_cause StepError.Spent p q own end h e =
      let same : TransactEnd.Spent ≡ end = cc in subst (λ z. EndsBy S token actions own q z) same h.1
  unanswered_cause StepError.NoMemory p q own end h e =
      let same : TransactEnd.NoMemory ≡ end = cc in subst (λ z. EndsBy S token actions own q z) same tt

  turn_cause :
      IsServiceLawful S → (older : List (Event S)) (p q : PassView (Event S)) (end : TransactEnd V F) (h : Turns S token actions p (Some end) q)
      → IsLegal S (reverse q.front) → EndsBy S token actions (older ++ (turn_part p q (Some end) h).own) q end
  unfolding turn_part behind
  turn_cause law older p q end (inl h) legal = follow_cause law older p h.middle h.cell h.answer q end h.follows legal h.later
  turn_cause law older p q end (inr h) legal = unanswered_cause h.0 p q (older ++ []) end h.1 h.2

  -- so all of them
  pub adds_writing :
      IsServiceLawful S → (p q : PassView (Event S)) (end : TransactEnd V F) → IsLegal S (reverse q.front) → Writes S token actions p end q
      → AddsWriting S token actions p end q
  unfolding behind
  adds_writing law p q end legal h =
      let before = again_part p h.again h.last h.before in
      let all =
      behind _ (is_cut_off end) 0 1 p h.last q before.own (counts_of 0 p h.last before) before.each before.few (before.leaves refl)
      (turn_part h.last q (Some end) h.turn) in
      record {
        own = all.own;
        added = all.added;
        exact = λ sure. all.exact (λ e. sure (let k : Some end ≡ Some TransactEnd.NoMemory = e in cc));
        each = all.each;
        cause = turn_cause law before.own h.last q end h.turn legal;
        settled = all.leaves;
        once = all.few;
      }

  -- nothing was sent
  pub adds_none : (p : PassView (Event S)) (end : TransactEnd V F) → EndsBy S token actions [] p end → AddsWriting S token actions p end p
  adds_none p end cause =
      record {
        own = [];
        added = added_by S 1 0 p [] p (omega arith) (counts_none S p);
        exact = λ _. exactly S p [] p (counts_none S p);
        each = tt;
        cause = cause;
        settled = λ _. quiet_leaves S [] (λ n. refl);
        once = omega arith;
      }
