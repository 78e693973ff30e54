-- Drives one after another, and where each ended.
use Rattle.std.proofs.Common.{◌≡◌, ◌⊎◌, inl, inr, ℕ, ◌+◌, ◌*◌, Bool, true, false, ◌&&◌, ◌||◌, nat_eq, List, [], ◌∷◌, ◌++◌, length, reverse, Ok, Err, refl, sym, ap, ◌∙◌, subst, arith, eq-eqb, length-append}
use Rattle.std.specs.Prelude.{Contains}
use Rattle.std.proofs.lemmas.Bool.{and_parts, eqb-true, or_cases, or_right}
use Rattle.std.proofs.lemmas.List.Sums.{sum_by-append, sum_by_push}
use Rattle.turnstile.specs.Histories.{Trail}
use Rattle.turnstile.specs.Passes.{PassView, most_units}
use Rattle.turnstile.proofs.Histories.{at}
use Rattle.txn_core.specs.declared.fate.Fate.{Fate}
use Rattle.txn_core.specs.declared.message.Message.{Message}
use Rattle.txn_core.specs.declared.answer.Answer.{Answer}
use Rattle.txn_core.specs.History.{effects, Had, begins, forgets}
use Rattle.txn_core.specs.Legal.{IsAnswer, IsLegal}
use Rattle.txn_core.specs.Serial.{begun_actions}
use Rattle.txn_core.specs.Service.{Service, IsServiceLawful, Asked, Reply, Event, History}
use Rattle.txn_core.proofs.Exports.{beginning_is_tail, had_more, had_stays, legal_before, newest}
use Rattle.cluster.specs.Events.{pass_of}
use Rattle.cluster.proofs.OwnEntries.{counts_none}
use Rattle.coordinator.specs.declared.drive_end.DriveEnd.{DriveEnd}
use Rattle.coordinator.specs.Driving.{is_done, is_driving, is_ending, finds_none, found_none, ended, sent_done}
use Rattle.coordinator.specs.Drives.{is_gone_end, HasCause, LeavesNoneDecided, Drives}
use Rattle.coordinator.proofs.Leaving.{Comes, both_leave, ends_its_own, one_leaves}
use Rattle.coordinator.proofs.Moving.{added_on}
use Rattle.recovery_manager.specs.declared.sweep_end.SweepEnd.{SweepEnd}
use Rattle.recovery_manager.specs.Ends.{found_gone, IsDone, IsForgotten}
use Rattle.recovery_manager.specs.Parts.{is_on, AllOn, DrivesSome, DrivesAll, DrivesPartly}
use Rattle.cluster.proofs.Lists.{any_back, any_front, each_append}
use Rattle.recovery_manager.proofs.Each.{each_at, each_so, found, splits}
use Rattle.recovery_manager.proofs.Forgotten.{decide_finds_none, recall_finds_none}
use Rattle.recovery_manager.proofs.Grown.{counted, same_actions, still_done, still_forgotten, still_had, with_more}

module _ {V F : Type 0} where
  -- a drive after which the sweep goes on was not stopped
  pub goes_on : (end : DriveEnd V F) (is_gone : Bool) → Ok is_gone ≡ found_gone end → end ≡ DriveEnd.Stopped → ⊥
  goes_on end is_gone h e = absurd (let told = h ∙ ap found_gone e in cc)

  -- a sweep that leaves off behind a drive that was stopped is stopped
  pub stops_so : (end : DriveEnd V F) (why : SweepEnd) → Err why ≡ found_gone end → end ≡ DriveEnd.Stopped → why ≡ SweepEnd.Stopped
  stops_so end why h e = let told = h ∙ ap found_gone e in cc

module _ {K V A F C D Q B : Type 0} (S : Service K V A F C D Q B) where
  module _ (law : IsServiceLawful S) where
    -- of a begun number no record is found only where it was forgotten
    finds :
        (past : History S) → IsLegal S past → (n : ℕ) → Had (begins n) past → (moment : ℕ) (m : Asked S) (a : Reply S)
        → IsAnswer S past moment m a → finds_none n m a ≡ true → Had (forgets n) past
    finds past legal n begun moment (Message.Recall m) Answer.Unknown is h =
        recall_finds_none S law past legal n begun moment
        (subst (λ k. IsAnswer S past moment (Message.Recall k) Answer.Unknown) (eqb-true m n h) is)
    finds past legal n begun moment (Message.Decide m commit reasons) (Answer.Decided Fate.Gone first) is h =
        decide_finds_none S law past legal n begun moment commit first reasons
        (subst (λ k. IsAnswer S past moment (Message.Decide k commit reasons) (Answer.Decided Fate.Gone first)) (eqb-true m n h) is)
    finds past legal n begun moment _ _ is h = absurd (cc)

    pub was_gone :
        (n k : ℕ) (old own new : List (Event S)) → Trail pass_of k old own new → IsLegal S (reverse new) → Had (begins n) (reverse old)
        → found_none S n own ≡ true → Had (forgets n) (reverse new)
    was_gone n k old own new trail legal begun h =
        let s = splits (λ e. finds_none n e.message e.answer) own h in
        let e = s.1 in
        let t = at pass_of k old s.0 e s.2 new (subst (λ es. Trail pass_of k old es new) (sym s.3) trail) in
        let past = t.0 in
        let rest = t.2.rest in
        let whole : reverse new ≡ reverse rest ++ reverse (past ++ e ∷ []) = ap reverse (sym t.2.is) ∙ beginning_is_tail (past ++ e ∷ []) rest in
        let front : reverse (past ++ e ∷ []) ≡ e ∷ reverse past = newest past e in
        let legal_then : IsLegal S (e ∷ reverse past) =
        subst (IsLegal S) front (legal_before S (reverse rest) (reverse (past ++ e ∷ [])) (subst (IsLegal S) whole legal)) in
        let begun_then = still_had S k old s.0 past t.1 (begins n) begun in
        let forgot = finds (reverse past) legal_then.0 n begun_then e.moment e.message e.answer legal_then.1.answer s.4 in
        subst (λ es. Had (forgets n) es) (sym whole)
        (had_stays (forgets n) (reverse rest) (reverse (past ++ e ∷ []))
        (subst (λ es. Had (forgets n) es) (sym front) (had_more (forgets n) e (reverse past) forgot)))

  module _ (q : PassView (Event S)) (n : ℕ) (own : List (Event S)) where
    -- what an end says
    done_of : (end : DriveEnd V F) → HasCause S q n own end → found_gone end ≡ Ok false → IsDone S (reverse q.front) own n
    done_of DriveEnd.Committed h is = record { decided = inl h.0; done = h.1 }
    done_of (DriveEnd.Cancelled reasons) h is = record { decided = inr h.0.cancelled; done = h.0.done }
    done_of (DriveEnd.NoTable place) h is = record { decided = inr h.1.cancelled; done = h.1.done }
    done_of DriveEnd.Gone h is = absurd (cc)
    done_of DriveEnd.Stopped h is = absurd (cc)
    done_of DriveEnd.Spent h is = absurd (cc)
    done_of DriveEnd.NoMemory h is = absurd (cc)

    spent_of : (end : DriveEnd V F) (why : SweepEnd) → HasCause S q n own end → found_gone end ≡ Err why → why ≡ SweepEnd.Spent → q.used ≡ most_units
    spent_of DriveEnd.Spent why h is spent = h
    spent_of DriveEnd.Committed why h is spent = absurd (cc)
    spent_of (DriveEnd.Cancelled reasons) why h is spent = absurd (cc)
    spent_of (DriveEnd.NoTable place) why h is spent = absurd (cc)
    spent_of DriveEnd.Gone why h is spent = absurd (cc)
    spent_of DriveEnd.Stopped why h is spent = absurd (let e : SweepEnd.Stopped ≡ why = cc in cc)
    spent_of DriveEnd.NoMemory why h is spent = absurd (let e : SweepEnd.NoMemory ≡ why = cc in cc)

    -- want of memory leaves a number undecided, or done
    memory_of :
        (end : DriveEnd V F) (why : SweepEnd) → HasCause S q n own end → found_gone end ≡ Err why → why ≡ SweepEnd.NoMemory
        → (ended S n own ≡ false) ⊎ (sent_done S n own ≡ true)
    memory_of DriveEnd.NoMemory why h is memory = h
    memory_of DriveEnd.Committed why h is memory = absurd (cc)
    memory_of (DriveEnd.Cancelled reasons) why h is memory = absurd (cc)
    memory_of (DriveEnd.NoTable place) why h is memory = absurd (cc)
    memory_of DriveEnd.Gone why h is memory = absurd (cc)
    memory_of DriveEnd.Stopped why h is memory = absurd (let e : SweepEnd.Stopped ≡ why = cc in cc)
    memory_of DriveEnd.Spent why h is memory = absurd (let e : SweepEnd.Spent ≡ why = cc in cc)

  gone_of : (end : DriveEnd V F) → found_gone end ≡ Ok true → is_gone_end end ≡ true
  gone_of DriveEnd.Gone is = refl
  gone_of DriveEnd.Committed is = absurd (cc)
  gone_of (DriveEnd.Cancelled reasons) is = absurd (cc)
  gone_of (DriveEnd.NoTable place) is = absurd (cc)
  gone_of DriveEnd.Stopped is = absurd (cc)
  gone_of DriveEnd.Spent is = absurd (cc)
  gone_of DriveEnd.NoMemory is = absurd (cc)

  -- a number that is decided or ended is one of those that the entries are on
  ended_among : (n : ℕ) (numbers : List ℕ) (own : List (Event S)) → AllOn S numbers own → ended S n own ≡ true → Contains numbers n
  ended_among n numbers [] each h = absurd (cc)
  ended_among n numbers (e ∷ own) each h = elim (or_cases (is_ending n e.message) (ended S n own) h) [
    | inl now ↦
        let m = found (λ k. is_driving k e.message) numbers each.0 in
        subst (Contains numbers) (sym (ends_its_own S n m.0 e.message now m.2)) m.1
    | inr older ↦ ended_among n numbers own each.1 older
  ]

  -- where each came to its end, none was left in between
  none_left :
      (gone : ℕ → Bool) (numbers : List ℕ) (p q : PassView (Event S)) (all : DrivesAll S gone numbers p q) → LeavesNoneDecided S all.drives.own
  none_left gone numbers p q all n h = by (gone n) refl
    where
      by : (g : Bool) → gone n ≡ g → (sent_done S n all.drives.own ≡ true) ⊎ (found_none S n all.drives.own ≡ true)
      by true is = inr (all.forgotten n is).found
      by false is =
          inl
          (each_at (λ m. gone m ≡ false → IsDone S (reverse q.front) all.drives.own m) numbers n
          (ended_among n numbers all.drives.own all.drives.each h) all.done is).done

  -- some numbers and then others
  on_front : (ms ns : List ℕ) (own : List (Event S)) → AllOn S ms own → AllOn S (ms ++ ns) own
  on_front ms ns own h = each_so (λ e. is_on S ms e ≡ true) (λ e. is_on S (ms ++ ns) e ≡ true) (λ e is. any_front (λ m. is_driving m e.message) ms ns is) own h

  some_none : (p : PassView (Event S)) → DrivesSome S [] p p
  some_none p = record { own = []; added = counted S p [] 0 p (counts_none S p); each = tt; few = omega arith }

  some_within : (ms rest : List ℕ) (p q : PassView (Event S)) → DrivesSome S ms p q → DrivesSome S (ms ++ rest) p q
  some_within ms rest p q so =
      let long = length-append ms rest in
      let sum = sum_by-append (λ n. 2 * length (begun_actions (effects (reverse p.front)) n) + 4) ms rest in
      let few = so.few in
      record {
        own = so.own;
        added = with_more S (length ms) (length (ms ++ rest)) p so.own q (omega arith) so.added;
        each = on_front ms rest so.own so.each;
        few = omega arith;
      }

  module _
      (law : IsServiceLawful S) (ms : List ℕ) (p q : PassView (Event S)) (n : ℕ) (r : PassView (Event S)) (end : DriveEnd V F)
      (legal : IsLegal S (reverse r.front)) (begun : Had (begins n) (reverse p.front)) (d : Drives S n q r end) where
    some_more : DrivesSome S ms p q → DrivesSome S (ms ++ n ∷ []) p r
    some_more so =
        let added = added_on S (length ms) 1 p q r so.own d.own so.added d.added in
        let long = length-append ms (n ∷ []) in
        let both = length-append so.own d.own in
        let sum = sum_by_push (λ m. 2 * length (begun_actions (effects (reverse p.front)) m) + 4) ms n in
        let same = ap length (same_actions S p.number p.front (so.own ++ d.own) r.front added.trail law legal n begun) in
        let few = so.few in
        let more = d.few in
        record {
          own = so.own ++ d.own;
          added = with_more S (length ms + 1) (length (ms ++ n ∷ [])) p (so.own ++ d.own) r (omega arith) added;
          each =
              each_append (λ e. is_on S (ms ++ n ∷ []) e ≡ true) so.own d.own (on_front ms (n ∷ []) so.own so.each)
              (each_so (λ e. is_driving n e.message ≡ true) (λ e. is_on S (ms ++ n ∷ []) e ≡ true)
              (λ e is. any_back (λ m. is_driving m e.message) ms (n ∷ []) (ap (λ b. b || false) is)) d.own d.each);
          few = omega arith;
        }

    module _ (gone new : ℕ → Bool) (b : Bool) (is : found_gone end ≡ Ok b) (notes : (m : ℕ) → new m ≡ (gone m || (b && nat_eq n m))) (so : DrivesAll S gone ms p q) where
      abbrev older : List (Event S)
      older = so.drives.own

      trail : Trail pass_of q.number q.front d.own r.front
      trail = d.added.trail

      begun_then : Had (begins n) (reverse q.front)
      begun_then = still_had S p.number p.front older q.front so.drives.added.trail (begins n) begun

      forgot_now : b ≡ true → IsForgotten S (reverse r.front) (older ++ d.own) n
      forgot_now yes' =
          let none : found_none S n d.own ≡ true = sym d.is.gone ∙ gone_of end (is ∙ ap Ok yes') in
          record {
            forgotten = was_gone law n q.number q.front d.own r.front trail legal begun_then none;
            found = any_back (λ e. finds_none n e.message e.answer) older d.own none;
          }

      done_now : b ≡ false → IsDone S (reverse r.front) (older ++ d.own) n
      done_now no' =
          let h = done_of r n d.own end d.is.cause (is ∙ ap Ok no') in
          record { decided = h.decided; done = any_back (λ e. is_done n e.message) older d.own h.done }

      -- what is noted
      noted : (m : ℕ) → new m ≡ true → (gone m ≡ true) ⊎ ((b ≡ true) × (n ≡ m))
      noted m h = elim (or_cases (gone m) (b && nat_eq n m) (sym (notes m) ∙ h)) [
        | inl old ↦ inl old
        | inr now ↦ (let parts = and_parts b (nat_eq n m) now in inr (parts.0, eqb-true n m parts.1))
      ]

      not_noted : (m : ℕ) → new m ≡ false → gone m ≡ false
      not_noted m h = by (gone m) refl
        where
          by : (g : Bool) → gone m ≡ g → gone m ≡ false
          by false e = e
          by true e = absurd (let t : new m ≡ true = notes m ∙ ap (λ c. c || (b && nat_eq n m)) e in cc)

      not_now : new n ≡ false → b ≡ false
      not_now h = by b refl
        where
          by : (g : Bool) → b ≡ g → b ≡ false
          by false e = e
          by true e =
              absurd (let t : new n ≡ true = notes n ∙ or_right (gone n) (b && nat_eq n n) (λ j. e j && eq-eqb n n refl j) in cc)

      pub all_more : DrivesAll S new (ms ++ n ∷ []) p r
      unfolding some_more
      all_more =
          record {
            drives = some_more so.drives;
            done =
                each_append (λ m. new m ≡ false → IsDone S (reverse r.front) (older ++ d.own) m) ms (n ∷ [])
                (each_so (λ m. gone m ≡ false → IsDone S (reverse q.front) older m) (λ m. new m ≡ false → IsDone S (reverse r.front) (older ++ d.own) m)
                (λ m h none. still_done S q.number q.front d.own r.front trail older d.own m (h (not_noted m none))) ms so.done)
                (λ none. done_now (not_now none), tt);
            forgotten = λ m some. by_turn m (noted m some);
          }
        where
          by_turn : (m : ℕ) → (gone m ≡ true) ⊎ ((b ≡ true) × (n ≡ m)) → IsForgotten S (reverse r.front) (older ++ d.own) m
          by_turn m (inl old) = still_forgotten S q.number q.front d.own r.front trail older d.own m (so.forgotten m old)
          by_turn m (inr now) = subst (λ k. IsForgotten S (reverse r.front) (older ++ d.own) k) now.1 (forgot_now now.0)

    -- where the drive did not come to its end, or what it found could not be noted
    module _ (numbers rest : List ℕ) (whole : numbers ≡ (ms ++ n ∷ []) ++ rest) (gone : ℕ → Bool) (so : DrivesAll S gone ms p q) where
      -- the drives before left none in between, so the last one alone may
      last_leaves : (ended S n d.own ≡ true → Comes S n d.own) → LeavesNoneDecided S (so.drives.own ++ d.own)
      last_leaves last = both_leave S so.drives.own d.own (none_left gone ms p q so) (one_leaves S n d.own d.each last)

      pub partly_ended : (why : SweepEnd) → found_gone end ≡ Err why → DrivesPartly S numbers p why r
      unfolding some_more some_within
      partly_ended why is =
          subst (λ ns. DrivesPartly S ns p why r) (sym whole)
          record {
            drives = some_within (ms ++ n ∷ []) rest p r (some_more so.drives);
            spent = λ e. spent_of r n d.own end why d.is.cause is e;
            memory = λ e. last_leaves (undecided_or_done (memory_of r n d.own end why d.is.cause is e));
          }
        where
          undecided_or_done : (ended S n d.own ≡ false) ⊎ (sent_done S n d.own ≡ true) → ended S n d.own ≡ true → Comes S n d.own
          undecided_or_done (inl undecided) h = absurd (cc)
          undecided_or_done (inr done) h = inl done

      pub partly_noted : (b : Bool) → found_gone end ≡ Ok b → DrivesPartly S numbers p SweepEnd.NoMemory r
      unfolding some_more some_within
      partly_noted b is =
          subst (λ ns. DrivesPartly S ns p SweepEnd.NoMemory r) (sym whole)
          record {
            drives = some_within (ms ++ n ∷ []) rest p r (some_more so.drives);
            spent = λ e. absurd (cc);
            memory = λ _. last_leaves (λ _. came b is);
          }
        where
          came : (c : Bool) → found_gone end ≡ Ok c → Comes S n d.own
          came false told = inl (done_of r n d.own end d.is.cause told).done
          came true told = inr (sym d.is.gone ∙ gone_of end told)

  pub all_none : (gone : ℕ → Bool) → ((n : ℕ) → gone n ≡ false) → (p : PassView (Event S)) → DrivesAll S gone [] p p
  all_none gone none p =
      record { drives = some_none p; done = tt; forgotten = λ n some. absurd (let e = none n in cc) }
