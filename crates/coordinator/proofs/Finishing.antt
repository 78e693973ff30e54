-- What a driver knows after the steps that follow its decision.
use Rattle.std.proofs.Common.{◌≡◌, ◌≢◌, inl, inr, ℕ, zero, suc, ◌+◌, ◌<◌, ◌≤◌, ◌||◌, ◌&&◌, false, true, nat_le, List, [], ◌∷◌, ◌++◌, length, drop, reverse, Option, None, Some, IfSome, slice_get, if◌then◌else◌, refl, sym, ap, ◌∙◌, subst, arith, eq-eqb}
use Rattle.std.specs.List.{list_any}
use Rattle.std.specs.Option.{option_to_list}
use Rattle.std.proofs.lemmas.Bool.{cond_both, le-leb}
use Rattle.std.proofs.lemmas.List.{length-drop}
use Rattle.txn_core.specs.declared.fate.Fate.{Fate}
use Rattle.txn_core.specs.declared.fate.Fate.TheVariants.{Undecided, Committed, Cancelled, Gone}
use Rattle.txn_core.specs.declared.message.Message.{Message}
use Rattle.txn_core.specs.declared.course.Course.{Course}
use Rattle.txn_core.specs.declared.course.Move.{Move}
use Rattle.txn_core.specs.Course.{Told, IsToldSo, is_known, next_at, next_move, with_done}
use Rattle.txn_core.specs.Driver.{is_no_table, course_left, moves_at, Knows, KnowsBegun}
use Rattle.txn_core.specs.History.{effects}
use Rattle.txn_core.specs.Memory.{takes_no_memory}
use Rattle.txn_core.specs.Serial.{begun_actions}
use Rattle.txn_core.specs.Service.{Service, IsServiceLawful, Asked, Reply, Event, History}
use Rattle.txn_core.specs.Legal.{Allowed, IsLegal, sent_to}
use Rattle.txn_core.proofs.Exports.{begun_stays, told_stays, reasons_of_stay, applied, released, finished, may_apply, may_release, may_finish, done_lessens, left, ended}
use Rattle.txn_core.proofs.Drives.{apply_at, release_at, done_next}
use Rattle.turnstile.specs.Passes.{PassView}
use Rattle.partition.specs.Steps.{is_served}
use Rattle.cluster.specs.Events.{event_of}
use Rattle.cluster.specs.Steps.{IsLater}
use Rattle.cluster.specs.Counts.{Counts}
use Rattle.coordinator.specs.declared.driver.Driver.{Driver}
use Rattle.coordinator.specs.Driving.{is_gone, is_driving, is_done, finds_none, last_message, last_move, IsDriver, IsNext, DrivenBy, Advances}
use Rattle.coordinator.proofs.Deciding.{last_within, no_cancel}
use Rattle.coordinator.proofs.Driven.{advanced, driven_on, or_false}

same_fate : (told : Told) → (with_done told).fate ≡ told.fate
same_fate told =
    cond_both (is_known told.fate && nat_le told.done told.actions) (record told { done = told.done + 1 }) told (λ t. t.fate ≡ told.fate) (λ _. refl)
    (λ _. refl)

same_verdicts : (told : Told) → (with_done told).verdicts ≡ told.verdicts
same_verdicts told =
    cond_both (is_known told.fate && nat_le told.done told.actions) (record told { done = told.done + 1 }) told (λ t. t.verdicts ≡ told.verdicts)
    (λ _. refl) (λ _. refl)

decided_done : (told : Told) → next_move told ≡ Move.Done → told.fate ≢ Undecided
decided_done told move none = elim (done_next told move).0 [ inl c ↦ (let e = sym c ∙ none in cc) | inr c ↦ (let e = sym c ∙ none in cc) ]

-- the first of what is left, and the rest
first_left : {X : Type 0} (xs : List X) (n : ℕ) (x : X) (rest : List X) → drop n xs ≡ x ∷ rest → (slice_get xs n ≡ Some x) × (drop (suc n) xs ≡ rest)
first_left xs zero x rest e = (ap (λ ys. slice_get ys 0) e, ap (λ ys. drop 1 ys) e)
first_left [] (suc n) x rest e = absurd (cc)
first_left (y ∷ ys) (suc n) x rest e = first_left ys n x rest e

drop_past : {X : Type 0} (n : ℕ) (xs : List X) → length xs ≤ n → drop n xs ≡ []
drop_past zero [] long = refl
drop_past zero (x ∷ xs) long = absurd (omega arith)
drop_past (suc n) [] long = refl
drop_past (suc n) (x ∷ xs) long = drop_past n xs (omega arith)

-- what holds of what is there
pub some_weaker : {X : Type 0} {T U : X → Type 0} (o : Option X) → IfSome o T → ((x : X) → T x → U x) → IfSome o U
some_weaker None h f = tt
some_weaker (Some x) h f = f x h

pub popped_none : {X : Type 0} (o : Option X) (xs ys : List X) → ((x : X) → o ≡ Some x → ⊥) → xs ≡ option_to_list o ++ ys → xs ≡ ys
popped_none None xs ys none e = e
popped_none (Some x) xs ys none e = absurd (none x refl)

-- what pops a list that is not empty finds something
pub pops_one : {X : Type 0} (xs ys : List X) → xs ≡ ys → ys ≡ drop 1 xs → 0 < length xs → ⊥
pops_one xs ys same rest some =
    let one = ap length same in
    let two = ap length rest in
    let three = length-drop 1 xs in
    omega arith

-- an action's last message comes next only after the decision
settles : (f : Fate) (told : Told) (place : ℕ) → told.fate ≡ f → next_move told ≡ last_move f place → (is_known f ≡ true) × (place ≡ told.done) × (told.done < told.actions)
settles Committed told place is move =
    let at = apply_at told place move in
    (refl, at.1, last_within Move.Apply told (Move.Apply place) (subst (λ f. next_at f told ≡ Move.Apply place) at.0 move) (λ h. cc) (λ h. cc))
settles Cancelled told place is move =
    let at = release_at told place move in
    (refl, at.1, last_within Move.Release told (Move.Release place) (subst (λ f. next_at f told ≡ Move.Release place) at.0 move) (λ h. cc) (λ h. cc))
settles Undecided told place is move = let at = release_at told place move in absurd (let e = sym is ∙ at.0 in cc)
settles Gone told place is move = let at = release_at told place move in absurd (let e = sym is ∙ at.0 in cc)

known_decided : (f : Fate) → is_known f ≡ true → f ≢ Undecided
known_decided f known none = let e = sym (ap is_known none) ∙ known in cc

known_there : (f : Fate) → is_known f ≡ true → is_gone f ≡ false
known_there Committed h = refl
known_there Cancelled h = refl
known_there Undecided h = absurd (cc)
known_there Gone h = absurd (cc)

last_goes_on : (f : Fate) (place : ℕ) → last_move f place ≢ Move.End
last_goes_on Committed place e = cc
last_goes_on Undecided place e = cc
last_goes_on Cancelled place e = cc
last_goes_on Gone place e = cc

pub settling_goes_on : (f : Fate) (place : ℕ) → (last_move f place ≡ Move.End → ⊥)
settling_goes_on f place = last_goes_on f place

module _ {K V A F C D Q B : Type 0} (S : Service K V A F C D Q B) where
  pub last_drives : (f : Fate) (n : ℕ) (key : K) → is_driving n (last_message {K = K} {V = V} {A = A} {F = F} {D = D} {Q = Q} f n key) ≡ true
  last_drives Committed n key = eq-eqb n n refl
  last_drives Undecided n key = eq-eqb n n refl
  last_drives Cancelled n key = eq-eqb n n refl
  last_drives Gone n key = eq-eqb n n refl

  pub last_takes_none : (f : Fate) (n : ℕ) (key : K) → takes_no_memory (last_message {K = K} {V = V} {A = A} {F = F} {D = D} {Q = Q} f n key) ≡ true
  last_takes_none Committed n key = refl
  last_takes_none Undecided n key = refl
  last_takes_none Cancelled n key = refl
  last_takes_none Gone n key = refl

  pub last_served : (partitions : ℕ) (f : Fate) (n : ℕ) (key : K) → is_served partitions (last_message {K = K} {V = V} {A = A} {F = F} {D = D} {Q = Q} f n key) ≡ true
  last_served partitions Committed n key = refl
  last_served partitions Undecided n key = refl
  last_served partitions Cancelled n key = refl
  last_served partitions Gone n key = refl

  last_finds : (f : Fate) (n : ℕ) (key : K) (a : Reply S) → finds_none {K = K} {V = V} {A = A} {F = F} {D = D} {Q = Q} {B = B} n (last_message f n key) a ≡ false
  last_finds Committed n key a = refl
  last_finds Undecided n key a = refl
  last_finds Cancelled n key a = refl
  last_finds Gone n key a = refl

  pub last_sent : (f : Fate) (n : ℕ) (key : K) → sent_to S (last_message f n key) ≡ Some (S.core.cell_of key)
  last_sent Committed n key = refl
  last_sent Undecided n key = refl
  last_sent Cancelled n key = refl
  last_sent Gone n key = refl

  module _ (es : History S) (d : Driver A V F) (place : ℕ) (is : IsDriver S es d) (next : IsNext d.course (last_move d.fate place)) where
    move : next_move is.told ≡ last_move d.fate place
    move = next is.told is.told_so

    turn : (is_known d.fate ≡ true) × (place ≡ is.told.done) × (is.told.done < is.told.actions)
    turn = settles d.fate is.told place (sym is.fate) move

    known : is_known is.told.fate ≡ true
    known = ap is_known (sym is.fate) ∙ turn.0

    -- the action is there
    pub some_left : 0 < length d.actions.items
    some_left =
        let below = turn.2 in
        let many = is.knows.many in
        let its = ap length is.begun.its_actions in
        let rest = ap length is.left in
        let long = length-drop is.told.done is.actions in
        omega arith

    pub settle_allowed : (pass : ℕ) (key : K) → Allowed S es pass (last_message d.fate d.number key)
    settle_allowed pass key = at_fate d.fate (sym is.fate) move
      where
        at_fate : (f : Fate) → is.told.fate ≡ f → next_move is.told ≡ last_move f place → Allowed S es pass (last_message f d.number key)
        at_fate Committed h m = may_apply S es d.number is.told is.knows pass place m key
        at_fate Undecided h m = may_release S es d.number is.told is.knows pass place m key
        at_fate Cancelled h m = may_release S es d.number is.told is.knows pass place m key
        at_fate Gone h m = may_release S es d.number is.told is.knows pass place m key

  pub done_allowed :
      (es : History S) (d : Driver A V F) (pass : ℕ) → IsDriver S es d → IsNext d.course Move.Done → Allowed S es pass (Message.Done d.number)
  done_allowed es d pass is next = may_finish S es d.number is.told is.knows pass (next is.told is.told_so)

  -- each of them leaves fewer moves
  went_less :
      (es : History S) (d : Driver A V F) (course : Course) (is : IsDriver S es d) → is.told.fate ≢ Undecided → next_move is.told ≢ Move.End
      → ((told : Told) → IsToldSo d.course told → IsToldSo course (with_done told)) → course_left course < course_left d.course
  went_less es d course is ends on so =
      let less = done_lessens is.told ends on in
      let before = left d.course is.told is.told_so in
      let after = left course (with_done is.told) (so is.told is.told_so) in
      omega arith

  pub settled_less :
      (es : History S) (d : Driver A V F) (course : Course) (place : ℕ) → IsDriver S es d → IsNext d.course (last_move d.fate place)
      → ((told : Told) → IsToldSo d.course told → IsToldSo course (with_done told)) → course_left course < course_left d.course
  settled_less es d course place is next so =
      went_less es d course is (known_decided is.told.fate (known es d place is next))
      (λ end. last_goes_on d.fate place (sym (move es d place is next) ∙ end)) so

  pub finished_less :
      (es : History S) (d : Driver A V F) (course : Course) → IsDriver S es d → IsNext d.course Move.Done
      → ((told : Told) → IsToldSo d.course told → IsToldSo course (with_done told)) → course_left course < course_left d.course
  finished_less es d course is next so =
      let move = next is.told is.told_so in
      went_less es d course is (decided_done is.told move) (λ end. (let e = sym move ∙ end in cc)) so

  module _ (law : IsServiceLawful S) where
    -- after one more of these messages
    went_on :
        (es later : History S) (e : Event S) (d new : Driver A V F) (is : IsDriver S es d) (step : IsLater S es e later) → is.told.fate ≢ Undecided
        → Knows S (e ∷ (step.newer ++ es)) d.number (with_done is.told)
        → ((told : Told) → IsToldSo d.course told → IsToldSo new.course (with_done told))
        → new.actions.items ≡ drop (with_done is.told).done is.actions → new ≡ record d { course = new.course; actions = new.actions }
        → IsDriver S later new
    went_on es later e d new is step ends knows so rest same =
        let told = is.told in
        let decided = (λ (still : (with_done told).fate ≡ Undecided). ends (sym (same_fate told) ∙ still)) in
        subst (λ h. IsDriver S h new) step.is
        (subst (IsDriver S (e ∷ (step.newer ++ es))) (sym same)
        record {
          told = with_done told;
          told_so = so told is.told_so;
          actions = is.actions;
          begun = begun_stays S law (e ∷ step.newer) es step.legal d.number d.stamp is.actions is.begun;
          knows = knows;
          left = rest;
          found = λ still. absurd (decided still);
          tables = is.tables ∙ ap (λ vs. list_any is_no_table vs) (sym (same_verdicts told));
          ready = λ cancel. absurd (no_cancel (with_done told) decided cancel);
          reasons =
              some_weaker d.reasons is.reasons
              (λ rs h. (
                same_fate told ∙ h.0,
                reasons_of_stay S law (e ∷ step.newer) es step.legal d.number (inr (is.knows.cancelled h.0)) ∙ h.1,
              ));
          fate = is.fate ∙ sym (same_fate told);
        })

    went_by :
        (es later : History S) (e : Event S) (d new : Driver A V F) (is : IsDriver S es d) (step : IsLater S es e later) → is.told.fate ≢ Undecided
        → finds_none d.number e.message e.answer ≡ false → (IsNext new.course Move.End → is_done d.number e.message ≡ true)
        → new ≡ record d { course = new.course; actions = new.actions } → (own : List (Event S)) → DrivenBy S es own d
        → DrivenBy S later (own ++ e ∷ []) new
    went_by es later e d new is step ends finds done same =
        let begun =
        subst (λ h. KnowsBegun S h d.number d.stamp is.actions) step.is
        (begun_stays S law (e ∷ step.newer) es step.legal d.number d.stamp is.actions is.begun) in
        let fate : new.fate ≡ d.fate = ap (λ (z : Driver A V F). z.fate) same in
        driven_on S es later d.stamp is.actions e d new is.begun begun (ap (λ (z : Driver A V F). z.number) same)
        (ap is_gone fate ∙ (sym (or_false (is_gone d.fate)) ∙ ap (λ b. is_gone d.fate || b) (sym finds)))
        (λ still. absurd (ends (sym is.fate ∙ (sym fate ∙ still)))) (λ _ end. done end)
        (λ place some. inl (sym (ap (λ (z : Driver A V F). z.no_table) same) ∙ some))

    module _
        (es later : History S) (p : PassView (Event S)) (cell : Option ℕ) (place : ℕ) (x : A) (key : K) (a : Reply S) (d new : Driver A V F)
        (is : IsDriver S es d) (next : IsNext d.course (last_move d.fate place)) (popped : d.actions.items ≡ x ∷ new.actions.items)
        (key_is : key ≡ S.core.key_of x) (step : IsLater S es (event_of p cell (last_message d.fate d.number key) a) later)
        (so : (told : Told) → IsToldSo d.course told → IsToldSo new.course (with_done told))
        (same : new ≡ record d { course = new.course; actions = new.actions }) where
      abbrev e : Event S
      e = event_of p cell (last_message d.fate d.number key) a

      one_more : with_done is.told ≡ record is.told { done = is.told.done + 1 }
      one_more =
          let below = (turn es d place is next).2 in
          ap (λ b. if b then record is.told { done = is.told.done + 1 } else is.told)
          (λ j. known es d place is next j && le-leb is.told.done is.told.actions (omega arith) j)

      taken : (slice_get is.actions is.told.done ≡ Some x) × (drop (suc is.told.done) is.actions ≡ new.actions.items)
      taken = first_left is.actions is.told.done x new.actions.items (sym is.left ∙ popped)

      pub settled : IsDriver S later new
      settled =
          let n = d.number in
          let past : History S = step.newer ++ es in
          let begun = begun_stays S law step.newer es step.legal.0 n d.stamp is.actions is.begun in
          let knows = told_stays S law step.newer es step.legal.0 n is.told is.knows in
          let at = (turn es d place is next).1 in
          let its : slice_get (begun_actions (effects past) n) place ≡ Some x =
          (λ j. slice_get (begun.its_actions j) (at j)) ∙ taken.0 in
          let one = ap (λ k. S.core.same k (S.core.key_of x)) key_is ∙ law.core.itself (S.core.key_of x) in
          let next_one : is.told.done + 1 ≡ suc is.told.done = omega arith in
          went_on es later e d new is step (known_decided is.told.fate (known es d place is next))
          (at_fate begun knows its one d.fate (move es d place is next) step.legal) so
          (sym taken.1 ∙ ap (λ k. drop k is.actions) (sym next_one) ∙ ap (λ (t : Told). drop t.done is.actions) (sym one_more)) same
        where
          at_fate :
              KnowsBegun S (step.newer ++ es) d.number d.stamp is.actions → Knows S (step.newer ++ es) d.number is.told
              → slice_get (begun_actions (effects (step.newer ++ es)) d.number) place ≡ Some x → S.core.same key (S.core.key_of x) ≡ true → (f : Fate)
              → next_move is.told ≡ last_move f place → IsLegal S (event_of p cell (last_message f d.number key) a ∷ (step.newer ++ es))
              → Knows S (event_of p cell (last_message f d.number key) a ∷ (step.newer ++ es)) d.number (with_done is.told)
          at_fate begun knows its one Committed m legal =
              applied S law (step.newer ++ es) p.number p.moment d.number place cell is.told x key a legal knows m its one
          at_fate begun knows its one Undecided m legal =
              released S law (step.newer ++ es) p.number p.moment d.number place cell is.told x key a legal knows m its one
          at_fate begun knows its one Cancelled m legal =
              released S law (step.newer ++ es) p.number p.moment d.number place cell is.told x key a legal knows m its one
          at_fate begun knows its one Gone m legal =
              released S law (step.newer ++ es) p.number p.moment d.number place cell is.told x key a legal knows m its one

      pub settled_by : (own : List (Event S)) → DrivenBy S es own d → DrivenBy S later (own ++ event_of p cell (last_message d.fate d.number key) a ∷ []) new
      settled_by =
          went_by es later e d new is step (known_decided is.told.fate (known es d place is next)) (last_finds d.fate d.number key a)
          (λ end.
          let none = (ended (with_done is.told)).0 (end (with_done is.told) (so is.told is.told_so)) in
          absurd (not_last is.told.fate (known es d place is next) (turn es d place is next).2
          (ap (λ (t : Told). moves_at t.fate t) (sym one_more) ∙ none))) same
        where
          not_last : (f : Fate) → is_known f ≡ true → is.told.done < is.told.actions → moves_at f (record is.told { done = is.told.done + 1 }) ≡ 0 → ⊥
          not_last Committed k below h = omega arith
          not_last Cancelled k below h = omega arith
          not_last Undecided k below h = absurd (cc)
          not_last Gone k below h = absurd (cc)

    module _
        (es later : History S) (p : PassView (Event S)) (cell : Option ℕ) (a : Reply S) (d new : Driver A V F) (is : IsDriver S es d)
        (next : IsNext d.course Move.Done) (step : IsLater S es (event_of p cell (Message.Done d.number) a) later)
        (so : (told : Told) → IsToldSo d.course told → IsToldSo new.course (with_done told)) (same : new ≡ record d { course = new.course }) where
      pub finished_on : IsDriver S later new
      finished_on =
          let move = next is.told is.told_so in
          let knows = told_stays S law step.newer es step.legal.0 d.number is.told is.knows in
          went_on es later (event_of p cell (Message.Done d.number) a) d new is step (decided_done is.told move)
          (finished S law (step.newer ++ es) p.number p.moment d.number cell is.told a step.legal knows move) so none_more (same ∙ whole)
        where
          actions : new.actions ≡ d.actions
          actions = ap (λ (z : Driver A V F). z.actions) same

          whole : record d { course = new.course } ≡ record d { course = new.course; actions = new.actions }
          whole = λ j. record d { course = new.course; actions = sym actions j }

          -- nothing is left, and so it stays
          none_more : new.actions.items ≡ drop (with_done is.told).done is.actions
          none_more =
              ap (λ (z : Driver A V F). z.actions.items) same ∙ is.left
              ∙ cond_both (is_known is.told.fate && nat_le is.told.done is.told.actions) (record is.told { done = is.told.done + 1 }) is.told
              (λ t. drop is.told.done is.actions ≡ drop t.done is.actions)
              (λ _.
              let at = (done_next is.told (next is.told is.told_so)).1 in
              let many = is.knows.many in
              let its = ap length is.begun.its_actions in
              drop_past is.told.done is.actions (omega arith) ∙ sym (drop_past (is.told.done + 1) is.actions (omega arith)))
              (λ _. refl)

      pub finished_by : (own : List (Event S)) → DrivenBy S es own d → DrivenBy S later (own ++ event_of p cell (Message.Done d.number) a ∷ []) new
      finished_by =
          went_by es later (event_of p cell (Message.Done d.number) a) d new is step (decided_done is.told (next is.told is.told_so)) refl
          (λ _. eq-eqb d.number d.number refl) (same ∙ (λ j. record d { course = new.course; actions = sym (ap (λ (z : Driver A V F). z.actions) same) j }))

    -- the whole steps
    pub settled_on :
        (p q : PassView (Event S)) (cell : Option ℕ) (place : ℕ) (x : A) (key : K) (m : Asked S) (a : Reply S) (d new : Driver A V F)
        → IsDriver S (reverse p.front) d → IsNext d.course (last_move d.fate place) → d.actions.items ≡ x ∷ new.actions.items
        → key ≡ S.core.key_of x → m ≡ last_message d.fate d.number key → IsLater S (reverse p.front) (event_of p cell m a) (reverse q.front)
        → ((told : Told) → IsToldSo d.course told → IsToldSo new.course (with_done told))
        → new ≡ record d { course = new.course; actions = new.actions } → Counts S p (event_of p cell m a ∷ []) 0 q → Advances S p d q new
    settled_on p q cell place x key m a d new is next popped key_is m_is step so same added =
        let es = reverse p.front in
        let later = reverse q.front in
        let its = subst (λ (y : Asked S). IsLater S es (event_of p cell y a) later) m_is step in
        advanced S p q (event_of p cell (last_message d.fate d.number key) a) d new (last_drives d.fate d.number key)
        (subst (λ (y : Asked S). Counts S p (event_of p cell y a ∷ []) 0 q) m_is added) (settled_less es d new.course place is next so)
        (ap (λ (z : Driver A V F). z.number) same) (settled es later p cell place x key a d new is next popped key_is its so same)
        (settled_by es later p cell place x key a d new is next popped key_is its so same)

    pub finished_all :
        (p q : PassView (Event S)) (cell : Option ℕ) (a : Reply S) (d new : Driver A V F) → IsDriver S (reverse p.front) d → IsNext d.course Move.Done
        → IsLater S (reverse p.front) (event_of p cell (Message.Done d.number) a) (reverse q.front)
        → ((told : Told) → IsToldSo d.course told → IsToldSo new.course (with_done told)) → new ≡ record d { course = new.course }
        → Counts S p (event_of p cell (Message.Done d.number) a ∷ []) 0 q → Advances S p d q new
    finished_all p q cell a d new is next step so same added =
        let es = reverse p.front in
        let later = reverse q.front in
        advanced S p q (event_of p cell (Message.Done d.number) a) d new (eq-eqb d.number d.number refl) added (finished_less es d new.course is next so)
        (ap (λ (z : Driver A V F). z.number) same) (finished_on es later p cell a d new is next step so same)
        (finished_by es later p cell a d new is next step so same)
