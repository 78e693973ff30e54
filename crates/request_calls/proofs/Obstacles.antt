-- What a pass met among its own entries, and what stood in the way of a transaction.
use Rattle.std.specs.List.{list_any, list_all}
use Rattle.std.proofs.Common.{◌≡◌, ◌≢◌, ◌⊎◌, inl, inr, ℕ, zero, suc, Bool, true, false, cond, ◌==◌, nat_eq, List, [], ◌∷◌, ◌++◌, length, reverse, Any, Option, None, Some, is_some, if◌then◌else◌, subst₂, refl, sym, ap, ◌∙◌, subst, arith}
use Rattle.std.proofs.lemmas.Bool.{and_parts, and_from, cond_both, or_cases, or_left, eqb-false}
use Rattle.std.proofs.lemmas.List.{append_cancel_left, reverse-append}
use Rattle.std.proofs.lemmas.List.Folds.{list_any-append, list_any-from_Any}
use Rattle.attr_value.specs.Tree.{Attributes}
use Rattle.update_eval.specs.declared.fault.EvalFault.{EvalFault}
use Rattle.turnstile.specs.Histories.{Has, own, Trail}
use Rattle.turnstile.specs.Passes.{PassView}
use Rattle.turnstile.proofs.Basics.{Has_front, Has_back}
use Rattle.txn_core.specs.declared.message.Message.{Message}
use Rattle.txn_core.specs.declared.answer.Answer.{Answer}
use Rattle.txn_core.specs.declared.reason.Reason.{Reason}
use Rattle.txn_core.specs.declared.stamp.Stamp.{Stamp}
use Rattle.txn_core.specs.Answers.{KeptToken, begin_answer}
use Rattle.txn_core.specs.History.{Had, finds_no_table, is_stale, reason_of, found_kept}
use Rattle.txn_core.specs.Legal.{prepares, AreTold, IsAnswer, IsLegal}
use Rattle.txn_core.proofs.Basics.{true_false}
use Rattle.txn_core.proofs.Exports.{had_more, had_stays, follows_at}
use Rattle.cluster.specs.Events.{pass_of}
use Rattle.txn_reader.specs.declared.item_version.ItemVersion.{ItemVersion}
use Rattle.txn_reader.specs.Reads.{reads, round}
use Rattle.txn_reader.specs.Reasons.{reason_by, reasons_of as read_reasons}
use Rattle.cell_model.specs.declared.key.CellKey.{CellKey}
use Rattle.cell_model.specs.Actions.{ItemAction}
use Rattle.cell_model.specs.Service.{service}
use Rattle.cell_model.proofs.Exact.{same_actions_decide}
use Rattle.table_history.specs.Entries.{TableMessage, TableAnswer, TableEvent}
use Rattle.request_calls.specs.Complete.{in_the_way, is_own, Meets, FoundVersion, FoundTwo, stops}
use Rattle.request_calls.proofs.Counted.{Counted}

-- ---- own entries

-- what a call met among what it counted
abbrev pub Found : (List TableEvent → Type 0) → ℕ → PassView TableEvent → PassView TableEvent → Type 0
Found P n p q = (c : Counted n p q) × P c.own

-- between two moments of a pass there is one list of them
pub same_own : (n : ℕ) (p q : PassView TableEvent) (c d : Counted n p q) → c.own ≡ d.own
same_own n p q c d =
    let t = c.added.trail in
    let u = d.added.trail in
    sym t.mine ∙ ap (own pass_of p.number) (append_cancel_left p.front t.rest u.rest (t.is ∙ sym u.is)) ∙ u.mine

pub had_before : (test : TableMessage → TableAnswer → Bool) (xs ys : List TableEvent) → Had test xs → Had test (xs ++ ys)
had_before test xs ys h =
    list_any-append (λ e. test e.message e.answer) xs ys ∙ or_left _ _ h

-- what passes one test passes another
pub had_as : (test other : TableMessage → TableAnswer → Bool) → ((m : TableMessage) (a : TableAnswer) → test m a ≡ true → other m a ≡ true)
    → (es : List TableEvent) → Had test es → Had other es
had_as test other so [] h = absurd (cc)
had_as test other so (e ∷ es) h = elim (or_cases (test e.message e.answer) (list_any (λ x. test x.message x.answer) es) h) [
  | inl now ↦ or_left _ _ (so e.message e.answer now)
  | inr older ↦ had_more other e es (had_as test other so es older)
]

pub had_has : (test : TableMessage → TableAnswer → Bool) (es : List TableEvent) (e : TableEvent) → Has es e → test e.message e.answer ≡ true → Had test es
had_has test [] e has h = absurd has
had_has test (x ∷ es) e (inl is) h = or_left _ _ (ap (λ (y : TableEvent). test y.message y.answer) is ∙ h)
had_has test (x ∷ es) e (inr has) h = had_more test x es (had_has test es e has h)

-- an own entry is one of the history
has_of : (by : ℕ) (es : List TableEvent) (e : TableEvent) → Has (own pass_of by es) e → Has es e
has_of by [] e has = absurd has
has_of by (x ∷ es) e has = by_test (pass_of x == by) has (λ h. has_of by es e h)
  where
    by_test : (b : Bool) → Has (cond b (x ∷ own pass_of by es) (own pass_of by es)) e → (Has (own pass_of by es) e → Has es e) → Has (x ∷ es) e
    by_test true (inl is) more = inl is
    by_test true (inr has) more = inr (more has)
    by_test false has more = inr (more has)

-- what stands in a list stands between two parts of it
pub record Stands (es : List TableEvent) (e : TableEvent) : Type 0 where
  pub newer : List TableEvent
  pub older : List TableEvent
  pub is : newer ++ e ∷ older ≡ es

stands_at : (es : List TableEvent) (e : TableEvent) → Has es e → Stands es e
stands_at [] e has = absurd has
stands_at (x ∷ es) e (inl is) = record { newer = []; older = es; is = ap (λ y. y ∷ es) (sym is) }
stands_at (x ∷ es) e (inr has) = let s = stands_at es e has in record { newer = x ∷ s.newer; older = s.older; is = ap (λ l. x ∷ l) s.is }

has_reversed : (es : List TableEvent) (e : TableEvent) → Has es e → Has (reverse es) e
has_reversed es e has =
    let s = stands_at es e has in
    subst (λ l. Has l e) (sym (reverse-append s.newer (e ∷ s.older)) ∙ ap reverse s.is) (Has_front (reverse (e ∷ s.older)) (reverse s.newer) e (last e s.older))
  where
    last : (x : TableEvent) (xs : List TableEvent) → Has (reverse (x ∷ xs)) x
    last x xs = subst (λ l. Has l x) (sym (reverse-append (x ∷ []) xs)) (Has_back (reverse xs) (x ∷ []) x (inl refl))

pub own_stands : (by : ℕ) (old added new : List TableEvent) → Trail pass_of by old added new → (e : TableEvent) → Has added e → Stands (reverse new) e
own_stands by old added new t e has =
    stands_at (reverse new) e
    (has_reversed new e (subst (λ l. Has l e) t.is (Has_back old t.rest e (has_of by t.rest e (subst (λ l. Has l e) (sym t.mine) has)))))

-- ---- reasons of a cancel

module _ (number : ℕ) where
  own_by : (given r : Reason Attributes EvalFault) → Some given ≡ Some r → is_own given ≡ true → is_own r ≡ true
  own_by given r same its = let one : given ≡ r = cc in sym (ap is_own one) ∙ its

  -- a reason that is none of the tables' own is what an answer met
  met_by : (a : TableAnswer) (r : Reason Attributes EvalFault) → reason_of a ≡ Some r → is_own r ≡ false → in_the_way a ≡ true
  met_by Answer.Accepted r told other = absurd (true_false (is_own r) (own_by Reason.None r told refl) other)
  met_by (Answer.Held m) r told other = refl
  met_by (Answer.Late stamp) r told other = refl
  met_by (Answer.CondFalse old) r told other = absurd (true_false (is_own r) (own_by (Reason.ConditionFalse old) r told refl) other)
  met_by (Answer.Invalid fault) r told other = absurd (true_false (is_own r) (own_by (Reason.Invalid fault) r told refl) other)
  met_by _ r told other = absurd (cc)

  stopped_by : (n : ℕ) (k : CellKey) (m : TableMessage) (a : TableAnswer) (r : Reason Attributes EvalFault) → prepares (service n) number k m ≡ true
      → reason_of a ≡ Some r → is_own r ≡ false → stops number m a ≡ true
  stopped_by n k (Message.Prepare j stamp action) a r its told other =
      and_from (nat_eq j number) (in_the_way a) (and_parts (nat_eq j number) ((service n).core.same ((service n).core.key_of action) k) its).0 (met_by a r told other)
  stopped_by n k _ a r its told other = absurd (cc)

  -- the reasons of a cancel are all the tables' own, or a Prepare met what stood in its way
  pub own_or_stopped : (n : ℕ) (es : List TableEvent) (actions : List ItemAction) (reasons : List (Reason Attributes EvalFault))
      → AreTold (service n) es number actions reasons → (list_all is_own reasons ≡ true) ⊎ Had (stops number) es
  own_or_stopped n es [] [] told = inl refl
  own_or_stopped n es [] (r ∷ reasons) told = absurd told
  own_or_stopped n es (x ∷ actions) [] told = absurd told
  own_or_stopped n es (x ∷ actions) (r ∷ reasons) told = by_first (is_own r) refl (own_or_stopped n es actions reasons told.1)
    where
      by_first : (b : Bool) → is_own r ≡ b → (list_all is_own reasons ≡ true) ⊎ Had (stops number) es
          → (list_all is_own (r ∷ reasons) ≡ true) ⊎ Had (stops number) es
      by_first true is (inl all) = inl (and_from (is_own r) (list_all is_own reasons) is all)
      by_first true is (inr met) = inr met
      by_first false is rest =
          let (k, e, lt, at, it) = told.0 in
          inr (list_any-from_Any (λ x. stops number x.message x.answer) es (k, e, lt, at, stopped_by n ((service n).core.key_of x) e.message e.answer r it.0 it.1 is))

  stale_stops : (m : TableMessage) (a : TableAnswer) → finds_no_table number m a ≡ true → stops number m a ≡ true
  stale_stops (Message.Prepare j stamp action) a is =
      let parts = and_parts (nat_eq j number) (is_stale a) is in
      and_from (nat_eq j number) (in_the_way a) parts.0 (stale_met a parts.1)
    where
      stale_met : (a : TableAnswer) → is_stale a ≡ true → in_the_way a ≡ true
      stale_met Answer.Stale is = refl
      stale_met _ is = absurd (cc)
  stale_stops _ a is = absurd (cc)

  pub gone_stops : (es : List TableEvent) → Had (finds_no_table number) es → Had (stops number) es
  gone_stops es had = had_as (finds_no_table number) (stops number) stale_stops es had

-- ---- reads at two points

differ : (b : Bool) (v w : ℕ) → nat_eq v w ≡ b → (let r : Reason Attributes EvalFault = if b then Reason.None else Reason.Moved v w in r ≢ Reason.None) → v ≢ w
differ true v w is other same = other refl
differ false v w is other same = eqb-false v w is same

-- what was found among some entries was found among more
found_in : (xs ys : List TableEvent) (key : CellKey) (v : ℕ) → ((e : TableEvent) → Has xs e → Has ys e) → FoundVersion xs key v → FoundVersion ys key v
found_in xs ys key v more f =
    record { entry = f.entry; has = more f.entry f.has; message = f.message; item = f.item; holder = f.holder; answer = f.answer }

module _ (n : ℕ) (p : PassView TableEvent) where
  -- the first reads met it, or the second ones; or they found two versions
  pub data ReadsMeet (one two : List TableEvent) : Type 0 where
    first_met : Meets one → ReadsMeet one two
    second_met : Meets two → ReadsMeet one two
    two_found : (key : CellKey) (v w : ℕ) → FoundVersion one key v → FoundVersion two key w → v ≢ w → ReadsMeet one two

  meet_more : (x y : TableEvent) (one two : List TableEvent) → ReadsMeet one two → ReadsMeet (x ∷ one) (y ∷ two)
  meet_more x y one two (first_met h) = first_met (had_more (λ m a. in_the_way a) x one h)
  meet_more x y one two (second_met h) = second_met (had_more (λ m a. in_the_way a) y two h)
  meet_more x y one two (two_found key v w f g other) = two_found key v w (found_in one (x ∷ one) key v (λ e h. inr h) f) (found_in two (y ∷ two) key w (λ e h. inr h) g) other

  reads_now : (key : CellKey) (keys : List CellKey) (x y : ItemVersion Attributes) (first second : List (ItemVersion Attributes)) (held other : Option ℕ)
      → x.held ≡ held → y.held ≡ other
      → (let r : Reason Attributes EvalFault = reason_by held other x.version y.version in r ≢ Reason.None)
      → ReadsMeet (round (service n) p (key ∷ keys) (x ∷ first)) (round (service n) p (key ∷ keys) (y ∷ second))
  reads_now key keys x y first second (Some number) other is its real =
      first_met (or_left _ _ (ap (λ h. in_the_way (let a : TableAnswer = Answer.Version x.item x.version h in a)) is))
  reads_now key keys x y first second None (Some number) is its real =
      second_met (or_left _ _ (ap (λ h. in_the_way (let a : TableAnswer = Answer.Version y.item y.version h in a)) its))
  reads_now key keys x y first second None None is its real =
      two_found key x.version y.version
      (record { entry = reads (service n) p key x; has = inl refl; message = refl; item = x.item; holder = x.held; answer = refl })
      (record { entry = reads (service n) p key y; has = inl refl; message = refl; item = y.item; holder = y.held; answer = refl })
      (differ (nat_eq x.version y.version) x.version y.version refl real)

  pub reads_meet : (keys : List CellKey) (first second : List (ItemVersion Attributes)) → length first ≡ length keys → length second ≡ length keys
      → Any (λ (r : Reason Attributes EvalFault). r ≢ Reason.None) (read_reasons first second)
      → ReadsMeet (round (service n) p keys first) (round (service n) p keys second)
  reads_meet [] [] second long other (k, y, lt, is, real) = absurd (omega arith)
  reads_meet [] (x ∷ first) second long other any = absurd (omega arith)
  reads_meet (key ∷ keys) [] second long other any = absurd (omega arith)
  reads_meet (key ∷ keys) (x ∷ first) [] long other any = absurd (omega arith)
  reads_meet (key ∷ keys) (x ∷ first) (y ∷ second) long other (zero, r, lt, is, real) =
      reads_now key keys x y first second x.held y.held refl refl (subst (λ (r : Reason Attributes EvalFault). r ≢ Reason.None) (sym is) real)
  reads_meet (key ∷ keys) (x ∷ first) (y ∷ second) long other (suc k, r, lt, is, real) =
      meet_more (reads (service n) p key x) (reads (service n) p key y) (round (service n) p keys first) (round (service n) p keys second)
      (reads_meet keys first second (omega arith) (omega arith) (k, r, omega arith, is, real))

-- so it is of all own entries
pub both_meet : (n : ℕ) (p : PassView TableEvent) (before one two : List TableEvent) → ReadsMeet n p one two
    → Meets (before ++ (one ++ two)) ⊎ FoundTwo (before ++ (one ++ two))
both_meet n p before one two (first_met h) = inl (had_stays (λ m a. in_the_way a) before (one ++ two) (had_before (λ m a. in_the_way a) one two h))
both_meet n p before one two (second_met h) = inl (had_stays (λ m a. in_the_way a) before (one ++ two) (had_stays (λ m a. in_the_way a) one two h))
both_meet n p before one two (two_found key v w f g other) =
    inr (record {
      key = key;
      first = v;
      second = w;
      one = found_in one (before ++ (one ++ two)) key v (λ e h. Has_back before (one ++ two) e (Has_front one two e h)) f;
      two = found_in two (before ++ (one ++ two)) key w (λ e h. Has_back before (one ++ two) e (Has_back one two e h)) g;
      differ = other;
    })

-- ---- a token that lives with other actions

pub record LivesApart (es : List TableEvent) (token : Option (List ℕ)) (actions : List ItemAction) : Type 0 where
  pub newer : List TableEvent
  pub entry : TableEvent
  pub older : List TableEvent
  pub there : newer ++ entry ∷ older ≡ es
  pub message : entry.message ≡ Message.Begin token actions
  pub kept : KeptToken ItemAction
  pub found : found_kept older entry.moment token ≡ Some kept
  pub other : kept.actions ≢ actions

-- what a Begin that is answered with a mismatch found
mismatch_by : (n : ℕ) (there : Bool) (o : Option (KeptToken ItemAction)) (actions : List ItemAction) (stamp : Stamp) (m : ℕ)
    → (let a : TableAnswer = Answer.Mismatch m in a) ≡ begin_answer (service n).same_actions there o actions stamp
    → (kept : KeptToken ItemAction) × (o ≡ Some kept) × ((service n).same_actions kept.actions actions ≡ false)
mismatch_by n false o actions stamp m is = absurd (cc)
mismatch_by n true None actions stamp m is = absurd (cc)
mismatch_by n true (Some kept) actions stamp m is = by_test ((service n).same_actions kept.actions actions) refl
  where
    by_test : (b : Bool) → (service n).same_actions kept.actions actions ≡ b
        → (found : KeptToken ItemAction) × (Some kept ≡ Some found) × ((service n).same_actions found.actions actions ≡ false)
    by_test false other = (kept, refl, other)
    by_test true same =
        absurd (cond_both (is_some kept.completed) (let a : TableAnswer = Answer.Repeat kept.number in a) (Answer.Running kept.number)
        (λ (a : TableAnswer). (let b : TableAnswer = Answer.Mismatch m in b) ≡ a → ⊥) (λ _ e. cc) (λ _ e. cc)
        (is ∙ ap (λ b. if b then (if is_some kept.completed then (let a : TableAnswer = Answer.Repeat kept.number in a) else Answer.Running kept.number) else Answer.Mismatch kept.number) same))

pub lives_apart : (n : ℕ) (es : List TableEvent) → IsLegal (service n) es → (token : Option (List ℕ)) (actions : List ItemAction) (m : ℕ) (e : TableEvent)
    → Stands es e → e.message ≡ Message.Begin token actions → e.answer ≡ Answer.Mismatch m → LivesApart es token actions
lives_apart n es legal token actions m e s message answer =
    let follows = follows_at (service n) s.newer e s.older (subst (IsLegal (service n)) (sym s.is) legal) in
    let is = subst₂ (λ (x : TableMessage) (a : TableAnswer). IsAnswer (service n) s.older e.moment x a) message answer follows.answer in
    let (kept, found, other) = mismatch_by n _ (found_kept s.older e.moment token) actions _ m is in
    record {
      newer = s.newer;
      entry = e;
      older = s.older;
      there = s.is;
      message = message;
      kept = kept;
      found = found;
      other = λ same. true_false ((service n).same_actions kept.actions actions) ((same_actions_decide kept.actions actions).1 same) other;
    }
