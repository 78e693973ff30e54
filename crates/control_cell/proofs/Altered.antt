-- A ledger in which the record of one number changed, and the state that it keeps then.
use Rattle.std.specs.Ordering.{nat_cmp, is_eq}
use Rattle.std.specs.declared.cmp.Ordering.{Ordering}
use Rattle.std.specs.declared.cmp.Ordering.TheVariants.{Less, Equal, Greater}
use Rattle.std.specs.BTreeMap.{is_at}
use Rattle.std.specs.Cmp.{nat_cmp_is}
use Rattle.std.specs.FinMap.{nat_cmp-IsAntisymmetric}
use Rattle.std.proofs.Common.{◌≡◌, ℕ, suc, ◌+◌, ◌<◌, ◌≤◌, Bool, true, false, not, ◌&&◌, nat_eq, nat_le, nat_lt, List, Option, Some, is_some, if◌then◌else◌, inl, inr, true≢false, refl, sym, ap, ◌∙◌, subst, arith}
use Rattle.std.proofs.lemmas.Bool.{cases_Bool, cond_both, eqb-true, eqb-false, eq-eqb, ltb-true, ltb-false, lt-ltb, le-leb}
use Rattle.txn_core.specs.Answers.{KeptToken, has_record}
use Rattle.txn_core.specs.declared.stamp.Stamp.{Stamp}
use Rattle.txn_core.specs.State.{Ledger, at, ledger_begun}
use Rattle.txn_ledger.specs.declared.record.Record.{Record}
use Rattle.txn_ledger.specs.declared.ledger.TxnLedger.{TxnLedger}
use Rattle.txn_ledger.specs.Changes.{Alters}
use Rattle.txn_ledger.specs.Records.{begun}
use Rattle.txn_ledger.specs.Contents.{next_of, record_at, kept_at}
use Rattle.control_cell.specs.Keeping.{token_of, IsRecordOf, IsUntouched, Keeps}

equal_is : (o : Ordering) → is_eq o ≡ true → o ≡ Equal
equal_is Less e = absurd (true≢false (sym e))
equal_is Equal e = refl
equal_is Greater e = absurd (true≢false (sym e))

-- the map's test of two numbers
pub at_is : (n m : ℕ) → is_at (nat_cmp n) m ≡ nat_eq n m
at_is n m = elim (cases_Bool (nat_eq n m)) [
  | inl e ↦ ap is_eq (sym (nat_cmp_is n m Equal (eqb-true n m e))) ∙ sym e
  | inr e ↦ elim (cases_Bool (is_at (nat_cmp n) m)) [
    | inl h ↦ absurd (eqb-false n m e (nat_cmp-IsAntisymmetric n m (equal_is (nat_cmp n m) h)))
    | inr h ↦ h ∙ sym e
  ]
]

-- a changed function, at the number where it was changed and at another
pub at_here : {X : Type 0} (f : ℕ → X) (n : ℕ) (x : X) → at f n x n ≡ x
at_here f n x = ap (λ b. if b then x else f n) (eq-eqb n n refl)

pub at_other : {X : Type 0} (f : ℕ → X) (n : ℕ) (x : X) (m : ℕ) → (n ≡ m → ⊥) → at f n x m ≡ f m
at_other f n x m ne = cond_both (nat_eq n m) x (f m) (λ y. y ≡ f m) (λ e. absurd (ne (eqb-true n m e))) (λ _. refl)

pub some_is : {X : Type 0} (x y : X) → Some x ≡ Some y → x ≡ y
some_is x y e = cc

pub both : (x y : Bool) → (x && y) ≡ true → (x ≡ true) × (y ≡ true)
both true y e = (refl, e)
both false y e = absurd (true≢false (sym e))

-- the numbers below the next one but itself
below_next : (m n : ℕ) → (n ≡ m → ⊥) → nat_lt m (suc n) ≡ nat_lt m n
below_next m n ne = elim (cases_Bool (nat_lt m n)) [
  | inl e ↦ let lt : m < n = ltb-true m n e in lt-ltb m (suc n) (omega arith) ∙ sym e
  | inr e ↦ elim (cases_Bool (nat_lt m (suc n))) [
    | inl h ↦
        let le : n ≤ m = ltb-false m n e in
        let lt : m < suc n = ltb-true m (suc n) h in
        let one : n ≡ m = omega arith in
        absurd (ne one)
    | inr h ↦ h ∙ sym e
  ]
]

-- a number that has a record was drawn
pub drawn_of : {A : Type 0} (l : Ledger A) (n : ℕ) → has_record l n ≡ true → n < l.next
drawn_of l n e = ltb-true n l.next (both (nat_lt n l.next) (not (l.gone n)) (both (nat_le 1 n) (nat_lt n l.next && not (l.gone n)) e).1).0

module _ {A Q : Type 0} where
  -- what holds of the record that changed, and of each other one, holds of every record afterwards
  pub altered :
      (old new : TxnLedger A Q) (n : ℕ) (o : Option (Record A Q)) → Alters old.records new.records n o
      → (m : ℕ) (P : Option (Record A Q) → Type 0) → (n ≡ m → P o) → ((n ≡ m → ⊥) → P (record_at old m)) → P (record_at new m)
  altered old new n o alters m P here there =
      subst P (sym (alters m ∙ ap (λ b. if b then o else record_at old m) (at_is n m)))
      (cond_both (nat_eq n m) o (record_at old m) P (λ e. here (eqb-true n m e)) (λ e. there (eqb-false n m e)))

  -- where the record stays as it was, so does each one
  pub as_before :
      (old new : TxnLedger A Q) (n : ℕ) (o : Option (Record A Q)) → Alters old.records new.records n o → o ≡ record_at old n
      → (m : ℕ) → record_at new m ≡ record_at old m
  as_before old new n o alters same m =
      altered old new n o alters m (λ x. x ≡ record_at old m) (λ e. same ∙ ap (record_at old) e) (λ _. refl)

  -- nothing became of the number
  pub record SameAt (l u : Ledger A) (rs ss : ℕ → List Q) (m : ℕ) : Type 0 where
    pub stamp : u.stamp m ≡ l.stamp m
    pub actions : u.actions m ≡ l.actions m
    pub fate : u.fate m ≡ l.fate m
    pub done : u.done m ≡ l.done m
    pub gone : u.gone m ≡ l.gone m
    pub reasons : ss m ≡ rs m

  has_same :
      (l u : Ledger A) (rs ss : ℕ → List Q) (m : ℕ) → u.next ≡ l.next → SameAt l u rs ss m → has_record l m ≡ has_record u m
  has_same l u rs ss m next s =
      let a : l.next ≡ u.next = sym next in
      let b : l.gone m ≡ u.gone m = sym s.gone in
      λ j. nat_le 1 m && (nat_lt m (a j) && not (b j))

  -- nothing became of any record
  pub like :
      (l : Ledger A) (rs ss : ℕ → List Q) (kept kept_new : List ℕ → Option (KeptToken A)) (old new : TxnLedger A Q) → Keeps l rs kept old
      → next_of new ≡ next_of old → ((m : ℕ) → record_at new m ≡ record_at old m) → ((m : ℕ) → ss m ≡ rs m)
      → ((token : List ℕ) → token_of (kept_at new token) ≡ kept_new token) → Keeps l ss kept_new new
  like l rs ss kept kept_new old new h next same reasons tokens =
      record {
        next_is = next ∙ h.next_is;
        from_one = h.from_one;
        recorded = λ m. ap is_some (same m) ∙ h.recorded m;
        records = λ m r is.
            let q = h.records m r (sym (same m) ∙ is) in
            record {
              stamp_is = q.stamp_is;
              actions_are = q.actions_are;
              fate_is = q.fate_is;
              reasons_are = q.reasons_are ∙ sym (reasons m);
              done_is = q.done_is;
            };
        undrawn = λ m past.
            let q = h.undrawn m past in
            record { undecided = q.undecided; open_yet = q.open_yet; there = q.there; no_reasons = reasons m ∙ q.no_reasons };
        gone_are_done = h.gone_are_done;
        tokens = tokens;
      }

  -- something became of a number that was drawn
  pub changed :
      (l u : Ledger A) (rs ss : ℕ → List Q) (kept kept_new : List ℕ → Option (KeptToken A)) (old new : TxnLedger A Q) (n : ℕ)
      (o : Option (Record A Q)) → Keeps l rs kept old → n < l.next → next_of new ≡ next_of old → u.next ≡ l.next
      → Alters old.records new.records n o → ((m : ℕ) → (n ≡ m → ⊥) → SameAt l u rs ss m) → is_some o ≡ has_record u n
      → ((r : Record A Q) → o ≡ Some r → IsRecordOf u (ss n) n r) → (u.gone n ≡ true → u.done n ≡ true)
      → ((token : List ℕ) → token_of (kept_at new token) ≡ kept_new token) → Keeps u ss kept_new new
  changed l u rs ss kept kept_new old new n o h below next unext alters same there is done tokens =
      record {
        next_is = next ∙ h.next_is ∙ sym unext;
        from_one = subst (λ x. 1 ≤ x) (sym unext) h.from_one;
        recorded = λ m.
            altered old new n o alters m (λ x. is_some x ≡ has_record u m) (λ e. subst (λ k. is_some o ≡ has_record u k) e there)
            (λ ne. h.recorded m ∙ has_same l u rs ss m unext (same m ne));
        records = λ m.
            altered old new n o alters m (λ x. (r : Record A Q) → x ≡ Some r → IsRecordOf u (ss m) m r)
            (λ e. subst (λ k. (r : Record A Q) → o ≡ Some r → IsRecordOf u (ss k) k r) e is)
            (λ ne r found.
            let q = h.records m r found in
            let s = same m ne in
            record {
              stamp_is = q.stamp_is ∙ sym s.stamp;
              actions_are = q.actions_are ∙ sym s.actions;
              fate_is = q.fate_is ∙ sym s.fate;
              reasons_are = q.reasons_are ∙ sym s.reasons;
              done_is = q.done_is ∙ sym s.done;
            });
        undrawn = λ m past.
            let before : l.next ≤ m = subst (λ x. x ≤ m) unext past in
            let q = h.undrawn m before in
            let s = same m (λ e. let one : n ≡ m = e in absurd (omega arith)) in
            record {
              undecided = s.fate ∙ q.undecided;
              open_yet = s.done ∙ q.open_yet;
              there = s.gone ∙ q.there;
              no_reasons = s.reasons ∙ q.no_reasons;
            };
        gone_are_done = λ m gone. elim (cases_Bool (nat_eq n m)) [
          | inl e ↦ subst (λ k. u.gone k ≡ true → u.done k ≡ true) (eqb-true n m e) done gone
          | inr e ↦ let s = same m (eqb-false n m e) in s.done ∙ h.gone_are_done m (sym s.gone ∙ gone)
        ];
        tokens = tokens;
      }

  -- a transaction was begun
  pub began :
      (l : Ledger A) (rs : ℕ → List Q) (kept kept_new : List ℕ → Option (KeptToken A)) (old new : TxnLedger A Q) (stamp : Stamp)
      (actions : List A) (own : Option (List ℕ)) → Keeps l rs kept old → next_of new ≡ next_of old + 1
      → Alters old.records new.records (next_of old) (Some (begun stamp actions own))
      → ((token : List ℕ) → token_of (kept_at new token) ≡ kept_new token) → Keeps (ledger_begun l stamp actions) rs kept_new new
  began l rs kept kept_new old new stamp actions own h next alters tokens =
      let r : Record A Q = begun stamp actions own in
      let u : Ledger A = ledger_begun l stamp actions in
      let n : ℕ = next_of old in
      let drawn : n ≡ l.next = h.next_is in
      let fresh : IsUntouched l (rs n) n = h.undrawn n (omega arith) in
      let some : 1 ≤ n = (let a = h.from_one in omega arith) in
      let lt : n < suc l.next = omega arith in
      let there : true ≡ has_record u n =
      (λ j. sym (le-leb 1 n some) j && (sym (lt-ltb n (suc l.next) lt) j && not (sym fresh.there j))) in
      record {
        next_is = (let a = next in omega arith);
        from_one = (let a = h.from_one in omega arith);
        recorded = λ m.
            altered old new n (Some r) alters m (λ x. is_some x ≡ has_record u m)
            (λ e. subst (λ k. true ≡ has_record u k) e there)
            (λ ne. h.recorded m ∙ (λ j. nat_le 1 m && (sym (below_next m l.next (λ e. ne (drawn ∙ e))) j && not (l.gone m))));
        records = λ m.
            altered old new n (Some r) alters m (λ x. (q : Record A Q) → x ≡ Some q → IsRecordOf u (rs m) m q)
            (λ e q is.
            subst (λ k. IsRecordOf u (rs k) k q) e
            (subst (λ z. IsRecordOf u (rs n) n z) (some_is r q is)
            (record {
              stamp_is = sym (ap (λ k. at l.stamp k stamp n) (sym drawn) ∙ at_here l.stamp n stamp);
              actions_are = sym (ap (λ k. at l.actions k actions n) (sym drawn) ∙ at_here l.actions n actions);
              fate_is = sym fresh.undecided;
              reasons_are = sym fresh.no_reasons;
              done_is = sym fresh.open_yet;
            })))
            (λ ne q found.
            let old_record = h.records m q found in
            let apart : l.next ≡ m → ⊥ = λ e. ne (drawn ∙ e) in
            record {
              stamp_is = old_record.stamp_is ∙ sym (at_other l.stamp l.next stamp m apart);
              actions_are = old_record.actions_are ∙ sym (at_other l.actions l.next actions m apart);
              fate_is = old_record.fate_is;
              reasons_are = old_record.reasons_are;
              done_is = old_record.done_is;
            });
        undrawn = λ m past.
            let before : l.next ≤ m = omega arith in
            let q = h.undrawn m before in
            record { undecided = q.undecided; open_yet = q.open_yet; there = q.there; no_reasons = q.no_reasons };
        gone_are_done = h.gone_are_done;
        tokens = tokens;
      }
