-- What the state holds, read off the list of effects.
use Rattle.std.proofs.Common.{◌≡◌, ℕ, ◌+◌, Bool, true, false, ◌&&◌, ◌||◌, nat_eq, List, [], ◌∷◌, if◌then◌else◌, refl, sym, ap, ◌∙◌}
use Rattle.std.proofs.lemmas.Bool.{eqb-true, cond_both}
use Rattle.txn_core.specs.declared.fate.Fate.{Fate}
use Rattle.txn_core.specs.declared.fate.Fate.TheVariants.{Undecided, Committed, Cancelled, Gone}
use Rattle.txn_core.specs.Protocol.{after, Protocol}
use Rattle.txn_core.specs.Effects.{Effect, Wrote, Begun, Prepared, Commits, Cancels, Applied, Released, Changed}
use Rattle.txn_core.specs.State.{Spot, on_item, after_action, at, kept_or, spot_wrote, spot_applied, here, state_after}
use Rattle.txn_core.specs.Runs.{IsRun}
use Rattle.txn_core.specs.Serial.{begun_stamp, begun_actions, is_committed, decisions, serial, catalog_of, tables, is_applied, before}

-- a field that is the same in both cases
in_both : {X Y : Type 0} (f : X → Y) (b : Bool) (x y : X) (z : Y) → f x ≡ z → f y ≡ z → f (if b then x else y) ≡ z
in_both f b x y z p r = cond_both b x y (λ s. f s ≡ z) (λ _. p) (λ _. r)

through : {X Y : Type 0} (f : X → Y) (b : Bool) (x y : X) → f (if b then x else y) ≡ (if b then f x else f y)
through f true x y = refl
through f false x y = refl

or_cond : (b x y : Bool) → x ≡ y → (if b then true else x) ≡ (b || y)
or_cond true x y e = refl
or_cond false x y e = e

abbrev pub is_commit : Fate → Bool
is_commit Committed = true
is_commit _ = false

pub is_commit-true : (f : Fate) → is_commit f ≡ true → f ≡ Committed
is_commit-true Committed e = refl
is_commit-true Undecided e = absurd (cc)
is_commit-true Cancelled e = absurd (cc)
is_commit-true Gone e = absurd (cc)

-- how often a number of this fate was decided
abbrev pub decided_count : Fate → ℕ
decided_count Undecided = 0
decided_count _ = 1

module _ {K V A F C D : Type 0} (P : Protocol K V A F C D) where
  pub catalog_read : (es : List (Effect K A D)) → (state_after P es).catalog ≡ catalog_of P (serial es)
  catalog_read [] = refl
  catalog_read (Changed d moment ∷ es) = ap (λ c. P.change d moment c) (catalog_read es)
  catalog_read (Wrote a moment ∷ es) = catalog_read es
  catalog_read (Commits n ∷ es) = catalog_read es
  catalog_read (_ ∷ es) = catalog_read es

  pub actions_read : (es : List (Effect K A D)) → IsRun P es → (n : ℕ) → (state_after P es).ledger.actions n ≡ begun_actions es n
  actions_read [] run n = refl
  actions_read (Begun stamp actions ∷ es) run n = λ i. if nat_eq (sym run.1 i) n then actions else actions_read es run.0 n i
  actions_read (_ ∷ es) run n = actions_read es run.0 n

  pub stamp_read : (es : List (Effect K A D)) → IsRun P es → (n : ℕ) → (state_after P es).ledger.stamp n ≡ begun_stamp es n
  stamp_read [] run n = refl
  stamp_read (Begun stamp actions ∷ es) run n = λ i. if nat_eq (sym run.1 i) n then stamp else stamp_read es run.0 n i
  stamp_read (_ ∷ es) run n = stamp_read es run.0 n

  pub fate_read : (es : List (Effect K A D)) → IsRun P es → (n : ℕ) → is_commit ((state_after P es).ledger.fate n) ≡ is_committed es n
  fate_read [] run n = refl
  fate_read (Commits m ∷ es) run n =
      cond_both (nat_eq m n) Committed ((state_after P es).ledger.fate n) (λ x. is_commit x ≡ (nat_eq m n || is_committed es n))
      (λ e. sym (ap (λ b. b || is_committed es n) e))
      (λ e. fate_read es run.0 n ∙ sym (ap (λ b. b || is_committed es n) e))
  fate_read (Cancels m ∷ es) run n =
      cond_both (nat_eq m n) Cancelled ((state_after P es).ledger.fate n) (λ x. is_commit x ≡ is_committed es n)
      (λ e. sym (ap is_commit run.1.1) ∙ ap (λ k. is_commit ((state_after P es).ledger.fate k)) (eqb-true m n e) ∙ fate_read es run.0 n)
      (λ e. fate_read es run.0 n)
  fate_read (_ ∷ es) run n = fate_read es run.0 n

  pub decisions_read : (es : List (Effect K A D)) → IsRun P es → (n : ℕ) → decisions es n ≡ decided_count ((state_after P es).ledger.fate n)
  decisions_read [] run n = refl
  decisions_read (Commits m ∷ es) run n =
      cond_both (nat_eq m n) (decisions es n + 1) (decisions es n) (λ x. x ≡ decided_count (at (state_after P es).ledger.fate m Committed n))
      (λ e. let before : decisions es n ≡ 0 = decisions_read es run.0 n ∙ ap (λ k. decided_count ((state_after P es).ledger.fate k)) (sym (eqb-true m n e)) ∙ ap decided_count run.1.first in
      ap (λ k. k + 1) before ∙ sym (ap (λ b. decided_count (if b then Committed else (state_after P es).ledger.fate n)) e))
      (λ e. decisions_read es run.0 n ∙ sym (ap (λ b. decided_count (if b then Committed else (state_after P es).ledger.fate n)) e))
  decisions_read (Cancels m ∷ es) run n =
      cond_both (nat_eq m n) (decisions es n + 1) (decisions es n) (λ x. x ≡ decided_count (at (state_after P es).ledger.fate m Cancelled n))
      (λ e. let before : decisions es n ≡ 0 = decisions_read es run.0 n ∙ ap (λ k. decided_count ((state_after P es).ledger.fate k)) (sym (eqb-true m n e)) ∙ ap decided_count run.1.1 in
      ap (λ k. k + 1) before ∙ sym (ap (λ b. decided_count (if b then Cancelled else (state_after P es).ledger.fate n)) e))
      (λ e. decisions_read es run.0 n ∙ sym (ap (λ b. decided_count (if b then Cancelled else (state_after P es).ledger.fate n)) e))
  decisions_read (_ ∷ es) run n = decisions_read es run.0 n

  pub applied_read : (es : List (Effect K A D)) (q : K) (n : ℕ) → ((state_after P es).spot q).applied n ≡ is_applied P es q n
  applied_read [] q n = refl
  applied_read (Wrote a moment ∷ es) q n = in_both (λ (s : Spot V). s.applied n) (P.same (P.key_of a) q) _ ((state_after P es).spot q) (is_applied P es q n) (applied_read es q n) (applied_read es q n)
  applied_read (Prepared m stamp a ∷ es) q n = in_both (λ (s : Spot V). s.applied n) (P.same (P.key_of a) q) _ ((state_after P es).spot q) (is_applied P es q n) (applied_read es q n) (applied_read es q n)
  applied_read (Released m k ∷ es) q n = in_both (λ (s : Spot V). s.applied n) (P.same k q) _ ((state_after P es).spot q) (is_applied P es q n) (applied_read es q n) (applied_read es q n)
  applied_read (Applied m k ∷ es) q n =
      cond_both (P.same k q) (spot_applied (here P (state_after P es) k) m ((state_after P es).spot q)) ((state_after P es).spot q) (λ s. s.applied n ≡ ((P.same k q && nat_eq m n) || is_applied P es q n))
      (λ e. or_cond (nat_eq m n) (((state_after P es).spot q).applied n) (is_applied P es q n) (applied_read es q n) ∙ sym (ap (λ b. (b && nat_eq m n) || is_applied P es q n) e))
      (λ e. applied_read es q n ∙ sym (ap (λ b. (b && nat_eq m n) || is_applied P es q n) e))
  applied_read (_ ∷ es) q n = applied_read es q n

  pub tab_read : (es : List (Effect K A D)) → IsRun P es → (q : K) → ((state_after P es).spot q).tab ≡ tables P (serial es) q
  tab_read [] run q = refl
  tab_read (Wrote a moment ∷ es) run q =
      through (λ (s : Spot V). s.tab) (P.same (P.key_of a) q) (spot_wrote P (state_after P es).catalog (here P (state_after P es) (P.key_of a)) a moment ((state_after P es).spot q)) ((state_after P es).spot q)
      ∙ (λ i. if P.same (P.key_of a) q then after (P.act (catalog_read es i) a (tab_read es run.0 q i)) (tab_read es run.0 q i) else tab_read es run.0 q i)
  tab_read (Prepared m stamp a ∷ es) run q = in_both (λ (s : Spot V). s.tab) (P.same (P.key_of a) q) _ ((state_after P es).spot q) (tables P (serial es) q) (tab_read es run.0 q) (tab_read es run.0 q)
  tab_read (Released m k ∷ es) run q = in_both (λ (s : Spot V). s.tab) (P.same k q) _ ((state_after P es).spot q) (tables P (serial es) q) (tab_read es run.0 q) (tab_read es run.0 q)
  tab_read (Applied m k ∷ es) run q = in_both (λ (s : Spot V). s.tab) (P.same k q) _ ((state_after P es).spot q) (tables P (serial es) q) (tab_read es run.0 q) (tab_read es run.0 q)
  tab_read (Commits n ∷ es) run q = λ i. after_action P (catalog_read es i) (on_item P (actions_read es run.0 n i) q) (tab_read es run.0 q i)
  tab_read (Changed d moment ∷ es) run q =
      λ i. kept_or (P.there (catalog_read es i) q) (P.there (P.change d moment (catalog_read es i)) q) (tab_read es run.0 q i) (P.adds d (catalog_read es i) q)
  tab_read (_ ∷ es) run q = tab_read es run.0 q

  pub base_read : (es : List (Effect K A D)) → IsRun P es → (q : K) (n : ℕ) → ((state_after P es).spot q).base n ≡ before P es n q
  base_read [] run q n = refl
  base_read (Wrote a moment ∷ es) run q n = in_both (λ (s : Spot V). s.base n) (P.same (P.key_of a) q) _ ((state_after P es).spot q) (before P es n q) (base_read es run.0 q n) (base_read es run.0 q n)
  base_read (Prepared m stamp a ∷ es) run q n = in_both (λ (s : Spot V). s.base n) (P.same (P.key_of a) q) _ ((state_after P es).spot q) (before P es n q) (base_read es run.0 q n) (base_read es run.0 q n)
  base_read (Released m k ∷ es) run q n = in_both (λ (s : Spot V). s.base n) (P.same k q) _ ((state_after P es).spot q) (before P es n q) (base_read es run.0 q n) (base_read es run.0 q n)
  base_read (Applied m k ∷ es) run q n = in_both (λ (s : Spot V). s.base n) (P.same k q) _ ((state_after P es).spot q) (before P es n q) (base_read es run.0 q n) (base_read es run.0 q n)
  base_read (Commits m ∷ es) run q n = λ i. if nat_eq m n then tab_read es run.0 q i else base_read es run.0 q n i
  base_read (_ ∷ es) run q n = base_read es run.0 q n
