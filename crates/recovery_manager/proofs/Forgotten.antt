-- A number that was begun and has no record was forgotten.
use Rattle.std.proofs.Common.{◌≡◌, ◌⊎◌, inl, inr, ℕ, Bool, true, false, ◌&&◌, ◌||◌, nat_eq, List, [], ◌∷◌, refl, ap, eq-eqb}
use Rattle.std.specs.List.{list_any}
use Rattle.std.proofs.lemmas.Bool.{and_parts, or_cases, or_right}
use Rattle.txn_core.specs.declared.stamp.Stamp.{Stamp}
use Rattle.txn_core.specs.declared.fate.Fate.{Fate}
use Rattle.txn_core.specs.declared.reason.Reason.{Reason}
use Rattle.txn_core.specs.declared.message.Message.{Message}
use Rattle.txn_core.specs.declared.answer.Answer.{Answer}
use Rattle.txn_core.specs.declared.entry.Entry.{Entry}
use Rattle.txn_core.specs.Service.{Service, IsServiceLawful, History}
use Rattle.txn_core.specs.Answers.{has_record, recall_answer, decide_answer}
use Rattle.txn_core.specs.History.{effects, Had, begins, forgets, is_own_begin}
use Rattle.txn_core.specs.Legal.{state, IsAnswer, IsLegal}
use Rattle.txn_core.proofs.Exports.{had_now, had_more, own_number_is_kept}
use Rattle.coordinator.proofs.Recalled.{never_gone}

true_or_false : {Q : Type 0} (b : Bool) → b ≡ true → b ≡ false → Q
true_or_false true h k = absurd (cc)
true_or_false false h k = absurd (cc)

module _ {K V A F D Q B : Type 0} where
  -- the pass that drew a number
  drawn_by : (es : List (Entry K V A F D Q B)) (n : ℕ) → Had (begins n) es → (q : ℕ) × (list_any (is_own_begin q n) es ≡ true)
  drawn_by [] n had = absurd (cc)
  drawn_by (e ∷ es) n had = by_turn (or_cases (begins n e.message e.answer) (list_any (λ x. begins n x.message x.answer) es) had) (drawn_by es n)
    where
      by_turn : (begins n e.message e.answer ≡ true) ⊎ Had (begins n) es → (Had (begins n) es → (q : ℕ) × (list_any (is_own_begin q n) es ≡ true))
          → (q : ℕ) × (list_any (is_own_begin q n) (e ∷ es) ≡ true)
      by_turn (inl now) before = (e.pass, ap (λ b. b || list_any (is_own_begin e.pass n) es) (λ j. eq-eqb e.pass e.pass refl j && now j))
      by_turn (inr older) before = let h = before older in (h.0, or_right (is_own_begin h.0 n e) (list_any (is_own_begin h.0 n) es) h.1)

  -- what a pass had forgotten was forgotten
  own_forget : (es : List (Entry K V A F D Q B)) (q n : ℕ) → list_any (λ e. nat_eq e.pass q && forgets n e.message e.answer) es ≡ true → Had (forgets n) es
  own_forget [] q n had = absurd (cc)
  own_forget (e ∷ es) q n had =
      by_turn (or_cases (nat_eq e.pass q && forgets n e.message e.answer) (list_any (λ x. nat_eq x.pass q && forgets n x.message x.answer) es) had) (own_forget es q n)
    where
      by_turn : ((nat_eq e.pass q && forgets n e.message e.answer) ≡ true) ⊎ (list_any (λ x. nat_eq x.pass q && forgets n x.message x.answer) es ≡ true)
          → (list_any (λ x. nat_eq x.pass q && forgets n x.message x.answer) es ≡ true → Had (forgets n) es) → Had (forgets n) (e ∷ es)
      by_turn (inl now) before = had_now (forgets n) e es (and_parts (nat_eq e.pass q) (forgets n e.message e.answer) now).1
      by_turn (inr older) before = had_more (forgets n) e es (before older)

module _ {K V A F B : Type 0} where
  -- which answers find no such transaction
  no_recall :
      (recorded : Bool) (fate : Fate) (stamp : Stamp) (actions : List A) (reasons : List (Reason V F))
      → Answer.Unknown ≡ recall_answer {K = K} {V = V} {A = A} {F = F} {B = B} recorded fate stamp actions reasons → recorded ≡ false
  no_recall false fate stamp actions reasons e = refl
  no_recall true fate stamp actions reasons e = absurd (cc)

  no_decide :
      (recorded : Bool) (fate : Fate) (commit first : Bool) → (fate ≡ Fate.Gone → ⊥)
      → Answer.Decided Fate.Gone first ≡ decide_answer {K = K} {V = V} {A = A} {F = F} {B = B} recorded fate commit → recorded ≡ false
  no_decide false fate commit first there e = refl
  no_decide true Fate.Undecided true first there e = absurd (cc)
  no_decide true Fate.Undecided false first there e = absurd (cc)
  no_decide true Fate.Committed commit first there e = absurd (cc)
  no_decide true Fate.Cancelled commit first there e = absurd (cc)
  no_decide true Fate.Gone commit first there e = absurd (there refl)

module _ {K V A F C D Q B : Type 0} (S : Service K V A F C D Q B) where
  module _ (law : IsServiceLawful S) (es : History S) (legal : IsLegal S es) (n : ℕ) (begun : Had (begins n) es) where
    -- a begun number that has no record
    pub was_forgotten : has_record (state S es).ledger n ≡ false → Had (forgets n) es
    was_forgotten none =
        let by = drawn_by es n begun in
        by_test by.0 (list_any (λ e. nat_eq e.pass by.0 && forgets n e.message e.answer) es) refl by.1
      where
        by_test :
            (q : ℕ) (b : Bool) → list_any (λ e. nat_eq e.pass q && forgets n e.message e.answer) es ≡ b → list_any (is_own_begin q n) es ≡ true
            → Had (forgets n) es
        by_test q true is own = own_forget es q n is
        by_test q false is own = true_or_false (has_record (state S es).ledger n) (own_number_is_kept S law es legal q n own is) none

    pub recall_finds_none : (moment : ℕ) → IsAnswer S es moment (Message.Recall n) Answer.Unknown → Had (forgets n) es
    recall_finds_none moment is =
        let l = (state S es).ledger in
        was_forgotten (no_recall (has_record l n) (l.fate n) (l.stamp n) (l.actions n) _ is)

    pub decide_finds_none :
        (moment : ℕ) (commit first : Bool) (reasons : List (Reason V F))
        → IsAnswer S es moment (Message.Decide n commit reasons) (Answer.Decided Fate.Gone first) → Had (forgets n) es
    decide_finds_none moment commit first reasons is =
        let l = (state S es).ledger in
        was_forgotten (no_decide (has_record l n) (l.fate n) commit first (never_gone S (effects es) n) is)
