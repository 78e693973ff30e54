-- A cancel's cause, as it is looked for.
use Rattle.std.proofs.Common.{◌≡◌, ◌≢◌, inl, inr, ℕ, Bool, true, false, List, [], ◌∷◌, length, MatchBool, nat_eq, refl, sym, ◌∙◌, subst, arith}
use Rattle.std.specs.Prelude.{All, Any, ◌↔◌, IsTrue}
use Rattle.std.proofs.lemmas.Bool.{eqb-true, eq-eqb}
use Rattle.txn_core.specs.declared.reason.Reason.{Reason}
use Rattle.txn_core.specs.declared.entry.Entry.{Entry}
use Rattle.txn_core.specs.Service.{Service}
use Rattle.txn_core.specs.History.{Had, finds_no_table}
use Rattle.txn_core.specs.Legal.{WasTold, AreTold, HasCause}
use Rattle.txn_core.proofs.Basics.{true_false}

module _ {K V A F C D Q B : Type 0} (S : Service K V A F C D Q B) (es : List (Entry K V A F D Q B)) (n : ℕ) where
  module _ (actions : List A) (reasons : List (Reason V F)) where
    blank_refuses : All (λ r. r ≡ Reason.None) reasons → Any (λ r. r ≢ Reason.None) reasons → ⊥
    blank_refuses blank (k, y, lt, is, ne) = ne (sym is ∙ blank k y lt)

    pub cause_refused : (b : Bool) → b ≡ true → MatchBool b (Any (λ r. r ≢ Reason.None) reasons) (All (λ r. r ≡ Reason.None) reasons) → (r : Bool) → IsTrue r ↔ AreTold S es n actions reasons → IsTrue r ↔ HasCause S es n actions reasons
    cause_refused false e h r told = absurd (cc)
    cause_refused true e h r told = (λ t. inl (told.0 t, h), λ cause. back cause)
      where
        back : HasCause S es n actions reasons → IsTrue r
        back (inl (t, some)) = told.1 t
        back (inr (gone, many, blank)) = absurd (blank_refuses blank h)

    pub cause_blank : (b : Bool) → b ≡ false → MatchBool b (Any (λ r. r ≢ Reason.None) reasons) (All (λ r. r ≡ Reason.None) reasons) → (r : Bool) → IsTrue r ↔ (Had (finds_no_table n) es × (length reasons ≡ length actions)) → IsTrue r ↔ HasCause S es n actions reasons
    cause_blank true e h r both = absurd (cc)
    cause_blank false e h r both = (λ t. let g = both.0 t in inr (g.0, g.1, h), λ cause. back cause)
      where
        back : HasCause S es n actions reasons → IsTrue r
        back (inl (t, some)) = absurd (blank_refuses h some)
        back (inr (gone, many, blank)) = both.1 (gone, many)

    pub gone_and_many : (w : Bool) → w ≡ true → (h : Bool) → w ≡ h → (x y : ℕ) → IsTrue (nat_eq x y) ↔ ((h ≡ true) × (x ≡ y))
    gone_and_many w yes' h is x y = (λ t. (sym is ∙ yes', eqb-true x y t), λ both. eq-eqb x y both.1)

    pub not_gone : (w : Bool) → w ≡ false → (h : Bool) → w ≡ h → (x y : ℕ) → IsTrue w ↔ ((h ≡ true) × (x ≡ y))
    not_gone w no' h is x y = (λ t. absurd (true_false w t no'), λ both. is ∙ both.0)

  -- the first action and its reason, and the others
  pub told_cons : (a : A) (as' actions : List A) (r : Reason V F) (rs reasons : List (Reason V F)) → actions ≡ a ∷ as' → reasons ≡ r ∷ rs → (b c : Bool) → b ≡ true → IsTrue b ↔ WasTold S es n a r → IsTrue c ↔ AreTold S es n as' rs → IsTrue c ↔ AreTold S es n actions reasons
  told_cons a as' actions r rs reasons is_a is_r b c yes' one rest =
      subst (λ l. IsTrue c ↔ AreTold S es n l reasons) (sym is_a)
      (subst (λ l. IsTrue c ↔ AreTold S es n (a ∷ as') l) (sym is_r) ((λ t. (one.0 yes', rest.0 t)), (λ both. rest.1 both.1)))

  pub told_not : (a : A) (as' actions : List A) (r : Reason V F) (rs reasons : List (Reason V F)) → actions ≡ a ∷ as' → reasons ≡ r ∷ rs → (b : Bool) → b ≡ false → IsTrue b ↔ WasTold S es n a r → IsTrue b ↔ AreTold S es n actions reasons
  told_not a as' actions r rs reasons is_a is_r b no' one =
      subst (λ l. IsTrue b ↔ AreTold S es n l reasons) (sym is_a)
      (subst (λ l. IsTrue b ↔ AreTold S es n (a ∷ as') l) (sym is_r) ((λ t. absurd (true_false b t no')), (λ both. one.1 both.0)))

  told_empty : (actions : List A) (reasons : List (Reason V F)) → length actions ≡ 0 → IsTrue (nat_eq (length reasons) 0) ↔ AreTold S es n actions reasons
  told_empty [] [] e = (λ _. tt, λ _. refl)
  told_empty [] (r ∷ rs) e = (λ t. let k = eqb-true (length (r ∷ rs)) 0 t in absurd (omega arith), λ h. absurd h)
  told_empty (a ∷ as') reasons e = absurd (cc)

  pub told_none : (actions : List A) (reasons : List (Reason V F)) → length actions ≡ 0 → (b : Bool) → b ≡ nat_eq (length reasons) 0 → IsTrue b ↔ AreTold S es n actions reasons
  told_none actions reasons e b is = subst (λ x. IsTrue x ↔ AreTold S es n actions reasons) (sym is) (told_empty actions reasons e)

  pub told_short : (a : A) (as' actions : List A) (reasons : List (Reason V F)) → actions ≡ a ∷ as' → length reasons ≡ 0 → IsTrue false ↔ AreTold S es n actions reasons
  told_short a as' actions [] is e = (λ t. absurd (cc), λ h. absurd (subst (λ l. AreTold S es n l []) is h))
  told_short a as' actions (r ∷ rs) is e = absurd (cc)
