-- Lists in order of time, and newest first.
use Rattle.std.proofs.Common.{◌≡◌, ◌+◌, ◌<◌, ◌≤◌, ℕ, Bool, true, false, ◌||◌, List, [], ◌∷◌, ◌++◌, length, take, get_or, reverse, refl, sym, ap, ◌∙◌, subst, arith}
use Rattle.std.specs.List.{list_any}
use Rattle.std.proofs.Math.Seq.{drop-cons, take-add, take-length}
use Rattle.std.proofs.lemmas.List.{reverse-append}
use Rattle.std.proofs.lemmas.List.Folds.{list_any_at}
use Rattle.std.proofs.lemmas.List.Sorted.{IsPermutation-reverse, list_any-IsPermutation}
use Rattle.txn_core.specs.declared.stamp.Stamp.{Stamp}
use Rattle.txn_core.specs.declared.reason.Reason.{Reason}
use Rattle.txn_core.specs.declared.entry.Entry.{Entry}
use Rattle.txn_core.specs.Effects.{Effect, Begun}
use Rattle.txn_core.specs.Serial.{begun_stamp, begun_actions}
use Rattle.txn_core.specs.History.{effect, effects, reasons_in, reasons_of}
use Rattle.txn_core.specs.Replay.{stamp_by, actions_by}

-- a test is passed in either order
pub any_reverse : {X : Type 0} (p : X → Bool) (xs : List X) → list_any p xs ≡ list_any p (reverse xs)
any_reverse p xs = list_any-IsPermutation p xs (reverse xs) (IsPermutation-reverse xs)

-- one more in order of time is the newest
pub newest : {X : Type 0} (xs : List X) (i : ℕ) (x : X) → i < length xs → x ≡ get_or xs i x → reverse (take (i + 1) xs) ≡ x ∷ reverse (take i xs)
newest xs i x lt is =
    ap reverse (take-add i 1 xs ∙ ap (λ r. take i xs ++ take 1 r) (drop-cons xs i x lt))
    ∙ reverse-append (take i xs) (get_or xs i x ∷ [])
    ∙ ap (λ y. y ∷ reverse (take i xs)) (sym is)

-- none of the first passes, and the next one doesn't
pub none_more : {X : Type 0} (p : X → Bool) (xs : List X) (i : ℕ) (x : X) → i < length xs → x ≡ get_or xs i x → list_any p (reverse (take i xs)) ≡ false → p x ≡ false → list_any p (reverse (take (i + 1) xs)) ≡ false
none_more p xs i x lt is none no' = ap (list_any p) (newest xs i x lt is) ∙ ap (λ b. b || list_any p (reverse (take i xs))) no' ∙ none

-- one passes
pub one_passes : {X : Type 0} (p : X → Bool) (xs : List X) (i : ℕ) (x : X) → i < length xs → x ≡ get_or xs i x → p x ≡ true → list_any p (reverse xs) ≡ true
one_passes p xs i x lt is yes' = sym (any_reverse p xs) ∙ list_any_at p xs i x lt (subst (λ y. p y ≡ true) is yes')

-- all of a list are its first elements
pub whole : {X : Type 0} (xs : List X) (i : ℕ) → length xs ≤ i → i ≤ length xs → take i xs ≡ xs
whole xs i ge le = let e : i ≡ length xs = omega arith in ap (λ n. take n xs) e ∙ take-length xs

pub none_all : {X : Type 0} (p : X → Bool) (xs : List X) (i : ℕ) → length xs ≤ i → i ≤ length xs → list_any p (reverse (take i xs)) ≡ false → false ≡ list_any p (reverse xs)
none_all p xs i ge le none = sym (subst (λ ys. list_any p (reverse ys) ≡ false) (whole xs i ge le) none)

module _ {K A D : Type 0} where
  stamp_step : (n : ℕ) (e : Effect K A D) (es : List (Effect K A D)) → begun_stamp (e ∷ es) n ≡ stamp_by n e (begun_stamp es n)
  stamp_step n (Begun stamp actions) es = refl
  stamp_step n _ es = refl

  actions_step : (n : ℕ) (e : Effect K A D) (es : List (Effect K A D)) → begun_actions (e ∷ es) n ≡ actions_by n e (begun_actions es n)
  actions_step n (Begun stamp actions) es = refl
  actions_step n _ es = refl

module _ {K V A F D Q B : Type 0} (es : List (Entry K V A F D Q B)) (i : ℕ) (e : Entry K V A F D Q B) (lt : i < length es) (is : e ≡ get_or es i e) (n : ℕ) where
  pub stamp_more : (found : Stamp) → found ≡ begun_stamp (effects (reverse (take i es))) n → stamp_by n (effect e) found ≡ begun_stamp (effects (reverse (take (i + 1) es))) n
  stamp_more found h =
      ap (λ s. stamp_by n (effect e) s) h ∙ sym (stamp_step n (effect e) (effects (reverse (take i es)))) ∙ ap (λ l. begun_stamp (effects l) n) (sym (newest es i e lt is))

  pub actions_more : (found : List A) → found ≡ begun_actions (effects (reverse (take i es))) n → actions_by n (effect e) found ≡ begun_actions (effects (reverse (take (i + 1) es))) n
  actions_more found h =
      ap (λ s. actions_by n (effect e) s) h ∙ sym (actions_step n (effect e) (effects (reverse (take i es)))) ∙ ap (λ l. begun_actions (effects l) n) (sym (newest es i e lt is))

  pub reasons_more : (found : List (Reason V F)) → found ≡ reasons_of (reverse (take i es)) n → reasons_in n e.message e.answer found ≡ reasons_of (reverse (take (i + 1) es)) n
  reasons_more found h = ap (λ s. reasons_in n e.message e.answer s) h ∙ ap (λ l. reasons_of l n) (sym (newest es i e lt is))
