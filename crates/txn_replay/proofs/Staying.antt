-- What an entry leaves as it is: the entries of other cells, and the tables.
use Rattle.std.proofs.Common.{◌≡◌, ℕ, Bool, true, false, cond, List, ◌∷◌, None, Some, refl, sym, ap, ◌∙◌}
use Rattle.std.proofs.lemmas.Bool.{eq-eqb, ne_eqb}
use Rattle.txn_core.specs.declared.message.Message.{Message}
use Rattle.txn_core.specs.declared.answer.Answer.{Answer}
use Rattle.txn_core.specs.declared.fate.Fate.{Fate}
use Rattle.txn_core.specs.Service.{Service, Asked, Reply, Event, History}
use Rattle.txn_core.specs.Effects.{Effect, Wrote, Prepared, Applied, Released, Finished, Forgot}
use Rattle.txn_core.specs.State.{State, step}
use Rattle.txn_core.specs.History.{begin_effect, decide_effect, effect_of, is_accepted, is_applied, is_finished, is_forgotten, is_released, is_written, is_expired, where_so}
use Rattle.txn_core.specs.Replay.{is_command}
use Rattle.txn_core.specs.Cells.{of_cell, reaches}

module _ {K V A F C D Q B : Type 0} (S : Service K V A F C D Q B) where
  -- an entry at a cell is one of its own and of no other; one over all cells is one of each
  pub own_more : (es : History S) (e : Event S) (i : ℕ) → e.cell ≡ Some i → of_cell i (e ∷ es) ≡ e ∷ of_cell i es
  own_more es e i at = ap (λ b. cond b (e ∷ of_cell i es) (of_cell i es)) (ap (λ k. reaches k i) at ∙ eq-eqb i i refl)

  pub others_stay : (es : History S) (e : Event S) (k i : ℕ) → e.cell ≡ Some k → (i ≡ k → ⊥) → of_cell i (e ∷ es) ≡ of_cell i es
  others_stay es e k i at apart =
      ap (λ b. cond b (e ∷ of_cell i es) (of_cell i es)) (ap (λ c. reaches c i) at ∙ ne_eqb k i (λ same. apart (sym same)))

  pub each_more : (es : History S) (e : Event S) (i : ℕ) → e.cell ≡ None → of_cell i (e ∷ es) ≡ e ∷ of_cell i es
  each_more es e i over = ap (λ k. cond (reaches k i) (e ∷ of_cell i es) (of_cell i es)) over

  module _ (w : State K V A C) where
    where_stays : (b : Bool) (x : Effect K A D) → (step S.core w x).catalog ≡ w.catalog → (step S.core w (where_so b x)).catalog ≡ w.catalog
    where_stays true x h = h
    where_stays false x h = refl

    begin_stays : (actions : List A) (a : Reply S) → (step S.core w (begin_effect actions a)).catalog ≡ w.catalog
    begin_stays actions (Answer.Begun n stamp) = refl
    begin_stays actions _ = refl

    decide_stays : (n : ℕ) (a : Reply S) → (step S.core w (decide_effect n a)).catalog ≡ w.catalog
    decide_stays n (Answer.Decided Fate.Committed true) = refl
    decide_stays n (Answer.Decided Fate.Cancelled true) = refl
    decide_stays n _ = refl

    -- no message but a command changes the tables
    pub catalog_stays :
        (moment : ℕ) (m : Asked S) (a : Reply S) → is_command m ≡ false → (step S.core w (effect_of moment m a)).catalog ≡ w.catalog
    catalog_stays moment (Message.Write action) a no' = where_stays (is_written a) (Wrote action moment) refl
    catalog_stays moment (Message.Expire action) a no' = where_stays (is_expired a) (Wrote action moment) refl
    catalog_stays moment (Message.Prepare n stamp action) a no' = where_stays (is_accepted a) (Prepared n stamp action) refl
    catalog_stays moment (Message.Apply n key) a no' = where_stays (is_applied a) (Applied n key) refl
    catalog_stays moment (Message.Release n key) a no' = where_stays (is_released a) (Released n key) refl
    catalog_stays moment (Message.Begin token actions) a no' = begin_stays actions a
    catalog_stays moment (Message.Decide n commit reasons) a no' = decide_stays n a
    catalog_stays moment (Message.Done n) a no' = where_stays (is_finished a) (Finished n) refl
    catalog_stays moment (Message.Forget n) a no' = where_stays (is_forgotten a) (Forgot n) refl
    catalog_stays moment (Message.Command d) a no' = absurd (cc)
    catalog_stays moment _ a no' = refl
