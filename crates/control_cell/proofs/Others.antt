-- Entries that leave the control cell as it is, and what its own entries tell.
use Rattle.std.proofs.Common.{◌≡◌, ℕ, Bool, true, false, List, ◌∷◌, Option, refl, sym, ap, ◌∙◌, subst}
use Rattle.std.specs.FinMap as map
use Rattle.txn_core.specs.declared.reason.Reason.{Reason}
use Rattle.txn_core.specs.declared.message.Message.{Message}
use Rattle.txn_core.specs.Service.{Service, IsServiceLawful, Asked, Reply, History}
use Rattle.txn_core.specs.Effects.{Effect, Wrote, Prepared, Applied, Released, Changed}
use Rattle.txn_core.specs.Answers.{KeptToken}
use Rattle.txn_core.specs.State.{Ledger, State, step}
use Rattle.txn_core.specs.History.{where_so, effect_of, is_written, is_expired, is_accepted, is_applied, is_released, reasons_in, reasons_of, kept_after, kept}
use Rattle.txn_core.specs.Legal.{state}
use Rattle.txn_core.specs.Cells.{of_cell, IsAlike}
use Rattle.txn_core.proofs.Exports.{own_entries_tell, alike_turned}
use Rattle.txn_ledger.specs.declared.ledger.TxnLedger.{TxnLedger}
use Rattle.control_cell.specs.declared.cell.ControlCell.{ControlCell}
use Rattle.control_cell.specs.Keeping.{token_of, Keeps}
use Rattle.control_cell.specs.Holding.{Holds, TakesAllowed, goes_to_control, is_of_control, OthersLeaveIt, OwnEntriesTellIt, UnchangedHolds}
use Rattle.control_cell.proofs.Altered.{like}

module _ {K V A F C D Q B : Type 0} (S : Service K V A F C D Q B) where
  -- the effect leaves transactions and the catalog
  abbrev Spares : State K V A C → Effect K A D → Type 0
  Spares w e = ((step S.core w e).ledger ≡ w.ledger) × ((step S.core w e).catalog ≡ w.catalog)

  where_spares : (w : State K V A C) (b : Bool) (e : Effect K A D) → Spares w e → Spares w (where_so b e)
  where_spares w true e h = h
  where_spares w false e h = (refl, refl)

  spares : (w : State K V A C) (moment : ℕ) (m : Asked S) (a : Reply S) → is_of_control S m a ≡ false → Spares w (effect_of moment m a)
  spares w moment (Message.Write action) a other = where_spares w (is_written a) (Wrote action moment) (refl, refl)
  spares w moment (Message.Expire action) a other = where_spares w (is_expired a) (Wrote action moment) (refl, refl)
  spares w moment (Message.Prepare n stamp action) a other = where_spares w (is_accepted a) (Prepared n stamp action) (refl, refl)
  spares w moment (Message.Apply n key) a other = where_spares w (is_applied a) (Applied n key) (refl, refl)
  spares w moment (Message.Release n key) a other = where_spares w (is_released a) (Released n key) (refl, refl)
  spares w moment (Message.Begin token actions) a other = absurd (cc)
  spares w moment (Message.Decide n commit reasons) a other = absurd (cc)
  spares w moment (Message.Done n) a other = absurd (cc)
  spares w moment (Message.Forget n) a other = absurd (cc)
  spares w moment (Message.Command d) a other =
      subst (λ b. Spares w (where_so b (Changed d moment))) (sym other) (refl, refl)
  spares w moment _ a other = (refl, refl)

  same_reasons :
      (n : ℕ) (m : Asked S) (a : Reply S) (older : List (Reason V F)) → is_of_control S m a ≡ false → reasons_in n m a older ≡ older
  same_reasons n (Message.Decide k commit reasons) a older other = absurd (cc)
  same_reasons n _ a older other = refl

  same_kept :
      (moment : ℕ) (m : Asked S) (a : Reply S) (token : List ℕ) (older : Option (KeptToken A)) → is_of_control S m a ≡ false
      → kept_after moment m a token older ≡ older
  same_kept moment (Message.Begin t actions) a token older other = absurd (cc)
  same_kept moment (Message.Decide k commit reasons) a token older other = absurd (cc)
  same_kept moment (Message.Done k) a token older other = absurd (cc)
  same_kept moment _ a token older other = refl

  -- a state's ledger under other names
  carried :
      (l u : Ledger A) (rs ss : ℕ → List (Reason V F)) (kept kept_new : List ℕ → Option (KeptToken A)) (ledger : TxnLedger A (Reason V F))
      → u ≡ l → ((n : ℕ) → ss n ≡ rs n) → ((token : List ℕ) → kept_new token ≡ kept token) → Keeps l rs kept ledger
      → Keeps u ss kept_new ledger
  carried l u rs ss kept kept_new ledger same reasons tokens h =
      subst (λ (p : Ledger A × ((ℕ → List (Reason V F)) × (List ℕ → Option (KeptToken A)))). Keeps p.0 p.1.0 p.1.1 ledger)
      (let a : l ≡ u = sym same in
      let b : (n : ℕ) → rs n ≡ ss n = λ n. sym (reasons n) in
      let c : (token : List ℕ) → kept token ≡ kept_new token = λ token. sym (tokens token) in
      λ j. (a j, ((λ n. b n j), (λ token. c token j)))) h

  pub others_leave_it : (R : Type 0) → OthersLeaveIt R S
  others_leave_it R es e cell h other =
      let w : State K V A C = state S es in
      let same = spares w e.moment e.message e.answer other in
      record {
        catalog_is = h.catalog_is ∙ sym same.1;
        keeps =
            carried w.ledger (step S.core w (effect_of e.moment e.message e.answer)).ledger (reasons_of es) (reasons_of (e ∷ es)) (kept es)
            (kept (e ∷ es)) cell.ledger same.0 (λ n. same_reasons n e.message e.answer (reasons_of es n) other)
            (λ token. same_kept e.moment e.message e.answer token (kept es token) other) h.keeps;
      }

  -- a message that changes nothing, whatever it is answered
  pub others_taken :
      {R : Type 0} (cell : ControlCell R K V A F C D Q B) (moment : ℕ) (m : Asked S) (a : Reply S)
      → ((b : Reply S) → is_of_control S m b ≡ false) → TakesAllowed S cell cell moment m a
  others_taken {R} cell moment m a other es e h allowed is =
      others_leave_it R es e cell h (ap (λ x. is_of_control S x e.answer) is.message_is ∙ other e.answer)

  -- a message to the control cell is one of these
  pub one_of_them :
      (m : Asked S) → goes_to_control S m ≡ true
      → ((token : Option (List ℕ)) (actions : List A) → m ≡ Message.Begin token actions → ⊥)
      → ((n : ℕ) (commit : Bool) (reasons : List (Reason V F)) → m ≡ Message.Decide n commit reasons → ⊥)
      → ((n : ℕ) → m ≡ Message.Done n → ⊥) → ((n : ℕ) → m ≡ Message.Forget n → ⊥) → ((n : ℕ) → m ≡ Message.FateOf n → ⊥)
      → ((n : ℕ) → m ≡ Message.Recall n → ⊥) → (m ≡ Message.Unfinished → ⊥) → ((q : Q) → m ≡ Message.Ask q → ⊥) → ⊥
  one_of_them (Message.Begin token actions) goes h0 h1 h2 h3 h4 h5 h6 h7 = h0 token actions refl
  one_of_them (Message.Decide n commit reasons) goes h0 h1 h2 h3 h4 h5 h6 h7 = h1 n commit reasons refl
  one_of_them (Message.Done n) goes h0 h1 h2 h3 h4 h5 h6 h7 = h2 n refl
  one_of_them (Message.Forget n) goes h0 h1 h2 h3 h4 h5 h6 h7 = h3 n refl
  one_of_them (Message.FateOf n) goes h0 h1 h2 h3 h4 h5 h6 h7 = h4 n refl
  one_of_them (Message.Recall n) goes h0 h1 h2 h3 h4 h5 h6 h7 = h5 n refl
  one_of_them Message.Unfinished goes h0 h1 h2 h3 h4 h5 h6 h7 = h6 refl
  one_of_them (Message.Ask q) goes h0 h1 h2 h3 h4 h5 h6 h7 = h7 q refl
  one_of_them _ goes h0 h1 h2 h3 h4 h5 h6 h7 = absurd (cc)

  alike_holds : {R : Type 0} (es fs : History S) (cell : ControlCell R K V A F C D Q B) → IsAlike S S.control es fs → Holds S es cell → Holds S fs cell
  alike_holds es fs cell s h =
      record {
        catalog_is = h.catalog_is ∙ s.catalog;
        keeps =
            carried (state S es).ledger (state S fs).ledger (reasons_of es) (reasons_of fs) (kept es) (kept fs) cell.ledger
            (sym (s.ledger refl)) (λ n. sym (s.reasons refl n)) (λ token. sym (s.tokens refl token)) h.keeps;
      }

  pub own_entries_tell_it : (R : Type 0) → IsServiceLawful S → OwnEntriesTellIt R S
  own_entries_tell_it R law es legal cell = (
    λ h. alike_holds (of_cell S.control es) es cell (own_entries_tell S law es legal S.control) h,
    λ h. alike_holds es (of_cell S.control es) cell (alike_turned S law S.control (of_cell S.control es) es (own_entries_tell S law es legal S.control)) h,
  )

  pub unchanged_holds : (R : Type 0) → UnchangedHolds R S
  unchanged_holds R es s t same h =
      record {
        catalog_is = same.catalog_is ∙ h.catalog_is;
        keeps =
            like (state S es).ledger (reasons_of es) (reasons_of es) (kept es) (kept es) s.ledger t.ledger h.keeps same.ledger_is.next
            same.ledger_is.records (λ n. refl) (λ token. ap (λ m. token_of (map.get m token)) same.ledger_is.tokens ∙ h.keeps.tokens token);
      }
