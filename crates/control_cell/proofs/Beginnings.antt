-- What a Begin is answered, and what it leaves.
use Rattle.std.proofs.Common.{◌≡◌, ℕ, ◌+◌, Bool, true, List, Option, None, Some, is_some, IfSome, option_map, if◌then◌else◌, refl, sym, ap, ◌∙◌, subst}
use Rattle.std.proofs.lemmas.Bool.{cond_both}
use Rattle.client_tokens.specs.declared.kept.Kept.{Kept}
use Rattle.txn_core.specs.declared.stamp.Stamp.{Stamp}
use Rattle.txn_core.specs.declared.reason.Reason.{Reason}
use Rattle.txn_core.specs.declared.message.Message.{Message}
use Rattle.txn_core.specs.declared.answer.Answer.{Answer}
use Rattle.txn_core.specs.Service.{Service, Reply, History}
use Rattle.txn_core.specs.Effects.{Effect, Quiet}
use Rattle.txn_core.specs.Answers.{KeptToken, begin_answer}
use Rattle.txn_core.specs.State.{Ledger, State, step}
use Rattle.txn_core.specs.History.{begin_effect, begun_with, unless_over, found_kept, reasons_of, kept}
use Rattle.txn_core.specs.Legal.{state, IsAnswer}
use Rattle.txn_ledger.specs.declared.ledger.TxnLedger.{TxnLedger}
use Rattle.txn_ledger.specs.declared.tokens.ClientToken.{ClientToken}
use Rattle.txn_ledger.specs.Changes.{Alters}
use Rattle.txn_ledger.specs.Contents.{next_of, record_at, kept_at}
use Rattle.txn_ledger.specs.Records.{begun, stamp_of}
use Rattle.txn_ledger.specs.Tokens.{kept_with, living}
use Rattle.control_cell.specs.declared.cell.ControlCell.{ControlCell}
use Rattle.control_cell.specs.Keeping.{token_of, found_in, with_actions, Keeps}
use Rattle.control_cell.specs.Begins.{DrawsNone, have_tables}
use Rattle.control_cell.specs.Holding.{Holds}
use Rattle.control_cell.proofs.Altered.{like, began}
use Rattle.control_cell.proofs.TokenWords.{living_is, kept_is}
use Rattle.control_cell.proofs.Entries.{Left}

module _ {K V A F B : Type 0} where
  quiet_begin : {D : Type 0} (actions : List A) (a : Answer K V A F B) → DrawsNone a → begin_effect {D = D} actions a ≡ Quiet
  quiet_begin actions (Answer.Begun n stamp) none = absurd (none n stamp refl)
  quiet_begin actions _ none = refl

  not_kept :
      (token : Option (List ℕ)) (other : List ℕ) (actions : List A) (a : Answer K V A F B) (old : Option (KeptToken A)) → DrawsNone a
      → begun_with token other actions a old ≡ old
  not_kept (Some t) other actions (Answer.Begun n stamp) old none = absurd (none n stamp refl)
  not_kept (Some t) other actions _ old none = refl
  not_kept None other actions a old none = refl

  -- a token that stands for a transaction draws none
  pub told_draws_none :
      (same : List A → List A → Bool) (found : Option (KeptToken A)) (actions : List A) (stamp : Stamp) (a : Answer K V A F B)
      → is_some found ≡ true → a ≡ begin_answer same true found actions stamp → DrawsNone a
  told_draws_none same None actions stamp a there is n s e = absurd (cc)
  told_draws_none same (Some k) actions stamp a there is n s e =
      cond_both (same k.actions actions) (if is_some k.completed then Answer.Repeat k.number else Answer.Running k.number)
      (Answer.Mismatch k.number) (λ x. a ≡ x → ⊥)
      (λ _.
      cond_both (is_some k.completed) (Answer.Repeat k.number) (Answer.Running k.number) (λ x. a ≡ x → ⊥)
      (λ _ h. absurd (cc)) (λ _ h. absurd (cc)))
      (λ _ h. absurd (cc)) is

none_of : {A : Type 0} (o : Option (Kept (List A))) → token_of o ≡ None → o ≡ None
none_of None e = refl
none_of (Some k) e = absurd (cc)

module _ {A Q : Type 0} where
  pub found_is :
      (l : Ledger A) (rs : ℕ → List Q) (kept : List ℕ → Option (KeptToken A)) (ledger : TxnLedger A Q) (moment : ℕ) → Keeps l rs kept ledger
      → (token : List ℕ) → found_in ledger moment (Some token) ≡ unless_over moment (kept token)
  found_is l rs kept ledger moment h token = living_is moment (kept_at ledger token) ∙ ap (unless_over moment) (h.tokens token)

module _ {K V A F C D Q B : Type 0} (S : Service K V A F C D Q B) where
  pub found_kept_is :
      (es : History S) (ledger : TxnLedger A (Reason V F)) (moment : ℕ) (token : Option (List ℕ))
      → Keeps (state S es).ledger (reasons_of es) (kept es) ledger → found_in ledger moment token ≡ found_kept es moment token
  found_kept_is es ledger moment None h = refl
  found_kept_is es ledger moment (Some t) h = found_is (state S es).ledger (reasons_of es) (kept es) ledger moment h t

  -- what a Begin is answered by what the cell has
  pub begin_answers :
      {R : Type 0} (es : History S) (cell : ControlCell R K V A F C D Q B) (moment : ℕ) (token : Option (List ℕ)) (actions : List A) (there : Bool)
      (a : Reply S) → Holds S es cell → there ≡ have_tables S cell.catalog actions
      → a ≡ begin_answer S.same_actions there (found_in cell.ledger moment token) actions (stamp_of moment (next_of cell.ledger))
      → IsAnswer S es moment (Message.Begin token actions) a
  begin_answers es cell moment token actions there a h tables is =
      let t : there ≡ have_tables S (state S es).catalog actions = tables ∙ (λ j. have_tables S (h.catalog_is j) actions) in
      let f : found_in cell.ledger moment token ≡ found_kept es moment token = found_kept_is es cell.ledger moment token h.keeps in
      let n : next_of cell.ledger ≡ (state S es).ledger.next = h.keeps.next_is in
      is ∙ (λ j. begin_answer S.same_actions (t j) (f j) actions (stamp_of moment (n j)))

  -- a Begin that draws no number forgets the tokens whose life is over
  pub undrawn_left :
      (es : History S) (moment : ℕ) (token : Option (List ℕ)) (actions : List A) (a : Reply S) (catalog : C)
      (old new : TxnLedger A (Reason V F)) → DrawsNone a → catalog ≡ (state S es).catalog
      → Keeps (state S es).ledger (reasons_of es) (kept es) old → next_of new ≡ next_of old
      → ((n : ℕ) → record_at new n ≡ record_at old n) → ((other : List ℕ) → kept_at new other ≡ living moment (kept_at old other))
      → Left S es moment (Message.Begin token actions) a catalog new
  undrawn_left es moment token actions a catalog old new none cat h next records tokens =
      let w : State K V A C = state S es in
      let quiet : Quiet ≡ begin_effect actions a = sym (quiet_begin actions a none) in
      record {
        catalog_is = cat ∙ (λ j. (step S.core w (quiet j)).catalog);
        keeps =
            subst
            (λ (e : Effect K A D).
            Keeps (step S.core w e).ledger (reasons_of es) (λ other. begun_with token other actions a (unless_over moment (kept es other))) new)
            quiet
            (like w.ledger (reasons_of es) (reasons_of es) (kept es)
            (λ other. begun_with token other actions a (unless_over moment (kept es other))) old new h next records (λ n. refl)
            (λ other.
            ap token_of (tokens other) ∙ found_is w.ledger (reasons_of es) (kept es) old moment h other
            ∙ sym (not_kept token other actions a (unless_over moment (kept es other)) none)));
      }

  -- a Begin that draws the next number
  pub drawn_left :
      (es : History S) (moment : ℕ) (token : Option (List ℕ)) (actions : List A) (own : Option (ClientToken A)) (catalog : C)
      (old new : TxnLedger A (Reason V F)) → own ≡ with_actions actions token
      → catalog ≡ (state S es).catalog → Keeps (state S es).ledger (reasons_of es) (kept es) old → next_of new ≡ next_of old + 1
      → Alters old.records new.records (next_of old) (Some (begun (stamp_of moment (next_of old)) actions (option_map (λ t. t.token) own)))
      → ((other : List ℕ) → kept_at new other ≡ kept_with own (next_of old) other (living moment (kept_at old other)))
      → Left S es moment (Message.Begin token actions) (Answer.Begun (next_of old) (stamp_of moment (next_of old))) catalog new
  drawn_left es moment token actions own catalog old new is cat h next alters tokens =
      let n : ℕ = next_of old in
      let stamp : Stamp = stamp_of moment n in
      record {
        catalog_is = cat;
        keeps =
            began (state S es).ledger (reasons_of es) (kept es)
            (λ other. begun_with {K = K} {V = V} {F = F} {B = B} token other actions (Answer.Begun n stamp) (unless_over moment (kept es other)))
            old new stamp actions (option_map (λ t. t.token) own) h next alters
            (λ other.
            ap token_of (tokens other)
            ∙ kept_is K V F B own token actions n stamp other (living moment (kept_at old other)) is
            ∙ ap (begun_with {K = K} {V = V} {F = F} {B = B} token other actions (Answer.Begun n stamp))
            (found_is (state S es).ledger (reasons_of es) (kept es) old moment h other));
      }

  pub own_is_free :
      (ledger : TxnLedger A (Reason V F)) (moment : ℕ) (token : Option (List ℕ)) (actions : List A) (own : Option (ClientToken A))
      → own ≡ with_actions actions token → found_in ledger moment token ≡ None
      → IfSome own (λ t. living moment (kept_at ledger t.token) ≡ None)
  own_is_free ledger moment None actions own is free =
      subst (λ o. IfSome o (λ t. living moment (kept_at ledger t.token) ≡ None)) (sym is) tt
  own_is_free ledger moment (Some t) actions own is free =
      subst (λ o. IfSome o (λ t. living moment (kept_at ledger t.token) ≡ None)) (sym is)
      (none_of (living moment (kept_at ledger t)) free)

  pub drawn_taken :
      (es : History S) (moment : ℕ) (token : Option (List ℕ)) (actions : List A) (own : Option (ClientToken A)) (catalog : C)
      (old new : TxnLedger A (Reason V F)) (number : ℕ) (stamp : Stamp) → number ≡ next_of old → stamp ≡ stamp_of moment (next_of old)
      → own ≡ with_actions actions token → catalog ≡ (state S es).catalog
      → Keeps (state S es).ledger (reasons_of es) (kept es) old → next_of new ≡ next_of old + 1
      → Alters old.records new.records (next_of old) (Some (begun (stamp_of moment (next_of old)) actions (option_map (λ t. t.token) own)))
      → ((other : List ℕ) → kept_at new other ≡ kept_with own (next_of old) other (living moment (kept_at old other)))
      → Left S es moment (Message.Begin token actions) (Answer.Begun number stamp) catalog new
  drawn_taken es moment token actions own catalog old new number stamp first second is cat h next alters tokens =
      let a : next_of old ≡ number = sym first in
      let b : stamp_of moment (next_of old) ≡ stamp = sym second in
      subst (λ (p : ℕ × Stamp). Left S es moment (Message.Begin token actions) (Answer.Begun p.0 p.1) catalog new) (λ j. (a j, b j))
      (drawn_left es moment token actions own catalog old new is cat h next alters tokens)
