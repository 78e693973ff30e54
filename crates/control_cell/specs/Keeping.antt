-- What a ledger keeps of transactions and of tokens, and the state of the protocol that it stands for.
use Rattle.std.specs.Prelude.{◌≡◌, ℕ, ◌≤◌, true, false, List, [], Option, None, Some, is_some, option_map}
use Rattle.client_tokens.specs.declared.kept.Kept.{Kept}
use Rattle.txn_core.specs.declared.fate.Fate.{Fate}
use Rattle.txn_core.specs.Answers.{KeptToken, has_record}
use Rattle.txn_core.specs.State.{Ledger}
use Rattle.txn_ledger.specs.declared.record.Record.{Record}
use Rattle.txn_ledger.specs.declared.ledger.TxnLedger.{TxnLedger}
use Rattle.txn_ledger.specs.declared.tokens.ClientToken.{ClientToken}
use Rattle.txn_ledger.specs.Contents.{next_of, record_at, kept_at}
use Rattle.txn_ledger.specs.Tokens.{living}

module _ {A : Type 0} where
  -- what is kept with a token, in the words of the protocol
  abbrev pub token_of : Option (Kept (List A)) → Option (KeptToken A)
  token_of None = None
  token_of (Some kept) = Some (record { number = kept.number; actions = kept.actions; completed = kept.completed })

  -- a token with the actions that it is kept with
  abbrev pub with_actions : List A → Option (List ℕ) → Option (ClientToken A)
  with_actions actions token = option_map (λ t. record { token = t; actions = actions }) token

module _ {A Q : Type 0} where
  -- what a Begin at this moment finds for its token
  abbrev pub found_in : TxnLedger A Q → ℕ → Option (List ℕ) → Option (KeptToken A)
  found_in ledger moment None = None
  found_in ledger moment (Some token) = token_of (living moment (kept_at ledger token))

  -- the record of a number says what the state does, with the reasons of its decision
  pub record IsRecordOf (l : Ledger A) (reasons : List Q) (n : ℕ) (r : Record A Q) : Type 0 where
    pub stamp_is : r.stamp ≡ l.stamp n
    pub actions_are : r.actions ≡ l.actions n
    pub fate_is : r.fate ≡ l.fate n
    pub reasons_are : r.reasons ≡ reasons
    pub done_is : r.done ≡ l.done n

  -- nothing became of a number yet
  pub record IsUntouched (l : Ledger A) (reasons : List Q) (n : ℕ) : Type 0 where
    pub undecided : l.fate n ≡ Fate.Undecided
    pub open_yet : l.done n ≡ false
    pub there : l.gone n ≡ false
    pub no_reasons : reasons ≡ []

  -- the ledger keeps the transactions of a state, the reasons of their decisions, and what tokens are kept with
  pub record Keeps (l : Ledger A) (reasons : ℕ → List Q) (kept : List ℕ → Option (KeptToken A)) (ledger : TxnLedger A Q) : Type 0 where
    pub next_is : next_of ledger ≡ l.next
    pub from_one : 1 ≤ l.next
    pub recorded : (n : ℕ) → is_some (record_at ledger n) ≡ has_record l n
    pub records : (n : ℕ) (r : Record A Q) → record_at ledger n ≡ Some r → IsRecordOf l (reasons n) n r
    pub undrawn : (n : ℕ) → l.next ≤ n → IsUntouched l (reasons n) n
    pub gone_are_done : (n : ℕ) → l.gone n ≡ true → l.done n ≡ true
    pub tokens : (token : List ℕ) → token_of (kept_at ledger token) ≡ kept token
