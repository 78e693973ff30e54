-- What decides the answer to a Begin.
use Rattle.std.specs.Prelude.{◌≡◌, ℕ, Bool, List}
use Rattle.std.specs.List.{list_all}
use Rattle.txn_core.specs.declared.stamp.Stamp.{Stamp}
use Rattle.txn_core.specs.declared.answer.Answer.{Answer}
use Rattle.txn_core.specs.Service.{Service}
use Rattle.txn_ledger.specs.declared.ledger.TxnLedger.{TxnLedger}
use Rattle.txn_ledger.specs.Contents.{next_of}
use Rattle.txn_ledger.specs.Records.{stamp_of}

-- the catalog has the table of each action
abbrev pub have_tables : {K V A F C D Q B : Type 0} → Service K V A F C D Q B → C → List A → Bool
have_tables S c actions = list_all (λ x. S.core.there c (S.core.key_of x)) actions

module _ {K V A F B : Type 0} where
  -- the answer draws no number
  abbrev pub DrawsNone : Answer K V A F B → Type 0
  DrawsNone a = (n : ℕ) (stamp : Stamp) → a ≡ Answer.Begun n stamp → ⊥

  -- the answer that draws the next number, at this moment
  abbrev pub drawn_in : {Q : Type 0} → TxnLedger A Q → ℕ → Answer K V A F B
  drawn_in ledger moment = Answer.Begun (next_of ledger) (stamp_of moment (next_of ledger))
