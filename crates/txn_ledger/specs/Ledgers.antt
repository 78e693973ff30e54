-- What a call changes in a ledger.
use Rattle.std.specs.Prelude.{◌≡◌, ℕ, ◌<◌, ◌≤◌, List, None, Some}
use Rattle.std.specs.Ordering.{nat_cmp}
use Rattle.std.specs.BTreeMap.{BTreeMap, get}
use Rattle.std.specs.FinMap as map
use Rattle.client_tokens.specs.declared.kept.Kept.{Kept}
use Rattle.client_tokens.specs.TokenMap.{TokenMap}
use Rattle.txn_ledger.specs.declared.record.Record.{Record}

module _ {A Q : Type 0} where
  -- a token's number was drawn, and where its record is there, that was begun with the token
  pub record IsLinked (records : BTreeMap ℕ (Record A Q)) (next : ℕ) (token : List ℕ) (kept : Kept (List A)) : Type 0 where
    pub drawn : kept.number < next
    pub begun : (r : Record A Q) → get nat_cmp records kept.number ≡ Some r → r.token ≡ Some token

  -- each kept token is so
  abbrev pub AreLinked : BTreeMap ℕ (Record A Q) → ℕ → TokenMap (List A) → Type 0
  AreLinked records next tokens =
      (token : List ℕ) (kept : Kept (List A)) → map.get tokens token ≡ Some kept → IsLinked records next token kept

  -- numbers that were not drawn have no record
  abbrev pub AreDrawn : BTreeMap ℕ (Record A Q) → ℕ → Type 0
  AreDrawn records next = (number : ℕ) → next ≤ number → get nat_cmp records number ≡ None
