-- When an answer may be told that was given otherwise.
use Rattle.std.specs.Prelude.{◌≡◌, ◌↔◌, ℕ, Bool, true, false, IsTrue}
use Rattle.txn_core.specs.declared.message.Message.{Message}
use Rattle.txn_core.specs.Service.{Service, Asked, Reply, History}
use Rattle.txn_core.specs.Legal.{IsAnswer}

abbrev pub is_pendings : {K V A F D Q : Type 0} → Message K V A F D Q → Bool
is_pendings (Message.Pendings cell) = true
is_pendings _ = false

-- of every history of which the one answer is, the other one is exactly where this is true; it is the same one then, or a list of
-- held items
pub record IsToldSo {K V A F C D Q B : Type 0} (S : Service K V A F C D Q B) (m : Asked S) (given told : Reply S) (right : Bool) : Type 0 where
  pub alike : (es : History S) (moment : ℕ) → IsAnswer S es moment m given → IsTrue right ↔ IsAnswer S es moment m told
  pub same : IsTrue right → is_pendings m ≡ false → given ≡ told
