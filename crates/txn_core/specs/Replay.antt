-- Words for the replay of a history.
use Rattle.std.specs.Prelude.{◌≡◌, ◌⊎◌, ℕ, false, All, Bool, true, not, ◌&&◌, nat_eq, List, [], ◌∷◌, Option, Some, if◌then◌else◌}
use Rattle.std.specs.List.{list_any}
use Rattle.txn_core.specs.declared.stamp.Stamp.{Stamp}
use Rattle.txn_core.specs.declared.reason.Reason.{Reason}
use Rattle.txn_core.specs.declared.message.Message.{Message}
use Rattle.txn_core.specs.declared.answer.Answer.{Answer}
use Rattle.txn_core.specs.declared.fact.Fact.{Fact}
use Rattle.txn_core.specs.declared.fact.Fact.TheVariants.{Begun, Committed, Cancelled, Finished, Forgotten, NoTable}
use Rattle.txn_core.specs.declared.fact.ItemFact.{ItemFact}
use Rattle.txn_core.specs.declared.fact.ItemFact.TheVariants.{Accepted, Applied, Released}
use Rattle.txn_core.specs.declared.entry.Entry.{Entry}
use Rattle.txn_core.specs.Protocol.{Protocol}
use Rattle.txn_core.specs.Service.{Service, Asked, Reply, Event, History}
use Rattle.txn_core.specs.Serial.{begun_actions}
use Rattle.txn_core.specs.Effects.{Effect}
use Rattle.txn_core.specs.History.{reason_of, effects, Had, begins, commits, cancels, finishes, forgets, finds_no_table}
use Rattle.txn_core.specs.Legal.{accepts, applies, releases, prepares}

-- an entry tells this of a number
abbrev pub tells : {K V A F D Q B : Type 0} → Fact → ℕ → Message K V A F D Q → Answer K V A F B → Bool
tells Begun n m a = begins n m a
tells Committed n m a = commits n m a
tells Cancelled n m a = cancels n m a
tells Finished n m a = finishes n m a
tells Forgotten n m a = forgets n m a
tells NoTable n m a = finds_no_table n m a

-- a PeekOut of the source, answered with exactly this change
abbrev pub Shows : {K V A F D Q B : Type 0} → ℕ → ℕ → ℕ → ℕ → K → Option V → Entry K V A F D Q B → Type 0
Shows source sequence index target row_key after e =
    (e.message ≡ Message.PeekOut source) × (e.answer ≡ Answer.Out sequence index target row_key after)

module _ {K V A F C D Q B : Type 0} (S : Service K V A F C D Q B) where
  -- and of a number on an item
  abbrev pub tells_on : ItemFact → ℕ → K → Asked S → Reply S → Bool
  tells_on Accepted n k m a = accepts S n k m a
  tells_on Applied n k m a = applies S n k m a
  tells_on Released n k m a = releases S n k m a

  -- it was told of the number on the item of each of these actions
  abbrev pub HadOnEach : ItemFact → ℕ → List A → History S → Type 0
  HadOnEach fact n actions es = All (λ x. Had (tells_on fact n (S.core.key_of x)) es) actions

  -- the number was decided so, and this was told of it on each item
  abbrev pub IsFinishable : Fact → ItemFact → ℕ → History S → Type 0
  IsFinishable decided ended n es = Had (tells decided n) es × HadOnEach ended n (begun_actions (effects es) n) es

  -- it was committed and applied on each item, or cancelled and released on each
  abbrev pub IsSettled : ℕ → History S → Type 0
  IsSettled n es = IsFinishable Committed Applied n es ⊎ IsFinishable Cancelled Released n es

  -- a Prepare of the number on the item, answered with this reason
  abbrev pub RefusesWith : ℕ → K → Reason V F → Event S → Type 0
  RefusesWith n k reason e = (prepares S n k e.message ≡ true) × (reason_of e.answer ≡ Some reason)

  -- one of the actions is on the item
  abbrev pub touch : List A → K → Bool
  touch actions k = list_any (λ x. S.core.same k (S.core.key_of x)) actions

-- the stamp and the actions with which a number was begun, where the effect begins it, else the older ones
abbrev pub stamp_by : {K A D : Type 0} → ℕ → Effect K A D → Stamp → Stamp
stamp_by n (Effect.Begun stamp actions) older = if nat_eq stamp.number n then stamp else older
stamp_by n _ older = older

abbrev pub actions_by : {K A D : Type 0} → ℕ → Effect K A D → List A → List A
actions_by n (Effect.Begun stamp actions) older = if nat_eq stamp.number n then actions else older
actions_by n _ older = older

-- no two of the actions are on one item
abbrev pub are_apart : {K V A F C D : Type 0} → Protocol K V A F C D → List A → Bool
are_apart P [] = true
are_apart P (x ∷ xs) = not (list_any (λ y. P.same (P.key_of x) (P.key_of y)) xs) && are_apart P xs

abbrev pub is_command : {K V A F D Q : Type 0} → Message K V A F D Q → Bool
is_command (Message.Command d) = true
is_command _ = false
