-- What removing expired items adds to the history.
use Rattle.std.specs.Prelude.{◌≡◌, ◌⊎◌, ◌↔◌, ℕ, ◌≤◌, Bool, true, List, [], ◌∷◌, length, map, Some}
use Rattle.std.specs.List.{count_by, zip}
use Rattle.turnstile.specs.Passes.{PassView}
use Rattle.txn_core.specs.declared.message.Message.{Message}
use Rattle.txn_core.specs.declared.answer.Answer.{Answer}
use Rattle.txn_core.specs.History.{is_expired}
use Rattle.txn_core.specs.Service.{Service, Reply, Event}
use Rattle.cluster.specs.declared.step.StepError.{StepError}
use Rattle.cluster.specs.Events.{event_of}
use Rattle.cluster.specs.Counts.{Counts, CountsUntil}
use Rattle.recovery_manager.specs.declared.expiring.Expiry.{Expiry}

module _ {K V A F C D Q B : Type 0} (S : Service K V A F C D Q B) where
  -- what a pass counts where a partition lists keys of expired items, at most so many; and where the item of a key is removed if it
  -- is expired
  abbrev pub lists_expired : PassView (Event S) → ℕ → ℕ → List K → Event S
  lists_expired p limit cell keys = event_of p (Some cell) (Message.ExpiredKeys cell limit) (Answer.ExpiredList keys)

  abbrev pub expires : PassView (Event S) → K → Reply S → Event S
  expires p key a =
      event_of p (Some (S.core.cell_of (S.core.key_of (S.core.removal key)))) (Message.Expire (S.core.removal key)) a

  -- the same of the first keys, in order: as many as were answered
  abbrev pub expires_each : PassView (Event S) → List K → List (Reply S) → List (Event S)
  expires_each p keys answers = map (λ x. expires p x.0 x.1) (zip keys answers)

  -- how many of these answers tell that an item was removed
  abbrev pub removals : List (Reply S) → ℕ
  removals answers = count_by is_expired answers

  -- from p to q a partition listed these keys
  pub record ListsExpired (limit cell : ℕ) (p : PassView (Event S)) (keys : List K) (q : PassView (Event S)) : Type 0 where
    pub counts : Counts S p (lists_expired p limit cell keys ∷ []) 0 q
    pub few : length keys ≤ limit

  -- the item of a key was removed, or was not
  pub record ExpiresOne (key : K) (p : PassView (Event S)) (removed : Bool) (q : PassView (Event S)) : Type 0 where
    pub answer : Reply S
    pub counts : Counts S p (expires p key answer ∷ []) 0 q
    pub is : removed ≡ is_expired answer

  -- the first of these keys were tried, so many, and so many items were removed
  pub record ExpiresFirst (done : ℕ) (keys : List K) (p : PassView (Event S)) (removed : ℕ) (q : PassView (Event S)) : Type 0 where
    pub answers : List (Reply S)
    pub many : length answers ≡ done
    pub counts : Counts S p (expires_each p keys answers) 0 q
    pub count : removed ≡ removals answers

  abbrev pub ExpiresAll : List K → PassView (Event S) → ℕ → PassView (Event S) → Type 0
  ExpiresAll keys p removed q = ExpiresFirst (length keys) keys p removed q

  -- some of them were, and then an error came
  pub record ExpiresSome (keys : List K) (p : PassView (Event S)) (why : StepError) (q : PassView (Event S)) : Type 0 where
    pub answers : List (Reply S)
    pub few : length answers ≤ length keys
    pub counts : CountsUntil S p (expires_each p keys answers) why q

  -- the partition listed keys, at most `limit`, and one removal was sent for each of them, in order: nothing else was counted
  pub record Expires (limit cell : ℕ) (p : PassView (Event S)) (expiry : Expiry) (q : PassView (Event S)) : Type 0 where
    pub keys : List K
    pub few : length keys ≤ limit
    pub answers : List (Reply S)
    pub many : length answers ≡ length keys
    pub counts : Counts S p (lists_expired p limit cell keys ∷ expires_each p keys answers) 0 q
    pub removed : expiry.removed ≡ removals answers
    pub more : expiry.more ≡ true ↔ (length keys ≡ limit)

  -- an error came before the list, or behind it and the removals of some of its keys
  abbrev pub IsCutOff : ℕ → ℕ → PassView (Event S) → List (Event S) → Type 0
  IsCutOff limit cell p own =
      (own ≡ [])
      ⊎ ((keys : List K) × (answers : List (Reply S)) × (length keys ≤ limit) × (length answers ≤ length keys)
      × (own ≡ lists_expired p limit cell keys ∷ expires_each p keys answers))

  pub record ExpiresPartly (limit cell : ℕ) (p : PassView (Event S)) (why : StepError) (q : PassView (Event S)) : Type 0 where
    pub own : List (Event S)
    pub counts : CountsUntil S p own why q
    pub is : IsCutOff limit cell p own
