-- What a call changes in an outbox.
use Rattle.std.specs.Prelude.{◌≡◌, ◌+◌, drop, if◌then◌else◌}
use Rattle.std.specs.Prelude.{ℕ}
use Rattle.global_index.specs.declared.outbox.Outbox.{Outbox}
use Rattle.global_index.specs.Outboxes.{has_first}

module _ {K V : Type 0} where
  -- the same changes wait under the same numbers
  pub record Same (s t : Outbox K V) : Type 0 where
    pub waiting : t.waiting.items ≡ s.waiting.items
    pub sent : t.sent ≡ s.sent

  -- the first goes, where it has this number
  pub record Acknowledges (s t : Outbox K V) (sequence : ℕ) : Type 0 where
    pub waiting : t.waiting.items ≡ (if has_first s.sent s.waiting.items sequence then drop 1 s.waiting.items else s.waiting.items)
    pub sent : t.sent ≡ (if has_first s.sent s.waiting.items sequence then s.sent + 1 else s.sent)
