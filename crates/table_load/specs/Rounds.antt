-- Rounds of requests, one place after another.
use Rattle.std.specs.Prelude.{◌≡◌, ◌≢◌, ◌⊎◌, ℕ, zero, suc, ◌%◌, List, codes}
use Rattle.turnstile.specs.Passes.{PassView}
use Rattle.table_history.specs.Entries.{TableEvent}
use Rattle.table_model.specs.declared.reply.Reply.{Reply}
use Rattle.table_model.specs.declared.reply.Reply.TheVariants.{Described, Written}
use Rattle.transact_calls.specs.declared.write.Transacted.{Transacted}
use Rattle.load_gen.specs.Bodies.{setup_body}
use Rattle.table_load.specs.Sending.{Asks, Sends, IsMade, IsBegun}

-- from p to q this was done for each place below so many, in order
abbrev pub InOrder : (ℕ → PassView TableEvent → PassView TableEvent → Type 0) → ℕ → PassView TableEvent → PassView TableEvent → Type 0
InOrder Does zero p q = q ≡ p
InOrder Does (suc place) p q = (mid : PassView TableEvent) × InOrder Does place p mid × Does place mid q

module _ (n start : ℕ) where
  -- the transfer at the place was sent, and begun
  pub record SendsOnce (place : ℕ) (p q : PassView TableEvent) : Type 0 where
    pub end : Transacted
    pub sends : Sends n p start place end q
    pub begun : IsBegun end

  -- the transfer at the place was sent, and made, then or before
  pub record Makes (place : ℕ) (p q : PassView TableEvent) : Type 0 where
    pub end : Transacted
    pub sends : Sends n p start place end q
    pub made : IsMade end

  -- of the share of a client, one of so many: each transfer of it once; nothing for others'
  abbrev pub SendsShare : (clients number : ℕ) → ℕ → PassView TableEvent → PassView TableEvent → Type 0
  SendsShare clients number place p q =
      ((place % clients ≡ number) × SendsOnce place p q) ⊎ ((place % clients ≢ number) × (q ≡ p))

-- ---- the bank

-- what tells the operation of a request that makes it
abbrev pub setup_target : ℕ → List ℕ
setup_target zero = codes "DynamoDB_20120810.CreateTable"
setup_target (suc account) = codes "DynamoDB_20120810.PutItem"

-- a table was made, or an item was put
abbrev pub IsSetUp : Reply → Type 0
IsSetUp (Described schema) = Unit {0}
IsSetUp (Written shown consumed) = Unit {0}
IsSetUp _ = ⊥

-- the request at the place was answered so
pub record SetsUp (n place : ℕ) (p q : PassView TableEvent) : Type 0 where
  pub reply : Reply
  pub asks : Asks n p (setup_target place) (setup_body place) reply q
  pub is : IsSetUp reply
