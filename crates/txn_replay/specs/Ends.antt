-- How a replay ends.
use Rattle.std.specs.Prelude.{ℕ, ◌+◌, ◌<◌, MatchOption, length, reverse, take, List, [], ◌∷◌, Option, None, Some, Result, Ok, Err}
use Rattle.txn_core.specs.declared.entry.Entry.{Entry}
use Rattle.txn_core.specs.declared.replay.Break.{Break}
use Rattle.txn_core.specs.declared.kind.BreakKind.TheVariants.{WrongAnswer}
use Rattle.txn_core.specs.Service.{Service, History}
use Rattle.txn_core.specs.Legal.{IsLegal}
use Rattle.txn_core.specs.Breaks.{AllKeep, IsFirstBreak, in_order, of_sending}
use Rattle.txn_replay.specs.declared.replay.ReplayEnd.{ReplayEnd}

-- how many entries stand up to a break, and all of them where there is none
abbrev pub ends_at : ℕ → Option Break → ℕ
ends_at many None = many
ends_at many (Some found) = found.place + 1

-- well where the entries, in order of time, are a legal history; with a break exactly at the first place at which they
-- stop being one, of the first kind in the order of rules; or for want of memory
abbrev pub EndsRight : {K V A F C D Q B : Type 0} → Service K V A F C D Q B → List (Entry K V A F D Q B) → Result Unit ReplayEnd → Type 0
EndsRight S entries (Ok done) = IsLegal S (reverse entries)
EndsRight S entries (Err (ReplayEnd.Break found)) = IsFirstBreak S in_order entries found.place found.kind
EndsRight S entries (Err ReplayEnd.NoMemory) = Unit {0}

module _ {K V A F C D Q B : Type 0} (S : Service K V A F C D Q B) where
  -- each of these entries, in order of time, may be sent, but for the last one
  abbrev pub MayBeSent : History S → Type 0
  MayBeSent entries = (place : ℕ) → place < length entries → AllKeep S of_sending (reverse (take place entries))

  -- the first place at which the rule of answers is broken, if it is
  abbrev pub IsFirstWrong : History S → Option ℕ → Type 0
  IsFirstWrong entries found =
      MatchOption found (AllKeep S (WrongAnswer ∷ []) (reverse entries))
      (λ place. IsFirstBreak S (WrongAnswer ∷ []) entries place WrongAnswer)
