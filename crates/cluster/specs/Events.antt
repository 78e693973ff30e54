-- What an entry of the one history says, and how a history that grows at its end is one of the protocol.
use Rattle.std.specs.Prelude.{ℕ, Option, None}
use Rattle.turnstile.specs.Passes.{PassView}
use Rattle.txn_core.specs.declared.message.Message.{Message}
use Rattle.txn_core.specs.declared.answer.Answer.{Answer}
use Rattle.txn_core.specs.declared.entry.Entry.{Entry}

module _ {K V A F D Q B : Type 0} where
  abbrev pub pass_of : Entry K V A F D Q B → ℕ
  pass_of e = e.pass

  abbrev pub moment_of : Entry K V A F D Q B → ℕ
  moment_of e = e.moment

  -- none where it is over all cells
  abbrev pub cell_of : Entry K V A F D Q B → Option ℕ
  cell_of e = e.cell

  -- what a pass counts at its moment
  abbrev pub event_of : PassView (Entry K V A F D Q B) → Option ℕ → Message K V A F D Q → Answer K V A F B → Entry K V A F D Q B
  event_of p cell m a = record { pass = p.number; cell = cell; message = m; answer = a; moment = p.moment }

  abbrev pub some_event : Entry K V A F D Q B
  some_event = record { pass = 0; cell = None; message = Message.Unfinished; answer = Answer.Empty; moment = 0 }
