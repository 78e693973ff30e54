-- A try of a write that was told of a conflict bound nothing.
use Rattle.std.proofs.Common.{ℕ, refl, ap, inl, inr}
use Rattle.turnstile.specs.Passes.{PassView}
use Rattle.txn_core.specs.declared.message.Message.{Message}
use Rattle.txn_core.specs.History.{is_written}
use Rattle.table_request.specs.declared.request.Request.{Request}
use Rattle.table_model.specs.declared.reply.Reply.TheVariants.{Refused}
use Rattle.table_model.specs.declared.refusal.Refusal.TheVariants.{Conflict}
use Rattle.cell_model.specs.declared.question.CatalogQuestion.TheVariants.{Look}
use Rattle.table_history.specs.Entries.{TableEvent}
use Rattle.cell_asks.specs.declared.tried.Tried.{Tried}
use Rattle.cell_asks.specs.Steps.{IsInVain}
use Rattle.cell_asks.specs.Answers.{look_answer}
use Rattle.cell_asks.proofs.Trails.{vain_on}
use Rattle.item_calls.specs.Items.{table_asked, IsWriteTry}

module _ (n : ℕ) (p : PassView TableEvent) (asked : Request) (number : ℕ) (q : PassView TableEvent) where
  pub held_in_vain : IsWriteTry n p asked (Tried.Reply (Refused (Conflict number))) q → IsInVain n p q
  held_in_vain (inl refused) =
      vain_on n p (table_asked asked) p (inl refl) (Message.Ask (Look (table_asked asked))) (look_answer refused.told) q refused.look refl
  held_in_vain (inr it) =
      vain_on n p (table_asked asked) it.mid it.looked (Message.Write it.action) it.answer q it.wrote (ap is_written (it.held number refl))
