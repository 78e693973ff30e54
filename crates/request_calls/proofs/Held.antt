-- A try of one write that was told of a conflict was in vain.
use Rattle.std.proofs.Common.{◌≡◌, ℕ, true}
use Rattle.turnstile.specs.Passes.{PassView}
use Rattle.table_request.specs.declared.request.Request.{Request}
use Rattle.table_request.specs.declared.request.Request.TheVariants as request
use Rattle.table_model.specs.declared.reply.Reply.TheVariants.{Refused}
use Rattle.table_model.specs.declared.refusal.Refusal.TheVariants.{Conflict}
use Rattle.table_history.specs.Entries.{TableEvent}
use Rattle.cell_asks.specs.declared.tried.Tried.{Tried}
use Rattle.cell_asks.specs.Steps.{IsInVain}
use Rattle.item_calls.proofs.Held.{held_in_vain}
use Rattle.request_calls.specs.Requests.{is_single_write, IsTry}

module _ (n : ℕ) (p : PassView TableEvent) where
  pub conflict_in_vain : (asked : Request) (number : ℕ) (q : PassView TableEvent) → is_single_write asked ≡ true
      → IsTry n p asked (Tried.Reply (Refused (Conflict number))) q → IsInVain n p q
  conflict_in_vain (request.PutItem r) number q single it = held_in_vain n p (request.PutItem r) number q it
  conflict_in_vain (request.UpdateItem r) number q single it = held_in_vain n p (request.UpdateItem r) number q it
  conflict_in_vain (request.DeleteItem r) number q single it = held_in_vain n p (request.DeleteItem r) number q it
  conflict_in_vain _ number q single it = absurd (cc)
