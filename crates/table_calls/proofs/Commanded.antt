-- The reply to a request by its command's answer is the one that is right.
use Rattle.std.proofs.Common.{◌≡◌, ℕ, List, Some, refl, sym}
use Rattle.table_request.specs.declared.request.Request.{Request}
use Rattle.table_model.specs.declared.reply.Reply.{Reply}
use Rattle.turnstile.specs.Passes.{PassView}
use Rattle.txn_core.specs.declared.message.Message.{Message}
use Rattle.txn_core.specs.declared.answer.Answer.{Answer}
use Rattle.cell_model.specs.declared.command.CatalogCommand.{CatalogCommand}
use Rattle.cell_model.proofs.Numbers.{some_parts}
use Rattle.table_history.specs.Entries.{TableEvent}
use Rattle.table_history.specs.CommandEffects.{command_of, reply_to}
use Rattle.table_history.proofs.CommandEffects.{commands_are_effects}
use Rattle.cell_asks.specs.Answers.{ruled_answer}
use Rattle.cell_asks.specs.Steps.{answered, One, past_of}
use Rattle.cell_asks.specs.declared.asks.Ruled.{Ruled}
use Rattle.table_calls.specs.Commands.{IsCommanded}
use Rattle.table_calls.specs.Replies.{ruled_reply}
use Rattle.cell_asks.proofs.Histories.{legal_with}

module _ (n : ℕ) (p : PassView TableEvent) (q : PassView TableEvent) (asked : Request) (name : List ℕ) (command : CatalogCommand)
    (its : command_of asked ≡ Some command) where
  pub commanded : (ruled : Ruled) → One n p (Message.Command command) (ruled_answer ruled) q → (reply : Reply)
      → ruled_reply name (reply_to asked p.moment) ruled ≡ Some reply → IsCommanded n p asked name reply q
  commanded (Ruled.Changed told) own reply is = record {
    command = command;
    its = its;
    answer = Answer.Changed told;
    own = own;
    is = λ db stands.
        commands_are_effects n (past_of own) (answered n p (Message.Command command) (Answer.Changed told))
        (legal_with n p (Message.Command command) (Answer.Changed told) q own) asked command its refl reply is db stands;
  }
  commanded (Ruled.Refused told) own reply is = record {
    command = command;
    its = its;
    answer = Answer.Refused told;
    own = own;
    is = λ db stands.
        commands_are_effects n (past_of own) (answered n p (Message.Command command) (Answer.Refused told))
        (legal_with n p (Message.Command command) (Answer.Refused told) q own) asked command its refl reply is db stands;
  }
  commanded (Ruled.Held number) own reply is = record {
    command = command;
    its = its;
    answer = Answer.Held number;
    own = own;
    is = sym (some_parts _ reply is);
  }
