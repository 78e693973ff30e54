use Rattle.std.proofs.Common.{◌≡◌, ◌++◌, None, ap, ◌∙◌}
use Rattle.std.proofs.lemmas.Result.{IfOk-weaker}
use Rattle.json.specs.Print.{print}
use Rattle.json.specs.Tree.{json_tokens}
use Rattle.serde_json.specs.Written.{compact_text, outline}
use Rattle.serde_json.proofs.Texts.{print-outline}
use Rattle.table_model.specs.declared.reply.Reply.{Reply}
use Rattle.api_reply.specs.Bodies.{body_of, consumption, data_of, told}
use Rattle.api_reply.specs.Capacity.{with_consumed}
use Rattle.api_reply.proofs.reply.body.Goals as goal

-- a reply that tells nothing of capacity
untold : (r : Reply) → consumption r ≡ None → body_of r ≡ compact_text (data_of r)
untold r none = ap (λ consumed. print (json_tokens (with_consumed consumed (outline (data_of r))))) none ∙ print-outline (data_of r)

pub returns-clause-text : goal.returns-clause-text
returns-clause-text c =
    let tokens = c.in_ok-write_reply.ensures.tokens ∙ ap (λ ts. ts ++ json_tokens (told c.args.reply.now)) c.new-writer.ensures.tokens in
    IfOk-weaker c.printed.result _ _ (λ text e. e ∙ ap print tokens) c.printed.ensures

pub returns-clause-nothing_consumed : goal.returns-clause-nothing_consumed
returns-clause-nothing_consumed c =
    let tokens = c.in_ok-write_reply.ensures.tokens ∙ ap (λ ts. ts ++ json_tokens (told c.args.reply.now)) c.new-writer.ensures.tokens in
    IfOk-weaker c.printed.result _ _ (λ text e none. e ∙ ap print tokens ∙ untold c.args.reply.now none) c.printed.ensures
