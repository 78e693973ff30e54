use Rattle.std.proofs.Common.{◌++◌, ap, ◌∙◌}
use Rattle.std.proofs.lemmas.Result.{IfOk-weaker}
use Rattle.json.specs.Print.{print}
use Rattle.serde_json.proofs.Texts.{print-outline}
use Rattle.attr_json.specs.Text.{tokens_of}
use Rattle.api_reply.specs.Edge.{edge_kind, edge_message}
use Rattle.api_reply.specs.Errors.{error}
use Rattle.api_reply.proofs.reply.refusal_body.Goals as goal

pub returns : goal.returns
returns c =
    let d = error (edge_kind c.args.refusal.now) (edge_message c.args.refusal.now) in
    let written = rw (c.edge_kind.ensures, c.as_str.ensures.value, c.in_ok-message.ensures) at c.in_ok-write_error.ensures.tokens in
    let tokens = written ∙ ap (λ ts. ts ++ tokens_of d) c.new-writer.ensures.tokens in
    IfOk-weaker c.printed.result _ _ (λ text e. e ∙ ap print tokens ∙ print-outline d) c.printed.ensures
