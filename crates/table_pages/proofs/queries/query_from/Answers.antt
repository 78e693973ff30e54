use Rattle.std.proofs.Common.{rules, subst, ◌≡◌, ◌∙◌, ap, sym, Ok, Err}
use Rattle.std.specs.Option.{option_copied}
use Rattle.std.proofs.lemmas.Result.{IfOk-weaker}
use Rattle.table_schema.specs.declared.schema.Schema.{Schema}
use Rattle.table_items.specs.Effects.{table_at}
use Rattle.table_model.specs.declared.refusal.Refusal.TheVariants.{Invalid}
use Rattle.page_reads.specs.Sources.{source_in}
use Rattle.page_reads.specs.Starts.{refused_as, query_start}
use Rattle.table_pages.proofs.Replies.{IsQueried, query_begun}
use Rattle.table_pages.proofs.queries.query_from.Goals as goal

pub returns-in-Err-clause-reply : goal.returns-in-Err-clause-reply
returns-in-Err-clause-reply g c = λ number.
    let kept = c.args.rows.now in
    let source = source_in c.args.source in
    let r = c.args.request.now in
    let begins : Err (Invalid c.in-Err.why) ≡ query_start kept.schema r source =
    sym (ap refused_as c.in-Err.is) ∙ c.in_ok-why.ensures.start ∙ ap (λ (s : Schema). query_start s r source) c.schema.ensures in
    query_begun (table_at number kept) r source c.invalid.result (Err (Invalid c.in-Err.why)) begins c.invalid.ensures

pub returns-in-Ok-clause-reply : goal.returns-in-Ok-clause-reply
returns-in-Ok-clause-reply g c =
    let kept = c.args.rows.now in
    let source = source_in c.args.source in
    let r = c.args.request.now in
    let begins : Ok c.in-Ok.begun ≡ query_start kept.schema r source =
    sym (ap refused_as c.in-Ok.is) ∙ c.in_ok-why.ensures.start ∙ ap (λ (s : Schema). query_start s r source) c.schema.ensures in
    let start : option_copied c.as_ref.result ≡ c.in-Ok.begun.start = search rules in
    IfOk-weaker c.page_of-reply.result _ _
    (λ reply read number.
    query_begun (table_at number kept) r source reply (Ok c.in-Ok.begun) begins
    (subst (IsQueried (table_at number kept) r source reply) start (read number)))
    c.page_of-reply.ensures.reply
