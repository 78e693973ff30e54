use Rattle.std.proofs.Common.{rules, subst, ◌≡◌, ◌∙◌, ap, sym, Ok, Err}
use Rattle.std.specs.Option.{option_copied}
use Rattle.std.proofs.lemmas.Result.{IfOk-weaker}
use Rattle.table_schema.specs.declared.schema.Schema.{Schema}
use Rattle.table_items.specs.Effects.{table_at}
use Rattle.table_model.specs.declared.refusal.Refusal.TheVariants.{Invalid}
use Rattle.page_reads.specs.Sources.{source_in}
use Rattle.page_reads.specs.Starts.{refused_as, scan_start}
use Rattle.table_pages.proofs.Replies.{IsScanned, scan_begun}
use Rattle.table_pages.proofs.scans.scan_from.Goals as goal

pub returns-in-Err-clause-reply : goal.returns-in-Err-clause-reply
returns-in-Err-clause-reply g c = λ number.
    let kept = c.args.rows.now in
    let source = source_in c.args.source in
    let r = c.args.request.now in
    let begins : Err (Invalid c.in-Err.why) ≡ scan_start kept.schema r source =
    sym (ap refused_as c.in-Err.is) ∙ c.in_ok-why.ensures ∙ ap (λ (s : Schema). scan_start s r source) c.schema.ensures in
    scan_begun (table_at number kept) r source c.invalid.result (Err (Invalid c.in-Err.why)) begins c.invalid.ensures

pub returns-in-Ok-clause-reply : goal.returns-in-Ok-clause-reply
returns-in-Ok-clause-reply g c =
    let kept = c.args.rows.now in
    let source = source_in c.args.source in
    let r = c.args.request.now in
    let begins : Ok c.in-Ok.start ≡ scan_start kept.schema r source =
    sym (ap refused_as c.in-Ok.is) ∙ c.in_ok-why.ensures ∙ ap (λ (s : Schema). scan_start s r source) c.schema.ensures in
    let start : option_copied c.as_ref.result ≡ c.in-Ok.start = search rules in
    IfOk-weaker c.page_of-reply.result _ _
    (λ reply read number.
    scan_begun (table_at number kept) r source reply (Ok c.in-Ok.start) begins
    (subst (IsScanned (table_at number kept) r source reply) start (read number)))
    c.page_of-reply.ensures.reply
