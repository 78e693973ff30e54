use Rattle.std.proofs.Common.{subst}
use Rattle.page_reads.specs.Sources.{source_in}
use Rattle.cell_asks.proofs.Trails.{no_memory}
use Rattle.page_calls.specs.Steps.{asked_of, GatheredOrGone}
use Rattle.page_calls.proofs.OnePage.{reads_page}
use Rattle.page_calls.proofs.Parts.{gathered_untold}
use Rattle.page_calls.proofs.read.read_page.Goals as goal

pub returns-in_err-reply-in-Some-clause-err : goal.returns-in_err-reply-in-Some-clause-err
returns-in_err-reply-in-Some-clause-err g c =
    let n = g.C.Asks.count c.args.cells.now in
    let p = g.C.Asks.seen c.args.pass.now in
    let begun = c.args.beginning in
    no_memory c.from_residual-in_err-reply-in-Some.result _ c.from_residual-in_err-reply-in-Some.ensures.1
    (gathered_untold n p begun.first begun.behind c.in-Some.gathered (g.C.Asks.seen c.gather.new.pass)
    (subst (λ o. GatheredOrGone n p begun.first begun.behind o (g.C.Asks.seen c.gather.new.pass)) c.in-Some.is c.in_ok-gathered.ensures.ok))

pub returns-in_ok-reply-in-Some-clause-ok : goal.returns-in_ok-reply-in-Some-clause-ok
returns-in_ok-reply-in-Some-clause-ok g c =
    let n = g.C.Asks.count c.args.cells.now in
    let p = g.C.Asks.seen c.args.pass.now in
    let q = g.C.Asks.seen c.gather.new.pass in
    let begun = c.args.beginning in
    let look = c.args.look.now in
    let source = source_in c.args.source in
    reads_page n p look (asked_of c.args.asked) source c.requires.source begun.first begun.behind c.requires.begins c.in-Some.gathered q
    (subst (λ o. GatheredOrGone n p begun.first begun.behind o q) c.in-Some.is c.in_ok-gathered.ensures.ok) c.page.result.now c.page.ensures
    c.in_ok-reply-in-Some.field-0 c.in_ok-reply-in-Some.ensures
