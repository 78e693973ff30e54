use Rattle.std.proofs.Common.{[], refl, inl}
use Rattle.txn_core.specs.declared.message.Message.{Message}
use Rattle.cell_model.specs.declared.question.CatalogQuestion.TheVariants.{Page}
use Rattle.cell_asks.proofs.Trails.{no_memory, not_told, vain_on}
use Rattle.page_calls.proofs.gather.ask_part.Goals as goal

pub returns-in_err-add_part-in-Some-clause-err : goal.returns-in_err-add_part-in-Some-clause-err
returns-in_err-add_part-in-Some-clause-err g c =
    no_memory c.from_residual-in_err-add_part-in-Some.result _ c.from_residual-in_err-add_part-in-Some.ensures.1
    (not_told (g.C.Asks.count c.args.cells.now) (g.C.Asks.seen c.args.pass.now) _ _ _ c.in_ok-part.ensures.ok refl)

pub returns-in-None-clause-ok : goal.returns-in-None-clause-ok
returns-in-None-clause-ok g c =
    let p = g.C.Asks.seen c.args.pass.now in
    vain_on (g.C.Asks.count c.args.cells.now) p [] p (inl refl) (Message.ScanPage (Page c.args.question)) _ _ c.in_ok-part.ensures.ok refl
