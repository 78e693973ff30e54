use Rattle.std.proofs.Common.{refl}
use Rattle.std.proofs.lemmas.Result.{IfOk-weaker}
use Rattle.txn_core.specs.declared.message.Message.{Message}
use Rattle.partition.proofs.Entries.{answered, stands}
use Rattle.partition.proofs.Paged.{page_answered}
use Rattle.txn_replay.proofs.Asked.{copied}
use Rattle.txn_replay.proofs.asking.ask_partition.Goals as goal

pub returns-in-QueryPage-clause-answers : goal.returns-in-QueryPage-clause-answers
returns-in-QueryPage-clause-answers g c =
    let cell = c.args.cell.now in
    IfOk-weaker c.page.result _ _
    (λ a h n.
    let S = g.R.Rules.protocol n in
    answered S cell cell c.args.message.now (Message.QueryPage c.in-QueryPage.asked) c.in-QueryPage.is (S.page_cell c.in-QueryPage.asked) refl
    g.R.CellRules.locals c.args.moment a
    (λ es st step. page_answered S (g.met.R.Rules.lawful n) g.R.CellRules.locals cell c.in-QueryPage.asked a es (h n) st step))
    c.page.ensures

pub returns-in-QueryPage-clause-stands : goal.returns-in-QueryPage-clause-stands
returns-in-QueryPage-clause-stands g c =
    let cell = c.args.cell.now in
    IfOk-weaker c.page.result _ _
    (λ a h n.
    let S = g.R.Rules.protocol n in
    stands S cell cell c.args.message.now (Message.QueryPage c.in-QueryPage.asked) c.in-QueryPage.is (S.page_cell c.in-QueryPage.asked) refl
    c.args.moment a (λ w f here. here))
    c.page.ensures

pub returns-in-ScanPage-clause-answers : goal.returns-in-ScanPage-clause-answers
returns-in-ScanPage-clause-answers g c =
    let cell = c.args.cell.now in
    IfOk-weaker c.page-in-ScanPage.result _ _
    (λ a h n.
    let S = g.R.Rules.protocol n in
    answered S cell cell c.args.message.now (Message.ScanPage c.in-ScanPage.asked) c.in-ScanPage.is (S.page_cell c.in-ScanPage.asked) refl
    g.R.CellRules.locals c.args.moment a
    (λ es st step. page_answered S (g.met.R.Rules.lawful n) g.R.CellRules.locals cell c.in-ScanPage.asked a es (h n) st step))
    c.page-in-ScanPage.ensures

pub returns-in-ScanPage-clause-stands : goal.returns-in-ScanPage-clause-stands
returns-in-ScanPage-clause-stands g c =
    let cell = c.args.cell.now in
    IfOk-weaker c.page-in-ScanPage.result _ _
    (λ a h n.
    let S = g.R.Rules.protocol n in
    stands S cell cell c.args.message.now (Message.ScanPage c.in-ScanPage.asked) c.in-ScanPage.is (S.page_cell c.in-ScanPage.asked) refl
    c.args.moment a (λ w f here. here))
    c.page-in-ScanPage.ensures

pub step_copied-requires-clause-copied : goal.step_copied-requires-clause-copied
step_copied-requires-clause-copied g c =
    copied (g.R.Rules.protocol 0) c.args.cell.now.partitions c.args.message.now c.requires.served c.in_default.not-QueryPage
    c.in_default.not-ScanPage
