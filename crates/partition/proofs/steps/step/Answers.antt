use Rattle.std.proofs.Common.{refl, sym, ap, ◌∙◌}
use Rattle.std.proofs.lemmas.Result.{IfOk-weaker, on_err_weaker}
use Rattle.txn_core.specs.declared.message.Message.{Message}
use Rattle.txn_core.specs.Feeding.{feed_after}
use Rattle.txn_core.specs.Legal.{state}
use Rattle.partition.proofs.Entries.{answered, keeps, on_err, stands}
use Rattle.partition.specs.Steps.{is_served}
use Rattle.partition.proofs.Expired.{expired_listed}
use Rattle.partition.proofs.Paged.{page_answered}
use Rattle.partition.proofs.steps.step.Goals as goal

pub returns-in-Get-clause-answers : goal.returns-in-Get-clause-answers
returns-in-Get-clause-answers g c = IfOk-weaker c.get.result _ _ (λ a h n. answered (g.R.Rules.protocol n) c.args.cell.now c.args.cell.now c.args.message (Message.Get c.in-Get.key) c.in-Get.is ((g.R.Rules.protocol n).core.cell_of c.in-Get.key) refl g.R.CellRules.locals c.args.moment a (λ es st step. h n (state (g.R.Rules.protocol n) es) (feed_after (g.R.Rules.protocol n) es) st)) c.get.ensures

pub returns-in-Get-clause-stands : goal.returns-in-Get-clause-stands
returns-in-Get-clause-stands g c = IfOk-weaker c.get.result _ _ (λ a h n. stands (g.R.Rules.protocol n) c.args.cell.now c.args.cell.now c.args.message (Message.Get c.in-Get.key) c.in-Get.is ((g.R.Rules.protocol n).core.cell_of c.in-Get.key) refl c.args.moment a (λ w f here. here)) c.get.ensures

pub returns-in-Get-clause-err : goal.returns-in-Get-clause-err
returns-in-Get-clause-err g c = on_err c.get.result (λ n. keeps (g.R.Rules.protocol n) c.args.cell.now c.args.cell.now c.args.message (Message.Get c.in-Get.key) c.in-Get.is ((g.R.Rules.protocol n).core.cell_of c.in-Get.key) refl (λ w f here. here))

pub returns-in-ReadVersion-clause-answers : goal.returns-in-ReadVersion-clause-answers
returns-in-ReadVersion-clause-answers g c = IfOk-weaker c.read_version.result _ _ (λ a h n. answered (g.R.Rules.protocol n) c.args.cell.now c.args.cell.now c.args.message (Message.ReadVersion c.in-ReadVersion.key) c.in-ReadVersion.is ((g.R.Rules.protocol n).core.cell_of c.in-ReadVersion.key) refl g.R.CellRules.locals c.args.moment a (λ es st step. h n (state (g.R.Rules.protocol n) es) (feed_after (g.R.Rules.protocol n) es) st)) c.read_version.ensures

pub returns-in-ReadVersion-clause-stands : goal.returns-in-ReadVersion-clause-stands
returns-in-ReadVersion-clause-stands g c = IfOk-weaker c.read_version.result _ _ (λ a h n. stands (g.R.Rules.protocol n) c.args.cell.now c.args.cell.now c.args.message (Message.ReadVersion c.in-ReadVersion.key) c.in-ReadVersion.is ((g.R.Rules.protocol n).core.cell_of c.in-ReadVersion.key) refl c.args.moment a (λ w f here. here)) c.read_version.ensures

pub returns-in-ReadVersion-clause-err : goal.returns-in-ReadVersion-clause-err
returns-in-ReadVersion-clause-err g c = on_err c.read_version.result (λ n. keeps (g.R.Rules.protocol n) c.args.cell.now c.args.cell.now c.args.message (Message.ReadVersion c.in-ReadVersion.key) c.in-ReadVersion.is ((g.R.Rules.protocol n).core.cell_of c.in-ReadVersion.key) refl (λ w f here. here))

pub returns-in-Write-clause-answers : goal.returns-in-Write-clause-answers
returns-in-Write-clause-answers g c = IfOk-weaker c.write.result _ _ (λ a h n. answered (g.R.Rules.protocol n) c.args.cell.now c.write.new.cell c.args.message (Message.Write c.in-Write.action) c.in-Write.is ((g.R.Rules.protocol n).core.cell_of ((g.R.Rules.protocol n).core.key_of c.in-Write.action)) refl g.R.CellRules.locals c.args.moment a (λ es st step. h n (state (g.R.Rules.protocol n) es) (feed_after (g.R.Rules.protocol n) es) st)) c.write.ensures.says

pub returns-in-Write-clause-stands : goal.returns-in-Write-clause-stands
returns-in-Write-clause-stands g c = IfOk-weaker c.write.result _ _ (λ a h n. stands (g.R.Rules.protocol n) c.args.cell.now c.write.new.cell c.args.message (Message.Write c.in-Write.action) c.in-Write.is ((g.R.Rules.protocol n).core.cell_of ((g.R.Rules.protocol n).core.key_of c.in-Write.action)) refl c.args.moment a (h n)) c.write.ensures.leaves

pub returns-in-Write-clause-err : goal.returns-in-Write-clause-err
returns-in-Write-clause-err g c = on_err_weaker c.write.result (λ h n. keeps (g.R.Rules.protocol n) c.args.cell.now c.write.new.cell c.args.message (Message.Write c.in-Write.action) c.in-Write.is ((g.R.Rules.protocol n).core.cell_of ((g.R.Rules.protocol n).core.key_of c.in-Write.action)) refl (h n ((g.R.Rules.protocol n).core.cell_of ((g.R.Rules.protocol n).core.key_of c.in-Write.action)))) c.write.ensures.err

pub returns-in-Prepare-clause-answers : goal.returns-in-Prepare-clause-answers
returns-in-Prepare-clause-answers g c = IfOk-weaker c.prepare.result _ _ (λ a h n. answered (g.R.Rules.protocol n) c.args.cell.now c.prepare.new.cell c.args.message (Message.Prepare c.in-Prepare.number c.in-Prepare.stamp c.in-Prepare.action) c.in-Prepare.is ((g.R.Rules.protocol n).core.cell_of ((g.R.Rules.protocol n).core.key_of c.in-Prepare.action)) refl g.R.CellRules.locals c.args.moment a (λ es st step. h n (state (g.R.Rules.protocol n) es) (feed_after (g.R.Rules.protocol n) es) st)) c.prepare.ensures.says

pub returns-in-Prepare-clause-stands : goal.returns-in-Prepare-clause-stands
returns-in-Prepare-clause-stands g c = IfOk-weaker c.prepare.result _ _ (λ a h n. stands (g.R.Rules.protocol n) c.args.cell.now c.prepare.new.cell c.args.message (Message.Prepare c.in-Prepare.number c.in-Prepare.stamp c.in-Prepare.action) c.in-Prepare.is ((g.R.Rules.protocol n).core.cell_of ((g.R.Rules.protocol n).core.key_of c.in-Prepare.action)) refl c.args.moment a (h n c.args.moment)) c.prepare.ensures.leaves

pub returns-in-Prepare-clause-err : goal.returns-in-Prepare-clause-err
returns-in-Prepare-clause-err g c = on_err_weaker c.prepare.result (λ h n. keeps (g.R.Rules.protocol n) c.args.cell.now c.prepare.new.cell c.args.message (Message.Prepare c.in-Prepare.number c.in-Prepare.stamp c.in-Prepare.action) c.in-Prepare.is ((g.R.Rules.protocol n).core.cell_of ((g.R.Rules.protocol n).core.key_of c.in-Prepare.action)) refl (h n)) c.prepare.ensures.err

pub returns-in-ApplyIndex-clause-answers : goal.returns-in-ApplyIndex-clause-answers
returns-in-ApplyIndex-clause-answers g c = IfOk-weaker c.apply_index.result _ _ (λ a h n. answered (g.R.Rules.protocol n) c.args.cell.now c.apply_index.new.cell c.args.message (Message.ApplyIndex c.in-ApplyIndex.source c.in-ApplyIndex.sequence c.in-ApplyIndex.index c.in-ApplyIndex.row_key c.in-ApplyIndex.after) c.in-ApplyIndex.is ((g.R.Rules.protocol n).core.cell_of c.in-ApplyIndex.row_key) refl g.R.CellRules.locals c.args.moment a (λ es st step. h n (state (g.R.Rules.protocol n) es) (feed_after (g.R.Rules.protocol n) es) st)) c.apply_index.ensures.says

pub returns-in-ApplyIndex-clause-stands : goal.returns-in-ApplyIndex-clause-stands
returns-in-ApplyIndex-clause-stands g c = IfOk-weaker c.apply_index.result _ _ (λ a h n. stands (g.R.Rules.protocol n) c.args.cell.now c.apply_index.new.cell c.args.message (Message.ApplyIndex c.in-ApplyIndex.source c.in-ApplyIndex.sequence c.in-ApplyIndex.index c.in-ApplyIndex.row_key c.in-ApplyIndex.after) c.in-ApplyIndex.is ((g.R.Rules.protocol n).core.cell_of c.in-ApplyIndex.row_key) refl c.args.moment a (h n c.args.moment)) c.apply_index.ensures.leaves

pub returns-in-ApplyIndex-clause-err : goal.returns-in-ApplyIndex-clause-err
returns-in-ApplyIndex-clause-err g c = on_err_weaker c.apply_index.result (λ h n. keeps (g.R.Rules.protocol n) c.args.cell.now c.apply_index.new.cell c.args.message (Message.ApplyIndex c.in-ApplyIndex.source c.in-ApplyIndex.sequence c.in-ApplyIndex.index c.in-ApplyIndex.row_key c.in-ApplyIndex.after) c.in-ApplyIndex.is ((g.R.Rules.protocol n).core.cell_of c.in-ApplyIndex.row_key) refl (h n ((g.R.Rules.protocol n).core.cell_of c.in-ApplyIndex.row_key))) c.apply_index.ensures.err

pub returns-in-Apply-clause-answers : goal.returns-in-Apply-clause-answers
returns-in-Apply-clause-answers g c = λ n. answered (g.R.Rules.protocol n) c.args.cell.now c.apply.new.cell c.args.message (Message.Apply c.in-Apply.number c.in-Apply.key) c.in-Apply.is ((g.R.Rules.protocol n).core.cell_of c.in-Apply.key) refl g.R.CellRules.locals c.args.moment c.apply.result (λ es st step. c.apply.ensures.says n (state (g.R.Rules.protocol n) es) (feed_after (g.R.Rules.protocol n) es) st)

pub returns-in-Apply-clause-stands : goal.returns-in-Apply-clause-stands
returns-in-Apply-clause-stands g c = λ n. stands (g.R.Rules.protocol n) c.args.cell.now c.apply.new.cell c.args.message (Message.Apply c.in-Apply.number c.in-Apply.key) c.in-Apply.is ((g.R.Rules.protocol n).core.cell_of c.in-Apply.key) refl c.args.moment c.apply.result (c.apply.ensures.leaves n c.args.moment)

pub returns-in-Release-clause-answers : goal.returns-in-Release-clause-answers
returns-in-Release-clause-answers g c = λ n. answered (g.R.Rules.protocol n) c.args.cell.now c.release.new.cell c.args.message (Message.Release c.in-Release.number c.in-Release.key) c.in-Release.is ((g.R.Rules.protocol n).core.cell_of c.in-Release.key) refl g.R.CellRules.locals c.args.moment c.release.result (λ es st step. c.release.ensures.says n (state (g.R.Rules.protocol n) es) (feed_after (g.R.Rules.protocol n) es) st)

pub returns-in-Release-clause-stands : goal.returns-in-Release-clause-stands
returns-in-Release-clause-stands g c = λ n. stands (g.R.Rules.protocol n) c.args.cell.now c.release.new.cell c.args.message (Message.Release c.in-Release.number c.in-Release.key) c.in-Release.is ((g.R.Rules.protocol n).core.cell_of c.in-Release.key) refl c.args.moment c.release.result (c.release.ensures.leaves n c.args.moment)

pub returns-in-Ack-clause-stands : goal.returns-in-Ack-clause-stands
returns-in-Ack-clause-stands g c = λ n.
    stands (g.R.Rules.protocol n) c.args.cell.now c.acknowledge.new.cell c.args.message _ c.in-Ack.is _ refl c.args.moment c.acknowledge.result
    (c.acknowledge.ensures.leaves n _ c.args.moment)

pub returns-in-QueryPage-clause-answers : goal.returns-in-QueryPage-clause-answers
returns-in-QueryPage-clause-answers g c =
    IfOk-weaker c.page.result _ _
    (λ a h n. answered (g.R.Rules.protocol n) c.args.cell.now c.args.cell.now c.args.message (Message.QueryPage c.in-QueryPage.asked) c.in-QueryPage.is ((g.R.Rules.protocol n).page_cell c.in-QueryPage.asked) refl g.R.CellRules.locals c.args.moment a
    (λ es st step. page_answered (g.R.Rules.protocol n) (g.met.R.Rules.lawful n) g.R.CellRules.locals c.args.cell.now c.in-QueryPage.asked a es (h n) st step)) c.page.ensures

pub returns-in-QueryPage-clause-stands : goal.returns-in-QueryPage-clause-stands
returns-in-QueryPage-clause-stands g c =
    IfOk-weaker c.page.result _ _
    (λ a h n. stands (g.R.Rules.protocol n) c.args.cell.now c.args.cell.now c.args.message (Message.QueryPage c.in-QueryPage.asked) c.in-QueryPage.is ((g.R.Rules.protocol n).page_cell c.in-QueryPage.asked) refl c.args.moment a (λ w f here. here)) c.page.ensures

pub returns-in-QueryPage-clause-err : goal.returns-in-QueryPage-clause-err
returns-in-QueryPage-clause-err g c =
    on_err c.page.result
    (λ n. keeps (g.R.Rules.protocol n) c.args.cell.now c.args.cell.now c.args.message (Message.QueryPage c.in-QueryPage.asked) c.in-QueryPage.is ((g.R.Rules.protocol n).page_cell c.in-QueryPage.asked) refl (λ w f here. here))

pub returns-in-ScanPage-clause-answers : goal.returns-in-ScanPage-clause-answers
returns-in-ScanPage-clause-answers g c =
    IfOk-weaker c.page-in-ScanPage.result _ _
    (λ a h n. answered (g.R.Rules.protocol n) c.args.cell.now c.args.cell.now c.args.message (Message.ScanPage c.in-ScanPage.asked) c.in-ScanPage.is ((g.R.Rules.protocol n).page_cell c.in-ScanPage.asked) refl g.R.CellRules.locals c.args.moment a
    (λ es st step. page_answered (g.R.Rules.protocol n) (g.met.R.Rules.lawful n) g.R.CellRules.locals c.args.cell.now c.in-ScanPage.asked a es (h n) st step)) c.page-in-ScanPage.ensures

pub returns-in-ScanPage-clause-stands : goal.returns-in-ScanPage-clause-stands
returns-in-ScanPage-clause-stands g c =
    IfOk-weaker c.page-in-ScanPage.result _ _
    (λ a h n. stands (g.R.Rules.protocol n) c.args.cell.now c.args.cell.now c.args.message (Message.ScanPage c.in-ScanPage.asked) c.in-ScanPage.is ((g.R.Rules.protocol n).page_cell c.in-ScanPage.asked) refl c.args.moment a (λ w f here. here)) c.page-in-ScanPage.ensures

pub returns-in-ScanPage-clause-err : goal.returns-in-ScanPage-clause-err
returns-in-ScanPage-clause-err g c =
    on_err c.page-in-ScanPage.result
    (λ n. keeps (g.R.Rules.protocol n) c.args.cell.now c.args.cell.now c.args.message (Message.ScanPage c.in-ScanPage.asked) c.in-ScanPage.is ((g.R.Rules.protocol n).page_cell c.in-ScanPage.asked) refl (λ w f here. here))

pub returns-in-Expire-clause-answers : goal.returns-in-Expire-clause-answers
returns-in-Expire-clause-answers g c = IfOk-weaker c.expire.result _ _ (λ a h n. answered (g.R.Rules.protocol n) c.args.cell.now c.expire.new.cell c.args.message (Message.Expire c.in-Expire.action) c.in-Expire.is ((g.R.Rules.protocol n).core.cell_of ((g.R.Rules.protocol n).core.key_of c.in-Expire.action)) refl g.R.CellRules.locals c.args.moment a (λ es st step. h n (state (g.R.Rules.protocol n) es) (feed_after (g.R.Rules.protocol n) es) st)) c.expire.ensures.says

pub returns-in-Expire-clause-stands : goal.returns-in-Expire-clause-stands
returns-in-Expire-clause-stands g c = IfOk-weaker c.expire.result _ _ (λ a h n. stands (g.R.Rules.protocol n) c.args.cell.now c.expire.new.cell c.args.message (Message.Expire c.in-Expire.action) c.in-Expire.is ((g.R.Rules.protocol n).core.cell_of ((g.R.Rules.protocol n).core.key_of c.in-Expire.action)) refl c.args.moment a (h n)) c.expire.ensures.leaves

pub returns-in-Expire-clause-err : goal.returns-in-Expire-clause-err
returns-in-Expire-clause-err g c = on_err_weaker c.expire.result (λ h n. keeps (g.R.Rules.protocol n) c.args.cell.now c.expire.new.cell c.args.message (Message.Expire c.in-Expire.action) c.in-Expire.is ((g.R.Rules.protocol n).core.cell_of ((g.R.Rules.protocol n).core.key_of c.in-Expire.action)) refl (h n ((g.R.Rules.protocol n).core.cell_of ((g.R.Rules.protocol n).core.key_of c.in-Expire.action)))) c.expire.ensures.err

pub returns-in-ExpiredKeys-clause-answers : goal.returns-in-ExpiredKeys-clause-answers
returns-in-ExpiredKeys-clause-answers g c =
    IfOk-weaker c.expired_keys.result _ _
    (λ a h n. answered (g.R.Rules.protocol n) c.args.cell.now c.args.cell.now c.args.message _ c.in-ExpiredKeys.is _ refl g.R.CellRules.locals c.args.moment a
    (λ es st step. expired_listed (g.R.Rules.protocol n) (g.met.R.Rules.lawful n) _ c.args.cell.now c.args.moment c.in-ExpiredKeys.limit a es
    (ap (λ m. is_served c.args.cell.now.partitions m) (sym c.in-ExpiredKeys.is) ∙ c.requires) (h n _) st)) c.expired_keys.ensures
