use Rattle.txn_core.proofs.Drives.{may_prepare, may_commit, may_cancel, may_apply, may_release, may_finish}
use Rattle.txn_core.proofs.driver.course_is_allowed.Goals as goal

pub returns : goal.returns
returns g c =
    λ n.
    let S = g.R.Rules.protocol n in
    let law = g.met.R.Rules.lawful n in
    record {
      prepare = λ es legal number stamp actions knows pass place x at. may_prepare S es number law legal stamp actions knows pass place x at;
      commit = λ es number told knows pass next reasons. may_commit S es number told knows pass next reasons;
      cancel = λ es number told knows reasons found pass next. may_cancel S es number told knows pass reasons found next;
      apply = λ es number told knows pass place next key. may_apply S es number told knows pass place next key;
      release = λ es number told knows pass place next key. may_release S es number told knows pass place next key;
      done = λ es number told knows pass next. may_finish S es number told knows pass next;
    }
