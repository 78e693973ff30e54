use Rattle.std.proofs.Common.{◌-◌, sym, ap, ◌∙◌}
use Rattle.coordinator.specs.Driving.{point_after}
use Rattle.coordinator.proofs.Driven.{rests}
use Rattle.coordinator.proofs.course.advance.Goals as goal

pub prepare-requires-clause-next : goal.prepare-requires-clause-next
prepare-requires-clause-next g c = λ told so. sym (c.next.ensures told so) ∙ c.in-Prepare.is

pub commit-requires-clause-next : goal.commit-requires-clause-next
commit-requires-clause-next g c = λ told so. sym (c.next.ensures told so) ∙ c.in-Commit.is

pub cancel-requires-clause-next : goal.cancel-requires-clause-next
cancel-requires-clause-next g c = λ told so. sym (c.next.ensures told so) ∙ c.in-Cancel.is

pub finish-requires-clause-next : goal.finish-requires-clause-next
finish-requires-clause-next g c = λ told so. sym (c.next.ensures told so) ∙ c.in-Done.is

pub returns-in-End-clause-ok : goal.returns-in-End-clause-ok
returns-in-End-clause-ok g c = rests (g.R.Rules.protocol (c.args.caller.now.id.slots - 1)) c.args.pass.now c.args.driver.now c.requires.driver

pub returns-in_ok-prepare-in-Prepare-clause-point : goal.returns-in_ok-prepare-in-Prepare-clause-point
returns-in_ok-prepare-in-Prepare-clause-point g c = λ told so. ap point_after (sym c.in-Prepare.is ∙ c.next.ensures told so)

pub returns-in_ok-commit-in-Commit-clause-point : goal.returns-in_ok-commit-in-Commit-clause-point
returns-in_ok-commit-in-Commit-clause-point g c = λ told so. ap point_after (sym c.in-Commit.is ∙ c.next.ensures told so)

pub returns-in_ok-cancel-in-Cancel-clause-point : goal.returns-in_ok-cancel-in-Cancel-clause-point
returns-in_ok-cancel-in-Cancel-clause-point g c = λ told so. ap point_after (sym c.in-Cancel.is ∙ c.next.ensures told so)

pub returns-in_ok-settle-in-Apply-clause-point : goal.returns-in_ok-settle-in-Apply-clause-point
returns-in_ok-settle-in-Apply-clause-point g c = λ told so. ap point_after (sym c.in-Apply.is ∙ c.next.ensures told so)

pub returns-in_ok-settle-in-Release-clause-point : goal.returns-in_ok-settle-in-Release-clause-point
returns-in_ok-settle-in-Release-clause-point g c = λ told so. ap point_after (sym c.in-Release.is ∙ c.next.ensures told so)

pub returns-in_ok-finish-in-Done-clause-point : goal.returns-in_ok-finish-in-Done-clause-point
returns-in_ok-finish-in-Done-clause-point g c = λ told so. ap point_after (sym c.in-Done.is ∙ c.next.ensures told so)

pub returns-in-End-clause-point : goal.returns-in-End-clause-point
returns-in-End-clause-point g c = λ told so. ap point_after (sym c.in-End.is ∙ c.next.ensures told so)
