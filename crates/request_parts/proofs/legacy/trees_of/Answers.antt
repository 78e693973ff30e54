use Rattle.std.proofs.Common.{subst}
use Rattle.std.specs.Prelude.{IfErr}
use Rattle.legacy_params.specs.Answers.{IsEnd}
use Rattle.request_parts.proofs.Judging.{faultless}
use Rattle.request_parts.proofs.legacy.trees_of.Goals as goal

pub made-requires : goal.made-requires
made-requires c =
    subst (λ fault. IfErr c.update.result (IsEnd fault)) (faultless c.args.parts c.requires.faultless).changes c.update.ensures.fault

pub made-requires-2 : goal.made-requires-2
made-requires-2 c =
    subst (λ fault. IfErr c.condition.result (IsEnd fault)) (faultless c.args.parts c.requires.faultless).keys c.condition.ensures.fault

pub made-requires-3 : goal.made-requires-3
made-requires-3 c =
    subst (λ fault. IfErr c.condition-2.result (IsEnd fault)) (faultless c.args.parts c.requires.faultless).tests c.condition-2.ensures.fault

pub paths_of-requires : goal.paths_of-requires
paths_of-requires c = (faultless c.args.parts c.requires.faultless).names
