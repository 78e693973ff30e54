use Rattle.std.proofs.Common.{sym, ap, ◌∙◌, subst}
use Rattle.std.specs.Prelude.{IfErr}
use Rattle.legacy_params.specs.Answers.{IsEnd}
use Rattle.request_parts.specs.Legacy.{names_fault}
use Rattle.request_parts.proofs.legacy.paths_of.Goals as goal

pub made-requires : goal.made-requires
made-requires c =
    let none = sym (ap names_fault c.in-Some.is) ∙ c.requires in
    subst (λ fault. IfErr c.attributes.result (IsEnd fault)) none c.attributes.ensures.fault
