-- Reasons that are gone over beside their actions.
use Rattle.std.proofs.Common.{◌≡◌, List, map, Bor, sym, ap, ◌∙◌}
use Rattle.std.specs.List.{zip}
use Rattle.std.proofs.lemmas.Simd.{map-map}
use Rattle.attr_value.specs.Tree.{Attributes}
use Rattle.update_eval.specs.declared.fault.EvalFault.{EvalFault}
use Rattle.table_model.specs.declared.refusal.Reason.{Reason}
use Rattle.txn_core.specs.declared.reason.Reason.{Reason as ReasonOf}
use Rattle.cell_model.specs.Actions.{ItemAction}
use Rattle.transact_calls.specs.Ends.{reason_told, reasons_told}

abbrev Found : Type 0
Found = ReasonOf Attributes EvalFault

pub told_of_pairs : (told : List Reason) (pairs : List (Bor ItemAction × Bor Found)) (actions : List ItemAction) (reasons : List Found)
    → told ≡ map (λ both. reason_told both.0.now.show_old both.1.now) pairs → map (λ both. (both.0.now, both.1.now)) pairs ≡ zip actions reasons
    → told ≡ reasons_told actions reasons
told_of_pairs told pairs actions reasons is all =
    is
    ∙ (sym (map-map (λ both. reason_told both.0.show_old both.1) (λ both. (both.0.now, both.1.now)) pairs)
    ∙ ap (map (λ both. reason_told both.0.show_old both.1)) all)
