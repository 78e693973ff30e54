use Rattle.std.proofs.Common.{◌≡◌, rules}
use Rattle.std.specs.Option.{is_none}
use Rattle.serde_json.specs.View.{view}
use Rattle.legacy_params.specs.declared.fault.LegacyFault.TheVariants as legacy_fault
use Rattle.request_parts.specs.Legacy.{any_stated, expression_names, fault_if}
use Rattle.request_parts.proofs.Judging.{least_at}
use Rattle.request_parts.proofs.legacy.first_legacy.Goals as goal

pub returns : goal.returns
returns c =
    let d = view c.args.json.now in
    let mixed : c.fault_if-mixed.result ≡ fault_if (any_stated (expression_names c.args.kind) d) legacy_fault.Mixed = search rules in
    let unknown : c.fault_if-unknown.result ≡ fault_if (is_none c.args.parts.now.joined_by_or) legacy_fault.BadOperator = search rules in
    least_at _ _ _ _ _ c.least-2.ensures mixed (least_at _ _ _ _ _ c.least.ensures unknown c.parts_fault.ensures)
