use Rattle.std.proofs.Common.{◌≡◌, ◌+◌, ◌-◌, ◌^◌, min, sum_by, sym, ap, ◌∙◌}
use Rattle.serde_json.specs.View.{view}
use Rattle.attr_value.specs.Sizes.{size, item_size}
use Rattle.request_parts.specs.Placeholders.{known}
use Rattle.api_request.specs.Transactions.{value_size}
use Rattle.api_request.proofs.Totals.{sizes_of}
use Rattle.api_request.proofs.action.keyed_size.Goals as goal

pub returns : goal.returns
returns c =
    let d = view c.args.json.now in
    let sum : sum_by value_size c.as_slice.result.now ≡ sum_by size (known d).values =
    ap (sum_by value_size) c.as_slice.ensures ∙ sym (sizes_of c.in_ok-values.values) ∙ ap (sum_by size) c.in_ok-values.ensures in
    c.with_values.ensures ∙ (λ i. min (item_size (c.in_ok-key.ensures i) + sum i) (2 ^ 64 - 1))
