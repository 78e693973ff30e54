use Rattle.std.proofs.Common.{◌≡◌, true, unwrap_or, subst, sym, ◌∙◌, rules}
use Rattle.std.proofs.lemmas.Result.{err_from_is_err_and}
use Rattle.serde_json.specs.View.{view}
use Rattle.api_form.specs.declared.name.Name.TheVariants as name
use Rattle.request_parts.specs.declared.legacy.LegacyKind.TheVariants as kind
use Rattle.request_parts.specs.Members.{stated_flag}
use Rattle.request_parts.specs.Asks.{IsPart}
use Rattle.request_parts.specs.Ends.{IsToldOf}
use Rattle.request_parts.specs.Legacy.{has_legacy, IsLegacy}
use Rattle.api_request.specs.Pages.{scan_asks, StatesPage, IsQuery}
use Rattle.api_request.specs.Legacy.{IsBeside, IsInQuery}
use Rattle.api_request.proofs.Beside.{with_refused, with_legacy}
use Rattle.api_request.proofs.Keyed.{query_told}
use Rattle.api_request.proofs.legacy.query.Goals as goal

pub returns-in_err-trees : goal.returns-in_err-trees
returns-in_err-trees c =
    let d = view c.args.json.now in
    let p = err_from_is_err_and c.from_residual.result c.from_residual.ensures.1 in
    rw (p.1, p.2)
    (with_refused (has_legacy kind.Query d) kind.Query (IsInQuery d) (IsPart scan_asks StatesPage) d (IsQuery d) c.read_legacy-legacy.result c.page.result
    c.in_err-trees.field-0.0 (sym c.has_legacy.ensures ∙ c.if-not-has_legacy.false)
    c.read_legacy-legacy.ensures c.page.ensures c.in_err-trees.ensures)

pub returns : goal.returns
returns c =
    let d = view c.args.json.now in
    let both = c.in_ok-trees.ensures in
    let forward : c.unwrap_or-forward.result ≡ unwrap_or (stated_flag name.ScanIndexForward d) true = search rules in
    with_legacy (has_legacy kind.Query d) (IsBeside kind.Query (IsInQuery d) (IsPart scan_asks StatesPage) d) (IsQuery d) c.in_query.result
    (sym c.has_legacy.ensures ∙ c.if-not-has_legacy.false)
    (query_told d c.in_ok-trees.trees c.in_ok-trees.bare c.unwrap_or-forward.result c.in_query.result forward
    (subst (λ x. IsToldOf (IsLegacy kind.Query d) x) both.0 c.read_legacy-legacy.ensures)
    (subst (λ x. IsToldOf (IsPart scan_asks StatesPage d) x) both.1 c.page.ensures)
    c.in_query.ensures)
