use Rattle.std.proofs.Common.{◌≡◌, rules}
use Rattle.legacy_params.specs.Faults.{tests_fault, keys_fault, changes_fault}
use Rattle.request_parts.specs.Legacy.{names_fault}
use Rattle.request_parts.proofs.Judging.{least_at}
use Rattle.request_parts.proofs.legacy.parts_fault.Goals as goal

pub returns : goal.returns
returns c =
    let p = c.args.parts.now in
    let changes : c.changes_fault-changes.result ≡ changes_fault p.changes = search rules in
    let keys : c.keys_fault-keys.result ≡ keys_fault p.keys = search rules in
    let tests : c.tests_fault-tests.result ≡ tests_fault p.tests = search rules in
    let names : c.names_fault-names.result ≡ names_fault p.names = search rules in
    least_at _ _ _ _ _ c.least-3.ensures changes (least_at _ _ _ _ _ c.least-2.ensures keys (least_at _ _ _ _ _ c.least.ensures tests names))
