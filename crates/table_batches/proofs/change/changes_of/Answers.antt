use Rattle.std.proofs.Common.{rules, ◌≡◌, List, [], ◌++◌, map, drop, Some, None, Ok, Err, refl, sym, ap, ◌∙◌}
use Rattle.std.specs.Map.{lookup}
use Rattle.std.proofs.lemmas.List.{append-nil, take_rest}
use Rattle.table_model.specs.Batches.{has_twice}
use Rattle.numbered_tables.specs.declared.change.TableChange.{TableChange}
use Rattle.numbered_tables.specs.Tables.{table_in}
use Rattle.numbered_tables.proofs.Kept.{at}
use Rattle.table_batches.proofs.Named.{writes_nowhere, changes_nowhere, keys_written, changes_written}
use Rattle.table_batches.proofs.Pushing.{added_keys}
use Rattle.table_batches.proofs.change.changes_of.Goals as goal

pub returns-in_default : goal.returns-in_default
returns-in_default c =
    let es = c.args.tables.now.entries in
    let t = c.args.asked in
    let none : lookup (at t.table) es ≡ None = search rules in
    let old = c.args.changes.now in
    ([], writes_nowhere es t none, refl, sym (ap (λ (more : List TableChange). old ++ more) (changes_nowhere es t none) ∙ append-nil old))

pub returns-in-Ok : goal.returns-in-Ok
returns-in-Ok c =
    let es = c.args.tables.now.entries in
    let t = c.args.asked in
    let x = c.in-Some.table.now in
    let old = c.args.changes.now in
    let now = c.push_changes.new.changes in
    let here : lookup (at t.table) es ≡ Some x = search rules in
    let asked = rw c.in-Ok.is at c.in_ok-push_changes.ensures in
    let keys : map (λ (change : TableChange). change.key) (drop c.len-before.result now) ≡ asked.0 =
    added_keys (table_in x) t.table t.writes old now asked.0 c.len-before.result c.len-before.ensures asked.2 asked.1 in (
      asked.0,
      keys_written es t x (Ok asked.0) here asked.1,
      c.in_ok-has_twice-in-Ok.ensures
          ∙ ap (λ (changes : List TableChange). has_twice (map (λ (change : TableChange). change.key) changes))
          (take_rest c.as_slice.result.now c.len-before.result ∙ ap (drop c.len-before.result) c.as_slice.ensures)
          ∙ ap has_twice keys,
      asked.2 ∙ ap (λ (more : List TableChange). old ++ more) (changes_written es t x here),
    )

pub returns : goal.returns
returns c =
    let es = c.args.tables.now.entries in
    let t = c.args.asked in
    let x = c.in-Some.table.now in
    let here : lookup (at t.table) es ≡ Some x = search rules in
    let asked = rw c.in-Err.is at c.in_ok-push_changes.ensures in
    keys_written es t x (Err c.in-Err.fault) here asked
