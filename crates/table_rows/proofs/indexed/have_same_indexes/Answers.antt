use Rattle.std.proofs.Common.{◌++◌, ◌∙◌, sym}
use Rattle.table_schema.specs.declared.index.LocalIndex.{LocalIndex}
use Rattle.table_schema.specs.declared.index.GlobalIndex.{GlobalIndex}
use Rattle.table_rows.proofs.Same.{mapped, not_false, exact_lists, exact_definition, local_keys, global_keys}
use Rattle.table_rows.proofs.indexed.have_same_indexes.Goals as goal

pub returns-then-eq-clause-definitions : goal.returns-then-eq-clause-definitions
returns-then-eq-clause-definitions c = λ same.
    exact_lists _ exact_definition c.args.old.now.definitions c.args.new.now.definitions (not_false _ (sym c.ne.ensures ∙ c.if-ne.false))

pub returns-then-eq-clause-keys : goal.returns-then-eq-clause-keys
returns-then-eq-clause-keys c = λ same.
    let locals = mapped _ (λ (d : LocalIndex). d.keys) local_keys c.args.old.now.locals c.args.new.now.locals (sym c.eq.ensures ∙ c.if-eq.true) in
    let globals = mapped _ (λ (d : GlobalIndex). d.keys) global_keys c.args.old.now.globals c.args.new.now.globals (sym c.eq-then-eq.ensures ∙ same) in
    λ i. locals i ++ globals i
