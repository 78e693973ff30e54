use Rattle.std.proofs.Common.{◌≡◌, ◌∙◌, ap, sym, ◌+◌, ℕ, List, length, slice_get, arith}
use Rattle.std.specs.Prelude.{◌-◌}
use Rattle.row_keys.specs.Rows.{index_keys}
use Rattle.table_schema.specs.declared.index.GlobalIndex.{GlobalIndex}
use Rattle.page_reads.proofs.Chosen.{global_number}
use Rattle.page_reads.proofs.source.index_named.Goals as goal

pub returns-in-Some-global_named-clause-number : goal.returns-in-Some-global_named-clause-number
returns-in-Some-global_named-clause-number c =
    let number = c.in-Some-global_named.number in
    ap (λ (n : ℕ). slice_get (index_keys c.args.schema.now) (n + number)) c.len.ensures
    ∙ global_number c.args.schema.now number c.in-Some-global_named.index.now
    (ap (λ (indexes : List GlobalIndex). slice_get indexes number) (sym c.as_slice-2.ensures) ∙ c.in-Some-global_named.ensures.number)

pub returns-in-Some-global_named-clause-place : goal.returns-in-Some-global_named-clause-place
returns-in-Some-global_named-clause-place c =
    let number = c.in-Some-global_named.number in
    let globals = c.args.schema.now.globals in
    let locals = length c.args.schema.now.locals in
    let behind : locals + number - locals ≡ number = omega arith in
    ap (λ (n : ℕ). slice_get globals (n + number - locals)) c.len.ensures ∙ ap (slice_get globals) behind
    ∙ ap (λ (indexes : List GlobalIndex). slice_get indexes number) (sym c.as_slice-2.ensures) ∙ c.in-Some-global_named.ensures.number
