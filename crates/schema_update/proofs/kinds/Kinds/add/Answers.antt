use Rattle.std.proofs.Common.{◌≡◌, ◌∙◌, Option, None, Some, not, cond, sym, ap}
use Rattle.std.specs.Prelude.{bytes_eq}
use Rattle.table_schema.specs.declared.definition.KeyKind.{KeyKind}
use Rattle.table_schema.specs.Kind.{kind_of}
use Rattle.table_model.specs.Catalog.{contradicts, added_if}
use Rattle.schema_update.proofs.Types.{or_else, looked_up, kind_put, kind_added, same_kinds}
use Rattle.schema_update.proofs.kinds.Kinds.add.Goals as goal

pub returns-in-Some-clause-contradicts : goal.returns-in-Some-clause-contradicts
returns-in-Some-clause-contradicts c =
    let d = c.args.definition.now in
    let known = c.in-Some.known.now in
    let found : kind_of d.name c.args.self.now ≡ Some known =
    (λ i. kind_of (sym c.as_str-name.ensures i) (sym c.self.view_is i)) ∙ looked_up c.as_str-name.result.now c.self.inside.kinds.entries ∙ sym c.in-Some.ensures.value in
    c.ne.ensures ∙ ap not (same_kinds known d.kind) ∙ ap (λ (o : Option KeyKind). contradicts o d.kind) (sym found)

pub returns-in-Some-clause-kinds : goal.returns-in-Some-clause-kinds
returns-in-Some-clause-kinds c = λ n.
    let d = c.args.definition.now in
    let found : kind_of d.name c.args.self.now ≡ Some c.in-Some.known.now =
    (λ i. kind_of (sym c.as_str-name.ensures i) (sym c.self.view_is i)) ∙ looked_up c.as_str-name.result.now c.self.inside.kinds.entries ∙ sym c.in-Some.ensures.value in
    ap (λ (o : Option KeyKind). kind_of n (added_if o d c.args.self.now)) (sym found)

pub returns-in_ok-insert-in-None-clause-contradicts : goal.returns-in_ok-insert-in-None-clause-contradicts
returns-in_ok-insert-in-None-clause-contradicts c =
    let d = c.args.definition.now in
    let absent : kind_of d.name c.args.self.now ≡ None =
    (λ i. kind_of (sym c.as_str-name.ensures i) (sym c.self.view_is i)) ∙ looked_up c.as_str-name.result.now c.self.inside.kinds.entries ∙ sym c.in-None.ensures.value in
    ap (λ (o : Option KeyKind). contradicts o d.kind) (sym absent)

pub returns-in_ok-insert-in-None-clause-kinds : goal.returns-in_ok-insert-in-None-clause-kinds
returns-in_ok-insert-in-None-clause-kinds c = λ n.
    let d = c.args.definition.now in
    kind_put c.as_str-name.result d.kind c.self.inside.kinds.entries c.insert.new.self.entries (sym c.in-None.ensures.value) c.in_ok-insert-in-None.ensures.updates.0 n
    ∙ (λ i. or_else (kind_of n (c.self.view_is i)) (cond (bytes_eq (c.as_str-name.ensures i) n) (Some d.kind) None))
    ∙ sym (kind_added n d c.args.self.now)
