use Rattle.std.proofs.Common.{◌≡◌, [], subst}
use Rattle.std.specs.Prelude.{All}
use Rattle.table_schema.specs.Name.{IsAttributeName}
use Rattle.table_schema.specs.NameSet.{are_new}
use Rattle.table_schema.proofs.NewNames.{found_new}
use Rattle.table_schema.proofs.stated.StatedSchema.has_valid_definitions.Goals as goal

pub returns : goal.returns
returns c =
    let new : c.in_ok-insert_all.field-0 ≡ are_new (λ d. d.name) [] c.args.self.now.definitions =
    rw (← c.new.ensures, ← c.as_slice-definitions.ensures) c.in_ok-insert_all.ensures.new in
    let distinct = found_new (λ d. d.name) c.args.self.now.definitions c.in_ok-insert_all.field-0 new in (
      λ passes. record {
        named = subst (All (λ d. IsAttributeName d.name)) c.as_slice-definitions.ensures (c.have_valid_names.ensures.0 c.if-not-have_valid_names.false);
        distinct = distinct.0 passes;
      },
      λ valid. distinct.1 valid.distinct,
    )
