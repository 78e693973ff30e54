-- A change of an index that has no fault is not refused by the sequential database.
use Rattle.std.specs.Prelude.{is_some, if◌then◌else◌}
use Rattle.std.proofs.Common.{◌≡◌, Bool, true, false, Option, None, Some, refl}
use Rattle.table_schema.specs.declared.schema.Schema.{Schema}
use Rattle.table_request.specs.declared.tables.IndexChange.{IndexChange}
use Rattle.table_request.specs.declared.tables.IndexChange.TheVariants.{Make, Remove}
use Rattle.table_model.specs.Catalog.{has_index, index_refusal}
use Rattle.table_model.specs.Pages.{global_named}
use Rattle.cell_model.specs.Commands.{index_fault}

-- tests that are both passed or both failed
none_left : {X Y : Type 0} (b : Bool) (x : X) (y : Y) → (if b then None else Some x) ≡ None → (if b then None else Some y) ≡ None
none_left true x y e = refl
none_left false x y e = absurd (cc)

none_right : {X Y : Type 0} (b : Bool) (x : X) (y : Y) → (if b then Some x else None) ≡ None → (if b then Some y else None) ≡ None
none_right true x y e = absurd (cc)
none_right false x y e = refl

pub unrefused : (schema : Schema) (change : Option IndexChange) → index_fault schema change ≡ None → index_refusal schema change ≡ None
unrefused schema None e = refl
unrefused schema (Some (Remove name)) e = none_left (is_some (global_named name schema.globals)) _ _ e
unrefused schema (Some (Make index)) e = none_right (has_index schema index.name) _ _ e
