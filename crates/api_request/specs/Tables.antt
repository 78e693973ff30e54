-- What the body of an UpdateTable states (API Reference: UpdateTable).
use Rattle.std.specs.Prelude.{◌≡◌, ⊤, List, ℕ, Bool, Option, Some, None, option_map, Result, Ok, Err, codes, bytes_eq}
use Rattle.serde_json.specs.Data.{Data, Items, no_items, item}
use Rattle.api_form.specs.declared.name.Name.TheVariants as name
use Rattle.table_schema.specs.declared.fault.SchemaFault.TheVariants as schema_fault
use Rattle.table_schema.specs.Index.{of_global}
use Rattle.table_schema.specs.Key.{IsKeySchema}
use Rattle.table_request.specs.declared.tables.UpdateTable.{UpdateTable}
use Rattle.table_request.specs.declared.tables.TableUpdate.{TableUpdate}
use Rattle.table_request.specs.declared.tables.IndexChange.{IndexChange}
use Rattle.table_request.specs.declared.tables.IndexChange.TheVariants as change
use Rattle.request_parts.specs.declared.refusal.Refusal.{Refusal}
use Rattle.request_parts.specs.declared.refusal.Refusal.TheVariants as refusal
use Rattle.api_request.specs.declared.change.StatedChange.{StatedChange}
use Rattle.api_request.specs.declared.change.StatedChange.TheVariants as stated
use Rattle.request_parts.specs.Members.{text_at, stated_text, list_at, object_at, each}
use Rattle.api_request.specs.Schemas.{definition, stated_index, units_of}

-- the index that an element makes or else drops; any other change of an index is ignored
abbrev pub made_or : Option Data → Option StatedChange → Option StatedChange
made_or (Some d) other = Some (stated.Make (stated_index d))
made_or None other = other

abbrev pub change_in : Data → Option StatedChange
change_in d = made_or (object_at name.Create d) (option_map (λ x. stated.Remove (text_at name.IndexName x)) (object_at name.Delete d))

abbrev pub some_or : Option StatedChange → Option StatedChange → Option StatedChange
some_or (Some c) other = Some c
some_or None other = other

-- the first such change
abbrev pub first_change : Items → Option StatedChange
first_change no_items = None
first_change (item d ds) = some_or (change_in d) (first_change ds)

abbrev pub change_at : Data → Option StatedChange
change_at d = first_change (list_at name.GlobalSecondaryIndexUpdates d)

-- a stated change is this one
abbrev pub StatesChange : Option StatedChange → Option IndexChange → Type 0
StatesChange None None = ⊤
StatesChange (Some (stated.Make i)) (Some (change.Make g)) = of_global g ≡ i
StatesChange (Some (stated.Remove n)) (Some (change.Remove m)) = m ≡ n
StatesChange _ _ = ⊥

-- the keys of an index that is made are a list of another form
abbrev pub IsUnfit : Option StatedChange → Type 0
IsUnfit (Some (stated.Make i)) = ¬ IsKeySchema i.keys
IsUnfit _ = ⊥

abbrev pub IsChange : Option StatedChange → Result (Option IndexChange) Refusal → Type 0
IsChange c (Ok r) = StatesChange c r
IsChange c (Err why) = (why ≡ refusal.Schema schema_fault.BadIndexKey) × IsUnfit c

-- whether requests are paid for one by one, where it is stated
abbrev pub is_on_demand : List ℕ → Bool
is_on_demand word = bytes_eq word (codes "PAY_PER_REQUEST")

abbrev pub on_demand : Data → Option Bool
on_demand d = option_map is_on_demand (stated_text name.BillingMode d)

-- what is not stated stays as it is
pub record StatesUpdate (d : Data) (r : TableUpdate) : Type 0 where
  pub definitions : r.definitions ≡ each definition (list_at name.AttributeDefinitions d)
  pub billing : r.on_demand ≡ on_demand d
  pub read_units : r.read_units ≡ units_of name.ReadCapacityUnits d
  pub write_units : r.write_units ≡ units_of name.WriteCapacityUnits d
  pub index : StatesChange (change_at d) r.index

abbrev pub IsUpdateTable : Data → Result UpdateTable Refusal → Type 0
IsUpdateTable d (Ok r) = (r.table ≡ text_at name.TableName d) × StatesUpdate d r.update
IsUpdateTable d (Err why) = (why ≡ refusal.Schema schema_fault.BadIndexKey) × IsUnfit (change_at d)
