-- The change of an index that an UpdateTable states: which element states the first one, and how it is told.
use Rattle.std.proofs.Common.{◌≡◌, ap, subst, ◌∙◌, false, Option, Some, None, Err, IsTrue}
use Rattle.std.specs.Prelude.{◌↔◌}
use Rattle.std.proofs.lemmas.Bool.{false≢true}
use Rattle.serde_json.specs.Data.{Data, Items, item}
use Rattle.api_form.specs.declared.name.Name.TheVariants as name
use Rattle.table_request.specs.declared.tables.IndexChange.{IndexChange}
use Rattle.api_request.specs.declared.change.StatedChange.{StatedChange}
use Rattle.request_parts.specs.declared.refusal.Refusal.{Refusal}
use Rattle.base_types.specs.declared.end.End.{End}
use Rattle.base_types.specs.declared.end.End.TheVariants.{Fault, NoMemory}
use Rattle.request_parts.specs.Ends.{IsToldOf}
use Rattle.request_parts.specs.Members.{list_at}
use Rattle.api_request.specs.Tables.{some_or, change_in, first_change, change_at, StatesChange, IsUnfit, IsChange, IsUpdateTable}

-- this element states it
pub change_found : (d : Data) (ds : Items) (c : StatedChange) → Some c ≡ change_in d → Some c ≡ first_change (item d ds)
change_found d ds c is = ap (λ x. some_or x (first_change ds)) is

-- this element states none
pub change_passed : (d : Data) (ds : Items) → None ≡ change_in d → first_change ds ≡ first_change (item d ds)
change_passed d ds is = ap (λ x. some_or x (first_change ds)) is

-- an index without global form has no keys of a form
pub unfit : {K : Type 0} → (IsTrue false ↔ K) → ¬ K
unfit means keys = false≢true (means.1 keys)

-- the change that the updates state, and how it is told of the body
pub change_stated : (d : Data) (ds : Items) (c : Option StatedChange) (r : Option IndexChange) → c ≡ first_change ds
    → ds ≡ list_at name.GlobalSecondaryIndexUpdates d → StatesChange c r → StatesChange (change_at d) r
change_stated d ds c r is listed told = subst (λ x. StatesChange x r) (is ∙ ap first_change listed) told

pub change_refused : (d : Data) (ds : Items) (c : Option StatedChange) (end : End Refusal) → c ≡ first_change ds
    → ds ≡ list_at name.GlobalSecondaryIndexUpdates d → IsToldOf (IsChange c) (Err end) → IsToldOf (IsUpdateTable d) (Err end)
change_refused d ds c (Fault why) is listed told = (told.0, subst IsUnfit (is ∙ ap first_change listed) told.1)
change_refused d ds c NoMemory is listed told = tt
