-- Attributes that are chosen by their names.
use Rattle.std.specs.Prelude.{ℕ, List, [], ◌∷◌, Bool, ◌||◌, if◌then◌else◌, Option, None, Some}
use Rattle.base_types.specs.declared.path.DocPath.{DocPath}
use Rattle.table_schema.specs.KeyName.{is_key_name}
use Rattle.item_keys.specs.Row.{is_included}
use Rattle.table_model.specs.Pages.{root_of}
use Rattle.page_reads.specs.declared.names.Names.{Names}
use Rattle.page_reads.specs.declared.names.Names.TheVariants.{Row, Start}

-- the attribute of this name is kept
abbrev pub is_named : Names → List ℕ → Bool
is_named (Row table read projection) name =
    is_key_name table.now name || is_key_name read.now name || is_included projection.now name
is_named (Start read table) name = is_key_name read.now name || is_key_name table.now name

-- the attribute that the first path begins with whose attribute does not pass
abbrev pub first_unnamed : (List ℕ → Bool) → List DocPath → Option (List ℕ)
first_unnamed passes [] = None
first_unnamed passes (path ∷ paths) =
    if passes (root_of path.steps) then first_unnamed passes paths else Some (root_of path.steps)
