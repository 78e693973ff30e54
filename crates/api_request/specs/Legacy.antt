-- Requests with legacy members. These are read first, and what they stand for is put into what all other members state.
use Rattle.std.specs.Prelude.{◌≡◌, ◌⊎◌, Bool, true, false, None, Some, unwrap_or, Result, Ok, Err}
use Rattle.serde_json.specs.Data.{Data}
use Rattle.api_form.specs.declared.name.Name.TheVariants as name
use Rattle.table_request.specs.declared.items.PutItem.{PutItem}
use Rattle.table_request.specs.declared.items.GetItem.{GetItem}
use Rattle.table_request.specs.declared.items.UpdateItem.{UpdateItem}
use Rattle.table_request.specs.declared.items.DeleteItem.{DeleteItem}
use Rattle.table_request.specs.declared.pages.PageRequest.{PageRequest}
use Rattle.table_request.specs.declared.pages.Query.{Query}
use Rattle.table_request.specs.declared.pages.Scan.{Scan}
use Rattle.table_request.specs.declared.batches.TableKeys.{TableKeys}
use Rattle.request_parts.specs.declared.refusal.Refusal.{Refusal}
use Rattle.base_types.specs.declared.end.End.{End}
use Rattle.request_parts.specs.declared.legacy.LegacyKind.{LegacyKind}
use Rattle.request_parts.specs.declared.legacy.LegacyKind.TheVariants as kind
use Rattle.request_parts.specs.declared.legacy.LegacyTrees.{LegacyTrees}
use Rattle.request_parts.specs.Members.{stated_flag}
use Rattle.request_parts.specs.Asks.{IsPart}
use Rattle.request_parts.specs.Legacy.{has_legacy, stated_names, IsLegacy}
use Rattle.api_request.specs.Pages.{StatesPage, scan_asks, IsQuery}

-- the old way or the new one
abbrev pub IsEither : {R : Type 0} → Bool → (Result R Refusal → Type 0) → (Result R Refusal → Type 0) → Result R Refusal → Type 0
IsEither true Old New r = Old r
IsEither false Old New r = New r

-- what legacy members stand for, put into what is read beside them; they are refused first
abbrev pub IsBeside : {B R : Type 0} → LegacyKind → (LegacyTrees → B → R → Type 0) → (Data → Result B Refusal → Type 0) → Data
    → Result R Refusal → Type 0
IsBeside {B = B} k IsPutIn Reads d (Ok r) = (t : LegacyTrees) × (b : B) × IsLegacy k d (Ok t) × Reads d (Ok b) × IsPutIn t b r
IsBeside k IsPutIn Reads d (Err why) = IsLegacy k d (Err why) ⊎ ((t : LegacyTrees) × IsLegacy k d (Ok t) × Reads d (Err why))

abbrev pub Becomes : {R : Type 0} → (LegacyTrees → R → R) → LegacyTrees → R → R → Type 0
Becomes put_in t b r = r ≡ put_in t b

-- a request that may have legacy members; without them it is read as ever
abbrev pub WithLegacy : {R : Type 0} → LegacyKind → (LegacyTrees → R → R) → (Data → Result R Refusal → Type 0) → Data
    → Result R Refusal → Type 0
WithLegacy k put_in Reads d = IsEither (has_legacy k d) (IsBeside k (Becomes put_in) Reads d) (Reads d)

-- ---- what is put in

abbrev pub in_put : LegacyTrees → PutItem → PutItem
in_put t b = record b { condition = t.condition; values = t.values }

abbrev pub in_delete : LegacyTrees → DeleteItem → DeleteItem
in_delete t b = record b { condition = t.condition; values = t.values }

abbrev pub in_update : LegacyTrees → UpdateItem → UpdateItem
in_update t b = record b { update = t.update; condition = t.condition; values = t.values }

abbrev pub in_get : LegacyTrees → GetItem → GetItem
in_get t b = record b { projection = t.projection }

-- the names are kept too, since keys that were not read are given back as they were asked
abbrev pub in_table : Data → LegacyTrees → TableKeys → TableKeys
in_table d t b = record b { projection = t.projection; attributes = stated_names d }

abbrev pub in_page : LegacyTrees → PageRequest → PageRequest
in_page t b = record b { filter = t.condition; projection = t.projection; values = t.values }

abbrev pub in_scan : LegacyTrees → Scan → Scan
in_scan t b = record b { page = in_page t b.page }

-- a Query has to have a key condition, so it is made of a page with one
pub record IsInQuery (d : Data) (t : LegacyTrees) (b : PageRequest) (r : Query) : Type 0 where
  pub page : r.page ≡ in_page t b
  pub key : t.key_condition ≡ Some r.key_condition
  pub forward : r.forward ≡ unwrap_or (stated_flag name.ScanIndexForward d) true

abbrev pub IsAnyQuery : Data → Result Query Refusal → Type 0
IsAnyQuery d = IsEither (has_legacy kind.Query d) (IsBeside kind.Query (IsInQuery d) (IsPart scan_asks StatesPage) d) (IsQuery d)

-- ---- steps of the code

-- a Query is made where there is a key condition
abbrev pub IsQueryOf : LegacyTrees → PageRequest → Bool → Result Query (End Refusal) → Type 0
IsQueryOf t b forward (Ok r) = (r.page ≡ in_page t b) × (t.key_condition ≡ Some r.key_condition) × (r.forward ≡ forward)
IsQueryOf t b forward (Err end) = t.key_condition ≡ None

-- two results, of which the first one's end comes first
abbrev pub AreBoth : {T U E : Type 0} → Result T E → Result U E → Result (T × U) E → Type 0
AreBoth first second (Ok both) = (first ≡ Ok both.0) × (second ≡ Ok both.1)
AreBoth {T = T} first second (Err end) = (first ≡ Err end) ⊎ ((t : T) × (first ≡ Ok t) × (second ≡ Err end))
