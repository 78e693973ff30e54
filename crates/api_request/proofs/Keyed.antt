-- A Query whose legacy members are not refused has a key condition.
use Rattle.std.proofs.Common.{◌≡◌, ℕ, ◌+◌, length, Bool, true, false, List, [], ◌∷◌, Some, None, option_map, unwrap_or, sym, ap, ◌∙◌, Result, Ok, Err}
use Rattle.serde_json.specs.Data.{Data}
use Rattle.expr_words.specs.Trees.{Tree, tree}
use Rattle.api_form.specs.declared.name.Name.TheVariants as name
use Rattle.legacy_params.specs.declared.part.LegacyTest.{LegacyTest}
use Rattle.legacy_params.specs.Tests.{values_of}
use Rattle.legacy_params.specs.Trees.{condition_of, joined, joined_to, part_of, parts_of}
use Rattle.table_request.specs.declared.pages.PageRequest.{PageRequest}
use Rattle.table_request.specs.declared.pages.Query.{Query}
use Rattle.request_parts.specs.declared.refusal.Refusal.{Refusal}
use Rattle.base_types.specs.declared.end.End.{End}
use Rattle.request_parts.specs.declared.legacy.LegacyKind.TheVariants as kind
use Rattle.request_parts.specs.declared.legacy.LegacyTrees.{LegacyTrees}
use Rattle.request_parts.specs.Members.{stated_flag}
use Rattle.request_parts.specs.Asks.{IsPart}
use Rattle.request_parts.specs.Ends.{IsToldOf}
use Rattle.request_parts.specs.Legacy.{lacks_key, IsLegacy}
use Rattle.api_request.specs.Pages.{scan_asks, StatesPage}
use Rattle.api_request.specs.Legacy.{IsBeside, IsInQuery, IsQueryOf}

-- what is joined to something is something
some_joined : (any : Bool) (left : Tree) (parts : List Tree) → None ≡ joined any (Some left) parts → ⊥
some_joined any left [] none = cc
some_joined any left (part ∷ parts) none = some_joined any (joined_to any (Some left) part) parts none

keyed : (keys : List LegacyTest) (first : ℕ) → lacks_key kind.Query keys ≡ false → None ≡ condition_of false first keys → ⊥
keyed [] first has none = cc
keyed (t ∷ ts) first has none = some_joined false (part_of first t) (parts_of (first + length (values_of t)) ts) none

pub has_key : (d : Data) (t : LegacyTrees) → IsLegacy kind.Query d (Ok t) → t.key_condition ≡ None → ⊥
has_key d t legacy none = keyed legacy.0.keys _ legacy.2.keyed (ap (option_map tree) (sym none) ∙ legacy.3.keys)

-- so a Query is made of them
pub query_told : (d : Data) (t : LegacyTrees) (b : PageRequest) (forward : Bool) (r : Result Query (End Refusal))
    → forward ≡ unwrap_or (stated_flag name.ScanIndexForward d) true → IsLegacy kind.Query d (Ok t) → IsPart scan_asks StatesPage d (Ok b)
    → IsQueryOf t b forward r → IsToldOf (IsBeside kind.Query (IsInQuery d) (IsPart scan_asks StatesPage) d) r
query_told d t b forward (Ok q) is legacy page made = (t, b, legacy, page, record { page = made.0; key = made.1; forward = made.2 ∙ is })
query_told d t b forward (Err end) is legacy page made = absurd (has_key d t legacy made)
