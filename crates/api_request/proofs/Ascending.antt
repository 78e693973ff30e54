-- The names of the tables that are written ascend, since the names of an object's members do.
use Rattle.std.proofs.Common.{◌≡◌, List, [], ◌∷◌, IsTrue, String, Global, string_bytes, nat_cmp, refl}
use Rattle.std.specs.declared.cmp.Ordering.{Ordering}
use Rattle.std.specs.declared.cmp.Ordering.TheVariants.{Less}
use Rattle.std.specs.Cmp.Lexicographic.{slice_cmp}
use Rattle.std.specs.Map.{keys_of}
use Rattle.std.specs.List.Sorted.{IsStrictlySortedBy}
use Rattle.std.proofs.lemmas.Map.Keys.{sorted_head, sorted_tail}
use Rattle.serde_json.specs.View.{members_view}
use Rattle.table_request.specs.Batches.{ascend}
use Rattle.api_request.specs.Batches.{table_writes}
use Rattle.api_request.proofs.Told.{Entry}

abbrev order : String Global → String Global → Ordering
order a b = slice_cmp nat_cmp (string_bytes a) (string_bytes b)

pub names_ascend : (es : List Entry) → IsStrictlySortedBy order (keys_of es) → IsTrue (ascend (table_writes (members_view es)))
names_ascend [] ordered = refl
names_ascend (e ∷ []) ordered = refl
names_ascend (e ∷ f ∷ es) ordered =
    let before : slice_cmp nat_cmp (string_bytes e.0) (string_bytes f.0) ≡ Less = (sorted_head order e.0 (keys_of (f ∷ es)) ordered).0 in
    rw before (names_ascend (f ∷ es) (sorted_tail order e.0 (keys_of (f ∷ es)) ordered))
