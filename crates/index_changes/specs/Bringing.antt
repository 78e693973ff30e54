-- Items that come one after another, at keys that may come again.
use Rattle.std.specs.Prelude.{◌≡◌, List, [], ◌∷◌, Option, None, Some, if◌then◌else◌}
use Rattle.std.specs.BTreeMap.{BTreeMap, get, is_at}
use Rattle.std.specs.declared.cmp.Ordering.{Ordering}

-- what comes, or where nothing does, what was there
abbrev pub over : {X : Type 0} → Option X → Option X → Option X
over None old = old
over (Some x) old = Some x

-- at this key there is what comes, all else stays
abbrev pub ComesAt : {K X : Type 0} → (K → K → Ordering) → BTreeMap K X → BTreeMap K X → K → Option X → Type 0
ComesAt {K = K} cmp old new key come = (q : K) → get cmp new q ≡ (if is_at (cmp key) q then over come (get cmp old q) else get cmp old q)

-- what is at a key after these have come
abbrev pub brought_over : {K X : Type 0} → (K → K → Ordering) → (K → Option X) → List K → K → Option X → Option X
brought_over cmp slot [] q old = old
brought_over cmp slot (k ∷ ks) q old = brought_over cmp slot ks q (if is_at (cmp k) q then over (slot k) old else old)
