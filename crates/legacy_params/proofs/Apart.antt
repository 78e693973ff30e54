-- Of changes with a name each, no path begins another.
use Rattle.std.proofs.Common.{◌≡◌, ◌≢◌, ℕ, ◌+◌, ◌<◌, zero, suc, List, [], ◌∷◌, ◌++◌, length, map, slice_get, Bool, true, false, Some, subst, arith, AllPairs, slice_index_or}
use Rattle.std.proofs.Math.Logic.{inl, inr}
use Rattle.std.specs.List.{AllByRecursion}
use Rattle.std.specs.Option.{option_to_list, is_some}
use Rattle.base_types.specs.declared.path.DocPath.{DocPath}
use Rattle.expr_parse.specs.Overlaps.{Overlap, HaveOverlap}
use Rattle.expr_parse.specs.UpdateTree.{UpdateTree, written}
use Rattle.legacy_params.specs.declared.part.LegacyChange.{LegacyChange}
use Rattle.legacy_params.specs.declared.operator.Action.{Action}
use Rattle.legacy_params.specs.declared.operator.Action.TheVariants.{Put, Add, Delete}
use Rattle.legacy_params.specs.Changes.{done}
use Rattle.legacy_params.specs.Trees.{path_to, done_at, followed, changed}

-- ---- lists of paths of which none begins another

abbrev Free : DocPath → List DocPath → Type 0
Free p = AllByRecursion (λ q. ¬ Overlap p q)

abbrev pub Apart : List DocPath → Type 0
Apart [] = Unit {0}
Apart (p ∷ ps) = Free p ps × Apart ps

other_way : (p q : DocPath) → Overlap p q → Overlap q p
other_way p q (inl begins) = inr begins
other_way p q (inr begins) = inl begins

free_at : (p q : DocPath) (ps : List DocPath) (k : ℕ) → Free p ps → slice_get ps k ≡ Some q → Overlap p q → ⊥
free_at p q [] k free there o = cc
free_at p q (r ∷ ps) zero free there o = let same : q ≡ r = cc in free.0 (subst (Overlap p) same o)
free_at p q (r ∷ ps) (suc k) free there o = free_at p q ps k free.1 there o

no_pair : (ps : List DocPath) (i j : ℕ) (p q : DocPath) → Apart ps → i < j → slice_get ps i ≡ Some p → slice_get ps j ≡ Some q → Overlap p q → ⊥
no_pair [] i j p q apart less first second o = cc
no_pair (r ∷ ps) zero zero p q apart less first second o = omega arith
no_pair (r ∷ ps) zero (suc j) p q apart less first second o =
    let same : p ≡ r = cc in free_at r q ps j apart.0 second (subst (λ (x : DocPath). Overlap x q) same o)
no_pair (r ∷ ps) (suc i) zero p q apart less first second o = omega arith
no_pair (r ∷ ps) (suc i) (suc j) p q apart less first second o = no_pair ps i j p q apart.1 (omega arith) first second o

pub no_overlap : (ps : List DocPath) → Apart ps → HaveOverlap ps → ⊥
no_overlap ps apart h = no_pair ps h.i h.j h.p h.q apart h.apart h.first h.second h.overlap

-- one more path, somewhere in a list
data Gains (p : DocPath) : List DocPath → List DocPath → Type 0 where
  here : {ps : List DocPath} → Gains p ps (p ∷ ps)
  later : {r : DocPath} {ps qs : List DocPath} → Gains p ps qs → Gains p (r ∷ ps) (r ∷ qs)

gains_behind : (p : DocPath) (front : List DocPath) {ps qs : List DocPath} → Gains p ps qs → Gains p (front ++ ps) (front ++ qs)
gains_behind p [] gains = gains
gains_behind p (r ∷ front) gains = later (gains_behind p front gains)

gains_before : (p : DocPath) (back : List DocPath) {ps qs : List DocPath} → Gains p ps qs → Gains p (ps ++ back) (qs ++ back)
gains_before p back here = here
gains_before p back (later gains) = later (gains_before p back gains)

still_free : {r p : DocPath} {ps qs : List DocPath} → Gains p ps qs → (Overlap r p → ⊥) → Free r ps → Free r qs
still_free here not free = (not, free)
still_free (later gains) not free = (free.0, still_free gains not free.1)

still_apart : {p : DocPath} {ps qs : List DocPath} → Gains p ps qs → Free p ps → Apart ps → Apart qs
still_apart here free apart = (free, apart)
still_apart {p = p} (later {r = r} gains) free apart = (still_free gains (λ o. free.0 (other_way r p o)) apart.0, still_apart gains free.1 apart.1)

-- ---- changes of which none has another's name

abbrev Fresh : List ℕ → List LegacyChange → Type 0
Fresh name = AllByRecursion (λ c. name ≡ c.name → ⊥)

abbrev Once : List LegacyChange → Type 0
Once [] = Unit {0}
Once (c ∷ cs) = Fresh c.name cs × Once cs

fresh : (name : List ℕ) (cs : List LegacyChange) → ((j : ℕ) (d : LegacyChange) → j < length cs → name ≡ (slice_index_or cs j d).name → ⊥) → Fresh name cs
fresh name [] each = tt
fresh name (c ∷ cs) each = (each 0 c (omega arith), fresh name cs (λ j d less. each (suc j) d (omega arith)))

once : (cs : List LegacyChange) → AllPairs (λ c d. c.name ≢ d.name) cs → Once cs
once [] pairs = tt
once (c ∷ cs) pairs = (
  fresh c.name cs (λ j d less. pairs 0 (suc j) d (omega arith) (omega arith)),
  once cs (λ i j d less within. pairs (suc i) (suc j) d (omega arith) (omega arith)),
)

names_apart : (a b : List ℕ) → (a ≡ b → ⊥) → Overlap (path_to a) (path_to b) → ⊥
names_apart a b differ (inl (more, is)) = differ (cc)
names_apart a b differ (inr (more, is)) = differ (cc)

gains_change : (a : Action) (b : Bool) (p : DocPath) (place : ℕ) (v : UpdateTree) → Gains p (written v) (written (followed (done_at a p place b) v))
gains_change Put b p place v = here
gains_change Add b p place v =
    gains_before p (map (λ x. x.path) v.deletes) (gains_behind p (map (λ x. x.path) v.sets ++ v.removes) here)
gains_change Delete false p place v =
    gains_before p (map (λ x. x.path) v.deletes)
    (gains_before p (map (λ x. x.path) v.adds) (gains_behind p (map (λ x. x.path) v.sets) here))
gains_change Delete true p place v =
    gains_behind p ((map (λ x. x.path) v.sets ++ v.removes) ++ map (λ x. x.path) v.adds) here

free_of : (name : List ℕ) (k : ℕ) (cs : List LegacyChange) → Fresh name cs → Free (path_to name) (written (changed k cs))
free_of name k [] each = tt
free_of name k (c ∷ cs) each =
    still_free (gains_change (done c) (is_some c.value) (path_to c.name) k (changed (k + length (option_to_list c.value)) cs))
    (names_apart name c.name each.0) (free_of name (k + length (option_to_list c.value)) cs each.1)

all_apart : (k : ℕ) (cs : List LegacyChange) → Once cs → Apart (written (changed k cs))
all_apart k [] each = tt
all_apart k (c ∷ cs) each =
    still_apart (gains_change (done c) (is_some c.value) (path_to c.name) k (changed (k + length (option_to_list c.value)) cs))
    (free_of c.name (k + length (option_to_list c.value)) cs each.0) (all_apart (k + length (option_to_list c.value)) cs each.1)

pub changes_apart : (cs : List LegacyChange) (u : UpdateTree) → AllPairs (λ c d. c.name ≢ d.name) cs → u ≡ changed 0 cs → HaveOverlap (written u) → ⊥
changes_apart cs u pairs is h =
    no_overlap (written (changed 0 cs)) (all_apart 0 cs (once cs pairs)) (subst (λ (v : UpdateTree). HaveOverlap (written v)) is h)
