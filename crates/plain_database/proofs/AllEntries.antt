-- What holds of every entry of a map holds of every entry after a change of the map.
use Rattle.std.proofs.Common.{◌≡◌, Bool, true, false, cond, List, [], ◌∷◌, Option, Some, refl, subst}
use Rattle.std.specs.List.{AllByRecursion}
use Rattle.std.specs.Map.{lookup, set_value, remove_entry}
use Rattle.std.specs.BTreeMap.{insert_entry}
use Rattle.std.specs.Ordering.{match_ordering}
use Rattle.std.specs.declared.cmp.Ordering.{Ordering}
use Rattle.std.specs.declared.cmp.Ordering.TheVariants.{Less, Equal, Greater}

-- of each entry, by its key and its value
abbrev pub All : {K X : Type 0} → (K → X → Type 0) → List (K × X) → Type 0
All P es = AllByRecursion (λ e. P e.0 e.1) es

module _ {K X : Type 0} (P : K → X → Type 0) where
  ordered : (cmp : K → K → Ordering) (o : Ordering) (k : K) (w : X) (e : K × X) (es rest : List (K × X)) → cmp k e.0 ≡ o → P k w → (cmp k e.0 ≡ Equal → P e.0 w)
      → All P (e ∷ es) → All P rest → All P (match_ordering o ((k, w) ∷ e ∷ es) ((e.0, w) ∷ es) (e ∷ rest))
  ordered cmp Less k w e es rest is one same all more = (one, all)
  ordered cmp Equal k w e es rest is one same all more = (same is, all.1)
  ordered cmp Greater k w e es rest is one same all more = (all.0, more)

  pub all_inserted : (cmp : K → K → Ordering) (k : K) (w : X) (es : List (K × X)) → P k w → ((other : K) → cmp k other ≡ Equal → P other w) → All P es
      → All P (insert_entry cmp es k w)
  all_inserted cmp k w [] one same all = (one, tt)
  all_inserted cmp k w (e ∷ es) one same all =
      ordered cmp (cmp k e.0) k w e es (insert_entry cmp es k w) refl one (same e.0) all (all_inserted cmp k w es one same all.1)

  either : (b : Bool) (x y : List (K × X)) → All P x → All P y → All P (cond b x y)
  either true x y p q = p
  either false x y p q = q

  pub all_removed : (test : K → Bool) (es : List (K × X)) → All P es → All P (remove_entry test es)
  all_removed test [] all = tt
  all_removed test (e ∷ es) all = either (test e.0) es (e ∷ remove_entry test es) all.1 (all.0, all_removed test es all.1)

  pub all_set : (test : K → Bool) (es : List (K × X)) (w : X) → ((k : K) → P k w) → All P es → All P (set_value test es w)
  all_set test [] w one all = tt
  all_set test (e ∷ es) w one all =
      either (test e.0) ((e.0, w) ∷ es) (e ∷ set_value test es w) (one e.0, all.1) (all.0, all_set test es w one all.1)

  found_first : (b : Bool) (e : K × X) (o : Option X) (x : X) → cond b (Some e.1) o ≡ Some x → P e.0 e.1 → (o ≡ Some x → (k : K) × P k x)
      → (k : K) × P k x
  found_first true e o x is one later = (e.0, subst (P e.0) (some_is e.1 x is) one)
    where
      some_is : (a b : X) → ◌≡◌ {A = Option X} (Some a) (Some b) → a ≡ b
      some_is a b e = cc
  found_first false e o x is one later = later is

  -- what is found has some key
  pub all_found : (test : K → Bool) (es : List (K × X)) (x : X) → lookup test es ≡ Some x → All P es → (k : K) × P k x
  all_found test [] x is all = cc
  all_found test (e ∷ es) x is all = found_first (test e.0) e (lookup test es) x is all.0 (λ rest. all_found test es x rest all.1)
