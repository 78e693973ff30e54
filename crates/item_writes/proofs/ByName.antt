-- What an item with all writes made has at each name.
use Rattle.std.proofs.Common.{◌≡◌, ℕ, List, [], ◌∷◌, Option, Some, None, option_and_then, Bool, true, false, cond, bytes_eq, Ordering, Less, Equal, Greater, is_eq, nat_cmp, refl, sym, ap, ◌∙◌, subst}
use Rattle.std.proofs.lemmas.Map.Text.{is_eq-slice_cmp}
use Rattle.std.proofs.lemmas.Slice.Eq.{bytes_eq-Decides}
use Rattle.std.specs.Cmp.Lexicographic.{slice_cmp}
use Rattle.std.specs.Ordering.{match_ordering}
use Rattle.base_types.specs.declared.path.Step.{Step}
use Rattle.base_types.specs.declared.path.Step.TheVariants.{Name, Index}
use Rattle.attr_value.specs.Tree.{Tree, Attributes, no_attributes, attribute, IsBelowNames, AreInOrder}
use Rattle.attr_value.specs.Paths.{put, kept_attribute, value_at}
use Rattle.path_entries.specs.Entries.{below, is_name, or_rest}
use Rattle.item_writes.specs.NewTree.{Written}
use Rattle.item_writes.specs.Edits.{kept, kept_attributes, put_one, put_all}
use Rattle.item_writes.specs.ValuesByName.{put_or, last_put, IsByName, KeepsOthers}

-- ---- what is put is found

-- o is the order of the name that is put beside another; a and b say whether the name that is asked for is the first or
-- the other
put_found_step : (o : Ordering) (a b : Bool) (name here other : List ℕ) (v t : Tree) (r s : Attributes)
    → bytes_eq name here ≡ a → bytes_eq name other ≡ b → (is_eq o ≡ true → a ≡ b) → (is_eq o ≡ false → a ≡ true → b ≡ false)
    → value_at name s ≡ cond a (Some v) (value_at name r)
    → value_at name (match_ordering o (attribute here v (attribute other t r)) (attribute other v r) (attribute other t s)) ≡ cond a (Some v) (cond b (Some t) (value_at name r))
put_found_step Less a b name here other v t r s p q same other_is later = rw (p, q) refl
put_found_step Equal true true name here other v t r s p q same other_is later = rw q refl
put_found_step Equal true false name here other v t r s p q same other_is later = let h : true ≡ false = same refl in cc
put_found_step Equal false true name here other v t r s p q same other_is later = let h : false ≡ true = same refl in cc
put_found_step Equal false false name here other v t r s p q same other_is later = rw q refl
put_found_step Greater true true name here other v t r s p q same other_is later = let h : true ≡ false = other_is refl refl in cc
put_found_step Greater true false name here other v t r s p q same other_is later = rw q later
put_found_step Greater false true name here other v t r s p q same other_is later = rw q refl
put_found_step Greater false false name here other v t r s p q same other_is later = rw q later

-- equal names are equal to the same names
alike : (name here other : List ℕ) → bytes_eq here other ≡ true → bytes_eq name here ≡ bytes_eq name other
alike name here other e = ap (bytes_eq name) ((bytes_eq-Decides here other).0 e)

only_false : (b : Bool) → (b ≡ true → ⊥) → b ≡ false
only_false true never = absurd (never refl)
only_false false never = refl

unlike : (name here other : List ℕ) → bytes_eq here other ≡ false → bytes_eq name here ≡ true → bytes_eq name other ≡ false
unlike name here other e same = only_false (bytes_eq name other) (λ also.
    let equal : bytes_eq here other ≡ true = (bytes_eq-Decides here other).1 (sym ((bytes_eq-Decides name here).0 same) ∙ (bytes_eq-Decides name other).0 also) in
    let h : ⊥ = cc in h)

pub put_found : (name here : List ℕ) (v : Tree) (item : Attributes) → value_at name (put here v item) ≡ cond (bytes_eq name here) (Some v) (value_at name item)
put_found name here v no_attributes = refl
put_found name here v (attribute other t rest) =
    put_found_step (slice_cmp nat_cmp here other) (bytes_eq name here) (bytes_eq name other) name here other v t rest (put here v rest) refl refl
    (λ e. alike name here other (sym (is_eq-slice_cmp here other) ∙ e))
    (λ e same. unlike name here other (sym (is_eq-slice_cmp here other) ∙ e) same)
    (put_found name here v rest)

put_one_found : (name : List ℕ) (steps : List Step) (v : Option Tree) (item : Attributes) → value_at name (put_one steps v item) ≡ put_or name steps v (value_at name item)
put_one_found name [] v item = refl
put_one_found name (Index place ∷ steps) v item = refl
put_one_found name (Name here ∷ []) None item = refl
put_one_found name (Name here ∷ []) (Some v) item = put_found name here v item
put_one_found name (Name here ∷ next ∷ steps) v item = refl

put_all_found : (name : List ℕ) (ws : List Written) (item : Attributes) → value_at name (put_all ws item) ≡ last_put name ws (value_at name item)
put_all_found name [] item = refl
put_all_found name (w ∷ ws) item = put_all_found name ws (put_one w.0 w.1 item) ∙ ap (last_put name ws) (put_one_found name w.0 w.1 item)

-- ---- what stays is found

not_below : (name : List ℕ) (item : Attributes) → IsBelowNames name item → value_at name item ≡ None
not_below name no_attributes low = refl
not_below name (attribute other t rest) low =
    let differ : bytes_eq name other ≡ false = sym (is_eq-slice_cmp name other) ∙ ap is_eq low.0 in
    rw differ (not_below name rest low.1)

kept_step : (b : Bool) (name other : List ℕ) (o : Option Tree) (r : Attributes) → bytes_eq name other ≡ b → (b ≡ true → value_at name r ≡ None)
    → value_at name (kept_attribute other o r) ≡ cond b o (value_at name r)
kept_step true name other None r e none = none refl
kept_step true name other (Some t) r e none = rw e refl
kept_step false name other None r e none = refl
kept_step false name other (Some t) r e none = rw e refl

kept_case : (b : Bool) (name other : List ℕ) (t : Tree) (ws : List Written) (rest : Option Tree) → bytes_eq name other ≡ b
    → cond b (kept t (below (is_name other) ws)) (option_and_then (λ u. kept u (below (is_name name) ws)) rest)
    ≡ option_and_then (λ u. kept u (below (is_name name) ws)) (cond b (Some t) rest)
kept_case true name other t ws rest e = ap (λ n. kept t (below (is_name n) ws)) (sym ((bytes_eq-Decides name other).0 e))
kept_case false name other t ws rest e = refl

pub kept_found : (name : List ℕ) (ws : List Written) (item : Attributes) → AreInOrder item
    → value_at name (kept_attributes item ws) ≡ option_and_then (λ t. kept t (below (is_name name) ws)) (value_at name item)
kept_found name ws no_attributes up = refl
kept_found name ws (attribute other t rest) up =
    let later = kept_found name ws rest up.1 in
    kept_step (bytes_eq name other) name other (kept t (below (is_name other) ws)) (kept_attributes rest ws) refl
    (λ e. later ∙ ap (option_and_then (λ u. kept u (below (is_name name) ws))) (not_below name rest (subst (λ n. IsBelowNames n rest) (sym ((bytes_eq-Decides name other).0 e)) up.0)))
    ∙ ap (cond (bytes_eq name other) (kept t (below (is_name other) ws))) later
    ∙ kept_case (bytes_eq name other) name other t ws (value_at name rest) refl

pub by_name : (item : Attributes) (ws : List Written) → AreInOrder item → IsByName item ws
by_name item ws up name = put_all_found name ws (kept_attributes item ws) ∙ ap (last_put name ws) (kept_found name ws item up)

-- ---- a name that no write begins with

none_below : (test : Step → Bool) (w : Written) (ws : List Written) → below test (w ∷ ws) ≡ [] → below test ws ≡ []
none_below test ([], v) ws e = e
none_below test (s ∷ steps, v) ws e = one_less (test s) (steps, v) (below test ws) e
  where
    one_less : (b : Bool) (x : Written) (rest : List Written) → or_rest (cond b (Some x) None) rest ≡ [] → rest ≡ []
    one_less true x rest f = cc
    one_less false x rest f = f

same_name : (name here : List ℕ) (b : Bool) (v : Option Tree) (rest : List Written) → bytes_eq here name ≡ b → or_rest (cond b (Some ([], v)) None) rest ≡ [] → bytes_eq name here ≡ false
same_name name here true v rest e f = cc
same_name name here false v rest e f =
    only_false (bytes_eq name here) (λ t. let u : bytes_eq here name ≡ true = (bytes_eq-Decides here name).1 (sym ((bytes_eq-Decides name here).0 t)) in let h : ⊥ = cc in h)

nothing_put : (name : List ℕ) (steps : List Step) (v : Option Tree) (rest : List Written) (before : Option Tree) → below (is_name name) ((steps, v) ∷ rest) ≡ [] → put_or name steps v before ≡ before
nothing_put name [] v rest before e = refl
nothing_put name (Index place ∷ steps) v rest before e = refl
nothing_put name (Name here ∷ next ∷ steps) v rest before e = refl
nothing_put name (Name here ∷ []) None rest before e = refl
nothing_put name (Name here ∷ []) (Some v) rest before e = rw (same_name name here (bytes_eq here name) (Some v) (below (is_name name) rest) refl e) refl

none_put : (name : List ℕ) (ws : List Written) (before : Option Tree) → below (is_name name) ws ≡ [] → last_put name ws before ≡ before
none_put name [] before e = refl
none_put name (w ∷ ws) before e =
    ap (last_put name ws) (nothing_put name w.0 w.1 ws before e) ∙ none_put name ws before (none_below (is_name name) w ws e)

some_is : (o : Option Tree) → option_and_then (λ t. kept t []) o ≡ o
some_is None = refl
some_is (Some t) = refl

pub keeps_others : (item : Attributes) (ws : List Written) → AreInOrder item → KeepsOthers item ws
keeps_others item ws up name none =
    by_name item ws up name
    ∙ none_put name ws (option_and_then (λ t. kept t (below (is_name name) ws)) (value_at name item)) none
    ∙ ap (λ vs. option_and_then (λ t. kept t vs) (value_at name item)) none
    ∙ some_is (value_at name item)
