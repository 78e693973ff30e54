-- Lists of entries in order: the same where look-ups are, one more, one less.
use Rattle.std.specs.List.{AllByRecursion}
use Rattle.std.specs.List.Sorted.{IsStrictlySortedBy}
use Rattle.std.specs.Cmp.{IsTotalOrder, tied_itself, eq_by_cmp_equiv}
use Rattle.std.specs.Map.{keys_of, lookup, remove_entry}
use Rattle.std.specs.BTreeMap.{is_at, insert_entry}
use Rattle.std.specs.declared.cmp.Ordering.{Ordering}
use Rattle.std.specs.declared.cmp.Ordering.TheVariants.{Less, Equal, Greater}
use Rattle.std.specs.Ordering.{is_eq, ordering_reverse, match_ordering}
use Rattle.std.proofs.Common.{◌≡◌, Bool, true, false, cond, List, [], ◌∷◌, Option, None, Some, refl, sym, ap, ◌∙◌}
use Rattle.std.proofs.lemmas.Bool.{cond-true, cond-false}
use Rattle.std.proofs.lemmas.Map.{lookup-none, lookup-remove_entry}
use Rattle.std.proofs.lemmas.Map.Entries.{none_past_head, none_below_head}
use Rattle.std.proofs.lemmas.Map.Keys.{IsDistinct-from_sorted}
use Rattle.std.proofs.lemmas.Map.Lookups.{CmpEqualImpliesEq}

pub by_bool : (b : Bool) (P : Type 0) → (b ≡ true → P) → (b ≡ false → P) → P
by_bool true P f g = f refl
by_bool false P f g = g refl

pub clash : (b : Bool) → b ≡ true → b ≡ false → ⊥
clash b x y = cc

pub false_from : (b : Bool) → (b ≡ true → ⊥) → b ≡ false
false_from true f = absurd (f refl)
false_from false f = refl

all_up : {X : Type 0} (P Q : X → Type 0) (es : List X) → ((x : X) → P x → Q x) → AllByRecursion P es → AllByRecursion Q es
all_up P Q [] f all = tt
all_up P Q (e ∷ es) f all = (f e all.0, all_up P Q es f all.1)

same_back : (r : Ordering) → is_eq (ordering_reverse r) ≡ is_eq r
same_back Less = refl
same_back Equal = refl
same_back Greater = refl

equal_is : (r : Ordering) → is_eq r ≡ true → r ≡ Equal
equal_is Less e = absurd (cc)
equal_is Equal e = refl
equal_is Greater e = absurd (cc)

module _ {K : Type 0} {R : K → K → Ordering} (o : IsTotalOrder R) (exact : CmpEqualImpliesEq R) where
  -- keys at which a query is are the query's
  pub at_is : (x y : K) → is_at (R x) y ≡ true → x ≡ y
  at_is x y h = exact x y (equal_is (R x y) h)

  pub at_self : (x : K) → is_at (R x) x ≡ true
  at_self x = ap is_eq (tied_itself o x)

  back : (x y : K) (r : Ordering) → R x y ≡ r → R y x ≡ ordering_reverse r
  back x y r e = o.antisymm y x ∙ ap ordering_reverse e

  pub flip : (q k : K) → is_at (R q) k ≡ is_at (R k) q
  flip q k = ap is_eq (o.antisymm q k) ∙ same_back (R k q)

  both_not : (k q y : K) → R k y ≡ Greater → is_at (R q) y ≡ true → is_at (R k) q ≡ true → ⊥
  both_not k q y g a b = never (λ i. R ((at_is k q b ∙ at_is q y a) i) y)
    where
      never : R k y ≡ R y y → ⊥
      never e = absurd_of (sym g ∙ e ∙ tied_itself o y)
        where
          absurd_of : Greater ≡ Equal → ⊥
          absurd_of e = cc

module _ {K X : Type 0} {R : K → K → Ordering} (o : IsTotalOrder R) where
  at_head : (e : K × X) (es : List (K × X)) → lookup (is_at (R e.0)) (e ∷ es) ≡ Some e.1
  at_head e es = cond-true (is_at (R e.0) e.0) (Some e.1) (lookup (is_at (R e.0)) es) (ap is_eq (tied_itself o e.0))

  -- behind the entry of a key there is none
  pub past_head : (q : K) (e : K × X) (es : List (K × X)) → IsStrictlySortedBy R (keys_of (e ∷ es)) → is_at (R q) e.0 ≡ true → lookup (is_at (R q)) es ≡ None
  past_head q e es s h =
      lookup-none (is_at (R q)) es (none_past_head (eq_by_cmp_equiv o) q e es (IsDistinct-from_sorted R (keys_of (e ∷ es)) s) h)

  some_none : (x : X) → Some x ≡ None → ⊥
  some_none x e = absurd (cc)

  some_same : (x y : X) → Some x ≡ Some y → x ≡ y
  some_same x y e = cc

  module _ (e f : K × X) (es fs : List (K × X)) (s : IsStrictlySortedBy R (keys_of (e ∷ es))) (t : IsStrictlySortedBy R (keys_of (f ∷ fs)))
      (h : (q : K) → lookup (is_at (R q)) (e ∷ es) ≡ lookup (is_at (R q)) (f ∷ fs)) where
    heads_by : (r : Ordering) → R e.0 f.0 ≡ r → R e.0 f.0 ≡ Equal
    heads_by Less p = absurd (some_none e.1 (sym (at_head e es) ∙ h e.0 ∙ lookup-none (is_at (R e.0)) (f ∷ fs) (none_below_head o e.0 f fs t p)))
    heads_by Equal p = p
    heads_by Greater p =
        absurd (some_none f.1 (sym (at_head f fs) ∙ sym (h f.0)
        ∙ lookup-none (is_at (R f.0)) (e ∷ es) (none_below_head o f.0 e es s (o.antisymm f.0 e.0 ∙ ap ordering_reverse p))))

    heads : R e.0 f.0 ≡ Equal
    heads = heads_by (R e.0 f.0) refl

    values : e.1 ≡ f.1
    values = some_same e.1 f.1 (sym (at_head e es) ∙ h e.0 ∙ cond-true (is_at (R e.0) f.0) (Some f.1) (lookup (is_at (R e.0)) fs) (ap is_eq heads))

    rests : e.0 ≡ f.0 → (q : K) → lookup (is_at (R q)) es ≡ lookup (is_at (R q)) fs
    rests same q = by_bool (is_at (R q) e.0) _
        (λ b. past_head q e es s b ∙ sym (past_head q f fs t (ap (λ (k : K). is_at (R q) k) (sym same) ∙ b)))
        (λ b. sym (cond-false (is_at (R q) e.0) (Some e.1) (lookup (is_at (R q)) es) b) ∙ h q
        ∙ cond-false (is_at (R q) f.0) (Some f.1) (lookup (is_at (R q)) fs) (ap (λ (k : K). is_at (R q) k) (sym same) ∙ b))

module _ {K X : Type 0} {R : K → K → Ordering} (o : IsTotalOrder R) (exact : CmpEqualImpliesEq R) where
  -- what is looked up decides a list in order
  pub same_entries : (es fs : List (K × X)) → IsStrictlySortedBy R (keys_of es) → IsStrictlySortedBy R (keys_of fs)
      → ((q : K) → lookup (is_at (R q)) es ≡ lookup (is_at (R q)) fs) → es ≡ fs
  unfolding IsStrictlySortedBy
  same_entries [] [] s t h = refl
  same_entries [] (f ∷ fs) s t h = absurd (some_none o f.1 (sym (at_head o f fs) ∙ sym (h f.0)))
  same_entries (e ∷ es) [] s t h = absurd (some_none o e.1 (sym (at_head o e es) ∙ h e.0))
  same_entries (e ∷ es) (f ∷ fs) s t h =
      let key : e.0 ≡ f.0 = exact e.0 f.0 (heads o e f es fs s t h) in
      let value : e.1 ≡ f.1 = values o e f es fs s t h in
      let rest : es ≡ fs = same_entries es fs s.1 t.1 (rests o e f es fs s t h key) in
      λ i. (key i, value i) ∷ rest i

  all_in : (P : K → Type 0) (k : K) (v : X) → P k → (es : List (K × X)) → AllByRecursion P (keys_of es) → AllByRecursion P (keys_of (insert_entry R es k v))
  all_in P k v p [] all = (p, tt)
  all_in P k v p (e ∷ es) all = go (R k e.0) (all_in P k v p es all.1)
    where
      go : (r : Ordering) → AllByRecursion P (keys_of (insert_entry R es k v))
          → AllByRecursion P (keys_of (match_ordering r ((k, v) ∷ e ∷ es) ((e.0, v) ∷ es) (e ∷ insert_entry R es k v)))
      go Less h = (p, all)
      go Equal h = all
      go Greater h = (all.0, h)

  pub sorted_in : (k : K) (v : X) (es : List (K × X)) → IsStrictlySortedBy R (keys_of es) → IsStrictlySortedBy R (keys_of (insert_entry R es k v))
  unfolding IsStrictlySortedBy
  sorted_in k v [] s = (tt, tt)
  sorted_in k v (e ∷ es) s = go (R k e.0) refl (sorted_in k v es s.1)
    where
      go : (r : Ordering) → R k e.0 ≡ r → IsStrictlySortedBy R (keys_of (insert_entry R es k v))
          → IsStrictlySortedBy R (keys_of (match_ordering r ((k, v) ∷ e ∷ es) ((e.0, v) ∷ es) (e ∷ insert_entry R es k v)))
      go Less h rest = ((h, all_up (λ y. R e.0 y ≡ Less) (λ y. R k y ≡ Less) (keys_of es) (λ y l. o.trans k e.0 y h l) s.0), s)
      go Equal h rest = s
      go Greater h rest = (all_in (λ y. R e.0 y ≡ Less) k v (back o exact k e.0 Greater h) es s.0, rest)

  pub lookup_in : (q k : K) (v : X) (es : List (K × X)) → lookup (is_at (R q)) (insert_entry R es k v) ≡ cond (is_at (R k) q) (Some v) (lookup (is_at (R q)) es)
  lookup_in q k v [] = ap (λ b. cond b (Some v) None) (flip o exact q k)
  lookup_in q k v (e ∷ es) = go (R k e.0) refl (lookup_in q k v es)
    where
      swap : (a b : Bool) (l : Option X) → (a ≡ true → b ≡ true → ⊥) → cond a (Some e.1) (cond b (Some v) l) ≡ cond b (Some v) (cond a (Some e.1) l)
      swap true true l apart = absurd (apart refl refl)
      swap true false l apart = refl
      swap false b l apart = refl

      over : (a b : Bool) (l : Option X) → a ≡ b → cond a (Some v) l ≡ cond b (Some v) (cond a (Some e.1) l)
      over true true l h = refl
      over false false l h = refl
      over true false l h = absurd (cc)
      over false true l h = absurd (cc)

      go : (r : Ordering) → R k e.0 ≡ r → lookup (is_at (R q)) (insert_entry R es k v) ≡ cond (is_at (R k) q) (Some v) (lookup (is_at (R q)) es)
          → lookup (is_at (R q)) (match_ordering r ((k, v) ∷ e ∷ es) ((e.0, v) ∷ es) (e ∷ insert_entry R es k v))
          ≡ cond (is_at (R k) q) (Some v) (cond (is_at (R q) e.0) (Some e.1) (lookup (is_at (R q)) es))
      go Less h rest = ap (λ b. cond b (Some v) (cond (is_at (R q) e.0) (Some e.1) (lookup (is_at (R q)) es))) (flip o exact q k)
      go Equal h rest =
          over (is_at (R q) e.0) (is_at (R k) q) (lookup (is_at (R q)) es)
          (ap (λ (y : K). is_at (R q) y) (sym (exact k e.0 h)) ∙ flip o exact q k)
      go Greater h rest =
          ap (λ l. cond (is_at (R q) e.0) (Some e.1) l) rest
          ∙ swap (is_at (R q) e.0) (is_at (R k) q) (lookup (is_at (R q)) es) (both_not o exact k q e.0 h)

  all_out : (P : K → Type 0) (test : K → Bool) (es : List (K × X)) → AllByRecursion P (keys_of es) → AllByRecursion P (keys_of (remove_entry test es))
  all_out P test [] all = tt
  all_out P test (e ∷ es) all = go (test e.0) (all_out P test es all.1)
    where
      go : (b : Bool) → AllByRecursion P (keys_of (remove_entry test es)) → AllByRecursion P (keys_of (cond b es (e ∷ remove_entry test es)))
      go true h = all.1
      go false h = (all.0, h)

  pub sorted_out : (test : K → Bool) (es : List (K × X)) → IsStrictlySortedBy R (keys_of es) → IsStrictlySortedBy R (keys_of (remove_entry test es))
  unfolding IsStrictlySortedBy
  sorted_out test [] s = tt
  sorted_out test (e ∷ es) s = go (test e.0) (sorted_out test es s.1)
    where
      go : (b : Bool) → IsStrictlySortedBy R (keys_of (remove_entry test es)) → IsStrictlySortedBy R (keys_of (cond b es (e ∷ remove_entry test es)))
      go true h = s.1
      go false h = (all_out (λ y. R e.0 y ≡ Less) test es s.0, h)

  pub lookup_out : (q k : K) (es : List (K × X)) → IsStrictlySortedBy R (keys_of es)
      → lookup (is_at (R q)) (remove_entry (is_at (R k)) es) ≡ cond (is_at (R k) q) None (lookup (is_at (R q)) es)
  lookup_out q k es s =
      lookup-remove_entry (eq_by_cmp_equiv o) (is_at (R k)) (λ x y h. ap (λ (z : K). is_at (R z) y) (at_is o exact k x h)) q es
      (IsDistinct-from_sorted R (keys_of es) s)

  -- in order, each entry is what its key finds
  pub each_found : (es : List (K × X)) → IsStrictlySortedBy R (keys_of es) → AllByRecursion (λ e. lookup (is_at (R e.0)) es ≡ Some e.1) es
  unfolding IsStrictlySortedBy
  each_found [] s = tt
  each_found (e ∷ es) s = (at_head o e es, tail es s.0 (each_found es s.1))
    where
      tail : (fs : List (K × X)) → AllByRecursion (λ y. R e.0 y ≡ Less) (keys_of fs) → AllByRecursion (λ f. lookup (is_at (R f.0)) es ≡ Some f.1) fs
          → AllByRecursion (λ f. cond (is_at (R f.0) e.0) (Some e.1) (lookup (is_at (R f.0)) es) ≡ Some f.1) fs
      tail [] a b = tt
      tail (f ∷ fs) a b =
          (cond-false (is_at (R f.0) e.0) (Some e.1) (lookup (is_at (R f.0)) es) (ap is_eq (back o exact e.0 f.0 Less a.0)) ∙ b.0, tail fs a.1 b.1)
