-- Beginnings of one history, and what a pass or a cell has in them.
use Rattle.std.proofs.Common.{◌≡◌, ◌≢◌, ◌⊎◌, ℕ, ◌≤◌, Bool, true, false, cond, leb, ◌==◌, List, [], ◌∷◌, ◌++◌, length, filter, Some, refl, sym, ap, ◌∙◌, subst, inl, inr, ⊎_elim, arith, append_assoc, append-nil, length-append, leb-true, leb-false, eq-eqb, ne_eqb, eqb-true}
use Rattle.std.proofs.lemmas.List.{append_cancel_left, nil_from_length}
use Rattle.std.proofs.lemmas.List.Elements.{filter-append}
use Rattle.turnstile.specs.Histories.{Has, IsBeginning, longer, is_of, own, Trail, Ends, IsTimely}
use Rattle.turnstile.proofs.Basics.{Has-append}

module _ {E : Type 0} where
  pub begins_self : (xs : List E) → IsBeginning xs xs
  begins_self xs = ([], append-nil xs)

  pub begins_on : (xs ys zs : List E) → IsBeginning xs ys → IsBeginning ys zs → IsBeginning xs zs
  begins_on xs ys zs a b = (a.0 ++ b.0, sym (append_assoc xs a.0 b.0) ∙ (ap (λ l. l ++ b.0) a.1 ∙ b.1))

  pub begins_push : (xs ys : List E) (e : E) → IsBeginning xs ys → IsBeginning xs (ys ++ e ∷ [])
  begins_push xs ys e a = begins_on xs ys (ys ++ e ∷ []) a (e ∷ [], refl)

  -- of two beginnings of one list the shorter begins the longer
  shorter_begins : (xs a ys b : List E) → xs ++ a ≡ ys ++ b → length xs ≤ length ys → IsBeginning xs ys
  shorter_begins [] a ys b e le = (ys, refl)
  shorter_begins (x ∷ xs) a [] b e le = absurd (omega arith)
  shorter_begins (x ∷ xs) a (y ∷ ys) b e le = let head : x ≡ y = cc in let tail : xs ++ a ≡ ys ++ b = cc in
      let t = shorter_begins xs a ys b tail (omega arith) in (t.0, λ i. head i ∷ t.1 i)

  pub longer_cases : (xs ys : List E) → ((length xs ≤ length ys) × (longer xs ys ≡ ys)) ⊎ ((length ys ≤ length xs) × (longer xs ys ≡ xs))
  longer_cases xs ys = pick (leb (length xs) (length ys)) refl
    where
      pick : (b : Bool) → leb (length xs) (length ys) ≡ b → ((length xs ≤ length ys) × (longer xs ys ≡ ys)) ⊎ ((length ys ≤ length xs) × (longer xs ys ≡ xs))
      pick true e = inl (leb-true (length xs) (length ys) e, ap (λ b. cond b ys xs) e)
      pick false e = let h = leb-false (length xs) (length ys) e in inr (omega arith, ap (λ b. cond b ys xs) e)

  pub longer_of : (xs ys log : List E) → IsBeginning xs log → IsBeginning ys log → IsBeginning xs (longer xs ys) × IsBeginning ys (longer xs ys) × IsBeginning (longer xs ys) log
  longer_of xs ys log a b = ⊎_elim
      (λ h. subst (λ l. IsBeginning xs l × IsBeginning ys l × IsBeginning l log) (sym h.1) (shorter_begins xs a.0 ys b.0 (a.1 ∙ sym b.1) h.0, begins_self ys, b))
      (λ h. subst (λ l. IsBeginning xs l × IsBeginning ys l × IsBeginning l log) (sym h.1) (begins_self xs, shorter_begins ys b.0 xs a.0 (b.1 ∙ sym a.1) h.0, a))
      (longer_cases xs ys)

  pub longer_either : (P : List E → Type 0) (xs ys : List E) → P xs → P ys → P (longer xs ys)
  longer_either P xs ys x y = ⊎_elim (λ h. subst P (sym h.1) y) (λ h. subst P (sym h.1) x) (longer_cases xs ys)

  module _ (p : E → Bool) where
    -- where the last has no more of these than the first, no list in between has
    pub squeeze : (xs ys zs : List E) → IsBeginning xs ys → IsBeginning ys zs → filter p zs ≡ filter p xs → filter p ys ≡ filter p xs
    squeeze xs ys zs a b same =
        let one : filter p ys ≡ filter p xs ++ filter p a.0 = ap (filter p) (sym a.1) ∙ filter-append p xs a.0 in
        let two : filter p zs ≡ filter p ys ++ filter p b.0 = ap (filter p) (sym b.1) ∙ filter-append p ys b.0 in
        let l1 = ap length one ∙ length-append (filter p xs) (filter p a.0) in
        let l2 = ap length two ∙ length-append (filter p ys) (filter p b.0) in
        let l3 = ap length same in
        let none : filter p a.0 ≡ [] = nil_from_length (filter p a.0) (omega arith) in
        one ∙ (ap (λ l. filter p xs ++ l) none ∙ append-nil (filter p xs))

    pub filter_take : (xs : List E) (e : E) → p e ≡ true → filter p (xs ++ e ∷ []) ≡ filter p xs ++ e ∷ []
    filter_take xs e h = filter-append p xs (e ∷ []) ∙ ap (λ b. filter p xs ++ cond b (e ∷ []) []) h

    pub filter_skip : (xs : List E) (e : E) → p e ≡ false → filter p (xs ++ e ∷ []) ≡ filter p xs
    filter_skip xs e h = filter-append p xs (e ∷ []) ∙ (ap (λ b. filter p xs ++ cond b (e ∷ []) []) h ∙ append-nil (filter p xs))

    pub grown_none : (xs rest : List E) → filter p (xs ++ rest) ≡ filter p xs → filter p rest ≡ []
    grown_none xs rest same = append_cancel_left (filter p xs) (filter p rest) [] (sym (filter-append p xs rest) ∙ (same ∙ sym (append-nil (filter p xs))))

    pub none_grown : (xs rest : List E) → filter p rest ≡ [] → filter p (xs ++ rest) ≡ filter p xs
    none_grown xs rest none = filter-append p xs rest ∙ (ap (λ l. filter p xs ++ l) none ∙ append-nil (filter p xs))

    pub none_before : (xs ys : List E) → IsBeginning xs ys → filter p ys ≡ [] → filter p xs ≡ []
    none_before xs ys a none = let l = ap length (sym none ∙ (ap (filter p) (sym a.1) ∙ filter-append p xs a.0)) ∙ length-append (filter p xs) (filter p a.0) in nil_from_length (filter p xs) (omega arith)

  module _ (by : E → ℕ) (p : ℕ) where
    pub own_mine : (xs : List E) (e : E) → by e ≡ p → own by p (xs ++ e ∷ []) ≡ own by p xs ++ e ∷ []
    own_mine xs e h = filter_take (λ x. by x == p) xs e (eq-eqb (by e) p h)

    pub own_other : (xs : List E) (e : E) → by e ≢ p → own by p (xs ++ e ∷ []) ≡ own by p xs
    own_other xs e h = filter_skip (λ x. by x == p) xs e (ne_eqb (by e) p h)

    -- a front that grew with no own entry
    pub trail_none : (xs ys : List E) → IsBeginning xs ys → own by p ys ≡ own by p xs → Trail by p xs [] ys
    trail_none xs ys a same = record { rest = a.0; is = a.1; mine = grown_none (λ x. by x == p) xs a.0 (ap (own by p) a.1 ∙ same) }

    pub trail_self : (xs : List E) → Trail by p xs [] xs
    trail_self xs = record { rest = []; is = append-nil xs; mine = refl }

    pub trail_begins : (xs es ys : List E) → Trail by p xs es ys → IsBeginning xs ys
    trail_begins xs es ys t = (t.rest, t.is)

    pub trail_own : (xs es ys : List E) → Trail by p xs es ys → own by p ys ≡ own by p xs ++ es
    trail_own xs es ys t = ap (own by p) (sym t.is) ∙ (filter-append (λ x. by x == p) xs t.rest ∙ ap (λ l. own by p xs ++ l) t.mine)

    -- one stretch after another
    pub trail_on : (xs es ys fs zs : List E) → Trail by p xs es ys → Trail by p ys fs zs → Trail by p xs (es ++ fs) zs
    trail_on xs es ys fs zs t u = record {
      rest = t.rest ++ u.rest;
      is = sym (append_assoc xs t.rest u.rest) ∙ (ap (λ l. l ++ u.rest) t.is ∙ u.is);
      mine = filter-append (λ x. by x == p) t.rest u.rest ∙ (λ i. t.mine i ++ u.mine i);
    }

    pub trail_push : (xs es ys : List E) (e : E) → by e ≡ p → Trail by p xs es ys → Trail by p xs (es ++ e ∷ []) (ys ++ e ∷ [])
    trail_push xs es ys e h t = trail_on xs es ys (e ∷ []) (ys ++ e ∷ []) t record { rest = e ∷ []; is = refl; mine = ap (λ b. cond b (e ∷ []) []) (eq-eqb (by e) p h) }

    pub trail_end : (xs : List E) (e : E) (ys : List E) → by e ≡ p → Ends by p xs e ys → Trail by p xs (e ∷ []) ys
    trail_end xs e ys h t = subst (Trail by p xs (e ∷ [])) t.is (trail_push xs [] t.past e h t.none)

    -- what grew before the entry belongs to its past
    pub ends_after : (xs ys : List E) (e : E) (zs : List E) → Trail by p xs [] ys → Ends by p ys e zs → Ends by p xs e zs
    ends_after xs ys e zs t u = record { past = u.past; none = trail_on xs [] ys [] u.past t u.none; is = u.is }

    -- P before e, e one of the entries that the pass added
    pub at : (xs es : List E) (e : E) (fs ys : List E) → Trail by p xs (es ++ e ∷ fs) ys → (past : List E) × Trail by p xs es past × Trail by p (past ++ e ∷ []) fs ys
    at xs es e fs ys t = let s = split t.rest es t.mine in (
      xs ++ s.0,
      record { rest = s.0; is = refl; mine = s.2 },
      record { rest = s.1; is = append_assoc (xs ++ s.0) (e ∷ []) s.1 ∙ (append_assoc xs s.0 (e ∷ s.1) ∙ (ap (λ l. xs ++ l) s.4 ∙ t.is)); mine = s.3 },
    )
      where
        split : (rest es : List E) → own by p rest ≡ es ++ e ∷ fs → (before : List E) × (after : List E) × (own by p before ≡ es) × (own by p after ≡ fs) × (before ++ e ∷ after ≡ rest)
        split [] [] h = absurd (cc)
        split [] (x ∷ es) h = absurd (cc)
        split (y ∷ rest) es h = with_test (split rest) (by y == p) refl es h
          where
            with_test : ((es : List E) → own by p rest ≡ es ++ e ∷ fs → (before : List E) × (after : List E) × (own by p before ≡ es) × (own by p after ≡ fs) × (before ++ e ∷ after ≡ rest)) → (b : Bool) → (by y == p) ≡ b → (es : List E) → own by p (y ∷ rest) ≡ es ++ e ∷ fs
                → (before : List E) × (after : List E) × (own by p before ≡ es) × (own by p after ≡ fs) × (before ++ e ∷ after ≡ y ∷ rest)
            with_test below false eq es h = let skip : own by p (y ∷ rest) ≡ own by p rest = ap (λ b. cond b (y ∷ own by p rest) (own by p rest)) eq in
                let t = below es (sym skip ∙ h) in
                (y ∷ t.0, t.1, ap (λ b. cond b (y ∷ own by p t.0) (own by p t.0)) eq ∙ t.2, t.3, ap (λ l. y ∷ l) t.4)
            with_test below true eq [] h = let keep : own by p (y ∷ rest) ≡ y ∷ own by p rest = ap (λ b. cond b (y ∷ own by p rest) (own by p rest)) eq in
                let both : y ∷ own by p rest ≡ e ∷ fs = sym keep ∙ h in let head : y ≡ e = cc in let tail : own by p rest ≡ fs = cc in
                ([], rest, refl, tail, λ i. sym head i ∷ rest)
            with_test below true eq (x ∷ es) h = let keep : own by p (y ∷ rest) ≡ y ∷ own by p rest = ap (λ b. cond b (y ∷ own by p rest) (own by p rest)) eq in
                let both : y ∷ own by p rest ≡ x ∷ (es ++ e ∷ fs) = sym keep ∙ h in let head : y ≡ x = cc in let tail : own by p rest ≡ es ++ e ∷ fs = cc in
                let t = below es tail in
                (y ∷ t.0, t.1, ap (λ b. cond b (y ∷ own by p t.0) (own by p t.0)) eq ∙ (λ i. head i ∷ t.2 i), t.3, ap (λ l. y ∷ l) t.4)

  pub timely_same : (by moment : E → ℕ) (p now : ℕ) (xs ys : List E) → own by p ys ≡ own by p xs → IsTimely by moment p now xs → IsTimely by moment p now ys
  timely_same by moment p now xs ys same t e h = t e (subst (λ l. Has l e) same h)

  pub timely_push : (by moment : E → ℕ) (p now : ℕ) (xs : List E) (e : E) → by e ≡ p → moment e ≡ now → IsTimely by moment p now xs → IsTimely by moment p now (xs ++ e ∷ [])
  timely_push by moment p now xs e h m t x in_it = ⊎_elim (λ old. t x old) (λ new. ⊎_elim (λ same. let s : moment e ≡ moment x = ap moment same in omega arith) (λ none. absurd none) new)
      (Has-append (own by p xs) (e ∷ []) x (subst (λ l. Has l x) (own_mine by p xs e h) in_it))

-- whether an entry is of a cell
pub is_of_same : (k c : ℕ) → is_of (Some k) c ≡ true → k ≡ c
is_of_same k c h = eqb-true k c h
