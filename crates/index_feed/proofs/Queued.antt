-- What a change of an item queues makes each of its rows due.
use Rattle.std.proofs.Common.{◌≡◌, inl, inr, ℕ, Bool, true, false, ◌&&◌, ◌||◌, nat_eq, List, [], ◌∷◌, Option, None, Some, if◌then◌else◌, refl, sym, ap, ◌∙◌, subst}
use Rattle.std.specs.List.{list_any, flat_map}
use Rattle.std.proofs.lemmas.Bool.{cond_both, cases_Bool, and_parts, and_left, and_right, eqb-true, eqb-false, eq-eqb, ne_eqb, or_cases}
use Rattle.index_feed.specs.declared.change.Change.{Change}
use Rattle.index_feed.specs.declared.change.Row.{Row}
use Rattle.index_feed.specs.Feed.{Indexed, Each, served, row_in, at_key, is_at, overlay, change_of, changes, founding, IsLawful}
use Rattle.index_feed.proofs.Overlays.{each_append, each_flat, each_weaker, overlay_append, leaves, agrees}

pub or_right : (a b : Bool) → b ≡ true → (a || b) ≡ true
or_right true b e = refl
or_right false b e = e

module _ {K V C : Type 0} (I : Indexed K V C) (law : IsLawful I) where
  turned : (x y : K) → I.same x y ≡ false → I.same y x ≡ false
  turned x y e = elim (cases_Bool (I.same y x)) [
    | inl t ↦ let i : y ≡ x = law.exact y x t in let s : I.same x y ≡ true = subst (λ z. I.same x z ≡ true) (sym i) (law.itself x) in absurd (cc)
    | inr t ↦ t
  ]

  pub at_is : (c : Change K V) (g : ℕ) (q : K) → is_at I c g q ≡ true → (c.index ≡ g) × (c.key ≡ q)
  at_is c g q e = let p = and_parts (nat_eq c.index g) (I.same c.key q) e in (eqb-true c.index g p.0, law.exact c.key q p.1)

  pub not_at_index : (c : Change K V) (g : ℕ) (q : K) → (c.index ≡ g → ⊥) → is_at I c g q ≡ false
  not_at_index c g q h = and_left (nat_eq c.index g) (I.same c.key q) (ne_eqb c.index g h)

  pub not_at_key : (c : Change K V) (g : ℕ) (q : K) → (c.key ≡ q → ⊥) → is_at I c g q ≡ false
  not_at_key c g q h = and_right (nat_eq c.index g) (I.same c.key q) (elim (cases_Bool (I.same c.key q)) [ inl t ↦ absurd (h (law.exact c.key q t)) | inr t ↦ t ])

  own_key : (r : Row K V) → at_key I r.key (Some r) ≡ Some r.content
  own_key r = ap (λ b. if b then Some r.content else None) (law.itself r.key)

  other_key : (r : Row K V) (q : K) → I.same r.key q ≡ false → at_key I q (Some r) ≡ None
  other_key r q e = ap (λ b. if b then Some r.content else None) e

  its_item : (c : C) (g : ℕ) (k : K) (v : Option V) (r : Row K V) → row_in I c g k v ≡ Some r → I.item_of r.key ≡ k
  its_item c g k None r e = absurd (cc)
  its_item c g k (Some v) r e = law.its_item c g k v r e

  -- over rows that are generalized: what each queued change tells
  told :
      (g : ℕ) (k : K) (old new : Option (Row K V)) → ((r : Row K V) → old ≡ Some r → I.item_of r.key ≡ k)
      → ((r : Row K V) → new ≡ Some r → I.item_of r.key ≡ k)
      → Each (λ x. (x.index ≡ g) × (I.item_of x.key ≡ k) × (x.after ≡ at_key I x.key new)) (change_of I g old new)
  told g k None None h l = tt
  told g k None (Some n) h l = ((refl, l n refl, sym (own_key n)), tt)
  told g k (Some o) None h l = ((refl, h o refl, refl), tt)
  told g k (Some o) (Some n) h l =
      cond_both (I.same o.key n.key) (if I.equal o.content n.content then [] else record { index = g; key = n.key; after = Some n.content } ∷ [])
      (record { index = g; key = o.key; after = None } ∷ record { index = g; key = n.key; after = Some n.content } ∷ [])
      (λ y. Each (λ x. (x.index ≡ g) × (I.item_of x.key ≡ k) × (x.after ≡ at_key I x.key (Some n))) y)
      (λ _. cond_both (I.equal o.content n.content) [] (record { index = g; key = n.key; after = Some n.content } ∷ [])
      (λ y. Each (λ x. (x.index ≡ g) × (I.item_of x.key ≡ k) × (x.after ≡ at_key I x.key (Some n))) y) (λ _. tt) (λ _. ((refl, l n refl, sym (own_key n)), tt)))
      (λ e. ((refl, h o refl, sym (other_key n o.key (turned o.key n.key e))), ((refl, l n refl, sym (own_key n)), tt)))

  one :
      (g : ℕ) (q : K) (n : Row K V) (x : Option V) → (I.same n.key q ≡ false → x ≡ None)
      → overlay I (record { index = g; key = n.key; after = Some n.content } ∷ []) g q x ≡ at_key I q (Some n)
  one g q n x h =
      ap (λ b. if b && I.same n.key q then Some n.content else x) (eq-eqb g g refl)
      ∙ cond_both (I.same n.key q) (Some n.content) x (λ y. y ≡ (if I.same n.key q then Some n.content else None))
      (λ t. sym (ap (λ b. if b then Some n.content else None) t)) (λ t. h t ∙ sym (ap (λ b. if b then Some n.content else None) t))

  -- one index's changes take the old row to the new one
  moves :
      (g : ℕ) (q : K) (old new : Option (Row K V)) (x : Option V) → x ≡ at_key I q old
      → overlay I (change_of I g old new) g q x ≡ at_key I q new
  moves g q None None x e = e
  moves g q None (Some n) x e = one g q n x (λ t. e)
  moves g q (Some o) None x e =
      ap (λ b. if b && I.same o.key q then None else x) (eq-eqb g g refl)
      ∙ cond_both (I.same o.key q) None x (λ y. y ≡ None) (λ _. refl) (λ t. e ∙ other_key o q t)
  moves g q (Some o) (Some n) x e =
      cond_both (I.same o.key n.key) (if I.equal o.content n.content then [] else record { index = g; key = n.key; after = Some n.content } ∷ [])
      (record { index = g; key = o.key; after = None } ∷ record { index = g; key = n.key; after = Some n.content } ∷ [])
      (λ y. overlay I y g q x ≡ at_key I q (Some n))
      (λ s. let i = law.exact o.key n.key s in
      cond_both (I.equal o.content n.content) [] (record { index = g; key = n.key; after = Some n.content } ∷ [])
      (λ y. overlay I y g q x ≡ at_key I q (Some n))
      (λ s. e ∙ ap (λ k. if I.same k q then Some o.content else None) i ∙ ap (λ v. if I.same n.key q then Some v else None) (law.exact_rows o.content n.content s))
      (λ _. one g q n x (λ t. e ∙ ap (λ k. if I.same k q then Some o.content else None) i ∙ ap (λ b. if b then Some o.content else None) t)))
      (λ _. one g q n (if is_at I (record { index = g; key = o.key; after = None }) g q then None else x)
      (λ t. ap (λ b. if b && I.same o.key q then None else x) (eq-eqb g g refl) ∙ cond_both (I.same o.key q) None x (λ y. y ≡ None) (λ _. refl) (λ t. e ∙ other_key o q t)))

  -- a list of changes of one item, each of which tells what is due then
  abbrev pub Telling : C → K → Option V → List (Change K V) → Type 0
  Telling c k now xs = Each (λ x. (I.item_of x.key ≡ k) × (served I c x.index k ≡ true) × (x.after ≡ at_key I x.key (row_in I c x.index k now))) xs

  telling_one :
      (c : C) (g : ℕ) (k : K) (old now : Option V) → served I c g k ≡ true
      → Telling c k now (change_of I g (row_in I c g k old) (row_in I c g k now))
  telling_one c g k old now s =
      each_weaker (λ x. (x.index ≡ g) × (I.item_of x.key ≡ k) × (x.after ≡ at_key I x.key (row_in I c g k now)))
      (λ x. (I.item_of x.key ≡ k) × (served I c x.index k ≡ true) × (x.after ≡ at_key I x.key (row_in I c x.index k now)))
      (change_of I g (row_in I c g k old) (row_in I c g k now))
      (λ x h. (h.1, subst (λ i. served I c i k ≡ true) (sym h.0) s, subst (λ i. x.after ≡ at_key I x.key (row_in I c i k now)) (sym h.0) h.2))
      (told g k (row_in I c g k old) (row_in I c g k now) (λ r e. its_item c g k old r e) (λ r e. its_item c g k now r e))

  any_here : (g h : ℕ) (gs : List ℕ) → g ≡ h → list_any (λ x. nat_eq x h) (g ∷ gs) ≡ true
  any_here g h gs e = ap (λ b. b || list_any (λ x. nat_eq x h) gs) (eq-eqb g h e)

  any_there :
      (g h : ℕ) (gs : List ℕ) → list_any (λ x. nat_eq x h) gs ≡ true → list_any (λ x. nat_eq x h) (g ∷ gs) ≡ true
  any_there g h gs e = or_right (nat_eq g h) (list_any (λ x. nat_eq x h) gs) e

  telling_walk :
      (c : C) (k : K) (now : Option V) (f : ℕ → List (Change K V)) (gs : List ℕ)
      → ((g : ℕ) → list_any (λ h. nat_eq h g) gs ≡ true → served I c g k ≡ true)
      → ((g : ℕ) → served I c g k ≡ true → Telling c k now (f g)) → Telling c k now (flat_map f gs)
  telling_walk c k now f [] h t = tt
  telling_walk c k now f (g ∷ gs) h t =
      each_append (λ x. (I.item_of x.key ≡ k) × (served I c x.index k ≡ true) × (x.after ≡ at_key I x.key (row_in I c x.index k now))) (f g) (flat_map f gs)
      (t g (h g (any_here g g gs refl))) (telling_walk c k now f gs (λ i e. h i (any_there g i gs e)) t)

  pub telling_changes : (c : C) (k : K) (old now : Option V) → Telling c k now (changes I c k old now)
  telling_changes c k old now = telling_walk c k now (λ g. change_of I g (row_in I c g k old) (row_in I c g k now)) (I.indexes c k) (λ g e. e) (λ g s. telling_one c g k old now s)

  pub telling_founding : (b c : C) (k : K) (now : Option V) → Telling c k now (founding I b c k now)
  telling_founding b c k now =
      telling_walk c k now (λ g. if served I b g k then [] else change_of I g None (row_in I c g k now)) (I.indexes c k) (λ g e. e)
      (λ g s. cond_both (served I b g k) [] (change_of I g None (row_in I c g k now)) (λ y. Telling c k now y) (λ _. tt) (λ _. telling_one c g k None now s))

  -- so every queued change of the row says what is due
  says_due :
      (c : C) (k : K) (now : Option V) (g : ℕ) (q : K) (xs : List (Change K V)) → Telling c k now xs
      → Each (λ x. is_at I x g q ≡ true → x.after ≡ at_key I q (row_in I c g k now)) xs
  says_due c k now g q xs t =
      each_weaker (λ x. (I.item_of x.key ≡ k) × (served I c x.index k ≡ true) × (x.after ≡ at_key I x.key (row_in I c x.index k now)))
      (λ x. is_at I x g q ≡ true → x.after ≡ at_key I q (row_in I c g k now)) xs
      (λ x h e. let p = at_is x g q e in subst (λ i. x.after ≡ at_key I q (row_in I c i k now)) p.0 (subst (λ y. x.after ≡ at_key I y (row_in I c x.index k now)) p.1 h.2)) t

  -- and changes of another item leave the row
  pub others_leave :
      (c : C) (k : K) (now : Option V) (g : ℕ) (q : K) (x : Option V) (xs : List (Change K V))
      → (I.item_of q ≡ k → ⊥) → Telling c k now xs → overlay I xs g q x ≡ x
  others_leave c k now g q x xs apart t =
      leaves I xs g q x
      (each_weaker (λ x. (I.item_of x.key ≡ k) × (served I c x.index k ≡ true) × (x.after ≡ at_key I x.key (row_in I c x.index k now))) (λ x. is_at I x g q ≡ false) xs
      (λ x h. not_at_key x g q (λ e. apart (subst (λ y. I.item_of y ≡ k) e h.0))) t)

  other_index :
      (c : C) (g h : ℕ) (k : K) (q : K) (old new : Option V) (x : Option V) → (h ≡ g → ⊥)
      → overlay I (change_of I h (row_in I c h k old) (row_in I c h k new)) g q x ≡ x
  other_index c g h k q old new x apart =
      leaves I (change_of I h (row_in I c h k old) (row_in I c h k new)) g q x
      (each_weaker (λ x. (x.index ≡ h) × (I.item_of x.key ≡ k) × (x.after ≡ at_key I x.key (row_in I c h k new))) (λ x. is_at I x g q ≡ false)
      (change_of I h (row_in I c h k old) (row_in I c h k new)) (λ x p. not_at_index x g q (λ e. apart (sym p.0 ∙ e)))
      (told h k (row_in I c h k old) (row_in I c h k new) (λ r e. its_item c h k old r e) (λ r e. its_item c h k new r e)))

  -- an item's change takes the row that was due to the one that is due then, where its index is among these
  walk :
      (c : C) (k : K) (old new : Option V) (g : ℕ) (q : K) (gs : List ℕ) (x : Option V)
      → ((i : ℕ) → list_any (λ h. nat_eq h i) gs ≡ true → served I c i k ≡ true)
      → list_any (λ h. nat_eq h g) gs ≡ true → x ≡ at_key I q (row_in I c g k old)
      → overlay I (flat_map (λ h. change_of I h (row_in I c h k old) (row_in I c h k new)) gs) g q x ≡ at_key I q (row_in I c g k new)
  walk c k old new g q [] x inside member e = absurd (cc)
  walk c k old new g q (h ∷ gs) x inside member e =
      let f : ℕ → List (Change K V) = λ h. change_of I h (row_in I c h k old) (row_in I c h k new) in
      overlay_append I (f h) (flat_map f gs) g q x ∙ elim (cases_Bool (nat_eq h g)) [
        | inl t ↦
            let i : h ≡ g = eqb-true h g t in
            agrees I (flat_map f gs) g q (overlay I (f h) g q x) (at_key I q (row_in I c g k new))
            (says_due c k new g q (flat_map f gs) (telling_walk c k new f gs (λ i m. inside i (any_there h i gs m)) (λ i s. telling_one c i k old new s)))
            (subst (λ j. overlay I (f j) g q x ≡ at_key I q (row_in I c g k new)) (sym i) (moves g q (row_in I c g k old) (row_in I c g k new) x e))
        | inr t ↦
            let apart : h ≡ g → ⊥ = eqb-false h g t in
            ap (λ y. overlay I (flat_map f gs) g q y) (other_index c g h k q old new x apart)
            ∙ walk c k old new g q gs x (λ i m. inside i (any_there h i gs m)) (elim (or_cases (nat_eq h g) (list_any (λ h. nat_eq h g) gs) member) [ inl a ↦ absurd (cc) | inr b ↦ b ]) e
      ]

  pub changes_move :
      (c : C) (k : K) (old new : Option V) (g : ℕ) (q : K) (x : Option V) → served I c g k ≡ true
      → x ≡ at_key I q (row_in I c g k old)
      → overlay I (changes I c k old new) g q x ≡ at_key I q (row_in I c g k new)
  changes_move c k old new g q x member e = walk c k old new g q (I.indexes c k) x (λ i m. m) member e

  -- what an item queues for the new indexes makes its row due; of an index that was there it says nothing
  found :
      (b c : C) (k : K) (now : Option V) (g : ℕ) (q : K) (gs : List ℕ) (x : Option V)
      → ((i : ℕ) → list_any (λ h. nat_eq h i) gs ≡ true → served I c i k ≡ true)
      → list_any (λ h. nat_eq h g) gs ≡ true → served I b g k ≡ false → x ≡ None
      → overlay I (flat_map (λ h. if served I b h k then [] else change_of I h None (row_in I c h k now)) gs) g q x ≡ at_key I q (row_in I c g k now)
  found b c k now g q [] x inside member new e = absurd (cc)
  found b c k now g q (h ∷ gs) x inside member new e =
      let f : ℕ → List (Change K V) = λ h. if served I b h k then [] else change_of I h None (row_in I c h k now) in
      overlay_append I (f h) (flat_map f gs) g q x ∙ elim (cases_Bool (nat_eq h g)) [
        | inl t ↦
            let i : h ≡ g = eqb-true h g t in
            agrees I (flat_map f gs) g q (overlay I (f h) g q x) (at_key I q (row_in I c g k now))
            (says_due c k now g q (flat_map f gs) (telling_walk c k now f gs (λ i m. inside i (any_there h i gs m))
            (λ i s. cond_both (served I b i k) [] (change_of I i None (row_in I c i k now)) (λ y. Telling c k now y) (λ _. tt) (λ _. telling_one c i k None now s))))
            (subst (λ j. overlay I (f j) g q x ≡ at_key I q (row_in I c g k now)) (sym i)
            (ap (λ t. overlay I (if t then [] else change_of I g None (row_in I c g k now)) g q x) new ∙ moves g q None (row_in I c g k now) x e))
        | inr t ↦
            let apart : h ≡ g → ⊥ = eqb-false h g t in
            ap (λ y. overlay I (flat_map f gs) g q y)
            (cond_both (served I b h k) [] (change_of I h None (row_in I c h k now)) (λ y. overlay I y g q x ≡ x) (λ _. refl) (λ _. other_index c g h k q None now x apart))
            ∙ found b c k now g q gs x (λ i m. inside i (any_there h i gs m)) (elim (or_cases (nat_eq h g) (list_any (λ h. nat_eq h g) gs) member) [ inl a ↦ absurd (cc) | inr b ↦ b ]) new e
      ]

  pub founding_founds :
      (b c : C) (k : K) (now : Option V) (g : ℕ) (q : K) (x : Option V) → served I c g k ≡ true
      → served I b g k ≡ false → x ≡ None → overlay I (founding I b c k now) g q x ≡ at_key I q (row_in I c g k now)
  founding_founds b c k now g q x member new e = found b c k now g q (I.indexes c k) x (λ i m. m) member new e

  -- each change that it queues is of an index that is new
  new_one :
      (b c : C) (k : K) (now : Option V) (gs : List ℕ)
      → Each (λ x. served I b x.index k ≡ false) (flat_map (λ h. if served I b h k then [] else change_of I h None (row_in I c h k now)) gs)
  new_one b c k now gs =
      each_flat (λ x. served I b x.index k ≡ false) (λ h. if served I b h k then [] else change_of I h None (row_in I c h k now)) gs
      (λ h. cond_both (served I b h k) [] (change_of I h None (row_in I c h k now)) (λ y. Each (λ x. served I b x.index k ≡ false) y) (λ _. tt)
      (λ n. each_weaker (λ x. (x.index ≡ h) × (I.item_of x.key ≡ k) × (x.after ≡ at_key I x.key (row_in I c h k now))) (λ x. served I b x.index k ≡ false) (change_of I h None (row_in I c h k now))
      (λ x p. subst (λ i. served I b i k ≡ false) (sym p.0) n) (told h k None (row_in I c h k now) (λ r e. absurd (cc)) (λ r e. its_item c h k now r e))))

  pub founding_new :
      (b c : C) (k : K) (now : Option V) → Each (λ x. served I b x.index k ≡ false) (founding I b c k now)
  founding_new b c k now = new_one b c k now (I.indexes c k)
