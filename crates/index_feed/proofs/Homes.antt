-- A cell lists keys of its own alone, so what stands at them goes by what the cell holds.
use Rattle.std.proofs.Common.{◌≡◌, ℕ, suc, nat_eq, List, [], ◌∷◌, Option, None, Some, is_some, true, false, ◌||◌, inl, inr, refl, sym, ap, ◌∙◌, subst}
use Rattle.std.specs.List.{cons_option, list_any}
use Rattle.std.specs.Option.{option_map}
use Rattle.std.specs.declared.cmp.Ordering.{Ordering}
use Rattle.std.proofs.Common.{Less, Equal, Greater}
use Rattle.std.proofs.lemmas.Bool.{cond_both, cases_Bool, or_cases, eqb-true}
use Rattle.index_feed.specs.declared.change.Change.{Change}
use Rattle.index_feed.specs.Feed.{Indexed, Each, Feed, Event, Sets, Commands, Peeks, Feeds, Acks, Rests, at, placed, arranged, gather, is_fed, fed, acked, step, feed, at_keys, items_in, rows_in, IsLawful, AlikeAt}
use Rattle.std.specs.Ordering.{ordering_reverse}
use Rattle.index_feed.specs.Laws.{AreInOrder, ItemsAreListed, IndexRowsAreListed}
use Rattle.index_feed.proofs.Kept.{at_split, true_false}
use Rattle.index_feed.proofs.Overlays.{each_weaker}
use Rattle.index_feed.proofs.Queued.{or_right}
use Rattle.index_feed.proofs.Always.{all_listed}

module _ {K V C : Type 0} (I : Indexed K V C) where
  each_arranged : (P : K → Type 0) (k : K) (ks : List K) → P k → Each P ks → Each P (arranged I k ks)
  each_arranged P k [] here all = (here, tt)
  each_arranged P k (q ∷ qs) here all = by_order (I.cmp k q) (each_arranged P k qs here all.1)
    where
      by_order : (o : Ordering) → Each P (arranged I k qs) → Each P (placed I k q qs (arranged I k qs) o)
      by_order Less rest = (here, all)
      by_order Equal rest = all
      by_order Greater rest = (all.0, rest)

  -- what holds of no keys, and goes on where a key of the cell is put in its place, holds of each cell's lists
  module _ (T : ℕ → List K → Type 0) (none : (i : ℕ) → T i []) (more : (i : ℕ) (k : K) (ks : List K) → I.cell_of k ≡ i → T i ks → T i (arranged I k ks)) where
    gathered : (i : ℕ) (ks keys : List K) → T i keys → T i (gather I i ks keys)
    gathered i [] keys all = all
    gathered i (k ∷ ks) keys all =
        cond_both (nat_eq (I.cell_of k) i) (arranged I k (gather I i ks keys)) (gather I i ks keys) (λ xs. T i xs)
        (λ home. more i k (gather I i ks keys) (eqb-true (I.cell_of k) i home) (gathered i ks keys all))
        (λ _. gathered i ks keys all)

    added : (keys : ℕ → List K) (k : K) → ((i : ℕ) → T i (keys i)) → (i : ℕ) → T i (at keys (I.cell_of k) (arranged I k (keys (I.cell_of k))) i)
    added keys k all i =
        at_split keys (I.cell_of k) (arranged I k (keys (I.cell_of k))) i (λ xs. T i xs)
        (λ home. more i k (keys (I.cell_of k)) home (subst (λ j. T j (keys (I.cell_of k))) home (all (I.cell_of k))))
        (λ _. all i)

    pub record AreSo (f : Feed K V C) : Type 0 where
      pub keys : (i : ℕ) → T i (f.keys i)
      pub row_keys : (i : ℕ) → T i (f.row_keys i)

    acked_so : (f : Feed K V C) (i s : ℕ) (xs : List (Change K V)) → AreSo f → AreSo (acked I f i s xs)
    acked_so f i s [] h = h
    acked_so f i s (x ∷ xs) h =
        cond_both (nat_eq s (suc (f.sent i))) (record f { sent = at f.sent i s; outbox = at f.outbox i xs }) f (λ g. AreSo g)
        (λ _. record { keys = h.keys; row_keys = h.row_keys }) (λ _. h)

    step_so : (f : Feed K V C) (e : Event K V C) → AreSo f → AreSo (step I f e)
    step_so f (Sets k new) h = record { keys = added f.keys k h.keys; row_keys = h.row_keys }
    step_so f (Commands c ks row) h = record { keys = λ i. gathered i ks (f.keys i) (h.keys i); row_keys = h.row_keys }
    step_so f (Peeks i o) h = h
    step_so f (Feeds i s c) h =
        cond_both (is_fed I f i s c) (fed I f i s c) f (λ g. AreSo g)
        (λ _. record { keys = h.keys; row_keys = added f.row_keys c.key h.row_keys }) (λ _. h)
    step_so f (Acks i s) h = acked_so f i s (f.outbox i) h
    step_so f Rests h = h

    all_so : (c : C) (es : List (Event K V C)) → AreSo (feed I c es)
    all_so c [] = record { keys = none; row_keys = none }
    all_so c (e ∷ es) = step_so (feed I c es) e (all_so c es)

  -- the keys are all of the cell
  abbrev pub AreAt : ℕ → List K → Type 0
  AreAt i ks = Each (λ k. I.cell_of k ≡ i) ks

  -- each cell's lists are of its own keys
  pub record KeepHomes (f : Feed K V C) : Type 0 where
    pub keys : (i : ℕ) → AreAt i (f.keys i)
    pub row_keys : (i : ℕ) → AreAt i (f.row_keys i)

  pub homes : (c : C) (es : List (Event K V C)) → KeepHomes (feed I c es)
  homes c es =
      let h = all_so (λ i ks. AreAt i ks) (λ i. tt) (λ i k ks home all. each_arranged (λ q. I.cell_of q ≡ i) k ks home all) c es in
      record { keys = h.keys; row_keys = h.row_keys }

  at_keys_alike : (i : ℕ) (row other : K → Option V) (ks : List K) → AreAt i ks
      → ((q : K) → I.cell_of q ≡ i → row q ≡ other q) → at_keys I row ks ≡ at_keys I other ks
  at_keys_alike i row other [] all same = refl
  at_keys_alike i row other (k ∷ ks) all same =
      λ j. cons_option (option_map (λ v. (k, v)) (same k all.0 j)) (at_keys_alike i row other ks all.1 same j)

  -- two that hold the same in a cell list the same items and the same rows of each index
  pub items_alike : (i : ℕ) (f h : Feed K V C) → KeepHomes f → AlikeAt I i f h → items_in I f i ≡ items_in I h i
  items_alike i f h home a =
      at_keys_alike i f.row h.row (f.keys i) (home.keys i) a.row ∙ ap (λ ks. at_keys I h.row ks) a.keys

  pub rows_alike :
      (i g : ℕ) (f h : Feed K V C) → KeepHomes f → AlikeAt I i f h → rows_in I f g i ≡ rows_in I h g i
  rows_alike i g f h home a =
      at_keys_alike i (f.shown g) (h.shown g) (f.row_keys i) (home.row_keys i) (a.shown g)
      ∙ ap (λ ks. at_keys I (h.shown g) ks) a.row_keys

  each_at : (i : ℕ) (row : K → Option V) (ks : List K) → AreAt i ks → Each (λ (r : K × V). (I.cell_of r.0 ≡ i) × (row r.0 ≡ Some r.1)) (at_keys I row ks)
  each_at i row [] all = tt
  each_at i row (k ∷ ks) all = go (row k) refl (each_at i row ks all.1)
    where
      go : (o : Option V) → row k ≡ o → Each (λ (r : K × V). (I.cell_of r.0 ≡ i) × (row r.0 ≡ Some r.1)) (at_keys I row ks)
          → Each (λ (r : K × V). (I.cell_of r.0 ≡ i) × (row r.0 ≡ Some r.1)) (cons_option (option_map (λ v. (k, v)) o) (at_keys I row ks))
      go None e rest = rest
      go (Some v) e rest = ((all.0, e), rest)

  -- each key is below those after it
  abbrev Rise : List K → Type 0
  Rise [] = Unit {0}
  Rise (k ∷ ks) = Each (λ q. I.cmp k q ≡ Less) ks × Rise ks

  each_kept : (P : K → Type 0) (row : K → Option V) (ks : List K) → Each P ks → Each (λ (r : K × V). P r.0) (at_keys I row ks)
  each_kept P row [] all = tt
  each_kept P row (k ∷ ks) all = go (row k) (each_kept P row ks all.1)
    where
      go : (o : Option V) → Each (λ (r : K × V). P r.0) (at_keys I row ks) → Each (λ (r : K × V). P r.0) (cons_option (option_map (λ v. (k, v)) o) (at_keys I row ks))
      go None rest = rest
      go (Some v) rest = (all.0, rest)

  in_order : (row : K → Option V) (ks : List K) → Rise ks → AreInOrder I (at_keys I row ks)
  in_order row [] rise = tt
  in_order row (k ∷ ks) rise = go (row k) (in_order row ks rise.1)
    where
      go : (o : Option V) → AreInOrder I (at_keys I row ks) → AreInOrder I (cons_option (option_map (λ v. (k, v)) o) (at_keys I row ks))
      go None rest = rest
      go (Some v) rest = (each_kept (λ q. I.cmp k q ≡ Less) row ks rise.0, rest)

  module _ (law : IsLawful I) where
    arranged_rise : (k : K) (ks : List K) → Rise ks → Rise (arranged I k ks)
    arranged_rise k [] rise = (tt, tt)
    arranged_rise k (q ∷ qs) rise = by_order (I.cmp k q) refl (arranged_rise k qs rise.1)
      where
        by_order : (o : Ordering) → I.cmp k q ≡ o → Rise (arranged I k qs) → Rise (placed I k q qs (arranged I k qs) o)
        by_order Less is rest = ((is, each_weaker (λ y. I.cmp q y ≡ Less) (λ y. I.cmp k y ≡ Less) qs (λ y h. law.ordered.trans k q y is h) rise.0), rise)
        by_order Equal is rest = rise
        by_order Greater is rest =
            (each_arranged (λ y. I.cmp q y ≡ Less) k qs (law.ordered.antisymm q k ∙ ap (λ o. ordering_reverse o) is) rise.0, rest)

    rising : (c : C) (es : List (Event K V C)) → AreSo (λ i ks. Rise ks) (λ i. tt) (λ i k ks home rise. arranged_rise k ks rise) (feed I c es)
    rising c es = all_so (λ i ks. Rise ks) (λ i. tt) (λ i k ks home rise. arranged_rise k ks rise) c es

    found_at : (row : K → Option V) (k : K) (ks : List K) → is_some (row k) ≡ true → list_any (λ x. I.same x k) ks ≡ true
        → list_any (λ (r : K × V). I.same r.0 k) (at_keys I row ks) ≡ true
    found_at row k [] there h = absurd (cc)
    found_at row k (q ∷ qs) there h = go (row q) refl (λ b. found_at row k qs there b)
      where
        -- it is a later one, where it isn't this
        later : (list_any (λ x. I.same x k) qs ≡ true → list_any (λ (r : K × V). I.same r.0 k) (at_keys I row qs) ≡ true) → I.same q k ≡ false
            → list_any (λ (r : K × V). I.same r.0 k) (at_keys I row qs) ≡ true
        later rest no' = elim (or_cases (I.same q k) (list_any (λ x. I.same x k) qs) h) [
          | inl a ↦ true_false (I.same q k) a no'
          | inr b ↦ rest b
        ]

        go : (o : Option V) → row q ≡ o → (list_any (λ x. I.same x k) qs ≡ true → list_any (λ (r : K × V). I.same r.0 k) (at_keys I row qs) ≡ true)
            → list_any (λ (r : K × V). I.same r.0 k) (cons_option (option_map (λ v. (q, v)) o) (at_keys I row qs)) ≡ true
        go None e rest = elim (cases_Bool (I.same q k)) [
          | inl a ↦ true_false (is_some (row k)) there (ap (λ x. is_some (row x)) (sym (law.exact q k a)) ∙ ap (λ o. is_some o) e)
          | inr b ↦ later rest b
        ]
        go (Some v) e rest = elim (cases_Bool (I.same q k)) [
          | inl a ↦ ap (λ x. x || list_any (λ (r : K × V). I.same r.0 k) (at_keys I row qs)) a
          | inr b ↦ or_right (I.same q k) (list_any (λ (r : K × V). I.same r.0 k) (at_keys I row qs)) (later rest b)
        ]

    pub items_listed : ItemsAreListed I
    items_listed c es legal i =
        let f = feed I c es in
        record {
          each = each_at i f.row (f.keys i) ((homes c es).keys i);
          all = λ k home there.
              found_at f.row k (f.keys i) there (subst (λ j. list_any (λ x. I.same x k) (f.keys j) ≡ true) home ((all_listed I law c es legal).items k there));
          in_order = in_order f.row (f.keys i) ((rising c es).keys i);
        }

    pub rows_listed : IndexRowsAreListed I
    rows_listed c es legal g i =
        let f = feed I c es in
        record {
          each = each_at i (f.shown g) (f.row_keys i) ((homes c es).row_keys i);
          all = λ k home there.
              found_at (f.shown g) k (f.row_keys i) there (subst (λ j. list_any (λ x. I.same x k) (f.row_keys j) ≡ true) home ((all_listed I law c es legal).rows g k there));
          in_order = in_order (f.shown g) (f.row_keys i) ((rising c es).row_keys i);
        }
