-- A cell's own events decide its outbox, its marks and its rows.
use Rattle.std.proofs.Common.{◌≡◌, ℕ, suc, Bool, true, false, ◌&&◌, nat_eq, nat_lt, List, [], ◌∷◌, ◌++◌, Option, None, if◌then◌else◌, refl, sym, ap, ◌∙◌, subst, inl, inr}
use Rattle.std.specs.List.{flat_map}
use Rattle.std.proofs.lemmas.Bool.{cond_both, cases_Bool, eqb-true, eqb-false, and_left, ne_eqb}
use Rattle.std.proofs.lemmas.List.{append-nil}
use Rattle.index_feed.specs.declared.change.Change.{Change}
use Rattle.index_feed.specs.Feed.{Indexed, Feed, Event, Sets, Commands, Peeks, Feeds, Acks, Rests, at, served, is_at, changes, founding, gather, is_fed, fed, acked, step, IsLawful, arranged, founded, AlikeAt}
use Rattle.index_feed.proofs.Queued.{not_at_key}

module _ {K V C : Type 0} (I : Indexed K V C) where
  pub alike_itself : (i : ℕ) (f : Feed K V C) → AlikeAt I i f f
  alike_itself i f = record { catalog = refl; row = λ q _. refl; keys = refl; row_keys = refl; sent = refl; outbox = refl; mark = λ j. refl; shown = λ g q _. refl }

  pub alike_turned : (i : ℕ) (f h : Feed K V C) → AlikeAt I i f h → AlikeAt I i h f
  alike_turned i f h a =
      record {
        catalog = sym a.catalog;
        row = λ q home. sym (a.row q home);
        keys = sym a.keys;
        row_keys = sym a.row_keys;
        sent = sym a.sent;
        outbox = sym a.outbox;
        mark = λ j. sym (a.mark j);
        shown = λ g q home. sym (a.shown g q home);
      }

  pub alike_on : (i : ℕ) (f h l : Feed K V C) → AlikeAt I i f h → AlikeAt I i h l → AlikeAt I i f l
  alike_on i f h l a b =
      record {
        catalog = a.catalog ∙ b.catalog;
        row = λ q home. a.row q home ∙ b.row q home;
        keys = a.keys ∙ b.keys;
        row_keys = a.row_keys ∙ b.row_keys;
        sent = a.sent ∙ b.sent;
        outbox = a.outbox ∙ b.outbox;
        mark = λ j. a.mark j ∙ b.mark j;
        shown = λ g q home. a.shown g q home ∙ b.shown g q home;
      }

  -- the event is of this cell, or of all
  abbrev pub IsOf : ℕ → Event K V C → Type 0
  IsOf i (Sets k new) = I.cell_of k ≡ i
  IsOf i (Commands c ks row) = Unit {0}
  IsOf i (Peeks j o) = j ≡ i
  IsOf i (Feeds j s c) = I.cell_of c.key ≡ i
  IsOf i (Acks j s) = j ≡ i
  IsOf i Rests = ⊥

  module _ (law : IsLawful I) where
    acked_apart : (i j s : ℕ) (f : Feed K V C) (xs : List (Change K V)) → (j ≡ i → ⊥) → AlikeAt I i (acked I f j s xs) f
    acked_apart i j s f [] apart = alike_itself i f
    acked_apart i j s f (x ∷ xs) apart =
        cond_both (nat_eq s (suc (f.sent j))) (record f { sent = at f.sent j s; outbox = at f.outbox j xs }) f (λ h. AlikeAt I i h f)
        (λ _. record {
          catalog = refl;
          row = λ q _. refl;
          keys = refl;
          row_keys = refl;
          sent = ap (λ b. if b then s else f.sent i) (ne_eqb j i apart);
          outbox = ap (λ b. if b then xs else f.outbox i) (ne_eqb j i apart);
          mark = λ j. refl;
          shown = λ g q _. refl;
        })
        (λ _. alike_itself i f)

    -- an event of another cell changes nothing here
    pub others_leave : (i : ℕ) (f : Feed K V C) (x : Event K V C) → (IsOf i x → ⊥) → AlikeAt I i (step I f x) f
    others_leave i f (Sets k new) apart =
        record {
          catalog = refl;
          row = λ q home. cond_both (I.same k q) new (f.row q) (λ v. v ≡ f.row q) (λ s. absurd (apart (ap I.cell_of (law.exact k q s) ∙ home))) (λ _. refl);
          keys = ap (λ b. if b then arranged I k (f.keys (I.cell_of k)) else f.keys i) (ne_eqb (I.cell_of k) i apart);
          row_keys = refl;
          sent = refl;
          outbox = ap (λ b. f.outbox i ++ (if b then changes I f.catalog k (f.row k) new else [])) (ne_eqb (I.cell_of k) i apart) ∙ append-nil (f.outbox i);
          mark = λ j. refl;
          shown = λ g q _. refl;
        }
    others_leave i f (Commands c ks row) apart = absurd (apart tt)
    others_leave i f (Peeks j o) apart = alike_itself i f
    others_leave i f (Feeds j s c) apart =
        cond_both (is_fed I f j s c) (fed I f j s c) f (λ h. AlikeAt I i h f)
        (λ _. record {
          catalog = refl;
          row = λ q _. refl;
          keys = refl;
          row_keys = ap (λ b. if b then arranged I c.key (f.row_keys (I.cell_of c.key)) else f.row_keys i) (ne_eqb (I.cell_of c.key) i apart);
          sent = refl;
          outbox = refl;
          mark = λ u. ap (λ b. if b then s else f.mark i u) (and_left (nat_eq i (I.cell_of c.key)) (nat_eq u j) (ne_eqb i (I.cell_of c.key) (λ e. apart (sym e))));
          shown = λ g q home. ap (λ b. if b then c.after else f.shown g q) (not_at_key I law c g q (λ e. apart (ap I.cell_of e ∙ home)));
        })
        (λ _. alike_itself i f)
    others_leave i f (Acks j s) apart = acked_apart i j s f (f.outbox j) apart
    others_leave i f Rests apart = alike_itself i f

    -- the founding of a cell's items depends on the catalog that was there
    fed_alike :
        (i j s : ℕ) (c : Change K V) (f h : Feed K V C) → I.cell_of c.key ≡ i → AlikeAt I i f h
        → is_fed I f j s c ≡ is_fed I h j s c
    fed_alike i j s c f h home a =
        ap (λ n. nat_lt n s && served I f.catalog c.index (I.item_of c.key)) (ap (λ z. f.mark z j) home ∙ a.mark j ∙ ap (λ z. h.mark z j) (sym home))
        ∙ ap (λ d. nat_lt (h.mark (I.cell_of c.key) j) s && served I d c.index (I.item_of c.key)) a.catalog

    both_if :
        (i : ℕ) (b d : Bool) (f g h k : Feed K V C) → b ≡ d → AlikeAt I i f h → AlikeAt I i g k
        → AlikeAt I i (if b then f else g) (if d then h else k)
    both_if i true true f g h k e x y = x
    both_if i false false f g h k e x y = y
    both_if i true false f g h k e x y = absurd (cc)
    both_if i false true f g h k e x y = absurd (cc)

    acked_alike :
        (i s : ℕ) (f h : Feed K V C) (xs : List (Change K V)) → AlikeAt I i f h
        → AlikeAt I i (acked I f i s xs) (acked I h i s xs)
    acked_alike i s f h [] a = a
    acked_alike i s f h (x ∷ xs) a =
        both_if i (nat_eq s (suc (f.sent i))) (nat_eq s (suc (h.sent i))) (record f { sent = at f.sent i s; outbox = at f.outbox i xs }) f (record h { sent = at h.sent i s; outbox = at h.outbox i xs }) h
        (ap (λ n. nat_eq s (suc n)) a.sent)
        (record {
          catalog = a.catalog;
          row = a.row;
          keys = a.keys;
          row_keys = a.row_keys;
          sent = ap (λ n. if nat_eq i i then s else n) a.sent;
          outbox = ap (λ ys. if nat_eq i i then xs else ys) a.outbox;
          mark = a.mark;
          shown = a.shown;
        })
        a

    -- what a cell's items queue for new indexes goes by these items
    founded_alike : (i : ℕ) (b c : C) (row other : K → Option V) → ((q : K) → I.cell_of q ≡ i → row q ≡ other q)
        → (k : K) → founded I b c row i k ≡ founded I b c other i k
    founded_alike i b c row other same k =
        elim (cases_Bool (nat_eq (I.cell_of k) i)) [
          | inl t ↦ (λ j. if t j then founding I b c k (row k) else [])
              ∙ ap (λ v. founding I b c k v) (same k (eqb-true (I.cell_of k) i t))
              ∙ sym (λ j. if t j then founding I b c k (other k) else [])
          | inr f ↦ (λ j. if f j then founding I b c k (row k) else []) ∙ sym (λ j. if f j then founding I b c k (other k) else [])
        ]

    -- two that hold the same in a cell go on so at a command, whose rows agree on the cell's items
    pub command_alike : (i : ℕ) (f h : Feed K V C) (c : C) (ks : List K) (row other : K → Option V)
        → ((q : K) → I.cell_of q ≡ i → row q ≡ other q) → AlikeAt I i f h
        → AlikeAt I i (step I f (Commands c ks row)) (step I h (Commands c ks other))
    command_alike i f h c ks row other same a =
        record {
          catalog = refl;
          row = same;
          keys = ap (λ ys. gather I i ks ys) a.keys;
          row_keys = a.row_keys;
          sent = a.sent;
          outbox =
              (λ j. a.outbox j ++ flat_map (founded I (a.catalog j) c row i) (gather I i ks (a.keys j)))
              ∙ (λ j. h.outbox i ++ flat_map (λ k. founded_alike i h.catalog c row other same k j) (gather I i ks (h.keys i)));
          mark = a.mark;
          shown = λ g q there. ap (λ v. if served I c g (I.item_of q) then v else None) (a.shown g q there);
        }

    -- two that hold the same in a cell go on so at its events
    pub own_alike :
        (i : ℕ) (f h : Feed K V C) (x : Event K V C) → IsOf i x → AlikeAt I i f h
        → AlikeAt I i (step I f x) (step I h x)
    own_alike i f h (Sets k new) home a =
        record {
          catalog = a.catalog;
          row = λ q there. ap (λ v. if I.same k q then new else v) (a.row q there);
          keys =
              ap (λ z. at f.keys z (arranged I k (f.keys z)) i) home
              ∙ ap (λ ys. if nat_eq i i then arranged I k ys else ys) a.keys
              ∙ sym (ap (λ z. at h.keys z (arranged I k (h.keys z)) i) home);
          row_keys = a.row_keys;
          sent = a.sent;
          outbox =
              ap (λ ys. ys ++ (if nat_eq (I.cell_of k) i then changes I f.catalog k (f.row k) new else [])) a.outbox
              ∙ ap (λ d. h.outbox i ++ (if nat_eq (I.cell_of k) i then changes I d k (f.row k) new else [])) a.catalog
              ∙ ap (λ v. h.outbox i ++ (if nat_eq (I.cell_of k) i then changes I h.catalog k v new else [])) (a.row k home);
          mark = a.mark;
          shown = a.shown;
        }
    own_alike i f h (Commands c ks row) home a = command_alike i f h c ks row row (λ q _. refl) a
    own_alike i f h (Peeks j o) home a = a
    own_alike i f h (Feeds j s c) home a =
        both_if i (is_fed I f j s c) (is_fed I h j s c) (fed I f j s c) f (fed I h j s c) h (fed_alike i j s c f h home a)
        (record {
          catalog = a.catalog;
          row = a.row;
          keys = a.keys;
          row_keys =
              ap (λ z. at f.row_keys z (arranged I c.key (f.row_keys z)) i) home
              ∙ ap (λ ys. if nat_eq i i then arranged I c.key ys else ys) a.row_keys
              ∙ sym (ap (λ z. at h.row_keys z (arranged I c.key (h.row_keys z)) i) home);
          sent = a.sent;
          outbox = a.outbox;
          mark = λ u. ap (λ n. if nat_eq i (I.cell_of c.key) && nat_eq u j then s else n) (a.mark u);
          shown = λ g q there. ap (λ v. if is_at I c g q then c.after else v) (a.shown g q there);
        })
        a
    own_alike i f h (Acks j s) home a =
        subst (λ z. AlikeAt I i (acked I f z s (f.outbox z)) (acked I h z s (h.outbox z))) (sym home)
        (subst (λ ys. AlikeAt I i (acked I f i s (f.outbox i)) (acked I h i s ys)) a.outbox (acked_alike i s f h (f.outbox i) a))
    own_alike i f h Rests home a = absurd home

    -- two that hold the same in a cell go on so at every event
    pub any_alike : (i : ℕ) (f h : Feed K V C) (x : Event K V C) → AlikeAt I i f h → AlikeAt I i (step I f x) (step I h x)
    any_alike i f h x a = go x
      where
        apart : (x : Event K V C) → (IsOf i x → ⊥) → AlikeAt I i (step I f x) (step I h x)
        apart x other = alike_on i (step I f x) f (step I h x) (others_leave i f x other)
            (alike_on i f h (step I h x) a (alike_turned i (step I h x) h (others_leave i h x other)))

        by_cell : (x : Event K V C) (j : ℕ) → (j ≡ i → IsOf i x) → (IsOf i x → j ≡ i) → AlikeAt I i (step I f x) (step I h x)
        by_cell x j own back =
            elim (cases_Bool (nat_eq j i)) [
              | inl t ↦ own_alike i f h x (own (eqb-true j i t)) a
              | inr t ↦ apart x (λ o. eqb-false j i t (back o))
            ]

        go : (y : Event K V C) → AlikeAt I i (step I f y) (step I h y)
        go (Sets k new) = by_cell (Sets k new) (I.cell_of k) (λ o. o) (λ o. o)
        go (Commands c ks row) = own_alike i f h (Commands c ks row) tt a
        go (Peeks j o) = a
        go (Feeds j s c) = by_cell (Feeds j s c) (I.cell_of c.key) (λ o. o) (λ o. o)
        go (Acks j s) = by_cell (Acks j s) j (λ o. o) (λ o. o)
        go Rests = a
