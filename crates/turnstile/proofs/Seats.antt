-- Seats are split and joined.
use Rattle.std.proofs.Common.{◌≡◌, ◌≢◌, ℕ, suc, ◌+◌, cond, ◌==◌, List, [], ◌∷◌, ◌++◌, length, drop, set, Option, None, refl, sym, ap, ◌∙◌, subst, inl, inr, ⊎_elim, arith, length-set, length-append, eq-eqb, ne_eqb}
use mathlib.Core.Option.{some, some-ne-none, some-injective, none}
use mathlib.Core.Option as maybe
use lib.ListN.{get_elem?}
use Rattle.atomic_table.specs.Table.{State}
use Rattle.atomic_table.proofs.Lists.{at_set, set_else}
use Rattle.turnstile.specs.declared.board.Ticket.{Ticket}
use Rattle.turnstile.specs.declared.board.View.{View}
use Rattle.turnstile.specs.Histories.{Has, IsBeginning}
use Rattle.turnstile.specs.Kept.{ticket, drawn_of, parts_of, Open, AtHome, Waits, Holds, Fits, CellKept, Kept}
use Rattle.turnstile.proofs.Basics.{Some-ne-None, total-set}
use Rattle.turnstile.proofs.Histories.{squeeze}
use Rattle.std.proofs.Common.{take}
use Rattle.atomic_table.specs.Table.{Splits, Joins}
use Rattle.atomic_table.proofs.Lists.{at_longer}
use Rattle.turnstile.specs.Steps.{note, but_first, first_alone, joined, nobody}
use Rattle.turnstile.proofs.Basics.{at_push, Has-append, total-append}
use Rattle.turnstile.proofs.Rule.{still_open, same_total}

front_nil : {A : Type 0} (xs ys : List A) → xs ++ ys ≡ [] → xs ≡ []
front_nil [] ys e = refl
front_nil (x ∷ xs) ys e = absurd (cc)

module _ {C E : Type 0} (by : E → ℕ) (cell : E → Option ℕ) (stands : ℕ → ℕ → C → List E → Type 0) (legal : ℕ → List E → Type 0) (n passes : ℕ) where
  abbrev St : Type 0
  St = State (Option C) (View E)

  abbrev Rule : St → Type 0
  Rule = Kept by cell stands legal n passes

  abbrev Homes : Type 0
  Homes = List (maybe.Option (Option C))

  abbrev Home : Homes → List E → ℕ → Type 0
  Home = AtHome by cell stands legal n passes

  abbrev Wait : List ℕ → Homes → List E → (ℕ → ℕ → ℕ) → ℕ → Ticket → Type 0
  Wait = Waits by cell stands legal n passes

  abbrev Hold : List ℕ → List E → (ℕ → ℕ → ℕ) → ℕ → List E → Ticket → Type 0
  Hold = Holds by cell stands legal n passes

  abbrev Fit : List ℕ → Homes → List E → (ℕ → ℕ → ℕ) → (ℕ → ℕ) → ℕ → View E → Type 0
  Fit = Fits by cell stands legal n passes

  abbrev Cell : List ℕ → Homes → List (View E) → List E → (ℕ → ℕ → ℕ) → ℕ → Type 0
  Cell = CellKept by cell stands legal n passes

  -- a view is cut in two, of which the first keeps the tickets
  parted : (s : St) (r : Rule s) (id : ℕ) (v l x : View E) → get_elem? s.views id ≡ some v → (holder' : ℕ → ℕ) → length l.numbers + length x.numbers ≡ length v.numbers → l.drawn ≡ v.drawn → x.drawn ≡ 0
      → ((t : Ticket) → Open v t → Open l t) → Fit s.words s.homes r.log r.owner holder' id l → Fit s.words s.homes r.log r.owner holder' (length s.views) x
      → ((j : ℕ) (u : View E) → j ≢ id → get_elem? s.views j ≡ some u → Fit s.words s.homes r.log r.owner holder' j u)
      → Rule record { words = s.words; homes = s.homes; views = set s.views id l ++ x ∷ [] }
  parted s r id v l x at holder' numbers drawn none_drawn opened fits_l fits_x others = record {
    log = r.log;
    owner = r.owner;
    holder = holder';
    sized = r.sized;
    wide = r.wide;
    deep = r.deep;
    clock = r.clock;
    is_legal = r.is_legal;
    strangers = r.strangers;
    parts = let a = total-append parts_of (set s.views id l) x in let b = total-set parts_of s.views id v l at in let p = r.parts in omega arith;
    seats = λ j u e. ⊎_elim
        (λ (k : get_elem? (set s.views id l) j ≡ some u). ⊎_elim (λ h. subst (λ (z : ℕ × View E). Fit s.words s.homes r.log r.owner holder' z.0 z.1) (λ i. (sym h.0 i, h.1 i)) fits_l) (λ h. others j u h.0 h.1) (at_set s.views id j l u k))
        (λ k. subst (λ (z : ℕ × View E). Fit s.words s.homes r.log r.owner holder' z.0 z.1) (λ i. (sym (k.0 ∙ length-set s.views id l) i, k.1 i)) fits_x)
        (at_push (set s.views id l) x u j e);
    cells = λ c lt. let k = r.cells c lt in record {
      ordered = k.ordered;
      at_rest = k.at_rest;
      few = let few = k.few in let a = total-append drawn_of (set s.views id l) x in let b = same_total by cell stands legal n passes s id v l at drawn in omega arith;
      somewhere = λ t low high. let h = still_open by cell stands legal n passes s.views id v l at (r.owner c t) (ticket c t) (opened (ticket c t)) (k.somewhere t low high) in (h.0, at_longer (set s.views id l) (x ∷ []) (r.owner c t) h.0 h.1, h.2);
    };
  }

  pub notes : (z : ℕ) → z ≡ n → (id : ℕ) (v : View E) → Splits (Kept by cell stands legal z passes) id v v (note v)
  notes z same id v = subst (λ (y : ℕ). Splits (Kept by cell stands legal y passes) id v v (note v)) (sym same) (λ s r at. let h = r.seats id v at in
      parted s r id v v (note v) at r.holder (omega arith) refl refl (λ t o. o) h
      record {
        front = h.front;
        lawful = h.lawful;
        told = h.told;
        lawful_told = h.lawful_told;
        made = h.made;
        numbers = λ p m. absurd m;
        idle = λ _. (refl, refl);
        few = omega arith;
        drew = λ t e. absurd (Some-ne-None t (sym e));
        held = λ t m. absurd m;
      }
      (λ j u _ e. r.seats j u e))

  module _ (s : St) (r : Rule s) (id : ℕ) (v : View E) (at : get_elem? s.views id ≡ some v) (p : ℕ) (ps : List ℕ) (numbers : v.numbers ≡ p ∷ ps) (apart : (q : ℕ) → Has ps q → q ≢ p)
      (drew : v.drew ≡ None) (held : v.held ≡ []) (drawn : v.drawn ≡ 0) where
    abbrev dealt : ℕ → ℕ
    dealt q = cond (q == p) (length s.views) (r.holder q)

    has_first : Has v.numbers p
    has_first = subst (λ (l : List ℕ). Has l p) (sym numbers) (inl refl)

    dealt_else : (q : ℕ) → q ≢ p → dealt q ≡ r.holder q
    dealt_else q ne = ap (λ b. cond b (length s.views) (r.holder q)) (ne_eqb q p ne)

    dealt_here : (q : ℕ) → p ≡ q → dealt q ≡ length s.views
    dealt_here q e = ap (λ b. cond b (length s.views) (r.holder q)) (eq-eqb q p (sym e))

    no_ticket : (t : Ticket) → Open v t → ⊥
    no_ticket t o = ⊎_elim (λ e. Some-ne-None t (sym e ∙ drew)) (λ m. subst (λ (l : List Ticket). Has l t) held m) o

    deal_kept : Rule record { words = s.words; homes = s.homes; views = set s.views id (but_first v) ++ first_alone v ∷ [] }
    deal_kept = let h = r.seats id v at in
        let rest_is : drop 1 v.numbers ≡ ps = ap (drop 1) numbers in
        let first_is : take 1 v.numbers ≡ p ∷ [] = ap (take 1) numbers in
        let l0 : length v.numbers ≡ length (p ∷ ps) = ap length numbers in
        let l1 : length (drop 1 v.numbers) ≡ length ps = ap length rest_is in
        let l2 : length (take 1 v.numbers) ≡ length (p ∷ []) = ap length first_is in
        let l3 : length (p ∷ ps) ≡ suc (length ps) = refl in
        let l4 : length (p ∷ []) ≡ 1 = refl in
        parted s r id v (but_first v) (first_alone v) at dealt (omega arith) refl refl (λ t o. o)
        record {
          front = h.front;
          lawful = h.lawful;
          told = h.told;
          lawful_told = h.lawful_told;
          made = h.made;
          numbers = λ q m. let m' : Has ps q = subst (λ (l : List ℕ). Has l q) rest_is m in let x = h.numbers q (subst (λ (l : List ℕ). Has l q) (sym numbers) (inr m')) in
              record { made = x.made; mine = dealt_else q (apart q m') ∙ x.mine; seen = x.seen };
          idle = λ _. (drew, held);
          few = omega arith;
          drew = λ t e. absurd (no_ticket t (inl e));
          held = λ t m. absurd (no_ticket t (inr m));
        }
        record {
          front = h.front;
          lawful = h.lawful;
          told = h.told;
          lawful_told = h.lawful_told;
          made = h.made;
          numbers = λ q m. ⊎_elim
              (λ e. let x = h.numbers q (subst (λ (z : ℕ). Has v.numbers z) e has_first) in record { made = x.made; mine = dealt_here q e; seen = x.seen })
              (λ none. absurd none)
              (subst (λ (l : List ℕ). Has l q) first_is m);
          idle = λ _. (refl, refl);
          few = omega arith;
          drew = λ t e. absurd (Some-ne-None t (sym e));
          held = λ t m. absurd m;
        }
        (λ j u ne e. let g = r.seats j u e in record {
          front = g.front;
          lawful = g.lawful;
          told = g.told;
          lawful_told = g.lawful_told;
          made = g.made;
          numbers = λ q m. let x = g.numbers q m in record { made = x.made; mine = dealt_else q (λ f. ne (sym x.mine ∙ (ap r.holder f ∙ (h.numbers p has_first).mine))) ∙ x.mine; seen = x.seen };
          idle = g.idle;
          few = g.few;
          drew = g.drew;
          held = g.held;
        })

  pub deals : (z : ℕ) → z ≡ n → (id : ℕ) (v : View E) (p : ℕ) (ps : List ℕ) → v.numbers ≡ p ∷ ps → ((q : ℕ) → Has ps q → q ≢ p) → v.drew ≡ None → v.held ≡ [] → v.drawn ≡ 0
      → Splits (Kept by cell stands legal z passes) id v (but_first v) (first_alone v)
  deals z same id v p ps numbers apart drew held drawn = subst (λ (y : ℕ). Splits (Kept by cell stands legal y passes) id v (but_first v) (first_alone v)) (sym same) (λ s r at. deal_kept s r id v at p ps numbers apart drew held drawn)

  module _ (s : St) (r : Rule s) (id : ℕ) (v : View E) (at : get_elem? s.views id ≡ some v) (other : ℕ) (w : View E) (ne : other ≢ id) (there : get_elem? (set s.views id (joined v w)) other ≡ some w)
      (drew : w.drew ≡ None) (held : w.held ≡ []) (shorter : (p : ℕ) → Has w.numbers p → IsBeginning w.front v.front) (starts : legal n []) where
    abbrev both : View E
    both = joined v w

    abbrev moved : ℕ → ℕ
    moved p = cond (r.holder p == other) id (r.holder p)

    moved_else : (p : ℕ) → r.holder p ≢ other → moved p ≡ r.holder p
    moved_else p f = ap (λ b. cond b id (r.holder p)) (ne_eqb (r.holder p) other f)

    moved_here : (p : ℕ) → r.holder p ≡ other → moved p ≡ id
    moved_here p f = ap (λ b. cond b id (r.holder p)) (eq-eqb (r.holder p) other f)

    was : get_elem? s.views other ≡ some w
    was = sym (set_else s.views id other both ne) ∙ there

    fits_both : Fit s.words s.homes r.log r.owner moved id both
    fits_both = let h = r.seats id v at in let g = r.seats other w was in record {
      front = h.front;
      lawful = h.lawful;
      told = g.front;
      lawful_told = g.lawful;
      made = h.made;
      numbers = λ p m. ⊎_elim
          (λ mine. let x = h.numbers p mine in record { made = x.made; mine = moved_else p (λ f. ne (sym f ∙ x.mine)) ∙ x.mine; seen = x.seen })
          (λ theirs. let x = g.numbers p theirs in record { made = x.made; mine = moved_here p x.mine; seen = x.seen ∙ sym (squeeze (λ e. by e == p) w.front v.front r.log (shorter p theirs) h.front x.seen) })
          (Has-append v.numbers w.numbers p m);
      idle = λ e. h.idle (front_nil v.numbers w.numbers e);
      few = let a = h.few in let b = g.few in let l = length-append v.numbers w.numbers in omega arith;
      drew = h.drew;
      held = h.held;
    }

    fits_spent : Fit s.words s.homes r.log r.owner moved other nobody
    fits_spent = let z = r.sized in record {
      front = (r.log, refl);
      lawful = starts;
      told = (r.log, refl);
      lawful_told = starts;
      made = z.0;
      numbers = λ p m. absurd m;
      idle = λ _. (refl, refl);
      few = omega arith;
      drew = λ t e. absurd (Some-ne-None t (sym e));
      held = λ t m. absurd m;
    }

    fits_else : (j : ℕ) (u : View E) → j ≢ other → get_elem? s.views j ≡ some u → Fit s.words s.homes r.log r.owner moved j u
    fits_else j u f e = let g = r.seats j u e in record {
      front = g.front;
      lawful = g.lawful;
      told = g.told;
      lawful_told = g.lawful_told;
      made = g.made;
      numbers = λ p m. let x = g.numbers p m in record { made = x.made; mine = moved_else p (λ k. f (sym x.mine ∙ k)) ∙ x.mine; seen = x.seen };
      idle = g.idle;
      few = g.few;
      drew = g.drew;
      held = g.held;
    }

    no_ticket_there : (t : Ticket) → Open w t → Open (nobody {E = E}) t
    no_ticket_there t o = ⊎_elim (λ e. absurd (Some-ne-None t (sym e ∙ drew))) (λ m. absurd (subst (λ (l : List Ticket). Has l t) held m)) o

    gather_kept : Rule record { words = s.words; homes = s.homes; views = set (set s.views id both) other nobody }
    gather_kept = record {
      log = r.log;
      owner = r.owner;
      holder = moved;
      sized = r.sized;
      wide = r.wide;
      deep = r.deep;
      clock = r.clock;
      is_legal = r.is_legal;
      strangers = r.strangers;
      parts = let a = total-set parts_of s.views id v both at in let b = total-set parts_of (set s.views id both) other w nobody there in let l = length-append v.numbers w.numbers in let p = r.parts in
          let z : length {A = ℕ} [] ≡ 0 = refl in omega arith;
      seats = λ j u e. ⊎_elim
          (λ h. subst (λ (z : ℕ × View E). Fit s.words s.homes r.log r.owner moved z.0 z.1) (λ i. (sym h.0 i, h.1 i)) fits_spent)
          (λ h. ⊎_elim
          (λ k. subst (λ (z : ℕ × View E). Fit s.words s.homes r.log r.owner moved z.0 z.1) (λ i. (sym k.0 i, k.1 i)) fits_both)
          (λ k. fits_else j u h.0 k.1)
          (at_set s.views id j both u h.1))
          (at_set (set s.views id both) other j nobody u e);
      cells = λ c lt. let k = r.cells c lt in record {
        ordered = k.ordered;
        at_rest = k.at_rest;
        few = let few = k.few in let a = total-set drawn_of s.views id v both at in let b = total-set drawn_of (set s.views id both) other w nobody there in omega arith;
        somewhere = λ t low high. still_open by cell stands legal n passes (set s.views id both) other w nobody there (r.owner c t) (ticket c t) (no_ticket_there (ticket c t))
            (still_open by cell stands legal n passes s.views id v both at (r.owner c t) (ticket c t) (λ o. o) (k.somewhere t low high));
      };
    }

  pub gathers : (z : ℕ) → z ≡ n → (id : ℕ) (v : View E) (other : ℕ) (w : View E) → w.drew ≡ None → w.held ≡ [] → ((p : ℕ) → Has w.numbers p → IsBeginning w.front v.front) → legal n []
      → Joins (Kept by cell stands legal z passes) id v other w (joined v w) nobody
  gathers z same id v other w drew held shorter starts = subst (λ (y : ℕ). Joins (Kept by cell stands legal y passes) id v other w (joined v w) nobody) (sym same) (λ s r at ne there. gather_kept s r id v at other w ne there drew held shorter starts)
