-- What every step has in common.
use Rattle.std.proofs.Common.{◌≡◌, ◌≢◌, ℕ, ◌*◌, ◌%◌, ◌^◌, ◌<◌, ◌≤◌, ◌==◌, List, [], length, set, Option, refl, sym, ap, ◌∙◌, subst, ⊎_elim, arith}
use Rattle.std.specs.Prelude.{slice_index}
use mathlib.Core.Logic.{dite}
use mathlib.Core.Option.{some, some-ne-none, some-injective, none}
use mathlib.Core.Option as maybe
use native.Mathlib.Decide.{ℕ_discrete}
use lib.ListN.{get_elem?}
use lib.Seq.{set-get_or}
use Rattle.atomic_table.specs.Table.{State, Me, keeps, Allows}
use Rattle.atomic_table.proofs.Lists.{at_set, set_else, set_again}
use Rattle.turnstile.specs.declared.board.Ticket.{Ticket}
use Rattle.turnstile.specs.declared.board.View.{View}
use Rattle.turnstile.specs.Histories.{IsBeginning, longer, is_of, own}
use Rattle.turnstile.specs.Kept.{ticket, drawn_at, total, drawn_of, parts_of, Open, AtHome, Waits, Holds, Fits, CellKept, Kept}
use Rattle.turnstile.specs.Steps.{fronted, Grows, Learns}
use Rattle.turnstile.proofs.Basics.{here_of_there, one_there, total-set, total_few}
use Rattle.turnstile.proofs.Histories.{longer_of, longer_either, squeeze, none_before}

module _ {C E : Type 0} (by : E → ℕ) (cell : E → Option ℕ) (stands : ℕ → ℕ → C → List E → Type 0) (legal : ℕ → List E → Type 0) (n passes : ℕ) where
  abbrev St : Type 0
  St = State (Option C) (View E)

  abbrev Rule : St → Type 0
  Rule = Kept by cell stands legal n passes

  abbrev Homes : Type 0
  Homes = List (maybe.Option (Option C))

  abbrev Home : Homes → List E → ℕ → Type 0
  Home = AtHome by cell stands legal n passes

  abbrev Wait : List ℕ → Homes → List E → (ℕ → ℕ → ℕ) → ℕ → Ticket → Type 0
  Wait = Waits by cell stands legal n passes

  abbrev Hold : List ℕ → List E → (ℕ → ℕ → ℕ) → ℕ → List E → Ticket → Type 0
  Hold = Holds by cell stands legal n passes

  abbrev Fit : List ℕ → Homes → List E → (ℕ → ℕ → ℕ) → (ℕ → ℕ) → ℕ → View E → Type 0
  Fit = Fits by cell stands legal n passes

  abbrev Cell : List ℕ → Homes → List (View E) → List E → (ℕ → ℕ → ℕ) → ℕ → Type 0
  Cell = CellKept by cell stands legal n passes

  pub few_drawn : (s : St) → Rule s → (c : ℕ) → c < n → drawn_at s.words c ≤ 4573968371548160
  few_drawn s r c lt =
      let a : drawn_at s.words c ≤ total drawn_of s.views = (r.cells c lt).few in
      let b : total drawn_of s.views ≤ total parts_of s.views * 71468255805440 = total_few drawn_of parts_of 71468255805440 s.views (λ j v at. (r.seats j v at).few) in
      let d : total parts_of s.views ≡ passes = r.parts in
      let e : passes ≤ 64 = r.sized.0 in omega arith

  pub strangers_of : (s : St) (r : Rule s) (f : List E) → IsBeginning f r.log → (p : ℕ) → passes ≤ p → own by p f ≡ []
  strangers_of s r f b p h = none_before (λ x. by x == p) f r.log b (r.strangers p h)

  -- a front may grow to any beginning of the history
  pub grows_to : (s : St) (r : Rule s) (id : ℕ) (v : View E) → get_elem? s.views id ≡ some v → (f : List E) → IsBeginning v.front f → IsBeginning f r.log → legal n f → Grows by cell legal n v f
  grows_to s r id v at f a b l = let h = r.seats id v at in record {
    extends = a;
    lawful = l;
    same = λ p m. squeeze (λ x. by x == p) v.front f r.log a b ((h.numbers p m).seen);
    still = λ t m. squeeze (λ x. is_of (cell x) t.cell) v.front f r.log a b ((h.held t m).known);
    strangers = λ p m. let made = h.made in strangers_of s r f b p (omega arith);
  }

  pub rebuild : (s : St) (r : Rule s) (id : ℕ) (v w : View E) → get_elem? s.views id ≡ some v → (words' : List ℕ) (homes' : Homes) (log' : List E) (owner' : ℕ → ℕ → ℕ)
      → length words' ≡ length s.words → length homes' ≡ length s.homes → slice_index words' 0 ≡ length log' % 2 ^ 64 → legal n log' → ((p : ℕ) → passes ≤ p → own by p log' ≡ [])
      → w.numbers ≡ v.numbers → Fit words' homes' log' owner' r.holder id w
      → ((j : ℕ) (u : View E) → j ≢ id → get_elem? s.views j ≡ some u → Fit words' homes' log' owner' r.holder j u)
      → ((c : ℕ) → c < n → Cell words' homes' (set s.views id w) log' owner' c)
      → Rule record { words = words'; homes = homes'; views = set s.views id w }
  rebuild s r id v w at words' homes' log' owner' wide deep clock lawful strangers numbers here others cells = record {
    log = log';
    owner = owner';
    holder = r.holder;
    sized = r.sized;
    wide = wide ∙ r.wide;
    deep = deep ∙ r.deep;
    clock = clock;
    is_legal = lawful;
    strangers = strangers;
    parts = let t = total-set parts_of s.views id v w at in let l : length w.numbers ≡ length v.numbers = ap length numbers in let p = r.parts in omega arith;
    seats = λ j x e. ⊎_elim (λ h. subst (λ (z : ℕ × View E). Fit words' homes' log' owner' r.holder z.0 z.1) (λ i. (sym h.0 i, h.1 i)) here) (λ h. others j x h.0 h.1) (at_set s.views id j w x e);
    cells = cells;
  }

  -- a ticket that was open with someone is so yet, where this seat keeps it open
  pub still_open : (views : List (View E)) (id : ℕ) (v w : View E) → get_elem? views id ≡ some v → (o : ℕ) (t : Ticket) → (Open v t → Open w t)
      → ((u : View E) × (get_elem? views o ≡ some u) × Open u t) → (u : View E) × (get_elem? (set views id w) o ≡ some u) × Open u t
  still_open views id v w at o t keep h = dite (ℕ_discrete o id)
      (λ e. (w, ap (get_elem? (set views id w)) e ∙ here_of_there views id v w at, keep (subst (λ (u : View E). Open u t) (one_there views id h.0 v (ap (get_elem? views) (sym e) ∙ h.1) at) h.2)))
      (λ ne. (h.0, set_else views id o w ne ∙ h.1, h.2))

  -- the sum of the drawn tickets, where one view changes and its own number does not
  pub same_total : (s : St) (id : ℕ) (v w : View E) → get_elem? s.views id ≡ some v → w.drawn ≡ v.drawn → total drawn_of (set s.views id w) ≡ total drawn_of s.views
  same_total s id v w at e = let t = total-set drawn_of s.views id v w at in omega arith

  -- a step that changes nothing but one front
  pub refront : (s : St) (r : Rule s) (id : ℕ) (v : View E) → get_elem? s.views id ≡ some v → (f : List E) → IsBeginning f r.log → Grows by cell legal n v f → (i : ℕ)
      → Rule record { words = set s.words i (slice_index s.words i); homes = s.homes; views = set s.views id (fronted v f) }
  refront s r id v at f b g i =
      let h = r.seats id v at in
      let w : View E = fronted v f in
      subst (λ (ws : List ℕ). Rule record { words = ws; homes = s.homes; views = set s.views id w }) (sym (set-get_or s.words i 0))
      (rebuild s r id v w at s.words s.homes r.log r.owner refl refl r.clock r.is_legal r.strangers refl
      record {
        front = b;
        lawful = g.lawful;
        told = h.told;
        lawful_told = h.lawful_told;
        made = h.made;
        numbers = λ p m. let x = h.numbers p m in record { made = x.made; mine = x.mine; seen = x.seen ∙ sym (g.same p m) };
        idle = h.idle;
        few = h.few;
        drew = h.drew;
        held = λ t m. let x = h.held t m in record { below = x.below; turn = x.turn; to = x.to; mine = x.mine; known = x.known ∙ sym (g.still t m) };
      }
      (λ j u _ e. r.seats j u e)
      (λ c lt. let k = r.cells c lt in record {
        ordered = k.ordered;
        at_rest = k.at_rest;
        few = let few = k.few in let t = same_total s id v w at refl in omega arith;
        somewhere = λ t low high. still_open s.views id v w at (r.owner c t) (ticket c t) (λ o. o) (k.somewhere t low high);
      }))

  -- a load that finds nothing of use
  pub unmoved : (s : St) (r : Rule s) (id : ℕ) (v : View E) → get_elem? s.views id ≡ some v → (i : ℕ) → Rule record { words = set s.words i (slice_index s.words i); homes = s.homes; views = set s.views id v }
  unmoved s r id v at i = subst (λ (z : List ℕ × List (View E)). Rule record { words = z.0; homes = s.homes; views = z.1 }) (λ k. (sym (set-get_or s.words i 0) k, sym (set_again s.views id v at) k)) r

  pub learns : (z : ℕ) → z ≡ n → (id : ℕ) (m : Me (Option C) (View E)) → Allows (Kept by cell stands legal z passes) n id m 0 (λ x. x) (λ x m'. Learns by cell legal n m m')
  learns z same id m = subst (λ (y : ℕ). Allows (Kept by cell stands legal y passes) n id m 0 (λ x. x) (λ x m'. Learns by cell legal n m m')) (sym same) (λ s r len at small.
      let h = r.seats id m.0 at in
      let f = longer m.0.front m.0.told in
      let l = longer_of m.0.front m.0.told r.log h.front h.told in
      let g = grows_to s r id m.0 at f l.0 l.2 (longer_either (legal n) m.0.front m.0.told h.lawful h.lawful_told) in
      (fronted m.0 f, keeps, tt, refront s r id m.0 at f l.2 g 0, record { after = refl; grows = g; told = l.1 }))
