-- The rule as a table is made, and what it says as it is closed.
use Rattle.std.proofs.Common.{◌≡◌, ℕ, zero, suc, ◌+◌, ◌*◌, ◌<◌, ◌≤◌, List, [], ◌∷◌, length, Option, Some, None, refl, sym, ap, ◌∙◌, subst, ⊎_elim, arith}
use Rattle.std.specs.Prelude.{slice_index}
use mathlib.Core.Logic.{dite}
use mathlib.Core.Option.{some, some-ne-none, some-injective, none}
use mathlib.Core.Option as maybe
use native.Mathlib.Decide.{dec_lt}
use lib.ListN.{get_elem?}
use Rattle.atomic_table.specs.Table.{State}
use Rattle.turnstile.specs.declared.board.Ticket.{Ticket}
use Rattle.turnstile.specs.declared.board.View.{View}
use Rattle.turnstile.specs.Histories.{Has, IsBeginning, own, at_cell}
use Rattle.turnstile.specs.Kept.{ticket, drawn_at, served_at, Open, AtHome, Waits, Holds, Fits, CellKept, Kept}
use Rattle.turnstile.proofs.Basics.{Some-ne-None, one_there}
use Rattle.std.proofs.Common.{map}
use lib.ListN.{length-map}
use Rattle.atomic_table.specs.Table.{opening, Final, Seen}
use Rattle.atomic_table.proofs.Lists.{at_map}
use Rattle.turnstile.specs.Steps.{starting}
use Rattle.turnstile.proofs.Basics.{nil_or_has, Has-upwards, length-upwards}

module _ {C E : Type 0} (by : E → ℕ) (cell : E → Option ℕ) (stands : ℕ → ℕ → C → List E → Type 0) (legal : ℕ → List E → Type 0) (n passes : ℕ) where
  abbrev St : Type 0
  St = State (Option C) (View E)

  abbrev Rule : St → Type 0
  Rule = Kept by cell stands legal n passes

  abbrev Homes : Type 0
  Homes = List (maybe.Option (Option C))

  abbrev Home : Homes → List E → ℕ → Type 0
  Home = AtHome by cell stands legal n passes

  abbrev Wait : List ℕ → Homes → List E → (ℕ → ℕ → ℕ) → ℕ → Ticket → Type 0
  Wait = Waits by cell stands legal n passes

  abbrev Hold : List ℕ → List E → (ℕ → ℕ → ℕ) → ℕ → List E → Ticket → Type 0
  Hold = Holds by cell stands legal n passes

  abbrev Fit : List ℕ → Homes → List E → (ℕ → ℕ → ℕ) → (ℕ → ℕ) → ℕ → View E → Type 0
  Fit = Fits by cell stands legal n passes

  abbrev Cell : List ℕ → Homes → List (View E) → List E → (ℕ → ℕ → ℕ) → ℕ → Type 0
  Cell = CellKept by cell stands legal n passes

  -- each slot has a value that stands, as the cell of its place, for these entries of the cell
  abbrev pub EachStands : List (Option C) → List E → Type 0
  EachStands xs log = (c : ℕ) → c < n → (x : C) × (get_elem? xs c ≡ some (Some x)) × stands n c x (at_cell cell c log)

  first_only : (f v : View E) (j : ℕ) → get_elem? (f ∷ []) j ≡ some v → (j ≡ 0) × (f ≡ v)
  first_only f v zero e = (refl, some-injective f v e)
  first_only f v (suc j) e = absurd (some-ne-none v (sym e))

  opens : (words : List ℕ) (xs : List (Option C)) → passes ≤ 64 → n ≤ 65 → length words ≡ 16 + 16 * n → length xs ≡ n → ((i : ℕ) → slice_index words i ≡ 0) → legal n [] → EachStands xs [] → Rule (opening words xs (starting passes))
  opens words xs few_passes few_cells wide deep blank starts each = record {
    log = [];
    owner = λ _ _. 0;
    holder = λ _. 0;
    sized = (few_passes, few_cells);
    wide = wide;
    deep = length-map xs (λ (x : Option C). some x) ∙ deep;
    clock = blank 0;
    is_legal = starts;
    strangers = λ _ _. refl;
    parts = let l = length-upwards 0 passes in omega arith;
    seats = λ j v e. let h = first_only (starting passes) v j e in subst (λ (z : ℕ × View E). Fit words (map some xs) [] (λ _ _. 0) (λ _. 0) z.0 z.1) (λ i. (sym h.0 i, h.1 i)) record {
      front = ([], refl);
      lawful = starts;
      told = ([], refl);
      lawful_told = starts;
      made = omega arith;
      numbers = λ p m. let t = Has-upwards 0 passes p m in record { made = omega arith; mine = refl; seen = refl };
      idle = λ _. (refl, refl);
      few = omega arith;
      drew = λ t f. absurd (Some-ne-None t (sym f));
      held = λ t m. absurd m;
    };
    cells = λ c lt. let a = blank (16 + 16 * c) in let b = blank (24 + 16 * c) in record {
      ordered = omega arith;
      at_rest = λ _. let h = each c lt in record { value = h.0; there = at_map some xs c (Some h.0) h.1; stands_for = h.2 };
      few = omega arith;
      somewhere = λ t low high. absurd (omega arith);
    };
  }

  pub opens_at : (z : ℕ) → z ≡ n → (words : List ℕ) (xs : List (Option C)) → passes ≤ 64 → n ≤ 65 → length words ≡ 16 + 16 * n → length xs ≡ n → ((i : ℕ) → slice_index words i ≡ 0) → legal n [] → EachStands xs []
      → Kept by cell stands legal z passes (opening words xs (starting passes))
  opens_at z same words xs few_passes few_cells wide deep blank starts each = subst (λ (y : ℕ). Kept by cell stands legal y passes (opening words xs (starting passes))) (sym same) (opens words xs few_passes few_cells wide deep blank starts each)

  -- who has all passes and no ticket finds each value in its slot
  all_home : (s : St) (r : Rule s) (id : ℕ) (v : View E) → get_elem? s.views id ≡ some v → ((p : ℕ) → p < passes → Has v.numbers p) → v.drew ≡ None → v.held ≡ [] → (c : ℕ) → c < n → Home s.homes r.log c
  all_home s r id v at all drew held c lt = let k = r.cells c lt in let o = k.ordered in dite (dec_lt (served_at s.words c) (drawn_at s.words c))
      (λ more. let h = k.somewhere (served_at s.words c) (omega arith) more in absurd (nowhere (r.owner c (served_at s.words c)) h.0 h.1 (ticket c (served_at s.words c)) h.2))
      (λ rested. k.at_rest (omega arith))
    where
      none_open : (t : Ticket) → (u : View E) → u.drew ≡ None → u.held ≡ [] → Open u t → ⊥
      none_open t u d e x = ⊎_elim (λ f. Some-ne-None t (sym f ∙ d)) (λ m. subst (λ (l : List Ticket). Has l t) e m) x

      nowhere : (j : ℕ) (u : View E) → get_elem? s.views j ≡ some u → (t : Ticket) → Open u t → ⊥
      nowhere j u e t x = let h = r.seats j u e in ⊎_elim
          (λ none. let i = h.idle none in none_open t u i.0 i.1 x)
          (λ m. let y = h.numbers m.0 m.1 in let z = (r.seats id v at).numbers m.0 (all m.0 y.made) in
          none_open t v drew held (subst (λ (b : View E). Open b t) (one_there s.views j u v e (ap (get_elem? s.views) (sym y.mine ∙ z.mine) ∙ at)) x))
          (nil_or_has u.numbers)

  pub closes : (z : ℕ) → z ≡ n → (words : List ℕ) (xs : List (Option C)) (id : ℕ) (v : View E) → Final (Seen (Kept by cell stands legal z passes) id v) words xs
      → ((p : ℕ) → p < passes → Has v.numbers p) → v.drew ≡ None → v.held ≡ []
      → (log : List E) × legal n log × IsBeginning v.front log × ((p : ℕ) → Has v.numbers p → own by p log ≡ own by p v.front) × EachStands xs log
  closes z same words xs id v final all drew held =
      let f = subst (λ (y : ℕ). Final (Seen (Kept by cell stands legal y passes) id v) words xs) same final in
      let s = f.0 in
      let r : Rule s = f.1.0 in
      let at : get_elem? s.views id ≡ some v = f.1.1 in
      let h = r.seats id v at in
      (r.log, r.is_legal, h.front, (λ p m. (h.numbers p m).seen), λ c lt. let b = all_home s r id v at all drew held c lt in (b.value, f.4 c (Some b.value) b.there, b.stands_for))
