-- The writes in order of their paths are what a sort makes of them, where none of the paths begins another.
use Rattle.std.proofs.Common.{◌≡◌, ℕ, List, [], ◌∷◌, true, false, ◌&&◌, Option, Ordering, Less, Equal, Greater, nat_cmp, is_gt, refl, sym, subst}
use Rattle.std.proofs.lemmas.Bool.Decides.{Decides-eqb}
use Rattle.std.proofs.lemmas.Cmp.{lists_total, on_total, ranked}
use Rattle.std.proofs.lemmas.List.Sorted.{IsPermutation-map, IsPermutation-sym}
use Rattle.std.proofs.lemmas.Slice.Eq.{bytes_eq-Decides}
use Rattle.std.specs.Borrow.{Bor}
use Rattle.std.specs.Cmp.{IsTotalOrder}
use Rattle.std.specs.List.{AllByRecursion}
use Rattle.std.specs.List.Sorted.{IsPermutation, IsStrictlySortedBy}
use Rattle.std.specs.Ordering.{ordering_then}
use Rattle.base_types.specs.declared.path.Step.{Step}
use Rattle.base_types.specs.declared.path.Step.TheVariants.{Name, Index}
use Rattle.expr_parse.proofs.Ordered.{step_cmp, step_total}
use Rattle.path_entries.specs.Entries.{entry_of, entries_of}
use Rattle.path_entries.specs.Order.{step_order, path_order, AreInOrder}
use Rattle.path_entries.specs.declared.key.PathEntry.{PathEntry}
use Rattle.item_writes.specs.Apart.{same_step, overlap, AreApart, paths_of}
use Rattle.item_writes.specs.NewTree.{Written, see, seen}
use Rattle.item_writes.specs.declared.new_value.NewValue.{NewValue}
use Rattle.item_writes.proofs.Apart.{apart_permuted}
use Rattle.item_writes.proofs.Sets.{in_order_is, texts_exact}
use Rattle.update_eval.specs.Updated.{by_path, write_order}

same_order : (s t : Step) → step_cmp s t ≡ step_order s t
same_order (Name n) (Name m) = refl
same_order (Name n) (Index j) = refl
same_order (Index i) (Name m) = refl
same_order (Index i) (Index j) = refl

write_total : IsTotalOrder write_order
write_total = on_total (λ (w : Written). w.0) (lists_total (subst IsTotalOrder (λ i s t. same_order s t i) step_total))

same_place : (i j : ℕ) → nat_cmp i j ≡ Equal → i ≡ j
same_place i j tie = ranked i j Equal (sym tie)

tied_step : (s t : Step) → step_order s t ≡ Equal → same_step s t ≡ true
tied_step (Name n) (Name m) e = (bytes_eq-Decides m n).1 (sym (texts_exact n m e))
tied_step (Name n) (Index j) e = cc
tied_step (Index i) (Name m) e = cc
tied_step (Index i) (Index j) e = (Decides-eqb j i).1 (sym (same_place i j e))

tied_on : (o : Ordering) (s t : Step) (p q : List Step) → step_order s t ≡ o → ordering_then o (path_order p q) ≡ Equal → (path_order p q ≡ Equal → overlap p q ≡ true)
    → (same_step s t && overlap p q) ≡ true
tied_on Less s t p q e f later = cc
tied_on Equal s t p q e f later = rw (tied_step s t e) (later f)
tied_on Greater s t p q e f later = cc

-- paths that tie overlap
tied_paths : (p q : List Step) → path_order p q ≡ Equal → overlap p q ≡ true
tied_paths [] q e = refl
tied_paths (s ∷ p) [] e = refl
tied_paths (s ∷ p) (t ∷ q) e = tied_on (step_order s t) s t p q refl e (tied_paths p q)

less_one : (p q : List Step) (o : Ordering) → path_order p q ≡ o → is_gt o ≡ false → overlap p q ≡ false → o ≡ Less
less_one p q Less e low apart = refl
less_one p q Equal e low apart = let t = tied_paths p q e in cc
less_one p q Greater e low apart = cc

all_less : (w : Written) (ws : List Written) → AllByRecursion (λ f. is_gt (path_order w.0 f.0) ≡ false) ws → AllByRecursion (λ q. overlap w.0 q ≡ false) (paths_of ws)
    → AllByRecursion (λ v. write_order w v ≡ Less) ws
all_less w [] low apart = tt
all_less w (v ∷ ws) low apart = (less_one w.0 v.0 (path_order w.0 v.0) refl low.0 apart.0, all_less w ws low.1 apart.1)

strictly : (ws : List Written) → AreInOrder ws → AreApart (paths_of ws) → IsStrictlySortedBy write_order ws
unfolding IsStrictlySortedBy
strictly [] up apart = tt
strictly (w ∷ ws) up apart = (all_less w ws up.0 apart.0, strictly ws up.1 apart.1)

all_seen : (p : List Step) (es : List (List Step × Option (Bor NewValue))) → AllByRecursion (λ f. is_gt (path_order p f.0) ≡ false) es → AllByRecursion (λ f. is_gt (path_order p f.0) ≡ false) (seen es)
all_seen p [] all = tt
all_seen p (e ∷ es) all = (all.0, all_seen p es all.1)

seen_in_order : (es : List (List Step × Option (Bor NewValue))) → AreInOrder es → AreInOrder (seen es)
seen_in_order [] up = tt
seen_in_order (e ∷ es) up = (all_seen e.0 es up.0, seen_in_order es up.1)

-- what is sorted is apart where it was before
pub ordered_apart : (made ordered : List (PathEntry (Option (Bor NewValue)))) → IsPermutation made ordered → AreApart (paths_of (seen (entries_of made)))
    → AreApart (paths_of (seen (entries_of ordered)))
ordered_apart made ordered moved apart =
    let ws = seen (entries_of made) in
    let vs = seen (entries_of ordered) in
    let along : IsPermutation ws vs = IsPermutation-map see (entries_of made) (entries_of ordered) (IsPermutation-map entry_of made ordered moved) in
    apart_permuted (paths_of ws) (paths_of vs) (IsPermutation-map (λ (w : Written). w.0) ws vs along) apart

pub by_path_is : (made ordered : List (PathEntry (Option (Bor NewValue)))) → IsPermutation made ordered → AreInOrder (entries_of ordered) → AreApart (paths_of (seen (entries_of made)))
    → by_path (seen (entries_of made)) ≡ seen (entries_of ordered)
by_path_is made ordered moved up apart =
    let ws = seen (entries_of made) in
    let vs = seen (entries_of ordered) in
    let along : IsPermutation ws vs = IsPermutation-map see (entries_of made) (entries_of ordered) (IsPermutation-map entry_of made ordered moved) in
    in_order_is write_total ws vs along (IsPermutation-sym ws vs along) (strictly vs (seen_in_order (entries_of ordered) up) (ordered_apart made ordered moved apart))
