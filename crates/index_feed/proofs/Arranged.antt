-- A key put into keys in their order is there, and the others stay.
use Rattle.std.proofs.Common.{◌≡◌, inl, inr, Bool, true, List, [], ◌∷◌, ◌||◌, refl, ap, ◌∙◌, subst}
use Rattle.std.specs.List.{list_any}
use Rattle.std.specs.Ordering.{is_eq}
use Rattle.std.specs.declared.cmp.Ordering.{Ordering}
use Rattle.std.proofs.Common.{Less, Equal, Greater}
use Rattle.std.proofs.lemmas.Bool.{or_cases}
use Rattle.index_feed.specs.Feed.{Indexed, placed, arranged, IsLawful}
use Rattle.index_feed.proofs.Queued.{or_right}

or_left : (a b : Bool) → a ≡ true → (a || b) ≡ true
or_left a b e = ap (λ x. x || b) e

module _ {K V C : Type 0} (I : Indexed K V C) (law : IsLawful I) where
  added_by : (k q : K) (qs more : List K) (o : Ordering) → I.cmp k q ≡ o → list_any (λ x. I.same x k) more ≡ true
      → list_any (λ x. I.same x k) (placed I k q qs more o) ≡ true
  added_by k q qs more Less is h = or_left (I.same k k) (list_any (λ x. I.same x k) (q ∷ qs)) (law.itself k)
  added_by k q qs more Equal is h =
      let e = law.exact k q (law.one k q ∙ ap (λ o. is_eq o) is) in
      or_left (I.same q k) (list_any (λ x. I.same x k) qs) (subst (λ z. I.same z k ≡ true) e (law.itself k))
  added_by k q qs more Greater is h = or_right (I.same q k) (list_any (λ x. I.same x k) more) h

  pub added : (k : K) (ks : List K) → list_any (λ x. I.same x k) (arranged I k ks) ≡ true
  added k [] = or_left (I.same k k) (list_any (λ x. I.same x k) []) (law.itself k)
  added k (q ∷ qs) = added_by k q qs (arranged I k qs) (I.cmp k q) refl (added k qs)

  others_by :
      (k q x : K) (qs more : List K) (o : Ordering)
      → (list_any (λ y. I.same y x) qs ≡ true → list_any (λ y. I.same y x) more ≡ true)
      → list_any (λ y. I.same y x) (q ∷ qs) ≡ true → list_any (λ y. I.same y x) (placed I k q qs more o) ≡ true
  others_by k q x qs more Less keep h = or_right (I.same k x) (list_any (λ y. I.same y x) (q ∷ qs)) h
  others_by k q x qs more Equal keep h = h
  others_by k q x qs more Greater keep h =
      elim (or_cases (I.same q x) (list_any (λ y. I.same y x) qs) h) [
        | inl a ↦ or_left (I.same q x) (list_any (λ y. I.same y x) more) a
        | inr b ↦ or_right (I.same q x) (list_any (λ y. I.same y x) more) (keep b)
      ]

  pub others :
      (k x : K) (ks : List K) → list_any (λ y. I.same y x) ks ≡ true
      → list_any (λ y. I.same y x) (arranged I k ks) ≡ true
  others k x [] h = absurd (cc)
  others k x (q ∷ qs) h = others_by k q x qs (arranged I k qs) (I.cmp k q) (others k x qs) h
