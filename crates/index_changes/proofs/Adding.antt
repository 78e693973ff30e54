-- Lists of changes that are added to.
use Rattle.std.proofs.Common.{◌≡◌, ℕ, ◌+◌, ◌<◌, ◌≤◌, ◌∷◌, ◌++◌, true, false, if◌then◌else◌, List, [], length, drop, get_or, None, Some, sym, ap, ◌∙◌}
use Rattle.std.specs.List.{flat_map}
use Rattle.std.proofs.lemmas.List.{append_assoc, append-nil, drop_all, drop_more}
use Rattle.index_feed.specs.declared.change.Change.{Change}
use Rattle.index_feed.specs.declared.change.Row.{Row}
use Rattle.index_feed.specs.Feed.{Indexed, change_of}

module _ {K V C : Type 0} (I : Indexed K V C) (g : ℕ) (old new : Row K V) (ws : List (Change K V)) where
  -- the rows' keys differ
  pub moved_apart :
      (ws1 ws2 : List (Change K V)) → I.same old.key new.key ≡ false → ws1 ≡ ws ++ change_of I g (Some old) None
      → ws2 ≡ ws1 ++ change_of I g None (Some new) → ws2 ≡ ws ++ change_of I g (Some old) (Some new)
  moved_apart ws1 ws2 e a b =
      b
      ∙ ap (λ l. l ++ change_of I g None (Some new)) a
      ∙ append_assoc ws (change_of I g (Some old) None) (change_of I g None (Some new))
      ∙ sym (λ j. ws ++ (if e j then (if I.equal old.content new.content then [] else change_of I g None (Some new)) else (change_of I g (Some old) None ++ change_of I g None (Some new))))

  -- they are one, and so is what the rows hold
  pub moved_not : I.same old.key new.key ≡ true → I.equal old.content new.content ≡ true → ws ≡ ws ++ change_of I g (Some old) (Some new)
  moved_not e q =
      sym (append-nil ws)
      ∙ sym (λ j. ws ++ (if q j then [] else change_of I g None (Some new)))
      ∙ sym (λ j. ws ++ (if e j then (if I.equal old.content new.content then [] else change_of I g None (Some new)) else (change_of I g (Some old) None ++ change_of I g None (Some new))))

  -- they are one, and what the rows hold differs
  pub moved_over :
      (ws1 : List (Change K V)) → I.same old.key new.key ≡ true → I.equal old.content new.content ≡ false
      → ws1 ≡ ws ++ change_of I g None (Some new) → ws1 ≡ ws ++ change_of I g (Some old) (Some new)
  moved_over ws1 e q b =
      b
      ∙ sym (λ j. ws ++ (if q j then [] else change_of I g None (Some new)))
      ∙ sym (λ j. ws ++ (if e j then (if I.equal old.content new.content then [] else change_of I g None (Some new)) else (change_of I g (Some old) None ++ change_of I g None (Some new))))

-- what is left of a list, one step on
left_more : {X : Type 0} (xs : List X) (i : ℕ) (x : X) → i < length xs → x ≡ get_or xs i x → drop i xs ≡ x ∷ drop (i + 1) xs
left_more xs i x lt is = drop_more xs i x lt ∙ ap (λ y. y ∷ drop (i + 1) xs) (sym is)

-- each element adds to a list
module _ {X Y : Type 0} (f : X → List Y) (xs : List X) (i : ℕ) (whole ys : List Y) where
  pub added_more :
      (x : X) (more : List Y) → i < length xs → x ≡ get_or xs i x → ys ++ flat_map f (drop i xs) ≡ whole → more ≡ ys ++ f x
      → more ++ flat_map f (drop (i + 1) xs) ≡ whole
  added_more x more lt is so by =
      ap (λ l. l ++ flat_map f (drop (i + 1) xs)) by
      ∙ append_assoc ys (f x) (flat_map f (drop (i + 1) xs))
      ∙ sym (ap (λ l. ys ++ flat_map f l) (left_more xs i x lt is))
      ∙ so

  pub added_all : length xs ≤ i → ys ++ flat_map f (drop i xs) ≡ whole → ys ≡ whole
  added_all ge so = sym (append-nil ys) ∙ sym (ap (λ l. ys ++ flat_map f l) (drop_all i xs ge)) ∙ so
