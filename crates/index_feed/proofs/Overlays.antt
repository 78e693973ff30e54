-- What a row is after changes, and what a change of an item queues.
use Rattle.std.proofs.Common.{◌≡◌, ℕ, Bool, true, false, List, [], ◌∷◌, ◌++◌, Option, if◌then◌else◌, refl, ap, ◌∙◌}
use Rattle.std.specs.List.{flat_map}
use Rattle.std.proofs.lemmas.Bool.{cond_both}
use Rattle.index_feed.specs.declared.change.Change.{Change}
use Rattle.index_feed.specs.Feed.{Indexed, Each, is_at, overlay}

pub each_append : {X : Type 0} (P : X → Type 0) (xs ys : List X) → Each P xs → Each P ys → Each P (xs ++ ys)
each_append P [] ys h k = k
each_append P (x ∷ xs) ys h k = (h.0, each_append P xs ys h.1 k)

pub each_flat :
    {X Y : Type 0} (P : Y → Type 0) (f : X → List Y) (xs : List X) → ((x : X) → Each P (f x))
    → Each P (flat_map f xs)
each_flat P f [] h = tt
each_flat P f (x ∷ xs) h = each_append P (f x) (flat_map f xs) (h x) (each_flat P f xs h)

pub each_weaker : {X : Type 0} (P Q : X → Type 0) (xs : List X) → ((x : X) → P x → Q x) → Each P xs → Each Q xs
each_weaker P Q [] f h = tt
each_weaker P Q (x ∷ xs) f h = (f x h.0, each_weaker P Q xs f h.1)

pub each_and : {X : Type 0} (P Q : X → Type 0) (xs : List X) → Each P xs → Each Q xs → Each (λ x. P x × Q x) xs
each_and P Q [] h k = tt
each_and P Q (x ∷ xs) h k = ((h.0, k.0), each_and P Q xs h.1 k.1)

pub each_if :
    {X : Type 0} (P : X → Type 0) (b : Bool) (xs : List X) → (b ≡ true → Each P xs) → Each P (if b then xs else [])
each_if P b xs h = cond_both b xs [] (λ y. Each P y) h (λ _. tt)

module _ {K V C : Type 0} (I : Indexed K V C) where
  pub overlay_append :
      (xs ys : List (Change K V)) (g : ℕ) (q : K) (x : Option V)
      → overlay I (xs ++ ys) g q x ≡ overlay I ys g q (overlay I xs g q x)
  overlay_append [] ys g q x = refl
  overlay_append (c ∷ xs) ys g q x = overlay_append xs ys g q (if is_at I c g q then c.after else x)

  -- changes of other rows leave a row
  pub leaves :
      (xs : List (Change K V)) (g : ℕ) (q : K) (x : Option V) → Each (λ c. is_at I c g q ≡ false) xs
      → overlay I xs g q x ≡ x
  leaves [] g q x h = refl
  leaves (c ∷ xs) g q x h = ap (λ b. overlay I xs g q (if b then c.after else x)) h.0 ∙ leaves xs g q x h.1

  -- changes that all say the same of a row
  pub agrees :
      (xs : List (Change K V)) (g : ℕ) (q : K) (x d : Option V) → Each (λ c. is_at I c g q ≡ true → c.after ≡ d) xs
      → x ≡ d → overlay I xs g q x ≡ d
  agrees [] g q x d h e = e
  agrees (c ∷ xs) g q x d h e = agrees xs g q (if is_at I c g q then c.after else x) d h.1 (cond_both (is_at I c g q) c.after x (λ y. y ≡ d) (λ t. h.0 t) (λ _. e))
