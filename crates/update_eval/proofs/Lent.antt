-- The values that came, and those that paths find, lent.
use Rattle.std.proofs.Common.{◌≡◌, ℕ, zero, suc, List, [], ◌∷◌, ◌++◌, map, slice_get, Some, option_map, true, refl, sym, ap, ◌∙◌}
use Rattle.std.proofs.lemmas.List.{map-append}
use Rattle.std.proofs.lemmas.Option.{slice_get-map}
use Rattle.attr_value.specs.Paths.{found}
use Rattle.attr_value.specs.Tree.{Attributes}
use Rattle.attr_value.specs.View.{tree_of}
use Rattle.base_types.specs.declared.path.DocPath.{DocPath}
use Rattle.expr_words.specs.Equality.{same_path}
use Rattle.expr_words.specs.EqualityLaws.{path_decides}
use Rattle.attr_value.specs.declared.value.Value.{Value}
use Rattle.item_writes.specs.declared.lent.LentValue.{LentValue}
use Rattle.update_eval.specs.Terms.{given}
use Rattle.update_eval.specs.Views.{AreFound, lent_value}
use Rattle.update_eval.specs.declared.named.FoundValue.{FoundValue}

-- what came is lent at its place
pub given_is : (lent : List LentValue) (values : List Value) → map (λ l. l.value.now) lent ≡ values → (k : ℕ) → lent_value (slice_get lent k) ≡ given values k
given_is lent values e k = same lent k ∙ ap (λ vs. given vs k) e
  where
    same : (ls : List LentValue) (j : ℕ) → lent_value (slice_get ls j) ≡ given (map (λ l. l.value.now) ls) j
    same [] j = refl
    same (l ∷ ls) zero = refl
    same (l ∷ ls) (suc j) = same ls j

-- where two functions make the same of a list, they make the same of what stands at a place
same_at : {X Y : Type 0} (f g : X → Y) (xs : List X) → map f xs ≡ map g xs → (k : ℕ) (x : X) → slice_get xs k ≡ Some x → f x ≡ g x
same_at f g xs e k x at =
    let both : Some (f x) ≡ Some (g x) =
    sym (slice_get-map f xs k ∙ ap (option_map f) at) ∙ ap (λ ys. slice_get ys k) e ∙ slice_get-map g xs k ∙ ap (option_map g) at in cc

-- what is known of an equal path is found
pub known_is : (old : Attributes) (named : List FoundValue) → AreFound old named → (k : ℕ) (f : FoundValue) → slice_get named k ≡ Some f
    → (path : DocPath) → same_path f.path.now path ≡ true → found path.steps old ≡ Some (tree_of f.lent.value.now)
known_is old named all k f at path same =
    ap (λ (p : DocPath). found p.steps old) (sym ((path_decides f.path.now path).0 same))
    ∙ same_at (λ f. found f.path.now.steps old) (λ f. lent_value (Some f.lent)) named all k f at

-- one more that is found
pub one_more : (old : Attributes) (named : List FoundValue) (f : FoundValue) → AreFound old named → found f.path.now.steps old ≡ Some (tree_of f.lent.value.now)
    → AreFound old (named ++ f ∷ [])
one_more old named f all this =
    let sought = λ (g : FoundValue). found g.path.now.steps old in
    let stands = λ (g : FoundValue). lent_value (Some g.lent) in
    map-append sought named (f ∷ []) ∙ ap (λ ts. ts ++ sought f ∷ []) all ∙ ap (λ t. map stands named ++ t ∷ []) this ∙ sym (map-append stands named (f ∷ []))
