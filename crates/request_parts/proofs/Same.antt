-- What is asked and read with placeholders as they are kept, in the terms of the body that states them.
use Rattle.std.proofs.Common.{◌≡◌, subst, List, ℕ, Option, Result}
use Rattle.request_parts.specs.declared.refusal.Refusal.{Refusal}
use Rattle.base_types.specs.declared.end.End.{End}
use Rattle.request_parts.specs.declared.asks.WriteTrees.{WriteTrees}
use Rattle.request_parts.specs.declared.asks.ChangeTrees.{ChangeTrees}
use Rattle.request_parts.specs.declared.asks.PageTrees.{PageTrees}
use Rattle.request_parts.specs.declared.asks.QueryTrees.{QueryTrees}
use Rattle.expr_words.specs.declared.tree.Paths.{Paths}
use Rattle.request_parts.specs.Ends.{IsToldOf}
use Rattle.request_parts.specs.Placeholders.{Known}
use Rattle.request_parts.specs.Trees.{IsWrite, IsChange, IsProjection, IsPage, IsQueried}

pub write_at : (k l : Known) (u v c d : Option (List ℕ)) (r : Result WriteTrees (End Refusal)) → k ≡ l → u ≡ v → c ≡ d
    → IsToldOf (IsWrite k u c) r → IsToldOf (IsWrite l v d) r
write_at k l u v c d r known update condition told =
    subst (λ x. IsToldOf (IsWrite l v x) r) condition (subst (λ x. IsToldOf (IsWrite l x c) r) update (subst (λ x. IsToldOf (IsWrite x u c) r) known told))

pub change_at : (k l : Known) (u v : List ℕ) (c d : Option (List ℕ)) (r : Result ChangeTrees (End Refusal)) → k ≡ l → u ≡ v → c ≡ d
    → IsToldOf (IsChange k u c) r → IsToldOf (IsChange l v d) r
change_at k l u v c d r known update condition told =
    subst (λ x. IsToldOf (IsChange l v x) r) condition (subst (λ x. IsToldOf (IsChange l x c) r) update (subst (λ x. IsToldOf (IsChange x u c) r) known told))

pub projection_at : (k l : Known) (p q : Option (List ℕ)) (r : Result (Option Paths) (End Refusal)) → k ≡ l → p ≡ q
    → IsToldOf (IsProjection k p) r → IsToldOf (IsProjection l q) r
projection_at k l p q r known projection told =
    subst (λ x. IsToldOf (IsProjection l x) r) projection (subst (λ x. IsToldOf (IsProjection x p) r) known told)

pub page_at : (k l : Known) (f g p q : Option (List ℕ)) (r : Result PageTrees (End Refusal)) → k ≡ l → f ≡ g → p ≡ q
    → IsToldOf (IsPage k f p) r → IsToldOf (IsPage l g q) r
page_at k l f g p q r known filter projection told =
    subst (λ x. IsToldOf (IsPage l g x) r) projection (subst (λ x. IsToldOf (IsPage l x p) r) filter (subst (λ x. IsToldOf (IsPage x f p) r) known told))

pub query_at : (k l : Known) (s t : List ℕ) (f g p q : Option (List ℕ)) (r : Result QueryTrees (End Refusal)) → k ≡ l → s ≡ t → f ≡ g → p ≡ q
    → IsToldOf (IsQueried k s f p) r → IsToldOf (IsQueried l t g q) r
query_at k l s t f g p q r known key filter projection told =
    subst (λ x. IsToldOf (IsQueried l t g x) r) projection (subst (λ x. IsToldOf (IsQueried l t x p) r) filter
    (subst (λ x. IsToldOf (IsQueried l x f p) r) key (subst (λ x. IsToldOf (IsQueried x s f p) r) known told)))
