-- Lists that are equal element by element, in part or whole.
use Rattle.std.specs.Prelude.{◌&&◌, ◌==◌, not, map}
use Rattle.std.specs.Cmp.Lexicographic.{pointwise}
use Rattle.std.proofs.Common.{◌≡◌, ℕ, Bool, true, false, List, [], ◌∷◌, Option, None, Some, refl, sym, ap, ◌∙◌}
use Rattle.std.proofs.lemmas.Map.Views.{exact_unsigned_eq}
use Rattle.table_schema.specs.declared.definition.Definition.{Definition}
use Rattle.table_schema.specs.declared.definition.KeyKind.{KeyKind}
use Rattle.table_schema.specs.declared.definition.KeyKind.TheVariants.{S, N, B}
use Rattle.table_schema.specs.declared.keys.KeyNames.{KeyNames}
use Rattle.table_schema.specs.declared.index.LocalIndex.{LocalIndex}
use Rattle.table_schema.specs.declared.index.GlobalIndex.{GlobalIndex}
use Rattle.table_schema.specs.contracts.definition.KeyKindPartialEq.TheImpl.{ghosts as kind}
use Rattle.table_schema.specs.contracts.definition.DefinitionPartialEq.TheImpl.{ghosts as definition}
use Rattle.table_schema.specs.contracts.keys.KeyNamesPartialEq.TheImpl.{ghosts as names}
use Rattle.table_schema.specs.contracts.index.ProjectionPartialEq.TheImpl.{ghosts as projection}
use Rattle.table_schema.specs.contracts.index.LocalIndexPartialEq.TheImpl.{ghosts as local}
use Rattle.table_schema.specs.contracts.index.GlobalIndexPartialEq.TheImpl.{ghosts as global}

pub and_both : (a b : Bool) → (a && b) ≡ true → (a ≡ true) × (b ≡ true)
and_both true true e = (refl, refl)
and_both true false e = absurd (cc)
and_both false b e = absurd (cc)

-- what equal elements have in common, equal lists have
pub mapped : {X Y : Type 0} (eq : X → X → Bool) (f : X → Y) → ((x y : X) → eq x y ≡ true → f x ≡ f y)
    → (xs ys : List X) → pointwise eq xs ys ≡ true → map f xs ≡ map f ys
mapped eq f same [] [] e = refl
mapped eq f same [] (y ∷ ys) e = absurd (cc)
mapped eq f same (x ∷ xs) [] e = absurd (cc)
mapped eq f same (x ∷ xs) (y ∷ ys) e =
    let parts = and_both (eq x y) (pointwise eq xs ys) e in
    λ i. same x y parts.0 i ∷ mapped eq f same xs ys parts.1 i

pub not_false : (b : Bool) → not b ≡ false → b ≡ true
not_false true e = refl
not_false false e = absurd (cc)

pub map_itself : {X : Type 0} (xs : List X) → map (λ x. x) xs ≡ xs
map_itself [] = refl
map_itself (x ∷ xs) = ap (λ l. x ∷ l) (map_itself xs)

-- lists are equal whose elements are
pub exact_lists : {X : Type 0} (eq : X → X → Bool) → ((x y : X) → eq x y ≡ true → x ≡ y) → (xs ys : List X) → pointwise eq xs ys ≡ true → xs ≡ ys
exact_lists eq same xs ys e = sym (map_itself xs) ∙ mapped eq (λ x. x) same xs ys e ∙ map_itself ys

exact_text : (a b : List ℕ) → pointwise ◌==◌ a b ≡ true → a ≡ b
exact_text = exact_lists ◌==◌ exact_unsigned_eq

-- ---- what schemas have

exact_kind : (a b : KeyKind) → kind.eq a b ≡ true → a ≡ b
exact_kind S S e = refl
exact_kind N N e = refl
exact_kind B B e = refl
exact_kind S N e = absurd (cc)
exact_kind S B e = absurd (cc)
exact_kind N S e = absurd (cc)
exact_kind N B e = absurd (cc)
exact_kind B S e = absurd (cc)
exact_kind B N e = absurd (cc)

pub exact_definition : (x y : Definition) → definition.eq x y ≡ true → x ≡ y
exact_definition x y e =
    let parts = and_both (pointwise ◌==◌ x.name y.name) (kind.eq x.kind y.kind) e in
    let name = exact_text x.name y.name parts.0 in
    let kind = exact_kind x.kind y.kind parts.1 in
    λ i. record { name = name i; kind = kind i }

exact_names : (x y : KeyNames) → names.eq x y ≡ true → x ≡ y
exact_names x y e = go x.partition y.partition x.sort y.sort e
  where
    go : (p q : List ℕ) (s t : Option (List ℕ)) → names.eq (record { partition = p; sort = s }) (record { partition = q; sort = t }) ≡ true
        → ◌≡◌ {A = KeyNames} (record { partition = p; sort = s }) (record { partition = q; sort = t })
    go p q None None e = let first = exact_text p q (and_both _ _ e).0 in λ i. record { partition = first i; sort = None }
    go p q (Some a) (Some b) e =
        let parts = and_both _ _ e in
        let first = exact_text p q parts.0 in
        let second = exact_text a b parts.1 in
        λ i. record { partition = first i; sort = Some (second i) }
    go p q None (Some b) e = absurd (let f : false ≡ true = (and_both (pointwise ◌==◌ p q) false e).1 in cc)
    go p q (Some a) None e = absurd (let f : false ≡ true = (and_both (pointwise ◌==◌ p q) false e).1 in cc)

pub local_keys : (x y : LocalIndex) → local.eq x y ≡ true → x.keys ≡ y.keys
local_keys x y e =
    exact_names x.keys y.keys
    (and_both (names.eq x.keys y.keys) (projection.eq x.projection y.projection)
    (and_both (pointwise ◌==◌ x.name y.name) (names.eq x.keys y.keys && projection.eq x.projection y.projection) e).1).0

pub global_keys : (x y : GlobalIndex) → global.eq x y ≡ true → x.keys ≡ y.keys
global_keys x y e =
    exact_names x.keys y.keys
    (and_both (names.eq x.keys y.keys) (projection.eq x.projection y.projection)
    (and_both (pointwise ◌==◌ x.name y.name) (names.eq x.keys y.keys && projection.eq x.projection y.projection) e).1).0
