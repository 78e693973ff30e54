-- The types of names, among definitions and in the map that has them.
use Rattle.std.proofs.Common.{◌≡◌, refl, sym, ap, ◌∙◌, ℕ, Bool, true, false, ◌||◌, cond, List, [], ◌∷◌, ◌++◌, Option, None, Some}
use Rattle.std.specs.Prelude.{bytes_eq}
use denote.Enum.Bare.{sameb}
use Rattle.std.specs.Borrow.{Bor}
use Rattle.std.specs.Ordering.{nat_cmp, is_eq}
use Rattle.std.specs.Cmp.Lexicographic.{slice_cmp, bytes_decides, nat_list_eq_equiv}
use Rattle.std.specs.Map.{lookup}
use Rattle.std.proofs.lemmas.Map.Text.{is_eq-slice_cmp}
use Rattle.table_schema.specs.declared.definition.KeyKind.{KeyKind}
use Rattle.table_schema.specs.declared.definition.Definition.{Definition}
use Rattle.table_schema.specs.declared.definition.KeyKind.TheVariants.{S, N, B}
use Rattle.table_schema.specs.contracts.definition.KeyKind.{the_type}
use Rattle.table_schema.specs.Kind.{kind_of}
use Rattle.table_model.specs.Catalog.{same_kind, contradicts, added_if, has_contradiction}
use Rattle.schema_update.specs.Types.{definitions_in}

-- the first of two
abbrev pub or_else : Option KeyKind → Option KeyKind → Option KeyKind
or_else None other = other
or_else (Some kind) other = Some kind

or_none : (o : Option KeyKind) → o ≡ or_else o None
or_none None = refl
or_none (Some k) = refl

held : (o p : Option KeyKind) (k : KeyKind) → o ≡ Some k → o ≡ or_else o p
held None p k h = absurd (cc)
held (Some x) p k h = refl

chosen : (b : Bool) (k : KeyKind) (o p q : Option KeyKind) → o ≡ or_else p q → cond b (Some k) o ≡ or_else (cond b (Some k) p) q
chosen true k o p q h = refl
chosen false k o p q h = h

-- the type that one definition gives
abbrev pub given : Definition → List ℕ → Option KeyKind
given d n = cond (bytes_eq d.name n) (Some d.kind) None

pub kind_append : (n : List ℕ) (xs ys : List Definition) → kind_of n (xs ++ ys) ≡ or_else (kind_of n xs) (kind_of n ys)
kind_append n [] ys = refl
kind_append n (d ∷ ds) ys =
    chosen (bytes_eq d.name n) d.kind (kind_of n (ds ++ ys)) (kind_of n ds) (kind_of n ys) (kind_append n ds ys)

same_name : (a b : List ℕ) → bytes_eq a b ≡ true → a ≡ b
same_name a b e = (bytes_decides a b).0 e

-- with one definition more, where its name is new
pub kind_added : (n : List ℕ) (d : Definition) (known : List Definition)
    → kind_of n (added_if (kind_of d.name known) d known) ≡ or_else (kind_of n known) (given d n)
kind_added n d known = go (kind_of d.name known) refl
  where
    there : (k : KeyKind) (b : Bool) → kind_of d.name known ≡ Some k → bytes_eq d.name n ≡ b → kind_of n known ≡ or_else (kind_of n known) (cond b (Some d.kind) None)
    there k true e same =
        held (kind_of n known) (Some d.kind) k (ap (λ (m : List ℕ). kind_of m known) (sym (same_name d.name n same)) ∙ e)
    there k false e same = or_none (kind_of n known)

    go : (o : Option KeyKind) → kind_of d.name known ≡ o → kind_of n (added_if o d known) ≡ or_else (kind_of n known) (given d n)
    go None e = kind_append n known (d ∷ [])
    go (Some k) e = there k (bytes_eq d.name n) e refl

-- definitions that give the same types contradict the same
pub alike : (ds a b : List Definition) → ((n : List ℕ) → kind_of n a ≡ kind_of n b) → has_contradiction a ds ≡ has_contradiction b ds
alike [] a b same = refl
alike (d ∷ ds) a b same =
    let more = alike ds (added_if (kind_of d.name a) d a) (added_if (kind_of d.name b) d b)
    (λ n. kind_added n d a ∙ ap (λ (o : Option KeyKind). or_else o (given d n)) (same n) ∙ sym (kind_added n d b)) in
    λ i. contradicts (same d.name i) d.kind || more i

or_assoc : (o p q : Option KeyKind) → or_else (or_else o p) q ≡ or_else o (or_else p q)
or_assoc None p q = refl
or_assoc (Some k) p q = refl

or_given : (b : Bool) (k : KeyKind) (o : Option KeyKind) → or_else (cond b (Some k) None) o ≡ cond b (Some k) o
or_given true k o = refl
or_given false k o = refl

-- one definition after another is put in
pub put_in : (n : List ℕ) (d : Definition) (kinds more rest others : List Definition) → rest ≡ d ∷ others
    → ((m : List ℕ) → kind_of m more ≡ kind_of m (added_if (kind_of d.name kinds) d kinds))
    → kind_of n (more ++ others) ≡ kind_of n (kinds ++ rest)
put_in n d kinds more rest others is added =
    kind_append n more others ∙ ap (λ (o : Option KeyKind). or_else o (kind_of n others)) (added n ∙ kind_added n d kinds)
    ∙ or_assoc (kind_of n kinds) (given d n) (kind_of n others)
    ∙ ap (λ (o : Option KeyKind). or_else (kind_of n kinds) o) (or_given (bytes_eq d.name n) d.kind (kind_of n others))
    ∙ sym (kind_append n kinds (d ∷ others)) ∙ ap (λ (ds : List Definition). kind_of n (kinds ++ ds)) (sym is)

pub append_none : (n : List ℕ) (kinds rest : List Definition) → rest ≡ [] → kind_of n kinds ≡ kind_of n (kinds ++ rest)
append_none n kinds rest is =
    or_none (kind_of n kinds) ∙ sym (kind_append n kinds []) ∙ ap (λ (ds : List Definition). kind_of n (kinds ++ ds)) (sym is)

-- one definition after another is looked at
pub contradicted : (d : Definition) (kinds rest others : List Definition) → rest ≡ d ∷ others
    → true ≡ contradicts (kind_of d.name kinds) d.kind → true ≡ has_contradiction kinds rest
contradicted d kinds rest others is found =
    ap (λ (b : Bool). b || has_contradiction (added_if (kind_of d.name kinds) d kinds) others) found
    ∙ ap (has_contradiction kinds) (sym is)

pub looked_at : (d : Definition) (kinds more rest others : List Definition) → rest ≡ d ∷ others
    → false ≡ contradicts (kind_of d.name kinds) d.kind
    → ((m : List ℕ) → kind_of m more ≡ kind_of m (added_if (kind_of d.name kinds) d kinds))
    → has_contradiction more others ≡ has_contradiction kinds rest
looked_at d kinds more rest others is none added =
    alike others more (added_if (kind_of d.name kinds) d kinds) added
    ∙ ap (λ (b : Bool). b || has_contradiction (added_if (kind_of d.name kinds) d kinds) others) none
    ∙ ap (has_contradiction kinds) (sym is)

-- ---- the map

abbrev pub Entries : Type 0
Entries = List (Bor (List ℕ) × KeyKind)

abbrev pub finds : List ℕ → Bor (List ℕ) → Bool
finds n key = is_eq (slice_cmp nat_cmp n key.now)

pub looked_up : (n : List ℕ) (es : Entries) → kind_of n (definitions_in es) ≡ lookup (finds n) es
looked_up n [] = refl
looked_up n (e ∷ es) =
    λ i. cond ((nat_list_eq_equiv.symm e.0.now n ∙ sym (is_eq-slice_cmp n e.0.now)) i) (Some e.1) (looked_up n es i)

-- a name with its type is put in where it was not there
pub kind_put : (key : Bor (List ℕ)) (kind : KeyKind) (es fs : Entries) → lookup (finds key.now) es ≡ None
    → ((q : Bor (List ℕ)) → lookup (finds q.now) fs ≡ cond (is_eq (slice_cmp nat_cmp key.now q.now)) (Some kind) (lookup (finds q.now) es))
    → (n : List ℕ) → kind_of n (definitions_in fs) ≡ or_else (kind_of n (definitions_in es)) (cond (bytes_eq key.now n) (Some kind) None)
kind_put key kind es fs new put n =
    looked_up n fs ∙ put (record key { now = n })
    ∙ ap (λ (b : Bool). cond b (Some kind) (lookup (finds n) es)) (is_eq-slice_cmp key.now n)
    ∙ go (bytes_eq key.now n) refl ∙ ap (λ (o : Option KeyKind). or_else o (cond (bytes_eq key.now n) (Some kind) None)) (sym (looked_up n es))
  where
    go : (b : Bool) → bytes_eq key.now n ≡ b → cond b (Some kind) (lookup (finds n) es) ≡ or_else (lookup (finds n) es) (cond b (Some kind) None)
    go true e = ap (λ (o : Option KeyKind). or_else o (Some kind)) (sym new ∙ ap (λ (m : List ℕ). lookup (finds m) es) (same_name key.now n e))
    go false e = or_none (lookup (finds n) es)

-- what `==` of two types tells
pub same_kinds : (a b : KeyKind) → sameb the_type a b ≡ same_kind a b
same_kinds S S = refl
same_kinds S N = refl
same_kinds S B = refl
same_kinds N S = refl
same_kinds N N = refl
same_kinds N B = refl
same_kinds B S = refl
same_kinds B N = refl
same_kinds B B = refl
