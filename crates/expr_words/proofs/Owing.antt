-- What it means that something is owed: which words settle it, and what is kept then. P says of the rest what has to come.
use Rattle.std.proofs.Common.{◌≡◌, ◌≤◌, ℕ, List, [], ◌∷◌, ◌++◌, length, sym, ap, ◌∙◌, append_assoc}
use Rattle.base_types.specs.declared.path.Step.{Step}
use Rattle.base_types.specs.declared.path.Step.TheVariants as step
use Rattle.expr_lexer.specs.declared.token.TokenKind.TheVariants as sign
use Rattle.base_types.specs.declared.path.DocPath.{DocPath}
use Rattle.expr_words.specs.declared.tree.Operand.{Operand}
use Rattle.expr_words.specs.Trees.{Tree, Disjunction, Conjunction, Choice, TermTree, SumTree, SetTree, SectionTree}
use Rattle.expr_words.specs.declared.tree.PathValue.{PathValue}
use Rattle.expr_words.specs.Words.{Word, Bare, Held, Number, Sign, Barred}
use Rattle.expr_words.specs.Grammar.{IsName, AreSteps, IsPath, IsOperand, IsFlat, IsTail, IsPart, IsConjunction, IsCondition, AreMore, IsTerm, IsSum, IsSumEnd, IsSet, IsPair, IsSection, AreSections}
use Rattle.expr_words.specs.Machine.{Kept, Whole, Side, Sides, Steps, Place, Listed, Termed, Summed, Assigned, Paired, Sections, Owed, ACondition, AConjunction, APart, MoreOr, MoreAnd, ARest, AnOperand, NamedPart, NamedOperand, MoreChoices, APath, MoreSteps, AField, AnIndex, AValue, MorePaths, ATerm, NamedTerm, ASum, MoreSum, MoreSets, MorePairs, ASection, MoreSections, ASign, ABar, Do, apply, path_of}

abbrev pub Then : Type 1
Then = List Kept → List Word → Type 0

-- how a list of choices ends, of which at most `left` may still come
pub data IsListEnd (k left : ℕ) (choices : List Operand) (ts : List Word) : Type 0 where
  closed : (more : List Word) → AreMore (IsOperand k) more choices → length choices ≤ left → ts ≡ more ++ Sign sign.CloseParenthesis ∷ [] → IsListEnd k left choices ts
  barred : (more : List Word) → AreMore (IsOperand k) more choices → length choices ≡ left → ts ≡ more ++ Sign sign.Comma ∷ Barred ∷ [] → IsListEnd k left choices ts

abbrev pub After : Owed → List Kept → List Word → Then → Type 0
After (ACondition k) ks ts P = (t : Tree) × (a : List Word) × (b : List Word) × IsCondition k a t × (ts ≡ a ++ b) × P (Whole t ∷ ks) b
After (AConjunction k) ks ts P = (t : Tree) × (a : List Word) × (b : List Word) × IsConjunction k a t × (ts ≡ a ++ b) × P (Whole t ∷ ks) b
After (APart k) ks ts P = (t : Tree) × (a : List Word) × (b : List Word) × IsPart k a t × (ts ≡ a ++ b) × P (Whole t ∷ ks) b
After (MoreOr k) (Whole left ∷ ks) ts P =
    (t : Tree) × (a : List Word) × (b : List Word) × IsTail (IsConjunction k) (Sign sign.Or) Disjunction left a t × (ts ≡ a ++ b) × P (Whole t ∷ ks) b
After (MoreAnd k) (Whole left ∷ ks) ts P =
    (t : Tree) × (a : List Word) × (b : List Word) × IsTail (IsPart k) (Sign sign.And) Conjunction left a t × (ts ≡ a ++ b) × P (Whole t ∷ ks) b
After (ARest k) (Side x ∷ ks) ts P =
    (t : Tree) × (a : List Word) × (b : List Word) × ((front : List Word) → IsOperand k front x → IsFlat k (front ++ a) t) × (ts ≡ a ++ b) × P (Whole t ∷ ks) b
After (AnOperand k) ks ts P = (x : Operand) × (a : List Word) × (b : List Word) × IsOperand k a x × (ts ≡ a ++ b) × P (Side x ∷ ks) b
After (NamedPart k name) ks ts P = (t : Tree) × (a : List Word) × (b : List Word) × IsPart k (Bare name ∷ a) t × (ts ≡ a ++ b) × P (Whole t ∷ ks) b
After (NamedOperand k name) ks ts P = (x : Operand) × (a : List Word) × (b : List Word) × IsOperand k (Bare name ∷ a) x × (ts ≡ a ++ b) × P (Side x ∷ ks) b
After (MoreChoices k left) (Sides ys ∷ Side x ∷ ks) ts P =
    (zs : List Operand) × (a : List Word) × (b : List Word) × IsListEnd k left zs a × (ts ≡ a ++ b) × P (Whole (Choice x (ys ++ zs)) ∷ ks) b
After APath ks ts P = (p : List Step) × (a : List Word) × (b : List Word) × IsPath a (path_of p) × (ts ≡ a ++ b) × P (Steps p ∷ ks) b
After MoreSteps (Steps p ∷ ks) ts P = (q : List Step) × (a : List Word) × (b : List Word) × AreSteps a q × (ts ≡ a ++ b) × P (Steps (p ++ q) ∷ ks) b
After AField (Steps p ∷ ks) ts P = (name : List ℕ) × (w : Word) × (b : List Word) × IsName w name × (ts ≡ w ∷ b) × P (Steps (p ++ step.Name name ∷ []) ∷ ks) b
After AnIndex (Steps p ∷ ks) ts P = (index : ℕ) × (b : List Word) × (ts ≡ Number index ∷ b) × P (Steps (p ++ step.Index index ∷ []) ∷ ks) b
After AValue ks ts P = (value : ℕ) × (b : List Word) × (ts ≡ Held value ∷ b) × P (Place value ∷ ks) b
After MorePaths (Listed ps ∷ ks) ts P = (qs : List DocPath) × (a : List Word) × (b : List Word) × AreMore IsPath a qs × (ts ≡ a ++ b) × P (Listed (ps ++ qs) ∷ ks) b
After (ATerm k) ks ts P = (t : TermTree) × (a : List Word) × (b : List Word) × IsTerm k a t × (ts ≡ a ++ b) × P (Termed t ∷ ks) b
After (NamedTerm k name) ks ts P = (t : TermTree) × (a : List Word) × (b : List Word) × IsTerm k (Bare name ∷ a) t × (ts ≡ a ++ b) × P (Termed t ∷ ks) b
After (ASum k) ks ts P = (s : SumTree) × (a : List Word) × (b : List Word) × IsSum k a s × (ts ≡ a ++ b) × P (Summed s ∷ ks) b
After (MoreSum k) (Termed t ∷ ks) ts P = (s : SumTree) × (a : List Word) × (b : List Word) × IsSumEnd k t a s × (ts ≡ a ++ b) × P (Summed s ∷ ks) b
After (MoreSets k) (Assigned xs ∷ ks) ts P =
    (ys : List SetTree) × (a : List Word) × (b : List Word) × AreMore (IsSet k) a ys × (ts ≡ a ++ b) × P (Assigned (xs ++ ys) ∷ ks) b
After MorePairs (Paired xs ∷ ks) ts P =
    (ys : List PathValue) × (a : List Word) × (b : List Word) × AreMore IsPair a ys × (ts ≡ a ++ b) × P (Paired (xs ++ ys) ∷ ks) b
After (ASection k) (Sections cs ∷ ks) ts P =
    (c : SectionTree) × (a : List Word) × (b : List Word) × IsSection k a c × (ts ≡ a ++ b) × P (Sections (cs ++ c ∷ []) ∷ ks) b
After (MoreSections k) (Sections cs ∷ ks) ts P =
    (ds : List SectionTree) × (a : List Word) × (b : List Word) × AreSections k a ds × (ts ≡ a ++ b) × P (Sections (cs ++ ds) ∷ ks) b
After (ASign s) ks ts P = (b : List Word) × (ts ≡ Sign s ∷ b) × P ks b
After ABar ks ts P = (b : List Word) × (ts ≡ Barred ∷ b) × P ks b
After (Do effect) ks ts P = P (apply effect ks) ts
After o ks ts P = Unit {0}

abbrev pub AllAfter : List Owed → List Kept → List Word → Then → Type 0
AllAfter [] ks ts P = P ks ts
AllAfter (o ∷ os) ks ts P = After o ks ts (λ ks ts. AllAfter os ks ts P)

-- two parts, and three, one behind the other
pub two : {ts : List Word} (a a2 b2 : List Word) {b : List Word} → ts ≡ a ++ b → b ≡ a2 ++ b2 → ts ≡ (a ++ a2) ++ b2
two a a2 b2 e e2 = e ∙ ap (λ l. a ++ l) e2 ∙ sym (append_assoc a a2 b2)

pub three : {ts : List Word} (a a2 a3 b3 : List Word) {b b2 : List Word} → ts ≡ a ++ b → b ≡ a2 ++ b2 → b2 ≡ a3 ++ b3
    → ts ≡ ((a ++ a2) ++ a3) ++ b3
three a a2 a3 b3 e e2 e3 = two (a ++ a2) a3 b3 (two a a2 _ e e2) e3

pub After_map : (o : Owed) (ks : List Kept) (ts : List Word) (P Q : Then) → ((ks : List Kept) (ts : List Word) → P ks ts → Q ks ts)
    → After o ks ts P → After o ks ts Q
After_map (ACondition k) ks ts P Q f (t, a, b, s, e, p) = (t, a, b, s, e, f _ _ p)
After_map (AConjunction k) ks ts P Q f (t, a, b, s, e, p) = (t, a, b, s, e, f _ _ p)
After_map (APart k) ks ts P Q f (t, a, b, s, e, p) = (t, a, b, s, e, f _ _ p)
After_map (MoreOr k) (Whole left ∷ ks) ts P Q f (t, a, b, s, e, p) = (t, a, b, s, e, f _ _ p)
After_map (MoreAnd k) (Whole left ∷ ks) ts P Q f (t, a, b, s, e, p) = (t, a, b, s, e, f _ _ p)
After_map (ARest k) (Side x ∷ ks) ts P Q f (t, a, b, s, e, p) = (t, a, b, s, e, f _ _ p)
After_map (AnOperand k) ks ts P Q f (t, a, b, s, e, p) = (t, a, b, s, e, f _ _ p)
After_map (NamedPart k name) ks ts P Q f (t, a, b, s, e, p) = (t, a, b, s, e, f _ _ p)
After_map (NamedOperand k name) ks ts P Q f (t, a, b, s, e, p) = (t, a, b, s, e, f _ _ p)
After_map (MoreChoices k left) (Sides ys ∷ Side x ∷ ks) ts P Q f (t, a, b, s, e, p) = (t, a, b, s, e, f _ _ p)
After_map APath ks ts P Q f (t, a, b, s, e, p) = (t, a, b, s, e, f _ _ p)
After_map MoreSteps (Steps q ∷ ks) ts P Q f (t, a, b, s, e, p) = (t, a, b, s, e, f _ _ p)
After_map AField (Steps q ∷ ks) ts P Q f (t, a, b, s, e, p) = (t, a, b, s, e, f _ _ p)
After_map AnIndex (Steps q ∷ ks) ts P Q f (i, b, e, p) = (i, b, e, f _ _ p)
After_map AValue ks ts P Q f (v, b, e, p) = (v, b, e, f _ _ p)
After_map MorePaths (Listed ps ∷ ks) ts P Q f (t, a, b, s, e, p) = (t, a, b, s, e, f _ _ p)
After_map (ATerm k) ks ts P Q f (t, a, b, s, e, p) = (t, a, b, s, e, f _ _ p)
After_map (NamedTerm k name) ks ts P Q f (t, a, b, s, e, p) = (t, a, b, s, e, f _ _ p)
After_map (ASum k) ks ts P Q f (t, a, b, s, e, p) = (t, a, b, s, e, f _ _ p)
After_map (MoreSum k) (Termed t0 ∷ ks) ts P Q f (t, a, b, s, e, p) = (t, a, b, s, e, f _ _ p)
After_map (MoreSets k) (Assigned xs ∷ ks) ts P Q f (t, a, b, s, e, p) = (t, a, b, s, e, f _ _ p)
After_map MorePairs (Paired xs ∷ ks) ts P Q f (t, a, b, s, e, p) = (t, a, b, s, e, f _ _ p)
After_map (ASection k) (Sections cs ∷ ks) ts P Q f (t, a, b, s, e, p) = (t, a, b, s, e, f _ _ p)
After_map (MoreSections k) (Sections cs ∷ ks) ts P Q f (t, a, b, s, e, p) = (t, a, b, s, e, f _ _ p)
After_map (ASign sign) ks ts P Q f (b, e, p) = (b, e, f _ _ p)
After_map ABar ks ts P Q f (b, e, p) = (b, e, f _ _ p)
After_map (Do effect) ks ts P Q f p = f _ _ p
After_map o ks ts P Q f h = tt

pub split : (new os : List Owed) (ks : List Kept) (ts : List Word) (P : Then) → AllAfter (new ++ os) ks ts P
    → AllAfter new ks ts (λ ks ts. AllAfter os ks ts P)
split [] os ks ts P h = h
split (o ∷ new) os ks ts P h = After_map o ks ts _ _ (λ ks ts p. split new os ks ts P p) h
