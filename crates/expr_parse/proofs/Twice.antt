-- The pass over clauses that looks for a kind that stands twice.
use Rattle.std.proofs.Common.{◌≡◌, ◌+◌, ◌<◌, ◌≤◌, ℕ, true, false, List, [], ◌∷◌, length, map, drop, get_or, drop-cons, add-one, drop_of_length-le, if◌then◌else◌, ◌||◌, Some, None, refl, sym, ap, ◌∙◌}
use Rattle.std.specs.List.{list_any}
use Rattle.expr_words.specs.declared.parse_end.Clause.{Clause}
use Rattle.expr_words.specs.declared.parse_end.Clause.TheVariants as clause
use Rattle.expr_words.specs.declared.tree.Section.{Section}
use Rattle.expr_words.specs.Trees.{section_tree}
use Rattle.expr_parse.specs.declared.gather.Met.{Met}
use Rattle.expr_parse.specs.Met.{has, with_kind}
use Rattle.expr_parse.specs.UpdateTree.{kind_of, same_clause, first_twice}

-- what was met of these clauses, of which the rest is left
pub record HasMet (met : Met) (rest all : List Section) : Type 0 where
  pub before : List Clause
  pub same : (kind : Clause) → has met kind ≡ list_any (same_clause kind) before
  pub goes_on : first_twice before (map section_tree rest) ≡ first_twice [] (map section_tree all)

-- a kind more
one_more_kind : (met : Met) (new kind : Clause) → has (with_kind met new) kind ≡ (same_clause kind new || has met kind)
one_more_kind met clause.Set clause.Set = refl
one_more_kind met clause.Set clause.Remove = refl
one_more_kind met clause.Set clause.Add = refl
one_more_kind met clause.Set clause.Delete = refl
one_more_kind met clause.Remove clause.Set = refl
one_more_kind met clause.Remove clause.Remove = refl
one_more_kind met clause.Remove clause.Add = refl
one_more_kind met clause.Remove clause.Delete = refl
one_more_kind met clause.Add clause.Set = refl
one_more_kind met clause.Add clause.Remove = refl
one_more_kind met clause.Add clause.Add = refl
one_more_kind met clause.Add clause.Delete = refl
one_more_kind met clause.Delete clause.Set = refl
one_more_kind met clause.Delete clause.Remove = refl
one_more_kind met clause.Delete clause.Add = refl
one_more_kind met clause.Delete clause.Delete = refl

pub met_none : (met : Met) → ((kind : Clause) → has met kind ≡ false) → (all : List Section) → HasMet met all all
met_none met none all = record { before = []; same = none; goes_on = refl }

-- what is left at a place, from its first on
pub parted : (all : List Section) (place : ℕ) (d : Section) → place < length all → drop place all ≡ get_or all place d ∷ drop (place + 1) all
parted all place d within = drop-cons all place d within ∙ ap (λ n. get_or all place d ∷ drop n all) (sym (add-one place))

pub met_more : (met : Met) (x : Section) (rest all : List Section) → has met (kind_of (section_tree x)) ≡ false → HasMet met (x ∷ rest) all
    → HasMet (with_kind met (kind_of (section_tree x))) rest all
met_more met x rest all unmet h = record {
  before = kind_of (section_tree x) ∷ h.before;
  same = (λ kind. one_more_kind met (kind_of (section_tree x)) kind ∙ ap (λ b. same_clause kind (kind_of (section_tree x)) || b) (h.same kind));
  goes_on = ap (λ b. if b then Some (kind_of (section_tree x)) else first_twice (kind_of (section_tree x) ∷ h.before) (map section_tree rest))
      (sym unmet ∙ h.same (kind_of (section_tree x))) ∙ h.goes_on;
}

pub met_found : (met : Met) (x : Section) (rest all : List Section) → has met (kind_of (section_tree x)) ≡ true → HasMet met (x ∷ rest) all
    → Some (kind_of (section_tree x)) ≡ first_twice [] (map section_tree all)
met_found met x rest all met_it h =
    ap (λ b. if b then Some (kind_of (section_tree x)) else first_twice (kind_of (section_tree x) ∷ h.before) (map section_tree rest))
    (sym met_it ∙ h.same (kind_of (section_tree x))) ∙ h.goes_on

-- where nothing is left there is none
pub met_all : (met : Met) (place : ℕ) (all : List Section) → length all ≤ place → HasMet met (drop place all) all
    → None ≡ first_twice [] (map section_tree all)
met_all met place all past h =
    let e : drop place all ≡ [] = drop_of_length-le all past in
    ap (λ l. first_twice h.before (map section_tree l)) (sym e) ∙ h.goes_on
