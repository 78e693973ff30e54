-- From what the machine answers to the grammar: for conditions, lists of paths and updates.
use Rattle.std.proofs.Common.{◌≡◌, ℕ, List, [], ◌∷◌, ◌++◌, Result, Ok, Err, refl, sym, ap, subst, ◌∙◌, append-nil}
use Rattle.base_types.specs.declared.path.DocPath.{DocPath}
use Rattle.expr_words.specs.Trees.{Tree, SectionTree}
use Rattle.expr_words.specs.Words.{Word}
use Rattle.expr_words.specs.Grammar.{IsCondition, ArePaths, IsUpdate}
use Rattle.expr_words.specs.Faults.{IsFault}
use Rattle.expr_parse.specs.Reading.{IsSentence}
use Rattle.expr_words.specs.Machine.{Kept, Whole, Listed, Sections, an_update, ACondition, APath, MorePaths, Do, FirstPath, path_of, reads}
use Rattle.expr_words.proofs.Owing.{AllAfter}
use Rattle.expr_words.proofs.Viability.{ok_right, is_fault}
use Rattle.expr_words.proofs.Complete.{condition_reads, paths_read, update_reads, kept_tree, kept_paths, kept_sections}

-- the tree that is kept
abbrev kept_whole : Tree → List Kept → Tree
kept_whole d (Whole t ∷ ks) = t
kept_whole d ks = d

abbrev kept_listed : List Kept → List DocPath
kept_listed (Listed paths ∷ ks) = paths
kept_listed ks = []

abbrev kept_clauses : List Kept → List SectionTree
kept_clauses (Sections cs ∷ ks) = cs
kept_clauses ks = []

abbrev kept_in : Result (List Kept) ℕ → List Kept
kept_in (Ok ks) = ks
kept_in (Err left) = []

-- what the machine reads is a condition, with the tree that it keeps
pub condition_is : (k : ℕ) (ts : List Word) (t : Tree) → reads ts (ACondition k ∷ []) [] ≡ kept_tree t → IsCondition k ts t
condition_is k ts t e = go (ok_right ts (ACondition k ∷ []) [] (Whole t ∷ []) e) where
  go : AllAfter (ACondition k ∷ []) [] ts (λ ks ts. (ts ≡ []) × (ks ≡ Whole t ∷ [])) → IsCondition k ts t
  go (u, a, b, s, e, (ends, kept)) =
      let whole : a ≡ ts = sym (append-nil a) ∙ ap (λ l. a ++ l) (sym ends) ∙ sym e in
      subst (λ w. IsCondition k w t) whole (subst (λ v. IsCondition k a v) (ap (kept_whole t) kept) s)

condition_settled : (k : ℕ) (ts : List Word) → AllAfter (ACondition k ∷ []) [] ts (λ ks ts. ts ≡ []) → IsSentence (IsCondition k) ts
condition_settled k ts (u, a, b, s, e, ends) = (u, subst (λ w. IsCondition k w u) (sym (append-nil a) ∙ ap (λ l. a ++ l) (sym ends) ∙ sym e) s)

-- where it fails is the fault
pub condition_fault : (k : ℕ) (ts : List Word) (left : ℕ) → reads ts (ACondition k ∷ []) [] ≡ Err left → IsFault (IsSentence (IsCondition k)) ts left
condition_fault k = is_fault (IsSentence (IsCondition k)) (ACondition k ∷ []) (condition_settled k) (λ ts s. (Whole s.0 ∷ [], condition_reads k ts s.0 s.1))

-- no sentence has two trees
pub one_condition : (k : ℕ) (ts : List Word) (t u : Tree) → IsCondition k ts t → IsCondition k ts u → t ≡ u
one_condition k ts t u s r = ap (λ x. kept_whole t (kept_in x)) (sym (condition_reads k ts t s) ∙ condition_reads k ts u r)

pub paths_are : (ts : List Word) (paths : List DocPath) → reads ts (APath ∷ Do FirstPath ∷ MorePaths ∷ []) [] ≡ kept_paths paths → ArePaths ts paths
paths_are ts paths e = go (ok_right ts (APath ∷ Do FirstPath ∷ MorePaths ∷ []) [] (Listed paths ∷ []) e) where
  go : AllAfter (APath ∷ Do FirstPath ∷ MorePaths ∷ []) [] ts (λ ks ts. (ts ≡ []) × (ks ≡ Listed paths ∷ [])) → ArePaths ts paths
  go (p, a, b, s, e, (qs, a2, b2, are, e2, (ends, kept))) =
      record {
        front = a;
        more = a2;
        first = path_of p;
        others = qs;
        is_first = s;
        are_more = are;
        spelled = e ∙ ap (λ l. a ++ l) (e2 ∙ ap (λ l. a2 ++ l) ends ∙ append-nil a2);
        listed = sym (ap kept_listed kept);
      }

paths_settled : (ts : List Word) → AllAfter (APath ∷ Do FirstPath ∷ MorePaths ∷ []) [] ts (λ ks ts. ts ≡ []) → IsSentence ArePaths ts
paths_settled ts (p, a, b, s, e, (qs, a2, b2, are, e2, ends)) = (
  path_of p ∷ qs,
  record {
    front = a;
    more = a2;
    first = path_of p;
    others = qs;
    is_first = s;
    are_more = are;
    spelled = e ∙ ap (λ l. a ++ l) (e2 ∙ ap (λ l. a2 ++ l) ends ∙ append-nil a2);
    listed = refl;
  },
)

pub paths_fault : (ts : List Word) (left : ℕ) → reads ts (APath ∷ Do FirstPath ∷ MorePaths ∷ []) [] ≡ Err left → IsFault (IsSentence ArePaths) ts left
paths_fault = is_fault (IsSentence ArePaths) (APath ∷ Do FirstPath ∷ MorePaths ∷ []) paths_settled (λ ts s. (Listed s.0 ∷ [], paths_read ts s.0 s.1))

pub one_list : (ts : List Word) (ps qs : List DocPath) → ArePaths ts ps → ArePaths ts qs → ps ≡ qs
one_list ts ps qs s r = ap (λ x. kept_listed (kept_in x)) (sym (paths_read ts ps s) ∙ paths_read ts qs r)

pub update_is : (k : ℕ) (ts : List Word) (cs : List SectionTree) → reads ts (an_update k) [] ≡ kept_sections cs → IsUpdate k ts cs
update_is k ts cs e = go (ok_right ts (an_update k) [] (Sections cs ∷ []) e) where
  go : AllAfter (an_update k) [] ts (λ ks ts. (ts ≡ []) × (ks ≡ Sections cs ∷ [])) → IsUpdate k ts cs
  go (c, a, b, s, e, (ds, a2, b2, are, e2, (ends, kept))) =
      record {
        front = a;
        more = a2;
        first = c;
        others = ds;
        is_first = s;
        are_more = are;
        spelled = e ∙ ap (λ l. a ++ l) (e2 ∙ ap (λ l. a2 ++ l) ends ∙ append-nil a2);
        listed = sym (ap kept_clauses kept);
      }

update_settled : (k : ℕ) (ts : List Word) → AllAfter (an_update k) [] ts (λ ks ts. ts ≡ []) → IsSentence (IsUpdate k) ts
update_settled k ts (c, a, b, s, e, (ds, a2, b2, are, e2, ends)) = (
  c ∷ ds,
  record {
    front = a;
    more = a2;
    first = c;
    others = ds;
    is_first = s;
    are_more = are;
    spelled = e ∙ ap (λ l. a ++ l) (e2 ∙ ap (λ l. a2 ++ l) ends ∙ append-nil a2);
    listed = refl;
  },
)

pub update_fault : (k : ℕ) (ts : List Word) (left : ℕ) → reads ts (an_update k) [] ≡ Err left → IsFault (IsSentence (IsUpdate k)) ts left
update_fault k = is_fault (IsSentence (IsUpdate k)) (an_update k) (update_settled k) (λ ts s. (Sections s.0 ∷ [], update_reads k ts s.0 s.1))

pub one_update : (k : ℕ) (ts : List Word) (cs ds : List SectionTree) → IsUpdate k ts cs → IsUpdate k ts ds → cs ≡ ds
one_update k ts cs ds s r = ap (λ x. kept_clauses (kept_in x)) (sym (update_reads k ts cs s) ∙ update_reads k ts ds r)
