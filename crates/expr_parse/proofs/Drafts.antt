-- Clauses taken from the last on, each before those that were taken.
use Rattle.std.proofs.Common.{◌≡◌, List, [], ◌∷◌, ◌++◌, map, refl, sym, ap, ◌∙◌}
use Rattle.base_types.specs.declared.path.DocPath.{DocPath}
use Rattle.expr_words.specs.declared.tree.PathValue.{PathValue}
use Rattle.expr_words.specs.declared.tree.Section.{Section}
use Rattle.std.specs.Borrow.{Bor}
use Rattle.expr_words.specs.declared.tree.SetTo.{SetTo}
use Rattle.expr_words.specs.Trees.{SetTree, SectionTree, Sets, Removes, Adds, Deletes, set_tree, section_tree}
use Rattle.expr_parse.specs.Overlaps.{pointees}
use Rattle.expr_parse.specs.UpdateTree.{UpdateTree, sets_or, removes_or, adds_or, deletes_or, written, tree_of}
use Rattle.expr_parse.specs.Draft.{clauses_before, before_draft}
use Rattle.expr_parse.proofs.Sections.{section_pushed}

sets_last : (cs : List SectionTree) (c : SectionTree) (other : List SetTree) → sets_or (sets_or other (c ∷ [])) cs ≡ sets_or other (cs ++ c ∷ [])
sets_last [] c other = refl
sets_last (Sets xs ∷ cs) c other = refl
sets_last (d ∷ cs) c other = sets_last cs c other

removes_last : (cs : List SectionTree) (c : SectionTree) (other : List DocPath) → removes_or (removes_or other (c ∷ [])) cs ≡ removes_or other (cs ++ c ∷ [])
removes_last [] c other = refl
removes_last (Removes xs ∷ cs) c other = refl
removes_last (d ∷ cs) c other = removes_last cs c other

adds_last : (cs : List SectionTree) (c : SectionTree) (other : List PathValue) → adds_or (adds_or other (c ∷ [])) cs ≡ adds_or other (cs ++ c ∷ [])
adds_last [] c other = refl
adds_last (Adds xs ∷ cs) c other = refl
adds_last (d ∷ cs) c other = adds_last cs c other

deletes_last : (cs : List SectionTree) (c : SectionTree) (other : List PathValue) → deletes_or (deletes_or other (c ∷ [])) cs ≡ deletes_or other (cs ++ c ∷ [])
deletes_last [] c other = refl
deletes_last (Deletes xs ∷ cs) c other = refl
deletes_last (d ∷ cs) c other = deletes_last cs c other

last_before : (cs : List SectionTree) (c : SectionTree) (u : UpdateTree) → clauses_before cs (before_draft c u) ≡ clauses_before (cs ++ c ∷ []) u
last_before cs c u = λ i. record {
  sets = sets_last cs c u.sets i;
  removes = removes_last cs c u.removes i;
  adds = adds_last cs c u.adds i;
  deletes = deletes_last cs c u.deletes i;
}

-- a clause is taken
pub taken : (old new : List Section) (x : Section) (u v target : UpdateTree) → old ≡ new ++ x ∷ [] → v ≡ before_draft (section_tree x) u
    → clauses_before (map section_tree old) u ≡ target → clauses_before (map section_tree new) v ≡ target
taken old new x u v target old_is v_is h =
    ap (clauses_before (map section_tree new)) v_is ∙ last_before (map section_tree new) (section_tree x) u
    ∙ ap (λ cs. clauses_before cs u) (sym (section_pushed new x) ∙ ap (map section_tree) (sym old_is)) ∙ h

set_paths : (sets : List SetTo) → map (λ set. set.path) sets ≡ map (λ (x : SetTree). x.path) (map set_tree sets)
set_paths [] = refl
set_paths (set ∷ sets) = ap (λ l. set.path ∷ l) (set_paths sets)

-- what is lent, list by list, is what is written
pub written_lent : (sets s1 : List SetTo) (removes s2 : List DocPath) (adds s3 deletes s4 : List PathValue) (l0 l1 l2 l3 l4 lent : List (Bor DocPath))
    → s1 ≡ sets → s2 ≡ removes → s3 ≡ adds → s4 ≡ deletes → l0 ≡ [] → pointees l1 ≡ pointees l0 ++ map (λ (set : SetTo). set.path) s1
    → pointees l2 ≡ pointees l1 ++ s2 → pointees l3 ≡ pointees l2 ++ map (λ (pair : PathValue). pair.path) s3
    → pointees l4 ≡ pointees l3 ++ map (λ (pair : PathValue). pair.path) s4 → lent ≡ l4 → pointees lent ≡ written (tree_of sets removes adds deletes)
written_lent sets s1 removes s2 adds s3 deletes s4 l0 l1 l2 l3 l4 lent is1 is2 is3 is4 none e1 e2 e3 e4 all =
    let paths : List PathValue → List DocPath = map (λ (pair : PathValue). pair.path) in
    let a = e1 ∙ ap (λ l. pointees l ++ map (λ (set : SetTo). set.path) s1) none ∙ ap (map (λ (set : SetTo). set.path)) is1 ∙ set_paths sets in
    let b = e2 ∙ ap (λ l. l ++ s2) a ∙ ap (λ l. map (λ (x : SetTree). x.path) (map set_tree sets) ++ l) is2 in
    let d = e3 ∙ ap (λ l. l ++ paths s3) b ∙ ap (λ l. (map (λ (x : SetTree). x.path) (map set_tree sets) ++ removes) ++ paths l) is3 in
    ap pointees all ∙ e4 ∙ ap (λ l. l ++ paths s4) d ∙ ap (λ l. ((map (λ (x : SetTree). x.path) (map set_tree sets) ++ removes) ++ paths adds) ++ paths l) is4
