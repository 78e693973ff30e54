-- The tree of an update that is not judged yet.
use Rattle.std.specs.Prelude.{List, [], ◌∷◌}
use Rattle.expr_words.specs.Trees.{SectionTree}
use Rattle.expr_parse.specs.declared.gather.Draft.{Draft}
use Rattle.expr_parse.specs.UpdateTree.{UpdateTree, tree_of, sets_or, removes_or, adds_or, deletes_or}

abbrev pub draft_tree : Draft → UpdateTree
draft_tree d = tree_of d.sets d.removes d.adds d.deletes

-- what clauses come to, before those that came to an update
abbrev pub clauses_before : List SectionTree → UpdateTree → UpdateTree
clauses_before cs u = record { sets = sets_or u.sets cs; removes = removes_or u.removes cs; adds = adds_or u.adds cs; deletes = deletes_or u.deletes cs }

abbrev pub before_draft : SectionTree → UpdateTree → UpdateTree
before_draft c u = clauses_before (c ∷ []) u
