use Rattle.std.proofs.Common.{map, ap, sym, ◌∙◌, arith}
use Rattle.std.proofs.lemmas.List.{nil_from_length}
use Rattle.expr_words.specs.Trees.{section_tree}
use Rattle.expr_parse.specs.UpdateTree.{update_of}
use Rattle.expr_parse.specs.Draft.{draft_tree, clauses_before}
use Rattle.expr_parse.proofs.Drafts.{taken}
use Rattle.expr_parse.proofs.gather.Draft.of.Goals as goal

pub loop-section-preserved : goal.loop-section-preserved
loop-section-preserved c =
    taken c.loop-section.left.items c.pop.new.self.items c.in-Some.section (draft_tree c.loop-section.draft) (draft_tree c.behind-draft.result)
    (update_of (map section_tree c.args.sections)) c.in-Some.ensures.items c.behind-draft.ensures c.loop-section.invariant

pub returns : goal.returns
returns c =
    let none = c.in_default.ensures.cases in
    let size = c.loop-section.left.ok in
    let empty = nil_from_length c.loop-section.left.items (omega (arith, none.0, size)) in
    ap (λ l. clauses_before (map section_tree l) (draft_tree c.loop-section.draft)) (sym empty) ∙ c.loop-section.invariant
