use Rattle.std.proofs.Common.{[], None, map, option_map, sym, ap, ◌∙◌}
use Rattle.std.proofs.lemmas.Result.{err_from_is_err_and}
use Rattle.expr_words.specs.declared.parse_end.ParseEnd.TheVariants.{ClauseTwice}
use Rattle.expr_words.specs.Trees.{section_tree}
use Rattle.expr_words.specs.Words.{fault_of}
use Rattle.expr_parse.specs.Reading.{TwiceFault, early}
use Rattle.expr_parse.specs.UpdateTree.{first_twice, update_of}
use Rattle.expr_parse.specs.Draft.{draft_tree}
use Rattle.expr_parse.proofs.Answering.{missing_update, bounded_update, all_given}
use Rattle.expr_parse.proofs.update_expression.judged.Goals as goal

pub returns-in-Some : goal.returns-in-Some
returns-in-Some c =
    early (ap (option_map (λ clause. ClauseTwice clause)) (c.in-Some.ensures ∙ ap (λ l. first_twice [] (map section_tree l)) c.as_slice.ensures))

pub returns-in_err-sections : goal.returns-in_err-sections
returns-in_err-sections c =
    let p = err_from_is_err_and c.from_residual.result c.from_residual.ensures.1 in
    let once : TwiceFault (map section_tree c.args.sections) None =
    ap (option_map (λ clause. ClauseTwice clause)) (sym c.in_default.is ∙ c.first_twice.ensures ∙ ap (λ l. first_twice [] (map section_tree l)) c.as_slice.ensures) in
    rw (p.1, p.2) (missing_update c.args.sections c.args.first_missing c.in_err-sections.field-0.0 once c.in_err-sections.ensures)

pub returns : goal.returns
returns c =
    let once : TwiceFault (map section_tree c.args.sections) None =
    ap (option_map (λ clause. ClauseTwice clause)) (sym c.in_default.is ∙ c.first_twice.ensures ∙ ap (λ l. first_twice [] (map section_tree l)) c.as_slice.ensures) in
    let g = all_given c.args.sections c.in_ok-sections.sections c.args.first_missing c.in_ok-sections.ensures in
    bounded_update (map section_tree c.args.sections) (draft_tree c.of.result) (option_map fault_of c.args.first_missing) c.bounded.result once g.1
    (c.of.ensures ∙ ap (λ l. update_of (map section_tree l)) g.0) c.bounded.ensures
