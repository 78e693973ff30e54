use Rattle.std.proofs.Common.{◌++◌, ap, ◌∙◌}
use Rattle.update_eval.specs.Views.{term_value}
use Rattle.update_eval.proofs.Joining.{joined_is, joined_levels}
use Rattle.update_eval.proofs.term.lists_joined.Goals as goal

pub invariant_of-result : goal.invariant_of-result
invariant_of-result c =
    let xs = c.in_ok-lists_in.field-0 in
    let ys = c.in_ok-lists_in-2.field-0 in
    record {
      nests =
          joined_levels (term_value c.args.front) (term_value c.args.back) xs ys c.from.result c.levels.result c.levels-2.result c.max-levels.result
          c.in_ok-lists_in.ensures c.in_ok-lists_in-2.ensures
          (c.from.ensures ∙ c.in_ok-append.ensures.items ∙ ap (λ zs. zs ++ c.from-more.result.items) c.from-lists.ensures ∙ ap (λ zs. xs ++ zs) c.from-more.ensures)
          c.levels.ensures c.levels-2.ensures c.max-levels.ensures;
    }

pub returns : goal.returns
returns c =
    let xs = c.in_ok-lists_in.field-0 in
    let ys = c.in_ok-lists_in-2.field-0 in
    joined_is (term_value c.args.front) (term_value c.args.back) xs ys c.from.result c.in_ok-lists_in.ensures c.in_ok-lists_in-2.ensures
    (c.from.ensures ∙ c.in_ok-append.ensures.items ∙ ap (λ zs. zs ++ c.from-more.result.items) c.from-lists.ensures ∙ ap (λ zs. xs ++ zs) c.from-more.ensures)
