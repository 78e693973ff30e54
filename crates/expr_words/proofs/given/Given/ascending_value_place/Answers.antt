use Rattle.std.proofs.Common.{rules, ◌∙◌}
use Rattle.std.proofs.lemmas.Fn.{always_returns_same}
use Rattle.std.specs.Cmp.Lexicographic.{slice_cmp}
use Rattle.std.specs.Ordering.{nat_cmp}
use Rattle.expr_words.proofs.Ascending.{searched}
use Rattle.expr_words.proofs.given.Given.ascending_value_place.Goals as goal

pub returns : goal.returns
returns c =
    let at = c.binary_search_by.ensures.position (λ y. slice_cmp nat_cmp y c.args.placeholder.now) (always_returns_same _ _ _ (λ a r f' k. search rules)) in
    c.ok.ensures.value
    ∙ searched (λ y. y) c.args.self.now.value_names c.requires c.args.placeholder.now c.binary_search_by.result c.as_slice.result.now c.as_slice.ensures c.binary_search_by.ensures.bound at
