use Rattle.std.proofs.Common.{rules, subst}
use Rattle.std.specs.Cmp.Lexicographic.{slice_cmp}
use Rattle.std.specs.Ordering.{nat_cmp, is_lt}
use Rattle.std.proofs.lemmas.Fn.{always_returns_same}
use Rattle.expr_words.proofs.Ascending.{Answers, ascend_from}
use Rattle.expr_words.proofs.given.Given.ascending.Goals as goal

pub returns : goal.returns
returns c =
    let names = c.is_sorted_by.ensures.cases (λ x y. is_lt (slice_cmp nat_cmp x.placeholder y.placeholder)) (always_returns_same _ _ _ (λ a r f' k. search rules)) in
    let values = c.is_sorted_by-2.ensures.cases (λ x y. is_lt (slice_cmp nat_cmp x y)) (always_returns_same _ _ _ (λ a r f' k. search rules)) in
    record {
      names = ascend_from (λ y. y.placeholder) c.args.self.now.names c.is_sorted_by.result
          (subst (λ l. Answers (λ y. y.placeholder) l c.is_sorted_by.result) c.as_slice.ensures names);
      values = ascend_from (λ y. y) c.args.self.now.value_names c.is_sorted_by-2.result
          (subst (λ l. Answers (λ y. y) l c.is_sorted_by-2.result) c.as_slice-2.ensures values);
    }
