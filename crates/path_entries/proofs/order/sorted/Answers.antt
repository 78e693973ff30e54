use Rattle.std.proofs.Common.{◌≡◌, Ordering, rules, ap}
use Rattle.std.proofs.lemmas.Fn.{always_returns_same}
use Rattle.std.specs.Ordering.{is_lt}
use Rattle.path_entries.specs.Order.{path_order, is_before}
use Rattle.path_entries.proofs.Orders.{before_weak, sorted_in_order}
use Rattle.path_entries.proofs.order.sorted.Goals as goal

same_test : (r o : Ordering) (F : Type 0) (f g : F) → (r ≡ o) × (g ≡ f) → (is_lt r ≡ is_lt o) × (g ≡ f)
same_test r o F f g h = (ap is_lt h.0, h.1)

pub returns-clause-in_order : goal.returns-clause-in_order
returns-clause-in_order g c =
    sorted_in_order _ (c.in_ok-sort_by.ensures.sorted is_before before_weak
    (always_returns_same _ (λ a r. is_lt r ≡ is_before a.0.now a.1.0.now) _ (λ a r f k. same_test r (path_order a.0.now.steps.now a.1.0.now.steps.now) _ _ f (search rules))))

pub returns-clause-stable : goal.returns-clause-stable
returns-clause-stable g c =
    c.in_ok-sort_by.ensures.stable is_before before_weak
    (always_returns_same _ (λ a r. is_lt r ≡ is_before a.0.now a.1.0.now) _ (λ a r f k. same_test r (path_order a.0.now.steps.now a.1.0.now.steps.now) _ _ f (search rules)))
