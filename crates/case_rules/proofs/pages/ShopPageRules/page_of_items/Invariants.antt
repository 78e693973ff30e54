use Rattle.std.proofs.Common.{◌≡◌, ◌++◌, filter}
use Rattle.partition.specs.Pages.{committed_among}
use Rattle.case_rules.specs.Rows.{is_of}
use Rattle.case_rules.proofs.pages.ShopPageRules.page_of_items.Given as goal

abbrev pub invariant-loop-key : goal.invariant-loop-key
invariant-loop-key l =
    filter (λ r. is_of l.page r.0) (committed_among l.items.entries)
    ≡ l.shown ++ filter (λ r. is_of l.page r.0) (committed_among l.key-iterator)
