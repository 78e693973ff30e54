-- Placeholders in the order of their bytes.
use Rattle.std.specs.Prelude.{◌≡◌, ◌+◌, ◌<◌, ℕ, List, length, slice_index_or, IsTrue}
use Rattle.std.specs.Cmp.Lexicographic.{slice_cmp}
use Rattle.std.specs.Ordering.{nat_cmp}
use Rattle.std.specs.declared.cmp.Ordering.TheVariants.{Less}
use Rattle.expr_words.specs.declared.given.Given.{Given}
use Rattle.expr_words.specs.declared.given.Ascending.{Ascending}

-- each is below the next
abbrev pub Ascend : {X : Type 0} → (X → List ℕ) → List X → Type 0
Ascend {X} key xs = (k : ℕ) (d : X) → k + 1 < length xs
    → slice_cmp nat_cmp (key (slice_index_or xs k d)) (key (slice_index_or xs (k + 1) d)) ≡ Less

-- what is told to ascend does
pub record AreAscending (given : Given) (ascending : Ascending) : Type 0 where
  pub names : IsTrue ascending.names → Ascend (λ pair. pair.placeholder) given.names
  pub values : IsTrue ascending.values → Ascend (λ name. name) given.value_names
