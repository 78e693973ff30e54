-- What the code's values stand for.
use Rattle.std.specs.Prelude.{◌≡◌, List, [], ◌∷◌, map, Option, Some, None, option_map}
use Rattle.attr_value.specs.Paths.{found}
use Rattle.attr_value.specs.Tree.{Tree, list, Attributes}
use Rattle.attr_value.specs.View.{tree_of}
use Rattle.item_writes.specs.Joined.{joined}
use Rattle.item_writes.specs.NewTree.{Written, new_tree}
use Rattle.item_writes.specs.declared.lent.LentValue.{LentValue}
use Rattle.update_eval.specs.declared.named.FoundValue.{FoundValue}
use Rattle.update_eval.specs.declared.term.TermValue.{TermValue}
use Rattle.update_eval.specs.declared.term.TermValue.TheVariants.{Lent, Joined}
use Rattle.update_eval.specs.declared.action.Write.{Write}

abbrev pub term_value : TermValue → Tree
term_value (Lent lent) = tree_of lent.value.now
term_value (Joined lent) = list (joined lent.lists)

abbrev pub lent_value : Option LentValue → Option Tree
lent_value = option_map (λ lent. tree_of lent.value.now)

-- each path finds what stands beside it
abbrev pub AreFound : Attributes → List FoundValue → Type 0
AreFound old named = map (λ f. found f.path.now.steps old) named ≡ map (λ f. lent_value (Some f.lent)) named

abbrev pub seen_write : Write → Written
seen_write write = (write.steps.now, option_map new_tree write.value)

abbrev pub one_seen : Option Write → List Written
one_seen None = []
one_seen (Some write) = seen_write write ∷ []

abbrev pub seen_writes : List Write → List Written
seen_writes writes = map seen_write writes
