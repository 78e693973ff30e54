use Rattle.std.proofs.Common.{◌≡◌, drop, sym, ◌∙◌}
use Rattle.std.proofs.lemmas.List.{at_drop_all}
use Rattle.attr_value.specs.Tree.{no_trees}
use Rattle.attr_value.specs.View.{trees_of}
use Rattle.attr_value.specs.Parts.{onto}
use Rattle.item_writes.specs.Joined.{joined}
use Rattle.attr_value.proofs.PartLaws.{onto_none}
use Rattle.item_writes.proofs.new_value.joined.Goals as goal

pub returns : goal.returns
returns c =
    let l = c.loop-list in
    let ws = c.args.lists.now in
    let none : onto (trees_of l.all) (joined (drop l.list-index ws)) ≡ onto (trees_of l.all) no_trees =
    at_drop_all (λ vs. onto (trees_of l.all) (joined vs)) ws l.list-index c.loop-list-test.false in
    c.from.ensures ∙ sym (onto_none (trees_of l.all)) ∙ sym none ∙ l.invariant
