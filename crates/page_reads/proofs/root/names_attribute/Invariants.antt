use Rattle.std.proofs.Common.{◌≡◌, drop}
use Rattle.std.specs.List.{list_any}
use Rattle.expr_words.specs.Mentions.{mentioned}
use Rattle.table_model.specs.Pages.{is_rooted}
use Rattle.page_reads.proofs.root.names_attribute.Given as goal

abbrev pub invariant-loop-mention : goal.invariant-loop-mention
invariant-loop-mention l =
    list_any (is_rooted l.name) (mentioned (drop l.mention-index l.mentions)) ≡ list_any (is_rooted l.name) (mentioned l.mentions)
