use Rattle.std.proofs.Common.{◌≡◌}
use Rattle.attr_value.specs.View.{attributes_of}
use Rattle.table_model.specs.Pages.{all_names}
use Rattle.page_reads.specs.Names.{is_named}
use Rattle.page_reads.proofs.names.Names.have_all.Given as goal

abbrev pub invariant-loop-name : goal.invariant-loop-name
invariant-loop-name l = all_names (is_named l.self) (attributes_of l.name-iterator) ≡ all_names (is_named l.self) l.item
