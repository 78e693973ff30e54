-- Which kinds of clauses were met.
use Rattle.std.specs.Prelude.{Bool, true}
use Rattle.expr_words.specs.declared.parse_end.Clause.{Clause}
use Rattle.expr_words.specs.declared.parse_end.Clause.TheVariants as clause
use Rattle.expr_parse.specs.declared.gather.Met.{Met}

-- whether this kind was
abbrev pub has : Met → Clause → Bool
has met clause.Set = met.set
has met clause.Remove = met.remove
has met clause.Add = met.add
has met clause.Delete = met.delete

-- these and this kind
abbrev pub with_kind : Met → Clause → Met
with_kind met clause.Set = record met { set = true }
with_kind met clause.Remove = record met { remove = true }
with_kind met clause.Add = record met { add = true }
with_kind met clause.Delete = record met { delete = true }
