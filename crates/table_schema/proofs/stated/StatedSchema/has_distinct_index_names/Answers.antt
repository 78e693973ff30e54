use Rattle.std.proofs.Common.{◌∙◌, ◌||◌, map}
use Rattle.table_schema.specs.NameSet.{has}
use Rattle.table_schema.proofs.NewNames.{found_distinct}
use Rattle.table_schema.proofs.stated.StatedSchema.has_distinct_index_names.Goals as goal

pub returns : goal.returns
returns c =
    found_distinct (λ i. i.name) c.args.self.now.locals c.args.self.now.globals c.insert_all.new.self c.in_ok-distinct.distinct c.in_ok-distinct-2.field-0
    (rw (← c.new-names.ensures, ← c.as_slice.ensures) c.in_ok-distinct.ensures.new)
    (λ n.
    c.in_ok-distinct.ensures.names n
    ∙ (λ i. has (map (λ index. index.name) (c.as_slice.ensures i)) n || has (c.new-names.ensures i) n))
    (rw (← c.as_slice-2.ensures) c.in_ok-distinct-2.ensures.new)
