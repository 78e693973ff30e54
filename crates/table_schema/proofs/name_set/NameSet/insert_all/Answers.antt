use Rattle.std.proofs.Common.{◌∙◌, ap, not, ◌||◌, List, ℕ}
use Rattle.table_schema.specs.NameSet.{is_same, has}
use Rattle.table_schema.proofs.NameSets.{one_more, one_more_name}
use Rattle.table_schema.proofs.name_set.NameSet.insert_all.Goals as goal

pub loop-first-preserved : goal.loop-first-preserved
loop-first-preserved g c =
    let first = c.in-Some.first.now in
    let named = c.as_str.ensures ∙ c.name.ensures in
    let found = c.in_ok-new.ensures.new ∙ ap (λ name. not (has c.loop-first.self name)) named in
    let after = λ (n : List ℕ). c.in_ok-new.ensures.names n ∙ ap (λ name. is_same n name || has c.loop-first.self n) named in record {
      new =
          one_more g.T.Named.name_of c.loop-first.rest.now c.in-Some.others.now first c.loop-first.all_new c.in_ok-new.new c.loop-first.self c.insert.new.self _
          c.in-Some.ensures.cases.0 found after c.loop-first.invariant.new;
      names = λ n.
          one_more_name g.T.Named.name_of c.loop-first.rest.now c.in-Some.others.now first c.loop-first.self c.insert.new.self n _
          c.in-Some.ensures.cases.0 (after n) (c.loop-first.invariant.names n);
    }
