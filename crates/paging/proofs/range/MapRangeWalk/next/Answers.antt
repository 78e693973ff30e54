use Rattle.std.proofs.Common.{length, sym, ap, ◌∙◌, subst, arith}
use Rattle.std.specs.Prelude.{slice_get, reverse}
use Rattle.std.specs.List.Sorted.{IsStrictlySortedBy}
use Rattle.std.specs.Map.{keys_of}
use Rattle.std.specs.Option.{option_copied}
use Rattle.std.specs.Range.Bound.{bound_map}
use Rattle.std.specs.BTreeMap.Range.{entries_between}
use Rattle.paging.specs.Rows.{rows_after}
use Rattle.paging.proofs.Ends.{rows_from, rows_up_to, between_sorted, between_fewer}
use Rattle.paging.proofs.range.MapRangeWalk.next.Goals as goal

pub returns-then-forward-clause-first : goal.returns-then-forward-clause-first
returns-then-forward-clause-first g c =
    c.first_between.ensures
    ∙ ap (λ low. slice_get (entries_between g.K.Ord.cmp low (bound_map (λ end. end.now) c.self.inside.high) c.self.inside.map.now.entries) 0) c.start_after.ensures
    ∙ ap (λ rows. slice_get rows 0) (sym (rows_from g.met.K.Ord.total _ _ (option_copied c.args.after) c.self.inside.map.now.entries))
    ∙ (λ j. slice_get (rows_after g.K.Ord.cmp (sym c.if-forward.true j) (option_copied c.args.after) (c.self.view_is j)) 0)

pub returns-then-forward-clause-ordered : goal.returns-then-forward-clause-ordered
returns-then-forward-clause-ordered g c =
    subst (λ rows. IsStrictlySortedBy g.K.Ord.cmp (keys_of rows)) c.self.view_is (between_sorted g.K.Ord.cmp _ _ c.self.inside.map.now.entries c.self.invariant.0)

pub returns-then-forward-clause-few : goal.returns-then-forward-clause-few
returns-then-forward-clause-few g c =
    omega (arith, ap length (sym c.self.view_is), between_fewer g.K.Ord.cmp (bound_map (λ end. end.now) c.self.inside.low) (bound_map (λ end. end.now) c.self.inside.high) c.self.inside.map.now.entries)

pub returns-else-forward-clause-first : goal.returns-else-forward-clause-first
returns-else-forward-clause-first g c =
    c.last_between.ensures
    ∙ ap (λ high. slice_get (reverse (entries_between g.K.Ord.cmp (bound_map (λ end. end.now) c.self.inside.low) high c.self.inside.map.now.entries)) 0) c.end_before.ensures
    ∙ ap (λ rows. slice_get rows 0) (sym (rows_up_to g.met.K.Ord.total _ _ (option_copied c.args.after) c.self.inside.map.now.entries))
    ∙ (λ j. slice_get (rows_after g.K.Ord.cmp (sym c.if-forward.false j) (option_copied c.args.after) (c.self.view_is j)) 0)

pub returns-else-forward-clause-ordered : goal.returns-else-forward-clause-ordered
returns-else-forward-clause-ordered g c =
    subst (λ rows. IsStrictlySortedBy g.K.Ord.cmp (keys_of rows)) c.self.view_is (between_sorted g.K.Ord.cmp _ _ c.self.inside.map.now.entries c.self.invariant.0)

pub returns-else-forward-clause-few : goal.returns-else-forward-clause-few
returns-else-forward-clause-few g c =
    omega (arith, ap length (sym c.self.view_is), between_fewer g.K.Ord.cmp (bound_map (λ end. end.now) c.self.inside.low) (bound_map (λ end. end.now) c.self.inside.high) c.self.inside.map.now.entries)
