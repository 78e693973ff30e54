use Rattle.std.proofs.Common.{◌∙◌, ◌||◌, map, ℕ, List}
use Rattle.table_schema.specs.NameSet.{has}
use Rattle.table_schema.proofs.Attributes.{same_sets, within_used, within_defined}
use Rattle.table_schema.proofs.stated.StatedSchema.defines_its_keys.Goals as goal

pub returns-then-not-is_subset : goal.returns-then-not-is_subset
returns-then-not-is_subset c = (
  λ e. absurd (cc),
  λ both.
      let known =
      c.is_subset.ensures.1
      (within_used c.args.self.now c.insert_all.new.self c.in_ok-used.used
      (λ n.
      c.in_ok-insert_all.ensures.names n
      ∙ (λ i. has (map (λ d. d.name) (c.as_slice.ensures i)) n || has (c.new-defined.ensures i) n))
      c.in_ok-used.ensures both) in
      absurd (cc),
)

pub returns : goal.returns
returns c =
    let defined = λ (n : List ℕ).
    c.in_ok-insert_all.ensures.names n
    ∙ (λ i. has (map (λ d. d.name) (c.as_slice.ensures i)) n || has (c.new-defined.ensures i) n) in (
      λ passes.
          same_sets c.args.self.now c.insert_all.new.self c.in_ok-used.used defined c.in_ok-used.ensures
          (c.is_subset.ensures.0 c.if-not-is_subset.false) (c.is_subset-2.ensures.0 passes),
      λ both.
          c.is_subset-2.ensures.1
          (within_defined c.args.self.now c.insert_all.new.self c.in_ok-used.used defined c.in_ok-used.ensures both),
    )
