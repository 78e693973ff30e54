-- Attributes that are put into a row one after another, in order of name.
use Rattle.std.proofs.Common.{◌≡◌, ℕ, Bool, true, false, List, refl, ap, sym, ◌∙◌, subst}
use Rattle.std.specs.Prelude.{if◌then◌else◌}
use Rattle.std.specs.Cmp.Lexicographic.{slice_cmp, nat_list_cmp_total}
use Rattle.std.specs.Ordering.{nat_cmp, match_ordering, ordering_reverse}
use Rattle.std.specs.declared.cmp.Ordering.{Ordering}
use Rattle.std.specs.declared.cmp.Ordering.TheVariants.{Less, Equal, Greater}
use Rattle.attr_value.specs.Tree.{Tree, Attributes, no_attributes, attribute, IsBelowNames, AreInOrder}
use Rattle.attr_value.specs.Paths.{put}
use Rattle.item_keys.specs.Row.{only}

-- attributes, and others behind them
abbrev pub joined : Attributes → Attributes → Attributes
joined no_attributes others = others
joined (attribute name value rest) others = attribute name value (joined rest others)

pub joined_none : (row : Attributes) → joined row no_attributes ≡ row
joined_none no_attributes = refl
joined_none (attribute name value rest) = ap (attribute name value) (joined_none rest)

module _ (name : List ℕ) (value : Tree) (rest : Attributes) where
  below_rest : (other : List ℕ) (row : Attributes) → IsBelowNames other (joined row (attribute name value rest)) → IsBelowNames other (joined row rest)
  below_rest other no_attributes below = below.1
  below_rest other (attribute n t row) below = (below.0, below_rest other row below.1)

  below_name : (other : List ℕ) (row : Attributes) → IsBelowNames other (joined row (attribute name value rest)) → slice_cmp nat_cmp other name ≡ Less
  below_name other no_attributes below = below.0
  below_name other (attribute n t row) below = below_name other row below.1

  -- without the next attribute all are still in order
  pub skipped : (row : Attributes) → AreInOrder (joined row (attribute name value rest)) → AreInOrder (joined row rest)
  skipped no_attributes order = order.1
  skipped (attribute n t row) order = (below_rest n row order.0, skipped row order.1)

  -- the next attribute goes to the end
  pub put_last : (row : Attributes) → AreInOrder (joined row (attribute name value rest)) → put name value row ≡ joined row (attribute name value no_attributes)
  put_last no_attributes order = refl
  put_last (attribute n t row) order =
      let above : slice_cmp nat_cmp name n ≡ Greater =
      nat_list_cmp_total.antisymm name n ∙ ap ordering_reverse (below_name n row order.0) in
      ap (λ o. match_ordering o (attribute name value (attribute n t row)) (attribute n value row) (attribute n t (put name value row))) above
      ∙ ap (attribute n t) (put_last row order.1)

  joined_next : (row others : Attributes) → joined (joined row (attribute name value no_attributes)) others ≡ joined row (attribute name value others)
  joined_next no_attributes others = refl
  joined_next (attribute n t row) others = ap (attribute n t) (joined_next row others)

  module _ (keeps : List ℕ → Bool) (row : Attributes) (whole : Attributes) where
    -- an attribute that is kept
    pub kept : keeps name ≡ true → AreInOrder (joined row (attribute name value rest)) → joined row (only keeps (attribute name value rest)) ≡ whole → joined (put name value row) (only keeps rest) ≡ whole
    kept passes order before =
        ap (λ r. joined r (only keeps rest)) (put_last row order) ∙ joined_next row (only keeps rest)
        ∙ ap (λ b. joined row (if b then attribute name value (only keeps rest) else only keeps rest)) (sym passes) ∙ before

    pub kept_order : AreInOrder (joined row (attribute name value rest)) → AreInOrder (joined (put name value row) rest)
    kept_order order = subst AreInOrder (sym (ap (λ r. joined r rest) (put_last row order) ∙ joined_next row rest)) order

    -- an attribute that is not
    pub left_out : keeps name ≡ false → joined row (only keeps (attribute name value rest)) ≡ whole → joined row (only keeps rest) ≡ whole
    left_out fails before =
        ap (λ b. joined row (if b then attribute name value (only keeps rest) else only keeps rest)) (sym fails) ∙ before
