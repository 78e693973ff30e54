use Rattle.std.proofs.Common.{refl, inl, inr, subst, ◌≡◌}
use Rattle.table_schema.specs.Index.{stated_of}
use Rattle.table_schema.specs.Rule.{Defines}
use Rattle.table_schema.proofs.Elements.{parts_defined, part_defined}
use Rattle.table_schema.proofs.check.defines_parts.Goals as goal

pub returns-then-not-defines : goal.returns-then-not-defines
returns-then-not-defines c = (
  λ e. absurd (cc),
  λ parts.
      let first = part_defined (stated_of c.args.schema.now) c.args.keys.now parts c.args.keys.now.partition (inl refl) in
      let known = c.defines.ensures.1 first in absurd (cc),
)

pub returns-in-Some : goal.returns-in-Some
returns-in-Some c = (
  λ yes.
      parts_defined (stated_of c.args.schema.now) c.args.keys.now (c.defines.ensures.0 c.if-not-defines.false)
      (λ sort is. let same : c.in-Some.sort ≡ sort = cc in subst (Defines (stated_of c.args.schema.now)) same (c.defines-in-Some.ensures.0 yes)),
  λ parts.
      c.defines-in-Some.ensures.1
      (part_defined (stated_of c.args.schema.now) c.args.keys.now parts c.in-Some.sort (inr c.in-Some.is)),
)

pub returns-in-None : goal.returns-in-None
returns-in-None c = (
  λ yes.
      parts_defined (stated_of c.args.schema.now) c.args.keys.now (c.defines.ensures.0 c.if-not-defines.false) (λ sort is. absurd (cc)),
  λ parts. refl,
)
