use Rattle.std.proofs.Common.{◌∙◌, ap, sym, refl, Option, Result}
use Rattle.row_keys.specs.declared.position.Position.{Position}
use Rattle.table_model.specs.declared.refusal.Refusal.{Refusal}
use Rattle.page_reads.specs.Starts.{refused_as, with_range}
use Rattle.page_reads.proofs.queries.begun_in.Goals as goal

pub returns-in-Ok : goal.returns-in-Ok
returns-in-Ok c = (
  ap (λ (start : Result (Option Position) Refusal). with_range c.args.range start) (sym (ap refused_as c.in-Ok.is) ∙ c.in_ok-start.ensures),
  refl,
)

pub returns-in-Err : goal.returns-in-Err
returns-in-Err c = (
  ap (λ (start : Result (Option Position) Refusal). with_range c.args.range start) (sym (ap refused_as c.in-Err.is) ∙ c.in_ok-start.ensures),
  tt,
)
