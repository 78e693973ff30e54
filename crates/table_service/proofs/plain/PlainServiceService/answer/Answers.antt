use Rattle.std.proofs.Common.{rules, ◌≡◌, inl, subst}
use Rattle.table_model.specs.Database.{Database}
use Rattle.table_model.specs.Expired.{swept}
use Rattle.table_service.specs.Plain.{IsServed}
use Rattle.table_service.specs.Telling.{told}
use Rattle.table_service.proofs.plain.PlainServiceService.answer.Goals as goal

pub returns-in-Ok-clause-step : goal.returns-in-Ok-clause-step
returns-in-Ok-clause-step g c =
    let gone : c.sweep.new.self ≡ swept c.args.database.now c.args.moment = search rules in
    inl (inl (
      c.in-Ok.request,
      c.in-Ok.ensures,
      subst (λ (db : Database). IsServed db c.in-Ok.request c.args.moment (told c.serve.result) c.serve.new.database) gone c.serve.ensures.served,
    ))
