use Rattle.std.proofs.Common.{rules, ◌≡◌, Some}
use Rattle.table_model.specs.Catalog.{ttl_fault}
use Rattle.plain_database.proofs.TimeToLive.{ttl_refused}
use Rattle.plain_database.proofs.time_to_live.set_time_to_live.Goals as goal

pub returns-in-Some-clause-done : goal.returns-in-Some-clause-done
returns-in-Some-clause-done c =
    let r = c.args.request in
    let fault : ttl_fault c.args.rows.now.schema.ttl r.name r.enabled ≡ Some c.in-Some.fault = search rules in
    ttl_refused r c.args.rows.now c.in-Some.fault c.requires fault
