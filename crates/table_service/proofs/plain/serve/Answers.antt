use Rattle.table_service.specs.Telling.{told}
use Rattle.table_service.proofs.Serving.{served_reply}
use Rattle.table_service.proofs.plain.serve.Goals as goal

pub returns-in-Ok-clause-served : goal.returns-in-Ok-clause-served
returns-in-Ok-clause-served c =
    served_reply c.args.database.now c.effect_slow.new.db c.args.request c.args.moment c.in-Ok.reply (told c.tell.result) c.in-Ok.ensures.ok
    c.tell.ensures.told
