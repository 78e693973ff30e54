use Rattle.std.proofs.Common.{inl, inr, refl, rules}
use Rattle.ddb_server.proofs.program.run.Goals as goal

pub returns-in-Err-Refused-clause-runs : goal.returns-in-Err-Refused-clause-runs
returns-in-Err-Refused-clause-runs g c =
    inl (inr (inr (inr (c.in-Err-Refused.ensures.refused (search rules), (c.refuse_words.ensures.refused, refl, refl)))))

pub returns-in-Ok-Load-clause-runs : goal.returns-in-Ok-Load-clause-runs
returns-in-Ok-Load-clause-runs g c =
    inl (inr (inr (inl (
      c.in-Ok-Load.start,
      c.in-Ok-Load.clients,
      c.in-Ok-Load.count,
      c.in-Ok-Load.partitions,
      rw c.in-Ok-Load.field-0-is at c.in-Ok-Load.ensures.stated,
      (rw c.from.ensures at c.load.ensures.loads, refl, refl, refl),
    ))))
