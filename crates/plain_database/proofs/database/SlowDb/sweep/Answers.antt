use Rattle.std.proofs.Common.{sym, subst}
use Rattle.numbered_tables.specs.Tables.{tables_in}
use Rattle.table_model.specs.Expired.{second_of}
use Rattle.plain_database.specs.Keyed.{AreKeyed}
use Rattle.plain_database.proofs.KeyedCatalog.{swept_keyed}
use Rattle.plain_database.proofs.database.SlowDb.sweep.Goals as goal

pub invariant_of-self-2 : goal.invariant_of-self-2
invariant_of-self-2 c = record {
  idle = c.in_ok-sweep.ensures.idle;
  keyed = subst AreKeyed (sym c.in_ok-sweep.ensures.ok)
      (swept_keyed (second_of c.args.moment) (tables_in c.self.inside.tables.entries) c.self.invariant.keyed);
}
