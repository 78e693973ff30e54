use Rattle.std.proofs.Common.{refl}
use Rattle.table_items.proofs.Steps.{made_one}
use Rattle.table_items.proofs.write.make.Goals as goal

pub returns : goal.returns
returns c = record {
  made = (made_one c.args.table.now c.prepare.new.self c.commit.new.self _ c.requires c.in_ok-prepare.ensures.ok c.commit.ensures, refl);
  err = tt;
}
