use Rattle.load_gen.specs.Accounts.{account_id}
use Rattle.load_gen.proofs.Ids.{in_two_digits}
use Rattle.load_gen.proofs.account.AccountDisplay.fmt.Goals as goal

pub returns-clause-writes : goal.returns-clause-writes
unfolding account_id
returns-clause-writes g c =
    let written = rw c.laid_out.ensures at c.write.ensures.writes in
    rw (in_two_digits c.args.self.now.number c.args.self.now.two_digits) at written
