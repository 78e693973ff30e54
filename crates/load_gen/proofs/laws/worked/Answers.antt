use Rattle.std.proofs.Common.{refl}
use Rattle.std.specs.Fmt.{digits}
use Rattle.load_gen.specs.Accounts.{account_id}
use Rattle.load_gen.specs.Bodies.{opening, addition, transfer_body}
use Rattle.load_gen.proofs.laws.worked.Goals as goal

pub returns : goal.returns
unfolding digits account_id opening addition transfer_body
returns c = record {
  first_account = refl;
  last_account = refl;
  first_from = refl;
  first_to = refl;
  first_amount = refl;
  from = refl;
  to = refl;
  paid = refl;
  last_to_first = refl;
  first_again = refl;
  most = refl;
  opened = refl;
  transferred = refl;
}
