use Rattle.txn_core.proofs.Causes.{real_holder, late_stamp}
use Rattle.txn_core.proofs.Moves.{moved_is_real}
use Rattle.txn_core.proofs.Cancels.{cancels_are_real}
use Rattle.txn_core.proofs.OwnItems.{read_holders_are_real, moved_item_is_real}
use Rattle.txn_core.proofs.laws.real_causes.Goals as goal

pub returns : goal.returns
returns g c =
    let S = g.R.Rules.protocol in
    let law = g.met.R.Rules.lawful in
    record {
      held = λ n es moment m number is. real_holder (S n) (law n) es moment m number is;
      late = λ n es moment number stamp action t is. late_stamp (S n) (law n) es moment number stamp action t is;
      moved = λ n newer es key first second v w h k one two differ. moved_is_real (S n) (law n) newer es 0 0 key first second v w h k one two differ;
      held_read = λ n. read_holders_are_real (S n) (law n);
      moved_item = λ n. moved_item_is_real (S n) (law n);
      cancelled = λ n. cancels_are_real (S n) (law n);
    }
