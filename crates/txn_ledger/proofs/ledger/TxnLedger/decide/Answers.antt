use Rattle.txn_ledger.specs.Records.{decided}
use Rattle.txn_ledger.proofs.Links.{decided_leaves, still_drawn, still_linked}
use Rattle.txn_ledger.proofs.ledger.TxnLedger.decide.Goals as goal

pub invariant_of-self-else-matches : goal.invariant_of-self-else-matches
invariant_of-self-else-matches g c =
    let s = c.args.self.now.records in
    let t = c.decide-answer.new.records in
    record {
      linked =
          still_linked (decided c.args.commit c.args.reasons) (decided_leaves c.args.commit c.args.reasons) s t c.args.number c.args.self.now.next
          c.args.self.now.tokens c.decide-answer.ensures.decided c.args.self.now.linked;
      drawn =
          still_drawn (decided c.args.commit c.args.reasons) s t c.args.number c.args.self.now.next c.decide-answer.ensures.decided
          c.args.self.now.drawn;
    }
