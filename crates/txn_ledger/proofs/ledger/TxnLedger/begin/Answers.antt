use Rattle.std.proofs.Common.{rules, ◌≡◌, ℕ, ◌+◌, List, Some, option_map, sym, subst}
use Rattle.std.specs.FinMap as map
use Rattle.txn_ledger.specs.Changes.{Alters}
use Rattle.txn_ledger.specs.Ledgers.{AreDrawn, AreLinked}
use Rattle.txn_ledger.specs.Tokens.{kept_with, living}
use Rattle.txn_ledger.proofs.Begins.{begun_drawn, begun_linked}
use Rattle.txn_ledger.proofs.ledger.TxnLedger.begin.Goals as goal

pub invariant_of-self-2 : goal.invariant_of-self-2
invariant_of-self-2 g c =
    let s = c.args.self.now.records in
    let t = c.add.new.records in
    let number = c.args.self.now.next in
    let after = c.keep_with.new.tokens in
    let next : c.in-Some.next ≡ number + 1 = search rules in
    let alters : Alters s t number (Some c.begun-begun.result) = search rules in
    let named : c.begun-begun.result.token ≡ option_map (λ t. t.token) c.args.token = search rules in
    let says : (other : List ℕ) → map.get after other ≡ kept_with c.args.token number other (living c.args.moment (map.get c.args.self.now.tokens other)) =
    search rules in
    let linked : AreLinked t (number + 1) after =
    begun_linked s t number c.args.moment c.args.self.now.tokens after c.begun-begun.result c.args.token alters named says c.args.self.now.linked in
    let drawn : AreDrawn t (number + 1) = begun_drawn s t number c.begun-begun.result alters c.args.self.now.drawn in
    record {
      linked = subst (λ n. AreLinked t n after) (sym next) linked;
      drawn = subst (λ n. AreDrawn t n) (sym next) drawn;
    }
