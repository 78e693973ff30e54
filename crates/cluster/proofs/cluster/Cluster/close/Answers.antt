use Rattle.std.proofs.Common.{◌≡◌, ℕ, ◌-◌, length, sym, ap, ◌∙◌, subst, arith}
use Rattle.std.specs.Prelude.{slice_get}
use Rattle.turnstile.specs.Passes.{TurnstileView}
use Rattle.cluster.specs.Standing.{IsInPlace}
use Rattle.cluster.specs.Closing.{AreAfterAll}
use Rattle.cluster.proofs.AfterAll.{control_holds, in_place, partition_stands}
use Rattle.cluster.proofs.cluster.Cluster.close.Goals as goal

pub close-requires-clause-of : goal.close-requires-clause-of
close-requires-clause-of g c = λ i p at.
    let h = c.requires.rest i p at in (h.of ∙ sym (ap (λ (t : TurnstileView). t.id) c.self.view_is), h.free)

pub split-requires-clause-kinds : goal.split-requires-clause-kinds
split-requires-clause-kinds g c = λ i b at.
    let n = c.self.inside.turnstile.id.slots in
    let S = g.R.Rules.protocol (n - 1) in
    let numbered = g.met.R.Rules.numbered (n - 1) in
    let stands = c.close.ensures.history.values_stand i b (ap (λ l. slice_get l i) (sym c.into-cells.ensures) ∙ at) in
    let count : length c.into-cells.result.items ≡ n = ap length c.into-cells.ensures ∙ c.close.ensures.count in
    let last : S.control ≡ length c.into-cells.result.items - 1 = omega arith in
    subst (λ (k : ℕ). IsInPlace k i b.value) last (in_place S g.R.CellRules.locals i b.value _ stands)

pub returns-clause-after : goal.returns-clause-after
returns-clause-after g c =
    let n = c.self.inside.turnstile.id.slots in
    let S = g.R.Rules.protocol (n - 1) in
    let history = c.close.ensures.history in
    let is = c.into-cells.ensures in
    let split = c.split.ensures in
    subst (λ (t : TurnstileView). AreAfterAll (g.R.Rules.protocol (t.id.slots - 1)) c.args.passes c.split.result.partitions c.split.result.ledger)
    c.self.view_is
    record {
      log = history.log;
      legal = history.lawful;
      fronts = history.fronts;
      partitions_stand = λ i x at.
          let h = split.partitions i x at in
          partition_stands S g.R.CellRules.locals i history.log h.0.value x h.2 (history.values_stand i h.0 (ap (λ l. slice_get l i) (sym is) ∙ h.1));
      control_holds =
          let h = split.ledger in
          let k = length c.split.result.partitions in
          control_holds S g.R.CellRules.locals k history.log h.0.value c.split.result.ledger h.2 (history.values_stand k h.0 (ap (λ l. slice_get l k) (sym is) ∙ h.1));
    }
