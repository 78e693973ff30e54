use Rattle.std.proofs.Common.{◌≡◌, ℕ, List, ◌++◌, ◌≤◌, ◌-◌, length}
use Rattle.std.specs.Io.KnownBytes.{prepend_known, Keeps, Consumes}
use Rattle.http_front.specs.Messages.{IsPartial, IsSparing}
use Rattle.http_front.proofs.reader.Reader.next.Given as goal

abbrev pub invariant-loop-head : goal.invariant-loop-head
invariant-loop-head g l = record {
  keeps : Keeps (prepend_known l.fn.self (g.S.Source.left l.fn.source)) (prepend_known l.self (g.S.Source.left l.source));
  later : g.S.Source.faults l.fn.source ≤ g.S.Source.faults l.source;
  sparing : (taken : List ℕ) × Consumes (g.S.Source.left l.fn.source) (g.S.Source.left l.source) taken
      × (l.self ≡ l.fn.self ++ taken) × IsSparing l.fn.self taken;
  quiet : ¬ (IsPartial l.fn.self) → (l.source ≡ l.fn.source) × (l.self ≡ l.fn.self);
}

abbrev pub decreases-loop-head : goal.decreases-loop-head
decreases-loop-head g l = 20480 - length l.self
