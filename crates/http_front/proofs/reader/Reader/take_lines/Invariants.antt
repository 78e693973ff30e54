use Rattle.std.proofs.Common.{◌≡◌, ℕ, List, ◌++◌, ◌≤◌, ◌-◌, length}
use Rattle.std.specs.Io.KnownBytes.{prepend_known, Keeps, Consumes}
use Rattle.http_front.specs.Messages.{IsShortHead, IsSparing}
use Rattle.http_front.proofs.reader.Reader.take_lines.Given as goal

abbrev pub invariant-loop-self : goal.invariant-loop-self
invariant-loop-self g l = record {
  keeps : Keeps (prepend_known l.fn.self (g.S.Source.left l.fn.source)) (prepend_known l.self (g.S.Source.left l.source));
  later : g.S.Source.faults l.fn.source ≤ g.S.Source.faults l.source;
  grows : length l.fn.self ≤ length l.self;
  short : IsShortHead l.self;
  sparing : (taken : List ℕ) × Consumes (g.S.Source.left l.fn.source) (g.S.Source.left l.source) taken
      × (l.self ≡ l.fn.self ++ taken) × IsSparing l.fn.self taken;
}

abbrev pub decreases-loop-self : goal.decreases-loop-self
decreases-loop-self g l = 16384 - length l.self
