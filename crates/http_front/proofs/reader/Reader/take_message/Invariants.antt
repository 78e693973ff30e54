use Rattle.std.proofs.Common.{◌≡◌, List, ℕ, [], ◌++◌, ◌<◌, ◌≤◌, ◌-◌, length, take}
use Rattle.std.specs.Io.KnownBytes.{prepend_known, Consumes}
use Rattle.std.specs.Prelude.{option_map}
use Rattle.httparse.specs.Spans.{span_bytes}
use Rattle.http_front.specs.Messages.{IsShortBody, IsSparing}
use Rattle.http_front.proofs.reader.Reader.take_message.Given as goal

abbrev pub invariant-loop-self : goal.invariant-loop-self
invariant-loop-self g l = record {
  known : Consumes (prepend_known l.fn.self (g.S.Source.left l.fn.source)) (prepend_known l.self (g.S.Source.left l.source))
      (take l.head.len l.fn.self ++ l.body.items);
  fits : length l.body.items ≤ l.head.size;
  all : length l.body.items < l.head.size → l.self ≡ [];
  target : l.target ≡ option_map (span_bytes l.fn.self) l.head.target;
  later : g.S.Source.faults l.fn.source ≤ g.S.Source.faults l.source;
  sparing : (taken : List ℕ) × Consumes (g.S.Source.left l.fn.source) (g.S.Source.left l.source) taken
      × (l.fn.self ++ taken ≡ (take l.head.len l.fn.self ++ l.body.items) ++ l.self) × IsSparing l.fn.self taken;
  quiet : ¬ (IsShortBody l.fn.self)
      → (l.source ≡ l.fn.source) × (l.fn.self ≡ (take l.head.len l.fn.self ++ l.body.items) ++ l.self);
}

abbrev pub decreases-loop-self : goal.decreases-loop-self
decreases-loop-self g l = l.head.size - length l.body.items
