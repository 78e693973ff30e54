use Rattle.std.proofs.Common.{◌≡◌, drop}
use Rattle.http_front.specs.Heads.{values_of}
use Rattle.http_front.specs.Spans.{fields_at}
use Rattle.http_front.proofs.field.first_value.Given as goal

abbrev pub invariant-loop-index : goal.invariant-loop-index
invariant-loop-index l =
    values_of l.name (fields_at l.bytes (drop l.index l.headers)) ≡ values_of l.name (fields_at l.bytes l.headers)
