use Rattle.std.proofs.Common.{◌≡◌, drop, codes}
use Rattle.std.specs.List.{list_any}
use Rattle.http_front.specs.Heads.{values_of, has_close}
use Rattle.http_front.specs.Spans.{fields_at}
use Rattle.http_front.proofs.field.says_close.Given as goal

abbrev pub invariant-loop-header : goal.invariant-loop-header
invariant-loop-header l =
    list_any has_close (values_of (codes "connection") (fields_at l.bytes (drop l.header-index l.headers)))
    ≡ list_any has_close (values_of (codes "connection") (fields_at l.bytes l.headers))
