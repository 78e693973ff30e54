use Rattle.request_parts.specs.Placeholders.{shown}
use Rattle.request_parts.specs.Asks.{lent}
use Rattle.request_parts.proofs.Asking.{projection_ended}
use Rattle.request_parts.proofs.asks.read_projection.Goals as goal

pub returns : goal.returns
returns c =
    projection_ended (shown c.args.placeholders.now) (lent c.args.text) c.in_ok-projection.projection
    c.in_ok-used.used c.stated_paths.new.used c.all_used.result
    c.in_ok-used.ensures.made_for c.in_ok-used.ensures.unmarked c.in_ok-projection.ensures.marks c.in_ok-projection.ensures.told c.all_used.ensures
