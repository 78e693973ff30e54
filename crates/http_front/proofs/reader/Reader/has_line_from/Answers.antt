use Rattle.std.proofs.Common.{◌≡◌, drop, arith, rules}
use Rattle.std.proofs.lemmas.Grind.{common_steps}
use Rattle.http_front.proofs.HeadLemmas.{no_feed_behind}
use Rattle.http_front.proofs.reader.Reader.has_line_from.Goals as goal

pub returns-in-None : goal.returns-in-None
returns-in-None c =
    λ no k past within feed. no_feed_behind c.args.self.now _ c.args.before (grind (arith, common_steps)) c.in-None.ensures k past within feed
