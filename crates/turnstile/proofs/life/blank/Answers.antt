use Rattle.turnstile.proofs.Basics.{length-blank, blank_take}
use Rattle.turnstile.proofs.life.blank.Goals as goal

pub returns-clause-count : goal.returns-clause-count
returns-clause-count c = length-blank c.args.count 1056 c.requires

pub returns-clause-blank : goal.returns-clause-blank
returns-clause-blank c = blank_take c.args.count 1056
