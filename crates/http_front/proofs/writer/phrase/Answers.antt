use Rattle.std.proofs.Common.{◌∙◌}
use Rattle.http_front.proofs.WriterLemmas.{phrase_is, some_same}
use Rattle.http_front.proofs.writer.phrase.Goals as goal

pub returns-in-Some-clause-text : goal.returns-in-Some-clause-text
returns-in-Some-clause-text c =
    c.as_bytes.ensures.value ∙ some_same _ _ _ c.in-Some.ensures.value (phrase_is c.args.code c.requires)
