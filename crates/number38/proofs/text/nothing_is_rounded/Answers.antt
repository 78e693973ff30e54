use Rattle.number38.proofs.TextLaws.{valued_exactly}
use Rattle.number38.proofs.text.nothing_is_rounded.Goals as goal

pub returns : goal.returns
returns c = λ n z e. valued_exactly _ _ _ _ z e
