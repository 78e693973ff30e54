use Rattle.legacy_params.proofs.Sentences.{condition_exact, update_exact, paths_exact}
use Rattle.legacy_params.proofs.laws.one_meaning.Goals as goal

pub returns : goal.returns
returns c = record {
  condition = condition_exact c.one_tree.ensures.condition;
  update = update_exact c.one_tree.ensures.update;
  paths = paths_exact c.one_tree.ensures.paths;
}
