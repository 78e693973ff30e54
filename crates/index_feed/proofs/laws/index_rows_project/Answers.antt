use Rattle.index_feed.proofs.Always.{rows_project, all_listed, no_index_no_row}
use Rattle.index_feed.proofs.Homes.{items_listed, rows_listed}
use Rattle.index_feed.proofs.laws.index_rows_project.Goals as goal

pub returns : goal.returns
returns g c = record {
  rows = λ I law. rows_project I law;
  listed = λ I law. all_listed I law;
  items = λ I law. items_listed I law;
  index_rows = λ I law. rows_listed I law;
  none = λ I law. no_index_no_row I law;
}
