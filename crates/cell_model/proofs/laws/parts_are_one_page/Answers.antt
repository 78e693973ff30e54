use Rattle.cell_model.proofs.OnePage.{parts_are_one_page, cells_tell_parts}
use Rattle.cell_model.proofs.laws.parts_are_one_page.Goals as goal

pub returns-clause-page : goal.returns-clause-page
returns-clause-page c = parts_are_one_page

pub returns-clause-parts : goal.returns-clause-parts
returns-clause-parts c = cells_tell_parts
