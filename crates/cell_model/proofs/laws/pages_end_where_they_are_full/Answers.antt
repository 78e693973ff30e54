use Rattle.cell_model.proofs.FullPages.{takes_its_page, tells_its_room}
use Rattle.cell_model.proofs.laws.pages_end_where_they_are_full.Goals as goal

pub returns-clause-page : goal.returns-clause-page
returns-clause-page c = takes_its_page

pub returns-clause-room : goal.returns-clause-room
returns-clause-room c = tells_its_room
