use Rattle.paging.proofs.Full
use Rattle.paging.proofs.page.one_page.Goals as goal

pub returns : goal.returns
returns c = Full.one_page
