use Rattle.page_reads.proofs.page.nothing_filled.Goals as goal

pub returns : goal.returns
returns c = λ schema source i. record { page = c.empty_page.ensures schema source i; bytes = 0 }
