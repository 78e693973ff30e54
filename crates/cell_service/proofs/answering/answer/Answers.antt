use Rattle.cell_service.proofs.Told.{tried_once_more, answers}
use Rattle.cell_service.proofs.answering.answer.Goals as goal

pub returns-in-Some-answer-clause-answered : goal.returns-in-Some-answer-clause-answered
returns-in-Some-answer-clause-answered g c =
    answers _ _ _ c.loop.invariant.vain _ _ _ (rw c.in-Some-answer.is at c.serve_message-answer.ensures.answered)

pub loop-preserved : goal.loop-preserved
loop-preserved g c = record {
  fits = c.serve_message-answer.ensures.fits;
  told = c.serve_message-answer.ensures.told;
  vain = tried_once_more _ _ _ _ c.loop.invariant.vain (rw c.in-None-answer.is at c.serve_message-answer.ensures.answered);
}
