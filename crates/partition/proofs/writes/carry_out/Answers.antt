use Rattle.std.proofs.Common.{◌≡◌, sym, ◌∙◌}
use Rattle.txn_core.specs.declared.answer.Answer.{Answer}
use Rattle.txn_core.specs.Answers.{write_answer}
use Rattle.item_store.specs.Slots.{row_of}
use Rattle.partition.specs.Knows.{kept_at}
use Rattle.partition.proofs.writes.carry_out.Goals as goal

pub returns-clause-says : goal.returns-clause-says
returns-clause-says g c = λ n there.
    let S = g.R.Rules.protocol n in
    let cell = c.args.cell.now in
    let k = S.core.key_of c.args.action in
    let row = row_of (kept_at S cell k) in
    let new : c.in_ok-new.new ≡ c.args.item = cc (c.in_ok-new.ensures, c.as_ref.ensures.value) in
    (λ j. Answer.Written (c.in_ok-old.ensures.old n j) (new j)) ∙ sym (λ j. write_answer (there j) ((c.requires n).free j) row ((c.requires n).new j))
