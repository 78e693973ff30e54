use Rattle.attr_json.proofs.ReadBack.{text_set_back, if_ok}
use Rattle.attr_json.proofs.text.write_texts.Goals as goal

pub returns-clause-read_back : goal.returns-clause-read_back
returns-clause-read_back c =
    if_ok c.end_array.result (text_set_back c.args.set.now c.as_slice-text-items.ensures.some c.as_slice-text-items.ensures.in_order)
