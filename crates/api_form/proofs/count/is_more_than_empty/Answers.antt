use Rattle.std.proofs.Common.{nat_lt, ap, sym, ◌∙◌}
use Rattle.api_form.proofs.Members.{has_members_length}
use Rattle.api_form.proofs.count.is_more_than_empty.Goals as goal

pub returns : goal.returns
returns c = ap (λ n. nat_lt 0 n) c.len.ensures.len ∙ sym (has_members_length c.args.map.now.entries)
