use Rattle.std.proofs.Common.{◌∙◌, refl}
use Rattle.api_form.proofs.Members.{list_range}
use Rattle.api_form.proofs.own.list_in_range.Goals as goal

pub returns-in-List : goal.returns-in-List
returns-in-List c =
    rw c.in-List.is (c.is_between.ensures ∙ list_range c.in-List.of c.in-List.least c.in-List.most _ c.args.items.now refl)
