use Rattle.api_form.proofs.Members.{list_found, list_missed}
use Rattle.api_form.proofs.count.list_count.Goals as goal

pub returns-in-Some : goal.returns-in-Some
returns-in-Some c =
    list_found c.args.name c.text.result.now c.args.map.now.entries c.in-Some.value.now c.array_count.result c.text.ensures c.in-Some.ensures.value c.array_count.ensures

pub returns-in-None : goal.returns-in-None
returns-in-None c = list_missed c.args.name c.text.result.now c.args.map.now.entries c.text.ensures c.in-None.ensures.value
