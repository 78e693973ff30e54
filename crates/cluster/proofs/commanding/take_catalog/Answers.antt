use Rattle.cluster.proofs.Commanded.{takes_catalog}
use Rattle.cluster.proofs.commanding.take_catalog.Goals as goal

pub returns-in-Control : goal.returns-in-Control
returns-in-Control g c = λ n moment.
    takes_catalog (g.R.Rules.protocol n) g.R.CellRules.locals c.args.cell.now c.in-Control.control c.commit_catalog.new.self c.in-Control.is moment c.args.catalog
    (c.commit_catalog.ensures n moment)
