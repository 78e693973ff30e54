use Rattle.std.proofs.Common.{◌∙◌, ap, not, ◌||◌}
use Rattle.table_schema.specs.NameSet.{is_same, has}
use Rattle.table_schema.proofs.NameSets.{texts, inserted, lent}
use Rattle.table_schema.proofs.name_set.NameSet.insert.Goals as goal

pub returns-clause-new : goal.returns-clause-new
returns-clause-new c =
    c.in_ok-new.ensures.added
    ∙ ap not (lent c.self.inside.names.keys c.args.name.now ∙ ap (λ names. has names c.args.name.now) c.self.view_is)

pub returns-clause-names : goal.returns-clause-names
returns-clause-names c = λ n.
    ap (λ keys. has (texts keys) n) c.in_ok-new.ensures.keys ∙ inserted c.args.name n c.self.inside.names.keys
    ∙ ap (λ names. is_same n c.args.name.now || has names n) c.self.view_is
