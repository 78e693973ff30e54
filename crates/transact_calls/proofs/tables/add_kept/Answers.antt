use Rattle.std.specs.Option.{option_copied}
use Rattle.std.proofs.Common.{sym, ap, ◌∙◌}
use Rattle.transact_calls.proofs.Entries.{known_with}
use Rattle.transact_calls.proofs.tables.add_kept.Goals as goal

pub returns-in_ok-add : goal.returns-in_ok-add
returns-in_ok-add c = λ es told known.
    let name = c.args.name.now in
    let look = c.in-Some.look.now in
    known_with es c.args.tables.now.entries c.add.new.tables.entries name look
    (record { entries = c.in_ok-add.ensures.entries; found = c.in_ok-add.ensures.found })
    (told name look (sym c.find.ensures ∙ ap option_copied c.in-Some.is)) known
