use Rattle.std.proofs.Common.{rules, ◌≡◌, ◌-◌, Some, slice_get, length, sym, ap, ◌∙◌}
use Rattle.plain_database.proofs.Listing.{last_at}
use Rattle.plain_database.proofs.catalog.last_name.Goals as goal

pub returns-in_ok-try_clone-in-Some : goal.returns-in_ok-try_clone-in-Some
returns-in_ok-try_clone-in-Some c =
    let names = c.args.names.now in
    let here : slice_get names (length names - 1) ≡ Some c.in-Some.name.now = search rules in
    ap Some c.in_ok-try_clone-in-Some.ensures ∙ sym here ∙ sym (last_at names)
