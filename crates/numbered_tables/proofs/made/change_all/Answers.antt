use Rattle.std.specs.Ordering.{nat_cmp}
use Rattle.std.specs.Cmp.Lexicographic.{slice_cmp}
use Rattle.std.specs.List.Sorted.{IsStrictlySortedBy}
use Rattle.std.specs.Map.{keys_of}
use Rattle.std.proofs.Common.{◌≡◌, sym, ap, ◌∙◌, subst}
use Rattle.numbered_tables.specs.Tables.{AreIdle}
use Rattle.numbered_tables.specs.Changes.{IsChanged}
use Rattle.numbered_tables.specs.Prepared.{prepared, committed_all}
use Rattle.numbered_tables.proofs.Prepared.{idle_after, prepared_keys, made_all}
use Rattle.numbered_tables.proofs.made.change_all.Goals as goal

pub returns-in-Ok-clause-idle : goal.returns-in-Ok-clause-idle
returns-in-Ok-clause-idle c = subst AreIdle (sym c.commit_all.ensures.entries) (idle_after c.prepare_all.new.tables.entries)

pub returns-in-Ok-clause-ok : goal.returns-in-Ok-clause-ok
returns-in-Ok-clause-ok c =
    let es = c.args.tables.now.entries in
    let changes = c.args.changes in
    let held : c.prepare_all.new.tables.entries ≡ prepared changes es = c.in-Ok.ensures.ok in
    let sorted =
    subst (IsStrictlySortedBy (slice_cmp nat_cmp)) (ap keys_of held ∙ prepared_keys changes es) c.commit_all.ensures.ordered in
    subst (IsChanged es changes) (sym (c.commit_all.ensures.entries ∙ ap committed_all held)) (made_all changes es sorted)
