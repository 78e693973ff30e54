use Rattle.std.proofs.Common.{◌≡◌, ◌∙◌, sym, refl, subst, rules, tests, if◌then◌else◌}
use Rattle.std.proofs.lemmas.Iterator.{YieldsList-from_slice}
use Rattle.std.proofs.lemmas.Iterator.Search.{any_from_yields_List}
use Rattle.http_workers.specs.declared.serve.ServeEnd.{ServeEnd}
use Rattle.http_workers.specs.Steps.{workers_of, has_failed, has_fault}
use Rattle.http_workers.proofs.Seats.{failed_workers}
use Rattle.http_workers.proofs.seat.end_of.Goals as goal

pub returns-then-any : goal.returns-then-any
returns-then-any g c =
    let found : c.any.result ≡ has_fault (workers_of c.args.seats.now) =
    any_from_yields_List has_failed _ _ _ c.any.ensures.ran (YieldsList-from_slice c.args.seats.now cc)
    (λ x b q k. search (rules, tests)) ∙ failed_workers c.args.seats.now in
    subst (λ b. ServeEnd.NetFault ≡ (if b then ServeEnd.NetFault else ServeEnd.Done)) (sym c.if-any.true ∙ found) refl

pub returns : goal.returns
returns g c =
    let found : c.any.result ≡ has_fault (workers_of c.args.seats.now) =
    any_from_yields_List has_failed _ _ _ c.any.ensures.ran (YieldsList-from_slice c.args.seats.now cc)
    (λ x b q k. search (rules, tests)) ∙ failed_workers c.args.seats.now in
    subst (λ b. ServeEnd.Done ≡ (if b then ServeEnd.NetFault else ServeEnd.Done)) (sym c.if-any.false ∙ found) refl
