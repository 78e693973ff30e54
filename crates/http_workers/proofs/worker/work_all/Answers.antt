use Rattle.std.proofs.Common.{◌≡◌, ℕ, ◌<◌, List, ◌++◌, length, take, drop, All, arith, sym, subst, slice_index_or}
use Rattle.std.specs.List.{AllZip}
use Rattle.http_workers.specs.Steps.{CanBegin}
use Rattle.http_workers.proofs.Parts.{zipped, written}
use Rattle.http_workers.proofs.Seats.{all_can_begin, all_worked, all_fit, all_helped}
use Rattle.http_workers.proofs.worker.work_all.Goals as goal

-- what was done to a lent list at each place is done to the list
lent : {X : Type 0} (R : X → X → Type 0) (n : ℕ) (items lent' new rest : List X) → lent' ≡ items → n ≡ length lent'
    → length new ≡ length lent' → ((i : ℕ) (d : X) → i < length lent' → R (slice_index_or lent' i d) (slice_index_or new i d))
    → AllZip R items (take n (new ++ rest))
lent R n items lent' new rest same whole long each =
    subst (λ xs. AllZip R xs (take n (new ++ rest))) same
    (subst (λ ys. AllZip R lent' ys) (sym (written n new rest (omega (arith, whole, long)))) (zipped R lent' new long each))

pub work_each-requires-after_bounds : goal.work_each-requires-after_bounds
work_each-requires-after_bounds g c κs within =
    subst (λ seats. All (CanBegin (g.V.Service.fits c.args.service.now) (g.V.Crew.suits c.args.service.now)) seats) (sym c.as_mut_slice.ensures.value)
    (all_can_begin (g.V.Service.fits c.args.service.now) (g.V.Crew.suits c.args.service.now) c.args.seats.now.items
    c.requires.states c.requires.helpers)

pub returns-clause-works : goal.returns-clause-works
returns-clause-works g c =
    all_worked _ _ _ c.args.seats.now.items _
    (lent _ c.args.seats.now.len c.args.seats.now.items c.as_mut_slice.result.now c.work_each.new.seats
    (drop (length c.work_each.new.seats) c.args.seats.now.items) c.as_mut_slice.ensures.value (omega (arith, c.as_mut_slice.ensures.len))
    (omega (arith, c.work_each.auto.seats)) c.work_each.ensures)

pub returns-clause-fits : goal.returns-clause-fits
returns-clause-fits g c =
    all_fit _ _ _ c.args.seats.now.items _
    (lent _ c.args.seats.now.len c.args.seats.now.items c.as_mut_slice.result.now c.work_each.new.seats
    (drop (length c.work_each.new.seats) c.args.seats.now.items) c.as_mut_slice.ensures.value (omega (arith, c.as_mut_slice.ensures.len))
    (omega (arith, c.work_each.auto.seats)) c.work_each.ensures)

pub returns-clause-helps : goal.returns-clause-helps
returns-clause-helps g c =
    all_helped _ _ _ c.args.seats.now.items _
    (lent _ c.args.seats.now.len c.args.seats.now.items c.as_mut_slice.result.now c.work_each.new.seats
    (drop (length c.work_each.new.seats) c.args.seats.now.items) c.as_mut_slice.ensures.value (omega (arith, c.as_mut_slice.ensures.len))
    (omega (arith, c.work_each.auto.seats)) c.work_each.ensures)
