use Rattle.std.proofs.Common.{◌≡◌, ◌∙◌, All, Bool, true, false, not, Result, Ok, Err, inr, refl, length, arith, ap, sym, subst}
use Rattle.std.specs.List.{AllZip}
use Rattle.std.specs.Result.{OnOk, is_ok}
use Rattle.std.proofs.lemmas.Slice.Zip.{AllZip-long}
use Rattle.ddb_outside.specs.Causes.{Rose}
use Rattle.http_workers.specs.Steps.{workers_of, helpers_of, joint_end}
use Rattle.http_workers.proofs.Parts.{nothing_done, refused, refused_back, of_states, to_states, listed_back, listed_all, listed_faults, listed_ends, workers_long, news_long, never_memory}
use Rattle.http_workers.proofs.Seats.{helped_by}
use Rattle.http_workers.proofs.serve.serve_all.Goals as goal

-- what holds where no error was told
no_error : {T E P : Type 0} (r : Result T E) (b : Bool) → is_ok r ≡ not b → b ≡ false → OnOk r P → P
no_error (Ok x) b told none holds = holds
no_error (Err e) b told none holds = absurd (let no : false ≡ true = subst (λ x. false ≡ not x) none told in cc)

pub returns-in_default-clause-served : goal.returns-in_default-clause-served
returns-in_default-clause-served g c = nothing_done _ _ _ _

pub take_back-requires-after_bounds : goal.take_back-requires-after_bounds
take_back-requires-after_bounds g c κs within = refused_back g.L.Listener.connections _ _ _ c.make_shares.ensures.made

pub returns-then-is_err-clause-served : goal.returns-then-is_err-clause-served
returns-then-is_err-clause-served g c =
    refused g.L.Listener.connections _ _ _ _ _ _ _ c.make_shares.ensures.made c.take_back.ensures.absorbed
    (omega (arith, c.make_shares.ensures.few, c.len-count.ensures))

pub returns-then-is_err-clause-helped : goal.returns-then-is_err-clause-helped
returns-then-is_err-clause-helped g c = inr refl

pub gather-requires-clause-shares : goal.gather-requires-clause-shares
gather-requires-clause-shares g c =
    let made : length c.make_shares.new.shares.items ≡ c.len-count.result =
    no_error c.make_shares.result c.is_err.result c.is_err.ensures.negation c.if-is_err.false c.make_shares.ensures.all in
    omega (arith, made, c.len-count.ensures, ap length c.into.ensures, ap length c.replace-idle.ensures.value)

pub work_all-requires-clause-states : goal.work_all-requires-clause-states
work_all-requires-clause-states g c κs within =
    of_states (λ s. g.V.Service.fits c.args.service.now s) (workers_of c.gather.new.seats.items) c.args.states.now
    (c.gather.ensures.states ∙ (c.into.ensures ∙ c.replace-idle.ensures.value)) c.requires.fits

pub work_all-requires-clause-helpers : goal.work_all-requires-clause-helpers
work_all-requires-clause-helpers g c κs within =
    subst (λ hs. All (λ h. g.V.Crew.suits c.args.service.now h) hs)
    (sym (c.gather.ensures.helpers ∙ (c.into-2.ensures ∙ c.replace-coming.ensures.value))) c.requires.suits

pub disband-requires-clause-room_for_states : goal.disband-requires-clause-room_for_states
disband-requires-clause-room_for_states g c =
    let long : length (workers_of c.work_all.new.seats.items) ≡ length c.args.states.now =
    workers_long _ (workers_of c.gather.new.seats.items) (workers_of c.work_all.new.seats.items) c.args.states.now (c.gather.ensures.states ∙ (c.into.ensures ∙ c.replace-idle.ensures.value)) c.work_all.ensures.works in
    omega (arith, long, c.len-count.ensures, c.in-Ok.ensures.stock.room_for_states)

pub disband-requires-clause-room_for_shares : goal.disband-requires-clause-room_for_shares
disband-requires-clause-room_for_shares g c =
    let long : length (workers_of c.work_all.new.seats.items) ≡ length c.args.states.now =
    workers_long _ (workers_of c.gather.new.seats.items) (workers_of c.work_all.new.seats.items) c.args.states.now (c.gather.ensures.states ∙ (c.into.ensures ∙ c.replace-idle.ensures.value)) c.work_all.ensures.works in
    omega (arith, long, c.len-count.ensures, c.in-Ok.ensures.stock.room_for_served)

pub disband-requires-clause-room_for_helpers : goal.disband-requires-clause-room_for_helpers
disband-requires-clause-room_for_helpers g c =
    let long : length (helpers_of c.work_all.new.seats.items) ≡ length c.args.helpers.now =
    AllZip-long _ _ _ c.work_all.ensures.helps ∙ ap length (c.gather.ensures.helpers ∙ (c.into-2.ensures ∙ c.replace-coming.ensures.value)) in
    omega (arith, long, c.len.ensures, c.in-Ok.ensures.stock.room_for_helpers)

pub take_back-requires-2-after_bounds : goal.take_back-requires-2-after_bounds
take_back-requires-2-after_bounds g c κs within =
    listed_back g.V.Service.ways g.C.Clock.coming g.L.Listener.connections g.L.Listener.faults g.L.Listener.ends
    (g.C.Clock.coming c.args.clock.now) (g.L.Listener.connections c.args.listener.now) (g.L.Listener.connections c.make_shares.new.listener)
    (g.L.Listener.connections c.args.listener.now) (workers_of c.gather.new.seats.items) (workers_of c.work_all.new.seats.items) c.args.states.now c.args.states.now
    c.in-Ok.stock.clocks.items c.make_shares.new.shares.items c.disband.new.shares.items
    (c.gather.ensures.states ∙ (c.into.ensures ∙ c.replace-idle.ensures.value)) c.gather.ensures.clocks c.gather.ensures.shares
    c.in-Ok.ensures.clocks c.make_shares.ensures.made c.work_all.ensures.works c.disband.ensures.shares

pub returns-clause-served : goal.returns-clause-served
returns-clause-served g c =
    listed_all g.V.Service.ways g.C.Clock.coming g.L.Listener.connections g.L.Listener.faults g.L.Listener.ends
    (g.C.Clock.coming c.args.clock.now) (g.L.Listener.connections c.args.listener.now) (g.L.Listener.connections c.make_shares.new.listener)
    (g.L.Listener.connections c.take_back-2.new.listener) (workers_of c.gather.new.seats.items) (workers_of c.work_all.new.seats.items) c.args.states.now c.from.result
    c.in-Ok.stock.clocks.items c.make_shares.new.shares.items c.disband.new.shares.items
    (c.gather.ensures.states ∙ (c.into.ensures ∙ c.replace-idle.ensures.value)) c.gather.ensures.clocks c.gather.ensures.shares
    c.in-Ok.ensures.clocks c.make_shares.ensures.made c.work_all.ensures.works c.disband.ensures.shares
    c.end_of-end.result (c.from.ensures ∙ c.disband.ensures.states) c.take_back-2.ensures.absorbed
    (subst (λ l. c.end_of-end.result ≡ joint_end (workers_of l)) c.as_slice.ensures.value c.end_of-end.ensures)

pub returns-clause-fits : goal.returns-clause-fits
returns-clause-fits g c =
    to_states (λ s. g.V.Service.fits c.args.service.now s) (workers_of c.work_all.new.seats.items) c.from.result
    (c.from.ensures ∙ c.disband.ensures.states) c.work_all.ensures.fits

pub returns-clause-count : goal.returns-clause-count
returns-clause-count g c =
    news_long _ (workers_of c.gather.new.seats.items) (workers_of c.work_all.new.seats.items) c.args.states.now c.from.result (c.gather.ensures.states ∙ (c.into.ensures ∙ c.replace-idle.ensures.value)) c.work_all.ensures.works
    (c.from.ensures ∙ c.disband.ensures.states)

pub returns-clause-helped : goal.returns-clause-helped
returns-clause-helped g c =
    helped_by (g.V.Crew.helps c.args.service.now) c.end_of-end.result c.args.helpers.now c.from-2.result
    (never_memory (workers_of c.work_all.new.seats.items) c.end_of-end.result
    (subst (λ l. c.end_of-end.result ≡ joint_end (workers_of l)) c.as_slice.ensures.value c.end_of-end.ensures))
    (subst (λ hs. AllZip (g.V.Crew.helps c.args.service.now) hs c.from-2.result)
    (c.gather.ensures.helpers ∙ (c.into-2.ensures ∙ c.replace-coming.ensures.value))
    (subst (λ hs. AllZip (g.V.Crew.helps c.args.service.now) (helpers_of c.gather.new.seats.items) hs)
    (sym (c.from-2.ensures ∙ c.disband.ensures.helpers)) c.work_all.ensures.helps))

pub returns-clause-memory : goal.returns-clause-memory
returns-clause-memory g c = λ is. absurd (never_memory (workers_of c.work_all.new.seats.items) c.end_of-end.result
    (subst (λ l. c.end_of-end.result ≡ joint_end (workers_of l)) c.as_slice.ensures.value c.end_of-end.ensures) is)

pub returns-clause-fault : goal.returns-clause-fault
returns-clause-fault g c = λ is.
    let rose : Rose (g.L.Listener.faults c.make_shares.new.listener) (g.L.Listener.faults c.take_back-2.new.listener) =
    c.take_back-2.ensures.share_faults (listed_faults g.V.Service.ways g.C.Clock.coming g.L.Listener.connections g.L.Listener.faults g.L.Listener.ends
    (g.C.Clock.coming c.args.clock.now) (g.L.Listener.connections c.args.listener.now) (g.L.Listener.connections c.make_shares.new.listener)
    (g.L.Listener.connections c.args.listener.now) (workers_of c.gather.new.seats.items) (workers_of c.work_all.new.seats.items) c.args.states.now c.args.states.now
    c.in-Ok.stock.clocks.items c.make_shares.new.shares.items c.disband.new.shares.items
    (c.gather.ensures.states ∙ (c.into.ensures ∙ c.replace-idle.ensures.value)) c.gather.ensures.clocks c.gather.ensures.shares
    c.in-Ok.ensures.clocks c.make_shares.ensures.made c.work_all.ensures.works c.disband.ensures.shares
    c.end_of-end.result (subst (λ l. c.end_of-end.result ≡ joint_end (workers_of l)) c.as_slice.ensures.value c.end_of-end.ensures) is) in
    omega (arith, c.make_shares.ensures.cause.later, rose)

pub returns-clause-done : goal.returns-clause-done
returns-clause-done g c = λ is some.
    let rose : Rose (g.L.Listener.ends c.make_shares.new.listener) (g.L.Listener.ends c.take_back-2.new.listener) =
    c.take_back-2.ensures.share_ends (listed_ends g.V.Service.ways g.C.Clock.coming g.L.Listener.connections g.L.Listener.faults g.L.Listener.ends
    (g.C.Clock.coming c.args.clock.now) (g.L.Listener.connections c.args.listener.now) (g.L.Listener.connections c.make_shares.new.listener)
    (g.L.Listener.connections c.args.listener.now) (workers_of c.gather.new.seats.items) (workers_of c.work_all.new.seats.items) c.args.states.now c.args.states.now
    c.in-Ok.stock.clocks.items c.make_shares.new.shares.items c.disband.new.shares.items
    (c.gather.ensures.states ∙ (c.into.ensures ∙ c.replace-idle.ensures.value)) c.gather.ensures.clocks c.gather.ensures.shares
    c.in-Ok.ensures.clocks c.make_shares.ensures.made c.work_all.ensures.works c.disband.ensures.shares
    c.end_of-end.result (subst (λ l. c.end_of-end.result ≡ joint_end (workers_of l)) c.as_slice.ensures.value c.end_of-end.ensures) is some) in
    omega (arith, c.make_shares.ensures.ends, rose)
