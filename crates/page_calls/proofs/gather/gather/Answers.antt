use Rattle.std.proofs.Common.{rules, ◌≡◌, ◌+◌, ◌-◌, suc, refl, sym, ap, subst, arith}
use Rattle.cell_model.specs.declared.question.PageQuestion.{PageQuestion}
use Rattle.cell_asks.proofs.Trails.{same_error}
use Rattle.page_calls.specs.Steps.{TurnsTo}
use Rattle.page_calls.proofs.Parts.{Gathering, goes_on, ends, comes_to_the_last, gathered_in_vain, gathering_gives_up}
use Rattle.page_calls.proofs.gather.gather.Goals as goal

pub returns-in_err-ask_part-clause-err : goal.returns-in_err-ask_part-clause-err
returns-in_err-ask_part-clause-err g c =
    let n = g.C.Asks.count c.args.cells.now in
    let p = g.C.Asks.seen c.args.pass.now in
    let l = c.cells in
    let why = c.in_err-ask_part.field-0.0 in
    same_error c.from_residual.result _ why c.from_residual.ensures.1
    (gathering_gives_up n p c.args.first c.args.behind l.left l.question l.rows.items (g.C.Asks.seen l.pass) l.invariant.so_far why _ c.in_err-ask_part.ensures.err)

pub returns-in-Gone-clause-ok : goal.returns-in-Gone-clause-ok
returns-in-Gone-clause-ok g c =
    let n = g.C.Asks.count c.args.cells.now in
    let p = g.C.Asks.seen c.args.pass.now in
    let l = c.cells in
    let q = g.C.Asks.seen c.ask_part.new.pass in
    gathered_in_vain n p c.args.first c.args.behind l.left l.question l.rows.items (g.C.Asks.seen l.pass) l.invariant.so_far q
    (subst (λ turn. TurnsTo n (g.C.Asks.seen l.pass) l.question l.rows.items c.ask_part.new.rows.items q turn) c.in-Gone.is c.in_ok-ask_part.ensures.ok)

pub returns-in-Ended-clause-ok : goal.returns-in-Ended-clause-ok
returns-in-Ended-clause-ok g c =
    let n = g.C.Asks.count c.args.cells.now in
    let p = g.C.Asks.seen c.args.pass.now in
    let l = c.cells in
    let q = g.C.Asks.seen c.ask_part.new.pass in
    let turn = subst (λ turn. TurnsTo n (g.C.Asks.seen l.pass) l.question l.rows.items c.ask_part.new.rows.items q turn) c.in-Ended.is c.in_ok-ask_part.ensures.ok in
    ends n p c.args.first c.args.behind l.left l.question l.rows.items (g.C.Asks.seen l.pass) l.invariant.so_far c.ask_part.new.rows.items q turn.0 turn.1
    _ c.from.ensures refl

pub returns-then-left-eq0-clause-ok : goal.returns-then-left-eq0-clause-ok
returns-then-left-eq0-clause-ok g c =
    let n = g.C.Asks.count c.args.cells.now in
    let p = g.C.Asks.seen c.args.pass.now in
    let l = c.cells in
    let q = g.C.Asks.seen c.ask_part.new.pass in
    let turn = subst (λ turn. TurnsTo n (g.C.Asks.seen l.pass) l.question l.rows.items c.ask_part.new.rows.items q turn) c.in-GoesOn.is c.in_ok-ask_part.ensures.ok in
    let none : l.left ≡ 0 = search rules in
    comes_to_the_last n p c.args.first c.args.behind l.left l.question l.rows.items (g.C.Asks.seen l.pass) l.invariant.so_far none c.ask_part.new.rows.items q
    turn.0 turn.1 _ c.from-then-left-eq0.ensures refl

pub cells-preserved : goal.cells-preserved
cells-preserved g c =
    let n = g.C.Asks.count c.args.cells.now in
    let p = g.C.Asks.seen c.args.pass.now in
    let l = c.cells in
    let q = g.C.Asks.seen c.ask_part.new.pass in
    let turn = subst (λ turn. TurnsTo n (g.C.Asks.seen l.pass) l.question l.rows.items c.ask_part.new.rows.items q turn) c.in-GoesOn.is c.in_ok-ask_part.ensures.ok in
    let next : c.in-GoesOn.next.cell ≡ l.question.cell + 1 = ap (λ (page : PageQuestion). page.cell) turn.2 in
    let more : l.left ≡ suc (l.left - 1) = omega (arith, c.if-left-eq0.false) in record {
      so_far =
          subst (λ page. Gathering n p c.args.first c.args.behind (l.left - 1) page c.ask_part.new.rows.items q) (sym turn.2)
          (goes_on n p c.args.first c.args.behind l.left l.question l.rows.items (g.C.Asks.seen l.pass) l.invariant.so_far (l.left - 1) more c.ask_part.new.rows.items q
          turn.0 turn.1);
      within = omega (arith, next, more, l.invariant.within);
      fits = c.ask_part.ensures.fits;
    }
