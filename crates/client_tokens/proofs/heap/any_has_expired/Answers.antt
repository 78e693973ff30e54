use Rattle.std.proofs.Common.{sym, ◌∙◌, arith}
use Rattle.client_tokens.proofs.TokenMaps.{get-key}
use Rattle.client_tokens.proofs.Purges.{first_over, first_live, live_none}
use Rattle.client_tokens.proofs.heap.any_has_expired.Goals as goal

pub returns-in-Some-clause-first : goal.returns-in-Some-clause-first
returns-in-Some-clause-first g c =
    let e = c.in-Some.ensures in
    first_over c.args.map.now.entries c.in-Some.field-0-0.now c.in-Some.first.now c.args.moment c.has_expired.result c.has_expired.ensures (sym e.entry) (sym (get-key c.args.map.now c.in-Some.field-0-0.now) ∙ e.value)

pub returns-in-Some-clause-none : goal.returns-in-Some-clause-none
returns-in-Some-clause-none g c =
    first_live c.args.map.now.entries c.in-Some.field-0-0.now c.in-Some.first.now c.args.moment c.has_expired.result (omega arith) c.requires c.has_expired.ensures (sym c.in-Some.ensures.entry)

pub returns-in-None-clause-none : goal.returns-in-None-clause-none
returns-in-None-clause-none g c = live_none c.args.map.now.entries c.args.moment (sym c.in-None.ensures.entry)
