use Rattle.std.proofs.Common.{◌-◌, inl, inr, ◌∙◌, refl, sym}
use Rattle.std.specs.Option.{option_copied}
use Rattle.coordinator.specs.declared.transact_end.TransactEnd.{TransactEnd}
use Rattle.coordinator.proofs.Total.{adds_none, adds_writing}
use Rattle.coordinator.proofs.Writing.{writes_none}
use Rattle.coordinator.proofs.transaction.transact_write.Goals as goal

pub returns-in_default-clause-writes : goal.returns-in_default-clause-writes
returns-in_default-clause-writes g c = λ _.
    writes_none (g.R.Rules.protocol (c.args.caller.now.id.slots - 1)) (option_copied c.args.token) c.args.actions.now c.args.pass.now

pub returns-in_default-clause-own : goal.returns-in_default-clause-own
returns-in_default-clause-own g c =
    adds_none (g.R.Rules.protocol (c.args.caller.now.id.slots - 1)) (option_copied c.args.token) c.args.actions.now c.args.pass.now
    TransactEnd.NoMemory tt

pub returns-then-not-apart-clause-writes : goal.returns-then-not-apart-clause-writes
returns-then-not-apart-clause-writes g c = λ is.
    absurd (let e = sym (sym (c.in-Ok.ensures (c.args.caller.now.id.slots - 1)) ∙ c.if-not-apart.true) ∙ is in cc)

pub returns-then-not-apart-clause-own : goal.returns-then-not-apart-clause-own
returns-then-not-apart-clause-own g c =
    adds_none (g.R.Rules.protocol (c.args.caller.now.id.slots - 1)) (option_copied c.args.token) c.args.actions.now c.args.pass.now
    TransactEnd.Twice refl

pub write_apart-requires-clause-actions : goal.write_apart-requires-clause-actions
write_apart-requires-clause-actions g c =
    (c.requires.some, c.requires.few, sym (c.in-Ok.ensures (c.args.caller.now.id.slots - 1)) ∙ c.if-not-apart.false)

pub returns-clause-twice : goal.returns-clause-twice
returns-clause-twice g c = λ no.
    absurd (let e = sym (sym (c.in-Ok.ensures (c.args.caller.now.id.slots - 1)) ∙ c.if-not-apart.false) ∙ no in cc)

pub returns-clause-own : goal.returns-clause-own
returns-clause-own g c =
    let n = c.args.caller.now.id.slots - 1 in
    let written = c.write_apart in
    adds_writing (g.R.Rules.protocol n) (option_copied c.args.token) c.args.actions.now (g.met.R.Rules.lawful n) c.args.pass.now
    written.new.pass written.result written.ensures.legal written.ensures.writes

pub returns-in_default-clause-twice : goal.returns-in_default-clause-twice
returns-in_default-clause-twice g c =
    λ _. (refl, inr refl)

pub returns-in_default-clause-stopped : goal.returns-in_default-clause-stopped
returns-in_default-clause-stopped g c =
    λ e. absurd (cc)

pub returns-in_default-clause-obeyed : goal.returns-in_default-clause-obeyed
returns-in_default-clause-obeyed g c =
    λ _. refl

pub returns-then-not-apart-clause-twice : goal.returns-then-not-apart-clause-twice
returns-then-not-apart-clause-twice g c =
    λ _. (refl, inl refl)

pub returns-then-not-apart-clause-stopped : goal.returns-then-not-apart-clause-stopped
returns-then-not-apart-clause-stopped g c =
    λ e. absurd (cc)

pub returns-then-not-apart-clause-obeyed : goal.returns-then-not-apart-clause-obeyed
returns-then-not-apart-clause-obeyed g c =
    λ _. refl

pub write_apart-requires-clause-rests : goal.write_apart-requires-clause-rests
write_apart-requires-clause-rests g c =
    c.requires.rests

pub returns-clause-writes : goal.returns-clause-writes
returns-clause-writes g c =
    λ _. c.write_apart.ensures.writes

pub returns-clause-stopped : goal.returns-clause-stopped
returns-clause-stopped g c =
    c.write_apart.ensures.gate.stopped

pub returns-clause-obeyed : goal.returns-clause-obeyed
returns-clause-obeyed g c =
    c.write_apart.ensures.gate.obeyed
