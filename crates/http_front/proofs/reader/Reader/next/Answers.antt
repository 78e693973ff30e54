use Rattle.std.proofs.Common.{◌≡◌, ◌++◌, subst, ap, ◌∙◌, arith, inl, append_assoc}
use Rattle.std.proofs.KnownBytes.{Keeps-trans, Consumes-trans}
use Rattle.std.proofs.lemmas.Result.{err_from_is_err_and}
use Rattle.std.specs.Io.KnownBytes.{Keeps, prepend_known}
use Rattle.http_front.specs.Messages.{IsPartial}
use Rattle.http_front.proofs.SparingLemmas.{sparing_on, taken_on}
use Rattle.http_front.proofs.StreamLemmas.{refusal_known}
use Rattle.http_front.proofs.reader.Reader.next.Goals as goal

pub returns-in_err-head-clause-refused : goal.returns-in_err-head-clause-refused
returns-in_err-head-clause-refused g c =
    let p = err_from_is_err_and c.from_residual.result c.from_residual.ensures.1 in
    rw (p.1, p.2) (refusal_known _ _ _ c.loop-head.self c.loop-head.invariant.keeps c.in_err-head.ensures.refused)

pub returns-in_err-head-clause-sparing : goal.returns-in_err-head-clause-sparing
returns-in_err-head-clause-sparing g c =
    let s = c.loop-head.invariant.sparing in
    (s.0, s.1, s.3)

pub returns-in_err-take_message-clause-sparing : goal.returns-in_err-take_message-clause-sparing
returns-in_err-take_message-clause-sparing g c =
    let s = c.loop-head.invariant.sparing in
    taken_on _ _ _ c.args.self.now s.0 c.look.new.self s.1 (c.look.ensures.same ∙ s.2) s.3 c.take_message.ensures.sparing

pub returns-in-Some-clause-sparing : goal.returns-in-Some-clause-sparing
returns-in-Some-clause-sparing g c =
    let s = c.loop-head.invariant.sparing in
    taken_on _ _ _ c.args.self.now s.0 c.look.new.self s.1 (c.look.ensures.same ∙ s.2) s.3 c.take_message.ensures.sparing

pub returns-in_err-take_lines-clause-sparing : goal.returns-in_err-take_lines-clause-sparing
returns-in_err-take_lines-clause-sparing g c =
    let s = c.loop-head.invariant.sparing in
    let t = c.take_lines.ensures.sparing in
    taken_on _ _ _ c.args.self.now s.0 c.look.new.self s.1 (c.look.ensures.same ∙ s.2) s.3 (t.0, t.1, t.2)

pub returns-then-not-branch-clause-sparing : goal.returns-then-not-branch-clause-sparing
returns-then-not-branch-clause-sparing g c =
    let s = c.loop-head.invariant.sparing in
    let t = c.take_lines.ensures.sparing in
    taken_on _ _ _ c.args.self.now s.0 c.look.new.self s.1 (c.look.ensures.same ∙ s.2) s.3 (t.0, t.1, t.2)

pub loop-head-preserved : goal.loop-head-preserved
loop-head-preserved g c =
    let inv = c.loop-head.invariant in
    let s = inv.sparing in
    let p = c.in_ok-take_lines.ensures.sparing in
    let short = rw c.in_default.is at c.in_ok-head.ensures.none in
    let held : Keeps (prepend_known c.args.self.now (g.S.Source.left c.args.source.now)) (prepend_known c.look.new.self (g.S.Source.left c.loop-head.source)) =
    rw c.look.ensures.same inv.keeps in
    record {
      keeps = Keeps-trans _ _ _ held c.in_ok-take_lines.ensures.known;
      later = omega (arith, inv.later, c.take_lines.ensures.later);
      sparing = (
        s.0 ++ p.0,
        Consumes-trans _ _ _ s.0 p.0 s.1 p.1,
        p.3 ∙ ap (λ l. l ++ p.0) (c.look.ensures.same ∙ s.2) ∙ append_assoc c.args.self.now s.0 p.0,
        sparing_on c.args.self.now s.0 c.look.new.self p.0 (c.look.ensures.same ∙ s.2) s.3 p.2,
      );
      quiet = λ open_. absurd (open_ (subst IsPartial (inv.quiet open_).1 (inl short)));
    }
