use Rattle.std.proofs.Common.{◌≡◌, ◌++◌, ◌<◌, ◌≤◌, ℕ, length, refl, sym, ap, ◌∙◌, arith, rules, append_assoc, append-nil, [], inl}
use Rattle.std.proofs.KnownBytes.{Keeps-refl, Keeps-trans, Consumes-nil, Consumes-trans}
use Rattle.std.proofs.lemmas.Result.{err_from_is_err_and}
use Rattle.http_front.specs.Heads.{max_head}
use Rattle.http_front.proofs.HeadLemmas.{short_goes_on}
use Rattle.http_front.proofs.SparingLemmas.{sparing_piece}
use Rattle.http_front.proofs.reader.Reader.take_lines.Goals as goal

pub loop-self-init : goal.loop-self-init
loop-self-init g c = record {
  keeps = Keeps-refl _;
  later = omega arith;
  grows = omega arith;
  short = c.requires;
  sparing = ([], Consumes-nil _, sym (append-nil c.args.self.now), inl refl);
}

pub returns-in_err-take_in-clause-sparing : goal.returns-in_err-take_in-clause-sparing
returns-in_err-take_in-clause-sparing g c =
    let inv = c.loop-self.invariant in
    let s = inv.sparing in
    let p = c.take_in.ensures.piece in
    let e = err_from_is_err_and c.from_residual.result c.from_residual.ensures.1 in
    rw e.1 (
      s.0 ++ p.0,
      Consumes-trans _ _ _ s.0 p.0 s.1 p.1,
      sparing_piece c.args.self.now s.0 c.loop-self.self p.0 s.2 (inl inv.short) p.2,
      tt,
    )

pub returns-then-not-branch-clause-sparing : goal.returns-then-not-branch-clause-sparing
returns-then-not-branch-clause-sparing g c =
    let inv = c.loop-self.invariant in
    let s = inv.sparing in
    let p = c.in_ok-take_in.ensures.piece in (
      s.0 ++ p.0,
      Consumes-trans _ _ _ s.0 p.0 s.1 p.1,
      sparing_piece c.args.self.now s.0 c.loop-self.self p.0 s.2 (inl inv.short) p.2,
      p.3 ∙ ap (λ l. l ++ p.0) s.2 ∙ append_assoc c.args.self.now s.0 p.0,
    )

pub returns-then-has_line_from-clause-sparing : goal.returns-then-has_line_from-clause-sparing
returns-then-has_line_from-clause-sparing g c =
    let inv = c.loop-self.invariant in
    let s = inv.sparing in
    let p = c.in_ok-take_in.ensures.piece in (
      s.0 ++ p.0,
      Consumes-trans _ _ _ s.0 p.0 s.1 p.1,
      sparing_piece c.args.self.now s.0 c.loop-self.self p.0 s.2 (inl inv.short) p.2,
      p.3 ∙ ap (λ l. l ++ p.0) s.2 ∙ append_assoc c.args.self.now s.0 p.0,
    )

pub loop-self-preserved : goal.loop-self-preserved
loop-self-preserved g c =
    let inv = c.loop-self.invariant in
    let s = inv.sparing in
    let p = c.in_ok-take_in.ensures.piece in
    let at : c.len-before.result ≡ length c.loop-self.self = search rules in
    let now : c.len.result ≡ length c.take_in.new.self = search rules in
    let fits : length c.take_in.new.self < max_head = omega (arith, now, c.if-len-ge-MAX_HEAD.false) in
    record {
      keeps = Keeps-trans _ _ _ inv.keeps c.in_ok-take_in.ensures.known;
      later = omega (arith, inv.later, c.take_in.ensures.later);
      grows = omega (arith, inv.grows, c.in_ok-take_in.ensures.more (search rules));
      short = short_goes_on c.loop-self.self c.take_in.new.self p.0 c.len-before.result inv.short p.3 at fits (c.if-has_line_from.ensures refl);
      sparing = (
        s.0 ++ p.0,
        Consumes-trans _ _ _ s.0 p.0 s.1 p.1,
        p.3 ∙ ap (λ l. l ++ p.0) s.2 ∙ append_assoc c.args.self.now s.0 p.0,
        sparing_piece c.args.self.now s.0 c.loop-self.self p.0 s.2 (inl inv.short) p.2,
      );
    }
