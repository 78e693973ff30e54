use Rattle.std.proofs.Common.{◌≡◌, ◌++◌, ◌<◌, rules, length, take, refl, sym, ap, ◌∙◌, subst, arith, append_assoc, append-nil, [], inl, inr}
use Rattle.std.proofs.KnownBytes.{Consumes-nil, Consumes-trans}
use Rattle.std.proofs.lemmas.List.{take-append-drop}
use Rattle.std.specs.Io.KnownBytes.{prepend_known, Consumes}
use Rattle.http_front.specs.Messages.{IsShortBody, IsCutAt}
use Rattle.http_front.proofs.BodyLemmas.{message_taken, short_body, cut_body, Consumes-moved, Consumes-none, Consumes-piece, IfSome-taken, body_on}
use Rattle.http_front.proofs.SparingLemmas.{piece_taken, sparing_piece}
use Rattle.http_front.proofs.reader.Reader.take_message.Goals as goal

pub returns-in_err-take_body-clause-sparing : goal.returns-in_err-take_body-clause-sparing
returns-in_err-take_body-clause-sparing g c =
    let short : length c.loop-self.body.items < c.args.head.size = omega (arith, c.loop-self.body.ok.0) in
    let inv = c.loop-self.invariant in
    let s = inv.sparing in
    let is : c.args.self.now ++ s.0 ≡ take c.args.head.len c.args.self.now ++ c.loop-self.body.items =
    s.2 ∙ ap (λ l. (take c.args.head.len c.args.self.now ++ c.loop-self.body.items) ++ l) (inv.all short) ∙ append-nil _ in
    let partial = subst IsShortBody (sym is) (short_body c.args.self.now c.args.head c.loop-self.body.items c.requires short) in
    piece_taken _ _ _ c.args.self.now s.0 _ _ s.1 refl (inr partial) c.take_body.ensures.piece

pub returns-then-not-branch-clause-sparing : goal.returns-then-not-branch-clause-sparing
returns-then-not-branch-clause-sparing g c =
    let short : length c.loop-self.body.items < c.args.head.size = omega (arith, c.loop-self.body.ok.0) in
    let inv = c.loop-self.invariant in
    let s = inv.sparing in
    let is : c.args.self.now ++ s.0 ≡ take c.args.head.len c.args.self.now ++ c.loop-self.body.items =
    s.2 ∙ ap (λ l. (take c.args.head.len c.args.self.now ++ c.loop-self.body.items) ++ l) (inv.all short) ∙ append-nil _ in
    let partial = subst IsShortBody (sym is) (short_body c.args.self.now c.args.head c.loop-self.body.items c.requires short) in
    piece_taken _ _ _ c.args.self.now s.0 _ _ s.1 refl (inr partial) c.take_body.ensures.piece

pub returns-then-not-branch-clause-cut : goal.returns-then-not-branch-clause-cut
returns-then-not-branch-clause-cut g c =
    let short : length c.loop-self.body.items < c.args.head.size = omega (arith, c.loop-self.body.ok.0) in
    let inv = c.loop-self.invariant in
    let p = c.in_ok-take_body.ensures.piece in
    let m = p.3 in
    let end = c.in_ok-take_body.ensures.end (search rules) in
    let known : Consumes (prepend_known c.args.self.now (g.S.Source.left c.args.source.now)) (prepend_known c.take_body.new.self (g.S.Source.left c.take_body.new.source)) (take c.args.head.len c.args.self.now ++ c.take_body.new.body.items) =
    rw (m.body_is, ← append_assoc) (Consumes-moved _ _ _ p.0 m.part _ (Consumes-piece _ _ _ _ _ _ inv.known (inv.all short) p.1) m.held_is) in
    let still : length c.take_body.new.body.items < c.args.head.size = omega (arith, short, ap length end.1) in
    let size : c.len-then-not-branch.result ≡ length c.take_body.new.body.items = omega (arith, c.len-then-not-branch.ensures, c.take_body.new.body.ok.0) in
    rw size (IfSome-taken (IsCutAt _) _ _ _ c.take_body.new.self known end.2 end.0
    (cut_body c.args.self.now c.args.head c.take_body.new.body.items c.requires still))

pub loop-self-preserved : goal.loop-self-preserved
loop-self-preserved g c =
    let short : length c.loop-self.body.items < c.args.head.size = omega (arith, c.loop-self.body.ok.0) in
    let inv = c.loop-self.invariant in
    let front = take c.args.head.len c.args.self.now in
    let s = inv.sparing in
    let p = c.in_ok-take_body.ensures.piece in
    let m = p.3 in
    let is : c.args.self.now ++ s.0 ≡ front ++ c.loop-self.body.items =
    s.2 ∙ ap (λ l. (front ++ c.loop-self.body.items) ++ l) (inv.all short) ∙ append-nil _ in
    let partial = subst IsShortBody (sym is) (short_body c.args.self.now c.args.head c.loop-self.body.items c.requires short) in
    record {
      known = rw (m.body_is, ← append_assoc) (Consumes-moved _ _ _ p.0 m.part _ (Consumes-piece _ _ _ _ _ _ inv.known (inv.all short) p.1) m.held_is);
      fits = m.fits;
      all = m.all;
      target = inv.target;
      later = omega (arith, inv.later, c.take_body.ensures.later);
      sparing = (
        s.0 ++ p.0,
        Consumes-trans _ _ _ s.0 p.0 s.1 p.1,
        sym (append_assoc c.args.self.now s.0 p.0) ∙ ap (λ l. l ++ p.0) is
            ∙ body_on front c.loop-self.body.items p.0 m.part c.take_body.new.self c.take_body.new.body.items m.held_is m.body_is,
        sparing_piece c.args.self.now s.0 (c.args.self.now ++ s.0) p.0 refl (inr partial) p.2,
      );
      quiet = λ open_. absurd (open_ (subst IsShortBody (sym ((inv.quiet open_).1 ∙ ap (λ l. (front ++ c.loop-self.body.items) ++ l) (inv.all short) ∙ append-nil _))
          (short_body c.args.self.now c.args.head c.loop-self.body.items c.requires short)));
    }

pub loop-self-init : goal.loop-self-init
loop-self-init g c =
    let m = c.in_ok-body.ensures in
    let front = take c.args.head.len c.args.self.now in
    let split : c.args.self.now ≡ (front ++ c.in_ok-body.body.items) ++ c.start_body.new.self =
    sym (take-append-drop c.args.head.len c.args.self.now)
    ∙ ap (λ l. front ++ l) (m.held_is ∙ ap (λ l. l ++ c.start_body.new.self) (sym m.body_is))
    ∙ sym (append_assoc front c.in_ok-body.body.items c.start_body.new.self) in
    record {
      known = Consumes-moved _ _ [] c.args.self.now (front ++ c.in_ok-body.body.items) c.start_body.new.self (Consumes-none _ c.args.self.now) split;
      fits = m.fits;
      all = m.all;
      target = c.in_ok-target.ensures;
      later = omega arith;
      sparing = ([], Consumes-nil _, append-nil c.args.self.now ∙ split, inl refl);
      quiet = λ open_. (refl, split);
    }

pub returns-clause-sparing : goal.returns-clause-sparing
returns-clause-sparing g c =
    let s = c.loop-self.invariant.sparing in
    (s.0, s.1, s.3)

pub returns-clause-message : goal.returns-clause-message
returns-clause-message g c =
    let whole : length c.loop-self.body.items ≡ c.args.head.size = omega (arith, c.loop-self.body.ok.0) in
    message_taken c.args.self.now c.args.head c.loop-self.body.items _ _ c.requires c.loop-self.invariant.target
    c.from.ensures whole refl c.loop-self.invariant.known
