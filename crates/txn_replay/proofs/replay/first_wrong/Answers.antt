use Rattle.std.proofs.Common.{◌≡◌, ◌+◌, ◌∷◌, inl, take, reverse, refl, sym, ◌∙◌, subst, arith}
use Rattle.txn_core.specs.declared.kind.BreakKind.TheVariants.{WrongAnswer}
use Rattle.txn_core.specs.Legal.{IsLegal}
use Rattle.txn_core.proofs.Basics.{true_false}
use Rattle.txn_core.proofs.Breaking.{first_break, keeps_more, keeps_whole}
use Rattle.txn_core.proofs.Exports.{keeps_are_legal}
use Rattle.txn_core.proofs.Reversed.{newest}
use Rattle.txn_replay.specs.Standing.{AllStand}
use Rattle.txn_replay.proofs.Ending.{both_keep, of_answers}
use Rattle.txn_replay.proofs.replay.first_wrong.Goals as goal

pub loop-place-init : goal.loop-place-init
loop-place-init g c =
    let stand = c.in_ok-cells.ensures in
    record { right = tt; count = stand.partitions.count ∙ g.met.R.Rules.numbered c.args.partitions; stand = λ legal. stand }

pub loop-place-preserved : goal.loop-place-preserved
loop-place-preserved g c =
    let S = g.R.Rules.protocol c.args.partitions in
    let L = g.R.CellRules.locals in
    let entries = c.args.entries.now in
    let place = c.loop-place.place in
    let past = take place entries in
    let e = c.index-entries-place.result in
    let inv = c.loop-place.invariant in
    let legal : IsLegal S (reverse past) = keeps_are_legal S (reverse past) (both_keep S (reverse past) inv.right (c.requires.sent place (omega arith))) in
    let right = (c.in_ok-is_right.ensures.judges.judges legal (inv.stand legal)).0 c.if-not-branch.false in
    let now : reverse (take (place + 1) entries) ≡ e ∷ reverse past = newest entries place e (omega arith) c.index-entries-place.is in
    record {
      right = keeps_more S of_answers entries place e (omega arith) c.index-entries-place.is past refl inv.right (right, tt);
      count = c.in_ok-is_right.ensures.count;
      stand = λ later.
          subst (λ es. AllStand S L c.is_right.new.cells es) (sym now)
          (c.in_ok-is_right.ensures.advances.advances (subst (λ es. IsLegal S es) now later) (inv.stand legal));
    }

pub returns-then-not-branch : goal.returns-then-not-branch
returns-then-not-branch g c =
    let S = g.R.Rules.protocol c.args.partitions in
    let entries = c.args.entries.now in
    let place = c.loop-place.place in
    let past = take place entries in
    let e = c.index-entries-place.result in
    let inv = c.loop-place.invariant in
    let legal : IsLegal S (reverse past) = keeps_are_legal S (reverse past) (both_keep S (reverse past) inv.right (c.requires.sent place (omega arith))) in
    first_break S of_answers entries place e (omega arith) c.index-entries-place.is past refl inv.right WrongAnswer
    (inl (refl, λ right. true_false _ ((c.in_ok-is_right.ensures.judges.judges legal (inv.stand legal)).1 right) c.if-not-branch.true))

pub returns : goal.returns
returns g c =
    keeps_whole (g.R.Rules.protocol c.args.partitions) of_answers c.args.entries.now c.loop-place.place (omega arith) (omega arith)
    c.loop-place.invariant.right
