use Rattle.std.proofs.Common.{◌≤◌, ◌∷◌, ◌++◌, [], take, length, sym, ap, ◌∙◌, arith}
use Rattle.partition.specs.Expiry.{due_in}
use Rattle.partition.proofs.Expired.{all_due, full, none_due, one_due}
use Rattle.partition.proofs.expiry.add_due.Goals as goal

pub loop-key-init : goal.loop-key-init
loop-key-init g c = record {
  due = λ n. ap (λ es. take c.args.limit (c.args.keys.now.items ++ due_in (g.R.Rules.protocol n) c.args.catalog.now c.args.moment es))
      (c.into_iter-key-iterator.ensures.into_iter_gives ∙ c.iter-key-items.ensures.rest ∙ ap (λ m. m.entries) c.slots.ensures);
  few = λ h. h;
}

pub returns-then-limit-len-clause-due : goal.returns-then-limit-len-clause-due
returns-then-limit-len-clause-due g c = λ n.
    let le : c.args.limit ≤ length c.loop-key.keys.items = let a = c.if-limit-len.true in let b = c.len.ensures in omega arith in
    full (g.R.Rules.protocol n) c.args.catalog.now c.args.moment c.args.limit c.loop-key.keys.items _ le ∙ c.loop-key.invariant.due n

pub returns-then-limit-len-clause-few : goal.returns-then-limit-len-clause-few
returns-then-limit-len-clause-few g c = c.loop-key.invariant.few

pub loop-key-preserved-in_ok-push : goal.loop-key-preserved-in_ok-push
loop-key-preserved-in_ok-push g c =
    let keys = c.loop-key.keys.items in
    record {
      due = λ n.
          let S = g.R.Rules.protocol n in
          ap (λ ks. take c.args.limit (ks ++ due_in S c.args.catalog.now c.args.moment c.next.new.self)) (c.in_ok-push.ensures.items ∙ ap (λ k. keys ++ (k ∷ [])) c.in_ok-copy_of_key.ensures)
          ∙ one_due S c.args.catalog.now c.args.moment c.args.limit keys (c.in-Some.key.now, c.in-Some.slot.now) c.next.new.self (sym (c.is_due.ensures n) ∙ c.if-is_due.true)
          ∙ ap (λ es. take c.args.limit (keys ++ due_in S c.args.catalog.now c.args.moment es)) (sym c.in-Some.ensures.steps)
          ∙ c.loop-key.invariant.due n;
      few = λ h. let a = c.if-limit-len.false in let b = c.len.ensures in let d = c.in_ok-push.ensures.len in omega arith;
    }

pub loop-key-preserved : goal.loop-key-preserved
loop-key-preserved g c =
    let keys = c.loop-key.keys.items in
    record {
      due = λ n.
          let S = g.R.Rules.protocol n in
          none_due S c.args.catalog.now c.args.moment c.args.limit keys (c.in-Some.key.now, c.in-Some.slot.now) c.next.new.self (sym (c.is_due.ensures n) ∙ c.if-is_due.false)
          ∙ ap (λ es. take c.args.limit (keys ++ due_in S c.args.catalog.now c.args.moment es)) (sym c.in-Some.ensures.steps)
          ∙ c.loop-key.invariant.due n;
      few = c.loop-key.invariant.few;
    }

pub returns-clause-due : goal.returns-clause-due
returns-clause-due g c = λ n.
    let S = g.R.Rules.protocol n in
    all_due S c.args.catalog.now c.args.moment c.args.limit c.loop-key.keys.items
    ∙ ap (λ es. take c.args.limit (c.loop-key.keys.items ++ due_in S c.args.catalog.now c.args.moment es)) (sym c.in-None.ensures.steps.0)
    ∙ c.loop-key.invariant.due n

pub returns-clause-few : goal.returns-clause-few
returns-clause-few g c = c.loop-key.invariant.few
