use Rattle.std.proofs.Common.{◌≡◌, ◌∙◌, ap, sym, subst}
use Rattle.attr_value.specs.Tree.{AreInOrder}
use Rattle.attr_value.specs.View.{attributes_of, tree_of}
use Rattle.attr_value.specs.Paths.{put}
use Rattle.item_keys.specs.Row.{only}
use Rattle.item_keys.proofs.Rows.{joined, joined_none, skipped, kept, kept_order, left_out}
use Rattle.page_reads.specs.Names.{is_named}
use Rattle.page_reads.proofs.names.Names.only.Goals as goal

pub loop-name-preserved-in_ok-put : goal.loop-name-preserved-in_ok-put
loop-name-preserved-in_ok-put c =
    let next = ap attributes_of c.in-Some.ensures.steps in
    let name = c.in-Some.name.now in
    let tree = tree_of c.in-Some.value.now in
    let rest = attributes_of c.next.new.self in
    let keeps = is_named c.args.self.now in
    let pushed : c.put.new.self ≡ put name tree c.loop-name.kept =
    c.in_ok-put.ensures.ok
    ∙ (λ i. put (c.in_ok-try_clone.ensures i) (tree_of (c.in_ok-try_clone-2.ensures i)) c.loop-name.kept) in
    let order = subst (λ left. AreInOrder (joined c.loop-name.kept left)) next c.loop-name.invariant.order in record {
      made =
          ap (λ row. joined row (only keeps rest)) pushed
          ∙ kept name tree rest keeps c.loop-name.kept (only keeps c.args.item.now) (ap keeps (sym c.as_str.ensures) ∙ sym c.has.ensures ∙ c.if-has.true) order
          (subst (λ left. joined c.loop-name.kept (only keeps left) ≡ only keeps c.args.item.now) next c.loop-name.invariant.made);
      order =
          subst (λ row. AreInOrder (joined row rest)) (sym pushed)
          (kept_order name tree rest keeps c.loop-name.kept (only keeps c.args.item.now) order);
    }

pub loop-name-preserved : goal.loop-name-preserved
loop-name-preserved c =
    let next = ap attributes_of c.in-Some.ensures.steps in
    let name = c.in-Some.name.now in
    let tree = tree_of c.in-Some.value.now in
    let rest = attributes_of c.next.new.self in
    let keeps = is_named c.args.self.now in record {
      made =
          left_out name tree rest keeps c.loop-name.kept (only keeps c.args.item.now) (ap keeps (sym c.as_str.ensures) ∙ sym c.has.ensures ∙ c.if-has.false)
          (subst (λ left. joined c.loop-name.kept (only keeps left) ≡ only keeps c.args.item.now) next c.loop-name.invariant.made);
      order = skipped name tree rest c.loop-name.kept (subst (λ left. AreInOrder (joined c.loop-name.kept left)) next c.loop-name.invariant.order);
    }

pub returns : goal.returns
returns c =
    let keeps = is_named c.args.self.now in
    sym (joined_none c.loop-name.kept)
    ∙ subst (λ left. joined c.loop-name.kept (only keeps left) ≡ only keeps c.args.item.now) (ap attributes_of c.in-None.ensures.steps.0)
    c.loop-name.invariant.made
