use Rattle.std.proofs.Common.{◌≡◌, Bool, ◌<◌, ◌≤◌, List, Some, None, Result, Ok, Err, OnOk, OnErr, IfErr, true, false, refl, sym, ap, subst, arith}
use Rattle.base_types.specs.declared.path.Step.{Step}
use Rattle.attr_value.specs.Paths.{with_value, reach, HasBadPath, IsBadPathWhere}
use Rattle.attr_value.specs.Sizes.{item_depth, most_levels}
use Rattle.attr_value.specs.Tree.{Tree, Attributes}
use Rattle.attr_value.specs.View.{tree_of}
use Rattle.attr_value.specs.declared.fault.ValueFault.{ValueFault}
use Rattle.base_types.specs.declared.end.End.{End}
use Rattle.base_types.specs.declared.end.End.TheVariants.{Fault, NoMemory}
use Rattle.attr_value.specs.declared.fault.ValueFault.TheVariants.{EmptySet, DuplicateInSet, TooDeep, BadPath}
use Rattle.attr_value.proofs.DepthLaws.{deeper, stays_within}
use Rattle.attr_value.proofs.value.Item.set.Goals as goal

not_both : (b : Bool) → b ≡ true → b ≡ false → ⊥
not_both b p q = cc

pub returns-then-is_too_deep-clause-deeper : goal.returns-then-is_too_deep-clause-deeper
returns-then-is_too_deep-clause-deeper c =
    let far = c.is_too_deep.ensures.0 c.if-is_too_deep.true in
    deeper most_levels c.args.path.now.steps c.args.self.now (tree_of c.args.value) (λ _. far, λ _. refl)

pub returns-then-is_too_deep-clause-bad_path : goal.returns-then-is_too_deep-clause-bad_path
returns-then-is_too_deep-clause-bad_path c =
    let far = c.is_too_deep.ensures.0 c.if-is_too_deep.true in
    (λ e. cc, λ bad. absurd (omega (arith, far, bad.0)))

pub returns-clause-deeper : goal.returns-clause-deeper
returns-clause-deeper c =
    let steps = c.args.path.now.steps in
    let item = c.args.self.now in
    let value = tree_of c.args.value in
    let near : most_levels < reach steps value → ⊥ = λ far. not_both c.is_too_deep.result (c.is_too_deep.ensures.1 far) c.if-is_too_deep.false in
    deeper most_levels steps item value (
      λ e. absurd (subst (λ r. IfErr r (IsBadPathWhere (with_value c.as_slice.result.now item value ≡ None))) e c.set_in.ensures.bad_path),
      λ far. absurd (near far),
    )

-- where the value does not reach too deep, the path is bad exactly where `set_in` says so
bad_exactly : (r : Result Unit (End ValueFault)) (steps : List Step) (old new : Attributes) (value : Tree) → reach steps value ≤ most_levels
    → OnOk r (with_value steps old value ≡ Some new) → IfErr r (IsBadPathWhere (with_value steps old value ≡ None))
    → (r ≡ Err (Fault BadPath) → HasBadPath most_levels steps old value) × (HasBadPath most_levels steps old value → r ≡ Err (Fault BadPath))
bad_exactly (Ok u) steps old new value near put bad = (λ e. cc, λ none. cc)
bad_exactly (Err NoMemory) steps old new value near put bad = (λ e. cc, λ none. absurd (bad none.1))
bad_exactly (Err (Fault EmptySet)) steps old new value near put bad = absurd bad
bad_exactly (Err (Fault DuplicateInSet)) steps old new value near put bad = absurd bad
bad_exactly (Err (Fault TooDeep)) steps old new value near put bad = absurd bad
bad_exactly (Err (Fault BadPath)) steps old new value near put bad = (λ _. (near, bad), λ _. refl)

pub returns-clause-bad_path : goal.returns-clause-bad_path
returns-clause-bad_path c =
    let steps = c.args.path.now.steps in
    let value = tree_of c.args.value in
    let old = c.args.self.now in
    let new = c.set_in.new.item in
    let near : most_levels < reach steps value → ⊥ = λ far. not_both c.is_too_deep.result (c.is_too_deep.ensures.1 far) c.if-is_too_deep.false in
    let put = subst (λ s. OnOk c.set_in.result (with_value s old value ≡ Some new)) c.as_slice.ensures c.set_in.ensures.ok in
    let bad = subst (λ s. IfErr c.set_in.result (IsBadPathWhere (with_value s old value ≡ None))) c.as_slice.ensures c.set_in.ensures.bad_path in
    bad_exactly c.set_in.result steps old new value (omega (arith, near)) put bad

either_end : (r : Result Unit (End ValueFault)) (steps : List Step) (old new : Attributes) (value : Tree)
    → OnOk r (with_value steps old value ≡ Some new) → OnErr r (new ≡ old) → (most_levels < reach steps value → ⊥)
    → item_depth old ≤ most_levels → item_depth new ≤ most_levels
either_end (Ok u) steps old new value put kept near within = stays_within most_levels steps old new value put near within
either_end (Err e) steps old new value put kept near within = subst (λ n. n ≤ most_levels) (ap item_depth (sym kept)) within

pub returns-clause-within : goal.returns-clause-within
returns-clause-within c =
    let steps = c.args.path.now.steps in
    let value = tree_of c.args.value in
    let near : most_levels < reach steps value → ⊥ = λ far. not_both c.is_too_deep.result (c.is_too_deep.ensures.1 far) c.if-is_too_deep.false in
    let old = c.args.self.now in
    let new = c.set_in.new.item in
    let put = subst (λ s. OnOk c.set_in.result (with_value s old value ≡ Some new)) c.as_slice.ensures c.set_in.ensures.ok in
    either_end c.set_in.result steps old new value put c.set_in.ensures.unchanged near
