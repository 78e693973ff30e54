use Rattle.std.proofs.Common.{◌≡◌, ◌<◌, ◌+◌, ◌%◌, ◌++◌, ◌∷◌, [], length, ap, sym, ◌∙◌, arith, get_or, length-append}
use Rattle.std.proofs.lemmas.List.Sums.{sum_by-set}
use Rattle.std.proofs.lemmas.Nat.{mod_below}
use Rattle.ddb_outside.proofs.Dealing.{count_of_lists, next_share, parts_after}
use Rattle.ddb_outside.proofs.memory_listener.deal.Goals as goal

pub index_mut-requires : goal.index_mut-requires
index_mut-requires c =
    let count = count_of_lists (λ part. part.items) c.loop-content.parts.items c.args.shares c.loop-content.yielded c.loop-content.invariant.dealt in
    omega (arith, count, c.loop-content.parts.ok.0, c.loop-content.invariant.below)

pub loop-content-preserved : goal.loop-content-preserved
loop-content-preserved c =
    let count = count_of_lists (λ part. part.items) c.loop-content.parts.items c.args.shares c.loop-content.yielded c.loop-content.invariant.dealt in
    let here : c.loop-content.share < length c.loop-content.parts.items = omega (arith, count, c.loop-content.invariant.below) in
    let grown : c.push.new.self.items ≡ (get_or c.loop-content.parts.items c.loop-content.share c.index_mut.result.now).items ++ c.in-Some.content ∷ [] =
    c.in_ok-push.ensures.items ∙ ap (λ part. part.items ++ c.in-Some.content ∷ []) c.index_mut.ensures.value in
    let longer : length (c.loop-content.yielded ++ c.in-Some.content ∷ []) ≡ length c.loop-content.yielded + 1 = simp length-append in
    let sums = sum_by-set (λ part. length part.items) c.loop-content.parts.items c.loop-content.share c.push.new.self c.index_mut.result.now here in
    let more : length c.push.new.self.items ≡ length (get_or c.loop-content.parts.items c.loop-content.share c.index_mut.result.now).items + 1 =
    ap length grown ∙ simp length-append in
    record {
      share = next_share c.args.shares c.loop-content.share (length c.loop-content.yielded) c.loop-content.invariant.share
          ∙ ap (λ n. n % c.args.shares) (sym longer);
      below = mod_below (c.loop-content.share + 1) c.args.shares (omega arith);
      dealt = parts_after (λ part. part.items) c.loop-content.parts.items c.push.new.self c.index_mut.result.now c.args.shares c.loop-content.share
          c.loop-content.yielded c.in-Some.content c.loop-content.invariant.share c.loop-content.invariant.below c.loop-content.invariant.dealt grown;
      all = omega (arith, sums, more, longer, c.loop-content.invariant.all);
    }
