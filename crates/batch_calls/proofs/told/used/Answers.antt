use Rattle.std.proofs.Common.{◌≡◌, ℕ, ◌∷◌, ◌++◌, ◌+◌, ◌-◌, min, length, drop, take, sym, ap, ◌∙◌, arith}
use Rattle.std.proofs.lemmas.List.{drop_more}
use Rattle.table_model.specs.Consumed.{used_by_all}
use Rattle.table_batches.proofs.Reading.{pushed}
use Rattle.batch_calls.specs.Writes.{halves_used, used_among}
use Rattle.batch_calls.proofs.Telling.{cut_front, cut_back}
use Rattle.batch_calls.proofs.told.used.Goals as goal

pub loop-asked-preserved : goal.loop-asked-preserved
loop-asked-preserved c =
    let l = c.loop-asked in
    let ts = c.args.requests.now in
    let wrotes = c.args.wrotes.now in
    let t = c.asked-item.result in
    let rest = drop (l.asked-index + 1) ts in
    let n = length t.writes in
    let count : c.min.result ≡ min n (length wrotes - l.start) = c.min.ensures ∙ ap (λ (m : ℕ). min m (length wrotes - l.start)) c.len.ensures in
    let here : drop l.asked-index ts ≡ t ∷ rest = drop_more ts l.asked-index t c.loop-asked-test.true ∙ ap (λ y. y ∷ rest) (sym c.asked-item.is) in
    let cut : l.start + c.min.result - l.start ≡ c.min.result = omega arith in
    let part : take (l.start + c.min.result - l.start) (drop l.start wrotes) ≡ take n (drop l.start wrotes) =
    ap (λ (m : ℕ). take m (drop l.start wrotes)) cut ∙ cut_front n l.start c.min.result wrotes count in
    let one : c.in_ok-used_of.field-0 ≡ used_by_all t.table halves_used (take n (drop l.start wrotes)) =
    c.in_ok-used_of.ensures ∙ ap (used_by_all t.table halves_used) part in record {
      all =
          pushed l.used c.push.new.self (used_among rest (drop (l.start + c.min.result) wrotes)) (used_among ts wrotes) c.in_ok-used_of.field-0 c.in_ok-push.ensures.ok
          ((λ i. l.used ++ one i ∷ used_among rest (cut_back n l.start c.min.result wrotes count i))
          ∙ ap (λ us. l.used ++ used_among us (drop l.start wrotes)) (sym here)
          ∙ l.invariant.all);
      within = let w = l.invariant.within in omega arith;
    }
