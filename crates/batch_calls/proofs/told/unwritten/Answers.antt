use Rattle.std.proofs.Common.{arith, ◌≡◌, ℕ, ◌++◌, ◌+◌, ◌-◌, min, length, drop, take, sym, ap, ◌∙◌}
use Rattle.std.specs.Vec.Iter.{into_iter_items}
use Rattle.std.proofs.lemmas.List.{append-nil, nil_from_length}
use Rattle.batch_calls.specs.Writes.{unmade, unwritten_in, unwritten}
use Rattle.batch_calls.proofs.Telling.{unwritten_more}
use Rattle.batch_calls.proofs.told.unwritten.Goals as goal

pub loop-asked-preserved : goal.loop-asked-preserved
loop-asked-preserved c =
    let l = c.loop-asked in
    let wrotes = c.args.wrotes.now in
    let t = c.in-Some.asked in
    let count : c.min.result ≡ min (length t.writes) (length wrotes - l.start) = c.min.ensures ∙ ap (λ (m : ℕ). min m (length wrotes - l.start)) c.len.ensures in
    let cut : l.start + c.min.result - l.start ≡ c.min.result = omega arith in
    let made : c.push_unwritten.new.rest ≡ l.rest ++ unwritten_in t.table (unmade (take c.min.result (drop l.start wrotes)) t.writes) =
    c.in_ok-push_unwritten.ensures ∙ ap (λ m. l.rest ++ unwritten_in t.table (unmade (take m (drop l.start wrotes)) t.writes)) cut in record {
      all =
          unwritten_more t (into_iter_items c.next.new.self) wrotes l.start c.min.result count l.rest c.push_unwritten.new.rest made
          ∙ ap (λ us. l.rest ++ unwritten us (drop l.start wrotes)) (sym c.in-Some.ensures.steps.0)
          ∙ l.invariant.all;
      within = let w = l.invariant.within in omega arith;
    }

pub returns : goal.returns
returns c =
    let l = c.loop-asked in
    let ended = c.in-None.ensures.steps.0 in
    let short : length (into_iter_items l.asked-iterator) ≡ 0 = grind arith in
    let none = nil_from_length (into_iter_items l.asked-iterator) short in
    sym (append-nil l.rest) ∙ ap (λ us. l.rest ++ unwritten us (drop l.start c.args.wrotes.now)) (sym none) ∙ l.invariant.all
