use Rattle.std.proofs.Common.{◌≡◌, ℕ, ◌∷◌, ◌++◌, ◌+◌, ◌-◌, min, length, drop, take, map, sym, ap, ◌∙◌, arith}
use Rattle.std.specs.Option.{option_copied}
use Rattle.std.proofs.lemmas.List.{drop_more}
use Rattle.table_model.specs.Batches.{used_by_keys}
use Rattle.table_batches.specs.Reads.{used_among}
use Rattle.table_batches.proofs.Reading.{cut_front, cut_back, pushed}
use Rattle.table_batches.proofs.read.used.Goals as goal

pub loop-asked-preserved : goal.loop-asked-preserved
loop-asked-preserved c =
    let l = c.loop-asked in
    let ts = c.args.requests.now in
    let items = c.args.items.now in
    let t = c.asked-item.result in
    let rest = drop (l.asked-index + 1) ts in
    let n = length t.keys in
    let count : c.min.result ≡ min n (length items - l.start) = c.min.ensures ∙ ap (λ (m : ℕ). min m (length items - l.start)) c.len.ensures in
    let here : drop l.asked-index ts ≡ t ∷ rest = drop_more ts l.asked-index t c.loop-asked-test.true ∙ ap (λ y. y ∷ rest) (sym c.asked-item.is) in
    let cut : l.start + c.min.result - l.start ≡ c.min.result = omega arith in
    let part : map option_copied (take (l.start + c.min.result - l.start) (drop l.start items)) ≡ take n (map option_copied (drop l.start items)) =
    ap (λ (m : ℕ). map option_copied (take m (drop l.start items))) cut ∙ cut_front option_copied n l.start c.min.result items count in
    let one : c.in_ok-used_of.field-0 ≡ used_by_keys t (take n (map option_copied (drop l.start items))) =
    c.in_ok-used_of.ensures ∙ ap (used_by_keys t) part in record {
      all =
          pushed l.used c.push.new.self (used_among rest (map option_copied (drop (l.start + c.min.result) items)))
          (used_among ts (map option_copied items)) c.in_ok-used_of.field-0 c.in_ok-push.ensures.ok
          ((λ i. l.used ++ one i ∷ used_among rest (cut_back option_copied n l.start c.min.result items count i))
          ∙ ap (λ us. l.used ++ used_among us (map option_copied (drop l.start items))) (sym here)
          ∙ l.invariant.all);
      within = let w = l.invariant.within in omega arith;
    }
