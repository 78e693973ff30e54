-- What the write of a removal leaves.
use Rattle.std.proofs.Common.{◌≡◌, true, Option, None, ◌∷◌, if◌then◌else◌, ap, ◌∙◌}
use Rattle.txn_core.specs.Protocol.{after}
use Rattle.txn_core.specs.Service.{Service, IsServiceLawful}
use Rattle.txn_core.specs.State.{step, spot_wrote, here}
use Rattle.txn_core.specs.Serial.{serial, catalog_of, tables}
use Rattle.txn_core.specs.History.{effects}
use Rattle.txn_core.specs.Legal.{state}
use Rattle.txn_core.specs.Laws.{RemovalsLeaveNone, RemovalsAreSingle}

module _ {K V A F C D Q B : Type 0} (S : Service K V A F C D Q B) (law : IsServiceLawful S) where
  -- a removal is on its item
  on_it : (q : K) → S.core.same (S.core.key_of (S.core.removal q)) q ≡ true
  on_it q = ap (λ k. S.core.same k q) (law.core.its_item q) ∙ law.core.itself q

  -- and leaves none
  none_left : (c : C) (q : K) (v : Option V) → after (S.core.act c (S.core.removal q) v) v ≡ None
  none_left c q v = ap (λ o. after o v) (law.core.removes c q v)

  pub removals_leave_none : RemovalsLeaveNone S
  removals_leave_none e es q moment is =
      let w = state S es in
      let a = S.core.removal q in
      let cs = serial (effects es) in (
        ap (λ x. ((step S.core w x).spot q).row) is
            ∙ ap (λ b. (if b then spot_wrote S.core w.catalog (here S.core w (S.core.key_of a)) a moment (w.spot q) else w.spot q).row) (on_it q)
            ∙ none_left w.catalog q (w.spot q).row,
        ap (λ x. tables S.core (serial (x ∷ effects es)) q) is
            ∙ ap (λ b. if b then after (S.core.act (catalog_of S.core cs) a (tables S.core cs q)) (tables S.core cs q) else tables S.core cs q) (on_it q)
            ∙ none_left (catalog_of S.core cs) q (tables S.core cs q),
      )

  pub removals_are_single : RemovalsAreSingle S
  removals_are_single e es q moment is = ap (λ x. serial (x ∷ effects es)) is
