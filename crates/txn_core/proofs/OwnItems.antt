-- What an entry on an item does to its point and to its version.
use Rattle.std.proofs.Common.{◌≡◌, ℕ, Bool, true, false, ◌&&◌, List, [], ◌∷◌, ◌++◌, length, Option, None, Some, is_some, if◌then◌else◌, refl, sym, ap, ◌∙◌, subst}
use Rattle.std.specs.List.{list_any}
use Rattle.std.proofs.lemmas.Bool.{cond_both, and_parts, or_parts}
use Rattle.txn_core.specs.declared.fate.Fate.{Fate}
use Rattle.txn_core.specs.declared.message.Message.{Message}
use Rattle.txn_core.specs.declared.answer.Answer.{Answer}
use Rattle.txn_core.specs.declared.entry.Entry.{Entry}
use Rattle.txn_core.specs.Service.{Service, IsServiceLawful}
use Rattle.txn_core.specs.Effects.{Effect, Wrote, Prepared, Applied, Released, Finished, Forgot, Changed}
use Rattle.txn_core.specs.State.{Spot, State, holder, here, spot_wrote, spot_prepared, spot_applied, spot_released, state_after, step}
use Rattle.txn_core.specs.Runs.{May}
use Rattle.txn_core.specs.Serial.{waiting, point_by as point_where}
use Rattle.txn_core.specs.History.{is_written, is_expired, is_applied, where_so, begin_effect, decide_effect, effect_of, effects}
use Rattle.txn_core.specs.Legal.{IsAnswer}
use Rattle.txn_core.specs.Laws.{sets_item, changes_item, PointsPassOwn, ReadHoldersAreReal, MovedItemIsReal}
use Rattle.index_feed.proofs.Kept.{some_none}
use Rattle.txn_core.proofs.Invariant.{Good}
use Rattle.txn_core.proofs.Kept.{good}
use Rattle.txn_core.proofs.LegalRuns.{legal_run}
use Rattle.txn_core.proofs.SerialLaws.{holds_the_tables}
use Rattle.txn_core.proofs.Causes.{version_is}

module _ {K V A F C D Q B : Type 0} (S : Service K V A F C D Q B) (law : IsServiceLawful S) where
  module _ (w : State K V A C) (q : K) where
    -- a write of an item that comes to pass leaves it unheld
    wrote_unheld : Good S.core w → (moment : ℕ) (action : A) (b : Bool) → May S.core w (where_so b (Wrote action moment)) → (S.core.same (S.core.key_of action) q && b) ≡ true
        → ((step S.core w (where_so b (Wrote action moment))).spot q).pend ≡ None
    wrote_unheld g moment action b may h =
        let x = S.core.key_of action in
        let p = and_parts (S.core.same x q) b h in
        let may' = subst (λ b. May S.core w (where_so b (Wrote action moment))) p.1 may in
        (λ j. ((step S.core w (where_so (p.1 j) (Wrote action moment))).spot q).pend)
        ∙ (λ j. (if p.0 j then spot_wrote S.core w.catalog (here S.core w x) action moment (w.spot q) else w.spot q).pend)
        ∙ sym (ap (λ (s : Spot V). s.pend) (g.alike x q p.0)) ∙ may'.unheld

    -- who puts an item in place leaves it unheld
    set_unheld : Good S.core w → (moment : ℕ) (m : Message K V A F D Q) (a : Answer K V A F B) → May S.core w (effect_of moment m a) → sets_item S q m a ≡ true
        → ((step S.core w (effect_of moment m a)).spot q).pend ≡ None
    set_unheld g moment (Message.Write action) a may h = wrote_unheld g moment action (is_written a) may h
    set_unheld g moment (Message.Expire action) a may h = wrote_unheld g moment action (is_expired a) may h
    set_unheld g moment (Message.Apply n key) a may h =
        let p = and_parts (S.core.same key q) (is_applied a) h in
        (λ j. ((step S.core w (where_so (p.1 j) (Applied n key))).spot q).pend)
        ∙ (λ j. (if p.0 j then spot_applied (here S.core w key) n (w.spot q) else w.spot q).pend)
    set_unheld g moment _ a may h = absurd (cc)

    -- an entry that doesn't change the item leaves its version
    version_where : (b : Bool) (e : Effect K A D) → ((step S.core w e).spot q).version ≡ (w.spot q).version → ((step S.core w (where_so b e)).spot q).version ≡ (w.spot q).version
    version_where true e h = h
    version_where false e h = refl

    version_unless : (same b : Bool) (s : Spot V) → (same && b) ≡ false → b ≡ true → (if same then s else w.spot q).version ≡ (w.spot q).version
    version_unless true true s e h = absurd (cc)
    version_unless true false s e h = absurd (cc)
    version_unless false b s e h = refl

    version_if : (b : Bool) (e : Effect K A D) → (b ≡ true → ((step S.core w e).spot q).version ≡ (w.spot q).version) → ((step S.core w (where_so b e)).spot q).version ≡ (w.spot q).version
    version_if true e h = h refl
    version_if false e h = refl

    version_wrote : (moment : ℕ) (action : A) (b : Bool) → (S.core.same (S.core.key_of action) q && b) ≡ false → ((step S.core w (where_so b (Wrote action moment))).spot q).version ≡ (w.spot q).version
    version_wrote moment action b other =
        let x = S.core.key_of action in
        version_if b (Wrote action moment) (version_unless (S.core.same x q) b (spot_wrote S.core w.catalog (here S.core w x) action moment (w.spot q)) other)

    version_decide : (n : ℕ) (a : Answer K V A F B) → ((step S.core w (decide_effect {D = D} n a)).spot q).version ≡ (w.spot q).version
    version_decide n (Answer.Decided Fate.Committed true) = refl
    version_decide n (Answer.Decided Fate.Cancelled true) = refl
    version_decide n _ = refl

    version_begin : (actions : List A) (a : Answer K V A F B) → ((step S.core w (begin_effect {D = D} actions a)).spot q).version ≡ (w.spot q).version
    version_begin actions (Answer.Begun n stamp) = refl
    version_begin actions _ = refl

    version_left : (moment : ℕ) (m : Message K V A F D Q) (a : Answer K V A F B) → changes_item S q m a ≡ false
        → ((step S.core w (effect_of moment m a)).spot q).version ≡ (w.spot q).version
    version_left moment (Message.Write action) a other = version_wrote moment action (is_written a) other
    version_left moment (Message.Expire action) a other = version_wrote moment action (is_expired a) other
    version_left moment (Message.Apply n key) a other =
        version_if (is_applied a) (Applied n key) (version_unless (S.core.same key q) (is_applied a) (spot_applied (here S.core w key) n (w.spot q)) other)
    version_left moment (Message.Command d) a other = ap (λ b. ((step S.core w (where_so b (Changed d moment))).spot q).version) other
    version_left moment (Message.Prepare n stamp action) a other =
        let x = S.core.key_of action in
        version_where _ (Prepared n stamp action)
        (cond_both (S.core.same x q) (spot_prepared S.core w.catalog n stamp action (w.spot q)) (w.spot q) (λ s. s.version ≡ (w.spot q).version) (λ _. refl) (λ _. refl))
    version_left moment (Message.Release n key) a other =
        version_where _ (Released n key) (cond_both (S.core.same key q) (spot_released (w.spot q)) (w.spot q) (λ s. s.version ≡ (w.spot q).version) (λ _. refl) (λ _. refl))
    version_left moment (Message.Begin token actions) a other = version_begin actions a
    version_left moment (Message.Decide n commit reasons) a other = version_decide n a
    version_left moment (Message.Done n) a other = version_where _ (Finished n) refl
    version_left moment (Message.Forget n) a other = version_where _ (Forgot n) refl
    version_left moment _ a other = refl

  pub points_pass_own : PointsPassOwn S
  points_pass_own e es legal q h = by_waiting (waiting S.core (effects (e ∷ es)) q) refl
    where
      by_waiting : (o : Option ℕ) → waiting S.core (effects (e ∷ es)) q ≡ o → point_where (effects (e ∷ es)) o ≡ length (effects (e ∷ es))
      by_waiting None is = refl
      by_waiting (Some n) is =
          let run = legal_run S law (e ∷ es) legal in
          let held = (holds_the_tables S.core law.core (effects (e ∷ es)) run q n is).0 in
          let w = state_after S.core (effects es) in
          some_none ((state_after S.core (effects (e ∷ es))).spot q).pend held.pending held.is_held
          (set_unheld w q (good S.core law.core (effects es) run.0) e.moment e.message e.answer run.1 h)

  pub read_holders_are_real : ReadHoldersAreReal S
  read_holders_are_real es key item version n is =
      let w = state_after S.core (effects es) in
      (version_is (S.core.there w.catalog key) (w.spot key).row (w.spot key).version (here S.core w key).gone (holder (w.spot key).pend) item version (Some n) (sym is)).3

  version_stays : (newer es : List (Entry K V A F D Q B)) (q : K) → list_any (λ e. changes_item S q e.message e.answer) newer ≡ false
      → ((state_after S.core (effects (newer ++ es))).spot q).version ≡ ((state_after S.core (effects es)).spot q).version
  version_stays [] es q none = refl
  version_stays (e ∷ newer) es q none =
      let parts = or_parts (changes_item S q e.message e.answer) (list_any (λ x. changes_item S q x.message x.answer) newer) none in
      version_left (state_after S.core (effects (newer ++ es))) q e.moment e.message e.answer parts.0 ∙ version_stays newer es q parts.1

  -- the version of an item that a read found there is its own
  own_version : (es : List (Entry K V A F D Q B)) (key : K) (item : V) (v : ℕ) (h : Option ℕ) → IsAnswer S es 0 (Message.ReadVersion key) (Answer.Version (Some item) v h)
      → ((state_after S.core (effects es)).spot key).version ≡ v
  own_version es key item v h is =
      let w = state_after S.core (effects es) in
      let r = version_is (S.core.there w.catalog key) (w.spot key).row (w.spot key).version (here S.core w key).gone (holder (w.spot key).pend) (Some item) v h (sym is) in
      (λ j. if is_some (r.1 j) then (w.spot key).version else (here S.core w key).gone) ∙ r.2

  pub moved_item_is_real : MovedItemIsReal S
  moved_item_is_real newer es key first second v w h k one two differ = by_test (list_any (λ e. changes_item S key e.message e.answer) newer) refl
    where
      by_test : (b : Bool) → list_any (λ e. changes_item S key e.message e.answer) newer ≡ b → list_any (λ e. changes_item S key e.message e.answer) newer ≡ true
      by_test true is = is
      by_test false none =
          absurd (differ (sym (own_version es key first v h one) ∙ sym (version_stays newer es key none) ∙ own_version (newer ++ es) key second w k two))
