-- Which effects may happen, and so which lists of effects are runs of the protocol.
use Rattle.std.specs.Prelude.{◌≡◌, ◌≢◌, ◌⊎◌, ℕ, ◌<◌, true, List, [], ◌∷◌, Option, None, Some}
use Rattle.txn_core.specs.declared.stamp.Stamp.{Stamp}
use Rattle.txn_core.specs.declared.fate.Fate.TheVariants.{Undecided, Committed, Cancelled}
use Rattle.txn_core.specs.Stamps.{earlier}
use Rattle.txn_core.specs.Protocol.{IsNew, Protocol}
use Rattle.txn_core.specs.Effects.{Effect, Wrote, Begun, Prepared, Commits, Cancels, Applied, Released, Finished, Forgot, Changed, Quiet}
use Rattle.txn_core.specs.State.{Pending, State, holder, last, action_on, touches, here, state_after}

module _ {K V A F C D : Type 0} (P : Protocol K V A F C D) where
  -- the item is free, was changed before the stamp, and the action can be carried out; or the transaction holds it already
  abbrev pub IsReady : State K V A C → ℕ → Stamp → A → Option (Pending V) → Type 0
  IsReady w n stamp a None =
      (earlier (last (here P w (P.key_of a)) (w.spot (P.key_of a))) stamp ≡ true) × IsNew (P.act w.catalog a (w.spot (P.key_of a)).row)
  IsReady w n stamp a (Some p) = p.number ≡ n

  -- a write: the table is there, no transaction holds the item, and the action can be carried out
  pub record MayWrite (w : State K V A C) (a : A) : Type 0 where
    pub there : P.there w.catalog (P.key_of a) ≡ true
    pub unheld : (w.spot (P.key_of a)).pend ≡ None
    pub fits : IsNew (P.act w.catalog a (w.spot (P.key_of a)).row)

  -- an action is accepted: it is the begun transaction's action on that item, with its stamp
  pub record MayPrepare (w : State K V A C) (n : ℕ) (stamp : Stamp) (a : A) : Type 0 where
    pub there : P.there w.catalog (P.key_of a) ≡ true
    pub begun : n < w.ledger.next
    pub its_stamp : stamp ≡ w.ledger.stamp n
    pub its_action : action_on P w.ledger n (P.key_of a) ≡ Some a
    pub ready : IsReady w n stamp a (w.spot (P.key_of a)).pend

  -- a commit: it is the first decision, and every action was accepted
  pub record MayCommit (w : State K V A C) (n : ℕ) : Type 0 where
    pub begun : n < w.ledger.next
    pub first : w.ledger.fate n ≡ Undecided
    pub all_accepted : (q : K) → touches P w.ledger n q ≡ true → (w.spot q).accepted n ≡ true

  -- a Done: the transaction is decided, and where it is committed every action was applied
  pub record MayFinish (w : State K V A C) (n : ℕ) : Type 0 where
    pub known : w.ledger.fate n ≢ Undecided
    pub all_applied :
        w.ledger.fate n ≡ Committed → (q : K) → touches P w.ledger n q ≡ true → (w.spot q).applied n ≡ true

  -- a change of the catalog: where a transaction holds an item, the table stays, and what actions do on the item
  pub record MayChange (w : State K V A C) (d : D) (moment : ℕ) : Type 0 where
    pub stays : (q : K) (p : Pending V) → (w.spot q).pend ≡ Some p → P.there (P.change d moment w.catalog) q ≡ true
    pub acts_alike :
        (q : K) (p : Pending V) (a : A) (v : Option V) → (w.spot q).pend ≡ Some p → P.same (P.key_of a) q ≡ true
        → P.act (P.change d moment w.catalog) a v ≡ P.act w.catalog a v

  abbrev pub May : State K V A C → Effect K A D → Type 0
  May w (Wrote a moment) = MayWrite w a
  May w (Begun stamp actions) = stamp.number ≡ w.ledger.next
  May w (Prepared n stamp a) = MayPrepare w n stamp a
  May w (Commits n) = MayCommit w n
  May w (Cancels n) = (n < w.ledger.next) × (w.ledger.fate n ≡ Undecided)
  May w (Applied n k) = (holder (w.spot k).pend ≡ Some n) × (w.ledger.fate n ≡ Committed)
  May w (Released n k) = (holder (w.spot k).pend ≡ Some n) × ((w.ledger.fate n ≡ Cancelled) ⊎ (w.ledger.gone n ≡ true))
  May w (Finished n) = MayFinish w n
  May w (Forgot n) = w.ledger.done n ≡ true
  May w (Changed d moment) = MayChange w d moment
  May w Quiet = Unit {0}

  -- each effect may happen after those before it
  abbrev pub IsRun : List (Effect K A D) → Type 0
  IsRun [] = Unit {0}
  IsRun (e ∷ es) = IsRun es × May (state_after P es) e
