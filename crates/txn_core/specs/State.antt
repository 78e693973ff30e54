-- What the cells hold after a list of effects, the newest first.
use Rattle.std.specs.Prelude.{◌≡◌, ℕ, suc, ◌+◌, Bool, true, false, nat_eq, List, [], ◌∷◌, Option, None, Some, is_some, if◌then◌else◌}
use Rattle.std.specs.List.{find}
use Rattle.txn_core.specs.declared.stamp.Stamp.{Stamp}
use Rattle.txn_core.specs.declared.fate.Fate.{Fate}
use Rattle.txn_core.specs.declared.fate.Fate.TheVariants.{Undecided, Committed, Cancelled}
use Rattle.txn_core.specs.Stamps.{later, single}
use Rattle.txn_core.specs.Protocol.{after, Protocol}
use Rattle.txn_core.specs.Effects.{Effect, Wrote, Begun, Prepared, Commits, Cancels, Applied, Released, Finished, Forgot, Changed, Quiet}

-- a pending: the transaction that holds an item, its stamp, and the item as it will be
pub record Pending (V : Type 0) : Type 0 where
  pub number : ℕ
  pub stamp : Stamp
  pub image : Option V

-- one item. The last four are of no cell: the item of the tables; its value there before a transaction's commit; and
-- the transactions that were accepted, and applied, on it
pub record Spot (V : Type 0) : Type 0 where
  pub row : Option V
  pub stamp : Stamp
  pub version : ℕ
  pub pend : Option (Pending V)
  pub tab : Option V
  pub base : ℕ → Option V
  pub accepted : ℕ → Bool
  pub applied : ℕ → Bool

-- a cell's floor, how many changes its items had, and which of them left an item absent last
pub record Tally : Type 0 where
  pub floor : Stamp
  pub count : ℕ
  pub gone : ℕ

-- the transactions, by number: no actions where a number is not drawn yet
pub record Ledger (A : Type 0) : Type 0 where
  pub next : ℕ
  pub stamp : ℕ → Stamp
  pub actions : ℕ → List A
  pub fate : ℕ → Fate
  pub done : ℕ → Bool
  pub gone : ℕ → Bool

pub record State (K V A C : Type 0) : Type 0 where
  pub spot : K → Spot V
  pub cell : ℕ → Tally
  pub ledger : Ledger A
  pub catalog : C

-- the same function, with x at n
abbrev pub at : {X : Type 0} → (ℕ → X) → ℕ → X → ℕ → X
at f n x m = if nat_eq n m then x else f m

-- the number of the transaction that holds an item
abbrev pub holder : {V : Type 0} → Option (Pending V) → Option ℕ
holder None = None
holder (Some p) = Some p.number

-- a held item's image and stamp
abbrev pub image_or : {V : Type 0} → Option V → Option (Pending V) → Option V
image_or row None = row
image_or row (Some p) = p.image

abbrev pub stamp_or : {V : Type 0} → Stamp → Option (Pending V) → Stamp
stamp_or stamp None = stamp
stamp_or stamp (Some p) = p.stamp

-- the stamp at which an item was changed last: its own, or where it is absent, the floor of its cell
abbrev pub last : {V : Type 0} → Tally → Spot V → Stamp
last c s = if is_some s.row then s.stamp else c.floor

-- the cell after an item was changed, at a stamp: an item that is absent then raises the floor
abbrev pub tally_after : {V : Type 0} → Tally → Spot V → Option V → Stamp → Tally
tally_after c s (Some v) own = record c { count = c.count + 1 }
tally_after c s None own = record { floor = later (later c.floor (last c s)) own; count = c.count + 1; gone = c.count + 1 }

-- the item of a table that was there and stays, or that came with its table; none where there is no table
abbrev pub kept_or : {V : Type 0} → Bool → Bool → Option V → Option V → Option V
kept_or before now old new = if now then (if before then old else new) else None

-- keeps the pending that is there
abbrev pub hold : {V : Type 0} → Option (Pending V) → Pending V → Option (Pending V)
hold None p = Some p
hold (Some q) p = Some q

abbrev pub spot_applied : {V : Type 0} → Tally → ℕ → Spot V → Spot V
spot_applied c n s =
    record s {
      row = image_or s.row s.pend;
      stamp = stamp_or s.stamp s.pend;
      version = c.count + 1;
      pend = None;
      applied = at s.applied n true;
    }

abbrev pub spot_released : {V : Type 0} → Spot V → Spot V
spot_released s = record s { pend = None }

-- an item after a change of the catalog: what comes with its table is stamped and counted like a write that creates it
abbrev pub spot_changed : {V : Type 0} → Tally → ℕ → Bool → Bool → Option V → Spot V → Spot V
spot_changed c moment before now new s =
    record s {
      row = kept_or before now s.row new;
      stamp = if before then s.stamp else later c.floor (single moment);
      version = if before then s.version else c.count + 1;
      tab = kept_or before now s.tab new;
    }

-- each change of the catalog counts once in each cell
abbrev pub tally_changed : Tally → Tally
tally_changed c = record c { count = c.count + 1 }

abbrev pub ledger_begun : {A : Type 0} → Ledger A → Stamp → List A → Ledger A
ledger_begun l stamp actions = record l { next = suc l.next; stamp = at l.stamp l.next stamp; actions = at l.actions l.next actions }

abbrev pub ledger_decided : {A : Type 0} → Ledger A → ℕ → Fate → Ledger A
ledger_decided l n fate = record l { fate = at l.fate n fate }

abbrev pub ledger_finished : {A : Type 0} → Ledger A → ℕ → Ledger A
ledger_finished l n = record l { done = at l.done n true }

abbrev pub ledger_forgot : {A : Type 0} → Ledger A → ℕ → Ledger A
ledger_forgot l n = record l { gone = at l.gone n true }

module _ {K V A F C D : Type 0} (P : Protocol K V A F C D) where
  -- the action on an item among these, the first where there were more
  abbrev pub on_item : List A → K → Option A
  on_item actions q = find (λ a. P.same (P.key_of a) q) actions

  -- the action is the one among these on its item
  abbrev pub IsAmong : List A → A → Type 0
  IsAmong actions a = on_item actions (P.key_of a) ≡ Some a

  -- a transaction's action on an item
  abbrev pub action_on : Ledger A → ℕ → K → Option A
  action_on l n q = on_item (l.actions n) q

  abbrev pub touches : Ledger A → ℕ → K → Bool
  touches l n q = is_some (action_on l n q)

  -- an item after an action on it, or none
  abbrev pub after_action : C → Option A → Option V → Option V
  after_action cat None v = v
  after_action cat (Some a) v = after (P.act cat a v) v

  abbrev pub spot_wrote : C → Tally → A → ℕ → Spot V → Spot V
  spot_wrote cat c a moment s =
      record s {
        row = after (P.act cat a s.row) s.row;
        stamp = later (last c s) (single moment);
        version = c.count + 1;
        tab = after (P.act cat a s.tab) s.tab;
      }

  abbrev pub spot_prepared : C → ℕ → Stamp → A → Spot V → Spot V
  spot_prepared cat n stamp a s =
      let own : Pending V = record { number = n; stamp = stamp; image = after (P.act cat a s.row) s.row } in
      record s { pend = hold s.pend own; accepted = at s.accepted n true }

  abbrev pub spot_commits : C → Option A → ℕ → Spot V → Spot V
  spot_commits cat action n s = record s { tab = after_action cat action s.tab; base = at s.base n s.tab }

  -- the cell of an item
  abbrev pub here : State K V A C → K → Tally
  here w k = w.cell (P.cell_of k)

  -- one item changes, and its cell with it
  abbrev pub on_key : State K V A C → K → (Spot V → Spot V) → Tally → State K V A C
  on_key w k f c = record w { spot = λ q. if P.same k q then f (w.spot q) else w.spot q; cell = at w.cell (P.cell_of k) c }

  abbrev pub step : State K V A C → Effect K A D → State K V A C
  step w (Wrote a moment) =
      let k = P.key_of a in
      let row = after (P.act w.catalog a (w.spot k).row) (w.spot k).row in
      on_key w k (spot_wrote w.catalog (here w k) a moment) (tally_after (here w k) (w.spot k) row (single moment))
  step w (Begun stamp actions) = record w { ledger = ledger_begun w.ledger stamp actions }
  step w (Prepared n stamp a) = on_key w (P.key_of a) (spot_prepared w.catalog n stamp a) (here w (P.key_of a))
  step w (Commits n) =
      record w { spot = λ q. spot_commits w.catalog (action_on w.ledger n q) n (w.spot q); ledger = ledger_decided w.ledger n Committed }
  step w (Cancels n) = record w { ledger = ledger_decided w.ledger n Cancelled }
  step w (Applied n k) =
      on_key w k (spot_applied (here w k) n)
      (tally_after (here w k) (w.spot k) (image_or (w.spot k).row (w.spot k).pend) (stamp_or (w.spot k).stamp (w.spot k).pend))
  step w (Released n k) = on_key w k (λ s. spot_released s) (here w k)
  step w (Finished n) = record w { ledger = ledger_finished w.ledger n }
  step w (Forgot n) = record w { ledger = ledger_forgot w.ledger n }
  step w (Changed d moment) =
      let next = P.change d moment w.catalog in
      record w {
        spot = λ q. spot_changed (here w q) moment (P.there w.catalog q) (P.there next q) (P.adds d w.catalog q) (w.spot q);
        cell = λ i. tally_changed (w.cell i);
        catalog = next;
      }
  step w Quiet = w

  -- an item that nobody named yet
  abbrev pub untouched : Spot V
  untouched =
      record {
        row = None;
        stamp = single 0;
        version = 0;
        pend = None;
        tab = None;
        base = λ n. None;
        accepted = λ n. false;
        applied = λ n. false;
      }

  -- before the first effect: no table, no item and no transaction
  abbrev pub start : State K V A C
  start =
      record {
        spot = λ q. untouched;
        cell = λ i. record { floor = single 0; count = 0; gone = 0 };
        ledger = record { next = 1; stamp = λ n. single 0; actions = λ n. []; fate = λ n. Undecided; done = λ n. false; gone = λ n. false };
        catalog = P.empty;
      }

  -- after these effects, the newest first
  abbrev pub state_after : List (Effect K A D) → State K V A C
  state_after [] = start
  state_after (e ∷ es) = step (state_after es) e
