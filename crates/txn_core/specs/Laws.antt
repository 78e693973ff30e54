-- What holds of every legal history, one definition a law.
use Rattle.std.specs.Prelude.{◌≡◌, ◌≢◌, ◌⊎◌, ◌↔◌, ℕ, ◌≤◌, length, Bool, true, false, not, ◌&&◌, nat_eq, List, [], ◌∷◌, ◌++◌, All, Option, None, Some, is_some, if◌then◌else◌}
use Rattle.txn_core.specs.declared.stamp.Stamp.{Stamp}
use Rattle.txn_core.specs.declared.reason.Reason.{Reason}
use Rattle.txn_core.specs.declared.message.Message.{Message}
use Rattle.txn_core.specs.declared.answer.Answer.{Answer}
use Rattle.txn_core.specs.declared.outcome.Outcome.TheVariants.{New, Unmet, Fails}
use Rattle.txn_core.specs.Stamps.{IsBy}
use Rattle.txn_core.specs.Protocol.{Protocol}
use Rattle.txn_core.specs.Service.{Service, Asked, Reply, Event, History}
use Rattle.txn_core.specs.Effects.{Effect, Wrote, Commits}
use Rattle.txn_core.specs.State.{Pending, State, holder, last, on_item, here, state_after}
use Rattle.txn_core.specs.Serial.{Change, Single, begun_stamp, begun_actions, decisions, serial, standings, once_whole, catalog_of, tables, waiting, shown, point, IsStampOrder}
use Rattle.txn_core.specs.History.{is_written, is_expired, is_applied, is_changed, is_first, tells_commit, effect, effects, Had, begins, commits, cancels, finishes, finds_no_table, IsTimely, is_over}
use Rattle.std.specs.List.{list_any}
use Rattle.txn_core.specs.Tokens.{draws, cancels_first, first_done, LivesOn, Names}
use Rattle.txn_core.specs.Legal.{state, IsInTheWay, IsAnswer, Allowed, sent_to, Follows, IsLegal}
use Rattle.txn_core.specs.Breaks.{KeepsAll, in_order}

-- the committed row of an item
abbrev pub row_of : {K V A F C D : Type 0} → Protocol K V A F C D → List (Effect K A D) → K → Option V
row_of P es q = ((state_after P es).spot q).row

-- the item is held by this transaction, and its new image is the item of the tables
pub record HoldsTheTables {K V A F C D : Type 0} (P : Protocol K V A F C D) (es : List (Effect K A D)) (q : K) (n : ℕ) : Type 0 where
  pub pending : Pending V
  pub is_held : ((state_after P es).spot q).pend ≡ Some pending
  pub its : pending.number ≡ n
  pub image : pending.image ≡ tables P (serial es) q

-- the item is held by this transaction, and on the tables the action has the outcome with which the item was held
pub record ActsAsAccepted {K V A F C D : Type 0} (P : Protocol K V A F C D) (es : List (Effect K A D)) (n : ℕ) (q : K) (a : A) : Type 0 where
  pub pending : Pending V
  pub is_held : ((state_after P es).spot q).pend ≡ Some pending
  pub its : pending.number ≡ n
  pub outcome : P.act (catalog_of P (serial es)) a (tables P (serial es) q) ≡ New pending.image

-- the version of an item: its own, or where it is absent that of its cell's last change which left an item absent
abbrev pub version_of : {K V A F C D : Type 0} → Protocol K V A F C D → State K V A C → K → ℕ
version_of P w q = if is_some (w.spot q).row then (w.spot q).version else (here P w q).gone

-- the entry puts something into the one order: a write that was accepted, an expiration, a commit that decided, or a command
-- that was carried out
module _ {K V A F D Q B : Type 0} where
  abbrev pub enters_order : Message K V A F D Q → Answer K V A F B → Bool
  enters_order (Message.Write action) a = is_written a
  enters_order (Message.Expire action) a = is_expired a
  enters_order (Message.Decide n commit reasons) a = is_first a && tells_commit a
  enters_order (Message.Command d) a = is_changed a
  enters_order _ a = false

module _ {K V A F C D Q B : Type 0} (S : Service K V A F C D Q B) where
  -- the one order, and the catalog and the item that it makes
  abbrev pub order : History S → List (Change A D)
  order es = serial (effects es)

  abbrev pub catalog_by : History S → C
  catalog_by es = catalog_of S.core (order es)

  abbrev pub item_by : History S → K → Option V
  item_by es q = tables S.core (order es) q

  -- what a reader is shown, and the point of the history at which it is the item of the tables
  abbrev pub shown_by : History S → K → Option V
  shown_by es q = shown S.core (effects es) q

  abbrev pub point_by : History S → K → ℕ
  point_by es q = point S.core (effects es) q

  -- who holds the item, and the stamp at which it was changed last: its own, or where it is absent the floor of its cell
  abbrev pub holder_by : History S → K → Option ℕ
  holder_by es q = holder ((state S es).spot q).pend

  abbrev pub last_by : History S → K → Stamp
  last_by es q = last (here S.core (state S es) q) ((state S es).spot q)

  -- [Rows are shown]: the committed row of each item is what a reader is shown
  abbrev pub RowsAreShown : Type 0
  RowsAreShown = (es : History S) → IsLegal S es → (q : K) → row_of S.core (effects es) q ≡ shown_by es q

  -- and where a committed transaction waits on an item, it holds the item, with the item of the tables as its image
  abbrev pub ImagesAreTables : Type 0
  ImagesAreTables =
      (es : History S) → IsLegal S es → (q : K) (n : ℕ) → waiting S.core (effects es) q ≡ Some n
      → HoldsTheTables S.core (effects es) q n

  -- [One fate]: a number is decided at most once
  abbrev pub NumbersAreDecidedOnce : Type 0
  NumbersAreDecidedOnce = (es : History S) → IsLegal S es → (n : ℕ) → decisions (effects es) n ≤ 1

  -- a committed number stands in the one order once and whole, and no other one stands there
  abbrev pub CommittedStandOnce : Type 0
  CommittedStandOnce = (es : History S) → IsLegal S es → (n : ℕ) → standings (order es) n ≡ once_whole (effects es) n

  -- at its commit each of its actions does to the tables what it was held for
  abbrev pub ActionsKeepTheirOutcome : Type 0
  ActionsKeepTheirOutcome =
      (e : Event S) (es : History S) (n : ℕ) → IsLegal S (e ∷ es) → effect e ≡ Commits n → (q : K) (a : A)
      → on_item S.core (begun_actions (effects es) n) q ≡ Some a → ActsAsAccepted S.core (effects es) n q a

  -- a Prepare of the action was accepted, where the action made this of the item of the tables
  abbrev pub AcceptedAs : History S → ℕ → Stamp → A → Option V → Type 0
  AcceptedAs [] n stamp action image = ⊥
  AcceptedAs (e ∷ es) n stamp action image =
      ((e.message ≡ Message.Prepare n stamp action) × (e.answer ≡ Answer.Accepted)
      × (S.core.act (catalog_by es) action (item_by es (S.core.key_of action)) ≡ New image))
      ⊎ AcceptedAs es n stamp action image

  pub record IsAccepted (es : History S) (q : K) (p : Pending V) : Type 0 where
    pub action : A
    pub its : S.core.key_of action ≡ q
    pub was : AcceptedAs es p.number p.stamp action p.image

  -- what holds an item is what an accepted Prepare of an action on it made
  abbrev pub HeldIsAccepted : Type 0
  HeldIsAccepted =
      (es : History S) → IsLegal S es → (q : K) (p : Pending V) → ((state S es).spot q).pend ≡ Some p → IsAccepted es q p

  -- a Decide of a number that was decided before doesn't decide
  abbrev pub FirstDecisionStands : Type 0
  FirstDecisionStands =
      (es : History S) → IsLegal S es → (n : ℕ) → Had (commits n) es ⊎ Had (cancels n) es
      → (moment : ℕ) (commit : Bool) (reasons : List (Reason V F)) (a : Reply S)
      → IsAnswer S es moment (Message.Decide n commit reasons) a → is_first a ≡ false

  -- every other entry leaves the one order, and so its tables, as they are
  abbrev pub OthersLeaveTheOrder : Type 0
  OthersLeaveTheOrder =
      (e : Event S) (es : History S) → enters_order e.message e.answer ≡ false → order (e ∷ es) ≡ order es

  -- the number holds the message's item, or an item of the command's table; a Prepare is held by another alone
  abbrev pub IsRealHolder : History S → Asked S → ℕ → Type 0
  IsRealHolder es (Message.Write action) n = holder_by es (S.core.key_of action) ≡ Some n
  IsRealHolder es (Message.Expire action) n = holder_by es (S.core.key_of action) ≡ Some n
  IsRealHolder es (Message.Prepare m stamp action) n = (holder_by es (S.core.key_of action) ≡ Some n) × (n ≢ m)
  IsRealHolder es (Message.Command d) n = IsInTheWay S (state S es) d n
  IsRealHolder es _ n = ⊥

  -- a write's answer is what the tables before it say: it found their item and made what its action makes of it; its
  -- condition is false of it, or its action can't be evaluated on it; the table is not there; or its item is held
  abbrev pub IsSerialWrite : History S → A → Reply S → Type 0
  IsSerialWrite es action (Answer.Written old new) =
      (old ≡ item_by es (S.core.key_of action)) × (S.core.act (catalog_by es) action old ≡ New new)
  IsSerialWrite es action (Answer.CondFalse old) =
      (old ≡ item_by es (S.core.key_of action)) × (S.core.act (catalog_by es) action old ≡ Unmet)
  IsSerialWrite es action (Answer.Invalid fault) =
      S.core.act (catalog_by es) action (item_by es (S.core.key_of action)) ≡ Fails fault
  IsSerialWrite es action Answer.Stale = S.core.there (catalog_by es) (S.core.key_of action) ≡ false
  IsSerialWrite es action (Answer.Held n) = IsRealHolder es (Message.Write action) n
  IsSerialWrite es action _ = ⊥

  -- [Serial], [Tables]: a write is answered by the tables of the one order before it
  abbrev pub WritesAreSerial : Type 0
  WritesAreSerial =
      (es : History S) → IsLegal S es → (moment : ℕ) (action : A) (a : Reply S)
      → IsAnswer S es moment (Message.Write action) a → IsSerialWrite es action a

  -- an expiration's answer is what the tables before it say: it found their item, which was expired, and its action removes
  -- it; there is no item that is expired and that its action would remove; the table is not there; or its item is held
  abbrev pub IsSerialExpiration : History S → ℕ → A → Reply S → Type 0
  IsSerialExpiration es moment action (Answer.Expired old) =
      (item_by es (S.core.key_of action) ≡ Some old)
      × (S.core.expired (catalog_by es) (S.core.key_of action) old moment ≡ true)
      × (S.core.act (catalog_by es) action (Some old) ≡ New None)
  IsSerialExpiration es moment action Answer.Kept =
      (v : V) → item_by es (S.core.key_of action) ≡ Some v
      → S.core.expired (catalog_by es) (S.core.key_of action) v moment ≡ true
      → S.core.act (catalog_by es) action (Some v) ≢ New None
  IsSerialExpiration es moment action Answer.Stale = S.core.there (catalog_by es) (S.core.key_of action) ≡ false
  IsSerialExpiration es moment action (Answer.Held n) = IsRealHolder es (Message.Expire action) n
  IsSerialExpiration es moment action _ = ⊥

  -- [Expired]: an expiration is answered by the tables of the one order before it
  abbrev pub ExpirationsAreSerial : Type 0
  ExpirationsAreSerial =
      (es : History S) → IsLegal S es → (moment : ℕ) (action : A) (a : Reply S)
      → IsAnswer S es moment (Message.Expire action) a → IsSerialExpiration es moment action a

  -- the catalog that the cells hold is that of the one order
  abbrev pub CatalogIsSerial : Type 0
  CatalogIsSerial = (es : History S) → (state S es).catalog ≡ catalog_by es

  -- an entry that writes an item's removal leaves the item absent, in its cell and in the tables
  abbrev pub RemovalsLeaveNone : Type 0
  RemovalsLeaveNone =
      (e : Event S) (es : History S) (q : K) (moment : ℕ) → effect e ≡ Wrote (S.core.removal q) moment
      → (row_of S.core (effects (e ∷ es)) q ≡ None) × (item_by (e ∷ es) q ≡ None)

  -- and stands in the one order as any other accepted write does
  abbrev pub RemovalsAreSingle : Type 0
  RemovalsAreSingle =
      (e : Event S) (es : History S) (q : K) (moment : ℕ) → effect e ≡ Wrote (S.core.removal q) moment
      → order (e ∷ es) ≡ Single (S.core.removal q) ∷ order es

  -- [Timestamp order]: transactions of the one order that share an item stand in the order of their stamps
  abbrev pub StampsRise : Type 0
  StampsRise = (es : History S) → IsLegal S es → IsStampOrder S.core (order es)

  -- [Reads go forward]: a Get is what a reader is shown before its entry
  abbrev pub GetsAreShown : Type 0
  GetsAreShown =
      (es : History S) → IsLegal S es → (moment : ℕ) (key : K) (v : Option V)
      → IsAnswer S es moment (Message.Get key) (Answer.Row v) → v ≡ shown_by es key

  -- the entry puts an item in place, or removes it: an accepted Write of it, its expiration, or its Apply
  abbrev pub sets_item : K → Asked S → Reply S → Bool
  sets_item q (Message.Write action) a = S.core.same (S.core.key_of action) q && is_written a
  sets_item q (Message.Expire action) a = S.core.same (S.core.key_of action) q && is_expired a
  sets_item q (Message.Apply n key) a = S.core.same key q && is_applied a
  sets_item q _ a = false

  -- after such an entry the item is shown as it is at the end: who was answered sees the item so, or later
  abbrev pub PointsPassOwn : Type 0
  PointsPassOwn =
      (e : Event S) (es : History S) → IsLegal S (e ∷ es) → (q : K) → sets_item q e.message e.answer ≡ true
      → point_by (e ∷ es) q ≡ length (effects (e ∷ es))

  -- and the point at which an item is shown never falls
  abbrev pub PointsNeverFall : Type 0
  PointsNeverFall =
      (newer es : History S) → IsLegal S (newer ++ es) → (q : K) → point_by es q ≤ point_by (newer ++ es) q

  -- [Token once]: the Begin `start` drew the number for the token, and no entry since then ended the token's life
  pub record Lives (since older : History S) (start : Event S) (token : List ℕ) (number : ℕ) : Type 0 where
    pub legal : IsLegal S (since ++ (start ∷ older))
    pub drawn : draws token number start.message start.answer ≡ true
    pub on : LivesOn number since

  -- in a token's life no other number is drawn for it
  abbrev pub TokensDrawOnce : Type 0
  TokensDrawOnce =
      (since older : History S) (start : Event S) (token : List ℕ) (number : ℕ)
      → Lives since older start token number → (other : ℕ) → Had (draws token other) since → ⊥

  -- and every later Begin with it that doesn't end its life names that number, or finds a table gone
  abbrev pub LaterBeginsName : Type 0
  LaterBeginsName =
      (since older : History S) (start : Event S) (token : List ℕ) (number : ℕ)
      → Lives since older start token number → (moment : ℕ) (actions : List A) (a : Reply S)
      → is_over (first_done since number) moment ≡ false
      → IsAnswer S (since ++ (start ∷ older)) moment (Message.Begin (Some token) actions) a → Names number a

  -- a Begin draws a number that no Begin drew before, or finds a table gone
  abbrev pub DrawsNew : History S → Reply S → Type 0
  DrawsNew es a = (a ≡ Answer.Stale) ⊎ ((n : ℕ) × (stamp : Stamp) × (a ≡ Answer.Begun n stamp) × (Had (begins n) es → ⊥))

  -- where its time is over at a moment, a Begin with the token then draws a new number
  abbrev pub TimeEndsLife : Type 0
  TimeEndsLife =
      (since older : History S) (start : Event S) (token : List ℕ) (number : ℕ)
      → Lives since older start token number → (moment : ℕ) (actions : List A) (a : Reply S)
      → is_over (first_done since number) moment ≡ true
      → IsAnswer S (since ++ (start ∷ older)) moment (Message.Begin (Some token) actions) a
      → DrawsNew (since ++ (start ∷ older)) a

  -- and so it does after the number's cancel
  abbrev pub CancelEndsLife : Type 0
  CancelEndsLife =
      (cancel : Event S) (since older : History S) (start : Event S) (token : List ℕ) (number : ℕ)
      → Lives since older start token number → IsLegal S (cancel ∷ (since ++ (start ∷ older)))
      → cancels_first number cancel.message cancel.answer ≡ true → (moment : ℕ) (actions : List A) (a : Reply S)
      → IsAnswer S (cancel ∷ (since ++ (start ∷ older))) moment (Message.Begin (Some token) actions) a
      → DrawsNew (cancel ∷ (since ++ (start ∷ older))) a

  -- the table of one of these actions is gone
  abbrev pub lacks_table : History S → List A → Bool
  lacks_table es actions = list_any (λ x. not (S.core.there (catalog_by es) (S.core.key_of x))) actions

  -- a Begin is answered Stale only where the table of one of its actions is gone
  abbrev pub StaleBeginsAreReal : Type 0
  StaleBeginsAreReal =
      (es : History S) (moment : ℕ) (token : Option (List ℕ)) (actions : List A)
      → IsAnswer S es moment (Message.Begin token actions) Answer.Stale → lacks_table es actions ≡ true

  -- a Repeat names a number that was begun with the same parameters, is committed, and Done
  pub record IsRepeat (es : History S) (actions : List A) (n : ℕ) : Type 0 where
    pub begun : Had (begins n) es
    pub alike : S.same_actions (begun_actions (effects es) n) actions ≡ true
    pub committed : Had (commits n) es
    pub done : Had (finishes n) es

  abbrev pub RepeatsAreDone : Type 0
  RepeatsAreDone =
      (es : History S) → IsLegal S es → (moment : ℕ) (token : Option (List ℕ)) (actions : List A) (n : ℕ)
      → IsAnswer S es moment (Message.Begin token actions) (Answer.Repeat n) → IsRepeat es actions n

  -- a ReadVersion of the key at the end of this history is answered so
  abbrev pub Reads : History S → K → Option V → ℕ → Option ℕ → Type 0
  Reads es key item version holds = IsAnswer S es 0 (Message.ReadVersion key) (Answer.Version item version holds)

  -- [One-point reads]: an item that two reads found with one version, the second time unheld, is for both of them the item
  -- of the tables at every point between
  abbrev pub ReadsAreAtOnePoint : Type 0
  ReadsAreAtOnePoint =
      (newer middle es : History S) → IsLegal S (newer ++ (middle ++ es))
      → (key : K) (first second : Option V) (version : ℕ) (holds : Option ℕ)
      → Reads es key first version holds → Reads (newer ++ (middle ++ es)) key second version None
      → (first ≡ item_by (middle ++ es) key) × (second ≡ item_by (middle ++ es) key)

  -- [Real causes]: the number of a Held holds what the message asks for
  abbrev pub HeldIsReal : Type 0
  HeldIsReal =
      (es : History S) (moment : ℕ) (m : Asked S) (n : ℕ) → IsAnswer S es moment m (Answer.Held n) → IsRealHolder es m n

  -- the number that a ReadVersion names holds the item
  abbrev pub ReadHoldersAreReal : Type 0
  ReadHoldersAreReal =
      (es : History S) (key : K) (item : Option V) (version n : ℕ) → Reads es key item version (Some n)
      → holder_by es key ≡ Some n

  -- the stamp of a Late is the one at which the item was changed last, and isn't earlier than the transaction's
  abbrev pub LateIsReal : Type 0
  LateIsReal =
      (es : History S) (moment n : ℕ) (stamp : Stamp) (action : A) (t : Stamp)
      → IsAnswer S es moment (Message.Prepare n stamp action) (Answer.Late t)
      → (t ≡ last_by es (S.core.key_of action)) × IsBy stamp t

  -- the entry changes an item of the cell, or the catalog
  abbrev pub changes_cell : ℕ → Asked S → Reply S → Bool
  changes_cell i (Message.Write action) a = nat_eq (S.core.cell_of (S.core.key_of action)) i && is_written a
  changes_cell i (Message.Expire action) a = nat_eq (S.core.cell_of (S.core.key_of action)) i && is_expired a
  changes_cell i (Message.Apply n key) a = nat_eq (S.core.cell_of key) i && is_applied a
  changes_cell i (Message.Command d) a = is_changed a
  changes_cell i _ a = false

  -- why an action isn't accepted after a history: another holds its item; the item was changed last at this stamp, which
  -- isn't earlier; or of the item of the tables its condition is false, or it can't be evaluated on it
  abbrev pub IsCause : History S → ℕ → Stamp → A → Reason V F → Type 0
  IsCause es n stamp action Reason.None = Unit {0}
  IsCause es n stamp action (Reason.Held m) = (holder_by es (S.core.key_of action) ≡ Some m) × (m ≢ n)
  IsCause es n stamp action (Reason.Late t) = (t ≡ last_by es (S.core.key_of action)) × IsBy stamp t
  IsCause es n stamp action (Reason.ConditionFalse old) =
      (old ≡ item_by es (S.core.key_of action)) × (S.core.act (catalog_by es) action old ≡ Unmet)
  IsCause es n stamp action (Reason.Invalid fault) =
      S.core.act (catalog_by es) action (item_by es (S.core.key_of action)) ≡ Fails fault
  -- a Prepare names no two versions
  IsCause es n stamp action (Reason.Moved first second) = ⊥

  -- it was so where a Prepare of the action was answered
  abbrev pub HadThisCause : History S → ℕ → Stamp → A → Reason V F → Type 0
  HadThisCause [] n stamp action reason = ⊥
  HadThisCause (e ∷ es) n stamp action reason =
      ((e.message ≡ Message.Prepare n stamp action) × IsCause es n stamp action reason)
      ⊎ HadThisCause es n stamp action reason

  abbrev pub HadCauses : History S → ℕ → Stamp → List A → List (Reason V F) → Type 0
  HadCauses es n stamp [] [] = Unit {0}
  HadCauses es n stamp (action ∷ actions) (reason ∷ reasons) =
      HadThisCause es n stamp action reason × HadCauses es n stamp actions reasons
  HadCauses es n stamp _ _ = ⊥

  -- a Decide that cancels names for every action its real cause; or a table was gone, and it names none
  abbrev pub CancelsAreReal : Type 0
  CancelsAreReal =
      (e : Event S) (es : History S) → IsLegal S (e ∷ es) → (n : ℕ) (reasons : List (Reason V F))
      → e.message ≡ Message.Decide n false reasons
      → HadCauses es n (begun_stamp (effects es) n) (begun_actions (effects es) n) reasons
      ⊎ (Had (finds_no_table n) es × All (λ r. r ≡ Reason.None) reasons)

  -- two reads of an item found two versions: between them an item of its cell was changed, or the catalog
  abbrev pub MovedIsReal : Type 0
  MovedIsReal =
      (newer es : History S) (key : K) (first second : Option V) (v w : ℕ) (h k : Option ℕ)
      → Reads es key first v h → Reads (newer ++ es) key second w k → v ≢ w
      → Had (changes_cell (S.core.cell_of key)) newer

  -- the entry puts this item in place, or changes the catalog
  abbrev pub changes_item : K → Asked S → Reply S → Bool
  changes_item q (Message.Command d) a = is_changed a
  changes_item q m a = sets_item q m a

  -- where both found the item there, this very item was changed between them, or the catalog
  abbrev pub MovedItemIsReal : Type 0
  MovedItemIsReal =
      (newer es : History S) (key : K) (first second : V) (v w : ℕ) (h k : Option ℕ)
      → Reads es key (Some first) v h → Reads (newer ++ es) key (Some second) w k → v ≢ w
      → Had (changes_item key) newer

  -- who has seen a beginning of the history may go by it: what may be sent after that may be sent after the whole
  abbrev pub BeginningsAllow : Type 0
  BeginningsAllow =
      (newer es : History S) → IsLegal S (newer ++ es) → (e : Event S) → Allowed S es e.pass e.message
      → IsAnswer S (newer ++ es) e.moment e.message e.answer → e.cell ≡ sent_to S e.message
      → IsTimely (newer ++ es) e.pass e.moment → IsLegal S (e ∷ (newer ++ es))

  -- an entry may come after a history exactly where it keeps the rule of each kind of break
  abbrev pub RulesAreAll : Type 0
  RulesAreAll = (es : History S) (e : Event S) → Follows S es e ↔ KeepsAll S in_order es e
