-- What the protocol needs to know of tables: items, actions and catalogs.
use Rattle.std.specs.Prelude.{◌≡◌, ◌⊎◌, ℕ, ◌<◌, ◌≤◌, Bool, true, Option, None}
use Rattle.txn_core.specs.declared.outcome.Outcome.{Outcome}
use Rattle.txn_core.specs.declared.outcome.Outcome.TheVariants.{New, Unmet, Fails}

-- the item afterwards
abbrev pub after : {V F : Type 0} → Outcome V F → Option V → Option V
after (New v) old = v
after Unmet old = old
after (Fails fault) old = old

-- the action can be carried out
abbrev pub IsNew : {V F : Type 0} → Outcome V F → Type 0
IsNew (New v) = Unit {0}
IsNew Unmet = ⊥
IsNew (Fails fault) = ⊥

-- K: which item; V: what an item holds; A: an action on one item; F: a fault; C: the catalog of tables; D: a change of it
pub record Protocol (K V A F C D : Type 0) : Type 0 where
  -- both keys stand for one item
  pub same : K → K → Bool
  -- the cell in which an item lives
  pub cell_of : K → ℕ
  -- the item that an action is on
  pub key_of : A → K
  -- what an action does under a catalog
  pub act : C → A → Option V → Outcome V F
  -- the action that removes an item, and whether what an item holds is expired at a moment
  pub removal : K → A
  pub expired : C → K → V → ℕ → Bool
  -- the catalog without a table
  pub empty : C
  -- whether the catalog has the item's table
  pub there : C → K → Bool
  -- the number of the item's table, and the greatest number that the catalog has drawn
  pub table : K → ℕ
  pub drawn : C → ℕ
  -- the catalog after a command that was not refused, at its moment
  pub change : D → ℕ → C → C
  -- an item that a command brings with a new table
  pub adds : D → C → K → Option V

-- keys that stand for one item can't be told apart, removals remove, and the number of a table never comes again
pub record IsLawful {K V A F C D : Type 0} (P : Protocol K V A F C D) : Type 0 where
  pub itself : (x : K) → P.same x x ≡ true
  pub turned : (x y : K) → P.same x y ≡ true → P.same y x ≡ true
  pub moved : (x y z : K) → P.same x y ≡ true → P.same z x ≡ P.same z y
  pub one_cell : (x y : K) → P.same x y ≡ true → P.cell_of x ≡ P.cell_of y
  pub one_place : (c : C) (x y : K) → P.same x y ≡ true → P.there c x ≡ P.there c y
  pub one_gift : (d : D) (c : C) (x y : K) → P.same x y ≡ true → P.adds d c x ≡ P.adds d c y
  pub one_expiry :
      (c : C) (x y : K) (v : V) (moment : ℕ) → P.same x y ≡ true → P.expired c x v moment ≡ P.expired c y v moment
  -- a removal is on its own item, and under every catalog it leaves none, whatever was there
  pub its_item : (k : K) → P.key_of (P.removal k) ≡ k
  pub removes : (c : C) (k : K) (v : Option V) → P.act c (P.removal k) v ≡ New None
  -- a table that a command brings has a number that was not drawn before
  pub comes :
      (d : D) (moment : ℕ) (c : C) (x : K) → P.there (P.change d moment c) x ≡ true
      → (P.there c x ≡ true) ⊎ (P.drawn c < P.table x)
  pub known : (c : C) (x : K) → P.there c x ≡ true → P.table x ≤ P.drawn c
  pub grows : (d : D) (moment : ℕ) (c : C) → P.drawn c ≤ P.drawn (P.change d moment c)
