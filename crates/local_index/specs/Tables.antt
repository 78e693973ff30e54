-- What the entries of the tables of a cell are.
use Rattle.std.specs.Prelude.{◌≡◌, ℕ, Bool, not, ◌&&◌, ◌||◌, Option, None, Some, is_some, if◌then◌else◌}
use Rattle.std.specs.Ordering.{nat_cmp}
use Rattle.std.specs.BTreeMap.{BTreeMap, get, is_at}
use Rattle.std.specs.declared.cmp.Ordering.{Ordering}
use Rattle.local_index.specs.declared.claim.Claim.{Claim}

module _ {E : Type 0} where
  -- the table is there
  abbrev pub has_table : BTreeMap ℕ (BTreeMap E Claim) → ℕ → Bool
  has_table tables u = is_some (get nat_cmp tables u)

module _ {E : Type 0} (cmp : E → E → Ordering) where
  -- the claim of an entry, where its table is there
  abbrev pub claim_in : Option (BTreeMap E Claim) → E → Option Claim
  claim_in None q = None
  claim_in (Some entries) q = get cmp entries q

  -- the claim of an entry of a table
  abbrev pub claim_under : BTreeMap ℕ (BTreeMap E Claim) → ℕ → E → Option Claim
  claim_under tables u q = claim_in (get nat_cmp tables u) q

  -- each entry of the table has the claim that this gives, of the entry and its old claim; each other one has its own
  abbrev pub ClaimsUnder : (E → Option Claim → Option Claim) → BTreeMap ℕ (BTreeMap E Claim) → BTreeMap ℕ (BTreeMap E Claim) → ℕ → Type 0
  ClaimsUnder change s t u =
      (v : ℕ) (q : E) → claim_under t v q ≡ (if is_at (nat_cmp u) v then change q (claim_under s v q) else claim_under s v q)

  -- that is so, and the same tables are there
  pub record GivesUnder (change : E → Option Claim → Option Claim) (s t : BTreeMap ℕ (BTreeMap E Claim)) (u : ℕ) : Type 0 where
    pub claims : ClaimsUnder change s t u
    pub tables : (v : ℕ) → has_table t v ≡ has_table s v

  -- each entry has its own claim, and the same tables are there
  pub record Same (s t : BTreeMap ℕ (BTreeMap E Claim)) : Type 0 where
    pub claims : (v : ℕ) (q : E) → claim_under t v q ≡ claim_under s v q
    pub tables : (v : ℕ) → has_table t v ≡ has_table s v

  -- a table without entries is there too, and all else is as it was
  pub record Opens (s t : BTreeMap ℕ (BTreeMap E Claim)) (u : ℕ) : Type 0 where
    pub claims : (v : ℕ) (q : E) → claim_under t v q ≡ claim_under s v q
    pub tables : (v : ℕ) → has_table t v ≡ (is_at (nat_cmp u) v || has_table s v)

  -- a table is gone with its entries, and all else is as it was
  pub record Closes (s t : BTreeMap ℕ (BTreeMap E Claim)) (u : ℕ) : Type 0 where
    pub claims : (v : ℕ) (q : E) → claim_under t v q ≡ (if is_at (nat_cmp u) v then None else claim_under s v q)
    pub tables : (v : ℕ) → has_table t v ≡ (not (is_at (nat_cmp u) v) && has_table s v)

  -- these are a table's entries, where it is there, and all else is as it was
  pub record Fills (s t : BTreeMap ℕ (BTreeMap E Claim)) (u : ℕ) (entries : BTreeMap E Claim) : Type 0 where
    pub claims :
        (v : ℕ) (q : E)
        → claim_under t v q ≡ (if is_at (nat_cmp u) v && has_table s u then get cmp entries q else claim_under s v q)
    pub tables : (v : ℕ) → has_table t v ≡ has_table s v
