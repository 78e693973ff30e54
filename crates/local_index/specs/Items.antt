-- A cell whose entries are those of its items.
use Rattle.std.specs.Prelude.{◌≡◌, ℕ, Bool, ◌&&◌, List, [], IsTrue, if◌then◌else◌}
use Rattle.std.specs.Ordering.{nat_cmp}
use Rattle.std.specs.BTreeMap.{BTreeMap, is_at}
use Rattle.std.specs.declared.cmp.Ordering.{Ordering}
use Rattle.local_index.specs.declared.claim.Claim.{Claim}
use Rattle.local_index.specs.Claims.{is_committed, is_held}
use Rattle.local_index.specs.Entries.{held_too, is_among, let_go, noted, settled}
use Rattle.local_index.specs.Tables.{claim_under, ClaimsUnder}

module _ {E I : Type 0} (cmp : E → E → Ordering) (same : I → I → Bool) (item_of : E → I) where
  -- these entries all name this item
  abbrev pub Belong : I → List E → Type 0
  Belong k es = (q : E) → IsTrue (is_among cmp es q) → IsTrue (same k (item_of q))

  -- each item of each table has a share of the entries: all that are in it name the item, and equal items have the same one
  pub record AreShares (shares : ℕ → I → List E) : Type 0 where
    pub named : (u : ℕ) (k : I) → Belong k (shares u k)
    pub alike : (u : ℕ) (k j : I) → IsTrue (same k j) → shares u k ≡ shares u j

  -- an item of a table has this share, each other one its own
  abbrev pub with_share : (ℕ → I → List E) → ℕ → I → List E → ℕ → I → List E
  with_share shares u k es v j = if is_at (nat_cmp u) v && same k j then es else shares v j

  -- the committed entries are exactly those in the shares of the rows, and those held exactly those in the shares of the images
  pub record AreOf (rows images : ℕ → I → List E) (s : BTreeMap ℕ (BTreeMap E Claim)) : Type 0 where
    pub committed : (u : ℕ) (q : E) → is_committed (claim_under cmp s u q) ≡ is_among cmp (rows u (item_of q)) q
    pub held : (u : ℕ) (q : E) → is_held (claim_under cmp s u q) ≡ is_among cmp (images u (item_of q)) q

  -- where that is so, each change of an item leaves it so, of the rows and images that are there afterwards (a hold, where no
  -- image of the item is held)
  pub record KeepsToItems (rows images : ℕ → I → List E) (s t : BTreeMap ℕ (BTreeMap E Claim)) (u : ℕ) (k : I) : Type 0 where
    pub note : (new : List E) → Belong k new → ClaimsUnder cmp (noted cmp (rows u k) new) s t u
        → AreOf (with_share rows u k new) images t
    pub hold : (image : List E) → Belong k image → images u k ≡ [] → ClaimsUnder cmp (held_too cmp image) s t u
        → AreOf rows (with_share images u k image) t
    pub settle : ClaimsUnder cmp (settled cmp (rows u k) (images u k)) s t u
        → AreOf (with_share rows u k (images u k)) (with_share images u k []) t
    pub let_go : ClaimsUnder cmp (let_go cmp (images u k)) s t u → AreOf rows (with_share images u k []) t

  -- the entries keep to the items
  abbrev pub KeepToItems : Type 0
  KeepToItems =
      (rows images : ℕ → I → List E) (s t : BTreeMap ℕ (BTreeMap E Claim)) (u : ℕ) (k : I)
      → AreShares rows → AreShares images → AreOf rows images s → KeepsToItems rows images s t u k
