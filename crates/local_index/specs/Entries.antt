-- What the entries of a table are, and what a change makes of each.
use Rattle.std.specs.Prelude.{◌≡◌, Bool, not, ◌&&◌, ◌||◌, List, Option, None, is_some, if◌then◌else◌}
use Rattle.std.specs.Borrow.{Bor}
use Rattle.std.specs.Range.Bound.{bound_map}
use Rattle.std.specs.List.{list_any}
use Rattle.std.specs.BTreeMap.{BTreeMap, get, is_at}
use Rattle.std.specs.BTreeMap.Range.{range_contains}
use Rattle.std.specs.declared.cmp.Ordering.{Ordering}
use Rattle.std.specs.declared.ops.Bound.{Bound}
use Rattle.local_index.specs.declared.claim.Claim.{Claim}
use Rattle.local_index.specs.Claims.{claim_of, is_committed, is_held}

-- an end of a range that is lent
abbrev pub end_of : {E : Type 0} → Bound (Bor E) → Bound E
end_of = bound_map (λ end. end.now)

module _ {E : Type 0} (cmp : E → E → Ordering) where
  -- the entry is one of these
  abbrev pub is_among : List E → E → Bool
  is_among es q = list_any (λ e. is_at (cmp e) q) es

  -- a single write: the new entries are committed, and the old ones that are not among them are so no more
  abbrev pub noted : List E → List E → E → Option Claim → Option Claim
  noted old new q c = claim_of (is_among new q || (is_committed c && not (is_among old q))) (is_held c)

  -- a transaction holds an image: its entries are held
  abbrev pub held_too : List E → E → Option Claim → Option Claim
  held_too image q c = claim_of (is_committed c) (is_held c || is_among image q)

  -- it ends, and its image is in place: the image's entries, which are there, are committed in place of the old ones, and no
  -- longer held
  abbrev pub settled : List E → List E → E → Option Claim → Option Claim
  settled old image q c =
      claim_of ((is_some c && is_among image q) || (is_committed c && not (is_among old q))) (is_held c && not (is_among image q))

  -- it ends, and the item is as it was: the image's entries are no longer held
  abbrev pub let_go : List E → E → Option Claim → Option Claim
  let_go image q c = claim_of (is_committed c) (is_held c && not (is_among image q))

  -- the entries that are among the first ones and not among the second ones have their claim changed so, each other one its own
  abbrev pub changed : List E → List E → (Option Claim → Option Claim) → E → Option Claim → Option Claim
  changed es others change q c = if is_among es q && not (is_among others q) then change c else c

  -- the entry has this claim afterwards, and each other one its own
  abbrev pub Places : BTreeMap E Claim → BTreeMap E Claim → E → Option Claim → Type 0
  Places m n e new = (q : E) → get cmp n q ≡ (if is_at (cmp e) q then new else get cmp m q)

  -- each entry has afterwards the claim that this gives, of the entry and its old claim
  abbrev pub Gives : (E → Option Claim → Option Claim) → BTreeMap E Claim → BTreeMap E Claim → Type 0
  Gives change m n = (q : E) → get cmp n q ≡ change q (get cmp m q)

  -- the entry's claim, where the entry lies between two ends
  abbrev pub claim_between : Bound E → Bound E → E → Option Claim → Option Claim
  claim_between low high q c = if range_contains cmp low high q then c else None

  -- each entry has its own claim
  abbrev pub SameClaims : BTreeMap E Claim → BTreeMap E Claim → Type 0
  SameClaims m n = (q : E) → get cmp n q ≡ get cmp m q
