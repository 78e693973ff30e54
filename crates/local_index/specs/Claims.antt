-- What an entry stands for.
use Rattle.std.specs.Prelude.{Bool, true, false, not, ◌&&◌, ◌||◌, Option, None, Some}
use Rattle.local_index.specs.declared.claim.Claim.{Claim}
use Rattle.local_index.specs.declared.claim.Claim.TheVariants.{Committed, Held, Both}

-- the entry is one of the committed item
abbrev pub is_committed : Option Claim → Bool
is_committed None = false
is_committed (Some Committed) = true
is_committed (Some Held) = false
is_committed (Some Both) = true

-- the entry is one of the image that a transaction holds
abbrev pub is_held : Option Claim → Bool
is_held None = false
is_held (Some Committed) = false
is_held (Some Held) = true
is_held (Some Both) = true

-- the claim of an entry of which these are so: none where neither is, and then the entry is not there
abbrev pub claim_of : Bool → Bool → Option Claim
claim_of false false = None
claim_of true false = Some Committed
claim_of false true = Some Held
claim_of true true = Some Both

-- the old claim with this one too, and without this one
abbrev pub joined : Claim → Option Claim → Option Claim
joined more c = claim_of (is_committed c || is_committed (Some more)) (is_held c || is_held (Some more))

abbrev pub without : Claim → Option Claim → Option Claim
without less c = claim_of (is_committed c && not (is_committed (Some less))) (is_held c && not (is_held (Some less)))

-- this claim, where the entry is there
abbrev pub instead : Claim → Option Claim → Option Claim
instead new None = None
instead new (Some c) = Some new
