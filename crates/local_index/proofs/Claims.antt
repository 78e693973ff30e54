-- The same change of a claim, twice.
use Rattle.std.proofs.Common.{◌≡◌, Option, None, Some, refl}
use Rattle.local_index.specs.declared.claim.Claim.{Claim}
use Rattle.local_index.specs.declared.claim.Claim.TheVariants.{Committed, Held, Both}
use Rattle.local_index.specs.Claims.{instead, joined, without}

pub joined_again : (k : Claim) (c : Option Claim) → joined k (joined k c) ≡ joined k c
joined_again Committed None = refl
joined_again Committed (Some Committed) = refl
joined_again Committed (Some Held) = refl
joined_again Committed (Some Both) = refl
joined_again Held None = refl
joined_again Held (Some Committed) = refl
joined_again Held (Some Held) = refl
joined_again Held (Some Both) = refl
joined_again Both None = refl
joined_again Both (Some Committed) = refl
joined_again Both (Some Held) = refl
joined_again Both (Some Both) = refl

pub instead_again : (k : Claim) (c : Option Claim) → instead k (instead k c) ≡ instead k c
instead_again k None = refl
instead_again k (Some c) = refl

pub without_again : (k : Claim) (c : Option Claim) → without k (without k c) ≡ without k c
without_again Committed None = refl
without_again Committed (Some Committed) = refl
without_again Committed (Some Held) = refl
without_again Committed (Some Both) = refl
without_again Held None = refl
without_again Held (Some Committed) = refl
without_again Held (Some Held) = refl
without_again Held (Some Both) = refl
without_again Both None = refl
without_again Both (Some Committed) = refl
without_again Both (Some Held) = refl
without_again Both (Some Both) = refl
