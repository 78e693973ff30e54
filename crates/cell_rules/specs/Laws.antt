-- The laws that the type which meets `Rules` keeps.
use Rattle.std.specs.Prelude.{◌≡◌, ℕ, refl}
use Rattle.txn_core.specs.Service.{IsServiceLawful}
use Rattle.cell_model.specs.Service.{service}
use Rattle.cell_model.proofs.Lawful.{service_lawful}

pub numbered : (partitions : ℕ) → (service partitions).control ≡ partitions
numbered partitions = refl

pub lawful : (partitions : ℕ) → IsServiceLawful (service partitions)
lawful = service_lawful
