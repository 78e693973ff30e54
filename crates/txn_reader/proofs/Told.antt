-- Reasons of reads that are gone over side by side.
use Rattle.std.proofs.Common.{◌≡◌, List, map, Bor, sym, ap, ◌∙◌}
use Rattle.std.specs.List.{zip}
use Rattle.std.proofs.lemmas.Simd.{map-map}
use Rattle.txn_core.specs.declared.reason.Reason.{Reason}
use Rattle.txn_reader.specs.declared.item_version.ItemVersion.{ItemVersion}
use Rattle.txn_reader.specs.Reasons.{reason_of, reasons_of}

module _ {V F : Type 0} where
  pub reasons_told :
      (reasons : List (Reason V F)) (pairs : List (Bor (ItemVersion V) × Bor (ItemVersion V))) (first second : List (ItemVersion V))
      → reasons ≡ map (λ reads. reason_of reads.0.now reads.1.now) pairs
      → map (λ reads. (reads.0.now, reads.1.now)) pairs ≡ zip first second → reasons ≡ reasons_of first second
  reasons_told reasons pairs first second told all =
      told
      ∙ (sym (map-map (λ reads. reason_of reads.0 reads.1) (λ reads. (reads.0.now, reads.1.now)) pairs)
      ∙ ap (map (λ reads. reason_of reads.0 reads.1)) all)
