-- Items that are gone over beside their reads.
use Rattle.std.proofs.Common.{◌≡◌, Bool, List, map, Bor, Option, sym, ap, ◌∙◌}
use Rattle.std.specs.List.{zip}
use Rattle.std.proofs.lemmas.Simd.{map-map}
use Rattle.attr_value.specs.Tree.{Attributes}
use Rattle.table_request.specs.declared.transactions.TransactRead.{TransactRead}
use Rattle.table_request.specs.Usage.{by_table}
use Rattle.table_model.specs.declared.reply.Reply.{Reply}
use Rattle.table_model.specs.declared.reply.Reply.TheVariants.{TransactRead as Read}
use Rattle.table_model.specs.Consumed.{where_asked}
use Rattle.transact_reads.specs.declared.told.ReadItem.{ReadItem}
use Rattle.transact_reads.specs.Told.{shown_in, used_in, all_told, reads_told}

abbrev Pair : Type 0
Pair = Bor TransactRead × Bor (Option Attributes)

abbrev pub beside : Pair → ReadItem
beside both = record { read = both.0; item = both.1 }

abbrev values : Pair → TransactRead × Option Attributes
values both = (both.0.now, both.1.now)

module _ (pairs : List Pair) (reads : List TransactRead) (items : List (Option Attributes)) (are : map values pairs ≡ zip reads items) where
  -- what is made of each, by its read and its item
  each : {X : Type 0} (f : TransactRead → Option Attributes → X)
      → map (λ (one : ReadItem). f one.read.now one.item.now) (map beside pairs) ≡ map (λ (both : TransactRead × Option Attributes). f both.0 both.1) (zip reads items)
  each f =
      map-map (λ (one : ReadItem). f one.read.now one.item.now) beside pairs
      ∙ sym (map-map (λ (both : TransactRead × Option Attributes). f both.0 both.1) values pairs)
      ∙ ap (map (λ (both : TransactRead × Option Attributes). f both.0 both.1)) are

  pub told_beside : (capacity : Bool) (all : List ReadItem) (reply : Reply) → all ≡ map beside pairs
      → reply ≡ all_told (λ (one : ReadItem). one.read.now) (λ (one : ReadItem). one.item.now) capacity all → reply ≡ reads_told capacity reads items
  told_beside capacity all reply so_far told =
      told ∙ ap (all_told (λ (one : ReadItem). one.read.now) (λ (one : ReadItem). one.item.now) capacity) so_far
      ∙ (λ i. Read (each shown_in i) (where_asked capacity (by_table (each used_in i))))
