use Rattle.std.proofs.Common.{◌≡◌, ℕ, ◌+◌, ◌-◌, [], ◌∷◌, ◌++◌, length, Some, sym, ap, ◌∙◌, subst, arith}
use Rattle.std.specs.Prelude.{slice_get}
use Rattle.std.proofs.lemmas.List.{length-map, length_push}
use Rattle.std.proofs.lemmas.Option.{slice_get_within}
use Rattle.turnstile.proofs.Basics.{get_front, get_last}
use Rattle.cluster.specs.declared.cell.ClusterCell.{ClusterCell}
use Rattle.cluster.specs.Standing.{IsInPlace}
use Rattle.cluster.proofs.AfterAll.{below_is_partition, last_is_control, mapped_at}
use Rattle.cluster.proofs.closing.split.Goals as goal

pub unreachable-requires-in_default-into_inner : goal.unreachable-requires-in_default-into_inner
unreachable-requires-in_default-into_inner g c =
    let front = c.pop.new.self.items in
    let last = c.in-Some.last in
    let items = c.in-Some.ensures.items in
    let count : length c.args.cells.items ≡ length front + 1 = ap length items ∙ length_push front last in
    let place : length front ≡ length c.args.cells.items - 1 = omega arith in
    let at = c.requires.kinds (length front) last (ap (λ l. slice_get l (length front)) items ∙ get_last front last) in
    last_is_control (length c.args.cells.items - 1) last.value c.in_default-into_inner.field-0
    (subst (λ (k : ℕ). IsInPlace (length c.args.cells.items - 1) k last.value) place at) (sym c.into_inner.ensures ∙ c.in_default-into_inner.is)

pub unpacked-partitions-requires-clause-all : goal.unpacked-partitions-requires-clause-all
unpacked-partitions-requires-clause-all g c = λ i b at.
    let front = c.pop.new.self.items in
    let last = c.in-Some.last in
    let items = c.in-Some.ensures.items in
    let count : length c.args.cells.items ≡ length front + 1 = ap length items ∙ length_push front last in
    let within = slice_get_within front i b at in
    below_is_partition (length c.args.cells.items - 1) i b.value
    (c.requires.kinds i b (ap (λ l. slice_get l i) items ∙ get_front front (last ∷ []) i b at)) (omega arith)

pub returns-clause-count : goal.returns-clause-count
returns-clause-count g c =
    let front = c.pop.new.self.items in
    let last = c.in-Some.last in
    let count : length c.args.cells.items ≡ length front + 1 = ap length c.in-Some.ensures.items ∙ length_push front last in
    let mapped : length front ≡ length c.unpacked-partitions.result.items =
    sym (length-map front (λ b. b.value))
    ∙ (ap length c.unpacked-partitions.ensures ∙ length-map c.unpacked-partitions.result.items ClusterCell.Partition) in
    let same : length c.from.result ≡ length c.unpacked-partitions.result.items = ap length c.from.ensures in
    omega arith

pub returns-clause-partitions : goal.returns-clause-partitions
returns-clause-partitions g c = λ i x at.
    let front = c.pop.new.self.items in
    let last = c.in-Some.last in
    let h =
    mapped_at (λ b. b.value) ClusterCell.Partition front c.unpacked-partitions.result.items c.unpacked-partitions.ensures i x
    (ap (λ l. slice_get l i) (sym c.from.ensures) ∙ at) in
    (h.0, ap (λ l. slice_get l i) c.in-Some.ensures.items ∙ get_front front (last ∷ []) i h.0 h.1, h.2)

pub returns-clause-ledger : goal.returns-clause-ledger
returns-clause-ledger g c =
    let front = c.pop.new.self.items in
    let last = c.in-Some.last in
    let mapped : length front ≡ length c.unpacked-partitions.result.items =
    sym (length-map front (λ b. b.value))
    ∙ (ap length c.unpacked-partitions.ensures ∙ length-map c.unpacked-partitions.result.items ClusterCell.Partition) in
    let place : length front ≡ length c.from.result = mapped ∙ sym (ap length c.from.ensures) in (
      last,
      ap (λ l. slice_get l (length c.from.result)) c.in-Some.ensures.items
          ∙ subst (λ (k : ℕ). slice_get (front ++ last ∷ []) k ≡ Some last) place (get_last front last),
      sym c.into_inner.ensures ∙ c.in-Control.is,
    )
