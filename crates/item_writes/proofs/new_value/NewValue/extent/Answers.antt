use Rattle.std.proofs.Common.{ℕ, min, length, sym, ap, ◌∙◌}
use Rattle.std.proofs.lemmas.Cmp.{nat_list_cmp_total, int_cmp_total}
use Rattle.attr_value.specs.Sizes.{number_size, size}
use Rattle.item_writes.specs.NewTree.{new_tree}
use Rattle.item_writes.proofs.Sets.{united_sum, texts_exact, numbers_exact}
use Rattle.item_writes.proofs.new_value.NewValue.extent.Goals as goal

pub returns-in-Texts-clause-bytes : goal.returns-in-Texts-clause-bytes
returns-in-Texts-clause-bytes c =
    let limit = c.args.limit in
    let both = c.both_bytes.ensures in
    c.flat.ensures.bytes ∙ both.bytes
    ∙ ap (λ n. min n limit) (sym (united_sum nat_list_cmp_total texts_exact (length {A = ℕ}) c.in-Texts.set.now c.in-Texts.more.now both.set_in_order both.more_in_order))
    ∙ ap (λ v. min (size (new_tree v)) limit) (sym c.in-Texts.is)

pub returns-in-Numbers-clause-bytes : goal.returns-in-Numbers-clause-bytes
returns-in-Numbers-clause-bytes c =
    let limit = c.args.limit in
    let both = c.both_bytes-in-Numbers.ensures in
    c.flat-in-Numbers.ensures.bytes ∙ both.bytes
    ∙ ap (λ n. min n limit) (sym (united_sum int_cmp_total numbers_exact number_size c.in-Numbers.set.now c.in-Numbers.more.now both.set_in_order both.more_in_order))
    ∙ ap (λ v. min (size (new_tree v)) limit) (sym c.in-Numbers.is)

pub returns-in-Binaries-clause-bytes : goal.returns-in-Binaries-clause-bytes
returns-in-Binaries-clause-bytes c =
    let limit = c.args.limit in
    let both = c.both_bytes-in-Binaries.ensures in
    c.flat-in-Binaries.ensures.bytes ∙ both.bytes
    ∙ ap (λ n. min n limit) (sym (united_sum nat_list_cmp_total texts_exact (length {A = ℕ}) c.in-Binaries.set.now c.in-Binaries.more.now both.set_in_order both.more_in_order))
    ∙ ap (λ v. min (size (new_tree v)) limit) (sym c.in-Binaries.is)
