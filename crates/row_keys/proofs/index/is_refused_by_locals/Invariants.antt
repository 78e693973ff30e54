use Rattle.std.proofs.Common.{◌≡◌, map}
use Rattle.std.specs.Prelude.{drop}
use Rattle.std.specs.List.{list_any}
use Rattle.item_keys.specs.Unfit.{is_unfit}
use Rattle.row_keys.proofs.index.is_refused_by_locals.Given as goal

abbrev pub invariant-loop-index : goal.invariant-loop-index
invariant-loop-index l =
    list_any (λ keys. is_unfit l.schema keys l.item) (map (λ index. index.keys) (drop l.index-index l.indexes))
    ≡ list_any (λ keys. is_unfit l.schema keys l.item) (map (λ index. index.keys) l.indexes)
