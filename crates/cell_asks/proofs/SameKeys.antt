-- A table that was told of keeps the keys of its items.
use Rattle.std.proofs.Common.{◌≡◌, ap, ◌∙◌}
use Rattle.std.proofs.lemmas.Bool.{or_left}
use Rattle.attr_value.specs.Tree.{Attributes}
use Rattle.item_keys.specs.ItemKey.{key_in, key_alone, alone, has_only}
use Rattle.table_schema.specs.declared.schema.Schema.{Schema}
use Rattle.cell_model.proofs.KeptTypes.{key_alike}
use Rattle.table_history.specs.SameTable.{IsOfThatTable}

module _ (old new : Schema) (that : IsOfThatTable old new) (item : Attributes) where
  pub same_key_in : key_in new new.keys item ≡ key_in old old.keys item
  same_key_in = ap (λ keys. key_in new keys item) that.keys ∙ key_alike old new item old.keys (λ name names. that.kinds name (or_left _ _ names))

  pub same_key_alone : key_alone new new.keys item ≡ key_alone old old.keys item
  same_key_alone = λ i. alone (has_only (that.keys i) item) (same_key_in i)
