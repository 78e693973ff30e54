-- The worked examples compute.
use Rattle.std.proofs.Common.{refl}
use Rattle.item_keys.specs.ItemKey.{key_in}
use Rattle.item_keys.specs.Order.{value_order}
use Rattle.item_keys.specs.Place.{hash_place}
use Rattle.row_keys.specs.Points.{point_order}
use Rattle.row_keys.specs.Expiry.{of_seconds}
use Rattle.table_model.specs.Worked.{Worked}

pub worked : Worked
unfolding key_in value_order hash_place point_order of_seconds
worked = record {
  created = refl;
  exists = refl;
  read = refl;
  absent = refl;
  no_table = refl;
  no_key = refl;
  empty_key = refl;
  extra = refl;
  replaced = refl;
  refused = refl;
  lost = refl;
  deleted = refl;
  gone = refl;
  batch = refl;
  cancelled = refl;
  unchanged = refl;
  whole = refl;
  twice = refl;
  same_actions = refl;
  other_actions = refl;
  listed = refl;
  enabled = refl;
  told = refl;
  again = refl;
  not_enabled = refl;
  another = refl;
  lasting = refl;
  expired = refl;
  forgotten = refl;
  textual = refl;
  used_by_read = refl;
  used_for_none = refl;
  used_by_write = refl;
  refused_untold = refl;
  greater_before = refl;
  greater_after = refl;
  one_piece = refl;
  used_by_keys = refl;
  used_by_writes = refl;
  added_up = refl;
  used_by_transaction = refl;
  used_by_repeat = refl;
  dropped = refl;
}
