-- The worked examples compute.
use Rattle.std.proofs.Common.{refl, lit<}
use Rattle.item_writes.specs.Worked.{Worked}

pub worked_examples : Worked
worked_examples = record {
  apart = ((refl, (refl, tt)), ((refl, tt), (tt, tt)));
  in_order = ((refl, (refl, tt)), ((refl, tt), (tt, tt)));
  names_in_order = ((tt, tt), (((tt, (tt, (tt, tt))), (tt, tt)), tt));
  has_its_places = (lit< tt, tt);
  has_place = (lit< tt, (lit< tt, tt));
  keeps_places = (refl, tt);
  removed = refl;
  closed_up = refl;
  in_front = refl;
  appended = refl;
  one_before = refl;
  two_in_all = refl;
  at_once = refl;
  one_out = refl;
  inner = refl;
  inner_path = refl;
  inner_writes = refl;
  old_path = refl;
  moved = refl;
  no_place = refl;
  filled = refl;
}
