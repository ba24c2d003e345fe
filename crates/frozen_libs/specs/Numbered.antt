-- Four texts and their numbers.
use Rattle.std.specs.Prelude.{◌≡◌, List, Some, slice_get}
use Rattle.value_model.specs.Values.{Bytes}
use Rattle.frozen_libs.specs.declared.names.Four.{Four}

pub record AreNumbered (texts : List Bytes) (first second third fourth : Bytes) (ids : Four) : Type 0 where
  pub one : slice_get texts ids.first.0 ≡ Some first
  pub two : slice_get texts ids.second.0 ≡ Some second
  pub three : slice_get texts ids.third.0 ≡ Some third
  pub four : slice_get texts ids.fourth.0 ≡ Some fourth
