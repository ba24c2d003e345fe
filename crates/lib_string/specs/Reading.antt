-- What reading arguments leaves of a world.
use Rattle.std.specs.Prelude.{◌≡◌, List, map}
use Rattle.std.specs.List.{AllByRecursion}
use Rattle.value_model.specs.Parts.{meant}
use Rattle.value_model.specs.declared.value.Value.{Value}
use Rattle.luau_tables.specs.Own.{AreTexts}
use Rattle.luau_tables.specs.Worlds.{IsWorld, MayUseIn, Extends}
use Rattle.luau_tables.specs.declared.globals.LibWorld.{LibWorld}

-- the script may use each of some values
abbrev pub MayUseAll : LibWorld → List Value → Type 0
MayUseAll w vs = AllByRecursion (MayUseIn w) vs

-- texts may have come, and all else is as it was
pub record AddsTexts (before after : LibWorld) : Type 0 where
  pub kept : after ≡ record before { names = after.names }
  pub extends : Extends before.names after.names
  pub texts : AreTexts after.names

-- and the arguments mean what they did
pub record Reads (before after : LibWorld) (args : List Value) : Type 0 where
  pub adds : AddsTexts before after
  pub world : IsWorld after
  pub usable : MayUseAll after args
  pub same : map (meant after.names) args ≡ map (meant before.names) args
