-- Owners of objects, wide and short.
use Rattle.std.specs.Prelude.{◌<◌}
use Rattle.value_model.specs.declared.ids.Owner.{Owner}
use Rattle.value_model.specs.declared.ids.Owner.TheVariants as owner
use Rattle.value_model.specs.declared.ids.ShortOwner.{ShortOwner}
use Rattle.value_model.specs.declared.ids.ShortOwner.TheVariants as short

-- the owner that a short one stands for
abbrev pub wide : ShortOwner → Owner
wide short.Frozen = owner.Frozen
wide (short.Script n) = owner.Script n

-- it has a short form
abbrev pub IsShort : Owner → Type 0
IsShort owner.Frozen = Unit {0}
IsShort (owner.Script n) = n < 256
