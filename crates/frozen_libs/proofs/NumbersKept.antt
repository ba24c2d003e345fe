-- Numbers of texts stay where others come.
use Rattle.std.proofs.Common.{List}
use Rattle.luau_tables.specs.Worlds.{Extends}
use Rattle.luau_tables.proofs.MoreTexts.{text_on}
use Rattle.value_model.specs.Values.{Bytes}
use Rattle.frozen_libs.specs.Numbered.{AreNumbered}
use Rattle.frozen_libs.specs.declared.names.Four.{Four}

pub numbered_on : (texts more : List Bytes) (a b c d : Bytes) (ids : Four) → Extends texts more → AreNumbered texts a b c d ids → AreNumbered more a b c d ids
numbered_on texts more a b c d ids e h =
    record {
      one = text_on texts more e ids.first.0 a h.one;
      two = text_on texts more e ids.second.0 b h.two;
      three = text_on texts more e ids.third.0 c h.three;
      four = text_on texts more e ids.fourth.0 d h.four;
    }
