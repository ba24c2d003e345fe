use Rattle.std.proofs.Common.{subst, ◌++◌, ◌∷◌, []}
use Rattle.value_model.specs.Fresh.{library_table, math_functions, string_functions, table_functions}
use Rattle.frozen_libs.specs.Made.{Holds}
use Rattle.frozen_libs.specs.Standard.{opened}
use Rattle.frozen_libs.proofs.StandardTables.{math_filled, string_filled, table_filled, coroutine_filled}
use Rattle.frozen_libs.proofs.standard.make_libraries.Goals as goal

pub returns-clause-made : goal.returns-clause-made
returns-clause-made c h =
    let one = opened ++ library_table math_functions ∷ [] in
    let two = one ++ library_table string_functions ∷ [] in
    let three = two ++ library_table table_functions ∷ [] in
    let h1 = c.in_ok-math.ensures.made opened h in
    let h2 = c.in_ok-string.ensures.made one (subst (λ t. Holds c.library.new.names c.library.new.arena (opened ++ t ∷ [])) math_filled h1.1) in
    let h3 = c.in_ok-table.ensures.made two (subst (λ t. Holds c.library-2.new.names c.library-2.new.arena (one ++ t ∷ [])) string_filled h2.1) in
    let h4 = c.in_ok-coroutine.ensures.made three (subst (λ t. Holds c.library-3.new.names c.library-3.new.arena (two ++ t ∷ [])) table_filled h3.1) in (
      record { math = h1.0; string = h2.0; table = h3.0; coroutine = h4.0 },
      subst (λ t. Holds c.library-4.new.names c.library-4.new.arena (three ++ t ∷ [])) coroutine_filled h4.1,
    )
