use Rattle.std.proofs.Common.{◌≡◌, map, drop}
use Rattle.value_model.specs.CoreRows as core
use Rattle.value_model.specs.Parts.{meant}
use Rattle.luau_tables.specs.Worlds.{store_in}
use Rattle.lib_core.proofs.texts.print_from.Given as goal

-- what is left is printed behind the text so far
abbrev pub invariant-loop-at : goal.invariant-loop-at
invariant-loop-at l =
    let args = map (meant l.world.names) l.args in
    core.prints (store_in l.world) args l.fn.from l.fn.text.items (drop l.fn.from args) ≡ core.prints (store_in l.world) args l.at l.text.items (drop l.at args)
