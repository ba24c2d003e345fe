use Rattle.std.proofs.Common.{◌≡◌, sym, Some, None, rules}
use Rattle.value_model.specs.declared.value.Value.TheVariants.{Nil}
use Rattle.std.specs.Map.{lookup}
use Rattle.value_arena.specs.Tables as spec
use Rattle.value_arena.proofs.Places.{value_of_lookup}
use Rattle.value_arena.proofs.entries.searched.Goals as goal

pub returns-in-Some : goal.returns-in-Some
unfolding spec.value_in
returns-in-Some c =
    let at : lookup (spec.same c.args.key.now) c.args.entries.now.entries ≡ Some c.in-Some.value.now = search rules in
    sym (value_of_lookup spec.same spec.is_nil Nil c.args.key.now c.args.entries.now.entries (Some c.in-Some.value.now) at)

pub returns-in-None : goal.returns-in-None
unfolding spec.value_in
returns-in-None c =
    let at : lookup (spec.same c.args.key.now) c.args.entries.now.entries ≡ None = search rules in
    sym (value_of_lookup spec.same spec.is_nil Nil c.args.key.now c.args.entries.now.entries None at)
