use Rattle.std.proofs.Common.{◌≡◌, ◌≤◌, ◌<◌, ◌∙◌, ◌++◌, ◌∷◌, [], ap, subst, sym, rules, arith, length, length-append}
use Rattle.value_arena.specs.Arenas as spec
use Rattle.value_arena.specs.Objects.{no_objects}
use Rattle.value_arena.proofs.Padding.{more_padded}
use Rattle.value_arena.proofs.arena.reach.Goals as goal

pub loop-alloc-preserved : goal.loop-alloc-preserved
loop-alloc-preserved c =
    let os = c.loop-alloc.owners.items in
    let few : length os < spec.owner_count = omega (arith, c.requires.slot, c.loop-alloc-test.true, c.len.ensures) in
    let now : c.push.new.self.items ≡ os ++ no_objects ∷ [] = search rules in (
      subst (λ xs. length xs ≤ spec.owner_count) (sym now) (omega (arith, few, length-append os (no_objects ∷ []))),
      ap spec.padded now ∙ more_padded os few ∙ c.loop-alloc.invariant.1,
    )
