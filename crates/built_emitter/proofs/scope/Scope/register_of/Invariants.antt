use Rattle.std.proofs.Common.{◌≡◌, ◌≤◌, length, take, reverse}
use Rattle.built_emitter.specs.Standing.{register_at}
use Rattle.built_emitter.proofs.scope.Scope.register_of.Given as goal

abbrev pub invariant-loop-left : goal.invariant-loop-left
invariant-loop-left l =
    (l.left ≤ length l.self-inside.locals.items) × (register_at (reverse (take l.left l.self-inside.locals.items)) l.local ≡ register_at l.self l.local)

abbrev pub decreases-loop-left : goal.decreases-loop-left
decreases-loop-left l = l.left
