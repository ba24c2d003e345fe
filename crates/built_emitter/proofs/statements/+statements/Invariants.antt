use Rattle.built_emitter.specs.Standing.{names_of}
use Rattle.built_emitter.proofs.EmittedBlocks.{HasFirst}
use Rattle.built_emitter.proofs.EmittedStands.{HasScope}
use Rattle.built_emitter.proofs.statements.+statements.Given as goal

abbrev pub invariant-emit_block-loop-stat : goal.invariant-emit_block-loop-stat
invariant-emit_block-loop-stat l =
    HasFirst l.fn.bindings l.block l.stat-index (names_of l.fn.scope) (names_of l.scope) l.fn.code l.code × HasScope l.fn.bindings l.block
    l.stat-index l.fn.scope l.scope
