use Rattle.built_emitter.proofs.BuiltBlocks.{HasBuilt}
use Rattle.built_emitter.proofs.unbuilt.+unbuilt.Given as goal

abbrev pub invariant-in_block-loop-stat : goal.invariant-in_block-loop-stat
invariant-in_block-loop-stat l = HasBuilt l.fn.bindings l.block l.stat-index
