use Rattle.std.proofs.Common.{map, drop}
use Rattle.op_words.specs.Chunks.{proto_of}
use Rattle.link_laws.specs.Laws.{AreLinkable}
use Rattle.script_compiler.proofs.Linking.{Links}
use Rattle.script_compiler.proofs.prototypes.link_all.Given as goal

abbrev pub invariant-loop-proto : goal.invariant-loop-proto
invariant-loop-proto l = record {
  linkable : AreLinkable (drop l.proto-index l.protos);
  done : Links l.sizes l.bindings l.protos (drop l.proto-index l.protos) (map proto_of l.linked.items);
}
