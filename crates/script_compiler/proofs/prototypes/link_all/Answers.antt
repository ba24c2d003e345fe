use Rattle.std.proofs.Common.{◌≡◌, drop, length, map, [], arith}
use Rattle.std.proofs.lemmas.List.{drop_all}
use Rattle.op_words.specs.Chunks.{proto_of}
use Rattle.script_compiler.proofs.Linking.{links_all}
use Rattle.script_compiler.proofs.prototypes.link_all.Goals as goal

pub returns : goal.returns
returns c =
    let l = c.loop-proto in
    let protos = c.args.protos.now in
    let done : drop l.proto-index protos ≡ [] = drop_all l.proto-index protos (omega (arith, c.loop-proto-test.false)) in
    links_all c.args.sizes.now c.args.bindings.now protos (drop l.proto-index protos) (map proto_of l.linked.items) done l.invariant.done
