use Rattle.std.proofs.Common.{rules, ◌≡◌, ◌≤◌, ◌^◌, sym, subst, arith}
use Rattle.emit_expr.specs.declared.draft.Emitter.{Emitter}
use Rattle.node_code.specs.Code.{script_code}
use Rattle.link_laws.specs.Laws.{AreLinkable}
use Rattle.script_compiler.proofs.Linking.{script_linkable}
use Rattle.script_compiler.proofs.compiler.compile.Goals as goal

pub link_all-requires : goal.link_all-requires
link_all-requires c =
    let tree = c.args.tree.now in
    let b = c.args.bindings.now in
    let low : tree.nodes ≤ 2 ^ 62 = omega (arith, c.if-tree-gt-MOST_NODES.false) in
    let emitted : c.in_ok-code.code ≡ script_code b tree.main = search rules in
    let linkable = script_linkable c.code_links.ensures c.requires.numbered.main tree b c.requires.numbered.is c.requires.bound c.requires.sound low in
    let slice : c.as_slice-3.result.now ≡ c.in_ok-code.code.protos = search rules in
    subst AreLinkable (sym slice) (subst (λ (e : Emitter). AreLinkable e.protos) (sym emitted) linkable)
