use Rattle.std.proofs.Common.{List, map, refl, sym, ap, subst}
use Rattle.syntax_tree.specs.declared.notes.Visible.{Visible}
use Rattle.syntax_tree.specs.declared.tree.FuncBody.{out-FuncBody}
use Rattle.syntax_tree.specs.declared.tree.Stat.{Stat}
use Rattle.scope_laws.specs.Sight as sight
use Rattle.built_emitter.specs.Standing.{names_of, Stand}
use Rattle.built_emitter.specs.Emitted.{EmitsBlock}
use Rattle.built_emitter.proofs.BuiltBlocks.{script_stands}
use Rattle.built_emitter.proofs.EmittedScripts.{script_emitted}
use Rattle.built_emitter.proofs.script.emit_script.Goals as goal

pub emit_block-requires-clause-stand : goal.emit_block-requires-clause-stand
emit_block-requires-clause-stand c =
    subst (λ (vs : List Visible). Stand c.args.bindings.now vs (map sight.stat c.as_slice.result.now)) (sym c.new-scope.ensures)
    (subst (λ (ss : List Stat). Stand c.args.bindings.now _ (map sight.stat ss)) (sym c.as_slice.ensures) (script_stands c.args.tree.now
    c.args.bindings.now c.requires.bound))

pub returns : goal.returns
returns c =
    let body = (out-FuncBody c.args.tree.now.main).body in
    let block = subst (λ (ss : List Stat). EmitsBlock (names_of c.new-scope.result) ss c.put.new.code c.emit_block.new.code) c.as_slice.ensures
    c.in_ok-emit_block.ensures.code in
    script_emitted (record { items = c.new.result; constants = c.push.new.self; labels = 0 }) c.put.new.code c.emit_block.new.code c.put-2.new.code
    (names_of c.new-scope.result) body c.new.ensures.items refl (ap names_of c.new-scope.ensures) c.in_ok-put.ensures.item
    c.in_ok-put.ensures.labels block c.in_ok-put-2.ensures.item c.in_ok-put-2.ensures.constants c.requires.small
