-- The linked code of a script does what the script does.
use Rattle.std.proofs.Common.{◌≡◌, ℕ, List, [], ◌∷◌, ◌++◌, length, None, refl}
use Rattle.syntax_tree.specs.declared.bindings.Bindings.{Bindings}
use Rattle.syntax_tree.specs.declared.tree.FuncBody.{out-FuncBody}
use Rattle.syntax_tree.specs.declared.tree.Stat.{Stat}
use Rattle.syntax_tree.specs.declared.tree.Tree.{Tree}
use Rattle.op_words.specs.declared.insn.Insn.TheVariants as insn
use Rattle.code_link.specs.declared.item.Item.{Item}
use Rattle.code_link.specs.declared.item.Item.TheVariants as item
use Rattle.code_link.specs.Labels.{place_in}
use Rattle.code_link.specs.Linking.{IsLinked}
use Rattle.built_values.specs.declared.end.End.TheVariants.{Ended}
use Rattle.built_values.proofs.Together as together
use Rattle.built_source.specs.States.{Done, ExecuteAll}
use Rattle.built_source.specs.Runs as source
use Rattle.built_machine.specs.declared.code.Constant.{Constant}
use Rattle.built_machine.specs.States as machine
use Rattle.built_emitter.specs.Fits.{AllFit}
use Rattle.built_emitter.specs.Standing.{IsBound}
use Rattle.built_emitter.specs.Unbuilt.{first_unbuilt}
use Rattle.built_emitter.specs.Code.{IsScriptCode}
use Rattle.built_emitter.specs.Correct.{Behaves}
use Rattle.built_emitter.proofs.Locals.{Locals}
use Rattle.built_emitter.proofs.Reading.{reads, split}
use Rattle.built_emitter.proofs.Following.{Alike, by_machine, both_end}
use Rattle.built_emitter.proofs.Simulation.{statements_same}
use Rattle.built_emitter.proofs.BuiltBlocks.{has_report}
use Rattle.built_emitter.proofs.NeverStuck.{never_stuck}

-- from their starts both come to one report
alike : (ks : List Constant) (stats : List Stat) (items : List Item) (words : List ℕ) → IsScriptCode ks stats items → AllFit items →
    IsLinked items words → (n : ℕ) → Alike words ks (place_in items 0) n (source.start stats) machine.start
alike ks stats _ words (IsScriptCode.script body code) fit linked n =
    let items = item.Insn (insn.PrepVarargs 0) ∷ (body ++ item.Insn (insn.Return 0 1) ∷ []) in
    let place = place_in items 0 in
    let r = reads words place 0 items (length words) fit linked in
    let p = split words place body _ _ (length words) r.1 in
    by_machine words ks place n (ExecuteAll stats) [] [] [] 0 _ _ machine.start.registers machine.start.registers _ r.0 refl
    (statements_same words ks place [] stats body code _ p.0 p.1 n [] []
    (λ left le names env cells regs ls since. both_end words ks place left Done [] env cells p.0 _ regs _ Ended refl p.2.0 refl)
    [] machine.start.registers Locals.none)

pub behaves : (tree : Tree) (b : Bindings) (ks : List Constant) (items : List Item) (words : List ℕ) → IsBound tree b →
    first_unbuilt b (out-FuncBody tree.main).body ≡ None → IsScriptCode ks (out-FuncBody tree.main).body items → AllFit items →
    IsLinked items words → Behaves (out-FuncBody tree.main).body words ks
behaves tree b ks items words bound_to built code fit linked =
    let stats = (out-FuncBody tree.main).body in
    record {
      to_code = λ n r. together.to_other _ _ _ _ _ _ _ _ _ n (source.start stats) machine.start (alike ks stats items words code fit linked n) r;
      to_source = λ n q. together.to_one _ _ _ _ _ _ _ _ _ n (source.start stats) machine.start (alike ks stats items words code fit linked n) q;
      ends = λ n. together.has_report _ _ _ _ _ _ _ _ _ n (source.start stats) machine.start (alike ks stats items words code fit linked n);
      sound = λ n. never_stuck stats n (has_report tree b bound_to built n);
    }
