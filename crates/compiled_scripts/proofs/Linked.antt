-- A compiled script's chunk has the linked code of each function that was emitted, and the texts of the strings.
use Rattle.std.proofs.Common.{◌≡◌, ℕ, zero, suc, ◌+◌, ◌≤◌, min, max, List, [], ◌∷◌, length, map, Some, refl, sym, ap, ◌∙◌, subst, arith, length-append}
use Rattle.std.specs.Prelude.{slice_get}
use Rattle.std.proofs.lemmas.Option.{unwrap_or-slice_get}
use Rattle.byte_text.specs.declared.fixed.StrId.{StrId}
use Rattle.syntax_tree.specs.declared.bindings.Bindings.{Bindings}
use Rattle.syntax_tree.specs.declared.tree.FuncBody.{FuncBody, out-FuncBody}
use Rattle.syntax_tree.specs.declared.tree.Tree.{Tree}
use Rattle.syntax_tree.specs.Need.{need}
use Rattle.syntax_tree.specs.Numbers.{numbered}
use Rattle.source_meaning.specs.Expressions.{text_of}
use Rattle.op_words.specs.Chunks.{ChunkOf, ProtoOf}
use Rattle.code_link.specs.declared.item.Item.{Item}
use Rattle.code_link.specs.declared.item.Item.TheVariants as item
use Rattle.emit_expr.specs.declared.draft.Emitter.{Emitter}
use Rattle.emit_expr.specs.declared.draft.Prototype.{Prototype}
use Rattle.emit_expr.specs.Puts.{start}
use Rattle.node_code.specs.Code.{script_code}
use Rattle.scope_laws.specs.Sight.{Sight, Part, function, Sees}
use Rattle.function_registers.specs.declared.walk.FuncRegisters.{FuncRegisters}
use Rattle.function_registers.specs.Registers.{all_entries, registers_of}
use Rattle.register_laws.proofs.Rising.{registers_found}
use Rattle.operand_laws.specs.Fitting as operands
use Rattle.operand_laws.specs.Laws.{IsFitting, AreFitting}
use Rattle.script_compiler.specs.Compiled as compiled
use Rattle.script_compiler.specs.Compiled.{IsLinkedProto, AreLinked, IsCompiled}
use Rattle.compiled_runs.proofs.Scopes.{same_some, some_none}
use Rattle.compiled_runs.proofs.Reading.{AllFit}
use Rattle.compiled_runs.proofs.Functions.{finished, its_prototype}
use Rattle.compiled_runs.proofs.Bodies.{func_protos}
use Rattle.compiled_runs.proofs.Chunks.{Linked, Chunk}
use Rattle.compiled_scripts.proofs.Counts.{HasFew, HaveFew}

-- ---- lists

-- a function that was emitted is linked at the same place
pub record LinkedThere (sizes : List FuncRegisters) (b : Bindings) (p : Prototype) (qs : List ProtoOf) (n : ℕ) : Type 0 where
  pub proto : ProtoOf
  pub found : slice_get qs n ≡ Some proto
  pub linked : IsLinkedProto sizes b p proto

pub linked_there : (sizes : List FuncRegisters) (b : Bindings) (ps : List Prototype) (qs : List ProtoOf) → AreLinked sizes b ps qs → (n : ℕ) (p : Prototype)
    → slice_get ps n ≡ Some p → LinkedThere sizes b p qs n
linked_there sizes b [] [] h n p e = some_none e
linked_there sizes b [] (q ∷ qs) h n p e = some_none e
linked_there sizes b (x ∷ ps) [] h n p e = absurd h
linked_there sizes b (x ∷ ps) (q ∷ qs) h zero p e =
    record { proto = q; found = refl; linked = subst (λ y. IsLinkedProto sizes b y q) (same_some e) h.0 }
linked_there sizes b (x ∷ ps) (q ∷ qs) h (suc n) p e =
    let t = linked_there sizes b ps qs h.1 n p e in record { proto = t.proto; found = t.found; linked = t.linked }

fitting_there : (ps : List Prototype) → AreFitting ps → (n : ℕ) (p : Prototype) → slice_get ps n ≡ Some p → IsFitting p
fitting_there [] h n p e = some_none e
fitting_there (x ∷ ps) h zero p e = subst IsFitting (same_some e) h.0
fitting_there (x ∷ ps) h (suc n) p e = fitting_there ps h.1 n p e

few_there : (b : Bindings) (ps : List Prototype) → HaveFew b ps → (n : ℕ) (p : Prototype) → slice_get ps n ≡ Some p → HasFew b p
few_there b [] h n p e = some_none e
few_there b (x ∷ ps) h zero p e = subst (HasFew b) (same_some e) h.0
few_there b (x ∷ ps) h (suc n) p e = few_there b ps h.1 n p e

fields_fit : (count : ℕ) (items : List Item) → operands.AllFit count items → AllFit items
fields_fit count [] h = tt
fields_fit count (item.Insn i ∷ is) h = (h.0.fit, fields_fit count is h.1)
fields_fit count (item.Branch i l ∷ is) h = (h.0.fit, fields_fit count is h.1)
fields_fit count (item.Label l ∷ is) h = fields_fit count is h

text_there : (texts : List (List ℕ)) (xs : List StrId) (i : ℕ) (x : StrId) → slice_get xs i ≡ Some x
    → slice_get (map (compiled.text_of texts) xs) i ≡ Some (text_of texts x)
text_there texts [] i x e = some_none e
text_there texts (y ∷ xs) zero x e = ap Some (unwrap_or-slice_get texts y.0 [] ∙ ap (text_of texts) (same_some e))
text_there texts (y ∷ xs) (suc i) x e = text_there texts xs i x e

-- ---- a script

module _ (main : FuncBody) (b : Bindings) (texts : List (List ℕ)) (chunk : ChunkOf) (fitting : AreFitting (script_code b (numbered main).main).protos)
    (counts : HaveFew b (script_code b (numbered main).main).protos)
    (few_registers : (f : FuncBody) (s : Sight) (after : List Part) → Sees (numbered main).main s (function f ∷ after) → need f ≤ 250)
    (c : IsCompiled (numbered main) b texts chunk) where
  abbrev tree : Tree
  tree = numbered main

  abbrev whole : Emitter
  whole = script_code b tree.main

  pub strings : (i : ℕ) (x : StrId) → slice_get whole.strings i ≡ Some x → slice_get chunk.strings i ≡ Some (text_of texts x)
  strings i x e = ap (λ ts. slice_get ts i) c.strings ∙ text_there texts whole.strings i x e

  there : (n : ℕ) (q : Prototype) → slice_get whole.protos n ≡ Some q → LinkedThere (all_entries tree.main) b q chunk.protos n
  there n q e = linked_there (all_entries tree.main) b whole.protos chunk.protos c.protos n q e

  linked : (q : Prototype) (proto : ProtoOf) → IsFitting q → HasFew b q → IsLinkedProto (all_entries tree.main) b q proto → Linked b q proto
  linked q proto f few l =
      let few_params = f.few_params in
      let params = l.params in
      let captured = few.upvalues in
      let upvalues = l.upvalues in
      let constants = few.constants in
      let children = few.children in
      record {
        params = omega (arith, few_params, params);
        vararg = l.vararg;
        upvalues = omega (arith, captured, upvalues);
        fits = fields_fit (max (need f.func) 1) q.items f.fits;
        code = l.code;
        constants = l.consts;
        children = l.children;
        few_constants = omega (arith, constants);
        few_children = omega (arith, children);
        few_upvalues = omega (arith, captured);
      }

  enough : (n : ℕ) (q : Prototype) (proto : ProtoOf) (f : FuncBody) (s : Sight) (after : List Part) → slice_get whole.protos n ≡ Some q
      → slice_get chunk.protos n ≡ Some proto → Sees tree.main s (function f ∷ after) → (out-FuncBody f).id ≡ q.func → need f ≤ proto.registers
  enough n q proto f s after e found sees id =
      let t = there n q e in
      let few = few_registers f s after sees in
      let named : proto.registers ≡ t.proto.registers = ap (λ (x : ProtoOf). x.registers) (same_some (sym found ∙ t.found)) in
      let listed : t.proto.registers ≡ registers_of tree.main q.func = t.linked.registers in
      let own : registers_of tree.main q.func ≡ min (max (need f) 1) 255 =
      ap (registers_of tree.main) (sym id) ∙ registers_found main tree s f after refl sees in
      omega (arith, few, named, listed, own)

  last : chunk.main + 1 ≡ length whole.protos
  last =
      let q = its_prototype b tree.main start in
      let before = (finished b tree.main start).protos in
      let count : length whole.protos ≡ length before + 1 = ap length (func_protos b tree.main 0 start) ∙ length-append before (q ∷ []) in
      let few = c.few_protos in
      let at = c.main in
      omega (arith, count, few, at)

  -- so it is a chunk of the functions that were emitted
  pub is_chunk : Chunk chunk b whole tree.main
  is_chunk = record {
    each = λ n q e.
        let t = there n q e in
        record { proto = t.proto; found = t.found; linked = linked q t.proto (fitting_there whole.protos fitting n q e) (few_there b whole.protos counts n q e) t.linked };
    registers = enough;
    few = c.few_protos;
    main_last = last;
  }
