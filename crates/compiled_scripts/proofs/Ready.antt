-- The functions of a compiled script's chunk are ready, where each has the registers that its code names.
use Rattle.std.proofs.Common.{◌≡◌, ℕ, suc, ◌≤◌, ◌^◌, List, [], ◌∷◌, ◌++◌, length, Some, refl, sym, ap, ◌∙◌, subst, arith, length-append}
use Rattle.std.specs.Prelude.{slice_get}
use Rattle.byte_text.proofs.Numbering.{slice_get_front}
use Rattle.op_words.specs.Chunks.{ChunkOf, ProtoOf}
use Rattle.machine_meaning.specs.WellFormed as well
use Rattle.syntax_tree.specs.declared.bindings.Bindings.{Bindings}
use Rattle.emit_expr.specs.declared.draft.Prototype.{Prototype}
use Rattle.emit_expr.specs.Names.{upvalues_at}
use Rattle.function_registers.specs.declared.walk.FuncRegisters.{FuncRegisters}
use Rattle.link_laws.specs.Laws.{AreLinkable}
use Rattle.operand_laws.specs.Fitting.{AllFit}
use Rattle.shape_laws.specs.Shaped.{AreShaped}
use Rattle.upvalue_laws.specs.Laws.{AreUpvalues, AllUpvalues}
use Rattle.chunk_laws.proofs.Whole.{AreReady, captured_there}
use Rattle.code_simulation.proofs.Changes.{append_one}
use Rattle.script_compiler.specs.Compiled.{IsLinkedProto, AreLinked}
use Rattle.compiled_scripts.proofs.Linked.{linked_there}

-- the registers that its code names are the function's, they are few, and its parameters have some
pub record HasRoom (p : Prototype) (q : ProtoOf) : Type 0 where
  pub fits : AllFit q.registers p.items
  pub some : 1 ≤ q.registers
  pub few : q.registers ≤ 250
  pub few_params : p.params ≤ q.registers

abbrev pub HaveRoom : List Prototype → List ProtoOf → Type 0
HaveRoom [] qs = Unit {0}
HaveRoom (p ∷ ps) [] = Unit {0}
HaveRoom (p ∷ ps) (q ∷ qs) = HasRoom p q × HaveRoom ps qs

get_at : (done : List ProtoOf) (q : ProtoOf) (qs : List ProtoOf) → slice_get (done ++ q ∷ qs) (length done) ≡ Some q
get_at [] q qs = refl
get_at (x ∷ done) q qs = get_at done q qs

module _ (sizes : List FuncRegisters) (b : Bindings) (whole : List Prototype) (chunk : ChunkOf) (few : length whole ≤ 2 ^ 32)
    (links : AreLinked sizes b whole chunk.protos) (captured : (func : ℕ) → length (upvalues_at b func) ≤ 200) where
  upvalues_are : (p : Prototype) (q : ProtoOf) → IsLinkedProto sizes b p q → q.upvalues ≡ length (upvalues_at b p.func)
  upvalues_are p q l = let most = captured p.func in let narrowed = l.upvalues in omega (arith, most, narrowed)

  each_captured : (c : ℕ) (p : Prototype) → slice_get whole c ≡ Some p → well.upvalues_at chunk (Some c) ≡ length (upvalues_at b p.func)
  each_captured c p e =
      let t = linked_there sizes b whole chunk.protos links c p e in
      ap well.upvalues_of t.found ∙ upvalues_are p t.proto t.linked

  -- those behind others, where all of these together are the chunk's
  pub are_ready : (n : ℕ) (before ps : List Prototype) (done qs : List ProtoOf) → length before ≡ n → length done ≡ n → before ++ ps ≡ whole
      → done ++ qs ≡ chunk.protos → AreLinked sizes b ps qs → AreLinkable ps → AreShaped b (length chunk.strings) before ps → AllUpvalues b ps
      → HaveRoom ps qs → AreReady chunk b n before ps qs
  are_ready n before [] done [] at there all same l links shapes ups room = tt
  are_ready n before [] done (q ∷ qs) at there all same l links shapes ups room = absurd l
  are_ready n before (p ∷ ps) done [] at there all same l links shapes ups room = absurd l
  are_ready n before (p ∷ ps) done (q ∷ qs) at there all same l links shapes ups room =
      let one = l.0 in
      let its = room.0 in
      let params = one.params in
      let many = its.few in
      let most = its.few_params in
      let count = sym (ap length all) ∙ length-append before (p ∷ ps) in
      let params_are : q.params ≡ p.params = omega (arith, params, many, most) in (
        record {
          there = ap (λ qs'. slice_get qs' n) (sym same) ∙ ap (slice_get (done ++ q ∷ qs)) (sym there) ∙ get_at done q qs;
          number = at;
          shaped = shapes.0;
          linkable = links.0;
          fits = its.fits;
          upvalues = subst (λ m. AreUpvalues m p.items) (sym (upvalues_are p q one)) ups.0;
          code = one.code;
          consts = one.consts;
          children = one.children;
          vararg = one.vararg;
          params = params_are;
          captured = captured_there chunk b before (omega (arith, count, few)) (λ c x e. each_captured c x (ap (λ xs. slice_get xs c) (sym all)
              ∙ slice_get_front before (p ∷ ps) c x e));
          some = its.some;
          few = its.few;
          room = omega (arith, params_are, most);
        },
        are_ready (suc n) (before ++ p ∷ []) ps (done ++ q ∷ []) qs (length-append before (p ∷ []) ∙ omega (arith, at)) (length-append done (q ∷ [])
            ∙ omega (arith, there)) (append_one before p ps ∙ all) (append_one done q qs ∙ same) l.1 links.1 shapes.1 ups.1 room.1,
      )
