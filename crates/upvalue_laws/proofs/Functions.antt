-- The code of a function names upvalues that are its own, and so does the code that makes its closure.
use Rattle.std.proofs.Common.{◌≡◌, ℕ, ◌+◌, ◌-◌, ◌<◌, ◌^◌, Bool, true, false, List, [], ◌∷◌, ◌++◌, length, map, refl, sym, subst}
use Rattle.byte_text.specs.declared.fixed.StrId.{StrId}
use Rattle.op_words.specs.declared.insn.Insn.TheVariants as i
use Rattle.syntax_tree.specs.declared.bindings.Bindings.{Bindings}
use Rattle.syntax_tree.specs.declared.tree.Stat.{Stat}
use Rattle.emit_expr.specs.declared.draft.Emitter.{Emitter}
use Rattle.emit_expr.specs.declared.draft.Prototype.{Prototype}
use Rattle.emit_expr.specs.declared.draft.Variable.{Variable}
use Rattle.emit_expr.specs.Puts as puts
use Rattle.emit_expr.specs.Puts.{with_draft, with_child, with_prototype}
use Rattle.emit_expr.specs.Puts.{put as put_item}
use Rattle.emit_expr.specs.Names as names
use Rattle.emit_expr.specs.Names.{upvalues_at}
use Rattle.node_code.specs.Nodes.{FuncCode}
use Rattle.node_code.specs.Code as code
use Rattle.node_code.specs.Code.{stat_code}
use Rattle.scope_laws.specs.Sight.{Sight, visible, with_locals}
use Rattle.compiled_runs.proofs.Numbers.{AreUnder}
use Rattle.upvalue_laws.specs.Laws.{AreUpvalues, AllUpvalues}
use Rattle.upvalue_laws.proofs.States.{State, Covered, covered_both, Declared, insn}
use Rattle.upvalue_laws.proofs.Uses.{AllUp, captures_good}
use Rattle.upvalue_laws.proofs.Bodies.{all_declared, Stats, stats_good}
use Rattle.upvalue_laws.proofs.Around.{below_covered}

-- what is seen where the text of a function's block begins
abbrev pub inside : (id : ℕ) → List StrId → Sight → Sight
inside id xs s = record (with_locals xs s) { first = s.declared; func = id }

module _ (b : Bindings) where
  -- the code of a function, whose closure is made in a register
  abbrev pub GoodFunc : (func : ℕ) → List Variable → FuncCode → Type 0
  GoodFunc func vs c = (to : ℕ) (d : Emitter) → State b func vs d → State b func vs (c to d)

  all_last : (ps : List Prototype) (p : Prototype) → AllUpvalues b ps → AreUpvalues (length (upvalues_at b p.func)) p.items → AllUpvalues b (ps ++ p ∷ [])
  all_last [] p h is = (is, tt)
  all_last (q ∷ ps) p h is = (h.0, all_last ps p h.1 is)

  begun_good : (id : ℕ) (d : Emitter) → AllUpvalues b d.protos → State b id [] (puts.with_draft (puts.blank id) d)
  unfolding with_draft
  begun_good id d h = record { named = refl; variables = refl; items = tt; protos = h }

  prepared_good : (id : ℕ) (vararg : Bool) (params : ℕ) (d : Emitter) → State b id [] d → State b id [] (code.prepared vararg params d)
  prepared_good id true params d f = insn b id [] (i.PrepVarargs params) d refl f
  prepared_good id false params d f = f

  restored_good : (func : ℕ) (vs : List Variable) (d inner : Emitter) → AllUpvalues b inner.protos → State b func vs d
      → State b func vs (puts.with_draft d.draft inner)
  unfolding with_draft
  restored_good func vs d inner h f = record { named = f.named; variables = f.variables; items = f.items; protos = h }

  child_good : (func : ℕ) (vs : List Variable) (number : ℕ) (d : Emitter) → State b func vs d → State b func vs (puts.with_child number d)
  unfolding with_child
  child_good func vs number d f = record { named = f.named; variables = f.variables; items = f.items; protos = f.protos }

  added_good : (func : ℕ) (vs : List Variable) (p : Prototype) (d : Emitter) → AreUpvalues (length (upvalues_at b p.func)) p.items → State b func vs d
      → State b func vs (puts.with_prototype p d)
  unfolding with_prototype
  added_good func vs p d is f = record { named = f.named; variables = f.variables; items = f.items; protos = all_last d.protos p f.protos is }

  pub func_good : (s : Sight) (id : ℕ) (xs : List StrId) (vararg : Bool) (body : List Stat) → Stats b (inside id xs s) body → names.first_at b id ≡ s.declared
      → ((j : ℕ) → j < length xs → s.declared + j < 2 ^ 64 - 1) → AreUnder s.declared s.scope → (vs : List Variable) → AllUp b s.func vs (upvalues_at b id)
      → GoodFunc s.func vs (code.func_run b id (length xs) vararg (map (stat_code b) body))
  func_good s id xs vararg body g first few under vs up to d f =
      let begun = puts.with_draft (puts.blank id) d in
      let d1 = code.prepared vararg (length xs) begun in
      let d2 = names.declare_all (names.first_at b id) 0 (length xs) d1 in
      let d3 = code.stats_run (map (stat_code b) body) (length xs) code.no_loop d2 in
      let d4 = puts.insn (i.Return 0 1) d3 in
      let f1 = prepared_good id vararg (length xs) begun (begun_good id d f.protos) in
      let f2 : Declared b id s.declared [] (visible s.declared xs) d2 =
      subst (λ n. Declared b id s.declared [] (visible s.declared xs) (names.declare_all n 0 (length xs) d1)) (sym first)
      (all_declared b id s.declared xs s.declared 0 [] d1 few f1) in
      let covered : Covered s.declared f2.new (s.scope ++ visible s.declared xs) =
      covered_both s.declared f2.new s.scope (visible s.declared xs) (below_covered s.declared f2.new s.scope under) f2.covers in
      let f3 = stats_good b body (inside id xs s) g f2.new covered (length xs) code.no_loop d2 f2.state in
      let f4 : State b id f3.new d4 = insn b id f3.new (i.Return 0 1) d3 refl f3.state in
      let p = puts.done (length xs) vararg d4.draft in
      let own : AreUpvalues (length (upvalues_at b p.func)) p.items = subst (λ n. AreUpvalues (length (upvalues_at b n)) d4.draft.items)
      (sym f4.named) f4.items in
      let ups : AllUp b s.func vs (upvalues_at b d4.draft.func) = subst (λ n. AllUp b s.func vs (upvalues_at b n)) (sym f4.named) up in
      let o1 = insn b s.func vs (i.NewClosure to (puts.short (length d.draft.children))) _ refl (restored_good s.func vs d d4 f4.protos f) in
      let o2 = child_good s.func vs (length d4.protos) _ o1 in
      added_good s.func vs p _ own (captures_good b s.func vs (upvalues_at b d4.draft.func) ups _ o2)
