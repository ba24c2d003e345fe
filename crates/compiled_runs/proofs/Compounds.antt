-- A compound assignment of an arithmetic operator to a local: the operator's value goes into the local's own register.
use Rattle.std.proofs.Common.{Bool, true, false, ◌≡◌, ℕ, suc, ◌+◌, ◌≤◌, ℤ, max, List, [], ◌∷◌, length, Option, Some, None, refl, sym, ap, ◌∙◌, subst, arith}
use Rattle.std.specs.Prelude.{unwrap_or}
use Rattle.byte_text.specs.declared.fixed.StrId.{StrId}
use Rattle.syntax_tree.specs.declared.bindings.Bindings.{Bindings}
use Rattle.syntax_tree.specs.declared.bindings.Bound.TheVariants as bound
use Rattle.syntax_tree.specs.declared.bindings.Bound.{Bound}
use Rattle.syntax_tree.specs.declared.tree.BinOp.{BinOp}
use Rattle.syntax_tree.specs.declared.tree.BinOp.TheVariants as op
use Rattle.syntax_tree.specs.declared.tree.Expr.{Expr}
use Rattle.syntax_tree.specs.declared.tree.ExprKind.{out-ExprKind}
use Rattle.syntax_tree.specs.declared.tree.ExprKind.TheOpen as level
use Rattle.syntax_tree.specs.declared.tree.Stat.{Stat}
use Rattle.syntax_tree.specs.declared.tree.StatKind.{out-StatKind}
use Rattle.syntax_tree.specs.Need.{StatNeed, need_expr, need_stat, parts_need}
use Rattle.value_model.specs.declared.operator.ArithOp.{ArithOp}
use Rattle.value_model.specs.Values.{Value, Number}
use Rattle.value_model.specs.Choices.{Operation, Arith}
use Rattle.source_meaning.specs.States.{Node, of_stat, cell_of}
use Rattle.source_meaning.specs.States as source
use Rattle.source_meaning.specs.Moves as source_moves
use Rattle.source_meaning.specs.Statements as statements
use Rattle.op_words.specs.declared.chunk.Const.TheVariants as constants
use Rattle.op_words.specs.declared.insn.Insn.TheVariants as insns
use Rattle.machine_meaning.specs.States.{Val, held}
use Rattle.machine_meaning.specs.States as machine
use Rattle.machine_meaning.specs.Moves as machine_moves
use Rattle.emit_expr.specs.declared.draft.Emitter.{Emitter}
use Rattle.emit_expr.specs.Puts.{insn, constant_place, with_constant}
use Rattle.emit_expr.specs.Names.{bound_at, is_captured, register_of}
use Rattle.emit_expr.specs.Operators.{arithmetic, arithmetic_constant}
use Rattle.emit_laws.proofs.Grows as grows
use Rattle.emit_laws.proofs.Keeps as keeps
use Rattle.node_code.specs.Nodes.{ExprCode, Target, Named, operand_at, operand_run}
use Rattle.node_code.specs.Conditions.{near_right, operate_by}
use Rattle.node_code.specs.Code.{expr_code, plain, operated, update_own, update_local, update_run}
use Rattle.scope_laws.specs.Sight.{Part, expr, stat}
use Rattle.code_simulation.specs.Slots.{Slot, Temp, Local, local_at}
use Rattle.code_simulation.specs.Relation.{Dyn, at, cells_s, cells_m, Setting}
use Rattle.code_simulation.proofs.Along.{Alike, CallsGo, File, Here, inside, frame, env_of, Reads, source_at, machine_at, Has, Same}
use Rattle.code_simulation.proofs.Parts.{Sight, over, in_register, constant, OperandRuns, Stays, Operates}
use Rattle.code_simulation.proofs.Names.{look_in, steady_all}
use Rattle.code_simulation.proofs.World.{pop, top_is, read, read_plain}
use Rattle.code_simulation.proofs.Moving.{source_goes, target_goes}
use Rattle.code_simulation.proofs.Registers.{row_here, given}
use Rattle.code_simulation.proofs.Operations.{first_is, operation_here}
use Rattle.code_simulation.proofs.Values.{own_stays, local_stays}
use Rattle.code_simulation.proofs.Operators.{IsOperation, operate_row, under, registers_operate, right_constant_operates}
use Rattle.code_simulation.proofs.Functions.{written}
use Rattle.code_simulation.proofs.Blocks.{Jumps, StatRuns}
use Rattle.code_simulation.proofs.Updates.{reads_local}
use Rattle.compiled_runs.proofs.Places.{here, before, before_put, here_constant}
use Rattle.compiled_runs.proofs.Scopes.{Found}
use Rattle.compiled_runs.proofs.Standing.{Script, weak, At, pushed, kept, next_expr, Stands, local, upvalue, global, name_stands}
use Rattle.compiled_runs.proofs.Constants.{constant_known}
use Rattle.compiled_runs.proofs.NodeLevels.{code_of, stat_code_of, stat_need_of}
use Rattle.compiled_runs.proofs.Nodes.{Runs, In, has_temp, reads}
use Rattle.compiled_runs.proofs.Leaves.{Holds}
use Rattle.compiled_runs.proofs.Following.{value_keeps}
use Rattle.compiled_runs.proofs.Operators.{near_is, IsArithmetic}
use Rattle.compiled_runs.proofs.Statements.{Begins, Does, Performs, in_statement, plain_goes}

module _ (p : Setting) (most : ℕ) (calls : (i : ℕ) → i ≤ most → CallsGo p i) where
  -- where a local is found under a name
  abbrev target_at : Here p most → List Slot → StrId → source.Target
  target_at h l x = statements.target_of (cell_of (env_of p most h l) x) x

  -- the value of an operation is stored in a local, by the instruction that operates
  stored : (x : StrId) (v : Local) (node : Node) (h : Here p most) (l : List Slot) (last to left : ℕ) (k : List source.Frame) (vs : List Value)
      (d : Dyn) (file : File) → local_at l x ≡ Some v → Has p most h left l d file
      → ((d2 : Dyn) (file2 : File) → Has p most h left l d2 file2 → Same p most h left source.Done k l d2 to file2)
      → Alike p left (source_at p most h (source.GiveAll vs) (source.Awaits node (source.Wants source.One) ∷ source.StoresIn node (target_at h l x) ∷ k)
      (env_of p most h l) d)
      (machine_moves.state (machine.GiveAll vs) (machine_moves.waits_for (machine.Into v.register to) (frame p most h last file)) h.below_m d.code)
  stored x v node h l last to left k vs d file found w go =
      let z = source_moves.first vs in
      let q = machine.Into v.register to in
      source_goes p refl
      (source_goes p refl
      (written p most h l d file x v z found w
      (Alike p left (source_at p most h (source.Store ((node, target_at h l x) ∷ []) (z ∷ [])) k (env_of p most h l) d)
      (machine_moves.state (machine.GiveAll vs) (machine_moves.waits_for q (frame p most h last file)) h.below_m d.code))
      (λ d2 file2 source_is set_is top_is w2.
      source_goes p
      (ap (λ c. statements.store_one p.texts (statements.target_of c x) z node [] [] (inside p most h) k (env_of p most h l) d.script)
      (look_in l h.act.outer x v found)
      ∙ ap (λ y. source_moves.now (source.Store [] []) (inside p most h) k (env_of p most h l) y) source_is)
      (target_goes p
      (ap (λ u. machine_moves.give v.register u to (machine_moves.waits_for q (frame p most h last file)) h.below_m d.code) (sym (first_is vs))
      ∙ ap (λ y. machine_moves.on (machine_moves.go to) y h.below_m) (set_is q last))
      (source_goes p refl (go d2 file2 w2))))))

  -- the rest of a compound assignment, where the value that was there is given
  updates_into : (node : Node) (o : BinOp) (operation : Value → Value → Operation) (b : Expr) (x : StrId) (v : Local) (own1 : Bool) (sees1 : Sight)
      (own2 : Bool) (sees2 : Sight) (h : Here p most) (l : List Slot) (mid last to left : ℕ) → left ≤ most
      → (k : List source.Frame) (u : Value) (d : Dyn) (file : File) → IsOperation o operation (source.Wants source.One) → local_at l x ≡ Some v
      → Has p most h left (over own1 u l) d file → sees1 file.registers u → Stays p most h l own1 sees1
      → ((u : Value) → OperandRuns p most b h (over own1 u l) mid last own2 sees2) → Operates p most h last operation sees1 sees2 v.register to
      → length l ≤ h.proto.registers
      → ((i : ℕ) → i ≤ left → (d2 : Dyn) (file2 : File) → Has p most h i l d2 file2 → Same p most h i source.Done k l d2 to file2)
      → Same p most h left (source.Give u) (source.Reads node o (target_at h l x) b ∷ k) l d mid file
  updates_into node o operation b x v own1 sees1 own2 sees2 h l mid last to left le k u d file is found w see stays b_runs operates room go =
      source_goes p refl (evaluated own1 w stays b_runs)
    where
      both : (i : ℕ) → i ≤ left → (z : Value) (d2 : Dyn) (file2 : File) → Has p most h i l d2 file2 → sees1 file2.registers u
          → sees2 file2.registers z → Same p most h i (source.Give z)
          (source.RightOperand node o u ∷ source.StoresIn node (target_at h l x) ∷ k) l d2 last file2
      both i lt z d2 file2 w2 see1 see2 =
          operation_here p most calls (operation u z) h l i (omega (arith, le, lt)) node (source.Wants source.One)
          (source.StoresIn node (target_at h l x) ∷ k) (machine.Into v.register to) last file2 file2 d2 room w2 (steady_all l file2.registers)
          (λ n lt2 vs d3 file3 w3 steady. stored x v node h l last to n k vs d3 file3 found w3 (go n (omega (arith, lt, lt2))))
          _ _
          (operate_row p most o operation (source.Wants source.One) node u z h l (source.StoresIn node (target_at h l x) ∷ k) d2 is)
          (operates u z d2 file2 see1 see2)

      evaluated : (own : Bool) → Has p most h left (over own u l) d file → Stays p most h l own sees1
          → ((u : Value) → OperandRuns p most b h (over own u l) mid last own2 sees2)
          → Same p most h left (source.Evaluate b) (source.RightOperand node o u ∷ source.StoresIn node (target_at h l x) ∷ k) l d mid file
      evaluated true w stays b_runs =
          b_runs u left le (source.RightOperand node o u ∷ source.StoresIn node (target_at h l x) ∷ k) d file w
          (λ i lt z d2 file2 w2 see2 steady.
          let w3 = under p most own2 z h (Temp u ∷ l) d2 file2 w2 in both i lt z d2 file2 (pop w3) (stays i u d2 file.registers file2 see w3 steady) see2)
      evaluated false w stays b_runs =
          b_runs u left le (source.RightOperand node o u ∷ source.StoresIn node (target_at h l x) ∷ k) d file w
          (λ i lt z d2 file2 w2 see2 steady.
          let w3 = under p most own2 z h l d2 file2 w2 in both i lt z d2 file2 w3 (stays i u d2 file.registers file2 see w3 steady) see2)

  -- of a local that no closure may capture: it is read where it stands
  pub into_own : (s : Stat) (o : BinOp) (operation : Value → Value → Operation) (t b : Expr) (x : StrId) (v : Local) (own2 : Bool)
      (sees2 : Sight) (h : Here p most) (l : List Slot) (j : Jumps) (from last to : ℕ) → IsOperation o operation (source.Wants source.One)
      → out-StatKind s.kind ≡ level.Compound o t b → out-ExprKind t.kind ≡ level.Name x → local_at l x ≡ Some v → v.captured ≡ false
      → OperandRuns p most b h l from last own2 sees2 → Operates p most h last operation (in_register v.register) sees2 v.register to
      → length l ≤ h.proto.registers → StatRuns p most s h l j from to (λ c. l)
  into_own s o operation t b x v own2 sees2 h l j from last to is kind name found plain b_runs operates room left le k d file w ways go =
      reads_local p most calls s o t b x v h l left k d _ kind name found
      (updates_into (of_stat s) o operation b x v false (in_register v.register) own2 sees2 h l from last to left le k
      (at (cells_s d) v.cell) d file is found w (read_plain x v found plain w) (local_stays p most x v h l found plain)
      (λ u. b_runs) operates room (λ i lt. go i lt 0))

  -- and of any local, whose value is copied first
  pub into_copied : (s : Stat) (o : BinOp) (operation : Value → Value → Operation) (t b : Expr) (x : StrId) (v : Local) (own2 : Bool)
      (sees2 : Sight) (h : Here p most) (l : List Slot) (j : Jumps) (from mid last to : ℕ) → IsOperation o operation (source.Wants source.One)
      → out-StatKind s.kind ≡ level.Compound o t b → out-ExprKind t.kind ≡ level.Name x → local_at l x ≡ Some v
      → Reads p most h from (insns.Move (length l) v.register) mid → ((u : Value) → OperandRuns p most b h (Temp u ∷ l) mid last own2 sees2)
      → Operates p most h last operation (in_register (length l)) sees2 v.register to
      → length l ≤ h.proto.registers → StatRuns p most s h l j from to (λ c. l)
  into_copied s o operation t b x v own2 sees2 h l j from mid last to is kind name found reads b_runs operates room left le k d file w ways go =
      reads_local p most calls s o t b x v h l left k d _ kind name found
      (subst (λ u. Alike p left (source_at p most h (source.Give u) (source.Reads (of_stat s) o (target_at h l x) b ∷ k) (env_of p most h l) d)
      (machine_at p most h from file d)) (sym (read x v found w))
      (given p most h machine.Idle l mid from left (source.Reads (of_stat s) o (target_at h l x) b ∷ k)
      (held (cells_m d) (file.registers v.register)) d file file _ w (steady_all l file.registers)
      (row_here p most h from mid file d (insns.Move (length l) v.register) reads)
      (λ i lt u d2 file2 w2 steady.
      updates_into (of_stat s) o operation b x v true (in_register (length l)) own2 sees2 h l mid last to i (omega (arith, le, lt)) k u d2 file2 is found
      w2 (top_is w2) (own_stays p most h l) b_runs operates room (λ n lt2. go n (omega (arith, lt, lt2)) 0))))

-- ---- its code

-- the operator's code in a compound assignment is that of arithmetic
pub record IsUpdate (o : BinOp) : Type 0 where
  pub operates : (y : ExprCode) (to free : ℕ) (d : Emitter) → operated o y to free d ≡ operate_by (near_right y d) o to free y (free + 1) d
  pub own : (y : ExprCode) (register free : ℕ) (d : Emitter)
      → update_own o y register free d ≡ operate_by (near_right y d) o register register y free d

module _ (p : Setting) (most : ℕ) (calls : (i : ℕ) → i ≤ most → CallsGo p i) (b : Bindings) (whole : Emitter) (script : Script p b whole) where
  module _ (y : Expr) (hy : Holds p most calls b whole script y) (h : Here p most) (r : Runs p most b whole script h) where
    -- the right operand is a constant, or its code comes first
    abbrev pub own_by : Option ℤ → Bool
    own_by None = has_temp (expr_code b y).own
    own_by (Some n) = false

    abbrev pub sees_by : Option ℤ → (at : ℕ) → Emitter → Sight
    sees_by None at d = in_register (operand_at (expr_code b y) at d)
    sees_by (Some n) at d = constant (Number n)

    abbrev pub last_by : Option ℤ → (at : ℕ) → Emitter → ℕ
    last_by None at d = here (operand_run (expr_code b y) at d)
    last_by (Some n) at d = here d

    pub operand_by : (q : Option ℤ) (o : BinOp) (to left at : ℕ) (l : List Slot) (d : Emitter) → near_right (expr_code b y) d ≡ q → length l ≡ at
        → At p most b whole script h r (expr y ∷ []) l d → d.draft.func ≡ r.final.func → length l + (need_expr y).need ≤ h.proto.registers
        → In p most b whole script h r (operate_by q o to left (expr_code b y) at d)
        → OperandRuns p most y h l (here d) (last_by q at d) (own_by q) (sees_by q at d)
    operand_by None o to left at l d near e a func room s =
        let c = expr_code b y in
        let s1 = before_put r.final whole _ (operand_run c at d) s in
        subst (λ m. In p most b whole script h r (operand_run c m d)
        → OperandRuns p most y h l (here d) (here (operand_run c m d)) (has_temp c.own) (in_register (operand_at c m d))) e
        (λ s. (hy.operand h r [] l d (record { at = weak p most b whole script h r (expr y ∷ []) l d a; inside = s; func = func; room = room })).0) s1
    operand_by (Some n) o to left at l d near e a func room s = hy.number n (near_is (expr_code b y).number d n near) h l (here d)

    pub operates_by : (q : Option ℤ) (o : BinOp) (ao : ArithOp) → IsArithmetic o ao → (to left at : ℕ) (d : Emitter)
        → In p most b whole script h r (operate_by q o to left (expr_code b y) at d)
        → Operates p most h (last_by q at d) (Arith ao) (in_register left) (sees_by q at d) to (here (operate_by q o to left (expr_code b y) at d))
    operates_by None o ao ar to left at d s =
        let c = expr_code b y in
        let d2 = operand_run c at d in
        let right = operand_at c at d in
        registers_operate p most ao h (arithmetic o to left right) (here d2) left right to _
        (reads p most b whole script h r (arithmetic o to left right) d2 s)
        (λ f fs w. ar.registers p.chunk h.proto.code to left right _ f fs w)
    operates_by (Some n) o ao ar to left at d s =
        let k = constant_place (constants.Num n) d in
        let d2 = with_constant (constants.Num n) d in
        let d3 = insn (arithmetic_constant o to left k) d2 in
        right_constant_operates p most ao h (arithmetic_constant o to left k) (here d) left k to (here d3) (Number n)
        (subst (λ j. Reads p most h j (arithmetic_constant o to left k) (here d3)) (here_constant (constants.Num n) d)
        (reads p most b whole script h r (arithmetic_constant o to left k) d2 s))
        (λ f fs w. ar.with_right p.chunk h.proto.code to left k (here d3) f fs w)
        (constant_known p most b whole script h r (constants.Num n) d (before_put r.final whole _ d2 s))

  same_local : {j k : ℕ} → bound.Local j ≡ bound.Local k → j ≡ k
  same_local e = cc

  up_local : {j k : ℕ} → bound.Up j ≡ bound.Local k → ⊥
  up_local e = cc

  global_local : {k : ℕ} → bound.Global ≡ bound.Local k → ⊥
  global_local e = cc

  pub local_found : (h : Here p most) (r : Runs p most b whole script h) (x : StrId) (l : List Slot) (d : Emitter) (o : Bound) (k : ℕ)
      → Stands p most b whole script h r x l d o → o ≡ bound.Local k → Found b r.from.scope r.from.declared l d.draft.variables x k
  local_found h r x l d _ k (local j f) e = subst (Found b r.from.scope r.from.declared l d.draft.variables x) (same_local e) f
  local_found h r x l d _ k (upvalue j out up) e = absurd (up_local e)
  local_found h r x l d _ k (global out none) e = absurd (global_local e)

  update_goes : (o : BinOp) (ao : ArithOp) → IsArithmetic o ao → IsUpdate o → (s : Stat) (t y : Expr) (x : StrId) (k : ℕ)
      → out-StatKind s.kind ≡ level.Compound o t y → out-ExprKind t.kind ≡ level.Name x → bound_at b t.id ≡ bound.Local k
      → Holds p most calls b whole script y → (h : Here p most) (r : Runs p most b whole script h) (ps : List Part) (l : List Slot) (d : Emitter)
      (j : Jumps) (captured : Bool) → is_captured b k ≡ captured
      → Begins p most b whole script h r (stat s ∷ ps) l d (update_local captured o (expr_code b y) (register_of k d) (length l) d) (need_stat s).need
      → StatRuns p most s h l j (here d) (here (update_local captured o (expr_code b y) (register_of k d) (length l) d)) (λ c. l)
  update_goes o ao ar up s t y x k is name bound_to hy h r ps l d j false flag st =
      let c = expr_code b y in
      let n = register_of k d in
      let q = near_right c d in
      let inner : At p most b whole script h r (expr t ∷ expr y ∷ []) l d =
      in_statement p most b whole script h r s (level.Compound o t y) ps l d is st.at refl (omega arith) refl in
      let f = local_found h r x l d _ k (name_stands p most b whole script h r t x (expr y ∷ []) l d name st.func inner) bound_to in
      let register : n ≡ f.local.register = ap (λ z. unwrap_or z 0) f.register in
      let needed : (need_stat s).need ≡ max (parts_need 0 (need_expr t)) ((need_expr t).holds + 1 + (need_expr y).need) =
      ap (λ (n : StatNeed). n.need) (stat_need_of s (level.Compound o t y) is) in
      let room = st.room in
      let inside = subst (In p most b whole script h r) (up.own c n (length l) d) st.inside in
      subst (λ (e : Emitter). StatRuns p most s h l j (here d) (here e) (λ c. l)) (sym (up.own c n (length l) d))
      (into_own p most calls s o (Arith ao) t y x f.local (own_by y hy h r q) (sees_by y hy h r q (length l) d) h l j (here d)
      (last_by y hy h r q (length l) d) _ ar.is is name f.at (f.flag ∙ flag)
      (operand_by y hy h r q o n n (length l) l d refl refl (next_expr p most b whole script h r t (expr y ∷ []) l d inner) st.func
      (omega (arith, room, needed)) inside)
      (subst (λ m. Operates p most h (last_by y hy h r q (length l) d) (Arith ao) (in_register m) (sees_by y hy h r q (length l) d) m
      (here (operate_by q o n n c (length l) d))) register
      (operates_by y hy h r q o ao ar n n (length l) d inside))
      (omega (arith, room)))
  update_goes o ao ar up s t y x k is name bound_to hy h r ps l d j true flag st =
      let c = expr_code b y in
      let n = register_of k d in
      let d1 = insn (insns.Move (length l) n) d in
      let q = near_right c d1 in
      let one : suc (length l) ≡ length l + 1 = omega arith in
      let inner : At p most b whole script h r (expr t ∷ expr y ∷ []) l d =
      in_statement p most b whole script h r s (level.Compound o t y) ps l d is st.at refl (omega arith) refl in
      let f = local_found h r x l d _ k (name_stands p most b whole script h r t x (expr y ∷ []) l d name st.func inner) bound_to in
      let register : n ≡ f.local.register = ap (λ z. unwrap_or z 0) f.register in
      let needed : (need_stat s).need ≡ max (parts_need 0 (need_expr t)) ((need_expr t).holds + 1 + (need_expr y).need) =
      ap (λ (n : StatNeed). n.need) (stat_need_of s (level.Compound o t y) is) in
      let room = st.room in
      let inside = subst (In p most b whole script h r) (up.operates c n (length l) d1) st.inside in
      let first : In p most b whole script h r d1 =
      before r.final whole d1 _ (grows.operate_by_good q o n (length l) c (grows.expr_is_good b y) (length l + 1) d1 d1 (grows.none d1)) inside in
      let g1 = grows.put _ d d (grows.none d) in
      let inner1 : At p most b whole script h r (expr y ∷ []) l d1 =
      kept p most b whole script h r (expr y ∷ []) l d d1 (keeps.put _ d d (keeps.none d)) (next_expr p most b whole script h r t (expr y ∷ []) l d inner) in
      subst (λ (e : Emitter). StatRuns p most s h l j (here d) (here e) (λ c. l)) (sym (up.operates c n (length l) d1))
      (into_copied p most calls s o (Arith ao) t y x f.local (own_by y hy h r q) (sees_by y hy h r q (length l + 1) d1) h l j (here d) (here d1)
      (last_by y hy h r q (length l + 1) d1) _ ar.is is name f.at
      (subst (λ m. Reads p most h (here d) (insns.Move (length l) m) (here d1)) register
      (reads p most b whole script h r (insns.Move (length l) n) d first))
      (λ u. operand_by y hy h r q o n (length l) (length l + 1) (Temp u ∷ l) d1 refl one
      (pushed p most b whole script h r (expr y ∷ []) l d1 inner1 u) (g1.func ∙ st.func) (omega (arith, room, needed)) inside)
      (subst (λ m. Operates p most h (last_by y hy h r q (length l + 1) d1) (Arith ao) (in_register (length l)) (sees_by y hy h r q (length l + 1) d1) m
      (here (operate_by q o n (length l) c (length l + 1) d1))) register
      (operates_by y hy h r q o ao ar n (length l) (length l + 1) d1 inside))
      (omega (arith, room)))

  pub operated_keeps : (o : BinOp) (y : Expr) (to free : ℕ) (d : Emitter) → keeps.Keeps d (operated o (expr_code b y) to free d)
  operated_keeps op.Concat y to free d = keeps.put _ d ((expr_code b y).run (free + 1) 2 d) (value_keeps b y (free + 1) 2 d)
  operated_keeps z y to free d = keeps.operate_good z to free (expr_code b y) (keeps.expr_is_good b y) (free + 1) d d (keeps.none d)

  own_keeps : (o : BinOp) (y : Expr) (register free : ℕ) (d : Emitter) → keeps.Keeps d (update_own o (expr_code b y) register free d)
  own_keeps op.Concat y register free d =
      let d1 = insn (insns.Move free register) d in
      let k1 : keeps.Keeps d d1 = keeps.put _ d d (keeps.none d) in
      keeps.put _ d ((expr_code b y).run (free + 1) 2 d1) (keeps.after d d1 ((expr_code b y).run (free + 1) 2 d1) k1 (value_keeps b y (free + 1) 2 d1))
  own_keeps z y register free d = keeps.operate_good z register register (expr_code b y) (keeps.expr_is_good b y) free d d (keeps.none d)

  pub local_keeps : (captured : Bool) (y : Expr) (o : BinOp) (register free : ℕ) (d : Emitter)
      → keeps.Keeps d (update_local captured o (expr_code b y) register free d)
  local_keeps true y o register free d =
      let d1 = insn (insns.Move free register) d in
      keeps.after d d1 (operated o (expr_code b y) register free d1) (keeps.put _ d d (keeps.none d)) (operated_keeps o y register free d1)
  local_keeps false y o register free d = own_keeps o y register free d

  -- a compound assignment to a local
  pub compound_performs : (o : BinOp) (ao : ArithOp) → IsArithmetic o ao → IsUpdate o → (s : Stat) (t y : Expr) (x : StrId) (k : ℕ)
      → out-StatKind s.kind ≡ level.Compound o t y → out-ExprKind t.kind ≡ level.Name x → bound_at b t.id ≡ bound.Local k
      → Holds p most calls b whole script y → Performs p most b whole script s
  compound_performs o ao ar up s t y x k is name bound_to hy =
      subst (Does p most b whole script s) (sym (stat_code_of b s (level.Compound o t y) is))
      (subst (λ (g : Target). Does p most b whole script s (plain (λ free l. update_run b g o (expr_code b y) free)))
      (sym (ap (λ (c : ExprCode). c.target) (code_of b t (level.Name x) name) ∙ ap (λ z. Named z x) bound_to))
      (record {
        declares = sym (ap (λ (n : StatNeed). n.declares) (stat_need_of s (level.Compound o t y) is));
        goes = λ h r ps l d lp j place st around allowed.
            plain_goes p most b whole script s (level.Compound o t y) h r ps l j d _ is (λ n. refl)
            (local_keeps (is_captured b k) y o (register_of k d) (length l) d) st.at
            (update_goes o ao ar up s t y x k is name bound_to hy h r ps l d j (is_captured b k) refl st);
      }))

pub add_updates : IsUpdate op.Add
add_updates = record { operates = λ y to free d. refl; own = λ y register free d. refl }

pub sub_updates : IsUpdate op.Sub
sub_updates = record { operates = λ y to free d. refl; own = λ y register free d. refl }

pub mul_updates : IsUpdate op.Mul
mul_updates = record { operates = λ y to free d. refl; own = λ y register free d. refl }

pub div_updates : IsUpdate op.Div
div_updates = record { operates = λ y to free d. refl; own = λ y register free d. refl }

pub idiv_updates : IsUpdate op.Idiv
idiv_updates = record { operates = λ y to free d. refl; own = λ y register free d. refl }

pub mod_updates : IsUpdate op.Mod
mod_updates = record { operates = λ y to free d. refl; own = λ y register free d. refl }

pub pow_updates : IsUpdate op.Pow
pow_updates = record { operates = λ y to free d. refl; own = λ y register free d. refl }
