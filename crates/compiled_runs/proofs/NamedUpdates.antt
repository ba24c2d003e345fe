-- Compound assignments to names: `..` to a local, and any operator to what is no local of the function.
use Rattle.std.proofs.Common.{Bool, true, false, ◌≡◌, ℕ, suc, ◌+◌, ◌≤◌, max, List, [], ◌∷◌, length, refl, sym, ap, ◌∙◌, subst, arith}
use Rattle.std.specs.Prelude.{unwrap_or}
use Rattle.byte_text.specs.declared.fixed.StrId.{StrId}
use Rattle.syntax_tree.specs.declared.bindings.Bindings.{Bindings}
use Rattle.syntax_tree.specs.declared.bindings.Bound.TheVariants as bound
use Rattle.syntax_tree.specs.declared.bindings.Bound.{Bound}
use Rattle.syntax_tree.specs.declared.tree.BinOp.{BinOp}
use Rattle.syntax_tree.specs.declared.tree.BinOp.TheVariants as op
use Rattle.syntax_tree.specs.declared.tree.Expr.{Expr}
use Rattle.syntax_tree.specs.declared.tree.ExprKind.{out-ExprKind}
use Rattle.syntax_tree.specs.declared.tree.ExprKind.TheOpen as level
use Rattle.syntax_tree.specs.declared.tree.Stat.{Stat}
use Rattle.syntax_tree.specs.declared.tree.StatKind.{out-StatKind}
use Rattle.syntax_tree.specs.Need.{StatNeed, need_expr, need_stat, parts_need}
use Rattle.syntax_tree.specs.Proper.{computes}
use Rattle.value_model.specs.declared.operator.ArithOp.{ArithOp}
use Rattle.value_model.specs.Values.{Value}
use Rattle.value_model.specs.Choices.{Arith}
use Rattle.source_meaning.specs.States.{of_stat, cell_of}
use Rattle.source_meaning.specs.States as source
use Rattle.source_meaning.specs.Statements as statements
use Rattle.op_words.specs.declared.insn.Insn.TheVariants as insns
use Rattle.emit_expr.specs.declared.draft.Emitter.{Emitter}
use Rattle.emit_expr.specs.Puts.{insn, long, text_place, with_text}
use Rattle.emit_expr.specs.Names.{bound_at, is_captured, register_of, upvalue_of, name_run, assign_run}
use Rattle.emit_laws.specs.Growing.{Grows}
use Rattle.emit_laws.proofs.Grows as grows
use Rattle.emit_laws.proofs.Keeps as keeps
use Rattle.node_code.specs.Nodes.{ExprCode, Target, Named}
use Rattle.node_code.specs.Conditions.{near_right, operate_by}
use Rattle.node_code.specs.Code.{expr_code, plain, joined, operated, update_local, update_run}
use Rattle.scope_laws.specs.Sight.{Part, expr, stat}
use Rattle.code_simulation.specs.Slots.{Slot, Temp}
use Rattle.code_simulation.specs.Relation.{Setting}
use Rattle.code_simulation.proofs.Along.{CallsGo, Here, env_of, Reads}
use Rattle.code_simulation.proofs.Parts.{Sight, in_register, OperandRuns}
use Rattle.code_simulation.proofs.Values.{own_operand}
use Rattle.code_simulation.proofs.Blocks.{Jumps, StatRuns}
use Rattle.code_simulation.proofs.Updates.{StoreRuns, store_name, Finishes, finish_stored, compound_copied, compound_upvalue, compound_global}
use Rattle.code_simulation.proofs.Compounds.{finish_joined, finish_joined_local}
use Rattle.compiled_runs.proofs.Places.{here, before, before_put, here_text}
use Rattle.compiled_runs.proofs.Standing.{Script, weak, At, pushed, kept, next_expr, Stands, local, upvalue, global, name_stands}
use Rattle.compiled_runs.proofs.Constants.{name_known}
use Rattle.compiled_runs.proofs.NodeLevels.{code_of, stat_code_of, stat_need_of}
use Rattle.compiled_runs.proofs.Nodes.{Runs, In, reads}
use Rattle.compiled_runs.proofs.Leaves.{Holds}
use Rattle.compiled_runs.proofs.Following.{value_grows}
use Rattle.compiled_runs.proofs.Operators.{IsArithmetic, add_is, sub_is, mul_is, div_is, idiv_is, mod_is, pow_is}
use Rattle.compiled_runs.proofs.Parentheses.{false_true}
use Rattle.compiled_runs.proofs.Assigns.{writes_at}
use Rattle.compiled_runs.proofs.Statements.{Begins, Does, Performs, in_statement, plain_goes}
use Rattle.compiled_runs.proofs.Compounds.{IsUpdate, own_by, sees_by, last_by, operand_by, operates_by, local_found, operated_keeps, local_keeps, compound_performs, add_updates, sub_updates, mul_updates, div_updates, idiv_updates, mod_updates, pow_updates}

-- the operators of compound assignments
pub data Computing : BinOp → Type 0 where
  calculates : (o : BinOp) (a : ArithOp) → IsArithmetic o a → IsUpdate o → Computing o
  joins : Computing op.Concat

pub computing : (o : BinOp) → computes o ≡ true → Computing o
computing op.Concat e = joins
computing op.Add e = calculates op.Add _ add_is add_updates
computing op.Sub e = calculates op.Sub _ sub_is sub_updates
computing op.Mul e = calculates op.Mul _ mul_is mul_updates
computing op.Div e = calculates op.Div _ div_is div_updates
computing op.Idiv e = calculates op.Idiv _ idiv_is idiv_updates
computing op.Mod e = calculates op.Mod _ mod_is mod_updates
computing op.Pow e = calculates op.Pow _ pow_is pow_updates
computing z e = absurd (false_true e)

-- a name that is no local of the function
abbrev IsOuter : Bound → Type 0
IsOuter (bound.Local k) = ⊥
IsOuter (bound.Up k) = Unit {0}
IsOuter bound.Global = Unit {0}

module _ (p : Setting) (most : ℕ) (calls : (i : ℕ) → i ≤ most → CallsGo p i) (b : Bindings) (whole : Emitter) (script : Script p b whole) where
  -- where a name is found
  abbrev target_at : Here p most → List Slot → StrId → source.Target
  target_at h l x = statements.target_of (cell_of (env_of p most h l) x) x

  module _ (s : Stat) (y : Expr) (hy : Holds p most calls b whole script y) (h : Here p most) (r : Runs p most b whole script h) (l : List Slot) where
    abbrev c : ExprCode
    c = expr_code b y

    abbrev n : ℕ
    n = length l

    -- the second operand and the operator, where the first stands in the first free register, and what is done with what comes of them
    record Rest (o : BinOp) (target : source.Target) (d : Emitter) (to : ℕ) : Type 1 where
      own : Bool
      sees : Sight
      last : ℕ
      runs : (u : Value) → OperandRuns p most y h (Temp u ∷ l) (here d) last own sees
      finishes : Finishes p most calls (of_stat s) o target h l (in_register n) sees last to

    -- the second operand stands in the next register
    second_runs : (d : Emitter) → At p most b whole script h r (expr y ∷ []) l d → d.draft.func ≡ r.final.func
        → n + 1 + (need_expr y).need ≤ h.proto.registers → In p most b whole script h r (c.run (n + 1) 2 d)
        → (u : Value) → OperandRuns p most y h (Temp u ∷ l) (here d) (here (c.run (n + 1) 2 d)) true (in_register (suc n))
    second_runs d a func room s u =
        let one : suc n ≡ n + 1 = omega arith in
        subst (λ m. In p most b whole script h r (c.run m 2 d)
        → OperandRuns p most y h (Temp u ∷ l) (here d) (here (c.run m 2 d)) true (in_register (suc n))) one
        (λ s. own_operand p most y h (Temp u ∷ l) (here d) (here (c.run (suc n) 2 d))
        (hy.value h r [] (Temp u ∷ l) d
        (record {
          at = weak p most b whole script h r (expr y ∷ []) (Temp u ∷ l) d (pushed p most b whole script h r (expr y ∷ []) l d a u);
          inside = s;
          func = func;
          room = omega (arith, room);
        })))
        s

    joined_reads : (to : ℕ) (d : Emitter) → In p most b whole script h r (joined c to n d)
        → Reads p most h (here (c.run (n + 1) 2 d)) (insns.Concat to n (suc n)) (here (joined c to n d))
    joined_reads to d s =
        let one : n + 1 ≡ suc n = omega arith in
        subst (λ m. Reads p most h (here (c.run (n + 1) 2 d)) (insns.Concat to n m) (here (joined c to n d))) one
        (reads p most b whole script h r (insns.Concat to n (n + 1)) (c.run (n + 1) 2 d) s)

    -- by way of the first free register
    stored_rest : (o : BinOp) → Computing o → (target : source.Target) (d : Emitter) (to : ℕ) → At p most b whole script h r (expr y ∷ []) l d
        → d.draft.func ≡ r.final.func → n + 1 + (need_expr y).need ≤ h.proto.registers → In p most b whole script h r (operated o c n n d)
        → StoreRuns p most calls (of_stat s) target h l (here (operated o c n n d)) to → Rest o target d to
    stored_rest _ joins target d to a func room inside stores = record {
      own = true;
      sees = in_register (suc n);
      last = here (c.run (n + 1) 2 d);
      runs = second_runs d a func room (before_put r.final whole _ (c.run (n + 1) 2 d) inside);
      finishes = finish_joined p most calls (of_stat s) target h l n (here (c.run (n + 1) 2 d)) (here (joined c n n d)) to
          (joined_reads n d inside) stores (omega (arith, room));
    }
    stored_rest _ (calculates o a ar up) target d to at func room inside stores =
        let q = near_right c d in
        let one : suc n ≡ n + 1 = omega arith in
        let is = up.operates c n n d in
        let inside1 = subst (In p most b whole script h r) is inside in
        record {
          own = own_by p most calls b whole script y hy h r q;
          sees = sees_by p most calls b whole script y hy h r q (n + 1) d;
          last = last_by p most calls b whole script y hy h r q (n + 1) d;
          runs = λ u. operand_by p most calls b whole script y hy h r q o n n (n + 1) (Temp u ∷ l) d refl one
              (pushed p most b whole script h r (expr y ∷ []) l d at u) func (omega (arith, room)) inside1;
          finishes = finish_stored p most calls (of_stat s) o (Arith a) target h l (in_register n)
              (sees_by p most calls b whole script y hy h r q (n + 1) d) (last_by p most calls b whole script y hy h r q (n + 1) d)
              (here (operate_by q o n n c (n + 1) d)) to ar.is
              (operates_by p most calls b whole script y hy h r q o a ar n n (n + 1) d inside1)
              (subst (λ (e : Emitter). StoreRuns p most calls (of_stat s) target h l (here e) to) is stores) (omega (arith, room));
        }

    -- ---- `..` to a local

    joined_goes : (t : Expr) (x : StrId) (k : ℕ) → out-StatKind s.kind ≡ level.Compound op.Concat t y → out-ExprKind t.kind ≡ level.Name x
        → bound_at b t.id ≡ bound.Local k → (ps : List Part) (d : Emitter) (j : Jumps)
        → Begins p most b whole script h r (stat s ∷ ps) l d (joined c (register_of k d) n (insn (insns.Move n (register_of k d)) d)) (need_stat s).need
        → StatRuns p most s h l j (here d) (here (joined c (register_of k d) n (insn (insns.Move n (register_of k d)) d))) (λ c. l)
    joined_goes t x k is name bound_to ps d j st =
        let m = register_of k d in
        let d1 = insn (insns.Move n m) d in
        let d2 = c.run (n + 1) 2 d1 in
        let inner : At p most b whole script h r (expr t ∷ expr y ∷ []) l d =
        in_statement p most b whole script h r s (level.Compound op.Concat t y) ps l d is st.at refl (omega arith) refl in
        let f = local_found p most calls b whole script h r x l d _ k
        (name_stands p most b whole script h r t x (expr y ∷ []) l d name st.func inner) bound_to in
        let register : m ≡ f.local.register = ap (λ z. unwrap_or z 0) f.register in
        let needed : (need_stat s).need ≡ max (parts_need 0 (need_expr t)) ((need_expr t).holds + 1 + (need_expr y).need) =
        ap (λ (n : StatNeed). n.need) (stat_need_of s (level.Compound op.Concat t y) is) in
        let room = st.room in
        let second : In p most b whole script h r d2 = before_put r.final whole _ d2 st.inside in
        let first : In p most b whole script h r d1 = before r.final whole d1 d2 (value_grows b y (n + 1) 2 d1) second in
        let g1 = grows.put _ d d (grows.none d) in
        let inner1 : At p most b whole script h r (expr y ∷ []) l d1 =
        kept p most b whole script h r (expr y ∷ []) l d d1 (keeps.put _ d d (keeps.none d)) (next_expr p most b whole script h r t (expr y ∷ []) l d inner) in
        compound_copied p most calls s op.Concat t y x f.local true (in_register (suc n)) h l j (here d) (here d1) (here d2) (here (joined c m n d1))
        is name f.at
        (subst (λ m. Reads p most h (here d) (insns.Move n m) (here d1)) register (reads p most b whole script h r (insns.Move n m) d first))
        (second_runs d1 inner1 (g1.func ∙ st.func) (omega (arith, room, needed)) second)
        (finish_joined_local p most calls (of_stat s) x f.local h l n (here d2) (here (joined c m n d1)) f.at
        (subst (λ m2. Reads p most h (here d2) (insns.Concat m2 n (suc n)) (here (joined c m n d1))) register (joined_reads m d1 st.inside))
        (omega (arith, room)))

    -- ---- to what is no local of the function

    outer_runs : (o : BinOp) (t : Expr) (x : StrId) → out-StatKind s.kind ≡ level.Compound o t y → out-ExprKind t.kind ≡ level.Name x → (j : Jumps)
        (d : Emitter) (to : ℕ) (u : Bound) → Stands p most b whole script h r x l d u → IsOuter u → In p most b whole script h r (name_run b u x n d)
        → n ≤ h.proto.registers → Rest o (target_at h l x) (name_run b u x n d) to → StatRuns p most s h l j (here d) to (λ c. l)
    outer_runs o t x is name j d to _ (local k f) outer inside room rest = absurd outer
    outer_runs o t x is name j d to _ (upvalue k out up) outer inside room rest =
        compound_upvalue p most calls s o t y x (upvalue_of b k d) rest.own rest.sees h l j (here d) (here (name_run b (bound.Up k) x n d)) rest.last to
        is name out up (reads p most b whole script h r (insns.GetUpvalue n (upvalue_of b k d)) d inside) rest.runs rest.finishes
    outer_runs o t x is name j d to _ (global out none) outer inside room rest =
        let named = with_text x d in
        let k = long (text_place x d) in
        let to1 = here (name_run b bound.Global x n d) in
        compound_global p most calls s o t y x k rest.own rest.sees h l j (here d) to1 rest.last to is name out none
        (name_known p most b whole script h r x d (before_put r.final whole _ named inside))
        (subst (λ m. Reads p most h m (insns.GetGlobal n k) to1) (here_text x d) (reads p most b whole script h r (insns.GetGlobal n k) named inside))
        rest.runs rest.finishes room

  -- its code
  abbrev outer_run : BinOp → Expr → Bound → StrId → (free : ℕ) → Emitter → Emitter
  outer_run o y u x free d = assign_run b u x free (operated o (expr_code b y) free free (name_run b u x free d))

  outer_code : (o : BinOp) (y : Expr) (u : Bound) (x : StrId) (free : ℕ) (d : Emitter) → IsOuter u
      → update_run b (Named u x) o (expr_code b y) free d ≡ outer_run o y u x free d
  outer_code o y (bound.Local k) x free d outer = absurd outer
  outer_code o y (bound.Up k) x free d outer = refl
  outer_code o y bound.Global x free d outer = refl

  outer_keeps : (o : BinOp) (y : Expr) (u : Bound) (x : StrId) (free : ℕ) (d : Emitter) → keeps.Keeps d (outer_run o y u x free d)
  outer_keeps o y u x free d =
      let d1 = name_run b u x free d in
      let d2 = operated o (expr_code b y) free free d1 in
      keeps.assign_good b u x free d d2
      (keeps.after d d1 d2 (keeps.name_good b u x free d d (keeps.none d)) (operated_keeps p most calls b whole script o y free free d1))

  outer_goes : (o : BinOp) → Computing o → (s : Stat) (t y : Expr) (x : StrId) → out-StatKind s.kind ≡ level.Compound o t y
      → out-ExprKind t.kind ≡ level.Name x → IsOuter (bound_at b t.id) → Holds p most calls b whole script y
      → (h : Here p most) (r : Runs p most b whole script h) (ps : List Part) (l : List Slot) (d : Emitter) (j : Jumps)
      → Begins p most b whole script h r (stat s ∷ ps) l d (outer_run o y (bound_at b t.id) x (length l) d) (need_stat s).need
      → StatRuns p most s h l j (here d) (here (outer_run o y (bound_at b t.id) x (length l) d)) (λ c. l)
  outer_goes o k s t y x is name outer hy h r ps l d j st =
      let u = bound_at b t.id in
      let n = length l in
      let c = expr_code b y in
      let d1 = name_run b u x n d in
      let d2 = operated o c n n d1 in
      let d3 = assign_run b u x n d2 in
      let inner : At p most b whole script h r (expr t ∷ expr y ∷ []) l d =
      in_statement p most b whole script h r s (level.Compound o t y) ps l d is st.at refl (omega arith) refl in
      let needed : (need_stat s).need ≡ max (parts_need 0 (need_expr t)) ((need_expr t).holds + 1 + (need_expr y).need) =
      ap (λ (n : StatNeed). n.need) (stat_need_of s (level.Compound o t y) is) in
      let room = st.room in
      let g1 : Grows d d1 = grows.name_good b u x n d d (grows.none d) in
      let g2 : Grows d1 d2 = grows.operated_good b o c (grows.expr_is_good b y) n n d1 d1 (grows.none d1) in
      let g3 : Grows d2 d3 = grows.assign_good b u x n d2 d2 (grows.none d2) in
      let k1 : keeps.Keeps d d1 = keeps.name_good b u x n d d (keeps.none d) in
      let k2 : keeps.Keeps d d2 = keeps.after d d1 d2 k1 (operated_keeps p most calls b whole script o y n n d1) in
      let s2 : In p most b whole script h r d2 = before r.final whole d2 d3 g3 st.inside in
      let s1 : In p most b whole script h r d1 = before r.final whole d1 d2 g2 s2 in
      let f1 : d1.draft.func ≡ r.final.func = g1.func ∙ st.func in
      let read_at = name_stands p most b whole script h r t x (expr y ∷ []) l d name st.func inner in
      let stored_at = name_stands p most b whole script h r t x (expr y ∷ []) l d2 name (g2.func ∙ f1)
      (kept p most b whole script h r (expr t ∷ expr y ∷ []) l d d2 k2 inner) in
      outer_runs s y hy h r l o t x is name j d (here d3) u read_at outer s1 (omega (arith, room))
      (stored_rest s y hy h r l o k (target_at h l x) d1 (here d3)
      (kept p most b whole script h r (expr y ∷ []) l d d1 k1 (next_expr p most b whole script h r t (expr y ∷ []) l d inner)) f1
      (omega (arith, room, needed)) s2
      (store_name p most calls x (of_stat s) h l (here d2) (here d3) (writes_at p most calls b whole script h r x n l d2 u stored_at st.inside)
      (omega (arith, room, needed))))

  -- ---- whatever the name stands for

  joined_code : (captured : Bool) (y : Expr) (register free : ℕ) (d : Emitter)
      → update_local captured op.Concat (expr_code b y) register free d ≡ joined (expr_code b y) register free (insn (insns.Move free register) d)
  joined_code true y register free d = refl
  joined_code false y register free d = refl

  update_is : (s : Stat) (o : BinOp) (t y : Expr) (x : StrId) (u : Bound) → out-StatKind s.kind ≡ level.Compound o t y
      → out-ExprKind t.kind ≡ level.Name x → bound_at b t.id ≡ u
      → Does p most b whole script s (plain (λ free l. update_run b (Named u x) o (expr_code b y) free)) → Performs p most b whole script s
  update_is s o t y x u is name bound_to done =
      subst (Does p most b whole script s) (sym (stat_code_of b s (level.Compound o t y) is))
      (subst (λ (g : Target). Does p most b whole script s (plain (λ free l. update_run b g o (expr_code b y) free)))
      (sym (ap (λ (c : ExprCode). c.target) (code_of b t (level.Name x) name) ∙ ap (λ z. Named z x) bound_to)) done)

  outer_performs : (o : BinOp) → Computing o → (s : Stat) (t y : Expr) (x : StrId) → out-StatKind s.kind ≡ level.Compound o t y
      → out-ExprKind t.kind ≡ level.Name x → IsOuter (bound_at b t.id) → Holds p most calls b whole script y → Performs p most b whole script s
  outer_performs o k s t y x is name outer hy = update_is s o t y x (bound_at b t.id) is name refl (record {
    declares = sym (ap (λ (n : StatNeed). n.declares) (stat_need_of s (level.Compound o t y) is));
    goes = λ h r ps l d lp j place st around allowed.
        let u = bound_at b t.id in
        let code = outer_code o y u x (length l) d outer in
        plain_goes p most b whole script s (level.Compound o t y) h r ps l j d _ is (λ n. refl)
        (subst (keeps.Keeps d) (sym code) (outer_keeps o y u x (length l) d)) st.at
        (subst (λ (e : Emitter). StatRuns p most s h l j (here d) (here e) (λ c. l)) (sym code)
        (outer_goes o k s t y x is name outer hy h r ps l d j
        (subst (λ (e : Emitter). Begins p most b whole script h r (stat s ∷ ps) l d e (need_stat s).need) code st)));
  })

  local_performs : (o : BinOp) → Computing o → (s : Stat) (t y : Expr) (x : StrId) (k : ℕ) → out-StatKind s.kind ≡ level.Compound o t y
      → out-ExprKind t.kind ≡ level.Name x → bound_at b t.id ≡ bound.Local k → Holds p most calls b whole script y → Performs p most b whole script s
  local_performs _ (calculates o a ar up) s t y x k is name bound_to hy =
      compound_performs p most calls b whole script o a ar up s t y x k is name bound_to hy
  local_performs _ joins s t y x k is name bound_to hy = update_is s op.Concat t y x (bound.Local k) is name bound_to (record {
    declares = sym (ap (λ (n : StatNeed). n.declares) (stat_need_of s (level.Compound op.Concat t y) is));
    goes = λ h r ps l d lp j place st around allowed.
        let code = joined_code (is_captured b k) y (register_of k d) (length l) d in
        plain_goes p most b whole script s (level.Compound op.Concat t y) h r ps l j d _ is (λ n. refl)
        (local_keeps p most calls b whole script (is_captured b k) y op.Concat (register_of k d) (length l) d) st.at
        (subst (λ (e : Emitter). StatRuns p most s h l j (here d) (here e) (λ c. l)) (sym code)
        (joined_goes s y hy h r l t x k is name bound_to ps d j
        (subst (λ (e : Emitter). Begins p most b whole script h r (stat s ∷ ps) l d e (need_stat s).need) code st)));
  })

  -- a compound assignment to a name
  pub update_performs : (s : Stat) (o : BinOp) (t y : Expr) (x : StrId) → computes o ≡ true → out-StatKind s.kind ≡ level.Compound o t y
      → out-ExprKind t.kind ≡ level.Name x → Holds p most calls b whole script y → Performs p most b whole script s
  update_performs s o t y x known is name hy = by (bound_at b t.id) refl
    where
      by : (u : Bound) → bound_at b t.id ≡ u → Performs p most b whole script s
      by (bound.Local k) e = local_performs o (computing o known) s t y x k is name e hy
      by (bound.Up k) e = outer_performs o (computing o known) s t y x is name (subst IsOuter (sym e) tt) hy
      by bound.Global e = outer_performs o (computing o known) s t y x is name (subst IsOuter (sym e) tt) hy
