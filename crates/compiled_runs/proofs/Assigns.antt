-- Assignments to names: the values are made first, and stored from left to right.
use Rattle.std.proofs.Common.{◌≡◌, ℕ, suc, ◌+◌, ◌≤◌, max, List, [], ◌∷◌, ◌++◌, length, map, refl, sym, ap, ◌∙◌, arith, subst}
use Rattle.std.specs.Prelude.{unwrap_or}
use Rattle.byte_text.specs.declared.fixed.StrId.{StrId}
use Rattle.syntax_tree.specs.declared.bindings.Bindings.{Bindings}
use Rattle.syntax_tree.specs.declared.bindings.Bound.{Bound}
use Rattle.syntax_tree.specs.declared.bindings.Bound.TheVariants as bound
use Rattle.syntax_tree.specs.declared.tree.Expr.{Expr}
use Rattle.syntax_tree.specs.declared.tree.Stat.{Stat}
use Rattle.syntax_tree.specs.declared.tree.StatKind.{out-StatKind}
use Rattle.syntax_tree.specs.declared.tree.ExprKind.TheOpen as level
use Rattle.syntax_tree.specs.Need.{StatNeed, need_expr, need_stat, list_need, targets_from, all_hold}
use Rattle.machine_meaning.specs.States as machine
use Rattle.op_words.specs.declared.insn.Insn.TheVariants as i
use Rattle.emit_expr.specs.declared.draft.Emitter.{Emitter}
use Rattle.emit_expr.specs.Puts.{long, text_place, with_text}
use Rattle.emit_expr.specs.Names.{bound_at, register_of, upvalue_of, assign_run}
use Rattle.emit_laws.specs.Growing.{Grows}
use Rattle.emit_laws.proofs.Grows as grows
use Rattle.emit_laws.proofs.Keeps as keeps
use Rattle.node_code.specs.Nodes.{ExprCode, Target, Named}
use Rattle.node_code.specs.Lists.{exact_run, assign_to, assign_all}
use Rattle.node_code.specs.Code.{expr_code}
use Rattle.scope_laws.specs.Sight.{Part, expr}
use Rattle.code_simulation.specs.Slots.{Slot}
use Rattle.code_simulation.specs.Relation.{Setting}
use Rattle.code_simulation.proofs.Along.{CallsGo, Here, Reads}
use Rattle.code_simulation.proofs.Parts.{ListRuns}
use Rattle.code_simulation.proofs.Assigns.{AreNames, Writes, to_local, to_upvalue, to_global, AllWrite, assign_same}
use Rattle.compiled_runs.proofs.Places.{here, before, before_put, here_text}
use Rattle.compiled_runs.proofs.Standing.{Script, weak, At, kept, next_expr, Stands, local, upvalue, global, name_stands}
use Rattle.compiled_runs.proofs.Constants.{name_known}
use Rattle.compiled_runs.proofs.NodeLevels.{code_of, stat_code_of, stat_need_of}
use Rattle.compiled_runs.proofs.Nodes.{Runs, In, Stand, reads}
use Rattle.compiled_runs.proofs.Lists.{AllHold, exact_alone}
use Rattle.compiled_runs.proofs.Statements.{Does, Performs, in_statement, plain_goes}

length_map : {A B : Type 0} (f : A → B) (xs : List A) → length (map f xs) ≡ length xs
length_map f [] = refl
length_map f (x ∷ xs) = ap suc (length_map f xs)

as_many : (ts : List Expr) (xs : List StrId) → AreNames ts xs → length ts ≡ length xs
as_many [] [] n = refl
as_many [] (x ∷ xs) n = absurd n
as_many (t ∷ ts) [] n = absurd n
as_many (t ∷ ts) (x ∷ xs) n = ap suc (as_many ts xs n.1)

module _ (p : Setting) (most : ℕ) (calls : (i : ℕ) → i ≤ most → CallsGo p i) (b : Bindings) (whole : Emitter) (script : Script p b whole)
    (h : Here p most) (r : Runs p most b whole script h) where
  -- a register's value is stored under a name
  pub writes_at : (x : StrId) (from : ℕ) (l : List Slot) (d : Emitter) (o : Bound) → Stands p most b whole script h r x l d o
      → In p most b whole script h r (assign_run b o x from d) → Writes p most h l x from (here d) (here (assign_run b o x from d))
  writes_at x from l d _ (local k f) s =
      let register : register_of k d ≡ f.local.register = ap (λ o. unwrap_or o 0) f.register in
      to_local f.local f.at
      (subst (λ n. Reads p most h (here d) (i.Move n from) (here (assign_run b (bound.Local k) x from d))) register
      (reads p most b whole script h r (i.Move (register_of k d) from) d s))
  writes_at x from l d _ (upvalue k out up) s =
      to_upvalue (upvalue_of b k d) out up (reads p most b whole script h r (i.SetUpvalue from (upvalue_of b k d)) d s)
  writes_at x from l d _ (global out none) s =
      let named = with_text x d in
      let c = long (text_place x d) in
      to_global c out none (name_known p most b whole script h r x d (before_put r.final whole _ named s))
      (subst (λ m. Reads p most h m (i.SetGlobal from c) (here (assign_run b bound.Global x from d))) (here_text x d)
      (reads p most b whole script h r (i.SetGlobal from c) named s))

  -- and so are several, from left to right
  all_write : (ts : List Expr) (xs : List StrId) (from : ℕ) (ps : List Part) (l : List Slot) (d : Emitter) → AreNames ts xs
      → At p most b whole script h r (map expr ts ++ ps) l d → d.draft.func ≡ r.final.func
      → In p most b whole script h r (assign_all b (map (expr_code b) ts) from d)
      → AllWrite p most calls h l xs from (here d) (here (assign_all b (map (expr_code b) ts) from d))
  all_write [] [] from ps l d names a func s = refl
  all_write [] (x ∷ xs) from ps l d names a func s = absurd names
  all_write (t ∷ ts) [] from ps l d names a func s = absurd names
  all_write (t ∷ ts) (x ∷ xs) from ps l d names a func s =
      let cs = map (expr_code b) ts in
      let o = bound_at b t.id in
      let is : (expr_code b t).target ≡ Named o x = ap (λ (c : ExprCode). c.target) (code_of b t (level.Name x) names.0) in
      let one : from + 1 ≡ suc from = omega arith in
      let d1 = assign_run b o x from d in
      let d2 = assign_all b cs (from + 1) d1 in
      let s2 : In p most b whole script h r d2 =
      subst (λ (g : Target). In p most b whole script h r (assign_all b cs (from + 1) (assign_to b g from d))) is s in
      let g1 : Grows d d1 = grows.assign_good b o x from d d (grows.none d) in
      let k1 : keeps.Keeps d d1 = keeps.assign_good b o x from d d (keeps.none d) in
      let s1 : In p most b whole script h r d1 = before r.final whole d1 d2 (grows.assigns_good b cs (from + 1) d1 d1 (grows.none d1)) s2 in
      let rest = all_write ts xs (from + 1) ps l d1 names.1
      (kept p most b whole script h r (map expr ts ++ ps) l d d1 k1 (next_expr p most b whole script h r t (map expr ts ++ ps) l d a))
      (g1.func ∙ func) s2 in
      subst (λ (g : Target). AllWrite p most calls h l (x ∷ xs) from (here d) (here (assign_all b cs (from + 1) (assign_to b g from d)))) (sym is) (
        here d1,
        writes_at x from l d o (name_stands p most b whole script h r t x (map expr ts ++ ps) l d names.0 func a) s1,
        subst (λ n. AllWrite p most calls h l xs n (here d1) (here d2)) one rest,
      )

  behind_targets : (ts : List Expr) (ps : List Part) (l : List Slot) (d : Emitter) → At p most b whole script h r (map expr ts ++ ps) l d
      → At p most b whole script h r ps l d
  behind_targets [] ps l d a = a
  behind_targets (t ∷ ts) ps l d a = behind_targets ts ps l d (next_expr p most b whole script h r t (map expr ts ++ ps) l d a)

module _ (p : Setting) (most : ℕ) (calls : (i : ℕ) → i ≤ most → CallsGo p i) (b : Bindings) (whole : Emitter) (script : Script p b whole) where
  pub assign_performs : (s : Stat) (ts es : List Expr) (xs : List StrId) → out-StatKind s.kind ≡ level.Assign ts es → AreNames ts xs
      → AllHold p most b whole script es → Performs p most b whole script s
  assign_performs s ts es xs is names holds = subst (Does p most b whole script s) (sym (stat_code_of b s (level.Assign ts es) is)) (record {
    declares = sym (ap (λ (n : StatNeed). n.declares) (stat_need_of s (level.Assign ts es) is));
    goes = λ h r ps l d lp j place st around allowed.
        let cs = map (expr_code b) ts in
        let n = length cs in
        let d1 = exact_run (map (expr_code b) es) (length l) n d in
        let d2 = assign_all b cs (length l) d1 in
        let count : n ≡ length xs = length_map (expr_code b) ts ∙ as_many ts xs names in
        let held : length (map need_expr ts) ≡ length xs = length_map need_expr ts ∙ as_many ts xs names in
        let needed : (need_stat s).need ≡ max (targets_from 0 (map need_expr ts))
        (all_hold (map need_expr ts) + max (length (map need_expr ts)) (list_need (map need_expr es))) =
        ap (λ (n : StatNeed). n.need) (stat_need_of s (level.Assign ts es) is) in
        let room = st.room in
        let g1 : Grows d d1 = grows.exact_good (map (expr_code b) es) (grows.exprs_are_good b es) (length l) n d d (grows.none d) in
        let k1 : keeps.Keeps d d1 = keeps.exact_good (map (expr_code b) es) (keeps.exprs_are_good b es) (length l) n d d (keeps.none d) in
        let s1 : In p most b whole script h r d1 = before r.final whole d1 d2 (grows.assigns_good b cs (length l) d1 d1 (grows.none d1)) st.inside in
        let inner = in_statement p most b whole script h r s (level.Assign ts es) ps l d is st.at refl (omega arith) refl in
        let begun : Stand p most b whole script h r (map expr es) l d d1 (list_need (map need_expr es)) =
        record {
          at = weak p most b whole script h r (map expr es) l d (behind_targets p most calls b whole script h r ts (map expr es) l d inner);
          inside = s1;
          func = st.func;
          room = omega (arith, room, needed);
        } in
        let runs : ListRuns p most es h l (here d) (here d1) (suc (length xs)) (machine.adjusted (length xs)) =
        subst (λ m. ListRuns p most es h l (here d) (here d1) (suc m) (machine.adjusted m)) count
        (exact_alone p most b whole script h r es holds n l d begun) in
        plain_goes p most b whole script s (level.Assign ts es) h r ps l j d d2 is (λ n. refl)
        (keeps.assigns_good b cs (length l) d d1 k1) st.at
        (assign_same p most calls s ts es xs h l j (here d) (here d1) (here d2) is names runs
        (all_write p most calls b whole script h r ts xs (length l) (map expr es) l d1 names
        (kept p most b whole script h r (map expr ts ++ map expr es) l d d1 k1 inner) (g1.func ∙ st.func) st.inside)
        (omega (arith, room, needed, held)));
  })
