-- `local function`: the closure may capture its own variable.
use Rattle.std.proofs.Common.{◌≡◌, ℕ, ◌+◌, pos, Bool, List, [], ◌∷◌, ◌++◌, length, refl, sym, ap, ◌∙◌, arith, subst}
use Rattle.byte_text.specs.declared.fixed.StrId.{StrId}
use Rattle.syntax_tree.specs.declared.bindings.Bindings.{Bindings}
use Rattle.syntax_tree.specs.declared.notes.Visible.{Visible}
use Rattle.syntax_tree.specs.declared.tree.FuncBody.{FuncBody, out-FuncBody}
use Rattle.syntax_tree.specs.declared.tree.Stat.{Stat}
use Rattle.syntax_tree.specs.declared.tree.StatKind.{out-StatKind}
use Rattle.syntax_tree.specs.declared.tree.ExprKind.TheOpen as level
use Rattle.syntax_tree.specs.Need.{StatNeed}
use Rattle.op_words.specs.Chunks.{ProtoOf}
use Rattle.op_words.specs.declared.insn.Insn.TheVariants as i
use Rattle.emit_expr.specs.declared.draft.Emitter.{Emitter}
use Rattle.emit_expr.specs.Puts.{declare}
use Rattle.emit_expr.specs.Names.{first_at, upvalues_at}
use Rattle.emit_laws.proofs.Grows as grows
use Rattle.emit_laws.proofs.Keeps as keeps
use Rattle.node_code.specs.Code.{func_code}
use Rattle.scope_laws.specs.Declared.{stat_names}
use Rattle.scope_laws.specs.Sight.{Part, stat, function, visible, StatLevel, in_stat, Within, enter}
use Rattle.code_simulation.specs.Slots.{Slot, Var, up, same}
use Rattle.code_simulation.specs.Relation.{Setting, Code}
use Rattle.code_simulation.proofs.Along.{Here, env_of, Reads}
use Rattle.code_simulation.proofs.Functions.{Child}
use Rattle.code_simulation.proofs.Blocks.{Jumps}
use Rattle.code_simulation.proofs.Updates.{local_function_same}
use Rattle.compiled_runs.proofs.Places.{here}
use Rattle.compiled_runs.proofs.Scopes.{same_some, AllBelow, Aligned}
use Rattle.compiled_runs.proofs.Skipped.{complete}
use Rattle.compiled_runs.proofs.Standing.{Script, At, weak}
use Rattle.compiled_runs.proofs.NodeLevels.{stat_code_of, stat_need_of}
use Rattle.compiled_runs.proofs.Nodes.{Runs, In}
use Rattle.compiled_runs.proofs.Captures.{AreCaptured, names, are_captured, are_named}
use Rattle.compiled_runs.proofs.Functions.{child_number, closed, FunctionsCoded, ClosureAt, closure_at}
use Rattle.compiled_runs.proofs.Statements.{Goes, Does, Performs}
use Rattle.compiled_runs.proofs.Locals.{here_declare, Declared, flags, names_declared, behind_names, behind_sight}

module _ (p : Setting) (most : ℕ) (b : Bindings) (whole : Emitter) (script : Script p b whole) (coded : FunctionsCoded p most b whole script) where
  module _ (h : Here p most) (r : Runs p most b whole script h) (s : Stat) (x : StrId) (func : FuncBody)
      (is : out-StatKind s.kind ≡ level.LocalFunction x func) (ps : List Part) (l : List Slot) (d : Emitter)
      (a : At p most b whole script h r (stat s ∷ ps) l d) (same_func : d.draft.func ≡ r.final.func)
      (inside : In p most b whole script h r (func_code b func (length l) (declare (first_at b s.id) (length l) d))) where
    -- its variable is declared first
    abbrev with_variable : Emitter
    with_variable = declare (first_at b s.id) (length l) d

    abbrev flag : Bool
    flag = flags p most b whole script h r a.sight.declared l (length l)

    abbrev slots : ℕ → List Slot
    slots c = Var x c flag ∷ l

    abbrev scope : List Visible
    scope = a.sight.scope ++ visible a.sight.declared (x ∷ [])

    made : (c : ℕ) → Declared b r.from.scope r.from.declared (slots c) scope with_variable.draft.variables (a.sight.declared + length (x ∷ []))
    made c =
        names_declared p most b whole script h r s (x ∷ []) ps l d (ap (λ (y : StatLevel). stat_names y) is) a l d c a.aligned a.below

    -- the function sees it
    inner : (c : ℕ) → At p most b whole script h r (function func ∷ []) (slots c) with_variable
    inner c = record {
      sight = (in_stat (level.LocalFunction x func) a.sight).sight;
      seen = subst (λ (y : StatLevel). Within r.from (function r.func) (in_stat y a.sight).sight (in_stat y a.sight).parts) is
          (enter a.sight (stat s) ps a.seen);
      aligned = (made c).aligned;
      first = a.first;
      below = (made c).below;
    }

    declared_func : with_variable.draft.func ≡ r.final.func
    declared_func = (grows.declared (first_at b s.id) (length l) d d (grows.none d)).func ∙ same_func

    captured : AreCaptured p most b whole script h r [] scope (upvalues_at b (out-FuncBody func).id)
    unfolding inner
    captured = are_captured p most b whole script h r func [] (slots 0) with_variable
        (weak p most b whole script h r (function func ∷ []) (slots 0) with_variable (inner 0))

    abbrev captured_names : List StrId
    captured_names = names p most b whole script h r [] scope (upvalues_at b (out-FuncBody func).id) captured

    closure : (c : ℕ) → ClosureAt p most b whole script h r func (length l) (slots c) captured_names with_variable (func_code b func (length l) with_variable)
    closure c =
        closure_at p most b whole script h r func (length l) scope (slots c) with_variable
        (complete b r.from.scope r.from.declared (slots c) scope with_variable.draft.variables (made c).aligned) captured declared_func inside

    code : (c : ℕ) → (proto : ProtoOf) × Code p func (child_number b func with_variable) (env_of p most h (slots c)) captured_names proto
    unfolding inner
    code c =
        coded h r func [] (slots c) with_variable (weak p most b whole script h r (function func ∷ []) (slots c) with_variable (inner c)) declared_func
        (length l) inside captured_names (are_named p most b whole script h r [] scope (upvalues_at b (out-FuncBody func).id) captured)

    child : (c : ℕ) → Child p most h (slots c) func (length with_variable.draft.children) (child_number b func with_variable) captured_names (code 0).0
    child c = record {
      child = (closure 0).child;
      code = subst (λ q. Code p func (child_number b func with_variable) (env_of p most h (slots c)) captured_names q)
          (same_some (sym (code c).1.found ∙ (code 0).1.found)) (code c).1;
    }

    local_function_runs : (j : Jumps) → Goes p most b whole script s 1 h r ps l j d (func_code b func (length l) with_variable) a.sight
    local_function_runs j =
        let d0 = with_variable in
        let d1 = func_code b func (length l) d0 in
        let k : keeps.Keeps d0 d1 = keeps.func_is_good b func (length l) d0 d0 (keeps.none d0) in
        record {
          after = slots;
          runs = local_function_same p most s x func flag (length d0.draft.children) (child_number b func d0) captured_names (code 0).0 h l j (here d)
              (here (closed b func (length l) d0)) (here d1) is
              (subst (λ n. Reads p most h n (i.NewClosure (length l) (pos (length d0.draft.children))) (here (closed b func (length l) d0)))
              (here_declare (first_at b s.id) (length l) d) (closure 0).makes)
              (λ c. (closure c).captures) child;
          at = λ c.
              behind_names p most b whole script h r s (level.LocalFunction x func) (x ∷ []) ps l d is (λ n. refl) (λ t. omega arith) a (slots c) d1
              (record {
                aligned = subst (Aligned b r.from.scope r.from.declared (slots c) scope) (sym k) (made c).aligned;
                below = subst (AllBelow (a.sight.declared + length (x ∷ []))) (sym k) (made c).below;
              });
          above = λ c. up same;
          count = λ c. omega arith;
          sight_is = λ c. behind_sight p most b whole script h r s (level.LocalFunction x func) (x ∷ []) ps l d is (λ n. refl) (λ t. omega arith) a
              (slots c) d1 _;
        }

  pub local_function_performs : (s : Stat) (x : StrId) (func : FuncBody) → out-StatKind s.kind ≡ level.LocalFunction x func
      → Performs p most b whole script s
  local_function_performs s x func is = subst (Does p most b whole script s) (sym (stat_code_of b s (level.LocalFunction x func) is)) (record {
    declares = sym (ap (λ (n : StatNeed). n.declares) (stat_need_of s (level.LocalFunction x func) is));
    goes = λ h r ps l d lp j place st around allowed. local_function_runs h r s x func is ps l d st.at st.func st.inside j;
  })
