-- Function expressions: the closure is made of the function's prototype and captures the variables that the function uses.
use Rattle.std.proofs.Common.{◌≡◌, ℕ, ◌≤◌, pos, min, List, [], ◌∷◌, ◌++◌, length, map, Some, refl, sym, ap, ◌∙◌, arith, subst}
use Rattle.std.specs.Prelude.{slice_get}
use Rattle.byte_text.specs.declared.fixed.StrId.{StrId}
use Rattle.syntax_tree.specs.declared.bindings.Bindings.{Bindings}
use Rattle.syntax_tree.specs.declared.notes.Visible.{Visible}
use Rattle.syntax_tree.specs.declared.tree.Expr.{Expr}
use Rattle.syntax_tree.specs.declared.tree.ExprKind.{out-ExprKind}
use Rattle.syntax_tree.specs.declared.tree.ExprKind.TheOpen as level
use Rattle.syntax_tree.specs.declared.tree.FuncBody.{FuncBody, out-FuncBody}
use Rattle.op_words.specs.Chunks.{ProtoOf}
use Rattle.op_words.specs.declared.insn.Insn.TheVariants as i
use Rattle.emit_expr.specs.declared.draft.Emitter.{Emitter}
use Rattle.emit_expr.specs.declared.draft.Prototype.{Prototype}
use Rattle.emit_expr.specs.Puts.{Step, put, insn, blank, short, long, with_draft, with_child, with_prototype, done}
use Rattle.emit_expr.specs.Names.{first_at, upvalues_at, captures}
use Rattle.emit_laws.specs.Growing.{Grows}
use Rattle.emit_laws.proofs.Grows as grows
use Rattle.emit_laws.proofs.Keeps.{Keeps}
use Rattle.node_code.specs.Nodes.{FuncCode}
use Rattle.node_code.specs.Code.{stat_code, func_code, no_loop, stats_run, func_begin, prepared}
use Rattle.scope_laws.specs.Sight.{Part, function}
use Rattle.code_simulation.specs.Slots.{Slot}
use Rattle.code_simulation.specs.Relation.{Setting, Code}
use Rattle.code_simulation.proofs.Along.{CallsGo, Here, env_of, Reads}
use Rattle.code_simulation.proofs.Functions as functions
use Rattle.code_simulation.proofs.Functions.{Child, function_same}
use Rattle.compiled_runs.proofs.Places.{here, before}
use Rattle.compiled_runs.proofs.Constants.{get_last, get_prefix, get_within}
use Rattle.compiled_runs.proofs.Skipped.{Partly, partly_same}
use Rattle.compiled_runs.proofs.Standing.{Script, AtSome}
use Rattle.compiled_runs.proofs.NodeLevels.{code_of, func_code_of}
use Rattle.compiled_runs.proofs.Nodes.{Runs, In, reads, As}
use Rattle.compiled_runs.proofs.Following.{parts}
use Rattle.compiled_runs.proofs.Leaves.{Holds, single_as}
use Rattle.compiled_runs.proofs.Captures.{Named, AreCaptured, names, are_captured, are_named, all_captured}

-- ---- the code of a closure, step by step

module _ (b : Bindings) where
  -- into a function
  abbrev pub begun : FuncBody → Step
  begun f d = func_begin b (out-FuncBody f).id (length (out-FuncBody f).params) (out-FuncBody f).vararg d

  -- where its text has ended
  abbrev pub finished : FuncBody → Step
  finished f d =
      insn (i.Return 0 1) (stats_run (map (stat_code b) (out-FuncBody f).body) (length (out-FuncBody f).params) no_loop (begun f d))

  -- the number of its prototype
  abbrev pub child_number : FuncBody → Emitter → ℕ
  child_number f d = long (length (finished f d).protos)

  -- the instruction that makes its closure, in the function around
  abbrev pub closed : FuncBody → (to : ℕ) → Step
  closed f to d = insn (i.NewClosure to (short (length d.draft.children))) (with_draft d.draft (finished f d))

  abbrev pub numbered_child : FuncBody → (to : ℕ) → Step
  numbered_child f to d = with_child (length (finished f d).protos) (closed f to d)

  -- and those that capture
  abbrev pub capturing : FuncBody → (to : ℕ) → Step
  capturing f to d = captures b (upvalues_at b (finished f d).draft.func) (numbered_child f to d)

  abbrev pub its_prototype : FuncBody → Emitter → Prototype
  its_prototype f d = done (length (out-FuncBody f).params) (out-FuncBody f).vararg (finished f d).draft

  pub func_is : (f : FuncBody) (to : ℕ) (d : Emitter) → func_code b f to d ≡ with_prototype (its_prototype f d) (capturing f to d)
  func_is f to d = ap (λ (c : FuncCode). c to d) (func_code_of b f)

  -- ---- what these steps add and keep

  begins : (n : ℕ) (d : Emitter) → (with_draft (blank n) d).draft.func ≡ n
  unfolding with_draft
  begins n d = refl

  pub finished_func : (f : FuncBody) (d : Emitter) → (finished f d).draft.func ≡ (out-FuncBody f).id
  finished_func f d =
      let g = out-FuncBody f in
      let first = with_draft (blank g.id) d in
      let inside = begun f d in
      let into : Grows first inside =
      grows.all_declared (first_at b g.id) 0 (length g.params) first (prepared g.vararg (length g.params) first)
      (grows.prepared_good b g.vararg (length g.params) first first (grows.none first)) in
      (grows.put _ first _ (grows.stats_good (map (stat_code b) g.body) (grows.stats_are_good b g.body) (length g.params) no_loop first inside into)).func
      ∙ begins g.id d

  here_draft : (d e : Emitter) → here (with_draft d.draft e) ≡ here d
  unfolding with_draft
  here_draft d e = refl

  here_child : (n : ℕ) (d : Emitter) → here (with_child n d) ≡ here d
  unfolding with_child
  here_child n d = refl

  here_prototype : (q : Prototype) (d : Emitter) → here (with_prototype q d) ≡ here d
  unfolding with_prototype
  here_prototype q d = refl

  child_grows : (n : ℕ) (d : Emitter) → Grows d (with_child n d)
  unfolding with_child
  child_grows n d = record {
    func = refl;
    items = grows.same d.draft.items;
    constants = grows.same d.draft.constants;
    variables = grows.same d.draft.variables;
    children = grows.behind d.draft.children (long n ∷ []);
    protos = grows.same d.protos;
    strings = grows.same d.strings;
  }

  prototype_grows : (q : Prototype) (d : Emitter) → Grows d (with_prototype q d)
  unfolding with_prototype
  prototype_grows q d = record {
    func = refl;
    items = grows.same d.draft.items;
    constants = grows.same d.draft.constants;
    variables = grows.same d.draft.variables;
    children = grows.same d.draft.children;
    protos = grows.behind d.protos (q ∷ []);
    strings = grows.same d.strings;
  }

  children_are : (f : FuncBody) (to : ℕ) (d : Emitter) → (numbered_child f to d).draft.children ≡ d.draft.children ++ child_number f d ∷ []
  unfolding put with_draft with_child
  children_are f to d = refl

  child_func : (f : FuncBody) (to : ℕ) (d : Emitter) → (numbered_child f to d).draft.func ≡ d.draft.func
  unfolding put with_draft with_child
  child_func f to d = refl

  child_keeps : (f : FuncBody) (to : ℕ) (d : Emitter) → Keeps d (numbered_child f to d)
  unfolding put with_draft with_child
  child_keeps f to d = refl

module _ (p : Setting) (most : ℕ) (b : Bindings) (whole : Emitter) (script : Script p b whole) where
  -- The code of a function whose text stands in one that runs is there, with the variables around it, of which it captures those that
  -- these names stand for
  abbrev pub FunctionsCoded : Type 0
  FunctionsCoded =
      (h : Here p most) (r : Runs p most b whole script h) (f : FuncBody) (ps : List Part) (l : List Slot) (d : Emitter)
      → (a : AtSome p most b whole script h r (function f ∷ ps) l d) → d.draft.func ≡ r.final.func
      → (to : ℕ) → In p most b whole script h r (func_code b f to d) → (xs : List StrId) → Named a.sight.scope (upvalues_at b (out-FuncBody f).id) xs
      → (proto : ProtoOf) × Code p f (child_number b f d) (env_of p most h l) xs proto

  module _ (h : Here p most) (r : Runs p most b whole script h) where
    -- the instruction that makes a closure, and those that capture the variables of these names
    pub record ClosureAt (f : FuncBody) (to : ℕ) (l : List Slot) (xs : List StrId) (d d' : Emitter) : Type 0 where
      pub makes : Reads p most h (here d) (i.NewClosure to (pos (length d.draft.children))) (here (closed b f to d))
      pub captures : functions.Captures p most h l xs (here (closed b f to d)) (here d')
      pub child : slice_get h.proto.children (length d.draft.children) ≡ Some (child_number b f d)

    -- where the names in scope are these, and the function captures such locals
    pub closure_at : (f : FuncBody) (to : ℕ) (vs : List Visible) (l : List Slot) (d : Emitter)
        → (q : Partly b r.from.scope r.from.declared l vs d.draft.variables)
        → (c : AreCaptured p most b whole script h r q.hidden vs (upvalues_at b (out-FuncBody f).id)) → d.draft.func ≡ r.final.func
        → In p most b whole script h r (func_code b f to d)
        → ClosureAt f to l (names p most b whole script h r q.hidden vs (upvalues_at b (out-FuncBody f).id) c) d (func_code b f to d)
    closure_at f to vs l d q c func s =
        let ks = upvalues_at b (out-FuncBody f).id in
        let xs = names p most b whole script h r q.hidden vs ks c in
        let d1 = closed b f to d in
        let d2 = numbered_child b f to d in
        let d3 = capturing b f to d in
        let d4 = with_prototype (its_prototype b f d) d3 in
        let listed : upvalues_at b (finished b f d).draft.func ≡ ks = ap (upvalues_at b) (finished_func b f d) in
        let in4 = subst (In p most b whole script h r) (func_is b f to d) s in
        let in3 = before r.final whole d3 d4 (prototype_grows b (its_prototype b f d) d3) in4 in
        let in2 = before r.final whole d2 d3
        (grows.captures_good b (upvalues_at b (finished b f d).draft.func) d2 d2 (grows.none d2)) in3 in
        let in1 = before r.final whole d1 d2 (child_grows b (length (finished b f d).protos) d1) in2 in
        let n = length d.draft.children in
        let found : slice_get r.final.children n ≡ Some (child_number b f d) =
        get_prefix d2.draft.children r.final.children n (child_number b f d) in2.children
        (ap (λ xs. slice_get xs n) (children_are b f to d) ∙ get_last d.draft.children [] (child_number b f d)) in
        let lt = get_within r.final.children n (child_number b f d) found in
        let near : min n 32767 ≡ n = omega (arith, lt, r.few_children) in
        let last : here d3 ≡ here (func_code b f to d) = sym (here_prototype b (its_prototype b f d) d3) ∙ ap here (sym (func_is b f to d)) in
        record {
          makes =
              subst (λ m. Reads p most h m (i.NewClosure to (pos n)) (here d1)) (here_draft b d (finished b f d))
              (subst (λ m. Reads p most h (here (with_draft d.draft (finished b f d))) (i.NewClosure to (pos m)) (here d1)) near
              (reads p most b whole script h r (i.NewClosure to (short n)) (with_draft d.draft (finished b f d)) in1));
          captures =
              subst (functions.Captures p most h l xs (here d1)) last
              (subst (λ m. functions.Captures p most h l xs m (here d3)) (here_child b (length (finished b f d).protos) d1)
              (subst (λ us. In p most b whole script h r (captures b us d2) → functions.Captures p most h l xs (here d2) (here (captures b us d2)))
              (sym listed)
              (all_captured p most b whole script h r vs ks l d2
              (partly_same b r.from.scope r.from.declared l vs vs d.draft.variables d2.draft.variables refl (child_keeps b f to d) q) c
              (child_func b f to d ∙ func)) in3));
          child = ap (λ xs. slice_get xs n) r.children ∙ found;
        }

  module _ (coded : FunctionsCoded) (h : Here p most) (r : Runs p most b whole script h) where
    -- the instruction that makes a closure, and those that capture its variables
    pub record ClosureStands (f : FuncBody) (l : List Slot) (d d' : Emitter) : Type 0 where
      pub place : ℕ
      pub proto : ProtoOf
      pub captured : List StrId
      pub behind : ℕ
      pub makes : Reads p most h (here d) (i.NewClosure (length l) (pos place)) behind
      pub captures : functions.Captures p most h l captured behind (here d')
      pub child : Child p most h l f place (child_number b f d) captured proto

    pub closure_stands : (f : FuncBody) (ps : List Part) (l : List Slot) (d : Emitter) → AtSome p most b whole script h r (function f ∷ ps) l d
        → d.draft.func ≡ r.final.func → In p most b whole script h r (func_code b f (length l) d)
        → ClosureStands f l d (func_code b f (length l) d)
    closure_stands f ps l d a func s =
        let ks = upvalues_at b (out-FuncBody f).id in
        let c = are_captured p most b whole script h r f ps l d a in
        let hidden = a.aligned.partly.hidden in
        let xs = names p most b whole script h r hidden a.sight.scope ks c in
        let code = coded h r f ps l d a func (length l) s xs (are_named p most b whole script h r hidden a.sight.scope ks c) in
        let x = closure_at h r f (length l) a.sight.scope l d a.aligned.partly c func s in
        record {
          place = length d.draft.children;
          proto = code.0;
          captured = xs;
          behind = here (closed b f (length l) d);
          makes = x.makes;
          captures = x.captures;
          child = record { child = x.child; code = code.1 };
        }

module _ (p : Setting) (most : ℕ) (calls : (i : ℕ) → i ≤ most → CallsGo p i) (b : Bindings) (whole : Emitter) (script : Script p b whole)
    (coded : FunctionsCoded p most b whole script) where
  pub function_holds : (e : Expr) (f : FuncBody) → out-ExprKind e.kind ≡ level.Function f → Holds p most calls b whole script e
  function_holds e f is = subst (As p most b whole script e) (sym (code_of b e (level.Function f) is))
      (single_as p most calls b whole script e (level.Function f) (func_code b f) is refl
      (λ h r ps l d s.
      let s1 = parts p most b whole script h r e (level.Function f) ps l d _ is s in
      let c = closure_stands p most b whole script coded h r f [] l d s1.at s1.func s1.inside in
      function_same p most e f c.place (child_number b f d) c.captured c.proto h l (here d) c.behind _ is c.makes c.captures c.child))
