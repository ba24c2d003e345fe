-- From the functions of a script to its run: where each function goes along with its code, each run of the script is that of its code.
use Rattle.std.proofs.Common.{Bool, true, false, not, ◌&&◌, ◌||◌, ◌≡◌, ◌≢◌, ℕ, zero, suc, ◌<◌, ◌≤◌, List, [], ◌∷◌, ◌++◌, length, Some, refl, sym, ap, ◌∙◌, subst, arith}
use Rattle.std.specs.Prelude.{slice_get, take}
use Rattle.syntax_tree.specs.declared.tree.FuncBody.{out-FuncBody}
use Rattle.syntax_tree.specs.declared.tree.Tree.{Tree}
use Rattle.value_model.specs.declared.event.EventKind.{EventKind}
use Rattle.value_model.specs.declared.event.Reply.{Reply}
use Rattle.value_model.specs.declared.kind.CoStatus.TheVariants.{Suspended, Dead}
use Rattle.value_model.specs.Values.{Value}
use Rattle.value_model.specs.Store.{here, same_table, script_environment}
use Rattle.value_model.specs.Fresh.{HostFields, fresh, first_waits}
use Rattle.value_model.specs.Waits.{Wait, Runs, waiting}
use Rattle.bounded_runs.specs.Runs.{Report, Agree}
use Rattle.bounded_runs.proofs.Together as together
use Rattle.source_meaning.specs.States as source
use Rattle.source_meaning.specs.Moves as source_moves
use Rattle.source_meaning.specs.Calls as source_calls
use Rattle.source_meaning.specs.Runs.{start, SourceRun}
use Rattle.op_words.specs.Chunks.{ProtoOf}
use Rattle.machine_meaning.specs.Chunks.{size_of}
use Rattle.machine_meaning.specs.States.{filled}
use Rattle.machine_meaning.specs.States as machine
use Rattle.machine_meaning.specs.Moves as machine_moves
use Rattle.machine_meaning.specs.Calls as machine_calls
use Rattle.machine_meaning.specs.Runs.{loaded, MachineRun}
use Rattle.code_simulation.specs.Slots.{Nobody, Of, Taken}
use Rattle.code_simulation.specs.Relation.{Dyn, bodies_s, bodies_m, Setting, Code, FuncAlike, Base, Desc, Ok}
use Rattle.code_simulation.proofs.Along.{Alike, Stands, CallsGo, bottom, function, other}
use Rattle.code_simulation.proofs.Names.{same_some, none_some}
use Rattle.code_simulation.proofs.Entering.{FuncsGo, entered_s, entered_m}
use Rattle.code_simulation.proofs.Outside.{calls_go}
use Rattle.code_simulation.proofs.Promises.{Promise, at_bottom, OtherCoroutines, Within, promised, Others, setting, code_there, placed, ok_placed}
use Rattle.code_simulation.proofs.Switching.{waiter_as}
use Rattle.code_simulation.proofs.Coroutines.{coroutines}

-- ---- both states at the start

abbrev pub first_dyn : Setting → Tree → HostFields → List Reply → Dyn
first_dyn p tree host replies =
    record { tag = λ c. Nobody; script = (start tree host replies).world; code = (loaded p.chunk host replies).world }

nobody_of : {A : Type 0} {co depth : ℕ} {v : Value} → Nobody ≡ Of co depth v → A
nobody_of e = cc

nobody_taken : {A : Type 0} {k : ℕ} → Nobody ≡ Taken k → A
nobody_taken e = cc

first_safe : (b : Bool) → (b && not false) ≡ (b || false)
first_safe true = refl
first_safe false = refl

no_varargs_s : (b : Bool) → source_calls.varargs_of b 0 [] ≡ []
no_varargs_s true = refl
no_varargs_s false = refl

no_varargs_m : (b : Bool) → machine_calls.varargs_of b 0 [] ≡ []
no_varargs_m true = refl
no_varargs_m false = refl

first_here : (host : HostFields) → here (fresh host) ≡ 0
unfolding fresh
first_here host = refl

module _ (p : Setting) (tree : Tree) (host : HostFields) (replies : List Reply) (proto : ProtoOf) (code : Code p tree.main p.chunk.main [] [] proto) where
  first_base : Base p (first_dyn p tree host replies)
  first_base = record {
    store = refl;
    waits = refl;
    replies = refl;
    safe = λ t. first_safe (same_table t script_environment);
    cells = λ c co depth v e. nobody_of e;
    taken = λ c k e. nobody_taken e;
    once = λ c c' k e e'. nobody_taken e;
    made = refl;
    alike = first_alike;
  }
    where
      first_alike : (i : ℕ) (f : source.Body) → slice_get (bodies_s (first_dyn p tree host replies)) i ≡ Some f
          → (m : machine.Body) × (slice_get (bodies_m (first_dyn p tree host replies)) i ≡ Some m) × FuncAlike p (λ c. Nobody) f m
      first_alike zero f e = (
        record { proto = p.chunk.main; cells = [] },
        refl,
        subst (λ g. FuncAlike p (λ c. Nobody) g (record { proto = p.chunk.main; cells = [] })) (same_some e)
            (record { ups = []; proto = proto; coded = code; alike = tt }),
      )
      first_alike (suc i) f e = none_some e

  pub first_ok : (n : ℕ) → p.Others n 0 (first_dyn p tree host replies) → Ok p n 0 (Runs 0 ∷ []) [] (first_dyn p tree host replies)
  first_ok n others =
      record { base = first_base; running = first_here host; room = omega arith; waits = refl; rest = tt; others = others }

  -- the main function takes no parameter, so its start is that of a function that was entered without arguments
  first_s : (out-FuncBody tree.main).params ≡ [] → start tree host replies ≡ entered_s tree.main [] 0 [] [] (first_dyn p tree host replies)
  first_s e =
      let f = out-FuncBody tree.main in
      let d = first_dyn p tree host replies in
      ap (λ vs. source_calls.state_with (source.ExecuteAll f.body) (record { frames = []; env = []; closure = 0; varargs = vs } ∷ []) d.script)
      (sym (no_varargs_s f.vararg))
      ∙ ap (λ xs. source_calls.state_with (source.ExecuteAll f.body)
      (record { frames = []; env = source_moves.bound xs 0 []; closure = 0; varargs = source_calls.varargs_of f.vararg (length xs) [] } ∷ [])
      (source_moves.with_cells ([] ++ source_moves.adjusted xs []) d.script)) (sym e)

  first_m : (out-FuncBody tree.main).params ≡ [] → loaded p.chunk host replies ≡ entered_m p.chunk.main proto [] 0 [] [] (first_dyn p tree host replies)
  first_m e =
      let d = first_dyn p tree host replies in
      ap (λ o. machine_calls.state_with machine.Run (record {
        closure = 0;
        proto = p.chunk.main;
        size = size_of o;
        upvalues = [];
        varargs = [];
        place = 0;
        registers = filled 0 [];
        top = 0;
        purpose = machine.Idle;
      } ∷ []) d.code) code.found
      ∙ ap (λ vs. machine_calls.state_with machine.Run (record {
        closure = 0;
        proto = p.chunk.main;
        size = proto.registers;
        upvalues = [];
        varargs =
            vs;
        place = 0;
        registers = filled 0 [];
        top = 0;
        purpose = machine.Idle;
      } ∷ []) d.code) (sym (no_varargs_m proto.vararg))
      ∙ ap (λ n. machine_calls.state_with machine.Run (record {
        closure = 0;
        proto = p.chunk.main;
        size = proto.registers;
        upvalues = [];
        varargs =
            machine_calls.varargs_of proto.vararg n [];
        place = 0;
        registers = filled 0 (take n []);
        top = length {A = Value}
            (take n []);
        purpose = machine.Idle;
      } ∷ []) d.code) (sym (code.params ∙ ap length e))

  -- where functions go along, the script and its code do
  pub main_same : (n : ℕ) → (out-FuncBody tree.main).params ≡ [] → p.Others n 0 (first_dyn p tree host replies) → FuncsGo p n
      → Alike p n (start tree host replies) (loaded p.chunk host replies)
  main_same n e others funcs =
      subst (λ s. Alike p n s (loaded p.chunk host replies)) (sym (first_s e))
      (subst (λ m. Alike p n (entered_s tree.main [] 0 [] [] (first_dyn p tree host replies)) m) (sym (first_m e))
      (funcs tree.main p.chunk.main [] [] proto code [] 0 [] 0 [] [] [] [] (first_dyn p tree host replies) (first_ok n others) tt bottom))

-- ---- by the turns that are left, and by the coroutines that have resumed each other

-- what goes on where as many have resumed each other as now does where more may have
stands_within : {q : Setting} {most deep i depth co : ℕ} {ws : List Wait} {fs : List source.Activation} {ms : List machine.Frame} {ds : List Desc}
    → ((j k : ℕ) → j ≤ i → Within i depth j k → Within most deep j k) → Stands (setting q most deep) i co ws fs ms ds
    → Stands (setting q i depth) i co ws fs ms ds
stands_within le bottom = bottom
stands_within {q} le (function go s) =
    function (λ j lt vs d o. go j lt vs d (ok_placed q (placed q o) (o.others.0, le j o.others.0 lt o.others.1, o.others.2))) (stands_within le s)
stands_within le (other e s) = other e (stands_within le s)

calls_within : (q : Setting) (most deep i : ℕ) → i ≤ most → ((k : ℕ) → CallsGo (setting q i k) i) → CallsGo (setting q most deep) i
calls_within q most deep i le calls x co ws fs ms ds d o stands =
    let depth = o.others.0 in
    calls depth x co ws fs ms ds d (ok_placed q (placed q o) (depth, (omega arith, λ e. omega arith), o.others.2))
    (stands_within (λ j k lt w. (
      omega (arith, lt, le),
      λ e.
          let a = w.1 (omega (arith, e, lt, le)) in
          let b = o.others.1.1 (omega (arith, e, lt, le)) in
          omega (arith, a, b),
    )) stands)

module _ (q : Setting) (bodies : (most deep i : ℕ) → ((j : ℕ) → j ≤ i → CallsGo (setting q most deep) j) → FuncsGo (setting q most deep) i) where
  -- with as many turns left, where all does with fewer
  by_depth : (n : ℕ) → ((i k : ℕ) → i < n → CallsGo (setting q i k) i) → (deep k : ℕ) → k < deep → CallsGo (setting q n k) n
  by_depth n less zero k lt = absurd (omega (arith, lt))
  by_depth n less (suc deep) k lt =
      let fewer : (i : ℕ) → i < n → CallsGo (setting q n k) i = λ i l. calls_within q n k i (omega (arith, l)) (λ j. less i j l) in
      calls_go (setting q n k) n (coroutines q n k fewer (λ j l. by_depth n less deep j (omega (arith, lt, l)))) fewer
      (λ i l. bodies n k i (λ j le. fewer j (omega (arith, le, l))))

  by_turns : (n i k : ℕ) → i < n → CallsGo (setting q i k) i
  by_turns zero i k lt = absurd (omega (arith, lt))
  by_turns (suc n) i k lt = by_depth i (λ j l lt2. by_turns n j l (omega (arith, lt, lt2))) (suc k) k (omega arith)

  -- with any number of turns left calls go along, and functions that are entered do
  pub all_calls : (most deep i : ℕ) → i ≤ most → CallsGo (setting q most deep) i
  all_calls most deep i le = calls_within q most deep i le (λ k. by_turns (suc i) i k (omega arith))

  pub all_functions : (most deep i : ℕ) → i ≤ most → FuncsGo (setting q most deep) i
  all_functions most deep i le = bodies most deep i (λ j l. all_calls most deep j (omega (arith, l, le)))

-- ---- nothing waits in another coroutine at the start

none_at_first : (j : ℕ) → j ≢ 0 → waiting first_waits j ≡ []
none_at_first zero ne = absurd (ne refl)
none_at_first (suc j) ne = refl

suspended_dead : Suspended ≡ Dead → ⊥
suspended_dead e = cc

first_coroutines : (q : Setting) (tree : Tree) (host : HostFields) (replies : List Reply) (R : Promise)
    → OtherCoroutines R [] 0 (first_dyn q tree host replies)
unfolding fresh
first_coroutines q tree host replies R = record {
  enough = omega arith;
  chain = tt;
  alive = suspended_dead;
  waiters = λ j ne. waiter_as {R = R} {j = j} (first_dyn q tree host replies) tt (none_at_first j ne) refl refl at_bottom;
  empty = λ j ne e. none_at_first j ne;
}

pub first_others : (q : Setting) (tree : Tree) (host : HostFields) (replies : List Reply) (most deep n : ℕ) → n ≤ most
    → Others q most deep n 0 (first_dyn q tree host replies)
first_others q tree host replies most deep n le =
    (0, (le, λ e. omega arith), ([], refl, first_coroutines q tree host replies (promised q n 0)))

-- ---- the run of a script, where each function goes along with its code

module _ (q : Setting) (bodies : (most deep i : ℕ) → ((j : ℕ) → j ≤ i → CallsGo (setting q most deep) j) → FuncsGo (setting q most deep) i)
    (tree : Tree) (host : HostFields) (replies : List Reply) (proto : ProtoOf) (code : Code q tree.main q.chunk.main [] [] proto)
    (no_parameter : (out-FuncBody tree.main).params ≡ []) where
  go_along : (n : ℕ) → Alike q n (start tree host replies) (loaded q.chunk host replies)
  go_along n =
      main_same (setting q n 0) tree host replies proto (code_there q code) n no_parameter (first_others q tree host replies n 0 n (omega arith))
      (all_functions q bodies n 0 n (omega arith))

  -- each report of the script is one of its code
  pub to_code : (n : ℕ) (r : Report EventKind source_moves.Look) → SourceRun q.texts tree host replies n r
      → (r' : Report EventKind machine_moves.Look) × MachineRun q.chunk host replies n r' × Agree (λ look. 1) (λ look. 1) r r'
  to_code n r run = together.to_other _ _ _ _ _ _ _ _ _ n _ _ (go_along n) r run

  -- each report of the code is one of the script
  pub to_source : (n : ℕ) (r' : Report EventKind machine_moves.Look) → MachineRun q.chunk host replies n r'
      → (r : Report EventKind source_moves.Look) × SourceRun q.texts tree host replies n r × Agree (λ look. 1) (λ look. 1) r r'
  to_source n r' run = together.to_one _ _ _ _ _ _ _ _ _ n _ _ (go_along n) r' run

  -- and there is one
  pub ends : (n : ℕ) → (r : Report EventKind source_moves.Look) × SourceRun q.texts tree host replies n r
  ends n = together.has_report _ _ _ _ _ _ _ _ _ n _ _ (go_along n)
