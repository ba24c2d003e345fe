-- Functions: where the statements of each function's text do what they do, a function that is entered goes along with its code, and the code
-- of each function in one that runs is there.
use Rattle.std.proofs.Common.{◌≡◌, ℕ, ◌+◌, ◌≤◌, Bool, true, false, List, [], ◌∷◌, ◌++◌, length, map, Option, Some, None, refl, sym, ap, ◌∙◌, arith, subst, append-nil}
use Rattle.std.specs.Prelude.{slice_get, unwrap_or}
use Rattle.std.specs.List.{Contains}
use Rattle.byte_text.specs.declared.fixed.StrId.{StrId}
use Rattle.syntax_tree.specs.declared.bindings.Bindings.{Bindings}
use Rattle.syntax_tree.specs.declared.notes.Place.{Place}
use Rattle.syntax_tree.specs.declared.tree.FuncBody.{FuncBody, out-FuncBody}
use Rattle.syntax_tree.specs.Need as need
use Rattle.syntax_tree.specs.Need.{need_stat, block_from}
use Rattle.syntax_tree.specs.Numbers.{numbered}
use Rattle.syntax_tree.specs.Scope.{look}
use Rattle.source_meaning.specs.States.{Environment, cell_of}
use Rattle.op_words.specs.Chunks.{ProtoOf}
use Rattle.op_words.specs.declared.insn.Insn.TheVariants as i
use Rattle.machine_meaning.specs.Chunks.{proto_at}
use Rattle.emit_expr.specs.declared.draft.Emitter.{Emitter}
use Rattle.emit_expr.specs.declared.draft.Prototype.{Prototype}
use Rattle.emit_expr.specs.Puts.{put, blank, with_draft, with_child, with_prototype}
use Rattle.emit_expr.specs.Names.{first_at, upvalues_at, declare_all, capture_of, capture, captures, register_in, is_captured, upvalue_in}
use Rattle.emit_laws.specs.Growing.{Prefix, Grows}
use Rattle.emit_laws.proofs.Grows as grows
use Rattle.emit_laws.proofs.Keeps as keeps
use Rattle.node_code.specs.Code.{stat_code, func_code, stats_run, no_loop, prepared}
use Rattle.scope_laws.specs.Sight.{Sight, Part, stat, function, in_part, itself, enter, Sees}
use Rattle.scope_laws.proofs.Capturing.{functions_capture}
use Rattle.scope_laws.proofs.Levels as levels
use Rattle.code_simulation.specs.Slots.{Slot, vars}
use Rattle.value_model.specs.Values.{Value}
use Rattle.value_model.specs.Waits.{Wait}
use Rattle.source_meaning.specs.States as source
use Rattle.machine_meaning.specs.States as machine
use Rattle.code_simulation.specs.Relation.{Setting, Code, Desc}
use Rattle.code_simulation.proofs.Along.{CallsGo, Stands, Here, env_of, Reads}
use Rattle.code_simulation.proofs.Names.{length_vars, above_vars}
use Rattle.code_simulation.proofs.Blocks.{outside, BlockRuns}
use Rattle.code_simulation.proofs.Entering.{FuncsGo, here_of, Begins, at_once, prepared as begins_prepared, entered_same}
use Rattle.compiled_runs.proofs.Reading.{linked_read}
use Rattle.compiled_runs.proofs.Places.{here, before, before_put}
use Rattle.compiled_runs.proofs.Scopes.{AllBelow}
use Rattle.compiled_runs.proofs.Numbers.{sound}
use Rattle.compiled_runs.proofs.Constants.{get_last, get_prefix, get_within}
use Rattle.compiled_runs.proofs.Standing as standing
use Rattle.compiled_runs.proofs.Standing.{Script, Running, At}
use Rattle.compiled_runs.proofs.Nodes.{In, reads}
use Rattle.compiled_runs.proofs.Captures.{Named, unseen}
use Rattle.compiled_runs.proofs.Functions.{begun, finished, child_number, numbered_child, capturing, its_prototype, func_is, finished_func, FunctionsCoded}
use Rattle.compiled_runs.proofs.Statements.{AllPerform}
use Rattle.compiled_runs.proofs.Locals.{here_declared, all_declared, first_seen, few_seen}
use Rattle.compiled_runs.proofs.Blocks.{block_goes, AllAllowed, Last}
use Rattle.compiled_runs.proofs.Chunks.{Chunk, CodeOf, named_as_many}
use Rattle.compiled_runs.proofs.Enclosed.{named_upvalue}

-- ---- what the steps of a function leave

here_blank : (n : ℕ) (d : Emitter) → here (with_draft (blank n) d) ≡ 0
unfolding with_draft
here_blank n d = refl

no_variables : (n : ℕ) (d : Emitter) → (with_draft (blank n) d).draft.variables ≡ []
unfolding with_draft
no_variables n d = refl

put_protos : (x : _) (d : Emitter) → (put x d).protos ≡ d.protos
unfolding put
put_protos x d = refl

put_strings : (x : _) (d : Emitter) → (put x d).strings ≡ d.strings
unfolding put
put_strings x d = refl

-- the functions that are done, and the strings
pub record SameDone (d d' : Emitter) : Type 0 where
  pub protos : d'.protos ≡ d.protos
  pub strings : d'.strings ≡ d.strings

module _ (b : Bindings) where
  capture_leaves : (k : ℕ) (d : Emitter) → SameDone d (capture b k d)
  capture_leaves k d = by (register_in k d.draft.variables)
    where
      by : (o : Option ℕ) → SameDone d (capture_of b k o d)
      by (Some register) = record { protos = put_protos _ d; strings = put_strings _ d }
      by None = record { protos = put_protos _ d; strings = put_strings _ d }

  captures_leave : (ks : List ℕ) (d : Emitter) → SameDone d (captures b ks d)
  captures_leave [] d = record { protos = refl; strings = refl }
  captures_leave (k ∷ ks) d =
      let x = capture_leaves k d in
      let y = captures_leave ks (capture b k d) in
      record { protos = y.protos ∙ x.protos; strings = y.strings ∙ x.strings }

  child_leaves : (f : FuncBody) (to : ℕ) (d : Emitter) → SameDone (finished b f d) (numbered_child b f to d)
  unfolding put with_draft with_child
  child_leaves f to d = record { protos = refl; strings = refl }

  capturing_leaves : (f : FuncBody) (to : ℕ) (d : Emitter) → SameDone (finished b f d) (capturing b f to d)
  capturing_leaves f to d =
      let x = child_leaves f to d in
      let y = captures_leave (upvalues_at b (finished b f d).draft.func) (numbered_child b f to d) in
      record { protos = y.protos ∙ x.protos; strings = y.strings ∙ x.strings }

  prototype_protos : (q : Prototype) (d : Emitter) → (with_prototype q d).protos ≡ d.protos ++ q ∷ []
  unfolding with_prototype
  prototype_protos q d = refl

  prototype_strings : (q : Prototype) (d : Emitter) → (with_prototype q d).strings ≡ d.strings
  unfolding with_prototype
  prototype_strings q d = refl

  -- the function is the last of those that are done
  pub func_protos : (f : FuncBody) (to : ℕ) (d : Emitter) → (func_code b f to d).protos ≡ (finished b f d).protos ++ its_prototype b f d ∷ []
  func_protos f to d =
      ap (λ (e : Emitter). e.protos) (func_is b f to d)
      ∙ prototype_protos (its_prototype b f d) (capturing b f to d)
      ∙ ap (λ ps. ps ++ its_prototype b f d ∷ []) (capturing_leaves f to d).protos

  pub func_strings : (f : FuncBody) (to : ℕ) (d : Emitter) → (func_code b f to d).strings ≡ (finished b f d).strings
  func_strings f to d =
      ap (λ (e : Emitter). e.strings) (func_is b f to d)
      ∙ prototype_strings (its_prototype b f d) (capturing b f to d)
      ∙ (capturing_leaves f to d).strings

module _ (p : Setting) (b : Bindings) (whole : Emitter) (script : Script p b whole) (chunk : Chunk p.chunk b whole (numbered script.main).main)
    (code_is : (f : FuncBody) (n : ℕ) (around : Environment) (ups : List StrId) (proto : ProtoOf)
    → CodeOf b whole (numbered script.main).main f around ups proto → p.IsCode f n around ups proto)
    (is_code : (f : FuncBody) (n : ℕ) (around : Environment) (ups : List StrId) (proto : ProtoOf) → p.IsCode f n around ups proto
    → CodeOf b whole (numbered script.main).main f around ups proto) where
  -- a function of the text, whose code is among all that was emitted, has a prototype with its code
  pub coded_at : (f : FuncBody) (to : ℕ) (d : Emitter) (s : Sight) (after : List Part) (around : Environment) (xs : List StrId)
      → Sees (numbered script.main).main s (function f ∷ after) → Prefix (func_code b f to d).protos whole.protos
      → Prefix (func_code b f to d).strings whole.strings → ((x : StrId) → look x s.scope ≡ None → cell_of around x ≡ None)
      → Named s.scope (upvalues_at b (out-FuncBody f).id) xs
      → (proto : ProtoOf) × Code p f (child_number b f d) around xs proto
  coded_at f to d s after around xs sees protos strings globals named =
      let q = its_prototype b f d in
      let n = length (finished b f d).protos in
      let more : Prefix (finished b f d).protos (func_code b f to d).protos = record { more = q ∷ []; is = func_protos b f to d } in
      let there : slice_get whole.protos n ≡ Some q =
      get_prefix (func_code b f to d).protos whole.protos n q protos
      (ap (λ ps. slice_get ps n) (func_protos b f to d) ∙ get_last (finished b f d).protos [] q) in
      let lt = get_within whole.protos n q there in
      let few = chunk.few in
      let near : child_number b f d ≡ n = omega (arith, lt, few) in
      let at = chunk.each n q there in
      let id : q.func ≡ (out-FuncBody f).id = finished_func b f d in
      let many : length (upvalues_at b q.func) ≡ length xs = ap (λ m. length (upvalues_at b m)) id ∙ named_as_many s.scope _ xs named in (
        at.proto,
        record {
          found = ap (proto_at p.chunk) near ∙ at.found;
          params = at.linked.params;
          vararg = at.linked.vararg;
          upvalues = at.linked.upvalues ∙ many;
          code = code_is f (child_number b f d) around xs at.proto (record {
            from = s;
            after = after;
            stands = sees;
            before = d;
            protos = grows.longer (finished b f d).protos (func_code b f to d).protos whole.protos more protos;
            strings = subst (λ ts. Prefix ts whole.strings) (func_strings b f to d) strings;
            linked = at.linked;
            room = chunk.registers n q at.proto f s after there at.found sees (sym id);
            globals = globals;
            named = named;
          });
        },
      )

  -- so each function in one that runs is coded
  pub functions_coded : (most : ℕ) → FunctionsCoded p most b whole script
  functions_coded most h r f ps l d a func to s xs named =
      let seen = standing.sees p most b whole script h r (function f ∷ ps) l d a in
      coded_at f to d a.sight (ps ++ seen.0) (env_of p most h l) xs seen.1 s.protos s.strings
      (λ x e. unseen p most b whole script h r (function f ∷ ps) l d a x e) named

  abbrev flags : ℕ → ℕ → Bool
  flags number register = is_captured b (number + register)

  -- the place where the text of a function begins
  abbrev pub in_function : FuncBody → Place
  in_function f = record { in_loop = false; vararg = (out-FuncBody f).vararg; live = length (out-FuncBody f).params }

  module _ (left : ℕ) (calls : (i : ℕ) → i ≤ left → CallsGo p i)
      (performs : (f : FuncBody) (s : Sight) (after : List Part) → Sees (numbered script.main).main s (function f ∷ after)
      → AllPerform p left b whole script (out-FuncBody f).body)
      (allowed : (f : FuncBody) (s : Sight) (after : List Part) → Sees (numbered script.main).main s (function f ∷ after)
      → AllAllowed p left b whole script (out-FuncBody f).body outside (in_function f)) where
    -- what is known of a function that runs
    abbrev running : (f : FuncBody) (h : Here p left) → CodeOf b whole (numbered script.main).main f h.act.outer h.act.ups h.proto
        → Running p left b whole script h
    running f h c =
        let id = (out-FuncBody f).id in
        let d = finished b f c.before in
        let is : d.draft.func ≡ id = finished_func b f c.before in
        let captured = functions_capture script.main (numbered script.main) c.from f c.after refl c.stands in
        let listed : upvalues_at b id ≡ captured.0.locals =
        ap (λ (b : Bindings). upvalues_at b id) script.is ∙ ap (λ o. unwrap_or o []) captured.1 in
        record {
          func = f;
          from = c.from;
          after = c.after;
          stands = c.stands;
          final = d.draft;
          id = is;
          read = linked_read d.draft.items h.proto.code c.linked.fits c.linked.code;
          constants = c.linked.constants;
          children = c.linked.children;
          few_constants = c.linked.few_constants;
          few_children = c.linked.few_children;
          captured = captured.0;
          listed = listed;
          globals = c.globals;
          upvalues = λ x k e has.
              subst (λ n. slice_get h.act.ups (upvalue_in b n k) ≡ Some x) (sym is)
              (named_upvalue b id c.from.scope h.act.ups x k (sound (numbered script.main).main c.from (function f ∷ c.after) c.stands).0.rising c.named e
              (subst (λ ks. Contains ks k) (sym listed) has) (subst (λ n. length (upvalues_at b n) ≤ 256) is c.linked.few_upvalues));
        }

    module _ (f : FuncBody) (h : Here p left) (c : CodeOf b whole (numbered script.main).main f h.act.outer h.act.ups h.proto) where
      r : Running p left b whole script h
      r = running f h c

      -- its code, step by step
      abbrev bare : Emitter
      bare = with_draft (blank (out-FuncBody f).id) c.before

      abbrev ready : Emitter
      ready = prepared (out-FuncBody f).vararg (length (out-FuncBody f).params) bare

      abbrev entered : Emitter
      entered = begun b f c.before

      abbrev ended : Emitter
      ended = stats_run (map (stat_code b) (out-FuncBody f).body) (length (out-FuncBody f).params) no_loop entered

      grown : Grows entered ended
      grown =
          let codes = map (stat_code b) (out-FuncBody f).body in
          grows.stats_good codes (grows.stats_are_good b (out-FuncBody f).body) (length (out-FuncBody f).params) no_loop entered entered (grows.none entered)

      in_finished : In p left b whole script h r (finished b f c.before)
      unfolding r
      in_finished =
          let d = finished b f c.before in
          record {
            func = refl;
            items = grows.same d.draft.items;
            constants = grows.same d.draft.constants;
            children = grows.same d.draft.children;
            protos = c.protos;
            strings = c.strings;
          }

      in_ended : In p left b whole script h r ended
      in_ended = before_put r.final whole _ ended in_finished

      in_ready : In p left b whole script h r ready
      in_ready =
          let n = length (out-FuncBody f).params in
          let g : Grows ready entered = grows.all_declared (first_at b (out-FuncBody f).id) 0 n ready ready (grows.none ready) in
          before r.final whole ready entered g (before r.final whole entered ended grown in_ended)

      bare_ready : (vararg : Bool) (n : ℕ) → (prepared vararg n bare).draft.variables ≡ []
      bare_ready true n = keeps.put _ bare bare (keeps.none bare) ∙ no_variables (out-FuncBody f).id c.before
      bare_ready false n = no_variables (out-FuncBody f).id c.before

      -- its parameters are in its first registers
      abbrev parameters : (c : ℕ) → List Slot
      parameters n = vars (flags c.from.declared) (out-FuncBody f).params n []

      at_start : (n : ℕ) → At p left b whole script h r (map stat (out-FuncBody f).body ++ []) (parameters n) entered
      unfolding r
      at_start n =
          let g = out-FuncBody f in
          let s = c.from in
          let none = bare_ready g.vararg (length g.params) in
          let made = all_declared b s.scope s.declared g.params (flags s.declared) n s.declared 0 [] s.scope ready refl
          (few_seen p b whole script (function f) c.after s g.params refl c.stands) (omega arith)
          (subst (AllBelow s.declared) (sym none) tt) (λ i lt. ap (λ k. is_captured b (s.declared + k)) (omega arith)) (refl, none) in
          let first : s.declared ≡ first_at b g.id = sym (first_seen p b whole script (function f) c.after s g.id c.stands refl) in
          subst (λ ps. At p left b whole script h r ps (parameters n) entered) (sym (append-nil (map stat g.body)))
          (subst (λ m. At p left b whole script h r (map stat g.body) (parameters n) (declare_all m 0 (length g.params) ready)) first (record {
            sight = (in_part (function f) s).sight;
            seen = enter s (function f) [] itself;
            aligned = made.aligned;
            first = refl;
            below = made.below;
          }))

      same_func : entered.draft.func ≡ r.final.func
      unfolding r
      same_func =
          let g : Grows entered (finished b f c.before) = grows.put _ entered ended grown in sym g.func

      enough : length (out-FuncBody f).params + block_from 0 (map need_stat (out-FuncBody f).body) ≤ h.proto.registers
      enough =
          let room = c.room in
          let e : need.need f ≡ length (out-FuncBody f).params + block_from 0 (map need_stat (out-FuncBody f).body) = levels.func_is need.steps f in
          omega (arith, room, e)

      -- its statements go along
      statements_go : (n : ℕ) → BlockRuns p left (out-FuncBody f).body h (parameters n) outside (here entered) (here ended)
          (Last p left b whole script h r [] [] ended)
      statements_go n =
          let g = out-FuncBody f in
          let codes = map (stat_code b) g.body in
          let count : length (parameters n) ≡ length g.params = length_vars (flags c.from.declared) g.params n [] ∙ omega arith in
          subst (λ m. In p left b whole script h r (stats_run codes m no_loop entered)
          → BlockRuns p left g.body h (parameters n) outside (here entered) (here (stats_run codes m no_loop entered))
          (Last p left b whole script h r [] [] (stats_run codes m no_loop entered))) count
          (λ s. block_goes p left b whole script g.body h r [] [] (parameters n) entered no_loop outside (in_function f) (length g.params) 0
          (performs f c.from c.after c.stands) (at_start n) same_func (above_vars (flags c.from.declared) g.params n []) s
          (omega (arith, count)) enough tt (allowed f c.from c.after c.stands)) in_ended

    -- a function that is entered goes along with its code
    pub bodies_go : FuncsGo p left
    bodies_go f number outer ups proto code cells closure vs co ws fs ms ds d o alike stands =
        let h = here_of p left f number outer ups proto code cells closure vs co ws fs ms ds stands in
        let c = is_code f number outer ups proto code.code in
        let g = out-FuncBody f in
        let one : here (entered f h c) ≡ here (ready f h c) = here_declared (length g.params) (first_at b g.id) 0 (ready f h c) in
        entered_same p left f number outer ups proto code calls (flags c.from.declared) (here (ready f h c)) (here (ended f h c))
        (here (finished b f c.before)) (Last p left b whole script h (r f h c) [] [] (ended f h c)) cells closure vs co ws fs ms ds stands
        (begins f number outer ups proto code cells closure vs co ws fs ms ds stands g.vararg (length g.params) (in_ready f h c))
        (λ n. subst (λ m. BlockRuns p left g.body h (parameters f h c n) outside m (here (ended f h c))
        (Last p left b whole script h (r f h c) [] [] (ended f h c))) one (statements_go f h c n))
        (reads p left b whole script h (r f h c) (i.Return 0 1) (ended f h c) (in_finished f h c)) d o alike
      where
        begins : (f : FuncBody) (number : ℕ) (outer : Environment) (ups : List StrId) (proto : ProtoOf) (code : Code p f number outer ups proto)
            (cells : List ℕ) (closure : ℕ) (vs : List Value) (co : ℕ) (ws : List Wait) (fs : List source.Activation) (ms : List machine.Frame)
            (ds : List Desc) (stands : Stands p left co ws fs ms ds) (t : Bool) (n : ℕ)
            → In p left b whole script (here_of p left f number outer ups proto code cells closure vs co ws fs ms ds stands)
            (r f (here_of p left f number outer ups proto code cells closure vs co ws fs ms ds stands) (is_code f number outer ups proto code.code))
            (prepared t n (bare f (here_of p left f number outer ups proto code cells closure vs co ws fs ms ds stands)
            (is_code f number outer ups proto code.code)))
            → Begins p left f number outer ups proto code (here_of p left f number outer ups proto code cells closure vs co ws fs ms ds stands)
            (here (prepared t n (bare f (here_of p left f number outer ups proto code cells closure vs co ws fs ms ds stands)
            (is_code f number outer ups proto code.code))))
        begins f number outer ups proto code cells closure vs co ws fs ms ds stands true n s =
            let h = here_of p left f number outer ups proto code cells closure vs co ws fs ms ds stands in
            let c = is_code f number outer ups proto code.code in
            begins_prepared n (subst (λ m. Reads p left h m (i.PrepVarargs n) (here (prepared true n (bare f h c)))) (here_blank (out-FuncBody f).id c.before)
            (reads p left b whole script h (r f h c) (i.PrepVarargs n) (bare f h c) s))
        begins f number outer ups proto code cells closure vs co ws fs ms ds stands false n s =
            let c = is_code f number outer ups proto code.code in at_once (sym (here_blank (out-FuncBody f).id c.before))
