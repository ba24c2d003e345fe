-- A function is entered: its arguments are its parameters' values, and its body runs as its code does.
use Rattle.std.proofs.Common.{Bool, true, false, ◌≡◌, ◌≢◌, ℕ, zero, suc, ◌+◌, ◌<◌, ◌≤◌, List, [], ◌∷◌, ◌++◌, length, refl, sym, ap, ◌∙◌, subst, arith, cond, ⊎_elim}
use Rattle.std.specs.Prelude.{slice_index_or, take}
use Rattle.std.proofs.lemmas.Bool.{eq-eqb, ne_eqb, cases_eq}
use Rattle.byte_text.specs.declared.fixed.StrId.{StrId}
use Rattle.syntax_tree.specs.declared.tree.FuncBody.{FuncBody, out-FuncBody}
use Rattle.value_model.specs.Values.{Value, Nil}
use Rattle.value_model.specs.Waits.{Wait, Runs}
use Rattle.source_meaning.specs.States as source
use Rattle.source_meaning.specs.Moves as source_moves
use Rattle.source_meaning.specs.Calls as source_calls
use Rattle.op_words.specs.declared.insn.Insn.TheVariants as insn
use Rattle.op_words.specs.Chunks.{ProtoOf}
use Rattle.machine_meaning.specs.States.{Val, Registers, filled}
use Rattle.machine_meaning.specs.States as machine
use Rattle.machine_meaning.specs.Calls as machine_calls
use Rattle.code_simulation.specs.Slots.{Slot, Temp, temps, vars}
use Rattle.code_simulation.specs.Relation.{Dyn, cells_s, cells_m, changed, Setting, UpsAlike, Code, Act, Desc, Ok, Holds}
use Rattle.code_simulation.proofs.Along.{Alike, Stands, CallsGo, File, Here, Reads, machine_at}
use Rattle.code_simulation.proofs.Names.{binds_vars}
use Rattle.code_simulation.proofs.World.{claim}
use Rattle.code_simulation.proofs.Changes.{declare_all, start_holds}
use Rattle.code_simulation.proofs.Moving.{target_goes}
use Rattle.code_simulation.proofs.Registers.{row_here}
use Rattle.code_simulation.proofs.Lists.{length_adjusted}
use Rattle.code_simulation.proofs.Blocks.{outside, BlockRuns}
use Rattle.code_simulation.proofs.Statements.{adjusted_is, falls_off}

-- ---- arguments in registers

filled_here : (r : ℕ) (v : Value) (vs : List Value) → filled r (v ∷ vs) r ≡ Val v
filled_here r v vs = ap (λ b. cond b (Val v) (filled (suc r) vs r)) (eq-eqb r r refl)

filled_later : (r : ℕ) (v : Value) (vs : List Value) (q : ℕ) → q ≢ r → filled r (v ∷ vs) q ≡ filled (suc r) vs q
filled_later r v vs q ne = ap (λ b. cond b (Val v) (filled (suc r) vs q)) (ne_eqb q r ne)

-- none of them is open
pub filled_plain : (vs : List Value) (r q : ℕ) → (v : Value) × (filled r vs q ≡ Val v)
filled_plain [] r q = (Nil, refl)
filled_plain (v ∷ vs) r q =
    let rest = filled_plain vs (suc r) q in
    ⊎_elim
    (λ e. (v, ap (filled r (v ∷ vs)) e ∙ filled_here r v vs))
    (λ ne. (rest.0, filled_later r v vs q ne ∙ rest.1))
    (cases_eq q r)

pub filled_args : (n : ℕ) (vs : List Value) (r i : ℕ) → i < n → filled r (take n vs) (r + i) ≡ Val (slice_index_or vs i Nil)
filled_args zero vs r i lt = absurd (omega (arith, lt))
filled_args (suc n) [] r zero lt = refl
filled_args (suc n) [] r (suc i) lt = refl
filled_args (suc n) (v ∷ vs) r zero lt =
    ap (filled r (v ∷ take n vs)) (omega arith) ∙ filled_here r v (take n vs)
filled_args (suc n) (v ∷ vs) r (suc i) lt =
    filled_later r v (take n vs) (r + suc i) (λ e. omega (arith, e))
    ∙ ap (filled (suc r) (take n vs)) (omega arith)
    ∙ filled_args n vs (suc r) i (omega (arith, lt))

-- a function's parameters are in its first registers
pub claim_all : {p : Setting} {turns co : ℕ} {ws : List Wait} {roots : List Desc} {a : Act} {d : Dyn} {regs : Registers}
    → (n : ℕ) (vs : List Value) (l : List Slot) → ((i : ℕ) → i < n → regs (length l + i) ≡ Val (slice_index_or vs i Nil))
    → Holds p turns co ws roots a l d regs → Holds p turns co ws roots a (temps (machine.adjusted n vs) l) d regs
claim_all zero vs l at_args w = w
claim_all {regs = regs} (suc n) [] l at_args w =
    claim_all n [] (Temp Nil ∷ l) (λ i lt. ap regs (omega arith) ∙ at_args (suc i) (omega (arith, lt)))
    (claim Nil (ap regs (omega arith) ∙ at_args 0 (omega arith)) w)
claim_all {regs = regs} (suc n) (v ∷ vs) l at_args w =
    claim_all n vs (Temp v ∷ l) (λ i lt. ap regs (omega arith) ∙ at_args (suc i) (omega (arith, lt)))
    (claim v (ap regs (omega arith) ∙ at_args 0 (omega arith)) w)

-- both keep the same arguments behind the parameters
pub varargs_is : (b : Bool) (n : ℕ) (vs : List Value) → source_calls.varargs_of b n vs ≡ machine_calls.varargs_of b n vs
varargs_is true n vs = refl
varargs_is false n vs = refl

-- ---- both states where a function was entered

abbrev pub entered_s : FuncBody → (outer : source.Environment) → (closure : ℕ) → List Value → List source.Activation → Dyn → source.State
entered_s func outer c vs fs d =
    let f = out-FuncBody func in
    source_calls.state_with (source.ExecuteAll f.body) (record {
      frames = [];
      env = source_moves.bound f.params
          (length (cells_s d)) outer;
      closure = c;
      varargs = source_calls.varargs_of f.vararg (length f.params) vs;
    } ∷ fs)
    (source_moves.with_cells (cells_s d ++ source_moves.adjusted f.params vs) d.script)

abbrev pub entered_m : (number : ℕ) → ProtoOf → (cells : List ℕ) → (closure : ℕ) → List Value → List machine.Frame → Dyn → machine.State
entered_m number proto cells c vs ms d =
    machine_calls.state_with machine.Run (record {
      closure = c;
      proto = number;
      size = proto.registers;
      upvalues = cells;
      varargs =
          machine_calls.varargs_of proto.vararg proto.params vs;
      place = 0;
      registers = filled 0 (take proto.params vs);
      top = length
          (take proto.params vs);
      purpose = machine.Idle;
    } ∷ ms) d.code

-- the same, with so many parameters and these arguments behind them
abbrev entered_m_with : (number : ℕ) → ProtoOf → (cells : List ℕ) → (closure : ℕ) → List Value → List machine.Frame → Dyn → (params : ℕ) → List Value
    → machine.State
entered_m_with number proto cells c vs ms d n us =
    machine_calls.state_with machine.Run (record {
      closure = c;
      proto = number;
      size = proto.registers;
      upvalues = cells;
      varargs = us;
      place = 0;
      registers = filled 0 (take n vs);
      top = length (take n vs);
      purpose = machine.Idle;
    } ∷ ms) d.code

-- with so many turns left each function that has code goes along with it, when it is entered
abbrev pub FuncsGo : Setting → ℕ → Type 0
FuncsGo p left =
    (func : FuncBody) (number : ℕ) (outer : source.Environment) (ups : List StrId) (proto : ProtoOf) → Code p func number outer ups proto
    → (cells : List ℕ) (c : ℕ) (vs : List Value) (co : ℕ) (ws : List Wait) (fs : List source.Activation)
    (ms : List machine.Frame) (ds : List Desc) (d : Dyn) → Ok p left co (Runs c ∷ ws) ds d → UpsAlike d.tag outer ups cells
    → Stands p left co ws fs ms ds → Alike p left (entered_s func outer c vs fs d) (entered_m number proto cells c vs ms d)

module _ (p : Setting) (left : ℕ) (func : FuncBody) (number : ℕ) (outer : source.Environment) (ups : List StrId) (proto : ProtoOf)
    (code : Code p func number outer ups proto) where
  -- what stays as it is while the function runs
  abbrev pub here_of : (cells : List ℕ) (c : ℕ) (vs : List Value) (co : ℕ) (ws : List Wait) (fs : List source.Activation)
      (ms : List machine.Frame) (ds : List Desc) → Stands p left co ws fs ms ds → Here p left
  here_of cells c vs co ws fs ms ds stands =
      record {
        closure = c;
        co = co;
        varargs = source_calls.varargs_of (out-FuncBody func).vararg (length (out-FuncBody func).params) vs;
        number = number;
        proto = proto;
        found = code.found;
        act = record { outer = outer; ups = ups; cells = cells };
        waits = ws;
        below_s = fs;
        below_m = ms;
        roots = ds;
        stands = stands;
      }

  -- its code begins with a mark of its own where it takes more arguments, or at once
  pub data Begins (h : Here p left) (from : ℕ) : Type 0 where
    at_once : 0 ≡ from → Begins h from
    prepared : (n : ℕ) → Reads p left h 0 (insn.PrepVarargs n) from → Begins h from

  begins_same : (h : Here p left) (from : ℕ) (s : source.State) (d : Dyn) (file : File) → Begins h from
      → Alike p left s (machine_at p left h from file d) → Alike p left s (machine_at p left h 0 file d)
  begins_same h from s d file (at_once e) a = subst (λ n. Alike p left s (machine_at p left h n file d)) (sym e) a
  begins_same h from s d file (prepared n reads) a = target_goes p (row_here p left h 0 from file d (insn.PrepVarargs n) reads) a

  -- A function goes along with its code where its body does, which stands from behind the beginning to an instruction that returns nothing
  pub entered_same : (calls : (i : ℕ) → i ≤ left → CallsGo p i) (captured : ℕ → Bool) (from last next : ℕ) (End : List Slot → Type 0)
      (cells : List ℕ) (c : ℕ) (vs : List Value) (co : ℕ) (ws : List Wait) (fs : List source.Activation)
      (ms : List machine.Frame) (ds : List Desc) (stands : Stands p left co ws fs ms ds)
      → Begins (here_of cells c vs co ws fs ms ds stands) from
      → ((n : ℕ) → BlockRuns p left (out-FuncBody func).body (here_of cells c vs co ws fs ms ds stands)
      (vars captured (out-FuncBody func).params n []) outside from last End)
      → Reads p left (here_of cells c vs co ws fs ms ds stands) last (insn.Return 0 1) next → (d : Dyn) → Ok p left co (Runs c ∷ ws) ds d
      → UpsAlike d.tag outer ups cells → Alike p left (entered_s func outer c vs fs d) (entered_m number proto cells c vs ms d)
  entered_same calls captured from last next End cells c vs co ws fs ms ds stands begins body reads d o alike =
      let f = out-FuncBody func in
      let h = here_of cells c vs co ws fs ms ds stands in
      let n = length f.params in
      let regs : Registers = filled 0 (take n vs) in
      let file : File = record { registers = regs; top = length (take n vs) } in
      let w0 = start_holds p left co (Runs c ∷ ws) ds h.act d regs o alike (λ r. filled_plain (take n vs) 0 r) in
      let w1 = claim_all n vs [] (λ i lt. filled_args n vs 0 i lt) w0 in
      let r = declare_all p left co (Runs c ∷ ws) ds h.act captured regs f.params (machine.adjusted n vs) (length_adjusted n vs) [] d w1 in
      let d2 : Dyn = changed d r.tag (cells_s d ++ machine.adjusted n vs) (cells_m d) in
      subst (λ m. Alike p left (entered_s func outer c vs fs d) (entered_m_with number proto cells c vs ms d m
      (machine_calls.varargs_of proto.vararg proto.params vs))) (sym code.params)
      (subst (λ us. Alike p left (entered_s func outer c vs fs d) (entered_m_with number proto cells c vs ms d n us))
      (varargs_is f.vararg n vs ∙ ap (λ b. machine_calls.varargs_of b n vs) (sym code.vararg)
      ∙ ap (λ m. machine_calls.varargs_of proto.vararg m vs) (sym code.params))
      (subst (λ us. Alike p left (source_calls.state_with (source.ExecuteAll f.body)
      (record { frames = []; env = source_moves.bound f.params (length (cells_s d)) outer; closure = c; varargs = h.varargs } ∷ fs)
      (source_moves.with_cells (cells_s d ++ us) d.script)) (machine_at p left h 0 file d2)) (sym (adjusted_is f.params vs))
      (subst (λ env. Alike p left (source_calls.state_with (source.ExecuteAll f.body)
      (record { frames = []; env = env; closure = c; varargs = h.varargs } ∷ fs) d2.script) (machine_at p left h 0 file d2))
      (sym (binds_vars captured f.params (length (cells_s d)) [] outer))
      (begins_same h from _ d2 file begins
      (body (length (cells_s d)) left (omega arith) [] d2 file r.holds (λ env. record { breaks = tt; continues = tt })
      (λ i lt l2 d3 file3 end w3. falls_off p left calls h l2 last next i d3 file3 reads lt w3))))))
