-- Lists of values: each expression gives one, but the last gives all that it has.
use Rattle.std.proofs.Common.{◌≡◌, ℕ, zero, suc, List, [], ◌∷◌, ◌++◌, length, refl, sym, ap, ◌∙◌, subst, arith}
use Rattle.syntax_tree.specs.declared.tree.Expr.{Expr}
use Rattle.syntax_tree.specs.declared.tree.ExprKind.{out-ExprKind}
use Rattle.syntax_tree.specs.declared.tree.ExprKind.TheOpen as level
use Rattle.value_model.specs.Values.{Value, Nil}
use Rattle.source_meaning.specs.Levels.{ExprLevel}
use Rattle.source_meaning.specs.States.{of_expr}
use Rattle.source_meaning.specs.States as source
use Rattle.source_meaning.specs.Moves as source_moves
use Rattle.source_meaning.specs.Expressions as expressions
use Rattle.op_words.specs.declared.insn.Insn.TheVariants as insn
use Rattle.machine_meaning.specs.States as machine
use Rattle.code_simulation.specs.Slots.{Slot, Temp, temps, Steady}
use Rattle.code_simulation.specs.Relation.{Dyn, Setting}
use Rattle.code_simulation.proofs.Along.{Alike, Counts, File, Here, inside, env_of, Reads, machine_at, Has, Same}
use Rattle.code_simulation.proofs.Parts.{ExprRuns, AllRuns, ListRuns}
use Rattle.code_simulation.proofs.Names.{steady_all, steady_on, steady_put}
use Rattle.code_simulation.proofs.World.{push, pop}
use Rattle.code_simulation.proofs.Changes.{append_nil, append_one}
use Rattle.code_simulation.proofs.Moving.{source_goes, target_goes}
use Rattle.code_simulation.proofs.Registers.{row_here, wanted, give_is, with_register, deliver_is, delivered, delivered_file, delivered_steady, results_is}
use Rattle.code_simulation.proofs.Values.{Loads, loads_row}

pub length_adjusted : (n : ℕ) (vs : List Value) → length (machine.adjusted n vs) ≡ n
length_adjusted zero vs = refl
length_adjusted (suc n) [] = ap suc (length_adjusted n [])
length_adjusted (suc n) (v ∷ vs) = ap suc (length_adjusted n vs)

-- how an instruction counts one value more
abbrev pub one_more : ℕ → ℕ
one_more zero = zero
one_more (suc n) = suc (suc n)

pub counts_more : (count n base top : ℕ) → Counts count n (suc base) top → Counts (one_more count) (suc n) base top
counts_more zero n base top c = omega (arith, c)
counts_more (suc c) n base top e = ap suc e

-- all values of the expression are its one value
abbrev pub IsSingle : Expr → Type 0
IsSingle e =
    (h : source_moves.Here) (k : List source.Frame) (env : source.Environment) (w : source.World)
    → expressions.begin_all (out-ExprKind e.kind) e h k env w ≡ source_moves.now (source.Evaluate e) h (source.Only ∷ k) env w

module _ (p : Setting) (most : ℕ) where
  -- nil in so many registers from one on
  abbrev pub LoadsNils : (h : Here p most) → (place to n next : ℕ) → Type 0
  LoadsNils h place to zero next = place ≡ next
  LoadsNils h place to (suc n) next = (mid : ℕ) × Loads p most h place to Nil mid × LoadsNils h mid (suc to) n next

  pub nils_same : (n from to : ℕ) (h : Here p most) (l : List Slot) (left : ℕ) (s : source.State) (d : Dyn) (file : File)
      → LoadsNils h from (length l) n to → Has p most h left l d file
      → ((file' : File) → Has p most h left (temps (machine.adjusted n []) l) d file' → Steady l file.registers file'.registers
      → Alike p left s (machine_at p most h to file' d)) → Alike p left s (machine_at p most h from file d)
  nils_same zero from to h l left s d file st w go =
      subst (λ n. Alike p left s (machine_at p most h n file d)) (sym st) (go file w (steady_all l file.registers))
  nils_same (suc n) from to h l left s d file st w go =
      let c = w.clear (length l) (omega arith) in
      let file1 = with_register p most file (length l) Nil in
      target_goes p (loads_row p most h from (length l) st.0 Nil file d st.1 ∙ give_is p most h machine.Idle (length l) st.0 from Nil c.0 file d.code c.1)
      (nils_same n st.0 to h (Temp Nil ∷ l) left s d file1 st.2 (push Nil w)
      (λ file2 w2 steady. go file2 w2 (steady_on l _ _ _ (steady_put l file.registers (length l) (machine.Val Nil) (omega arith)) steady)))

  -- ---- all values of one expression

  -- of one that gives one value
  pub single_all : (e : Expr) (h : Here p most) (l : List Slot) (from to : ℕ) → IsSingle e → ExprRuns p most e h l from to
      → AllRuns p most e h l from to 2 (λ vs. vs)
  single_all e h l from to single runs left le k d file w go =
      source_goes p (single (inside p most h) k (env_of p most h l) d.script)
      (runs left le (source.Only ∷ k) d file w
      (λ i lt v d2 file2 w2 steady. source_goes p refl (go i lt (v ∷ []) d2 file2 w2 refl steady)))

  -- of `...`
  pub vararg_all : (e : Expr) (count : ℕ) (h : Here p most) (l : List Slot) (from to : ℕ) → out-ExprKind e.kind ≡ level.Vararg
      → Reads p most h from (insn.GetVarargs (length l) count) to → AllRuns p most e h l from to 0 (wanted count)
  vararg_all e count h l from to kind reads left le k d file w go =
      source_goes p (ap (λ (y : ExprLevel). expressions.begin_all y e (inside p most h) k (env_of p most h l) d.script) kind)
      (target_goes p
      (row_here p most h from to file d (insn.GetVarargs (length l) count) reads
      ∙ results_is p most h machine.Idle (length l) count to from h.varargs file d
      ∙ deliver_is p most h machine.Idle l to from (wanted count h.varargs) file d w)
      (go left (omega arith) h.varargs d (delivered_file p most h l (wanted count h.varargs) file)
      (delivered p most h l (wanted count h.varargs) file d w) refl (delivered_steady p most h l (wanted count h.varargs) file)))

  adjusted_one : (vs : List Value) → machine.adjusted 1 vs ≡ source_moves.first vs ∷ []
  adjusted_one [] = refl
  adjusted_one (v ∷ vs) = refl

  -- `...` as one value
  pub vararg_same : (e : Expr) (h : Here p most) (l : List Slot) (from to : ℕ) → out-ExprKind e.kind ≡ level.Vararg
      → Reads p most h from (insn.GetVarargs (length l) 2) to → ExprRuns p most e h l from to
  vararg_same e h l from to kind reads left le k d file w go =
      source_goes p (ap (λ (y : ExprLevel). expressions.begin p.texts y (of_expr e) (inside p most h) k (env_of p most h l) d.script) kind)
      (target_goes p
      (row_here p most h from to file d (insn.GetVarargs (length l) 2) reads
      ∙ deliver_is p most h machine.Idle l to from (machine.adjusted 1 h.varargs) file d w)
      (go left (omega arith) (source_moves.first h.varargs) d (delivered_file p most h l (machine.adjusted 1 h.varargs) file)
      (subst (λ vs. Has p most h left (temps vs l) d (delivered_file p most h l (machine.adjusted 1 h.varargs) file)) (adjusted_one h.varargs)
      (delivered p most h l (machine.adjusted 1 h.varargs) file d w))
      (delivered_steady p most h l (machine.adjusted 1 h.varargs) file)))

  -- ---- lists

  -- no values
  pub list_none : (h : Here p most) (l : List Slot) (from : ℕ) → ListRuns p most [] h l from from 1 (λ vs. vs)
  list_none h l from left le got k d file s e w go =
      source_goes p (e ∙ ap (λ vs. source_moves.now (source.GiveAll vs) (inside p most h) k (env_of p most h l) d.script) (sym (append_nil got)))
      (go left (omega arith) [] d file w refl (steady_all l file.registers))

  -- the last expression
  pub list_last : (e : Expr) (count : ℕ) (take : List Value → List Value) (h : Here p most) (l : List Slot) (from to : ℕ)
      → AllRuns p most e h l from to count take → ListRuns p most (e ∷ []) h l from to count take
  list_last e count take h l from to runs left le got k d file s row w go =
      source_goes p row
      (runs left le (source.Last got ∷ k) d file w
      (λ i lt vs d2 file2 w2 c steady. source_goes p refl (go i lt vs d2 file2 w2 c steady)))

  -- one before others, whose value stays in its register
  pub list_more : (e f : Expr) (es : List Expr) (count : ℕ) (take take_more : List Value → List Value) (h : Here p most) (l : List Slot)
      (from mid to : ℕ) → ((v : Value) (vs : List Value) → take_more (v ∷ vs) ≡ v ∷ take vs) → ExprRuns p most e h l from mid
      → ((v : Value) → ListRuns p most (f ∷ es) h (Temp v ∷ l) mid to count take)
      → ListRuns p most (e ∷ f ∷ es) h l from to (one_more count) take_more
  list_more e f es count take take_more h l from mid to takes runs rest_runs left le got k d file s row w go =
      source_goes p row
      (runs left le (source.Item got (f ∷ es) ∷ k) d file w
      (λ i lt v d2 file2 w2 steady.
      rest_runs v i (omega (arith, le, lt)) (got ++ v ∷ []) k d2 file2 _ refl w2
      (λ j lt2 vs d3 file3 w3 c steady2.
      subst (λ us. Same p most h j (source.GiveAll us) k l d3 to file3) (sym (append_one got v vs))
      (go j (omega (arith, lt, lt2)) (v ∷ vs) d3 file3
      (subst (λ us. Has p most h j (temps us l) d3 file3) (sym (takes v vs)) w3)
      (subst (λ us. Counts (one_more count) (length us) (length l) file3.top) (sym (takes v vs)) (counts_more count (length (take vs)) (length l) file3.top c))
      (steady_on l _ _ _ steady steady2)))))

  -- one before others, whose value nobody wants
  pub list_dropped : (e f : Expr) (es : List Expr) (h : Here p most) (l : List Slot) (from mid to : ℕ) → ExprRuns p most e h l from mid
      → ListRuns p most (f ∷ es) h l mid to 1 (machine.adjusted 0) → ListRuns p most (e ∷ f ∷ es) h l from to 1 (machine.adjusted 0)
  list_dropped e f es h l from mid to runs rest_runs left le got k d file s row w go =
      source_goes p row
      (runs left le (source.Item got (f ∷ es) ∷ k) d file w
      (λ i lt v d2 file2 w2 steady.
      rest_runs i (omega (arith, le, lt)) (got ++ v ∷ []) k d2 file2 _ refl (pop w2)
      (λ j lt2 vs d3 file3 w3 c steady2.
      subst (λ us. Same p most h j (source.GiveAll us) k l d3 to file3) (sym (append_one got v vs))
      (go j (omega (arith, lt, lt2)) (v ∷ vs) d3 file3 w3 c (steady_on l _ _ _ steady steady2)))))

  -- ---- so many values of a list, where fewer are filled up with nil

  pub exact_none : (n : ℕ) (h : Here p most) (l : List Slot) (from to : ℕ) → LoadsNils h from (length l) n to
      → ListRuns p most [] h l from to (suc n) (machine.adjusted n)
  exact_none n h l from to nils left le got k d file s e w go =
      source_goes p (e ∙ ap (λ vs. source_moves.now (source.GiveAll vs) (inside p most h) k (env_of p most h l) d.script) (sym (append_nil got)))
      (nils_same n from to h l left _ d file nils w
      (λ file2 w2 steady. go left (omega arith) [] d file2 w2 (sym (length_adjusted n [])) steady))

  -- the last expression gives as many values as are wanted
  pub exact_many : (e : Expr) (n : ℕ) (h : Here p most) (l : List Slot) (from to : ℕ) → AllRuns p most e h l from to 0 (wanted (suc n))
      → ListRuns p most (e ∷ []) h l from to (suc n) (machine.adjusted n)
  exact_many e n h l from to runs left le got k d file s row w go =
      source_goes p row
      (runs left le (source.Last got ∷ k) d file w
      (λ i lt vs d2 file2 w2 c steady. source_goes p refl (go i lt vs d2 file2 w2 (sym (length_adjusted n vs)) steady)))

  -- it gives one, and nil is loaded for the others
  pub exact_single : (e : Expr) (n : ℕ) (h : Here p most) (l : List Slot) (from mid to : ℕ) → IsSingle e → ExprRuns p most e h l from mid
      → LoadsNils h mid (suc (length l)) n to → ListRuns p most (e ∷ []) h l from to (suc (suc n)) (machine.adjusted (suc n))
  exact_single e n h l from mid to single runs nils left le got k d file s row w go =
      source_goes p row
      (source_goes p (single (inside p most h) (source.Last got ∷ k) (env_of p most h l) d.script)
      (runs left le (source.Only ∷ source.Last got ∷ k) d file w
      (λ i lt v d2 file2 w2 steady.
      source_goes p refl
      (source_goes p refl
      (nils_same n mid to h (Temp v ∷ l) i _ d2 file2 nils w2
      (λ file3 w3 steady2. go i lt (v ∷ []) d2 file3 w3 (ap suc (sym (length_adjusted n []))) (steady_on l _ _ _ steady steady2)))))))

  -- it gives one, which nobody wants
  pub exact_dropped : (e : Expr) (h : Here p most) (l : List Slot) (from to : ℕ) → IsSingle e → ExprRuns p most e h l from to
      → ListRuns p most (e ∷ []) h l from to 1 (machine.adjusted 0)
  exact_dropped e h l from to single runs left le got k d file s row w go =
      source_goes p row
      (source_goes p (single (inside p most h) (source.Last got ∷ k) (env_of p most h l) d.script)
      (runs left le (source.Only ∷ source.Last got ∷ k) d file w
      (λ i lt v d2 file2 w2 steady.
      source_goes p refl (source_goes p refl (go i lt (v ∷ []) d2 file2 (pop w2) refl steady)))))

  -- one before others: its value is the first of those that are wanted
  pub exact_more : (e f : Expr) (es : List Expr) (n : ℕ) (h : Here p most) (l : List Slot) (from mid to : ℕ) → ExprRuns p most e h l from mid
      → ((v : Value) → ListRuns p most (f ∷ es) h (Temp v ∷ l) mid to (suc n) (machine.adjusted n))
      → ListRuns p most (e ∷ f ∷ es) h l from to (suc (suc n)) (machine.adjusted (suc n))
  exact_more e f es n h l from mid to runs rest_runs =
      list_more e f es (suc n) (machine.adjusted n) (machine.adjusted (suc n)) h l from mid to (λ v vs. refl) runs rest_runs
