-- Blocks: their statements in order, and what is closed behind them; the ways out of a loop.
use Rattle.std.proofs.Common.{◌≡◌, ℕ, ◌+◌, ◌≤◌, ℤ, pos, ◌+ℤ◌, List, [], ◌∷◌, length, refl, sym, ap, ◌∙◌, subst, arith}
use Rattle.syntax_tree.specs.declared.tree.Stat.{Stat}
use Rattle.syntax_tree.specs.declared.tree.StatKind.{out-StatKind}
use Rattle.syntax_tree.specs.declared.tree.ExprKind.TheOpen as level
use Rattle.source_meaning.specs.Levels.{StatLevel}
use Rattle.source_meaning.specs.States.{of_stat}
use Rattle.source_meaning.specs.States as source
use Rattle.source_meaning.specs.Statements as statements
use Rattle.source_meaning.specs.Steps as source_steps
use Rattle.op_words.specs.declared.insn.Insn.TheVariants as insn
use Rattle.machine_meaning.specs.States as machine
use Rattle.code_simulation.specs.Slots.{Slot, Above, Plainly}
use Rattle.code_simulation.specs.Relation.{Dyn, cells_m, Setting}
use Rattle.code_simulation.proofs.Along.{Alike, File, Here, inside, frame, env_of, Reads, source_at, machine_at, Has, Same, SameIn}
use Rattle.code_simulation.proofs.Parts.{Forward}
use Rattle.code_simulation.proofs.Names.{plainly_above}
use Rattle.code_simulation.proofs.World.{loosely, close, drop_above, drop_plainly}
use Rattle.code_simulation.proofs.Moving.{source_goes, target_goes}
use Rattle.code_simulation.proofs.Registers.{row_here}
use Rattle.code_simulation.proofs.Operations.{jump_is}

-- a jump that charges a turn leads to a place
abbrev pub Backward : (place : ℕ) → (by : ℤ) → (to : ℕ) → Type 0
Backward place by to = (pos (place + 1) +ℤ by) ≡ pos to

-- the loop around a statement: the slots that are left where it is broken off, and where a turn of it is ended, and the places. A
-- statement that ends no turn may need the first alone
pub data Jumps : Type 0 where
  outside : Jumps
  breaking : (break_slots : List Slot) → (break_place : ℕ) → Jumps
  looping : (break_slots : List Slot) → (break_place : ℕ) → (turn_slots : List Slot) → (turn_place : ℕ) → Jumps

module _ (p : Setting) (most : ℕ) where
  -- ---- the ways out of a loop

  abbrev pub JumpsTo : Here p most → ℕ → source.Focus → source.Environment → List Slot → (place : ℕ) → List source.Frame → Type 0
  JumpsTo h left x env l place k =
      (i : ℕ) → i ≤ left → (d : Dyn) (file : File) → Has p most h i l d file → SameIn p most h i x k env d place file

  abbrev pub Breaks : Here p most → ℕ → Jumps → source.Environment → List source.Frame → Type 0
  Breaks h left outside env k = Unit {0}
  Breaks h left (breaking lb brk) env k = JumpsTo h left source.Break env lb brk k
  Breaks h left (looping lb brk lc turn) env k = JumpsTo h left source.Break env lb brk k

  abbrev pub Continues : Here p most → ℕ → Jumps → source.Environment → List source.Frame → Type 0
  Continues h left outside env k = Unit {0}
  Continues h left (breaking lb brk) env k = Unit {0}
  Continues h left (looping lb brk lc turn) env k = JumpsTo h left source.Continue env lc turn k

  -- from where these variables are in scope
  pub record Ways (h : Here p most) (left : ℕ) (j : Jumps) (env : source.Environment) (k : List source.Frame) : Type 0 where
    pub breaks : Breaks h left j env k
    pub continues : Continues h left j env k

  breaks_later : (h : Here p most) (left i : ℕ) (j : Jumps) (env : source.Environment) (k : List source.Frame) → i ≤ left → Breaks h left j env k
      → Breaks h i j env k
  breaks_later h left i outside env k le x = tt
  breaks_later h left i (breaking lb brk) env k le x = λ n lt d file w. x n (omega (arith, le, lt)) d file w
  breaks_later h left i (looping lb brk lc turn) env k le x = λ n lt d file w. x n (omega (arith, le, lt)) d file w

  continues_later : (h : Here p most) (left i : ℕ) (j : Jumps) (env : source.Environment) (k : List source.Frame) → i ≤ left
      → Continues h left j env k → Continues h i j env k
  continues_later h left i outside env k le x = tt
  continues_later h left i (breaking lb brk) env k le x = tt
  continues_later h left i (looping lb brk lc turn) env k le x = λ n lt d file w. x n (omega (arith, le, lt)) d file w

  pub ways_later : (h : Here p most) (left i : ℕ) (j : Jumps) (env : source.Environment) (k : List source.Frame) → i ≤ left → Ways h left j env k
      → Ways h i j env k
  ways_later h left i j env k le x =
      record { breaks = breaks_later h left i j env k le x.breaks; continues = continues_later h left i j env k le x.continues }

  -- past the rest of a block
  pub ways_rest : (h : Here p most) (left : ℕ) (j : Jumps) (env : source.Environment) (ss : List Stat) (k : List source.Frame) → Ways h left j env k
      → Ways h left j env (source.Continues ss ∷ k)
  ways_rest h left outside env ss k x = record { breaks = tt; continues = tt }
  ways_rest h left (breaking lb brk) env ss k x =
      record { breaks = λ i lt d file w. source_goes p refl (x.breaks i lt d file w); continues = tt }
  ways_rest h left (looping lb brk lc turn) env ss k x = record {
    breaks = λ i lt d file w. source_goes p refl (x.breaks i lt d file w);
    continues = λ i lt d file w. source_goes p refl (x.continues i lt d file w);
  }

  -- past the end of a block, where the variables are those from before it
  pub ways_restored : (h : Here p most) (left : ℕ) (j : Jumps) (before : source.Environment) (k : List source.Frame) → Ways h left j before k
      → (env : source.Environment) → Ways h left j env (source.Restores before ∷ k)
  ways_restored h left outside before k x env = record { breaks = tt; continues = tt }
  ways_restored h left (breaking lb brk) before k x env =
      record { breaks = λ i lt d file w. source_goes p refl (x.breaks i lt d file w); continues = tt }
  ways_restored h left (looping lb brk lc turn) before k x env = record {
    breaks = λ i lt d file w. source_goes p refl (x.breaks i lt d file w);
    continues = λ i lt d file w. source_goes p refl (x.continues i lt d file w);
  }

  -- ---- statements and blocks

  -- a statement is done, behind which the slots are these, where the next cell was that
  abbrev pub StatRuns : Stat → Here p most → List Slot → Jumps → (from to : ℕ) → (ℕ → List Slot) → Type 0
  StatRuns s h l j from to after =
      (left : ℕ) → left ≤ most → (k : List source.Frame) (d : Dyn) (file : File) → Has p most h left l d file → Ways h left j (env_of p most h l) k
      → ((i : ℕ) → i ≤ left → (c : ℕ) (d2 : Dyn) (file2 : File) → Has p most h i (after c) d2 file2
      → Same p most h i source.Done k (after c) d2 to file2) → Same p most h left (source.Execute s) k l d from file

  -- a block is done, at whose end the slots are so
  abbrev pub BlockRuns : List Stat → Here p most → List Slot → Jumps → (from to : ℕ) → (List Slot → Type 0) → Type 0
  BlockRuns ss h l j from to End =
      (left : ℕ) → left ≤ most → (k : List source.Frame) (d : Dyn) (file : File) → Has p most h left l d file
      → ((env : source.Environment) → Ways h left j env k) → ((i : ℕ) → i ≤ left → (l2 : List Slot) (d2 : Dyn) (file2 : File) → End l2
      → Has p most h i l2 d2 file2 → Same p most h i source.Done k l2 d2 to file2) → Same p most h left (source.ExecuteAll ss) k l d from file

  -- no statement
  pub block_none : (h : Here p most) (l : List Slot) (j : Jumps) (from : ℕ) (End : List Slot → Type 0) → End l → BlockRuns [] h l j from from End
  block_none h l j from End end left le k d file w ways go = source_goes p refl (go left (omega arith) l d file end w)

  -- a statement, and the rest of the block
  pub block_more : (s : Stat) (ss : List Stat) (h : Here p most) (l : List Slot) (j : Jumps) (from mid to : ℕ) (after : ℕ → List Slot)
      (End : List Slot → Type 0) → StatRuns s h l j from mid after → ((c : ℕ) → BlockRuns ss h (after c) j mid to End)
      → BlockRuns (s ∷ ss) h l j from to End
  block_more s ss h l j from mid to after End stat_runs rest_runs left le k d file w ways go =
      source_goes p refl
      (stat_runs left le (source.Continues ss ∷ k) d file w (ways_rest h left j (env_of p most h l) ss k (ways (env_of p most h l)))
      (λ i lt c d2 file2 w2. source_goes p refl
      (rest_runs c i (omega (arith, le, lt)) k d2 file2 w2 (λ env. ways_later h left i j env k lt (ways env))
      (λ n lt2 l3 d3 file3 end w3. go n (omega (arith, lt, lt2)) l3 d3 file3 end w3))))

  -- ---- the end of a block: its registers are closed, or none of them can be open

  pub data Closes (h : Here p most) (l : List Slot) (End : List Slot → Type 0) (from to : ℕ) : Type 0 where
    closes : Reads p most h from (insn.CloseUpvalues (length l)) to → ((l2 : List Slot) → End l2 → Above l2 l) → Closes h l End from to
    closes_nothing : from ≡ to → ((l2 : List Slot) → End l2 → Plainly l2 l) → Closes h l End from to

  pub closes_same : (h : Here p most) (l : List Slot) (End : List Slot → Type 0) (from to i : ℕ) (l2 : List Slot) (s : source.State) (d : Dyn)
      (file : File) → Closes h l End from to → End l2 → Has p most h i l2 d file
      → ((file2 : File) → Has p most h i l d file2 → Alike p i s (machine_at p most h to file2 d)) → Alike p i s (machine_at p most h from file d)
  closes_same h l End from to i l2 s d file (closes reads above) end w go =
      target_goes p (row_here p most h from to file d (insn.CloseUpvalues (length l)) reads)
      (go (record { registers = machine.closed (cells_m d) file.registers (length l); top = file.top }) (close (drop_above (above l2 end) (loosely w))))
  closes_same h l End from to i l2 s d file (closes_nothing e plain) end w go =
      subst (λ n. Alike p i s (machine_at p most h n file d)) (sym e)
      (go file (drop_plainly (plain l2 end) (plainly_above (plain l2 end)) w))

  -- the end of a block, where its variables are gone
  pub block_ends : (h : Here p most) (l : List Slot) (End : List Slot → Type 0) (from to i : ℕ) (k : List source.Frame) (l2 : List Slot) (d : Dyn)
      (file : File) → Closes h l End from to → End l2 → Has p most h i l2 d file
      → ((file2 : File) → Has p most h i l d file2 → Same p most h i source.Done k l d to file2)
      → Same p most h i source.Done (source.Restores (env_of p most h l) ∷ k) l2 d from file
  block_ends h l End from to i k l2 d file c end w go =
      source_goes p refl (closes_same h l End from to i l2 _ d file c end w go)

  -- the script's row of a statement of this kind
  pub stat_row : (s : Stat) (x : StatLevel) (h : Here p most) (l : List Slot) (k : List source.Frame) (d : Dyn) → out-StatKind s.kind ≡ x
      → source_steps.step p.texts (source_at p most h (source.Execute s) k (env_of p most h l) d) ≡ statements.begin_stat x (of_stat s)
      (inside p most h) k (env_of p most h l) d.script
  stat_row s x h l k d is =
      ap (λ (y : StatLevel). statements.begin_stat y (of_stat s) (inside p most h) k (env_of p most h l) d.script) is

  -- `do`
  pub do_same : (s : Stat) (body : List Stat) (h : Here p most) (l : List Slot) (j : Jumps) (from mid to : ℕ) (End : List Slot → Type 0)
      → out-StatKind s.kind ≡ level.Do body → BlockRuns body h l j from mid End → Closes h l End mid to → StatRuns s h l j from to (λ c. l)
  do_same s body h l j from mid to End kind runs c left le k d file w ways go =
      source_goes p (stat_row s _ h l k d kind)
      (runs left le (source.Restores (env_of p most h l) ∷ k) d file w (ways_restored h left j (env_of p most h l) k ways)
      (λ i lt l2 d2 file2 end w2. block_ends h l End mid to i k l2 d2 file2 c end w2 (λ file3 w3. go i lt 0 d2 file3 w3)))

  -- `break`: what lies above the loop's slots is closed, and the code jumps behind the loop
  pub break_same : (s : Stat) (by : ℤ) (h : Here p most) (l lb lc : List Slot) (brk turn from mid next : ℕ) (after : ℕ → List Slot)
      → out-StatKind s.kind ≡ level.Break → Closes h lb (λ l2. l2 ≡ l) from mid → Reads p most h mid (insn.Jump by) next → Forward mid by brk
      → StatRuns s h l (looping lb brk lc turn) from next after
  break_same s by h l lb lc brk turn from mid next after kind c reads j left le k d file w ways go =
      source_goes p (stat_row s _ h l k d kind)
      (closes_same h lb (λ l2. l2 ≡ l) from mid left l _ d file c refl w
      (λ file2 w2.
      target_goes p (row_here p most h mid next file2 d (insn.Jump by) reads ∙ jump_is j (frame p most h mid file2) h.below_m d.code)
      (ways.breaks left (omega arith) d file2 w2)))

  -- `continue`: the code jumps to the end of the turn
  pub continue_same : (s : Stat) (by : ℤ) (h : Here p most) (l lb lc : List Slot) (brk turn from mid next : ℕ) (after : ℕ → List Slot)
      → out-StatKind s.kind ≡ level.Continue → Closes h lc (λ l2. l2 ≡ l) from mid → Reads p most h mid (insn.Jump by) next → Forward mid by turn
      → StatRuns s h l (looping lb brk lc turn) from next after
  continue_same s by h l lb lc brk turn from mid next after kind c reads j left le k d file w ways go =
      source_goes p (stat_row s _ h l k d kind)
      (closes_same h lc (λ l2. l2 ≡ l) from mid left l _ d file c refl w
      (λ file2 w2.
      target_goes p (row_here p most h mid next file2 d (insn.Jump by) reads ∙ jump_is j (frame p most h mid file2) h.below_m d.code)
      (ways.continues left (omega arith) d file2 w2)))

  -- `break` where no statement around it ends a turn
  pub break_alone_same : (s : Stat) (by : ℤ) (h : Here p most) (l lb : List Slot) (brk from mid next : ℕ) (after : ℕ → List Slot)
      → out-StatKind s.kind ≡ level.Break → Closes h lb (λ l2. l2 ≡ l) from mid → Reads p most h mid (insn.Jump by) next → Forward mid by brk
      → StatRuns s h l (breaking lb brk) from next after
  break_alone_same s by h l lb brk from mid next after kind c reads j left le k d file w ways go =
      source_goes p (stat_row s _ h l k d kind)
      (closes_same h lb (λ l2. l2 ≡ l) from mid left l _ d file c refl w
      (λ file2 w2.
      target_goes p (row_here p most h mid next file2 d (insn.Jump by) reads ∙ jump_is j (frame p most h mid file2) h.below_m d.code)
      (ways.breaks left (omega arith) d file2 w2)))
