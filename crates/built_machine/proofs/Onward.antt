-- What leads on: a move that charges nothing goes to a place behind its own.
use Rattle.std.proofs.Common.{◌≡◌, refl, ap, ◌∙◌, sym, ℕ, zero, suc, ◌+◌, ◌<◌, ◌≤◌, ℤ, pos, negsuc, Bool, true, false, List, [], ◌∷◌, length, Option, Some, None, Ok, Err, option_map, arith}
use Rattle.std.specs.Prelude.{slice_get}
use Rattle.op_words.specs.declared.insn.Insn.{Insn}
use Rattle.op_words.specs.declared.insn.Insn.TheVariants.{PrepVarargs, LoadN, LoadK, Move as MoveInsn, GetGlobal, Call, Return, Jump, JumpBack, JumpIfEq, JumpIfLe, JumpIfLt, JumpIfNotEq, JumpIfNotLe, JumpIfNotLt, Add, Sub, Mul}
use Rattle.op_words.specs.Encoding.{encoded}
use Rattle.op_words.specs.Decoding.{insn_of, parts_of, with_next, insn_at}
use Rattle.built_values.specs.declared.value.Value.{Value}
use Rattle.built_values.specs.declared.value.Value.TheVariants as value
use Rattle.built_values.specs.declared.end.End.TheVariants.{Stuck}
use Rattle.built_values.specs.Runs.{Goes, Shows, Charges, Ends}
use Rattle.built_values.specs.Operations.{Outcome}
use Rattle.built_machine.specs.declared.code.Constant.{Constant}
use Rattle.built_machine.specs.declared.code.Constant.TheVariants as constant
use Rattle.built_machine.specs.States.{Registers, State}
use Rattle.built_machine.specs.Steps.{Step, load, fetch, give, shows, call, leave, jump, charge, chosen, branch, row, act, step}

abbrev pub LeadsOn : ℕ → Step → Type 0
LeadsOn place (Goes ns s) = place < s.place
LeadsOn place (Shows ns text s) = place < s.place
LeadsOn place (Charges s) = Unit {0}
LeadsOn place (Ends ns end) = Unit {0}

module _ (place next : ℕ) (lt : place < next) (regs : Registers) where
  load_on : (k : Option Constant) (to : ℕ) → LeadsOn place (load k to next regs)
  load_on None to = tt
  load_on (Some (constant.Number v)) to = lt
  load_on (Some (constant.Text x)) to = tt

  fetch_on : (k : Option Constant) (to : ℕ) → LeadsOn place (fetch k to next regs)
  fetch_on None to = tt
  fetch_on (Some (constant.Number v)) to = tt
  fetch_on (Some (constant.Text x)) to = lt

  give_on : (o : Outcome) (to : ℕ) → LeadsOn place (give o to next regs)
  give_on None to = tt
  give_on (Some (Ok v)) to = lt
  give_on (Some (Err s)) to = tt

  shows_on : (text : Option (List ℕ)) → LeadsOn place (shows text next regs)
  shows_on None = tt
  shows_on (Some text) = lt

  call_on : (f v : Value) (a r : Bool) → LeadsOn place (call f v a r next regs)
  call_on value.Print v true true = shows_on _
  call_on f v a r = tt

  leave_on : (b : Bool) → LeadsOn place (leave b)
  leave_on true = tt
  leave_on false = tt

  jump_on : (by : ℤ) → LeadsOn place (jump by place regs)
  jump_on (pos k) = omega arith
  jump_on (negsuc k) = tt

  charge_on : (to : ℤ) → LeadsOn place (charge to regs)
  charge_on (pos k) = tt
  charge_on (negsuc k) = tt

  chosen_on : (b : Bool) (by : ℤ) → LeadsOn place (chosen b by place next regs)
  chosen_on true by = jump_on by
  chosen_on false by = lt

  branch_on : (answer : Option Bool) (by : ℤ) → LeadsOn place (branch answer by place next regs)
  branch_on None by = tt
  branch_on (Some b) by = chosen_on b by

  pub row_on : (ks : List Constant) (insn : Insn) → LeadsOn place (row ks insn place next regs)
  row_on ks (PrepVarargs parameters) = lt
  row_on ks (LoadN to n) = lt
  row_on ks (LoadK to k) = load_on _ to
  row_on ks (MoveInsn to from) = lt
  row_on ks (GetGlobal to k) = fetch_on _ to
  row_on ks (Call base arguments results) = call_on _ _ _ _
  row_on ks (Return base values) = leave_on _
  row_on ks (Jump by) = jump_on by
  row_on ks (JumpBack by) = charge_on _
  row_on ks (JumpIfEq left by right) = branch_on _ by
  row_on ks (JumpIfLe left by right) = branch_on _ by
  row_on ks (JumpIfLt left by right) = branch_on _ by
  row_on ks (JumpIfNotEq left by right) = branch_on _ by
  row_on ks (JumpIfNotLe left by right) = branch_on _ by
  row_on ks (JumpIfNotLt left by right) = branch_on _ by
  row_on ks (Add to left right) = give_on _ to
  row_on ks (Sub to left right) = give_on _ to
  row_on ks (Mul to left right) = give_on _ to
  row_on ks _ = tt

-- ---- the words behind the place

past_end : (words : List ℕ) (place : ℕ) → length words ≤ place → slice_get words place ≡ None
past_end [] place le = refl
past_end (w ∷ ws) zero le = absurd (omega arith)
past_end (w ∷ ws) (suc place) le = past_end ws place (omega arith)

abbrev second : Option (Insn × ℕ) → ℕ
second None = 0
second (Some read) = read.1

-- what is read at a word has its next place behind
read_on : (place : ℕ) (found : Option Insn) (insn : Insn) (next : ℕ) → option_map (with_next place) found ≡ Some (insn, next) → place < next
read_on place None insn next e = cc
read_on place (Some other) insn next e =
    let same : place + length (encoded other) ≡ next = ap second e in
    omega arith

word_on : (words : List ℕ) (place : ℕ) (word : Option ℕ) (insn : Insn) (next : ℕ) → slice_get words place ≡ word → insn_at words place ≡ Some (insn, next) → place < next
word_on words place None insn next e read = cc
word_on words place (Some word) insn next e read =
    let there : insn_at words place ≡ option_map (with_next place) (insn_of (parts_of word (slice_get words (place + 1)))) = rw e refl in
    read_on place (insn_of (parts_of word (slice_get words (place + 1)))) insn next (sym there ∙ read)

module _ (words : List ℕ) (ks : List Constant) (s : State) where
  act_on : (found : Option (Insn × ℕ)) → insn_at words s.place ≡ found → LeadsOn s.place (act ks found s.place s.registers)
  act_on None e = tt
  act_on (Some read) e = row_on s.place read.1 (word_on words s.place (slice_get words s.place) read.0 read.1 refl e) s.registers ks read.0

  -- no move that charges nothing leads back
  pub step_on : LeadsOn s.place (step words ks s)
  step_on = act_on (insn_at words s.place) refl

  -- behind its words, code is stuck
  pub sticks_behind : length words ≤ s.place → step words ks s ≡ Ends [] Stuck
  sticks_behind le = rw (past_end words s.place le) refl
