-- A jump is the same instruction whatever its distance.
use Rattle.std.proofs.Common.{◌≡◌, ℕ, ℤ, List, Some, None, if◌then◌else◌, refl, ap, ◌∙◌}
use Rattle.std.specs.Prelude.{IsTrue}
use Rattle.op_words.specs.declared.insn.Insn.{Insn as Instruction}
use Rattle.op_words.specs.declared.insn.Insn.TheVariants.{Jump, JumpBack, JumpIf, JumpIfNot, JumpIfEq, JumpIfLe, JumpIfLt, JumpIfNotEq, JumpIfNotLe, JumpIfNotLt, ForNPrep, ForNLoop, ForGPrep, ForGLoop, JumpXEqKNil, JumpXEqKB, JumpXEqKN, JumpXEqKS}
use Rattle.code_link.specs.Labels.{is_jump}
use Rattle.code_link.specs.Linking.{jumping}
use Rattle.machine_meaning.specs.Needs.{is_own, is_known, constants_of, registers_of, upvalue_of, jump_of, is_capture, reads_top, sets_top, is_fast, goes_back}
use Rattle.machine_meaning.specs.WellFormed.{at_least, is_any_prep}
use Rattle.shape_laws.specs.Order.{Owed, Nothing, AList, Captures, AWord, captures, closure_of, skipped, is_load, owed, owed_by, unless_bound, step}

-- what does not hang on the distance
pub record Same (i j : Instruction) : Type 0 where
  pub own : is_own i ≡ is_own j
  pub known : is_known i ≡ is_known j
  pub wants : constants_of i ≡ constants_of j
  pub registers : registers_of i ≡ registers_of j
  pub upvalue : upvalue_of i ≡ upvalue_of j
  pub closure : closure_of i ≡ closure_of j
  pub capture : is_capture i ≡ is_capture j
  pub reads : reads_top i ≡ reads_top j
  pub sets : sets_top i ≡ sets_top j
  pub fast : is_fast i ≡ is_fast j
  pub back : goes_back i ≡ goes_back j
  pub skip : skipped i ≡ skipped j
  pub load : is_load i ≡ is_load j
  pub prep : is_any_prep i ≡ is_any_prep j

pub itself : (i : Instruction) → Same i i
itself i = record {
  own = refl;
  known = refl;
  wants = refl;
  registers = refl;
  upvalue = refl;
  closure = refl;
  capture = refl;
  reads = refl;
  sets = refl;
  fast = refl;
  back = refl;
  skip = refl;
  load = refl;
  prep = refl;
}

pub same_jump : (i : Instruction) (by : ℤ) → IsTrue (is_jump i) → Same (jumping i by) i
same_jump (Jump z) by jump =
    record {
      own = refl;
      known = refl;
      wants = refl;
      registers = refl;
      upvalue = refl;
      closure = refl;
      capture = refl;
      reads = refl;
      sets = refl;
      fast = refl;
      back = refl;
      skip = refl;
      load = refl;
      prep = refl;
    }
same_jump (JumpBack z) by jump =
    record {
      own = refl;
      known = refl;
      wants = refl;
      registers = refl;
      upvalue = refl;
      closure = refl;
      capture = refl;
      reads = refl;
      sets = refl;
      fast = refl;
      back = refl;
      skip = refl;
      load = refl;
      prep = refl;
    }
same_jump (JumpIf value z) by jump =
    record {
      own = refl;
      known = refl;
      wants = refl;
      registers = refl;
      upvalue = refl;
      closure = refl;
      capture = refl;
      reads = refl;
      sets = refl;
      fast = refl;
      back = refl;
      skip = refl;
      load = refl;
      prep = refl;
    }
same_jump (JumpIfNot value z) by jump =
    record {
      own = refl;
      known = refl;
      wants = refl;
      registers = refl;
      upvalue = refl;
      closure = refl;
      capture = refl;
      reads = refl;
      sets = refl;
      fast = refl;
      back = refl;
      skip = refl;
      load = refl;
      prep = refl;
    }
same_jump (JumpIfEq left z right) by jump =
    record {
      own = refl;
      known = refl;
      wants = refl;
      registers = refl;
      upvalue = refl;
      closure = refl;
      capture = refl;
      reads = refl;
      sets = refl;
      fast = refl;
      back = refl;
      skip = refl;
      load = refl;
      prep = refl;
    }
same_jump (JumpIfLe left z right) by jump =
    record {
      own = refl;
      known = refl;
      wants = refl;
      registers = refl;
      upvalue = refl;
      closure = refl;
      capture = refl;
      reads = refl;
      sets = refl;
      fast = refl;
      back = refl;
      skip = refl;
      load = refl;
      prep = refl;
    }
same_jump (JumpIfLt left z right) by jump =
    record {
      own = refl;
      known = refl;
      wants = refl;
      registers = refl;
      upvalue = refl;
      closure = refl;
      capture = refl;
      reads = refl;
      sets = refl;
      fast = refl;
      back = refl;
      skip = refl;
      load = refl;
      prep = refl;
    }
same_jump (JumpIfNotEq left z right) by jump =
    record {
      own = refl;
      known = refl;
      wants = refl;
      registers = refl;
      upvalue = refl;
      closure = refl;
      capture = refl;
      reads = refl;
      sets = refl;
      fast = refl;
      back = refl;
      skip = refl;
      load = refl;
      prep = refl;
    }
same_jump (JumpIfNotLe left z right) by jump =
    record {
      own = refl;
      known = refl;
      wants = refl;
      registers = refl;
      upvalue = refl;
      closure = refl;
      capture = refl;
      reads = refl;
      sets = refl;
      fast = refl;
      back = refl;
      skip = refl;
      load = refl;
      prep = refl;
    }
same_jump (JumpIfNotLt left z right) by jump =
    record {
      own = refl;
      known = refl;
      wants = refl;
      registers = refl;
      upvalue = refl;
      closure = refl;
      capture = refl;
      reads = refl;
      sets = refl;
      fast = refl;
      back = refl;
      skip = refl;
      load = refl;
      prep = refl;
    }
same_jump (ForNPrep base z) by jump =
    record {
      own = refl;
      known = refl;
      wants = refl;
      registers = refl;
      upvalue = refl;
      closure = refl;
      capture = refl;
      reads = refl;
      sets = refl;
      fast = refl;
      back = refl;
      skip = refl;
      load = refl;
      prep = refl;
    }
same_jump (ForNLoop base z) by jump =
    record {
      own = refl;
      known = refl;
      wants = refl;
      registers = refl;
      upvalue = refl;
      closure = refl;
      capture = refl;
      reads = refl;
      sets = refl;
      fast = refl;
      back = refl;
      skip = refl;
      load = refl;
      prep = refl;
    }
same_jump (ForGPrep base z) by jump =
    record {
      own = refl;
      known = refl;
      wants = refl;
      registers = refl;
      upvalue = refl;
      closure = refl;
      capture = refl;
      reads = refl;
      sets = refl;
      fast = refl;
      back = refl;
      skip = refl;
      load = refl;
      prep = refl;
    }
same_jump (ForGLoop base z variables) by jump =
    record {
      own = refl;
      known = refl;
      wants = refl;
      registers = refl;
      upvalue = refl;
      closure = refl;
      capture = refl;
      reads = refl;
      sets = refl;
      fast = refl;
      back = refl;
      skip = refl;
      load = refl;
      prep = refl;
    }
same_jump (JumpXEqKNil value z test) by jump =
    record {
      own = refl;
      known = refl;
      wants = refl;
      registers = refl;
      upvalue = refl;
      closure = refl;
      capture = refl;
      reads = refl;
      sets = refl;
      fast = refl;
      back = refl;
      skip = refl;
      load = refl;
      prep = refl;
    }
same_jump (JumpXEqKB value z test) by jump =
    record {
      own = refl;
      known = refl;
      wants = refl;
      registers = refl;
      upvalue = refl;
      closure = refl;
      capture = refl;
      reads = refl;
      sets = refl;
      fast = refl;
      back = refl;
      skip = refl;
      load = refl;
      prep = refl;
    }
same_jump (JumpXEqKN value z test) by jump =
    record {
      own = refl;
      known = refl;
      wants = refl;
      registers = refl;
      upvalue = refl;
      closure = refl;
      capture = refl;
      reads = refl;
      sets = refl;
      fast = refl;
      back = refl;
      skip = refl;
      load = refl;
      prep = refl;
    }
same_jump (JumpXEqKS value z test) by jump =
    record {
      own = refl;
      known = refl;
      wants = refl;
      registers = refl;
      upvalue = refl;
      closure = refl;
      capture = refl;
      reads = refl;
      sets = refl;
      fast = refl;
      back = refl;
      skip = refl;
      load = refl;
      prep = refl;
    }
same_jump i by jump = cc

pub jumps_by : (i : Instruction) (by : ℤ) → IsTrue (is_jump i) → jump_of (jumping i by) ≡ Some by
jumps_by (Jump z) by jump = refl
jumps_by (JumpBack z) by jump = refl
jumps_by (JumpIf value z) by jump = refl
jumps_by (JumpIfNot value z) by jump = refl
jumps_by (JumpIfEq left z right) by jump = refl
jumps_by (JumpIfLe left z right) by jump = refl
jumps_by (JumpIfLt left z right) by jump = refl
jumps_by (JumpIfNotEq left z right) by jump = refl
jumps_by (JumpIfNotLe left z right) by jump = refl
jumps_by (JumpIfNotLt left z right) by jump = refl
jumps_by (ForNPrep base z) by jump = refl
jumps_by (ForNLoop base z) by jump = refl
jumps_by (ForGPrep base z) by jump = refl
jumps_by (ForGLoop base z variables) by jump = refl
jumps_by (JumpXEqKNil value z test) by jump = refl
jumps_by (JumpXEqKB value z test) by jump = refl
jumps_by (JumpXEqKN value z test) by jump = refl
jumps_by (JumpXEqKS value z test) by jump = refl
jumps_by i by jump = cc

same_owed_by : (cs : List ℕ) (i j : Instruction) → Same i j → owed_by cs i ≡ owed_by cs j
same_owed_by cs i j s =
    ap (λ t. owed cs t (closure_of i) (skipped i)) s.sets ∙ ap (λ t. owed cs (sets_top j) t (skipped i)) s.closure ∙ ap (owed cs (sets_top j)
    (closure_of j)) s.skip

pub same_step : (cs : List ℕ) (o : Owed) (i j : Instruction) → Same i j → step cs o i ≡ step cs o j
same_step cs Nothing i j s =
    ap (λ t. unless_bound t (reads_top i) (owed_by cs i)) s.capture ∙ ap (λ t. unless_bound (is_capture j) t (owed_by cs i)) s.reads
    ∙ ap (unless_bound (is_capture j) (reads_top j)) (same_owed_by cs i j s)
same_step cs (AList from) i j s =
    ap (λ t. if at_least t from then owed_by cs i else None) s.reads ∙ ap (λ r. if at_least (reads_top j) from then r else None) (same_owed_by cs i j s)
same_step cs (Captures n) i j s = ap (λ t. if t then Some (captures n) else None) s.capture
same_step cs AWord i j s = ap (λ t. if t then Some Nothing else None) s.load
