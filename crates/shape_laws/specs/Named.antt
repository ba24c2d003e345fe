-- What instructions name: constants of the kind that is wanted.
use Rattle.std.specs.Prelude.{◌≡◌, ◌<◌, ℕ, ℤ, pos, negsuc, Bool, true, false, List, [], ◌∷◌, Option, Some, None, slice_get}
use Rattle.std.specs.List.{list_all}
use Rattle.op_words.specs.declared.chunk.Const.{Const}
use Rattle.op_words.specs.declared.chunk.Const.TheVariants as constant
use Rattle.op_words.specs.declared.insn.Insn.{Insn as Instruction}
use Rattle.op_words.specs.declared.insn.Insn.TheVariants.{LoadB, ForGPrep, PrepVarargs}
use Rattle.code_link.specs.declared.item.Item.{Item}
use Rattle.code_link.specs.declared.item.Item.TheVariants.{Insn, Branch, Label}
use Rattle.machine_meaning.specs.Needs.{Want, is_known, is_own, is_wanted, constants_of, is_fast, jump_of}
use Rattle.machine_meaning.specs.WellFormed.{is_any_prep}

abbrev pub const_at : List Const → ℤ → Option Const
const_at consts (pos n) = slice_get consts n
const_at consts (negsuc n) = None

abbrev pub holds : List Const → ℤ × Want → Bool
holds consts k = is_wanted k.1 (const_at consts k.0)

-- the instructions that need others behind them, and do not wait for a label alone
abbrev pub is_paired : Instruction → Bool
is_paired (ForGPrep base by) = true
is_paired i = is_fast i

-- an instruction of the body of a function
pub record Plain (consts : List Const) (i : Instruction) : Type 0 where
  pub known : is_known i ≡ true
  pub own : is_own i ≡ true
  pub finds : list_all (holds consts) (constants_of i) ≡ true
  pub other : is_any_prep i ≡ false
  pub single : is_paired i ≡ false

-- where an instruction leads that is no branch: past the words that it skips
abbrev pub leap : Instruction → Option ℤ
leap (LoadB to value skip) = Some (pos skip)
leap _ = None

abbrev pub PlainItem : List Const → Item → Type 0
PlainItem consts (Insn i) = Plain consts i × (jump_of i ≡ leap i)
PlainItem consts (Branch i l) = Plain consts i
PlainItem consts (Label l) = Unit {0}

abbrev pub AllPlain : List Const → List Item → Type 0
AllPlain consts [] = Unit {0}
AllPlain consts (x ∷ is) = PlainItem consts x × AllPlain consts is

-- a function of any number of arguments says so first
abbrev pub Body : (vararg : Bool) → (params : ℕ) → List Const → List Item → Type 0
Body false params consts is = AllPlain consts is
Body true params consts [] = ⊥
Body true params consts (x ∷ is) = (x ≡ Insn (PrepVarargs params)) × AllPlain consts is

-- a constant of a chunk of so many strings, which is no import
abbrev pub IsConstant : (strings : ℕ) → Const → Type 0
IsConstant strings constant.Nil = Unit {0}
IsConstant strings constant.False = Unit {0}
IsConstant strings constant.True = Unit {0}
IsConstant strings (constant.Num z) = Unit {0}
IsConstant strings (constant.Str s) = s < strings
IsConstant strings (constant.Import word) = ⊥

abbrev pub AreConstants : (strings : ℕ) → List Const → Type 0
AreConstants strings [] = Unit {0}
AreConstants strings (k ∷ ks) = IsConstant strings k × AreConstants strings ks
