-- The code of each node, with labels. A local has the register of its number among those in scope; a value is put into the first
-- register above the locals, and its parts above that.
use Rattle.std.specs.Prelude.{◌≡◌, ℕ, ◌+◌, ℤ, pos, List, [], ◌∷◌, ◌++◌, length, map, Some, None, slice_get}
use Rattle.byte_text.specs.declared.fixed.StrId.{StrId}
use Rattle.syntax_tree.specs.declared.tree.Arm.{Arm, out-Arm}
use Rattle.syntax_tree.specs.declared.tree.BinOp.{BinOp}
use Rattle.syntax_tree.specs.declared.tree.Expr.{Expr}
use Rattle.syntax_tree.specs.declared.tree.ExprKind as expr
use Rattle.syntax_tree.specs.declared.tree.Stat.{Stat}
use Rattle.syntax_tree.specs.declared.tree.StatKind as stat
use Rattle.op_words.specs.declared.insn.Insn.{Insn}
use Rattle.op_words.specs.declared.insn.Insn.TheVariants as insn
use Rattle.code_link.specs.declared.item.Item.{Item}
use Rattle.code_link.specs.declared.item.Item.TheVariants as item
use Rattle.built_values.specs.Globals.{print_name}
use Rattle.built_machine.specs.declared.code.Constant.{Constant}
use Rattle.built_machine.specs.declared.code.Constant.TheVariants as constant
use Rattle.built_machine.specs.Steps.{constant_at}
use Rattle.built_emitter.specs.Names.{register_of, names_after}
use Rattle.built_emitter.specs.Operations.{operation, unless}

-- a number is in the instruction, or it is a constant
pub data IsNumberCode (ks : List Constant) (to : ℕ) (v : ℤ) : List Insn → Type 0 where
  small : IsNumberCode ks to v (insn.LoadN to v ∷ [])
  large : (k : ℤ) → constant_at ks k ≡ Some (constant.Number v) → IsNumberCode ks to v (insn.LoadK to k ∷ [])

-- the value of an expression
pub data IsValueCode (ks : List Constant) (names : List StrId) : (to : ℕ) → Expr → List Insn → Type 0 where
  number : (to : ℕ) (e : Expr) (v : ℤ) (is : List Insn) → e.kind ≡ expr.Num v → IsNumberCode ks to v is → IsValueCode ks names to e is
  name : (to from : ℕ) (e : Expr) (x : StrId) → e.kind ≡ expr.Name x → register_of names x ≡ Some from → IsValueCode ks names to e (insn.Move to from ∷ [])
  result : (to : ℕ) (e a b : Expr) (op : BinOp) (i : Insn) (is js : List Insn) → e.kind ≡ expr.Binary op a b →
      operation op to to (to + 1) ≡ Some i → IsValueCode ks names to a is → IsValueCode ks names (to + 1) b js →
      IsValueCode ks names to e (is ++ (js ++ i ∷ []))

-- goes on where a condition holds, and else to the label
pub data IsTestCode (ks : List Constant) (names : List StrId) (label : ℕ) (cond : Expr) : List Item → Type 0 where
  tests : (a b : Expr) (op : BinOp) (i : Insn) (is js : List Insn) → cond.kind ≡ expr.Binary op a b →
      unless op (length names) (length names + 1) ≡ Some i → IsValueCode ks names (length names) a is →
      IsValueCode ks names (length names + 1) b js → IsTestCode ks names label cond (map item.Insn (is ++ js) ++ item.Branch i label ∷ [])

-- `print`, whose name no local has taken, is put into the first free register, its argument behind it, and it is called
pub data IsPrintCode (ks : List Constant) (names : List StrId) (call : Expr) : List Insn → Type 0 where
  print : (callee e : Expr) (k : ℕ) (is : List Insn) → call.kind ≡ expr.Call callee (e ∷ []) → callee.kind ≡ expr.Name print_name →
      register_of names print_name ≡ None → slice_get ks k ≡ Some (constant.Text print_name) → IsValueCode ks names (length names + 1) e is →
      IsPrintCode ks names call (insn.GetGlobal (length names) k ∷ (is ++ insn.Call (length names) 2 1 ∷ []))

-- a test that goes to the label behind a block, and the block
abbrev pub branch : (over : ℕ) → (test body : List Item) → List Item
branch over test body = test ++ (body ++ item.Label over ∷ [])

-- a test that goes to the other block, which the first one jumps over
abbrev pub branches : (to_other over : ℕ) → (test body other : List Item) → List Item
branches to_other over test body other =
    test ++ (body ++ (item.Branch (insn.Jump (pos 0)) over ∷ item.Label to_other ∷ (other ++ item.Label over ∷ [])))

-- a test that goes behind the loop, and a block that jumps back to the test
abbrev pub loop : (start over : ℕ) → (test body : List Item) → List Item
loop start over test body =
    item.Label start ∷ (test ++ (body ++ (item.Branch (insn.JumpBack (pos 0)) start ∷ item.Label over ∷ [])))

mutual
  pub data IsStatementCode (ks : List Constant) : (names : List StrId) → Stat → List Item → Type 0 where
    declares : (names : List StrId) (s : Stat) (x : StrId) (e : Expr) (is : List Insn) → s.kind ≡ stat.Local (x ∷ []) (e ∷ []) →
        IsValueCode ks names (length names) e is → IsStatementCode ks names s (map item.Insn is)
    assigns : (names : List StrId) (s : Stat) (target e : Expr) (x : StrId) (r : ℕ) (is : List Insn) →
        s.kind ≡ stat.Assign (target ∷ []) (e ∷ []) → target.kind ≡ expr.Name x → register_of names x ≡ Some r →
        IsValueCode ks names (length names) e is → IsStatementCode ks names s (map item.Insn (is ++ insn.Move r (length names) ∷ []))
    prints : (names : List StrId) (s : Stat) (call : Expr) (is : List Insn) → s.kind ≡ stat.Call call → IsPrintCode ks names call is →
        IsStatementCode ks names s (map item.Insn is)
    chooses : (names : List StrId) (s : Stat) (arm : Arm) (over : ℕ) (test body : List Item) → s.kind ≡ stat.If (arm ∷ []) None →
        IsTestCode ks names over (out-Arm arm).cond test → IsBlockCode ks names (out-Arm arm).body body →
        IsStatementCode ks names s (branch over test body)
    decides : (names : List StrId) (s : Stat) (arm : Arm) (others : List Stat) (to_other over : ℕ) (test body other : List Item) →
        s.kind ≡ stat.If (arm ∷ []) (Some others) → IsTestCode ks names to_other (out-Arm arm).cond test →
        IsBlockCode ks names (out-Arm arm).body body → IsBlockCode ks names others other →
        IsStatementCode ks names s (branches to_other over test body other)
    loops : (names : List StrId) (s : Stat) (cond : Expr) (stats : List Stat) (start over : ℕ) (test body : List Item) →
        s.kind ≡ stat.While cond stats → IsTestCode ks names over cond test → IsBlockCode ks names stats body →
        IsStatementCode ks names s (loop start over test body)

  pub data IsBlockCode (ks : List Constant) : (names : List StrId) → List Stat → List Item → Type 0 where
    nothing : (names : List StrId) → IsBlockCode ks names [] []
    more : (names : List StrId) (s : Stat) (ss : List Stat) (is js : List Item) → IsStatementCode ks names s is →
        IsBlockCode ks (names_after names s) ss js → IsBlockCode ks names (s ∷ ss) (is ++ js)

-- the code of a script begins a function of any number of arguments, and returns nothing
pub data IsScriptCode (ks : List Constant) (stats : List Stat) : List Item → Type 0 where
  script : (body : List Item) → IsBlockCode ks [] stats body →
      IsScriptCode ks stats (item.Insn (insn.PrepVarargs 0) ∷ (body ++ item.Insn (insn.Return 0 1) ∷ []))
