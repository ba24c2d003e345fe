-- What the functions of the compiler append to a draft.
use Rattle.std.specs.Prelude.{◌≡◌, ℕ, ◌+◌, ◌<◌, ◌≤◌, ℤ, List, [], ◌∷◌, ◌++◌, length, map, Some, IsSome, IsTrue, nat_eq, nat_lt, slice_get, if◌then◌else◌}
use Rattle.byte_text.specs.declared.fixed.StrId.{StrId}
use Rattle.syntax_tree.specs.declared.tree.Expr.{Expr}
use Rattle.syntax_tree.specs.declared.tree.ExprKind as expr
use Rattle.syntax_tree.specs.declared.tree.Stat.{Stat}
use Rattle.op_words.specs.declared.insn.Insn.{Insn}
use Rattle.op_words.specs.declared.insn.Insn.TheVariants as insn
use Rattle.code_link.specs.declared.item.Item.{Item}
use Rattle.code_link.specs.declared.item.Item.TheVariants as item
use Rattle.code_link.specs.Labels.{is_jump, word_count, IsLinkable}
use Rattle.built_values.specs.Globals.{print_name}
use Rattle.built_machine.specs.declared.code.Constant.{Constant}
use Rattle.built_machine.specs.declared.code.Constant.TheVariants as constant
use Rattle.built_emitter.specs.declared.draft.Draft.{Draft}
use Rattle.built_emitter.specs.Names.{register_of}
use Rattle.built_emitter.specs.Size.{expr_words, stat_words, block_words}
use Rattle.built_emitter.specs.Code.{IsNumberCode, IsValueCode, IsTestCode, IsPrintCode, IsStatementCode, IsBlockCode, IsScriptCode}
use Rattle.built_emitter.specs.Fits.{AllFit}

-- ---- labels

-- how often a label is placed
abbrev pub placements : List Item → (label : ℕ) → ℕ
placements [] l = 0
placements (item.Insn i ∷ is) l = placements is l
placements (item.Branch i m ∷ is) l = placements is l
placements (item.Label m ∷ is) l = (if nat_eq m l then 1 else 0) + placements is l

-- 1 for a label below a number, and else 0
abbrev pub below : (n label : ℕ) → ℕ
below n l = if nat_lt l n then 1 else 0

-- each branch is a jump to a label below a number
abbrev pub BranchesBelow : (n : ℕ) → List Item → Type 0
BranchesBelow n [] = Unit {0}
BranchesBelow n (item.Insn i ∷ is) = BranchesBelow n is
BranchesBelow n (item.Branch i l ∷ is) = IsTrue (is_jump i) × (l < n) × BranchesBelow n is
BranchesBelow n (item.Label l ∷ is) = BranchesBelow n is

-- the labels from one number on and below another are placed once, and no others are
pub record HasLabels (from to : ℕ) (is : List Item) : Type 0 where
  pub rises : from ≤ to
  pub placed : (l : ℕ) → placements is l + below from l ≡ below to l
  pub branches : BranchesBelow to is

-- ---- items and constants

-- the constants went on, by so many at most
pub record Extends (old new : List Constant) (most : ℕ) : Type 0 where
  pub more : List Constant
  pub appended : new ≡ old ++ more
  pub few : length more ≤ most

-- these items went behind the draft, with so many words at most, and so many constants at most
pub record Appends (old new : Draft) (most : ℕ) (is : List Item) : Type 0 where
  pub appended : new.items.items ≡ old.items.items ++ is
  pub fit : AllFit is
  pub words : word_count is ≤ most
  pub constants : Extends old.constants.items new.constants.items most

-- the first constant is the name of `print`
abbrev pub NamesPrint : Draft → Type 0
NamesPrint code = slice_get code.constants.items 0 ≡ Some (constant.Text print_name)

-- instructions of this kind, whatever constants follow
pub record EmitsInsns (old new : Draft) (most : ℕ) (IsCode : List Constant → List Insn → Type 0) : Type 0 where
  pub insns : List Insn
  pub items : Appends old new most (map item.Insn insns)
  pub labels : new.labels ≡ old.labels
  pub code : (ks : List Constant) (more : ℕ) → Extends new.constants.items ks more → IsCode ks insns

-- items of this kind, with so many labels at most
pub record Emits (old new : Draft) (most labels_most : ℕ) (IsCode : List Constant → List Item → Type 0) : Type 0 where
  pub items : List Item
  pub appends : Appends old new most items
  pub labels : HasLabels old.labels new.labels items
  pub few : new.labels ≤ old.labels + labels_most
  pub code : (ks : List Constant) (more : ℕ) → Extends new.constants.items ks more → IsCode ks items

-- ---- the nodes

abbrev pub EmitsNumber : (to : ℕ) → ℤ → (old new : Draft) → Type 0
EmitsNumber to v old new = EmitsInsns old new 1 (λ ks is. IsNumberCode ks to v is)

abbrev pub EmitsValue : List StrId → (to : ℕ) → Expr → (old new : Draft) → Type 0
EmitsValue names to e old new = EmitsInsns old new (expr_words e) (λ ks is. IsValueCode ks names to e is)

abbrev pub EmitsPrint : List StrId → (call : Expr) → (old new : Draft) → Type 0
EmitsPrint names call old new = EmitsInsns old new (expr_words call) (λ ks is. IsPrintCode ks names call is)

-- the target of an assignment: a declared name
pub record IsTarget (names : List StrId) (target : Expr) : Type 0 where
  pub name : StrId
  pub kind : target.kind ≡ expr.Name name
  pub declared : IsSome (register_of names name)

-- the value in the first free register is copied into the target's
pub data IsAssignmentCode (ks : List Constant) (names : List StrId) (target e : Expr) : List Insn → Type 0 where
  assigns : (x : StrId) (r : ℕ) (is : List Insn) → target.kind ≡ expr.Name x → register_of names x ≡ Some r →
      IsValueCode ks names (length names) e is → IsAssignmentCode ks names target e (is ++ insn.Move r (length names) ∷ [])

abbrev pub EmitsAssignment : List StrId → (target e : Expr) → (old new : Draft) → Type 0
EmitsAssignment names target e old new = EmitsInsns old new (expr_words e + 1) (λ ks is. IsAssignmentCode ks names target e is)

-- a condition's jump has a second word
abbrev pub EmitsTest : List StrId → (label : ℕ) → (cond : Expr) → (old new : Draft) → Type 0
EmitsTest names label cond old new = Emits old new (expr_words cond + 1) 0 (λ ks is. IsTestCode ks names label cond is)

abbrev pub EmitsStatement : List StrId → Stat → (old new : Draft) → Type 0
EmitsStatement names s old new = Emits old new (stat_words s) (stat_words s) (λ ks is. IsStatementCode ks names s is)

abbrev pub EmitsBlock : List StrId → List Stat → (old new : Draft) → Type 0
EmitsBlock names ss old new = Emits old new (block_words ss) (block_words ss) (λ ks is. IsBlockCode ks names ss is)

-- the whole code of a script, which can be linked
pub record IsEmitted (stats : List Stat) (code : Draft) : Type 0 where
  pub script : IsScriptCode code.constants.items stats code.items.items
  pub fit : AllFit code.items.items
  pub linkable : IsLinkable code.items.items
