-- Instructions that owe nothing, belong to none, and name nothing but registers.
use Rattle.std.proofs.Common.{◌≡◌, ℕ, ℤ, Bool, true, false, not, List, [], ◌∷◌, Some, None, refl, ap, ◌∙◌}
use Rattle.std.specs.Prelude.{pos, slice_get}
use Rattle.std.specs.List.{list_all}
use Rattle.op_words.specs.declared.chunk.Const.{Const}
use Rattle.op_words.specs.declared.insn.Insn.{Insn}
use Rattle.op_words.specs.declared.insn.Insn.TheVariants as i
use Rattle.code_link.specs.declared.item.Item.TheVariants as item
use Rattle.machine_meaning.specs.Needs as needs
use Rattle.machine_meaning.specs.Needs.{Want, is_wanted, is_known, is_own, constants_of, is_capture, reads_top, sets_top, goes_back, jump_of}
use Rattle.machine_meaning.specs.WellFormed.{is_any_prep}
use Rattle.syntax_tree.specs.declared.tree.BinOp.{BinOp}
use Rattle.syntax_tree.specs.declared.tree.BinOp.TheVariants as op
use Rattle.syntax_tree.specs.declared.tree.UnOp.{UnOp}
use Rattle.syntax_tree.specs.declared.tree.UnOp.TheVariants as unary
use Rattle.emit_expr.specs.Operators as operators
use Rattle.shape_laws.specs.Order.{Nothing, closure_of, skipped, owed, owed_by, skips, unless_bound, step}
use Rattle.shape_laws.specs.Jumps.{Ahead, awaited}
use Rattle.shape_laws.specs.Named.{holds, is_paired, Plain, PlainItem, leap}

-- what stands where nothing is owed, and owes nothing
pub record Free (x : Insn) : Type 0 where
  pub capture : is_capture x ≡ false
  pub reads : reads_top x ≡ None
  pub sets : sets_top x ≡ None
  pub closure : closure_of x ≡ None
  pub skip : skipped x ≡ 0

-- and names nothing but registers
pub record Simple (x : Insn) : Type 0 where
  pub free : Free x
  pub known : is_known x ≡ true
  pub own : is_own x ≡ true
  pub wants : constants_of x ≡ []
  pub other : is_any_prep x ≡ false
  pub single : is_paired x ≡ false

-- and is no branch
pub record Calm (x : Insn) : Type 0 where
  pub simple : Simple x
  pub still : jump_of x ≡ leap x

pub free_by : (x : Insn) → is_capture x ≡ false → reads_top x ≡ None → sets_top x ≡ None → closure_of x ≡ None → skipped x ≡ 0 → Free x
free_by x c r s l n = record { capture = c; reads = r; sets = s; closure = l; skip = n }

pub simple_by : (x : Insn) → is_capture x ≡ false → reads_top x ≡ None → sets_top x ≡ None → closure_of x ≡ None → skipped x ≡ 0 → is_known x ≡ true
    → is_own x ≡ true → constants_of x ≡ [] → is_any_prep x ≡ false → is_paired x ≡ false → Simple x
simple_by x c r s l n k o w e t = record { free = free_by x c r s l n; known = k; own = o; wants = w; other = e; single = t }

pub calm_by : (x : Insn) → is_capture x ≡ false → reads_top x ≡ None → sets_top x ≡ None → closure_of x ≡ None → skipped x ≡ 0 → is_known x ≡ true
    → is_own x ≡ true → constants_of x ≡ [] → is_any_prep x ≡ false → is_paired x ≡ false → jump_of x ≡ leap x → Calm x
calm_by x c r s l n k o w e t j = record { simple = simple_by x c r s l n k o w e t; still = j }

-- an instruction that is no branch
pub insn_by : (consts : List Const) (x : Insn) → is_known x ≡ true → is_own x ≡ true → list_all (holds consts) (constants_of x) ≡ true
    → is_any_prep x ≡ false → is_paired x ≡ false → jump_of x ≡ leap x → PlainItem consts (item.Insn x)
insn_by consts x k o f e t j = (record { known = k; own = o; finds = f; other = e; single = t }, j)

pub free_step : (x : Insn) → Free x → (cs : List ℕ) → step cs Nothing x ≡ Some Nothing
free_step x s cs =
    ap (λ c. unless_bound c (reads_top x) (owed_by cs x)) s.capture ∙ ap (λ r. unless_bound false r (owed_by cs x)) s.reads
    ∙ ap (λ t. owed cs t (closure_of x) (skipped x)) s.sets ∙ ap (λ c. owed cs None c (skipped x)) s.closure ∙ ap (λ n. skips n) s.skip

pub simple_plain : (x : Insn) → Simple x → (consts : List Const) → Plain consts x
simple_plain x s consts =
    record { known = s.known; own = s.own; finds = ap (list_all (holds consts)) s.wants; other = s.other; single = s.single }

pub calm_plain : (x : Insn) → Calm x → (consts : List Const) → PlainItem consts (item.Insn x)
calm_plain x c consts = (simple_plain x c.simple consts, c.still)

-- what is wanted at one place
pub one_wanted : (consts : List Const) (w : Want) (n : ℕ) → is_wanted w (slice_get consts n) ≡ true → list_all (holds consts) ((pos n, w) ∷ []) ≡ true
one_wanted consts w n e = rw e refl

-- ---- operators

pub arithmetic : (z : BinOp) (a b c : ℕ) → Calm (operators.arithmetic z a b c)
arithmetic op.Or a b c = calm_by _ refl refl refl refl refl refl refl refl refl refl refl
arithmetic op.And a b c = calm_by _ refl refl refl refl refl refl refl refl refl refl refl
arithmetic op.Lt a b c = calm_by _ refl refl refl refl refl refl refl refl refl refl refl
arithmetic op.Gt a b c = calm_by _ refl refl refl refl refl refl refl refl refl refl refl
arithmetic op.Le a b c = calm_by _ refl refl refl refl refl refl refl refl refl refl refl
arithmetic op.Ge a b c = calm_by _ refl refl refl refl refl refl refl refl refl refl refl
arithmetic op.Ne a b c = calm_by _ refl refl refl refl refl refl refl refl refl refl refl
arithmetic op.Eq a b c = calm_by _ refl refl refl refl refl refl refl refl refl refl refl
arithmetic op.Concat a b c = calm_by _ refl refl refl refl refl refl refl refl refl refl refl
arithmetic op.Add a b c = calm_by _ refl refl refl refl refl refl refl refl refl refl refl
arithmetic op.Sub a b c = calm_by _ refl refl refl refl refl refl refl refl refl refl refl
arithmetic op.Mul a b c = calm_by _ refl refl refl refl refl refl refl refl refl refl refl
arithmetic op.Div a b c = calm_by _ refl refl refl refl refl refl refl refl refl refl refl
arithmetic op.Idiv a b c = calm_by _ refl refl refl refl refl refl refl refl refl refl refl
arithmetic op.Mod a b c = calm_by _ refl refl refl refl refl refl refl refl refl refl refl
arithmetic op.Pow a b c = calm_by _ refl refl refl refl refl refl refl refl refl refl refl

pub unary_insn : (z : UnOp) (a b : ℕ) → Calm (operators.unary_insn z a b)
unary_insn unary.Not a b = calm_by _ refl refl refl refl refl refl refl refl refl refl refl
unary_insn unary.Len a b = calm_by _ refl refl refl refl refl refl refl refl refl refl refl
unary_insn unary.Minus a b = calm_by _ refl refl refl refl refl refl refl refl refl refl refl

-- of a branch: it goes ahead, to its label
pub record Onward (x : Insn) : Type 0 where
  pub simple : Simple x
  pub ahead : goes_back x ≡ false
  pub waits : (l : ℕ) → awaited x l ≡ Ahead l

pub jump : (z : ℤ) → Onward (i.Jump z)
jump z = record { simple = simple_by _ refl refl refl refl refl refl refl refl refl refl; ahead = refl; waits = λ l. refl }

pub truth : (so : Bool) (a : ℕ) → Onward (operators.truth so a)
truth true a = record { simple = simple_by _ refl refl refl refl refl refl refl refl refl refl; ahead = refl; waits = λ l. refl }
truth false a = record { simple = simple_by _ refl refl refl refl refl refl refl refl refl refl; ahead = refl; waits = λ l. refl }

equality : (so : Bool) (a b : ℕ) → Onward (operators.equality so a b)
equality true a b = record { simple = simple_by _ refl refl refl refl refl refl refl refl refl refl; ahead = refl; waits = λ l. refl }
equality false a b = record { simple = simple_by _ refl refl refl refl refl refl refl refl refl refl; ahead = refl; waits = λ l. refl }

less : (so : Bool) (a b : ℕ) → Onward (operators.less so a b)
less true a b = record { simple = simple_by _ refl refl refl refl refl refl refl refl refl refl; ahead = refl; waits = λ l. refl }
less false a b = record { simple = simple_by _ refl refl refl refl refl refl refl refl refl refl; ahead = refl; waits = λ l. refl }

at_most : (so : Bool) (a b : ℕ) → Onward (operators.at_most so a b)
at_most true a b = record { simple = simple_by _ refl refl refl refl refl refl refl refl refl refl; ahead = refl; waits = λ l. refl }
at_most false a b = record { simple = simple_by _ refl refl refl refl refl refl refl refl refl refl; ahead = refl; waits = λ l. refl }

pub comparison : (z : BinOp) (so : Bool) (a b : ℕ) → Onward (operators.comparison z so a b)
comparison op.Eq so a b = equality so a b
comparison op.Ne so a b = equality (not so) a b
comparison op.Lt so a b = less so a b
comparison op.Gt so a b = less so b a
comparison op.Le so a b = at_most so a b
comparison op.Ge so a b = at_most so b a
comparison op.Or so a b = jump (pos 0)
comparison op.And so a b = jump (pos 0)
comparison op.Concat so a b = jump (pos 0)
comparison op.Add so a b = jump (pos 0)
comparison op.Sub so a b = jump (pos 0)
comparison op.Mul so a b = jump (pos 0)
comparison op.Div so a b = jump (pos 0)
comparison op.Idiv so a b = jump (pos 0)
comparison op.Mod so a b = jump (pos 0)
comparison op.Pow so a b = jump (pos 0)

-- ---- operators with a constant

pub constant_free : (z : BinOp) (a b c : ℕ) → Free (operators.arithmetic_constant z a b c)
constant_free op.Or a b c = free_by _ refl refl refl refl refl
constant_free op.And a b c = free_by _ refl refl refl refl refl
constant_free op.Lt a b c = free_by _ refl refl refl refl refl
constant_free op.Gt a b c = free_by _ refl refl refl refl refl
constant_free op.Le a b c = free_by _ refl refl refl refl refl
constant_free op.Ge a b c = free_by _ refl refl refl refl refl
constant_free op.Ne a b c = free_by _ refl refl refl refl refl
constant_free op.Eq a b c = free_by _ refl refl refl refl refl
constant_free op.Concat a b c = free_by _ refl refl refl refl refl
constant_free op.Add a b c = free_by _ refl refl refl refl refl
constant_free op.Sub a b c = free_by _ refl refl refl refl refl
constant_free op.Mul a b c = free_by _ refl refl refl refl refl
constant_free op.Div a b c = free_by _ refl refl refl refl refl
constant_free op.Idiv a b c = free_by _ refl refl refl refl refl
constant_free op.Mod a b c = free_by _ refl refl refl refl refl
constant_free op.Pow a b c = free_by _ refl refl refl refl refl

pub from_free : (z : BinOp) (a b c : ℕ) → Free (operators.from_constant z a b c)
from_free op.Or a b c = free_by _ refl refl refl refl refl
from_free op.And a b c = free_by _ refl refl refl refl refl
from_free op.Lt a b c = free_by _ refl refl refl refl refl
from_free op.Gt a b c = free_by _ refl refl refl refl refl
from_free op.Le a b c = free_by _ refl refl refl refl refl
from_free op.Ge a b c = free_by _ refl refl refl refl refl
from_free op.Ne a b c = free_by _ refl refl refl refl refl
from_free op.Eq a b c = free_by _ refl refl refl refl refl
from_free op.Concat a b c = free_by _ refl refl refl refl refl
from_free op.Add a b c = free_by _ refl refl refl refl refl
from_free op.Sub a b c = free_by _ refl refl refl refl refl
from_free op.Mul a b c = free_by _ refl refl refl refl refl
from_free op.Div a b c = free_by _ refl refl refl refl refl
from_free op.Idiv a b c = free_by _ refl refl refl refl refl
from_free op.Mod a b c = free_by _ refl refl refl refl refl
from_free op.Pow a b c = free_by _ refl refl refl refl refl

module _ (consts : List Const) where
  pub constant_plain : (z : BinOp) (a b c : ℕ) → is_wanted needs.AValue (slice_get consts c) ≡ true
      → PlainItem consts (item.Insn (operators.arithmetic_constant z a b c))
  constant_plain op.Or a b c e = insn_by consts _ refl refl refl refl refl refl
  constant_plain op.And a b c e = insn_by consts _ refl refl refl refl refl refl
  constant_plain op.Lt a b c e = insn_by consts _ refl refl refl refl refl refl
  constant_plain op.Gt a b c e = insn_by consts _ refl refl refl refl refl refl
  constant_plain op.Le a b c e = insn_by consts _ refl refl refl refl refl refl
  constant_plain op.Ge a b c e = insn_by consts _ refl refl refl refl refl refl
  constant_plain op.Ne a b c e = insn_by consts _ refl refl refl refl refl refl
  constant_plain op.Eq a b c e = insn_by consts _ refl refl refl refl refl refl
  constant_plain op.Concat a b c e = insn_by consts _ refl refl refl refl refl refl
  constant_plain op.Add a b c e = insn_by consts _ refl refl (one_wanted consts needs.AValue c e) refl refl refl
  constant_plain op.Sub a b c e = insn_by consts _ refl refl (one_wanted consts needs.AValue c e) refl refl refl
  constant_plain op.Mul a b c e = insn_by consts _ refl refl (one_wanted consts needs.AValue c e) refl refl refl
  constant_plain op.Div a b c e = insn_by consts _ refl refl (one_wanted consts needs.AValue c e) refl refl refl
  constant_plain op.Idiv a b c e = insn_by consts _ refl refl (one_wanted consts needs.AValue c e) refl refl refl
  constant_plain op.Mod a b c e = insn_by consts _ refl refl (one_wanted consts needs.AValue c e) refl refl refl
  constant_plain op.Pow a b c e = insn_by consts _ refl refl (one_wanted consts needs.AValue c e) refl refl refl

  pub from_plain : (z : BinOp) (a c b : ℕ) → is_wanted needs.AValue (slice_get consts c) ≡ true → PlainItem consts (item.Insn (operators.from_constant z a c b))
  from_plain op.Or a c b e = insn_by consts _ refl refl refl refl refl refl
  from_plain op.And a c b e = insn_by consts _ refl refl refl refl refl refl
  from_plain op.Lt a c b e = insn_by consts _ refl refl refl refl refl refl
  from_plain op.Gt a c b e = insn_by consts _ refl refl refl refl refl refl
  from_plain op.Le a c b e = insn_by consts _ refl refl refl refl refl refl
  from_plain op.Ge a c b e = insn_by consts _ refl refl refl refl refl refl
  from_plain op.Ne a c b e = insn_by consts _ refl refl refl refl refl refl
  from_plain op.Eq a c b e = insn_by consts _ refl refl refl refl refl refl
  from_plain op.Concat a c b e = insn_by consts _ refl refl refl refl refl refl
  from_plain op.Add a c b e = insn_by consts _ refl refl refl refl refl refl
  from_plain op.Sub a c b e = insn_by consts _ refl refl (one_wanted consts needs.AValue c e) refl refl refl
  from_plain op.Mul a c b e = insn_by consts _ refl refl refl refl refl refl
  from_plain op.Div a c b e = insn_by consts _ refl refl (one_wanted consts needs.AValue c e) refl refl refl
  from_plain op.Idiv a c b e = insn_by consts _ refl refl refl refl refl refl
  from_plain op.Mod a c b e = insn_by consts _ refl refl refl refl refl refl
  from_plain op.Pow a c b e = insn_by consts _ refl refl refl refl refl refl
