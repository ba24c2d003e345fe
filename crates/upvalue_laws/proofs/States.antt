-- A function whose upvalues fit so far, the variables in scope, and each step that puts something into it.
use Rattle.std.proofs.Common.{◌≡◌, ℕ, ◌≤◌, Bool, true, false, not, List, [], ◌∷◌, ◌++◌, length, take, drop, Some, None, nat_eq, if◌then◌else◌, refl, sym, ap, ◌∙◌, subst, ◌⊎◌, inl, inr, ⊎_elim}
use Rattle.std.proofs.lemmas.Bool.{eq-eqb}
use Rattle.byte_text.specs.declared.fixed.StrId.{StrId}
use Rattle.op_words.specs.declared.chunk.Const.{Const}
use Rattle.op_words.specs.declared.insn.Insn.{Insn}
use Rattle.op_words.specs.declared.insn.Insn.TheVariants as i
use Rattle.code_link.specs.declared.item.Item.{Item}
use Rattle.code_link.specs.declared.item.Item.TheVariants as item
use Rattle.machine_meaning.specs.Needs as needs
use Rattle.syntax_tree.specs.declared.bindings.Bindings.{Bindings}
use Rattle.syntax_tree.specs.declared.notes.Visible.{Visible}
use Rattle.syntax_tree.specs.declared.tree.BinOp.{BinOp}
use Rattle.syntax_tree.specs.declared.tree.BinOp.TheVariants as op
use Rattle.syntax_tree.specs.declared.tree.UnOp.{UnOp}
use Rattle.syntax_tree.specs.declared.tree.UnOp.TheVariants as unary
use Rattle.emit_expr.specs.declared.draft.Emitter.{Emitter}
use Rattle.emit_expr.specs.declared.draft.Mark.{Mark}
use Rattle.emit_expr.specs.declared.draft.Variable.{Variable}
use Rattle.emit_expr.specs.Puts as puts
use Rattle.emit_expr.specs.Puts.{with_constant, with_string, declare, forget}
use Rattle.emit_expr.specs.Puts.{put as put_item}
use Rattle.emit_expr.specs.Names as names
use Rattle.emit_expr.specs.Names.{upvalues_at}
use Rattle.emit_expr.specs.Operators as operators
use Rattle.emit_laws.specs.Growing.{Prefix}
use Rattle.emit_laws.proofs.Grows as grows
use Rattle.upvalue_laws.specs.Laws.{IsUpvalue, AreUpvalues, AllUpvalues}

-- ---- instructions that name no upvalue

pub arithmetic : (z : BinOp) (a c e : ℕ) → needs.upvalue_of (operators.arithmetic z a c e) ≡ None
arithmetic op.Or a c e = refl
arithmetic op.And a c e = refl
arithmetic op.Lt a c e = refl
arithmetic op.Gt a c e = refl
arithmetic op.Le a c e = refl
arithmetic op.Ge a c e = refl
arithmetic op.Ne a c e = refl
arithmetic op.Eq a c e = refl
arithmetic op.Concat a c e = refl
arithmetic op.Add a c e = refl
arithmetic op.Sub a c e = refl
arithmetic op.Mul a c e = refl
arithmetic op.Div a c e = refl
arithmetic op.Idiv a c e = refl
arithmetic op.Mod a c e = refl
arithmetic op.Pow a c e = refl

pub arithmetic_constant : (z : BinOp) (a c e : ℕ) → needs.upvalue_of (operators.arithmetic_constant z a c e) ≡ None
arithmetic_constant op.Or a c e = refl
arithmetic_constant op.And a c e = refl
arithmetic_constant op.Lt a c e = refl
arithmetic_constant op.Gt a c e = refl
arithmetic_constant op.Le a c e = refl
arithmetic_constant op.Ge a c e = refl
arithmetic_constant op.Ne a c e = refl
arithmetic_constant op.Eq a c e = refl
arithmetic_constant op.Concat a c e = refl
arithmetic_constant op.Add a c e = refl
arithmetic_constant op.Sub a c e = refl
arithmetic_constant op.Mul a c e = refl
arithmetic_constant op.Div a c e = refl
arithmetic_constant op.Idiv a c e = refl
arithmetic_constant op.Mod a c e = refl
arithmetic_constant op.Pow a c e = refl

pub from_constant : (z : BinOp) (a c e : ℕ) → needs.upvalue_of (operators.from_constant z a c e) ≡ None
from_constant op.Or a c e = refl
from_constant op.And a c e = refl
from_constant op.Lt a c e = refl
from_constant op.Gt a c e = refl
from_constant op.Le a c e = refl
from_constant op.Ge a c e = refl
from_constant op.Ne a c e = refl
from_constant op.Eq a c e = refl
from_constant op.Concat a c e = refl
from_constant op.Add a c e = refl
from_constant op.Sub a c e = refl
from_constant op.Mul a c e = refl
from_constant op.Div a c e = refl
from_constant op.Idiv a c e = refl
from_constant op.Mod a c e = refl
from_constant op.Pow a c e = refl

pub unary_insn : (z : UnOp) (a c : ℕ) → needs.upvalue_of (operators.unary_insn z a c) ≡ None
unary_insn unary.Not a c = refl
unary_insn unary.Len a c = refl
unary_insn unary.Minus a c = refl

pub truth : (so : Bool) (a : ℕ) → needs.upvalue_of (operators.truth so a) ≡ None
truth true a = refl
truth false a = refl

equality : (so : Bool) (a c : ℕ) → needs.upvalue_of (operators.equality so a c) ≡ None
equality true a c = refl
equality false a c = refl

less : (so : Bool) (a c : ℕ) → needs.upvalue_of (operators.less so a c) ≡ None
less true a c = refl
less false a c = refl

at_most : (so : Bool) (a c : ℕ) → needs.upvalue_of (operators.at_most so a c) ≡ None
at_most true a c = refl
at_most false a c = refl

pub comparison : (z : BinOp) (so : Bool) (a c : ℕ) → needs.upvalue_of (operators.comparison z so a c) ≡ None
comparison op.Eq so a c = equality so a c
comparison op.Ne so a c = equality (not so) a c
comparison op.Lt so a c = less so a c
comparison op.Gt so a c = less so c a
comparison op.Le so a c = at_most so a c
comparison op.Ge so a c = at_most so c a
comparison op.Or so a c = refl
comparison op.And so a c = refl
comparison op.Concat so a c = refl
comparison op.Add so a c = refl
comparison op.Sub so a c = refl
comparison op.Mul so a c = refl
comparison op.Div so a c = refl
comparison op.Idiv so a c = refl
comparison op.Mod so a c = refl
comparison op.Pow so a c = refl

-- ---- variables

abbrev pub HasVar : ℕ → List Variable → Type 0
HasVar k [] = ⊥
HasVar k (v ∷ vs) = (v.number ≡ k) ⊎ HasVar k vs

-- each of these names that stands for a local of the function itself, the first of which has that number, has a variable
abbrev pub Covered : (first : ℕ) → List Variable → List Visible → Type 0
Covered first vs [] = Unit {0}
Covered first vs (v ∷ us) = (first ≤ v.local → HasVar v.local vs) × Covered first vs us

var_front : (k : ℕ) (vs more : List Variable) → HasVar k vs → HasVar k (vs ++ more)
var_front k [] more h = absurd h
var_front k (v ∷ vs) more h = ⊎_elim (λ e. inl e) (λ r. inr (var_front k vs more r)) h

pub var_last : (vs : List Variable) (v : Variable) → HasVar v.number (vs ++ v ∷ [])
var_last [] v = inl refl
var_last (w ∷ vs) v = inr (var_last vs v)

pub covered_front : (first : ℕ) (vs more : List Variable) (us : List Visible) → Covered first vs us → Covered first (vs ++ more) us
covered_front first vs more [] h = tt
covered_front first vs more (v ∷ us) h = ((λ le. var_front v.local vs more (h.0 le)), covered_front first vs more us h.1)

pub covered_prefix : (first : ℕ) (vs new : List Variable) (us : List Visible) → Prefix vs new → Covered first vs us → Covered first new us
covered_prefix first vs new us p h = subst (λ l. Covered first l us) (sym p.is) (covered_front first vs p.more us h)

pub covered_both : (first : ℕ) (vs : List Variable) (us ws : List Visible) → Covered first vs us → Covered first vs ws → Covered first vs (us ++ ws)
covered_both first vs [] ws h g = g
covered_both first vs (v ∷ us) ws h g = (h.0, covered_both first vs us ws h.1 g)

pub register_there : (k : ℕ) (vs : List Variable) → HasVar k vs → names.register_in k vs ≡ None → ⊥
register_there k [] h e = absurd h
register_there k (v ∷ vs) h e = by (nat_eq v.number k) refl (λ g f. register_there k vs g f) e
  where
    by : (t : Bool) → nat_eq v.number k ≡ t → (HasVar k vs → names.register_in k vs ≡ None → ⊥)
        → (if t then Some v.register else names.register_in k vs) ≡ None → ⊥
    by true f later g = cc
    by false f later g = ⊎_elim (λ same. let t : nat_eq v.number k ≡ true = eq-eqb v.number k same in cc) (λ r. later r g) h

-- ---- the function

-- the function that is emitted has that number and these variables, and names upvalues that are its own
pub record State (b : Bindings) (func : ℕ) (vs : List Variable) (d : Emitter) : Type 0 where
  pub named : d.draft.func ≡ func
  pub variables : d.draft.variables ≡ vs
  pub items : AreUpvalues (length (upvalues_at b func)) d.draft.items
  pub protos : AllUpvalues b d.protos

items_last : (n : ℕ) (is : List Item) (x : Insn) → AreUpvalues n is → IsUpvalue n (needs.upvalue_of x) → AreUpvalues n (is ++ item.Insn x ∷ [])
items_last n [] x h u = (u, tt)
items_last n (item.Insn y ∷ is) x h u = (h.0, items_last n is x h.1 u)
items_last n (item.Branch y l ∷ is) x h u = (h.0, items_last n is x h.1 u)
items_last n (item.Label l ∷ is) x h u = items_last n is x h u

branch_last : (n : ℕ) (is : List Item) (x : Insn) (l : ℕ) → AreUpvalues n is → IsUpvalue n (needs.upvalue_of x) → AreUpvalues n (is ++ item.Branch x l ∷ [])
branch_last n [] x l h u = (u, tt)
branch_last n (item.Insn y ∷ is) x l h u = (h.0, branch_last n is x l h.1 u)
branch_last n (item.Branch y m ∷ is) x l h u = (h.0, branch_last n is x l h.1 u)
branch_last n (item.Label m ∷ is) x l h u = branch_last n is x l h u

label_last : (n : ℕ) (is : List Item) (l : ℕ) → AreUpvalues n is → AreUpvalues n (is ++ item.Label l ∷ [])
label_last n [] l h = tt
label_last n (item.Insn y ∷ is) l h = (h.0, label_last n is l h.1)
label_last n (item.Branch y m ∷ is) l h = (h.0, label_last n is l h.1)
label_last n (item.Label m ∷ is) l h = label_last n is l h

module _ (b : Bindings) (func : ℕ) (vs : List Variable) where
  pub naming : (x : Insn) (d : Emitter) → IsUpvalue (length (upvalues_at b func)) (needs.upvalue_of x) → State b func vs d → State b func vs (puts.insn x d)
  unfolding put_item
  naming x d u f = record {
    named = f.named;
    variables = f.variables;
    items = items_last (length
        (upvalues_at b func)) d.draft.items x f.items u;
    protos = f.protos;
  }

  pub insn : (x : Insn) (d : Emitter) → needs.upvalue_of x ≡ None → State b func vs d → State b func vs (puts.insn x d)
  insn x d e f = naming x d (subst (IsUpvalue (length (upvalues_at b func))) (sym e) tt) f

  pub branch : (x : Insn) (l : ℕ) (d : Emitter) → needs.upvalue_of x ≡ None → State b func vs d → State b func vs (puts.branch x l d)
  unfolding put_item
  branch x l d e f = record {
    named = f.named;
    variables = f.variables;
    items = branch_last (length (upvalues_at b func)) d.draft.items x l f.items (subst (IsUpvalue (length (upvalues_at b func))) (sym e) tt);
    protos = f.protos;
  }

  pub place : (l : ℕ) (d : Emitter) → State b func vs d → State b func vs (puts.place l d)
  unfolding put_item
  place l d f = record { named = f.named; variables = f.variables; items = label_last (length (upvalues_at b func)) d.draft.items l f.items; protos = f.protos }

  pub new_constant : (c : Const) (d : Emitter) → State b func vs d → State b func vs (puts.with_constant c d)
  unfolding with_constant
  new_constant c d f = record { named = f.named; variables = f.variables; items = f.items; protos = f.protos }

  string : (t : StrId) (d : Emitter) → State b func vs d → State b func vs (puts.with_string t d)
  unfolding with_string
  string t d f = record { named = f.named; variables = f.variables; items = f.items; protos = f.protos }

  pub text : (t : StrId) (d : Emitter) → State b func vs d → State b func vs (puts.with_text t d)
  text t d f = new_constant (puts.text_constant t d) (puts.with_string t d) (string t d f)

  pub variable : (number register : ℕ) (d : Emitter) → State b func vs d
      → State b func (vs ++ record { number = number; register = register } ∷ []) (puts.declare number register d)
  unfolding declare
  variable number register d f = record {
    named = f.named;
    variables = ap (λ l. l ++ record { number = number; register = register } ∷ []) f.variables;
    items = f.items;
    protos = f.protos;
  }

  -- the variables from before are left
  forgotten : (new : List Variable) (n : ℕ) (d : Emitter) → n ≡ length vs → Prefix vs new → State b func new d → State b func vs (puts.forget n d)
  unfolding forget
  forgotten new n d e p f = record {
    named = f.named;
    variables = ap (λ m. take m d.draft.variables) e ∙ ap (take (length vs)) (f.variables ∙ p.is) ∙ grows.take_front vs p.more;
    items = f.items;
    protos = f.protos;
  }

  pub close_good : (m : Mark) (d : Emitter) → State b func vs d → State b func vs (names.close_run b m d)
  close_good m d f = which (names.any_captured b (drop m.variables d.draft.variables))
    where
      which : (z : Bool) → State b func vs (if z then puts.insn (i.CloseUpvalues m.free) d else d)
      which true = insn (i.CloseUpvalues m.free) d refl f
      which false = f

-- a scope that ends leaves the variables that were there when it began
pub ended_good : (b : Bindings) (func : ℕ) (vs new : List Variable) (m : Mark) (d : Emitter) → m.variables ≡ length vs → Prefix vs new → State b func new d
    → State b func vs (names.ended b m d)
ended_good b func vs new m d e p f = forgotten b func vs new m.variables (names.close_run b m d) e p (close_good b func new m d f)

-- new names have variables, whose numbers follow one another
pub record Declared (b : Bindings) (func first : ℕ) (vs : List Variable) (us : List Visible) (d : Emitter) : Type 0 where
  pub new : List Variable
  pub front : Prefix vs new
  pub covers : Covered first new us
  pub state : State b func new d
