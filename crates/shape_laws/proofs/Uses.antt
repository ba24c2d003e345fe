-- The code of expressions keeps the shape.
use Rattle.std.proofs.Common.{◌≡◌, ℕ, ℤ, zero, suc, ◌+◌, ◌-◌, ◌<◌, ◌≤◌, Bool, true, false, List, [], ◌∷◌, length, drop, Option, Some, None, refl, sym, ap, subst, arith, nat_eq, nat_le, if◌then◌else◌}
use Rattle.std.proofs.lemmas.Bool.Decides.{nat_tests}
use Rattle.byte_text.specs.declared.fixed.StrId.{StrId}
use Rattle.op_words.specs.declared.chunk.Const.TheVariants as constant
use Rattle.op_words.specs.declared.insn.Insn.{Insn}
use Rattle.op_words.specs.declared.insn.Insn.TheVariants as i
use Rattle.code_link.specs.declared.item.Item.TheVariants as item
use Rattle.syntax_tree.specs.declared.bindings.Bindings.{Bindings}
use Rattle.syntax_tree.specs.declared.bindings.Bound.{Bound}
use Rattle.syntax_tree.specs.declared.bindings.Bound.TheVariants as bound
use Rattle.emit_expr.specs.declared.draft.Emitter.{Emitter}
use Rattle.emit_expr.specs.declared.draft.Mark.{Mark}
use Rattle.emit_expr.specs.Puts as puts
use Rattle.emit_expr.specs.Puts.{Step, label}
use Rattle.emit_expr.specs.Names as names
use Rattle.emit_expr.specs.Operators as operators
use Rattle.node_code.specs.Nodes as nodes
use Rattle.node_code.specs.Nodes.{ExprCode, ChoiceCode, Target, NoTarget, Named}
use Rattle.node_code.specs.Lists as lists
use Rattle.shape_laws.specs.Order.{Owed, Nothing, AList, step}
use Rattle.shape_laws.specs.Jumps.{Among, Ahead}
use Rattle.shape_laws.specs.Named.{PlainItem}
use Rattle.shape_laws.proofs.Simple.{calm_by, insn_by, Calm}
use Rattle.shape_laws.proofs.States.{Frame, State, insn, spend, simple, variable, forgotten, new_constant, text, found, found_string, load_plain, get_global_plain, set_global_plain}

-- instructions of one kind
pub moves : (a c : ℕ) → Calm (i.Move a c)
moves a c = calm_by _ refl refl refl refl refl refl refl refl refl refl refl

pub loads_nil : (a : ℕ) → Calm (i.LoadNil a)
loads_nil a = calm_by _ refl refl refl refl refl refl refl refl refl refl refl

pub loads_bool : (a v : ℕ) → Calm (i.LoadB a v 0)
loads_bool a v = calm_by _ refl refl refl refl refl refl refl refl refl refl refl

pub loads_number : (a : ℕ) (z : ℤ) → Calm (i.LoadN a z)
loads_number a z = calm_by _ refl refl refl refl refl refl refl refl refl refl refl

gets_upvalue : (a n : ℕ) → Calm (i.GetUpvalue a n)
gets_upvalue a n = calm_by _ refl refl refl refl refl refl refl refl refl refl refl

sets_upvalue : (a n : ℕ) → Calm (i.SetUpvalue a n)
sets_upvalue a n = calm_by _ refl refl refl refl refl refl refl refl refl refl refl

pub closes_upvalues : (a : ℕ) → Calm (i.CloseUpvalues a)
closes_upvalues a = calm_by _ refl refl refl refl refl refl refl refl refl refl refl

pub joins : (a c e : ℕ) → c < e → Calm (i.Concat a c e)
joins a c e lt = calm_by _ refl refl refl refl refl refl (grind (arith, nat_tests, lt)) refl refl refl refl

-- what is owed behind an expression all of whose values are made
abbrev pub ends : (many : Bool) → (to : ℕ) → Owed
ends true to = AList to
ends false to = Nothing

module _ (b : Bindings) where
  -- the code of an expression: some values, all values, and a jump
  pub record Good (e : ExprCode) : Type 0 where
    pub run : (k : Frame) (to results : ℕ) (d : Emitter) → 1 ≤ results → State b k Nothing d → State b k Nothing (e.run to results d)
    pub all : (k : Frame) (to : ℕ) (d : Emitter) → State b k Nothing d → State b k (ends e.many to) (e.run to 0 d)
    pub jump : (k : Frame) (so : Bool) (to l : ℕ) (d : Emitter) → Among (Ahead l) k.pending → State b k Nothing d → State b k Nothing (e.jump so to l d)

  abbrev pub Goods : List ExprCode → Type 0
  Goods [] = Unit {0}
  Goods (e ∷ es) = Good e × Goods es

  -- ---- lists

  -- behind a list, of which the last expression may give all its values
  abbrev pub ListEnd : (k : Frame) → (many : Bool) → (at : ℕ) → Emitter → Type 0
  ListEnd k false at d = State b k Nothing d
  ListEnd k true at d = (from : ℕ) × (at ≤ from) × State b k (AList from) d

  list_end : (k : Frame) (at : ℕ) (d : Emitter) (many : Bool) → State b k (ends many at) d → ListEnd k many at d
  list_end k at d true f = (at, omega arith, f)
  list_end k at d false f = f

  sooner : (k : Frame) (at : ℕ) (d : Emitter) (many : Bool) → ListEnd k many (at + 1) d → ListEnd k many at d
  sooner k at d true f = let le = f.1 in (f.0, omega (arith, le), f.2)
  sooner k at d false f = f

  two_of : (n : ℕ) → lists.results_for (suc n) ≡ 2
  two_of n = let other : nat_eq (suc n) 0 ≡ false = grind (arith, nat_tests) in ap (λ t. if t then 0 else 2) other

  pub list_good : (es : List ExprCode) → Goods es → (k : Frame) (at : ℕ) (d : Emitter) → State b k Nothing d
      → ListEnd k (lists.last_from false es) at (lists.list_run es at d)
  list_good [] g k at d f = f
  list_good (e ∷ []) g k at d f = list_end k at _ e.many (g.0.all k at d f)
  list_good (e ∷ (e' ∷ es)) g k at d f =
      subst (λ r. ListEnd k (lists.last_from false (e' ∷ es)) at (lists.list_run (e' ∷ es) (at + 1) (e.run at r d))) (sym (two_of (length es)))
      (sooner k at _ (lists.last_from false (e' ∷ es)) (list_good (e' ∷ es) g.1 k (at + 1) _ (g.0.run k at 2 d (omega arith) f)))

  -- an instruction that takes the list, whatever it owes itself
  pub takes_list : (k : Frame) (es : List ExprCode) (at : ℕ) (q : Owed) (x : ℕ → Insn) (d : Emitter) → ((cs : List ℕ) (from : ℕ) → at ≤ from
      → step cs (AList from) (x 0) ≡ Some q)
      → ((cs : List ℕ) (n : ℕ) → step cs Nothing (x (suc n)) ≡ Some q) → ((n : ℕ) → PlainItem d.draft.constants (item.Insn (x n)))
      → ListEnd k (lists.last_from false es) at d
      → State b k q (puts.insn (x (lists.count_of es)) d)
  takes_list k es at q x d takes closed plain f = which (lists.last_from false es) f
    where
      more : suc (length es) ≡ length es + 1
      more = omega arith

      which : (z : Bool) → ListEnd k z at d → State b k q (puts.insn (x (if z then 0 else length es + 1)) d)
      which true p = insn b [] k (AList p.0) q (x 0) d (λ cs. takes cs p.0 p.1) (λ low. plain 0) p.2
      which false p =
          subst (λ n. State b k q (puts.insn (x n) d)) more (insn b [] k Nothing q (x (suc (length es))) d (λ cs. closed cs (length es)) (λ low. plain (suc
          (length es))) p)

  within : (a from : ℕ) → a ≤ from → nat_le a from ≡ true
  within a from le = grind (arith, nat_tests, le)

  pub returns_list : (k : Frame) (es : List ExprCode) (at : ℕ) (d : Emitter) → ListEnd k (lists.last_from false es) at d
      → State b k Nothing (puts.insn (i.Return at (lists.count_of es)) d)
  returns_list k es at d f =
      takes_list k es at Nothing (λ n. i.Return at n) d (λ cs from le. ap (λ t. if t then Some Nothing else None) (within at from le)) (λ cs n. refl)
      (λ n. insn_by _ _ refl refl refl refl refl refl) f

  call_some : (k : Frame) (es : List ExprCode) (to results : ℕ) (d : Emitter) → ListEnd k (lists.last_from false es) (to + 1) d
      → State b k Nothing (puts.insn (i.Call to (lists.count_of es) (suc results)) d)
  call_some k es to results d f =
      takes_list k es (to + 1) Nothing (λ n. i.Call to n (suc results)) d (λ cs from le. ap (λ t. if t then Some Nothing else None) (within (to + 1) from le))
      (λ cs n. refl)
      (λ n. insn_by _ _ refl refl refl refl refl refl) f

  pub calls : (k : Frame) (es : List ExprCode) (to results : ℕ) (d : Emitter) → 1 ≤ results → ListEnd k (lists.last_from false es) (to + 1) d
      → State b k Nothing (puts.insn (i.Call to (lists.count_of es) results) d)
  calls k es to zero d some f = absurd (omega (arith, some))
  calls k es to (suc n) d some f = call_some k es to n d f

  pub calls_open : (k : Frame) (es : List ExprCode) (to : ℕ) (d : Emitter) → ListEnd k (lists.last_from false es) (to + 1) d
      → State b k (AList to) (puts.insn (i.Call to (lists.count_of es) 0) d)
  calls_open k es to d f =
      takes_list k es (to + 1) (AList to) (λ n. i.Call to n 0) d (λ cs from le. ap (λ t. if t then Some (AList to) else None) (within (to + 1) from le))
      (λ cs n. refl)
      (λ n. insn_by _ _ refl refl refl refl refl refl) f

  pub varargs : (k : Frame) (to results : ℕ) (d : Emitter) → 1 ≤ results → State b k Nothing d → State b k Nothing (puts.insn (i.GetVarargs to results) d)
  varargs k to zero d some f = absurd (omega (arith, some))
  varargs k to (suc n) d some f = insn b [] k Nothing Nothing (i.GetVarargs to (suc n)) d (λ cs. refl) (λ low. insn_by _ _ refl refl refl refl refl refl) f

  pub varargs_open : (k : Frame) (to : ℕ) (d : Emitter) → State b k Nothing d → State b k (AList to) (puts.insn (i.GetVarargs to 0) d)
  varargs_open k to d f = insn b [] k Nothing (AList to) (i.GetVarargs to 0) d (λ cs. refl) (λ low. insn_by _ _ refl refl refl refl refl refl) f

  pub each_good : (es : List ExprCode) → Goods es → (k : Frame) (at : ℕ) (d : Emitter) → State b k Nothing d → State b k Nothing (lists.each_run es at d)
  each_good [] g k at d f = f
  each_good (e ∷ es) g k at d f = each_good es g.1 k (at + 1) _ (g.0.run k at 2 d (omega arith) f)

  nils_good : (k : Frame) (at n : ℕ) (d : Emitter) → State b k Nothing d → State b k Nothing (lists.nils at n d)
  nils_good k at zero d f = f
  nils_good k at (suc n) d f = nils_good k (at + 1) n _ (simple b k (i.LoadNil at) d (loads_nil at) f)

  last_good : (e : ExprCode) → Good e → (k : Frame) (at n : ℕ) (d : Emitter) → State b k Nothing d → State b k Nothing (lists.last_run e at n d)
  last_good e g k at n d f = which e.many
    where
      which : (z : Bool) → State b k Nothing (if z then e.run at (n + 1) d else lists.nils (at + 1) (n - 1) (e.run at 2 d))
      which true = g.run k at (n + 1) d (omega arith) f
      which false = nils_good k (at + 1) (n - 1) _ (g.run k at 2 d (omega arith) f)

  pub exact_good : (es : List ExprCode) → Goods es → (k : Frame) (at n : ℕ) (d : Emitter) → State b k Nothing d → State b k Nothing (lists.exact_run es at n d)
  exact_good [] g k at n d f = nils_good k at n d f
  exact_good (e ∷ []) g k at n d f = last_good e g.0 k at n d f
  exact_good (e ∷ (e' ∷ es)) g k at n d f = exact_good (e' ∷ es) g.1 k (lists.behind at n) (n - 1) _ (g.0.run k at 2 d (omega arith) f)

  -- ---- names

  pub name_good : (k : Frame) (x : Bound) (name : StrId) (to : ℕ) (d : Emitter) → State b k Nothing d → State b k Nothing (names.name_run b x name to d)
  name_good k (bound.Local n) name to d f = simple b k _ d (moves to (names.register_of n d)) f
  name_good k (bound.Up n) name to d f = simple b k _ d (gets_upvalue to _) f
  name_good k bound.Global name to d f =
      spend b k Nothing Nothing _ (puts.with_text name d) (λ cs. refl)
      (λ low. get_global_plain b (puts.with_text name d).draft.constants _ (puts.text_place name d) to (found_string b name d low)) (text b k Nothing name d f)

  pub assign_good : (k : Frame) (x : Bound) (name : StrId) (from : ℕ) (d : Emitter) → State b k Nothing d → State b k Nothing (names.assign_run b x name from d)
  assign_good k (bound.Local n) name from d f = simple b k _ d (moves (names.register_of n d) from) f
  assign_good k (bound.Up n) name from d f = simple b k _ d (sets_upvalue from _) f
  assign_good k bound.Global name from d f =
      spend b k Nothing Nothing _ (puts.with_text name d) (λ cs. refl)
      (λ low. set_global_plain b (puts.with_text name d).draft.constants _ (puts.text_place name d) from (found_string b name d low))
      (text b k Nothing name d f)

  pub assign_to_good : (k : Frame) (t : Target) (from : ℕ) (d : Emitter) → State b k Nothing d → State b k Nothing (lists.assign_to b t from d)
  assign_to_good k NoTarget from d f = f
  assign_to_good k (Named x name) from d f = assign_good k x name from d f

  pub assigns_good : (k : Frame) (ts : List ExprCode) (from : ℕ) (d : Emitter) → State b k Nothing d → State b k Nothing (lists.assign_all b ts from d)
  assigns_good k [] from d f = f
  assigns_good k (t ∷ ts) from d f = assigns_good k ts (from + 1) _ (assign_to_good k t.target from d f)

  pub close_good : (k : Frame) (m : Mark) (d : Emitter) → State b k Nothing d → State b k Nothing (names.close_run b m d)
  close_good k m d f = which (names.any_captured b (drop m.variables d.draft.variables))
    where
      which : (z : Bool) → State b k Nothing (if z then puts.insn (i.CloseUpvalues m.free) d else d)
      which true = simple b k _ d (closes_upvalues m.free) f
      which false = f

  pub ended_good : (k : Frame) (m : Mark) (d : Emitter) → State b k Nothing d → State b k Nothing (names.ended b m d)
  ended_good k m d f = forgotten b k Nothing m.variables (names.close_run b m d) (close_good k m d f)

  pub declared_good : (k : Frame) (number register n : ℕ) (d : Emitter) → State b k Nothing d → State b k Nothing (names.declare_all number register n d)
  declared_good k number register zero d f = f
  declared_good k number register (suc n) d f = declared_good k (names.next_number number) (register + 1) n _ (variable b k Nothing number register d f)

  -- ---- constants

  pub number_run_good : (k : Frame) (n : ℤ) (to : ℕ) (d : Emitter) → State b k Nothing d → State b k Nothing (operators.number_run n to d)
  number_run_good k n to d f = which (operators.is_small n)
    where
      which : (z : Bool) → State b k Nothing (if z then puts.insn (i.LoadN to n) d else puts.insn (i.LoadK to (puts.short (puts.constant_place
          (constant.Num n) d))) (puts.with_constant (constant.Num n) d))
      which true = simple b k _ d (loads_number to n) f
      which false =
          spend b k Nothing Nothing _ (puts.with_constant (constant.Num n) d) (λ cs. refl)
          (λ low. load_plain b (puts.with_constant (constant.Num n) d).draft.constants (constant.Num n) (puts.constant_place (constant.Num n) d) to refl
          (found b (constant.Num n) d low))
          (new_constant b k Nothing (constant.Num n) d tt f)

  pub text_run_good : (k : Frame) (t : StrId) (to : ℕ) (d : Emitter) → State b k Nothing d → State b k Nothing (operators.text_run t to d)
  text_run_good k t to d f =
      spend b k Nothing Nothing _ (puts.with_text t d) (λ cs. refl)
      (λ low. load_plain b (puts.with_text t d).draft.constants (puts.text_constant t d) (puts.text_place t d) to refl (found_string b t d low))
      (text b k Nothing t d f)

  -- ---- operands

  pub operand_good : (e : ExprCode) → Good e → (k : Frame) (to : ℕ) (d : Emitter) → State b k Nothing d → State b k Nothing (nodes.operand_run e to d)
  operand_good e g k to d f = which e.own
    where
      which : (o : Option ℕ) → State b k Nothing (nodes.operand_code o (e.run to 2) d)
      which None = g.run k to 2 d (omega arith) f
      which (Some n) = f
