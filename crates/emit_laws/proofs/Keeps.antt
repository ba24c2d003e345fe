-- The code of an expression leaves the variables in scope as they are: by induction over the tree.
use Rattle.std.proofs.Common.{◌≡◌, ℕ, ℤ, zero, suc, ◌+◌, ◌-◌, Bool, true, false, not, nat_eq, if◌then◌else◌, List, [], ◌∷◌, ◌++◌, length, take, drop, map, Option, Some, None, refl, sym, ap, ◌∙◌, subst, append_assoc}
use Rattle.std.specs.Prelude.{pos}
use Rattle.std.proofs.lemmas.List.{append-nil}
use Rattle.byte_text.specs.declared.fixed.StrId.{StrId}
use Rattle.op_words.specs.declared.chunk.Const.{Const}
use Rattle.op_words.specs.declared.chunk.Const.TheVariants as constant
use Rattle.op_words.specs.declared.insn.Insn.TheVariants as i
use Rattle.code_link.specs.declared.item.Item.{Item}
use Rattle.code_link.specs.declared.item.Item.TheVariants as item
use Rattle.syntax_tree.specs.declared.bindings.Bindings.{Bindings}
use Rattle.syntax_tree.specs.declared.bindings.Bound.{Bound}
use Rattle.syntax_tree.specs.declared.bindings.Bound.TheVariants as bound
use Rattle.syntax_tree.specs.declared.tree.BinOp.{BinOp}
use Rattle.syntax_tree.specs.declared.tree.BinOp.TheVariants as op
use Rattle.syntax_tree.specs.declared.tree.UnOp.{UnOp}
use Rattle.syntax_tree.specs.declared.tree.UnOp.TheVariants as unary
use Rattle.syntax_tree.specs.declared.tree.ExprKind.{ExprKind}
use Rattle.syntax_tree.specs.declared.tree.FieldKind.{FieldKind}
use Rattle.syntax_tree.specs.declared.tree.StatKind.{StatKind}
use Rattle.syntax_tree.specs.declared.tree.Arm.{Arm}
use Rattle.syntax_tree.specs.declared.tree.Expr.{Expr}
use Rattle.syntax_tree.specs.declared.tree.ExprArm.{ExprArm}
use Rattle.syntax_tree.specs.declared.tree.Field.{Field}
use Rattle.syntax_tree.specs.declared.tree.FuncBody.{FuncBody}
use Rattle.syntax_tree.specs.declared.tree.Stat.{Stat}
use Rattle.syntax_tree.specs.declared.tree.ExprKind.TheOpen as level
use Rattle.syntax_tree.specs.declared.tree.ExprKind.TheFolds as folds
use Rattle.emit_expr.specs.declared.draft.Emitter.{Emitter}
use Rattle.emit_expr.specs.declared.draft.Loop.{Loop}
use Rattle.emit_expr.specs.declared.draft.Mark.{Mark}
use Rattle.emit_expr.specs.Puts as puts
use Rattle.emit_expr.specs.Puts.{Step, label, mark_at, with_constant, with_string, declare, forget, with_draft, with_prototype, with_child}
use Rattle.emit_expr.specs.Puts.{put as put_item}
use Rattle.emit_expr.specs.Names as names
use Rattle.emit_expr.specs.Operators as operators
use Rattle.node_code.specs.Nodes as nodes
use Rattle.node_code.specs.Nodes.{ExprCode, StatCode, ArmCode, ChoiceCode, FuncCode, Target, NoTarget, Named}
use Rattle.node_code.specs.Lists as lists
use Rattle.node_code.specs.Conditions as conditions
use Rattle.node_code.specs.Code as code
use Rattle.emit_laws.specs.Induction as induction
use Rattle.emit_laws.specs.Induction.{With}

-- the same variables are in scope
abbrev pub Keeps : (old new : Emitter) → Type 0
Keeps old new = new.draft.variables ≡ old.draft.variables

-- ---- steps

pub none : (d : Emitter) → Keeps d d
none d = refl

pub after : (d1 d2 d3 : Emitter) → Keeps d1 d2 → Keeps d2 d3 → Keeps d1 d3
after d1 d2 d3 p q = q ∙ p

pub put : (x : Item) (d d' : Emitter) → Keeps d d' → Keeps d (puts.put x d')
unfolding put_item
put x d d' p = p

pub constant_in : (k : Const) (d d' : Emitter) → Keeps d d' → Keeps d (puts.with_constant k d')
unfolding with_constant
constant_in k d d' p = p

pub string_in : (t : StrId) (d d' : Emitter) → Keeps d d' → Keeps d (puts.with_string t d')
unfolding with_string
string_in t d d' p = p

pub text_in : (t : StrId) (d d' : Emitter) → Keeps d d' → Keeps d (puts.with_text t d')
text_in t d d' p = constant_in (puts.text_constant t d') d (puts.with_string t d') (string_in t d d' p)

-- ---- what is known of the parts
abbrev pub Go : Step → Type 0
Go f = (d d' : Emitter) → Keeps d d' → Keeps d (f d')

pub record Good (c : ExprCode) : Type 0 where
  pub run : (to results : ℕ) → Go (c.run to results)
  pub jump : (so : Bool) (to label : ℕ) → Go (c.jump so to label)

abbrev pub AllGood : List ExprCode → Type 0
AllGood [] = Unit {0}
AllGood (e ∷ es) = Good e × AllGood es

abbrev pub AllGoodChoices : List ChoiceCode → Type 0
AllGoodChoices [] = Unit {0}
AllGoodChoices (a ∷ l) = (Good a.cond × Good a.value) × AllGoodChoices l

-- ---- lists
pub list_good : (es : List ExprCode) → AllGood es → (at : ℕ) → Go (lists.list_run es at)
list_good [] h at d d' p = p
list_good (e ∷ es) h at d d' p = list_good es h.1 (at + 1) d _ (h.0.run at (lists.results_for (length es)) d d' p)

pub each_good : (es : List ExprCode) → AllGood es → (at : ℕ) → Go (lists.each_run es at)
each_good [] h at d d' p = p
each_good (e ∷ es) h at d d' p = each_good es h.1 (at + 1) d _ (h.0.run at 2 d d' p)

pub nils_good : (at n : ℕ) → Go (lists.nils at n)
nils_good at zero d d' p = p
nils_good at (suc n) d d' p = nils_good (at + 1) n d _ (put (item.Insn (i.LoadNil at)) d d' p)

pub last_good : (e : ExprCode) → Good e → (at n : ℕ) → Go (lists.last_run e at n)
last_good e h at n d d' p = which e.many
  where
    which : (z : Bool) → Keeps d (if z then e.run at (n + 1) d' else lists.nils (at + 1) (n - 1) (e.run at 2 d'))
    which true = h.run at (n + 1) d d' p
    which false = nils_good (at + 1) (n - 1) d _ (h.run at 2 d d' p)

pub exact_good : (es : List ExprCode) → AllGood es → (at n : ℕ) → Go (lists.exact_run es at n)
exact_good [] h at n d d' p = nils_good at n d d' p
exact_good (e ∷ []) h at n d d' p = last_good e h.0 at n d d' p
exact_good (e ∷ (e' ∷ es)) h at n d d' p = exact_good (e' ∷ es) h.1 (lists.behind at n) (n - 1) d _ (h.0.run at 2 d d' p)

-- ---- names
module _ (b : Bindings) where
  pub name_good : (x : Bound) (name : StrId) (to : ℕ) → Go (names.name_run b x name to)
  name_good (bound.Local k) name to d d' p = put _ d d' p
  name_good (bound.Up k) name to d d' p = put _ d d' p
  name_good bound.Global name to d d' p = put _ d (puts.with_text name d') (text_in name d d' p)

  pub assign_good : (x : Bound) (name : StrId) (from : ℕ) → Go (names.assign_run b x name from)
  assign_good (bound.Local k) name from d d' p = put _ d d' p
  assign_good (bound.Up k) name from d d' p = put _ d d' p
  assign_good bound.Global name from d d' p = put _ d (puts.with_text name d') (text_in name d d' p)

  pub assign_to_good : (t : Target) (from : ℕ) → Go (lists.assign_to b t from)
  assign_to_good NoTarget from d d' p = p
  assign_to_good (Named x name) from d d' p = assign_good x name from d d' p

  pub assigns_good : (ts : List ExprCode) (from : ℕ) → Go (lists.assign_all b ts from)
  assigns_good [] from d d' p = p
  assigns_good (t ∷ ts) from d d' p = assigns_good ts (from + 1) d _ (assign_to_good t.target from d d' p)

  pub close_good : (m : Mark) → Go (names.close_run b m)
  close_good m d d' p = which (names.any_captured b (drop m.variables d'.draft.variables))
    where
      which : (z : Bool) → Keeps d (if z then puts.insn (i.CloseUpvalues m.free) d' else d')
      which true = put _ d d' p
      which false = p

  pub capture_good : (k : ℕ) → Go (names.capture b k)
  capture_good k d d' p = which (names.register_in k d'.draft.variables)
    where
      which : (o : Option ℕ) → Keeps d (names.capture_of b k o d')
      which (Some r) = put _ d d' p
      which None = put _ d d' p

  pub captures_good : (ks : List ℕ) → Go (names.captures b ks)
  captures_good [] d d' p = p
  captures_good (k ∷ ks) d d' p = captures_good ks d _ (capture_good k d d' p)

-- ---- operands and jumps
pub operand_good : (o : Option ℕ) (run : Step) → Go run → Go (nodes.operand_code o run)
operand_good None run h d d' p = h d d' p
operand_good (Some k) run h d d' p = p

pub operand_run_good : (e : ExprCode) → Good e → (to : ℕ) → Go (nodes.operand_run e to)
operand_run_good e h to d d' p = operand_good e.own (e.run to 2) (h.run to 2) d d' p

pub jump_on_good : (o : Option ℕ) (run : (to results : ℕ) → Step) → ((to : ℕ) → Go (run to 2)) → (so : Bool) (to l : ℕ) → Go (nodes.jump_on o run so to l)
jump_on_good o run h so to l d d' p = put _ d (nodes.operand_code o (run to 2) d') (operand_good o (run to 2) (h to) d d' p)

pub single_good : (id : ℕ) (run : ℕ → Step) → ((to : ℕ) → Go (run to)) → Good (nodes.single id run)
single_good id run h = record { run = λ to results. h to; jump = jump_on_good None (λ to results. run to) h }

pub decided_good : (id : ℕ) (run : ℕ → Step) (jump : (so : Bool) → (to label : ℕ) → Step) → ((to : ℕ) → Go (run to)) → ((so : Bool) (to l : ℕ) → Go (jump so to l)) → Good (nodes.decided id run jump)
decided_good id run jump h g = record { run = λ to results. h to; jump = g }

pub many_good : (id : ℕ) (run : ℕ → ℕ → Step) → ((to results : ℕ) → Go (run to results)) → Good (nodes.many id run)
many_good id run h = record { run = h; jump = jump_on_good None run (λ to. h to 2) }

-- ---- constants
pub number_good : (n : ℤ) (to : ℕ) → Go (operators.number_run n to)
number_good n to d d' p = which (operators.is_small n)
  where
    which : (z : Bool) → Keeps d (if z then puts.insn (i.LoadN to n) d' else puts.insn (i.LoadK to (puts.short (puts.constant_place (constant.Num n) d'))) (puts.with_constant (constant.Num n) d'))
    which true = put _ d d' p
    which false = put _ d (puts.with_constant (constant.Num n) d') (constant_in (constant.Num n) d d' p)

pub text_good : (t : StrId) (to : ℕ) → Go (operators.text_run t to)
text_good t to d d' p = put _ d (puts.with_text t d') (text_in t d d' p)

-- ---- operators
pub operate_by_good : (o : Option ℤ) (x : BinOp) (to left : ℕ) (y : ExprCode) → Good y → (at : ℕ) → Go (conditions.operate_by o x to left y at)
operate_by_good None x to left y h at d d' p = put _ d (nodes.operand_run y at d') (operand_run_good y h at d d' p)
operate_by_good (Some n) x to left y h at d d' p = put _ d (puts.with_constant (constant.Num n) d') (constant_in (constant.Num n) d d' p)

pub operate_good : (x : BinOp) (to left : ℕ) (y : ExprCode) → Good y → (at : ℕ) → Go (conditions.operate_run x to left y at)
operate_good x to left y h at d d' p = operate_by_good (conditions.near_right y d') x to left y h at d d' p

pub arithmetic_by_good : (o : Option ℤ) (z : BinOp) (x y : ExprCode) → Good x → Good y → (to : ℕ) → Go (conditions.arithmetic_by o z x y to)
arithmetic_by_good None z x y hx hy to d d' p =
    operate_good z to (nodes.operand_at x to d') y hy (to + 1) d (nodes.operand_run x to d') (operand_run_good x hx to d d' p)
arithmetic_by_good (Some n) z x y hx hy to d d' p =
    let with_it = puts.with_constant (constant.Num n) d' in
    put _ d (nodes.operand_run y to with_it) (operand_run_good y hy to d with_it (constant_in (constant.Num n) d d' p))

pub arithmetic_good : (z : BinOp) (x y : ExprCode) → Good x → Good y → (to : ℕ) → Go (conditions.arithmetic_run z x y to)
arithmetic_good z x y hx hy to d d' p = arithmetic_by_good (conditions.left_number z x d') z x y hx hy to d d' p

pub compare_good : (z : BinOp) (x y : ExprCode) → Good x → Good y → (so : Bool) (to l : ℕ) → Go (conditions.compare_jump z x y so to l)
compare_good z x y hx hy so to l d d' p =
    let first = nodes.operand_run x to d' in
    put _ d (nodes.operand_run y (to + 1) first) (operand_run_good y hy (to + 1) d first (operand_run_good x hx to d d' p))

pub comparison_good : (z : BinOp) (x y : ExprCode) → Good x → Good y → (id : ℕ) → Good (nodes.decided id (conditions.compare_run z x y id) (conditions.compare_jump z x y))
comparison_good z x y hx hy id = decided_good id _ _ (λ to d d' p. put _ d _ (put _ d _ (put _ d _ (compare_good z x y hx hy true to (label id 0) d d' p)))) (compare_good z x y hx hy)

pub and_good : (x y : ExprCode) → Good x → Good y → (id : ℕ) → Good (conditions.binary_code op.And x y id)
and_good x y hx hy id = decided_good id _ _ (λ to d d' p. put _ d _ (hy.run to 2 d _ (put _ d _ (hx.run to 2 d d' p)))) jump
  where
    jump : (so : Bool) (to l : ℕ) → Go (conditions.and_jump x y id so to l)
    jump true to l d d' p = put _ d _ (hy.jump true to l d _ (hx.jump false to (label id 0) d d' p))
    jump false to l d d' p = hy.jump false to l d _ (hx.jump false to l d d' p)

pub or_good : (x y : ExprCode) → Good x → Good y → (id : ℕ) → Good (conditions.binary_code op.Or x y id)
or_good x y hx hy id = decided_good id _ _ (λ to d d' p. put _ d _ (hy.run to 2 d _ (put _ d _ (hx.run to 2 d d' p)))) jump
  where
    jump : (so : Bool) (to l : ℕ) → Go (conditions.or_jump x y id so to l)
    jump true to l d d' p = hy.jump true to l d _ (hx.jump true to l d d' p)
    jump false to l d d' p = put _ d _ (hy.jump false to l d _ (hx.jump true to (label id 0) d d' p))

pub binary_good : (z : BinOp) (x y : ExprCode) → Good x → Good y → (id : ℕ) → Good (conditions.binary_code z x y id)
binary_good op.And x y hx hy id = and_good x y hx hy id
binary_good op.Or x y hx hy id = or_good x y hx hy id
binary_good op.Lt x y hx hy id = comparison_good op.Lt x y hx hy id
binary_good op.Gt x y hx hy id = comparison_good op.Gt x y hx hy id
binary_good op.Le x y hx hy id = comparison_good op.Le x y hx hy id
binary_good op.Ge x y hx hy id = comparison_good op.Ge x y hx hy id
binary_good op.Ne x y hx hy id = comparison_good op.Ne x y hx hy id
binary_good op.Eq x y hx hy id = comparison_good op.Eq x y hx hy id
binary_good op.Concat x y hx hy id = single_good id _ (arithmetic_good op.Concat x y hx hy)
binary_good op.Add x y hx hy id = single_good id _ (arithmetic_good op.Add x y hx hy)
binary_good op.Sub x y hx hy id = single_good id _ (arithmetic_good op.Sub x y hx hy)
binary_good op.Mul x y hx hy id = single_good id _ (arithmetic_good op.Mul x y hx hy)
binary_good op.Div x y hx hy id = single_good id _ (arithmetic_good op.Div x y hx hy)
binary_good op.Idiv x y hx hy id = single_good id _ (arithmetic_good op.Idiv x y hx hy)
binary_good op.Mod x y hx hy id = single_good id _ (arithmetic_good op.Mod x y hx hy)
binary_good op.Pow x y hx hy id = single_good id _ (arithmetic_good op.Pow x y hx hy)

pub unary_good : (z : UnOp) (x : ExprCode) → Good x → (to : ℕ) → Go (conditions.unary_run z x to)
unary_good z x h to d d' p = put _ d (nodes.operand_run x to d') (operand_run_good x h to d d' p)

pub unary_code_good : (z : UnOp) (x : ExprCode) → Good x → (id : ℕ) → Good (conditions.unary_code z x id)
unary_code_good unary.Not x h id = decided_good id _ _ (unary_good unary.Not x h) (λ so. h.jump (not so))
unary_code_good unary.Len x h id = single_good id _ (unary_good unary.Len x h)
unary_code_good unary.Minus x h id = single_good id _ (unary_good unary.Minus x h)

pub choices_good : (l : List ChoiceCode) → AllGoodChoices l → (id to : ℕ) → Go (conditions.choices_run l id to)
choices_good [] h id to d d' p = p
choices_good (a ∷ l) h id to d d' p =
    choices_good l h.1 id to d _ (put _ d _ (put _ d _ (h.0.1.run to 2 d _ (h.0.0.jump false to (label a.cond.id 1) d d' p))))

pub named_good : (b : Bindings) (x : Bound) (name : StrId) (id : ℕ) → Good (code.named b x name id)
named_good b x name id = record { run = λ to results. name_good b x name to; jump = jump_on_good (names.own_of b x) (λ to results. names.name_run b x name to) (name_good b x name) }

-- ---- functions
module _ (b : Bindings) where
  pub func_good : (id params : ℕ) (vararg : Bool) (body : List StatCode) (to : ℕ) → Go (code.func_run b id params vararg body to)
  unfolding with_draft with_child with_prototype
  func_good id params vararg body to d d' p =
      let inside : Emitter = names.declare_all (names.first_at b id) 0 params (code.prepared vararg params (puts.with_draft (puts.blank id) d')) in
      let done : Emitter = puts.insn (i.Return 0 1) (code.stats_run body params code.no_loop inside) in
      let outer : Emitter = puts.with_draft d'.draft done in
      let closure : Emitter = puts.insn (i.NewClosure to (puts.short (length d'.draft.children))) outer in
      captures_good b (names.upvalues_at b done.draft.func) d (puts.with_child (length done.protos) closure) (put _ d outer p)

-- ---- the tree
module _ (b : Bindings) where
  abbrev pub kind_fold : ExprKind → ℕ → ExprCode
  kind_fold = let s = code.steps b in folds.fold-ExprKind (ℕ → ExprCode) (Unit {0}) (ℕ → StatCode) ArmCode ExprCode ChoiceCode (Unit {0}) FuncCode StatCode s.kind s.field_kind s.stat_kind s.arm s.expr s.expr_arm s.field s.func s.stat

  abbrev pub stat_kind_fold : StatKind → ℕ → StatCode
  stat_kind_fold = let s = code.steps b in folds.fold-StatKind (ℕ → ExprCode) (Unit {0}) (ℕ → StatCode) ArmCode ExprCode ChoiceCode (Unit {0}) FuncCode StatCode s.kind s.field_kind s.stat_kind s.arm s.expr s.expr_arm s.field s.func s.stat

  abbrev pub kind_ok : ExprKind → Type 0
  kind_ok k = (id : ℕ) → Good (kind_fold k id)

  abbrev pub stat_kind_ok : StatKind → Type 0
  stat_kind_ok k = Unit {0}

  abbrev pub arm_ok : Arm → Type 0
  arm_ok a = Unit {0}

  abbrev pub expr_ok : Expr → Type 0
  expr_ok e = Good (code.expr_code b e)

  abbrev pub choice_ok : ExprArm → Type 0
  choice_ok a = Good (code.choice_code b a).cond × Good (code.choice_code b a).value

  abbrev pub func_ok : FuncBody → Type 0
  func_ok f = (to : ℕ) → Go (code.func_code b f to)

  abbrev pub stat_ok : Stat → Type 0
  stat_ok s = Unit {0}

  pub all_exprs : (es : List (With expr_ok)) → AllGood (map (code.expr_code b) (map (λ z. z.0) es))
  all_exprs [] = tt
  all_exprs (e ∷ es) = (e.1, all_exprs es)

  pub all_choices : (l : List (With choice_ok)) → AllGoodChoices (map (code.choice_code b) (map (λ z. z.0) l))
  all_choices [] = tt
  all_choices (a ∷ l) = (a.1, all_choices l)

  abbrev pub kind_with : Type 0
  kind_with = induction.kind_with kind_ok (λ _. Unit {0}) stat_kind_ok arm_ok expr_ok choice_ok (λ _. Unit {0}) func_ok stat_ok

  -- a level with the codes of its parts
  abbrev pub kind_codes : kind_with → code.Kind
  kind_codes y = folds.map-ExprKind ExprKind FieldKind StatKind Arm Expr ExprArm Field FuncBody Stat (ℕ → ExprCode) (Unit {0}) (ℕ → StatCode) ArmCode ExprCode ChoiceCode (Unit {0}) FuncCode StatCode kind_fold (λ _. tt) stat_kind_fold (code.arm_code b) (code.expr_code b) (code.choice_code b) (λ _. tt) (code.func_code b) (code.stat_code b) (induction.kind_parts kind_ok (λ _. Unit {0}) stat_kind_ok arm_ok expr_ok choice_ok (λ _. Unit {0}) func_ok stat_ok y)

  pub kind_good : (y : kind_with) (id : ℕ) → Good (code.kind_code b (kind_codes y) id)
  kind_good level.Nil id = single_good id _ (λ to d d' p. put _ d d' p)
  kind_good level.True id = single_good id _ (λ to d d' p. put _ d d' p)
  kind_good level.False id = single_good id _ (λ to d d' p. put _ d d' p)
  kind_good (level.Num n) id = record { run = λ to results. number_good n to; jump = jump_on_good None (λ to results. operators.number_run n to) (number_good n) }
  kind_good (level.Str t) id = single_good id _ (text_good t)
  kind_good level.Vararg id = many_good id _ (λ to results d d' p. put _ d d' p)
  kind_good (level.Name x) id = named_good b (names.bound_at b id) x id
  kind_good (level.Paren e) id = record { run = λ to results. e.1.run to 2; jump = e.1.jump }
  kind_good (level.Unary z e) id = unary_code_good z (code.expr_code b e.0) e.1 id
  kind_good (level.Binary z x y) id = binary_good z (code.expr_code b x.0) (code.expr_code b y.0) x.1 y.1 id
  kind_good (level.Concat es) id =
      single_good id _ (λ to d d' p. put _ d _ (each_good (map (code.expr_code b) (map (λ z. z.0) es)) (all_exprs es) to d d' p))
  kind_good (level.ExprKind::Call f es) id =
      many_good id _ (λ to results d d' p. put _ d _ (list_good (map (code.expr_code b) (map (λ z. z.0) es)) (all_exprs es) (to + 1) d _ (f.1.run to 2 d d' p)))
  kind_good (level.Function f) id = single_good id _ f.1
  kind_good (level.ExprKind::If l e) id =
      single_good id _ (λ to d d' p. put _ d _ (e.1.run to 2 d _ (choices_good (map (code.choice_code b) (map (λ z. z.0) l)) (all_choices l) id to d d' p)))
  kind_good (level.Index x y) id = single_good id _ (λ to d d' p. p)
  kind_good (level.Member x t) id = single_good id _ (λ to d d' p. p)
  kind_good (level.Method o t es) id = single_good id _ (λ to d d' p. p)
  kind_good (level.Table l) id = single_good id _ (λ to d d' p. p)
  kind_good (level.Interp l es) id = single_good id _ (λ to d d' p. p)

  pub kind_step : (y : kind_with) → kind_ok (induction.kind_of kind_ok (λ _. Unit {0}) stat_kind_ok arm_ok expr_ok choice_ok (λ _. Unit {0}) func_ok stat_ok y)
  kind_step y id =
      let s = code.steps b in
      let is = folds.fold-roll-ExprKind (ℕ → ExprCode) (Unit {0}) (ℕ → StatCode) ArmCode ExprCode ChoiceCode (Unit {0}) FuncCode StatCode s.kind s.field_kind s.stat_kind s.arm s.expr s.expr_arm s.field s.func s.stat (induction.kind_parts kind_ok (λ _. Unit {0}) stat_kind_ok arm_ok expr_ok choice_ok (λ _. Unit {0}) func_ok stat_ok y) in
      subst (λ (k : ℕ → ExprCode). Good (k id)) (sym is) (kind_good y id)

  pub expr_step : (y : induction.expr_with kind_ok (λ _. Unit {0}) stat_kind_ok arm_ok expr_ok choice_ok (λ _. Unit {0}) func_ok stat_ok) → expr_ok (induction.expr_of kind_ok (λ _. Unit {0}) stat_kind_ok arm_ok expr_ok choice_ok (λ _. Unit {0}) func_ok stat_ok y)
  expr_step y =
      let s = code.steps b in
      let is = folds.fold-roll-Expr (ℕ → ExprCode) (Unit {0}) (ℕ → StatCode) ArmCode ExprCode ChoiceCode (Unit {0}) FuncCode StatCode s.kind s.field_kind s.stat_kind s.arm s.expr s.expr_arm s.field s.func s.stat (induction.expr_parts kind_ok (λ _. Unit {0}) stat_kind_ok arm_ok expr_ok choice_ok (λ _. Unit {0}) func_ok stat_ok y) in
      let kind = y.kind.1 y.id in
      subst (λ (e : ExprCode). Good e) (sym is) (record { run = kind.run; jump = kind.jump })

  pub choice_step : (y : induction.expr_arm_with kind_ok (λ _. Unit {0}) stat_kind_ok arm_ok expr_ok choice_ok (λ _. Unit {0}) func_ok stat_ok) → choice_ok (induction.expr_arm_of kind_ok (λ _. Unit {0}) stat_kind_ok arm_ok expr_ok choice_ok (λ _. Unit {0}) func_ok stat_ok y)
  choice_step y =
      let s = code.steps b in
      let is = folds.fold-roll-ExprArm (ℕ → ExprCode) (Unit {0}) (ℕ → StatCode) ArmCode ExprCode ChoiceCode (Unit {0}) FuncCode StatCode s.kind s.field_kind s.stat_kind s.arm s.expr s.expr_arm s.field s.func s.stat (induction.expr_arm_parts kind_ok (λ _. Unit {0}) stat_kind_ok arm_ok expr_ok choice_ok (λ _. Unit {0}) func_ok stat_ok y) in
      subst (λ (a : ChoiceCode). Good a.cond × Good a.value) (sym is) (y.cond.1, y.value.1)

  pub func_step : (y : induction.func_with kind_ok (λ _. Unit {0}) stat_kind_ok arm_ok expr_ok choice_ok (λ _. Unit {0}) func_ok stat_ok) → func_ok (induction.func_of kind_ok (λ _. Unit {0}) stat_kind_ok arm_ok expr_ok choice_ok (λ _. Unit {0}) func_ok stat_ok y)
  func_step y =
      let s = code.steps b in
      let is = folds.fold-roll-FuncBody (ℕ → ExprCode) (Unit {0}) (ℕ → StatCode) ArmCode ExprCode ChoiceCode (Unit {0}) FuncCode StatCode s.kind s.field_kind s.stat_kind s.arm s.expr s.expr_arm s.field s.func s.stat (induction.func_parts kind_ok (λ _. Unit {0}) stat_kind_ok arm_ok expr_ok choice_ok (λ _. Unit {0}) func_ok stat_ok y) in
      subst (λ (f : FuncCode). (to : ℕ) → Go (f to)) (sym is) (func_good b y.id (length y.params) y.vararg (map (code.stat_code b) (map (λ z. z.0) y.body)))

  pub steps_good : induction.Steps kind_ok (λ _. Unit {0}) stat_kind_ok arm_ok expr_ok choice_ok (λ _. Unit {0}) func_ok stat_ok
  steps_good =
      record { kind = kind_step; field_kind = λ _. tt; stat_kind = λ _. tt; arm = λ _. tt; expr = expr_step; expr_arm = choice_step; field = λ _. tt; func = func_step; stat = λ _. tt }

pub expr_is_good : (b : Bindings) (e : Expr) → Good (code.expr_code b e)
expr_is_good b = induction.all_expr (kind_ok b) (λ _. Unit {0}) (stat_kind_ok b) (arm_ok b) (expr_ok b) (choice_ok b) (λ _. Unit {0}) (func_ok b) (stat_ok b) (steps_good b)

pub func_is_good : (b : Bindings) (f : FuncBody) (to : ℕ) → Go (code.func_code b f to)
func_is_good b = induction.all_func (kind_ok b) (λ _. Unit {0}) (stat_kind_ok b) (arm_ok b) (expr_ok b) (choice_ok b) (λ _. Unit {0}) (func_ok b) (stat_ok b) (steps_good b)

pub exprs_are_good : (b : Bindings) (es : List Expr) → AllGood (map (code.expr_code b) es)
exprs_are_good b [] = tt
exprs_are_good b (e ∷ es) = (expr_is_good b e, exprs_are_good b es)
