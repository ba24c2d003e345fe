-- The code of each node goes behind what was there: by induction over the tree.
use Rattle.std.proofs.Common.{◌≡◌, ℕ, ℤ, zero, suc, ◌+◌, ◌-◌, Bool, true, false, not, nat_eq, if◌then◌else◌, List, [], ◌∷◌, ◌++◌, length, take, drop, map, Option, Some, None, refl, sym, ap, ◌∙◌, subst, append_assoc}
use Rattle.std.specs.Prelude.{pos}
use Rattle.std.proofs.lemmas.List.{append-nil}
use Rattle.byte_text.specs.declared.fixed.StrId.{StrId}
use Rattle.op_words.specs.declared.chunk.Const.{Const}
use Rattle.op_words.specs.declared.chunk.Const.TheVariants as constant
use Rattle.op_words.specs.declared.insn.Insn.TheVariants as i
use Rattle.code_link.specs.declared.item.Item.{Item}
use Rattle.code_link.specs.declared.item.Item.TheVariants as item
use Rattle.syntax_tree.specs.declared.bindings.Bindings.{Bindings}
use Rattle.syntax_tree.specs.declared.bindings.Bound.{Bound}
use Rattle.syntax_tree.specs.declared.bindings.Bound.TheVariants as bound
use Rattle.syntax_tree.specs.declared.tree.BinOp.{BinOp}
use Rattle.syntax_tree.specs.declared.tree.BinOp.TheVariants as op
use Rattle.syntax_tree.specs.declared.tree.UnOp.{UnOp}
use Rattle.syntax_tree.specs.declared.tree.UnOp.TheVariants as unary
use Rattle.syntax_tree.specs.declared.tree.ExprKind.{ExprKind}
use Rattle.syntax_tree.specs.declared.tree.FieldKind.{FieldKind}
use Rattle.syntax_tree.specs.declared.tree.StatKind.{StatKind}
use Rattle.syntax_tree.specs.declared.tree.Arm.{Arm}
use Rattle.syntax_tree.specs.declared.tree.Expr.{Expr}
use Rattle.syntax_tree.specs.declared.tree.ExprArm.{ExprArm}
use Rattle.syntax_tree.specs.declared.tree.Field.{Field}
use Rattle.syntax_tree.specs.declared.tree.FuncBody.{FuncBody}
use Rattle.syntax_tree.specs.declared.tree.Stat.{Stat}
use Rattle.syntax_tree.specs.declared.tree.ExprKind.TheOpen as level
use Rattle.syntax_tree.specs.declared.tree.ExprKind.TheFolds as folds
use Rattle.emit_expr.specs.declared.draft.Emitter.{Emitter}
use Rattle.emit_expr.specs.declared.draft.Loop.{Loop}
use Rattle.emit_expr.specs.declared.draft.Mark.{Mark}
use Rattle.emit_expr.specs.Puts as puts
use Rattle.emit_expr.specs.Puts.{Step, label, mark_at, with_constant, with_string, declare, forget, with_draft, with_prototype, with_child}
use Rattle.emit_expr.specs.Puts.{put as put_item}
use Rattle.emit_expr.specs.Names as names
use Rattle.emit_expr.specs.Operators as operators
use Rattle.node_code.specs.Nodes as nodes
use Rattle.node_code.specs.Nodes.{ExprCode, StatCode, ArmCode, ChoiceCode, FuncCode, Target, NoTarget, Named}
use Rattle.node_code.specs.Lists as lists
use Rattle.node_code.specs.Conditions as conditions
use Rattle.node_code.specs.Code as code
use Rattle.emit_laws.specs.Growing.{Prefix, Grows, CodeGrows}
use Rattle.emit_laws.specs.Induction as induction
use Rattle.emit_laws.specs.Induction.{With}

-- ---- steps
pub same : {A : Type 0} (xs : List A) → Prefix xs xs
same xs = record { more = []; is = sym (append-nil xs) }

pub longer : {A : Type 0} (xs ys zs : List A) → Prefix xs ys → Prefix ys zs → Prefix xs zs
longer xs ys zs p q = record { more = p.more ++ q.more; is = q.is ∙ ap (λ l. l ++ q.more) p.is ∙ append_assoc xs p.more q.more }

pub behind : {A : Type 0} (xs more : List A) → Prefix xs (xs ++ more)
behind xs more = record { more = more; is = refl }

pub added : {A : Type 0} (k : A) (place : ℕ) (xs : List A) → Prefix xs (puts.added k place xs)
added k place xs = which (nat_eq place (length xs))
  where
    which : (z : Bool) → Prefix xs (if z then xs ++ k ∷ [] else xs)
    which true = behind xs (k ∷ [])
    which false = same xs

pub take_front : {A : Type 0} (xs ys : List A) → take (length xs) (xs ++ ys) ≡ xs
take_front [] [] = refl
take_front [] (y ∷ ys) = refl
take_front (x ∷ xs) ys = ap (λ l. x ∷ l) (take_front xs ys)

pub none : (d : Emitter) → Grows d d
none d = record { func = refl; items = same d.draft.items; constants = same d.draft.constants; variables = same d.draft.variables; children = same d.draft.children; protos = same d.protos; strings = same d.strings }

pub after : (d1 d2 d3 : Emitter) → Grows d1 d2 → Grows d2 d3 → Grows d1 d3
after d1 d2 d3 p q = record {
  func = q.func ∙ p.func;
  items = longer d1.draft.items d2.draft.items d3.draft.items p.items q.items;
  constants = longer d1.draft.constants d2.draft.constants d3.draft.constants p.constants q.constants;
  variables = longer d1.draft.variables d2.draft.variables d3.draft.variables p.variables q.variables;
  children = longer d1.draft.children d2.draft.children d3.draft.children p.children q.children;
  protos = longer d1.protos d2.protos d3.protos p.protos q.protos;
  strings = longer d1.strings d2.strings d3.strings p.strings q.strings;
}

pub put : (x : Item) (d d' : Emitter) → Grows d d' → Grows d (puts.put x d')
unfolding put_item
put x d d' p = after d d' (puts.put x d') p (record { func = refl; items = behind d'.draft.items (x ∷ []); constants = same d'.draft.constants; variables = same d'.draft.variables; children = same d'.draft.children; protos = same d'.protos; strings = same d'.strings })

pub constant_in : (k : Const) (d d' : Emitter) → Grows d d' → Grows d (puts.with_constant k d')
unfolding with_constant
constant_in k d d' p = after d d' (puts.with_constant k d') p (record { func = refl; items = same d'.draft.items; constants = added k (puts.constant_place k d') d'.draft.constants; variables = same d'.draft.variables; children = same d'.draft.children; protos = same d'.protos; strings = same d'.strings })

pub string_in : (t : StrId) (d d' : Emitter) → Grows d d' → Grows d (puts.with_string t d')
unfolding with_string
string_in t d d' p = after d d' (puts.with_string t d') p (record { func = refl; items = same d'.draft.items; constants = same d'.draft.constants; variables = same d'.draft.variables; children = same d'.draft.children; protos = same d'.protos; strings = added t (puts.place_of_text t d'.strings) d'.strings })

pub text_in : (t : StrId) (d d' : Emitter) → Grows d d' → Grows d (puts.with_text t d')
text_in t d d' p = constant_in (puts.text_constant t d') d (puts.with_string t d') (string_in t d d' p)

pub declared : (number register : ℕ) (d d' : Emitter) → Grows d d' → Grows d (puts.declare number register d')
unfolding declare
declared number register d d' p = after d d' (puts.declare number register d') p (record { func = refl; items = same d'.draft.items; constants = same d'.draft.constants; variables = behind d'.draft.variables (record { number = number; register = register } ∷ []); children = same d'.draft.children; protos = same d'.protos; strings = same d'.strings })

pub all_declared : (number register n : ℕ) (d d' : Emitter) → Grows d d' → Grows d (names.declare_all number register n d')
all_declared number register zero d d' p = p
all_declared number register (suc n) d d' p = all_declared (names.next_number number) (register + 1) n d _ (declared number register d d' p)

-- ---- what is known of the parts
abbrev pub Go : Step → Type 0
Go f = (d d' : Emitter) → Grows d d' → Grows d (f d')

pub record Good (c : ExprCode) : Type 0 where
  pub run : (to results : ℕ) → Go (c.run to results)
  pub jump : (so : Bool) (to label : ℕ) → Go (c.jump so to label)

abbrev pub GoodStat : StatCode → Type 0
GoodStat s = (free : ℕ) (l : Loop) → Go (s.run free l)

abbrev pub AllGood : List ExprCode → Type 0
AllGood [] = Unit {0}
AllGood (e ∷ es) = Good e × AllGood es

abbrev pub AllGoodStats : List StatCode → Type 0
AllGoodStats [] = Unit {0}
AllGoodStats (e ∷ es) = GoodStat e × AllGoodStats es

abbrev pub AllGoodArms : List ArmCode → Type 0
AllGoodArms [] = Unit {0}
AllGoodArms (a ∷ l) = (Good a.cond × AllGoodStats a.body) × AllGoodArms l

abbrev pub AllGoodChoices : List ChoiceCode → Type 0
AllGoodChoices [] = Unit {0}
AllGoodChoices (a ∷ l) = (Good a.cond × Good a.value) × AllGoodChoices l

-- ---- lists
pub list_good : (es : List ExprCode) → AllGood es → (at : ℕ) → Go (lists.list_run es at)
list_good [] h at d d' p = p
list_good (e ∷ es) h at d d' p = list_good es h.1 (at + 1) d _ (h.0.run at (lists.results_for (length es)) d d' p)

pub each_good : (es : List ExprCode) → AllGood es → (at : ℕ) → Go (lists.each_run es at)
each_good [] h at d d' p = p
each_good (e ∷ es) h at d d' p = each_good es h.1 (at + 1) d _ (h.0.run at 2 d d' p)

pub nils_good : (at n : ℕ) → Go (lists.nils at n)
nils_good at zero d d' p = p
nils_good at (suc n) d d' p = nils_good (at + 1) n d _ (put (item.Insn (i.LoadNil at)) d d' p)

pub last_good : (e : ExprCode) → Good e → (at n : ℕ) → Go (lists.last_run e at n)
last_good e h at n d d' p = which e.many
  where
    which : (z : Bool) → Grows d (if z then e.run at (n + 1) d' else lists.nils (at + 1) (n - 1) (e.run at 2 d'))
    which true = h.run at (n + 1) d d' p
    which false = nils_good (at + 1) (n - 1) d _ (h.run at 2 d d' p)

pub exact_good : (es : List ExprCode) → AllGood es → (at n : ℕ) → Go (lists.exact_run es at n)
exact_good [] h at n d d' p = nils_good at n d d' p
exact_good (e ∷ []) h at n d d' p = last_good e h.0 at n d d' p
exact_good (e ∷ (e' ∷ es)) h at n d d' p = exact_good (e' ∷ es) h.1 (lists.behind at n) (n - 1) d _ (h.0.run at 2 d d' p)

-- ---- names
module _ (b : Bindings) where
  pub name_good : (x : Bound) (name : StrId) (to : ℕ) → Go (names.name_run b x name to)
  name_good (bound.Local k) name to d d' p = put _ d d' p
  name_good (bound.Up k) name to d d' p = put _ d d' p
  name_good bound.Global name to d d' p = put _ d (puts.with_text name d') (text_in name d d' p)

  pub assign_good : (x : Bound) (name : StrId) (from : ℕ) → Go (names.assign_run b x name from)
  assign_good (bound.Local k) name from d d' p = put _ d d' p
  assign_good (bound.Up k) name from d d' p = put _ d d' p
  assign_good bound.Global name from d d' p = put _ d (puts.with_text name d') (text_in name d d' p)

  pub assign_to_good : (t : Target) (from : ℕ) → Go (lists.assign_to b t from)
  assign_to_good NoTarget from d d' p = p
  assign_to_good (Named x name) from d d' p = assign_good x name from d d' p

  pub assigns_good : (ts : List ExprCode) (from : ℕ) → Go (lists.assign_all b ts from)
  assigns_good [] from d d' p = p
  assigns_good (t ∷ ts) from d d' p = assigns_good ts (from + 1) d _ (assign_to_good t.target from d d' p)

  pub close_good : (m : Mark) → Go (names.close_run b m)
  close_good m d d' p = which (names.any_captured b (drop m.variables d'.draft.variables))
    where
      which : (z : Bool) → Grows d (if z then puts.insn (i.CloseUpvalues m.free) d' else d')
      which true = put _ d d' p
      which false = p

  -- a scope that is ended leaves the variables that were there when it began
  pub ended_good : (free : ℕ) (d d' : Emitter) → Grows d d' → Grows d (names.ended b (mark_at free d) d')
  unfolding forget
  ended_good free d d' p =
      let m = mark_at free d in
      let q : Grows d (names.close_run b m d') = close_good m d d' p in
      let n = length d.draft.variables in
      let kept : Prefix d.draft.variables (take n (names.close_run b m d').draft.variables) = record { more = []; is = ap (take n) q.variables.is ∙ take_front d.draft.variables q.variables.more ∙ sym (append-nil d.draft.variables) } in
      record { func = q.func; items = q.items; constants = q.constants; variables = kept; children = q.children; protos = q.protos; strings = q.strings }

  pub capture_good : (k : ℕ) → Go (names.capture b k)
  capture_good k d d' p = which (names.register_in k d'.draft.variables)
    where
      which : (o : Option ℕ) → Grows d (names.capture_of b k o d')
      which (Some r) = put _ d d' p
      which None = put _ d d' p

  pub captures_good : (ks : List ℕ) → Go (names.captures b ks)
  captures_good [] d d' p = p
  captures_good (k ∷ ks) d d' p = captures_good ks d _ (capture_good k d d' p)

-- ---- operands and jumps
pub operand_good : (o : Option ℕ) (run : Step) → Go run → Go (nodes.operand_code o run)
operand_good None run h d d' p = h d d' p
operand_good (Some k) run h d d' p = p

pub operand_run_good : (e : ExprCode) → Good e → (to : ℕ) → Go (nodes.operand_run e to)
operand_run_good e h to d d' p = operand_good e.own (e.run to 2) (h.run to 2) d d' p

pub jump_on_good : (o : Option ℕ) (run : (to results : ℕ) → Step) → ((to : ℕ) → Go (run to 2)) → (so : Bool) (to l : ℕ) → Go (nodes.jump_on o run so to l)
jump_on_good o run h so to l d d' p = put _ d (nodes.operand_code o (run to 2) d') (operand_good o (run to 2) (h to) d d' p)

pub single_good : (id : ℕ) (run : ℕ → Step) → ((to : ℕ) → Go (run to)) → Good (nodes.single id run)
single_good id run h = record { run = λ to results. h to; jump = jump_on_good None (λ to results. run to) h }

pub decided_good : (id : ℕ) (run : ℕ → Step) (jump : (so : Bool) → (to label : ℕ) → Step) → ((to : ℕ) → Go (run to)) → ((so : Bool) (to l : ℕ) → Go (jump so to l)) → Good (nodes.decided id run jump)
decided_good id run jump h g = record { run = λ to results. h to; jump = g }

pub many_good : (id : ℕ) (run : ℕ → ℕ → Step) → ((to results : ℕ) → Go (run to results)) → Good (nodes.many id run)
many_good id run h = record { run = h; jump = jump_on_good None run (λ to. h to 2) }

-- ---- constants
pub number_good : (n : ℤ) (to : ℕ) → Go (operators.number_run n to)
number_good n to d d' p = which (operators.is_small n)
  where
    which : (z : Bool) → Grows d (if z then puts.insn (i.LoadN to n) d' else puts.insn (i.LoadK to (puts.short (puts.constant_place (constant.Num n) d'))) (puts.with_constant (constant.Num n) d'))
    which true = put _ d d' p
    which false = put _ d (puts.with_constant (constant.Num n) d') (constant_in (constant.Num n) d d' p)

pub text_good : (t : StrId) (to : ℕ) → Go (operators.text_run t to)
text_good t to d d' p = put _ d (puts.with_text t d') (text_in t d d' p)

-- ---- operators
pub operate_by_good : (o : Option ℤ) (x : BinOp) (to left : ℕ) (y : ExprCode) → Good y → (at : ℕ) → Go (conditions.operate_by o x to left y at)
operate_by_good None x to left y h at d d' p = put _ d (nodes.operand_run y at d') (operand_run_good y h at d d' p)
operate_by_good (Some n) x to left y h at d d' p = put _ d (puts.with_constant (constant.Num n) d') (constant_in (constant.Num n) d d' p)

pub operate_good : (x : BinOp) (to left : ℕ) (y : ExprCode) → Good y → (at : ℕ) → Go (conditions.operate_run x to left y at)
operate_good x to left y h at d d' p = operate_by_good (conditions.near_right y d') x to left y h at d d' p

pub arithmetic_by_good : (o : Option ℤ) (z : BinOp) (x y : ExprCode) → Good x → Good y → (to : ℕ) → Go (conditions.arithmetic_by o z x y to)
arithmetic_by_good None z x y hx hy to d d' p =
    operate_good z to (nodes.operand_at x to d') y hy (to + 1) d (nodes.operand_run x to d') (operand_run_good x hx to d d' p)
arithmetic_by_good (Some n) z x y hx hy to d d' p =
    let with_it = puts.with_constant (constant.Num n) d' in
    put _ d (nodes.operand_run y to with_it) (operand_run_good y hy to d with_it (constant_in (constant.Num n) d d' p))

pub arithmetic_good : (z : BinOp) (x y : ExprCode) → Good x → Good y → (to : ℕ) → Go (conditions.arithmetic_run z x y to)
arithmetic_good z x y hx hy to d d' p = arithmetic_by_good (conditions.left_number z x d') z x y hx hy to d d' p

pub compare_good : (z : BinOp) (x y : ExprCode) → Good x → Good y → (so : Bool) (to l : ℕ) → Go (conditions.compare_jump z x y so to l)
compare_good z x y hx hy so to l d d' p =
    let first = nodes.operand_run x to d' in
    put _ d (nodes.operand_run y (to + 1) first) (operand_run_good y hy (to + 1) d first (operand_run_good x hx to d d' p))

pub comparison_good : (z : BinOp) (x y : ExprCode) → Good x → Good y → (id : ℕ) → Good (nodes.decided id (conditions.compare_run z x y id) (conditions.compare_jump z x y))
comparison_good z x y hx hy id = decided_good id _ _ (λ to d d' p. put _ d _ (put _ d _ (put _ d _ (compare_good z x y hx hy true to (label id 0) d d' p)))) (compare_good z x y hx hy)

pub and_good : (x y : ExprCode) → Good x → Good y → (id : ℕ) → Good (conditions.binary_code op.And x y id)
and_good x y hx hy id = decided_good id _ _ (λ to d d' p. put _ d _ (hy.run to 2 d _ (put _ d _ (hx.run to 2 d d' p)))) jump
  where
    jump : (so : Bool) (to l : ℕ) → Go (conditions.and_jump x y id so to l)
    jump true to l d d' p = put _ d _ (hy.jump true to l d _ (hx.jump false to (label id 0) d d' p))
    jump false to l d d' p = hy.jump false to l d _ (hx.jump false to l d d' p)

pub or_good : (x y : ExprCode) → Good x → Good y → (id : ℕ) → Good (conditions.binary_code op.Or x y id)
or_good x y hx hy id = decided_good id _ _ (λ to d d' p. put _ d _ (hy.run to 2 d _ (put _ d _ (hx.run to 2 d d' p)))) jump
  where
    jump : (so : Bool) (to l : ℕ) → Go (conditions.or_jump x y id so to l)
    jump true to l d d' p = hy.jump true to l d _ (hx.jump true to l d d' p)
    jump false to l d d' p = put _ d _ (hy.jump false to l d _ (hx.jump true to (label id 0) d d' p))

pub binary_good : (z : BinOp) (x y : ExprCode) → Good x → Good y → (id : ℕ) → Good (conditions.binary_code z x y id)
binary_good op.And x y hx hy id = and_good x y hx hy id
binary_good op.Or x y hx hy id = or_good x y hx hy id
binary_good op.Lt x y hx hy id = comparison_good op.Lt x y hx hy id
binary_good op.Gt x y hx hy id = comparison_good op.Gt x y hx hy id
binary_good op.Le x y hx hy id = comparison_good op.Le x y hx hy id
binary_good op.Ge x y hx hy id = comparison_good op.Ge x y hx hy id
binary_good op.Ne x y hx hy id = comparison_good op.Ne x y hx hy id
binary_good op.Eq x y hx hy id = comparison_good op.Eq x y hx hy id
binary_good op.Concat x y hx hy id = single_good id _ (arithmetic_good op.Concat x y hx hy)
binary_good op.Add x y hx hy id = single_good id _ (arithmetic_good op.Add x y hx hy)
binary_good op.Sub x y hx hy id = single_good id _ (arithmetic_good op.Sub x y hx hy)
binary_good op.Mul x y hx hy id = single_good id _ (arithmetic_good op.Mul x y hx hy)
binary_good op.Div x y hx hy id = single_good id _ (arithmetic_good op.Div x y hx hy)
binary_good op.Idiv x y hx hy id = single_good id _ (arithmetic_good op.Idiv x y hx hy)
binary_good op.Mod x y hx hy id = single_good id _ (arithmetic_good op.Mod x y hx hy)
binary_good op.Pow x y hx hy id = single_good id _ (arithmetic_good op.Pow x y hx hy)

pub unary_good : (z : UnOp) (x : ExprCode) → Good x → (to : ℕ) → Go (conditions.unary_run z x to)
unary_good z x h to d d' p = put _ d (nodes.operand_run x to d') (operand_run_good x h to d d' p)

pub unary_code_good : (z : UnOp) (x : ExprCode) → Good x → (id : ℕ) → Good (conditions.unary_code z x id)
unary_code_good unary.Not x h id = decided_good id _ _ (unary_good unary.Not x h) (λ so. h.jump (not so))
unary_code_good unary.Len x h id = single_good id _ (unary_good unary.Len x h)
unary_code_good unary.Minus x h id = single_good id _ (unary_good unary.Minus x h)

pub choices_good : (l : List ChoiceCode) → AllGoodChoices l → (id to : ℕ) → Go (conditions.choices_run l id to)
choices_good [] h id to d d' p = p
choices_good (a ∷ l) h id to d d' p =
    choices_good l h.1 id to d _ (put _ d _ (put _ d _ (h.0.1.run to 2 d _ (h.0.0.jump false to (label a.cond.id 1) d d' p))))

pub named_good : (b : Bindings) (x : Bound) (name : StrId) (id : ℕ) → Good (code.named b x name id)
named_good b x name id = record { run = λ to results. name_good b x name to; jump = jump_on_good (names.own_of b x) (λ to results. names.name_run b x name to) (name_good b x name) }

-- ---- blocks
pub stats_good : (ss : List StatCode) → AllGoodStats ss → (free : ℕ) (l : Loop) → Go (code.stats_run ss free l)
stats_good [] h free l d d' p = p
stats_good (s ∷ ss) h free l d d' p = stats_good ss h.1 (free + s.declares) l d _ (h.0 free l d d' p)

pub body_good : (ss : List StatCode) → AllGoodStats ss → (free : ℕ) (l : Loop) → Go (code.body_run ss free l)
body_good [] h free l d d' p = p
body_good (s ∷ ss) h free l d d' p = body_good ss h.1 (free + s.declares) l d _ (h.0 free (code.in_turn (mark_at free d') l) d d' p)

module _ (b : Bindings) where
  pub block_good : (ss : List StatCode) → AllGoodStats ss → (free : ℕ) (l : Loop) → Go (code.block_run b ss free l)
  block_good ss h free l d d' p =
      after d d' _ p (ended_good b free d' (code.stats_run ss free l d') (stats_good ss h free l d' d' (none d')))

  pub pass_good : (m : Mark) (ss : List StatCode) → AllGoodStats ss → (free id : ℕ) → Go (code.pass_run m ss free id)
  pass_good m ss h free id d d' p = put _ d (code.body_run ss free (code.loop_at id m) d') (body_good ss h free (code.loop_at id m) d d' p)

  pub while_good : (c : ExprCode) → Good c → (ss : List StatCode) → AllGoodStats ss → (id free : ℕ) → Go (code.while_run b c ss id free)
  while_good c hc ss h id free d d' p =
      let m = mark_at free d' in
      let at = puts.place (label id 0) d' in
      let tested = c.jump false free (label id 1) at in
      let turn : Grows d' (code.turn_run b m ss free id tested) = ended_good b free d' (code.pass_run m ss free id tested) (pass_good m ss h free id d' tested (hc.jump false free (label id 1) d' at (put _ d' d' (none d')))) in
      put _ d _ (put _ d _ (after d d' (code.turn_run b m ss free id tested) p turn))

  pub repeat_good : (ss : List StatCode) → AllGoodStats ss → (c : ExprCode) → Good c → (id free : ℕ) → Go (code.repeat_run b ss c id free)
  repeat_good ss h c hc id free d d' p =
      let m = mark_at free d' in
      let at = puts.place (label id 0) d' in
      let passed = code.pass_run m ss free id at in
      let tested = c.jump true (free + code.declared ss) (label id 3) passed in
      let back = puts.place (label id 3) (puts.branch (i.JumpBack (pos 0)) (label id 0) (names.close_run b m tested)) in
      let before : Grows d' tested = hc.jump true (free + code.declared ss) (label id 3) d' passed (pass_good m ss h free id d' at (put _ d' d' (none d'))) in
      let there : Grows d' back = put _ d' _ (put _ d' _ (close_good b m d' tested before)) in
      put _ d _ (after d d' (names.ended b m back) p (ended_good b free d' back there))

  pub copied_good : (e : ExprCode) → Good e → (to at : ℕ) → Go (code.copied e to at)
  copied_good e h to at d d' p = put _ d (nodes.operand_run e at d') (operand_run_good e h at d d' p)

  pub turns_good : (ss : List StatCode) → AllGoodStats ss → (id free : ℕ) → Go (code.turns_run b ss id free)
  turns_good ss h id free d d' p =
      let m = mark_at (free + 3) d' in
      let index = code.index_run b id free d' in
      let begun : Grows d' index = declared (names.first_at b id) (free + 3) d' _ (put _ d' d' (none d')) in
      after d d' _ p (ended_good b (free + 3) d' (code.pass_run m ss (free + 4) id index) (pass_good m ss h (free + 4) id d' index begun))

  abbrev pub AllMaybe : Option ExprCode → Type 0
  AllMaybe None = Unit {0}
  AllMaybe (Some e) = Good e

  pub step_good : (o : Option ExprCode) → AllMaybe o → (free : ℕ) → Go (code.step_run o free)
  step_good None h free d d' p = put _ d d' p
  step_good (Some e) h free d d' p = copied_good e h (free + 1) (free + 3) d d' p

  pub num_for_good : (x y : ExprCode) (o : Option ExprCode) (ss : List StatCode) → Good x → Good y → AllMaybe o → AllGoodStats ss → (id free : ℕ) → Go (code.num_for_run b x y o ss id free)
  num_for_good x y o ss hx hy ho h id free d d' p =
      put _ d _ (put _ d _ (turns_good ss h id free d _ (put _ d _ (put _ d _ (step_good o ho free d _ (copied_good y hy free (free + 3) d _ (hx.run (free + 2) 2 d d' p)))))))

  pub skip_good : (more : Bool) (id : ℕ) → Go (code.skip_rest more id)
  skip_good true id d d' p = put _ d d' p
  skip_good false id d d' p = p

  pub arms_good : (other : Bool) (l : List ArmCode) → AllGoodArms l → (id free : ℕ) (around : Loop) → Go (code.arms_run b other l id free around)
  arms_good other [] h id free around d d' p = p
  arms_good other (a ∷ l) h id free around d d' p =
      arms_good other l h.1 id free around d _ (put _ d _ (skip_good (code.has_more other (length l)) id d _ (block_good a.body h.0.1 free around d _ (h.0.0.jump false free (label a.cond.id 1) d d' p))))

  -- ---- compound assignments
  pub joined_good : (y : ExprCode) → Good y → (to left : ℕ) → Go (code.joined y to left)
  joined_good y h to left d d' p = put _ d _ (h.run (left + 1) 2 d d' p)

  pub operated_good : (z : BinOp) (y : ExprCode) → Good y → (to free : ℕ) → Go (code.operated z y to free)
  operated_good op.Concat y h to free d d' p = joined_good y h to free d d' p
  operated_good z y h to free d d' p = operate_good z to free y h (free + 1) d d' p

  pub update_own_good : (z : BinOp) (y : ExprCode) → Good y → (register free : ℕ) → Go (code.update_own z y register free)
  update_own_good op.Concat y h register free d d' p = joined_good y h register free d _ (put _ d d' p)
  update_own_good z y h register free d d' p = operate_good z register register y h free d d' p

  pub update_local_good : (captured : Bool) (z : BinOp) (y : ExprCode) → Good y → (register free : ℕ) → Go (code.update_local captured z y register free)
  update_local_good true z y h register free d d' p = operated_good z y h register free d _ (put _ d d' p)
  update_local_good false z y h register free d d' p = update_own_good z y h register free d d' p

  pub update_good : (t : Target) (z : BinOp) (y : ExprCode) → Good y → (free : ℕ) → Go (code.update_run b t z y free)
  update_good NoTarget z y h free d d' p = p
  update_good (Named (bound.Local k) name) z y h free d d' p =
      update_local_good (names.is_captured b k) z y h (names.register_of k d') free d d' p
  update_good (Named (bound.Up k) name) z y h free d d' p =
      assign_good b (bound.Up k) name free d _ (operated_good z y h free free d _ (name_good b (bound.Up k) name free d d' p))
  update_good (Named bound.Global name) z y h free d d' p =
      assign_good b bound.Global name free d _ (operated_good z y h free free d _ (name_good b bound.Global name free d d' p))

  -- ---- functions
  pub prepared_good : (vararg : Bool) (params : ℕ) → Go (code.prepared vararg params)
  prepared_good true params d d' p = put _ d d' p
  prepared_good false params d d' p = p

  pub func_good : (id params : ℕ) (vararg : Bool) (body : List StatCode) → AllGoodStats body → (to : ℕ) → Go (code.func_run b id params vararg body to)
  unfolding with_draft with_child with_prototype
  func_good id params vararg body h to d d' p =
      let begun : Emitter = puts.with_draft (puts.blank id) d' in
      let inside : Emitter = names.declare_all (names.first_at b id) 0 params (code.prepared vararg params begun) in
      let done : Emitter = puts.insn (i.Return 0 1) (code.stats_run body params code.no_loop inside) in
      let grown : Grows begun done = put _ begun _ (stats_good body h params code.no_loop begun inside (all_declared (names.first_at b id) 0 params begun _ (prepared_good vararg params begun begun (none begun)))) in
      let outer : Emitter = puts.with_draft d'.draft done in
      let outside : Grows d' outer = record { func = refl; items = same d'.draft.items; constants = same d'.draft.constants; variables = same d'.draft.variables; children = same d'.draft.children; protos = grown.protos; strings = grown.strings } in
      let closure : Emitter = puts.insn (i.NewClosure to (puts.short (length d'.draft.children))) outer in
      let child : Emitter = puts.with_child (length done.protos) closure in
      let made : Grows d closure = put _ d outer (after d d' outer p outside) in
      let with_it : Grows d child = after d closure child made (record { func = refl; items = same closure.draft.items; constants = same closure.draft.constants; variables = same closure.draft.variables; children = behind closure.draft.children (puts.long (length done.protos) ∷ []); protos = same closure.protos; strings = same closure.strings }) in
      let last : Emitter = names.captures b (names.upvalues_at b done.draft.func) child in
      let taken : Grows d last = captures_good b (names.upvalues_at b done.draft.func) d child with_it in
      after d last _ taken (record { func = refl; items = same last.draft.items; constants = same last.draft.constants; variables = same last.draft.variables; children = same last.draft.children; protos = behind last.protos (puts.done params vararg done.draft ∷ []); strings = same last.strings })

-- ---- the tree
module _ (b : Bindings) where
  abbrev pub kind_fold : ExprKind → ℕ → ExprCode
  kind_fold = let s = code.steps b in folds.fold-ExprKind (ℕ → ExprCode) (Unit {0}) (ℕ → StatCode) ArmCode ExprCode ChoiceCode (Unit {0}) FuncCode StatCode s.kind s.field_kind s.stat_kind s.arm s.expr s.expr_arm s.field s.func s.stat

  abbrev pub stat_kind_fold : StatKind → ℕ → StatCode
  stat_kind_fold = let s = code.steps b in folds.fold-StatKind (ℕ → ExprCode) (Unit {0}) (ℕ → StatCode) ArmCode ExprCode ChoiceCode (Unit {0}) FuncCode StatCode s.kind s.field_kind s.stat_kind s.arm s.expr s.expr_arm s.field s.func s.stat

  abbrev pub kind_ok : ExprKind → Type 0
  kind_ok k = (id : ℕ) → Good (kind_fold k id)

  abbrev pub stat_kind_ok : StatKind → Type 0
  stat_kind_ok k = (id : ℕ) → GoodStat (stat_kind_fold k id)

  abbrev pub arm_ok : Arm → Type 0
  arm_ok a = Good (code.arm_code b a).cond × AllGoodStats (code.arm_code b a).body

  abbrev pub expr_ok : Expr → Type 0
  expr_ok e = Good (code.expr_code b e)

  abbrev pub choice_ok : ExprArm → Type 0
  choice_ok a = Good (code.choice_code b a).cond × Good (code.choice_code b a).value

  abbrev pub func_ok : FuncBody → Type 0
  func_ok f = (to : ℕ) → Go (code.func_code b f to)

  abbrev pub stat_ok : Stat → Type 0
  stat_ok s = GoodStat (code.stat_code b s)

  pub all_exprs : (es : List (With expr_ok)) → AllGood (map (code.expr_code b) (map (λ z. z.0) es))
  all_exprs [] = tt
  all_exprs (e ∷ es) = (e.1, all_exprs es)

  pub all_stats : (ss : List (With stat_ok)) → AllGoodStats (map (code.stat_code b) (map (λ z. z.0) ss))
  all_stats [] = tt
  all_stats (s ∷ ss) = (s.1, all_stats ss)

  pub all_arms : (l : List (With arm_ok)) → AllGoodArms (map (code.arm_code b) (map (λ z. z.0) l))
  all_arms [] = tt
  all_arms (a ∷ l) = (a.1, all_arms l)

  pub all_choices : (l : List (With choice_ok)) → AllGoodChoices (map (code.choice_code b) (map (λ z. z.0) l))
  all_choices [] = tt
  all_choices (a ∷ l) = (a.1, all_choices l)

  abbrev pub kind_with : Type 0
  kind_with = induction.kind_with kind_ok (λ _. Unit {0}) stat_kind_ok arm_ok expr_ok choice_ok (λ _. Unit {0}) func_ok stat_ok

  abbrev pub stat_kind_with : Type 0
  stat_kind_with = induction.stat_kind_with kind_ok (λ _. Unit {0}) stat_kind_ok arm_ok expr_ok choice_ok (λ _. Unit {0}) func_ok stat_ok

  -- a level with the codes of its parts
  abbrev pub kind_codes : kind_with → code.Kind
  kind_codes y = folds.map-ExprKind ExprKind FieldKind StatKind Arm Expr ExprArm Field FuncBody Stat (ℕ → ExprCode) (Unit {0}) (ℕ → StatCode) ArmCode ExprCode ChoiceCode (Unit {0}) FuncCode StatCode kind_fold (λ _. tt) stat_kind_fold (code.arm_code b) (code.expr_code b) (code.choice_code b) (λ _. tt) (code.func_code b) (code.stat_code b) (induction.kind_parts kind_ok (λ _. Unit {0}) stat_kind_ok arm_ok expr_ok choice_ok (λ _. Unit {0}) func_ok stat_ok y)

  abbrev pub stat_kind_codes : stat_kind_with → code.StatLevel
  stat_kind_codes y = folds.map-StatKind ExprKind FieldKind StatKind Arm Expr ExprArm Field FuncBody Stat (ℕ → ExprCode) (Unit {0}) (ℕ → StatCode) ArmCode ExprCode ChoiceCode (Unit {0}) FuncCode StatCode kind_fold (λ _. tt) stat_kind_fold (code.arm_code b) (code.expr_code b) (code.choice_code b) (λ _. tt) (code.func_code b) (code.stat_code b) (induction.stat_kind_parts kind_ok (λ _. Unit {0}) stat_kind_ok arm_ok expr_ok choice_ok (λ _. Unit {0}) func_ok stat_ok y)

  pub kind_good : (y : kind_with) (id : ℕ) → Good (code.kind_code b (kind_codes y) id)
  kind_good level.Nil id = single_good id _ (λ to d d' p. put _ d d' p)
  kind_good level.True id = single_good id _ (λ to d d' p. put _ d d' p)
  kind_good level.False id = single_good id _ (λ to d d' p. put _ d d' p)
  kind_good (level.Num n) id = record { run = λ to results. number_good n to; jump = jump_on_good None (λ to results. operators.number_run n to) (number_good n) }
  kind_good (level.Str t) id = single_good id _ (text_good t)
  kind_good level.Vararg id = many_good id _ (λ to results d d' p. put _ d d' p)
  kind_good (level.Name x) id = named_good b (names.bound_at b id) x id
  kind_good (level.Paren e) id = record { run = λ to results. e.1.run to 2; jump = e.1.jump }
  kind_good (level.Unary z e) id = unary_code_good z (code.expr_code b e.0) e.1 id
  kind_good (level.Binary z x y) id = binary_good z (code.expr_code b x.0) (code.expr_code b y.0) x.1 y.1 id
  kind_good (level.Concat es) id =
      single_good id _ (λ to d d' p. put _ d _ (each_good (map (code.expr_code b) (map (λ z. z.0) es)) (all_exprs es) to d d' p))
  kind_good (level.ExprKind::Call f es) id =
      many_good id _ (λ to results d d' p. put _ d _ (list_good (map (code.expr_code b) (map (λ z. z.0) es)) (all_exprs es) (to + 1) d _ (f.1.run to 2 d d' p)))
  kind_good (level.Function f) id = single_good id _ f.1
  kind_good (level.ExprKind::If l e) id =
      single_good id _ (λ to d d' p. put _ d _ (e.1.run to 2 d _ (choices_good (map (code.choice_code b) (map (λ z. z.0) l)) (all_choices l) id to d d' p)))
  kind_good (level.Index x y) id = single_good id _ (λ to d d' p. p)
  kind_good (level.Member x t) id = single_good id _ (λ to d d' p. p)
  kind_good (level.Method o t es) id = single_good id _ (λ to d d' p. p)
  kind_good (level.Table l) id = single_good id _ (λ to d d' p. p)
  kind_good (level.Interp l es) id = single_good id _ (λ to d d' p. p)

  pub stat_kind_good : (y : stat_kind_with) (id : ℕ) → GoodStat (code.stat_kind_code b (stat_kind_codes y) id)
  stat_kind_good (level.Local xs es) id free l d d' p =
      all_declared (names.first_at b id) free (length xs) d _ (exact_good (map (code.expr_code b) (map (λ z. z.0) es)) (all_exprs es) free (length xs) d d' p)
  stat_kind_good (level.Assign ts es) id free l d d' p =
      let targets = map (code.expr_code b) (map (λ z. z.0) ts) in
      assigns_good b targets free d _ (exact_good (map (code.expr_code b) (map (λ z. z.0) es)) (all_exprs es) free (length targets) d d' p)
  stat_kind_good (level.Compound z x y) id free l d d' p = update_good b (code.expr_code b x.0).target z (code.expr_code b y.0) y.1 free d d' p
  stat_kind_good (level.StatKind::Call e) id free l d d' p = e.1.run free 1 d d' p
  stat_kind_good (level.Do ss) id free l d d' p = block_good b (map (code.stat_code b) (map (λ z. z.0) ss)) (all_stats ss) free l d d' p
  stat_kind_good (level.While c ss) id free l d d' p = while_good b (code.expr_code b c.0) c.1 (map (code.stat_code b) (map (λ z. z.0) ss)) (all_stats ss) id free d d' p
  stat_kind_good (level.Repeat ss c) id free l d d' p = repeat_good b (map (code.stat_code b) (map (λ z. z.0) ss)) (all_stats ss) (code.expr_code b c.0) c.1 id free d d' p
  stat_kind_good (level.StatKind::If arms None) id free l d d' p =
      put _ d _ (arms_good b false (map (code.arm_code b) (map (λ z. z.0) arms)) (all_arms arms) id free l d d' p)
  stat_kind_good (level.StatKind::If arms (Some ss)) id free l d d' p =
      put _ d _ (block_good b (map (code.stat_code b) (map (λ z. z.0) ss)) (all_stats ss) free l d _ (arms_good b true (map (code.arm_code b) (map (λ z. z.0) arms)) (all_arms arms) id free l d d' p))
  stat_kind_good (level.NumFor t x y None ss) id free l d d' p =
      num_for_good b (code.expr_code b x.0) (code.expr_code b y.0) None (map (code.stat_code b) (map (λ z. z.0) ss)) x.1 y.1 tt (all_stats ss) id free d d' p
  stat_kind_good (level.NumFor t x y (Some e) ss) id free l d d' p =
      num_for_good b (code.expr_code b x.0) (code.expr_code b y.0) (Some (code.expr_code b e.0)) (map (code.stat_code b) (map (λ z. z.0) ss)) x.1 y.1 e.1 (all_stats ss) id free d d' p
  stat_kind_good (level.GenFor ts es ss) id free l d d' p = p
  stat_kind_good (level.LocalFunction t f) id free l d d' p = f.1 free d _ (declared (names.first_at b id) free d d' p)
  stat_kind_good (level.Return es) id free l d d' p =
      put _ d _ (list_good (map (code.expr_code b) (map (λ z. z.0) es)) (all_exprs es) free d d' p)
  stat_kind_good level.Break id free l d d' p = put _ d _ (close_good b l.start d d' p)
  stat_kind_good level.Continue id free l d d' p = put _ d _ (close_good b l.turn d d' p)

  pub kind_step : (y : kind_with) → kind_ok (induction.kind_of kind_ok (λ _. Unit {0}) stat_kind_ok arm_ok expr_ok choice_ok (λ _. Unit {0}) func_ok stat_ok y)
  kind_step y id =
      let s = code.steps b in
      let is = folds.fold-roll-ExprKind (ℕ → ExprCode) (Unit {0}) (ℕ → StatCode) ArmCode ExprCode ChoiceCode (Unit {0}) FuncCode StatCode s.kind s.field_kind s.stat_kind s.arm s.expr s.expr_arm s.field s.func s.stat (induction.kind_parts kind_ok (λ _. Unit {0}) stat_kind_ok arm_ok expr_ok choice_ok (λ _. Unit {0}) func_ok stat_ok y) in
      subst (λ (k : ℕ → ExprCode). Good (k id)) (sym is) (kind_good y id)

  pub stat_kind_step : (y : stat_kind_with) → stat_kind_ok (induction.stat_kind_of kind_ok (λ _. Unit {0}) stat_kind_ok arm_ok expr_ok choice_ok (λ _. Unit {0}) func_ok stat_ok y)
  stat_kind_step y id =
      let s = code.steps b in
      let is = folds.fold-roll-StatKind (ℕ → ExprCode) (Unit {0}) (ℕ → StatCode) ArmCode ExprCode ChoiceCode (Unit {0}) FuncCode StatCode s.kind s.field_kind s.stat_kind s.arm s.expr s.expr_arm s.field s.func s.stat (induction.stat_kind_parts kind_ok (λ _. Unit {0}) stat_kind_ok arm_ok expr_ok choice_ok (λ _. Unit {0}) func_ok stat_ok y) in
      subst (λ (k : ℕ → StatCode). GoodStat (k id)) (sym is) (stat_kind_good y id)

  pub arm_step : (y : induction.arm_with kind_ok (λ _. Unit {0}) stat_kind_ok arm_ok expr_ok choice_ok (λ _. Unit {0}) func_ok stat_ok) → arm_ok (induction.arm_of kind_ok (λ _. Unit {0}) stat_kind_ok arm_ok expr_ok choice_ok (λ _. Unit {0}) func_ok stat_ok y)
  arm_step y =
      let s = code.steps b in
      let is = folds.fold-roll-Arm (ℕ → ExprCode) (Unit {0}) (ℕ → StatCode) ArmCode ExprCode ChoiceCode (Unit {0}) FuncCode StatCode s.kind s.field_kind s.stat_kind s.arm s.expr s.expr_arm s.field s.func s.stat (induction.arm_parts kind_ok (λ _. Unit {0}) stat_kind_ok arm_ok expr_ok choice_ok (λ _. Unit {0}) func_ok stat_ok y) in
      subst (λ (a : ArmCode). Good a.cond × AllGoodStats a.body) (sym is) (y.cond.1, all_stats y.body)

  pub expr_step : (y : induction.expr_with kind_ok (λ _. Unit {0}) stat_kind_ok arm_ok expr_ok choice_ok (λ _. Unit {0}) func_ok stat_ok) → expr_ok (induction.expr_of kind_ok (λ _. Unit {0}) stat_kind_ok arm_ok expr_ok choice_ok (λ _. Unit {0}) func_ok stat_ok y)
  expr_step y =
      let s = code.steps b in
      let is = folds.fold-roll-Expr (ℕ → ExprCode) (Unit {0}) (ℕ → StatCode) ArmCode ExprCode ChoiceCode (Unit {0}) FuncCode StatCode s.kind s.field_kind s.stat_kind s.arm s.expr s.expr_arm s.field s.func s.stat (induction.expr_parts kind_ok (λ _. Unit {0}) stat_kind_ok arm_ok expr_ok choice_ok (λ _. Unit {0}) func_ok stat_ok y) in
      let kind = y.kind.1 y.id in
      subst (λ (e : ExprCode). Good e) (sym is) (record { run = kind.run; jump = kind.jump })

  pub choice_step : (y : induction.expr_arm_with kind_ok (λ _. Unit {0}) stat_kind_ok arm_ok expr_ok choice_ok (λ _. Unit {0}) func_ok stat_ok) → choice_ok (induction.expr_arm_of kind_ok (λ _. Unit {0}) stat_kind_ok arm_ok expr_ok choice_ok (λ _. Unit {0}) func_ok stat_ok y)
  choice_step y =
      let s = code.steps b in
      let is = folds.fold-roll-ExprArm (ℕ → ExprCode) (Unit {0}) (ℕ → StatCode) ArmCode ExprCode ChoiceCode (Unit {0}) FuncCode StatCode s.kind s.field_kind s.stat_kind s.arm s.expr s.expr_arm s.field s.func s.stat (induction.expr_arm_parts kind_ok (λ _. Unit {0}) stat_kind_ok arm_ok expr_ok choice_ok (λ _. Unit {0}) func_ok stat_ok y) in
      subst (λ (a : ChoiceCode). Good a.cond × Good a.value) (sym is) (y.cond.1, y.value.1)

  pub func_step : (y : induction.func_with kind_ok (λ _. Unit {0}) stat_kind_ok arm_ok expr_ok choice_ok (λ _. Unit {0}) func_ok stat_ok) → func_ok (induction.func_of kind_ok (λ _. Unit {0}) stat_kind_ok arm_ok expr_ok choice_ok (λ _. Unit {0}) func_ok stat_ok y)
  func_step y =
      let s = code.steps b in
      let is = folds.fold-roll-FuncBody (ℕ → ExprCode) (Unit {0}) (ℕ → StatCode) ArmCode ExprCode ChoiceCode (Unit {0}) FuncCode StatCode s.kind s.field_kind s.stat_kind s.arm s.expr s.expr_arm s.field s.func s.stat (induction.func_parts kind_ok (λ _. Unit {0}) stat_kind_ok arm_ok expr_ok choice_ok (λ _. Unit {0}) func_ok stat_ok y) in
      subst (λ (f : FuncCode). (to : ℕ) → Go (f to)) (sym is) (func_good b y.id (length y.params) y.vararg (map (code.stat_code b) (map (λ z. z.0) y.body)) (all_stats y.body))

  pub stat_step : (y : induction.stat_with kind_ok (λ _. Unit {0}) stat_kind_ok arm_ok expr_ok choice_ok (λ _. Unit {0}) func_ok stat_ok) → stat_ok (induction.stat_of kind_ok (λ _. Unit {0}) stat_kind_ok arm_ok expr_ok choice_ok (λ _. Unit {0}) func_ok stat_ok y)
  stat_step y =
      let s = code.steps b in
      let is = folds.fold-roll-Stat (ℕ → ExprCode) (Unit {0}) (ℕ → StatCode) ArmCode ExprCode ChoiceCode (Unit {0}) FuncCode StatCode s.kind s.field_kind s.stat_kind s.arm s.expr s.expr_arm s.field s.func s.stat (induction.stat_parts kind_ok (λ _. Unit {0}) stat_kind_ok arm_ok expr_ok choice_ok (λ _. Unit {0}) func_ok stat_ok y) in
      subst (λ (e : StatCode). GoodStat e) (sym is) (y.kind.1 y.id)

  pub steps_good : induction.Steps kind_ok (λ _. Unit {0}) stat_kind_ok arm_ok expr_ok choice_ok (λ _. Unit {0}) func_ok stat_ok
  steps_good =
      record { kind = kind_step; field_kind = λ _. tt; stat_kind = stat_kind_step; arm = arm_step; expr = expr_step; expr_arm = choice_step; field = λ _. tt; func = func_step; stat = stat_step }

pub expr_is_good : (b : Bindings) (e : Expr) → Good (code.expr_code b e)
expr_is_good b = induction.all_expr (kind_ok b) (λ _. Unit {0}) (stat_kind_ok b) (arm_ok b) (expr_ok b) (choice_ok b) (λ _. Unit {0}) (func_ok b) (stat_ok b) (steps_good b)

pub stat_is_good : (b : Bindings) (s : Stat) → GoodStat (code.stat_code b s)
stat_is_good b = induction.all_stat (kind_ok b) (λ _. Unit {0}) (stat_kind_ok b) (arm_ok b) (expr_ok b) (choice_ok b) (λ _. Unit {0}) (func_ok b) (stat_ok b) (steps_good b)

pub func_is_good : (b : Bindings) (f : FuncBody) (to : ℕ) → Go (code.func_code b f to)
func_is_good b = induction.all_func (kind_ok b) (λ _. Unit {0}) (stat_kind_ok b) (arm_ok b) (expr_ok b) (choice_ok b) (λ _. Unit {0}) (func_ok b) (stat_ok b) (steps_good b)

pub exprs_are_good : (b : Bindings) (es : List Expr) → AllGood (map (code.expr_code b) es)
exprs_are_good b [] = tt
exprs_are_good b (e ∷ es) = (expr_is_good b e, exprs_are_good b es)

pub stats_are_good : (b : Bindings) (ss : List Stat) → AllGoodStats (map (code.stat_code b) ss)
stats_are_good b [] = tt
stats_are_good b (s ∷ ss) = (stat_is_good b s, stats_are_good b ss)

pub code_grows : CodeGrows
code_grows = record {
  value = λ b e to results d. (induction.all_expr (kind_ok b) (λ _. Unit {0}) (stat_kind_ok b) (arm_ok b) (expr_ok b) (choice_ok b) (λ _. Unit {0}) (func_ok b) (stat_ok b) (steps_good b) e).run to results d d (none d);
  jump = λ b e so to l d. (induction.all_expr (kind_ok b) (λ _. Unit {0}) (stat_kind_ok b) (arm_ok b) (expr_ok b) (choice_ok b) (λ _. Unit {0}) (func_ok b) (stat_ok b) (steps_good b) e).jump so to l d d (none d);
  statement = λ b s free l d. induction.all_stat (kind_ok b) (λ _. Unit {0}) (stat_kind_ok b) (arm_ok b) (expr_ok b) (choice_ok b) (λ _. Unit {0}) (func_ok b) (stat_ok b) (steps_good b) s free l d d (none d);
  function = λ b f to d. induction.all_func (kind_ok b) (λ _. Unit {0}) (stat_kind_ok b) (arm_ok b) (expr_ok b) (choice_ok b) (λ _. Unit {0}) (func_ok b) (stat_ok b) (steps_good b) f to d d (none d);
}
