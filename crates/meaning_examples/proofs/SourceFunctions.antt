-- Runs of scripts, computed: functions, values and loops.
use Rattle.std.proofs.Common.{◌≡◌, pos, List, [], ◌∷◌, refl, Some, None, true, false, map}
use Rattle.std.specs.Prelude.{codes}
use Rattle.syntax_tree.specs.declared.tree.BinOp.TheVariants as op
use Rattle.syntax_tree.specs.declared.tree.UnOp.TheVariants as unary
use Rattle.syntax_tree.specs.declared.tree.FuncBody.{roll-FuncBody, out-FuncBody}
use Rattle.syntax_tree.specs.declared.tree.Arm.{roll-Arm, out-Arm}
use Rattle.syntax_tree.specs.declared.tree.ExprKind.{out-ExprKind}
use Rattle.syntax_tree.specs.declared.tree.FieldKind.{out-FieldKind}
use Rattle.syntax_tree.specs.declared.tree.StatKind.{out-StatKind}
use Rattle.syntax_tree.specs.declared.tree.ExprKind as expr
use Rattle.syntax_tree.specs.declared.tree.StatKind as stat
use Rattle.syntax_tree.specs.declared.tree.ExprKind.TheBlock.{hidden-the_row-Expr-0, hidden-the_row-Expr-1, hidden-the_row-Field-2, hidden-the_row-ExprArm-3, hidden-the_row-Stat-4, hidden-the_row-Arm-5, shape-the_row-Expr-0, shape-the_row-Expr-1, shape-the_row-Field-2, shape-the_row-ExprArm-3, shape-the_row-Stat-4, shape-the_row-Arm-5, shown-the_row-Expr-0, shown-the_row-Expr-1, shown-the_row-Field-2, shown-the_row-ExprArm-3, shown-the_row-Stat-4, shown-the_row-Arm-5}
use Rattle.value_model.specs.Values.{kind_of, is_true}
use Rattle.value_model.specs.Tables.{same, get, set, put, border, next_entry}
use Rattle.value_model.specs.Store.{table_at, with_table}
use Rattle.whole_num.specs.NumberTexts.{read_number, read_with_base}
use Rattle.value_model.specs.Metamethods.{index, newindex, arith, choose, is_function, metamethod, as_number, compare, callee_of, concat_two, length_of}
use Rattle.value_model.specs.Names.{Content, Made, name_of, text_of, as_plain}
use Rattle.value_model.specs.Operators.{calculated}
use Rattle.value_model.specs.Errors.{error_text}
use Rattle.value_model.specs.Library.{lib, go_on}
use Rattle.value_model.specs.Waiting.{wait}
use Rattle.value_model.specs.CoroutineRows.{coroutine_of, with_coroutine}
use Rattle.value_model.specs.Loops.{bounds, goes_on, iteration}
use Rattle.value_model.specs.Fresh.{fresh, look}
use Rattle.value_model.specs.Waits.{Ended, Raised, Stopped, Unfinished}
use Rattle.value_model.specs.declared.kind.Kind.TheVariants as kind
use Rattle.value_model.specs.declared.plain.Plain.TheVariants as plain
use Rattle.whole_num.specs.declared.arithmetic.Stop.TheVariants as stop
use Rattle.std.specs.Fmt.{digits}
use Rattle.meaning_examples.proofs.Scripts.{Script, outcome, wanted, word, e, s, func, arm}

-- ``
abbrev empty : Script
empty = record {
  texts = [];
  main = (func 0 [] true []);
  turns = 0;
  moves = 3;
  end = Ended [];
  lines = [];
  looks = 0;
}

-- `print(1 + 2)`
abbrev sum : Script
sum = record {
  texts = codes "print" ∷ [];
  main = (func 0 [] true (((s 1 (stat.Call (e 2 (expr.Call (e 3 (expr.Name (word 0))) ((e 4 (expr.Binary op.Add (e 5 (expr.Num (pos 1))) (e 6 (expr.Num (pos 2))))) ∷ [])))))) ∷ []));
  turns = 0;
  moves = 23;
  end = Ended [];
  lines = ((0, codes "3") ∷ []);
  looks = 2;
}

-- `local a = 1 local function f() a = 10 return 1 end print(a + f(), a)`
abbrev assigned_by_a_call : Script
assigned_by_a_call = record {
  texts = codes "a" ∷ codes "f" ∷ codes "print" ∷ [];
  main = (func 0 [] true (((s 1 (stat.Local ((word 0) ∷ []) ((e 2 (expr.Num (pos 1))) ∷ [])))) ∷ ((s 3 (stat.LocalFunction (word 1) (func 4 [] false (((s 5 (stat.Assign ((e 6 (expr.Name (word 0))) ∷ []) ((e 7 (expr.Num (pos 10))) ∷ [])))) ∷ ((s 8 (stat.Return ((e 9 (expr.Num (pos 1))) ∷ [])))) ∷ []))))) ∷ ((s 10 (stat.Call (e 11 (expr.Call (e 12 (expr.Name (word 2))) ((e 13 (expr.Binary op.Add (e 14 (expr.Name (word 0))) (e 15 (expr.Call (e 16 (expr.Name (word 1))) [])))) ∷ (e 17 (expr.Name (word 0))) ∷ [])))))) ∷ []));
  turns = 1;
  moves = 65;
  end = Ended [];
  lines = ((1, codes "2\t10") ∷ []);
  looks = 2;
}

-- `local t = {} for i = 1, 3 do local v = i t[i] = function() return v end v = v + 10 end print(t[1](), t[2](), t[3]())`
abbrev fresh_loop_variables : Script
fresh_loop_variables = record {
  texts = codes "t" ∷ codes "i" ∷ codes "v" ∷ codes "print" ∷ [];
  main = (func 0 [] true (((s 1 (stat.Local ((word 0) ∷ []) ((e 2 (expr.Table [])) ∷ [])))) ∷ ((s 3 (stat.NumFor (word 1) (e 4 (expr.Num (pos 1))) (e 5 (expr.Num (pos 3))) None (((s 6 (stat.Local ((word 2) ∷ []) ((e 7 (expr.Name (word 1))) ∷ [])))) ∷ ((s 8 (stat.Assign ((e 9 (expr.Index (e 10 (expr.Name (word 0))) (e 11 (expr.Name (word 1))))) ∷ []) (((e 12 (expr.Function (func 13 [] false (((s 14 (stat.Return ((e 15 (expr.Name (word 2))) ∷ [])))) ∷ []))))) ∷ [])))) ∷ ((s 16 (stat.Assign ((e 17 (expr.Name (word 2))) ∷ []) ((e 18 (expr.Binary op.Add (e 19 (expr.Name (word 2))) (e 20 (expr.Num (pos 10))))) ∷ [])))) ∷ [])))) ∷ ((s 21 (stat.Call (e 22 (expr.Call (e 23 (expr.Name (word 3))) ((e 24 (expr.Call (e 25 (expr.Index (e 26 (expr.Name (word 0))) (e 27 (expr.Num (pos 1))))) [])) ∷ (e 28 (expr.Call (e 29 (expr.Index (e 30 (expr.Name (word 0))) (e 31 (expr.Num (pos 2))))) [])) ∷ (e 32 (expr.Call (e 33 (expr.Index (e 34 (expr.Name (word 0))) (e 35 (expr.Num (pos 3))))) [])) ∷ [])))))) ∷ []));
  turns = 6;
  moves = 246;
  end = Ended [];
  lines = ((6, codes "11\t12\t13") ∷ []);
  looks = 8;
}

-- `local function f() local n = 0 return function() n += 1 end, function() return n end end local up, get = f() up() up() print(get())`
abbrev two_closures_one_variable : Script
two_closures_one_variable = record {
  texts = codes "f" ∷ codes "n" ∷ codes "up" ∷ codes "get" ∷ codes "print" ∷ [];
  main = (func 0 [] true (((s 1 (stat.LocalFunction (word 0) (func 2 [] false (((s 3 (stat.Local ((word 1) ∷ []) ((e 4 (expr.Num (pos 0))) ∷ [])))) ∷ ((s 5 (stat.Return (((e 6 (expr.Function (func 7 [] false ((s 8 (stat.Compound op.Add (e 9 (expr.Name (word 1))) (e 10 (expr.Num (pos 1))))) ∷ []))))) ∷ ((e 11 (expr.Function (func 12 [] false (((s 13 (stat.Return ((e 14 (expr.Name (word 1))) ∷ [])))) ∷ []))))) ∷ [])))) ∷ []))))) ∷ ((s 15 (stat.Local ((word 2) ∷ (word 3) ∷ []) ((e 16 (expr.Call (e 17 (expr.Name (word 0))) [])) ∷ [])))) ∷ (s 18 (stat.Call (e 19 (expr.Call (e 20 (expr.Name (word 2))) [])))) ∷ (s 21 (stat.Call (e 22 (expr.Call (e 23 (expr.Name (word 2))) [])))) ∷ ((s 24 (stat.Call (e 25 (expr.Call (e 26 (expr.Name (word 4))) ((e 27 (expr.Call (e 28 (expr.Name (word 3))) [])) ∷ [])))))) ∷ []));
  turns = 4;
  moves = 115;
  end = Ended [];
  lines = ((4, codes "2") ∷ []);
  looks = 2;
}

-- `local function f(...) return select("#", ...), ... end print((f(4, nil)), f(4, nil))`
abbrev varargs : Script
varargs = record {
  texts = codes "f" ∷ codes "select" ∷ codes "#" ∷ codes "print" ∷ [];
  main = (func 0 [] true (((s 1 (stat.LocalFunction (word 0) (func 2 [] true (((s 3 (stat.Return (((e 4 (expr.Call (e 5 (expr.Name (word 1))) ((e 6 (expr.Str (word 2))) ∷ (e 7 expr.Vararg) ∷ [])))) ∷ (e 8 expr.Vararg) ∷ [])))) ∷ []))))) ∷ ((s 9 (stat.Call (e 10 (expr.Call (e 11 (expr.Name (word 3))) (((e 12 (expr.Paren (e 13 (expr.Call (e 14 (expr.Name (word 0))) ((e 15 (expr.Num (pos 4))) ∷ (e 16 expr.Nil) ∷ [])))))) ∷ ((e 17 (expr.Call (e 18 (expr.Name (word 0))) ((e 19 (expr.Num (pos 4))) ∷ (e 20 expr.Nil) ∷ [])))) ∷ [])))))) ∷ []));
  turns = 2;
  moves = 88;
  end = Ended [];
  lines = ((2, codes "2\t2\t4\tnil") ∷ []);
  looks = 6;
}

-- `local function f() return 1, 2, 3 end local a, b, c, d = 0, f() print(a, b, c, d, (f()))`
abbrev adjusted : Script
adjusted = record {
  texts = codes "f" ∷ codes "a" ∷ codes "b" ∷ codes "c" ∷ codes "d" ∷ codes "print" ∷ [];
  main = (func 0 [] true (((s 1 (stat.LocalFunction (word 0) (func 2 [] false (((s 3 (stat.Return ((e 4 (expr.Num (pos 1))) ∷ (e 5 (expr.Num (pos 2))) ∷ (e 6 (expr.Num (pos 3))) ∷ [])))) ∷ []))))) ∷ ((s 7 (stat.Local ((word 1) ∷ (word 2) ∷ (word 3) ∷ (word 4) ∷ []) ((e 8 (expr.Num (pos 0))) ∷ (e 9 (expr.Call (e 10 (expr.Name (word 0))) [])) ∷ [])))) ∷ ((s 11 (stat.Call (e 12 (expr.Call (e 13 (expr.Name (word 5))) ((e 14 (expr.Name (word 1))) ∷ (e 15 (expr.Name (word 2))) ∷ (e 16 (expr.Name (word 3))) ∷ (e 17 (expr.Name (word 4))) ∷ (e 18 (expr.Paren (e 19 (expr.Call (e 20 (expr.Name (word 0))) [])))) ∷ [])))))) ∷ []));
  turns = 2;
  moves = 77;
  end = Ended [];
  lines = ((2, codes "0\t1\t2\t3\t1") ∷ []);
  looks = 2;
}

-- `local function f(n) if n == 0 then return "end" end return f(n - 1) end print(f(3))`
abbrev recursion : Script
recursion = record {
  texts = codes "f" ∷ codes "n" ∷ codes "end" ∷ codes "print" ∷ [];
  main = (func 0 [] true (((s 1 (stat.LocalFunction (word 0) (func 2 ((word 1) ∷ []) false (((s 3 (stat.If (((arm (e 4 (expr.Binary op.Eq (e 5 (expr.Name (word 1))) (e 6 (expr.Num (pos 0))))) (((s 7 (stat.Return ((e 8 (expr.Str (word 2))) ∷ [])))) ∷ []))) ∷ []) None))) ∷ ((s 9 (stat.Return (((e 10 (expr.Call (e 11 (expr.Name (word 0))) ((e 12 (expr.Binary op.Sub (e 13 (expr.Name (word 1))) (e 14 (expr.Num (pos 1))))) ∷ [])))) ∷ [])))) ∷ []))))) ∷ ((s 15 (stat.Call (e 16 (expr.Call (e 17 (expr.Name (word 3))) (((e 18 (expr.Call (e 19 (expr.Name (word 0))) ((e 20 (expr.Num (pos 3))) ∷ [])))) ∷ [])))))) ∷ []));
  turns = 4;
  moves = 150;
  end = Ended [];
  lines = ((4, codes "end") ∷ []);
  looks = 2;
}

-- `for i = 1, 10 do end`
abbrev loop_in_ten : Script
loop_in_ten = record {
  texts = codes "i" ∷ [];
  main = (func 0 [] true ((s 1 (stat.NumFor (word 0) (e 2 (expr.Num (pos 1))) (e 3 (expr.Num (pos 10))) None [])) ∷ []));
  turns = 10;
  moves = 52;
  end = Ended [];
  lines = [];
  looks = 0;
}

-- `for i = 1, 10 do end`
abbrev loop_in_nine : Script
loop_in_nine = record {
  texts = codes "i" ∷ [];
  main = (func 0 [] true ((s 1 (stat.NumFor (word 0) (e 2 (expr.Num (pos 1))) (e 3 (expr.Num (pos 10))) None [])) ∷ []));
  turns = 9;
  moves = 47;
  end = Unfinished;
  lines = [];
  looks = 0;
}

-- `for i = 3, 1, -2 do print(i) end`
abbrev downwards : Script
downwards = record {
  texts = codes "i" ∷ codes "print" ∷ [];
  main = (func 0 [] true (((s 1 (stat.NumFor (word 0) (e 2 (expr.Num (pos 3))) (e 3 (expr.Num (pos 1))) (Some (e 4 (expr.Unary unary.Minus (e 5 (expr.Num (pos 2)))))) (((s 6 (stat.Call (e 7 (expr.Call (e 8 (expr.Name (word 1))) ((e 9 (expr.Name (word 0))) ∷ [])))))) ∷ [])))) ∷ []));
  turns = 2;
  moves = 54;
  end = Ended [];
  lines = ((0, codes "3") ∷ (1, codes "1") ∷ []);
  looks = 4;
}

-- `local i = 0 repeat i += 1 local j = i until j == 3 print(i)`
abbrev repeat_sees_its_local : Script
repeat_sees_its_local = record {
  texts = codes "i" ∷ codes "j" ∷ codes "print" ∷ [];
  main = (func 0 [] true (((s 1 (stat.Local ((word 0) ∷ []) ((e 2 (expr.Num (pos 0))) ∷ [])))) ∷ ((s 3 (stat.Repeat ((s 4 (stat.Compound op.Add (e 5 (expr.Name (word 0))) (e 6 (expr.Num (pos 1))))) ∷ ((s 7 (stat.Local ((word 1) ∷ []) ((e 8 (expr.Name (word 0))) ∷ [])))) ∷ []) (e 9 (expr.Binary op.Eq (e 10 (expr.Name (word 1))) (e 11 (expr.Num (pos 3)))))))) ∷ ((s 12 (stat.Call (e 13 (expr.Call (e 14 (expr.Name (word 2))) ((e 15 (expr.Name (word 0))) ∷ [])))))) ∷ []));
  turns = 2;
  moves = 120;
  end = Ended [];
  lines = ((2, codes "3") ∷ []);
  looks = 2;
}

-- `for i = 1, 5 do if i == 2 then continue end if i == 4 then break end print(i) end`
abbrev continue_and_break : Script
continue_and_break = record {
  texts = codes "i" ∷ codes "print" ∷ [];
  main = (func 0 [] true (((s 1 (stat.NumFor (word 0) (e 2 (expr.Num (pos 1))) (e 3 (expr.Num (pos 5))) None (((s 4 (stat.If (((arm (e 5 (expr.Binary op.Eq (e 6 (expr.Name (word 0))) (e 7 (expr.Num (pos 2))))) ((s 8 stat.Continue) ∷ []))) ∷ []) None))) ∷ ((s 9 (stat.If (((arm (e 10 (expr.Binary op.Eq (e 11 (expr.Name (word 0))) (e 12 (expr.Num (pos 4))))) ((s 13 stat.Break) ∷ []))) ∷ []) None))) ∷ ((s 14 (stat.Call (e 15 (expr.Call (e 16 (expr.Name (word 1))) ((e 17 (expr.Name (word 0))) ∷ [])))))) ∷ [])))) ∷ []));
  turns = 3;
  moves = 145;
  end = Ended [];
  lines = ((0, codes "1") ∷ (2, codes "3") ∷ []);
  looks = 4;
}

-- `local i = 0 while i < 3 do i += 1 if i == 2 then continue end print(i) end`
abbrev while_with_continue : Script
while_with_continue = record {
  texts = codes "i" ∷ codes "print" ∷ [];
  main = (func 0 [] true (((s 1 (stat.Local ((word 0) ∷ []) ((e 2 (expr.Num (pos 0))) ∷ [])))) ∷ ((s 3 (stat.While (e 4 (expr.Binary op.Lt (e 5 (expr.Name (word 0))) (e 6 (expr.Num (pos 3))))) ((s 7 (stat.Compound op.Add (e 8 (expr.Name (word 0))) (e 9 (expr.Num (pos 1))))) ∷ ((s 10 (stat.If (((arm (e 11 (expr.Binary op.Eq (e 12 (expr.Name (word 0))) (e 13 (expr.Num (pos 2))))) ((s 14 stat.Continue) ∷ []))) ∷ []) None))) ∷ ((s 15 (stat.Call (e 16 (expr.Call (e 17 (expr.Name (word 1))) ((e 18 (expr.Name (word 0))) ∷ [])))))) ∷ [])))) ∷ []));
  turns = 3;
  moves = 156;
  end = Ended [];
  lines = ((0, codes "1") ∷ (2, codes "3") ∷ []);
  looks = 4;
}

-- `return 1, "x", nil`
abbrev returned : Script
returned = record {
  texts = codes "x" ∷ [];
  main = (func 0 [] true (((s 1 (stat.Return ((e 2 (expr.Num (pos 1))) ∷ (e 3 (expr.Str (word 0))) ∷ (e 4 expr.Nil) ∷ [])))) ∷ []));
  turns = 0;
  moves = 13;
  end = Ended ((Content (plain.Num (pos 1))) ∷ (Content (plain.Text (codes "x"))) ∷ (Content plain.Nil) ∷ []);
  lines = [];
  looks = 0;
}

-- `error({})`
abbrev raised : Script
raised = record {
  texts = codes "error" ∷ [];
  main = (func 0 [] true (((s 1 (stat.Call (e 2 (expr.Call (e 3 (expr.Name (word 0))) ((e 4 (expr.Table [])) ∷ [])))))) ∷ []));
  turns = 0;
  moves = 15;
  end = Raised (Made kind.Table 1);
  lines = [];
  looks = 2;
}

-- `print(7 / 2)`
abbrev not_whole : Script
not_whole = record {
  texts = codes "print" ∷ [];
  main = (func 0 [] true (((s 1 (stat.Call (e 2 (expr.Call (e 3 (expr.Name (word 0))) ((e 4 (expr.Binary op.Div (e 5 (expr.Num (pos 7))) (e 6 (expr.Num (pos 2))))) ∷ [])))))) ∷ []));
  turns = 0;
  moves = 12;
  end = Stopped stop.NotWhole;
  lines = [];
  looks = 2;
}

abbrev scripts : List Script
scripts = empty ∷ sum ∷ assigned_by_a_call ∷ fresh_loop_variables ∷ two_closures_one_variable ∷ varargs ∷ adjusted ∷ recursion ∷ loop_in_ten ∷ loop_in_nine ∷ downwards ∷ repeat_sees_its_local ∷ continue_and_break ∷ while_with_continue ∷ returned ∷ raised ∷ not_whole ∷ []

-- each runs so
all_run : map outcome scripts ≡ map wanted scripts
unfolding out-ExprKind out-Arm roll-Arm out-StatKind out-FieldKind out-FuncBody roll-FuncBody denote.Hole.Carrier.out denote.Hole.Carrier.roll denote.Hole.Carrier.shown denote.Hole.Carrier.hidden hidden-the_row-Expr-0 hidden-the_row-Expr-1 hidden-the_row-Field-2 hidden-the_row-ExprArm-3 hidden-the_row-Stat-4 hidden-the_row-Arm-5 shape-the_row-Expr-0 shape-the_row-Expr-1 shape-the_row-Field-2 shape-the_row-ExprArm-3 shape-the_row-Stat-4 shape-the_row-Arm-5 shown-the_row-Expr-0 shown-the_row-Expr-1 shown-the_row-Field-2 shown-the_row-ExprArm-3 shown-the_row-Stat-4 shown-the_row-Arm-5 wait lib go_on choose index newindex arith compare callee_of concat_two length_of is_function metamethod as_number read_number read_with_base calculated table_at with_table same get set put border next_entry kind_of is_true name_of text_of as_plain error_text fresh look bounds goes_on iteration coroutine_of with_coroutine digits
all_run = refl
