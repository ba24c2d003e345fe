-- The grammar of expressions and statements, on the places of a token list:
--
--   block  = {stat [";"]} [last [";"]]
--   last   = "return" [list] | "break" | "continue"
--   stat   = target {"," target} "=" list | target compound expr | call
--          | "do" block "end" | "while" expr "do" block "end" | "repeat" block "until" expr
--          | "if" expr "then" block {"elseif" expr "then" block} ["else" block] "end"
--          | "for" bind "=" expr "," expr ["," expr] "do" block "end"
--          | "for" bind {"," bind} "in" list "do" block "end"
--          | "function" Name {"." Name} [":" Name] body
--          | "local" "function" Name body | "local" bind {"," bind} ["=" list]
--          | ["export"] "type" Name [generics] "=" type
--   bind   = Name [":" type]
--   body   = [generics] "(" [params] ")" [":" type] block "end"
--   params = bind {"," bind} ["," "..." [":" type]] | "..." [":" type]
--   list   = expr {"," expr}
--   prefix = Name | "(" expr ")" | prefix "." Name | prefix "[" expr "]" | prefix args | prefix ":" Name args
--   args   = "(" [list] ")" | table | String
--   target = prefix that ends in a Name or an index       call = prefix that ends in args
--   simple = "nil" | "true" | "false" | Number | String | "..." | interp | "function" body | table | prefix
--          | "if" expr "then" expr {"elseif" expr "then" expr} "else" expr
--   interp = InterpWhole | InterpBegin expr {InterpMid expr} InterpEnd
--   cast   = simple ["::" type]
--   pow    = cast ["^" unary]       unary = ("not" | "#" | "-") unary | pow
--   table  = "{" [field {("," | ";") field} ["," | ";"]] "}"
--   field  = "[" expr "]" "=" expr | Name "=" expr | expr
--
-- and the binary levels of Operators.antt, so that
--
--   expr   = or-level           or-level = and-level {"or" and-level}     and so on
--   concat-level = sum-level {".." sum-level}                             sum-level and product-level as above
--
-- `IsX ts n i x j`: an X, with the tree x, goes from place i to place j, and at most n brackets of a type are open at once.
-- The trees are not numbered yet. What may follow is taken where it stands: a prefix takes each suffix, a level each of its operators,
-- a list each comma, and a block goes on until a token that ends it. So an `if` expression reaches as far as it can.
use Rattle.std.specs.Prelude.{◌≡◌, ℕ, ◌+◌, Bool, true, false, IsTrue, IsFalse, List, [], ◌∷◌, ◌++◌, Option, Some, None}
use Rattle.byte_text.specs.declared.StrId.{StrId}
use Rattle.syntax_tree.specs.declared.token.Token.{Token}
use Rattle.syntax_tree.specs.declared.token.TokenKind.TheVariants as token
use Rattle.syntax_tree.specs.declared.tree.Arm.{Arm}
use Rattle.syntax_tree.specs.declared.tree.BinOp.{BinOp}
use Rattle.syntax_tree.specs.declared.tree.BinOp.TheVariants as binary
use Rattle.syntax_tree.specs.declared.tree.Expr.{Expr}
use Rattle.syntax_tree.specs.declared.tree.ExprArm.{ExprArm}
use Rattle.syntax_tree.specs.declared.tree.ExprKind.{ExprKind}
use Rattle.syntax_tree.specs.declared.tree.ExprKind as expr
use Rattle.syntax_tree.specs.declared.tree.Field.{Field}
use Rattle.syntax_tree.specs.declared.tree.FieldKind as field
use Rattle.syntax_tree.specs.declared.tree.Stat.{Stat}
use Rattle.syntax_tree.specs.declared.tree.StatKind as stat
use Rattle.syntax_tree.specs.declared.tree.UnOp.{UnOp}
use Rattle.syntax_tree.specs.Places.{kind_at, Has, Lacks, Optional}
use Rattle.syntax_tree.specs.Types.{is_separator, IsType, IsGenerics}
use Rattle.syntax_tree.specs.Nodes.{expr_at, call_at, field_at, stat_at, function_at, arm, expr_arm}
use Rattle.syntax_tree.specs.Operators.{OperatorLevel, ors, ands, comparisons, sums, products, operator, unary_operator, compound_operator}
use Rattle.syntax_tree.specs.Words.{self_name, type_name, export_name, ends_block, ends_last, is_continue, opens_type, opens_suffix, opens_named, literal_of}

-- what a prefix ends in: a Name or an index, arguments, or a parenthesis
pub data PrefixEnd : Type 0 where
  in_target : PrefixEnd
  in_call : PrefixEnd
  in_paren : PrefixEnd

-- [":" type]
pub data IsTyping (ts : List Token) (n : ℕ) : (i j : ℕ) → Type 0 where
  untyped : (i : ℕ) → Lacks ts i token.Colon → IsTyping ts n i i
  typed : (i j : ℕ) → Has ts i token.Colon → IsType ts n (i + 1) j → IsTyping ts n i j

-- bind = Name [":" type]
pub data IsBind (ts : List Token) (n : ℕ) : (i : ℕ) (name : StrId) (j : ℕ) → Type 0 where
  bind : (i j : ℕ) (x : StrId) → Has ts i (token.Name x) → IsTyping ts n (i + 1) j → IsBind ts n i x j

-- bind {"," bind}
pub data IsBinds (ts : List Token) (n : ℕ) : (i : ℕ) (names : List StrId) (j : ℕ) → Type 0 where
  last_bind : (i j : ℕ) (x : StrId) → IsBind ts n i x j → Lacks ts j token.Comma → IsBinds ts n i (x ∷ []) j
  more_binds : (i j k : ℕ) (x : StrId) (xs : List StrId) → IsBind ts n i x j → Has ts j token.Comma → IsBinds ts n (j + 1) xs k → IsBinds ts n i (x ∷ xs) k

-- params = bind {"," bind} ["," "..." [":" type]] | "..." [":" type]
pub data IsParams (ts : List Token) (n : ℕ) : (i : ℕ) (names : List StrId) (vararg : Bool) (j : ℕ) → Type 0 where
  last_param : (i j : ℕ) (x : StrId) → IsBind ts n i x j → Lacks ts j token.Comma → IsParams ts n i (x ∷ []) false j
  more_params : (i j k : ℕ) (x : StrId) (xs : List StrId) (v : Bool) → IsBind ts n i x j → Has ts j token.Comma → IsParams ts n (j + 1) xs v k → IsParams ts n i (x ∷ xs) v k
  dots : (i j : ℕ) → Has ts i token.TripleDot → IsTyping ts n (i + 1) j → IsParams ts n i [] true j

-- [params], up to the parenthesis that closes them
pub data IsParamList (ts : List Token) (n : ℕ) : (i : ℕ) (names : List StrId) (vararg : Bool) (j : ℕ) → Type 0 where
  no_params : (i : ℕ) → Has ts i token.CloseParen → IsParamList ts n i [] false i
  params : (i j : ℕ) (xs : List StrId) (v : Bool) → Lacks ts i token.CloseParen → IsParams ts n i xs v j → IsParamList ts n i xs v j

-- ["export"] "type" Name [generics] "=" type
pub data IsTypeDefinition (ts : List Token) (n : ℕ) : (i j : ℕ) → Type 0 where
  type_definition : (i j k : ℕ) (x : StrId) → Has ts i (token.Name x) → IsGenerics ts n (i + 1) j → Has ts j token.Equal → IsType ts n (j + 1) k → IsTypeDefinition ts n i k

pub data IsTypeStat (ts : List Token) (n : ℕ) : (i j : ℕ) → Type 0 where
  private_type : (i j : ℕ) → Has ts i (token.Name type_name) → IsTypeDefinition ts n (i + 1) j → IsTypeStat ts n i j
  exported_type : (i j : ℕ) → Has ts i (token.Name export_name) → Has ts (i + 1) (token.Name type_name) → IsTypeDefinition ts n (i + 2) j → IsTypeStat ts n i j

-- {"." Name} behind the part a of the name of a function; the name begins at place b
pub data IsMembers (ts : List Token) (b : ℕ) : (i : ℕ) (a : Expr) (name : Expr) (j : ℕ) → Type 0 where
  no_member : (i : ℕ) (a : Expr) → Lacks ts i token.Dot → IsMembers ts b i a a i
  more_members : (i j : ℕ) (x : StrId) (a e : Expr) → Has ts i token.Dot → Has ts (i + 1) (token.Name x) → IsMembers ts b (i + 2) (expr_at ts b (expr.Member a x)) e j → IsMembers ts b i a e j

-- Name {"." Name} [":" Name], and the parameter that the last one adds
pub data IsFunctionName (ts : List Token) : (i : ℕ) (name : Expr) (added : List StrId) (j : ℕ) → Type 0 where
  function_name : (i j : ℕ) (x : StrId) (e : Expr) → Has ts i (token.Name x) → IsMembers ts i (i + 1) (expr_at ts i (expr.Name x)) e j → Lacks ts j token.Colon → IsFunctionName ts i e [] j
  method_name : (i j : ℕ) (x y : StrId) (e : Expr) → Has ts i (token.Name x) → IsMembers ts i (i + 1) (expr_at ts i (expr.Name x)) e j → Has ts j token.Colon → Has ts (j + 1) (token.Name y) → IsFunctionName ts i (expr_at ts i (expr.Member e y)) (self_name ∷ []) (j + 2)

mutual
  pub data IsExpr (ts : List Token) (n : ℕ) : (i : ℕ) (e : Expr) (j : ℕ) → Type 0 where
    expression : (i j : ℕ) (e : Expr) → IsLevel ts n ors i e j → IsExpr ts n i e j

  -- list = expr {"," expr}
  pub data IsList (ts : List Token) (n : ℕ) : (i : ℕ) (es : List Expr) (j : ℕ) → Type 0 where
    last_expr : (i j : ℕ) (e : Expr) → IsExpr ts n i e j → Lacks ts j token.Comma → IsList ts n i (e ∷ []) j
    more_exprs : (i j k : ℕ) (e : Expr) (es : List Expr) → IsExpr ts n i e j → Has ts j token.Comma → IsList ts n (j + 1) es k → IsList ts n i (e ∷ es) k

  -- level = operand {operator operand}
  pub data IsLevel (ts : List Token) (n : ℕ) : (level : OperatorLevel) (i : ℕ) (e : Expr) (j : ℕ) → Type 0 where
    level : (l : OperatorLevel) (i j k : ℕ) (a e : Expr) → IsOperand ts n l i a j → IsOperations ts n l i j a e k → IsLevel ts n l i e k

  -- {operator operand} behind the left part a; this begins at place b
  pub data IsOperations (ts : List Token) (n : ℕ) : (level : OperatorLevel) (b i : ℕ) (a : Expr) (e : Expr) (j : ℕ) → Type 0 where
    no_operation : (l : OperatorLevel) (b i : ℕ) (a : Expr) → operator l (kind_at ts i) ≡ None → IsOperations ts n l b i a a i
    operation : (l : OperatorLevel) (b i j k : ℕ) (op : BinOp) (a c e : Expr) → operator l (kind_at ts i) ≡ Some op → IsOperand ts n l (i + 1) c j → IsOperations ts n l b j (expr_at ts b (expr.Binary op a c)) e k → IsOperations ts n l b i a e k

  -- the operands of a level are of the next higher one
  pub data IsOperand (ts : List Token) (n : ℕ) : (level : OperatorLevel) (i : ℕ) (e : Expr) (j : ℕ) → Type 0 where
    or_operand : (i j : ℕ) (e : Expr) → IsLevel ts n ands i e j → IsOperand ts n ors i e j
    and_operand : (i j : ℕ) (e : Expr) → IsLevel ts n comparisons i e j → IsOperand ts n ands i e j
    comparison_operand : (i j : ℕ) (e : Expr) → IsConcat ts n i e j → IsOperand ts n comparisons i e j
    sum_operand : (i j : ℕ) (e : Expr) → IsLevel ts n products i e j → IsOperand ts n sums i e j
    product_operand : (i j : ℕ) (e : Expr) → IsUnary ts n i e j → IsOperand ts n products i e j

  -- sum-level {".." sum-level}: a run of two or more is one node
  pub data IsConcat (ts : List Token) (n : ℕ) : (i : ℕ) (e : Expr) (j : ℕ) → Type 0 where
    no_concat : (i j : ℕ) (e : Expr) → IsLevel ts n sums i e j → Lacks ts j token.DoubleDot → IsConcat ts n i e j
    concat : (i j k : ℕ) (e : Expr) (es : List Expr) → IsLevel ts n sums i e j → Has ts j token.DoubleDot → IsRun ts n (j + 1) es k → IsConcat ts n i (expr_at ts i (expr.Concat (e ∷ es))) k

  pub data IsRun (ts : List Token) (n : ℕ) : (i : ℕ) (es : List Expr) (j : ℕ) → Type 0 where
    last_of_run : (i j : ℕ) (e : Expr) → IsLevel ts n sums i e j → Lacks ts j token.DoubleDot → IsRun ts n i (e ∷ []) j
    more_of_run : (i j k : ℕ) (e : Expr) (es : List Expr) → IsLevel ts n sums i e j → Has ts j token.DoubleDot → IsRun ts n (j + 1) es k → IsRun ts n i (e ∷ es) k

  -- unary = ("not" | "#" | "-") unary | pow
  pub data IsUnary (ts : List Token) (n : ℕ) : (i : ℕ) (e : Expr) (j : ℕ) → Type 0 where
    no_unary : (i j : ℕ) (e : Expr) → unary_operator (kind_at ts i) ≡ None → IsPow ts n i e j → IsUnary ts n i e j
    unary : (i j : ℕ) (op : UnOp) (e : Expr) → unary_operator (kind_at ts i) ≡ Some op → IsUnary ts n (i + 1) e j → IsUnary ts n i (expr_at ts i (expr.Unary op e)) j

  -- pow = cast ["^" unary]
  pub data IsPow (ts : List Token) (n : ℕ) : (i : ℕ) (e : Expr) (j : ℕ) → Type 0 where
    no_pow : (i j : ℕ) (e : Expr) → IsCast ts n i e j → Lacks ts j token.Caret → IsPow ts n i e j
    pow : (i j k : ℕ) (a c : Expr) → IsCast ts n i a j → Has ts j token.Caret → IsUnary ts n (j + 1) c k → IsPow ts n i (expr_at ts i (expr.Binary binary.Pow a c)) k

  -- cast = simple ["::" type]
  pub data IsCast (ts : List Token) (n : ℕ) : (i : ℕ) (e : Expr) (j : ℕ) → Type 0 where
    no_cast : (i j : ℕ) (e : Expr) → IsSimple ts n i e j → Lacks ts j token.DoubleColon → IsCast ts n i e j
    cast : (i j k : ℕ) (e : Expr) → IsSimple ts n i e j → Has ts j token.DoubleColon → IsType ts n (j + 1) k → IsCast ts n i (expr_at ts i (expr.Paren e)) k

  pub data IsSimple (ts : List Token) (n : ℕ) : (i : ℕ) (e : Expr) (j : ℕ) → Type 0 where
    -- "nil" | "true" | "false" | Number | String | "..." | InterpWhole
    literal : (i : ℕ) (k : ExprKind) → literal_of (kind_at ts i) ≡ Some k → IsSimple ts n i (expr_at ts i k) (i + 1)
    interp : (i j : ℕ) (x : StrId) (xs : List StrId) (es : List Expr) → Has ts i (token.InterpBegin x) → IsPieces ts n (i + 1) xs es j → IsSimple ts n i (expr_at ts i (expr.Interp (x ∷ xs) es)) j
    function : (i j : ℕ) (xs : List StrId) (v : Bool) (b : List Stat) → Has ts i token.Function → IsBody ts n (i + 1) xs v b j → IsSimple ts n i (expr_at ts i (expr.Function (function_at ts i xs v b))) j
    constructor : (i j : ℕ) (fs : List Field) → IsTable ts n i fs j → IsSimple ts n i (expr_at ts i (expr.Table fs)) j
    prefix : (i j : ℕ) (e : Expr) (d : PrefixEnd) → IsPrefix ts n i e d j → IsSimple ts n i e j
    choice : (i j : ℕ) (arms : List ExprArm) (other : Expr) → Has ts i token.If → IsChoices ts n (i + 1) arms other j → IsSimple ts n i (expr_at ts i (expr.If arms other)) j

  -- expr {InterpMid expr} InterpEnd
  pub data IsPieces (ts : List Token) (n : ℕ) : (i : ℕ) (texts : List StrId) (values : List Expr) (j : ℕ) → Type 0 where
    last_piece : (i j : ℕ) (x : StrId) (e : Expr) → IsExpr ts n i e j → Has ts j (token.InterpEnd x) → IsPieces ts n i (x ∷ []) (e ∷ []) (j + 1)
    more_pieces : (i j k : ℕ) (x : StrId) (xs : List StrId) (e : Expr) (es : List Expr) → IsExpr ts n i e j → Has ts j (token.InterpMid x) → IsPieces ts n (j + 1) xs es k → IsPieces ts n i (x ∷ xs) (e ∷ es) k

  -- expr "then" expr {"elseif" expr "then" expr} "else" expr
  pub data IsChoices (ts : List Token) (n : ℕ) : (i : ℕ) (arms : List ExprArm) (other : Expr) (j : ℕ) → Type 0 where
    last_choice : (i j k l : ℕ) (c v o : Expr) → IsExpr ts n i c j → Has ts j token.Then → IsExpr ts n (j + 1) v k → Has ts k token.Else → IsExpr ts n (k + 1) o l → IsChoices ts n i (expr_arm c v ∷ []) o l
    more_choices : (i j k l : ℕ) (c v o : Expr) (arms : List ExprArm) → IsExpr ts n i c j → Has ts j token.Then → IsExpr ts n (j + 1) v k → Has ts k token.ElseIf → IsChoices ts n (k + 1) arms o l → IsChoices ts n i (expr_arm c v ∷ arms) o l

  -- prefix = Name | "(" expr ")" | prefix "." Name | prefix "[" expr "]" | prefix args | prefix ":" Name args
  pub data IsPrefix (ts : List Token) (n : ℕ) : (i : ℕ) (e : Expr) (end : PrefixEnd) (j : ℕ) → Type 0 where
    name : (i j : ℕ) (x : StrId) (e : Expr) (d : PrefixEnd) → Has ts i (token.Name x) → IsSuffixes ts n i (i + 1) (expr_at ts i (expr.Name x)) in_target e d j → IsPrefix ts n i e d j
    paren : (i j k : ℕ) (a e : Expr) (d : PrefixEnd) → Has ts i token.OpenParen → IsExpr ts n (i + 1) a j → Has ts j token.CloseParen → IsSuffixes ts n i (j + 1) (expr_at ts i (expr.Paren a)) in_paren e d k → IsPrefix ts n i e d k

  -- what a prefix takes behind its part a with the end c; the prefix begins at place b
  pub data IsSuffixes (ts : List Token) (n : ℕ) : (b i : ℕ) (a : Expr) (c : PrefixEnd) (e : Expr) (end : PrefixEnd) (j : ℕ) → Type 0 where
    no_suffix : (b i : ℕ) (a : Expr) (c : PrefixEnd) → IsFalse (opens_suffix (kind_at ts i)) → IsSuffixes ts n b i a c a c i
    member : (b i j : ℕ) (x : StrId) (a e : Expr) (c d : PrefixEnd) → Has ts i token.Dot → Has ts (i + 1) (token.Name x) → IsSuffixes ts n b (i + 2) (expr_at ts b (expr.Member a x)) in_target e d j → IsSuffixes ts n b i a c e d j
    index : (b i j k : ℕ) (a key e : Expr) (c d : PrefixEnd) → Has ts i token.OpenBracket → IsExpr ts n (i + 1) key j → Has ts j token.CloseBracket → IsSuffixes ts n b (j + 1) (expr_at ts b (expr.Index a key)) in_target e d k → IsSuffixes ts n b i a c e d k
    call : (b i j k : ℕ) (args : List Expr) (a e : Expr) (c d : PrefixEnd) → IsArgs ts n i args j → IsSuffixes ts n b j (call_at ts b i (expr.Call a args)) in_call e d k → IsSuffixes ts n b i a c e d k
    method : (b i j k : ℕ) (x : StrId) (args : List Expr) (a e : Expr) (c d : PrefixEnd) → Has ts i token.Colon → Has ts (i + 1) (token.Name x) → IsArgs ts n (i + 2) args j → IsSuffixes ts n b j (call_at ts b (i + 2) (expr.Method a x args)) in_call e d k → IsSuffixes ts n b i a c e d k

  -- args = "(" [list] ")" | table | String
  pub data IsArgs (ts : List Token) (n : ℕ) : (i : ℕ) (args : List Expr) (j : ℕ) → Type 0 where
    no_args : (i : ℕ) → Has ts i token.OpenParen → Has ts (i + 1) token.CloseParen → IsArgs ts n i [] (i + 2)
    args : (i j : ℕ) (es : List Expr) → Has ts i token.OpenParen → Lacks ts (i + 1) token.CloseParen → IsList ts n (i + 1) es j → Has ts j token.CloseParen → IsArgs ts n i es (j + 1)
    table_arg : (i j : ℕ) (fs : List Field) → IsTable ts n i fs j → IsArgs ts n i (expr_at ts i (expr.Table fs) ∷ []) j
    text_arg : (i : ℕ) (x : StrId) → Has ts i (token.Str x) → IsArgs ts n i (expr_at ts i (expr.Str x) ∷ []) (i + 1)

  -- table = "{" [field {("," | ";") field} ["," | ";"]] "}"
  pub data IsTable (ts : List Token) (n : ℕ) : (i : ℕ) (fields : List Field) (j : ℕ) → Type 0 where
    table : (i j : ℕ) (fs : List Field) → Has ts i token.OpenBrace → IsFields ts n (i + 1) fs j → Has ts j token.CloseBrace → IsTable ts n i fs (j + 1)

  pub data IsFields (ts : List Token) (n : ℕ) : (i : ℕ) (fields : List Field) (j : ℕ) → Type 0 where
    no_field : (i : ℕ) → Has ts i token.CloseBrace → IsFields ts n i [] i
    last_field : (i j : ℕ) (f : Field) → Lacks ts i token.CloseBrace → IsField ts n i f j → IsFalse (is_separator (kind_at ts j)) → IsFields ts n i (f ∷ []) j
    more_fields : (i j k : ℕ) (f : Field) (fs : List Field) → Lacks ts i token.CloseBrace → IsField ts n i f j → IsTrue (is_separator (kind_at ts j)) → IsFields ts n (j + 1) fs k → IsFields ts n i (f ∷ fs) k

  -- field = "[" expr "]" "=" expr | Name "=" expr | expr
  pub data IsField (ts : List Token) (n : ℕ) : (i : ℕ) (f : Field) (j : ℕ) → Type 0 where
    keyed : (i j k : ℕ) (a c : Expr) → Has ts i token.OpenBracket → IsExpr ts n (i + 1) a j → Has ts j token.CloseBracket → Has ts (j + 1) token.Equal → IsExpr ts n (j + 2) c k → IsField ts n i (field_at ts i (field.Keyed a c)) k
    named : (i j : ℕ) (x : StrId) (e : Expr) → Has ts i (token.Name x) → Has ts (i + 1) token.Equal → IsExpr ts n (i + 2) e j → IsField ts n i (field_at ts i (field.Named x e)) j
    item : (i j : ℕ) (e : Expr) → Lacks ts i token.OpenBracket → IsFalse (opens_named ts i) → IsExpr ts n i e j → IsField ts n i (field_at ts i (field.Item e)) j

  -- body = [generics] "(" [params] ")" [":" type] block "end"
  pub data IsBody (ts : List Token) (n : ℕ) : (i : ℕ) (names : List StrId) (vararg : Bool) (block : List Stat) (j : ℕ) → Type 0 where
    body : (i j k l m : ℕ) (xs : List StrId) (v : Bool) (b : List Stat) → IsGenerics ts n i j → Has ts j token.OpenParen → IsParamList ts n (j + 1) xs v k → Has ts k token.CloseParen → IsTyping ts n (k + 1) l → IsBlock ts n l b m → Has ts m token.End → IsBody ts n i xs v b (m + 1)

  -- block = {stat [";"]} [last [";"]]. A definition of a type leaves no node
  pub data IsBlock (ts : List Token) (n : ℕ) : (i : ℕ) (block : List Stat) (j : ℕ) → Type 0 where
    no_stat : (i : ℕ) → IsTrue (ends_block (kind_at ts i)) → IsBlock ts n i [] i
    typing_stat : (i j k l : ℕ) (b : List Stat) → IsTrue (opens_type ts i) → IsTypeStat ts n i j → Optional ts token.Semicolon j k → IsBlock ts n k b l → IsBlock ts n i b l
    more_stats : (i j k l : ℕ) (s : Stat) (b : List Stat) → IsFalse (opens_type ts i) → IsFalse (is_continue ts i) → IsStat ts n i s j → Optional ts token.Semicolon j k → IsBlock ts n k b l → IsBlock ts n i (s ∷ b) l
    last_stat : (i j k : ℕ) (s : Stat) → IsLast ts n i s j → Optional ts token.Semicolon j k → IsTrue (ends_block (kind_at ts k)) → IsBlock ts n i (s ∷ []) k

  -- last = "return" [list] | "break" | "continue"
  pub data IsLast (ts : List Token) (n : ℕ) : (i : ℕ) (s : Stat) (j : ℕ) → Type 0 where
    bare_return : (i : ℕ) → Has ts i token.Return → IsTrue (ends_last ts (i + 1)) → IsLast ts n i (stat_at ts i (stat.Return [])) (i + 1)
    return : (i j : ℕ) (es : List Expr) → Has ts i token.Return → IsFalse (ends_last ts (i + 1)) → IsList ts n (i + 1) es j → IsLast ts n i (stat_at ts i (stat.Return es)) j
    break : (i : ℕ) → Has ts i token.Break → IsLast ts n i (stat_at ts i stat.Break) (i + 1)
    continue : (i : ℕ) → IsTrue (is_continue ts i) → IsLast ts n i (stat_at ts i stat.Continue) (i + 1)

  pub data IsStat (ts : List Token) (n : ℕ) : (i : ℕ) (s : Stat) (j : ℕ) → Type 0 where
    -- target {"," target} "=" list
    assign : (i j k : ℕ) (es vs : List Expr) → IsTargets ts n i es j → Has ts j token.Equal → IsList ts n (j + 1) vs k → IsStat ts n i (stat_at ts i (stat.Assign es vs)) k
    -- target compound expr
    compound : (i j k : ℕ) (op : BinOp) (e v : Expr) → IsPrefix ts n i e in_target j → compound_operator (kind_at ts j) ≡ Some op → IsExpr ts n (j + 1) v k → IsStat ts n i (stat_at ts i (stat.Compound op e v)) k
    call_stat : (i j : ℕ) (e : Expr) → IsPrefix ts n i e in_call j → IsStat ts n i (stat_at ts i (stat.Call e)) j
    -- "do" block "end"
    do_stat : (i j : ℕ) (b : List Stat) → Has ts i token.Do → IsBlock ts n (i + 1) b j → Has ts j token.End → IsStat ts n i (stat_at ts i (stat.Do b)) (j + 1)
    -- "while" expr "do" block "end"
    while_stat : (i j k : ℕ) (c : Expr) (b : List Stat) → Has ts i token.While → IsExpr ts n (i + 1) c j → Has ts j token.Do → IsBlock ts n (j + 1) b k → Has ts k token.End → IsStat ts n i (stat_at ts i (stat.While c b)) (k + 1)
    -- "repeat" block "until" expr
    repeat_stat : (i j k : ℕ) (b : List Stat) (c : Expr) → Has ts i token.Repeat → IsBlock ts n (i + 1) b j → Has ts j token.Until → IsExpr ts n (j + 1) c k → IsStat ts n i (stat_at ts i (stat.Repeat b c)) k
    -- "if" arms
    if_stat : (i j : ℕ) (arms : List Arm) (other : Option (List Stat)) → Has ts i token.If → IsArms ts n (i + 1) arms other j → IsStat ts n i (stat_at ts i (stat.If arms other)) j
    -- "for" bind "=" expr "," expr ["," expr] "do" block "end"
    num_for : (i j k l m p : ℕ) (x : StrId) (start limit : Expr) (step : Option Expr) (b : List Stat) → Has ts i token.For → IsBind ts n (i + 1) x j → Has ts j token.Equal → IsExpr ts n (j + 1) start k → Has ts k token.Comma → IsExpr ts n (k + 1) limit l → IsStep ts n l step m → Has ts m token.Do → IsBlock ts n (m + 1) b p → Has ts p token.End → IsStat ts n i (stat_at ts i (stat.NumFor x start limit step b)) (p + 1)
    -- "for" bind {"," bind} "in" list "do" block "end"
    gen_for : (i j k l : ℕ) (xs : List StrId) (es : List Expr) (b : List Stat) → Has ts i token.For → IsBinds ts n (i + 1) xs j → Has ts j token.In → IsList ts n (j + 1) es k → Has ts k token.Do → IsBlock ts n (k + 1) b l → Has ts l token.End → IsStat ts n i (stat_at ts i (stat.GenFor xs es b)) (l + 1)
    -- "function" Name {"." Name} [":" Name] body: the assignment of a function
    function_stat : (i j k : ℕ) (e : Expr) (added xs : List StrId) (v : Bool) (b : List Stat) → Has ts i token.Function → IsFunctionName ts (i + 1) e added j → IsBody ts n j xs v b k → IsStat ts n i (stat_at ts i (stat.Assign (e ∷ []) (expr_at ts i (expr.Function (function_at ts i (added ++ xs) v b)) ∷ []))) k
    -- "local" "function" Name body
    local_function : (i j : ℕ) (x : StrId) (xs : List StrId) (v : Bool) (b : List Stat) → Has ts i token.Local → Has ts (i + 1) token.Function → Has ts (i + 2) (token.Name x) → IsBody ts n (i + 3) xs v b j → IsStat ts n i (stat_at ts i (stat.LocalFunction x (function_at ts (i + 1) xs v b))) j
    -- "local" bind {"," bind} ["=" list]
    bare_local : (i j : ℕ) (xs : List StrId) → Has ts i token.Local → IsBinds ts n (i + 1) xs j → Lacks ts j token.Equal → IsStat ts n i (stat_at ts i (stat.Local xs [])) j
    local : (i j k : ℕ) (xs : List StrId) (es : List Expr) → Has ts i token.Local → IsBinds ts n (i + 1) xs j → Has ts j token.Equal → IsList ts n (j + 1) es k → IsStat ts n i (stat_at ts i (stat.Local xs es)) k

  -- target {"," target}
  pub data IsTargets (ts : List Token) (n : ℕ) : (i : ℕ) (es : List Expr) (j : ℕ) → Type 0 where
    last_target : (i j : ℕ) (e : Expr) → IsPrefix ts n i e in_target j → Lacks ts j token.Comma → IsTargets ts n i (e ∷ []) j
    more_targets : (i j k : ℕ) (e : Expr) (es : List Expr) → IsPrefix ts n i e in_target j → Has ts j token.Comma → IsTargets ts n (j + 1) es k → IsTargets ts n i (e ∷ es) k

  -- ["," expr]
  pub data IsStep (ts : List Token) (n : ℕ) : (i : ℕ) (step : Option Expr) (j : ℕ) → Type 0 where
    no_step : (i : ℕ) → Lacks ts i token.Comma → IsStep ts n i None i
    step : (i j : ℕ) (e : Expr) → Has ts i token.Comma → IsExpr ts n (i + 1) e j → IsStep ts n i (Some e) j

  -- expr "then" block {"elseif" expr "then" block} ["else" block] "end"
  pub data IsArms (ts : List Token) (n : ℕ) : (i : ℕ) (arms : List Arm) (other : Option (List Stat)) (j : ℕ) → Type 0 where
    last_arm : (i j k : ℕ) (c : Expr) (b : List Stat) → IsExpr ts n i c j → Has ts j token.Then → IsBlock ts n (j + 1) b k → Has ts k token.End → IsArms ts n i (arm c b ∷ []) None (k + 1)
    else_arm : (i j k l : ℕ) (c : Expr) (b o : List Stat) → IsExpr ts n i c j → Has ts j token.Then → IsBlock ts n (j + 1) b k → Has ts k token.Else → IsBlock ts n (k + 1) o l → Has ts l token.End → IsArms ts n i (arm c b ∷ []) (Some o) (l + 1)
    more_arms : (i j k l : ℕ) (c : Expr) (b : List Stat) (arms : List Arm) (other : Option (List Stat)) → IsExpr ts n i c j → Has ts j token.Then → IsBlock ts n (j + 1) b k → Has ts k token.ElseIf → IsArms ts n (k + 1) arms other l → IsArms ts n i (arm c b ∷ arms) other l
