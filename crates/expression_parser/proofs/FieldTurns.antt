-- A field of a table by turns.
use Rattle.std.proofs.Common.{◌≡◌, ◌<◌, ◌+◌, ℕ, max, true, false, List, ◌∷◌, IsFalse, refl, sym, ap, ap₂, ◌&&◌, ◌∙◌, subst, arith, Option, Some, None, Ok, Err, true≢false}
use Rattle.byte_text.specs.declared.StrId.{StrId}
use Rattle.syntax_tree.specs.declared.token.Token.{Token}
use Rattle.syntax_tree.specs.declared.token.TokenKind.{TokenKind}
use Rattle.syntax_tree.specs.declared.token.TokenKind.TheVariants as token
use Rattle.syntax_tree.specs.declared.tree.Expr.{Expr}
use Rattle.syntax_tree.specs.declared.tree.Field.{Field}
use Rattle.syntax_tree.specs.declared.tree.FieldKind as field
use Rattle.syntax_tree.specs.Grammar as grammar
use Rattle.syntax_tree.specs.Grammar.{in_target, IsExpr, IsField, keyed, named}
use Rattle.syntax_tree.specs.Nodes.{field_at}
use Rattle.syntax_tree.specs.Places.{kind_at, is_name, Has, Lacks}
use Rattle.syntax_tree.specs.Words.{is_equal, opens_named}
use Rattle.parse_steps.specs.declared.levels.Level.TheVariants as levels
use Rattle.parse_steps.specs.declared.levels.Rank.TheVariants as ranks
use Rattle.type_skip.specs.declared.words.Word.TheVariants as words
use Rattle.parse_steps.specs.Classes.{name_of}
use Rattle.parse_steps.specs.Items as item
use Rattle.parse_steps.specs.Items.{Item, in_expression, depth, climb, expression}
use Rattle.parse_steps.specs.Turns.{turn, stays, takes, word_or, name_turn, named_expression}
use Rattle.type_skip.specs.Words.{is_word}
use Rattle.parse_steps.specs.Steps.{most, Leads}
use Rattle.type_skip.proofs.WordTests.{stands_not}
use Rattle.expression_parser.specs.declared.fault.Fault.{Fault}
use Rattle.expression_parser.specs.declared.parts.Part.{Part}
use Rattle.expression_parser.specs.Reading.{Fails, FindsLevel, FindsWord}
use Rattle.expression_parser.specs.Inner.{FindsField}
use Rattle.expression_parser.proofs.Leading.{then_leads, then_fails, staying, taking, nest_to}
use Rattle.expression_parser.proofs.SameTurns.{word_missing, peel_stay, peel_take, peel_stay_fails, peel_take_fails}
use Rattle.expression_parser.proofs.WordTurns.{no_name}

-- ---- a key in brackets

bracket_leads : (ts : List Token) (i v : ℕ) (k : List Item) → Has ts i token.OpenBracket
    → Leads ts i v (item.fields ∷ k) (i + 1) v (expression ∷ item.expects words.CloseBracket ∷ item.expects words.Equal ∷ expression ∷
    item.field_end ∷ k)
bracket_leads ts i v k stands = taking (ap (λ t. turn t v item.fields k) stands) (omega arith) tt

pub key_fault : (ts : List Token) (room i : ℕ) (f : Fault) → Has ts i token.OpenBracket
    → FindsLevel ts room (levels.Of ranks.Ors) (i + 1) (Err f) → FindsField ts room i (Err f)
key_fault ts room i f stands found = λ v k deep. then_fails (bracket_leads ts i v k stands) f
    (found v (item.expects words.CloseBracket ∷ item.expects words.Equal ∷ expression ∷ item.field_end ∷ k) deep)

-- up to behind the key
key_leads : (ts : List Token) (room i : ℕ) (key : Part) (v : ℕ) (k : List Item) → Has ts i token.OpenBracket
    → FindsLevel ts room (levels.Of ranks.Ors) (i + 1) (Ok key) → depth k + room ≡ most
    → Leads ts i v (item.fields ∷ k) key.end (max v key.nest)
    (item.expects words.CloseBracket ∷ item.expects words.Equal ∷ expression ∷ item.field_end ∷ k)
key_leads ts room i key v k stands found deep = then_leads (bracket_leads ts i v k stands)
    (found.1 v (item.expects words.CloseBracket ∷ item.expects words.Equal ∷ expression ∷ item.field_end ∷ k) deep)

pub key_not_closed : (ts : List Token) (room i : ℕ) (key : Part) (f : Fault) → Has ts i token.OpenBracket
    → FindsLevel ts room (levels.Of ranks.Ors) (i + 1) (Ok key) → FindsWord ts key.end words.CloseBracket (Err f)
    → FindsField ts room i (Err f)
key_not_closed ts room i key f stands found closes =
    λ v k deep. then_fails (key_leads ts room i key v k stands found deep) f
    (closes (max v key.nest) (item.expects words.Equal ∷ expression ∷ item.field_end ∷ k))

closed_leads : (ts : List Token) (room i : ℕ) (key : Part) (j v : ℕ) (k : List Item) → Has ts i token.OpenBracket
    → FindsLevel ts room (levels.Of ranks.Ors) (i + 1) (Ok key) → FindsWord ts key.end words.CloseBracket (Ok j) → depth k + room ≡ most
    → Leads ts i v (item.fields ∷ k) j (max v key.nest) (item.expects words.Equal ∷ expression ∷ item.field_end ∷ k)
closed_leads ts room i key j v k stands found closes deep = then_leads (key_leads ts room i key v k stands found deep)
    (closes.1 (max v key.nest) (item.expects words.Equal ∷ expression ∷ item.field_end ∷ k))

pub key_without_equal : (ts : List Token) (room i : ℕ) (key : Part) (j : ℕ) (f : Fault) → Has ts i token.OpenBracket
    → FindsLevel ts room (levels.Of ranks.Ors) (i + 1) (Ok key) → FindsWord ts key.end words.CloseBracket (Ok j)
    → FindsWord ts j words.Equal (Err f) → FindsField ts room i (Err f)
key_without_equal ts room i key j f stands found closes equal =
    λ v k deep. then_fails (closed_leads ts room i key j v k stands found closes deep) f
    (equal (max v key.nest) (expression ∷ item.field_end ∷ k))

value_leads : (ts : List Token) (room i : ℕ) (key : Part) (j h v : ℕ) (k : List Item) → Has ts i token.OpenBracket
    → FindsLevel ts room (levels.Of ranks.Ors) (i + 1) (Ok key) → FindsWord ts key.end words.CloseBracket (Ok j)
    → FindsWord ts j words.Equal (Ok h) → depth k + room ≡ most
    → Leads ts i v (item.fields ∷ k) h (max v key.nest) (expression ∷ item.field_end ∷ k)
value_leads ts room i key j h v k stands found closes equal deep = then_leads (closed_leads ts room i key j v k stands found closes deep)
    (equal.1 (max v key.nest) (expression ∷ item.field_end ∷ k))

pub value_fault : (ts : List Token) (room i : ℕ) (key : Part) (j h : ℕ) (f : Fault) → Has ts i token.OpenBracket
    → FindsLevel ts room (levels.Of ranks.Ors) (i + 1) (Ok key) → FindsWord ts key.end words.CloseBracket (Ok j)
    → FindsWord ts j words.Equal (Ok h)
    → FindsLevel ts room (levels.Of ranks.Ors) h (Err f) → FindsField ts room i (Err f)
value_fault ts room i key j h f stands found closes equal value =
    λ v k deep. then_fails (value_leads ts room i key j h v k stands found closes equal deep) f
    (value (max v key.nest) (item.field_end ∷ k) deep)

whole_keyed : (ts : List Token) (i j l h end : ℕ) (a c : Expr) → l ≡ j + 1 → h ≡ l + 1 → Has ts i token.OpenBracket
    → IsExpr ts most (i + 1) a j → Has ts j token.CloseBracket → Has ts l token.Equal → IsExpr ts most h c end
    → IsField ts most i (field_at ts i (field.Keyed a c)) end
whole_keyed ts i j l h end a c e g opens key close equal value =
    let two_more : h ≡ j + 2 = omega (arith, e, g) in
    keyed i j end a c opens key close (subst (λ (x : ℕ). Has ts x token.Equal) e equal)
    (subst (λ (x : ℕ). IsExpr ts most x c end) two_more value)

pub keyed_found : (ts : List Token) (room i : ℕ) (key : Part) (j h : ℕ) (value : Part) (f : Field) (nest : ℕ)
    → f ≡ field_at ts i (field.Keyed key.expr value.expr) → nest ≡ max key.nest value.nest → Has ts i token.OpenBracket
    → FindsLevel ts room (levels.Of ranks.Ors) (i + 1) (Ok key)
    → FindsWord ts key.end words.CloseBracket (Ok j) → FindsWord ts j words.Equal (Ok h)
    → FindsLevel ts room (levels.Of ranks.Ors) h (Ok value)
    → FindsField ts room i (Ok (record { field = f; nest = nest; end = value.end }))
keyed_found ts room i key j h value f nest same deepest stands found closes equal read =
    let a = grammar.expression (i + 1) key.end key.expr found.0.0 in
    let c = grammar.expression h value.end value.expr read.0.0 in
    let whole = whole_keyed ts i key.end j h value.end key.expr value.expr closes.0.1 equal.0.1 stands a closes.0.0 equal.0.0 c in (
      (
        subst (λ (x : Field). IsField ts most i x value.end) (sym same) whole,
        (omega (arith, deepest, found.0.1.0, read.0.1.0), omega (arith, found.0.1.1, closes.0.1, equal.0.1, read.0.1.1)),
      ),
      λ v k deep.
          let all = then_leads (value_leads ts room i key j h v k stands found closes equal deep)
          (read.1 (max v key.nest) (item.field_end ∷ k) deep) in
          let reached : max (max v key.nest) value.nest ≡ max v nest = omega (arith, deepest) in
          nest_to reached all,
    )

-- ---- a name and a `=`

name_leads : (ts : List Token) (i v : ℕ) (k : List Item) (x : StrId) → Has ts i (token.Name x)
    → Leads ts i v (item.fields ∷ k) (i + 1) v (item.field_name ∷ item.field_end ∷ k)
name_leads ts i v k x stands = taking (ap (λ t. turn t v item.fields k) stands) (omega arith) tt

equal_leads : (ts : List Token) (i v : ℕ) (k : List Item) (x : StrId) → Has ts i (token.Name x) → Has ts (i + 1) token.Equal
    → Leads ts i v (item.fields ∷ k) (i + 1 + 1) v (expression ∷ item.field_end ∷ k)
equal_leads ts i v k x stands equal = then_leads (name_leads ts i v k x stands)
    (taking (ap (λ t. turn t v item.field_name (item.field_end ∷ k)) equal) (omega arith) tt)

to_value : (ts : List Token) (i v : ℕ) (k : List Item) (x : StrId) → Has ts i (token.Name x) → Has ts (i + 1) token.Equal
    → Leads ts i v (item.fields ∷ k) (i + 2) v (expression ∷ item.field_end ∷ k)
to_value ts i v k x stands equal =
    let two_more : i + 1 + 1 ≡ i + 2 = omega arith in
    subst (λ (j : ℕ). Leads ts i v (item.fields ∷ k) j v (expression ∷ item.field_end ∷ k)) two_more (equal_leads ts i v k x stands equal)

pub named_fault : (ts : List Token) (room i : ℕ) (x : StrId) (f : Fault) → Has ts i (token.Name x) → Has ts (i + 1) token.Equal
    → FindsLevel ts room (levels.Of ranks.Ors) (i + 2) (Err f) → FindsField ts room i (Err f)
named_fault ts room i x f stands equal found = λ v k deep. then_fails (to_value ts i v k x stands equal) f
    (found v (item.field_end ∷ k) deep)

pub named_found : (ts : List Token) (room i : ℕ) (x : StrId) (p : Part) (f : Field) → f ≡ field_at ts i (field.Named x p.expr)
    → Has ts i (token.Name x) → Has ts (i + 1) token.Equal → FindsLevel ts room (levels.Of ranks.Ors) (i + 2) (Ok p)
    → FindsField ts room i (Ok (record { field = f; nest = p.nest; end = p.end }))
named_found ts room i x p f same stands equal found =
    let whole = named i p.end x p.expr stands equal (grammar.expression (i + 2) p.end p.expr found.0.0) in (
      (subst (λ (y : Field). IsField ts most i y p.end) (sym same) whole, (found.0.1.0, omega (arith, found.0.1.1))),
      λ v k deep. then_leads (to_value ts i v k x stands equal) (found.1 v (item.field_end ∷ k) deep),
    )

-- ---- an expression alone

named_there : (x : StrId) (t : Option TokenKind) → name_of t ≡ Some x → t ≡ Some (token.Name x)
named_there x (Some (token.Name y)) e = ap (λ (o : Option StrId). name_kind o) e
  where
    name_kind : Option StrId → Option TokenKind
    name_kind (Some z) = Some (token.Name z)
    name_kind None = None
named_there x _ e = absurd (omega (arith, ap presence e))
  where
    presence : Option StrId → ℕ
    presence None = 0
    presence (Some z) = 1

-- what is to be read behind a name that begins an expression
abbrev behind_name : ℕ → List Item → List Item
behind_name v k = item.cast ∷ item.power ∷ climb (levels.Of ranks.Ors) (item.greater v ∷ item.field_end ∷ k)

-- where no `=` stands behind a name, the name begins an expression
name_alone : (ts : List Token) (i v : ℕ) (k : List Item) (x : StrId) → Has ts i (token.Name x)
    → is_word words.Equal (kind_at ts (i + 1)) ≡ false → Leads ts i v (item.fields ∷ k) (i + 1) 0
    (item.suffixes in_target in_expression ∷ behind_name v k)
name_alone ts i v k x stands no_equal =
    let goes : turn (kind_at ts (i + 1)) v item.field_name (item.field_end ∷ k) ≡ stays 0
    (item.suffixes in_target in_expression ∷ behind_name v k) = word_missing words.Equal (kind_at ts (i + 1))
    (takes 0 v (expression ∷ item.field_end ∷ k)) (named_expression v (item.field_end ∷ k)) no_equal in
    then_leads (name_leads ts i v k x stands) (staying goes)

-- the same behind the turns at a name where an expression begins
name_peeled : (ts : List Token) (i v : ℕ) (k : List Item) (x : StrId) {j w : ℕ} {l : List Item} → Has ts i (token.Name x) → i < j
    → Leads ts i v (expression ∷ item.field_end ∷ k) j w l
    → Leads ts (i + 1) 0 (item.suffixes in_target in_expression ∷ behind_name v k) j w l
name_peeled ts i v k x stands onward r =
    let rest : List Item = climb (levels.Of ranks.Ors) (item.greater v ∷ item.field_end ∷ k) in
    let at_unary : turn (kind_at ts i) 0 item.unary rest ≡ stays 0 (item.simple ∷ item.cast ∷ item.power ∷ rest) = ap
    (λ t. turn t 0 item.unary rest) stands in
    let at_simple : turn (kind_at ts i) 0 item.simple (item.cast ∷ item.power ∷ rest) ≡ takes 0 0
    (item.suffixes in_target in_expression ∷ item.cast ∷ item.power ∷ rest) = ap
    (λ t. turn t 0 item.simple (item.cast ∷ item.power ∷ rest)) stands in
    peel_take at_simple onward (peel_stay at_unary onward (peel_stay refl onward r))

name_peeled_fails : (ts : List Token) (i v : ℕ) (k : List Item) (x : StrId) (f : Fault) → Has ts i (token.Name x)
    → Fails ts i v (expression ∷ item.field_end ∷ k) f → Fails ts (i + 1) 0 (item.suffixes in_target in_expression ∷ behind_name v k) f
name_peeled_fails ts i v k x f stands r =
    let rest : List Item = climb (levels.Of ranks.Ors) (item.greater v ∷ item.field_end ∷ k) in
    let at_unary : turn (kind_at ts i) 0 item.unary rest ≡ stays 0 (item.simple ∷ item.cast ∷ item.power ∷ rest) = ap
    (λ t. turn t 0 item.unary rest) stands in
    let at_simple : turn (kind_at ts i) 0 item.simple (item.cast ∷ item.power ∷ rest) ≡ takes 0 0
    (item.suffixes in_target in_expression ∷ item.cast ∷ item.power ∷ rest) = ap
    (λ t. turn t 0 item.simple (item.cast ∷ item.power ∷ rest)) stands in
    peel_take_fails ts i 0 item.simple (item.cast ∷ item.power ∷ rest) 0 0
    (item.suffixes in_target in_expression ∷ item.cast ∷ item.power ∷ rest) at_simple (omega arith) refl f
    (peel_stay_fails ts i 0 item.unary rest 0 (item.simple ∷ item.cast ∷ item.power ∷ rest) at_unary refl f
    (peel_stay_fails ts i v expression (item.field_end ∷ k) 0 (item.unary ∷ rest) refl refl f r))

-- what no other kind of field begins with
pub record IsItem (ts : List Token) (i : ℕ) : Type 0 where
  pub more : Lacks ts i token.CloseBrace
  pub no_key : Lacks ts i token.OpenBracket
  pub no_name : IsFalse (opens_named ts i)

no_equal_behind : (ts : List Token) (i : ℕ) (x : StrId) → IsItem ts i → Has ts i (token.Name x)
    → is_word words.Equal (kind_at ts (i + 1)) ≡ false
no_equal_behind ts i x only stands = stands_not words.Equal (kind_at ts (i + 1)) (λ equal. true≢false (sym (both equal) ∙ only.no_name))
  where
    both : Has ts (i + 1) token.Equal → opens_named ts i ≡ true
    both equal = ap₂ (λ a b. is_name a && is_equal b) stands equal

no_name_turn : (ts : List Token) (i v : ℕ) (k : List Item) → IsItem ts i → name_of (kind_at ts i) ≡ None
    → turn (kind_at ts i) v item.fields k ≡ stays v (expression ∷ item.field_end ∷ k)
no_name_turn ts i v k only none =
    let t = kind_at ts i in
    let plain = stays v (expression ∷ item.field_end ∷ k) in
    let at_name = name_turn (name_of t) (takes 0 v (item.field_name ∷ item.field_end ∷ k)) plain in
    let key = takes 0 v (expression ∷ item.expects words.CloseBracket ∷ item.expects words.Equal ∷ expression ∷ item.field_end ∷ k) in
    word_missing words.CloseBrace t (takes 0 v k) (word_or words.OpenBracket t key at_name) (stands_not words.CloseBrace t only.more) ∙
    word_missing words.OpenBracket t key at_name (stands_not words.OpenBracket t only.no_key) ∙
    no_name ts i (takes 0 v (item.field_name ∷ item.field_end ∷ k)) plain none

item_leads : (ts : List Token) (i v : ℕ) (k : List Item) {j w : ℕ} {l : List Item} → IsItem ts i → i < j
    → Leads ts i v (expression ∷ item.field_end ∷ k) j w l → Leads ts i v (item.fields ∷ k) j w l
item_leads ts i v k {j} {w} {l} only onward r = decide (name_of (kind_at ts i)) refl
  where
    decide : (o : Option StrId) → name_of (kind_at ts i) ≡ o → Leads ts i v (item.fields ∷ k) j w l
    decide None e = then_leads (staying (no_name_turn ts i v k only e)) r
    decide (Some x) e =
        let stands = named_there x (kind_at ts i) e in
        then_leads (name_alone ts i v k x stands (no_equal_behind ts i x only stands)) (name_peeled ts i v k x stands onward r)

item_fails : (ts : List Token) (i v : ℕ) (k : List Item) (f : Fault) → IsItem ts i → Fails ts i v (expression ∷ item.field_end ∷ k) f
    → Fails ts i v (item.fields ∷ k) f
item_fails ts i v k f only r = decide (name_of (kind_at ts i)) refl
  where
    decide : (o : Option StrId) → name_of (kind_at ts i) ≡ o → Fails ts i v (item.fields ∷ k) f
    decide None e = then_fails (staying (no_name_turn ts i v k only e)) f r
    decide (Some x) e =
        let stands = named_there x (kind_at ts i) e in
        then_fails (name_alone ts i v k x stands (no_equal_behind ts i x only stands)) f (name_peeled_fails ts i v k x f stands r)

pub item_fault : (ts : List Token) (room i : ℕ) (f : Fault) → IsItem ts i → FindsLevel ts room (levels.Of ranks.Ors) i (Err f)
    → FindsField ts room i (Err f)
item_fault ts room i f only found = λ v k deep. item_fails ts i v k f only (found v (item.field_end ∷ k) deep)

pub item_found : (ts : List Token) (room i : ℕ) (p : Part) (f : Field) → f ≡ field_at ts i (field.Item p.expr) → IsItem ts i
    → FindsLevel ts room (levels.Of ranks.Ors) i (Ok p) → FindsField ts room i (Ok (record { field = f; nest = p.nest; end = p.end }))
item_found ts room i p f same only found =
    let whole = grammar.item i p.end p.expr only.no_key only.no_name (grammar.expression i p.end p.expr found.0.0) in (
      (subst (λ (y : Field). IsField ts most i y p.end) (sym same) whole, found.0.1),
      λ v k deep. item_leads ts i v k only found.0.1.1 (found.1 v (item.field_end ∷ k) deep),
    )
