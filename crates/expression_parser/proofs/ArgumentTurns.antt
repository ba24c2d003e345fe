-- The turns at arguments, and at a call, whose first turn is that of its arguments.
use Rattle.std.proofs.Common.{◌≡◌, ◌≤◌, ◌<◌, ◌+◌, ◌-◌, ℕ, max, inl, inr, List, ◌∷◌, refl, sym, ap, ◌∙◌, subst, arith, Err, Option, Some}
use Rattle.byte_text.specs.declared.StrId.{StrId}
use Rattle.syntax_tree.specs.declared.token.Token.{Token}
use Rattle.syntax_tree.specs.declared.token.TokenKind.{TokenKind}
use Rattle.syntax_tree.specs.declared.token.TokenKind.TheVariants as token
use Rattle.syntax_tree.specs.Grammar.{PrefixEnd, in_call}
use Rattle.syntax_tree.specs.Places.{kind_at, Has, Lacks}
use Rattle.parse_steps.specs.declared.classes.Arguments.{Arguments}
use Rattle.parse_steps.specs.declared.classes.Arguments.TheVariants as argument
use Rattle.parse_steps.specs.declared.classes.Suffix.{Suffix}
use Rattle.parse_steps.specs.declared.classes.Suffix.TheVariants as suffix_class
use Rattle.type_skip.specs.declared.words.Word.TheVariants as word
use Rattle.parse_steps.specs.Classes as classes
use Rattle.parse_steps.specs.Items as item
use Rattle.parse_steps.specs.Items.{Item, PrefixUse, depth}
use Rattle.parse_steps.specs.Steps.{here, stay, take, no_turn, deep_node}
use Rattle.parse_steps.specs.Steps.{most, InTime, IsLatePlace, Leads, Reaches, IsStuck, IsDeep, IsLate}
use Rattle.parse_steps.specs.Turns.{Turn, turn, stays, takes, suffix_turn, arguments_turn, next_reach}
use Rattle.expression_parser.specs.declared.fault.Fault.{Fault}
use Rattle.expression_parser.specs.declared.fault.Fault.TheVariants as fault
use Rattle.expression_parser.specs.Reading.{Fails, FindsTable}
use Rattle.expression_parser.proofs.Leading.{then_leads, then_fails, staying, taking, stuck_here, deep_here}
use Rattle.expression_parser.proofs.SuffixTurns.{in_time}
use Rattle.expression_parser.proofs.WordTurns.{at_word, no_word}

-- ---- a call

-- the turns of both states are one
pub one_turn : (ts : List Token) (c : PrefixEnd) (u : PrefixUse) (i v : ℕ) (k : List Item)
    → classes.suffix (kind_at ts i) ≡ suffix_class.Call
    → turn (kind_at ts i) v (item.suffixes c u) k ≡ turn (kind_at ts i) v item.arguments (item.wrap ∷ item.suffixes in_call u ∷ k)
one_turn ts c u i v k opens = ap (λ (s : Suffix). suffix_turn s c u (kind_at ts i) v k) opens

-- so turns that begin at the arguments begin at the call
pub call_leads : {ts : List Token} {i v j w : ℕ} {k l : List Item} (c : PrefixEnd) (u : PrefixUse)
    → classes.suffix (kind_at ts i) ≡ suffix_class.Call → i < j
    → Leads ts i v (item.arguments ∷ item.wrap ∷ item.suffixes in_call u ∷ k) j w l → Leads ts i v (item.suffixes c u ∷ k) j w l
call_leads c u opens less (here i v l) = absurd (omega (arith, less))
call_leads {ts = ts} {k = k} c u opens less (stay i v z j w x m more l e rest) = stay i v z j w (item.suffixes c u) k more l
    (one_turn ts c u i v k opens ∙ e) rest
call_leads {ts = ts} {k = k} c u opens less (take i v z j w r x m more l e le fine rest) = take i v z j w r (item.suffixes c u) k more l
    (one_turn ts c u i v k opens ∙ e) le fine rest

-- where there is no turn at the arguments there is none at the call
call_stuck : {ts : List Token} {i v p : ℕ} {k : List Item} (c : PrefixEnd) (u : PrefixUse)
    → classes.suffix (kind_at ts i) ≡ suffix_class.Call
    → IsStuck ts i v (item.arguments ∷ item.wrap ∷ item.suffixes in_call u ∷ k) p → IsStuck ts i v (item.suffixes c u ∷ k) p
call_stuck {ts = ts} {k = k} c u opens (no_turn i v x m e other) = no_turn i v (item.suffixes c u) k (one_turn ts c u i v k opens ∙ e)
    (λ clash. absurd cc)

call_deep : {ts : List Token} {i v p : ℕ} {k : List Item} (c : PrefixEnd) (u : PrefixUse)
    → classes.suffix (kind_at ts i) ≡ suffix_class.Call
    → IsDeep ts i v (item.arguments ∷ item.wrap ∷ item.suffixes in_call u ∷ k) p → IsDeep ts i v (item.suffixes c u ∷ k) p
call_deep {ts = ts} {k = k} c u opens (deep_node i v r z x m more e less) = deep_node i v r z (item.suffixes c u) k more
    (one_turn ts c u i v k opens ∙ e) less

call_late : {ts : List Token} {i v : ℕ} {k m : List Item} (c : PrefixEnd) (u : PrefixUse) → IsLate ts i v (item.arguments ∷ m)
    → IsLate ts i v (item.suffixes c u ∷ k)
call_late {k = k} c u late = record {
  before = late.before;
  place = late.place;
  late = late.late;
  item = item.suffixes c u;
  rest = k;
  stack = refl;
  opens = refl;
}

call_reaches : {ts : List Token} {i v j w : ℕ} {k l : List Item} {End : (j w : ℕ) (l : List Item) → Type 0} (c : PrefixEnd) (u : PrefixUse)
    → classes.suffix (kind_at ts i) ≡ suffix_class.Call
    → (End i v (item.arguments ∷ item.wrap ∷ item.suffixes in_call u ∷ k) → End i v (item.suffixes c u ∷ k))
    → Leads ts i v (item.arguments ∷ item.wrap ∷ item.suffixes in_call u ∷ k) j w l → End j w l → Reaches ts i v (item.suffixes c u ∷ k) End
call_reaches {k = k} c u opens over (here i v l) ends = record {
  at = i;
  nest = v;
  todo = item.suffixes c u ∷ k;
  run = here i v
      (item.suffixes c u ∷ k);
  ends = over ends;
}
call_reaches {ts = ts} {k = k} c u opens over (stay i v z j w x m more l e rest) ends = record {
  at = j;
  nest = w;
  todo = l;
  run = stay i v z j w (item.suffixes c u) k more l (one_turn ts c u i v k opens ∙ e) rest;
  ends = ends;
}
call_reaches {ts = ts} {k = k} c u opens over (take i v z j w r x m more l e le fine rest) ends = record {
  at = j;
  nest = w;
  todo = l;
  run = take i v z j w r (item.suffixes c u) k more l (one_turn ts c u i v k opens ∙ e) le fine rest;
  ends = ends;
}

pub call_fails : (ts : List Token) (i v : ℕ) (k : List Item) (c : PrefixEnd) (u : PrefixUse)
    → classes.suffix (kind_at ts i) ≡ suffix_class.Call → (f : Fault)
    → Fails ts i v (item.arguments ∷ item.wrap ∷ item.suffixes in_call u ∷ k) f → Fails ts i v (item.suffixes c u ∷ k) f
call_fails ts i v k c u opens (fault.Unexpected p) r =
    call_reaches {End = λ j w l. IsStuck ts j w l p} c u opens (call_stuck c u opens) r.run r.ends
call_fails ts i v k c u opens (fault.TooDeep p) r =
    call_reaches {End = λ j w l. IsDeep ts j w l p} c u opens (call_deep c u opens) r.run r.ends
call_fails ts i v k c u opens (fault.Late p) r =
    call_reaches {End = λ j w l. (j ≡ p) × IsLate ts j w l} c u opens (λ e. (e.0, call_late c u e.1)) r.run r.ends
call_fails ts i v k c u opens fault.OutOfMemory r = tt

-- ---- arguments

-- no arguments
pub no_arguments : (ts : List Token) (i v : ℕ) (k : List Item) → classes.arguments (kind_at ts i) ≡ argument.Nothing
    → Fails ts i v (item.arguments ∷ k) (fault.Unexpected i)
no_arguments ts i v k none = stuck_here (ap (λ (a : Arguments). arguments_turn a v k) none) (λ clash. absurd cc)

-- a text alone
pub at_text : (ts : List Token) (x : StrId) (i v room : ℕ) (k : List Item) → Has ts i (token.Str x) → v < room → depth k + room ≡ most
    → Leads ts i v (item.arguments ∷ item.wrap ∷ k) (i + 1) v (item.wrap ∷ k)
at_text ts x i v room k stands less deep =
    taking (ap (λ t. turn t v item.arguments (item.wrap ∷ k)) stands) (omega (arith, less, deep))
    (in_time ts i (token.Str x) stands (λ e. omega (arith, e)))

-- a `(`, in time or not
pub late_here : {ts : List Token} {i v : ℕ} {k : List Item} → IsLatePlace ts i → Fails ts i v (item.arguments ∷ k) (fault.Late i)
late_here {ts = ts} {i = i} {v = v} {k = k} late = record {
  at = i;
  nest = v;
  todo = item.arguments ∷ k;
  run = here i v (item.arguments ∷ k);
  ends = (refl, record { before = late.0; place = late.1; late = late.2; item = item.arguments; rest = k; stack = refl; opens = refl });
}

pub at_paren : (ts : List Token) (i v room : ℕ) (k : List Item) → Has ts i token.OpenParen → InTime ts i → v < room → depth k + room ≡ most
    → Leads ts i v (item.arguments ∷ item.wrap ∷ k) (i + 1) v (item.argument_list ∷ item.wrap ∷ k)
at_paren ts i v room k stands timely less deep =
    taking (ap (λ t. turn t v item.arguments (item.wrap ∷ k)) stands) (omega (arith, less, deep)) timely

-- nothing between the parentheses, and expressions there
pub at_nothing : (ts : List Token) (i v : ℕ) (k : List Item) → Has ts i token.CloseParen → Leads ts i v (item.argument_list ∷ k) (i + 1) v k
at_nothing ts i v k stands =
    taking (at_word ts i word.CloseParen (takes 0 v k) (stays v (item.expression ∷ item.list_more ∷ item.expects word.CloseParen ∷ k))
    stands) (omega arith) tt

pub at_list : (ts : List Token) (i v : ℕ) (k : List Item) → Lacks ts i token.CloseParen
    → Leads ts i v (item.argument_list ∷ k) i v (item.expression ∷ item.list_more ∷ item.expects word.CloseParen ∷ k)
at_list ts i v k absent =
    staying (no_word ts i word.CloseParen (takes 0 v k) (stays v (item.expression ∷ item.list_more ∷ item.expects word.CloseParen ∷ k))
    absent)

pub to_list : (ts : List Token) (i v room : ℕ) (k : List Item) → Has ts i token.OpenParen → InTime ts i → Lacks ts (i + 1) token.CloseParen
    → v < room → depth k + room ≡ most
    → Leads ts i v (item.arguments ∷ item.wrap ∷ k) (i + 1) v (item.expression ∷ item.list_more ∷ item.expects word.CloseParen ∷
    item.wrap ∷ k)
to_list ts i v room k stands timely absent less deep =
    then_leads (at_paren ts i v room k stands timely less deep) (at_list ts (i + 1) v (item.wrap ∷ k) absent)

-- a table alone
table_turn : (ts : List Token) (i v : ℕ) (k : List Item) → Has ts i token.OpenBrace
    → turn (kind_at ts i) v item.arguments k ≡ takes (max (depth k + v) (next_reach 0 k)) 0 (item.fields ∷ item.wrap ∷ item.greater v ∷ k)
table_turn ts i v k stands = ap (λ t. turn t v item.arguments k) stands

pub at_table : (ts : List Token) (i v room : ℕ) (k : List Item) → Has ts i token.OpenBrace → v < room → 1 ≤ room - 1 → depth k + room ≡ most
    → Leads ts i v (item.arguments ∷ item.wrap ∷ k) (i + 1) 0 (item.fields ∷ item.wrap ∷ item.greater v ∷ item.wrap ∷ k)
at_table ts i v room k stands less enough deep =
    taking (table_turn ts i v (item.wrap ∷ k) stands) (omega (arith, less, enough, deep))
    (in_time ts i token.OpenBrace stands (λ e. omega (arith, e)))

deep_table : (ts : List Token) (i v room : ℕ) (k : List Item) → Has ts i token.OpenBrace → v < room → room - 1 ≡ 0 → depth k + room ≡ most
    → Fails ts i v (item.arguments ∷ item.wrap ∷ k) (fault.TooDeep i)
deep_table ts i v room k stands less full deep = deep_here (table_turn ts i v (item.wrap ∷ k) stands) (omega (arith, less, full, deep))

-- a table that cannot be read
pub table_fails : (ts : List Token) (i v room : ℕ) (k : List Item) → Has ts i token.OpenBrace → v < room → depth k + room ≡ most
    → (f : Fault) → FindsTable ts (room - 1) i (Err f) → Fails ts i v (item.arguments ∷ item.wrap ∷ k) f
table_fails ts i v room k stands less deep (fault.Unexpected p) r =
    then_fails (at_table ts i v room k stands less r.0 deep) (fault.Unexpected p)
    (r.1 (item.greater v ∷ item.wrap ∷ k) (omega (arith, deep, less)))
table_fails ts i v room k stands less deep (fault.TooDeep p) (inl full) =
    subst (λ (q : ℕ). Fails ts i v (item.arguments ∷ item.wrap ∷ k) (fault.TooDeep q)) (sym full.1)
    (deep_table ts i v room k stands less full.0 deep)
table_fails ts i v room k stands less deep (fault.TooDeep p) (inr r) =
    then_fails (at_table ts i v room k stands less r.0 deep) (fault.TooDeep p)
    (r.1 (item.greater v ∷ item.wrap ∷ k) (omega (arith, deep, less)))
table_fails ts i v room k stands less deep (fault.Late p) r =
    then_fails (at_table ts i v room k stands less r.0 deep) (fault.Late p)
    (r.1 (item.greater v ∷ item.wrap ∷ k) (omega (arith, deep, less)))
table_fails ts i v room k stands less deep fault.OutOfMemory r = tt

-- turns to behind a table
pub past_table : (ts : List Token) (i v room j nest : ℕ) (k : List Item) → Has ts i token.OpenBrace → v < room → 1 ≤ room - 1
    → depth k + room ≡ most
    → ((l : List Item) → depth l + (room - 1) ≡ most → Leads ts (i + 1) 0 (item.fields ∷ item.wrap ∷ l) j nest l)
    → Leads ts i v (item.arguments ∷ item.wrap ∷ k) j (max v nest) (item.wrap ∷ k)
past_table ts i v room j nest k stands less enough deep read =
    then_leads (at_table ts i v room k stands less enough deep) (then_leads
    (read (item.greater v ∷ item.wrap ∷ k) (omega (arith, deep, less))) (staying refl))

-- a turn that takes the token, where at least so many nodes are around each other
record IsTaken (least_reach : ℕ) (t : Turn) : Type 0 where
  pub reach : ℕ
  pub nest : ℕ
  pub todo : List Item
  pub is : t ≡ takes reach nest todo
  pub least : least_reach ≤ reach

-- no room for the node of a call
arguments_reach : (t : Option TokenKind) (v : ℕ) (k : List Item) → classes.suffix t ≡ suffix_class.Call
    → IsTaken (depth k + v) (arguments_turn (classes.arguments t) v k)
arguments_reach (Some token.OpenParen) v k e =
    record { reach = depth k + v; nest = v; todo = item.argument_list ∷ k; is = refl; least = omega arith }
arguments_reach (Some token.OpenBrace) v k e =
    record {
      reach = max (depth k + v) (next_reach 0 k);
      nest = 0;
      todo = item.fields ∷ item.wrap ∷ item.greater v ∷ k;
      is = refl;
      least = omega arith;
    }
arguments_reach (Some (token.Str x)) v k e = record { reach = depth k + v; nest = v; todo = k; is = refl; least = omega arith }
arguments_reach _ v k e = absurd cc

pub deep_call : (ts : List Token) (c : PrefixEnd) (u : PrefixUse) (i v room : ℕ) (k : List Item)
    → classes.suffix (kind_at ts i) ≡ suffix_class.Call → room ≤ v → depth k + room ≡ most
    → Fails ts i v (item.suffixes c u ∷ k) (fault.TooDeep i)
deep_call ts c u i v room k opens le deep =
    let taken = arguments_reach (kind_at ts i) v (item.wrap ∷ item.suffixes in_call u ∷ k) opens in
    deep_here (one_turn ts c u i v k opens ∙ taken.is) (omega (arith, le, deep, taken.least))
