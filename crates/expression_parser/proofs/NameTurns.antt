-- Names with types, and types behind a colon, by turns.
use Rattle.std.proofs.Common.{◌≡◌, ◌+◌, ℕ, true, false, List, ◌∷◌, refl, ap, arith, Result, Ok, Err}
use Rattle.byte_text.specs.declared.StrId.{StrId}
use Rattle.syntax_tree.specs.declared.token.Token.{Token}
use Rattle.syntax_tree.specs.declared.token.TokenKind.TheVariants as token
use Rattle.syntax_tree.specs.Grammar.{untyped, typed, bind}
use Rattle.syntax_tree.specs.Places.{kind_at, Has}
use Rattle.type_skip.specs.declared.words.Word.TheVariants as words
use Rattle.parse_steps.specs.Classes.{name_of}
use Rattle.parse_steps.specs.Items as item
use Rattle.parse_steps.specs.Items.{Item}
use Rattle.parse_steps.specs.Turns.{turn, stays, takes, stops}
use Rattle.type_skip.specs.Words.{is_word}
use Rattle.parse_steps.specs.Steps.{Leads}
use Rattle.type_skip.proofs.WordTests.{has, lacks}
use Rattle.expression_parser.specs.declared.fault.Fault.{Fault}
use Rattle.expression_parser.specs.Reading.{FindsType, FindsName, FindsBind}
use Rattle.expression_parser.specs.Inner.{FindsTyping}
use Rattle.expression_parser.proofs.Leading.{then_leads, then_fails, staying, taking}
use Rattle.expression_parser.proofs.SameTurns.{word_taken, word_missing, same_fails}
use Rattle.expression_parser.proofs.WordTurns.{at_name}

-- ---- a `:` and a type

colon_turn : (ts : List Token) (i v : ℕ) (k : List Item) → is_word words.Colon (kind_at ts i) ≡ true
    → Leads ts i v (item.typing ∷ k) (i + 1) v (item.a_type ∷ k)
colon_turn ts i v k stands = taking (word_taken words.Colon (kind_at ts i) (takes 0 v (item.a_type ∷ k)) (stays v k) stands) (omega arith)
    tt

pub typed_found : (ts : List Token) (i : ℕ) (r : Result ℕ Fault) → is_word words.Colon (kind_at ts i) ≡ true → FindsType ts (i + 1) r
    → FindsTyping ts i r
typed_found ts i (Ok j) stands found = (
  (typed i j (has words.Colon (kind_at ts i) stands) found.0.0, omega (arith, found.0.1)),
  λ v k. then_leads
      (colon_turn ts i v k stands) (found.1 v k),
)
typed_found ts i (Err f) stands found = λ v k. then_fails (colon_turn ts i v k stands) f (found v k)

pub untyped_found : (ts : List Token) (i : ℕ) → is_word words.Colon (kind_at ts i) ≡ false → FindsTyping ts i (Ok i)
untyped_found ts i stands = (
  (untyped i (lacks words.Colon (kind_at ts i) stands), omega arith),
  λ v k. staying
      (word_missing words.Colon (kind_at ts i) (takes 0 v (item.a_type ∷ k)) (stays v k) stands),
)

-- ---- a name with a type or without

pub bind_turn : (ts : List Token) (i v : ℕ) (k : List Item) (x : StrId) → Has ts i (token.Name x)
    → turn (kind_at ts i) v item.bind k ≡ takes 0 v (item.typing ∷ k)
bind_turn ts i v k x stands = at_name ts i x (takes 0 v (item.typing ∷ k)) stops (ap name_of stands)

pub bind_found : (ts : List Token) (i : ℕ) (x : StrId) (j : ℕ) → Has ts i (token.Name x) → FindsTyping ts (i + 1) (Ok j)
    → FindsBind ts i (Ok (record { name = x; end = j }))
bind_found ts i x j stands found = (
  (bind i j x stands found.0.0, omega (arith, found.0.1)),
  λ v k. then_leads (taking (bind_turn ts i v k x stands) (omega arith) tt)
      (found.1 v k),
)

pub bind_without_name : (ts : List Token) (i : ℕ) (f : Fault) → FindsName ts i (Err f) → FindsBind ts i (Err f)
bind_without_name ts i f found = λ v k. same_fails ts i v item.a_name (item.typing ∷ k) item.bind k refl refl refl f
    (found v (item.typing ∷ k))

pub bind_with_faulty_type : (ts : List Token) (i : ℕ) (x : StrId) (f : Fault) → Has ts i (token.Name x) → FindsTyping ts (i + 1) (Err f)
    → FindsBind ts i (Err f)
bind_with_faulty_type ts i x f stands found = λ v k. then_fails (taking (bind_turn ts i v k x stands) (omega arith) tt) f (found v k)
