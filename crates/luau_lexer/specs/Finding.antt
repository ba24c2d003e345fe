-- Of the crate's own functions: what the lexer finds at a place.
use Rattle.std.specs.Prelude.{◌≡◌, ℕ, ◌+◌, ◌<◌, ◌≤◌, nat_eq, Bool, true, false, List, length, drop, IfSome}
use Rattle.syntax_tree.specs.declared.fault.Refusal.{Refusal}
use Rattle.syntax_tree.specs.declared.token.Token.{Token}
use Rattle.luau_lexer.specs.declared.error.LexErr.{LexErr}
use Rattle.luau_lexer.specs.declared.error.LexErr.TheVariants.{DoubleBrace}
use Rattle.syntax_tree.specs.declared.form.Form.{Form}
use Rattle.syntax_tree.specs.declared.form.Form.TheVariants as form
use Rattle.luau_lexer.specs.declared.lexer.Found.{Found}
use Rattle.luau_lexer.specs.declared.lexer.Found.TheVariants as found
use Rattle.luau_lexer.specs.declared.lexer.Closed.{Closed}
use Rattle.syntax_tree.specs.Bytes.{begins}
use Rattle.syntax_tree.specs.Gaps.{blanks_len, line_len}
use Rattle.syntax_tree.specs.Strings.{Body, HasBody}
use Rattle.syntax_tree.specs.Strings as strings
use Rattle.syntax_tree.specs.Plain.{Word, name_len, number_len}
use Rattle.syntax_tree.specs.Spellings.{Place, Gap, Lexeme, Passes, Ends, Fails, StandsAs, further, spelled, quoted, begins_two_braces}
use Rattle.syntax_tree.specs.Tokens.{IsToken, texts_behind}
use Rattle.luau_lexer.specs.Refusals.{refusal_of}

-- there is room for what a form takes
abbrev pub IsRoomFor : Form → (bytes : List ℕ) → Type 0
IsRoomFor form.Finished bytes = length bytes ≡ 0
IsRoomFor form.Blanks bytes = 0 < blanks_len bytes
IsRoomFor form.LineComment bytes = 0 < line_len bytes
IsRoomFor (form.LongComment level) bytes = 2 + (level + 2) ≤ length bytes
IsRoomFor form.Name bytes = 0 < name_len bytes
IsRoomFor form.Number bytes = 0 < number_len bytes
IsRoomFor (form.LongString level) bytes = level + 2 ≤ length bytes
IsRoomFor _ bytes = 0 < length bytes

-- a gap of some bytes was passed
pub record FindsGap (form : Form) (p q : Place) : Type 0 where
  pub len : ℕ
  pub stands : StandsAs form p (Passes (Gap len))
  pub some : 0 < len
  pub within : len ≤ length p.bytes
  pub to : q ≡ further len p.braces p

-- a token of some bytes was passed, and its text noted
pub record FindsToken (form : Form) (p q : Place) (old new : List (List ℕ)) (token : Token) : Type 0 where
  pub word : Word
  pub len : ℕ
  pub stands : StandsAs form p (Passes (Lexeme word len q.braces))
  pub some : 0 < len
  pub within : len ≤ length p.bytes
  pub to : q ≡ further len q.braces p
  pub is_token : IsToken new (spelled p word len) token
  pub notes : new ≡ texts_behind old word

-- what was found at a place, if its form is this, and where the lexer is then; the texts with numbers before and then
abbrev pub Finds : Form → (p q : Place) → (old new : List (List ℕ)) → Found → Type 0
Finds form p q old new found.Passed = FindsGap form p q × (new ≡ old)
Finds form p q old new (found.Next token) = FindsToken form p q old new token
Finds form p q old new found.Finished = StandsAs form p Ends × (new ≡ old)

-- a fault stands at a place, if its form is this
abbrev pub Refuses : Form → Place → LexErr → Type 0
Refuses form p e = IfSome (refusal_of e) (λ fault. StandsAs form p (Fails fault))

-- the string that begins at a place is closed, with this text and this length of its body
pub record IsClosed (ends : ℕ → Bool) (p : Place) (body : Closed) : Type 0 where
  pub has_body : HasBody ends (drop 1 p.bytes) (strings.Closed body.text.items body.len)
  pub within : 1 + body.len < length p.bytes

-- the string that begins at a place has a fault
pub record FailsAsString (ends : ℕ → Bool) (p : Place) (fault : Refusal) : Type 0 where
  pub body : Body
  pub has_body : HasBody ends (drop 1 p.bytes) body
  pub is : quoted p body ≡ Fails fault

abbrev pub RefusesString : (ends : ℕ → Bool) → Place → LexErr → Type 0
RefusesString ends p e = IfSome (refusal_of e) (FailsAsString ends p)

-- a piece with a body of this length ends at one `{`, or at a backquote
pub record OpensExpression (p : Place) (len : ℕ) (opens : Bool) : Type 0 where
  pub single : begins_two_braces (drop (1 + len) p.bytes) ≡ false
  pub is : begins (λ b. nat_eq b 123) (drop (1 + len) p.bytes) ≡ opens

-- it ends at `{{`
pub record IsDoubleBrace (p : Place) (len : ℕ) (fault : LexErr) : Type 0 where
  pub double : begins_two_braces (drop (1 + len) p.bytes) ≡ true
  pub is : fault ≡ DoubleBrace (p.at + 1 + len)
