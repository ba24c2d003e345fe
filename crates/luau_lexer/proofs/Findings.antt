-- What the lexer finds, from what its functions answer.
use Rattle.std.proofs.Common.{◌≡◌, ℕ, ◌+◌, ◌<◌, ◌≤◌, nat_eq, Bool, true, false, cond, List, [], ◌∷◌, ◌++◌, length, take, drop, Option, None, Some, option_map, IfSome, slice_get, refl, sym, ap, subst, ◌∙◌, arith}
use Rattle.std.proofs.lemmas.Option.{same_Some, none-some}
use Rattle.byte_text.specs.Texts.{noted}
use Rattle.byte_text.specs.declared.StrId.{StrId}
use Rattle.whole_num.specs.Literals.{ReadsLiteral}
use Rattle.whole_num.specs.declared.literal.Read.{Read}
use Rattle.syntax_tree.specs.declared.fault.Refusal.{Refusal}
use Rattle.syntax_tree.specs.declared.token.Token.{Token}
use Rattle.syntax_tree.specs.declared.token.TokenKind.{TokenKind}
use Rattle.syntax_tree.specs.declared.token.TokenKind.TheVariants.{Name, Str, InterpBegin, InterpMid, InterpEnd, InterpWhole}
use Rattle.luau_lexer.specs.declared.error.LexErr.{LexErr}
use Rattle.syntax_tree.specs.declared.form.Form.{Form}
use Rattle.syntax_tree.specs.declared.form.Form.TheVariants as form
use Rattle.syntax_tree.specs.declared.form.Opener.{Opener}
use Rattle.syntax_tree.specs.declared.form.Opener.TheVariants as opener
use Rattle.luau_lexer.specs.declared.lexer.Found.{Found}
use Rattle.luau_lexer.specs.declared.lexer.Found.TheVariants as found
use Rattle.syntax_tree.specs.Bytes.{line_feeds, begins}
use Rattle.syntax_tree.specs.Plain.{Word, Fixed, Text, symbol_at, name_len, number_len, word_of, BeginPiece, MidPiece, EndPiece, WholePiece, word_as}
use Rattle.syntax_tree.specs.Strings.{Body, Closed, Unclosed, Broken, HasBody, long_text}
use Rattle.syntax_tree.specs.Spellings.{Place, What, Passes, Fails, Lexeme, StandsAs, StandsAsString, further, number, symbol, long_string, braces_behind, quoted, first_piece, next_piece, ends_piece, begins_two_braces, outer}
use Rattle.syntax_tree.specs.Tokens.{IsKind, texts_behind}
use Rattle.luau_lexer.specs.Refusals.{refusal_of}
use Rattle.luau_lexer.specs.Finding.{Finds, Refuses, FailsAsString, RefusesString, OpensExpression, IsDoubleBrace}
use Rattle.syntax_tree.specs.Gaps.{closing_place}
use Rattle.luau_lexer.specs.declared.plain.Symbol.{Symbol}
use Rattle.luau_lexer.proofs.Tables.{Entry, IsEntry, read_symbol, entry_read, symbol_fits}

-- the token of a kind that is so many bytes long
abbrev pub token_at : Place → TokenKind → ℕ → Token
token_at p kind len = record {
  kind = kind;
  at = p.at;
  «end» = p.at + len;
  line = p.line;
  last = p.line + line_feeds (take len p.bytes);
}

-- a token is found where its word stands
pub finds_token : (form : Form) (p q : Place) (braces : List Opener) (old texts : List (List ℕ)) (word : Word) (kind : TokenKind) (len : ℕ) (f : Found) → f ≡ found.Next (token_at p kind len) → q ≡ further len braces p → StandsAs form p (Passes (Lexeme word len braces)) → 0 < len → len ≤ length p.bytes → IsKind texts word kind → texts ≡ texts_behind old word → Finds form p q old texts f
finds_token form p q braces old texts word kind len f is to stands some within kinds notes =
    subst (Finds form p q old texts) (sym is) (record {
      word = word;
      len = len;
      stands = subst (λ (b : List Opener). StandsAs form p (Passes (Lexeme word len b))) (sym (ap (λ r. r.braces) to)) stands;
      some = some;
      within = within;
      to = to ∙ ap (λ b. further len b p) (sym (ap (λ r. r.braces) to));
      is_token = record { kind = kinds; at = refl; «end» = refl; line = refl; last = refl };
      notes = notes;
    })

-- ---- names

pub reserved_kind : (texts : List (List ℕ)) (word : List ℕ) (o : Option Entry) (kind k : TokenKind) → Some k ≡ option_map (λ e. e.1) o → kind ≡ k → IsKind texts (word_as word o) kind
reserved_kind texts word None kind k h is = absurd (none-some k (sym h))
reserved_kind texts word (Some e) kind k h is = is ∙ same_Some k e.1 h

pub name_kind : (texts : List (List ℕ)) (word : List ℕ) (o : Option Entry) (k : TokenKind) (id : StrId) → None ≡ option_map (λ (e : Entry). e.1) o → k ≡ Name id → slice_get texts id.0 ≡ Some word → IsKind texts (word_as word o) k
name_kind texts word None k id h is at = record { id = id; is = is; there = at }
name_kind texts word (Some e) k id h is at = absurd (none-some e.1 h)

pub reserved_notes : (texts : List (List ℕ)) (word : List ℕ) (o : Option Entry) (k : TokenKind) → Some k ≡ option_map (λ e. e.1) o → texts ≡ texts_behind texts (word_as word o)
reserved_notes texts word None k h = absurd (none-some k (sym h))
reserved_notes texts word (Some e) k h = refl

pub name_notes : (old texts : List (List ℕ)) (word : List ℕ) (o : Option Entry) → None ≡ option_map (λ (e : Entry). e.1) o → texts ≡ noted old word → texts ≡ texts_behind old (word_as word o)
name_notes old texts word None h is = is
name_notes old texts word (Some e) h is = absurd (none-some e.1 h)

-- ---- strings

-- a fault of a string is one of its form
pub string_refused : (ends : ℕ → Bool) (p : Place) (makes : Body → What) (fault : Refusal) → makes Unclosed ≡ quoted p Unclosed → ((k : ℕ) → makes (Broken k) ≡ quoted p (Broken k)) → FailsAsString ends p fault → StandsAsString ends makes p.bytes (Fails fault)
string_refused ends p makes fault unclosed broken f = by f.body f.has_body f.is
  where
    by : (b : Body) → HasBody ends (drop 1 p.bytes) b → quoted p b ≡ Fails fault → StandsAsString ends makes p.bytes (Fails fault)
    by (Closed text len) has is = cc
    by Unclosed has is = record { body = Unclosed; has_body = has; is = sym is ∙ sym unclosed }
    by (Broken k) has is = record { body = Broken k; has_body = has; is = sym is ∙ sym (broken k) }

-- each refusal but want of memory is the fault that it names
by_fault : (ends : ℕ → Bool) (form : Form) (p : Place) → ((fault : Refusal) → FailsAsString ends p fault → StandsAs form p (Fails fault)) → (e : LexErr) → RefusesString ends p e → Refuses form p e
by_fault ends form p each e h = by (refusal_of e) h
  where
    by : (o : Option Refusal) → IfSome o (FailsAsString ends p) → IfSome o (λ fault. StandsAs form p (Fails fault))
    by None k = tt
    by (Some fault) k = each fault k

pub quoted_refused : (quote : ℕ) (p : Place) (fault : LexErr) → RefusesString (λ b. nat_eq b quote) p fault → Refuses (form.Quoted quote) p fault
quoted_refused quote p fault h =
    by_fault (λ b. nat_eq b quote) (form.Quoted quote) p (λ f. λ r. string_refused (λ b. nat_eq b quote) p (quoted p) f refl (λ k. refl) r) fault h

pub first_refused : (p : Place) (fault : LexErr) → RefusesString ends_piece p fault → Refuses form.FirstPiece p fault
first_refused p fault h =
    by_fault ends_piece form.FirstPiece p (λ f. λ r. string_refused ends_piece p (first_piece p) f refl (λ k. refl) r) fault h

pub next_refused : (p : Place) (fault : LexErr) → RefusesString ends_piece p fault → Refuses form.NextPiece p fault
next_refused p fault h =
    by_fault ends_piece form.NextPiece p (λ f. λ r. string_refused ends_piece p (next_piece p) f refl (λ k. refl) r) fault h

-- ---- pieces

-- two braces at the end of a piece
piece_doubled : (p : Place) (len : ℕ) (fail pass : What) → begins_two_braces (drop (1 + len) p.bytes) ≡ true → fail ≡ cond (begins_two_braces (drop (1 + len) p.bytes)) fail pass
piece_doubled p len fail pass double = sym (ap (λ v. cond v fail pass) double)

pub first_doubled : (p : Place) (text : List ℕ) (len : ℕ) (fault : LexErr) → HasBody ends_piece (drop 1 p.bytes) (Closed text len) → IsDoubleBrace p len fault → Refuses form.FirstPiece p fault
first_doubled p text len fault has d =
    subst (Refuses form.FirstPiece p) (sym d.is) (record { body = Closed text len; has_body = has; is = piece_doubled p len _ _ d.double })

pub next_doubled : (p : Place) (text : List ℕ) (len : ℕ) (fault : LexErr) → HasBody ends_piece (drop 1 p.bytes) (Closed text len) → IsDoubleBrace p len fault → Refuses form.NextPiece p fault
next_doubled p text len fault has d =
    subst (Refuses form.NextPiece p) (sym d.is) (record { body = Closed text len; has_body = has; is = piece_doubled p len _ _ d.double })

-- a piece passes, as what it ends at says
piece_passed : (p : Place) (len : ℕ) (opens : Bool) (double begin whole : What) → OpensExpression p len opens → cond opens begin whole ≡ cond (begins_two_braces (drop (1 + len) p.bytes)) double (cond (begins (λ b. nat_eq b 123) (drop (1 + len) p.bytes)) begin whole)
piece_passed p len opens double begin whole o =
    sym
    (ap (λ v. cond v double (cond (begins (λ b. nat_eq b 123) (drop (1 + len) p.bytes)) begin whole)) o.single
    ∙ ap (λ v. cond v begin whole) o.is)

pub first_passes : (p : Place) (text : List ℕ) (len : ℕ) (opens : Bool) (what : What) → HasBody ends_piece (drop 1 p.bytes) (Closed text len) → OpensExpression p len opens → what ≡ cond opens (Passes (Lexeme (BeginPiece text) (len + 2) (p.braces ++ opener.Piece ∷ []))) (Passes (Lexeme (WholePiece text) (len + 2) p.braces)) → StandsAs form.FirstPiece p what
first_passes p text len opens what has o is = record { body = Closed text len; has_body = has; is = is ∙ piece_passed p len opens _ _ _ o }

pub next_passes : (p : Place) (text : List ℕ) (len : ℕ) (opens : Bool) (what : What) → HasBody ends_piece (drop 1 p.bytes) (Closed text len) → OpensExpression p len opens → what ≡ cond opens (Passes (Lexeme (MidPiece text) (len + 2) p.braces)) (Passes (Lexeme (EndPiece text) (len + 2) (outer p.braces))) → StandsAs form.NextPiece p what
next_passes p text len opens what has o is = record { body = Closed text len; has_body = has; is = is ∙ piece_passed p len opens _ _ _ o }

-- ---- whole tokens

-- a name, or a reserved word
named_stands : (p : Place) (make : List ℕ → Word) (len n : ℕ) (word : List ℕ) → word ≡ take len p.bytes → len ≡ n → Passes (Lexeme (make word) len p.braces) ≡ Passes (Lexeme (make (take n p.bytes)) n p.braces)
named_stands p make len n word w e =
    ap (λ t. Passes (Lexeme (make t) len p.braces)) w ∙ ap (λ m. Passes (Lexeme (make (take m p.bytes)) m p.braces)) e

pub finds_name : (p q : Place) (old texts : List (List ℕ)) (kind : TokenKind) (len : ℕ) (word : List ℕ) (f : Found) → f ≡ found.Next (token_at p kind len) → q ≡ further len p.braces p → word ≡ take len p.bytes → len ≡ name_len p.bytes → 0 < name_len p.bytes → len ≤ length p.bytes → IsKind texts (word_of word) kind → texts ≡ texts_behind old (word_of word) → Finds form.Name p q old texts f
finds_name p q old texts kind len word f is to w e some within kinds notes =
    finds_token form.Name p q p.braces old texts (word_of word) kind len f is to (named_stands p word_of len (name_len p.bytes) word w e) (omega (arith, e)) within kinds notes

-- a symbol
symbol_stands : (p : Place) (s : Symbol) (o : Option Entry) → IsEntry s o → Passes (Lexeme (Fixed s.kind) s.len (braces_behind s.kind p.braces)) ≡ symbol p o
symbol_stands p s o e =
    ap (λ k. Passes (Lexeme (Fixed k) s.len (braces_behind k p.braces))) e.kind
    ∙ ap (λ n. Passes (Lexeme (Fixed e.entry.1) n (braces_behind e.entry.1 p.braces))) e.len
    ∙ sym (ap (symbol p) e.there)

pub symbol_len_fits : (p : Place) (s : Symbol) → Some s ≡ option_map read_symbol (symbol_at p.bytes) → (0 < s.len) × (s.len ≤ length p.bytes)
symbol_len_fits p s h =
    let e = entry_read s (symbol_at p.bytes) h in
    let fits = symbol_fits p.bytes e.entry e.there in
    (omega (arith, e.len, fits.0), omega (arith, e.len, fits.1))

pub finds_symbol : (p m q : Place) (texts : List (List ℕ)) (s : Symbol) (f : Found) → m ≡ record p { braces = braces_behind s.kind p.braces } → f ≡ found.Next (token_at m s.kind s.len) → q ≡ further s.len m.braces m → Some s ≡ option_map read_symbol (symbol_at p.bytes) → Finds form.Symbol p q texts texts f
finds_symbol p m q texts s f noted is to h =
    let fits = symbol_len_fits p s h in
    finds_token form.Symbol p q (braces_behind s.kind p.braces) texts texts (Fixed s.kind) s.kind s.len f (is ∙ ap (λ r. found.Next (token_at r s.kind s.len)) noted) (to ∙ ap (λ r. further s.len r.braces r) noted) (symbol_stands p s (symbol_at p.bytes) (entry_read s (symbol_at p.bytes) h)) fits.0 fits.1 refl refl

-- a long string
pub long_string_stands : (p : Place) (level k : ℕ) (after inner text : List ℕ) → after ≡ drop (level + 2) p.bytes → Some k ≡ closing_place level after → inner ≡ take k after → text ≡ long_text inner → StandsAs (form.LongString level) p (Passes (Lexeme (Text text) (level + 2 + k + (level + 2)) p.braces))
long_string_stands p level k after inner text a closes i t =
    ap (λ (x : List ℕ). Passes (Lexeme (Text x) (level + 2 + k + (level + 2)) p.braces)) (t ∙ ap long_text (i ∙ ap (take k) a))
    ∙ sym (ap (long_string p level) (sym (closes ∙ ap (closing_place level) a)))

-- a quoted string
pub finds_quoted : (p q : Place) (old texts : List (List ℕ)) (quote : ℕ) (id : StrId) (text : List ℕ) (len : ℕ) (f : Found) → f ≡ found.Next (token_at p (Str id) (len + 2)) → q ≡ further (len + 2) p.braces p → HasBody (λ b. nat_eq b quote) (drop 1 p.bytes) (Closed text len) → 1 + len < length p.bytes → slice_get texts id.0 ≡ Some text → texts ≡ noted old text → Finds (form.Quoted quote) p q old texts f
finds_quoted p q old texts quote id text len f is to has within there notes =
    finds_token (form.Quoted quote) p q p.braces old texts (Text text) (Str id) (len + 2) f is to (record { body = Closed text len; has_body = has; is = refl }) (omega arith) (omega arith) (record { id = id; is = refl; there = there }) notes

-- pieces
pub finds_begin : (p m q : Place) (old texts : List (List ℕ)) (id : StrId) (text : List ℕ) (len : ℕ) (f : Found) → m ≡ record p { braces = p.braces ++ opener.Piece ∷ [] } → f ≡ found.Next (token_at m (InterpBegin id) (len + 2)) → q ≡ further (len + 2) m.braces m → HasBody ends_piece (drop 1 p.bytes) (Closed text len) → OpensExpression p len true → 1 + len < length p.bytes → slice_get texts id.0 ≡ Some text → texts ≡ noted old text → Finds form.FirstPiece p q old texts f
finds_begin p m q old texts id text len f noted is to has opens within there notes =
    finds_token form.FirstPiece p q (p.braces ++ opener.Piece ∷ []) old texts (BeginPiece text) (InterpBegin id) (len + 2) f (is ∙ ap (λ r. found.Next (token_at r (InterpBegin id) (len + 2))) noted) (to ∙ ap (λ r. further (len + 2) r.braces r) noted) (first_passes p text len true _ has opens refl) (omega arith) (omega arith) (record { id = id; is = refl; there = there }) notes

pub finds_whole : (p q : Place) (old texts : List (List ℕ)) (id : StrId) (text : List ℕ) (len : ℕ) (f : Found) → f ≡ found.Next (token_at p (InterpWhole id) (len + 2)) → q ≡ further (len + 2) p.braces p → HasBody ends_piece (drop 1 p.bytes) (Closed text len) → OpensExpression p len false → 1 + len < length p.bytes → slice_get texts id.0 ≡ Some text → texts ≡ noted old text → Finds form.FirstPiece p q old texts f
finds_whole p q old texts id text len f is to has opens within there notes =
    finds_token form.FirstPiece p q p.braces old texts (WholePiece text) (InterpWhole id) (len + 2) f is to (first_passes p text len false _ has opens refl) (omega arith) (omega arith) (record { id = id; is = refl; there = there }) notes

pub finds_mid : (p q : Place) (old texts : List (List ℕ)) (id : StrId) (text : List ℕ) (len : ℕ) (f : Found) → f ≡ found.Next (token_at p (InterpMid id) (len + 2)) → q ≡ further (len + 2) p.braces p → HasBody ends_piece (drop 1 p.bytes) (Closed text len) → OpensExpression p len true → 1 + len < length p.bytes → slice_get texts id.0 ≡ Some text → texts ≡ noted old text → Finds form.NextPiece p q old texts f
finds_mid p q old texts id text len f is to has opens within there notes =
    finds_token form.NextPiece p q p.braces old texts (MidPiece text) (InterpMid id) (len + 2) f is to (next_passes p text len true _ has opens refl) (omega arith) (omega arith) (record { id = id; is = refl; there = there }) notes

pub finds_end : (p m q : Place) (old texts : List (List ℕ)) (id : StrId) (text : List ℕ) (len : ℕ) (f : Found) → m ≡ record p { braces = outer p.braces } → f ≡ found.Next (token_at m (InterpEnd id) (len + 2)) → q ≡ further (len + 2) m.braces m → HasBody ends_piece (drop 1 p.bytes) (Closed text len) → OpensExpression p len false → 1 + len < length p.bytes → slice_get texts id.0 ≡ Some text → texts ≡ noted old text → Finds form.NextPiece p q old texts f
finds_end p m q old texts id text len f noted is to has opens within there notes =
    finds_token form.NextPiece p q (outer p.braces) old texts (EndPiece text) (InterpEnd id) (len + 2) f (is ∙ ap (λ r. found.Next (token_at r (InterpEnd id) (len + 2))) noted) (to ∙ ap (λ r. further (len + 2) r.braces r) noted) (next_passes p text len false _ has opens refl) (omega arith) (omega arith) (record { id = id; is = refl; there = there }) notes

-- a number, and each of its faults
pub number_stands : (p : Place) (len : ℕ) (word : List ℕ) (value : Read) (what : What) → word ≡ take len p.bytes → len ≡ number_len p.bytes → ReadsLiteral word value → what ≡ number p len value → StandsAs form.Number p what
number_stands p len word value what w e reads is = record {
  value = value;
  reads = subst (λ (n : ℕ). ReadsLiteral (take n p.bytes) value) e (subst (λ (l : List ℕ). ReadsLiteral l value) w reads);
  is = is ∙ ap (λ n. number p n value) e;
}
