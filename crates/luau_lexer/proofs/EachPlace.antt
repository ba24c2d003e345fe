-- Something stands at each place, and what is passed has some bytes.
use Rattle.std.proofs.Common.{◌≡◌, ℕ, ◌+◌, ◌<◌, Bool, true, false, cond, nat_eq, nat_lt, ◌&&◌, ◌||◌, List, [], ◌∷◌, length, take, drop, Option, Some, None, refl, sym, ap, subst, arith, true≢false}
use Rattle.std.specs.List.{prefix_len, list_all, starts_with}
use Rattle.std.proofs.lemmas.Bool.Decides.{nat_tests}
use Rattle.syntax_tree.specs.declared.token.TokenKind.{TokenKind}
use Rattle.whole_num.specs.declared.literal.Read.{Read}
use Rattle.whole_num.specs.declared.literal.Read.TheVariants as read
use Rattle.whole_num.proofs.EachText.{each_text}
use Rattle.syntax_tree.specs.declared.form.Form.{Form}
use Rattle.syntax_tree.specs.declared.form.Form.TheVariants as form
use Rattle.syntax_tree.specs.declared.form.Opener.{Opener}
use Rattle.syntax_tree.specs.Bytes.{is_blank, is_digit, is_name_start, is_name_byte, is_number_byte, is_no_line_feed, begins}
use Rattle.syntax_tree.specs.Gaps.{blanks_len, line_len, opening_level, closing_place, begins_comment}
use Rattle.syntax_tree.specs.Plain.{name_len, number_len, exponent_len, begins_number, word_of, first_entry, symbols, symbol_at}
use Rattle.syntax_tree.specs.Strings.{Body, Closed, Unclosed, Broken}
use Rattle.syntax_tree.specs.Spellings.{Place, Step, Gap, Lexeme, What, Passes, Ends, behind, form_of, comment_form, bracket_form, ends_expression, long_comment, long_string, number, symbol, quoted, first_piece, next_piece, ends_piece, begins_two_braces, StandsAsString, StandsAsNumber, StandsAs, Stands}
use Rattle.luau_lexer.proofs.EachString.{each_body}

-- ---- something stands at each place

string_stands : (ends : ℕ → Bool) (makes : Body → What) (bytes : List ℕ) → (w : What) × StandsAsString ends makes bytes w
string_stands ends makes bytes =
    let b = each_body ends (drop 1 bytes) in (makes b.0, record { body = b.0; has_body = b.1; is = refl })

number_stands : (p : Place) (len : ℕ) → (w : What) × StandsAsNumber p len w
number_stands p len =
    let r = each_text (take len p.bytes) in (number p len r.0, record { value = r.0; reads = r.1; is = refl })

form_stands : (f : Form) (p : Place) → (w : What) × StandsAs f p w
form_stands form.Finished p = (Ends, refl)
form_stands form.Blanks p = (Passes (Gap (blanks_len p.bytes)), refl)
form_stands form.LineComment p = (Passes (Gap (line_len p.bytes)), refl)
form_stands (form.LongComment level) p = (long_comment p level (closing_place level (drop (2 + (level + 2)) p.bytes)), refl)
form_stands form.Name p = (Passes (Lexeme (word_of (take (name_len p.bytes) p.bytes)) (name_len p.bytes) p.braces), refl)
form_stands form.Number p = number_stands p (number_len p.bytes)
form_stands (form.Quoted quote) p = string_stands (λ c. nat_eq c quote) (quoted p) p.bytes
form_stands (form.LongString level) p = (long_string p level (closing_place level (drop (level + 2) p.bytes)), refl)
form_stands form.FirstPiece p = string_stands ends_piece (first_piece p) p.bytes
form_stands form.NextPiece p = string_stands ends_piece (next_piece p) p.bytes
form_stands form.Symbol p = (symbol p (symbol_at p.bytes), refl)

pub each_place : (p : Place) → (w : What) × Stands p w
each_place p = form_stands (form_of p.bytes p.braces) p

-- ---- a form takes some bytes

-- the forms that are fronts of bytes of one kind have such a byte
abbrev HasFront : Form → List ℕ → Type 0
HasFront form.Blanks bytes = 0 < blanks_len bytes
HasFront form.LineComment bytes = 0 < line_len bytes
HasFront form.Name bytes = 0 < name_len bytes
HasFront form.Number bytes = 0 < number_len bytes
HasFront _ bytes = Unit {0}

chosen : (bytes : List ℕ) (t : Bool) (f g : Form) → (t ≡ true → HasFront f bytes) → HasFront g bytes → HasFront (cond t f g) bytes
chosen bytes true f g h k = h refl
chosen bytes false f g h k = k

front_some : (p : ℕ → Bool) (b : ℕ) (bs : List ℕ) → p b ≡ true → 0 < prefix_len p (b ∷ bs)
front_some p b bs h =
    let is : prefix_len p (b ∷ bs) ≡ 1 + prefix_len p bs = ap (λ t. cond t (1 + prefix_len p bs) 0) h in
    omega (arith, is)

comment_front : (b : ℕ) (bs : List ℕ) (level : Option ℕ) → begins_comment (b ∷ bs) ≡ true → HasFront (comment_form level) (b ∷ bs)
comment_front b bs (Some level) h = tt
comment_front b bs None h = front_some is_no_line_feed b bs (by (nat_eq b 45) refl h)
  where
    by : (t : Bool) → nat_eq b 45 ≡ t → t && begins (λ c. nat_eq c 45) bs ≡ true → is_no_line_feed b ≡ true
    by true e h = grind (arith, nat_tests)
    by false e h = absurd (true≢false (sym h))

bracket_front : (bytes : List ℕ) (level : Option ℕ) → HasFront (bracket_form level) bytes
bracket_front bytes None = tt
bracket_front bytes (Some level) = tt

name_front : (b : ℕ) (bs : List ℕ) → is_name_start b ≡ true → 0 < name_len (b ∷ bs)
name_front b bs h = front_some is_name_byte b bs (ap (λ t. t || is_digit b) h)

number_front : (b : ℕ) (bs : List ℕ) → begins_number (b ∷ bs) ≡ true → 0 < number_len (b ∷ bs)
number_front b bs h =
    let head = front_some is_number_byte b bs (by (is_digit b) (nat_eq b 46) h) in
    let at = prefix_len is_number_byte (b ∷ bs) in
    let mark = exponent_len (drop at (b ∷ bs)) in
    omega (arith, head)
  where
    by : (d o : Bool) → d || (o && begins is_digit bs) ≡ true → (d || o) || nat_eq b 95 ≡ true
    by true o h = refl
    by false true h = refl
    by false false h = absurd (true≢false (sym h))

form_front : (bytes : List ℕ) (braces : List Opener) → HasFront (form_of bytes braces) bytes
form_front [] braces = tt
form_front (b ∷ bs) braces =
    let bytes = b ∷ bs in
    let piece = chosen bytes (nat_eq b 125 && ends_expression braces) form.NextPiece form.Symbol (λ _. tt) tt in
    let bracket = chosen bytes (nat_eq b 91) (bracket_form (opening_level bytes)) _ (λ _. bracket_front bytes (opening_level bytes)) piece in
    let first = chosen bytes (nat_eq b 96) form.FirstPiece _ (λ _. tt) bracket in
    let quote = chosen bytes (nat_eq b 34 || nat_eq b 39) (form.Quoted b) _ (λ _. tt) first in
    let numeral = chosen bytes (begins_number bytes) form.Number _ (λ h. number_front b bs h) quote in
    let name = chosen bytes (is_name_start b) form.Name _ (λ h. name_front b bs h) numeral in
    let comment = chosen bytes (begins_comment bytes) (comment_form (opening_level (drop 2 bytes))) _ (λ h. comment_front b bs (opening_level (drop 2 bytes)) h) name in
    chosen bytes (is_blank b) form.Blanks _ (λ h. front_some is_blank b bs h) comment

-- ---- what is passed has some bytes

abbrev pub step_len : Step → ℕ
step_len (Gap len) = len
step_len (Lexeme word len braces) = len

-- something that is passed has some bytes, or nothing is
abbrev IsForward : What → Type 0
IsForward (Passes s) = 0 < step_len s
IsForward _ = Unit {0}

if_forward : (t : Bool) (x y : What) → IsForward x → IsForward y → IsForward (cond t x y)
if_forward true x y h k = h
if_forward false x y h k = k

comment_forward : (p : Place) (level : ℕ) (place : Option ℕ) → IsForward (long_comment p level place)
comment_forward p level None = tt
comment_forward p level (Some k) = omega arith

long_forward : (p : Place) (level : ℕ) (place : Option ℕ) → IsForward (long_string p level place)
long_forward p level None = tt
long_forward p level (Some k) = omega arith

number_forward : (p : Place) (len : ℕ) (r : Read) → 0 < len → IsForward (number p len r)
number_forward p len (read.Whole n) h = h
number_forward p len read.NotWhole h = tt
number_forward p len read.OutOfRange h = tt
number_forward p len read.NotNumber h = tt

quoted_forward : (p : Place) (body : Body) → IsForward (quoted p body)
quoted_forward p (Closed text len) = omega arith
quoted_forward p Unclosed = tt
quoted_forward p (Broken offset) = tt

first_forward : (p : Place) (body : Body) → IsForward (first_piece p body)
first_forward p (Closed text len) =
    if_forward (begins_two_braces (drop (1 + len) p.bytes)) _ _ tt (if_forward (begins (λ b. nat_eq b 123) (drop (1 + len) p.bytes)) _ _ (omega arith) (omega arith))
first_forward p Unclosed = tt
first_forward p (Broken offset) = tt

next_forward : (p : Place) (body : Body) → IsForward (next_piece p body)
next_forward p (Closed text len) =
    if_forward (begins_two_braces (drop (1 + len) p.bytes)) _ _ tt (if_forward (begins (λ b. nat_eq b 123) (drop (1 + len) p.bytes)) _ _ (omega arith) (omega arith))
next_forward p Unclosed = tt
next_forward p (Broken offset) = tt

-- each symbol has some bytes
abbrev is_some_entry : List ℕ × TokenKind → Bool
is_some_entry e = nat_lt 0 (length e.0)

symbols_some : list_all is_some_entry symbols ≡ true
symbols_some = refl

first_some : (p : List ℕ → Bool) (table : List (List ℕ × TokenKind)) (e : List ℕ × TokenKind) → list_all is_some_entry table ≡ true → first_entry p table ≡ Some e → 0 < length e.0
first_some p [] e all h = absurd (cc)
first_some p (f ∷ fs) e all h = by (p f.0) (nat_lt 0 (length f.0)) refl all h (first_some p fs e)
  where
    by : (t s : Bool) → nat_lt 0 (length f.0) ≡ s → s && list_all is_some_entry fs ≡ true → cond t (Some f) (first_entry p fs) ≡ Some e → (list_all is_some_entry fs ≡ true → first_entry p fs ≡ Some e → 0 < length e.0) → 0 < length e.0
    by t false is all h more = absurd (true≢false (sym all))
    by true true is all h more =
        let same : f ≡ e = cc in
        subst (λ (x : List ℕ × TokenKind). 0 < length x.0) same (grind (arith, nat_tests))
    by false true is all h more = more all h

symbol_forward : (p : Place) (e : Option (List ℕ × TokenKind)) → symbol_at p.bytes ≡ e → IsForward (symbol p e)
symbol_forward p None is = tt
symbol_forward p (Some e) is = first_some (starts_with nat_eq p.bytes) symbols e symbols_some is

string_forward : (ends : ℕ → Bool) (makes : Body → What) (bytes : List ℕ) (w : What) → ((body : Body) → IsForward (makes body)) → StandsAsString ends makes bytes w → IsForward w
string_forward ends makes bytes w each h = subst IsForward (sym h.is) (each h.body)

form_forward : (f : Form) (p : Place) (w : What) → HasFront f p.bytes → StandsAs f p w → IsForward w
form_forward form.Finished p w some h = subst IsForward (sym h) tt
form_forward form.Blanks p w some h = subst IsForward (sym h) some
form_forward form.LineComment p w some h = subst IsForward (sym h) some
form_forward (form.LongComment level) p w some h =
    subst IsForward (sym h) (comment_forward p level (closing_place level (drop (2 + (level + 2)) p.bytes)))
form_forward form.Name p w some h = subst IsForward (sym h) some
form_forward form.Number p w some h = subst IsForward (sym h.is) (number_forward p (number_len p.bytes) h.value some)
form_forward (form.Quoted quote) p w some h =
    string_forward (λ c. nat_eq c quote) (quoted p) p.bytes w (quoted_forward p) h
form_forward (form.LongString level) p w some h =
    subst IsForward (sym h) (long_forward p level (closing_place level (drop (level + 2) p.bytes)))
form_forward form.FirstPiece p w some h = string_forward ends_piece (first_piece p) p.bytes w (first_forward p) h
form_forward form.NextPiece p w some h = string_forward ends_piece (next_piece p) p.bytes w (next_forward p) h
form_forward form.Symbol p w some h = subst IsForward (sym h) (symbol_forward p (symbol_at p.bytes) refl)

-- what is passed has some bytes
pub step_some : (p : Place) (s : Step) → Stands p (Passes s) → 0 < step_len s
step_some p s h = form_forward (form_of p.bytes p.braces) p (Passes s) (form_front p.bytes p.braces) h

-- nothing is passed at a text's end
pub end_stays : (p : Place) (s : Step) → p.bytes ≡ [] → Stands p (Passes s) → ⊥
end_stays p s none h =
    let stands : StandsAs (form_of [] p.braces) p (Passes s) = subst (λ (l : List ℕ). StandsAs (form_of l p.braces) p (Passes s)) none h in
    cc

pub behind_bytes : (p : Place) (s : Step) → (behind p s).bytes ≡ drop (step_len s) p.bytes
behind_bytes p (Gap len) = refl
behind_bytes p (Lexeme word len braces) = refl
