-- A text has at most one list of tokens, with their numbers.
use Rattle.std.proofs.Common.{◌≡◌, ℕ, List, [], ◌∷◌, refl, sym, ap, subst, ◌∙◌}
use Rattle.byte_text.specs.declared.StrId.{StrId}
use Rattle.byte_text.specs.Texts.{fixed_texts, AreDistinct}
use Rattle.byte_text.proofs.Numbering.{AreDistinct-noted, AreDistinct-fixed}
use Rattle.syntax_tree.specs.declared.token.Token.{Token}
use Rattle.syntax_tree.specs.declared.token.TokenKind.{TokenKind}
use Rattle.syntax_tree.specs.declared.fault.Refusal.{Refusal}
use Rattle.syntax_tree.specs.Plain.{Word, Fixed, Named, Numeral, Text, BeginPiece, MidPiece, EndPiece, WholePiece}
use Rattle.syntax_tree.specs.Spellings.{Spelled, Spells, HasFault}
use Rattle.syntax_tree.specs.Tokens.{IsTexted, IsKind, IsToken, AreTokens, texts_behind, texts_after, HasTokens}
use Rattle.luau_lexer.specs.Laws.{TokenListsAreOne}
use Rattle.luau_lexer.proofs.OneReading.{tokens_once, not_both}

-- ---- no text has two numbers

behind_distinct : (texts : List (List ℕ)) (word : Word) → AreDistinct texts → AreDistinct (texts_behind texts word)
behind_distinct texts (Fixed k) d = d
behind_distinct texts (Named t) d = AreDistinct-noted texts t d
behind_distinct texts (Numeral n) d = d
behind_distinct texts (Text t) d = AreDistinct-noted texts t d
behind_distinct texts (BeginPiece t) d = AreDistinct-noted texts t d
behind_distinct texts (MidPiece t) d = AreDistinct-noted texts t d
behind_distinct texts (EndPiece t) d = AreDistinct-noted texts t d
behind_distinct texts (WholePiece t) d = AreDistinct-noted texts t d

after_distinct : (texts : List (List ℕ)) (ss : List Spelled) → AreDistinct texts → AreDistinct (texts_after texts ss)
after_distinct texts [] d = d
after_distinct texts (s ∷ ss) d = after_distinct (texts_behind texts s.word) ss (behind_distinct texts s.word d)

-- ---- so each token is determined

id_once : (a b : StrId) → a.0 ≡ b.0 → a ≡ b
id_once a b e = λ i. record { 0 = e i }

texted_once : (texts : List (List ℕ)) (of : StrId → TokenKind) (text : List ℕ) (a b : TokenKind) → AreDistinct texts → IsTexted texts of text a → IsTexted texts of text b → a ≡ b
texted_once texts of text a b d g h =
    g.is ∙ ap of (id_once g.id h.id (d.same g.id.0 h.id.0 text g.there h.there)) ∙ sym h.is

kind_once : (texts : List (List ℕ)) (word : Word) (a b : TokenKind) → AreDistinct texts → IsKind texts word a → IsKind texts word b → a ≡ b
kind_once texts (Fixed k) a b d g h = g ∙ sym h
kind_once texts (Named t) a b d g h = texted_once texts _ t a b d g h
kind_once texts (Numeral n) a b d g h = g ∙ sym h
kind_once texts (Text t) a b d g h = texted_once texts _ t a b d g h
kind_once texts (BeginPiece t) a b d g h = texted_once texts _ t a b d g h
kind_once texts (MidPiece t) a b d g h = texted_once texts _ t a b d g h
kind_once texts (EndPiece t) a b d g h = texted_once texts _ t a b d g h
kind_once texts (WholePiece t) a b d g h = texted_once texts _ t a b d g h

token_once : (texts : List (List ℕ)) (s : Spelled) (a b : Token) → AreDistinct texts → IsToken texts s a → IsToken texts s b → a ≡ b
token_once texts s a b d g h =
    let kind = kind_once texts s.word a.kind b.kind d g.kind h.kind in
    let at = g.at ∙ sym h.at in
    let ends = g.end ∙ sym h.end in
    let line = g.line ∙ sym h.line in
    let last = g.last ∙ sym h.last in
    λ i. record { kind = kind i; at = at i; «end» = ends i; line = line i; last = last i }

list_once : (texts : List (List ℕ)) (ss : List Spelled) (ts us : List Token) → AreDistinct texts → AreTokens texts ss ts → AreTokens texts ss us → ts ≡ us
list_once texts [] [] [] d g h = refl
list_once texts [] [] (u ∷ us) d g h = absurd h
list_once texts [] (t ∷ ts) us d g h = absurd g
list_once texts (s ∷ ss) [] us d g h = absurd g
list_once texts (s ∷ ss) (t ∷ ts) [] d g h = absurd h
list_once texts (s ∷ ss) (t ∷ ts) (u ∷ us) d g h =
    let first = token_once texts s t u d g.0 h.0 in
    let rest = list_once texts ss ts us d g.1 h.1 in
    λ i. first i ∷ rest i

-- ---- the law

pub one_list : (bytes : List ℕ) (ts us : List Token) → HasTokens bytes ts → HasTokens bytes us → ts ≡ us
one_list bytes ts us g h =
    let same = tokens_once bytes g.spelled h.spelled g.spells h.spells in
    list_once (texts_after fixed_texts h.spelled) h.spelled ts us (after_distinct fixed_texts h.spelled AreDistinct-fixed) (subst (λ (ss : List Spelled). AreTokens (texts_after fixed_texts ss) ss ts) same g.tokens_are) h.tokens_are

pub token_lists_are_one : TokenListsAreOne
token_lists_are_one = record { same = one_list }

-- ---- what an answer says

-- an interner that held the fixed texts alone
pub lexed : (bytes : List ℕ) (old new : List (List ℕ)) (tokens : List Token) → old ≡ fixed_texts → ((spelled : List Spelled) × Spells bytes spelled × AreTokens new spelled tokens × (new ≡ texts_after old spelled)) → HasTokens bytes tokens
lexed bytes old new tokens fresh h = record {
  spelled = h.0;
  spells = h.1;
  tokens_are = subst (λ (texts : List (List ℕ)). AreTokens texts h.0 tokens) (h.3 ∙ ap (λ texts. texts_after texts h.0) fresh) h.2;
}

-- a text with tokens has no fault
pub tokens_or_fault : (bytes : List ℕ) (tokens : List Token) (fault : Refusal) → HasTokens bytes tokens → HasFault bytes fault → ⊥
tokens_or_fault bytes tokens fault h f = not_both bytes h.spelled fault h.spells f
