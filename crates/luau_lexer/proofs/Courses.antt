-- How far a text was read, with its tokens so far.
use Rattle.std.proofs.Common.{◌≡◌, ℕ, ◌<◌, List, [], ◌∷◌, ◌++◌, length, Option, Some, None, IfSome, refl, sym, ap, subst, ◌∙◌, arith, length-drop}
use Rattle.byte_text.specs.declared.StrId.{StrId}
use Rattle.syntax_tree.specs.declared.fault.Refusal.{Refusal}
use Rattle.syntax_tree.specs.declared.token.Token.{Token}
use Rattle.syntax_tree.specs.declared.token.TokenKind.{TokenKind}
use Rattle.luau_lexer.specs.declared.error.LexErr.{LexErr}
use Rattle.syntax_tree.specs.declared.form.Form.{Form}
use Rattle.syntax_tree.specs.declared.form.Opener.{Opener}
use Rattle.syntax_tree.specs.Plain.{Word, Fixed, Named, Numeral, Text, BeginPiece, MidPiece, EndPiece, WholePiece}
use Rattle.syntax_tree.specs.Spellings.{Place, start, Step, Gap, Lexeme, Passes, Ends, Fails, behind, form_of, Stands, StandInTurn, Spelled, spelled, tokens_of, Spells, HasFault}
use Rattle.syntax_tree.specs.Tokens.{IsTexted, IsKind, IsToken, AreTokens, texts_behind, texts_after}
use Rattle.luau_lexer.specs.Laws.{Keeps}
use Rattle.luau_lexer.specs.Refusals.{refusal_of, IsRefusal}
use Rattle.luau_lexer.specs.Finding.{FindsGap, FindsToken, Refuses}

-- ---- one more

turn_more : (p q : Place) (ss : List Step) (s : Step) → StandInTurn p ss q → Stands q (Passes s) → StandInTurn p (ss ++ s ∷ []) (behind q s)
turn_more p q [] s t h = (subst (λ (r : Place). Stands r (Passes s)) (sym t) h, ap (λ r. behind r s) t)
turn_more p q (x ∷ ss) s t h = (t.0, turn_more (behind p x) q ss s t.1 h)

gap_more : (p q : Place) (ss : List Step) (n : ℕ) → StandInTurn p ss q → tokens_of p (ss ++ Gap n ∷ []) ≡ tokens_of p ss
gap_more p q [] n t = refl
gap_more p q (Gap k ∷ ss) n t = gap_more (behind p (Gap k)) q ss n t.1
gap_more p q (Lexeme w k b ∷ ss) n t = ap (λ l. spelled p w k ∷ l) (gap_more (behind p (Lexeme w k b)) q ss n t.1)

lexeme_more : (p q : Place) (ss : List Step) (w : Word) (n : ℕ) (braces : List Opener) → StandInTurn p ss q → tokens_of p (ss ++ Lexeme w n braces ∷ []) ≡ tokens_of p ss ++ spelled q w n ∷ []
lexeme_more p q [] w n braces t = ap (λ r. spelled r w n ∷ []) t
lexeme_more p q (Gap k ∷ ss) w n braces t = lexeme_more (behind p (Gap k)) q ss w n braces t.1
lexeme_more p q (Lexeme v k b ∷ ss) w n braces t =
    ap (λ l. spelled p v k ∷ l) (lexeme_more (behind p (Lexeme v k b)) q ss w n braces t.1)

tokens_more : (texts : List (List ℕ)) (ss : List Spelled) (ts : List Token) (s : Spelled) (t : Token) → AreTokens texts ss ts → IsToken texts s t → AreTokens texts (ss ++ s ∷ []) (ts ++ t ∷ [])
tokens_more texts [] [] s t h is = (is, tt)
tokens_more texts [] (y ∷ ts) s t h is = absurd h
tokens_more texts (x ∷ ss) [] s t h is = absurd h
tokens_more texts (x ∷ ss) (y ∷ ts) s t h is = (h.0, tokens_more texts ss ts s t h.1 is)

-- ---- more texts

texts_more : (texts : List (List ℕ)) (ss : List Spelled) (s : Spelled) → texts_after texts (ss ++ s ∷ []) ≡ texts_behind (texts_after texts ss) s.word
texts_more texts [] s = refl
texts_more texts (x ∷ ss) s = texts_more (texts_behind texts x.word) ss s

texted_kept : (old new : List (List ℕ)) (of : StrId → TokenKind) (text : List ℕ) (kind : TokenKind) → Keeps old new → IsTexted old of text kind → IsTexted new of text kind
texted_kept old new of text kind k h = record { id = h.id; is = h.is; there = k.at h.id.0 text h.there }

kind_kept : (old new : List (List ℕ)) (word : Word) (kind : TokenKind) → Keeps old new → IsKind old word kind → IsKind new word kind
kind_kept old new (Fixed f) kind k h = h
kind_kept old new (Named t) kind k h = texted_kept old new _ t kind k h
kind_kept old new (Numeral n) kind k h = h
kind_kept old new (Text t) kind k h = texted_kept old new _ t kind k h
kind_kept old new (BeginPiece t) kind k h = texted_kept old new _ t kind k h
kind_kept old new (MidPiece t) kind k h = texted_kept old new _ t kind k h
kind_kept old new (EndPiece t) kind k h = texted_kept old new _ t kind k h
kind_kept old new (WholePiece t) kind k h = texted_kept old new _ t kind k h

tokens_kept : (old new : List (List ℕ)) (ss : List Spelled) (ts : List Token) → Keeps old new → AreTokens old ss ts → AreTokens new ss ts
tokens_kept old new [] [] k h = tt
tokens_kept old new [] (t ∷ ts) k h = absurd h
tokens_kept old new (s ∷ ss) [] k h = absurd h
tokens_kept old new (s ∷ ss) (t ∷ ts) k h =
    (record { kind = kind_kept old new s.word t.kind k h.0.kind; at = h.0.at; «end» = h.0.end; line = h.0.line; last = h.0.last }, tokens_kept old new ss ts k h.1)

-- ---- so far

-- the text is read up to a place, and its tokens so far are these, with an interner's texts
pub record HasRead (bytes : List ℕ) (place : Place) (before texts : List (List ℕ)) (tokens : List Token) : Type 0 where
  pub steps : List Step
  pub turn : StandInTurn (start bytes) steps place
  pub tokens_are : AreTokens texts (tokens_of (start bytes) steps) tokens
  pub texts_are : texts ≡ texts_after before (tokens_of (start bytes) steps)
  pub kept : Keeps before texts

module _ (bytes : List ℕ) (p : Place) (before texts : List (List ℕ)) (tokens : List Token) where
  pub read_nothing : p ≡ start bytes → before ≡ texts → tokens ≡ [] → HasRead bytes p before texts tokens
  read_nothing is same none = record {
    steps = [];
    turn = sym is;
    tokens_are = subst (AreTokens texts []) (sym none) tt;
    texts_are = sym same;
    kept = subst (Keeps before) same (record { at = λ i. λ t. λ h. h });
  }

  kept_more : (new : List (List ℕ)) → Keeps before texts → Keeps texts new → Keeps before new
  kept_more new h k = record { at = λ i. λ t. λ there. k.at i t (h.at i t there) }

  pub read_gap : (q : Place) (new : List (List ℕ)) → HasRead bytes p before texts tokens → FindsGap (form_of p.bytes p.braces) p q → new ≡ texts → Keeps texts new → HasRead bytes q before new tokens
  unfolding kept_more
  read_gap q new r f same k = record {
    steps = r.steps ++ Gap f.len ∷ [];
    turn = subst (StandInTurn (start bytes) (r.steps ++ Gap f.len ∷ [])) (sym f.to) (turn_more (start bytes) p r.steps (Gap f.len) r.turn f.stands);
    tokens_are = subst (λ (l : List Spelled). AreTokens new l tokens) (sym (gap_more (start bytes) p r.steps f.len r.turn)) (tokens_kept texts new (tokens_of (start bytes) r.steps) tokens k r.tokens_are);
    texts_are = same ∙ r.texts_are ∙ ap (texts_after before) (sym (gap_more (start bytes) p r.steps f.len r.turn));
    kept = kept_more new r.kept k;
  }

  pub read_token : (q : Place) (new : List (List ℕ)) (token : Token) (all : List Token) → all ≡ tokens ++ token ∷ [] → HasRead bytes p before texts tokens → FindsToken (form_of p.bytes p.braces) p q texts new token → Keeps texts new → HasRead bytes q before new all
  unfolding kept_more
  read_token q new token all is r f k = record {
    steps = r.steps ++ Lexeme f.word f.len q.braces ∷ [];
    turn = subst (StandInTurn (start bytes) (r.steps ++ Lexeme f.word f.len q.braces ∷ [])) (sym f.to) (turn_more (start bytes) p r.steps (Lexeme f.word f.len q.braces) r.turn f.stands);
    tokens_are = subst (AreTokens new (tokens_of (start bytes) (r.steps ++ Lexeme f.word f.len q.braces ∷ []))) (sym is) (subst (λ (l : List Spelled). AreTokens new l (tokens ++ token ∷ [])) (sym (lexeme_more (start bytes) p r.steps f.word f.len q.braces r.turn)) (tokens_more new (tokens_of (start bytes) r.steps) tokens (spelled p f.word f.len) token (tokens_kept texts new (tokens_of (start bytes) r.steps) tokens k r.tokens_are) f.is_token));
    texts_are =
        f.notes
        ∙ ap (λ l. texts_behind l f.word) r.texts_are
        ∙ sym (texts_more before (tokens_of (start bytes) r.steps) (spelled p f.word f.len))
        ∙ ap (texts_after before) (sym (lexeme_more (start bytes) p r.steps f.word f.len q.braces r.turn));
    kept = kept_more new r.kept k;
  }

  -- the whole text is read
  pub read_all : (new : List (List ℕ)) → HasRead bytes p before texts tokens → Stands p Ends → new ≡ texts → Keeps texts new → (all : List Spelled) × Spells bytes all × AreTokens new all tokens × (new ≡ texts_after before all)
  read_all new r h same k =
      (tokens_of (start bytes) r.steps, record { steps = r.steps; to = p; turn = r.turn; «end» = h; tokens_are = refl }, tokens_kept texts new (tokens_of (start bytes) r.steps) tokens k r.tokens_are, same ∙ r.texts_are)

  -- the text has a fault here
  fails_here : (fault : Refusal) → HasRead bytes p before texts tokens → Stands p (Fails fault) → HasFault bytes fault
  fails_here fault r h = record { steps = r.steps; to = p; turn = r.turn; fails = h }

  pub read_fault : (e : LexErr) → HasRead bytes p before texts tokens → Refuses (form_of p.bytes p.braces) p e → IsRefusal bytes e
  unfolding fails_here
  read_fault e r h = by (refusal_of e) h
    where
      by : (o : Option Refusal) → IfSome o (λ fault. Stands p (Fails fault)) → IfSome o (HasFault bytes)
      by None k = tt
      by (Some fault) k = fails_here fault r k

-- less is left
pub gap_shortens : (form : Form) (p q : Place) → FindsGap form p q → length q.bytes < length p.bytes
gap_shortens form p q f = omega (arith, ap (λ r. length r.bytes) f.to, length-drop f.len p.bytes, f.some, f.within)

pub token_shortens : (form : Form) (p q : Place) (old new : List (List ℕ)) (token : Token) → FindsToken form p q old new token → length q.bytes < length p.bytes
token_shortens form p q old new token f =
    omega (arith, ap (λ r. length r.bytes) f.to, length-drop f.len p.bytes, f.some, f.within)
