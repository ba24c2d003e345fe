-- How far the body of a string was read.
use Rattle.std.proofs.Common.{◌≡◌, ℕ, ◌+◌, ◌≤◌, Bool, inl, inr, List, [], ◌∷◌, ◌++◌, length, drop, refl, sym, ap, subst, ◌∙◌, arith, append_assoc, length-drop}
use Rattle.std.proofs.lemmas.List.{drop-drop, append-nil}
use Rattle.syntax_tree.specs.Strings.{Part, Inner, Closing, Malformed, Unfinished, Span, AreInTurn, spans_text, spans_len, part_at, raw_part_at, Body, Closed, Unclosed, Broken, HasBody, Breaks}
use Rattle.luau_lexer.specs.Parts.{PassesTo, IsBroken}

-- from an offset to another, spans stand in turn
pub record Passed (read : List ℕ → Part) (bytes : List ℕ) (offset len : ℕ) : Type 0 where
  pub spans : List Span
  pub turn : AreInTurn read (drop offset bytes) spans (drop len bytes)
  pub len_is : len ≡ offset + spans_len spans
  pub within : len ≤ length bytes

-- and they stand for a text
pub record PassedText (read : List ℕ → Part) (bytes : List ℕ) (offset len : ℕ) (text : List ℕ) : Type 0 where
  pub passed : Passed read bytes offset len
  pub text_is : text ≡ spans_text passed.spans

turn-more : (read : List ℕ → Part) (bytes : List ℕ) (us : List Span) (rest : List ℕ) (u : Span) → AreInTurn read bytes us rest → read rest ≡ Inner u.len u.text → AreInTurn read bytes (us ++ u ∷ []) (drop u.len rest)
turn-more read bytes [] rest u t h = (ap read t ∙ h, ap (drop u.len) t)
turn-more read bytes (v ∷ us) rest u t h = (t.0, turn-more read (drop v.len bytes) us rest u t.1 h)

len-more : (us : List Span) (u : Span) → spans_len (us ++ u ∷ []) ≡ spans_len us + u.len
len-more [] u = omega arith
len-more (v ∷ us) u = omega (arith, len-more us u)

text-more : (us : List Span) (u : Span) → spans_text (us ++ u ∷ []) ≡ spans_text us ++ u.text
text-more [] u = append-nil u.text
text-more (v ∷ us) u = ap (λ l. v.text ++ l) (text-more us u) ∙ sym (append_assoc v.text (spans_text us) u.text)

pub none_passed : (read : List ℕ → Part) (bytes : List ℕ) (offset : ℕ) → offset ≤ length bytes → Passed read bytes offset offset
none_passed read bytes offset h = record { spans = []; turn = refl; len_is = omega arith; within = h }

pub no_text_passed : (read : List ℕ → Part) (bytes : List ℕ) → PassedText read bytes 0 0 []
unfolding none_passed
no_text_passed read bytes = record { passed = none_passed read bytes 0 (omega arith); text_is = refl }

module _ (read : List ℕ → Part) (bytes : List ℕ) (offset len n : ℕ) (text : List ℕ) (found : read (drop len bytes) ≡ Inner n text) (room : n ≤ length (drop len bytes)) where
  span : Span
  span = record { len = n; text = text }

  pub more_passed : Passed read bytes offset len → Passed read bytes offset (len + n)
  unfolding span
  more_passed p = record {
    spans = p.spans ++ span ∷ [];
    turn = subst (AreInTurn read (drop offset bytes) (p.spans ++ span ∷ [])) (drop-drop n len bytes) (turn-more read (drop offset bytes) p.spans (drop len bytes) span p.turn found);
    len_is = omega (arith, len-more p.spans span, p.len_is);
    within = omega (arith, length-drop len bytes, p.within);
  }

  pub more_text_passed : (before after : List ℕ) → after ≡ before ++ text → PassedText read bytes offset len before → PassedText read bytes offset (len + n) after
  unfolding span more_passed
  more_text_passed before after is p = record {
    passed = more_passed p.passed;
    text_is = is ∙ ap (λ l. l ++ text) p.text_is ∙ sym (text-more p.passed.spans span);
  }

-- what ends a body

pub closed_body : (ends : ℕ → Bool) (bytes text : List ℕ) (len : ℕ) → PassedText (part_at ends) bytes 0 len text → part_at ends (drop len bytes) ≡ Closing → HasBody ends bytes (Closed text len)
closed_body ends bytes text len p h = record {
  spans = p.passed.spans;
  rest = drop len bytes;
  turn = p.passed.turn;
  «end» = h;
  text_is = p.text_is;
  len_is = omega (arith, p.passed.len_is);
}

pub unclosed_body : (ends : ℕ → Bool) (bytes text : List ℕ) (len : ℕ) → PassedText (part_at ends) bytes 0 len text → part_at ends (drop len bytes) ≡ Unfinished → HasBody ends bytes Unclosed
unclosed_body ends bytes text len p h = inl record {
  spans = p.passed.spans;
  rest = drop len bytes;
  turn = p.passed.turn;
  «end» = h;
}

breaks : (ends : ℕ → Bool) (bytes text : List ℕ) (len : ℕ) (last : Part) → PassedText (part_at ends) bytes 0 len text → part_at ends (drop len bytes) ≡ Malformed → PassesTo ends last (drop len bytes) → Breaks ends bytes len last
breaks ends bytes text len last p h to = record {
  spans = p.passed.spans;
  raw_spans = to.spans;
  broken = drop len bytes;
  rest = to.rest;
  turn = p.passed.turn;
  malformed = h;
  offset_is = omega (arith, p.passed.len_is);
  raw_turn = to.turn;
  «end» = to.end;
}

pub broken_body : (ends : ℕ → Bool) (bytes text : List ℕ) (len : ℕ) (body : Body) → PassedText (part_at ends) bytes 0 len text → part_at ends (drop len bytes) ≡ Malformed → IsBroken ends (drop len bytes) len body → HasBody ends bytes body
broken_body ends bytes text len (Closed t n) p h b = absurd b
broken_body ends bytes text len Unclosed p h b = inr (len, breaks ends bytes text len Unfinished p h b)
broken_body ends bytes text len (Broken k) p h b =
    subst (λ (o : ℕ). Breaks ends bytes o Closing) (sym b.0) (breaks ends bytes text len Closing p h b.1)

pub passes_to : (ends : ℕ → Bool) (bytes : List ℕ) (offset len : ℕ) (last : Part) → Passed (raw_part_at ends) bytes offset len → raw_part_at ends (drop len bytes) ≡ last → PassesTo ends last (drop offset bytes)
passes_to ends bytes offset len last p h = record { spans = p.spans; rest = drop len bytes; turn = p.turn; «end» = h }
