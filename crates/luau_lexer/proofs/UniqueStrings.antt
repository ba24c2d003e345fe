-- The body of a string is one.
use Rattle.std.proofs.Common.{◌≡◌, ℕ, Bool, List, [], ◌∷◌, drop, refl, sym, ap, subst, ◌∙◌, inl, inr}
use Rattle.syntax_tree.specs.Strings.{Part, Inner, Closing, Malformed, Unfinished, Span, AreInTurn, spans_text, spans_len, part_at, raw_part_at, Body, Closed, Unclosed, Broken, HasBody, Closes, Stops, Breaks}

-- what is no span
abbrev pub IsLast : Part → Type 0
IsLast (Inner len text) = ⊥
IsLast _ = Unit {0}

same_span : (u v : Span) → Inner u.len u.text ≡ Inner v.len v.text → u ≡ v
same_span u v e =
    let len : u.len ≡ v.len = cc in
    let text : u.text ≡ v.text = cc in
    (λ i. record { len = len i; text = text i })

-- spans in turn, up to what is no span, are the same spans
pub spans_once : (read : List ℕ → Part) (bytes : List ℕ) (us vs : List Span) (r s : List ℕ) → AreInTurn read bytes us r → AreInTurn read bytes vs s → IsLast (read r) → IsLast (read s) → (us ≡ vs) × (r ≡ s)
spans_once read bytes [] [] r s a b x y = (refl, sym a ∙ b)
spans_once read bytes [] (v ∷ vs) r s a b x y = absurd (subst IsLast (ap read (sym a) ∙ b.0) x)
spans_once read bytes (u ∷ us) [] r s a b x y = absurd (subst IsLast (ap read (sym b) ∙ a.0) y)
spans_once read bytes (u ∷ us) (v ∷ vs) r s a b x y =
    let same = same_span u v (sym a.0 ∙ b.0) in
    let more = spans_once read (drop v.len bytes) us vs r s (subst (λ (w : Span). AreInTurn read (drop w.len bytes) us r) same a.1) b.1 x y in
    (λ i. same i ∷ more.0 i, more.1)

-- and so is what follows them
pub ends_once : (read : List ℕ → Part) (bytes : List ℕ) (us vs : List Span) (r s : List ℕ) (a b : Part) → AreInTurn read bytes us r → AreInTurn read bytes vs s → read r ≡ a → read s ≡ b → IsLast a → IsLast b → (us ≡ vs) × (r ≡ s) × (a ≡ b)
ends_once read bytes us vs r s a b p q e f x y =
    let same = spans_once read bytes us vs r s p q (subst IsLast (sym e) x) (subst IsLast (sym f) y) in
    (same.0, same.1, sym e ∙ ap read same.1 ∙ f)

-- ---- the ways in which a body ends

module _ (ends : ℕ → Bool) (bytes : List ℕ) where
  closed_once : (text text' : List ℕ) (len len' : ℕ) → Closes ends bytes text len → Closes ends bytes text' len' → Closed text len ≡ Closed text' len'
  closed_once text text' len len' a b =
      let same = ends_once (part_at ends) bytes a.spans b.spans a.rest b.rest Closing Closing a.turn b.turn a.end b.end tt tt in
      let texts : text ≡ text' = a.text_is ∙ ap spans_text same.0 ∙ sym b.text_is in
      let lens : len ≡ len' = a.len_is ∙ ap spans_len same.0 ∙ sym b.len_is in
      (λ i. Closed (texts i) (lens i))

  closed_stops : (text : List ℕ) (len : ℕ) → Closes ends bytes text len → Stops ends bytes → ⊥
  closed_stops text len a b =
      let e = (ends_once (part_at ends) bytes a.spans b.spans a.rest b.rest Closing Unfinished a.turn b.turn a.end b.end tt tt).2 in cc

  closed_breaks : (text : List ℕ) (len offset : ℕ) (last : Part) → Closes ends bytes text len → Breaks ends bytes offset last → ⊥
  closed_breaks text len offset last a b =
      let e = (ends_once (part_at ends) bytes a.spans b.spans a.rest b.broken Closing Malformed a.turn b.turn a.end b.malformed tt tt).2 in cc

  stops_breaks : (offset : ℕ) (last : Part) → Stops ends bytes → Breaks ends bytes offset last → ⊥
  stops_breaks offset last a b =
      let e = (ends_once (part_at ends) bytes a.spans b.spans a.rest b.broken Unfinished Malformed a.turn b.turn a.end b.malformed tt tt).2 in cc

  breaks_once : (o o' : ℕ) (last last' : Part) → IsLast last → IsLast last' → Breaks ends bytes o last → Breaks ends bytes o' last' → (o ≡ o') × (last ≡ last')
  breaks_once o o' last last' x y a b =
      let front = ends_once (part_at ends) bytes a.spans b.spans a.broken b.broken Malformed Malformed a.turn b.turn a.malformed b.malformed tt tt in
      let back = ends_once (raw_part_at ends) b.broken a.raw_spans b.raw_spans a.rest b.rest last last' (subst (λ (l : List ℕ). AreInTurn (raw_part_at ends) l a.raw_spans a.rest) front.1 a.raw_turn) b.raw_turn a.end b.end x y in
      (a.offset_is ∙ ap spans_len front.0 ∙ sym b.offset_is, back.2)

  pub body_once : (a b : Body) → HasBody ends bytes a → HasBody ends bytes b → a ≡ b
  body_once (Closed text len) (Closed text' len') g h = closed_once text text' len len' g h
  body_once (Closed text len) Unclosed g (inl h) = absurd (closed_stops text len g h)
  body_once (Closed text len) Unclosed g (inr h) = absurd (closed_breaks text len h.0 Unfinished g h.1)
  body_once (Closed text len) (Broken o) g h = absurd (closed_breaks text len o Closing g h)
  body_once Unclosed (Closed text len) (inl g) h = absurd (closed_stops text len h g)
  body_once Unclosed (Closed text len) (inr g) h = absurd (closed_breaks text len g.0 Unfinished h g.1)
  body_once Unclosed Unclosed g h = refl
  body_once Unclosed (Broken o) (inl g) h = absurd (stops_breaks o Closing g h)
  body_once Unclosed (Broken o) (inr g) h =
      absurd (let e = (breaks_once g.0 o Unfinished Closing tt tt g.1 h).1 in cc)
  body_once (Broken o) (Closed text len) g h = absurd (closed_breaks text len o Closing h g)
  body_once (Broken o) Unclosed g (inl h) = absurd (stops_breaks o Closing h g)
  body_once (Broken o) Unclosed g (inr h) =
      absurd (let e = (breaks_once o h.0 Closing Unfinished tt tt g h.1).1 in cc)
  body_once (Broken o) (Broken o') g h = ap Broken (breaks_once o o' Closing Closing tt tt g h).0
