-- One thing stands at a place, and things stand in turn in one way.
use Rattle.std.proofs.Common.{◌≡◌, ℕ, List, [], ◌∷◌, take, drop, Bool, nat_eq, refl, sym, ap, subst, ◌∙◌}
use Rattle.whole_num.proofs.Literals.{reads_once}
use Rattle.syntax_tree.specs.declared.form.Form.{Form}
use Rattle.syntax_tree.specs.declared.form.Form.TheVariants as form
use Rattle.syntax_tree.specs.Strings.{Body}
use Rattle.syntax_tree.specs.Plain.{number_len}
use Rattle.syntax_tree.specs.Spellings.{Place, Step, What, Passes, behind, form_of, quoted, first_piece, next_piece, ends_piece, number, StandsAsString, StandsAsNumber, StandsAs, Stands, StandInTurn}
use Rattle.luau_lexer.proofs.UniqueStrings.{body_once}

string_once : (ends : ℕ → Bool) (makes : Body → What) (bytes : List ℕ) (a b : What) → StandsAsString ends makes bytes a → StandsAsString ends makes bytes b → a ≡ b
string_once ends makes bytes a b g h =
    g.is ∙ ap makes (body_once ends (drop 1 bytes) g.body h.body g.has_body h.has_body) ∙ sym h.is

number_once : (p : Place) (len : ℕ) (a b : What) → StandsAsNumber p len a → StandsAsNumber p len b → a ≡ b
number_once p len a b g h =
    g.is ∙ ap (number p len) (reads_once (take len p.bytes) g.value h.value g.reads h.reads) ∙ sym h.is

form_once : (f : Form) (p : Place) (a b : What) → StandsAs f p a → StandsAs f p b → a ≡ b
form_once form.Finished p a b g h = g ∙ sym h
form_once form.Blanks p a b g h = g ∙ sym h
form_once form.LineComment p a b g h = g ∙ sym h
form_once (form.LongComment level) p a b g h = g ∙ sym h
form_once form.Name p a b g h = g ∙ sym h
form_once form.Number p a b g h = number_once p (number_len p.bytes) a b g h
form_once (form.Quoted quote) p a b g h = string_once (λ c. nat_eq c quote) (quoted p) p.bytes a b g h
form_once (form.LongString level) p a b g h = g ∙ sym h
form_once form.FirstPiece p a b g h = string_once ends_piece (first_piece p) p.bytes a b g h
form_once form.NextPiece p a b g h = string_once ends_piece (next_piece p) p.bytes a b g h
form_once form.Symbol p a b g h = g ∙ sym h

-- one thing stands at a place
pub stands_once : (p : Place) (a b : What) → Stands p a → Stands p b → a ≡ b
stands_once p a b g h = form_once (form_of p.bytes p.braces) p a b g h

-- what is not passed
abbrev pub IsStop : What → Type 0
IsStop (Passes s) = ⊥
IsStop _ = Unit {0}

-- things in turn, up to one that is not passed, are the same, and so is that one
pub turn_once : (p : Place) (ss ts : List Step) (q r : Place) (a b : What) → StandInTurn p ss q → StandInTurn p ts r → Stands q a → Stands r b → IsStop a → IsStop b → (ss ≡ ts) × (a ≡ b)
turn_once p [] [] q r a b g h x y k l =
    (refl, stands_once r a b (subst (λ (z : Place). Stands z a) (sym g ∙ h) x) y)
turn_once p [] (t ∷ ts) q r a b g h x y k l =
    absurd (subst IsStop (stands_once p a (Passes t) (subst (λ (z : Place). Stands z a) (sym g) x) h.0) k)
turn_once p (s ∷ ss) [] q r a b g h x y k l =
    absurd (subst IsStop (stands_once p b (Passes s) (subst (λ (z : Place). Stands z b) (sym h) y) g.0) l)
turn_once p (s ∷ ss) (t ∷ ts) q r a b g h x y k l =
    let passed = stands_once p (Passes s) (Passes t) g.0 h.0 in
    let same : s ≡ t = cc in
    let more = turn_once (behind p t) ss ts q r a b (subst (λ (u : Step). StandInTurn (behind p u) ss q) same g.1) h.1 x y k l in
    (λ i. same i ∷ more.0 i, more.1)
