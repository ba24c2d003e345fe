-- The lines of code: what is read at each, and what stands behind it.
use Rattle.std.proofs.Common.{◌≡◌, refl, sym, ap, ◌∙◌, ℕ, zero, suc, List, [], ◌∷◌, ◌++◌, length, Option, Some, None}
use Rattle.op_words.specs.declared.insn.Insn.{Insn}
use Rattle.op_words.specs.Decoding.{insn_at}
use Rattle.machine_meaning.specs.Needs.{Line, lines, lines_from, then_line}

-- what is read at a line is its instruction, and the lines behind it are those from the place behind its words on
pub record IsRead (code : List ℕ) (l : Line) (after : List Line) : Type 0 where
  pub read : insn_at code l.place ≡ Some (l.insn, l.next)
  pub more : ℕ
  pub rest : after ≡ lines_from more code l.next

AllRead : (n : ℕ) → List ℕ → Type 0
AllRead n code = (at : ℕ) (before : List Line) (l : Line) (after : List Line) → lines_from n code at ≡ before ++ l ∷ after → IsRead code l after

read_next : (n : ℕ) (code : List ℕ) → AllRead n code → (at : ℕ) (o : Option (Insn × ℕ)) → insn_at code at ≡ o
    → (before : List Line) (l : Line) (after : List Line) → then_line at o (λ next. lines_from n code next) ≡ before ++ l ∷ after
    → IsRead code l after
unfolding AllRead
read_next n code ih at None e [] l after h = absurd cc
read_next n code ih at None e (b ∷ before) l after h = absurd cc
read_next n code ih at (Some (insn, next)) e [] l after h =
    let same : record { place = at; insn = insn; next = next } ≡ l = cc in
    record {
      read =
          ap (λ (l : Line). insn_at code l.place) (sym same)
          ∙ e
          ∙ ap (λ (l : Line). Some (l.insn, l.next)) same;
      more = n;
      rest = let tail : lines_from n code next ≡ after = cc in sym tail ∙ ap (λ (l : Line). lines_from n code l.next) same;
    }
read_next n code ih at (Some (insn, next)) e (b ∷ before) l after h =
    let tail : lines_from n code next ≡ before ++ l ∷ after = cc in ih next before l after tail

all_read : (n : ℕ) (code : List ℕ) → AllRead n code
unfolding AllRead
all_read zero code at [] l after h = absurd cc
all_read zero code at (b ∷ before) l after h = absurd cc
all_read (suc n) code at before l after h = read_next n code (all_read n code) at (insn_at code at) refl before l after h

pub line_read : (code : List ℕ) (before : List Line) (l : Line) (after : List Line) → lines code ≡ before ++ l ∷ after → IsRead code l after
unfolding AllRead
line_read code before l after h = all_read (length code) code 0 before l after h

-- ---- the first line of those from a place on

first_of_step : (n : ℕ) (code : List ℕ) (at : ℕ) (o : Option (Insn × ℕ)) (l : Line) (after : List Line)
    → l ∷ after ≡ then_line at o (λ next. lines_from n code next) → l.place ≡ at
first_of_step n code at None l after h = absurd cc
first_of_step n code at (Some (insn, next)) l after h =
    let same : l ≡ record { place = at; insn = insn; next = next } = cc in ap (λ (l : Line). l.place) same

pub first_line : (n : ℕ) (code : List ℕ) (at : ℕ) (l : Line) (after : List Line) → l ∷ after ≡ lines_from n code at → l.place ≡ at
first_line zero code at l after h = absurd cc
first_line (suc n) code at l after h = first_of_step n code at (insn_at code at) l after h
