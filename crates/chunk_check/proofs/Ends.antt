-- How code ends, by its last line.
use Rattle.std.proofs.Common.{◌≡◌, refl, ap, ◌∙◌, ℕ, zero, suc, Bool, true, false, List, [], ◌∷◌, length, nat_eq, get_or, arith}
use Rattle.machine_meaning.specs.Needs as needs
use Rattle.machine_meaning.specs.WellFormed.{first_of, end_faults, fall_faults, at_place}
use Rattle.chunk_check.specs.declared.lines.Line.{Line}
use Rattle.chunk_check.specs.Lines.{line_of, lines_of}

behind_last : (ls : List Line) (k : ℕ) (d : Line) (place : ℕ) → suc k ≡ length ls → needs.behind (lines_of ls) place ≡ (get_or ls k d).next
behind_last [] k d place e = absurd (omega arith)
behind_last (l ∷ []) zero d place e = refl
behind_last (l ∷ []) (suc k) d place e = absurd (omega arith)
behind_last (l ∷ m ∷ ls) zero d place e = absurd (omega arith)
behind_last (l ∷ m ∷ ls) (suc k) d place e = behind_last (m ∷ ls) k d l.next (omega arith)

fall_last : (n : ℕ) (ls : List Line) (k : ℕ) (d : Line) → suc k ≡ length ls
    → fall_faults n (lines_of ls) ≡ fall_faults n (line_of (get_or ls k d) ∷ [])
fall_last n [] k d e = absurd (omega arith)
fall_last n (l ∷ []) zero d e = refl
fall_last n (l ∷ []) (suc k) d e = absurd (omega arith)
fall_last n (l ∷ m ∷ ls) zero d e = absurd (omega arith)
fall_last n (l ∷ m ∷ ls) (suc k) d e = fall_last n (m ∷ ls) k d (omega arith)

ends_last : (b : Bool) (n : ℕ) (ls : List Line) (k : ℕ) (d : Line) → suc k ≡ length ls
    → end_faults b n (lines_of ls) ≡ end_faults b n (line_of (get_or ls k d) ∷ [])
ends_last true n ls k d e = fall_last n ls k d e
ends_last false n ls k d e = ap (λ place. at_place n place (1 ∷ [])) (behind_last ls k d 0 e)

-- the fault of the end is that of the last line
pub last_ends : (n size : ℕ) (ls : List Line) (k : ℕ) (d : Line) → suc k ≡ length ls
    → first_of (end_faults (nat_eq (needs.behind (lines_of ls) 0) size) n (lines_of ls))
    ≡ first_of (end_faults (nat_eq (get_or ls k d).next size) n (line_of (get_or ls k d) ∷ []))
last_ends n size ls k d e =
    ap first_of (ap (λ next. end_faults (nat_eq next size) n (lines_of ls)) (behind_last ls k d 0 e) ∙ ends_last (nat_eq (get_or ls k d).next size) n ls k d e)
