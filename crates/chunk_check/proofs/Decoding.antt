-- Lines, one after another.
use Rattle.std.proofs.Common.{◌≡◌, refl, sym, ap, ◌∙◌, ℕ, zero, suc, ◌+◌, ◌-◌, ◌<◌, ◌≤◌, List, [], ◌∷◌, ◌++◌, length, Some, None, arith, append_assoc}
use Rattle.std.specs.List.{All}
use Rattle.std.proofs.lemmas.List.{map-append, append-nil}
use Rattle.std.proofs.lemmas.List.Elements.{All-push}
use Rattle.op_words.specs.declared.insn.Insn.{Insn}
use Rattle.op_words.specs.Decoding.{insn_at, StandsAt}
use Rattle.machine_meaning.specs.Needs.{lines, lines_from, then_line}
use Rattle.chunk_check.specs.declared.lines.Line.{Line}
use Rattle.chunk_check.specs.Lines.{line_of, lines_of, IsWithin}

-- the lines so far, and those that a decoder finds from this place on, are all of them
pub record AreSoFar (code : List ℕ) (count : ℕ) (found : List Line) (place : ℕ) : Type 0 where
  pub lines : lines_of found ++ lines_from (length code - count) code place ≡ lines code
  pub within : All (IsWithin (length code + 1)) found

pub none_yet : (code : List ℕ) → AreSoFar code 0 [] 0
none_yet code = record { lines = ap (λ n. lines_from n code 0) (omega arith); within = λ k d l. absurd (omega arith) }

one_step : (n m : ℕ) (code : List ℕ) (place : ℕ) (insn : Insn) (next : ℕ) → n ≡ suc m → insn_at code place ≡ Some (insn, next)
    → lines_from n code place ≡ record { place = place; insn = insn; next = next } ∷ lines_from m code next
one_step n m code place insn next e f =
    ap (λ k. lines_from k code place) e ∙ ap (λ o. then_line place o (λ to. lines_from m code to)) f

no_step : (n : ℕ) (code : List ℕ) (place : ℕ) → insn_at code place ≡ None → lines_from n code place ≡ []
no_step zero code place f = refl
no_step (suc n) code place f = ap (λ o. then_line place o (λ to. lines_from n code to)) f

pub one_more : (code : List ℕ) (count : ℕ) (found : List Line) (place : ℕ) (insn : Insn) (next : ℕ) → AreSoFar code count found place
    → count < length code → Some (insn, next) ≡ insn_at code place → StandsAt code place insn next
    → AreSoFar code (count + 1) (found ++ record { place = place; insn = insn; next = next } ∷ []) next
one_more code count found place insn next so l e stands =
    let n = length code - count in
    let m = length code - (count + 1) in
    let line : Line = record { place = place; insn = insn; next = next } in
    record {
      lines =
          ap (λ ls. ls ++ lines_from m code next) (map-append line_of found (line ∷ []))
          ∙ append_assoc (lines_of found) (line_of line ∷ []) (lines_from m code next)
          ∙ ap (λ ls. lines_of found ++ ls) (sym (one_step n m code place insn next (omega arith) (sym e)))
          ∙ so.lines;
      within = All-push (IsWithin (length code + 1)) found line so.within (record { place = omega (arith, stands.there, stands.within); next = omega (arith, stands.within) });
    }

pub all_found : (code : List ℕ) (count : ℕ) (found : List Line) (place : ℕ) → AreSoFar code count found place → None ≡ insn_at code place
    → lines_of found ≡ lines code
all_found code count found place so e =
    sym (ap (λ ls. lines_of found ++ ls) (no_step (length code - count) code place (sym e)) ∙ append-nil (lines_of found)) ∙ so.lines

pub all_counted : (code : List ℕ) (count : ℕ) (found : List Line) (place : ℕ) → AreSoFar code count found place → length code ≤ count
    → lines_of found ≡ lines code
all_counted code count found place so h =
    let none : length code - count ≡ 0 = omega arith in
    sym (ap (λ n. lines_of found ++ lines_from n code place) none ∙ append-nil (lines_of found)) ∙ so.lines
