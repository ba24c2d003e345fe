-- A file that is read piece by piece.
use Rattle.std.proofs.Common.{◌≡◌, ℕ, ◌<◌, ◌≤◌, List, ◌++◌, Option, Some, None, Ok, length, take, drop, ap, ap₂, sym, ◌∙◌, arith, length-append}
use Rattle.std.proofs.Math.Seq.{take-add}
use Rattle.std.proofs.lemmas.Grind.{common_steps}
use Rattle.outside_io.specs.Files.{ReadsAt, ReadsOn}

-- what follows a front of the file makes a longer front
pub longer_front : (bytes xs ys : List ℕ) → xs ≡ take (length xs) bytes → ys ≡ take (length ys) (drop (length xs) bytes)
    → xs ++ ys ≡ take (length (xs ++ ys)) bytes
longer_front bytes xs ys x y =
    ap₂ (λ (a b : List ℕ). a ++ b) x y ∙ (sym (take-add (length xs) (length ys) bytes) ∙ ap (λ (n : ℕ). take n bytes) (sym (length-append xs ys)))

-- a read behind a front, appended to it
pub reads_on : (file : Option (List ℕ)) (xs old new after : List ℕ) (at count : ℕ) → at ≡ length xs
    → ReadsAt file at old new (Ok count) → count ≤ length new → 0 < length old → after ≡ xs ++ take count new
    → ReadsOn file xs after (Ok count)
reads_on None xs old new after at count there reads fits room is = cc
reads_on (Some bytes) xs old new after at count there reads fits room is =
    let len : length (take count new) ≡ count = grind (arith, common_steps) in
    let next : take count new ≡ take (length (take count new)) (drop (length xs) bytes) = rw (len, ← there) reads.0 in (
      λ front. rw is (longer_front bytes xs (take count new) front next),
      λ none. (grind (arith, common_steps, is, none), rw (← there) (reads.1 none room)),
    )
