-- Bytes that are appended piece by piece.
use Rattle.std.proofs.Common.{◌≡◌, ℕ, ◌+◌, List, ◌++◌, Option, Some, None, take, drop, refl, ap, sym, ◌∙◌, append_assoc}
use Rattle.std.proofs.Math.Seq.{take-add}
use Rattle.outside_io.specs.Sinks.{appended}

-- two appendings are one of both lists
pub appended-appended : (told : Option (List ℕ)) (xs ys : List ℕ) → appended (appended told xs) ys ≡ appended told (xs ++ ys)
appended-appended None xs ys = refl
appended-appended (Some bytes) xs ys = ap Some (append_assoc bytes xs ys)

-- the front that was appended grows by the next piece
pub appended-take : (start before now : Option (List ℕ)) (bytes : List ℕ) (done count : ℕ)
    → before ≡ appended start (take done bytes) → now ≡ appended before (take count (drop done bytes))
    → now ≡ appended start (take (done + count) bytes)
appended-take start before now bytes done count b n =
    n ∙ (ap (λ (o : Option (List ℕ)). appended o (take count (drop done bytes))) b
    ∙ (appended-appended start (take done bytes) (take count (drop done bytes))
    ∙ ap (appended start) (sym (take-add done count bytes))))
