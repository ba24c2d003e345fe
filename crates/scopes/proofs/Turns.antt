-- What loops over notes and over the `continue`s of a loop find.
use Rattle.std.proofs.Common.{◌≡◌, ◌∙◌, ◌<◌, ◌≤◌, ◌+◌, if◌then◌else◌, append_assoc, ℕ, Bool, List, [], ◌++◌, length, drop, get_or, sym, ap}
use Rattle.std.proofs.lemmas.List.{at_drop_more, drop_all}
use Rattle.std.specs.List.{list_any}
use Rattle.syntax_tree.specs.declared.notes.Capture.{Capture}
use Rattle.syntax_tree.specs.declared.notes.Note.{Note}
use Rattle.syntax_tree.specs.declared.fault.ScopeFault.{ScopeFault}
use Rattle.syntax_tree.specs.declared.fault.ScopeRule.TheVariants as rule
use Rattle.syntax_tree.specs.declared.notes.Leap.{Leap}
use Rattle.syntax_tree.specs.Limits.{most_variables}
use Rattle.syntax_tree.specs.Captures.{at_first, too_many}
use Rattle.syntax_tree.specs.Faults.{fault}
use Rattle.syntax_tree.specs.Leaps.{is_skipped, skips}

-- one turn of the loop over the `continue`s of a loop
pub skips_turn : (below : ℕ) (cond : List Note) (leaps : List Leap) (i : ℕ) (d : Leap) (now new : List ScopeFault) (b : Bool) (r : List ScopeFault) → i < length leaps → list_any (is_skipped below (get_or leaps i d)) cond ≡ b → new ≡ now ++ (if b then fault rule.UntilSkipsLocal (get_or leaps i d).at else []) → now ++ skips below cond (drop i leaps) ≡ r → new ++ skips below cond (drop (i + 1) leaps) ≡ r
skips_turn below cond leaps i d now new b r lt any e p =
    let leap = get_or leaps i d in
    ap (λ l. l ++ skips below cond (drop (i + 1) leaps)) (e ∙ ap (λ x. now ++ (if x then fault rule.UntilSkipsLocal leap.at else [])) (sym any))
    ∙ append_assoc now (if list_any (is_skipped below leap) cond then fault rule.UntilSkipsLocal leap.at else []) (skips below cond (drop (i + 1) leaps))
    ∙ ap (λ l. now ++ skips below cond l) (sym (at_drop_more (λ l. l) leaps i d lt)) ∙ p

-- a function that captures not too many variables
pub few : (names : List Capture) → length names ≤ most_variables → too_many names ≡ []
few names le = ap at_first (drop_all most_variables names le)
