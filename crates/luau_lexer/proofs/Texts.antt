-- Numbers that keep their texts.
use Rattle.std.proofs.Common.{◌≡◌, ℕ, zero, suc, Bool, true, false, cond, List, [], ◌∷◌, ◌++◌, Some, slice_get, sym, subst}
use Rattle.std.specs.List.{list_any}
use Rattle.std.specs.Str.{bytes_eq}
use Rattle.std.proofs.lemmas.Option.{none-some}
use Rattle.byte_text.specs.Texts.{noted}
use Rattle.luau_lexer.specs.Laws.{Keeps}

front_kept : (texts : List (List ℕ)) (more : List (List ℕ)) (i : ℕ) (t : List ℕ) → slice_get texts i ≡ Some t → slice_get (texts ++ more) i ≡ Some t
front_kept [] more i t h = absurd (none-some t h)
front_kept (x ∷ xs) more zero t h = h
front_kept (x ∷ xs) more (suc i) t h = front_kept xs more i t h

pub keeps_noted : (texts : List (List ℕ)) (t : List ℕ) → Keeps texts (noted texts t)
keeps_noted texts t = by (list_any (bytes_eq t) texts)
  where
    by : (b : Bool) → Keeps texts (cond b texts (texts ++ t ∷ []))
    by true = record { at = λ i. λ s. λ h. h }
    by false = record { at = λ i. λ s. λ h. front_kept texts (t ∷ []) i s h }

pub keeps_same : (old new : List (List ℕ)) → new ≡ old → Keeps old new
keeps_same old new is = subst (Keeps old) (sym is) (record { at = λ i. λ s. λ h. h })

pub keeps_more : (a b c : List (List ℕ)) → Keeps a b → Keeps b c → Keeps a c
keeps_more a b c h k = record { at = λ i. λ s. λ at. k.at i s (h.at i s at) }
