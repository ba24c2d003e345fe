-- What is answered is the one reading of the text.
use Rattle.std.proofs.Common.{◌≡◌, ℕ, List, Option, Some, None, IfSome, Result, Ok, Err, IfOk, IfErr, ◌⊎◌, inl, inr, refl, sym, subst}
use Rattle.std.proofs.lemmas.Option.{none-some}
use Rattle.std.specs.declared.alloc.Global.{Global}
use Rattle.std.specs.declared.vec.Vec.{Vec}
use Rattle.syntax_tree.specs.declared.fault.Refusal.{Refusal}
use Rattle.syntax_tree.specs.declared.token.Token.{Token}
use Rattle.luau_lexer.specs.declared.error.LexErr.{LexErr}
use Rattle.luau_lexer.specs.declared.error.LexErr.TheVariants as error
use Rattle.syntax_tree.specs.Spellings.{Spelled, Spells, HasFault}
use Rattle.syntax_tree.specs.Tokens.{AreTokens, texts_after}
use Rattle.luau_lexer.specs.Refusals.{refusal_of, IsRefusal}
use Rattle.luau_lexer.specs.Laws.{Reading, Tokens, Fault, HasReading, Answers}
use Rattle.luau_lexer.proofs.OneReading.{reading_once}

memory_only : (e : LexErr) → refusal_of e ≡ None → e ≡ error.OutOfMemory
memory_only error.OutOfMemory h = refl
memory_only _ h = absurd (none-some _ (sym h))

memory_answers : (texts : List (List ℕ)) (r : Reading) → Answers texts r (Err error.OutOfMemory)
memory_answers texts (Tokens spelled) = refl
memory_answers texts (Fault fault) = inr refl

pub only_reading : (bytes : List ℕ) (before texts : List (List ℕ)) (answer : Result (Vec Token Global) LexErr) → IfOk answer (λ tokens. (spelled : List Spelled) × Spells bytes spelled × AreTokens texts spelled tokens.items × (texts ≡ texts_after before spelled)) → IfErr answer (IsRefusal bytes) → (r : Reading) → HasReading bytes r → Answers texts r answer
only_reading bytes before texts (Ok tokens) h k r has =
    subst (λ (q : Reading). Answers texts q (Ok tokens)) (reading_once bytes (Tokens h.0) r h.1 has) h.2
only_reading bytes before texts (Err e) h k r has = by (refusal_of e) refl k
  where
    by : (o : Option Refusal) → refusal_of e ≡ o → IfSome o (HasFault bytes) → Answers texts r (Err e)
    by None is fault =
        subst (λ (x : LexErr). Answers texts r (Err x)) (sym (memory_only e is)) (memory_answers texts r)
    by (Some why) is fault =
        subst (λ (q : Reading). Answers texts q (Err e)) (reading_once bytes (Fault why) r fault has) (inl is)
