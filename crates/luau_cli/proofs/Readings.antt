-- From what lexer, parser and scopes answer to what a text is read as.
use Rattle.std.proofs.Common.{◌≡◌, ◌∙◌, ℕ, List, [], Option, Some, None, IfSome, option_map, Result, Ok, Err, IfOk, sym, ap, subst}
use Rattle.byte_text.specs.Texts.{fixed_texts}
use Rattle.resource.specs.declared.memory.OutOfMemory.{OutOfMemory}
use Rattle.syntax_tree.specs.declared.fault.ScopeFault.{ScopeFault}
use Rattle.syntax_tree.specs.declared.fault.Refusal.{Refusal}
use Rattle.syntax_tree.specs.declared.token.Token.{Token}
use Rattle.syntax_tree.specs.declared.tree.Tree.{Tree}
use Rattle.syntax_tree.specs.Accepts as accepts
use Rattle.syntax_tree.specs.Accepts.{no_tokens, no_tree, breaks_rule}
use Rattle.syntax_tree.specs.Bound.{bound, faults}
use Rattle.syntax_tree.specs.Parsed.{IsParsed, HasRefusal}
use Rattle.syntax_tree.specs.Spellings.{Spelled, Spells, HasFault}
use Rattle.syntax_tree.specs.Tokens.{HasTokens, AreTokens, texts_after}
use Rattle.scopes.specs.Refused.{Refuses, refusal_for}
use Rattle.luau_cli.specs.declared.script.Reading.{Reading}
use Rattle.luau_cli.specs.declared.script.Reading.TheVariants as reading
use Rattle.luau_cli.specs.declared.script.Script.{Script}
use Rattle.luau_cli.specs.Readings.{IsRead, IsReadingOf}

-- a refusal that refuses the text
pub refused_reading : (bytes : List ℕ) (refusal named : Option Refusal) (r : Result Reading OutOfMemory)
    → IfOk r (λ x. (why : Refusal) × (refusal ≡ Some why) × (x ≡ reading.Refused why)) → refusal ≡ named
    → IfSome named (accepts.Refuses bytes) → IfOk r (IsReadingOf bytes)
refused_reading bytes refusal named (Ok x) made is refuses =
    subst (λ y. IsReadingOf bytes y) (sym made.2) (subst (λ o. IfSome o (accepts.Refuses bytes)) (sym is ∙ made.1) refuses)
refused_reading bytes refusal named (Err e) made is refuses = tt

-- a text without tokens
pub without_tokens : (bytes : List ℕ) (o : Option Refusal) → IfSome o (HasFault bytes) → IfSome o (accepts.Refuses bytes)
without_tokens bytes None h = tt
without_tokens bytes (Some why) h = no_tokens why h

-- tokens without a tree
pub without_tree : (bytes : List ℕ) (tokens : List Token) (o : Option Refusal) → HasTokens bytes tokens → IfSome o (HasRefusal tokens)
    → IfSome o (accepts.Refuses bytes)
without_tree bytes tokens None spelled h = tt
without_tree bytes tokens (Some why) spelled h = no_tree tokens why spelled h

-- a tree that breaks a rule
pub with_fault : (bytes : List ℕ) (tokens : List Token) (tree : Tree) (o : Option ScopeFault) → HasTokens bytes tokens
    → IsParsed tokens tree → Refuses tree o → IfSome (option_map refusal_for o) (accepts.Refuses bytes)
with_fault bytes tokens tree None spelled parsed h = tt
with_fault bytes tokens tree (Some fault) spelled parsed h = breaks_rule tokens tree fault spelled parsed h

-- a text with a tree that breaks no rule, whose texts the interner has
pub is_read : (bytes : List ℕ) (old new : List (List ℕ)) (tokens : List Token) (s : Script) → old ≡ fixed_texts
    → ((spelled : List Spelled) × Spells bytes spelled × AreTokens new spelled tokens × (new ≡ texts_after old spelled))
    → IsParsed tokens s.tree → s.names ≡ new → (faults s.tree ≡ []) × (s.bindings ≡ bound s.tree) → IsRead bytes s
is_read bytes old new tokens s fresh h parsed names sound =
    let texts : new ≡ texts_after fixed_texts h.0 = h.3 ∙ ap (λ texts. texts_after texts h.0) fresh in
    record {
      accepted = record {
        tokens = tokens;
        spelled = record { spelled = h.0; spells = h.1; tokens_are = subst (λ (texts : List (List ℕ)). AreTokens texts h.0 tokens) texts h.2 };
        parsed = parsed;
        unbroken = sound.0;
      };
      names = names ∙ texts;
      bindings = sound.1;
    }
