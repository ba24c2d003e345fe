-- A script all of which is built is not refused, and a well-formed chunk is not.
use Rattle.std.proofs.Common.{◌≡◌, ◌∙◌, ℕ, List, [], Some, sym, ap, ap₂, subst, arith}
use Rattle.std.specs.Prelude.{Contains}
use Rattle.std.proofs.lemmas.Option.{none-some}
use Rattle.syntax_tree.specs.declared.fault.ScopeFault.{ScopeFault}
use Rattle.syntax_tree.specs.declared.fault.Refusal.{Refusal}
use Rattle.syntax_tree.specs.declared.token.Token.{Token}
use Rattle.syntax_tree.specs.declared.tree.Tree.{Tree}
use Rattle.syntax_tree.specs.Accepts.{Accepts, Refuses, no_tokens, no_tree, breaks_rule}
use Rattle.syntax_tree.specs.Bound.{faults}
use Rattle.syntax_tree.specs.Tokens.{HasTokens, texts_after}
use Rattle.byte_text.specs.Texts.{fixed_texts}
use Rattle.luau_lexer.proofs.OneReading.{tokens_once}
use Rattle.luau_lexer.proofs.OneTokenList.{one_list, tokens_or_fault}
use Rattle.syntax_tree.specs.Parsed.{IsParsed, HasRefusal}
use Rattle.luau_parser.proofs.Answering.{same_tree as once, parsed_or_refused}
use Rattle.op_words.specs.Chunks.{ChunkOf}
use Rattle.machine_meaning.specs.WellFormed.{CodeFault, IsWellFormed, code_fault, first_of}
use Rattle.chunk_file.specs.Reading.{read_file, IsChunk}
use Rattle.luau_cli.specs.declared.refusal.ChunkRefusal.{ChunkRefusal}
use Rattle.luau_cli.specs.declared.refusal.ChunkRefusal.TheVariants as chunk
use Rattle.luau_cli.specs.Refusals.{Unbuilt, texts_of, IsScript, IsChunkRefused}

-- a text has one tree
same_tree : (bytes : List ℕ) (ts us : List Token) (a b : Tree) → HasTokens bytes ts → HasTokens bytes us → IsParsed ts a → IsParsed us b → a ≡ b
same_tree bytes ts us a b h k p q =
    once (subst (λ vs. IsParsed vs a) (one_list bytes ts us h k) p).0 q.0

-- where no rule is broken, there is no fault
no_fault : (all : List ScopeFault) (fault : ScopeFault) → all ≡ [] → Contains all fault → ⊥
no_fault all fault none has =
    let held : Contains {X = ScopeFault} [] fault = subst (λ fs. Contains fs fault) none has in
    omega (arith, held.1)

-- an accepted text is not refused
pub refused_or_accepted : (bytes : List ℕ) (why : Refusal) → Refuses bytes why → (tree : Tree) → Accepts bytes tree → ⊥
refused_or_accepted bytes _ (no_tokens why has) tree a = tokens_or_fault bytes a.tokens why a.spelled has
refused_or_accepted bytes _ (no_tree tokens why spelled refusal) tree a =
    let same = one_list bytes tokens a.tokens spelled a.spelled in
    parsed_or_refused a.tokens tree why.cause why.at a.parsed (subst (λ ts. HasRefusal ts why) same refusal)
refused_or_accepted bytes _ (breaks_rule tokens other fault spelled parsed first) tree a =
    let same = same_tree bytes tokens a.tokens other tree spelled a.spelled parsed a.parsed in
    no_fault (faults other) fault (ap faults same ∙ a.unbroken) first.broken

-- an accepted text has one tree and one list of texts
pub same_unbuilt : (unbuilt : Unbuilt) (bytes : List ℕ) (tree other : Tree) (a : Accepts bytes tree) (b : Accepts bytes other)
    → unbuilt tree (texts_of a) ≡ unbuilt other (texts_of b)
same_unbuilt unbuilt bytes tree other a b =
    let trees = same_tree bytes a.tokens b.tokens tree other a.spelled b.spelled a.parsed b.parsed in
    let spelled = tokens_once bytes a.spelled.spelled b.spelled.spelled a.spelled.spells b.spelled.spells in
    ap₂ unbuilt trees (ap (texts_after fixed_texts) spelled)

-- what is built of a text is not refused
pub built_or_not : (unbuilt : Unbuilt) (bytes : List ℕ) (tree other : Tree) (at : ℕ) (b : Accepts bytes other) → IsScript unbuilt bytes tree
    → unbuilt other (texts_of b) ≡ Some at → ⊥
built_or_not unbuilt bytes tree other at b s first =
    none-some at (sym s.built ∙ same_unbuilt unbuilt bytes tree other s.accepted b ∙ first)

-- a well-formed chunk breaks no rule
unbroken : (c : ChunkOf) (fault : CodeFault) → code_fault c ≡ Some fault → IsWellFormed c → ⊥
unfolding code_fault
unbroken c fault e sound = none-some fault (sym (ap first_of sound) ∙ e)

-- the bytes of a well-formed chunk are not refused
pub listed_or_not : (bytes : List ℕ) (why : ChunkRefusal) (c : ChunkOf) → read_file bytes ≡ IsChunk c → IsWellFormed c → IsChunkRefused bytes why → ⊥
listed_or_not bytes (chunk.Truncated at) c read sound is = let no = sym is ∙ read in cc
listed_or_not bytes (chunk.BadMagic at) c read sound is = let no = sym is ∙ read in cc
listed_or_not bytes (chunk.BadVersion at) c read sound is = let no = sym is ∙ read in cc
listed_or_not bytes (chunk.BadField at) c read sound is = let no = sym is ∙ read in cc
listed_or_not bytes (chunk.Trailing at) c read sound is = let no = sym is ∙ read in cc
listed_or_not bytes (chunk.BadCode proto place rule) c read sound is =
    let one = sym is.1 ∙ read in
    let same : is.0 ≡ c = cc in
    unbroken c (record { proto = proto; place = place; rule = rule }) (ap code_fault (sym same) ∙ is.2) sound
