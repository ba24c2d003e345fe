-- One turn of the loop over the functions that are linked.
use Rattle.std.proofs.Common.{◌≡◌, ℕ, suc, ◌+◌, ◌<◌, ◌≤◌, ◌^◌, List, [], ◌∷◌, ◌++◌, length, get_or, drop, map, refl, sym, ap, ◌∙◌, subst, arith, append_assoc, append-nil}
use Rattle.std.proofs.Math.Seq.{drop-cons}
use Rattle.op_words.specs.Chunks.{ProtoOf}
use Rattle.syntax_tree.specs.declared.bindings.Bindings.{Bindings}
use Rattle.syntax_tree.specs.declared.tree.FuncBody.{FuncBody}
use Rattle.syntax_tree.specs.declared.tree.Tree.{Tree}
use Rattle.syntax_tree.specs.Bound.{bound, faults}
use Rattle.syntax_tree.specs.Numbers.{numbered}
use Rattle.code_link.specs.Labels.{IsLinkable}
use Rattle.emit_expr.specs.declared.draft.Prototype.{Prototype}
use Rattle.function_registers.specs.declared.walk.FuncRegisters.{FuncRegisters}
use Rattle.link_laws.specs.Laws.{AreLinkable, CodeLinks}
use Rattle.node_code.specs.Code.{script_code}
use Rattle.script_compiler.specs.Compiled.{IsLinkedProto, AreLinked}

-- what is linked, with what is linked of the rest, is what is linked of all
abbrev pub Links : List FuncRegisters → Bindings → (all rest : List Prototype) → (done : List ProtoOf) → Type 0
Links sizes b all rest done = (more : List ProtoOf) → AreLinked sizes b rest more → AreLinked sizes b all (done ++ more)

pub dropped : {X : Type 0} (xs : List X) (i : ℕ) (x : X) → i < length xs → x ≡ get_or xs i x → drop i xs ≡ x ∷ drop (i + 1) xs
dropped xs i x lt is =
    let one : suc i ≡ i + 1 = omega arith in
    drop-cons xs i x lt ∙ ap (λ z. z ∷ drop (suc i) xs) (sym is) ∙ ap (λ n. x ∷ drop n xs) one

pub linkable_here : (ps rest : List Prototype) (p : Prototype) → ps ≡ p ∷ rest → AreLinkable ps → IsLinkable p.items × AreLinkable rest
linkable_here ps rest p e h = subst AreLinkable e h

pub links_next : (sizes : List FuncRegisters) (b : Bindings) (all ps rest : List Prototype) (p : Prototype) (done : List ProtoOf) (q : ProtoOf) → ps ≡ p ∷ rest → IsLinkedProto sizes b p q → Links sizes b all ps done → Links sizes b all rest (done ++ q ∷ [])
links_next sizes b all ps rest p done q e is h more m =
    subst (AreLinked sizes b all) (sym (append_assoc done (q ∷ []) more))
    (h (q ∷ more) (subst (λ l. AreLinked sizes b l (q ∷ more)) (sym e) (is, m)))

pub links_all : (sizes : List FuncRegisters) (b : Bindings) (all rest : List Prototype) (done : List ProtoOf) → rest ≡ [] → Links sizes b all rest done → AreLinked sizes b all done
links_all sizes b all rest done e h =
    subst (AreLinked sizes b all) (append-nil done) (h [] (subst (λ l. AreLinked sizes b l []) (sym e) tt))

-- the functions of a script that breaks no rule can be linked
pub script_linkable : CodeLinks → (main : FuncBody) (tree : Tree) (b : Bindings) → tree ≡ numbered main → b ≡ bound tree → faults tree ≡ [] → tree.nodes ≤ 2 ^ 62 → AreLinkable (script_code b tree.main).protos
script_linkable law main tree b is own sound low =
    let sound' : faults (numbered main) ≡ [] = subst (λ t. faults t ≡ []) is sound in
    let low' : (numbered main).nodes ≤ 2 ^ 62 = subst (λ (t : Tree). t.nodes ≤ 2 ^ 62) is low in
    let all : AreLinkable (script_code (bound tree) tree.main).protos = subst (λ (t : Tree). AreLinkable (script_code (bound t) t.main).protos) (sym is) (law main sound' low') in
    subst (λ x. AreLinkable (script_code x tree.main).protos) (sym own) all
