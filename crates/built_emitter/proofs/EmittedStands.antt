-- The scope of the statements of a block.
use Rattle.std.proofs.Common.{◌≡◌, List, map, sym, ap, ◌∙◌, ℕ, ◌<◌, [], length, get_or, refl, ◌+◌, ◌++◌, reverse, subst, drop, append_assoc}
use Rattle.syntax_tree.specs.declared.tree.Stat.{Stat}
use Rattle.syntax_tree.specs.declared.tree.StatKind.{out-StatKind}
use Rattle.syntax_tree.specs.declared.bindings.Bindings.{Bindings}
use Rattle.syntax_tree.specs.declared.notes.Visible.{Visible}
use Rattle.scope_laws.specs.Sight.{stat, stat_shows}
use Rattle.built_emitter.specs.Names.{names_after}
use Rattle.built_emitter.specs.Standing.{first_at, names_of, scope_after, Stand}
use Rattle.built_emitter.proofs.StandingParts.{behind_statement, names_behind}
use Rattle.built_emitter.proofs.BuiltBlocks.{next_is}

-- the locals in scope behind the first i statements of a block, at whose beginning `outer` were in scope
pub record HasScope (b : Bindings) (whole : List Stat) (i : ℕ) (outer vs : List Visible) : Type 0 where
  pub inner : List Visible
  pub nested : vs ≡ inner ++ outer
  pub stands : Stand b vs (map stat (drop i whole))

pub scope_none : (b : Bindings) (whole : List Stat) (outer : List Visible) → Stand b outer (map stat whole) → HasScope b whole 0 outer outer
scope_none b whole outer s = record { inner = []; nested = refl; stands = s }

pub scope_more : (b : Bindings) (whole : List Stat) (i : ℕ) (outer vs new : List Visible) (s : Stat) → HasScope b whole i outer vs →
    i < length whole → s ≡ get_or whole i s → new ≡ scope_after b vs s → HasScope b whole (i + 1) outer new
scope_more b whole i outer vs new s h lt is after =
    let shown : List Visible = reverse (stat_shows (out-StatKind s.kind) (first_at b s.id)) in
    let ss : List Stat = drop (i + 1) whole in
    subst (λ vs. HasScope b whole (i + 1) outer vs) (sym after)
    (record {
      inner = shown ++ h.inner;
      nested = ap (λ z. shown ++ z) h.nested ∙ sym (append_assoc shown h.inner outer);
      stands = behind_statement b vs s (map stat ss) (subst (λ (l : List Stat). Stand b vs (map stat l)) (next_is whole i s lt is) h.stands);
    })

-- the names behind a statement
pub names_more : (b : Bindings) (vs new : List Visible) (s : Stat) → new ≡ scope_after b vs s → names_of new ≡ names_after (names_of vs) s
names_more b vs new s h = ap names_of h ∙ names_behind b vs s
