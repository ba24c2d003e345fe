-- The script, the function that runs, and the place in it: what names stand for there.
use Rattle.std.proofs.Common.{rules, ◌≡◌, ℕ, ◌<◌, ◌≤◌, ◌^◌, Bool, true, false, List, [], ◌∷◌, ◌++◌, length, Option, Some, None, refl, sym, ap, ◌∙◌, arith, subst, append-nil, if◌then◌else◌}
use Rattle.std.specs.Prelude.{slice_get, nat_lt}
use Rattle.std.specs.List.{Contains}
use Rattle.std.proofs.lemmas.Bool.Decides.{nat_tests}
use Rattle.byte_text.specs.declared.fixed.StrId.{StrId}
use Rattle.syntax_tree.specs.declared.bindings.Bindings.{Bindings}
use Rattle.syntax_tree.specs.declared.bindings.Bound.{Bound}
use Rattle.syntax_tree.specs.declared.bindings.Bound.TheVariants as bound
use Rattle.syntax_tree.specs.declared.tree.Expr.{Expr}
use Rattle.syntax_tree.specs.declared.tree.ExprKind.{ExprKind, out-ExprKind, roll-ExprKind}
use Rattle.syntax_tree.specs.declared.tree.ExprKind as expr_kind
use Rattle.syntax_tree.specs.declared.tree.ExprKind.TheFolds as folds
use Rattle.syntax_tree.specs.declared.tree.ExprKind.TheOpen as level
use Rattle.syntax_tree.specs.declared.tree.ExprKind.TheViews as views
use Rattle.syntax_tree.specs.declared.tree.FuncBody.{FuncBody, out-FuncBody}
use Rattle.syntax_tree.specs.Bound as bindings
use Rattle.syntax_tree.specs.Numbers.{numbered}
use Rattle.syntax_tree.specs.Scope.{look, bound_in}
use Rattle.source_meaning.specs.States.{cell_of}
use Rattle.source_meaning.specs.Expressions.{text_of}
use Rattle.code_link.specs.Labels.{place_in}
use Rattle.emit_expr.specs.declared.draft.Draft.{Draft}
use Rattle.emit_expr.specs.declared.draft.Emitter.{Emitter}
use Rattle.emit_expr.specs.Names.{bound_or, bound_at, upvalues_at, upvalue_in, upvalue_of}
use Rattle.emit_laws.proofs.Keeps.{Keeps}
use Rattle.scope_laws.specs.Sight.{Sight, Part, expr, function, ExprLevel, expr_parts, shows, in_part, behind, Within, NameWithin, next, enter, Sees}
use Rattle.scope_laws.specs.Captured.{Captured}
use Rattle.scope_laws.proofs.Seen.{names_in_scope}
use Rattle.code_simulation.specs.Slots.{Slot, Temp, local_at}
use Rattle.code_simulation.specs.Relation.{Setting}
use Rattle.code_simulation.proofs.Along.{Here}
use Rattle.compiled_runs.proofs.Reading.{AreRead}
use Rattle.compiled_runs.proofs.Sights.{further}
use Rattle.compiled_runs.proofs.Numbers.{sound, look_under}
use Rattle.compiled_runs.proofs.Scopes.{AllBelow, below_later, Aligned, Found, IsOutside, Missing}
use Rattle.compiled_runs.proofs.Skipped.{Shows, Partly, complete, partly_pushed, partly_same, partly_found, partly_missing}

-- the kind of a name
pub name_kind : (k : ExprKind) (x : StrId) → out-ExprKind k ≡ level.Name x → k ≡ expr_kind.Name x
name_kind k x e =
    let same : roll-ExprKind (out-ExprKind k) ≡ k = search (rules, folds.the_lemmas, views.the_lemmas) in
    sym same ∙ ap roll-ExprKind e ∙ views.rolls-Name x

-- a numbered tree with its bindings, and a chunk whose strings are the texts of those that were emitted
pub record Script (p : Setting) (b : Bindings) (whole : Emitter) : Type 0 where
  pub main : FuncBody
  pub is : b ≡ bindings.bound (numbered main)
  pub few_locals : length b.locals < 2 ^ 64
  pub strings : (i : ℕ) (x : StrId) → slice_get whole.strings i ≡ Some x → slice_get p.chunk.strings i ≡ Some (text_of p.texts x)
  pub few_strings : length whole.strings ≤ 2 ^ 32

module _ (p : Setting) (most : ℕ) (b : Bindings) (whole : Emitter) (script : Script p b whole) where
  -- a function of the tree runs, whose code is read in the prototype that runs
  pub record Running (h : Here p most) : Type 0 where
    pub func : FuncBody
    pub from : Sight
    pub after : List Part
    pub stands : Sees (numbered script.main).main from (function func ∷ after)
    pub final : Draft
    pub id : final.func ≡ (out-FuncBody func).id
    pub read : AreRead h.proto.code (place_in final.items 0) 0 final.items
    pub constants : h.proto.consts ≡ final.constants
    pub children : h.proto.children ≡ final.children
    pub few_constants : length final.constants ≤ 32768
    pub few_children : length final.children ≤ 32768
    pub captured : Captured from func
    pub listed : upvalues_at b (out-FuncBody func).id ≡ captured.locals
    pub globals : (x : StrId) → look x from.scope ≡ None → cell_of h.act.outer x ≡ None
    pub upvalues : (x : StrId) (k : ℕ) → look x from.scope ≡ Some k → Contains captured.locals k
        → slice_get h.act.ups (upvalue_in b final.func k) ≡ Some x

  module _ (h : Here p most) (r : Running h) where
    -- The slots stand for the first of the names in scope. The parts stand in a whole, in which no name stands for one of the others
    pub record Unnamed (s : Sight) (ps : List Part) (l : List Slot) (d : Emitter) : Type 0 where
      pub partly : Partly b r.from.scope r.from.declared l s.scope d.draft.variables
      pub root : Sight
      pub around_it : Part
      pub deep : Within root around_it s ps
      pub unnamed : (n : NameWithin root around_it) → Shows partly.hidden (look n.name n.sight.scope)

    -- what the slots stand for: all names in scope, or some
    abbrev pub Names : (all : Bool) → Sight → List Part → List Slot → Emitter → Type 0
    Names true s ps l d = Aligned b r.from.scope r.from.declared l s.scope d.draft.variables
    Names false s ps l d = Unnamed s ps l d

    abbrev pub Under : (all : Bool) → Sight → Emitter → Type 0
    Under true s d = AllBelow s.declared d.draft.variables
    Under false s d = Unit {0}

    -- these parts follow one another in the function, where these slots stand for what is in scope
    pub record AtWith (all : Bool) (ps : List Part) (l : List Slot) (d : Emitter) : Type 0 where
      pub sight : Sight
      pub seen : Within r.from (function r.func) sight ps
      pub aligned : Names all sight ps l d
      pub first : sight.first ≡ r.from.declared
      pub below : Under all sight d

    abbrev pub At : List Part → List Slot → Emitter → Type 0
    At = AtWith true

    -- the same where some names may have no slots
    abbrev pub AtSome : List Part → List Slot → Emitter → Type 0
    AtSome = AtWith false

    abbrev pub weak : (ps : List Part) (l : List Slot) (d : Emitter) → At ps l d → AtSome ps l d
    weak ps l d a = record {
      sight = a.sight;
      seen = a.seen;
      aligned = record {
        partly = complete b r.from.scope r.from.declared l a.sight.scope d.draft.variables a.aligned;
        root = r.from;
        around_it = function r.func;
        deep = a.seen;
        unnamed = λ n k e has. has;
      };
      first = a.first;
      below = tt;
    }

    abbrev pub some_of : (all : Bool) → (ps : List Part) (l : List Slot) (d : Emitter) → AtWith all ps l d → AtSome ps l d
    some_of true ps l d a = weak ps l d a
    some_of false ps l d a = a

    -- a value more
    pushed_names : (all : Bool) (s : Sight) (ps : List Part) (l : List Slot) (d : Emitter) (v : _) → Names all s ps l d → Names all s ps (Temp v ∷ l) d
    pushed_names true s ps l d v a = a
    pushed_names false s ps l d v a = record {
      partly = partly_pushed b r.from.scope r.from.declared l s.scope d.draft.variables v a.partly;
      root = a.root;
      around_it = a.around_it;
      deep = a.deep;
      unnamed = a.unnamed;
    }

    pub pushed : {all : Bool} → (ps : List Part) (l : List Slot) (d : Emitter) → AtWith all ps l d → (v : _) → AtWith all ps (Temp v ∷ l) d
    pushed {all} ps l d a v =
        record { sight = a.sight; seen = a.seen; aligned = pushed_names all a.sight ps l d v a.aligned; first = a.first; below = a.below }

    -- what was emitted changes no variable
    kept_names : (all : Bool) (s : Sight) (ps : List Part) (l : List Slot) (d d' : Emitter) → Keeps d d' → Names all s ps l d → Names all s ps l d'
    kept_names true s ps l d d' k a = subst (Aligned b r.from.scope r.from.declared l s.scope) (sym k) a
    kept_names false s ps l d d' k a = record {
      partly = partly_same b r.from.scope r.from.declared l s.scope s.scope d.draft.variables d'.draft.variables refl k a.partly;
      root = a.root;
      around_it = a.around_it;
      deep = a.deep;
      unnamed = a.unnamed;
    }

    kept_under : (all : Bool) (s : Sight) (d d' : Emitter) → Keeps d d' → Under all s d → Under all s d'
    kept_under true s d d' k a = subst (AllBelow s.declared) (sym k) a
    kept_under false s d d' k a = tt

    pub kept : {all : Bool} → (ps : List Part) (l : List Slot) (d d' : Emitter) → Keeps d d' → AtWith all ps l d → AtWith all ps l d'
    kept {all} ps l d d' k a = record {
      sight = a.sight;
      seen = a.seen;
      aligned = kept_names all a.sight ps l d d' k a.aligned;
      first = a.first;
      below = kept_under all a.sight d d' k a.below;
    }

    pub kept_sight : {all : Bool} → (ps : List Part) (l : List Slot) (d d' : Emitter) (k : Keeps d d') (a : AtWith all ps l d)
        → (kept ps l d d' k a).sight ≡ a.sight
    unfolding kept
    kept_sight ps l d d' k a = refl

    -- behind a part that makes nothing visible
    next_names : (all : Bool) (q : Part) (s : Sight) (ps : List Part) (l : List Slot) (d : Emitter) → shows q s.declared ≡ []
        → Names all s (q ∷ ps) l d → Names all (behind q s) ps l d
    next_names true q s ps l d quiet a =
        subst (λ vs. Aligned b r.from.scope r.from.declared l vs d.draft.variables) (sym (ap (λ vs. s.scope ++ vs) quiet ∙ append-nil s.scope)) a
    next_names false q s ps l d quiet a = record {
      partly = partly_same b r.from.scope r.from.declared l s.scope (behind q s).scope d.draft.variables d.draft.variables
          (ap (λ vs. s.scope ++ vs) quiet ∙ append-nil s.scope) refl a.partly;
      root = a.root;
      around_it = a.around_it;
      deep = next s q ps a.deep;
      unnamed = a.unnamed;
    }

    next_under : (all : Bool) (q : Part) (s : Sight) (d : Emitter) → Under all s d → Under all (behind q s) d
    next_under true q s d a = below_later s.declared (behind q s).declared d.draft.variables (omega arith) a
    next_under false q s d a = tt

    pub next_part : {all : Bool} → (q : Part) (ps : List Part) (l : List Slot) (d : Emitter) → ((n : ℕ) → shows q n ≡ []) → AtWith all (q ∷ ps) l d
        → AtWith all ps l d
    next_part {all} q ps l d quiet a = record {
      sight = behind q a.sight;
      seen = next a.sight q ps a.seen;
      aligned = next_names all q a.sight ps l d (quiet a.sight.declared) a.aligned;
      first = a.first;
      below = next_under all q a.sight d a.below;
    }

    -- behind an expression
    pub next_expr : {all : Bool} → (e : Expr) (ps : List Part) (l : List Slot) (d : Emitter) → AtWith all (expr e ∷ ps) l d → AtWith all ps l d
    next_expr e ps l d a = next_part (expr e) ps l d (λ n. refl) a

    -- in a part that sees what is seen before it
    pub in_quiet : (q : Part) (ps : List Part) (l : List Slot) (d : Emitter) → ((s : Sight) → (in_part q s).sight ≡ s) → (a : AtSome (q ∷ ps) l d)
        → AtSome (in_part q a.sight).parts l d
    in_quiet q ps l d quiet a = record {
      sight = a.sight;
      seen = subst (λ s. Within r.from (function r.func) s (in_part q a.sight).parts) (quiet a.sight) (enter a.sight q ps a.seen);
      aligned = record {
        partly = a.aligned.partly;
        root = a.aligned.root;
        around_it = a.aligned.around_it;
        deep = subst (λ s. Within a.aligned.root a.aligned.around_it s (in_part q a.sight).parts) (quiet a.sight) (enter a.sight q ps a.aligned.deep);
        unnamed = a.aligned.unnamed;
      };
      first = a.first;
      below = tt;
    }

    -- in an expression
    pub in_expr : (e : Expr) (x : ExprLevel) (ps : List Part) (l : List Slot) (d : Emitter) → out-ExprKind e.kind ≡ x → AtSome (expr e ∷ ps) l d
        → AtSome (expr_parts x) l d
    in_expr e x ps l d is a = subst (λ y. AtSome (expr_parts y) l d) is (in_quiet (expr e) ps l d (λ s. refl) a)

    -- where it stands in the whole script
    pub sees : {all : Bool} → (ps : List Part) (l : List Slot) (d : Emitter) → (a : AtWith all ps l d)
        → (others : List Part) × Sees (numbered script.main).main a.sight (ps ++ others)
    sees ps l d a = further _ _ r.from (function r.func) r.after r.stands a.sight ps a.seen

    -- the names around the function stand for locals that are declared before it
    pub around : (x : StrId) (k : ℕ) → look x r.from.scope ≡ Some k → k < r.from.declared
    around x k e =
        look_under x r.from.declared k r.from.scope (sound (numbered script.main).main r.from (function r.func ∷ r.after) r.stands).0.under e

    -- ---- what a name stands for

    pub data Stands (x : StrId) (l : List Slot) (d : Emitter) : Bound → Type 0 where
      local : (k : ℕ) → Found b r.from.scope r.from.declared l d.draft.variables x k → Stands x l d (bound.Local k)
      upvalue : (k : ℕ) → local_at l x ≡ None → slice_get h.act.ups (upvalue_of b k d) ≡ Some x → Stands x l d (bound.Up k)
      global : local_at l x ≡ None → cell_of h.act.outer x ≡ None → Stands x l d bound.Global

    bound_is : (e : Expr) (x : StrId) (ps : List Part) (l : List Slot) (d : Emitter) → out-ExprKind e.kind ≡ level.Name x
        → (a : AtSome (expr e ∷ ps) l d) → bound_at b e.id ≡ bound_in r.from.declared (look x a.sight.scope)
    bound_is e x ps l d is a =
        let s = sees (expr e ∷ ps) l d a in
        ap (λ (b : Bindings). bound_at b e.id) script.is
        ∙ ap bound_or (names_in_scope script.main (numbered script.main) a.sight e (ps ++ s.0) x refl s.1 (name_kind e.kind x is))
        ∙ ap (λ n. bound_in n (look x a.sight.scope)) a.first

    below_is : (k n : ℕ) → nat_lt k n ≡ true → k < n
    below_is k n e = grind (arith, nat_tests)

    not_below : (k n : ℕ) → nat_lt k n ≡ false → n ≤ k
    not_below k n e = grind (arith, nat_tests)

    some_stands : (e : Expr) (x : StrId) (ps : List Part) (l : List Slot) (d : Emitter) → out-ExprKind e.kind ≡ level.Name x
        → d.draft.func ≡ r.final.func → AtSome (expr e ∷ ps) l d → Stands x l d (bound_at b e.id)
    some_stands e x ps l d is func a = subst (Stands x l d) (sym (bound_is e x ps l d is a)) (by (look x a.sight.scope) refl)
      where
        shown : (o : Option ℕ) → look x a.sight.scope ≡ o → Shows a.aligned.partly.hidden o
        shown o e1 = subst (Shows a.aligned.partly.hidden) e1 (a.aligned.unnamed (record {
          node = e;
          name = x;
          is = name_kind e.kind x is;
          sight = a.sight;
          after = ps;
          seen = a.aligned.deep;
        }))

        gone : (o : Option ℕ) → look x a.sight.scope ≡ o → IsOutside b r.from.scope r.from.declared o → Missing b r.from.scope r.from.declared l x o
        gone o e1 out =
            partly_missing b r.from.scope r.from.declared x o l a.sight.scope d.draft.variables a.aligned.partly e1 (shown o e1) out

        in_up : (k : ℕ) → look x a.sight.scope ≡ Some k → k < r.from.declared → slice_get h.act.ups (upvalue_of b k d) ≡ Some x
        in_up k e1 lt =
            let m = gone (Some k) e1 lt in
            let c : Contains r.captured.locals k = (r.captured.each k).1 (record {
              name = record { node = e; name = x; is = name_kind e.kind x is; sight = a.sight; after = ps; seen = a.seen };
              stands = e1;
              outside = lt;
            }) in
            ap (λ n. slice_get h.act.ups (upvalue_in b n k)) func ∙ r.upvalues x k m.around c

        by_number : (k : ℕ) → look x a.sight.scope ≡ Some k → (t : Bool) → nat_lt k r.from.declared ≡ t
            → Stands x l d (if t then bound.Up k else bound.Local k)
        by_number k e1 true lt =
            let m = gone (Some k) e1 (below_is k r.from.declared lt) in
            upvalue k m.at (in_up k e1 (below_is k r.from.declared lt))
        by_number k e1 false ge =
            local k (partly_found b r.from.scope r.from.declared x k l a.sight.scope d.draft.variables around a.aligned.partly e1 (shown (Some k) e1)
            (not_below k r.from.declared ge))

        by : (o : Option ℕ) → look x a.sight.scope ≡ o → Stands x l d (bound_in r.from.declared o)
        by None e1 = let m = gone None e1 tt in global m.at (r.globals x m.around)
        by (Some k) e1 = by_number k e1 (nat_lt k r.from.declared) refl

    pub name_stands : {all : Bool} → (e : Expr) (x : StrId) (ps : List Part) (l : List Slot) (d : Emitter) → out-ExprKind e.kind ≡ level.Name x
        → d.draft.func ≡ r.final.func → AtWith all (expr e ∷ ps) l d → Stands x l d (bound_at b e.id)
    name_stands {all} e x ps l d is func a = some_stands e x ps l d is func (some_of all (expr e ∷ ps) l d a)
