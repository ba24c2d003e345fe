-- Names in scope of which the last have no slots: the variables that an early end of a turn skips.
use Rattle.std.proofs.Common.{◌≡◌, ℕ, ◌≤◌, ◌==◌, ◌⊎◌, inl, inr, Bool, true, false, List, [], ◌∷◌, ◌++◌, Option, Some, None, refl, sym, ap, ◌∙◌, subst, append-nil}
use Rattle.byte_text.specs.declared.fixed.StrId.{StrId}
use Rattle.syntax_tree.specs.declared.bindings.Bindings.{Bindings}
use Rattle.syntax_tree.specs.declared.notes.Visible.{Visible}
use Rattle.syntax_tree.specs.Scope.{look, unless_later}
use Rattle.emit_expr.specs.declared.draft.Variable.{Variable}
use Rattle.emit_expr.specs.Names.{register_in}
use Rattle.emit_laws.specs.Growing.{Prefix}
use Rattle.emit_laws.proofs.Grows as grows
use Rattle.code_simulation.specs.Slots.{Slot, Temp}
use Rattle.compiled_runs.proofs.Scopes.{some_none, same_some, AllFrom, register_old, Aligned, AroundBelow, Found, found, IsOutside, Missing, missing, own_numbers}

-- one of these is that local
abbrev pub HasLocal : List Visible → ℕ → Type 0
HasLocal [] k = ⊥
HasLocal (v ∷ vs) k = (v.local ≡ k) ⊎ HasLocal vs k

-- no name stands for one of these
abbrev pub Shows : List Visible → Option ℕ → Type 0
Shows hidden o = (k : ℕ) → o ≡ Some k → HasLocal hidden k → ⊥

has_looked : (x : StrId) (k : ℕ) (vs : List Visible) → look x vs ≡ Some k → HasLocal vs k
has_looked x k [] e = some_none e
has_looked x k (v ∷ vs) e = by (v.name.0 == x.0) (look x vs) e (has_looked x k vs)
  where
    by : (t : Bool) (o : Option ℕ) → unless_later t v.local o ≡ Some k → (o ≡ Some k → HasLocal vs k) → (v.local ≡ k) ⊎ HasLocal vs k
    by t (Some later) e more = inr (more e)
    by true None e more = inl (same_some e)
    by false None e more = some_none e

-- what a name stands for is found without those that it does not stand for
pub look_shown : (x : StrId) (shown hidden : List Visible) (o : Option ℕ) → look x (shown ++ hidden) ≡ o → Shows hidden o → look x shown ≡ o
look_shown x [] hidden None e shows = refl
look_shown x [] hidden (Some k) e shows = absurd (shows k refl (has_looked x k hidden e))
look_shown x (v ∷ shown) hidden o e shows =
    by (v.name.0 == x.0) (look x (shown ++ hidden)) o e shows (λ q is shows. look_shown x shown hidden q is shows)
  where
    by : (t : Bool) (q o : Option ℕ) → unless_later t v.local q ≡ o → Shows hidden o
        → ((q2 : Option ℕ) → q ≡ q2 → Shows hidden q2 → look x shown ≡ q2) → unless_later t v.local (look x shown) ≡ o
    by t (Some later) o e shows more =
        ap (unless_later t v.local) (more (Some later) refl (λ k is. shows k (sym e ∙ is))) ∙ e
    by t None o e shows more = ap (unless_later t v.local) (more None refl (λ k is. some_none is)) ∙ e

module _ (b : Bindings) (outer : List Visible) (first : ℕ) where
  -- the slots' variables are the first of the names in scope, and of the variables of the code
  pub record Partly (l : List Slot) (vs : List Visible) (ws : List Variable) : Type 0 where
    pub shown : List Visible
    pub hidden : List Visible
    pub variables : List Variable
    pub scope_is : vs ≡ shown ++ hidden
    pub more : Prefix variables ws
    pub aligned : Aligned b outer first l shown variables
    pub own : AllFrom first ws

  -- of all of them
  abbrev pub complete : (l : List Slot) (vs : List Visible) (ws : List Variable) → Aligned b outer first l vs ws → Partly l vs ws
  complete l vs ws a = record {
    shown = vs;
    hidden = [];
    variables = ws;
    scope_is = sym (append-nil vs);
    more = grows.same ws;
    aligned = a;
    own = own_numbers b outer first l vs ws a;
  }

  -- one more value
  abbrev pub partly_pushed : (l : List Slot) (vs : List Visible) (ws : List Variable) (v : _) → Partly l vs ws → Partly (Temp v ∷ l) vs ws
  partly_pushed l vs ws v q = record {
    shown = q.shown;
    hidden = q.hidden;
    variables = q.variables;
    scope_is = q.scope_is;
    more = q.more;
    aligned = q.aligned;
    own = q.own;
  }

  -- the same lists
  abbrev pub partly_same : (l : List Slot) (vs us : List Visible) (ws ts : List Variable) → us ≡ vs → ts ≡ ws → Partly l vs ws → Partly l us ts
  partly_same l vs us ws ts e e2 q = record {
    shown = q.shown;
    hidden = q.hidden;
    variables = q.variables;
    scope_is = e ∙ q.scope_is;
    more = record { more = q.more.more; is = e2 ∙ q.more.is };
    aligned = q.aligned;
    own = subst (AllFrom first) (sym e2) q.own;
  }

  looked : (x : StrId) (o : Option ℕ) (l : List Slot) (vs : List Visible) (ws : List Variable) → (q : Partly l vs ws) → look x vs ≡ o
      → Shows q.hidden o → look x q.shown ≡ o
  looked x o l vs ws q e shows = look_shown x q.shown q.hidden o (ap (look x) (sym q.scope_is) ∙ e) shows

  pub partly_found : (x : StrId) (k : ℕ) (l : List Slot) (vs : List Visible) (ws : List Variable) → AroundBelow b outer first → (q : Partly l vs ws)
      → look x vs ≡ Some k → Shows q.hidden (Some k) → first ≤ k → Found b outer first l ws x k
  partly_found x k l vs ws around q e shows le =
      let f = found b outer first x k l q.shown q.variables around q.aligned (looked x (Some k) l vs ws q e shows) le in
      record {
        local = f.local;
        at = f.at;
        flag = f.flag;
        register = ap (register_in k) q.more.is ∙ register_old k f.local.register q.variables q.more.more f.register;
      }

  pub partly_missing : (x : StrId) (o : Option ℕ) (l : List Slot) (vs : List Visible) (ws : List Variable) → (q : Partly l vs ws) → look x vs ≡ o
      → Shows q.hidden o → IsOutside b outer first o → Missing b outer first l x o
  partly_missing x o l vs ws q e shows out =
      missing b outer first x o l q.shown q.variables q.aligned (looked x o l vs ws q e shows) out
