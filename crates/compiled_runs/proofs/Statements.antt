-- What is shown of the code of a statement: where it stands, the statement's run goes along with it.
use Rattle.std.proofs.Common.{◌≡◌, ℕ, ◌+◌, ◌≤◌, Bool, true, false, List, [], ◌∷◌, ◌++◌, length, Some, sym, ap, ◌∙◌, arith, subst, append-nil, refl}
use Rattle.syntax_tree.specs.declared.bindings.Bindings.{Bindings}
use Rattle.syntax_tree.specs.declared.notes.Place.{Place}
use Rattle.syntax_tree.specs.declared.tree.Stat.{Stat}
use Rattle.syntax_tree.specs.declared.tree.StatKind.{out-StatKind}
use Rattle.syntax_tree.specs.Need.{need_stat}
use Rattle.syntax_tree.specs.Rules.{rules_stat}
use Rattle.code_link.specs.Labels.{place_in}
use Rattle.emit_expr.specs.declared.draft.Emitter.{Emitter}
use Rattle.emit_expr.specs.declared.draft.Loop.{Loop}
use Rattle.emit_expr.specs.declared.draft.Mark.{Mark}
use Rattle.emit_expr.specs.Puts.{label}
use Rattle.emit_laws.proofs.Keeps.{Keeps}
use Rattle.node_code.specs.Nodes.{StatCode}
use Rattle.node_code.specs.Code.{stat_code}
use Rattle.scope_laws.specs.Sight.{Sight, Part, stat, function, StatLevel, stat_shows, shows, behind, in_stat, Within, next, enter}
use Rattle.code_simulation.specs.Slots.{Slot, Var, Temp, Above, same}
use Rattle.code_simulation.specs.Relation.{Setting}
use Rattle.code_simulation.proofs.Along.{Here}
use Rattle.code_simulation.proofs.Blocks.{Jumps, outside, breaking, looping, StatRuns}
use Rattle.compiled_runs.proofs.Places.{here}
use Rattle.compiled_runs.proofs.Scopes.{below_later, Aligned}
use Rattle.compiled_runs.proofs.Standing.{Script, At, kept, kept_sight}
use Rattle.compiled_runs.proofs.Nodes.{Runs, In}
use Rattle.compiled_runs.proofs.Turns.{ends_turn}

-- how many of the slots are variables
abbrev pub variables_in : List Slot → ℕ
variables_in [] = 0
variables_in (Var x c cap ∷ l) = variables_in l + 1
variables_in (Temp v ∷ l) = variables_in l

abbrev pub may_break : Jumps → Bool
may_break outside = false
may_break (breaking lb brk) = true
may_break (looping lb brk lc turn) = true

abbrev pub may_continue : Jumps → Bool
may_continue outside = false
may_continue (breaking lb brk) = false
may_continue (looping lb brk lc turn) = true

-- the statement breaks no rule on loops there: a loop is around each of its `break`s, and a turn for each of its `continue`s
pub record Allowed (s : Stat) (j : Jumps) (place : Place) : Type 0 where
  pub rules : (rules_stat s).faults place ≡ []
  pub breaks : place.in_loop ≡ true → may_break j ≡ true
  pub continues : ends_turn s ≡ true → may_continue j ≡ true

module _ (p : Setting) (most : ℕ) (b : Bindings) (whole : Emitter) (script : Script p b whole) where
  module _ (h : Here p most) (r : Runs p most b whole script h) where
    -- a way out of a loop leads on to a label, where the slots are those that the mark keeps
    pub record Leads (m : Mark) (to : ℕ) (kept l : List Slot) (target behind : ℕ) : Type 0 where
      pub variables : m.variables ≡ variables_in kept
      pub free : m.free ≡ length kept
      pub above : Above l kept
      pub placed : place_in r.final.items 0 to ≡ Some target
      pub ahead : behind ≤ target

    -- the ways out of the loop around a part that ends before a place
    abbrev pub InLoop : Loop → Jumps → List Slot → (behind : ℕ) → Type 0
    InLoop lp outside l behind = Unit {0}
    InLoop lp (breaking lb brk) l behind = Leads lp.start (label lp.node 1) lb l brk behind
    InLoop lp (looping lb brk lc turn) l behind =
        Leads lp.start (label lp.node 1) lb l brk behind × Leads lp.turn (label lp.node 2) lc l turn behind

    -- ---- parts of a function

    -- behind a part that makes no name visible
    pub next_quiet : (q : Part) (ps : List Part) (l : List Slot) (d : Emitter) → ((n : ℕ) → shows q n ≡ []) → At p most b whole script h r (q ∷ ps) l d
        → At p most b whole script h r ps l d
    next_quiet q ps l d quiet a = record {
      sight = behind q a.sight;
      seen = next a.sight q ps a.seen;
      aligned = subst (λ vs. Aligned b r.from.scope r.from.declared l vs d.draft.variables)
          (sym (ap (λ vs. a.sight.scope ++ vs) (quiet a.sight.declared) ∙ append-nil a.sight.scope)) a.aligned;
      first = a.first;
      below = below_later a.sight.declared (behind q a.sight).declared d.draft.variables (omega arith) a.below;
    }

    pub next_sight : (q : Part) (ps : List Part) (l : List Slot) (d : Emitter) (quiet : (n : ℕ) → shows q n ≡ [])
        (a : At p most b whole script h r (q ∷ ps) l d) → (next_quiet q ps l d quiet a).sight ≡ behind q a.sight
    unfolding next_quiet
    next_sight q ps l d quiet a = refl

    pub stat_quiet : (s : Stat) (x : StatLevel) → out-StatKind s.kind ≡ x → ((n : ℕ) → stat_shows x n ≡ []) → (n : ℕ) → shows (stat s) n ≡ []
    stat_quiet s x is quiet n = ap (λ (y : StatLevel). stat_shows y n) is ∙ quiet n

    -- in a statement that makes no name visible to its parts
    pub in_statement : (s : Stat) (x : StatLevel) (ps : List Part) (l : List Slot) (d : Emitter) → out-StatKind s.kind ≡ x
        → (a : At p most b whole script h r (stat s ∷ ps) l d) → (in_stat x a.sight).sight.scope ≡ a.sight.scope
        → a.sight.declared ≤ (in_stat x a.sight).sight.declared → (in_stat x a.sight).sight.first ≡ a.sight.first
        → At p most b whole script h r (in_stat x a.sight).parts l d
    in_statement s x ps l d is a scope le first = record {
      sight = (in_stat x a.sight).sight;
      seen = subst (λ (y : StatLevel). Within r.from (function r.func) (in_stat y a.sight).sight (in_stat y a.sight).parts) is
          (enter a.sight (stat s) ps a.seen);
      aligned = subst (λ vs. Aligned b r.from.scope r.from.declared l vs d.draft.variables) (sym scope) a.aligned;
      first = first ∙ a.first;
      below = below_later a.sight.declared (in_stat x a.sight).sight.declared d.draft.variables le a.below;
    }

    pub statement_sight : (s : Stat) (x : StatLevel) (ps : List Part) (l : List Slot) (d : Emitter) (is : out-StatKind s.kind ≡ x)
        (a : At p most b whole script h r (stat s ∷ ps) l d) (scope : (in_stat x a.sight).sight.scope ≡ a.sight.scope)
        (le : a.sight.declared ≤ (in_stat x a.sight).sight.declared) (first : (in_stat x a.sight).sight.first ≡ a.sight.first)
        → (in_statement s x ps l d is a scope le first).sight ≡ (in_stat x a.sight).sight
    unfolding in_statement
    statement_sight s x ps l d is a scope le first = refl

  -- ---- what is shown

  -- a statement stands at a place, where its code is what the second state has beyond the first, and there are registers for it
  pub record Begins (h : Here p most) (r : Runs p most b whole script h) (ps : List Part) (l : List Slot) (d d' : Emitter) (need : ℕ) : Type 0 where
    pub at : At p most b whole script h r ps l d
    pub inside : In p most b whole script h r d'
    pub func : d.draft.func ≡ r.final.func
    pub room : length l + need ≤ h.proto.registers

  -- a statement's run goes along with its code, behind which these slots are in use, where this was seen before it
  pub record Goes (s : Stat) (declares : ℕ) (h : Here p most) (r : Runs p most b whole script h) (ps : List Part) (l : List Slot) (j : Jumps)
      (d d' : Emitter) (from : Sight) : Type 0 where
    pub after : ℕ → List Slot
    pub runs : StatRuns p most s h l j (here d) (here d') after
    pub at : (c : ℕ) → At p most b whole script h r ps (after c) d'
    pub above : (c : ℕ) → Above (after c) l
    pub count : (c : ℕ) → length (after c) ≡ length l + declares
    pub sight_is : (c : ℕ) → (at c).sight ≡ behind (stat s) from

  pub record Does (s : Stat) (c : StatCode) : Type 0 where
    pub declares : c.declares ≡ (need_stat s).declares
    pub goes : (h : Here p most) (r : Runs p most b whole script h) (ps : List Part) (l : List Slot) (d : Emitter) (lp : Loop) (j : Jumps)
        (place : Place) → (st : Begins h r (stat s ∷ ps) l d (c.run (length l) lp d) (need_stat s).need)
        → InLoop h r lp j l (here (c.run (length l) lp d)) → Allowed s j place
        → Goes s c.declares h r ps l j d (c.run (length l) lp d) st.at.sight

  -- its own code does what it does
  abbrev pub Performs : Stat → Type 0
  Performs s = Does s (stat_code b s)

  abbrev pub AllPerform : List Stat → Type 0
  AllPerform [] = Unit {0}
  AllPerform (s ∷ ss) = Performs s × AllPerform ss

  -- ---- a statement behind which the slots are those from before

  pub plain_goes : (s : Stat) (x : StatLevel) (h : Here p most) (r : Runs p most b whole script h) (ps : List Part) (l : List Slot) (j : Jumps)
      (d d' : Emitter) → out-StatKind s.kind ≡ x → ((n : ℕ) → stat_shows x n ≡ []) → Keeps d d'
      → (a : At p most b whole script h r (stat s ∷ ps) l d) → StatRuns p most s h l j (here d) (here d') (λ c. l)
      → Goes s 0 h r ps l j d d' a.sight
  plain_goes s x h r ps l j d d' is quiet k a runs = record {
    after = λ c. l;
    runs = runs;
    at = λ c. next_quiet h r (stat s) ps l d' (stat_quiet h r s x is quiet) (kept p most b whole script h r (stat s ∷ ps) l d d' k a);
    above = λ c. same;
    count = λ c. omega arith;
    sight_is = λ c.
        let a2 = kept p most b whole script h r (stat s ∷ ps) l d d' k a in
        next_sight h r (stat s) ps l d' (stat_quiet h r s x is quiet) a2
        ∙ ap (behind (stat s)) (kept_sight p most b whole script h r (stat s ∷ ps) l d d' k a);
  }
