-- The condition of a `repeat` where a turn has ended early: values stand in the registers of the variables that are not there, and no
-- name in the condition stands for one of these.
use Rattle.std.proofs.Common.{◌≡◌, ℕ, ◌<◌, ◌≤◌, inl, inr, true, false, List, [], ◌∷◌, ◌++◌, length, map, refl, sym, ap, ◌∙◌, arith, subst, append-nil, append_assoc}
use Rattle.std.proofs.lemmas.List.{map-append}
use Rattle.syntax_tree.specs.declared.bindings.Bindings.{Bindings}
use Rattle.syntax_tree.specs.declared.notes.Visible.{Visible}
use Rattle.syntax_tree.specs.declared.tree.Expr.{Expr}
use Rattle.syntax_tree.specs.declared.tree.ExprKind.TheOpen as level
use Rattle.syntax_tree.specs.declared.tree.Stat.{Stat}
use Rattle.syntax_tree.specs.declared.tree.StatKind.{out-StatKind}
use Rattle.syntax_tree.specs.Bound.{known}
use Rattle.syntax_tree.specs.Numbers.{numbered}
use Rattle.syntax_tree.specs.Scope.{look}
use Rattle.value_model.specs.Values.{Value}
use Rattle.emit_expr.specs.declared.draft.Emitter.{Emitter}
use Rattle.emit_expr.specs.declared.draft.Variable.{Variable}
use Rattle.emit_laws.specs.Growing.{Prefix}
use Rattle.emit_laws.proofs.Keeps as keeps
use Rattle.node_code.specs.Code.{expr_code}
use Rattle.scope_laws.specs.Sight.{Sight, Part, expr, stat, function, StatLevel, stat_shows, shows, behind, Within, itself, next, NameWithin, Sees}
use Rattle.scope_laws.proofs.Behind.{all_behind, behind_around}
use Rattle.scope_laws.proofs.Levels as levels
use Rattle.code_simulation.specs.Slots.{Slot, Temp, temps}
use Rattle.code_simulation.specs.Relation.{Setting}
use Rattle.code_simulation.proofs.Along.{CallsGo, Here}
use Rattle.code_simulation.proofs.Parts.{CondRuns}
use Rattle.code_simulation.proofs.Names.{length_temps}
use Rattle.compiled_runs.proofs.Places.{here}
use Rattle.compiled_runs.proofs.Sights.{AreFrom, from_both, from_part}
use Rattle.compiled_runs.proofs.Numbers.{AreUnder, sound}
use Rattle.compiled_runs.proofs.Scopes.{AllFrom, Aligned}
use Rattle.compiled_runs.proofs.Skipped.{HasLocal, Shows}
use Rattle.compiled_runs.proofs.Standing.{Script, At, AtSome, sees}
use Rattle.compiled_runs.proofs.Nodes.{Runs, In}
use Rattle.compiled_runs.proofs.NodeLevels.{ends_turn_of}
use Rattle.compiled_runs.proofs.Turns as turns
use Rattle.compiled_runs.proofs.Turns.{any, ends_turn}
use Rattle.compiled_runs.proofs.Leaves.{Holds}
use Rattle.compiled_runs.proofs.Blocks.{or_left, or_right}
use Rattle.compiled_runs.proofs.Leaps.{unskipped}
use Rattle.compiled_runs.proofs.RepeatBodies.{Leaves}
use Rattle.compiled_runs.proofs.Repeats.{EarlyTries}

false_true : false ≡ true → ⊥
false_true e = cc

-- ---- statements in order

any_inside : (gone : List Stat) (s : Stat) → ends_turn s ≡ true → any (map ends_turn (gone ++ s ∷ [])) ≡ true
any_inside [] s e = or_left (ends_turn s) false e
any_inside (x ∷ gone) s e = or_right (ends_turn x) (any (map ends_turn (gone ++ s ∷ []))) (any_inside gone s e)

all_more : (ps qs : List Part) (s : Sight) → all_behind (ps ++ qs) s ≡ all_behind qs (all_behind ps s)
all_more [] qs s = refl
all_more (p ∷ ps) qs s = all_more ps qs (behind p s)

within_behind : (a s : Sight) (w : Part) (ps qs : List Part) → Within a w s (ps ++ qs) → Within a w (all_behind ps s) qs
within_behind a s w [] qs h = h
within_behind a s w (p ∷ ps) qs h = within_behind a (behind p s) w ps qs (next s p (ps ++ qs) h)

-- what they make visible
abbrev all_shown : List Part → Sight → List Visible
all_shown [] s = []
all_shown (p ∷ ps) s = shows p s.declared ++ all_shown ps (behind p s)

shown_is : (ps : List Part) (s : Sight) → (all_behind ps s).scope ≡ s.scope ++ all_shown ps s
shown_is [] s = sym (append-nil s.scope)
shown_is (p ∷ ps) s = shown_is ps (behind p s) ∙ append_assoc s.scope (shows p s.declared) (all_shown ps (behind p s))

shown_from : (ps : List Part) (n : ℕ) (s : Sight) → n ≤ s.declared → AreFrom n (all_shown ps s)
shown_from [] n s le = tt
shown_from (p ∷ ps) n s le =
    from_both n (shows p s.declared) (all_shown ps (behind p s)) (from_part n s.declared p le) (shown_from ps n (behind p s) (omega (arith, le)))

has_from : (n k : ℕ) (vs : List Visible) → AreFrom n vs → HasLocal vs k → n ≤ k
has_from n k [] a has = absurd has
has_from n k (v ∷ vs) a (inl e) = let le = a.0 in omega (arith, e, le)
has_from n k (v ∷ vs) a (inr has) = has_from n k vs a.1 has

has_under : (n k : ℕ) (vs : List Visible) → AreUnder n vs → HasLocal vs k → k < n
has_under n k [] a has = absurd has
has_under n k (v ∷ vs) a (inl e) = let lt = a.0 in omega (arith, e, lt)
has_under n k (v ∷ vs) a (inr has) = has_under n k vs a.1 has

has_behind : (k : ℕ) (vs us : List Visible) → HasLocal us k → HasLocal (vs ++ us) k
has_behind k [] us has = has
has_behind k (v ∷ vs) us has = inr (has_behind k vs us has)

-- a statement that ends the turn makes nothing visible
level_quiet : (l : StatLevel) (n : ℕ) → levels.at_stat_level turns.steps l ≡ true → stat_shows l n ≡ []
level_quiet (level.Local xs es) n e = absurd (false_true e)
level_quiet (level.LocalFunction x f) n e = absurd (false_true e)
level_quiet l n e = refl

-- ---- the slots

aligned_temps : (b : Bindings) (outer : List Visible) (first : ℕ) (vs : List Value) (l : List Slot) (us : List Visible) (ws : List Variable)
    → Aligned b outer first l us ws → Aligned b outer first (temps vs l) us ws
aligned_temps b outer first [] l us ws a = a
aligned_temps b outer first (v ∷ vs) l us ws a = aligned_temps b outer first vs (Temp v ∷ l) us ws a

prefix_same : {A : Type 0} (xs ys zs : List A) → Prefix xs ys → zs ≡ ys → Prefix xs zs
prefix_same xs ys zs p e = record { more = p.more; is = e ∙ p.is }

module _ (p : Setting) (most : ℕ) (calls : (i : ℕ) → i ≤ most → CallsGo p i) (b : Bindings) (whole : Emitter) (script : Script p b whole)
    (clean : (known (numbered script.main)).faults ≡ []) where
  module _ (body : List Stat) (cond : Expr) (s : Stat) (is : out-StatKind s.kind ≡ level.Repeat body cond) (h : Here p most)
      (r : Runs p most b whole script h) (ps : List Part) (l0 lc : List Slot) (d0 d d2 : Emitter) (count : ℕ)
      (a : At p most b whole script h r (stat s ∷ ps) l0 d0) (x : Leaves p most b whole script body h r (expr cond ∷ []) l0 count d a.sight lc)
      (own : AllFrom r.from.declared d.draft.variables) (k : keeps.Keeps d d2) where
    -- what is seen where the statement begins, behind it, and where the condition begins
    abbrev at_leaving : Sight
    at_leaving = x.at.sight

    abbrev passed : Sight
    passed = behind (stat x.leaving) at_leaving

    abbrev at_cond : Sight
    at_cond = all_behind (map stat x.rest) passed

    abbrev front : List Stat
    front = x.gone ++ x.leaving ∷ []

    body_is : body ≡ front ++ x.rest
    body_is = x.is ∙ sym (append_assoc x.gone (x.leaving ∷ []) x.rest)

    passed_is : passed ≡ all_behind (map stat front) a.sight
    passed_is =
        ap (behind (stat x.leaving)) x.sight_is ∙ sym (all_more (map stat x.gone) (stat x.leaving ∷ []) a.sight)
        ∙ ap (λ ps. all_behind ps a.sight) (sym (map-append stat x.gone (x.leaving ∷ [])))

    at_cond_is : at_cond ≡ all_behind (map stat (front ++ x.rest)) a.sight
    at_cond_is =
        ap (all_behind (map stat x.rest)) passed_is ∙ sym (all_more (map stat front) (map stat x.rest) a.sight)
        ∙ ap (λ ps. all_behind ps a.sight) (sym (map-append stat front x.rest))

    abbrev hidden : List Visible
    hidden = all_shown (map stat x.rest) passed

    quiet : shows (stat x.leaving) at_leaving.declared ≡ []
    quiet = level_quiet (out-StatKind x.leaving.kind) at_leaving.declared (sym (ends_turn_of x.leaving _ refl) ∙ x.ends)

    scope_is : at_cond.scope ≡ at_leaving.scope ++ hidden
    scope_is =
        shown_is (map stat x.rest) passed
        ∙ ap (λ vs. vs ++ hidden) (ap (λ vs. at_leaving.scope ++ vs) quiet ∙ append-nil at_leaving.scope)

    seen_cond : Within r.from (function r.func) at_cond (expr cond ∷ [])
    seen_cond = within_behind r.from at_leaving (function r.func) (stat x.leaving ∷ map stat x.rest) (expr cond ∷ []) x.at.seen

    -- no name in the condition stands for a variable that is not there
    unnamed : (n : NameWithin at_cond (expr cond)) → Shows hidden (look n.name n.sight.scope)
    unnamed = subst (λ z. (n : NameWithin z (expr cond)) → Shows hidden (look n.name n.sight.scope)) (sym at_cond_is)
        (λ n j stands has.
        let others = sees p most b whole script h r (stat s ∷ ps) l0 d0 a in
        let from : passed.declared ≤ j =
        has_from passed.declared j hidden (shown_from (map stat x.rest) passed.declared passed (omega arith)) has in
        let under : j < at_cond.declared = has_under at_cond.declared j at_cond.scope in_scope_under (in_scope j has) in
        unskipped script.main a.sight s (ps ++ others.0) front x.rest cond clean (is ∙ ap (λ ss. level.Repeat ss cond) body_is) others.1
        (any_inside x.gone x.leaving x.ends) n j stands
        (subst (λ (z : Sight). z.declared ≤ j) passed_is from) (subst (λ (z : Sight). j < z.declared) at_cond_is under))
      where
        in_scope : (j : ℕ) → HasLocal hidden j → HasLocal at_cond.scope j
        in_scope j has = subst (λ vs. HasLocal vs j) (sym scope_is) (has_behind j at_leaving.scope hidden has)

        in_scope_under : AreUnder at_cond.declared at_cond.scope
        in_scope_under =
            let others = sees p most b whole script h r (stat x.leaving ∷ map stat x.rest ++ expr cond ∷ []) lc x.emitter x.at in
            let deep = within_behind _ at_leaving _ (stat x.leaving ∷ map stat x.rest) (expr cond ∷ others.0)
            (subst (λ qs. Sees (numbered script.main).main at_leaving qs)
            (append_assoc (stat x.leaving ∷ map stat x.rest) (expr cond ∷ []) others.0) others.1) in
            (sound (numbered script.main).main at_cond (expr cond ∷ others.0) deep).0.under

    -- so it stands there
    pub at_early : (vs : List Value) → AtSome p most b whole script h r (expr cond ∷ []) (temps vs lc) d2
    at_early vs = record {
      sight = at_cond;
      seen = seen_cond;
      aligned = record {
        partly = record {
          shown = at_leaving.scope;
          hidden = hidden;
          variables = x.emitter.draft.variables;
          scope_is = scope_is;
          more = prefix_same x.emitter.draft.variables d.draft.variables d2.draft.variables x.more k;
          aligned = aligned_temps b r.from.scope r.from.declared vs lc at_leaving.scope x.emitter.draft.variables x.at.aligned;
          own = subst (AllFrom r.from.declared) (sym k) own;
        };
        root = at_cond;
        around_it = expr cond;
        deep = itself;
        unnamed = unnamed;
      };
      first = ap (λ (z : ℕ × ℕ). z.0) (behind_around (stat x.leaving ∷ map stat x.rest) at_leaving) ∙ x.at.first;
      below = tt;
    }

  -- the condition's run goes along with its code
  pub early_tries : (body : List Stat) (cond : Expr) → Holds p most calls b whole script cond → EarlyTries p most b whole script body cond
  early_tries body cond holds s is h r ps l0 lc d0 d d2 count label target a x own k inside func room placed le vs size =
      let c = expr_code b cond in
      let some = x.count_is in
      let all = length_temps vs lc in
      let sum : length (temps vs lc) ≡ count = omega (arith, size, some, all) in
      subst (λ n. In p most b whole script h r (c.jump true n label d2) → here (c.jump true n label d2) ≤ target
      → CondRuns p most cond h (temps vs lc) (here d2) target (here (c.jump true n label d2))) sum
      (λ inside le. holds.cond true h r [] (temps vs lc) d2 label target
      (record {
        at = at_early body cond s is h r ps l0 lc d0 d d2 count a x own k vs;
        inside = inside;
        func = func;
        room = omega (arith, room, sum);
      }) placed le) inside le
