-- `local`: its values become variables where they stand.
use Rattle.std.proofs.Common.{◌≡◌, ℕ, zero, suc, ◌+◌, ◌-◌, ◌<◌, ◌≤◌, ◌^◌, Bool, List, [], ◌∷◌, ◌++◌, length, map, max, Some, refl, sym, ap, ◌∙◌, arith, subst, append-nil, append_assoc}
use Rattle.std.specs.Prelude.{slice_get, unwrap_or}
use Rattle.byte_text.specs.declared.fixed.StrId.{StrId}
use Rattle.syntax_tree.specs.declared.bindings.Bindings.{Bindings}
use Rattle.syntax_tree.specs.declared.notes.Visible.{Visible}
use Rattle.syntax_tree.specs.declared.tree.Expr.{Expr}
use Rattle.syntax_tree.specs.declared.tree.Stat.{Stat}
use Rattle.syntax_tree.specs.declared.tree.StatKind.{out-StatKind}
use Rattle.syntax_tree.specs.declared.tree.ExprKind.TheOpen as level
use Rattle.syntax_tree.specs.Need.{StatNeed, need_expr, need_stat, list_from}
use Rattle.syntax_tree.specs.Numbers.{numbered}
use Rattle.emit_expr.specs.declared.draft.Emitter.{Emitter}
use Rattle.emit_expr.specs.declared.draft.Variable.{Variable}
use Rattle.emit_expr.specs.Puts.{declare}
use Rattle.emit_expr.specs.Names.{first_at, is_captured, next_number, declare_all}
use Rattle.emit_laws.proofs.Grows as grows
use Rattle.emit_laws.proofs.Keeps as keeps
use Rattle.node_code.specs.Code.{expr_code, local_run}
use Rattle.node_code.specs.Lists.{exact_run}
use Rattle.scope_laws.specs.Declared.{own_names, stat_names, node_of}
use Rattle.scope_laws.specs.Sight.{Sight, Part, expr, stat, visible, StatLevel, stat_shows, behind, in_stat, next, Sees}
use Rattle.scope_laws.proofs.Seen.{nodes_have_firsts}
use Rattle.scope_laws.proofs.Told.{declared_have_entries}
use Rattle.code_simulation.specs.Slots.{Slot, Var, vars}
use Rattle.code_simulation.specs.Relation.{Setting}
use Rattle.code_simulation.proofs.Along.{Here}
use Rattle.code_simulation.proofs.Names.{above_vars, length_vars}
use Rattle.code_simulation.proofs.Blocks.{Jumps, StatRuns}
use Rattle.code_simulation.proofs.Statements.{local_same}
use Rattle.compiled_runs.proofs.Places.{here, before}
use Rattle.compiled_runs.proofs.Sights.{deep}
use Rattle.compiled_runs.proofs.Scopes.{AllBelow, below_later, below_one, Aligned, declared}
use Rattle.compiled_runs.proofs.Numbers.{own_declared}
use Rattle.compiled_runs.proofs.Constants.{get_within}
use Rattle.compiled_runs.proofs.Standing.{Script, weak, At, sees}
use Rattle.compiled_runs.proofs.NodeLevels.{stat_code_of, stat_need_of}
use Rattle.compiled_runs.proofs.Nodes.{Runs, In, Stand}
use Rattle.compiled_runs.proofs.Statements.{Begins, Goes, Does, Performs, in_statement}
use Rattle.compiled_runs.proofs.Lists.{AllHold, exact_alone}

-- ---- new variables

variables_declared : (number register : ℕ) (d : Emitter)
    → (declare number register d).draft.variables ≡ d.draft.variables ++ record { number = number; register = register } ∷ []
unfolding declare
variables_declared number register d = refl

-- a declaration takes no place
pub here_declare : (number register : ℕ) (d : Emitter) → here (declare number register d) ≡ here d
unfolding declare
here_declare number register d = refl

pub here_declared : (count number register : ℕ) (d : Emitter) → here (declare_all number register count d) ≡ here d
here_declared zero number register d = refl
here_declared (suc n) number register d =
    here_declared n (next_number number) (register + 1) (declare number register d) ∙ here_declare number register d

pub get_some : {A : Type 0} (xs : List A) (i : ℕ) → i < length xs → (x : A) × (slice_get xs i ≡ Some x)
get_some [] i lt = absurd (omega (arith, lt))
get_some (x ∷ xs) zero lt = (x, refl)
get_some (x ∷ xs) (suc i) lt = get_some xs i (omega (arith, lt))

module _ (b : Bindings) (outer : List Visible) (first : ℕ) where
  -- behind so many declarations
  pub record Declared (l : List Slot) (vs : List Visible) (ws : List Variable) (n : ℕ) : Type 0 where
    pub aligned : Aligned b outer first l vs ws
    pub below : AllBelow n ws

  pub all_declared : (xs : List StrId) (captured : ℕ → Bool) (c number register : ℕ) (l : List Slot) (vs : List Visible) (d : Emitter)
      → register ≡ length l → ((i : ℕ) → i < length xs → number + i < 2 ^ 64 - 1) → first ≤ number → AllBelow number d.draft.variables
      → ((i : ℕ) → i < length xs → captured (length l + i) ≡ is_captured b (number + i)) → Aligned b outer first l vs d.draft.variables
      → Declared (vars captured xs c l) (vs ++ visible number xs) (declare_all number register (length xs) d).draft.variables (number + length xs)
  all_declared [] captured c number register l vs d e few own new flags a = record {
    aligned = subst (λ us. Aligned b outer first l us d.draft.variables) (sym (append-nil vs)) a;
    below = below_later number (number + 0) d.draft.variables (omega arith) new;
  }
  all_declared (x ∷ xs) captured c number register l vs d e few own new flags a =
      let d1 = declare number register d in
      let one = few 0 (omega arith) in
      let next : number + 1 ≡ next_number number = omega (arith, one) in
      let v : Variable = record { number = number; register = register } in
      let flag : captured (length l) ≡ is_captured b number =
      ap captured (omega arith) ∙ flags 0 (omega arith) ∙ ap (is_captured b) (omega arith) in
      let l1 = Var x c (captured (length l)) ∷ l in
      let us = vs ++ record { name = x; local = number } ∷ [] in
      let a1 : Aligned b outer first l1 us d1.draft.variables =
      subst (Aligned b outer first l1 us) (sym (variables_declared number register d))
      (subst (λ n. Aligned b outer first l1 us (d.draft.variables ++ record { number = number; register = n } ∷ [])) (sym e)
      (declared b outer first x c number (captured (length l)) l vs d.draft.variables flag own new a)) in
      let new1 : AllBelow (number + 1) d1.draft.variables =
      subst (AllBelow (number + 1)) (sym (variables_declared number register d))
      (below_one (number + 1) d.draft.variables v (below_later number (number + 1) d.draft.variables (omega arith) new) (omega arith)) in
      let rest = all_declared xs captured (suc c) (number + 1) (register + 1) l1 us d1 (omega (arith, e))
      (λ i lt. let f = few (i + 1) (omega (arith, lt)) in omega (arith, f)) (omega (arith, own)) new1
      (λ i lt. ap captured (omega arith) ∙ flags (i + 1) (omega (arith, lt)) ∙ ap (is_captured b) (omega arith)) a1 in
      let done : Declared (vars captured xs (suc c) l1) (us ++ visible (number + 1) xs)
      (declare_all (next_number number) (register + 1) (length xs) d1).draft.variables (number + 1 + length xs) =
      subst (λ n. Declared (vars captured xs (suc c) l1) (us ++ visible (number + 1) xs)
      (declare_all n (register + 1) (length xs) d1).draft.variables (number + 1 + length xs)) next rest in
      record {
        aligned = subst (λ ts. Aligned b outer first (vars captured xs (suc c) l1) ts
            (declare_all (next_number number) (register + 1) (length xs) d1).draft.variables)
            (append_assoc vs (record { name = x; local = number } ∷ []) (visible (number + 1) xs)) done.aligned;
        below = below_later (number + 1 + length xs) (number + length (x ∷ xs)) _ (omega arith) done.below;
      }

-- ---- what the bindings say of a declaration

module _ (p : Setting) (b : Bindings) (whole : Emitter) (script : Script p b whole) where
  -- the number of the first local that a node declares is that of the locals declared before it
  pub first_seen : (q : Part) (rest : List Part) (s : Sight) (number : ℕ) → Sees (numbered script.main).main s (q ∷ rest) → node_of q ≡ Some number
      → first_at b number ≡ s.declared
  first_seen q rest s number seen node =
      ap (λ (b : Bindings). first_at b number) script.is
      ∙ ap (λ o. unwrap_or o 0) (nodes_have_firsts script.main (numbered script.main) s q rest number refl seen node)

  -- there are few locals
  pub few_seen : (q : Part) (rest : List Part) (s : Sight) (xs : List StrId) → own_names q ≡ xs → Sees (numbered script.main).main s (q ∷ rest)
      → (i : ℕ) → i < length xs → s.declared + i < 2 ^ 64 - 1
  few_seen q rest s xs names seen i lt =
      let named = get_some xs i lt in
      let entry = declared_have_entries script.main (numbered script.main) (s.declared + i) refl (record {
        sight = s;
        part = q;
        after = rest;
        seen = seen;
        place = i;
        name = named.0;
        named = ap (λ ns. slice_get ns i) names ∙ named.1;
        number = refl;
      }) in
      let within : s.declared + i < length b.locals =
      get_within b.locals (s.declared + i) entry.info (ap (λ (b : Bindings). slice_get b.locals (s.declared + i)) script.is ∙ entry.at) in
      let few = script.few_locals in omega (arith, within, few)

module _ (p : Setting) (most : ℕ) (b : Bindings) (whole : Emitter) (script : Script p b whole) where
  module _ (h : Here p most) (r : Runs p most b whole script h) where
    first_is : (q : Part) (ps : List Part) (l : List Slot) (d : Emitter) (number : ℕ) → node_of q ≡ Some number
        → (a : At p most b whole script h r (q ∷ ps) l d) → first_at b number ≡ a.sight.declared
    first_is q ps l d number node a =
        let s = sees p most b whole script h r (q ∷ ps) l d a in first_seen p b whole script q (ps ++ s.0) a.sight number s.1 node

    few_declared : (q : Part) (ps : List Part) (l : List Slot) (d : Emitter) (xs : List StrId) → own_names q ≡ xs
        → (a : At p most b whole script h r (q ∷ ps) l d) → (i : ℕ) → i < length xs → a.sight.declared + i < 2 ^ 64 - 1
    few_declared q ps l d xs names a =
        let s = sees p most b whole script h r (q ∷ ps) l d a in few_seen p b whole script q (ps ++ s.0) a.sight xs names s.1

    -- ---- its run

    -- whether a new variable may be captured, by its register
    abbrev pub flags : ℕ → List Slot → ℕ → Bool
    flags number l register = is_captured b (number + (register - length l))

    -- new names of a statement stand for variables behind these slots
    pub names_declared : (s : Stat) (xs : List StrId) (ps : List Part) (l : List Slot) (d : Emitter) → stat_names (out-StatKind s.kind) ≡ xs
        → (a : At p most b whole script h r (stat s ∷ ps) l d) → (l2 : List Slot) (d2 : Emitter) (c : ℕ)
        → Aligned b r.from.scope r.from.declared l2 a.sight.scope d2.draft.variables → AllBelow a.sight.declared d2.draft.variables
        → Declared b r.from.scope r.from.declared (vars (flags a.sight.declared l2) xs c l2) (a.sight.scope ++ visible a.sight.declared xs)
        (declare_all (first_at b s.id) (length l2) (length xs) d2).draft.variables (a.sight.declared + length xs)
    names_declared s xs ps l d names a l2 d2 c aligned below =
        let n = a.sight.declared in
        let own : r.from.declared ≤ n = (deep r.from r.func a.sight (stat s ∷ ps) a.seen).more.rises in
        let first : n ≡ first_at b s.id = sym (first_is (stat s) ps l d s.id refl a) in
        subst (λ m. Declared b r.from.scope r.from.declared (vars (flags n l2) xs c l2) (a.sight.scope ++ visible n xs)
        (declare_all m (length l2) (length xs) d2).draft.variables (n + length xs)) first
        (all_declared b r.from.scope r.from.declared xs (flags n l2) c n (length l2) l2 a.sight.scope d2 refl
        (few_declared (stat s) ps l d xs names a) own below (λ i lt. ap (λ k. is_captured b (n + k)) (omega arith)) aligned)

    -- behind a statement that makes them visible
    pub behind_names : (s : Stat) (x : StatLevel) (xs : List StrId) (ps : List Part) (l : List Slot) (d : Emitter) → out-StatKind s.kind ≡ x
        → ((n : ℕ) → stat_shows x n ≡ visible n xs) → ((t : Sight) → t.declared + length xs ≤ (in_stat x t).sight.declared)
        → (a : At p most b whole script h r (stat s ∷ ps) l d) → (l2 : List Slot) (d2 : Emitter)
        → Declared b r.from.scope r.from.declared l2 (a.sight.scope ++ visible a.sight.declared xs) d2.draft.variables (a.sight.declared + length xs)
        → At p most b whole script h r ps l2 d2
    behind_names s x xs ps l d is shown many a l2 d2 made =
        let n = a.sight.declared in
        let count : (in_stat x a.sight).sight.declared ≤ (behind (stat s) a.sight).declared =
        subst (λ (y : StatLevel). (in_stat y a.sight).sight.declared ≤ (behind (stat s) a.sight).declared) is (own_declared (stat s) a.sight) in
        let enough = many a.sight in
        record {
          sight = behind (stat s) a.sight;
          seen = next a.sight (stat s) ps a.seen;
          aligned = subst (λ vs. Aligned b r.from.scope r.from.declared l2 (a.sight.scope ++ vs) d2.draft.variables)
              (sym (ap (λ (y : StatLevel). stat_shows y n) is ∙ shown n)) made.aligned;
          first = a.first;
          below = below_later (n + length xs) (behind (stat s) a.sight).declared d2.draft.variables (omega (arith, count, enough)) made.below;
        }

    pub behind_sight : (s : Stat) (x : StatLevel) (xs : List StrId) (ps : List Part) (l : List Slot) (d : Emitter) (is : out-StatKind s.kind ≡ x)
        (shown : (n : ℕ) → stat_shows x n ≡ visible n xs) (many : (t : Sight) → t.declared + length xs ≤ (in_stat x t).sight.declared)
        (a : At p most b whole script h r (stat s ∷ ps) l d) (l2 : List Slot) (d2 : Emitter)
        (made : Declared b r.from.scope r.from.declared l2 (a.sight.scope ++ visible a.sight.declared xs) d2.draft.variables (a.sight.declared + length xs))
        → (behind_names s x xs ps l d is shown many a l2 d2 made).sight ≡ behind (stat s) a.sight
    unfolding behind_names
    behind_sight s x xs ps l d is shown many a l2 d2 made = refl

    local_runs : (s : Stat) (xs : List StrId) (es : List Expr) (ps : List Part) (l : List Slot) (d : Emitter) (j : Jumps)
        → out-StatKind s.kind ≡ level.Local xs es → AllHold p most b whole script es
        → (st : Begins p most b whole script h r (stat s ∷ ps) l d (local_run b (length xs) (map (expr_code b) es) s.id (length l) d) (need_stat s).need)
        → Goes p most b whole script s (length xs) h r ps l j d (local_run b (length xs) (map (expr_code b) es) s.id (length l) d) st.at.sight
    local_runs s xs es ps l d j is holds st =
        let codes = map (expr_code b) es in
        let d1 = exact_run codes (length l) (length xs) d in
        let d2 = declare_all (first_at b s.id) (length l) (length xs) d1 in
        let first : In p most b whole script h r d1 =
        before r.final whole d1 d2 (grows.all_declared (first_at b s.id) (length l) (length xs) d1 d1 (grows.none d1)) st.inside in
        let k : keeps.Keeps d d1 = keeps.exact_good codes (keeps.exprs_are_good b es) (length l) (length xs) d d (keeps.none d) in
        let needed : (need_stat s).need ≡ max (length xs) (list_from 0 (map need_expr es)) =
        ap (λ (n : StatNeed). n.need) (stat_need_of s (level.Local xs es) is) in
        let room = st.room in
        let begun : Stand p most b whole script h r (map expr es) l d d1 (list_from 0 (map need_expr es)) =
        record {
          at = weak p most b whole script h r (map expr es) l d
              (in_statement p most b whole script h r s (level.Local xs es) ps l d is st.at refl (omega arith) refl);
          inside = first;
          func = st.func;
          room = omega (arith, room, needed);
        } in
        let captured = flags st.at.sight.declared l in
        record {
          after = λ c. vars captured xs c l;
          runs = subst (λ n. StatRuns p most s h l j (here d) n (λ c. vars captured xs c l))
              (sym (here_declared (length xs) (first_at b s.id) (length l) d1))
              (local_same p most s xs es captured h l j (here d) (here d1) is
              (exact_alone p most b whole script h r es holds (length xs) l d begun));
          at = λ c.
              behind_names s (level.Local xs es) xs ps l d is (λ n. refl) (λ t. omega arith) st.at (vars captured xs c l) d2
              (names_declared s xs ps l d (ap (λ (y : StatLevel). stat_names y) is) st.at l d1 c
              (subst (Aligned b r.from.scope r.from.declared l st.at.sight.scope) (sym k) st.at.aligned)
              (subst (AllBelow st.at.sight.declared) (sym k) st.at.below));
          above = λ c. above_vars captured xs c l;
          count = λ c. length_vars captured xs c l;
          sight_is = λ c. behind_sight s (level.Local xs es) xs ps l d is (λ n. refl) (λ t. omega arith) st.at (vars captured xs c l) d2 _;
        }

  pub local_performs : (s : Stat) (xs : List StrId) (es : List Expr) → out-StatKind s.kind ≡ level.Local xs es → AllHold p most b whole script es
      → Performs p most b whole script s
  local_performs s xs es is holds = subst (Does p most b whole script s) (sym (stat_code_of b s (level.Local xs es) is)) (record {
    declares = sym (ap (λ (n : StatNeed). n.declares) (stat_need_of s (level.Local xs es) is));
    goes = λ h r ps l d lp j place st around allowed. local_runs h r s xs es ps l d j is holds st;
  })
