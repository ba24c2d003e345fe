-- The entry of a local says where it is declared, and whether it is captured and assigned.
use Rattle.std.proofs.Common.{◌≡◌, ◌∙◌, ℕ, zero, suc, ◌+◌, ◌<◌, ◌&&◌, Bool, true, false, List, [], ◌∷◌, ◌++◌, length, map, Option, Some, None, refl, sym, ap, subst, arith, slice_get, if◌then◌else◌}
use Rattle.std.specs.Prelude.{nat_lt}
use Rattle.byte_text.specs.declared.fixed.StrId.{StrId}
use Rattle.syntax_tree.specs.declared.bindings.Bound.{Bound}
use Rattle.syntax_tree.specs.declared.bindings.Bound.TheVariants as variant
use Rattle.syntax_tree.specs.declared.bindings.LocalInfo.{LocalInfo}
use Rattle.syntax_tree.specs.declared.notes.Note.{Note}
use Rattle.syntax_tree.specs.declared.tree.Expr.{Expr}
use Rattle.syntax_tree.specs.declared.tree.ExprKind as expr_kind
use Rattle.syntax_tree.specs.declared.tree.ExprKind.TheOpen as level
use Rattle.syntax_tree.specs.declared.tree.FuncBody.{FuncBody}
use Rattle.syntax_tree.specs.declared.tree.StatKind.{out-StatKind}
use Rattle.syntax_tree.specs.Bound.{bound, known, is_up, is_captured, is_assigned, used_from}
use Rattle.syntax_tree.specs.Captures.{stands_for}
use Rattle.syntax_tree.specs.Names.{Known}
use Rattle.syntax_tree.specs.Numbers.{numbered}
use Rattle.syntax_tree.specs.Scope.{look, bound_in, local_of}
use Rattle.scope_laws.specs.Declared.{DeclaredWithin, declarer, SetWithin, IsCaptured, IsAssigned, IsTold, HasEntry, stat_targets}
use Rattle.scope_laws.specs.Laws.{LocalsAreTold, DeclaredHaveEntries}
use Rattle.scope_laws.specs.Sight.{Sight, Part, expr, stat, function, StatLevel, behind, in_stat, NameWithin, nothing}
use Rattle.scope_laws.proofs.Capturing.{stands_bound, same_local, stands_there}
use Rattle.scope_laws.proofs.Covering.{Found, name_at}
use Rattle.scope_laws.proofs.Declaring.{Declares, declared_in, has_entry}
use Rattle.scope_laws.proofs.Effects.{sight_of, is_target, less}
use Rattle.scope_laws.proofs.Gains.{both_true, true_less, less_true, same_true, true_same}
use Rattle.scope_laws.proofs.Places.{none_some, same_some, false_true, any_at, at_any}
use Rattle.scope_laws.proofs.Seen.{Here, here, Into, into_first, Noted, SomeNoted, Behind, behind_here, at_name, name_within, in_script}

-- ---- what a name is bound to

-- bound to a local of a function around, where its number is below that of the function's first local
up_local : (first : ℕ) (o : Option ℕ) (k : ℕ) → is_up k (Some (bound_in first o)) ≡ true → (o ≡ Some k) × (k < first)
up_local first None k h = absurd (false_true h)
up_local first (Some j) k h = by (nat_lt j first) refl h where
  by : (b : Bool) → nat_lt j first ≡ b → is_up k (Some (if b then variant.Up j else variant.Local j)) ≡ true → (Some j ≡ Some k) × (k < first)
  by true lt h = let same : j ≡ k = true_same j k h in (ap Some same, subst (λ k. k < first) same (less_true j first lt))
  by false lt h = absurd (false_true h)

local_up : (first : ℕ) (o : Option ℕ) (k : ℕ) → o ≡ Some k → k < first → is_up k (Some (bound_in first o)) ≡ true
local_up first o k e lt =
    ap (λ o. is_up k (Some (bound_in first o))) e
    ∙ ap (λ (b : Bool). is_up k (Some (if b then variant.Up k else variant.Local k))) (true_less k first lt) ∙ same_true k

up_bound : (k : ℕ) (o : Option Bound) → is_up k o ≡ true → (b : Bound) × (o ≡ Some b)
up_bound k None h = absurd (false_true h)
up_bound k (Some b) h = (b, refl)

both_hold : (a b : Bool) → a ≡ true → b ≡ true → (a && b) ≡ true
both_hold a b p q = ap (λ x. x && b) p ∙ q

module _ (main : FuncBody) where
  abbrev tree_main : FuncBody
  tree_main = (numbered main).main

  abbrev final : Known
  final = known (numbered main)

  -- the note of a name
  abbrev NotedName : NameWithin nothing (function tree_main) → Type 0
  NotedName n = SomeNoted final 0 (numbered main).nodes n.sight n.node n.name

  noted : (n : NameWithin nothing (function tree_main)) → NotedName n
  noted n = name_within final 0 (numbered main).nodes nothing (function tree_main) n (in_script main)

  -- a name that has this note
  same_note : (i : ℕ) (note : Note) (f : Found nothing (function tree_main) i note) → slice_get final.notes i ≡ Some note →
      note ≡ (noted f.name).noted.note
  same_note i note f at = same_some (sym at ∙ ap (slice_get final.notes) (sym f.number) ∙ (noted f.name).noted.at)

  -- ---- captured

  captured_is : (k : ℕ) → is_captured final.notes k ≡ true → IsCaptured tree_main k
  captured_is k h =
      let a : (i : ℕ) × ((note : Note) × (slice_get final.notes i ≡ Some note) × (is_up k note.bound ≡ true)) =
      any_at (λ note. is_up k note.bound) final.notes h in
      let note : Note = a.1.0 in
      let b : (b : Bound) × (note.bound ≡ Some b) = up_bound k note.bound a.1.2 in
      let f : Found nothing (function tree_main) a.0 note = name_at main a.0 note b.0 a.1.1 b.1 in
      let n : NotedName f.name = noted f.name in
      let same : note.bound ≡ Some (bound_in f.name.sight.first (look f.name.name f.name.sight.scope)) =
      ap (λ (z : Note). z.bound) (same_note a.0 note f a.1.1) ∙ n.noted.bound in
      let up : (look f.name.name f.name.sight.scope ≡ Some k) × (k < f.name.sight.first) =
      up_local f.name.sight.first (look f.name.name f.name.sight.scope) k (ap (is_up k) (sym same) ∙ a.1.2) in
      record { used = record { name = f.name; stands = up.0 }; inside = up.1 }

  is_captured_by : (k : ℕ) → IsCaptured tree_main k → is_captured final.notes k ≡ true
  is_captured_by k c =
      let name : NameWithin nothing (function tree_main) = c.used.name in
      let n : NotedName name = noted name in
      at_any (λ note. is_up k note.bound) final.notes name.node.id n.noted.note n.noted.at
      (ap (is_up k) n.noted.bound ∙ local_up name.sight.first (look name.name name.sight.scope) k c.used.stands c.inside)

  -- ---- assigned

  assigned_is : (k : ℕ) → is_assigned final.notes k ≡ true → IsAssigned tree_main k
  assigned_is k h =
      let a : (i : ℕ) × ((note : Note) × (slice_get final.notes i ≡ Some note) × ((note.target && stands_for k note) ≡ true)) =
      any_at (λ note. note.target && stands_for k note) final.notes h in
      let note : Note = a.1.0 in
      let both : (note.target ≡ true) × (stands_for k note ≡ true) = both_true note.target (stands_for k note) a.1.2 in
      let b : (b : Bound) × (note.bound ≡ Some b) × (local_of (Some b) ≡ Some k) = stands_bound k note.bound both.1 in
      let f : Found nothing (function tree_main) a.0 note = name_at main a.0 note b.0 a.1.1 b.1 in
      let n : NotedName f.name = noted f.name in
      record {
        used = record {
          name = f.name;
          stands = same_local f.name.sight.first (look f.name.name f.name.sight.scope) note n.noted.note b.0 k
              (same_note a.0 note f a.1.1) n.noted.bound b.1 b.2;
        };
        set = f.set both.0;
      }

  -- the note of a name that is a target
  record Target (e : Expr) : Type 0 where
    pub note : Note
    pub at : slice_get final.notes e.id ≡ Some note
    pub target : note.target ≡ true

  abbrev HereIn : Sight → List Part → Type 0
  HereIn s ps = Here final 0 (numbered main).nodes s ps

  -- one of the first parts, which are all set
  set_note : (e : Expr) (x : StrId) → e.kind ≡ expr_kind.Name x → (ts : List Expr) (others : List Part) (s : Sight)
      (h : HereIn s (map expr ts ++ others)) → h.targets ≡ length ts → (j : ℕ) → slice_get ts j ≡ Some e → Target e
  set_note e x is [] others s h targets j at = absurd (none_some at)
  set_note e x is (d ∷ ts) others s h targets zero at =
      let same : d ≡ e = same_some at in
      let n : Noted final 0 (numbered main).nodes s d x (is_target h.targets) =
      at_name final 0 (numbered main).nodes s d (map expr ts ++ others) x (ap (λ (z : Expr). z.kind) same ∙ is) h in
      record {
        note = n.note;
        at = ap (λ (z : Expr). slice_get final.notes z.id) (sym same) ∙ n.at;
        target = n.target_is ∙ ap is_target targets;
      }
  set_note e x is (d ∷ ts) others s h targets (suc j) at =
      let b : Behind final 0 (numbered main).nodes s (expr d) (map expr ts ++ others) h =
      behind_here final 0 (numbered main).nodes s (expr d) (map expr ts ++ others) h in
      set_note e x is ts others (behind (expr d) s) b.here (b.targets ∙ ap less targets) j at

  set_in : (l : StatLevel) (e : Expr) (x : StrId) → e.kind ≡ expr_kind.Name x → (s : Sight) (h : HereIn (in_stat l s).sight (in_stat l s).parts) →
      h.targets ≡ length (stat_targets l) → (j : ℕ) → slice_get (stat_targets l) j ≡ Some e → Target e
  set_in (level.Assign ts es) e x is s h targets j at = set_note e x is ts (map expr es) s h targets j at
  set_in (level.Compound op a b) e x is s h targets j at = set_note e x is (a ∷ []) (expr b ∷ []) s h targets j at
  set_in (level.Local xs es) e x is s h targets j at = absurd (none_some at)
  set_in (level.StatKind::Call c) e x is s h targets j at = absurd (none_some at)
  set_in (level.Do body) e x is s h targets j at = absurd (none_some at)
  set_in (level.While a body) e x is s h targets j at = absurd (none_some at)
  set_in (level.Repeat body a) e x is s h targets j at = absurd (none_some at)
  set_in (level.StatKind::If arms other) e x is s h targets j at = absurd (none_some at)
  set_in (level.NumFor y a b by body) e x is s h targets j at = absurd (none_some at)
  set_in (level.GenFor xs es body) e x is s h targets j at = absurd (none_some at)
  set_in (level.LocalFunction y f) e x is s h targets j at = absurd (none_some at)
  set_in (level.Return es) e x is s h targets j at = absurd (none_some at)
  set_in level.Break e x is s h targets j at = absurd (none_some at)
  set_in level.Continue e x is s h targets j at = absurd (none_some at)

  is_assigned_by : (k : ℕ) → IsAssigned tree_main k → is_assigned final.notes k ≡ true
  is_assigned_by k c =
      let name : NameWithin nothing (function tree_main) = c.used.name in
      let n : NotedName name = noted name in
      let set : SetWithin nothing (function tree_main) name.node = c.set in
      let h : HereIn set.sight (stat set.assignment ∷ set.after) = here main set.sight (stat set.assignment ∷ set.after) set.seen in
      let into : Into final 0 (numbered main).nodes (stat set.assignment) (is_target h.targets) h.before =
      into_first final 0 (numbered main).nodes set.sight (stat set.assignment) set.after h in
      let t : Target name.node = set_in (out-StatKind set.assignment.kind) name.node name.name name.is (sight_of h.before) into.here into.sets
      set.place set.is in
      let same : n.noted.note ≡ t.note = same_some (sym n.noted.at ∙ t.at) in
      at_any (λ note. note.target && stands_for k note) final.notes name.node.id t.note t.at
      (both_hold t.note.target (stands_for k t.note) t.target (ap (stands_for k) (sym same)
      ∙ stands_there name.sight.first (look name.name name.sight.scope) n.noted.note k n.noted.bound c.used.stands))

  -- ---- entries

  abbrev marked : ℕ → LocalInfo → LocalInfo
  marked k l = record l { captured = is_captured final.notes k; assigned = is_assigned final.notes k }

  -- an entry, of which nothing is said yet
  record Unmarked (ls : List LocalInfo) (b i : ℕ) (info : LocalInfo) : Type 0 where
    pub plain : LocalInfo
    pub at : slice_get ls i ≡ Some plain
    pub is : info ≡ marked (b + i) plain

  unmarked_more : (l : LocalInfo) (ls : List LocalInfo) (b i : ℕ) (info : LocalInfo) → Unmarked ls (b + 1) i info → Unmarked (l ∷ ls) b (suc i) info
  unmarked_more l ls b i info u = record { plain = u.plain; at = u.at; is = u.is ∙ ap (λ k. marked k u.plain) (omega arith) }

  unmarked : (ls : List LocalInfo) (b i : ℕ) (info : LocalInfo) → slice_get (used_from final.notes b ls) i ≡ Some info → Unmarked ls b i info
  unmarked [] b i info at = absurd (none_some at)
  unmarked (l ∷ ls) b zero info at = record { plain = l; at = refl; is = sym (same_some at) ∙ ap (λ k. marked k l) (omega arith) }
  unmarked (l ∷ ls) b (suc i) info at = unmarked_more l ls b i info (unmarked ls (b + 1) i info at)

  mark_at : (ls : List LocalInfo) (b i : ℕ) (l : LocalInfo) → slice_get ls i ≡ Some l → slice_get (used_from final.notes b ls) i ≡ Some
      (marked (b + i) l)
  mark_at [] b i l at = absurd (none_some at)
  mark_at (l ∷ ls) b zero m at = ap Some (ap (marked b) (same_some at) ∙ ap (λ k. marked k m) (omega arith))
  mark_at (l ∷ ls) b (suc i) m at = mark_at ls (b + 1) i m at ∙ ap (λ k. Some (marked k m)) (omega arith)

  told : (local : ℕ) (info : LocalInfo) → slice_get (bound (numbered main)).locals local ≡ Some info → IsTold tree_main local info
  told local info at =
      let u : Unmarked final.locals 0 local info = unmarked final.locals 0 local info at in
      let is : info ≡ marked local u.plain = u.is ∙ ap (λ k. marked k u.plain) (omega arith) in
      let d : Declares nothing (function tree_main) local u.plain = declared_in main local u.plain u.at in
      let captured : info.captured ≡ is_captured final.notes local = ap (λ (l : LocalInfo). l.captured) is in
      let assigned : info.assigned ≡ is_assigned final.notes local = ap (λ (l : LocalInfo). l.assigned) is in
      record {
        declared = d.declared;
        name = ap (λ (l : LocalInfo). l.name) is ∙ d.name;
        func = ap (λ (l : LocalInfo). l.func) is ∙ d.func;
        captured = (λ h. captured_is local (sym captured ∙ h), λ c. captured ∙ is_captured_by local c);
        assigned = (λ h. assigned_is local (sym assigned ∙ h), λ c. assigned ∙ is_assigned_by local c);
      }

  entry : (local : ℕ) (name : StrId) (func : ℕ) → HasEntry final.locals local name func → HasEntry (bound (numbered main)).locals local name func
  entry local name func e = record {
    info = marked local e.info;
    at = mark_at final.locals 0 local e.info e.at ∙ ap (λ k. Some (marked k e.info)) (omega arith);
    is_name = e.is_name;
    is_func = e.is_func;
  }

pub locals_are_told : LocalsAreTold
locals_are_told main tree local info numbers at =
    subst (λ z. slice_get (bound z).locals local ≡ Some info → IsTold z.main local info) (sym numbers) (told main local info) at

pub declared_have_entries : DeclaredHaveEntries
declared_have_entries main tree local numbers d =
    subst (λ z. (d : DeclaredWithin nothing (function z.main) local) → HasEntry (bound z).locals local d.name (declarer d.part d.sight))
    (sym numbers) (λ d. entry main local d.name (declarer d.part d.sight) (has_entry main local d)) d
