-- The condition of a `repeat` names no local that an early end of its body's turns skips: each `continue` that ends a turn is told where
-- the condition begins.
use Rattle.std.proofs.Common.{◌≡◌, ℕ, zero, suc, ◌+◌, ◌-◌, ◌<◌, ◌≤◌, Bool, true, false, ◌||◌, ◌&&◌, List, [], ◌∷◌, ◌++◌, length, map, drop, Option, Some, None, refl, sym, ap, ◌∙◌, arith, subst, if◌then◌else◌, slice_get}
use Rattle.std.specs.Prelude.{nat_lt, nat_le}
use Rattle.std.specs.List.{list_any}
use Rattle.std.proofs.lemmas.Bool.Decides.{nat_tests}
use Rattle.std.proofs.lemmas.List.{map-append}
use Rattle.std.proofs.lemmas.Option.{slice_get_within}
use Rattle.syntax_tree.specs.declared.bindings.Bound.TheVariants as bound
use Rattle.syntax_tree.specs.declared.fault.ScopeFault.{ScopeFault}
use Rattle.syntax_tree.specs.declared.fault.ScopeRule.TheVariants as rule
use Rattle.syntax_tree.specs.declared.notes.Leap.{Leap}
use Rattle.syntax_tree.specs.declared.notes.Note.{Note}
use Rattle.syntax_tree.specs.declared.tree.Arm.{Arm, out-Arm}
use Rattle.syntax_tree.specs.declared.tree.Expr.{Expr}
use Rattle.syntax_tree.specs.declared.tree.ExprKind.TheOpen as level
use Rattle.syntax_tree.specs.declared.tree.FuncBody.{FuncBody}
use Rattle.syntax_tree.specs.declared.tree.Stat.{Stat}
use Rattle.syntax_tree.specs.declared.tree.StatKind.{out-StatKind}
use Rattle.syntax_tree.specs.Bound.{known}
use Rattle.syntax_tree.specs.Faults.{fault}
use Rattle.syntax_tree.specs.Leaps.{between, is_skipped, skips}
use Rattle.syntax_tree.specs.Names as names
use Rattle.syntax_tree.specs.Names.{Known, names_expr, names_stat, names_arm, opened}
use Rattle.syntax_tree.specs.Numbers.{numbered}
use Rattle.syntax_tree.specs.Scope.{look, bound_in, local_of}
use Rattle.scope_laws.specs.Sight.{Sight, Part, expr, stat, arm, block, StatLevel, in_stat, in_part, NameWithin, Sees}
use Rattle.scope_laws.proofs.Behind.{all_behind}
use Rattle.scope_laws.proofs.Effects.{sight_of, shown, shown_known, names_part, names_parts, is_target, less, parts_join, stats_known, list_known}
use Rattle.scope_laws.proofs.Levels as levels
use Rattle.scope_laws.proofs.Passing.{Passes, passes, rises}
use Rattle.scope_laws.proofs.Places.{Front, front_same, front_then, front_get, get_drop, at_any}
use Rattle.scope_laws.proofs.Seen as seen
use Rattle.scope_laws.proofs.Seen.{Split, split}
use Rattle.scope_laws.proofs.StatOpens.{stat_known}
use Rattle.scope_laws.proofs.Walks.{Walk, done, passed, one, inner}
use Rattle.compiled_runs.proofs.Turns as turns
use Rattle.compiled_runs.proofs.Turns.{any, ends_turn, arm_ends}
use Rattle.compiled_runs.proofs.NodeLevels.{arm_ends_of}

false_true : false ≡ true → ⊥
false_true e = cc

-- ---- a `continue` that is told

-- one is among these, before which so many locals were declared at least, and so many at most
record LeapIn (from to : ℕ) (leaps : List Leap) : Type 0 where
  place : ℕ
  leap : Leap
  at : slice_get leaps place ≡ Some leap
  low : from ≤ leap.before
  high : leap.before ≤ to

front_length : {A : Type 0} {xs ys : List A} → Front xs ys → length xs ≤ length ys
front_length {xs = xs} f = subst (λ l. length xs ≤ length l) (sym f.is) (longer xs f.more)
  where
    longer : {A : Type 0} (xs ys : List A) → length xs ≤ length (xs ++ ys)
    longer [] ys = omega arith
    longer (x ∷ xs) ys = let le = longer xs ys in omega (arith, le)

leap_later : (from to from2 to2 : ℕ) (leaps leaps2 : List Leap) → Front leaps leaps2 → from2 ≤ from → to ≤ to2 → LeapIn from to leaps
    → LeapIn from2 to2 leaps2
leap_later from to from2 to2 leaps leaps2 f le1 le2 x = record {
  place = x.place;
  leap = x.leap;
  at = front_get x.place f (slice_get_within leaps x.place x.leap x.at) ∙ x.at;
  low = let l = x.low in omega (arith, l, le1);
  high = let h = x.high in omega (arith, h, le2);
}

-- whether a part may end the turn of the loop around it
abbrev part_ends : Part → Bool
part_ends (stat s) = ends_turn s
part_ends (arm a) = arm_ends a
part_ends (block vs body) = any (map ends_turn body)
part_ends p = false

abbrev Told : List Part → ℕ → Known → Type 0
Told ps targets k = LeapIn (length k.locals) (length (names_parts ps targets k).locals) (names_parts ps targets k).leaps

any_stats : (body : List Stat) → any (map part_ends (map stat body)) ≡ any (map ends_turn body)
any_stats [] = refl
any_stats (s ∷ ss) = ap (λ t. ends_turn s || t) (any_stats ss)

any_arms : (arms : List Arm) (ps : List Part) → any (map part_ends (map arm arms ++ ps)) ≡ (any (map arm_ends arms) || any (map part_ends ps))
any_arms [] ps = refl
any_arms (a ∷ arms) ps = ap (λ t. arm_ends a || t) (any_arms arms ps) ∙ joined (arm_ends a) (any (map arm_ends arms)) (any (map part_ends ps))
  where
    joined : (a b c : Bool) → (a || (b || c)) ≡ ((a || b) || c)
    joined true b c = refl
    joined false b c = refl

or_false : (a : Bool) → (a || false) ≡ a
or_false true = refl
or_false false = refl

last_known : (k t u : Known) → t ≡ u → LeapIn (length k.locals) (length u.locals) u.leaps → LeapIn (length k.locals) (length t.locals) t.leaps
last_known k t u e = subst (λ (z : Known). LeapIn (length k.locals) (length z.locals) z.leaps) (sym e)

-- in a statement, by its kind
level_told : (l : StatLevel) (place : ℕ) (k : Known) → levels.at_stat_level turns.steps l ≡ true
    → ((s : Sight) → any (map part_ends (in_stat l s).parts) ≡ true → Told (in_stat l s).parts 0 k)
    → LeapIn (length k.locals) (length (stat_known l place k).locals) (stat_known l place k).leaps
level_told (level.Do body) place k e told = told (sight_of k) (or_false (any (map ends_turn body)) ∙ e)
level_told (level.StatKind::If arms None) place k e told =
    last_known k (stat_known (level.StatKind::If arms None) place k) (names_parts (map arm arms ++ []) 0 k)
    (list_known arm names_arm (λ a k. refl) arms k ∙ sym (parts_join (map arm arms) [] k)) (told (sight_of k) (any_arms arms [] ∙ e))
level_told (level.StatKind::If arms (Some body)) place k e told =
    last_known k (stat_known (level.StatKind::If arms (Some body)) place k) (names_parts (map arm arms ++ block [] body ∷ []) 0 k)
    (ap (names_part (block [] body) false) (list_known arm names_arm (λ a k. refl) arms k)
    ∙ sym (parts_join (map arm arms) (block [] body ∷ []) k))
    (told (sight_of k) (any_arms arms (block [] body ∷ []) ∙ ap (λ t. any (map arm_ends arms) || t) (or_false (any (map ends_turn body))) ∙ e))
level_told level.Continue place k e told = record {
  place = length k.leaps;
  leap = _;
  at = at_end k.leaps _;
  low = omega arith;
  high = omega arith;
}
  where
    at_end : (xs : List Leap) (x : Leap) → slice_get (xs ++ x ∷ []) (length xs) ≡ Some x
    at_end [] x = refl
    at_end (y ∷ xs) x = at_end xs x
level_told l place k e told = absurd (false_true e)

one_more : (xs : List Note) (x : Note) → length (xs ++ x ∷ []) ≡ length xs + 1
one_more [] x = refl
one_more (y ∷ xs) x = let m = one_more xs x in omega (arith, m)

-- in a part, by what is told in its parts
part_told : (p : Part) (target : Bool) (k : Known) (n : ℕ) → length k.notes ≡ n → part_ends p ≡ true
    → ((s : Sight) (k2 : Known) → length k2.notes ≡ inner p n → any (map part_ends (in_part p s).parts) ≡ true → Told (in_part p s).parts 0 k2)
    → LeapIn (length k.locals) (length (names_part p target k).locals) (names_part p target k).leaps
part_told (stat x) target k n at e told =
    let l : StatLevel = out-StatKind x.kind in
    let noted : Known = names.plain x.at k in
    let is : names_stat x k ≡ stat_known l x.at noted = ap (λ f. f k) (levels.stat_is names.steps x)
    ∙ ap (λ f. f x.at noted) (levels.stat_kind_is names.steps x.kind) in
    let more : length noted.notes ≡ n + 1 = one_more k.notes _ ∙ ap (λ m. m + 1) at in
    last_known k (names_stat x k) (stat_known l x.at noted) is
    (level_told l x.at noted (sym (levels.stat_is turns.steps x ∙ levels.stat_kind_is turns.steps x.kind) ∙ e) (λ s e2. told s noted more e2))
part_told (arm a) target k n at e told =
    last_known k (names_arm a k) (names_parts (expr (out-Arm a).cond ∷ block [] (out-Arm a).body ∷ []) 0 k) (ap (λ f. f k) (levels.arm_is names.steps a))
    (told (sight_of k) k at (or_false (any (map ends_turn (out-Arm a).body)) ∙ sym (arm_ends_of a) ∙ e))
part_told (block vs body) target k n at e told =
    let start : Known = shown vs k in
    let same : start ≡ record k { scope = k.scope ++ vs } = shown_known vs k in
    let t = told (sight_of k) start (ap (λ (z : Known). length z.notes) same ∙ at) (any_stats body ∙ e) in
    let is : names.block (map names_stat body) start ≡ names_parts (map stat body) 0 start = stats_known body start in
    subst (λ m. LeapIn m (length (names.block (map names_stat body) start).locals) (names.block (map names_stat body) start).leaps)
    (ap (λ (z : Known). length z.locals) same)
    (last_known start (names.block (map names_stat body) start) (names_parts (map stat body) 0 start) is t)
part_told p target k n at e told = absurd (false_true e)

-- one of the parts, or one behind it
leaps_told : {n m : ℕ} {ps : List Part} → Walk n ps m → (targets : ℕ) (k : Known) → length k.notes ≡ n → any (map part_ends ps) ≡ true → Told ps targets k
leaps_told (done n) targets k at e = absurd (false_true e)
leaps_told (passed n m r p ps num inside rest) targets k at e =
    let t : Known = names_part p (is_target targets) k in
    let single : Passes n m (p ∷ []) k t = passes (one n m p num inside) targets k at in
    let others : Passes m r ps t (names_parts ps (less targets) t) = passes rest (less targets) t single.count in
    by (part_ends p) refl e
    (λ e2. leap_later (length k.locals) (length t.locals) (length k.locals) (length (names_parts ps (less targets) t).locals) t.leaps
    (names_parts ps (less targets) t).leaps others.leaps (omega arith) (front_length others.locals)
    (part_told p (is_target targets) k n at e2 (λ s k2 at2 e3. leaps_told (inside s) 0 k2 at2 e3)))
    (λ e2. leap_later (length t.locals) (length (names_parts ps (less targets) t).locals) (length k.locals)
    (length (names_parts ps (less targets) t).locals) (names_parts ps (less targets) t).leaps (names_parts ps (less targets) t).leaps
    (front_same (names_parts ps (less targets) t).leaps) (front_length single.locals) (omega arith)
    (leaps_told rest (less targets) t single.count e2))
  where
    by : (b : Bool) → part_ends p ≡ b → (part_ends p || any (map part_ends ps)) ≡ true → (part_ends p ≡ true → Told (p ∷ ps) targets k)
        → (any (map part_ends ps) ≡ true → Told (p ∷ ps) targets k) → Told (p ∷ ps) targets k
    by true is e here there = here is
    by false is e here there = there (sym (ap (λ b. b || any (map part_ends ps)) is) ∙ e)

-- ---- the condition of a `repeat`

walk_split : (ps qs : List Part) (n m : ℕ) → Walk n (ps ++ qs) m → (q : ℕ) × Walk n ps q × Walk q qs m
walk_split [] qs n m w = (n, done n, w)
walk_split (p ∷ ps) qs n m w =
    let s = split w in
    let t = walk_split ps qs s.middle m s.rest in
    (t.0, passed n s.middle t.0 p ps s.number s.inside t.1, t.2)

some_none : {A B : Type 0} {x : A} → None ≡ Some x → B
some_none e = cc

same_some : {A : Type 0} {x y : A} → Some x ≡ Some y → x ≡ y
same_some e = cc

right_nil : {A : Type 0} (xs ys : List A) → xs ++ ys ≡ [] → ys ≡ []
right_nil [] ys e = e
right_nil (x ∷ xs) ys e = cc

front_nil : {A : Type 0} {xs ys : List A} → Front xs ys → ys ≡ [] → xs ≡ []
front_nil {xs = xs} f e = left_nil xs f.more (sym f.is ∙ e)
  where
    left_nil : {A : Type 0} (xs ys : List A) → xs ++ ys ≡ [] → xs ≡ []
    left_nil [] ys e = refl
    left_nil (x ∷ xs) ys e = cc

-- a `continue` that skips a local of the condition is a fault
skip_found : (below : ℕ) (notes : List Note) (leaps : List Leap) (i : ℕ) (leap : Leap) → slice_get leaps i ≡ Some leap
    → list_any (is_skipped below leap) notes ≡ true → skips below notes leaps ≡ [] → ⊥
skip_found below notes [] i leap at found none = some_none at
skip_found below notes (x ∷ leaps) zero leap at found none =
    by (list_any (is_skipped below x) notes) (skips below notes leaps) (subst (λ (z : Leap). list_any (is_skipped below z) notes ≡ true)
    (sym (same_some at)) found) none
  where
    by : (b : Bool) (more : List ScopeFault) → b ≡ true → ((if b then fault rule.UntilSkipsLocal x.at else []) ++ more) ≡ [] → ⊥
    by true more e none = cc
    by false more e none = false_true e
skip_found below notes (x ∷ leaps) (suc i) leap at found none =
    skip_found below notes leaps i leap at found
    (right_nil (if list_any (is_skipped below x) notes then fault rule.UntilSkipsLocal x.at else []) (skips below notes leaps) none)

local_is : (first : ℕ) (o : Option ℕ) → local_of (Some (bound_in first o)) ≡ o
local_is first None = refl
local_is first (Some k) = by (nat_lt k first)
  where
    by : (b : Bool) → local_of (Some (if b then bound.Up k else bound.Local k)) ≡ Some k
    by true = refl
    by false = refl

between_is : (before below k : ℕ) → before ≤ k → k < below → (nat_le before k && nat_lt k below) ≡ true
between_is before below k le lt =
    let a : nat_le before k ≡ true = grind (arith, nat_tests) in
    let b : nat_lt k below ≡ true = grind (arith, nat_tests) in
    ap (λ t. t && nat_lt k below) a ∙ b

-- no name in the part stands for a local from one number on that is declared before the part
abbrev NamesNone : Expr → ℕ → Sight → Type 0
NamesNone cond from s = (z : NameWithin s (expr cond)) (k : ℕ) → look z.name z.sight.scope ≡ Some k → from ≤ k → k < s.declared → ⊥

abbrev Skips : Expr → Known → List ScopeFault
Skips cond k =
    let t = names_expr cond false k in skips (length k.locals) (drop (length k.notes) t.notes) t.leaps

-- the first statements of a body tell of one
front_told : (n m : ℕ) (ss rest : List Stat) (k : Known) → length k.notes ≡ n → Walk n (map stat (ss ++ rest)) m → any (map ends_turn ss) ≡ true
    → LeapIn 0 (all_behind (map stat ss) (sight_of k)).declared (names_parts (map stat (ss ++ rest)) 0 k).leaps
front_told n m ss rest k at walk ends =
    let both = map-append stat ss rest in
    let w = walk_split (map stat ss) (map stat rest) n m (subst (λ ps. Walk n ps m) both walk) in
    let first : Known = names_parts (map stat ss) 0 k in
    let all : Known = names_parts (map stat (ss ++ rest)) 0 k in
    let p : Passes n w.0 (map stat ss) k first = passes w.1 0 k at in
    let r : Passes w.0 m (map stat rest) first (names_parts (map stat rest) 0 first) = passes w.2 0 first p.count in
    let is : all ≡ names_parts (map stat rest) 0 first = ap (λ ps. names_parts ps 0 k) both ∙ parts_join (map stat ss) (map stat rest) k in
    let x = leap_later (length k.locals) (length first.locals) 0 (length first.locals) first.leaps (names_parts (map stat rest) 0 first).leaps r.leaps
    (omega arith) (omega arith) (leaps_told w.1 0 k at (any_stats ss ∙ ends)) in
    subst (λ m. LeapIn 0 m all.leaps) (ap (λ (z : Sight). z.declared) p.ends) (subst (λ (z : Known). LeapIn 0 (length first.locals) z.leaps) (sym is) x)

-- where nothing is skipped that the condition uses, no name in it stands for what is declared behind them
in_repeat : (n m : ℕ) (ss rest : List Stat) (cond : Expr) (k : Known) → 1 ≤ n → length k.notes ≡ n
    → Walk n (map stat (ss ++ rest) ++ expr cond ∷ []) m → any (map ends_turn ss) ≡ true
    → Skips cond (names_parts (map stat (ss ++ rest)) 0 k) ≡ []
    → NamesNone cond (all_behind (map stat ss) (sight_of k)).declared (all_behind (map stat (ss ++ rest)) (sight_of k))
in_repeat n m ss rest cond k some at walk ends none =
    let body = map stat (ss ++ rest) in
    let w = walk_split body (expr cond ∷ []) n m walk in
    let kb : Known = names_parts body 0 k in
    let t : Known = names_expr cond false kb in
    let pb : Passes n w.0 body k kb = passes w.1 0 k at in
    let pc : Passes w.0 m (expr cond ∷ []) kb t = passes w.2 0 kb pb.count in
    let up = rises (sight_of k) w.1 in
    let count = pb.count in
    let from = (all_behind (map stat ss) (sight_of k)).declared in
    let x0 = front_told n w.0 ss rest k at w.1 ends in
    let x = leap_later 0 from 0 from kb.leaps t.leaps pc.leaps (omega arith) (omega arith) x0 in
    let here : seen.Here t (w.0 - 1) m (sight_of kb) (expr cond ∷ []) =
    record {
      before = kb;
      targets = 0;
      sees = refl;
      stop = m;
      walk = subst (λ q. Walk q (expr cond ∷ []) m) (sym pb.count) w.2;
      same = λ i from upto. refl;
      locals = front_same t.locals;
      faults = front_same t.faults;
      low = omega (arith, up, some, count);
      high = omega arith;
    } in
    subst (NamesNone cond from) pb.ends
    (λ z j stands le lt.
    let noted = (seen.name_within t (w.0 - 1) m (sight_of kb) (expr cond) z here).noted in
    let note = noted.note in
    let low = noted.low in
    let place = z.node.id - length kb.notes in
    let sum : length kb.notes + place ≡ z.node.id = omega (arith, low, count, up, some) in
    let at_note : slice_get (drop (length kb.notes) t.notes) place ≡ Some note =
    get_drop t.notes (length kb.notes) place ∙ ap (slice_get t.notes) sum ∙ noted.at in
    let is_local : local_of note.bound ≡ Some j = ap local_of noted.bound ∙ local_is z.sight.first (look z.name z.sight.scope) ∙ stands in
    let high = x.high in
    let skipped : is_skipped (length kb.locals) x.leap note ≡ true =
    ap (between x.leap.before (length kb.locals)) is_local ∙ between_is x.leap.before (length kb.locals) j (omega (arith, high, le)) lt in
    skip_found (length kb.locals) (drop (length kb.notes) t.notes) t.leaps x.place x.leap x.at
    (at_any (is_skipped (length kb.locals) x.leap) (drop (length kb.notes) t.notes) place note at_note skipped) none)

-- so in a script without faults no name in the condition of a `repeat` stands for a local that the early end of a turn skips
pub unskipped : (main : FuncBody) (s : Sight) (x : Stat) (ps : List Part) (ss rest : List Stat) (cond : Expr) → (known (numbered main)).faults ≡ []
    → out-StatKind x.kind ≡ level.Repeat (ss ++ rest) cond → Sees (numbered main).main s (stat x ∷ ps) → any (map ends_turn ss) ≡ true
    → (z : NameWithin (all_behind (map stat (ss ++ rest)) s) (expr cond)) (k : ℕ) → look z.name z.sight.scope ≡ Some k
    → (all_behind (map stat ss) s).declared ≤ k → k < (all_behind (map stat (ss ++ rest)) s).declared → ⊥
unskipped main s x ps ss rest cond clean is sees ends =
    let final : Known = known (numbered main) in
    let h : seen.Here final 0 (numbered main).nodes s (stat x ∷ ps) = seen.here main s (stat x ∷ ps) sees in
    let f : seen.First final 0 (numbered main).nodes s (stat x) ps h = seen.first final 0 (numbered main).nodes s (stat x) ps h in
    let k : Known = h.before in
    let n = length k.notes in
    let noted : Known = names.plain x.at k in
    let start : Known = opened noted in
    let l : StatLevel = level.Repeat (ss ++ rest) cond in
    let known_is : names_stat x k ≡ stat_known l x.at noted = ap (λ f. f k) (levels.stat_is names.steps x)
    ∙ ap (λ f. f x.at noted) (levels.stat_kind_is names.steps x.kind) ∙ ap (λ l. stat_known l x.at noted) is in
    let none : (stat_known l x.at noted).faults ≡ [] =
    ap (λ (z : Known). z.faults) (sym known_is) ∙ front_nil (front_then f.others.faults h.faults) clean in
    let b : Known = names.block (map names_stat (ss ++ rest)) start in
    let skips_none : Skips cond b ≡ [] = right_nil (names_expr cond false b).faults (Skips cond b) none in
    let walk : Walk (n + 1) (map stat (ss ++ rest) ++ expr cond ∷ []) f.parts.middle =
    subst (λ l. Walk (n + 1) (in_stat l (sight_of k)).parts f.parts.middle) is (f.parts.inside (sight_of k)) in
    subst (λ z. NamesNone cond (all_behind (map stat ss) z).declared (all_behind (map stat (ss ++ rest)) z)) h.sees
    (in_repeat (n + 1) f.parts.middle ss rest cond start (omega arith) (one_more k.notes _) walk ends
    (subst (λ (z : Known). Skips cond z ≡ []) (stats_known (ss ++ rest) start) skips_none))
