-- A node that is bound to something is a name that is seen.
use Rattle.std.proofs.Common.{◌≡◌, ◌⊎◌, inl, inr, ◌∙◌, ℕ, zero, suc, ◌<◌, ◌≤◌, true, List, [], ◌∷◌, ◌++◌, map, length, Option, Some, None, refl, sym, ap, subst, rules, arith, slice_get}
use Rattle.std.proofs.lemmas.Option.{slice_get-map, slice_get_within}
use Rattle.std.specs.Prelude.{option_map}
use Rattle.syntax_tree.specs.declared.bindings.Bound.{Bound}
use Rattle.syntax_tree.specs.declared.notes.Note.{Note}
use Rattle.syntax_tree.specs.declared.tree.Expr.{Expr}
use Rattle.syntax_tree.specs.declared.tree.StatKind.{out-StatKind}
use Rattle.syntax_tree.specs.declared.tree.ExprKind.{ExprKind, roll-ExprKind, out-ExprKind}
use Rattle.syntax_tree.specs.declared.tree.ExprKind as expr_kind
use Rattle.syntax_tree.specs.declared.tree.ExprKind.TheFolds as folds
use Rattle.syntax_tree.specs.declared.tree.ExprKind.TheOpen as level
use Rattle.syntax_tree.specs.declared.tree.ExprKind.TheViews as views
use Rattle.syntax_tree.specs.declared.tree.FuncBody.{FuncBody}
use Rattle.syntax_tree.specs.Bound.{bound, known}
use Rattle.syntax_tree.specs.Names.{Known, start}
use Rattle.syntax_tree.specs.Numbers.{numbered}
use Rattle.byte_text.specs.declared.fixed.StrId.{StrId}
use Rattle.scope_laws.specs.Declared.{SetWithin, stat_targets}
use Rattle.scope_laws.specs.Laws.{NamesAreSeen}
use Rattle.scope_laws.specs.Sight.{Sight, Part, expr, stat, function, arm, expr_arm, field, block, in_part, in_stat, StatLevel, Within, itself, next, enter, NameWithin, nothing}
use Rattle.scope_laws.proofs.Effects.{sight_of, names_part, names_parts, is_target, less}
use Rattle.scope_laws.proofs.Numbering.{script_walk}
use Rattle.scope_laws.proofs.Opens.{Opens, opens, NameOf, OwnNote, targets_of}
use Rattle.scope_laws.proofs.Places.{same_some, false_true}
use Rattle.scope_laws.proofs.Passing.{Passes, passes, single}
use Rattle.scope_laws.proofs.Seen.{bound_of}
use Rattle.scope_laws.proofs.Walks.{Walk, done, passed, inner, HasNumber}

pub below_or : (i m : ℕ) → (i < m) ⊎ (m ≤ i)
below_or i zero = inr (omega arith)
below_or zero (suc m) = inl (omega arith)
below_or (suc i) (suc m) = next_one (below_or i m) where
  next_one : (i < m) ⊎ (m ≤ i) → (suc i < suc m) ⊎ (suc m ≤ suc i)
  next_one (inl h) = inl (omega (arith, h))
  next_one (inr h) = inr (omega (arith, h))

name_kind : (t : ExprKind) (x : StrId) → out-ExprKind t ≡ level.Name x → t ≡ expr_kind.Name x
name_kind t x h =
    let same : roll-ExprKind (out-ExprKind t) ≡ t = search (rules, folds.the_lemmas, views.the_lemmas) in
    sym same ∙ ap roll-ExprKind h ∙ views.rolls-Name x

-- the only number from n on that is none inside
own_number : (p : Part) (n i : ℕ) → n ≤ i → i < inner p n → i ≡ n
own_number (expr e) n i low h = omega (arith, low, h)
own_number (stat x) n i low h = omega (arith, low, h)
own_number (function f) n i low h = omega (arith, low, h)
own_number (arm a) n i low h = omega (arith, low, h)
own_number (expr_arm a) n i low h = omega (arith, low, h)
own_number (field f) n i low h = omega (arith, low, h)
own_number (block vs body) n i low h = omega (arith, low, h)

-- ---- targets

less_more : (targets j : ℕ) → j < less targets → suc j < targets
less_more zero j h = absurd (omega (arith, h))
less_more (suc targets) j h = omega (arith, h)

target_many : (targets : ℕ) → is_target targets ≡ true → 0 < targets
target_many zero h = absurd (false_true h)
target_many (suc targets) h = omega arith

same_expr : {a b : Expr} → Some (expr a) ≡ Some (expr b) → Some a ≡ Some b
same_expr h = search rules

expr_at : (es : List Expr) (ps : List Part) (e : Expr) (j : ℕ) → j < length es → slice_get (map expr es ++ ps) j ≡ Some (expr e) →
    slice_get es j ≡ Some e
expr_at [] ps e j lt at = absurd (omega (arith, lt))
expr_at (d ∷ es) ps e zero lt at = same_expr at
expr_at (d ∷ es) ps e (suc j) lt at = expr_at es ps e j (omega (arith, lt)) at

-- the first parts of an assignment are its targets
target_at : (l : StatLevel) (s : Sight) (e : Expr) (j : ℕ) → j < length (stat_targets l) → slice_get (in_stat l s).parts j ≡ Some (expr e) →
    slice_get (stat_targets l) j ≡ Some e
target_at (level.Assign ts es) s e j lt at = expr_at ts (map expr es) e j lt at
target_at (level.Compound op a b) s e j lt at = expr_at (a ∷ []) (expr b ∷ []) e j lt at
target_at (level.Local xs es) s e j lt at = absurd (omega (arith, lt))
target_at (level.StatKind::Call c) s e j lt at = absurd (omega (arith, lt))
target_at (level.Do body) s e j lt at = absurd (omega (arith, lt))
target_at (level.While a body) s e j lt at = absurd (omega (arith, lt))
target_at (level.Repeat body a) s e j lt at = absurd (omega (arith, lt))
target_at (level.StatKind::If arms other) s e j lt at = absurd (omega (arith, lt))
target_at (level.NumFor x a b by body) s e j lt at = absurd (omega (arith, lt))
target_at (level.GenFor xs es body) s e j lt at = absurd (omega (arith, lt))
target_at (level.LocalFunction x f) s e j lt at = absurd (omega (arith, lt))
target_at (level.Return es) s e j lt at = absurd (omega (arith, lt))
target_at level.Break s e j lt at = absurd (omega (arith, lt))
target_at level.Continue s e j lt at = absurd (omega (arith, lt))

-- ---- the nodes of some parts

module _ (from : Sight) (whole : Part) where
  -- a name of that number, which is set where it is a target
  pub record Found (i : ℕ) (note : Note) : Type 0 where
    pub name : NameWithin from whole
    pub number : name.node.id ≡ i
    pub set : note.target ≡ true → SetWithin from whole name.node

  -- so many of these parts are set
  abbrev pub AreSet : ℕ → List Part → Type 0
  AreSet targets ps = (e : Expr) (j : ℕ) → j < targets → slice_get ps j ≡ Some (expr e) → SetWithin from whole e

  others_set : (targets : ℕ) (p : Part) (ps : List Part) → AreSet targets (p ∷ ps) → AreSet (less targets) ps
  others_set targets p ps h e j lt at = h e (suc j) (less_more targets j lt) at

  inside_set : (p : Part) (ps : List Part) (s : Sight) (targets : ℕ) → targets ≡ length (targets_of p) → Within from whole s (p ∷ ps) →
      AreSet targets (in_part p s).parts
  inside_set (stat x) ps s targets is w e j lt at = record {
    sight = s;
    assignment = x;
    after = ps;
    seen = w;
    place = j;
    is = target_at (out-StatKind x.kind) s e j (omega (arith, lt, is)) at;
  }
  inside_set (expr d) ps s targets is w e j lt at = absurd (omega (arith, lt, is))
  inside_set (function f) ps s targets is w e j lt at = absurd (omega (arith, lt, is))
  inside_set (arm a) ps s targets is w e j lt at = absurd (omega (arith, lt, is))
  inside_set (expr_arm a) ps s targets is w e j lt at = absurd (omega (arith, lt, is))
  inside_set (field f) ps s targets is w e j lt at = absurd (omega (arith, lt, is))
  inside_set (block vs body) ps s targets is w e j lt at = absurd (omega (arith, lt, is))

  found : (p : Part) (ps : List Part) (s : Sight) (n i targets : ℕ) (note : Note) → i ≡ n → NameOf p → HasNumber p n →
      Within from whole s (p ∷ ps) → AreSet targets (p ∷ ps) → (note.target ≡ true → 0 < targets) → Found i note
  found (expr e) ps s n i targets note h name number w set many = record {
    name = record { node = e; name = name.0; is = name_kind e.kind name.0 name.1; sight = s; after = ps; seen = w };
    number = number ∙ sym h;
    set = λ t. set e 0 (many t) refl;
  }
  found (stat x) ps s n i targets note h name number w set many = absurd name
  found (function f) ps s n i targets note h name number w set many = absurd name
  found (arm a) ps s n i targets note h name number w set many = absurd name
  found (expr_arm a) ps s n i targets note h name number w set many = absurd name
  found (field f) ps s n i targets note h name number w set many = absurd name
  found (block vs body) ps s n i targets note h name number w set many = absurd name

  -- the node of a number is found behind a part, in it, or is the part
  sought : {F : Type 0} (n m r i : ℕ) (p : Part) → ((m ≤ i) → F) → (i < m → inner p n ≤ i → F) → (i < m → i < inner p n → F) → F
  sought {F} n m r i p later deeper here = in_part_or (below_or i m) where
    there_or : i < m → (i < inner p n) ⊎ (inner p n ≤ i) → F
    there_or lt (inl h) = here lt h
    there_or lt (inr h) = deeper lt h

    in_part_or : (i < m) ⊎ (m ≤ i) → F
    in_part_or (inl lt) = there_or lt (below_or i (inner p n))
    in_part_or (inr le) = later le

  pub cover : {n m : ℕ} {ps : List Part} → Walk n ps m → (targets : ℕ) (k : Known) → length k.notes ≡ n →
      Within from whole (sight_of k) ps → AreSet targets ps → (i : ℕ) (note : Note) (b : Bound) → n ≤ i → i < m →
      slice_get (names_parts ps targets k).notes i ≡ Some note → note.bound ≡ Some b → Found i note
  cover (done n) targets k h w set i note b low high at bound = absurd (omega (arith, low, high))
  cover (passed n m r p ps num inside rest) targets k h w set i note b low high at bound =
      let o : Opens p (is_target targets) k = opens p (is_target targets) k in
      let parts : List Part = (in_part p (sight_of k)).parts in
      let t : Known = names_part p (is_target targets) k in
      let count : length o.into.notes ≡ inner p n = o.count ∙ ap (inner p) h in
      let inner_parts : Passes (inner p n) m parts o.into (names_parts parts o.targets o.into) =
      passes (inside (sight_of k)) o.targets o.into count in
      let one : Passes n m (p ∷ []) k t = single n m p (is_target targets) k o h inner_parts in
      let others : Passes m r ps t (names_parts (p ∷ ps) targets k) = passes rest (less targets) t one.count in
      sought n m r i p
      (λ le. cover rest (less targets) t one.count (subst (λ s. Within from whole s ps) (sym one.ends) (next
      (sight_of k) p ps w)) (others_set targets p ps set) i note b le high at bound)
      (λ lt deep. cover (inside (sight_of k)) o.targets o.into count (subst (λ s. Within from whole s parts) (sym o.begins) (enter
      (sight_of k) p ps w)) (inside_set p ps (sight_of k) o.targets o.sets w) i note b deep lt
      (sym (o.same i (inr (omega (arith, deep, count)))) ∙ sym (others.before i lt) ∙ at) bound)
      (λ lt own.
      let is_own : i ≡ length k.notes = omega (arith, own, low, h, own_number p n i low own) in
      let own_note : OwnNote t.notes p (is_target targets) k =
      o.own_note (inner_parts.before (length k.notes) (omega (arith, own, is_own))) (omega (arith, own, is_own, count)) in
      let same : own_note.note ≡ note =
      same_some (sym own_note.at ∙ ap (slice_get t.notes) (sym is_own) ∙ sym (others.before i lt) ∙ at) in
      found p ps (sight_of k) n i targets note (is_own ∙ h) (own_note.tells.name b (ap bound_of same ∙ bound)) num w set
      (λ z. target_many targets (own_note.tells.set (ap (λ (n : Note). n.target) same ∙ z))))

-- ---- a script

mapped : (o : Option Note) (b : Bound) → option_map bound_of o ≡ Some (Some b) → (note : Note) × (o ≡ Some note) × (note.bound ≡ Some b)
mapped None b h = absurd (search rules)
mapped (Some note) b h = (note, refl, search rules)

-- nothing sets a function
none_set : (f : FuncBody) → AreSet nothing (function f) 0 (function f ∷ [])
none_set f e j lt at = absurd (omega (arith, lt))

pub name_at : (main : FuncBody) (i : ℕ) (note : Note) (b : Bound) → slice_get (known (numbered main)).notes i ≡ Some note →
    note.bound ≡ Some b → Found nothing (function (numbered main).main) i note
name_at main i note b at is =
    let all : Passes 0 (numbered main).nodes (function (numbered main).main ∷ []) start (known (numbered main)) =
    passes (script_walk main) 0 start refl in
    cover nothing (function (numbered main).main) (script_walk main) 0 start refl itself (none_set (numbered main).main) i note b (omega arith)
    (omega (arith, all.count, slice_get_within (known (numbered main)).notes i note at)) at is

bound_name : (main : FuncBody) (i : ℕ) (b : Bound) → slice_get (bound (numbered main)).names i ≡ Some (Some b) →
    (n : NameWithin nothing (function (numbered main).main)) × (n.node.id ≡ i)
bound_name main i b h =
    let final : List Note = (known (numbered main)).notes in
    let note : (note : Note) × (slice_get final i ≡ Some note) × (note.bound ≡ Some b) =
    mapped (slice_get final i) b (sym (slice_get-map bound_of final i) ∙ h) in
    let f : Found nothing (function (numbered main).main) i note.0 = name_at main i note.0 b note.1 note.2 in
    (f.name, f.number)

pub names_are_seen : NamesAreSeen
names_are_seen main tree i b numbers h =
    subst (λ z. slice_get (bound z).names i ≡ Some (Some b) → (n : NameWithin nothing (function z.main)) × (n.node.id ≡ i)) (sym numbers)
    (bound_name main i b) h
