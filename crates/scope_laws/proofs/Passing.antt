-- What is known behind some parts whose nodes are numbered.
use Rattle.std.proofs.Common.{◌≡◌, inl, ◌∙◌, ℕ, ◌<◌, ◌≤◌, Bool, List, [], ◌∷◌, length, refl, sym, ap, arith, slice_get}
use Rattle.syntax_tree.specs.Names.{Known}
use Rattle.scope_laws.specs.Sight.{Sight, Part, expr, stat, function, arm, expr_arm, field, block, in_part}
use Rattle.scope_laws.proofs.Behind.{all_behind}
use Rattle.scope_laws.proofs.Effects.{sight_of, names_part, names_parts, is_target, less}
use Rattle.scope_laws.proofs.Opens.{Opens, opens}
use Rattle.scope_laws.proofs.Places.{get_front, Front, front_same, front_then, front_from, front_to}
use Rattle.scope_laws.proofs.Walks.{Walk, done, passed, inner}

pub inner_least : (p : Part) (n : ℕ) → n ≤ inner p n
inner_least (expr e) n = omega arith
inner_least (stat x) n = omega arith
inner_least (function f) n = omega arith
inner_least (arm a) n = omega arith
inner_least (expr_arm a) n = omega arith
inner_least (field f) n = omega arith
inner_least (block vs body) n = omega arith

-- numbers only rise; what is seen inside does not matter for that
pub rises : {n m : ℕ} {ps : List Part} → Sight → Walk n ps m → n ≤ m
rises s (done n) = omega arith
rises s (passed n m r p ps h inside rest) = omega (arith, inner_least p n, rises s (inside s), rises s rest)

-- the notes and locals before stay, the nodes have one note each, and this is seen behind
pub record Passes (n m : ℕ) (ps : List Part) (k t : Known) : Type 0 where
  pub count : length t.notes ≡ m
  pub before : (i : ℕ) → i < n → slice_get t.notes i ≡ slice_get k.notes i
  pub ends : sight_of t ≡ all_behind ps (sight_of k)
  pub locals : Front k.locals t.locals
  pub faults : Front k.faults t.faults
  pub leaps : Front k.leaps t.leaps

-- of one part, by what is inside
abbrev pub Single : ℕ → ℕ → Part → Bool → Known → Type 0
Single n m p target k = Passes n m (p ∷ []) k (names_part p target k)

pub single : (n m : ℕ) (p : Part) (target : Bool) (k : Known) (o : Opens p target k) → length k.notes ≡ n →
    Passes (inner p n) m (in_part p (sight_of k)).parts o.into (names_parts (in_part p (sight_of k)).parts o.targets o.into) →
    Single n m p target k
single n m p target k o at_n inside = record {
  count = o.as_long ∙ inside.count;
  before = λ i lt.
      let within : i < length k.notes = omega (arith, at_n, lt) in
      o.same i (inl within) ∙ inside.before i (omega (arith, inner_least p n, lt)) ∙ ap (λ l. slice_get l i) o.notes
      ∙ get_front k.notes o.own i within;
  ends = o.ends (inside.ends ∙ ap (all_behind (in_part p (sight_of k)).parts) o.begins);
  locals = front_to (front_then (record { more = _; is = o.new }) inside.locals) o.locals;
  faults = front_from (sym o.begun) (front_then inside.faults o.faults);
  leaps = o.leaps inside.leaps;
}

pub passes : {n m : ℕ} {ps : List Part} → Walk n ps m → (targets : ℕ) (k : Known) → length k.notes ≡ n →
    Passes n m ps k (names_parts ps targets k)
passes (done n) targets k h = record {
  count = h;
  before = λ i lt. refl;
  ends = refl;
  locals = front_same k.locals;
  faults = front_same k.faults;
  leaps = front_same k.leaps;
}
passes (passed n m r p ps num inside rest) targets k h =
    let o : Opens p (is_target targets) k = opens p (is_target targets) k in
    let one : Single n m p (is_target targets) k = single n m p (is_target targets) k o h (passes (inside (sight_of k)) o.targets o.into
    (o.count ∙ ap (inner p) h)) in
    let others : Passes m r ps (names_part p (is_target targets) k) (names_parts ps (less targets) (names_part p (is_target targets) k)) =
    passes rest (less targets) (names_part p (is_target targets) k) one.count in
    let le : n ≤ m = omega (arith, inner_least p n, rises (sight_of k) (inside (sight_of k))) in
    record {
      count = others.count;
      before = λ i lt. others.before i (omega (arith, lt, le)) ∙ one.before i lt;
      ends = others.ends ∙ ap (all_behind ps) one.ends;
      locals = front_then one.locals others.locals;
      faults = front_then one.faults others.faults;
      leaps = front_then one.leaps others.leaps;
    }
