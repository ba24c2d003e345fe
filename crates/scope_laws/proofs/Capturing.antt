-- The entry of a function lists the locals that it captures.
use Rattle.std.proofs.Common.{◌≡◌, ◌≢◌, ◌∙◌, ℕ, ◌+◌, ◌-◌, ◌<◌, ◌≤◌, Bool, true, false, List, [], ◌∷◌, length, map, take, drop, Option, Some, None, refl, sym, ap, subst, arith, slice_get, slice_set, length-set, if◌then◌else◌}
use Rattle.std.proofs.lemmas.Option.{slice_get-map, slice_get_within}
use Rattle.std.specs.List.{list_any}
use Rattle.std.specs.Prelude.{option_map, nat_lt}
use Rattle.syntax_tree.specs.declared.bindings.Bound.{Bound}
use Rattle.syntax_tree.specs.declared.bindings.Bound.TheVariants as variant
use Rattle.syntax_tree.specs.declared.notes.Note.{Note}
use Rattle.syntax_tree.specs.declared.tree.FuncBody.{FuncBody, out-FuncBody}
use Rattle.syntax_tree.specs.Bound.{bound, known}
use Rattle.syntax_tree.specs.Captures.{is_some, stands_for, captures, variables}
use Rattle.syntax_tree.specs.Names.{Known, names_func, names_stat, opened, outside, counted}
use Rattle.syntax_tree.specs.Names as names
use Rattle.syntax_tree.specs.Numbers.{numbered}
use Rattle.syntax_tree.specs.Scope.{look, bound_in, local_of}
use Rattle.scope_laws.specs.Captured.{Captures, Captured, UsedBefore}
use Rattle.scope_laws.specs.Laws.{FunctionsCapture}
use Rattle.scope_laws.specs.Sight.{Sight, Part, function, Sees, itself, NameWithin}
use Rattle.scope_laws.proofs.Covering.{Found, AreSet, cover}
use Rattle.scope_laws.proofs.Effects.{sight_of}
use Rattle.scope_laws.proofs.Gains.{Gained, gained, is_some_true, true_is_some}
use Rattle.scope_laws.proofs.Levels.{func_is}
use Rattle.scope_laws.proofs.Passing.{Passes, passes, rises}
use Rattle.scope_laws.proofs.Places.{get_other, get_set_within, get_drop, get_take, front_same, any_at, at_any, same_some, none_some}
use Rattle.scope_laws.proofs.Seen.{Here, here, First, first, SomeNoted, name_within}
use Rattle.scope_laws.proofs.Walks.{Walk, passed, one}

-- what a note stands for, it is bound to
pub stands_bound : (k : ℕ) (o : Option Bound) → is_some k (local_of o) ≡ true → (b : Bound) × (o ≡ Some b) × (local_of (Some b) ≡ Some k)
stands_bound k None h = absurd (none_some (is_some_true k None h))
stands_bound k (Some b) h = (b, refl, is_some_true k (local_of (Some b)) h)

bound_local : (first : ℕ) (o : Option ℕ) → local_of (Some (bound_in first o)) ≡ o
bound_local first None = refl
bound_local first (Some k) = by (nat_lt k first) where
  by : (b : Bool) → local_of (Some (if b then variant.Up k else variant.Local k)) ≡ Some k
  by true = refl
  by false = refl

pub same_local : (first : ℕ) (o : Option ℕ) (note seen : Note) (b : Bound) (x : ℕ) → note ≡ seen → seen.bound ≡ Some (bound_in first o) →
    note.bound ≡ Some b → local_of (Some b) ≡ Some x → o ≡ Some x
same_local first o note seen b x same there here local =
    sym (bound_local first o) ∙ ap local_of (sym there ∙ ap (λ (z : Note). z.bound) (sym same) ∙ here) ∙ local

pub stands_there : (first : ℕ) (o : Option ℕ) (seen : Note) (x : ℕ) → seen.bound ≡ Some (bound_in first o) → o ≡ Some x →
    stands_for x seen ≡ true
stands_there first o seen x there local = true_is_some x (local_of seen.bound) (ap local_of there ∙ bound_local first o ∙ local)

-- what is known at the end of a function's block
abbrev at_end : FuncBody → Known → Known
at_end f k = names.block (map names_stat (out-FuncBody f).body) (names.enter (out-FuncBody f).id (out-FuncBody f).at
    (out-FuncBody f).params (opened k))

func_known : (f : FuncBody) (k : Known) → names_func f k ≡ outside (length k.scope) k.leaps k.func k.first (counted (out-FuncBody f).at
    (length k.notes) (length k.locals) (at_end f k))
func_known f k = ap (λ g. g k) (func_is names.steps f)

func_low : {n m : ℕ} (s : Sight) (f : FuncBody) → Walk n (function f ∷ []) m → n + 1 ≤ m
func_low s f (passed n m r p ps num inside rest) = omega (arith, rises s (inside s), rises s rest)

module _ (f : FuncBody) (k : Known) (m : ℕ) (walk : Walk (length k.notes) (function f ∷ []) m) where
  abbrev n : ℕ
  n = length k.notes

  abbrev last : List Note
  last = (at_end f k).notes

  -- the notes of the nodes in the function
  abbrev deeper : List Note
  deeper = drop 1 (drop n last)

  abbrev own : Note
  own = record { at = (out-FuncBody f).at; bound = None; target = false; first = length k.locals; upvalues = variables (captures (length k.locals) deeper) }

  notes_are : (names_func f k).notes ≡ slice_set last n own
  notes_are = ap (λ (t : Known). t.notes) (func_known f k)

  passing : Passes n m (function f ∷ []) k (names_func f k)
  passing = passes walk 0 k refl

  last_count : length last ≡ m
  last_count = sym (length-set last n own) ∙ ap length (sym notes_are) ∙ passing.count

  within_last : n < m
  within_last = omega (arith, func_low (sight_of k) f walk)

  other_notes : (i : ℕ) → i ≢ n → slice_get (names_func f k).notes i ≡ slice_get last i
  other_notes i h = ap (λ l. slice_get l i) notes_are ∙ get_other last n i own h

  own_note : slice_get (names_func f k).notes n ≡ Some own
  own_note = ap (λ l. slice_get l n) notes_are ∙ get_set_within last n own (omega (arith, within_last, last_count))

  deeper_at : (j : ℕ) → slice_get deeper j ≡ slice_get last (n + (1 + j))
  deeper_at j = get_drop (drop n last) 1 j ∙ get_drop last n (1 + j)

  in_function : Here (names_func f k) n m (sight_of k) (function f ∷ [])
  in_function = record {
    before = k;
    targets = 0;
    sees = refl;
    stop = m;
    walk = walk;
    same = λ i from upto. refl;
    locals = front_same (names_func f k).locals;
    faults = front_same (names_func f k).faults;
    low =
        omega arith;
    high = omega arith;
  }

  -- a note in the function, at its node's number
  noted_deeper : (j : ℕ) (note : Note) → slice_get deeper j ≡ Some note → slice_get (names_func f k).notes (n + (1 + j)) ≡ Some note
  noted_deeper j note h = other_notes (n + (1 + j)) (λ e. omega (arith, e)) ∙ sym (deeper_at j) ∙ h

  deeper_within : (j : ℕ) (note : Note) → slice_get deeper j ≡ Some note → n + (1 + j) < m
  deeper_within j note h = omega (arith, slice_get_within last (n + (1 + j)) note (sym (deeper_at j) ∙ h), last_count)

  abbrev NotedName : NameWithin (sight_of k) (function f) → Type 0
  NotedName name = SomeNoted (names_func f k) n m name.sight name.node name.name

  noted_name : (name : NameWithin (sight_of k) (function f)) → NotedName name
  noted_name name = name_within (names_func f k) n m (sight_of k) (function f) name in_function

  -- a name that stands for a local, at the place of its note
  record Standing (x j : ℕ) : Type 0 where
    pub name : NameWithin (sight_of k) (function f)
    pub number : name.node.id ≡ n + (1 + j)
    pub stands : look name.name name.sight.scope ≡ Some x

  named : (j x : ℕ) (note : Note) (b : Bound) → slice_get (names_func f k).notes (n + (1 + j)) ≡ Some note → note.bound ≡ Some b →
      local_of (Some b) ≡ Some x → Found (sight_of k) (function f) (n + (1 + j)) note → Standing x j
  named j x note b at is_bound local name =
      let seen : NotedName name.name = noted_name name.name in
      let same : note ≡ seen.noted.note = same_some (sym at ∙ ap (slice_get (names_func f k).notes) (sym name.number) ∙ seen.noted.at) in
      record {
        name = name.name;
        number = name.number;
        stands = same_local name.name.sight.first (look name.name.name name.name.sight.scope) note seen.noted.note b x same
            seen.noted.bound is_bound local;
      }

  unset : AreSet (sight_of k) (function f) 0 (function f ∷ [])
  unset e j lt at = absurd (omega (arith, lt))

  -- a note that stands for a local
  standing : (j x : ℕ) (note : Note) → slice_get deeper j ≡ Some note → stands_for x note ≡ true → Standing x j
  standing j x note at stands =
      let b : (b : Bound) × (note.bound ≡ Some b) × (local_of (Some b) ≡ Some x) = stands_bound x note.bound stands in
      let there : slice_get (names_func f k).notes (n + (1 + j)) ≡ Some note = noted_deeper j note at in
      named j x note b.0 there b.1 b.2
      (cover (sight_of k) (function f) walk 0 k refl itself unset (n + (1 + j)) note b.0 (omega arith) (deeper_within j note at) there b.1)

  -- a local that some note in the function stands for, and that is declared before it
  is_captured : (x : ℕ) → x < length k.locals → list_any (stands_for x) deeper ≡ true → Captures (sight_of k) f x
  is_captured x lt any =
      let a : (j : ℕ) × ((note : Note) × (slice_get deeper j ≡ Some note) × (stands_for x note ≡ true)) =
      any_at (stands_for x) deeper any in
      let s : Standing x a.0 = standing a.0 x a.1.0 a.1.1 a.1.2 in
      record { name = s.name; stands = s.stands; outside = lt }

  -- the note of a name that stands for a local
  record NoteOf (x : ℕ) (name : NameWithin (sight_of k) (function f)) : Type 0 where
    pub place : ℕ
    pub note : Note
    pub at : slice_get deeper place ≡ Some note
    pub number : n + (1 + place) ≡ name.node.id
    pub stands : stands_for x note ≡ true

  note_of : (x : ℕ) (name : NameWithin (sight_of k) (function f)) → look name.name name.sight.scope ≡ Some x → NoteOf x name
  note_of x name stands =
      let seen : NotedName name = noted_name name in
      let i : ℕ = name.node.id in
      let j : ℕ = i - (n + 1) in
      let place : n + (1 + j) ≡ i = omega (arith, seen.noted.low) in
      let not_own : i ≢ n = λ e. omega (arith, e, seen.noted.low) in
      record {
        place = j;
        note = seen.noted.note;
        at = deeper_at j ∙ ap (slice_get last) place ∙ sym (other_notes i not_own) ∙ seen.noted.at;
        number = place;
        stands = stands_there name.sight.first (look name.name name.sight.scope) seen.noted.note x seen.noted.bound stands;
      }

  captured_is : (x : ℕ) → Captures (sight_of k) f x → list_any (stands_for x) deeper ≡ true
  captured_is x c =
      let t : NoteOf x c.name = note_of x c.name c.stands in
      at_any (stands_for x) deeper t.place t.note t.at t.stands

  abbrev found : Gained (length k.locals) [] deeper
  found = gained (length k.locals) [] deeper

  -- before a name that stands for a later one, a name stands for an earlier one
  in_order : (i j earlier later : ℕ) → i < j → slice_get found.locals i ≡ Some earlier → slice_get found.locals j ≡ Some later →
      (name : NameWithin (sight_of k) (function f)) → look name.name name.sight.scope ≡ Some later →
      UsedBefore (sight_of k) f earlier name.node.id
  in_order i j earlier later lt a b name stands =
      let t : NoteOf later name = note_of later name stands in
      let any : (i : ℕ) × ((note : Note) × (slice_get (take t.place deeper) i ≡ Some note) × (stands_for earlier note ≡ true)) =
      any_at (stands_for earlier) (take t.place deeper) (found.order i j earlier later t.place t.note lt a b t.at t.stands) in
      let taken : (any.0 < t.place) × (slice_get deeper any.0 ≡ Some any.1.0) = get_take deeper t.place any.0 any.1.0 any.1.1 in
      let s : Standing earlier any.0 = standing any.0 earlier any.1.0 taken.1 any.1.2 in
      record { name = s.name; stands = s.stands; before = omega (arith, s.number, t.number, taken.0) }

  pub captured : (c : Captured (sight_of k) f) × (c.locals ≡ own.upvalues)
  captured = (
    record {
      locals = found.locals;
      each = λ x. (λ c. is_captured x (found.sound x c).0 (found.sound x c).1, λ c. found.complete x c.outside (captured_is x c) refl);
      once = found.once;
      order = in_order;
    },
    found.is,
  )

abbrev upvalues_of : Note → List ℕ
upvalues_of note = note.upvalues

-- the locals that a function captures, at its number
record Listed (lists : List (List ℕ)) (f : FuncBody) (s : Sight) : Type 0 where
  pub captured : Captured s f
  pub at : slice_get lists (out-FuncBody f).id ≡ Some captured.locals

listed_here : (final : Known) (lowest highest : ℕ) (s : Sight) (f : FuncBody) (after : List Part) →
    Here final lowest highest s (function f ∷ after) → Listed (map upvalues_of final.notes) f s
listed_here final lowest highest s f after h =
    let g : First final lowest highest s (function f) after h = first final lowest highest s (function f) after h in
    let k : Known = h.before in
    let m : ℕ = g.parts.middle in
    let walk : Walk (length k.notes) (function f ∷ []) m = one (length k.notes) m (function f) g.parts.number g.parts.inside in
    let c : (c : Captured (sight_of k) f) × (c.locals ≡ (own f k m walk).upvalues) = captured f k m walk in
    let lt : length k.notes < m = within_last f k m walk in
    let at : slice_get final.notes (out-FuncBody f).id ≡ Some (own f k m walk) =
    ap (slice_get final.notes) g.parts.number ∙ h.same (length k.notes) (omega arith) (omega (arith, lt, g.high))
    ∙ g.others.before (length k.notes) lt ∙ own_note f k m walk in
    subst (λ z. Listed (map upvalues_of final.notes) f z) h.sees
    (record {
      captured = c.0;
      at = slice_get-map upvalues_of final.notes (out-FuncBody f).id ∙ ap (option_map upvalues_of) at
          ∙ ap Some (sym c.1);
    })

pub functions_capture : FunctionsCapture
functions_capture main tree s f after numbers w =
    subst (λ z. Sees z.main s (function f ∷ after) → (c : Captured s f) × (slice_get (bound z).upvalues (out-FuncBody f).id ≡ Some
    c.locals)) (sym numbers)
    (λ w. let c : Listed (map upvalues_of (known (numbered main)).notes) f s =
    listed_here (known (numbered main)) 0 (numbered main).nodes s f after (here main s (function f ∷ after) w) in
    (c.captured, c.at)) w
