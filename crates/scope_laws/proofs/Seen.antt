-- What is known where parts stand in a script.
use Rattle.std.proofs.Common.{◌≡◌, inr, ◌∙◌, ℕ, ◌+◌, ◌<◌, ◌≤◌, Bool, List, [], ◌∷◌, length, Option, Some, refl, sym, ap, subst, arith, slice_get}
use Rattle.std.proofs.lemmas.Option.{slice_get-map}
use Rattle.std.specs.Prelude.{option_map}
use Rattle.byte_text.specs.declared.fixed.StrId.{StrId}
use Rattle.syntax_tree.specs.declared.bindings.Bound.{Bound}
use Rattle.syntax_tree.specs.declared.notes.Note.{Note}
use Rattle.syntax_tree.specs.declared.tree.Expr.{Expr}
use Rattle.syntax_tree.specs.declared.tree.ExprKind.{ExprKind, out-ExprKind}
use Rattle.syntax_tree.specs.declared.tree.ExprKind as expr_kind
use Rattle.syntax_tree.specs.declared.tree.ExprKind.TheOpen as level
use Rattle.syntax_tree.specs.declared.tree.ExprKind.TheViews as views
use Rattle.syntax_tree.specs.declared.tree.FuncBody.{FuncBody, out-FuncBody}
use Rattle.syntax_tree.specs.Bound.{bound, known}
use Rattle.syntax_tree.specs.Names.{Known, names_expr, named, bound_here, start}
use Rattle.syntax_tree.specs.Numbers.{numbered}
use Rattle.syntax_tree.specs.Scope.{look, bound_in}
use Rattle.scope_laws.specs.Declared.{node_of, own_names, declarer, HasEntry}
use Rattle.scope_laws.specs.Laws.{NamesInScope, NodesHaveFirsts}
use Rattle.scope_laws.specs.Sight.{Sight, Part, expr, function, behind, in_part, stat, arm, expr_arm, field, block, Sees, Within, itself, next, enter, NameWithin, nothing, ExprLevel, expr_parts}
use Rattle.scope_laws.proofs.Effects.{sight_of, names_part, names_parts, is_target, less}
use Rattle.scope_laws.proofs.Entries.{declared_entry}
use Rattle.scope_laws.proofs.Numbering.{script_walk}
use Rattle.scope_laws.proofs.Opens.{Opens, opens, targets_of, Tells, OwnNote, own_known, expr_known}
use Rattle.scope_laws.proofs.Passing.{Passes, passes, rises, inner_least}
use Rattle.scope_laws.proofs.Places.{get_last, none_some, same_some, Front, front_same, front_then, front_from}
use Rattle.scope_laws.proofs.Walks.{Walk, passed, one, inner, HasNumber}

-- in a function with the number n, parts that do not begin with a function begin behind its own node
abbrev low_of : List Part → ℕ → ℕ
low_of (function f ∷ ps) n = n
low_of _ n = n + 1

low_most : (ps : List Part) (n : ℕ) → low_of ps n ≤ n + 1
low_most [] n = omega arith
low_most (expr e ∷ ps) n = omega arith
low_most (stat x ∷ ps) n = omega arith
low_most (function f ∷ ps) n = omega arith
low_most (arm a ∷ ps) n = omega arith
low_most (expr_arm a ∷ ps) n = omega arith
low_most (field f ∷ ps) n = omega arith
low_most (block vs body ∷ ps) n = omega arith

low_inner : (p : Part) (ps : List Part) (n i : ℕ) → low_of (p ∷ ps) n ≤ i → n + 1 ≤ inner p i
low_inner (expr e) ps n i h = omega (arith, h)
low_inner (stat x) ps n i h = omega (arith, h)
low_inner (function f) ps n i h = omega (arith, h)
low_inner (arm a) ps n i h = omega (arith, h)
low_inner (expr_arm a) ps n i h = omega (arith, h)
low_inner (field f) ps n i h = omega (arith, h)
low_inner (block vs body) ps n i h = omega (arith, h)

-- Of the notes of a function with the number `lowest`, whose nodes have numbers below `highest`, those of the nodes of these
-- parts are the ones that the parts make. Its locals begin with those that the parts leave.
pub record Here (final : Known) (lowest highest : ℕ) (s : Sight) (ps : List Part) : Type 0 where
  -- what is known where the first part begins, of which so many are targets
  pub before : Known
  pub targets : ℕ
  pub sees : sight_of before ≡ s
  pub stop : ℕ
  pub walk : Walk (length before.notes) ps stop
  pub same : (i : ℕ) → length before.notes ≤ i → i < stop → slice_get final.notes i ≡ slice_get (names_parts ps targets before).notes i
  pub locals : Front (names_parts ps targets before).locals final.locals
  pub faults : Front (names_parts ps targets before).faults final.faults
  pub low : low_of ps lowest ≤ length before.notes
  pub high : stop ≤ highest

-- the first of some numbered parts, and the others
pub record Split (n : ℕ) (p : Part) (ps : List Part) (r : ℕ) : Type 0 where
  pub middle : ℕ
  pub number : HasNumber p n
  pub inside : (s : Sight) → Walk (inner p n) (in_part p s).parts middle
  pub rest : Walk middle ps r

pub split : {n r : ℕ} {p : Part} {ps : List Part} → Walk n (p ∷ ps) r → Split n p ps r
split (passed n m r p ps h inside rest) = record { middle = m; number = h; inside = inside; rest = rest }

-- the number of a node
record IsOwn (p : Part) (n number : ℕ) : Type 0 where
  pub is : number ≡ n
  pub inside : n < inner p n

is_own : (p : Part) (n id number : ℕ) → inner p n ≡ n + 1 → id ≡ n → Some id ≡ Some number → IsOwn p n number
is_own p n id number inside at is = record { is = sym (same_some is) ∙ at; inside = omega (arith, inside) }

own_number : (p : Part) (n number : ℕ) → HasNumber p n → node_of p ≡ Some number → IsOwn p n number
own_number (expr e) n number at is = is_own (expr e) n e.id number refl at is
own_number (stat x) n number at is = is_own (stat x) n x.id number refl at is
own_number (function f) n number at is = is_own (function f) n (out-FuncBody f).id number refl at is
own_number (arm a) n number at is = absurd (none_some is)
own_number (expr_arm a) n number at is = absurd (none_some is)
own_number (field f) n number at is = absurd (none_some is)
own_number (block vs body) n number at is = absurd (none_some is)

module _ (final : Known) (lowest highest : ℕ) where
  -- what is known of the first of some parts
  pub record First (s : Sight) (p : Part) (ps : List Part) (h : Here final lowest highest s (p ∷ ps)) : Type 0 where
    pub parts : Split (length h.before.notes) p ps h.stop
    pub single : Passes (length h.before.notes) parts.middle (p ∷ []) h.before (names_part p (is_target h.targets) h.before)
    pub others : Passes parts.middle h.stop ps (names_part p (is_target h.targets) h.before) (names_parts (p ∷ ps) h.targets h.before)
    pub low : inner p (length h.before.notes) ≤ parts.middle
    pub high : parts.middle ≤ h.stop

  pub first : (s : Sight) (p : Part) (ps : List Part) (h : Here final lowest highest s (p ∷ ps)) → First s p ps h
  first s p ps h =
      let parts : Split (length h.before.notes) p ps h.stop = split h.walk in
      let single : Passes (length h.before.notes) parts.middle (p ∷ []) h.before (names_part p (is_target h.targets) h.before) =
      passes (one (length h.before.notes) parts.middle p parts.number parts.inside) h.targets h.before refl in
      record {
        parts = parts;
        single = single;
        others = passes parts.rest (less h.targets) (names_part p (is_target h.targets) h.before) single.count;
        low = rises s (parts.inside s);
        high = rises s parts.rest;
      }

  -- behind the first of some parts
  pub record Behind (s : Sight) (p : Part) (ps : List Part) (h : Here final lowest highest s (p ∷ ps)) : Type 0 where
    pub here : Here final lowest highest (behind p s) ps
    pub targets : here.targets ≡ less h.targets

  pub behind_here : (s : Sight) (p : Part) (ps : List Part) (h : Here final lowest highest s (p ∷ ps)) → Behind s p ps h
  behind_here s p ps h =
      let f : First s p ps h = first s p ps h in
      let known : Known = names_part p (is_target h.targets) h.before in
      record {
        here = record {
          before = known;
          targets = less h.targets;
          sees = f.single.ends ∙ ap (behind p) h.sees;
          stop = h.stop;
          walk = subst (λ n. Walk n ps h.stop) (sym f.single.count) f.parts.rest;
          same = λ i from upto. h.same i (omega (arith, from, f.single.count, f.low, inner_least p (length h.before.notes))) upto;
          locals = h.locals;
          faults = h.faults;
          low = omega (arith, low_most ps lowest, low_inner p ps lowest (length h.before.notes) h.low, f.low, f.single.count);
          high = h.high;
        };
        targets = refl;
      }

  -- what is told of a node by its number
  pub record Numbered (p : Part) (target : Bool) (k : Known) (number : ℕ) : Type 0 where
    pub note : Note
    pub at : slice_get final.notes number ≡ Some note
    pub tells : Tells p target k note

  -- what is known in a part, before which this is known
  pub record Into (p : Part) (target : Bool) (k : Known) : Type 0 where
    pub here : Here final lowest highest (in_part p (sight_of k)).sight (in_part p (sight_of k)).parts
    pub sets : here.targets ≡ length (targets_of p)
    pub entry : (j : ℕ) (x : StrId) → slice_get (own_names p) j ≡ Some x →
        HasEntry final.locals (length k.locals + j) x (declarer p (sight_of k))
    pub noted : (number : ℕ) → node_of p ≡ Some number → Numbered p target k number

  pub into_first : (s : Sight) (p : Part) (ps : List Part) (h : Here final lowest highest s (p ∷ ps)) → Into p (is_target h.targets) h.before
  into_first s p ps h =
      let f : First s p ps h = first s p ps h in
      let k : Known = h.before in
      let n : ℕ = length k.notes in
      let o : Opens p (is_target h.targets) k = opens p (is_target h.targets) k in
      let parts : List Part = (in_part p (sight_of k)).parts in
      let last : Known = names_parts parts o.targets o.into in
      let inner_parts : Passes (inner p n) f.parts.middle parts o.into last = passes (f.parts.inside (sight_of k)) o.targets o.into o.count in
      let front : Front last.locals final.locals = front_from (sym o.locals) (front_then f.others.locals h.locals) in
      record {
        here = record {
          before = o.into;
          targets = o.targets;
          sees = o.begins;
          stop = f.parts.middle;
          walk = subst (λ n. Walk n parts f.parts.middle) (sym o.count) (f.parts.inside (sight_of k));
          same = λ i from upto.
              h.same i (omega (arith, from, o.count, inner_least p n)) (omega (arith, upto, f.high))
              ∙ f.others.before i upto ∙ o.same i (inr from);
          locals = front;
          faults = front_then o.faults (front_then f.others.faults h.faults);
          low = omega (arith, low_most parts lowest, low_inner p ps lowest n h.low, o.count);
          high = omega (arith, f.high, h.high);
        };
        sets = o.sets;
        entry = λ j x at. declared_entry k.locals o.into.locals final.locals (declarer p (sight_of k)) (own_names p) j x o.new
            (front_then inner_parts.locals front) at;
        noted = λ number is.
            let own : IsOwn p n number = own_number p n number f.parts.number is in
            let within : n < f.parts.middle = omega (arith, own.inside, f.low) in
            let told : OwnNote (names_part p (is_target h.targets) k).notes p (is_target h.targets) k =
            o.own_note (inner_parts.before n own.inside) (omega (arith, own.inside, o.count)) in
            record {
              note = told.note;
              at = ap (slice_get final.notes) own.is ∙ h.same n (omega arith) (omega (arith, within, f.high))
                  ∙ f.others.before n within ∙ told.at;
              tells = told.tells;
            };
      }

  in_first : (s : Sight) (p : Part) (ps : List Part) → Here final lowest highest s (p ∷ ps) →
      Here final lowest highest (in_part p s).sight (in_part p s).parts
  in_first s p ps h =
      subst (λ z. Here final lowest highest (in_part p z).sight (in_part p z).parts) h.sees (into_first s p ps h).here

  -- the note of a name
  pub record Noted (s : Sight) (e : Expr) (x : StrId) (target : Bool) : Type 0 where
    pub note : Note
    pub at : slice_get final.notes e.id ≡ Some note
    pub target_is : note.target ≡ target
    pub bound : note.bound ≡ Some (bound_in s.first (look x s.scope))
    pub low : lowest < e.id
    pub high : e.id < highest

  pub at_name : (s : Sight) (e : Expr) (ps : List Part) (x : StrId) → e.kind ≡ expr_kind.Name x →
      (h : Here final lowest highest s (expr e ∷ ps)) → Noted s e x (is_target h.targets)
  at_name s e ps x is h =
      let f : First s (expr e) ps h = first s (expr e) ps h in
      let k : Known = h.before in
      let t : Bool = is_target h.targets in
      let note : Note = record { at = e.at; bound = Some (bound_here x k); target = t; first = length k.locals; upvalues = [] } in
      let l : out-ExprKind e.kind ≡ level.Name x = ap out-ExprKind is ∙ views.outs-Name x in
      let known : names_expr e t k ≡ named e.at x t k = expr_known e t k
      ∙ ap (λ (l : ExprLevel). names_parts (expr_parts l) 0 (own_known l e.at t k)) l in
      let within : length k.notes < f.parts.middle = omega (arith, f.low) in
      record {
        note = note;
        target_is = refl;
        at = ap (slice_get final.notes) f.parts.number ∙ h.same (length k.notes) (omega arith) (omega (arith, within, f.high))
            ∙ f.others.before (length k.notes) within
            ∙ ap (λ (t : Known). slice_get t.notes (length k.notes)) known ∙ get_last k.notes note;
        bound = ap (λ (z : Sight). Some (bound_in z.first (look x z.scope))) h.sees;
        low = omega (arith, h.low, f.parts.number);
        high = omega (arith, f.parts.number, within, f.high, h.high);
      }

  within : (s : Sight) (whole : Part) (z : Sight) (ps : List Part) → Here final lowest highest s (whole ∷ []) → Within s whole z ps →
      Here final lowest highest z ps
  within s whole _ _ h itself = h
  within s whole _ _ h (next z p ps w) = (behind_here z p ps (within s whole z (p ∷ ps) h w)).here
  within s whole _ _ h (enter z p ps w) = in_first z p ps (within s whole z (p ∷ ps) h w)

  -- a name that is a target or is none
  pub record SomeNoted (s : Sight) (e : Expr) (x : StrId) : Type 0 where
    pub target : Bool
    pub noted : Noted s e x target

  pub name_within : (s : Sight) (whole : Part) (n : NameWithin s whole) → Here final lowest highest s (whole ∷ []) → SomeNoted n.sight n.node n.name
  name_within s whole n h =
      let there : Here final lowest highest n.sight (expr n.node ∷ n.after) = within s whole n.sight (expr n.node ∷ n.after) h n.seen in
      record { target = is_target there.targets; noted = at_name n.sight n.node n.after n.name n.is there }

-- in a whole script
pub in_script : (main : FuncBody) → Here (known (numbered main)) 0 (numbered main).nodes nothing (function (numbered main).main ∷ [])
in_script main = record {
  before = start;
  targets = 0;
  sees = refl;
  stop = (numbered main).nodes;
  walk = script_walk main;
  same =
      λ i from upto. refl;
  locals = front_same (known (numbered main)).locals;
  faults = front_same (known (numbered main)).faults;
  low = omega arith;
  high = omega arith;
}

pub here : (main : FuncBody) (s : Sight) (ps : List Part) → Sees (numbered main).main s ps →
    Here (known (numbered main)) 0 (numbered main).nodes s ps
here main s ps w = within (known (numbered main)) 0 (numbered main).nodes nothing (function (numbered main).main) s ps
    (in_script main) w

abbrev pub bound_of : Note → Option Bound
bound_of note = note.bound

in_scope : (main : FuncBody) (s : Sight) (e : Expr) (ps : List Part) (x : StrId) → Sees (numbered main).main s (expr e ∷ ps) →
    e.kind ≡ expr_kind.Name x → slice_get (bound (numbered main)).names e.id ≡ Some (Some (bound_in s.first (look x s.scope)))
in_scope main s e ps x w is =
    let final : Known = known (numbered main) in
    let h : Here final 0 (numbered main).nodes s (expr e ∷ ps) = here main s (expr e ∷ ps) w in
    let n : Noted final 0 (numbered main).nodes s e x (is_target h.targets) = at_name final 0 (numbered main).nodes s e ps x is h in
    slice_get-map bound_of final.notes e.id ∙ ap (option_map bound_of) n.at ∙ ap Some n.bound

pub names_in_scope : NamesInScope
names_in_scope main tree s e ps x numbers w is =
    subst (λ z. Sees z.main s (expr e ∷ ps) → slice_get (bound z).names e.id ≡ Some (Some (bound_in s.first (look x s.scope))))
    (sym numbers) (λ w. in_scope main s e ps x w is) w

-- ---- how many locals the text declares before a node

abbrev first_of : Note → ℕ
first_of note = note.first

firsts_here : (main : FuncBody) (s : Sight) (p : Part) (after : List Part) (number : ℕ) → Sees (numbered main).main s (p ∷ after) →
    node_of p ≡ Some number → slice_get (bound (numbered main)).firsts number ≡ Some s.declared
firsts_here main s p after number w is =
    let final : Known = known (numbered main) in
    let h : Here final 0 (numbered main).nodes s (p ∷ after) = here main s (p ∷ after) w in
    let n : Numbered final 0 (numbered main).nodes p (is_target h.targets) h.before number =
    (into_first final 0 (numbered main).nodes s p after h).noted number is in
    slice_get-map first_of final.notes number ∙ ap (option_map first_of) n.at ∙ ap Some (n.tells.first ∙ ap (λ (z : Sight). z.declared) h.sees)

pub nodes_have_firsts : NodesHaveFirsts
nodes_have_firsts main tree s p after number numbers w is =
    subst (λ z. Sees z.main s (p ∷ after) → slice_get (bound z).firsts number ≡ Some s.declared) (sym numbers)
    (λ w. firsts_here main s p after number w is) w
