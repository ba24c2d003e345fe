-- What is known where the parts of a part begin, and behind it.
use Rattle.std.proofs.Common.{◌≡◌, ◌≢◌, ◌⊎◌, inl, inr, ◌∙◌, ℕ, ◌+◌, ◌<◌, ◌≤◌, Bool, true, false, List, [], ◌∷◌, ◌++◌, length, map, take, Some, refl, sym, ap, arith, append-nil, length-append, slice_get, length-set}
use Rattle.std.proofs.lemmas.Option.{slice_get_within}
use Rattle.byte_text.specs.declared.fixed.StrId.{StrId}
use Rattle.syntax_tree.specs.declared.bindings.Bound.{Bound}
use Rattle.syntax_tree.specs.declared.notes.Note.{Note}
use Rattle.syntax_tree.specs.declared.notes.Visible.{Visible}
use Rattle.syntax_tree.specs.declared.tree.Arm.{Arm, out-Arm}
use Rattle.syntax_tree.specs.declared.tree.Expr.{Expr}
use Rattle.syntax_tree.specs.declared.tree.ExprArm.{ExprArm}
use Rattle.syntax_tree.specs.declared.tree.ExprKind.{out-ExprKind}
use Rattle.syntax_tree.specs.declared.tree.ExprKind.TheOpen as level
use Rattle.syntax_tree.specs.declared.tree.Field.{Field}
use Rattle.syntax_tree.specs.declared.tree.FieldKind.{out-FieldKind}
use Rattle.syntax_tree.specs.declared.tree.FuncBody.{FuncBody, out-FuncBody}
use Rattle.syntax_tree.specs.declared.tree.Stat.{Stat}
use Rattle.syntax_tree.specs.declared.tree.StatKind.{out-StatKind}
use Rattle.syntax_tree.specs.Names.{Known, names_expr, names_stat, names_func, names_arm, names_expr_arm, names_field, locals, all_visible, opened, outside, counted}
use Rattle.syntax_tree.specs.Names as names
use Rattle.scope_laws.specs.Declared.{own_names, declarer, stat_targets}
use Rattle.scope_laws.specs.Declares as counts
use Rattle.scope_laws.specs.Sight.{Sight, Part, expr, stat, function, arm, expr_arm, field, block, ExprLevel, FieldLevel, StatLevel, shows, behind, expr_parts, field_parts, in_part}
use Rattle.scope_laws.specs.Sight as sight
use Rattle.scope_laws.proofs.Behind.{around, sight_by, all_behind, behind_around, behind_declared, behind_scope, AreQuiet, quiet_more, quiet_one, quiet_expr, quiet_field}
use Rattle.scope_laws.proofs.Counts.{part_count}
use Rattle.scope_laws.proofs.Effects.{sight_of, around_known, shown, names_part, names_parts, parts_join, exprs_known, list_known, stats_known, locals_count, infos, locals_new, locals_notes, locals_faults, locals_scope, locals_around, visible_known, shown_known}
use Rattle.scope_laws.proofs.Levels.{at_expr_level, at_field_level, kind_is, field_kind_is, stat_kind_is, arm_is, expr_is, expr_arm_is, field_is, func_is, stat_is}
use Rattle.scope_laws.proofs.Places.{Front, front_same, front_from, front_to, get_other, get_last, get_set_within, none_some, false_true}
use Rattle.scope_laws.proofs.StatOpens.{StatOpens, stat_known, stat_opens}
use Rattle.scope_laws.proofs.Walks.{inner}

-- which name a part is
abbrev pub NameOf : Part → Type 0
NameOf (expr e) = (x : StrId) × (out-ExprKind e.kind ≡ level.Name x)
NameOf _ = ⊥

-- the expressions that a part sets
abbrev pub targets_of : Part → List Expr
targets_of (stat x) = stat_targets (out-StatKind x.kind)
targets_of _ = []

-- what the own note of a part tells
pub record Tells (p : Part) (target : Bool) (k : Known) (note : Note) : Type 0 where
  pub first : note.first ≡ length k.locals
  -- it has a binding at a name alone
  pub name : (b : Bound) → note.bound ≡ Some b → NameOf p
  pub set : note.target ≡ true → target ≡ true

pub record OwnNote (notes : List Note) (p : Part) (target : Bool) (k : Known) : Type 0 where
  pub note : Note
  pub at : slice_get notes (length k.notes) ≡ Some note
  pub tells : Tells p target k note

pub record Opens (p : Part) (target : Bool) (k : Known) : Type 0 where
  -- what is known where the first of the parts begins, of which so many are targets
  pub into : Known
  pub targets : ℕ
  pub begins : sight_of into ≡ (in_part p (sight_of k)).sight
  -- the part's own note
  pub own : List Note
  pub notes : into.notes ≡ k.notes ++ own
  pub count : length into.notes ≡ inner p (length k.notes)
  -- the locals that it declares itself, and what it sets
  pub new : into.locals ≡ k.locals ++ infos (declarer p (sight_of k)) (own_names p)
  pub sets : targets ≡ length (targets_of p)
  -- the parts make the notes but the own one, and the other locals, and what is seen behind the last of them says what is seen behind the part
  pub as_long : length (names_part p target k).notes ≡ length (names_parts (in_part p (sight_of k)).parts targets into).notes
  pub same : (i : ℕ) → (i < length k.notes) ⊎ (length into.notes ≤ i) → slice_get (names_part p target k).notes i ≡ slice_get
      (names_parts (in_part p (sight_of k)).parts targets into).notes i
  pub locals : (names_part p target k).locals ≡ (names_parts (in_part p (sight_of k)).parts targets into).locals
  pub ends : sight_of (names_parts (in_part p (sight_of k)).parts targets into) ≡ all_behind (in_part p (sight_of k)).parts (in_part p
      (sight_of k)).sight → sight_of (names_part p target k) ≡ behind p (sight_of k)
  -- no part changes the own note
  pub own_note : slice_get (names_parts (in_part p (sight_of k)).parts targets into).notes (length k.notes) ≡ slice_get into.notes
      (length k.notes) → length k.notes < length into.notes → OwnNote (names_part p target k).notes p target k
  -- the faults of the parts are faults of the part, and no `continue` before it is forgotten
  pub begun : into.faults ≡ k.faults
  pub faults : Front (names_parts (in_part p (sight_of k)).parts targets into).faults (names_part p target k).faults
  pub leaps : Front into.leaps (names_parts (in_part p (sight_of k)).parts targets into).leaps → Front k.leaps (names_part p target k).leaps

closing : (p : Part) (s r : Sight) → r.scope ≡ s.scope ++ shows p s.declared →
    r.declared ≡ (all_behind (in_part p s).parts (in_part p s).sight).declared → around r ≡ around s → r ≡ behind p s
closing p s r scope declared first =
    sight_by r (behind p s) scope (declared ∙ behind_declared (in_part p s).parts (in_part p s).sight ∙ part_count p s) first

-- a part behind which nothing more is visible
quiet_closing : (p : Part) (s r : Sight) → shows p s.declared ≡ [] → r.scope ≡ s.scope →
    r.declared ≡ (all_behind (in_part p s).parts (in_part p s).sight).declared → around r ≡ around s → r ≡ behind p s
quiet_closing p s r nothing scope declared first =
    closing p s r (scope ∙ sym (append-nil s.scope) ∙ ap (λ vs. s.scope ++ vs) (sym nothing)) declared first

-- a part whose parts see what it sees, and make nothing visible
plain : (p : Part) (target : Bool) (k into : Known) (own : List Note) → own_names p ≡ [] → targets_of p ≡ [] →
    (length k.notes < length (k.notes ++ own) → OwnNote (k.notes ++ own) p target k) →
    (in_part p (sight_of k)).sight ≡ sight_of k → shows p (length k.locals) ≡ [] → AreQuiet (in_part p (sight_of k)).parts →
    into ≡ record k { notes = k.notes ++ own } → length (k.notes ++ own) ≡ inner p (length k.notes) →
    names_part p target k ≡ names_parts (in_part p (sight_of k)).parts 0 into → Opens p target k
plain p target k into own none unset noted same nothing quiet is count e = record {
  into = into;
  targets = 0;
  begins = ap sight_of is ∙ sym same;
  own = own;
  notes = ap (λ (t : Known). t.notes) is;
  count = ap (λ (t : Known). length t.notes) is ∙ count;
  new = ap (λ (t : Known). t.locals) is ∙ sym (append-nil k.locals) ∙ ap (λ xs. k.locals ++ infos (declarer p (sight_of k)) xs) (sym none);
  sets = ap length (sym unset);
  as_long = ap (λ (t : Known). length t.notes) e;
  same = λ i h. ap (λ (t : Known). slice_get t.notes i) e;
  locals = ap (λ (t : Known). t.locals) e;
  ends = λ h.
      let end : sight_of (names_part p target k) ≡ all_behind (in_part p (sight_of k)).parts (in_part p (sight_of k)).sight =
      ap sight_of e ∙ h in
      quiet_closing p (sight_of k) (sight_of (names_part p target k)) nothing
      (ap (λ (s : Sight). s.scope) end ∙ quiet (in_part p (sight_of k)).sight ∙ ap (λ (s : Sight). s.scope) same)
      (ap (λ (s : Sight). s.declared) end)
      (ap around end ∙ behind_around (in_part p (sight_of k)).parts (in_part p (sight_of k)).sight
      ∙ ap around same);
  own_note = λ kept lt.
      let o : OwnNote (k.notes ++ own) p target k = noted (omega (arith, lt, ap (λ (t : Known). length t.notes) is)) in
      record {
        note = o.note;
        at = ap (λ (t : Known). slice_get t.notes (length k.notes)) e ∙ kept
            ∙ ap (λ (t : Known). slice_get t.notes (length k.notes)) is ∙ o.at;
        tells = o.tells;
      };
  begun = ap (λ (t : Known). t.faults) is;
  faults = front_to (front_same _) (ap (λ (t : Known). t.faults) e);
  leaps = λ f. front_from (sym (ap (λ (t : Known). t.leaps) is)) (front_to f (ap (λ (t : Known). t.leaps) e));
}

one_more : (notes : List Note) (note : Note) → length (notes ++ note ∷ []) ≡ length notes + 1
one_more notes note = length-append notes (note ∷ [])

no_more : (k : Known) → k ≡ record k { notes = k.notes ++ [] }
no_more k = ap (λ l. record k { notes = l }) (sym (append-nil k.notes))

-- there is no own note
silent : (notes : List Note) (P : Type 0) → length notes < length (notes ++ []) → P
silent notes P lt = absurd (omega (arith, lt, ap length (append-nil notes)))

-- the own note is the last one
last_note : (notes : List Note) (note : Note) (p : Part) (target : Bool) (k : Known) → notes ≡ k.notes ++ note ∷ [] → Tells p target k note →
    OwnNote notes p target k
last_note notes note p target k e t = record {
  note = note;
  at = ap (λ l. slice_get l (length k.notes)) e ∙ get_last k.notes note;
  tells = t;
}

-- ---- expressions

-- one note more
record Noted (l : ExprLevel) (target : Bool) (k t : Known) : Type 0 where
  pub note : Note
  pub is : t ≡ record k { notes = k.notes ++ note ∷ [] }
  pub first : note.first ≡ length k.locals
  pub name : (b : Bound) → note.bound ≡ Some b → (x : StrId) × (l ≡ level.Name x)
  pub set : note.target ≡ true → target ≡ true

abbrev pub own_known : ExprLevel → ℕ → Bool → Known → Known
own_known l place target k = (at_expr_level names.steps l).own place target k

unnamed : (l : ExprLevel) (place : ℕ) (target : Bool) (k : Known) → Noted l target k (names.plain place k)
unnamed l place target k = record {
  note = _;
  is = refl;
  first = refl;
  name = λ b h. absurd (none_some h);
  set = λ h. absurd (false_true h);
}

noted : (l : ExprLevel) (place : ℕ) (target : Bool) (k : Known) → Noted l target k (own_known l place target k)
noted level.Nil place target k = unnamed level.Nil place target k
noted level.True place target k = unnamed level.True place target k
noted level.False place target k = unnamed level.False place target k
noted (level.Num v) place target k = unnamed (level.Num v) place target k
noted (level.Str x) place target k = unnamed (level.Str x) place target k
noted level.Vararg place target k = unnamed level.Vararg place target k
noted (level.Name x) place target k = record { note = _; is = refl; first = refl; name = λ b h. (x, refl); set = λ h. h }
noted (level.Paren e) place target k = unnamed (level.Paren e) place target k
noted (level.Unary op e) place target k = unnamed (level.Unary op e) place target k
noted (level.Binary op a b) place target k = unnamed (level.Binary op a b) place target k
noted (level.Concat es) place target k = unnamed (level.Concat es) place target k
noted (level.Index a b) place target k = unnamed (level.Index a b) place target k
noted (level.Member a x) place target k = unnamed (level.Member a x) place target k
noted (level.ExprKind::Call a es) place target k = unnamed (level.ExprKind::Call a es) place target k
noted (level.Method a x es) place target k = unnamed (level.Method a x es) place target k
noted (level.Table fs) place target k = unnamed (level.Table fs) place target k
noted (level.Function f) place target k = unnamed (level.Function f) place target k
noted (level.ExprKind::If arms e) place target k = unnamed (level.ExprKind::If arms e) place target k
noted (level.Interp xs es) place target k = unnamed (level.Interp xs es) place target k

parts_known : (l : ExprLevel) (k : Known) → (at_expr_level names.steps l).parts k ≡ names_parts (expr_parts l) 0 k
parts_known level.Nil k = refl
parts_known level.True k = refl
parts_known level.False k = refl
parts_known (level.Num v) k = refl
parts_known (level.Str x) k = refl
parts_known level.Vararg k = refl
parts_known (level.Name x) k = refl
parts_known (level.Paren e) k = refl
parts_known (level.Unary op e) k = refl
parts_known (level.Binary op a b) k = refl
parts_known (level.Concat es) k = exprs_known es k
parts_known (level.Index a b) k = refl
parts_known (level.Member a x) k = refl
parts_known (level.ExprKind::Call a es) k = exprs_known es (names_expr a false k)
parts_known (level.Method a x es) k = exprs_known es (names_expr a false k)
parts_known (level.Table fs) k = list_known field names_field (λ a k. refl) fs k
parts_known (level.Function f) k = refl
parts_known (level.ExprKind::If arms e) k = ap (names_expr e false) (list_known expr_arm names_expr_arm (λ a k. refl) arms k)
    ∙ sym (parts_join (map expr_arm arms) (expr e ∷ []) k)
parts_known (level.Interp xs es) k = exprs_known es k

pub expr_known : (e : Expr) (target : Bool) (k : Known) → names_expr e target k ≡ names_parts (expr_parts (out-ExprKind e.kind)) 0
    (own_known (out-ExprKind e.kind) e.at target k)
expr_known e target k =
    let l : ExprLevel = out-ExprKind e.kind in
    ap (λ f. f target k) (expr_is names.steps e) ∙ ap (λ (n : names.KindNames). n.parts (n.own e.at target k))
    (kind_is names.steps e.kind) ∙ parts_known l (own_known l e.at target k)

open_expr : (e : Expr) (target : Bool) (k : Known) → Opens (expr e) target k
open_expr e target k =
    let l : ExprLevel = out-ExprKind e.kind in
    let n : Noted l target k (own_known l e.at target k) = noted l e.at target k in
    plain (expr e) target k (own_known l e.at target k) (n.note ∷ []) refl refl
    (λ lt. last_note (k.notes ++ n.note ∷ []) n.note (expr e) target k refl (record { first = n.first; name = n.name; set = n.set }))
    refl refl (quiet_expr l) n.is (one_more k.notes n.note) (expr_known e target k)

-- ---- arms and fields

open_arm : (a : Arm) (target : Bool) (k : Known) → Opens (arm a) target k
open_arm a target k =
    plain (arm a) target k k [] refl refl (silent k.notes (OwnNote (k.notes ++ []) (arm a) target k)) refl refl (quiet_more (expr (out-Arm a).cond) (block [] (out-Arm a).body ∷ [])
    (λ n. refl) (quiet_one (block [] (out-Arm a).body) (λ n. refl)))
    (no_more k) (ap length (append-nil k.notes)) (ap (λ f. f k) (arm_is names.steps a))

open_expr_arm : (a : ExprArm) (target : Bool) (k : Known) → Opens (expr_arm a) target k
open_expr_arm a target k =
    plain (expr_arm a) target k k [] refl refl (silent k.notes (OwnNote (k.notes ++ []) (expr_arm a) target k)) refl refl (quiet_more (expr a.cond) (expr a.value ∷ []) (λ n. refl) (quiet_one
    (expr a.value) (λ n. refl)))
    (no_more k) (ap length (append-nil k.notes)) (ap (λ f. f k) (expr_arm_is names.steps a))

field_known : (l : FieldLevel) (k : Known) → at_field_level names.steps l k ≡ names_parts (field_parts l) 0 k
field_known (level.Item e) k = refl
field_known (level.Named x e) k = refl
field_known (level.Keyed a b) k = refl

open_field : (f : Field) (target : Bool) (k : Known) → Opens (field f) target k
open_field f target k =
    plain (field f) target k k [] refl refl (silent k.notes (OwnNote (k.notes ++ []) (field f) target k)) refl refl (quiet_field (out-FieldKind f.kind)) (no_more k) (ap length
    (append-nil k.notes))
    (ap (λ g. g k) (field_is names.steps f) ∙ ap (λ g. g k) (field_kind_is names.steps f.kind) ∙ field_known (out-FieldKind f.kind) k)

-- ---- blocks, functions and statements

open_block : (vs : List Visible) (body : List Stat) (target : Bool) (k : Known) → Opens (block vs body) target k
open_block vs body target k =
    let into : Known = shown vs k in
    let e : names.block (map names_stat body) into ≡ names_parts (map stat body) 0 into = stats_known body into in
    record {
      into = into;
      targets = 0;
      begins = ap sight_of (shown_known vs k);
      own = [];
      notes = ap (λ (t : Known). t.notes) (shown_known vs k) ∙ sym (append-nil k.notes);
      count = ap (λ (t : Known). length t.notes) (shown_known vs k);
      new = ap (λ (t : Known). t.locals) (shown_known vs k) ∙ sym (append-nil k.locals);
      sets = refl;
      as_long = ap (λ (t : Known). length t.notes) e;
      same = λ i h. ap (λ (t : Known). slice_get t.notes i) e;
      locals = ap (λ (t : Known). t.locals) e;
      ends = λ h.
          let end : sight_of (names.block (map names_stat body) into) ≡ all_behind (map stat body) (in_part (block vs body)
          (sight_of k)).sight = ap sight_of e ∙ h in
          quiet_closing (block vs body) (sight_of k) (sight_of (names_part (block vs body) target k)) refl
          (ap (λ (s : Sight). take (length k.scope) s.scope) end ∙ behind_scope (map stat body) (in_part (block vs body)
          (sight_of k)).sight k.scope vs refl)
          (ap (λ (s : Sight). s.declared) end)
          (ap around end ∙ behind_around (map stat body) (in_part (block vs body) (sight_of k)).sight);
      own_note = λ kept lt. absurd (omega (arith, lt, ap (λ (t : Known). length t.notes) (shown_known vs k)));
      begun = ap (λ (t : Known). t.faults) (shown_known vs k);
      faults = front_to (front_same _) (ap (λ (t : Known). t.faults) e);
      leaps = λ f. front_from (sym (ap (λ (t : Known). t.leaps) (shown_known vs k))) (front_to f (ap (λ (t : Known). t.leaps) e));
    }

-- what is known where a function is entered
abbrev entered : FuncBody → Known → Known
entered f k = record (names.plain (out-FuncBody f).at (opened k)) { func = (out-FuncBody f).id; first = length k.locals }

apart : (n i : ℕ) (m : ℕ) → m ≡ n + 1 → (i < n) ⊎ (m ≤ i) → i ≢ n
apart n i m h (inl lt) = λ e. omega (arith, lt, e)
apart n i m h (inr le) = λ e. omega (arith, h, le, e)

open_func : (f : FuncBody) (target : Bool) (k : Known) → Opens (function f) target k
open_func f target k =
    let body : List Stat = (out-FuncBody f).body in
    let params : List StrId = (out-FuncBody f).params in
    let new : List Visible = sight.visible (length k.locals) params in
    let start : Known = locals params (entered f k) in
    let into : Known = all_visible (length k.locals) params start in
    let v : into ≡ record start { scope = start.scope ++ new } = visible_known (length k.locals) params start in
    let last : Known = names.block (map names_stat body) into in
    let e : last ≡ names_parts (map stat body) 0 into = stats_known body into in
    let is : names_func f k ≡ outside (length k.scope) k.leaps k.func k.first (counted (out-FuncBody f).at (length k.notes)
    (length k.locals) last) = ap (λ g. g k) (func_is names.steps f) in
    let count : length into.notes ≡ length k.notes + 1 = ap (λ (t : Known). length t.notes) v
    ∙ ap length (locals_notes params (entered f k)) ∙ one_more k.notes _ in
    let at_start : Sight = (in_part (function f) (sight_of k)).sight in
    record {
      into = into;
      targets = 0;
      begins = sight_by (sight_of into) at_start (ap (λ (t : Known). t.scope) v ∙ ap (λ l. l ++ new) (locals_scope params (entered f k)))
          (ap (λ (t : Known). length t.locals) v ∙ locals_count params (entered f k)) (ap around_known v
          ∙ locals_around params (entered f k));
      own = _;
      notes = ap (λ (t : Known). t.notes) v ∙ locals_notes params (entered f k);
      count = count;
      new = ap (λ (t : Known). t.locals) v ∙ locals_new params (entered f k);
      sets = refl;
      as_long = ap (λ (t : Known). length t.notes) is ∙ length-set last.notes (length k.notes) _ ∙ ap (λ (t : Known). length t.notes) e;
      same = λ i h. ap (λ (t : Known). slice_get t.notes i) is ∙ get_other last.notes (length k.notes) i _ (apart (length k.notes) i
          (length into.notes) count h) ∙ ap (λ (t : Known). slice_get t.notes i) e;
      locals = ap (λ (t : Known). t.locals) is ∙ ap (λ (t : Known). t.locals) e;
      ends = λ h.
          let end : sight_of last ≡ all_behind (map stat body) at_start = ap sight_of e ∙ h in
          quiet_closing (function f) (sight_of k) (sight_of (names_func f k)) refl
          (ap (λ (t : Known). t.scope) is ∙ ap (λ (s : Sight). take (length k.scope) s.scope) end
          ∙ behind_scope (map stat body) at_start k.scope new refl)
          (ap (λ (t : Known). length t.locals) is ∙ ap (λ (s : Sight). s.declared) end)
          (ap around_known is);
      own_note = λ kept lt.
          let place : slice_get last.notes (length k.notes) ≡ Some _ = ap (λ (t : Known). slice_get t.notes (length k.notes)) e ∙ kept
          ∙ ap (λ l. slice_get l (length k.notes)) (ap (λ (t : Known). t.notes) v ∙ locals_notes params (entered f k)) ∙ get_last k.notes _ in
          record {
            note = _;
            at = ap (λ (t : Known). slice_get t.notes (length k.notes)) is
                ∙ get_set_within last.notes (length k.notes) _ (slice_get_within last.notes (length k.notes) _ place);
            tells = record { first = refl; name = λ b h. absurd (none_some h); set = λ h. absurd (false_true h) };
          };
      begun = ap (λ (t : Known). t.faults) v ∙ locals_faults params (entered f k);
      faults = front_from (sym (ap (λ (t : Known). t.faults) e)) (record { more = _; is = ap (λ (t : Known). t.faults) is });
      leaps = λ g. front_to (front_same _) (ap (λ (t : Known). t.leaps) is);
    }

open_stat : (x : Stat) (target : Bool) (k : Known) → Opens (stat x) target k
open_stat x target k =
    let l : StatLevel = out-StatKind x.kind in
    let noted : Known = names.plain x.at k in
    let is : names_stat x k ≡ stat_known l x.at noted = ap (λ f. f k) (stat_is names.steps x)
    ∙ ap (λ f. f x.at noted) (stat_kind_is names.steps x.kind) in
    let o : StatOpens l x.at noted = stat_opens l x.at noted in
    record {
      into = o.into;
      targets = o.targets;
      begins = o.begins;
      own = _;
      notes = o.notes;
      count = ap length o.notes ∙ one_more k.notes _;
      new = o.new;
      sets = o.sets;
      as_long = ap (λ (t : Known). length t.notes) is ∙ ap length o.same;
      same = λ i h. ap (λ (t : Known). slice_get t.notes i) is ∙ ap (λ l. slice_get l i) o.same;
      locals = ap (λ (t : Known). t.locals) is ∙ o.locals;
      ends = λ h. ap sight_of is ∙ o.ends h ∙ ap (λ n. record {
        scope = k.scope ++ shows (stat x) (length k.locals);
        declared =
            length k.locals + n;
        first = k.first;
        func = k.func;
      }) (sym (stat_is counts.steps x ∙ stat_kind_is counts.steps x.kind));
      own_note = λ kept lt. record {
        note = _;
        at = ap (λ (t : Known). slice_get t.notes (length k.notes)) is ∙ ap (λ l. slice_get l (length k.notes)) o.same ∙ kept
            ∙ ap (λ l. slice_get l (length k.notes)) o.notes ∙ get_last k.notes _;
        tells = record { first = refl; name = λ b h. absurd (none_some h); set = λ h. absurd (false_true h) };
      };
      begun = o.begun;
      faults = front_to o.faults (ap (λ (t : Known). t.faults) is);
      leaps = λ f. front_to (o.leaps f) (ap (λ (t : Known). t.leaps) is);
    }

pub opens : (p : Part) (target : Bool) (k : Known) → Opens p target k
opens (expr e) target k = open_expr e target k
opens (stat x) target k = open_stat x target k
opens (function f) target k = open_func f target k
opens (arm a) target k = open_arm a target k
opens (expr_arm a) target k = open_expr_arm a target k
opens (field f) target k = open_field f target k
opens (block vs body) target k = open_block vs body target k
