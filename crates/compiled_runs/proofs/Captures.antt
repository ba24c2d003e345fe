-- What a function captures, where its text begins: each variable by a name that stands for it there, from its register or as an
-- upvalue of the function around.
use Rattle.std.proofs.Common.{◌≡◌, ℕ, suc, ◌<◌, ◌≤◌, Bool, true, false, List, [], ◌∷◌, ◌++◌, Option, Some, None, refl, sym, ap, ◌∙◌, arith, subst, ⊎_elim}
use Rattle.std.specs.Prelude.{slice_get, unwrap_or, nat_lt}
use Rattle.std.specs.List.{Contains}
use Rattle.std.proofs.lemmas.Bool.Decides.{nat_tests}
use Rattle.byte_text.specs.declared.fixed.StrId.{StrId}
use Rattle.syntax_tree.specs.declared.bindings.Bindings.{Bindings}
use Rattle.syntax_tree.specs.declared.bindings.LocalInfo.{LocalInfo}
use Rattle.syntax_tree.specs.declared.notes.Visible.{Visible}
use Rattle.syntax_tree.specs.declared.tree.FuncBody.{FuncBody, out-FuncBody}
use Rattle.syntax_tree.specs.Bound as bindings
use Rattle.syntax_tree.specs.Numbers.{numbered}
use Rattle.syntax_tree.specs.Scope.{look}
use Rattle.source_meaning.specs.States.{cell_of}
use Rattle.op_words.specs.declared.insn.Insn.TheVariants as i
use Rattle.emit_expr.specs.declared.draft.Emitter.{Emitter}
use Rattle.emit_expr.specs.Names.{is_captured, captured_in, upvalues_at, register_in, upvalue_in, upvalue_of, capture_of, capture, captures}
use Rattle.emit_laws.proofs.Grows as grows
use Rattle.emit_laws.proofs.Keeps as keeps
use Rattle.scope_laws.specs.Sight.{Sight, Part, expr, function, Within, NameWithin, Sees, nothing}
use Rattle.scope_laws.specs.Captured as scope_captured
use Rattle.scope_laws.specs.Declared.{IsCaptured}
use Rattle.scope_laws.proofs.Capturing.{functions_capture}
use Rattle.scope_laws.proofs.Told.{locals_are_told}
use Rattle.scope_laws.proofs.Gains.{contains_at}
use Rattle.code_simulation.specs.Slots.{Slot}
use Rattle.code_simulation.specs.Relation.{Setting}
use Rattle.code_simulation.proofs.Along.{Here, env_of}
use Rattle.code_simulation.proofs.Names.{look_out}
use Rattle.code_simulation.proofs.Functions as functions
use Rattle.code_simulation.proofs.Functions.{Captured, from_register, from_upvalue}
use Rattle.compiled_runs.proofs.Places.{here, before}
use Rattle.compiled_runs.proofs.Sights.{deep, further}
use Rattle.compiled_runs.proofs.Numbers.{look_more}
use Rattle.compiled_runs.proofs.Scopes.{some_none, register_none}
use Rattle.compiled_runs.proofs.Skipped.{Shows, Partly, partly_same, partly_found, partly_missing}
use Rattle.compiled_runs.proofs.Standing as standing
use Rattle.compiled_runs.proofs.Standing.{Script, AtSome, around}
use Rattle.compiled_runs.proofs.Nodes.{Runs, In, reads}

-- these names stand for these locals
abbrev pub Named : List Visible → List ℕ → List StrId → Type 0
Named vs [] [] = Unit {0}
Named vs (k ∷ ks) (x ∷ xs) = (look x vs ≡ Some k) × Named vs ks xs
Named vs [] (x ∷ xs) = ⊥
Named vs (k ∷ ks) [] = ⊥

-- ---- in a script

-- a name further inside a function that stands for a local from outside it
name_deep : (s : Sight) (f : FuncBody) (n : NameWithin s (function f)) → s.declared ≤ n.sight.first
name_deep s f n = ⊎_elim (λ le. le) (λ w. absurd w) (deep s f n.sight (expr n.node ∷ n.after) n.seen).first

-- it is in scope where the function begins
name_outside : (s : Sight) (f : FuncBody) (k : ℕ) (c : scope_captured.Captures s f k) → look c.name.name s.scope ≡ Some k
name_outside s f k c =
    let m = (deep s f c.name.sight (expr c.name.node ∷ c.name.after) c.name.seen).more in
    look_more c.name.name s.declared k s.scope m.more m.new (ap (look c.name.name) (sym m.is) ∙ c.stands) c.outside

-- a name in a part is one in all around it
abbrev name_further : (a : Sight) (w : Part) (s : Sight) (f : FuncBody) (rest : List Part) → Within a w s (function f ∷ rest) → NameWithin s (function f)
    → NameWithin a w
name_further a w s f rest h n =
    let t = further a w s (function f) rest h n.sight (expr n.node ∷ n.after) n.seen in
    record { node = n.node; name = n.name; is = n.is; sight = n.sight; after = n.after ++ t.0; seen = t.1 }

-- its local is told to be captured
told_captured : (main : FuncBody) (s : Sight) (f : FuncBody) (rest : List Part) (k : ℕ) → Sees (numbered main).main s (function f ∷ rest)
    → scope_captured.Captures s f k → is_captured (bindings.bound (numbered main)) k ≡ true
told_captured main s f rest k sees c = by (slice_get (bindings.bound (numbered main)).locals k) refl
  where
    captured : IsCaptured (numbered main).main k
    captured = record {
      used = record { name = name_further nothing (function (numbered main).main) s f rest sees c.name; stands = c.stands };
      inside = let le = name_deep s f c.name in omega (arith, le, c.outside);
    }

    by : (o : Option LocalInfo) → slice_get (bindings.bound (numbered main)).locals k ≡ o → captured_in o ≡ true
    by None e = refl
    by (Some info) e = (locals_are_told main (numbered main) k info refl e).captured.1 captured

module _ (p : Setting) (most : ℕ) (b : Bindings) (whole : Emitter) (script : Script p b whole) where
  module _ (h : Here p most) (r : Runs p most b whole script h) where
    -- a local that a function captures, by a name where the function begins
    pub record CapturedLocal (hidden vs : List Visible) (k : ℕ) : Type 0 where
      pub name : StrId
      pub stands : look name vs ≡ Some k
      pub flag : is_captured b k ≡ true
      pub around : k < r.from.declared → Contains r.captured.locals k
      pub shows : Shows hidden (Some k)

    abbrev pub AreCaptured : (hidden : List Visible) → List Visible → List ℕ → Type 0
    AreCaptured hidden vs [] = Unit {0}
    AreCaptured hidden vs (k ∷ ks) = CapturedLocal hidden vs k × AreCaptured hidden vs ks

    each : (hidden vs : List Visible) (ks : List ℕ) → ((i k : ℕ) → slice_get ks i ≡ Some k → CapturedLocal hidden vs k) → AreCaptured hidden vs ks
    each hidden vs [] f = tt
    each hidden vs (k ∷ ks) f = (f 0 k refl, each hidden vs ks (λ i j e. f (suc i) j e))

    -- a function that stands here captures such locals
    pub are_captured : (f : FuncBody) (ps : List Part) (l : List Slot) (d : Emitter) → (a : AtSome p most b whole script h r (function f ∷ ps) l d)
        → AreCaptured a.aligned.partly.hidden a.sight.scope (upvalues_at b (out-FuncBody f).id)
    are_captured f ps l d a =
        subst (λ ks. AreCaptured a.aligned.partly.hidden a.sight.scope ks) (sym listed)
        (each a.aligned.partly.hidden a.sight.scope c.0.locals (λ i k e. one k ((c.0.each k).0 (contains_at c.0.locals i k e))))
      where
        seen : (others : List Part) × Sees (numbered script.main).main a.sight ((function f ∷ ps) ++ others)
        seen = standing.sees p most b whole script h r (function f ∷ ps) l d a

        c : (c : scope_captured.Captured a.sight f) × (slice_get (bindings.bound (numbered script.main)).upvalues (out-FuncBody f).id ≡ Some c.locals)
        c = functions_capture script.main (numbered script.main) a.sight f (ps ++ seen.0) refl seen.1

        listed : upvalues_at b (out-FuncBody f).id ≡ c.0.locals
        listed = ap (λ (b : Bindings). upvalues_at b (out-FuncBody f).id) script.is ∙ ap (λ o. unwrap_or o []) c.1

        one : (k : ℕ) → scope_captured.Captures a.sight f k → CapturedLocal a.aligned.partly.hidden a.sight.scope k
        one k t = record {
          name = t.name.name;
          stands = name_outside a.sight f k t;
          flag = ap (λ (b : Bindings). is_captured b k) script.is ∙ told_captured script.main a.sight f (ps ++ seen.0) k seen.1 t;
          around = λ lt. (r.captured.each k).1 (record {
            name = name_further r.from (function r.func) a.sight f ps a.seen t.name;
            stands = t.stands;
            outside = lt;
          });
          shows = subst (Shows a.aligned.partly.hidden) t.stands
              (a.aligned.unnamed (name_further a.aligned.root a.aligned.around_it a.sight f ps a.aligned.deep t.name));
        }

    -- and has names for them
    pub names : (hidden vs : List Visible) (ks : List ℕ) → AreCaptured hidden vs ks → List StrId
    names hidden vs [] a = []
    names hidden vs (k ∷ ks) a = a.0.name ∷ names hidden vs ks a.1

    pub are_named : (hidden vs : List Visible) (ks : List ℕ) (a : AreCaptured hidden vs ks) → Named vs ks (names hidden vs ks a)
    unfolding names
    are_named hidden vs [] a = tt
    are_named hidden vs (k ∷ ks) a = (a.0.stands, are_named hidden vs ks a.1)

    -- ---- the instructions

    -- of a variable
    one_captured : (k : ℕ) (x : StrId) (vs : List Visible) (l : List Slot) (d : Emitter) → look x vs ≡ Some k → is_captured b k ≡ true
        → (k < r.from.declared → Contains r.captured.locals k) → (q : Partly b r.from.scope r.from.declared l vs d.draft.variables)
        → Shows q.hidden (Some k) → d.draft.func ≡ r.final.func → In p most b whole script h r (capture b k d)
        → Captured p most h l x (here d) (here (capture b k d))
    one_captured k x vs l d e flag outside q shows func = by (nat_lt k r.from.declared) refl
      where
        is_below : (n : ℕ) → nat_lt k n ≡ true → k < n
        is_below n e = grind (arith, nat_tests)

        not_below : (n : ℕ) → nat_lt k n ≡ false → n ≤ k
        not_below n e = grind (arith, nat_tests)

        put : (o : Option ℕ) → register_in k d.draft.variables ≡ o
            → (In p most b whole script h r (capture_of b k o d) → Captured p most h l x (here d) (here (capture_of b k o d)))
            → In p most b whole script h r (capture b k d) → Captured p most h l x (here d) (here (capture b k d))
        put o is =
            subst (λ q. In p most b whole script h r (capture_of b k q d) → Captured p most h l x (here d) (here (capture_of b k q d))) (sym is)

        by : (t : Bool) → nat_lt k r.from.declared ≡ t → In p most b whole script h r (capture b k d)
            → Captured p most h l x (here d) (here (capture b k d))
        by true lt =
            let m = partly_missing b r.from.scope r.from.declared x (Some k) l vs d.draft.variables q e shows (is_below r.from.declared lt) in
            put None
            (register_none k r.from.declared d.draft.variables q.own (is_below r.from.declared lt))
            (λ s. from_upvalue (upvalue_of b k d) m.at
            (ap (λ n. slice_get h.act.ups (upvalue_in b n k)) func ∙ r.upvalues x k m.around (outside (is_below r.from.declared lt)))
            (reads p most b whole script h r (i.Capture 2 (upvalue_of b k d)) d s))
        by false ge =
            let f = partly_found b r.from.scope r.from.declared x k l vs d.draft.variables (around p most b whole script h r) q e shows
            (not_below r.from.declared ge) in
            put (Some f.local.register) f.register
            (λ s. from_register f.local f.at (f.flag ∙ flag) (reads p most b whole script h r (i.Capture 1 f.local.register) d s))

    -- of all of them
    pub all_captured : (vs : List Visible) (ks : List ℕ) (l : List Slot) (d : Emitter)
        → (q : Partly b r.from.scope r.from.declared l vs d.draft.variables) → (c : AreCaptured q.hidden vs ks) → d.draft.func ≡ r.final.func
        → In p most b whole script h r (captures b ks d) → functions.Captures p most h l (names q.hidden vs ks c) (here d) (here (captures b ks d))
    unfolding names
    all_captured vs [] l d q c func s = refl
    all_captured vs (k ∷ ks) l d q c func s =
        let d1 = capture b k d in (
          here d1,
          one_captured k c.0.name vs l d c.0.stands c.0.flag c.0.around q c.0.shows func
              (before r.final whole d1 (captures b ks d1) (grows.captures_good b ks d1 d1 (grows.none d1)) s),
          all_captured vs ks l d1
              (partly_same b r.from.scope r.from.declared l vs vs d.draft.variables d1.draft.variables refl
              (keeps.capture_good b k d d (keeps.none d)) q)
              c.1 ((grows.capture_good b k d d (grows.none d)).func ∙ func) s,
        )

    -- ---- names that stand for no local

    pub unseen : (ps : List Part) (l : List Slot) (d : Emitter) → (a : AtSome p most b whole script h r ps l d) → (x : StrId)
        → look x a.sight.scope ≡ None → cell_of (env_of p most h l) x ≡ None
    unseen ps l d a x e =
        let m = partly_missing b r.from.scope r.from.declared x None l a.sight.scope d.draft.variables a.aligned.partly e (λ k is. some_none is) tt in
        look_out l h.act.outer x m.at ∙ r.globals x m.around
