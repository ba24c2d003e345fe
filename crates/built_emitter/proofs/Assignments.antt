-- An assignment of one value to one local.
use Rattle.op_words.specs.declared.insn.Insn.{Insn as Instruction}
use Rattle.std.proofs.Common.{◌≡◌, List, map, Option, sym, ap, ◌∙◌, ℕ, ◌≤◌, [], ◌∷◌, length, get_or, true, Some, None, refl, arith, ◌+◌, ◌-◌, max, ◌++◌, subst, IsSome, Result, OnOk}
use Rattle.std.proofs.lemmas.Result.{on_ok_weaker}
use Rattle.std.specs.Prelude.{slice_set}
use Rattle.std.proofs.lemmas.List.{length-set}
use Rattle.resource.specs.declared.memory.OutOfMemory.{OutOfMemory}
use Rattle.byte_text.specs.declared.fixed.StrId.{StrId}
use Rattle.syntax_tree.specs.declared.tree.ExprKind as expr
use Rattle.syntax_tree.specs.declared.tree.ExprKind.TheOpen as level
use Rattle.syntax_tree.specs.declared.tree.ExprKind.TheViews as views
use Rattle.syntax_tree.specs.declared.tree.StatKind as stat
use Rattle.syntax_tree.specs.Need as need
use Rattle.syntax_tree.specs.Bulk as bulk
use Rattle.syntax_tree.specs.declared.tree.Expr.{Expr}
use Rattle.syntax_tree.specs.declared.tree.ExprKind.{out-ExprKind}
use Rattle.syntax_tree.specs.declared.tree.Stat.{Stat}
use Rattle.syntax_tree.specs.declared.tree.StatKind.{out-StatKind}
use Rattle.syntax_tree.specs.Fold.{Steps, at_expr, at_stat}
use Rattle.syntax_tree.specs.declared.bindings.Bindings.{Bindings}
use Rattle.syntax_tree.specs.Limits.{most_variables, most_registers}
use Rattle.syntax_tree.specs.Need.{StatNeed, need_expr, need_stat}
use Rattle.syntax_tree.specs.declared.notes.Visible.{Visible}
use Rattle.syntax_tree.specs.Bulk.{bulk_expr, bulk_stat}
use Rattle.scope_laws.specs.Sight as sight
use Rattle.scope_laws.specs.Sight.{Part}
use Rattle.op_words.specs.declared.insn.Insn.TheVariants as insn
use Rattle.op_words.specs.declared.insn.Insn.{Insn}
use Rattle.code_link.specs.declared.item.Item.TheVariants as item
use Rattle.built_values.specs.declared.value.Value.TheVariants as value
use Rattle.built_values.specs.declared.value.Value.{Value}
use Rattle.built_source.specs.Steps as source
use Rattle.built_source.specs.States.{Environment, Frame, Assigns, Evaluate, Execute, Done}
use Rattle.built_machine.specs.Steps as machine
use Rattle.built_machine.specs.declared.code.Constant.{Constant}
use Rattle.built_machine.specs.States.{Registers, put}
use Rattle.built_emitter.specs.Size as size
use Rattle.built_emitter.specs.Unbuilt.{steps, uses_of, unbuilt_in_stat, assignment}
use Rattle.built_emitter.specs.Names.{names_after, register_of}
use Rattle.built_emitter.specs.Form.{room, IsValue, IsStatement}
use Rattle.built_emitter.specs.Size.{expr_words, stat_words}
use Rattle.built_emitter.specs.Standing.{names_of, Stand, StandsAt}
use Rattle.built_emitter.specs.declared.draft.Draft.{Draft}
use Rattle.built_emitter.specs.Code.{IsStatementCode, IsValueCode}
use Rattle.built_emitter.specs.Emitted.{Appends, EmitsValue, EmitsAssignment, EmitsStatement, IsTarget, IsAssignmentCode}
use Rattle.built_emitter.proofs.StandingParts as parts
use Rattle.built_emitter.proofs.NodeLevels.{StatKindNode, of_stat_kind}
use Rattle.built_emitter.proofs.Built.{provided_none}
use Rattle.built_emitter.proofs.TreeForms.{more_registers}
use Rattle.built_emitter.proofs.EmittedStatements.{of_insns}
use Rattle.built_emitter.proofs.Following.{begun, names_are, Same, by_source, by_machine, at_place, expr_same, Afterwards, unchanged}
use Rattle.built_emitter.proofs.NeverStuck.{bound_more, found, numbers_set, by_step, ValueFine, StatementFine, keeping}
use Rattle.built_emitter.proofs.Holding.{ValueHolds, StatementHolds, second, value_holds}
use Rattle.built_emitter.proofs.ItemLists.{extends_same, extends_on}
use Rattle.built_emitter.proofs.StandingParts.{in_quiet}
use Rattle.built_emitter.proofs.Reading.{Reads, split_insns}
use Rattle.built_emitter.proofs.BuiltNames.{name_kind, local_name, registered}
use Rattle.built_emitter.proofs.NewestNames.{as_newest, newest_some}
use Rattle.built_emitter.proofs.Locals.{Locals, read, locals_assign, Temporaries, fits_newest}
use Rattle.built_emitter.proofs.EmittedValues.{appends_insns}

-- ---- a function of the tree at its node

module _ {K L M A E X F B S : Type 0} (s : Steps K L M A E X F B S) where
  pub of_assignment : (t : Stat) (ts es : List Expr) → t.kind ≡ stat.Assign ts es →
      at_stat s t ≡ s.stat (record {
        id = t.id;
        at = t.at;
        line = t.line;
        kind = s.stat_kind
            (level.Assign (map (at_expr s) ts) (map (at_expr s) es));
      })
  of_assignment t ts es h = of_stat_kind s t (level.Assign ts es) (ap out-StatKind h ∙ views.outs-Assign ts es)

-- ---- words

pub words_of_assignment : (s : Stat) (target e : Expr) → s.kind ≡ stat.Assign (target ∷ []) (e ∷ []) → stat_words s ≡ expr_words e + 1
words_of_assignment s target e k =
    let words : stat_words s ≡ expr_words e + 0 + 1 = of_assignment size.steps s (target ∷ []) (e ∷ []) k in
    omega (arith, words)

-- ---- its parts

module _ (b : Bindings) where
  pub record HasAssignment (names : List StrId) (ts es : List Expr) : Type 0 where
    pub target : Expr
    pub value : Expr
    pub one_target : ts ≡ target ∷ []
    pub one_value : es ≡ value ∷ []
    pub local : (uses_of b target).local ≡ true
    pub form : IsValue b (room names 0) value

  pub assignment_shape : (at : ℕ) (ts es : List Expr) → assignment at (map (uses_of b) ts) (map (uses_of b) es) ≡ None →
      (t : Expr) × (e : Expr) × (ts ≡ t ∷ []) × (es ≡ e ∷ []) × ((uses_of b t).local ≡ true) × ((uses_of b e).value ≡ None)
  assignment_shape at (t ∷ []) (e ∷ []) h =
      let both = provided_none (uses_of b t).local at (uses_of b e).value h in (t, e, refl, refl, both.0, both.1)
  assignment_shape at _ _ h = cc

  pub assignment_parts : (names : List StrId) (s : Stat) (ts es : List Expr) → IsStatement b names s → s.kind ≡ stat.Assign ts es →
      HasAssignment names ts es
  assignment_parts names s ts es f k =
      let p = assignment_shape s.at ts es (sym (of_assignment (steps b) s ts es k) ∙ f.built) in
      let t : Expr = p.0 in
      let e : Expr = p.1 in
      let one : s.kind ≡ stat.Assign (t ∷ []) (e ∷ []) =
      k ∙ ap (λ (us : List Expr). stat.Assign us es) p.2 ∙ ap (λ (vs : List Expr). stat.Assign (t ∷ []) vs) p.3 in
      let needs : (need_stat s).need ≡ max (max (need.parts_need 0 (need_expr t)) 0) (((need_expr t).holds + 0) + max 1 (max (0
      + (need_expr e).need) 0)) = ap (λ (u : StatNeed). u.need) (of_assignment need.steps s (t ∷ []) (e ∷ []) one) in
      record {
        target = t;
        value = e;
        one_target = p.2;
        one_value = p.3;
        local = p.4;
        form = record { built = p.5; few = omega (arith, needs, f.fits.registers) };
      }

-- ---- where its parts stand

pub in_assignment : (b : Bindings) (vs : List Visible) (x : Stat) (after : List Part) (ts es : List Expr) → Stand b vs (sight.stat x ∷ after) →
    out-StatKind x.kind ≡ level.Assign ts es → Stand b vs (map sight.expr ts ++ map sight.expr es)
in_assignment b vs x after ts es s k = in_quiet b vs x after (level.Assign ts es) (map sight.expr ts ++ map sight.expr es) (λ s. refl) s k

module _ (b : Bindings) (vs : List Visible) (s : Stat) (stands : StandsAt b vs (sight.stat s)) where
  pub assignment_stands : (t e : Expr) → s.kind ≡ stat.Assign (t ∷ []) (e ∷ []) → Stand b vs (sight.expr t ∷ sight.expr e ∷ [])
  assignment_stands t e k =
      in_assignment b vs s stands.0 (t ∷ []) (e ∷ []) stands.1 (ap out-StatKind k ∙ views.outs-Assign (t ∷ []) (e ∷ []))

-- ---- its code

pub value_form : (b : Bindings) (names : List StrId) (free : ℕ) (e : Expr) → IsValue b (room names 0) e → free ≡ length names →
    length names ≤ most_variables → IsValue b (most_registers - free) e
value_form b names free e f is few = more_registers b (room names 0) (most_registers - free) e (omega arith) f

pub assignment_emitted : (c0 c1 c2 : Draft) (names : List StrId) (r : ℕ) (target e : Expr) (x : StrId) → target.kind ≡ expr.Name x →
    register_of names x ≡ Some r → EmitsValue names (length names) e c0 c1 → c2.constants ≡ c1.constants → c2.labels ≡ c1.labels →
    Appends c1 c2 1 (item.Insn (insn.Move r (length names)) ∷ []) → EmitsAssignment names target e c0 c2
assignment_emitted c0 c1 c2 names r target e x t g q last l v =
    let tail = extends_same c1.constants.items c2.constants.items 0 (ap (λ c. c.items) last) in
    let moved = insn.Move r (length names) in
    record {
      insns = q.insns ++ moved ∷ [];
      items = appends_insns c0 c1 c2 (expr_words e) 1 q.insns (moved ∷ []) q.items v;
      labels = l ∙ q.labels;
      code = λ ks more y. IsAssignmentCode.assigns x r q.insns t g (q.code ks _ (extends_on _ _ _ _ _ tail y));
    }

pub emits_of_assignment : (o : Result (Unit {0}) OutOfMemory) (c0 c1 c2 : Draft) (names : List StrId) (r free : ℕ) (target e : Expr)
    (x : StrId) → target.kind ≡ expr.Name x → register_of names x ≡ Some r → free ≡ length names → EmitsValue names free e c0 c1 →
    c2.constants ≡ c1.constants → c2.labels ≡ c1.labels → OnOk o (Appends c1 c2 1 (item.Insn (insn.Move r free) ∷ [])) →
    OnOk o (EmitsAssignment names target e c0 c2)
emits_of_assignment o c0 c1 c2 names r free target e x t g b q last l s =
    on_ok_weaker o
    (λ v. assignment_emitted c0 c1 c2 names r target e x t g (subst (λ n. EmitsValue names n e c0 c1) b q) last l
    (subst (λ n. Appends c1 c2 1 (item.Insn (insn.Move r n) ∷ [])) b v))
    s

-- what an assignment names as its target and its value
pub record OneAssignment (b : Bindings) (names : List StrId) (s : Stat) (target e : Expr) : Type 0 where
  pub kind : s.kind ≡ stat.Assign (target ∷ []) (e ∷ [])
  pub local : (uses_of b target).local ≡ true
  pub form : IsValue b (room names 0) e
  pub words : stat_words s ≡ expr_words e + 1

pub one_assignment : (b : Bindings) (names : List StrId) (s : Stat) (ts es : List Expr) (target e : Expr) → IsStatement b names s →
    s.kind ≡ stat.Assign ts es → target ≡ get_or ts 0 target → e ≡ get_or es 0 e → OneAssignment b names s target e
one_assignment b names s ts es target e f k ht he =
    let p = assignment_parts b names s ts es f k in
    let same_target : target ≡ p.target = ht ∙ ap (λ l. get_or l 0 target) p.one_target in
    let same_value : e ≡ p.value = he ∙ ap (λ l. get_or l 0 e) p.one_value in
    let kind : s.kind ≡ stat.Assign (target ∷ []) (e ∷ []) =
    k ∙ ap (λ l. stat.Assign l es) (p.one_target ∙ ap (λ y. y ∷ []) (sym same_target)) ∙ ap (λ l. stat.Assign (target ∷ []) l) (p.one_value
    ∙ ap (λ y. y ∷ []) (sym same_value)) in
    record {
      kind = kind;
      local = ap (λ x. (uses_of b x).local) same_target ∙ p.local;
      form = subst (λ x. IsValue b (room names 0) x) (sym same_value) p.form;
      words = words_of_assignment s target e kind;
    }

-- the target is a one_local name, where it stands
pub is_target : (b : Bindings) (vs : List Visible) (target : Expr) (after : List Part) → (uses_of b target).local ≡ true →
    Stand b vs (sight.expr target ∷ after) → IsTarget (names_of vs) target
is_target b vs target after local s =
    let named = local_name b target local in
    record { name = named.0; kind = name_kind target named.0 named.1; declared = registered b vs target after named.0 s named.1 named.2 }

pub assignment_code : (ks : List Constant) (names : List StrId) (s : Stat) (target e : Expr) (is : List Insn) →
    s.kind ≡ stat.Assign (target ∷ []) (e ∷ []) → IsAssignmentCode ks names target e is → IsStatementCode ks names s (map item.Insn is)
assignment_code ks names s target e _ k (IsAssignmentCode.assigns x r is t g c) = IsStatementCode.assigns names s target e x r is k t g c

pub emits_of_assigns : (b : Bindings) (r : Result (Unit {0}) OutOfMemory) (c0 c1 : Draft) (names : List StrId) (s : Stat)
    (target e : Expr) → OneAssignment b names s target e → OnOk r (EmitsAssignment names target e c0 c1) → OnOk r (EmitsStatement names s c0 c1)
emits_of_assigns b r c0 c1 names s target e a q =
    on_ok_weaker r (of_insns c0 c1 (expr_words e + 1) (stat_words s) _ _ (omega (arith, a.words))
    (λ ks is c. assignment_code ks names s target e is a.kind c)) q

-- ---- its code does what it does

module _ (words : List ℕ) (ks : List Constant) (place : ℕ → Option ℕ) where
  pub assign_same : (names : List StrId) (s : Stat) (target e : Expr) (x : StrId) (reg : ℕ) (is : List Instruction) →
      s.kind ≡ stat.Assign (target ∷ []) (e ∷ []) → target.kind ≡ expr.Name x → register_of names x ≡ Some reg →
      IsValueCode ks names (length names) e is → (from to : ℕ) →
      Reads words place from (map item.Insn (is ++ insn.Move reg (length names) ∷ [])) to →
      (left : ℕ) (k : List Frame) (env : Environment) → Afterwards words ks place left env names (names_after names s) k to →
      (cells : List Value) (regs : Registers) → Locals cells regs env names → Same words ks place left (Execute s) k env cells from regs
  assign_same names s target e x reg is h t there code from to r left k env go cells regs ls =
      let opens : out-StatKind s.kind ≡ level.Assign (target ∷ []) (e ∷ []) = ap out-StatKind h ∙ views.outs-Assign (target ∷ []) (e ∷ []) in
      let p = split_insns words place is (insn.Move reg (length names) ∷ []) from to r in
      by_source words ks place left _ (Evaluate e) k (Assigns x ∷ k) env env cells cells from regs
      (begun s _ k env cells opens ∙ ap (λ l. source.begin_assignment l e k env cells) (ap out-ExprKind t ∙ views.outs-Name x))
      (expr_same words ks place names (length names) e is code [] (omega arith) from p.0 p.1 left (Assigns x ∷ k) env
      (λ left1 le1 v cells1 regs1 fits1.
      let register = as_newest names x (Some reg) there in
      let l = read cells1 regs1 env names x reg fits1.locals register in
      let value : regs1 (length names) ≡ v = ap regs1 (omega arith) ∙ fits_newest cells1 regs1 env names v [] fits1 in
      by_source words ks place left1 _ Done _ k env env cells1 (slice_set cells1 l.cell v) p.0 regs1 (ap (λ o. source.assign o v k env cells1) l.found)
      (by_machine words ks place left1 _ k env (slice_set cells1 l.cell v) p.0 _ _ regs1 (put regs1 reg v) _ p.2.0
      (ap (λ u. machine.at (p.0 + 1) (put regs1 reg u)) value)
      (at_place words ks place left1 _ k env (slice_set cells1 l.cell v) (p.0 + 1) to _ p.2.1
      (unchanged words ks place left env names s k to (names_are names s _ opens) go left1 le1 (slice_set cells1 l.cell v) (put regs1 reg v)
      (locals_assign cells1 regs1 env names x l.cell reg v l.found register fits1.locals)))))
      cells regs (record { locals = ls; temporaries = Temporaries.none }))

-- ---- it is not stuck

pub assign_fine : (names : List StrId) (s : Stat) (target e : Expr) (x : StrId) →
    out-StatKind s.kind ≡ level.Assign (target ∷ []) (e ∷ []) → out-ExprKind target.kind ≡ level.Name x → IsSome (register_of names x) →
    ValueFine names e → StatementFine names s
assign_fine names s target e x h t some given left k env cells ok go =
    let l = found (length cells) env names x ok.bound (newest_some names x some) in
    by_step left _ (Evaluate e) k (Assigns x ∷ k) env env cells cells
    (begun s _ k env cells h ∙ ap (λ l. source.begin_assignment l e k env cells) t)
    (given left (Assigns x ∷ k) env cells ok
    (λ n.
    let set = slice_set cells l.0 (value.Number n) in
    let same : length set ≡ length cells = length-set cells l.0 (value.Number n) in
    by_step left _ Done _ k env env cells set (ap (λ o. source.assign o (value.Number n) k env cells) l.1)
    (keeping left names s _ env k h refl go left (omega arith) set (record {
      numbers = numbers_set cells l.0 (value.Number n) (n, refl) ok.numbers;
      bound = bound_more (length cells) (length set) env names (omega (arith, same)) ok.bound;
    }))))

-- ---- what holds of it

module _ (b : Bindings) where
  pub assignment_holds : (s : Stat) (t e : Expr) → out-StatKind s.kind ≡ level.Assign (t ∷ []) (e ∷ []) → (uses_of b t).local ≡ true →
      ValueHolds b e → StatementHolds b s
  assignment_holds s t e k local given =
      let l : StatKindNode = level.Assign (t ∷ []) (e ∷ []) in
      let words : stat_words s ≡ expr_words e + 0 + 1 = of_stat_kind size.steps s l k in
      let counted : bulk_stat b s ≡ 8 + ((bulk_expr b t + 0) + (bulk_expr b e + 0)) = of_stat_kind (bulk.steps b) s l k in
      let named = local_name b t local in
      record {
        within = omega (arith, words, counted, given.within);
        fine = λ vs after stands.
            let both = in_assignment b vs s after (t ∷ []) (e ∷ []) stands k in
            assign_fine (names_of vs) s t e named.0 k named.1 (registered b vs t (sight.expr e ∷ []) named.0 both named.1 named.2) (given.fine vs []
            (second b t e vs both));
      }

  pub assignment_of : (s : Stat) (ts es : List Expr) → out-StatKind s.kind ≡ level.Assign ts es → unbuilt_in_stat b s ≡ None → StatementHolds b s
  assignment_of s ts es k u =
      let p = assignment_shape b s.at ts es (sym (of_stat_kind (steps b) s (level.Assign ts es) k) ∙ u) in
      assignment_holds s p.0 p.1 (k ∙ ap (λ (us : List Expr). level.Assign us es) p.2 ∙ ap (λ (vs : List Expr). level.Assign (p.0 ∷ []) vs) p.3)
      p.4 (value_holds b p.1 p.5)
