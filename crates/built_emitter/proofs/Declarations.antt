-- A `local` of one name and one value.
use Rattle.op_words.specs.declared.insn.Insn.{Insn as Instruction}
use Rattle.std.proofs.Common.{◌≡◌, List, map, Option, sym, ap, ◌∙◌, ℕ, ◌<◌, ◌≤◌, [], ◌∷◌, length, get_or, None, refl, arith, ◌+◌, max, ◌++◌, subst, Result, OnOk, length-append}
use Rattle.resource.specs.declared.memory.OutOfMemory.{OutOfMemory}
use Rattle.byte_text.specs.declared.fixed.StrId.{StrId}
use Rattle.syntax_tree.specs.declared.tree.ExprKind.TheOpen as level
use Rattle.syntax_tree.specs.declared.tree.ExprKind.TheViews as views
use Rattle.syntax_tree.specs.declared.tree.StatKind as stat
use Rattle.syntax_tree.specs.Need as need
use Rattle.syntax_tree.specs.Rules as rules
use Rattle.syntax_tree.specs.Bulk as bulk
use Rattle.syntax_tree.specs.declared.tree.Expr.{Expr}
use Rattle.syntax_tree.specs.declared.tree.Stat.{Stat}
use Rattle.syntax_tree.specs.declared.tree.StatKind.{out-StatKind}
use Rattle.syntax_tree.specs.Fold.{Steps, at_expr, at_stat}
use Rattle.syntax_tree.specs.declared.bindings.Bindings.{Bindings}
use Rattle.syntax_tree.specs.declared.notes.Place.{Place}
use Rattle.syntax_tree.specs.Limits.{most_variables}
use Rattle.syntax_tree.specs.Need.{StatNeed, need_expr, need_stat}
use Rattle.syntax_tree.specs.Rules.{StatRules, too_many, rules_expr, rules_stat}
use Rattle.syntax_tree.specs.declared.notes.Visible.{Visible}
use Rattle.syntax_tree.specs.Bulk.{bulk_expr, bulk_stat}
use Rattle.scope_laws.specs.Sight as sight
use Rattle.scope_laws.specs.Sight.{Part}
use Rattle.code_link.specs.declared.item.Item.TheVariants as item
use Rattle.built_values.specs.declared.value.Value.TheVariants as value
use Rattle.built_values.specs.declared.value.Value.{Value}
use Rattle.built_source.specs.States.{Environment, Frame, Declares, Evaluate, Execute, Done}
use Rattle.built_machine.specs.declared.code.Constant.{Constant}
use Rattle.built_machine.specs.States.{Registers}
use Rattle.built_emitter.specs.Size as size
use Rattle.built_emitter.specs.Unbuilt.{steps, uses_of, unbuilt_in_stat, local_statement}
use Rattle.built_emitter.specs.Names.{names_after, names_beyond}
use Rattle.built_emitter.specs.Form.{room, IsValue, IsStatement}
use Rattle.built_emitter.specs.Size.{expr_words, stat_words}
use Rattle.built_emitter.specs.Standing.{Stand, names_of, StandsAt}
use Rattle.built_emitter.specs.declared.draft.Draft.{Draft}
use Rattle.built_emitter.specs.Code.{IsStatementCode, IsValueCode}
use Rattle.built_emitter.specs.Emitted.{EmitsValue, EmitsStatement}
use Rattle.built_emitter.proofs.StandingParts as parts
use Rattle.built_emitter.proofs.NodeLevels.{StatKindNode, of_stat_kind}
use Rattle.built_emitter.proofs.EmittedStatements.{on_ok, of_insns}
use Rattle.built_emitter.proofs.Following.{begun, names_are, Same, by_source, expr_same, Afterwards}
use Rattle.built_emitter.proofs.NeverStuck.{Bound, bound_more, Sound, numbers_append, by_step, ValueFine, StatementFine}
use Rattle.built_emitter.proofs.Holding.{ValueHolds, StatementHolds, value_holds}
use Rattle.built_emitter.proofs.BuiltNeeds.{no_back, not_too_many}
use Rattle.built_emitter.proofs.StandingParts.{in_statement}
use Rattle.built_emitter.proofs.Reading.{Reads}
use Rattle.built_emitter.proofs.Locals.{Locals, locals_declare, Temporaries, fits_newest, Since}

-- ---- a function of the tree at its node

module _ {K L M A E X F B S : Type 0} (s : Steps K L M A E X F B S) where
  pub of_local : (t : Stat) (xs : List StrId) (es : List Expr) → t.kind ≡ stat.Local xs es →
      at_stat s t ≡ s.stat (record { id = t.id; at = t.at; line = t.line; kind = s.stat_kind (level.Local xs (map (at_expr s) es)) })
  of_local t xs es h = of_stat_kind s t (level.Local xs es) (ap out-StatKind h ∙ views.outs-Local xs es)

-- ---- words

pub words_of_local : (s : Stat) (x : StrId) (e : Expr) → s.kind ≡ stat.Local (x ∷ []) (e ∷ []) → stat_words s ≡ expr_words e
words_of_local s x e k =
    let words : stat_words s ≡ expr_words e + 0 = of_local size.steps s (x ∷ []) (e ∷ []) k in
    omega (arith, words)

-- ---- its parts

module _ (b : Bindings) where
  pub record HasLocal (names : List StrId) (xs : List StrId) (es : List Expr) : Type 0 where
    pub name : StrId
    pub value : Expr
    pub one_name : xs ≡ name ∷ []
    pub one_value : es ≡ value ∷ []
    pub few : length names < most_variables
    pub form : IsValue b (room names 0) value

  pub local_shape : (at : ℕ) (xs : List StrId) (es : List Expr) → local_statement at xs (map (uses_of b) es) ≡ None →
      (x : StrId) × (e : Expr) × (xs ≡ x ∷ []) × (es ≡ e ∷ []) × ((uses_of b e).value ≡ None)
  local_shape at (x ∷ []) (e ∷ []) h = (x, e, refl, refl, h)
  local_shape at _ _ h = cc

  pub local_parts : (names : List StrId) (s : Stat) (xs : List StrId) (es : List Expr) → IsStatement b names s → s.kind ≡ stat.Local xs es →
      HasLocal names xs es
  local_parts names s xs es f k =
      let p = local_shape s.at xs es (sym (of_local (steps b) s xs es k) ∙ f.built) in
      let e : Expr = p.1 in
      let one : s.kind ≡ stat.Local (p.0 ∷ []) (e ∷ []) =
      k ∙ ap (λ (ys : List StrId). stat.Local ys es) p.2 ∙ ap (λ (vs : List Expr). stat.Local (p.0 ∷ []) vs) p.3 in
      let needs : (need_stat s).need ≡ max 1 (max (0 + (need_expr e).need) 0) =
      ap (λ (u : StatNeed). u.need) (of_local need.steps s (p.0 ∷ []) (e ∷ []) one) in
      let place : Place = f.fits.place in
      let broken : (rules_stat s).faults place ≡ (rules_expr e place ++ []) ++ too_many s.at place.live 1 =
      ap (λ (u : StatRules). u.faults place) (of_local rules.steps s (p.0 ∷ []) (e ∷ []) one) in
      let few : place.live + 1 ≤ most_variables =
      not_too_many s.at place.live 1 (no_back (rules_expr e place ++ []) (too_many s.at place.live 1) (sym broken ∙ f.fits.unbroken))
      f.fits.locals.few in
      record {
        name = p.0;
        value = e;
        one_name = p.2;
        one_value = p.3;
        few = omega (arith, few, f.fits.locals.live);
        form = record { built = p.4; few = omega (arith, needs, f.fits.registers) };
      }

-- ---- where its parts stand

pub in_local : (b : Bindings) (vs : List Visible) (x : Stat) (after : List Part) (xs : List StrId) (es : List Expr) →
    Stand b vs (sight.stat x ∷ after) → out-StatKind x.kind ≡ level.Local xs es → Stand b vs (map sight.expr es)
in_local b vs x after xs es s k =
    in_statement b vs x after (level.Local xs es) (map sight.expr es) (record { scope = λ s. refl; first = λ s. refl; declared = λ s. omega arith })
    (λ s. refl) s k

module _ (b : Bindings) (vs : List Visible) (s : Stat) (stands : StandsAt b vs (sight.stat s)) where
  pub local_stands : (x : StrId) (e : Expr) → s.kind ≡ stat.Local (x ∷ []) (e ∷ []) → StandsAt b vs (sight.expr e)
  local_stands x e k =
      ([], in_local b vs s stands.0 (x ∷ []) (e ∷ []) stands.1 (ap out-StatKind k ∙ views.outs-Local (x ∷ []) (e ∷ [])))

-- ---- its code

-- what a `local` names, and its value
pub record OneLocal (b : Bindings) (names : List StrId) (s : Stat) (x : StrId) (e : Expr) : Type 0 where
  pub kind : s.kind ≡ stat.Local (x ∷ []) (e ∷ [])
  pub few : length names < most_variables
  pub form : IsValue b (room names 0) e

pub one_local : (b : Bindings) (names : List StrId) (s : Stat) (xs : List StrId) (es : List Expr) (e : Expr) → IsStatement b names s →
    s.kind ≡ stat.Local xs es → e ≡ get_or es 0 e → (x : StrId) × (xs ≡ x ∷ []) × OneLocal b names s x e
one_local b names s xs es e f k h =
    let p = local_parts b names s xs es f k in
    let same : e ≡ p.value = h ∙ ap (λ l. get_or l 0 e) p.one_value in (
      p.name,
      p.one_name,
      record {
        kind = k ∙ ap (λ l. stat.Local l es) p.one_name ∙ ap (λ l. stat.Local (p.name ∷ []) l) (p.one_value ∙ ap (λ y. y ∷ []) (sym same));
        few = p.few;
        form = subst (λ x. IsValue b (room names 0) x) (sym same) p.form;
      },
    )

pub emits_of_local : (b : Bindings) (r : Result (Unit {0}) OutOfMemory) (c0 c1 : Draft) (names : List StrId) (s : Stat) (x : StrId) (e : Expr)
    (free : ℕ) → OneLocal b names s x e → free ≡ length names → EmitsValue names free e c0 c1 → OnOk r (EmitsStatement names s c0 c1)
emits_of_local b r c0 c1 names s x e free p is q =
    on_ok r (of_insns c0 c1 (expr_words e) (stat_words s) _ _ (omega (arith, words_of_local s x e p.kind)) (λ ks is c. IsStatementCode.declares
    names s x e is p.kind c) (subst (λ n. EmitsValue names n e c0 c1) is q))

-- ---- its code does what it does

module _ (words : List ℕ) (ks : List Constant) (place : ℕ → Option ℕ) where
  pub declare_same : (names : List StrId) (s : Stat) (x : StrId) (e : Expr) (is : List Instruction) → s.kind ≡ stat.Local (x ∷ []) (e ∷ []) →
      IsValueCode ks names (length names) e is → (from to : ℕ) → Reads words place from (map item.Insn is) to →
      (left : ℕ) (k : List Frame) (env : Environment) → Afterwards words ks place left env names (names_after names s) k to →
      (cells : List Value) (regs : Registers) → Locals cells regs env names → Same words ks place left (Execute s) k env cells from regs
  declare_same names s x e is h code from to r left k env go cells regs ls =
      let opens : out-StatKind s.kind ≡ level.Local (x ∷ []) (e ∷ []) = ap out-StatKind h ∙ views.outs-Local (x ∷ []) (e ∷ []) in
      let after : names_after names s ≡ x ∷ names = names_are names s _ opens in
      by_source words ks place left _ (Evaluate e) k (Declares x ∷ k) env env cells cells from regs (begun s _ k env cells opens)
      (expr_same words ks place names (length names) e is code [] (omega arith) from to r left (Declares x ∷ k) env
      (λ left1 le1 v cells1 regs1 fits1.
      by_source words ks place left1 _ Done _ k env ((x, length cells1) ∷ env) cells1 (cells1 ++ v ∷ []) to regs1 refl
      (go left1 le1 ((x, length cells1) ∷ env) (cells1 ++ v ∷ []) regs1
      (subst (λ ns. Locals (cells1 ++ v ∷ []) regs1 ((x, length cells1) ∷ env) ns) (sym after)
      (locals_declare cells1 regs1 env names x v (ap regs1 (omega arith) ∙ fits_newest cells1 regs1 env names v [] fits1) fits1.locals))
      (subst (λ ns. Since ((x, length cells1) ∷ env) ns env names) (sym after) (Since.one x (length cells1) env names env names (Since.unchanged env names)))))
      cells regs (record { locals = ls; temporaries = Temporaries.none }))

-- ---- it is not stuck

pub declare_fine : (names : List StrId) (s : Stat) (x : StrId) (e : Expr) → out-StatKind s.kind ≡ level.Local (x ∷ []) (e ∷ []) →
    ValueFine names e → StatementFine names s
declare_fine names s x e opens given left k env cells ok go =
    let after : names_after names s ≡ x ∷ names = ap (λ l. names_beyond l names) opens in
    by_step left _ (Evaluate e) k (Declares x ∷ k) env env cells cells (begun s _ k env cells opens)
    (given left (Declares x ∷ k) env cells ok
    (λ n.
    let more = cells ++ value.Number n ∷ [] in
    let env' = (x, length cells) ∷ env in
    by_step left _ Done _ k env env' cells more refl
    (go left (omega arith) env' more
    (subst (λ ns. Sound more env' ns) (sym after) (record {
      numbers = numbers_append cells (value.Number n) (n, refl) ok.numbers;
      bound = Bound.one x (length cells) env names (omega (arith, length-append cells (value.Number n ∷ []))) (bound_more (length cells)
          (length more) env names (omega (arith, length-append cells (value.Number n ∷ []))) ok.bound);
    }))
    (subst (λ ns. Since env' ns env names) (sym after) (Since.one x (length cells) env names env names (Since.unchanged env names))))))

-- ---- what holds of it

module _ (b : Bindings) where
  pub local_holds : (s : Stat) (x : StrId) (e : Expr) → out-StatKind s.kind ≡ level.Local (x ∷ []) (e ∷ []) → ValueHolds b e → StatementHolds b s
  local_holds s x e k given =
      let l : StatKindNode = level.Local (x ∷ []) (e ∷ []) in
      let words : stat_words s ≡ expr_words e + 0 = of_stat_kind size.steps s l k in
      let counted : bulk_stat b s ≡ 8 + (2 + (bulk_expr b e + 0)) = of_stat_kind (bulk.steps b) s l k in
      record {
        within = omega (arith, words, counted, given.within);
        fine = λ vs after stands. declare_fine (names_of vs) s x e k (given.fine vs [] (in_local b vs s after (x ∷ []) (e ∷ []) stands k));
      }

  pub local_of : (s : Stat) (xs : List StrId) (es : List Expr) → out-StatKind s.kind ≡ level.Local xs es → unbuilt_in_stat b s ≡ None →
      StatementHolds b s
  local_of s xs es k u =
      let p = local_shape b s.at xs es (sym (of_stat_kind (steps b) s (level.Local xs es) k) ∙ u) in
      local_holds s p.0 p.1 (k ∙ ap (λ (ys : List StrId). level.Local ys es) p.2 ∙ ap (λ (vs : List Expr). level.Local (p.0 ∷ []) vs) p.3)
      (value_holds b p.1 p.4)
