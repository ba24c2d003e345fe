-- A `while`.
use Rattle.std.proofs.Common.{◌≡◌, ℤ, List, map, Option, sym, ap, ◌∙◌, ℕ, ◌<◌, [], ◌∷◌, length, Bool, true, false, Some, None, refl, arith, ◌+◌, max, ◌++◌, subst, pos, Result, OnOk, zero, suc, ◌+ℤ◌}
use Rattle.std.proofs.lemmas.Result.{on_ok_weaker}
use Rattle.resource.specs.declared.memory.OutOfMemory.{OutOfMemory}
use Rattle.byte_text.specs.declared.fixed.StrId.{StrId}
use Rattle.syntax_tree.specs.declared.tree.ExprKind.TheOpen as level
use Rattle.syntax_tree.specs.declared.tree.ExprKind.TheViews as views
use Rattle.syntax_tree.specs.declared.tree.StatKind as stat
use Rattle.syntax_tree.specs.Need as need
use Rattle.syntax_tree.specs.Rules as rules
use Rattle.syntax_tree.specs.Bulk as bulk
use Rattle.syntax_tree.specs.declared.tree.Expr.{Expr}
use Rattle.syntax_tree.specs.declared.tree.Stat.{Stat}
use Rattle.syntax_tree.specs.declared.tree.StatKind.{out-StatKind}
use Rattle.syntax_tree.specs.Fold.{Steps, at_expr, at_stat}
use Rattle.syntax_tree.specs.declared.bindings.Bindings.{Bindings}
use Rattle.syntax_tree.specs.declared.notes.Place.{Place}
use Rattle.syntax_tree.specs.Need.{StatNeed, need_expr, need_stat}
use Rattle.syntax_tree.specs.Rules.{StatRules, in_loop_of, rules_expr, rules_stat}
use Rattle.syntax_tree.specs.declared.notes.Visible.{Visible}
use Rattle.syntax_tree.specs.Bulk.{bulk_expr, bulk_stat}
use Rattle.scope_laws.specs.Sight as sight
use Rattle.scope_laws.specs.Sight.{Part}
use Rattle.op_words.specs.declared.insn.Insn.TheVariants as insn
use Rattle.op_words.specs.declared.insn.Insn.TheVariants.{JumpBack}
use Rattle.op_words.specs.Encoding.{encoded}
use Rattle.op_words.specs.Decoding.{insn_at}
use Rattle.code_link.specs.declared.item.Item.TheVariants as item
use Rattle.code_link.specs.declared.item.Item.{Item}
use Rattle.built_values.specs.declared.value.Value.TheVariants as value
use Rattle.built_values.proofs.Together as together
use Rattle.built_values.specs.declared.value.Value.{Value}
use Rattle.built_source.specs.Steps as source
use Rattle.built_source.specs.States.{Environment, Frame, Loops, Repeats, Restores, Evaluate, Give, Execute, ExecuteAll, Done}
use Rattle.built_source.specs.Runs.{start}
use Rattle.built_machine.specs.Steps as machine
use Rattle.built_machine.specs.declared.code.Constant.{Constant}
use Rattle.built_machine.specs.States.{Registers}
use Rattle.built_emitter.specs.Size as size
use Rattle.built_emitter.specs.Unbuilt.{or_else, steps, uses_of, unbuilt_in_stat, first_unbuilt}
use Rattle.built_emitter.specs.Fitting.{LocalsFit}
use Rattle.built_emitter.specs.Form.{IsCondition, IsStatement, IsBlock}
use Rattle.built_emitter.specs.Size.{expr_words, stat_words, block_words}
use Rattle.built_emitter.specs.Standing.{names_of, Stand, StandsAt}
use Rattle.built_emitter.specs.declared.draft.Draft.{Draft}
use Rattle.built_emitter.specs.Code.{IsTestCode, IsStatementCode, loop}
use Rattle.built_emitter.specs.Emitted.{HasLabels, Appends, EmitsTest, EmitsStatement, EmitsBlock}
use Rattle.built_emitter.proofs.StandingParts as parts
use Rattle.built_emitter.proofs.NodeLevels.{of_stat_kind}
use Rattle.built_emitter.proofs.Built.{or_else_none, block_is}
use Rattle.built_emitter.proofs.EmittedStatements.{IsReady, ready_on}
use Rattle.built_emitter.proofs.LabelRanges.{one_more, next_more, placements-append, branches-append, branches_more}
use Rattle.built_emitter.proofs.Following.{begun, truth_of, Same, by_source, at_place, ConditionRuns, condition_same, Back, BlockRuns}
use Rattle.built_emitter.proofs.NeverStuck.{charges, Sound, found, FineAt, by_step, ConditionFine, FineBack, StatementFine, BlockFine, keeping, as_block}
use Rattle.built_emitter.proofs.Holding.{block_bulk, ConditionHolds, StatementHolds, BlockHolds, condition_holds, BlocksBelow}
use Rattle.built_emitter.proofs.BuiltNeeds.{no_back, inner_fits}
use Rattle.built_emitter.proofs.ItemLists.{extends_on, appends_on, appends_most, appends_from}
use Rattle.built_emitter.proofs.StandingParts.{in_quiet, behind_condition, block_seen}
use Rattle.built_emitter.proofs.Reading.{Reads, split, on, same_place}
use Rattle.built_emitter.proofs.Locals.{Locals}

-- ---- a function of the tree at its node

module _ {K L M A E X F B S : Type 0} (s : Steps K L M A E X F B S) where
  pub of_loop : (t : Stat) (cond : Expr) (body : List Stat) → t.kind ≡ stat.While cond body →
      at_stat s t ≡ s.stat (record { id = t.id; at = t.at; line = t.line; kind = s.stat_kind (level.While (at_expr s cond) (map (at_stat s) body)) })
  of_loop t cond body h = of_stat_kind s t (level.While cond body) (ap out-StatKind h ∙ views.outs-While cond body)

-- ---- words

pub words_of_loop : (s : Stat) (cond : Expr) (body : List Stat) → s.kind ≡ stat.While cond body →
    stat_words s ≡ expr_words cond + block_words body + 2
words_of_loop s cond body k = of_loop size.steps s cond body k

-- ---- which node is not built

module _ (b : Bindings) where
  pub unbuilt_of_loop : (s : Stat) (cond : Expr) (body : List Stat) → s.kind ≡ stat.While cond body →
      unbuilt_in_stat b s ≡ or_else (uses_of b cond).condition (first_unbuilt b body)
  unbuilt_of_loop s cond body k = of_loop (steps b) s cond body k ∙ ap (or_else (uses_of b cond).condition) (block_is b body)

  pub loop_built : (s : Stat) (cond tested : Expr) (body seen : List Stat) (found : Option ℕ) → s.kind ≡ stat.While cond body →
      tested ≡ cond → seen ≡ body → None ≡ (uses_of b tested).condition → found ≡ first_unbuilt b seen → found ≡ unbuilt_in_stat b s
  loop_built s cond tested body seen found k e l built h =
      h ∙ ap (first_unbuilt b) l ∙ ap (λ (o : Option ℕ). or_else o (first_unbuilt b body)) (built ∙ ap (λ (x : Expr). (uses_of b
      x).condition) e) ∙ sym (unbuilt_of_loop s cond body k)

-- ---- its parts

module _ (b : Bindings) where
  pub record HasLoop (names : List StrId) (cond : Expr) (body : List Stat) : Type 0 where
    pub test : IsCondition b names cond
    pub block : IsBlock b names body

  pub loop_parts : (names : List StrId) (s : Stat) (cond : Expr) (body : List Stat) → IsStatement b names s → s.kind ≡ stat.While cond body →
      HasLoop names cond body
  loop_parts names s cond body f k =
      let p : Place = f.fits.place in
      let inside : Place = in_loop_of 0 p in
      let needs : (need_stat s).need ≡ max (need_expr cond).need (need.block_from 0 (map need_stat body)) =
      ap (λ (u : StatNeed). u.need) (of_loop need.steps s cond body k) in
      let broken : (rules_stat s).faults p ≡ rules_expr cond p ++ rules.block (map rules_stat body) inside =
      ap (λ (u : StatRules). u.faults p) (of_loop rules.steps s cond body k) in
      let both = or_else_none (uses_of b cond).condition (first_unbuilt b body) (sym (unbuilt_of_loop b s cond body k) ∙ f.built) in
      let locals : LocalsFit names inside = record { live = omega (arith, f.fits.locals.live); few = omega (arith, f.fits.locals.few) } in
      let unbroken = no_back (rules_expr cond p) (rules.block (map rules_stat body) inside) (sym broken ∙ f.fits.unbroken) in
      record {
        test = record { built = both.0; fits = omega (arith, needs, f.fits.registers) };
        block = record { built = both.1; fits = inner_fits names inside body locals unbroken (omega (arith, needs, f.fits.registers)) };
      }

-- ---- where its parts stand

pub in_loop : (b : Bindings) (vs : List Visible) (x : Stat) (after : List Part) (cond : Expr) (body : List Stat) →
    Stand b vs (sight.stat x ∷ after) → out-StatKind x.kind ≡ level.While cond body → Stand b vs (sight.expr cond ∷ sight.block [] body ∷ [])
in_loop b vs x after cond body s k = in_quiet b vs x after (level.While cond body) (sight.expr cond ∷ sight.block [] body ∷ []) (λ s. refl) s k

module _ (b : Bindings) (vs : List Visible) (s : Stat) (stands : StandsAt b vs (sight.stat s)) where
  pub loop_inside : (cond : Expr) (body : List Stat) → s.kind ≡ stat.While cond body → Stand b vs (sight.expr cond ∷ sight.block [] body ∷ [])
  loop_inside cond body k = in_loop b vs s stands.0 cond body stands.1 (ap out-StatKind k ∙ views.outs-While cond body)

  pub test_stands : (cond seen : Expr) (body : List Stat) → s.kind ≡ stat.While cond body → seen ≡ cond → StandsAt b vs (sight.expr seen)
  test_stands cond seen body k same =
      subst (λ (z : Expr). StandsAt b vs (sight.expr z)) (sym same) (sight.block [] body ∷ [], loop_inside cond body k)

  pub body_stands : (cond : Expr) (body seen : List Stat) → s.kind ≡ stat.While cond body → seen ≡ body → Stand b vs (map sight.stat seen)
  body_stands cond body seen k same = block_seen b vs body seen same (parts.behind_condition b vs cond body (loop_inside cond body k))

-- ---- its labels

pub loop_labels : (n j m : ℕ) (test body : List Item) → HasLabels (n + 2) j test → HasLabels j m body → HasLabels n m (loop n (n + 1) test body)
loop_labels n j m test body t b =
    let tail = item.Branch (JumpBack (pos 0)) n ∷ item.Label (n + 1) ∷ [] in
    record {
      rises = omega (arith, t.rises, b.rises);
      placed = λ l. omega (
        arith,
        placements-append test (body ++ tail) l,
        placements-append body tail l,
        t.placed l,
        b.placed l,
        one_more
            n l,
        next_more (n + 1) (n + 2) l (omega arith),
      );
      branches = branches-append m test (body ++ tail) (branches_more j m test b.rises t.branches)
          (branches-append m body tail b.branches (refl, omega (arith, t.rises, b.rises), tt));
    }

-- ---- its code

pub loop_emitted : (c0 c2 c3 c4 c5 c6 : Draft) (names : List StrId) (s : Stat) (cond : Expr) (stats : List Stat) → s.kind ≡ stat.While cond stats →
    c2.labels ≡ c0.labels + 2 → Appends (record c0 { labels = c0.labels + 2 }) c2 0 (item.Label c0.labels ∷ []) →
    EmitsTest names (c0.labels + 1) cond c2 c3 → EmitsBlock names stats c3 c4 → c6.labels ≡ c4.labels →
    Appends c4 c5 1 (item.Branch (insn.JumpBack (pos 0)) c0.labels ∷ []) → Appends c5 c6 0 (item.Label (c0.labels + 1) ∷ []) →
    EmitsStatement names s c0 c6
loop_emitted c0 c2 c3 c4 c5 c6 names s cond stats k l2 r2 t b l6 r5 r6 =
    let n = c0.labels in
    let c1 : Draft = record c0 { labels = n + 2 } in
    let test = expr_words cond + 1 in
    let body = block_words stats in
    let all = loop n (n + 1) t.items b.items in
    let from4 = appends_on c4 c5 c6 1 0 (item.Branch (insn.JumpBack (pos 0)) n ∷ []) (item.Label (n + 1) ∷ []) r5 r6 in
    let from3 = appends_on c3 c4 c6 body (1 + 0) b.items _ b.appends from4 in
    let from2 = appends_on c2 c3 c6 test (body + (1 + 0)) t.items _ t.appends from3 in
    let from1 = appends_on c1 c2 c6 0 (test + (body + (1 + 0))) (item.Label n ∷ []) _ r2 from2 in
    let words = words_of_loop s cond stats k in
    record {
      items = all;
      appends = appends_from c0 c6 (n + 2) (stat_words s) all (appends_most c1 c6 (0 + (test + (body + (1 + 0)))) (stat_words s) all (omega arith) from1);
      labels = subst (λ m. HasLabels n m all) (sym l6) (loop_labels n c3.labels c4.labels t.items b.items
          (subst (λ m. HasLabels m c3.labels t.items) l2 t.labels) b.labels);
      few = omega (arith, l2, l6, t.few, b.few, words);
      code = λ ks more x. IsStatementCode.loops names s cond stats n (n + 1) t.items b.items k
          (t.code ks _ (extends_on _ _ _ _ _ from3.constants x))
          (b.code ks _ (extends_on _ _ _ _ _ from4.constants x));
    }

pub emits_of_loop : (o : Result (Unit {0}) OutOfMemory) (c0 c1 c2 c3 c4 c5 c6 : Draft) (names : List StrId) (s : Stat) (cond cond' : Expr)
    (stats stats' : List Stat) (start over : ℕ) → s.kind ≡ stat.While cond stats → cond' ≡ cond → stats' ≡ stats → start ≡ c0.labels →
    over ≡ c0.labels + 1 → c1 ≡ record c0 { labels = c0.labels + 2 } → c2.labels ≡ c1.labels → Appends c1 c2 0 (item.Label start ∷ []) →
    EmitsTest names over cond' c2 c3 → EmitsBlock names stats' c3 c4 → c5.labels ≡ c4.labels → c6.labels ≡ c5.labels →
    Appends c4 c5 1 (item.Branch (insn.JumpBack (pos 0)) start ∷ []) → OnOk o (Appends c5 c6 0 (item.Label over ∷ [])) →
    OnOk o (EmitsStatement names s c0 c6)
emits_of_loop o c0 c1 c2 c3 c4 c5 c6 names s cond cond' stats stats' start over k ec eb es eo n l2 r2 t b l5 l6 r5 r6 =
    on_ok_weaker o
    (λ v. loop_emitted c0 c2 c3 c4 c5 c6 names s cond stats k (l2 ∙ ap (λ c. c.labels) n)
    (subst (λ x. Appends x c2 0 (item.Label c0.labels ∷ [])) n (subst (λ x. Appends c1 c2 0 (item.Label x ∷ [])) es r2))
    (subst (λ x. EmitsTest names (c0.labels + 1) x c2 c3) ec (subst (λ x. EmitsTest names x cond' c2 c3) eo t))
    (subst (λ x. EmitsBlock names x c3 c4) eb b) (l6 ∙ l5)
    (subst (λ x. Appends c4 c5 1 (item.Branch (insn.JumpBack (pos 0)) x ∷ [])) es r5)
    (subst (λ x. Appends c5 c6 0 (item.Label x ∷ [])) eo v))
    r6

pub loop_ready : (c0 c1 c2 c3 : Draft) (names : List StrId) (s : Stat) (cond cond' : Expr) (stats stats' : List Stat) (start over : ℕ) →
    s.kind ≡ stat.While cond stats → cond' ≡ cond → stats' ≡ stats → c1 ≡ record c0 { labels = c0.labels + 2 } → c2.labels ≡ c1.labels →
    Appends c1 c2 0 (item.Label start ∷ []) → EmitsTest names over cond' c2 c3 → IsReady c0 (stat_words s) → IsReady c3 (block_words stats')
loop_ready c0 c1 c2 c3 names s cond cond' stats stats' start over k ec eb n l2 r2 t r =
    let words = words_of_loop s cond stats k in
    let same_cond = ap expr_words ec in
    let same_body = ap block_words eb in
    let same_labels = ap (λ c. c.labels) n in
    let from1 = appends_on c1 c2 c3 0 (expr_words cond' + 1) (item.Label start ∷ []) t.items r2 t.appends in
    let from0 = appends_from c0 c3 (c0.labels + 2) (0 + (expr_words cond' + 1)) _
    (subst (λ x. Appends x c3 (0 + (expr_words cond' + 1)) (item.Label start ∷ t.items)) n from1) in
    ready_on c0 c3 (stat_words s) (0 + (expr_words cond' + 1)) 2 (block_words stats') _ r from0 (omega (arith, t.few)) (omega arith) (omega arith)

-- ---- its code does what it does

module _ (words : List ℕ) (ks : List Constant) (place : ℕ → Option ℕ) where
  -- a turn of a loop, and the turns after it: there are no more than are left
  pub turns_same : (cond : Expr) (stats : List Stat) (names : List StrId) (from body back out : ℕ) (by : ℤ) →
      ConditionRuns words ks place cond names from body out → BlockRuns words ks place stats names body back →
      insn_at words back ≡ Some (insn.JumpBack by, out) →
      pos (back + 1) +ℤ by ≡ pos from → (bound left : ℕ) → left < bound → (k : List Frame) (env : Environment) →
      Back words ks place left env names k out → (cells : List Value) (regs : Registers) → Locals cells regs env names →
      Same words ks place left (Evaluate cond) (Loops cond stats ∷ k) env cells from regs
  turns_same cond stats names from body back out by asks runs h reaches zero left lt k env go cells regs ls = absurd (omega (arith, lt))
  turns_same cond stats names from body back out by asks runs h reaches (suc bound) left lt k env go cells regs ls =
      asks left (Loops cond stats ∷ k) env
      (λ left1 le1 cells1 regs1 ls1.
      by_source words ks place left1 _ (ExecuteAll stats) _ (Restores env ∷ Repeats cond stats ∷ k) env env cells1 cells1 body regs1
      (ap (λ b. source.looped b cond stats k env cells1) (truth_of true))
      (runs left1 (Repeats cond stats ∷ k) env
      (λ left2 le2 cells2 regs2 ls2.
      together.both_charge _ _ _ _ _ _ _ _ _ left2 refl
      (ap (λ o. machine.act ks o back regs2) h ∙ ap (λ z. machine.charge z regs2) reaches)
      (λ fewer e. turns_same cond stats names from body back out by asks runs h reaches bound fewer (omega (arith, lt, le1, le2, e)) k env
      (λ left3 le3. go left3 (omega (arith, le1, le2, le3, e))) cells2 regs2 ls2))
      cells1 regs1 ls1))
      (λ left1 le1 cells1 regs1 ls1.
      by_source words ks place left1 _ Done _ k env env cells1 cells1 out regs1 (ap (λ b. source.looped b cond stats k env cells1) (truth_of false))
      (go left1 le1 cells1 regs1 ls1))
      cells regs ls

  pub loop_same : (names : List StrId) (s : Stat) (condition : Expr) (stats : List Stat) (start over : ℕ) (cond body : List Item) →
      s.kind ≡ stat.While condition stats → IsTestCode ks names over condition cond → (from to : ℕ) →
      Reads words place from (loop start over cond body) to →
      ((from to : ℕ) → Reads words place from body to → BlockRuns words ks place stats names from to) → (left : ℕ) (k : List Frame) (env : Environment) →
      Back words ks place left env names k to → (cells : List Value) (regs : Registers) → Locals cells regs env names →
      Same words ks place left (Execute s) k env cells from regs
  loop_same names s condition stats start over cond body h code from to r runs left k env go cells regs ls =
      let p = split words place cond _ from to r.1 in
      let q = split words place body _ p.0 to p.2 in
      let jump = q.2.0 in
      let behind = q.0 + length (encoded (insn.JumpBack (pos 0))) in
      let begin : jump.target ≡ from = same_place (place start) jump.target from jump.placed r.0 in
      let later = on words place body p.0 q.0 q.1 in
      by_source words ks place left _ (Evaluate condition) k (Loops condition stats ∷ k) env env cells cells from regs
      (begun s _ k env cells (ap out-StatKind h ∙ views.outs-While condition stats))
      (turns_same condition stats names from p.0 q.0 behind jump.by
      (condition_same words ks place names over condition cond code from p.0 behind p.1 q.2.1.0 (omega (arith, later)))
      (runs p.0 q.0 q.1)
      jump.read
      (jump.reaches ∙ ap (λ n. pos n) begin)
      (suc left) left (omega arith) k env
      (λ left1 le1 cells1 regs1 ls1. at_place words ks place left1 _ k env cells1 behind to regs1 q.2.1.1 (go left1 le1 cells1 regs1 ls1))
      cells regs ls)

-- ---- it is not stuck

pub turns_fine : (cond : Expr) (stats : List Stat) (names : List StrId) → ConditionFine names cond → BlockFine names stats →
    (bound left : ℕ) → left < bound → (k : List Frame) (env : Environment) → FineBack left names env k → (cells : List Value) →
    Sound cells env names → FineAt left (Evaluate cond) (Loops cond stats ∷ k) env cells
turns_fine cond stats names answered runs zero left lt k env go cells ok = absurd (omega (arith, lt))
turns_fine cond stats names answered runs (suc bound) left lt k env go cells ok =
    answered left (Loops cond stats ∷ k) env cells ok
    (looped_fine (runs left (Repeats cond stats ∷ k) env
    (λ left1 le1 cells1 ok1. charges left1 _ _ refl
    (λ fewer e. turns_fine cond stats names answered runs bound fewer (omega (arith, lt, le1, e)) k env
    (λ left2 le2. go left2 (omega (arith, le1, le2, e))) cells1 ok1))
    cells ok))
  where
    looped_fine : FineAt left (ExecuteAll stats) (Restores env ∷ Repeats cond stats ∷ k) env cells → (b : Bool) →
        FineAt left (Give (value.Boolean b)) (Loops cond stats ∷ k) env cells
    looped_fine body true =
        by_step left _ (ExecuteAll stats) _ (Restores env ∷ Repeats cond stats ∷ k) env env cells cells
        (ap (λ b. source.looped b cond stats k env cells) (truth_of true)) body
    looped_fine body false =
        by_step left _ Done _ k env env cells cells (ap (λ b. source.looped b cond stats k env cells) (truth_of false))
        (go left (omega arith) cells ok)

pub loop_fine : (names : List StrId) (s : Stat) (cond : Expr) (body : List Stat) → out-StatKind s.kind ≡ level.While cond body →
    ConditionFine names cond → BlockFine names body → StatementFine names s
loop_fine names s cond body h answered runs left k env cells ok go =
    by_step left _ (Evaluate cond) k (Loops cond body ∷ k) env env cells cells (begun s _ k env cells h)
    (turns_fine cond body names answered runs (suc left) left (omega arith) k env (keeping left names s _ env k h refl go) cells ok)

-- ---- what holds of it

module _ (b : Bindings) where
  pub loop_holds : (s : Stat) (cond : Expr) (body : List Stat) → out-StatKind s.kind ≡ level.While cond body → ConditionHolds b cond →
      BlockHolds b body → StatementHolds b s
  loop_holds s cond body k tested looped =
      let words : stat_words s ≡ expr_words cond + block_words body + 2 = of_stat_kind size.steps s (level.While cond body) k in
      let counted : bulk_stat b s ≡ 8 + (bulk_expr b cond + block_bulk b body) = of_stat_kind (bulk.steps b) s (level.While cond body) k in
      record {
        within = omega (arith, words, counted, tested.within, looped.within);
        fine = λ vs after stands.
            let parts = in_loop b vs s after cond body stands k in
            loop_fine (names_of vs) s cond body k (tested.fine vs (sight.block [] body ∷ []) parts) (as_block (names_of vs) body (looped.fine vs
            (behind_condition b vs cond body parts)));
      }

  pub loop_of : (n : ℕ) → BlocksBelow b n → (s : Stat) → bulk_stat b s < suc n → (cond : Expr) (body : List Stat) →
      out-StatKind s.kind ≡ level.While cond body → unbuilt_in_stat b s ≡ None → StatementHolds b s
  loop_of n inner s lt cond body k u =
      let counted : bulk_stat b s ≡ 8 + (bulk_expr b cond + block_bulk b body) = of_stat_kind (bulk.steps b) s (level.While cond body) k in
      let same = of_stat_kind (steps b) s (level.While cond body) k ∙ ap (or_else (uses_of b cond).condition) (block_is b body) in
      let both = or_else_none (uses_of b cond).condition (first_unbuilt b body) (sym same ∙ u) in
      loop_holds s cond body k (condition_holds b cond both.0) (inner body (omega (arith, counted, lt)) both.1)
