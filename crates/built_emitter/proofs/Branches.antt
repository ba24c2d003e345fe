-- An `if` with one condition, with and without `else`.
use Rattle.std.proofs.Common.{◌≡◌, List, map, Option, sym, ap, ◌∙◌, ℕ, ◌<◌, ◌≤◌, [], ◌∷◌, length, get_or, Bool, true, false, Some, None, refl, arith, ◌+◌, max, ◌++◌, subst, pos, Result, OnOk, suc}
use Rattle.std.proofs.lemmas.Result.{on_ok_weaker}
use Rattle.resource.specs.declared.memory.OutOfMemory.{OutOfMemory}
use Rattle.byte_text.specs.declared.fixed.StrId.{StrId}
use Rattle.syntax_tree.specs.declared.tree.ExprKind.TheOpen as level
use Rattle.syntax_tree.specs.declared.tree.ExprKind.TheViews as views
use Rattle.syntax_tree.specs.declared.tree.StatKind as stat
use Rattle.syntax_tree.specs.Need as need
use Rattle.syntax_tree.specs.Rules as rules
use Rattle.syntax_tree.specs.Bulk as bulk
use Rattle.syntax_tree.specs.declared.tree.Arm.{Arm, out-Arm}
use Rattle.syntax_tree.specs.declared.tree.Expr.{Expr}
use Rattle.syntax_tree.specs.declared.tree.Stat.{Stat}
use Rattle.syntax_tree.specs.declared.tree.StatKind.{out-StatKind}
use Rattle.syntax_tree.specs.Fold.{Steps, at_stat}
use Rattle.syntax_tree.specs.declared.bindings.Bindings.{Bindings}
use Rattle.syntax_tree.specs.declared.notes.Place.{Place}
use Rattle.syntax_tree.specs.Limits.{most_registers}
use Rattle.syntax_tree.specs.Need.{StatNeed, need_expr, need_stat, need_arm}
use Rattle.syntax_tree.specs.Rules.{StatRules, rules_expr, rules_stat, rules_arm}
use Rattle.syntax_tree.specs.declared.notes.Visible.{Visible}
use Rattle.syntax_tree.specs.Bulk.{bulk_expr, bulk_stat, bulk_arm}
use Rattle.scope_laws.specs.Sight as sight
use Rattle.scope_laws.specs.Sight.{Part}
use Rattle.op_words.specs.declared.insn.Insn.TheVariants as insn
use Rattle.op_words.specs.declared.insn.Insn.TheVariants.{Jump}
use Rattle.op_words.specs.Encoding.{encoded}
use Rattle.code_link.specs.declared.item.Item.TheVariants as item
use Rattle.code_link.specs.declared.item.Item.{Item}
use Rattle.built_values.specs.declared.value.Value.TheVariants as value
use Rattle.built_values.specs.declared.value.Value.{Value}
use Rattle.built_source.specs.Steps as source
use Rattle.built_source.specs.States.{Environment, Frame, Chooses, Restores, Evaluate, Give, Execute, ExecuteAll, Choose, Done}
use Rattle.built_machine.specs.declared.code.Constant.{Constant}
use Rattle.built_machine.specs.States.{Registers}
use Rattle.built_emitter.specs.Size as size
use Rattle.built_emitter.specs.Unbuilt.{Found, or_else, steps, uses_of, unbuilt_in_stat, unbuilt_in_arm, first_unbuilt, choice}
use Rattle.built_emitter.specs.Fitting.{LocalsFit}
use Rattle.built_emitter.specs.Form.{IsCondition, IsStatement, IsBlock}
use Rattle.built_emitter.specs.Size.{arm_words, expr_words, stat_words, block_words}
use Rattle.built_emitter.specs.Standing.{names_of, Stand, StandsAt}
use Rattle.built_emitter.specs.declared.draft.Draft.{Draft}
use Rattle.built_emitter.specs.Code.{IsTestCode, IsStatementCode, branch, branches}
use Rattle.built_emitter.specs.Emitted.{HasLabels, Appends, EmitsTest, EmitsStatement, EmitsBlock}
use Rattle.built_emitter.proofs.StandingParts as parts
use Rattle.built_emitter.proofs.NodeLevels.{StatKindNode, stat_kind_level, of_stat_kind, of_arm}
use Rattle.built_emitter.proofs.Built.{or_else_none, block_is}
use Rattle.built_emitter.proofs.EmittedStatements.{IsReady, ready_on, arm_ready}
use Rattle.built_emitter.proofs.LabelRanges.{one_more, next_more, placements-append, branches-append, branches_more}
use Rattle.built_emitter.proofs.Following.{begun, truth_of, Same, by_source, by_machine, at_place, condition_same, Back, BlockRuns}
use Rattle.built_emitter.proofs.NeverStuck.{Sound, found, FineAt, by_step, ConditionFine, FineBack, StatementFine, BlockFine, keeping, as_block}
use Rattle.built_emitter.proofs.Holding.{block_bulk, ConditionHolds, StatementHolds, BlockHolds, condition_holds, BlocksBelow}
use Rattle.built_emitter.proofs.BuiltNeeds.{no_front, no_back, inner_fits}
use Rattle.built_emitter.proofs.ItemLists.{extends_same, extends_on, appends_on, appends_most, appends_from}
use Rattle.built_emitter.proofs.StandingParts.{in_quiet, in_arm, in_block, behind_quiet, behind_condition, block_seen}
use Rattle.built_emitter.proofs.Reading.{Reads, split, on, ahead, same_place}
use Rattle.built_emitter.proofs.Locals.{Locals}

-- ---- a function of the tree at its node

module _ {K L M A E X F B S : Type 0} (s : Steps K L M A E X F B S) where
  pub of_branch : (t : Stat) (arms : List Arm) (other : Option (List Stat)) → t.kind ≡ stat.If arms other →
      at_stat s t ≡ s.stat (record { id = t.id; at = t.at; line = t.line; kind = s.stat_kind (stat_kind_level s (level.StatKind::If arms other)) })
  of_branch t arms other h = of_stat_kind s t (level.StatKind::If arms other) (ap out-StatKind h ∙ views.outs-StatKind::If arms other)

-- ---- words

pub words_of_arm : (arm : Arm) → arm_words arm ≡ expr_words (out-Arm arm).cond + block_words (out-Arm arm).body + 2
words_of_arm arm = of_arm size.steps arm

pub words_of_branch : (s : Stat) (arm : Arm) → s.kind ≡ stat.If (arm ∷ []) None →
    stat_words s ≡ expr_words (out-Arm arm).cond + block_words (out-Arm arm).body + 2
words_of_branch s arm k =
    let words : stat_words s ≡ arm_words arm + 0 + 0 = of_branch size.steps s (arm ∷ []) None k in
    omega (arith, words, words_of_arm arm)

pub words_of_branches : (s : Stat) (arm : Arm) (others : List Stat) → s.kind ≡ stat.If (arm ∷ []) (Some others) →
    stat_words s ≡ expr_words (out-Arm arm).cond + block_words (out-Arm arm).body + 2 + block_words others
words_of_branches s arm others k =
    let words : stat_words s ≡ arm_words arm + 0 + block_words others = of_branch size.steps s (arm ∷ []) (Some others) k in
    omega (arith, words, words_of_arm arm)

-- ---- which node is not built

pub as_branch : (s : Stat) (arms seen : List Arm) (arm : Arm) (other same : Option (List Stat)) → s.kind ≡ stat.If arms other →
    seen ≡ arms → seen ≡ arm ∷ [] → other ≡ same → s.kind ≡ stat.If (arm ∷ []) same
as_branch s arms seen arm other same k n one o = k ∙ ap (λ (l : List Arm). stat.If l other) (sym n ∙ one) ∙ ap
    (λ (x : Option (List Stat)). stat.If (arm ∷ []) x) o

module _ (b : Bindings) where
  pub unbuilt_of_branch : (s : Stat) (arm : Arm) → s.kind ≡ stat.If (arm ∷ []) None → unbuilt_in_stat b s ≡ unbuilt_in_arm b arm
  unbuilt_of_branch s arm k = of_branch (steps b) s (arm ∷ []) None k

  pub unbuilt_of_branches : (s : Stat) (arm : Arm) (others : List Stat) → s.kind ≡ stat.If (arm ∷ []) (Some others) →
      unbuilt_in_stat b s ≡ or_else (unbuilt_in_arm b arm) (first_unbuilt b others)
  unbuilt_of_branches s arm others k =
      of_branch (steps b) s (arm ∷ []) (Some others) k ∙ ap (or_else (unbuilt_in_arm b arm)) (block_is b others)

  pub unbuilt_of_arm : (arm : Arm) → unbuilt_in_arm b arm ≡ or_else (uses_of b (out-Arm arm).cond).condition (first_unbuilt b (out-Arm
      arm).body)
  unbuilt_of_arm arm = of_arm (steps b) arm ∙ ap (or_else (uses_of b (out-Arm arm).cond).condition) (block_is b (out-Arm arm).body)

  pub arm_built : (arm : Arm) (body : List Stat) (found : Option ℕ) → body ≡ (out-Arm arm).body → None ≡ (uses_of b (out-Arm
      arm).cond).condition → found ≡ first_unbuilt b body → found ≡ unbuilt_in_arm b arm
  arm_built arm body found is cond h =
      h ∙ ap (first_unbuilt b) is ∙ ap (λ (o : Option ℕ). or_else o (first_unbuilt b (out-Arm arm).body)) cond ∙ sym (unbuilt_of_arm arm)

  pub branches_built : (s : Stat) (arm : Arm) (others seen : List Stat) (found : Option ℕ) → s.kind ≡ stat.If (arm ∷ []) (Some others) →
      seen ≡ others → None ≡ unbuilt_in_arm b arm → found ≡ first_unbuilt b seen → found ≡ unbuilt_in_stat b s
  branches_built s arm others seen found k l built h =
      h ∙ ap (first_unbuilt b) l ∙ ap (λ (o : Option ℕ). or_else o (first_unbuilt b others)) built ∙ sym (unbuilt_of_branches s arm others k)

-- ---- its parts

module _ (b : Bindings) where
  pub record HasArm (names : List StrId) (arm : Arm) : Type 0 where
    pub cond : IsCondition b names (out-Arm arm).cond
    pub body : IsBlock b names (out-Arm arm).body

  pub arm_form : (names : List StrId) (arm : Arm) (p : Place) → unbuilt_in_arm b arm ≡ None → LocalsFit names p → rules_arm arm p ≡ [] →
      length names + need_arm arm ≤ most_registers → HasArm names arm
  arm_form names arm p built locals unbroken registers =
      let cond : Expr = (out-Arm arm).cond in
      let body : List Stat = (out-Arm arm).body in
      let needs : need_arm arm ≡ max (need_expr cond).need (need.block_from 0 (map need_stat body)) = of_arm need.steps arm in
      let broken : rules_arm arm p ≡ rules_expr cond p ++ rules.block (map rules_stat body) p = ap (λ (u : rules.Part). u p) (of_arm rules.steps arm) in
      let both = or_else_none (uses_of b cond).condition (first_unbuilt b body) (sym (unbuilt_of_arm b arm) ∙ built) in
      record {
        cond = record { built = both.0; fits = omega (arith, needs, registers) };
        body = record {
          built = both.1;
          fits = inner_fits names p body locals (no_back _ _ (sym broken ∙ unbroken)) (omega (arith, needs, registers));
        };
      }

  -- the block of `else`
  abbrev pub OtherForm : List StrId → Option (List Stat) → Type 0
  OtherForm names None = Unit {0}
  OtherForm names (Some ss) = IsBlock b names ss

  pub record HasBranch (names : List StrId) (arms : List Arm) (other : Option (List Stat)) : Type 0 where
    pub arm : Arm
    pub one_arm : arms ≡ arm ∷ []
    pub form : HasArm names arm
    pub other_form : OtherForm names other

  pub one_arm_form : (names : List StrId) (s : Stat) (arm : Arm) (other : Option (List Stat)) → IsStatement b names s →
      s.kind ≡ stat.If (arm ∷ []) other → HasArm names arm × OtherForm names other
  one_arm_form names s arm None f k =
      let p : Place = f.fits.place in
      let needs : (need_stat s).need ≡ max (max (need_arm arm) 0) 0 =
      ap (λ (u : StatNeed). u.need) (of_branch need.steps s (arm ∷ []) None k) in
      let broken : (rules_stat s).faults p ≡ (rules_arm arm p ++ []) ++ [] =
      ap (λ (u : StatRules). u.faults p) (of_branch rules.steps s (arm ∷ []) None k) in (
        arm_form names arm p (sym (unbuilt_of_branch b s arm k) ∙ f.built) f.fits.locals (no_front _ _ (no_front _ _ (sym broken
            ∙ f.fits.unbroken))) (omega (arith, needs, f.fits.registers)),
        tt,
      )
  one_arm_form names s arm (Some others) f k =
      let p : Place = f.fits.place in
      let needs : (need_stat s).need ≡ max (max (need_arm arm) 0) (need.block_from 0 (map need_stat others)) =
      ap (λ (u : StatNeed). u.need) (of_branch need.steps s (arm ∷ []) (Some others) k) in
      let broken : (rules_stat s).faults p ≡ (rules_arm arm p ++ []) ++ rules.block (map rules_stat others) p =
      ap (λ (u : StatRules). u.faults p) (of_branch rules.steps s (arm ∷ []) (Some others) k) in
      let unbroken = sym broken ∙ f.fits.unbroken in
      let both = or_else_none (unbuilt_in_arm b arm) (first_unbuilt b others) (sym (unbuilt_of_branches b s arm others k) ∙ f.built) in (
        arm_form names arm p both.0 f.fits.locals (no_front _ _ (no_front _ _ unbroken)) (omega (arith, needs, f.fits.registers)),
        record { built = both.1; fits = inner_fits names p others f.fits.locals (no_back _ _ unbroken) (omega (arith, needs, f.fits.registers)) },
      )

  pub arms_shape : (at : ℕ) (arms : List Arm) (other : Option (List Found)) → choice at (map (unbuilt_in_arm b) arms) other ≡ None →
      (arm : Arm) × (arms ≡ arm ∷ [])
  arms_shape at (arm ∷ []) other h = (arm, refl)
  arms_shape at _ other h = cc

  pub one_arm : (s : Stat) (arms : List Arm) (other : Option (List Stat)) → s.kind ≡ stat.If arms other → unbuilt_in_stat b s ≡ None →
      (arm : Arm) × (arms ≡ arm ∷ [])
  one_arm s arms None k built = arms_shape s.at arms None (sym (of_branch (steps b) s arms None k) ∙ built)
  one_arm s arms (Some others) k built =
      arms_shape s.at arms (Some (map (unbuilt_in_stat b) others)) (sym (of_branch (steps b) s arms (Some others) k) ∙ built)

  pub branch_parts : (names : List StrId) (s : Stat) (arms : List Arm) (other : Option (List Stat)) → IsStatement b names s →
      s.kind ≡ stat.If arms other → HasBranch names arms other
  branch_parts names s arms other f k =
      let one = one_arm s arms other k f.built in
      let forms = one_arm_form names s one.0 other f (k ∙ ap (λ (l : List Arm). stat.If l other) one.1) in
      record { arm = one.0; one_arm = one.1; form = forms.0; other_form = forms.1 }

-- ---- where its parts stand

pub in_branch : (b : Bindings) (vs : List Visible) (x : Stat) (after : List Part) (arms : List Arm) (other : Option (List Stat)) →
    Stand b vs (sight.stat x ∷ after) → out-StatKind x.kind ≡ level.StatKind::If arms other → Stand b vs (map sight.arm arms ++ sight.else_block other)
in_branch b vs x after arms other s k =
    in_quiet b vs x after (level.StatKind::If arms other) (map sight.arm arms ++ sight.else_block other) (λ s. refl) s k

-- the block of `else`
pub in_else : (b : Bindings) (vs : List Visible) (x : Stat) (after : List Part) (a : Arm) (others : List Stat) →
    Stand b vs (sight.stat x ∷ after) → out-StatKind x.kind ≡ level.StatKind::If (a ∷ []) (Some others) → Stand b vs (map sight.stat others)
in_else b vs x after a others s k =
    in_block b vs others [] (behind_quiet b vs (sight.arm a) (sight.block [] others ∷ []) (λ n. refl) (in_branch b vs x after (a ∷ []) (Some others) s k))

module _ (b : Bindings) (vs : List Visible) (s : Stat) (stands : StandsAt b vs (sight.stat s)) where
  pub arm_inside : (a : Arm) (other : Option (List Stat)) → s.kind ≡ stat.If (a ∷ []) other →
      Stand b vs (sight.expr (out-Arm a).cond ∷ sight.block [] (out-Arm a).body ∷ [])
  arm_inside a other k =
      parts.in_arm b vs a _ (in_branch b vs s stands.0 (a ∷ []) other stands.1 (ap out-StatKind k ∙ views.outs-StatKind::If (a ∷ [])
      other))

  pub condition_stands : (a : Arm) (other : Option (List Stat)) → s.kind ≡ stat.If (a ∷ []) other → StandsAt b vs (sight.expr (out-Arm a).cond)
  condition_stands a other k = (sight.block [] (out-Arm a).body ∷ [], arm_inside a other k)

  pub arm_stands : (a : Arm) (other : Option (List Stat)) (seen : List Stat) → s.kind ≡ stat.If (a ∷ []) other → seen ≡ (out-Arm a).body →
      Stand b vs (map sight.stat seen)
  arm_stands a other seen k same =
      block_seen b vs (out-Arm a).body seen same (parts.behind_condition b vs (out-Arm a).cond (out-Arm a).body (arm_inside a other k))

  pub else_stands : (a : Arm) (others seen : List Stat) → s.kind ≡ stat.If (a ∷ []) (Some others) → seen ≡ others →
      Stand b vs (map sight.stat seen)
  else_stands a others seen k same =
      block_seen b vs others seen same (in_else b vs s stands.0 a others stands.1 (ap out-StatKind k ∙ views.outs-StatKind::If (a ∷ [])
      (Some others)))

-- ---- its labels

pub branch_labels : (n j m : ℕ) (test body : List Item) → HasLabels (n + 1) j test → HasLabels j m body → HasLabels n m (branch n test body)
branch_labels n j m test body t b =
    let tail = item.Label n ∷ [] in
    record {
      rises = omega (arith, t.rises, b.rises);
      placed = λ l. omega (arith, placements-append test (body ++ tail) l, placements-append body tail l, t.placed l, b.placed l, one_more n l);
      branches = branches-append m test (body ++ tail) (branches_more j m test b.rises t.branches) (branches-append m body tail b.branches tt);
    }

pub branches_labels : (n j k m : ℕ) (test body other : List Item) → HasLabels (n + 2) j test → HasLabels j k body → HasLabels k m other →
    HasLabels n m (branches n (n + 1) test body other)
branches_labels n j k m test body other t b o =
    let last = item.Label (n + 1) ∷ [] in
    let tail = item.Branch (Jump (pos 0)) (n + 1) ∷ item.Label n ∷ (other ++ last) in
    record {
      rises = omega (arith, t.rises, b.rises, o.rises);
      placed = λ l. omega (
        arith,
        placements-append test (body ++ tail) l,
        placements-append body tail l,
        placements-append other last l,
        t.placed l,
        b.placed l,
        o.placed l,
        one_more n l,
        next_more (n + 1) (n + 2) l (omega arith),
      );
      branches = branches-append m test (body ++ tail) (branches_more j m test (omega (arith, b.rises, o.rises)) t.branches)
          (branches-append m body tail (branches_more k m body o.rises b.branches)
          (refl, omega (arith, t.rises, b.rises, o.rises), branches-append m other last o.branches tt));
    }

-- ---- its code

-- what a branch names as its arm
pub record OneBranch (b : Bindings) (names : List StrId) (s : Stat) (arm : Arm) (other : Option (List Stat)) : Type 0 where
  pub kind : s.kind ≡ stat.If (arm ∷ []) other
  pub form : HasArm b names arm
  pub other_form : OtherForm b names other

pub one_branch : (b : Bindings) (names : List StrId) (s : Stat) (arms : List Arm) (arm : Arm) (other : Option (List Stat)) → IsStatement b names s →
    s.kind ≡ stat.If arms other → arm ≡ get_or arms 0 arm → OneBranch b names s arm other
one_branch b names s arms arm other f k h =
    let p = branch_parts b names s arms other f k in
    let same : arm ≡ p.arm = h ∙ ap (λ l. get_or l 0 arm) p.one_arm in
    record {
      kind = k ∙ ap (λ l. stat.If l other) (p.one_arm ∙ ap (λ y. y ∷ []) (sym same));
      form = subst (λ a. HasArm b names a) (sym same) p.form;
      other_form = p.other_form;
    }

pub branch_emitted : (c0 c2 c3 c4 : Draft) (names : List StrId) (s : Stat) (arm : Arm) → s.kind ≡ stat.If (arm ∷ []) None →
    EmitsTest names c0.labels (out-Arm arm).cond (record c0 { labels = c0.labels + 1 }) c2 → EmitsBlock names (out-Arm arm).body c2 c3 →
    c4.constants ≡ c3.constants → c4.labels ≡ c3.labels → Appends c3 c4 0 (item.Label c0.labels ∷ []) → EmitsStatement names s c0 c4
branch_emitted c0 c2 c3 c4 names s arm k t b last l r =
    let n = c0.labels in
    let c1 : Draft = record c0 { labels = n + 1 } in
    let tail = extends_same c3.constants.items c4.constants.items 0 (ap (λ c. c.items) last) in
    let cond = expr_words (out-Arm arm).cond + 1 in
    let body = block_words (out-Arm arm).body in
    let label = item.Label n ∷ [] in
    let all = appends_on c1 c2 c4 cond (body + 0) t.items (b.items ++ label) t.appends (appends_on c2 c3 c4 body 0 b.items label b.appends r) in
    let words = words_of_branch s arm k in
    record {
      items = branch n t.items b.items;
      appends = appends_from c0 c4 (n + 1) (stat_words s) (branch n t.items b.items)
          (appends_most c1 c4 (cond + (body + 0)) (stat_words s) (branch n t.items b.items) (omega arith) all);
      labels = subst (λ m. HasLabels n m (branch n t.items b.items)) (sym l) (branch_labels n c2.labels c3.labels t.items b.items t.labels b.labels);
      few = omega (arith, l, t.few, b.few, words);
      code = λ ks more x. IsStatementCode.chooses names s arm n t.items b.items k
          (t.code ks _ (extends_on _ _ _ _ _ b.appends.constants (extends_on _ _ _ _ _ tail x))) (b.code ks _ (extends_on _ _ _ _ _ tail x));
    }

pub emits_of_branch : (o : Result (Unit {0}) OutOfMemory) (c0 c1 c2 c3 c4 : Draft) (names : List StrId) (s : Stat) (arm : Arm)
    (body : List Stat) (over : ℕ) → s.kind ≡ stat.If (arm ∷ []) None → body ≡ (out-Arm arm).body → over ≡ c0.labels →
    c1 ≡ record c0 { labels = c0.labels + 1 } → EmitsTest names over (out-Arm arm).cond c1 c2 → EmitsBlock names body c2 c3 →
    c4.constants ≡ c3.constants → c4.labels ≡ c3.labels → OnOk o (Appends c3 c4 0 (item.Label over ∷ [])) → OnOk o (EmitsStatement names s c0 c4)
emits_of_branch o c0 c1 c2 c3 c4 names s arm body over k eb eo n t b last l r =
    let test : EmitsTest names c0.labels (out-Arm arm).cond (record c0 { labels = c0.labels + 1 }) c2 = subst
    (λ x. EmitsTest names c0.labels (out-Arm arm).cond x c2) n (subst (λ x. EmitsTest names x (out-Arm arm).cond c1 c2) eo t) in
    on_ok_weaker o
    (λ v. branch_emitted c0 c2 c3 c4 names s arm k test (subst (λ x. EmitsBlock names x c2 c3) eb b) last l
    (subst (λ x. Appends c3 c4 0 (item.Label x ∷ [])) eo v))
    r

pub branches_emitted : (c0 c2 c3 c4 c5 c6 c7 : Draft) (names : List StrId) (s : Stat) (arm : Arm) (others : List Stat) →
    s.kind ≡ stat.If (arm ∷ []) (Some others) → EmitsTest names c0.labels (out-Arm arm).cond (record c0 { labels = c0.labels + 2 }) c2 →
    EmitsBlock names (out-Arm arm).body c2 c3 → c5.labels ≡ c3.labels →
    Appends c3 c4 1 (item.Branch (insn.Jump (pos 0)) (c0.labels + 1) ∷ []) → Appends c4 c5 0 (item.Label c0.labels ∷ []) →
    EmitsBlock names others c5 c6 → c7.labels ≡ c6.labels → Appends c6 c7 0 (item.Label (c0.labels + 1) ∷ []) → EmitsStatement names s c0 c7
branches_emitted c0 c2 c3 c4 c5 c6 c7 names s arm others k t b l5 r4 r5 d l7 r7 =
    let n = c0.labels in
    let c1 : Draft = record c0 { labels = n + 2 } in
    let cond = expr_words (out-Arm arm).cond + 1 in
    let body = block_words (out-Arm arm).body in
    let other = block_words others in
    let over = item.Label (n + 1) ∷ [] in
    let all = branches n (n + 1) t.items b.items d.items in
    let from5 = appends_on c5 c6 c7 other 0 d.items over d.appends r7 in
    let from4 = appends_on c4 c5 c7 0 (other + 0) (item.Label n ∷ []) (d.items ++ over) r5 from5 in
    let from3 = appends_on c3 c4 c7 1 (0 + (other + 0)) (item.Branch (insn.Jump (pos 0)) (n + 1) ∷ []) (item.Label n ∷ (d.items ++ over)) r4 from4 in
    let from2 = appends_on c2 c3 c7 body (1 + (0 + (other + 0))) b.items _ b.appends from3 in
    let from1 = appends_on c1 c2 c7 cond (body + (1 + (0 + (other + 0)))) t.items _ t.appends from2 in
    let words = words_of_branches s arm others k in
    record {
      items = all;
      appends = appends_from c0 c7 (n + 2) (stat_words s) all (appends_most c1 c7 (cond + (body + (1 + (0 + (other + 0))))) (stat_words s)
          all (omega arith) from1);
      labels = subst (λ m. HasLabels n m all) (sym l7) (branches_labels n c2.labels c3.labels c6.labels t.items b.items d.items t.labels
          b.labels (subst (λ m. HasLabels m c6.labels d.items) l5 d.labels));
      few = omega (arith, l5, l7, t.few, b.few, d.few, words);
      code = λ ks more x. IsStatementCode.decides names s arm others n (n + 1) t.items b.items d.items k
          (t.code ks _ (extends_on _ _ _ _ _ from2.constants x))
          (b.code ks _ (extends_on _ _ _ _ _ from3.constants x))
          (d.code ks _ (extends_on _ _ _ _ _ r7.constants x));
    }

pub emits_of_branches : (o : Result (Unit {0}) OutOfMemory) (c0 c1 c2 c3 c4 c5 c6 c7 : Draft) (names : List StrId) (s : Stat) (arm : Arm)
    (body others others' : List Stat) (to_other over : ℕ) → s.kind ≡ stat.If (arm ∷ []) (Some others) → body ≡ (out-Arm arm).body →
    others' ≡ others → to_other ≡ c0.labels → over ≡ c0.labels + 1 → c1 ≡ record c0 { labels = c0.labels + 2 } →
    EmitsTest names to_other (out-Arm arm).cond c1 c2 → EmitsBlock names body c2 c3 → c4.labels ≡ c3.labels → c5.labels ≡ c4.labels →
    Appends c3 c4 1 (item.Branch (insn.Jump (pos 0)) over ∷ []) → Appends c4 c5 0 (item.Label to_other ∷ []) →
    EmitsBlock names others' c5 c6 → c7.labels ≡ c6.labels → OnOk o (Appends c6 c7 0 (item.Label over ∷ [])) → OnOk o (EmitsStatement names s c0 c7)
emits_of_branches o c0 c1 c2 c3 c4 c5 c6 c7 names s arm body others others' to_other over k eb ed et eo n t b l4 l5 r4 r5 d l7 r7 =
    let test : EmitsTest names c0.labels (out-Arm arm).cond (record c0 { labels = c0.labels + 2 }) c2 = subst
    (λ x. EmitsTest names c0.labels (out-Arm arm).cond x c2) n (subst (λ x. EmitsTest names x (out-Arm arm).cond c1 c2) et t) in
    on_ok_weaker o
    (λ v. branches_emitted c0 c2 c3 c4 c5 c6 c7 names s arm others k test (subst (λ x. EmitsBlock names x c2 c3) eb b) (l5 ∙ l4)
    (subst (λ x. Appends c3 c4 1 (item.Branch (insn.Jump (pos 0)) x ∷ [])) eo r4)
    (subst (λ x. Appends c4 c5 0 (item.Label x ∷ [])) et r5)
    (subst (λ x. EmitsBlock names x c5 c6) ed d) l7
    (subst (λ x. Appends c6 c7 0 (item.Label x ∷ [])) eo v))
    r7

pub branch_ready : (c0 c1 c2 : Draft) (names : List StrId) (s : Stat) (arm : Arm) (body : List Stat) (over : ℕ) →
    s.kind ≡ stat.If (arm ∷ []) None → body ≡ (out-Arm arm).body → c1 ≡ record c0 { labels = c0.labels + 1 } →
    EmitsTest names over (out-Arm arm).cond c1 c2 → IsReady c0 (stat_words s) → IsReady c2 (block_words body)
branch_ready c0 c1 c2 names s arm body over k eb n t r =
    let words = words_of_branch s arm k in
    let same_body = ap block_words eb in
    arm_ready c0 c2 names over 1 (out-Arm arm).cond (subst (λ x. EmitsTest names over (out-Arm arm).cond x c2) n t) (stat_words s)
    (block_words body) r (omega arith) (omega arith)

pub branches_ready : (c0 c1 c2 : Draft) (names : List StrId) (s : Stat) (arm : Arm) (body others : List Stat) (over : ℕ) →
    s.kind ≡ stat.If (arm ∷ []) (Some others) → body ≡ (out-Arm arm).body → c1 ≡ record c0 { labels = c0.labels + 2 } →
    EmitsTest names over (out-Arm arm).cond c1 c2 → IsReady c0 (stat_words s) → IsReady c2 (block_words body)
branches_ready c0 c1 c2 names s arm body others over k eb n t r =
    let words = words_of_branches s arm others k in
    let same_body = ap block_words eb in
    arm_ready c0 c2 names over 2 (out-Arm arm).cond (subst (λ x. EmitsTest names over (out-Arm arm).cond x c2) n t) (stat_words s)
    (block_words body) r (omega arith) (omega arith)

pub others_ready : (c0 c1 c2 c3 c4 c5 : Draft) (names : List StrId) (s : Stat) (arm : Arm) (body others others' : List Stat)
    (to_other over : ℕ) → s.kind ≡ stat.If (arm ∷ []) (Some others) → body ≡ (out-Arm arm).body → others' ≡ others →
    c1 ≡ record c0 { labels = c0.labels + 2 } → EmitsTest names to_other (out-Arm arm).cond c1 c2 → EmitsBlock names body c2 c3 →
    c4.labels ≡ c3.labels → c5.labels ≡ c4.labels → Appends c3 c4 1 (item.Branch (insn.Jump (pos 0)) over ∷ []) →
    Appends c4 c5 0 (item.Label to_other ∷ []) → IsReady c0 (stat_words s) → IsReady c5 (block_words others')
others_ready c0 c1 c2 c3 c4 c5 names s arm body others others' to_other over k eb ed n t b l4 l5 r4 r5 r =
    let words = words_of_branches s arm others k in
    let same_body = ap block_words eb in
    let same_others = ap block_words ed in
    let same_labels = ap (λ c. c.labels) n in
    let test : Appends (record c0 { labels = c0.labels + 2 }) c2 (expr_words (out-Arm arm).cond + 1) t.items = subst
    (λ x. Appends x c2 (expr_words (out-Arm arm).cond + 1) t.items) n t.appends in
    let from3 = appends_on c3 c4 c5 1 0 (item.Branch (insn.Jump (pos 0)) over ∷ []) (item.Label to_other ∷ []) r4 r5 in
    let from2 = appends_on c2 c3 c5 (block_words body) (1 + 0) b.items _ b.appends from3 in
    let from0 = appends_on c0 c2 c5 (expr_words (out-Arm arm).cond + 1) (block_words body + (1 + 0)) t.items _
    (appends_from c0 c2 (c0.labels + 2) (expr_words (out-Arm arm).cond + 1) t.items test) from2 in
    ready_on c0 c5 (stat_words s) (expr_words (out-Arm arm).cond + 1 + (block_words body + (1 + 0))) (2 + block_words body)
    (block_words others') _ r from0 (omega (arith, t.few, b.few)) (omega arith) (omega arith)

-- ---- its code does what it does

module _ (words : List ℕ) (ks : List Constant) (place : ℕ → Option ℕ) where
  -- a branch without a block of `else`
  pub choose_same : (names : List StrId) (s : Stat) (arm : Arm) (over : ℕ) (cond body : List Item) → s.kind ≡ stat.If (arm ∷ []) None →
      IsTestCode ks names over (out-Arm arm).cond cond → (from to : ℕ) → Reads words place from (branch over cond body) to →
      ((from to : ℕ) → Reads words place from body to → BlockRuns words ks place (out-Arm arm).body names from to) →
      (left : ℕ) (k : List Frame) (env : Environment) → Back words ks place left env names k to → (cells : List Value) (regs : Registers) →
      Locals cells regs env names → Same words ks place left (Execute s) k env cells from regs
  choose_same names s arm over cond body h code from to r runs left k env go cells regs ls =
      let p = split words place cond _ from to r in
      let q = split words place body _ p.0 to p.2 in
      let later = on words place body p.0 q.0 q.1 in
      by_source words ks place left _ (Choose (arm ∷ []) None) k k env env cells cells from regs
      (begun s _ k env cells (ap out-StatKind h ∙ views.outs-StatKind::If (arm ∷ []) None))
      (by_source words ks place left _ (Evaluate (out-Arm arm).cond) k (Chooses (out-Arm arm).body [] None ∷ k) env env cells cells from regs refl
      (condition_same words ks place names over (out-Arm arm).cond cond code from p.0 q.0 p.1 q.2.0 later left (Chooses (out-Arm arm).body [] None ∷ k) env
      (λ left1 le1 cells1 regs1 ls1.
      by_source words ks place left1 _ (ExecuteAll (out-Arm arm).body) _ (Restores env ∷ k) env env cells1 cells1 p.0 regs1
      (ap (λ b. source.chosen b (out-Arm arm).body [] None k env cells1) (truth_of true))
      (runs p.0 q.0 q.1 left1 k env
      (λ left2 le2 cells2 regs2 ls2.
      at_place words ks place left2 _ k env cells2 q.0 to regs2 q.2.1 (go left2 (omega (arith, le1, le2)) cells2 regs2 ls2))
      cells1 regs1 ls1))
      (λ left1 le1 cells1 regs1 ls1.
      by_source words ks place left1 _ (Choose [] None) _ k env env cells1 cells1 q.0 regs1
      (ap (λ b. source.chosen b (out-Arm arm).body [] None k env cells1) (truth_of false))
      (by_source words ks place left1 _ Done k k env env cells1 cells1 q.0 regs1 refl
      (at_place words ks place left1 _ k env cells1 q.0 to regs1 q.2.1 (go left1 le1 cells1 regs1 ls1))))
      cells regs ls))

  -- a branch with a block of `else`
  pub decide_same : (names : List StrId) (s : Stat) (arm : Arm) (others : List Stat) (to_other over : ℕ) (cond body other : List Item) →
      s.kind ≡ stat.If (arm ∷ []) (Some others) → IsTestCode ks names to_other (out-Arm arm).cond cond → (from to : ℕ) →
      Reads words place from (branches to_other over cond body other) to →
      ((from to : ℕ) → Reads words place from body to → BlockRuns words ks place (out-Arm arm).body names from to) →
      ((from to : ℕ) → Reads words place from other to → BlockRuns words ks place others names from to) →
      (left : ℕ) (k : List Frame) (env : Environment) → Back words ks place left env names k to → (cells : List Value) (regs : Registers) →
      Locals cells regs env names → Same words ks place left (Execute s) k env cells from regs
  decide_same names s arm others to_other over cond body other h code from to r runs others_run left k env go cells regs ls =
      let p = split words place cond _ from to r in
      let q = split words place body _ p.0 to p.2 in
      let jump = q.2.0 in
      let behind = q.0 + length (encoded (insn.Jump (pos 0))) in
      let t = split words place other _ behind to q.2.1.1 in
      let later = on words place body p.0 q.0 q.1 in
      let last = on words place other behind t.0 t.1 in
      let end : jump.target ≡ t.0 = same_place (place over) jump.target t.0 jump.placed t.2.0 in
      by_source words ks place left _ (Choose (arm ∷ []) (Some others)) k k env env cells cells from regs
      (begun s _ k env cells (ap out-StatKind h ∙ views.outs-StatKind::If (arm ∷ []) (Some others)))
      (by_source words ks place left _ (Evaluate (out-Arm arm).cond) k (Chooses (out-Arm arm).body [] (Some others) ∷ k) env env cells cells from regs refl
      (condition_same words ks place names to_other (out-Arm arm).cond cond code from p.0 behind p.1 q.2.1.0 (omega (arith, later)) left
      (Chooses (out-Arm arm).body [] (Some others) ∷ k) env
      (λ left1 le1 cells1 regs1 ls1.
      by_source words ks place left1 _ (ExecuteAll (out-Arm arm).body) _ (Restores env ∷ k) env env cells1 cells1 p.0 regs1
      (ap (λ b. source.chosen b (out-Arm arm).body [] (Some others) k env cells1) (truth_of true))
      (runs p.0 q.0 q.1 left1 k env
      (λ left2 le2 cells2 regs2 ls2.
      by_machine words ks place left2 _ k env cells2 q.0 _ t.0 regs2 regs2 _ jump.read
      (ahead jump.by q.0 t.0 regs2 (jump.reaches ∙ ap (λ n. pos n) end) (omega (arith, last)))
      (at_place words ks place left2 _ k env cells2 t.0 to regs2 t.2.1 (go left2 (omega (arith, le1, le2)) cells2 regs2 ls2)))
      cells1 regs1 ls1))
      (λ left1 le1 cells1 regs1 ls1.
      by_source words ks place left1 _ (Choose [] (Some others)) _ k env env cells1 cells1 behind regs1
      (ap (λ b. source.chosen b (out-Arm arm).body [] (Some others) k env cells1) (truth_of false))
      (by_source words ks place left1 _ (ExecuteAll others) k (Restores env ∷ k) env env cells1 cells1 behind regs1 refl
      (others_run behind t.0 t.1 left1 k env
      (λ left2 le2 cells2 regs2 ls2.
      at_place words ks place left2 _ k env cells2 t.0 to regs2 t.2.1 (go left2 (omega (arith, le1, le2)) cells2 regs2 ls2))
      cells1 regs1 ls1)))
      cells regs ls))

-- ---- it is not stuck

-- the block of `else`, if there is one
abbrev pub OtherFine : List StrId → Option (List Stat) → Type 0
OtherFine names None = Unit {0}
OtherFine names (Some ss) = BlockFine names ss

pub other_fine : (left : ℕ) (other : Option (List Stat)) (names : List StrId) → OtherFine names other → (k : List Frame) (env : Environment) →
    FineBack left names env k → (cells : List Value) → Sound cells env names → FineAt left (Choose [] other) k env cells
other_fine left None names runs k env go cells ok = by_step left _ Done k k env env cells cells refl (go left (omega arith) cells ok)
other_fine left (Some ss) names runs k env go cells ok =
    by_step left _ (ExecuteAll ss) k (Restores env ∷ k) env env cells cells refl (runs left k env go cells ok)

pub choose_fine : (names : List StrId) (s : Stat) (arm : Arm) (other : Option (List Stat)) →
    out-StatKind s.kind ≡ level.StatKind::If (arm ∷ []) other → ConditionFine names (out-Arm arm).cond → BlockFine names (out-Arm arm).body →
    OtherFine names other → StatementFine names s
choose_fine names s arm other h answered runs other_runs left k env cells ok after =
    by_step left _ (Choose (arm ∷ []) other) k k env env cells cells (begun s _ k env cells h)
    (by_step left _ (Evaluate (out-Arm arm).cond) k (Chooses (out-Arm arm).body [] other ∷ k) env env cells cells refl
    (answered left (Chooses (out-Arm arm).body [] other ∷ k) env cells ok (λ b. chosen_fine b)))
  where
    go : FineBack left names env k
    go = keeping left names s (level.StatKind::If (arm ∷ []) other) env k h refl after

    chosen_fine : (b : Bool) → FineAt left (Give (value.Boolean b)) (Chooses (out-Arm arm).body [] other ∷ k) env cells
    chosen_fine true =
        by_step left _ (ExecuteAll (out-Arm arm).body) _ (Restores env ∷ k) env env cells cells
        (ap (λ b. source.chosen b (out-Arm arm).body [] other k env cells) (truth_of true)) (runs left k env go cells ok)
    chosen_fine false =
        by_step left _ (Choose [] other) _ k env env cells cells (ap (λ b. source.chosen b (out-Arm arm).body [] other k env cells)
        (truth_of false)) (other_fine left other names other_runs k env go cells ok)

-- ---- what holds of it

module _ (b : Bindings) where
  -- a condition and its block
  pub record ArmHolds (a : Arm) : Type 0 where
    within : arm_words a ≤ bulk_arm b a + 2
    answered : (vs : List Visible) (after : List Part) → Stand b vs (sight.arm a ∷ after) → ConditionFine (names_of vs) (out-Arm a).cond
    runs : (vs : List Visible) (after : List Part) → Stand b vs (sight.arm a ∷ after) → BlockFine (names_of vs) (out-Arm a).body

  pub arm_holds : (a : Arm) → ConditionHolds b (out-Arm a).cond → BlockHolds b (out-Arm a).body → ArmHolds a
  arm_holds a cond body =
      let words : arm_words a ≡ expr_words (out-Arm a).cond + block_words (out-Arm a).body + 2 = of_arm size.steps a in
      let counted : bulk_arm b a ≡ bulk_expr b (out-Arm a).cond + block_bulk b (out-Arm a).body = of_arm (bulk.steps b) a in
      record {
        within = omega (arith, words, counted, cond.within, body.within);
        answered = λ vs after s. cond.fine vs (sight.block [] (out-Arm a).body ∷ []) (in_arm b vs a after s);
        runs = λ vs after s. as_block (names_of vs) (out-Arm a).body (body.fine vs (behind_condition b vs (out-Arm a).cond (out-Arm a).body
            (in_arm b vs a after s)));
      }

  pub arm_by : (n : ℕ) → BlocksBelow b n → (a : Arm) → bulk_arm b a < n → unbuilt_in_arm b a ≡ None → ArmHolds a
  arm_by n inner a lt u =
      let counted : bulk_arm b a ≡ bulk_expr b (out-Arm a).cond + block_bulk b (out-Arm a).body = of_arm (bulk.steps b) a in
      let both = or_else_none (uses_of b (out-Arm a).cond).condition (first_unbuilt b (out-Arm a).body) (sym (unbuilt_of_arm b a) ∙ u) in
      arm_holds a (condition_holds b (out-Arm a).cond both.0) (inner (out-Arm a).body (omega (arith, counted, lt)) both.1)

  pub branch_holds : (s : Stat) (a : Arm) → out-StatKind s.kind ≡ level.StatKind::If (a ∷ []) None → ArmHolds a → StatementHolds b s
  branch_holds s a k first =
      let l : StatKindNode = level.StatKind::If (a ∷ []) None in
      let words : stat_words s ≡ arm_words a + 0 + 0 = of_stat_kind size.steps s l k in
      let counted : bulk_stat b s ≡ 8 + ((bulk_arm b a + 0) + 0) = of_stat_kind (bulk.steps b) s l k in
      record {
        within = omega (arith, words, counted, first.within);
        fine = λ vs after stands.
            let inside = in_branch b vs s after (a ∷ []) None stands k in
            choose_fine (names_of vs) s a None k (first.answered vs [] inside) (first.runs vs [] inside) tt;
      }

  pub branches_holds : (s : Stat) (a : Arm) (others : List Stat) → out-StatKind s.kind ≡ level.StatKind::If (a ∷ []) (Some others) → ArmHolds a →
      BlockHolds b others → StatementHolds b s
  branches_holds s a others k first other =
      let l : StatKindNode = level.StatKind::If (a ∷ []) (Some others) in
      let words : stat_words s ≡ arm_words a + 0 + block_words others = of_stat_kind size.steps s l k in
      let counted : bulk_stat b s ≡ 8 + ((bulk_arm b a + 0) + block_bulk b others) = of_stat_kind (bulk.steps b) s l k in
      record {
        within = omega (arith, words, counted, first.within, other.within);
        fine = λ vs after stands.
            let after_arm = sight.else_block (Some others) in
            let inside = in_branch b vs s after (a ∷ []) (Some others) stands k in
            choose_fine (names_of vs) s a (Some others) k (first.answered vs after_arm inside) (first.runs vs after_arm inside)
            (as_block (names_of vs) others (other.fine vs (in_else b vs s after a others stands k)));
      }

  pub branch_of : (n : ℕ) → BlocksBelow b n → (s : Stat) → bulk_stat b s < suc n → (arms : List Arm) (other : Option (List Stat)) →
      out-StatKind s.kind ≡ level.StatKind::If arms other → unbuilt_in_stat b s ≡ None → StatementHolds b s
  branch_of n inner s lt arms None k u =
      let p = arms_shape b s.at arms None (sym (of_stat_kind (steps b) s (level.StatKind::If arms None) k) ∙ u) in
      let one = k ∙ ap (λ (l : List Arm). level.StatKind::If l None) p.1 in
      let counted : bulk_stat b s ≡ 8 + ((bulk_arm b p.0 + 0) + 0) =
      of_stat_kind (bulk.steps b) s (level.StatKind::If (p.0 ∷ []) None) one in
      let built : unbuilt_in_arm b p.0 ≡ None = sym (of_stat_kind (steps b) s (level.StatKind::If (p.0 ∷ []) None) one) ∙ u in
      branch_holds s p.0 one (arm_by n inner p.0 (omega (arith, counted, lt)) built)
  branch_of n inner s lt arms (Some others) k u =
      let found = map (unbuilt_in_stat b) others in
      let p = arms_shape b s.at arms (Some found) (sym (of_stat_kind (steps b) s (level.StatKind::If arms (Some others)) k) ∙ u) in
      let one = k ∙ ap (λ (l : List Arm). level.StatKind::If l (Some others)) p.1 in
      let counted : bulk_stat b s ≡ 8 + ((bulk_arm b p.0 + 0) + block_bulk b others) =
      of_stat_kind (bulk.steps b) s (level.StatKind::If (p.0 ∷ []) (Some others)) one in
      let same = of_stat_kind (steps b) s (level.StatKind::If (p.0 ∷ []) (Some others)) one
      ∙ ap (or_else (unbuilt_in_arm b p.0)) (block_is b others) in
      let both = or_else_none (unbuilt_in_arm b p.0) (first_unbuilt b others) (sym same ∙ u) in
      branches_holds s p.0 others one (arm_by n inner p.0 (omega (arith, counted, lt)) both.0) (inner others (omega (arith, counted, lt)) both.1)
