-- A call of `print` with one argument, as a statement.
use Rattle.op_words.specs.declared.insn.Insn.{Insn as Instruction}
use Rattle.std.proofs.Common.{◌≡◌, List, map, Option, sym, ap, ◌∙◌, ℕ, [], ◌∷◌, length, get_or, true, Some, None, refl, arith, ◌+◌, max, ◌++◌, subst, Result, OnOk}
use Rattle.std.proofs.lemmas.Result.{on_ok_weaker}
use Rattle.std.specs.Fmt.{signed_decimal}
use Rattle.resource.specs.declared.memory.OutOfMemory.{OutOfMemory}
use Rattle.byte_text.specs.declared.fixed.StrId.{StrId}
use Rattle.syntax_tree.specs.declared.tree.ExprKind as expr
use Rattle.syntax_tree.specs.declared.tree.ExprKind.TheOpen as level
use Rattle.syntax_tree.specs.declared.tree.ExprKind.TheViews as views
use Rattle.syntax_tree.specs.declared.tree.StatKind as stat
use Rattle.syntax_tree.specs.Need as need
use Rattle.syntax_tree.specs.Bulk as bulk
use Rattle.syntax_tree.specs.declared.tree.Expr.{Expr}
use Rattle.syntax_tree.specs.declared.tree.ExprKind.{out-ExprKind}
use Rattle.syntax_tree.specs.declared.tree.Stat.{Stat}
use Rattle.syntax_tree.specs.declared.tree.StatKind.{out-StatKind}
use Rattle.syntax_tree.specs.Fold.{Steps, at_expr, at_stat}
use Rattle.syntax_tree.specs.declared.bindings.Bindings.{Bindings}
use Rattle.syntax_tree.specs.Need.{ExprNeed, StatNeed, need_expr, need_stat}
use Rattle.syntax_tree.specs.declared.notes.Visible.{Visible}
use Rattle.syntax_tree.specs.Bulk.{bulk_expr, bulk_stat}
use Rattle.scope_laws.specs.Sight as sight
use Rattle.scope_laws.specs.Sight.{Part}
use Rattle.op_words.specs.declared.insn.Insn.TheVariants as insn
use Rattle.op_words.specs.Encoding.{encoded}
use Rattle.op_words.specs.Decoding.{insn_at}
use Rattle.code_link.specs.declared.item.Item.TheVariants as item
use Rattle.built_values.specs.declared.value.Value.TheVariants as value
use Rattle.built_values.proofs.Together as together
use Rattle.built_values.specs.Globals.{print_name}
use Rattle.built_values.specs.declared.value.Value.{Value}
use Rattle.built_values.specs.declared.end.End.TheVariants.{Stuck}
use Rattle.built_values.specs.Operations.{printed}
use Rattle.built_source.specs.Steps as source
use Rattle.built_source.specs.States.{Environment, Frame, Callee, Argument, Discards, Evaluate, Give, Execute, Done}
use Rattle.built_machine.specs.declared.code.Constant.TheVariants as constant
use Rattle.built_machine.specs.Steps as machine
use Rattle.built_machine.specs.declared.code.Constant.{Constant}
use Rattle.built_machine.specs.States.{Registers, put}
use Rattle.built_emitter.specs.Size as size
use Rattle.built_emitter.specs.Unbuilt.{steps, uses_of, unbuilt_in_stat, ExprUses, kind_uses, print_call}
use Rattle.built_emitter.specs.Form.{room, IsValue, IsCall, IsStatement}
use Rattle.built_emitter.specs.Size.{expr_words, stat_words}
use Rattle.built_emitter.specs.Standing.{Stand, names_of, StandsAt}
use Rattle.built_emitter.specs.declared.draft.Draft.{Draft}
use Rattle.built_emitter.specs.Names.{register_of}
use Rattle.built_emitter.specs.Code.{IsPrintCode, IsStatementCode}
use Rattle.built_emitter.specs.Emitted.{Appends, NamesPrint, EmitsValue, EmitsPrint, EmitsStatement}
use Rattle.built_emitter.proofs.StandingParts as parts
use Rattle.built_emitter.proofs.NodeLevels.{ExprKindNode, kind_level, of_kind, of_stat_kind}
use Rattle.built_emitter.proofs.Built.{provided_none}
use Rattle.built_emitter.proofs.EmittedStatements.{of_insns}
use Rattle.built_emitter.proofs.Following.{opened, begun, Same, by_source, by_machine, both_end, second_newest, expr_same, Back}
use Rattle.built_emitter.proofs.NeverStuck.{shows, unbound, printed_number, by_step, ValueFine, StatementFine, keeping}
use Rattle.built_emitter.proofs.Holding.{ValueHolds, CallHolds, StatementHolds, second, value_holds}
use Rattle.built_emitter.proofs.ItemLists.{extends_same, extends_on, constant_stays, appends_most}
use Rattle.built_emitter.proofs.StandingParts.{in_expr, in_quiet, right_one}
use Rattle.built_emitter.proofs.Reading.{Reads, split_insns}
use Rattle.built_emitter.proofs.BuiltNames.{name_kind, print_name_of, print_free}
use Rattle.built_emitter.proofs.NewestNames.{as_newest}
use Rattle.built_emitter.proofs.Locals.{Locals, read_none, Temporaries, fits_push}
use Rattle.built_emitter.proofs.EmittedValues.{appends_insns}

-- ---- a function of the tree at its node

module _ {K L M A E X F B S : Type 0} (s : Steps K L M A E X F B S) where
  pub of_call : (e f : Expr) (es : List Expr) → e.kind ≡ expr.Call f es →
      at_expr s e ≡ s.expr (record { id = e.id; at = e.at; line = e.line; kind = s.kind (level.ExprKind::Call (at_expr s f) (map (at_expr s) es)) })
  of_call e f es h = of_kind s e (level.ExprKind::Call f es) (ap out-ExprKind h ∙ views.outs-ExprKind::Call f es)

  pub of_call_statement : (t : Stat) (call : Expr) → t.kind ≡ stat.Call call →
      at_stat s t ≡ s.stat (record { id = t.id; at = t.at; line = t.line; kind = s.stat_kind (level.StatKind::Call (at_expr s call)) })
  of_call_statement t call h = of_stat_kind s t (level.StatKind::Call call) (ap out-StatKind h ∙ views.outs-StatKind::Call call)

-- ---- words

pub words_of_print : (call callee e : Expr) → call.kind ≡ expr.Call callee (e ∷ []) → expr_words call ≡ expr_words e + 3
words_of_print call callee e k =
    let words : expr_words call ≡ expr_words e + 0 + 3 = of_call size.steps call callee (e ∷ []) k in
    omega (arith, words)

pub words_of_call : (s : Stat) (call : Expr) → s.kind ≡ stat.Call call → stat_words s ≡ expr_words call
words_of_call s call k = of_call_statement size.steps s call k

-- ---- its parts

module _ (b : Bindings) where
  pub record HasPrint (names : List StrId) (callee : Expr) (args : List Expr) : Type 0 where
    pub argument : Expr
    pub one_argument : args ≡ argument ∷ []
    pub print : (uses_of b callee).print ≡ true
    pub value : IsValue b (room names 1) argument

  pub print_shape : (at : ℕ) (callee : Expr) (args : List Expr) → print_call at (uses_of b callee) (map (uses_of b) args) ≡ None →
      (argument : Expr) × (args ≡ argument ∷ []) × ((uses_of b callee).print ≡ true) × ((uses_of b argument).value ≡ None)
  print_shape at callee (argument ∷ []) h =
      let both = provided_none (uses_of b callee).print at (uses_of b argument).value h in (argument, refl, both.0, both.1)
  print_shape at callee _ h = cc

  pub print_parts : (names : List StrId) (call callee : Expr) (args : List Expr) → IsCall b names call → call.kind ≡ expr.Call callee args →
      HasPrint names callee args
  print_parts names call callee args f k =
      let p = print_shape call.at callee args (sym (ap (λ (u : ExprUses). u.call) (of_call (steps b) call callee args k)) ∙ f.built) in
      let one : call.kind ≡ expr.Call callee (p.0 ∷ []) = k ∙ ap (λ (es : List Expr). expr.Call callee es) p.1 in
      let needs : (need_expr call).need ≡ max (need_expr callee).need (1 + max (0 + (need_expr p.0).need) 0) =
      ap (λ (u : ExprNeed). u.need) (of_call need.steps call callee (p.0 ∷ []) one) in
      record {
        argument = p.0;
        one_argument = p.1;
        print = p.2;
        value = record { built = p.3; few = omega (arith, needs, f.fits) };
      }

  pub call_parts : (names : List StrId) (s : Stat) (call : Expr) → IsStatement b names s → s.kind ≡ stat.Call call → IsCall b names call
  call_parts names s call f k =
      let needs : (need_stat s).need ≡ (need_expr call).need =
      ap (λ (u : StatNeed). u.need) (of_call_statement need.steps s call k) in
      record {
        built = sym (of_call_statement (steps b) s call k) ∙ f.built;
        fits = omega (arith, needs, f.fits.registers);
      }

-- ---- where its parts stand

pub in_call : (b : Bindings) (vs : List Visible) (call callee : Expr) (args : List Expr) (after : List Part) →
    call.kind ≡ expr.Call callee args → Stand b vs (sight.expr call ∷ after) → Stand b vs (sight.expr callee ∷ map sight.expr args)
in_call b vs call callee args after k s =
    in_expr b vs call after (level.ExprKind::Call callee args) s (ap out-ExprKind k ∙ views.outs-ExprKind::Call callee args)

pub call_argument : (b : Bindings) (vs : List Visible) (call callee argument : Expr) → call.kind ≡ expr.Call callee (argument ∷ []) →
    StandsAt b vs (sight.expr call) → StandsAt b vs (sight.expr argument)
call_argument b vs call callee argument k s = right_one b vs callee argument (in_call b vs call callee (argument ∷ []) s.0 k s.1)

pub in_call_statement : (b : Bindings) (vs : List Visible) (x : Stat) (after : List Part) (call : Expr) → Stand b vs (sight.stat x ∷ after) →
    out-StatKind x.kind ≡ level.StatKind::Call call → Stand b vs (sight.expr call ∷ [])
in_call_statement b vs x after call s k = in_quiet b vs x after (level.StatKind::Call call) (sight.expr call ∷ []) (λ s. refl) s k

module _ (b : Bindings) (vs : List Visible) (s : Stat) (stands : StandsAt b vs (sight.stat s)) where
  pub call_stands : (call : Expr) → s.kind ≡ stat.Call call → StandsAt b vs (sight.expr call)
  call_stands call k =
      ([], in_call_statement b vs s stands.0 call stands.1 (ap out-StatKind k ∙ views.outs-StatKind::Call call))

-- ---- its code

-- a call of `print` with this argument, where no local has taken the name
pub record OnePrint (b : Bindings) (names : List StrId) (call e : Expr) : Type 0 where
  pub callee : Expr
  pub kind : call.kind ≡ expr.Call callee (e ∷ [])
  pub print : callee.kind ≡ expr.Name print_name
  pub free : register_of names print_name ≡ None
  pub value : IsValue b (room names 1) e
  pub words : expr_words e + 3 ≡ expr_words call

pub one_print : (b : Bindings) (vs : List Visible) (call callee e : Expr) (args : List Expr) → IsCall b (names_of vs) call →
    call.kind ≡ expr.Call callee args → e ≡ get_or args 0 e → StandsAt b vs (sight.expr call) → OnePrint b (names_of vs) call e
one_print b vs call callee e args f k h s =
    let p = print_parts b (names_of vs) call callee args f k in
    let same : e ≡ p.argument = h ∙ ap (λ l. get_or l 0 e) p.one_argument in
    let kind : call.kind ≡ expr.Call callee (e ∷ []) = k ∙ ap (λ l. expr.Call callee l) (p.one_argument ∙ ap (λ y. y ∷ []) (sym same)) in
    let named = print_name_of b callee p.print in
    let stand = in_call b vs call callee args s.0 k s.1 in
    record {
      callee = callee;
      kind = kind;
      print = name_kind callee print_name named.0;
      free = print_free b vs callee (map sight.expr args) stand named;
      value = subst (λ x. IsValue b (room (names_of vs) 1) x) (sym same) p.value;
      words = sym (words_of_print call callee e kind);
    }

pub print_emitted : (b : Bindings) (c0 c1 c2 c3 : Draft) (names : List StrId) (call e : Expr) → OnePrint b names call e → NamesPrint c0 →
    Appends c0 c1 2 (item.Insn (insn.GetGlobal (length names) 0) ∷ []) → c1.labels ≡ c0.labels →
    EmitsValue names (length names + 1) e c1 c2 → Appends c2 c3 1 (item.Insn (insn.Call (length names) 2 1) ∷ []) →
    c3.constants ≡ c2.constants → c3.labels ≡ c2.labels → EmitsPrint names call c0 c3
print_emitted b c0 c1 c2 c3 names call e p print w l1 q v last l3 =
    let tail = extends_same c2.constants.items c3.constants.items 0 (ap (λ c. c.items) last) in
    let get = insn.GetGlobal (length names) 0 in
    let called = insn.Call (length names) 2 1 in
    let end = appends_insns c1 c2 c3 (expr_words e) 1 q.insns (called ∷ []) q.items v in
    let all = appends_insns c0 c1 c3 2 (expr_words e + 1) (get ∷ []) (q.insns ++ called ∷ []) w end in
    record {
      insns = get ∷ (q.insns ++ called ∷ []);
      items = appends_most c0 c3 (2 + (expr_words e + 1)) (expr_words call) (map item.Insn (get ∷ (q.insns ++ called ∷ []))) (omega (arith, p.words))
          all;
      labels = l3 ∙ q.labels ∙ l1;
      code = λ ks more x.
          IsPrintCode.print p.callee e 0 q.insns p.kind p.print p.free (constant_stays c0.constants.items ks _ 0 (constant.Text print_name) (extends_on _ _ _
          _ _ all.constants x) print) (q.code ks _ (extends_on _ _ _ _ _ tail x));
    }

pub emits_of_print : (b : Bindings) (r : Result (Unit {0}) OutOfMemory) (c0 c1 c2 c3 : Draft) (names : List StrId) (base : ℕ) (call e : Expr) →
    OnePrint b names call e → base ≡ length names → NamesPrint c0 → Appends c0 c1 2 (item.Insn (insn.GetGlobal base 0) ∷ []) →
    c1.labels ≡ c0.labels → EmitsValue names (base + 1) e c1 c2 → c3.constants ≡ c2.constants → c3.labels ≡ c2.labels →
    OnOk r (Appends c2 c3 1 (item.Insn (insn.Call base 2 1) ∷ [])) → OnOk r (EmitsPrint names call c0 c3)
emits_of_print b r c0 c1 c2 c3 names base call e p is print w l1 q last l3 s =
    on_ok_weaker r
    (λ v. print_emitted b c0 c1 c2 c3 names call e p print
    (subst (λ n. Appends c0 c1 2 (item.Insn (insn.GetGlobal n 0) ∷ [])) is w) l1
    (subst (λ n. EmitsValue names (n + 1) e c1 c2) is q)
    (subst (λ n. Appends c2 c3 1 (item.Insn (insn.Call n 2 1) ∷ [])) is v) last l3)
    s

pub emits_of_call : (r : Result (Unit {0}) OutOfMemory) (c0 c1 : Draft) (names : List StrId) (s : Stat) (call : Expr) →
    s.kind ≡ stat.Call call → OnOk r (EmitsPrint names call c0 c1) → OnOk r (EmitsStatement names s c0 c1)
emits_of_call r c0 c1 names s call k q =
    on_ok_weaker r (of_insns c0 c1 (expr_words call) (stat_words s) _ _ (omega (arith, words_of_call s call k))
    (λ ks is c. IsStatementCode.prints names s call is k c)) q

-- ---- its code does what it does

module _ (words : List ℕ) (ks : List Constant) (place : ℕ → Option ℕ) where
  -- a call of `print` on the two newest temporaries
  pub show : (o : Option (List ℕ)) (names : List StrId) (from to : ℕ) → insn_at words from ≡ Some (insn.Call (length names) 2 1, to) →
      (left : ℕ) (k : List Frame) (env : Environment) → Back words ks place left env names k to → (v : Value) (cells : List Value) (regs : Registers) →
      Locals cells regs env names → printed v ≡ o → machine.row ks (insn.Call (length names) 2 1) from to regs ≡ machine.shows o to regs →
      Same words ks place left (Give v) (Argument value.Print ∷ Discards ∷ k) env cells from regs
  show None names from to r left k env go v cells regs ls e d =
      both_end words ks place left _ _ env cells from to regs _ Stuck (ap (λ o. source.shows o (Discards ∷ k) env cells) e) r d
  show (Some text) names from to r left k env go v cells regs ls e d =
      together.both_show _ _ _ _ _ _ _ _ _ (ap (λ o. source.shows o (Discards ∷ k) env cells) e) (ap (λ o. machine.act ks o from regs) r ∙ d) refl
      (by_source words ks place left _ Done _ k env env cells cells to regs refl
      (go left (omega arith) cells regs ls))

  pub print_same : (names : List StrId) (s : Stat) (call : Expr) (is : List Instruction) → s.kind ≡ stat.Call call →
      IsPrintCode ks names call is → (from to : ℕ) → Reads words place from (map item.Insn is) to →
      (left : ℕ) (k : List Frame) (env : Environment) → Back words ks place left env names k to → (cells : List Value) (regs : Registers) →
      Locals cells regs env names → Same words ks place left (Execute s) k env cells from regs
  print_same names s call _ h (IsPrintCode.print callee e c is called named free constant code) from to r left k env go cells regs ls =
      let n = length names in
      let opens : out-ExprKind call.kind ≡ level.ExprKind::Call callee (e ∷ []) = ap out-ExprKind called ∙ views.outs-ExprKind::Call callee (e ∷ []) in
      let p = split_insns words place is (insn.Call n 2 1 ∷ []) _ to r.1 in
      by_source words ks place left _ (Evaluate call) k (Discards ∷ k) env env cells cells from regs
      (begun s _ k env cells (ap out-StatKind h ∙ views.outs-StatKind::Call call))
      (by_source words ks place left _ (Evaluate callee) _ (Callee e ∷ Discards ∷ k) env env cells cells from regs
      (opened call _ (Discards ∷ k) env cells opens)
      (by_source words ks place left _ (Give value.Print) _ (Callee e ∷ Discards ∷ k) env env cells cells from regs
      (opened callee (level.Name print_name) (Callee e ∷ Discards ∷ k) env cells (ap out-ExprKind named ∙ views.outs-Name print_name)
      ∙ ap (λ o. source.named o print_name (Callee e ∷ Discards ∷ k) env cells)
      (read_none cells regs env names print_name ls (as_newest names print_name None free)))
      (by_source words ks place left _ (Evaluate e) _ (Argument value.Print ∷ Discards ∷ k) env env cells cells from regs refl
      (by_machine words ks place left _ (Argument value.Print ∷ Discards ∷ k) env cells from _ _ regs (put regs n value.Print) _ r.0
      (ap (λ o. machine.fetch o n (from + length (encoded (insn.GetGlobal n c))) regs) constant)
      (expr_same words ks place names (n + 1) e is code (value.Print ∷ []) (omega arith) _ p.0 p.1 left (Argument value.Print ∷ Discards ∷ k) env
      (λ left1 le1 v cells1 regs1 fits1.
      let at = second_newest words ks place names [] n (omega arith) value.Print v cells1 regs1 env fits1 in
      show (printed v) names p.0 to (p.2.0 ∙ ap (λ q. Some (insn.Call n 2 1, q)) p.2.1) left1 k env
      (λ left2 le2. go left2 (omega (arith, le1, le2))) v cells1 regs1 fits1.locals refl
      (ap (λ u. machine.call u (regs1 (n + 1)) true true to regs1) at.0 ∙ ap (λ u. machine.shows (printed u) to regs1) at.1))
      cells _ (fits_push cells regs env names [] n value.Print (omega arith) (record { locals = ls; temporaries = Temporaries.none })))))))

-- ---- it is not stuck

-- a call of `print` with one argument
pub print_fine : (names : List StrId) (s : Stat) (call callee argument : Expr) → out-StatKind s.kind ≡ level.StatKind::Call call →
    out-ExprKind call.kind ≡ level.ExprKind::Call callee (argument ∷ []) → out-ExprKind callee.kind ≡ level.Name print_name →
    register_of names print_name ≡ None → ValueFine names argument → StatementFine names s
print_fine names s call callee argument h opens named free given left k env cells ok go =
    let after = Argument value.Print ∷ Discards ∷ k in
    by_step left _ (Evaluate call) k (Discards ∷ k) env env cells cells (begun s _ k env cells h)
    (by_step left _ (Evaluate callee) _ (Callee argument ∷ Discards ∷ k) env env cells cells (opened call _ (Discards ∷ k) env cells opens)
    (by_step left _ (Give value.Print) _ (Callee argument ∷ Discards ∷ k) env env cells cells
    (opened callee (level.Name print_name) (Callee argument ∷ Discards ∷ k) env cells named
    ∙ ap (λ o. source.named o print_name (Callee argument ∷ Discards ∷ k) env cells)
    (unbound (length cells) env names print_name ok.bound (as_newest names print_name None free)))
    (by_step left _ (Evaluate argument) _ after env env cells cells refl
    (given left after env cells ok
    (λ n. shows left _ _ (signed_decimal n) (ap (λ o. source.shows o (Discards ∷ k) env cells) (printed_number n))
    (by_step left _ Done _ k env env cells cells refl (keeping left names s _ env k h refl go left (omega arith) cells ok)))))))

-- ---- what holds of it

module _ (b : Bindings) where
  pub print_holds : (e callee argument : Expr) → out-ExprKind e.kind ≡ level.ExprKind::Call callee (argument ∷ []) →
      (uses_of b callee).print ≡ true → ValueHolds b argument → CallHolds b e
  print_holds e callee argument k print given =
      let words : expr_words e ≡ expr_words argument + 0 + 3 = of_kind size.steps e (level.ExprKind::Call callee (argument ∷ [])) k in
      let counted : bulk_expr b e ≡ 6 + (bulk_expr b callee + (bulk_expr b argument + 0)) =
      of_kind (bulk.steps b) e (level.ExprKind::Call callee (argument ∷ [])) k in
      record {
        within = omega (arith, words, counted, given.within);
        fine = λ vs after s h stands.
            let both = in_expr b vs e after (level.ExprKind::Call callee (argument ∷ [])) stands k in
            let named = print_name_of b callee print in
            print_fine (names_of vs) s e callee argument h k named.0 (print_free b vs callee (sight.expr argument ∷ []) both named)
            (given.fine vs [] (second b callee argument vs both));
      }

  -- a call, by its level
  abbrev pub IsCallLevel : ExprKindNode → Type 0
  IsCallLevel l = (callee : Expr) × (args : List Expr) × (l ≡ level.ExprKind::Call callee args)

  pub call_level : (id place : ℕ) (l : ExprKindNode) → (kind_uses b (kind_level (steps b) l) id place).call ≡ None → IsCallLevel l
  call_level id place (level.ExprKind::Call callee args) u = (callee, args, refl)
  call_level id place _ u = cc

  pub call_of : (e callee : Expr) (args : List Expr) → out-ExprKind e.kind ≡ level.ExprKind::Call callee args → (uses_of b e).call ≡ None →
      CallHolds b e
  call_of e callee args k u =
      let p = print_shape b e.at callee args (sym (ap (λ (u : ExprUses). u.call) (of_kind (steps b) e (level.ExprKind::Call callee args) k)) ∙ u) in
      print_holds e callee p.0 (k ∙ ap (λ (es : List Expr). level.ExprKind::Call callee es) p.1) p.2 (value_holds b p.0 p.3)

  pub call_holds : (e : Expr) → (uses_of b e).call ≡ None → CallHolds b e
  call_holds e u =
      let q = call_level e.id e.at (out-ExprKind e.kind) (sym (ap (λ (u : ExprUses). u.call) (of_kind (steps b) e (out-ExprKind e.kind) refl))
      ∙ u) in
      call_of e q.0 q.1 q.2 u

  pub call_statement_holds : (s : Stat) (call : Expr) → out-StatKind s.kind ≡ level.StatKind::Call call → CallHolds b call → StatementHolds b s
  call_statement_holds s call k called =
      let words : stat_words s ≡ expr_words call = of_stat_kind size.steps s (level.StatKind::Call call) k in
      let counted : bulk_stat b s ≡ 8 + bulk_expr b call = of_stat_kind (bulk.steps b) s (level.StatKind::Call call) k in
      record {
        within = omega (arith, words, counted, called.within);
        fine = λ vs after stands. called.fine vs [] s k (in_call_statement b vs s after call stands k);
      }

  pub call_statement_of : (s : Stat) (call : Expr) → out-StatKind s.kind ≡ level.StatKind::Call call → unbuilt_in_stat b s ≡ None →
      StatementHolds b s
  call_statement_of s call k u =
      call_statement_holds s call k (call_holds call (sym (of_stat_kind (steps b) s (level.StatKind::Call call) k) ∙ u))
