-- The statements of a block, and a whole statement by its kind: the machine follows the script.
use Rattle.std.proofs.Common.{◌≡◌, List, Option, ap, ◌∙◌, ℕ, ◌≤◌, [], ◌∷◌, Some, None, refl, arith}
use Rattle.byte_text.specs.declared.fixed.StrId.{StrId}
use Rattle.syntax_tree.specs.declared.tree.ExprKind.TheViews as views
use Rattle.syntax_tree.specs.declared.tree.Arm.{out-Arm}
use Rattle.syntax_tree.specs.declared.tree.Stat.{Stat}
use Rattle.syntax_tree.specs.declared.tree.StatKind.{out-StatKind}
use Rattle.code_link.specs.declared.item.Item.{Item}
use Rattle.built_values.specs.declared.value.Value.{Value}
use Rattle.built_source.specs.States.{Environment, Frame, Continues, Restores, Execute, ExecuteAll, Done}
use Rattle.built_source.specs.Levels.{StatLevel}
use Rattle.built_source.specs.Runs.{start}
use Rattle.built_machine.specs.declared.code.Constant.{Constant}
use Rattle.built_machine.specs.States.{Registers}
use Rattle.built_emitter.specs.Names.{names_after, names_beyond}
use Rattle.built_emitter.specs.Code.{IsStatementCode, IsBlockCode}
use Rattle.built_emitter.proofs.Following.{names_are, Same, by_source, at_place, Afterwards, Back, BlockRuns, unchanged}
use Rattle.built_emitter.proofs.Declarations.{declare_same}
use Rattle.built_emitter.proofs.Assignments.{assign_same}
use Rattle.built_emitter.proofs.Prints.{print_same}
use Rattle.built_emitter.proofs.Branches.{choose_same, decide_same}
use Rattle.built_emitter.proofs.Loops.{loop_same}
use Rattle.built_emitter.proofs.Reading.{Reads, split}
use Rattle.built_emitter.proofs.Locals.{Locals, Since, locals_before, since_on}

module _ (words : List ℕ) (ks : List Constant) (place : ℕ → Option ℕ) where
  -- ---- blocks

  -- what is to be shown of the rest, where the statements of a block are over
  abbrev pub AfterAll : ℕ → Environment → List StrId → List Frame → ℕ → Type 0
  AfterAll left env names k to =
      (left' : ℕ) → left' ≤ left → (names' : List StrId) (env' : Environment) (cells : List Value) (regs : Registers) →
      Locals cells regs env' names' → Since env' names' env names → Same words ks place left' Done k env' cells to regs

  abbrev pub StatementsRun : List Stat → List StrId → (from to : ℕ) → Type 0
  StatementsRun ss names from to =
      (left : ℕ) (k : List Frame) (env : Environment) → AfterAll left env names k to → (cells : List Value) (regs : Registers) →
      Locals cells regs env names → Same words ks place left (ExecuteAll ss) k env cells from regs

  -- at the end of a block its variables are forgotten
  as_block : (ss : List Stat) (names : List StrId) (from to : ℕ) → StatementsRun ss names from to → BlockRuns words ks place ss names from to
  as_block ss names from to runs left k env go cells regs ls =
      runs left (Restores env ∷ k) env
      (λ left1 le1 names1 env1 cells1 regs1 ls1 since.
      by_source words ks place left1 _ Done _ k env1 env cells1 cells1 to regs1 refl
      (go left1 le1 cells1 regs1 (locals_before cells1 regs1 env1 names1 env names since ls1)))
      cells regs ls

  -- a statement without a new local
  keeping : (left : ℕ) (env : Environment) (names : List StrId) (s : Stat) (l : StatLevel) (k : List Frame) (to : ℕ) →
      out-StatKind s.kind ≡ l → names_beyond l names ≡ names → Afterwards words ks place left env names (names_after names s) k to →
      Back words ks place left env names k to
  keeping left env names s l k to opens e go = unchanged words ks place left env names s k to (names_are names s l opens ∙ e) go

  mutual
    statement_same : (names : List StrId) (s : Stat) (items : List Item) → IsStatementCode ks names s items → (from to : ℕ) →
        Reads words place from items to → (left : ℕ) (k : List Frame) (env : Environment) →
        Afterwards words ks place left env names (names_after names s) k to → (cells : List Value) (regs : Registers) → Locals cells regs env names →
        Same words ks place left (Execute s) k env cells from regs
    statement_same _ _ _ (IsStatementCode.declares names s x e is h code) from to r left k env go cells regs ls =
        declare_same words ks place names s x e is h code from to r left k env go cells regs ls
    statement_same _ _ _ (IsStatementCode.assigns names s target e x reg is h t there code) from to r left k env go cells regs ls =
        assign_same words ks place names s target e x reg is h t there code from to r left k env go cells regs ls
    statement_same _ _ _ (IsStatementCode.prints names s call is h code) from to r left k env go cells regs ls =
        print_same words ks place names s call is h code from to r left k env (keeping left env names s _ k to
        (ap out-StatKind h ∙ views.outs-StatKind::Call call) refl go) cells regs ls
    statement_same _ _ _ (IsStatementCode.chooses names s arm over cond body h cond_code body_code) from to r left k env go cells regs ls =
        choose_same words ks place names s arm over cond body h cond_code from to r
        (λ from' to' r'. as_block (out-Arm arm).body names from' to' (statements_same names (out-Arm arm).body body body_code from' to' r'))
        left k env (keeping left env names s _ k to (ap out-StatKind h ∙ views.outs-StatKind::If (arm ∷ []) None) refl go) cells regs ls
    statement_same _ _ _ (IsStatementCode.decides names s arm others to_other over cond body other h cond_code body_code other_code) from
        to r left k env go cells regs ls =
        decide_same words ks place names s arm others to_other over cond body other h cond_code from to r
        (λ from' to' r'. as_block (out-Arm arm).body names from' to' (statements_same names (out-Arm arm).body body body_code from' to' r'))
        (λ from' to' r'. as_block others names from' to' (statements_same names others other other_code from' to' r'))
        left k env (keeping left env names s _ k to (ap out-StatKind h ∙ views.outs-StatKind::If (arm ∷ []) (Some others)) refl go) cells regs ls
    statement_same _ _ _ (IsStatementCode.loops names s condition stats start over cond body h cond_code body_code) from to r left k env go cells regs ls =
        loop_same words ks place names s condition stats start over cond body h cond_code from to r
        (λ from' to' r'. as_block stats names from' to' (statements_same names stats body body_code from' to' r'))
        left k env (keeping left env names s _ k to (ap out-StatKind h ∙ views.outs-While condition stats) refl go) cells regs ls

    pub statements_same : (names : List StrId) (ss : List Stat) (items : List Item) → IsBlockCode ks names ss items → (from to : ℕ) →
        Reads words place from items to → StatementsRun ss names from to
    statements_same _ _ _ (IsBlockCode.nothing names) from to r left k env go cells regs ls =
        by_source words ks place left _ Done k k env env cells cells from regs refl
        (at_place words ks place left _ k env cells from to regs r (go left (omega arith) names env cells regs ls (Since.unchanged env names)))
    statements_same _ _ _ (IsBlockCode.more names s ss is js code rest) from to r left k env go cells regs ls =
        let p = split words place is js from to r in
        by_source words ks place left _ (Execute s) k (Continues ss ∷ k) env env cells cells from regs refl
        (statement_same names s is code from p.0 p.1 left (Continues ss ∷ k) env
        (λ left1 le1 env1 cells1 regs1 ls1 since1.
        by_source words ks place left1 _ (ExecuteAll ss) _ k env1 env1 cells1 cells1 p.0 regs1 refl
        (statements_same (names_after names s) ss js rest p.0 to p.2 left1 k env1
        (λ left2 le2 names2 env2 cells2 regs2 ls2 since2. go left2 (omega (arith, le1, le2)) names2 env2 cells2 regs2 ls2
        (since_on env2 names2 env1 (names_after names s) env names since2 since1))
        cells1 regs1 ls1))
        cells regs ls)
