-- What holds of each statement that is built, by its kind.
use Rattle.std.proofs.Common.{◌≡◌, List, map, Option, sym, ◌∙◌, ℕ, ◌<◌, [], ◌∷◌, None, refl, arith, subst, zero, suc}
use Rattle.byte_text.specs.declared.fixed.StrId.{StrId}
use Rattle.syntax_tree.specs.declared.tree.ExprKind.TheOpen as level
use Rattle.syntax_tree.specs.declared.tree.Arm.{Arm}
use Rattle.syntax_tree.specs.declared.tree.Expr.{Expr}
use Rattle.syntax_tree.specs.declared.tree.Stat.{Stat}
use Rattle.syntax_tree.specs.declared.tree.StatKind.{out-StatKind}
use Rattle.syntax_tree.specs.declared.bindings.Bindings.{Bindings}
use Rattle.syntax_tree.specs.Bulk.{bulk_stat}
use Rattle.scope_laws.specs.Sight.{stat}
use Rattle.built_emitter.specs.Unbuilt.{steps, unbuilt_in_stat, first_unbuilt, stat_kind_uses}
use Rattle.built_emitter.specs.Standing.{names_of, scope_after}
use Rattle.built_emitter.proofs.NodeLevels.{StatKindNode, stat_kind_level, of_stat_kind}
use Rattle.built_emitter.proofs.Built.{or_else_none}
use Rattle.built_emitter.proofs.NeverStuck.{StatementsFine, no_statements_fine, statements_fine}
use Rattle.built_emitter.proofs.Holding.{block_bulk, StatementHolds, BlockHolds, BlocksBelow}
use Rattle.built_emitter.proofs.Declarations.{local_of}
use Rattle.built_emitter.proofs.Assignments.{assignment_of}
use Rattle.built_emitter.proofs.Prints.{call_statement_of}
use Rattle.built_emitter.proofs.Branches.{branch_of}
use Rattle.built_emitter.proofs.Loops.{loop_of}
use Rattle.built_emitter.proofs.StandingParts.{behind_statement, names_behind}

module _ (b : Bindings) where
  -- the kinds of which some statements are built
  data BuiltKind : StatKindNode → Type 0 where
    a_local : (xs : List StrId) (es : List Expr) → BuiltKind (level.Local xs es)
    an_assignment : (ts es : List Expr) → BuiltKind (level.Assign ts es)
    a_call : (call : Expr) → BuiltKind (level.StatKind::Call call)
    a_branch : (arms : List Arm) (other : Option (List Stat)) → BuiltKind (level.StatKind::If arms other)
    a_loop : (cond : Expr) (body : List Stat) → BuiltKind (level.While cond body)

  built_kind : (place : ℕ) (l : StatKindNode) → stat_kind_uses (stat_kind_level (steps b) l) place ≡ None → BuiltKind l
  built_kind place (level.Local xs es) u = BuiltKind.a_local xs es
  built_kind place (level.Assign ts es) u = BuiltKind.an_assignment ts es
  built_kind place (level.StatKind::Call call) u = BuiltKind.a_call call
  built_kind place (level.StatKind::If arms other) u = BuiltKind.a_branch arms other
  built_kind place (level.While cond body) u = BuiltKind.a_loop cond body
  built_kind place _ u = cc

  statement_by : (n : ℕ) → BlocksBelow b n → (s : Stat) → bulk_stat b s < suc n → (l : StatKindNode) → BuiltKind l → out-StatKind s.kind ≡ l →
      unbuilt_in_stat b s ≡ None → StatementHolds b s
  statement_by n inner s lt _ (BuiltKind.a_local xs es) k u = local_of b s xs es k u
  statement_by n inner s lt _ (BuiltKind.an_assignment ts es) k u = assignment_of b s ts es k u
  statement_by n inner s lt _ (BuiltKind.a_call call) k u = call_statement_of b s call k u
  statement_by n inner s lt _ (BuiltKind.a_branch arms other) k u = branch_of b n inner s lt arms other k u
  statement_by n inner s lt _ (BuiltKind.a_loop cond body) k u = loop_of b n inner s lt cond body k u

  statements_by : (n : ℕ) → BlocksBelow b n → (ss : List Stat) → block_bulk b ss < suc n → first_unbuilt b ss ≡ None → BlockHolds b ss
  statements_by n inner [] lt u = record { within = omega arith; fine = λ vs s. no_statements_fine (names_of vs) }
  statements_by n inner (s ∷ ss) lt u =
      let both = or_else_none (unbuilt_in_stat b s) (first_unbuilt b ss) u in
      let l : StatKindNode = out-StatKind s.kind in
      let kind = built_kind s.at l (sym (of_stat_kind (steps b) s l refl) ∙ both.0) in
      let first = statement_by n inner s (omega (arith, lt)) l kind refl both.0 in
      let others = statements_by n inner ss (omega (arith, lt)) both.1 in
      record {
        within = omega (arith, first.within, others.within);
        fine = λ vs stands.
            statements_fine (names_of vs) s ss (first.fine vs (map stat ss) stands)
            (subst (λ names. StatementsFine names ss) (names_behind b vs s) (others.fine (scope_after b vs s) (behind_statement b vs s
            (map stat ss) stands)));
      }

  blocks_below : (n : ℕ) → BlocksBelow b n
  blocks_below zero ss lt u = absurd (omega (arith, lt))
  blocks_below (suc n) ss lt u = statements_by n (blocks_below n) ss lt u

  pub block_holds : (ss : List Stat) → first_unbuilt b ss ≡ None → BlockHolds b ss
  block_holds ss u = blocks_below (suc (block_bulk b ss)) ss (omega arith) u
