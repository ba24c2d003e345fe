-- A block, as far as its statements are built; and the whole script.
use Rattle.std.proofs.Common.{◌≡◌, ℕ, ◌+◌, ◌<◌, ◌≤◌, List, [], ◌∷◌, ◌++◌, map, length, get_or, drop, false, None, refl, sym, ap, ◌∙◌, subst, arith}
use Rattle.std.specs.Prelude.{nat_lt, if◌then◌else◌}
use Rattle.std.proofs.lemmas.Bool.{ltb-false}
use Rattle.std.proofs.lemmas.List.{drop_more}
use Rattle.syntax_tree.specs.declared.bindings.Bindings.{Bindings}
use Rattle.syntax_tree.specs.declared.fault.ScopeFault.{ScopeFault}
use Rattle.syntax_tree.specs.declared.notes.Place.{Place}
use Rattle.syntax_tree.specs.declared.tree.FuncBody.{FuncBody, out-FuncBody}
use Rattle.syntax_tree.specs.declared.tree.Stat.{Stat}
use Rattle.syntax_tree.specs.declared.tree.Tree.{Tree}
use Rattle.syntax_tree.specs.Bound.{known, bound, faults}
use Rattle.syntax_tree.specs.Bulk as bulk
use Rattle.syntax_tree.specs.Limits.{most_variables, most_registers, most_bulk}
use Rattle.syntax_tree.specs.Lists.{total}
use Rattle.syntax_tree.specs.Need as need
use Rattle.syntax_tree.specs.Numbers.{numbered}
use Rattle.syntax_tree.specs.Rules as rules
use Rattle.syntax_tree.specs.Rules.{too_many, rules_func, rules_stat}
use Rattle.syntax_tree.specs.Sizes.{size_faults}
use Rattle.scope_laws.specs.Sight.{stat, function, in_part, nothing, visible, enter, itself}
use Rattle.built_emitter.specs.Correct.{RunsHaveReports}
use Rattle.built_emitter.specs.Fitting.{BlockFits}
use Rattle.built_emitter.specs.Size.{most_words, block_words}
use Rattle.built_emitter.specs.Standing.{Stand, IsBound}
use Rattle.built_emitter.specs.Unbuilt.{or_else, unbuilt_in_stat, first_unbuilt}
use Rattle.built_emitter.proofs.BuiltNeeds.{no_front, no_back, not_broken, not_too_many}
use Rattle.built_emitter.proofs.BuiltTrees.{block_holds}
use Rattle.built_emitter.proofs.NeverStuck.{script_fine}
use Rattle.built_emitter.proofs.NodeLevels.{of_function}

pub next_is : (block : List Stat) (i : ℕ) (s : Stat) → i < length block → s ≡ get_or block i s → drop i block ≡ s ∷ drop (i + 1) block
next_is block i s lt h = drop_more block i s lt ∙ ap (λ t. t ∷ drop (i + 1) block) (sym h)

module _ (b : Bindings) where
  -- the first i statements are built
  abbrev pub HasBuilt : List Stat → ℕ → Type 0
  HasBuilt block i = first_unbuilt b (drop i block) ≡ first_unbuilt b block

  pub built_more : (block : List Stat) (i : ℕ) (s : Stat) → HasBuilt block i → i < length block → s ≡ get_or block i s →
      None ≡ unbuilt_in_stat b s → HasBuilt block (i + 1)
  built_more block i s rest lt h built =
      ap (λ o. or_else o (first_unbuilt b (drop (i + 1) block))) built ∙ ap (first_unbuilt b) (sym (next_is block i s lt h)) ∙ rest

-- ---- the script
rules_hold : (tree : Tree) → faults tree ≡ [] → rules_func tree.main ≡ []
rules_hold tree h = no_front _ _ (no_back (known tree).faults _ h)

sizes_hold : (tree : Tree) → faults tree ≡ [] → size_faults (bound tree) tree.main ≡ []
sizes_hold tree h = no_front _ _ (no_back (rules_func tree.main) _ (no_back (known tree).faults _ h))

-- a bound that is kept, since no fault says that it is not
kept : (most n : ℕ) (f : ScopeFault) → (if nat_lt most n then f ∷ [] else []) ≡ [] → n ≤ most
kept most n f h = ltb-false most n (not_broken _ _ h)

narrow : (tree : Tree) → faults tree ≡ [] → need.need tree.main ≤ most_registers
narrow tree h = kept most_registers (need.need tree.main) _ (no_front _ _ (sizes_hold tree h))

short : (tree : Tree) → faults tree ≡ [] → bulk.bulk (bound tree) tree.main ≤ most_bulk
short tree h = kept most_bulk (bulk.bulk (bound tree) tree.main) _ (no_back _ _ (sizes_hold tree h))

pub script_fits : (tree : Tree) → faults tree ≡ [] → BlockFits [] (out-FuncBody tree.main).body
script_fits tree h =
    let f = out-FuncBody tree.main in
    let start : Place = record { in_loop = false; vararg = f.vararg; live = length f.params } in
    let first = too_many f.at 0 (length f.params) in
    let body = rules.block (map rules_stat f.body) start in
    let ruled : rules_func tree.main ≡ first ++ body = of_function rules.steps tree.main in
    let unbroken : first ++ body ≡ [] = sym ruled ∙ rules_hold tree h in
    let few : 0 + length f.params ≤ most_variables = not_too_many f.at 0 (length f.params) (no_front first body unbroken) (omega arith) in
    let needs : need.need tree.main ≡ length f.params + need.block_from 0 (map need.need_stat f.body) = of_function need.steps tree.main in
    record {
      place = start;
      locals = record { live = omega arith; few = omega arith };
      unbroken = no_back first body unbroken;
      outside = 0;
      declared = 0;
      known = omega arith;
      registers = omega (arith, narrow tree h);
    }

pub script_small : (tree : Tree) (b : Bindings) → IsBound tree b → faults tree ≡ [] → first_unbuilt b (out-FuncBody tree.main).body ≡ None →
    block_words (out-FuncBody tree.main).body ≤ most_words
script_small tree b bound_to h built =
    let body = (out-FuncBody tree.main).body in
    let counted : bulk.bulk b tree.main ≡ 8 + total (map (bulk.bulk_stat b) body) =
    ap (λ (u : bulk.FuncBulk). u.own) (of_function (bulk.steps b) tree.main) in
    let same : bulk.bulk b tree.main ≡ bulk.bulk (bound tree) tree.main = ap (λ (b : Bindings). bulk.bulk b tree.main) bound_to.is in
    omega (arith, short tree h, counted, same, (block_holds b body built).within)

-- the block of a script
pub script_stands : (tree : Tree) (b : Bindings) → IsBound tree b → Stand b [] (map stat (out-FuncBody tree.main).body)
script_stands tree b h =
    let f : FuncBody = (numbered h.main).main in
    subst (λ (t : Tree). Stand b [] (map stat (out-FuncBody t.main).body)) (sym h.numbers)
    (record {
      main = h.main;
      is = h.is ∙ ap bound h.numbers;
      sight = (in_part (function f) nothing).sight;
      seen = enter nothing (function f) [] itself;
      scope = ap (visible 0) (ap (λ (t : Tree). (out-FuncBody t.main).params) (sym h.numbers) ∙ h.none);
      first = refl;
      below = tt;
    })

pub has_report : RunsHaveReports
has_report tree b bound_to built =
    let body = (out-FuncBody tree.main).body in
    script_fine body ((block_holds b body built).fine [] (script_stands tree b bound_to))
