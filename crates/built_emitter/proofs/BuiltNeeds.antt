-- What the rules on locals and registers say of the statements of a block.
use Rattle.std.proofs.Common.{◌≡◌, ℕ, ◌+◌, ◌≤◌, List, [], ◌∷◌, ◌++◌, map, reverse, length, Bool, true, false, refl, sym, ap, ◌∙◌, subst, arith, length-append}
use Rattle.std.proofs.lemmas.Bool.{le-leb, ltb-false}
use Rattle.std.specs.Prelude.{◌&&◌, nat_le, nat_lt, if◌then◌else◌}
use Rattle.std.proofs.lemmas.List.{length-reverse}
use Rattle.byte_text.specs.declared.fixed.StrId.{StrId}
use Rattle.syntax_tree.specs.declared.fault.ScopeFault.{ScopeFault}
use Rattle.syntax_tree.specs.declared.notes.Place.{Place}
use Rattle.syntax_tree.specs.declared.tree.ExprKind.TheOpen as level
use Rattle.syntax_tree.specs.declared.tree.Stat.{Stat}
use Rattle.syntax_tree.specs.declared.tree.StatKind.{out-StatKind}
use Rattle.syntax_tree.specs.Limits.{most_variables, most_registers}
use Rattle.syntax_tree.specs.Need as need
use Rattle.syntax_tree.specs.Need.{StatNeed, need_stat}
use Rattle.syntax_tree.specs.Rules as rules
use Rattle.syntax_tree.specs.Rules.{StatRules, too_many, rules_stat}
use Rattle.scope_laws.specs.Sight.{stat_shows}
use Rattle.built_emitter.specs.Names.{names_after, names_beyond}
use Rattle.built_emitter.specs.Fitting.{LocalsFit, StatementFits, BlockFits}
use Rattle.built_emitter.specs.Standing.{names_of}
use Rattle.built_emitter.proofs.NodeLevels.{StatKindNode, stat_kind_level, of_stat_kind}
use Rattle.built_emitter.proofs.StandingNames.{names_length}
use Rattle.built_emitter.proofs.StandingParts.{visible_length}

-- ---- lists with nothing in them
pub no_front : {X : Type 0} → (xs ys : List X) → xs ++ ys ≡ [] → xs ≡ []
no_front [] ys h = refl
no_front (x ∷ xs) ys h = cc

pub no_back : {X : Type 0} → (xs ys : List X) → xs ++ ys ≡ [] → ys ≡ []
no_back [] ys h = h
no_back (x ∷ xs) ys h = cc

-- ---- how many locals are live
-- a fault that is not there
pub not_broken : (broken : Bool) (f : ScopeFault) → (if broken then f ∷ [] else []) ≡ [] → broken ≡ false
not_broken true f h = cc
not_broken false f h = refl

second_fails : (a b : Bool) → a ≡ true → (a && b) ≡ false → b ≡ false
second_fails true b holds h = h
second_fails false b holds h = cc

pub not_too_many : (at live more : ℕ) → too_many at live more ≡ [] → live ≤ most_variables → live + more ≤ most_variables
not_too_many at live more h few =
    ltb-false most_variables (live + more) (second_fails (nat_le live most_variables) (nat_lt most_variables (live + more)) (le-leb live
    most_variables few) (not_broken _ _ h))

level_live : (at : ℕ) (p : Place) (l : StatKindNode) → (rules.stat_kind_rules (stat_kind_level rules.steps l) at).faults p ≡ [] →
    p.live ≤ most_variables → p.live + (rules.stat_kind_rules (stat_kind_level rules.steps l) at).declares ≤ most_variables
level_live at p (level.Local xs es) h few = not_too_many at p.live (length xs) (no_back _ _ h) few
level_live at p (level.LocalFunction x f) h few = not_too_many at p.live 1 (no_front _ _ h) few
level_live at p _ h few = omega arith

pub live_behind : (s : Stat) (p : Place) → (rules_stat s).faults p ≡ [] → p.live ≤ most_variables → p.live + (rules_stat s).declares ≤ most_variables
live_behind s p h few =
    let same = of_stat_kind rules.steps s (out-StatKind s.kind) refl in
    subst (λ (r : StatRules). p.live + r.declares ≤ most_variables) (sym same)
    (level_live s.at p (out-StatKind s.kind) (sym (ap (λ (r : StatRules). r.faults p) same) ∙ h) few)

-- as many names come in front as the statement shows
length_beyond : (names : List StrId) (l : StatKindNode) → length (names_beyond l names) ≡ length names + length (stat_shows l 0)
length_beyond names l =
    let shown = names_of (stat_shows l 0) in
    omega (arith, length-append (reverse shown) names, length-reverse shown, names_length (stat_shows l 0))

level_names : (at : ℕ) (l : StatKindNode) → length (stat_shows l 0) ≤ (rules.stat_kind_rules (stat_kind_level rules.steps l) at).declares
level_names at (level.Local xs es) = omega (arith, visible_length 0 xs)
level_names at _ = omega arith

pub names_live : (names : List StrId) (s : Stat) → length (names_after names s) ≤ length names + (rules_stat s).declares
names_live names s =
    let same = ap (λ (r : StatRules). r.declares) (of_stat_kind rules.steps s (out-StatKind s.kind) refl) in
    omega (arith, same, length_beyond names (out-StatKind s.kind), level_names s.at (out-StatKind s.kind))

level_declared : (l : StatKindNode) → length (stat_shows l 0) ≤ (need.stat_kind_need (stat_kind_level need.steps l)).declares
level_declared (level.Local xs es) = omega (arith, visible_length 0 xs)
level_declared _ = omega arith

pub names_declared : (names : List StrId) (s : Stat) → length (names_after names s) ≤ length names + (need_stat s).declares
names_declared names s =
    let same = ap (λ (r : StatNeed). r.declares) (of_stat_kind need.steps s (out-StatKind s.kind) refl) in
    omega (arith, same, length_beyond names (out-StatKind s.kind), level_declared (out-StatKind s.kind))

-- ---- blocks
pub first_fits : (names : List StrId) (s : Stat) (ss : List Stat) → BlockFits names (s ∷ ss) → StatementFits names s
first_fits names s ss f = record {
  place = f.place;
  locals = f.locals;
  unbroken = no_front _ _ f.unbroken;
  registers = omega (arith, f.registers, f.known);
}

pub others_fit : (names : List StrId) (s : Stat) (ss : List Stat) → BlockFits names (s ∷ ss) → BlockFits (names_after names s) ss
others_fit names s ss f =
    let live = names_live names s in
    let declared = names_declared names s in
    record {
      place = record f.place { live = f.place.live + (rules_stat s).declares };
      locals = record {
        live = omega (arith, live, f.locals.live);
        few = live_behind s f.place (no_front _ _ f.unbroken) f.locals.few;
      };
      unbroken = no_back _ _ f.unbroken;
      outside = f.outside;
      declared = f.declared + (need_stat s).declares;
      known = omega (arith, declared, f.known);
      registers = omega (arith, f.registers);
    }

-- a block inside of a statement
pub inner_fits : (names : List StrId) (p : Place) (ss : List Stat) → LocalsFit names p → rules.block (map rules_stat ss) p ≡ [] →
    length names + need.block_from 0 (map need_stat ss) ≤ most_registers → BlockFits names ss
inner_fits names p ss locals unbroken registers = record {
  place = p;
  locals = locals;
  unbroken = unbroken;
  outside = length names;
  declared = 0;
  known = omega arith;
  registers = registers;
}
