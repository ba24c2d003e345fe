-- Texts come into the world of a machine, and nothing else of it changes.
use Rattle.std.proofs.Common.{◌≡◌, ℕ, zero, suc, ◌+◌, ◌-◌, ◌<◌, List, [], ◌∷◌, length, take, drop, get_or, refl, sym, ◌∙◌, ap, subst, arith}
use Rattle.std.specs.List.{AllByRecursion}
use Rattle.value_model.specs.Values as m
use Rattle.value_model.specs.declared.event.Reply.{Reply}
use Rattle.value_model.specs.declared.value.Value.{Value}
use Rattle.value_model.specs.declared.value.Value.TheVariants.{Nil}
use Rattle.luau_tables.specs.Own.{AreTexts}
use Rattle.luau_tables.specs.Worlds.{IsWorld, MayUseIn, Extends, Keeps, store_in}
use Rattle.luau_tables.specs.declared.globals.LibWorld.{LibWorld}
use Rattle.luau_tables.proofs.MoreTexts.{extends_self, extends_on}
use Rattle.luau_tables.proofs.WorldsKept.{texts_keep, texts_store, may_use_on}
use Rattle.call_frames.specs.Stacks.{StackView}
use Rattle.machine_meaning.specs.States.{Focus}
use Rattle.machine_code.specs.declared.code.Code.{Code}
use Rattle.machine_world.specs.Parts.{part}
use Rattle.machine_world.specs.Sound.{IsMachine}
use Rattle.machine_world.proofs.Calling.{all_take}
use Rattle.machine_world.proofs.Delivering.{all_drop}
use Rattle.machine_world.proofs.FrameKinds.{all_on}
use Rattle.machine_rows.specs.Texts.{KnowsTexts}
use Rattle.machine_rows.proofs.Named.{part_named, machine_named, knows_named}

pub record Growth (w w' : LibWorld) : Type 0 where
  pub same : w' ≡ record w { names = w'.names }
  pub extends : Extends w.names w'.names
  pub interned : AreTexts w'.names

pub growth_self : (w : LibWorld) → IsWorld w → Growth w w
growth_self w is = record { same = refl; extends = extends_self w.names; interned = is.own.interned }

pub growth_on : (w w1 : LibWorld) (names : List m.Bytes) → Growth w w1 → Extends w1.names names → (AreTexts w1.names → AreTexts names) →
    Growth w (record w1 { names = names })
growth_on w w1 names g extends texts =
    record {
      same = ap (λ (u : LibWorld). record u { names = names }) g.same;
      extends = extends_on w.names w1.names names g.extends extends;
      interned = texts g.interned;
    }

module _ (w w' : LibWorld) (g : Growth w w') where
  pub growth_machine : (s : StackView) → IsMachine w s → IsMachine w' s
  growth_machine s is = subst (λ u. IsMachine u s) (sym g.same) (machine_named w w'.names s g.extends g.interned is)

  pub growth_keeps : IsWorld w → Keeps w w'
  growth_keeps is = subst (λ u. Keeps w u) (sym g.same) (texts_keep w is w'.names g.extends g.interned)

  pub growth_knows : (code : Code) (s : StackView) → KnowsTexts w code s → KnowsTexts w' code s
  growth_knows code s known = subst (λ u. KnowsTexts u code s) (sym g.same) (knows_named w w'.names code s g.extends known)

  pub growth_part : (code : Code) (s : StackView) → IsMachine w s → KnowsTexts w code s → (x : Focus) (replies : List Reply) →
      part w' code s x replies ≡ part w code s x replies
  growth_part code s is known x replies =
      ap (λ u. part u code s x replies) g.same ∙ part_named w w'.names code s x replies g.extends g.interned is known

  pub growth_store : IsWorld w → store_in w' ≡ store_in w
  growth_store is = ap store_in g.same ∙ texts_store w is w'.names g.extends g.interned

  -- a value of a list that the script may use
  pub growth_use : IsWorld w → (vs : List Value) (i : ℕ) (v : Value) → v ≡ get_or vs i Nil → i < length vs → AllByRecursion (MayUseIn w) vs → MayUseIn w' v
  growth_use is vs i v e low h = may_use_on w w' (growth_keeps is) v (subst (MayUseIn w) (sym e) (all_at vs i low h))
    where
      all_at : (vs : List Value) (i : ℕ) → i < length vs → AllByRecursion (MayUseIn w) vs → MayUseIn w (get_or vs i Nil)
      all_at [] i low h = absurd (omega (arith, low))
      all_at (v ∷ vs) zero low h = h.0
      all_at (v ∷ vs) (suc i) low h = all_at vs i (omega (arith, low)) h.1

  -- the values behind one of them
  pub later_usable : IsWorld w → (vs rest : List Value) (i : ℕ) → rest ≡ take (length vs - (i + 1)) (drop (i + 1) vs) → AllByRecursion (MayUseIn w) vs →
      AllByRecursion (MayUseIn w') rest
  later_usable is vs rest i e h =
      subst (AllByRecursion (MayUseIn w')) (sym e)
      (all_take (MayUseIn w') (length vs - (i + 1)) (drop (i + 1) vs) (all_drop (MayUseIn w') (i + 1) vs (all_on (MayUseIn w) (MayUseIn w') (may_use_on w w' (growth_keeps is)) vs h)))
