-- Texts come to a world: what stays, and how rows run on.
use Rattle.std.proofs.Common.{◌≡◌, List, map, Result, Ok, Err, refl, sym, ◌∙◌, ap, subst}
use Rattle.value_model.specs.Answers as model
use Rattle.value_model.specs.Parts.{meant}
use Rattle.value_model.specs.Store.{Store}
use Rattle.value_model.specs.Values.{Bytes}
use Rattle.value_model.specs.declared.value.Value.{Value}
use Rattle.luau_tables.specs.Own.{AreTexts}
use Rattle.luau_tables.specs.Worlds.{IsWorld, MayUseIn, Keeps, Extends, ChangesTables, store_in}
use Rattle.luau_tables.specs.declared.globals.LibWorld.{LibWorld}
use Rattle.luau_tables.proofs.MoreTexts.{extends_self, extends_on, all_meant_more, more_texts, store_more, use_more}
use Rattle.luau_tables.proofs.OwnKept.{changes_nothing}
use Rattle.lib_arguments.specs.Checks.{Checks}
use Rattle.lib_arguments.specs.Rows.{Runs, LeavesStore}
use Rattle.lib_arguments.specs.declared.ending.Ending.{Ending}
use Rattle.lib_arguments.proofs.RowsRun.{each_map, ends_runs, found, have_texts}
use Rattle.lib_string.specs.Reading.{AddsTexts, MayUseAll, Reads}

pub adds_self : (a : LibWorld) → IsWorld a → AddsTexts a a
adds_self a h = record { kept = refl; extends = extends_self a.names; texts = h.own.interned }

pub adds_on : (a b c : LibWorld) → AddsTexts a b → AddsTexts b c → AddsTexts a c
adds_on a b c h k =
    record {
      kept = k.kept ∙ ap (λ (w : LibWorld). record w { names = c.names }) h.kept;
      extends = extends_on a.names b.names c.names h.extends k.extends;
      texts = k.texts;
    }

module _ (a b : LibWorld) (adds : AddsTexts a b) where
  pub adds_use : (v : Value) → MayUseIn a v → MayUseIn b v
  adds_use v h = subst (λ (w : LibWorld). MayUseIn w v) (sym adds.kept) (use_more a.names b.names adds.extends a.arena a.owner v h)

  pub adds_all : (vs : List Value) → MayUseAll a vs → MayUseAll b vs
  adds_all vs h = each_map (MayUseIn a) (MayUseIn b) adds_use vs h

  pub adds_meant : (vs : List Value) → MayUseAll a vs → map (meant b.names) vs ≡ map (meant a.names) vs
  adds_meant vs h = all_meant_more a.names b.names adds.extends vs (have_texts a vs h)

  module _ (world : IsWorld a) where
    pub adds_world : IsWorld b
    adds_world =
        subst IsWorld (sym adds.kept)
        (record { owner = world.owner; own = more_texts a.names b.names adds.extends a.globals a.arena a.owner adds.texts world.own })

    pub adds_store : store_in b ≡ store_in a
    adds_store = ap store_in adds.kept ∙ store_more a.names b.names adds.extends a.globals a.arena a.owner world.own

    pub adds_keeps : Keeps a b
    adds_keeps =
        record {
          world = adds_world;
          owner = ap (λ (w : LibWorld). w.owner) adds.kept;
          globals = ap (λ (w : LibWorld). w.globals) adds.kept;
          names = adds.extends;
          arena = subst (λ (w : LibWorld). ChangesTables a.owner a.arena w.arena) (sym adds.kept) (changes_nothing a.owner a.arena);
        }

    pub adds_reads : (args : List Value) → MayUseAll a args → Reads a b args
    adds_reads args h = record { adds = adds; world = adds_world; usable = adds_all args h; same = adds_meant args h }

-- ---- rows

-- a row that runs where texts came runs from before
pub runs_after : (a b c : LibWorld) (rs rs' : List Value) (result : Result (Unit {0}) Ending) (row : model.LibAnswer) → store_in b ≡ store_in a → Runs b c rs rs' result row → Runs a c rs rs' result row
runs_after a b c rs rs' (Ok done) row same h =
    record { given = h.given; appended = h.appended; meant = h.meant; stays = tt; usable = h.usable; values = h.values }
runs_after a b c rs rs' (Err e) row same h =
    record { results = h.results; store = subst (λ s. LeavesStore e s (store_in c)) same h.store; fails = h.fails }

module _ {A B : Type 0} (mean : A → B) (look : (B → model.LibAnswer) → model.LibAnswer) (go : Store → B → model.LibAnswer) (a b : LibWorld) (world : IsWorld a) (adds : AddsTexts a b) where
  -- the look, which may add texts, found what the row goes on with
  pub look_runs : (c : LibWorld) (rs rs' : List Value) (result : Result (Unit {0}) Ending) (x : A) → Checks b.names mean look (Ok x) → Runs b c rs rs' result (go (store_in b) (mean x)) → Runs a c rs rs' result (look (go (store_in a)))
  look_runs c rs rs' result x h k =
      let same = adds_store a b adds world in
      found (go (store_in a)) a c rs rs' result h
      (runs_after a b c rs rs' result (go (store_in a) (mean x)) same (subst (λ s. Runs b c rs rs' result (go s (mean x))) same k))

  -- or ends it
  pub look_stops : (rs : List Value) (e : Ending) → Checks {A = A} b.names mean look (Err e) → Runs a b rs rs (Err e) (look (go (store_in a)))
  look_stops rs e h = ends_runs a b rs e (look (go (store_in a))) (adds_store a b adds world) (h (go (store_in a)))

-- ---- texts that came

pub added : (a : LibWorld) (names : List Bytes) → IsWorld a → Extends a.names names → (AreTexts a.names → AreTexts names) → AddsTexts a (record a { names = names })
added a names world extends texts = record { kept = refl; extends = extends; texts = texts world.own.interned }

pub added_reads : (a : LibWorld) (names : List Bytes) (args : List Value) → IsWorld a → MayUseAll a args → Extends a.names names → (AreTexts a.names → AreTexts names) → Reads a (record a { names = names }) args
added_reads a names args world usable extends texts =
    adds_reads a (record a { names = names }) (added a names world extends texts) world args usable
