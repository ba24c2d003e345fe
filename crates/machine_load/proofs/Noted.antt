-- A script without objects whose interner has gained the strings of a chunk.
use Rattle.std.proofs.Common.{◌≡◌, ℕ, zero, suc, ◌<◌, List, [], ◌∷◌, ◌++◌, length, get_or, Some, sym, ◌∙◌, ap, subst}
use Rattle.std.specs.List.{AllByRecursion, Contains}
use Rattle.std.specs.Prelude.{slice_get}
use Rattle.std.proofs.lemmas.Option.{slice_get-get_or}
use Rattle.byte_text.specs.Texts.{AreDistinct}
use Rattle.value_model.specs.Values.{Bytes}
use Rattle.luau_tables.specs.Own.{AreTexts, longest_text}
use Rattle.luau_tables.specs.Worlds.{Extends, store_in}
use Rattle.luau_tables.specs.declared.globals.LibWorld.{LibWorld}
use Rattle.luau_tables.proofs.WorldsKept.{texts_keep, texts_store}
use Rattle.machine_code.specs.Kept.{Adds}
use Rattle.machine_code.proofs.Lists.{all_at}
use Rattle.machine_load.specs.Beginning.{IsBare}
use Rattle.machine_load.specs.Loaded.{AreShort}

-- a text of a list of short ones is short
short_one : (strings : List Bytes) (t : Bytes) → AreShort strings → Contains strings t → length t < longest_text
short_one strings t short within =
    subst (λ x. length x < longest_text) within.2
    (all_at (λ (x : Bytes). length x < longest_text) strings within.0 (get_or strings within.0 t) short (slice_get-get_or strings within.0 t within.1))

module _ (w : LibWorld) (bare : IsBare w) (strings names : List Bytes) (adds : Adds strings w.names names) (short : AreShort strings) (distinct : AreDistinct names) where
  short_all : (i : ℕ) (t : Bytes) → slice_get names i ≡ Some t → length t < longest_text
  short_all i t at = by w.names adds.more (λ j u k. bare.world.own.interned.short j u k) adds.new i (ap (λ (xs : List Bytes). slice_get xs i) (sym adds.appended) ∙ at)
    where
      new_at : (more : List Bytes) → AllByRecursion (Contains strings) more → (i : ℕ) → slice_get more i ≡ Some t → length t < longest_text
      new_at more all i k = short_one strings t short (all_at (Contains strings) more i t all k)

      by : (old more : List Bytes) → ((j : ℕ) (u : Bytes) → slice_get old j ≡ Some u → length u < longest_text) → AllByRecursion (Contains strings) more
          → (i : ℕ) → slice_get (old ++ more) i ≡ Some t → length t < longest_text
      by [] more h all i k = new_at more all i k
      by (x ∷ old) more h all zero k = h 0 t k
      by (x ∷ old) more h all (suc i) k = by old more (λ j u e. h (suc j) u e) all i k

  texts : AreTexts names
  texts = record { distinct = distinct; short = short_all }

  extends : Extends w.names names
  extends = record { more = adds.more; appended = adds.appended }

  pub bare_after : IsBare (record w { names = names })
  bare_after =
      record {
        world = (texts_keep w bare.world names extends texts).world;
        none = bare.none;
        cells = bare.cells;
        running = bare.running;
        unmarked = bare.unmarked;
      }

  pub store_after : store_in (record w { names = names }) ≡ store_in w
  store_after = texts_store w bare.world names extends texts
