-- A world that has gained texts.
use Rattle.std.proofs.Common.{◌≡◌, List, [], ◌∷◌, slice_get, Some, Result, refl, sym, ◌∙◌, ap}
use Rattle.std.proofs.lemmas.Option.{get_or_from_slice_get, slice_get_within}
use Rattle.byte_text.specs.declared.fixed.StrId.{StrId}
use Rattle.luau_tables.specs.Own.{AreTexts}
use Rattle.luau_tables.specs.Worlds.{IsWorld, Keeps, Extends, store_in}
use Rattle.luau_tables.specs.declared.globals.LibWorld.{LibWorld}
use Rattle.luau_tables.proofs.MoreTexts.{extends_self, more_texts, store_more}
use Rattle.luau_tables.proofs.OwnKept.{changes_nothing}
use Rattle.value_model.specs.Answers as model
use Rattle.value_model.specs.Parts.{meant, bytes_at}
use Rattle.value_model.specs.Values as m
use Rattle.value_model.specs.Values.{Bytes}
use Rattle.value_model.specs.declared.value.Value.{Value}
use Rattle.value_model.specs.declared.value.Value.TheVariants as value
use Rattle.lib_arguments.specs.Rows.{Runs, Gives}
use Rattle.lib_arguments.specs.declared.ending.Ending.{Ending}
use Rattle.lib_arguments.proofs.RowsRun.{gives_runs}

abbrev pub with_names : LibWorld → List Bytes → LibWorld
with_names w more = record w { names = more }

module _ (w : LibWorld) (more : List Bytes) (extends : Extends w.names more) (texts : AreTexts w.names → AreTexts more) (world : IsWorld w) where
  pub names_kept : Keeps w (with_names w more)
  names_kept =
      record {
        world = record { owner = world.owner; own = more_texts w.names more extends w.globals w.arena w.owner (texts world.own.interned) world.own };
        owner = refl;
        globals = refl;
        names = extends;
        arena = changes_nothing w.owner w.arena;
      }

  pub names_store : store_in (with_names w more) ≡ store_in w
  names_store = store_more w.names more extends w.globals w.arena w.owner world.own

  -- the text of a number is given
  pub text_runs : (rs rs' : List Value) (result : Result (Unit {0}) Ending) (x : StrId) (bs : Bytes) → slice_get more x.0 ≡ Some bs → Gives rs rs' (value.Str x ∷ []) result → Runs w (with_names w more) rs rs' result (model.Answers (m.Text bs ∷ []) (store_in w))
  unfolding meant
  text_runs rs rs' result x bs at given =
      gives_runs w (with_names w more) rs rs' (value.Str x ∷ []) result (model.Answers (m.Text bs ∷ []) (store_in w)) given
      ((tt, slice_get_within more x.0 bs at), tt)
      (ap (λ t. model.Answers (m.Text t ∷ []) (store_in w)) (sym (get_or_from_slice_get more x.0 bs [] at)) ∙ ap (λ s. model.Answers (m.Text (bytes_at more x.0) ∷ []) s) (sym names_store))

-- a world that nothing changed
pub keeps_self : (w : LibWorld) → IsWorld w → Keeps w w
keeps_self w world = record { world = world; owner = refl; globals = refl; names = extends_self w.names; arena = changes_nothing w.owner w.arena }
