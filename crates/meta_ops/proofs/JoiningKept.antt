-- Two values joined mean what those that they mean are joined to.
use Rattle.std.proofs.Common.{◌≡◌, ℕ, ◌<◌, ◌≤◌, Bool, true, false, cond, ◌&&◌, nat_le, List, ◌++◌, length, Option, Some, None, Result, Ok, Err, IfOk, slice_get, codes, refl, sym, ◌∙◌, ap, subst, arith}
use Rattle.std.proofs.lemmas.Bool.Decides.{nat_tests}
use Rattle.byte_text.specs.declared.fixed.StrId.{StrId}
use Rattle.resource.specs.declared.memory.OutOfMemory.{OutOfMemory}
use Rattle.value_model.specs.Choices as choice
use Rattle.value_model.specs.Errors as error
use Rattle.value_model.specs.Metamethods as model
use Rattle.value_model.specs.Parts.{meant, meant_error}
use Rattle.value_model.specs.Store.{Store}
use Rattle.value_model.specs.Values as m
use Rattle.value_model.specs.Values.{Bytes}
use Rattle.value_model.specs.declared.error.RunErr.TheVariants as err
use Rattle.value_model.specs.declared.ids.Owner.{Owner}
use Rattle.value_model.specs.declared.value.Value.{Value}
use Rattle.value_model.specs.declared.value.Value.TheVariants as value
use Rattle.value_arena.specs.Arenas.{ArenaView}
use Rattle.luau_tables.specs.Own.{AreTexts, IsOwn, MayUse}
use Rattle.luau_tables.specs.Part.{store_of}
use Rattle.luau_tables.specs.Worlds.{Extends}
use Rattle.luau_tables.specs.declared.globals.Globals.{Globals}
use Rattle.luau_tables.proofs.MoreTexts.{more_texts, store_more}
use Rattle.meta_ops.specs.OnIds as kept
use Rattle.meta_ops.specs.Outcomes.{meant_outcome, IsJoined, JoinsIn, MeansText, OfOutcome}
use Rattle.meta_ops.specs.declared.outcome.Outcome.{Outcome}
use Rattle.meta_ops.specs.declared.outcome.Outcome.TheVariants.{Done, RunError}
use Rattle.meta_ops.proofs.MetamethodsKept.{number_below, text_is}
use Rattle.meta_ops.proofs.CallsKept.{Means, two, two_kinds}

-- ---- texts of any length

too_long : (n : ℕ) → 16777216 < n → nat_le n 16777216 ≡ false
too_long n h = grind (arith, nat_tests)

not_long : (n : ℕ) → n ≤ 16777216 → nat_le n 16777216 ≡ true
not_long n h = grind (arith, nat_tests)

pub too_large : (texts : List Bytes) (bytes : Bytes) → 16777216 < length bytes → MeansText texts (RunError err.StringTooLarge) bytes
unfolding meant_outcome meant_error
too_large texts bytes h =
    record {
      meant = ap (λ b. cond b (choice.Done (m.Text bytes)) (choice.Errs error.StringTooLarge)) (sym (too_long (length bytes) h));
      usable = λ a w. tt;
    }

pub text_done : (texts : List Bytes) (id : StrId) (bytes : Bytes) → length bytes ≤ 16777216 → slice_get texts id.0 ≡ Some bytes →
    MeansText texts (Done (value.Str id)) bytes
unfolding meant_outcome meant
text_done texts id bytes h e =
    record {
      meant =
          ap (λ t. choice.Done (m.Text t)) (text_is texts id.0 bytes e)
          ∙ ap (λ b. cond b (choice.Done (m.Text bytes)) (choice.Errs error.StringTooLarge)) (sym (not_long (length bytes) h));
      usable = λ a w. (tt, number_below texts id.0 bytes e);
    }

-- ---- two operands

as_text_kept : (texts : List Bytes) (v : Value) → model.as_text (meant texts v) ≡ cond (kept.is_text v) (Some (kept.text_of texts v)) None
unfolding meant
as_text_kept texts (value.Str x) = refl
as_text_kept texts (value.Num z) = refl
as_text_kept texts _ = refl

-- with the texts that they are
concat_by : (s : Store) (a b : m.Value) (x y : Option Bytes) → model.as_text a ≡ x → model.as_text b ≡ y →
    model.choose (choice.Concat a b) s ≡ model.chosen s 0 (model.concat_texts s a b x y)
unfolding model.choose model.concat_two
concat_by s a b x y e f =
    ap (λ x. model.chosen s 0 (model.concat_texts s a b x (model.as_text b))) e ∙ ap (λ y. model.chosen s 0 (model.concat_texts s a b x y)) f

both_true : (a b : Bool) → (a && b) ≡ true → (a ≡ true) × (b ≡ true)
both_true true true e = (refl, refl)
both_true true false e = absurd (cc)
both_true false b e = absurd (cc)

pub joined_is : (before after : List Bytes) (g : Globals) (a : ArenaView) (w : Owner) → IsOwn before g a w → Extends before after →
    (AreTexts before → AreTexts after) → (v u : Value) → kept.are_texts v u ≡ true → (outcome : Outcome) →
    MeansText after outcome (kept.text_of before v ++ kept.text_of before u) → IsJoined before after g a w v u outcome
joined_is before after g a w own extends texts v u e outcome n =
    let both = both_true (kept.is_text v) (kept.is_text u) e in
    let text : (v : Value) → kept.is_text v ≡ true → model.as_text (meant before v) ≡ Some (kept.text_of before v) = λ v h. as_text_kept before v
    ∙ ap (λ b. cond b (Some (kept.text_of before v)) None) h in
    record {
      meant =
          ap (λ s. model.chosen s 0 (meant_outcome after outcome)) (store_more before after extends g a w own)
          ∙ ap (λ o. model.chosen (store_of before g a w) 0 o) n.meant
          ∙ sym
          (concat_by (store_of before g a w) (meant before v) (meant before u) (Some (kept.text_of before v)) (Some (kept.text_of before u)) (text v both.0) (text u both.1));
      usable = n.usable a w;
      own = more_texts before after extends g a w (texts own.interned) own;
    }

pub joins : (before after : List Bytes) (g : Globals) (a : ArenaView) → Extends before after → (AreTexts before → AreTexts after) → (v u : Value) →
    kept.are_texts v u ≡ true → (r : Result Outcome OutOfMemory) →
    IfOk r (λ outcome. MeansText after outcome (kept.text_of before v ++ kept.text_of before u)) →
    IfOk r (λ outcome. JoinsIn before after g a v u outcome)
joins before after g a extends texts v u e (Ok outcome) n = λ w own may also. joined_is before after g a w own extends texts v u e outcome n
joins before after g a extends texts v u e (Err error) n = tt

module _ (texts : List Bytes) (g : Globals) (a : ArenaView) (w : Owner) (own : IsOwn texts g a w) where
  no_texts : (v u : Value) →
      Means texts a w (choice.Errs (error.Concatenate (m.kind_of (meant texts v)) (m.kind_of (meant texts u))))
      (RunError (err.Concatenate (kept.kind_of v) (kept.kind_of u)))
  unfolding meant_error
  no_texts v u = record { meant = two_kinds texts v u error.Concatenate err.Concatenate (λ l r. refl); usable = tt }

  asks : (v u : Value) → MayUse texts a w v → MayUse texts a w u → (b c : Bool) (x y : Bytes) → (b && c) ≡ false →
      Means texts a w (model.concat_texts (store_of texts g a w) (meant texts v) (meant texts u) (cond b (Some x) None) (cond c (Some y) None))
      (kept.not_joined a g v u)
  asks v u h k true true x y e = absurd (cc)
  asks v u h k true false x y e = two texts g a w own g.meta.concat (codes "__concat") own.globals.names.concat v u h k _ _ (no_texts v u)
  asks v u h k false c x y e = two texts g a w own g.meta.concat (codes "__concat") own.globals.names.concat v u h k _ _ (no_texts v u)

  pub not_joined_is : (v u : Value) → kept.are_texts v u ≡ false → MayUse texts a w v → MayUse texts a w u → (outcome : Outcome) →
      outcome ≡ kept.not_joined a g v u → IsJoined texts texts g a w v u outcome
  not_joined_is v u e h k outcome f =
      let n = asks v u h k (kept.is_text v) (kept.is_text u) (kept.text_of texts v) (kept.text_of texts u) e in
      record {
        meant =
            ap (λ o. model.chosen (store_of texts g a w) 0 (meant_outcome texts o)) f
            ∙ ap (λ o. model.chosen (store_of texts g a w) 0 o) (sym n.meant)
            ∙ sym (concat_by (store_of texts g a w) (meant texts v) (meant texts u) _ _ (as_text_kept texts v) (as_text_kept texts u));
        usable = subst (λ o. OfOutcome texts (MayUse texts a w) o) (sym f) n.usable;
        own = own;
      }
