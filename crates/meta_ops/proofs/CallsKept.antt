-- Metamethods that are called mean those that the definition calls.
use Rattle.std.proofs.Common.{◌≡◌, Bool, true, false, cond, List, [], ◌∷◌, Some, slice_get, refl, sym, ◌∙◌, ap, subst}
use Rattle.byte_text.specs.declared.fixed.StrId.{StrId}
use Rattle.value_model.specs.Choices as choice
use Rattle.value_model.specs.Errors as error
use Rattle.value_model.specs.Metamethods as model
use Rattle.value_model.specs.Parts.{meant, meant_error}
use Rattle.value_model.specs.Store.{Store}
use Rattle.value_model.specs.Tables.{same}
use Rattle.value_model.specs.Values.{Bytes, kind_of}
use Rattle.value_model.specs.declared.error.RunErr.{RunErr}
use Rattle.value_model.specs.declared.ids.Owner.{Owner}
use Rattle.value_model.specs.declared.kind.Kind.{Kind}
use Rattle.value_model.specs.declared.value.Value.{Value}
use Rattle.value_model.specs.declared.value.Value.TheVariants as value
use Rattle.value_arena.specs.Arenas.{ArenaView}
use Rattle.luau_tables.specs.Own.{IsOwn, MayUse}
use Rattle.luau_tables.specs.Part.{store_of}
use Rattle.luau_tables.specs.declared.globals.Globals.{Globals}
use Rattle.meta_ops.specs.OnIds as kept
use Rattle.meta_ops.specs.Outcomes.{meant_outcome, IsChosen, OfOutcome}
use Rattle.meta_ops.specs.declared.outcome.Outcome.{Outcome}
use Rattle.meta_ops.specs.declared.outcome.Outcome.TheVariants.{RunError}
use Rattle.meta_ops.proofs.MetamethodsKept.{kind_kept, metamethod_part, metamethod_usable, of_two_part, of_two_usable}

-- ---- a metamethod is called, where there is one

call_one_kept : (texts : List Bytes) (h v : Value) (o : Outcome) (p : choice.Outcome) → p ≡ meant_outcome texts o →
    model.call_or_else (meant texts h) (meant texts v ∷ []) p ≡ meant_outcome texts (kept.call_or_else h (kept.call_one h v) o)
unfolding meant meant_outcome
call_one_kept texts value.Nil v o p e = e
call_one_kept texts (value.Bool x) v o p e = refl
call_one_kept texts (value.Num x) v o p e = refl
call_one_kept texts (value.Str x) v o p e = refl
call_one_kept texts (value.Table x) v o p e = refl
call_one_kept texts (value.Closure x) v o p e = refl
call_one_kept texts (value.Native x) v o p e = refl
call_one_kept texts (value.Host x) v o p e = refl
call_one_kept texts (value.Wrap x) v o p e = refl
call_one_kept texts (value.Thread x) v o p e = refl

call_two_kept : (texts : List Bytes) (h v u : Value) (o : Outcome) (p : choice.Outcome) → p ≡ meant_outcome texts o →
    model.call_or_else (meant texts h) (meant texts v ∷ meant texts u ∷ []) p ≡ meant_outcome texts (kept.call_or_else h (kept.call_two h v u) o)
unfolding meant meant_outcome
call_two_kept texts value.Nil v u o p e = e
call_two_kept texts (value.Bool x) v u o p e = refl
call_two_kept texts (value.Num x) v u o p e = refl
call_two_kept texts (value.Str x) v u o p e = refl
call_two_kept texts (value.Table x) v u o p e = refl
call_two_kept texts (value.Closure x) v u o p e = refl
call_two_kept texts (value.Native x) v u o p e = refl
call_two_kept texts (value.Host x) v u o p e = refl
call_two_kept texts (value.Wrap x) v u o p e = refl
call_two_kept texts (value.Thread x) v u o p e = refl

-- an error of two kinds
pub two_kinds : (texts : List Bytes) (v u : Value) (e : Kind → Kind → error.RunError) (k : Kind → Kind → RunErr) →
    ((l r : Kind) → e l r ≡ meant_error texts (k l r)) →
    choice.Errs (e (kind_of (meant texts v)) (kind_of (meant texts u))) ≡ meant_outcome texts (RunError (k (kept.kind_of v) (kept.kind_of u)))
unfolding meant_outcome
two_kinds texts v u e k same =
    ap (λ l. choice.Errs (e l (kind_of (meant texts u)))) (kind_kept texts v)
    ∙ ap (λ r. choice.Errs (e (kept.kind_of v) r)) (kind_kept texts u)
    ∙ ap (λ e. choice.Errs e) (same (kept.kind_of v) (kept.kind_of u))

-- ---- in the part of a script

-- what an outcome is to mean, and that the script may use each value in it
pub record Means (texts : List Bytes) (a : ArenaView) (w : Owner) (p : choice.Outcome) (o : Outcome) : Type 0 where
  pub meant : p ≡ meant_outcome texts o
  pub usable : OfOutcome texts (MayUse texts a w) o

module _ (texts : List Bytes) (g : Globals) (a : ArenaView) (w : Owner) (own : IsOwn texts g a w) where
  abbrev part : Store
  part = store_of texts g a w

  abbrev May : Value → Type 0
  May v = MayUse texts a w v

  abbrev Of : Outcome → Type 0
  Of o = OfOutcome texts (MayUse texts a w) o

  call_one_usable : (h v : Value) (o : Outcome) → May h → May v → Of o → Of (kept.call_or_else h (kept.call_one h v) o)
  call_one_usable h v o mh mv mo = by (kept.is_nil h)
    where
      by : (b : Bool) → Of (cond b o (kept.call_one h v))
      by true = mo
      by false = (mh, (mv, ((tt, tt), ((tt, tt), tt))))

  call_two_usable : (h v u : Value) (o : Outcome) → May h → May v → May u → Of o → Of (kept.call_or_else h (kept.call_two h v u) o)
  call_two_usable h v u o mh mv mu mo = by (kept.is_nil h)
    where
      by : (b : Bool) → Of (cond b o (kept.call_two h v u))
      by true = mo
      by false = (mh, (mv, (mu, ((tt, tt), tt))))

  -- the operand's metamethod, or else
  pub one : (name : StrId) (bytes : Bytes) → slice_get texts name.0 ≡ Some bytes → (v : Value) → May v → (p : choice.Outcome) (o : Outcome) →
      Means texts a w p o →
      Means texts a w (model.call_or_else (model.metamethod part (meant texts v) bytes) (meant texts v ∷ []) p)
      (kept.call_or_else (kept.metamethod a g v name) (kept.call_one (kept.metamethod a g v name) v) o)
  one name bytes named v h p o m =
      record {
        meant = ap (λ f. model.call_or_else f (meant texts v ∷ []) p) (metamethod_part texts g a w own name bytes named v h)
            ∙ call_one_kept texts (kept.metamethod a g v name) v o p m.meant;
        usable = call_one_usable (kept.metamethod a g v name) v o (metamethod_usable texts g a w own v name h) h m.usable;
      }

  -- the metamethod of the first operand, or of the second, or else
  pub two : (name : StrId) (bytes : Bytes) → slice_get texts name.0 ≡ Some bytes → (v u : Value) → May v → May u →
      (p : choice.Outcome) (o : Outcome) → Means texts a w p o →
      Means texts a w (model.call_or_else (model.metamethod_of_two part (meant texts v) (meant texts u) bytes) (meant texts v ∷ meant texts u ∷ []) p)
      (kept.call_or_else (kept.metamethod_of_two a g v u name) (kept.call_two (kept.metamethod_of_two a g v u name) v u) o)
  two name bytes named v u h k p o m =
      record {
        meant = ap (λ f. model.call_or_else f (meant texts v ∷ meant texts u ∷ []) p) (of_two_part texts g a w own name bytes named v u h k)
            ∙ call_two_kept texts (kept.metamethod_of_two a g v u name) v u o p m.meant;
        usable = call_two_usable (kept.metamethod_of_two a g v u name) v u o (of_two_usable texts g a w own name v u h k) h k m.usable;
      }

  -- ---- so it is chosen

  pub chosen_is : (operation : choice.Operation) (p : choice.Outcome) (o outcome : Outcome) → model.choose operation part ≡ model.chosen part 0 p →
      Means texts a w p o → outcome ≡ o → IsChosen texts g a w operation outcome 0
  chosen_is operation p o outcome e n f =
      record {
        meant = ap (λ x. model.chosen part 0 (meant_outcome texts x)) f ∙ ap (λ p. model.chosen part 0 p) (sym n.meant) ∙ sym e;
        usable = subst Of (sym f) n.usable;
      }
