-- What a library function goes on with that asked for a text.
use Rattle.std.proofs.Common.{◌≡◌, ℕ, suc, List, [], ◌∷◌, ◌++◌, map, drop, Result, refl, ◌∙◌, ap}
use Rattle.value_model.specs.Answers as answer
use Rattle.value_model.specs.CoreRows as core
use Rattle.value_model.specs.Errors as error
use Rattle.value_model.specs.Library.{go_on, goes_on}
use Rattle.value_model.specs.Parts.{bytes_at, meant, meant_error}
use Rattle.value_model.specs.Values.{Bytes}
use Rattle.value_model.specs.declared.builtin.Builtin.{Builtin}
use Rattle.value_model.specs.declared.builtin.Builtin.TheVariants as builtin
use Rattle.value_model.specs.declared.error.RunErr.TheVariants as err
use Rattle.value_model.specs.declared.value.Value.{Value}
use Rattle.value_model.specs.declared.value.Value.TheVariants as value
use Rattle.value_model.specs.declared.waiting.Continue.{Continue}
use Rattle.byte_text.specs.declared.fixed.StrId.{StrId}
use Rattle.luau_tables.specs.Answers.{meant_continue}
use Rattle.luau_tables.specs.Worlds.{MayUseIn, store_in}
use Rattle.luau_tables.specs.declared.globals.LibWorld.{LibWorld}
use Rattle.lib_arguments.specs.Checks.{Fails}
use Rattle.lib_arguments.specs.Rows.{Runs, Gives}
use Rattle.lib_arguments.specs.declared.ending.Ending.{Ending}
use Rattle.lib_arguments.specs.declared.ending.Ending.TheVariants.{RunError}
use Rattle.lib_arguments.proofs.RowsRun.{gives_runs}
use Rattle.lib_core.specs.Builtins.{IsAsker}

is_tostring : (f : Builtin) → IsAsker f → (f ≡ builtin.Print → ⊥) → f ≡ builtin.Tostring
is_tostring builtin.Print h other = absurd (other refl)
is_tostring builtin.Tostring h other = refl
is_tostring _ h other = absurd (elim h [ ])

module _ (w : LibWorld) (then : Continue) (given : Value) where
  pub with_text : (x : StrId) → given ≡ value.Str x → go_on (meant_continue w.names then) (meant w.names given) (store_in w) ≡ goes_on then.builtin (meant_continue w.names then) (store_in w) (bytes_at w.names x.0)
  unfolding go_on meant meant_continue
  with_text x e = ap (λ v. core.text_given (meant w.names v) (goes_on then.builtin (meant_continue w.names then) (store_in w))) e

  pub prints_on : (x : StrId) → given ≡ value.Str x → then.builtin ≡ builtin.Print →
      go_on (meant_continue w.names then) (meant w.names given) (store_in w)
      ≡ core.prints (store_in w) (map (meant w.names) then.args.items) (suc then.at) (then.text ++ bytes_at w.names x.0) (drop (suc then.at) (map (meant w.names) then.args.items))
  unfolding meant_continue
  prints_on x e p = with_text x e ∙ ap (λ f. goes_on f (meant_continue w.names then) (store_in w) (bytes_at w.names x.0)) p

  pub tostring_on : (rs rs' : List Value) (result : Result (Unit {0}) Ending) (x : StrId) → given ≡ value.Str x → IsAsker then.builtin → (then.builtin ≡ builtin.Print → ⊥) → MayUseIn w (value.Str x) → Gives rs rs' (value.Str x ∷ []) result →
      Runs w w rs rs' result (go_on (meant_continue w.names then) (meant w.names given) (store_in w))
  unfolding meant
  tostring_on rs rs' result x e asks other used gives =
      gives_runs w w rs rs' (value.Str x ∷ []) result _ gives (used, tt)
      (with_text x e ∙ ap (λ f. goes_on f (meant_continue w.names then) (store_in w) (bytes_at w.names x.0)) (is_tostring then.builtin asks other))

  pub no_text_on : ((x : StrId) → given ≡ value.Str x → ⊥) → Fails w.names (go_on (meant_continue w.names then) (meant w.names given) (store_in w)) (RunError err.NotStringByTostring)
  unfolding go_on meant meant_error meant_continue
  no_text_on other = (by given other, tt)
    where
      by : (v : Value) → ((x : StrId) → v ≡ value.Str x → ⊥) → core.text_given (meant w.names v) (goes_on then.builtin (meant_continue w.names then) (store_in w)) ≡ answer.ErrsWith error.NotStringByTostring
      by (value.Str x) other = absurd (other x refl)
      by _ other = refl

-- the same line, by equal arguments, place and text
pub same_prints : (w : LibWorld) (vs args : List Value) (i at : ℕ) (line text bs : Bytes) → vs ≡ args → i ≡ suc at → line ≡ text ++ bs →
    core.prints (store_in w) (map (meant w.names) vs) i line (drop i (map (meant w.names) vs))
    ≡ core.prints (store_in w) (map (meant w.names) args) (suc at) (text ++ bs) (drop (suc at) (map (meant w.names) args))
same_prints w vs args i at line text bs a n t =
    ap (λ vs. core.prints (store_in w) (map (meant w.names) vs) i line (drop i (map (meant w.names) vs))) a
    ∙ ap (λ i. core.prints (store_in w) (map (meant w.names) args) i line (drop i (map (meant w.names) args))) n
    ∙ ap (λ line. core.prints (store_in w) (map (meant w.names) args) (suc at) line (drop (suc at) (map (meant w.names) args))) t
