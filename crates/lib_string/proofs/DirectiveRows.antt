-- The rows of directives.
use Rattle.std.proofs.Common.{◌≡◌, ℕ, Bool, false, List, [], ◌∷◌, ◌++◌, map, Some, Result, Ok, Err, codes, cond, refl, sym, ◌∙◌, ap, subst, arith, ◌^◌, ◌≤ℤ◌, ℤ, pos, negsuc}
use Rattle.std.proofs.lemmas.Int.{ints}
use Rattle.std.specs.Int.{FitsUnsignedBits}
use Rattle.value_model.specs.Answers as model
use Rattle.value_model.specs.Arguments as arg
use Rattle.value_model.specs.CoreRows.{text_of_value}
use Rattle.value_model.specs.FormatRows as row
use Rattle.value_model.specs.Metamethods.{metamethod}
use Rattle.value_model.specs.Names as name
use Rattle.value_model.specs.Parts.{meant}
use Rattle.value_model.specs.Store.{Store}
use Rattle.value_model.specs.StringRows.{is_byte, natural}
use Rattle.value_model.specs.Values as m
use Rattle.value_model.specs.Values.{Bytes}
use Rattle.value_model.specs.Waits as wait
use Rattle.value_model.specs.declared.builtin.Builtin.TheVariants.{StringFormat}
use Rattle.value_model.specs.declared.value.Value.{Value}
use Rattle.value_model.specs.declared.value.Value.TheVariants as value
use Rattle.luau_tables.specs.Globals.{plain_text}
use Rattle.luau_tables.specs.Part.{store_of}
use Rattle.luau_tables.specs.Worlds.{MayUseIn, store_in}
use Rattle.luau_tables.specs.declared.globals.LibWorld.{LibWorld}
use Rattle.lib_arguments.specs.Checks.{Checks, Fails}
use Rattle.lib_arguments.specs.declared.ending.Ending.{Ending}
use Rattle.lib_string.specs.Formats.{Appends, Writes, Fills, unasked}

-- ---- numbers

module _ (texts : List Bytes) (before after : Bytes) (look : (ℤ → model.LibAnswer) → model.LibAnswer) (next : (Bytes → model.LibAnswer) → ℤ → model.LibAnswer) where
  -- a number is found, and what is made of it is written
  pub number_written : (z : ℤ) (result : Result (Unit {0}) Ending) → Checks {A = ℤ} texts (λ z. z) look (Ok z) → Writes texts before after (λ go. next go z) result → Writes texts before after (λ go. look (next go)) result
  number_written z (Ok done) h k = record { bytes = k.bytes; appended = k.appended; goes_on = λ go. h (next go) ∙ k.goes_on go }
  number_written z (Err e) h k = λ go. subst (λ row. Fails texts row e) (sym (h (next go))) (k go)

  pub number_missed : (e : Ending) → Checks {A = ℤ} texts (λ z. z) look (Err e) → Writes texts before after (λ go. look (next go)) (Err e)
  number_missed e h = λ go. h (next go)

pub no_byte_text : (texts : List Bytes) (d : row.Field) (i : ℕ) (z : ℤ) (e : Ending) → is_byte z ≡ false → Fails texts (arg.out_of_range StringFormat i) e → (go : Bytes → model.LibAnswer) → Fails texts (row.byte_text d i go z) e
no_byte_text texts d i z e h k go =
    subst (λ t. Fails texts (cond t (go (row.fitted d false (natural z ∷ []))) (arg.out_of_range StringFormat i)) e) (sym h) k

-- what is written asks for nothing
pub written_fills : (w : LibWorld) (args : List Value) (at : ℕ) (before after : Bytes) (d : row.Field) (f : row.Form) (done : Result (Unit {0}) Ending) → Writes w.names before after (row.directive_text (store_in w) (map (meant w.names) args) at before d f) done → Fills w args at before after d f (unasked done)
written_fills w args at before after d f (Ok done) h = h
written_fills w args at before after d f (Err e) h = h

-- ---- texts of values

module _ (w : LibWorld) (args : List Value) (at : ℕ) (v : Value) (found : (go : m.Value → model.LibAnswer) → arg.any_at StringFormat at (map (meant w.names) args) go ≡ go (meant w.names v)) where
  -- a directive of a text goes on by what `__tostring` is
  by_handler : (text : Bytes) (d : row.Field) (go : Bytes → model.LibAnswer) (h : m.Value) → h ≡ metamethod (store_in w) (meant w.names v) (codes "__tostring") →
      row.directive_text (store_in w) (map (meant w.names) args) at text d row.AsText go
      ≡ text_of_value (store_in w) (meant w.names v) (record { builtin = StringFormat; arguments = map (meant w.names) args; at = at; text = text }) (λ bs. go (row.fitted d false bs)) h
  by_handler text d go h e =
      found (λ v. text_of_value (store_in w) v (record { builtin = StringFormat; arguments = map (meant w.names) args; at = at; text = text }) (λ bs. go (row.fitted d false bs)) (metamethod (store_in w) v (codes "__tostring")))
      ∙ ap (λ h. text_of_value (store_in w) (meant w.names v) (record { builtin = StringFormat; arguments = map (meant w.names) args; at = at; text = text }) (λ bs. go (row.fitted d false bs)) h) (sym e)

  plain_same : name.plain_text (store_in w) (meant w.names v) ≡ plain_text w.names w.globals v
  unfolding plain_text store_of
  plain_same = refl

  -- there is none
  pub plain_fills : (before after : Bytes) (d : row.Field) (h : Value) → meant w.names h ≡ metamethod (store_in w) (meant w.names v) (codes "__tostring") → h ≡ value.Nil → after ≡ before ++ row.fitted d false (plain_text w.names w.globals v) →
      Appends before after (row.directive_text (store_in w) (map (meant w.names) args) at before d row.AsText)
  unfolding meant
  plain_fills before after d h says none appended =
      record {
        bytes = row.fitted d false (plain_text w.names w.globals v);
        appended = appended;
        goes_on = λ go. by_handler before d go m.Nil (ap (meant w.names) (sym none) ∙ says) ∙ ap (λ bs. go (row.fitted d false bs)) plain_same;
      }

  handler_asks : (s : Store) (v : m.Value) (asking : wait.Continue) (go : Bytes → model.LibAnswer) (h : Value) → (h ≡ value.Nil → ⊥) → text_of_value s v asking go (meant w.names h) ≡ model.CallsBack (meant w.names h) (v ∷ []) (wait.Asks asking)
  unfolding meant
  handler_asks s v asking go value.Nil some = absurd (some refl)
  handler_asks s v asking go (value.Bool b) some = refl
  handler_asks s v asking go (value.Num z) some = refl
  handler_asks s v asking go (value.Str x) some = refl
  handler_asks s v asking go (value.Table t) some = refl
  handler_asks s v asking go (value.Closure f) some = refl
  handler_asks s v asking go (value.Native f) some = refl
  handler_asks s v asking go (value.Host h) some = refl
  handler_asks s v asking go (value.Wrap co) some = refl
  handler_asks s v asking go (value.Thread co) some = refl

  -- it is called
  pub handler_fills : (text : Bytes) (d : row.Field) (h : Value) → MayUseIn w h → MayUseIn w v → meant w.names h ≡ metamethod (store_in w) (meant w.names v) (codes "__tostring") → (h ≡ value.Nil → ⊥) →
      Fills w args at text text d row.AsText (Ok (Some (record { handler = h; value = v })))
  handler_fills text d h may mayv says some =
      (refl, (may, mayv), λ go. by_handler text d go (meant w.names h) says ∙ handler_asks (store_in w) (meant w.names v) (record { builtin = StringFormat; arguments = map (meant w.names) args; at = at; text = text }) (λ bs. go (row.fitted d false bs)) h some)

-- ---- numbers in hexadecimal

no_hex : (d : row.Field) (capital : Bool) (i : ℕ) (go : Bytes → model.LibAnswer) (z : ℤ) → (FitsUnsignedBits 64 z → ⊥) → z ≤ℤ pos (2 ^ 53) → arg.out_of_range StringFormat i ≡ row.hex_text d capital i go z
no_hex d capital i go (pos n) out small = absurd (out (omega (arith, ints)))
no_hex d capital i go (negsuc n) out small = refl

pub no_hex_text : (texts : List Bytes) (d : row.Field) (capital : Bool) (i : ℕ) (z : ℤ) (e : Ending) (go : Bytes → model.LibAnswer) → (FitsUnsignedBits 64 z → ⊥) → z ≤ℤ pos (2 ^ 53) → Fails texts (arg.out_of_range StringFormat i) e → Fails texts (row.hex_text d capital i go z) e
no_hex_text texts d capital i z e go out small h = subst (λ row. Fails texts row e) (no_hex d capital i go z out small) h
