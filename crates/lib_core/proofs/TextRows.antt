-- How texts of values are asked for, and what `tostring` and `print` answer.
use Rattle.std.proofs.Common.{◌≡◌, ℕ, suc, ◌+◌, ◌<◌, ◌≤◌, length, drop, get_or, add-one, drop-cons, arith, List, [], ◌∷◌, ◌++◌, map, Option, Some, None, Result, refl, sym, ◌∙◌, ap, subst, codes, append-nil}
use Rattle.std.proofs.lemmas.List.{drop-map, drop_all, length-map}
use Rattle.std.specs.List.{AllByRecursion}
use Rattle.value_model.specs.Answers as model
use Rattle.value_model.specs.CoreRows as core
use Rattle.value_model.specs.Metamethods.{metamethod}
use Rattle.value_model.specs.Names.{plain_text}
use Rattle.value_model.specs.Parts.{meant}
use Rattle.value_model.specs.Store.{Store}
use Rattle.value_model.specs.Values as m
use Rattle.value_model.specs.Values.{Bytes}
use Rattle.value_model.specs.Waits as wait
use Rattle.value_model.specs.declared.builtin.Builtin.{Builtin}
use Rattle.value_model.specs.declared.builtin.Builtin.TheVariants as builtin
use Rattle.value_model.specs.declared.value.Value.{Value}
use Rattle.value_model.specs.declared.value.Value.TheVariants as value
use Rattle.value_model.specs.declared.waiting.Continue.{Continue}
use Rattle.luau_tables.specs.Answers.{Answered, meant_answer, meant_continue}
use Rattle.luau_tables.specs.Worlds.{MayUseIn, store_in}
use Rattle.luau_tables.specs.declared.answer.LibAnswer.{LibAnswer}
use Rattle.luau_tables.specs.declared.answer.LibAnswer.TheVariants as answer
use Rattle.luau_tables.specs.declared.globals.LibWorld.{LibWorld}
use Rattle.lib_arguments.specs.Rows.{Runs}
use Rattle.lib_arguments.specs.declared.ending.Ending.{Ending}
use Rattle.lib_core.specs.Asking.{Asks, GoesOn, PrintsOne}

-- ---- with a handler, and without

no_handler : (s : Store) (v : m.Value) (asking : wait.Continue) (go : Bytes → model.LibAnswer) (h : m.Value) → h ≡ m.Nil → core.text_of_value s v asking go h ≡ go (plain_text s v)
no_handler s v asking go h e = ap (core.text_of_value s v asking go) e

handled : (texts : List Bytes) (s : Store) (v : m.Value) (asking : wait.Continue) (go : Bytes → model.LibAnswer) (h : Value) → (h ≡ value.Nil → ⊥) →
    core.text_of_value s v asking go (meant texts h) ≡ model.CallsBack (meant texts h) (v ∷ []) (wait.Asks asking)
unfolding meant
handled texts s v asking go value.Nil some = absurd (some refl)
handled texts s v asking go _ some = refl

module _ (texts : List Bytes) (s : Store) (v : m.Value) (h : Value) (says : meant texts h ≡ metamethod s v (codes "__tostring")) (asking : wait.Continue) (go : Bytes → model.LibAnswer) where
  pub plain_asked : h ≡ value.Nil → core.asks_text s v asking go ≡ go (plain_text s v)
  unfolding meant
  plain_asked e = ap (core.text_of_value s v asking go) (sym says ∙ ap (meant texts) e)

  pub handler_asked : (h ≡ value.Nil → ⊥) → core.asks_text s v asking go ≡ model.CallsBack (meant texts h) (v ∷ []) (wait.Asks asking)
  handler_asked some = ap (core.text_of_value s v asking go) (sym says) ∙ handled texts s v asking go h some

-- ---- the answer that calls the handler

continue_is : (texts : List Bytes) (f : Builtin) (args : List Value) (at : ℕ) (text : Bytes) (then : Continue) → GoesOn f args at text then →
    meant_continue texts then ≡ record { builtin = f; arguments = map (meant texts) args; at = at; text = text }
unfolding meant_continue
continue_is texts f args at text then h = λ i. record { builtin = h.builtin i; arguments = map (meant texts) (h.arguments i); at = h.at i; text = h.text i }

pub asks_answers : (w : LibWorld) (rs : List Value) (h v : Value) (f : Builtin) (args : List Value) (at : ℕ) (text : Bytes) (a : LibAnswer) (row : model.LibAnswer) → Asks h v f args at text a →
    MayUseIn w h → MayUseIn w v → AllByRecursion (MayUseIn w) args →
    row ≡ model.CallsBack (meant w.names h) (meant w.names v ∷ []) (wait.Asks (record { builtin = f; arguments = map (meant w.names) args; at = at; text = text })) →
    Answered w w rs rs a wait.Elsewise row
unfolding meant_answer
asks_answers w rs h v f args at text (answer.CallBack callee given then) row asks uh uv us same =
    record {
      given = [];
      appended = sym (append-nil rs);
      meant =
          ap (λ c. model.CallsBack (meant w.names c) (map (meant w.names) given.items) (wait.Asks (meant_continue w.names then))) asks.0
          ∙ ap (λ vs. model.CallsBack (meant w.names h) (map (meant w.names) vs) (wait.Asks (meant_continue w.names then))) asks.1
          ∙ ap (λ c. model.CallsBack (meant w.names h) (meant w.names v ∷ []) (wait.Asks c)) (continue_is w.names f args at text then asks.2)
          ∙ sym same;
      stays = (refl, refl);
      usable = (subst (MayUseIn w) (sym asks.0) uh, subst (AllByRecursion (MayUseIn w)) (sym asks.1) (uv, tt), subst (AllByRecursion (MayUseIn w)) (sym asks.2.arguments) us);
      values = tt;
    }
asks_answers w rs h v f args at text _ row asks uh uv us same = absurd (elim asks [ ])

-- ---- `tostring`

abbrev pub asks_tostring : LibWorld → List Value → m.Value → model.LibAnswer
asks_tostring w args v =
    core.asks_text (store_in w) v (record { builtin = builtin.Tostring; arguments = map (meant w.names) args; at = 0; text = [] }) (λ bs. core.gives (store_in w) (m.Text bs))

pub tostring_plain : (w after : LibWorld) (rs rs' : List Value) (result : Result (Unit {0}) Ending) (args : List Value) (v : m.Value) (h : Value) → meant w.names h ≡ metamethod (store_in w) v (codes "__tostring") → h ≡ value.Nil →
    Runs w after rs rs' result (core.gives (store_in w) (m.Text (plain_text (store_in w) v))) → Runs w after rs rs' result (asks_tostring w args v)
tostring_plain w after rs rs' result args v h says e k =
    subst (λ row. Runs w after rs rs' result row)
    (sym (plain_asked w.names (store_in w) v h says (record { builtin = builtin.Tostring; arguments = map (meant w.names) args; at = 0; text = [] }) (λ bs. core.gives (store_in w) (m.Text bs)) e)) k

pub tostring_asks : (w : LibWorld) (rs args : List Value) (v h : Value) (row : model.LibAnswer) (text : Bytes) → text ≡ [] → meant w.names h ≡ metamethod (store_in w) (meant w.names v) (codes "__tostring") → (h ≡ value.Nil → ⊥) →
    row ≡ asks_tostring w args (meant w.names v) → MayUseIn w h → MayUseIn w v → AllByRecursion (MayUseIn w) args →
    (a : LibAnswer) → Asks h v builtin.Tostring args 0 text a → Answered w w rs rs a wait.Elsewise row
tostring_asks w rs args v h row text none says some same uh uv us a asks =
    asks_answers w rs h v builtin.Tostring args 0 [] a row (subst (λ t. Asks h v builtin.Tostring args 0 t a) none asks) uh uv us
    (same ∙ handler_asked w.names (store_in w) (meant w.names v) h says (record { builtin = builtin.Tostring; arguments = map (meant w.names) args; at = 0; text = [] }) (λ bs. core.gives (store_in w) (m.Text bs)) some)

-- ---- `print`

pub prints_plain : (w : LibWorld) (args : List m.Value) (at : ℕ) (v : m.Value) (h : Value) (text tabbed after : Bytes) → meant w.names h ≡ metamethod (store_in w) v (codes "__tostring") → h ≡ value.Nil →
    tabbed ≡ core.with_tab at text → after ≡ tabbed ++ plain_text (store_in w) v → PrintsOne w args at v text after None
prints_plain w args at v h text tabbed after says e tab more vs =
    plain_asked w.names (store_in w) v h says (record { builtin = builtin.Print; arguments = args; at = at; text = core.with_tab at text }) (λ bs. core.prints (store_in w) args (suc at) (core.with_tab at text ++ bs) vs) e
    ∙ ap (λ t. core.prints (store_in w) args (suc at) t vs) (sym (more ∙ ap (λ t. t ++ plain_text (store_in w) v) tab))

pub prints_handled : (w : LibWorld) (args : List Value) (at : ℕ) (v h : Value) (text tabbed : Bytes) (a : LibAnswer) → meant w.names h ≡ metamethod (store_in w) (meant w.names v) (codes "__tostring") → (h ≡ value.Nil → ⊥) →
    tabbed ≡ core.with_tab at text → Asks h v builtin.Print args at tabbed a → MayUseIn w h → MayUseIn w v → AllByRecursion (MayUseIn w) args →
    (after : Bytes) → PrintsOne w (map (meant w.names) args) at (meant w.names v) text after (Some a)
prints_handled w args at v h text tabbed a says some tab asks uh uv us after vs rs =
    asks_answers w rs h v builtin.Print args at (core.with_tab at text) a _ (subst (λ t. Asks h v builtin.Print args at t a) tab asks) uh uv us
    (handler_asked w.names (store_in w) (meant w.names v) h says (record { builtin = builtin.Print; arguments = map (meant w.names) args; at = at; text = core.with_tab at text })
    (λ bs. core.prints (store_in w) (map (meant w.names) args) (suc at) (core.with_tab at text ++ bs) vs) some)

-- the line is shown
pub line_answers : (w : LibWorld) (line text : Bytes) (row : model.LibAnswer) → line ≡ text → row ≡ model.PrintsLine text → (rs : List Value) → Answered w w rs rs (answer.Print line) wait.Elsewise row
unfolding meant_answer
line_answers w line text row e same rs = record { given = []; appended = sym (append-nil rs); meant = ap model.PrintsLine e ∙ sym same; stays = (refl, refl); usable = tt; values = tt }

-- ---- the arguments of `print` in turn

-- what is left from a place on begins with the value there
rest_at : (f : Value → m.Value) (xs : List Value) (at : ℕ) (v : Value) → at < length xs → v ≡ get_or xs at v → drop at (map f xs) ≡ f v ∷ drop (suc at) (map f xs)
rest_at f xs at v l e =
    drop-map f at xs ∙ ap (map f) (drop-cons xs at v l)
    ∙ ap (λ x. f x ∷ map f (drop (suc at) xs)) (sym e)
    ∙ ap (λ ys. f v ∷ ys) (sym (drop-map f (suc at) xs))

module _ (w : LibWorld) (args : List Value) (at : ℕ) (v : Value) (text after : Bytes) (within : at < length args) (is : v ≡ get_or args at v) where
  one_printed : (o : Option LibAnswer) → ((a : LibAnswer) → o ≡ Some a → ⊥) → PrintsOne w (map (meant w.names) args) at (meant w.names v) text after o →
      (vs : List m.Value) → core.prints (store_in w) (map (meant w.names) args) at text (meant w.names v ∷ vs) ≡ core.prints (store_in w) (map (meant w.names) args) (suc at) after vs
  one_printed None no_call h = h
  one_printed (Some a) no_call h = absurd (no_call a refl)

  pub printed_on : (row : model.LibAnswer) (o : Option LibAnswer) → ((a : LibAnswer) → o ≡ Some a → ⊥) → PrintsOne w (map (meant w.names) args) at (meant w.names v) text after o →
      row ≡ core.prints (store_in w) (map (meant w.names) args) at text (drop at (map (meant w.names) args)) → row ≡ core.prints (store_in w) (map (meant w.names) args) (at + 1) after (drop (at + 1) (map (meant w.names) args))
  printed_on row o no_call h e =
      e ∙ ap (core.prints (store_in w) (map (meant w.names) args) at text) (rest_at (meant w.names) args at v within is)
      ∙ one_printed o no_call h (drop (suc at) (map (meant w.names) args))
      ∙ ap (λ i. core.prints (store_in w) (map (meant w.names) args) i after (drop i (map (meant w.names) args))) (sym (add-one at))

  pub print_calls : (row : model.LibAnswer) (o : Option LibAnswer) (a : LibAnswer) → o ≡ Some a → PrintsOne w (map (meant w.names) args) at (meant w.names v) text after o →
      row ≡ core.prints (store_in w) (map (meant w.names) args) at text (drop at (map (meant w.names) args)) → (rs : List Value) → Answered w w rs rs a wait.Elsewise row
  print_calls row o a is_call h e rs =
      subst (λ row. Answered w w rs rs a wait.Elsewise row)
      (sym (e ∙ ap (core.prints (store_in w) (map (meant w.names) args) at text) (rest_at (meant w.names) args at v within is)))
      (subst (PrintsOne w (map (meant w.names) args) at (meant w.names v) text after) is_call h (drop (suc at) (map (meant w.names) args)) rs)

pub print_ends : (w : LibWorld) (args : List Value) (at : ℕ) (text line : Bytes) (row : model.LibAnswer) → length args ≤ at → line ≡ text →
    row ≡ core.prints (store_in w) (map (meant w.names) args) at text (drop at (map (meant w.names) args)) → (rs : List Value) → Answered w w rs rs (answer.Print line) wait.Elsewise row
print_ends w args at text line row past same e =
    line_answers w line text row same
    (e ∙ ap (core.prints (store_in w) (map (meant w.names) args) at text) (drop_all at (map (meant w.names) args) (omega (arith, length-map args (meant w.names)))))
