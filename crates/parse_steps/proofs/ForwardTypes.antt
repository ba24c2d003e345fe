-- What the grammar reads without a node is read by turns: names with their types, parameters, generics, and definitions of types.
use Rattle.std.proofs.Common.{◌≡◌, ◌+◌, ℕ, Bool, List, ◌∷◌, Option, Some, IsTrue, refl, sym, ap, subst, ◌∙◌, arith, true≢false}
use Rattle.byte_text.specs.declared.StrId.{StrId}
use Rattle.syntax_tree.specs.declared.token.Token.{Token}
use Rattle.syntax_tree.specs.declared.token.TokenKind.{TokenKind}
use Rattle.syntax_tree.specs.declared.token.TokenKind.TheVariants as token
use Rattle.syntax_tree.specs.Grammar.{IsTyping, untyped, typed, IsBind, bind, IsBinds, last_bind, more_binds, IsParams, last_param, more_params, dots, IsParamList, no_params, params, IsTypeDefinition, type_definition, IsTypeStat, private_type, exported_type}
use Rattle.syntax_tree.specs.Places.{kind_at, Has, Lacks, is_name, Optional, taken, absent}
use Rattle.syntax_tree.specs.Types.{IsType, IsGenerics, no_generics, generics, IsGenericList, last_generic, more_generics, IsGeneric, generic, IsDefault, no_default, default}
use Rattle.syntax_tree.specs.Words.{type_name, export_name}
use Rattle.type_skip.specs.declared.words.Word.TheVariants as word
use Rattle.parse_steps.specs.Items.{Item}
use Rattle.parse_steps.specs.Items as item
use Rattle.parse_steps.specs.Turns.{turn, stays, takes, parameter_turn, type_items}
use Rattle.parse_steps.proofs.ForwardCourse.{Course, word_past, steps_at, stays_at, expects_goes, name_goes, at_place}

-- the name that stands there
pub a_name_there : (t : Option TokenKind) → IsTrue (is_name t) → (x : StrId) × (t ≡ Some (token.Name x))
a_name_there (Some (token.Name x)) h = (x, refl)
a_name_there _ h = absurd (true≢false (sym h))

module _ {ts : List Token} {n b p : ℕ} (C : Course ts n b p) where
  pub typing_goes : {i j v : ℕ} {k : List Item} → IsTyping ts n i j → C.Goal j v k → C.Goal i v (item.typing ∷ k)
  typing_goes {v = v} {k = k} (untyped i h) g = C.stay (word_past word.Colon (takes 0 v (item.a_type ∷ k)) (stays v k) h) g
  typing_goes (typed i j h t) g = steps_at C token.Colon h refl (C.pass t g)

  pub bind_goes : {i j v : ℕ} {x : StrId} {k : List Item} → IsBind ts n i x j → C.Goal j v k → C.Goal i v (item.bind ∷ k)
  bind_goes (bind i j x h t) g = steps_at C (token.Name x) h refl (typing_goes t g)

  no_more_binds : {i v : ℕ} {k : List Item} → Lacks ts i token.Comma → C.Goal i v k → C.Goal i v (item.bind_more ∷ k)
  no_more_binds {v = v} {k = k} h g = C.stay (word_past word.Comma (takes 0 v (item.bind ∷ item.bind_more ∷ k)) (stays v k) h) g

  pub binds_goes : {i j v : ℕ} {xs : List StrId} {k : List Item} → IsBinds ts n i xs j → C.Goal j v k
      → C.Goal i v (item.bind ∷ item.bind_more ∷ k)
  binds_goes (last_bind i j x a h) g = bind_goes a (no_more_binds h g)
  binds_goes (more_binds i j k x xs a h bs) g = bind_goes a (steps_at C token.Comma h refl (binds_goes bs g))

  -- the names of a `for`, and what stands behind them
  pub for_names_goes : {i j v : ℕ} {xs : List StrId} {k : List Item} → IsBinds ts n i xs j → Has ts j token.In
      → C.Goal j v (item.expects word.In ∷ item.expression ∷ item.list_more ∷ item.expects word.Do ∷ item.block ∷ item.expects word.End ∷
      k) → C.Goal i v (item.bind ∷ item.for_what ∷ k)
  for_names_goes (last_bind i j x a h) there g = bind_goes a (stays_at C token.In there refl (no_more_binds h g))
  for_names_goes (more_binds i j k x xs a h bs) there g = bind_goes a
      (stays_at C token.Comma h refl (steps_at C token.Comma h refl (binds_goes bs g)))

  params_goes : {i j v : ℕ} {w : Bool} {xs : List StrId} {k : List Item} (x : Item) → IsParams ts n i xs w j
      → turn (kind_at ts i) v x k ≡ parameter_turn (kind_at ts i) v k → Has ts j token.CloseParen → C.Goal (j + 1) v k
      → C.Goal i v (x ∷ k)
  params_goes {v = v} {k = k} x (last_param i j y (bind i2 j2 y2 h t) f) e c g =
      C.take (e ∙ ap (λ o. parameter_turn o v k) h) (omega arith) (typing_goes t (steps_at C token.CloseParen c refl g))
  params_goes {v = v} {k = k} x (more_params i j l y ys w (bind i2 j2 y2 h t) f ps) e c g =
      C.take (e ∙ ap (λ o. parameter_turn o v k) h) (omega arith)
      (typing_goes t (steps_at C token.Comma f refl (params_goes item.parameter ps refl c g)))
  params_goes {v = v} {k = k} x (dots i j h t) e c g =
      C.take (e ∙ ap (λ o. parameter_turn o v k) h) (omega arith) (typing_goes t (expects_goes C word.CloseParen c g))

  pub param_list_goes : {i j v : ℕ} {w : Bool} {xs : List StrId} {k : List Item} → IsParamList ts n i xs w j → Has ts j token.CloseParen
      → C.Goal (j + 1) v k → C.Goal i v (item.parameters ∷ k)
  param_list_goes (no_params i h) c g = steps_at C token.CloseParen h refl g
  param_list_goes {v = v} {k = k} (params i j xs w h ps) c g =
      params_goes item.parameters ps (word_past word.CloseParen (takes 0 v k) (parameter_turn (kind_at ts i) v k) h) c g

  -- ---- generics

  default_goes : {m i j v : ℕ} {k : List Item} → IsDefault ts m i j → m ≡ n → C.Goal j v (item.generic_more ∷ k)
      → C.Goal i v (item.generic_default ∷ k)
  default_goes {v = v} {k = k} (no_default m i h) e g =
      C.stay (word_past word.Equal (takes 0 v (item.a_type ∷ item.generic_more ∷ k)) (stays v (item.generic_more ∷ k)) h) g
  default_goes (default m i j h t) e g = steps_at C token.Equal h refl (C.pass (subst (λ q. IsType ts q (i + 1) j) e t) g)

  dots_goes : {i j v : ℕ} {k : List Item} → Optional ts token.TripleDot i j → C.Goal j v (item.generic_default ∷ k)
      → C.Goal i v (item.generic_dots ∷ k)
  dots_goes (taken i h) g = steps_at C token.TripleDot h refl g
  dots_goes {v = v} {k = k} (absent i h) g =
      C.stay (word_past word.TripleDot (takes 0 v (item.generic_default ∷ k)) (stays v (item.generic_default ∷ k)) h) g

  generic_goes : {m i j v : ℕ} {k : List Item} → IsGeneric ts m i j → m ≡ n → C.Goal j v (item.generic_more ∷ k)
      → C.Goal i v (item.generic ∷ k)
  generic_goes (generic m i j k h o d) e g =
      let there = a_name_there (kind_at ts i) h in
      steps_at C (token.Name there.0) there.1 refl (dots_goes o (default_goes d e g))

  generic_list_goes : {m i j v : ℕ} {k : List Item} → IsGenericList ts m i j → m ≡ n → Has ts j token.Greater → C.Goal (j + 1) v k
      → C.Goal i v (item.generic ∷ k)
  generic_list_goes (last_generic m i j a h) e c g = generic_goes a e (steps_at C token.Greater c refl g)
  generic_list_goes (more_generics m i j k a h l) e c g = generic_goes a e (steps_at C token.Comma h refl (generic_list_goes l e c g))

  generics_are : {m i j v : ℕ} {k : List Item} → IsGenerics ts m i j → m ≡ n → C.Goal j v k → C.Goal i v (item.generics ∷ k)
  generics_are {v = v} {k = k} (no_generics m i h) e g = C.stay (word_past word.Less (takes 0 v (item.generic ∷ k)) (stays v k) h) g
  generics_are (generics m i j h l c) e g = steps_at C token.Less h refl (generic_list_goes l e c g)

  pub generics_goes : {i j v : ℕ} {k : List Item} → IsGenerics ts n i j → C.Goal j v k → C.Goal i v (item.generics ∷ k)
  generics_goes a g = generics_are a refl g

  -- ---- definitions of types

  definition_goes : {i j v : ℕ} {k : List Item} → IsTypeDefinition ts n i j → C.Goal j v (item.stat_end ∷ k)
      → (x : StrId) × Has ts i (token.Name x) × C.Goal (i + 1) v (type_items k)
  definition_goes (type_definition i j k x h a f t) g = (x, h, generics_goes a (expects_goes C word.Equal f (C.pass t g)))

  pub type_stat_goes : {i j v : ℕ} {k : List Item} → IsTypeStat ts n i j → C.Goal j v (item.stat_end ∷ k) → C.Goal i v (item.block ∷ k)
  type_stat_goes (private_type i j h d) g =
      let r = definition_goes d g in
      steps_at C (token.Name type_name) h refl (steps_at C (token.Name r.0) r.1 refl r.2)
  type_stat_goes (exported_type i j h f d) g =
      let r = definition_goes d g in
      steps_at C (token.Name export_name) h refl
      (steps_at C (token.Name type_name) f refl (at_place C (omega arith) (name_goes C r.0 r.1 r.2)))
