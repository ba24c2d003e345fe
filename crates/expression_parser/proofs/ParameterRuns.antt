-- Parameters, one after the other.
use Rattle.std.proofs.Common.{◌≡◌, ◌≤◌, ◌<◌, ◌+◌, ℕ, Bool, true, false, List, [], ◌∷◌, ◌++◌, append_assoc, append-nil, refl, sym, ap, ◌∙◌, subst, arith, Ok, Err}
use Rattle.byte_text.specs.declared.StrId.{StrId}
use Rattle.syntax_tree.specs.declared.token.Token.{Token}
use Rattle.syntax_tree.specs.Grammar.{IsParams, last_param, more_params, dots, no_params, params}
use Rattle.syntax_tree.specs.Places.{kind_at}
use Rattle.type_skip.specs.declared.words.Word.TheVariants as words
use Rattle.parse_steps.specs.Classes.{name_of}
use Rattle.parse_steps.specs.Items as item
use Rattle.parse_steps.specs.Items.{Item}
use Rattle.parse_steps.specs.Turns.{turn, takes, stops, word_or, name_turn, parameter_turn}
use Rattle.type_skip.specs.Words.{is_word}
use Rattle.parse_steps.specs.Steps.{most, Leads}
use Rattle.type_skip.proofs.WordTests.{has, lacks}
use Rattle.expression_parser.specs.declared.fault.Fault.{Fault}
use Rattle.expression_parser.specs.declared.parts.Bind.{Bind}
use Rattle.expression_parser.specs.Reading.{Fails, FindsBind, FindsWord}
use Rattle.expression_parser.specs.Inner.{FindsTyping, FindsParameters}
use Rattle.expression_parser.proofs.Leading.{then_leads, then_fails, taking}
use Rattle.expression_parser.proofs.SameTurns.{word_taken, word_missing, same_leads, same_fails}

-- ---- none

pub no_parameter : (ts : List Token) (i : ℕ) (added : List StrId) → is_word words.CloseParen (kind_at ts i) ≡ true
    → FindsParameters ts i added (Ok (record { names = added; vararg = false; end = i + 1 }))
no_parameter ts i added stands =
    let close = has words.CloseParen (kind_at ts i) stands in (
      (([], i, no_params i close, close, refl, sym (append-nil added)), omega arith),
      λ v k. taking (word_taken words.CloseParen (kind_at ts i) (takes 0 v k) (parameter_turn (kind_at ts i) v k) stands) (omega arith) tt,
    )

-- ---- what was read so far: the next parameter begins at place j

pub record ParametersSoFar (ts : List Token) (i : ℕ) (added names : List StrId) (j : ℕ) : Type 0 where
  pub before : List StrId
  pub all : names ≡ added ++ before
  pub whole : (xs : List StrId) (v : Bool) (h : ℕ) → IsParams ts most j xs v h → IsParams ts most i (before ++ xs) v h
  pub goes : {v h w : ℕ} {k l : List Item} → j < h → Leads ts j v (item.parameter ∷ k) h w l → Leads ts i v (item.parameters ∷ k) h w l
  pub fails : (v : ℕ) (k : List Item) (f : Fault) → Fails ts j v (item.parameter ∷ k) f → Fails ts i v (item.parameters ∷ k) f
  pub onward : i ≤ j

-- a parameter may stand where no `)` does
first_turn : (ts : List Token) (i v : ℕ) (k : List Item) → is_word words.CloseParen (kind_at ts i) ≡ false
    → turn (kind_at ts i) v item.parameters k ≡ turn (kind_at ts i) v item.parameter k
first_turn ts i v k stands = word_missing words.CloseParen (kind_at ts i) (takes 0 v k) (parameter_turn (kind_at ts i) v k) stands

pub no_parameter_yet : (ts : List Token) (i : ℕ) (added : List StrId) → is_word words.CloseParen (kind_at ts i) ≡ false
    → ParametersSoFar ts i added added i
no_parameter_yet ts i added stands = record {
  before = [];
  all = sym (append-nil added);
  whole = λ xs v h d. d;
  goes = λ {v} {h} {w} {k} {l} onward r. same_leads ts item.parameters k (first_turn ts i v k stands) refl refl onward r;
  fails = λ v k f r. same_fails ts i v item.parameter k item.parameters k (first_turn ts i v k stands) refl refl f r;
  onward = omega arith;
}

-- ---- `...`

dots_turn : (ts : List Token) (j v : ℕ) (k : List Item) → is_word words.TripleDot (kind_at ts j) ≡ true
    → Leads ts j v (item.parameter ∷ k) (j + 1) v (item.typing ∷ item.expects words.CloseParen ∷ k)
dots_turn ts j v k stands = taking (word_taken words.TripleDot (kind_at ts j) (takes 0 v (item.typing ∷ item.expects words.CloseParen ∷ k))
    (name_turn (name_of (kind_at ts j)) (takes 0 v (item.typing ∷ item.parameter_more ∷ k)) stops) stands) (omega arith) tt

pub dots_with_faulty_type : (ts : List Token) (i : ℕ) (added names : List StrId) (j : ℕ) (f : Fault) → ParametersSoFar ts i added names j
    → is_word words.TripleDot (kind_at ts j) ≡ true → FindsTyping ts (j + 1) (Err f) → FindsParameters ts i added (Err f)
dots_with_faulty_type ts i added names j f so_far stands found = λ v k. so_far.fails v k f
    (then_fails (dots_turn ts j v k stands) f (found v (item.expects words.CloseParen ∷ k)))

pub dots_not_closed : (ts : List Token) (i : ℕ) (added names : List StrId) (j h : ℕ) (f : Fault) → ParametersSoFar ts i added names j
    → is_word words.TripleDot (kind_at ts j) ≡ true → FindsTyping ts (j + 1) (Ok h) → FindsWord ts h words.CloseParen (Err f)
    → FindsParameters ts i added (Err f)
dots_not_closed ts i added names j h f so_far stands found closes =
    λ v k. so_far.fails v k f (then_fails (then_leads (dots_turn ts j v k stands) (found.1 v (item.expects words.CloseParen ∷ k))) f
    (closes v k))

pub dots_closed : (ts : List Token) (i : ℕ) (added names : List StrId) (j h end : ℕ) → is_word words.CloseParen (kind_at ts i) ≡ false
    → ParametersSoFar ts i added names j → is_word words.TripleDot (kind_at ts j) ≡ true → FindsTyping ts (j + 1) (Ok h)
    → FindsWord ts h words.CloseParen (Ok end)
    → FindsParameters ts i added (Ok (record { names = names; vararg = true; end = end }))
dots_closed ts i added names j h end some so_far stands found closes =
    let read = so_far.whole [] true h (dots j h (has words.TripleDot (kind_at ts j) stands) found.0.0) in
    let all : names ≡ added ++ (so_far.before ++ []) = so_far.all ∙ ap (λ (xs : List StrId). added ++ xs) (sym (append-nil so_far.before))
    in (
      (
        (
          so_far.before ++ [],
          h,
          params i h (so_far.before ++ []) true (lacks words.CloseParen (kind_at ts i) some) read,
          closes.0.0,
          closes.0.1,
          all,
        ),
        omega (arith, so_far.onward, found.0.1, closes.0.1),
      ),
      λ v k. so_far.goes (omega (arith, found.0.1, closes.0.1))
          (then_leads (dots_turn ts j v k stands) (then_leads (found.1 v (item.expects words.CloseParen ∷ k)) (closes.1 v k))),
    )

-- ---- a name

-- a name begins a parameter as it does elsewhere
name_turn_here : (ts : List Token) (j v : ℕ) (k : List Item) → is_word words.TripleDot (kind_at ts j) ≡ false
    → turn (kind_at ts j) v item.parameter k ≡ turn (kind_at ts j) v item.bind (item.parameter_more ∷ k)
name_turn_here ts j v k stands = word_missing words.TripleDot (kind_at ts j) (takes 0 v (item.typing ∷ item.expects words.CloseParen ∷ k))
    (name_turn (name_of (kind_at ts j)) (takes 0 v (item.typing ∷ item.parameter_more ∷ k)) stops) stands

-- behind one name
named_leads : (ts : List Token) (j : ℕ) (next : Bind) (v : ℕ) (k : List Item) → is_word words.TripleDot (kind_at ts j) ≡ false
    → FindsBind ts j (Ok next) → Leads ts j v (item.parameter ∷ k) next.end v (item.parameter_more ∷ k)
named_leads ts j next v k stands found = same_leads ts item.parameter k (name_turn_here ts j v k stands) refl refl found.0.1
    (found.1 v (item.parameter_more ∷ k))

pub faulty_parameter : (ts : List Token) (i : ℕ) (added names : List StrId) (j : ℕ) (f : Fault) → ParametersSoFar ts i added names j
    → is_word words.TripleDot (kind_at ts j) ≡ false → FindsBind ts j (Err f) → FindsParameters ts i added (Err f)
faulty_parameter ts i added names j f so_far stands found =
    λ v k. so_far.fails v k f (same_fails ts j v item.bind (item.parameter_more ∷ k) item.parameter k (name_turn_here ts j v k stands) refl
    refl f (found v (item.parameter_more ∷ k)))

close_turn : (ts : List Token) (h v : ℕ) (k : List Item) → is_word words.Comma (kind_at ts h) ≡ false
    → turn (kind_at ts h) v item.parameter_more k ≡ turn (kind_at ts h) v (item.expects words.CloseParen) k
close_turn ts h v k stands = word_missing words.Comma (kind_at ts h) (takes 0 v (item.parameter ∷ k))
    (word_or words.CloseParen (kind_at ts h) (takes 0 v k) stops) stands

pub not_closed : (ts : List Token) (i : ℕ) (added names : List StrId) (j : ℕ) (next : Bind) (f : Fault)
    → ParametersSoFar ts i added names j → is_word words.TripleDot (kind_at ts j) ≡ false → FindsBind ts j (Ok next)
    → is_word words.Comma (kind_at ts next.end) ≡ false
    → FindsWord ts next.end words.CloseParen (Err f) → FindsParameters ts i added (Err f)
not_closed ts i added names j next f so_far stands found no_comma closes =
    λ v k. so_far.fails v k f (then_fails (named_leads ts j next v k stands found) f
    (same_fails ts next.end v (item.expects words.CloseParen) k item.parameter_more k (close_turn ts next.end v k no_comma) refl refl f
    (closes v k)))

-- the names with one more
one_more : (added before names more : List StrId) (x : StrId) → names ≡ added ++ before → more ≡ names ++ (x ∷ [])
    → more ≡ added ++ (before ++ (x ∷ []))
one_more added before names more x all now = now ∙ ap (λ (xs : List StrId). xs ++ (x ∷ [])) all ∙ append_assoc added before (x ∷ [])

pub closed : (ts : List Token) (i : ℕ) (added names more : List StrId) (j : ℕ) (next : Bind) (end : ℕ)
    → is_word words.CloseParen (kind_at ts i) ≡ false → ParametersSoFar ts i added names j → is_word words.TripleDot (kind_at ts j) ≡ false
    → FindsBind ts j (Ok next)
    → is_word words.Comma (kind_at ts next.end) ≡ false → FindsWord ts next.end words.CloseParen (Ok end)
    → more ≡ names ++ (next.name ∷ []) → FindsParameters ts i added (Ok (record { names = more; vararg = false; end = end }))
closed ts i added names more j next end some so_far stands found no_comma closes now =
    let xs : List StrId = so_far.before ++ (next.name ∷ []) in
    let read = so_far.whole (next.name ∷ []) false next.end
    (last_param j next.end next.name found.0.0 (lacks words.Comma (kind_at ts next.end) no_comma)) in (
      (
        (
          xs,
          next.end,
          params i next.end xs false (lacks words.CloseParen (kind_at ts i) some) read,
          closes.0.0,
          closes.0.1,
          one_more added
              so_far.before names more next.name so_far.all now,
        ),
        omega (arith, so_far.onward, found.0.1, closes.0.1),
      ),
      λ v k. so_far.goes (omega (arith, found.0.1, closes.0.1))
          (then_leads (named_leads ts j next v k stands found)
          (same_leads ts item.parameter_more k (close_turn ts next.end v k no_comma) refl refl (omega (arith, closes.0.1)) (closes.1 v k))),
    )

comma_leads : (ts : List Token) (h v : ℕ) (k : List Item) → is_word words.Comma (kind_at ts h) ≡ true
    → Leads ts h v (item.parameter_more ∷ k) (h + 1) v (item.parameter ∷ k)
comma_leads ts h v k stands = taking (word_taken words.Comma (kind_at ts h) (takes 0 v (item.parameter ∷ k))
    (word_or words.CloseParen (kind_at ts h) (takes 0 v k) stops) stands) (omega arith) tt

pub next_parameter : (ts : List Token) (i : ℕ) (added names more : List StrId) (j : ℕ) (next : Bind) → ParametersSoFar ts i added names j
    → is_word words.TripleDot (kind_at ts j) ≡ false → FindsBind ts j (Ok next) → is_word words.Comma (kind_at ts next.end) ≡ true
    → more ≡ names ++ (next.name ∷ []) → ParametersSoFar ts i added more (next.end + 1)
next_parameter ts i added names more j next so_far stands found comma now = record {
  before = so_far.before ++ (next.name ∷ []);
  all = one_more added so_far.before names more next.name so_far.all now;
  whole = λ xs v h d. subst (λ (ys : List StrId). IsParams ts most i ys v h) (sym (append_assoc so_far.before (next.name ∷ []) xs))
      (so_far.whole (next.name ∷ xs) v h (more_params j next.end h next.name xs v found.0.0 (has words.Comma (kind_at ts next.end) comma)
      d));
  goes = λ {v} {h} {w} {k} {l} onward r. so_far.goes (omega (arith, onward, found.0.1))
      (then_leads (named_leads ts j next v k stands found) (then_leads (comma_leads ts next.end v k comma) r));
  fails = λ v k f r. so_far.fails v k f (then_fails (then_leads (named_leads ts j next v k stands found)
      (comma_leads ts next.end v k comma)) f r);
  onward = omega (arith, so_far.onward, found.0.1);
}
