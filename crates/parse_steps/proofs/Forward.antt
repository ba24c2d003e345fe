-- The derivation of a block is a run of turns, and where arguments open in its tree, the run asks for arguments.
use Rattle.std.proofs.Common.{◌≡◌, ◌≢◌, ◌≤◌, ◌+◌, ℕ, max, Bool, true, false, List, [], ◌∷◌, Option, Contains, refl, sym, ap, subst, ◌∙◌, arith, true≢false, ◌⊎◌, inl, inr}
use Rattle.byte_text.specs.declared.StrId.{StrId}
use Rattle.syntax_tree.specs.declared.token.Token.{Token}
use Rattle.syntax_tree.specs.declared.token.TokenKind.{TokenKind}
use Rattle.syntax_tree.specs.declared.token.TokenKind.TheVariants as token
use Rattle.syntax_tree.specs.declared.tree.Stat.{Stat}
use Rattle.syntax_tree.specs.Calls.{call_places}
use Rattle.syntax_tree.specs.Derivations.{IsChunk, main_function}
use Rattle.syntax_tree.specs.Grammar.{in_target, IsBlock}
use Rattle.syntax_tree.specs.Nest.{nest_func}
use Rattle.syntax_tree.specs.Places.{kind_at, Has}
use Rattle.syntax_tree.specs.Types.{IsType}
use Rattle.parse_steps.specs.declared.classes.Arguments.TheVariants as argument
use Rattle.parse_steps.specs.Classes as classes
use Rattle.parse_steps.specs.Items.{Item, in_expression}
use Rattle.parse_steps.specs.Items as item
use Rattle.parse_steps.specs.Steps.{Runs, here, asks, Allowed}
use Rattle.parse_steps.specs.Steps as steps
use Rattle.parse_steps.specs.Turns.{Turn, turn, stops, stays, takes}
use Rattle.parse_steps.proofs.ForwardCourse.{Course, among, past}
use Rattle.parse_steps.proofs.ForwardNodes.{deep_block, deep_main, asked_main}
use Rattle.parse_steps.proofs.ForwardTree.{block_is_read}

-- ---- a goal that also knows what it is behind a name

abbrev turn_of : Option TokenKind → ℕ → List Item → Turn
turn_of t v [] = stops
turn_of t v (x ∷ k) = turn t v x k

abbrev nest_of : Turn → ℕ
nest_of stops = 0
nest_of (stays u more) = u
nest_of (takes reach u more) = u

abbrev todo_of : Turn → List Item
todo_of stops = []
todo_of (stays u more) = more
todo_of (takes reach u more) = more

abbrev first_asks : List Item → Bool
first_asks [] = false
first_asks (x ∷ k) = asks x

-- a goal that turns keep
pub record Kept (ts : List Token) (n b p : ℕ) : Type 1 where
  pub Asked : Type 0
  pub Goal : (i v : ℕ) (k : List Item) → Type 0
  pub stay : (i v u : ℕ) (x : Item) (k more : List Item) → turn (kind_at ts i) v x k ≡ stays u more → Goal i u more → Goal i v (x ∷ k)
  pub take : (i v u reach : ℕ) (x : Item) (k more : List Item) → turn (kind_at ts i) v x k ≡ takes reach u more → reach ≤ b
      → Goal (i + 1) u more → Goal i v (x ∷ k)
  pub pass : (i v h : ℕ) (k : List Item) → IsType ts n i h → Goal h v k → Goal i v (item.a_type ∷ k)
  pub hit : (v : ℕ) (x : Item) (k : List Item) → Asked → asks x ≡ true → classes.arguments (kind_at ts p) ≢ argument.Nothing
      → Goal p v (x ∷ k)

module _ {ts : List Token} {n b p : ℕ} (K : Kept ts n b p) where
  -- where a name begins an expression, the goal behind it
  abbrev BehindName : (i v : ℕ) (k : List Item) → Type 0
  BehindName i v k = (x : StrId) (r : List Item) → Has ts i (token.Name x) → v ≡ 0
      → (k ≡ item.unary ∷ r) ⊎ (k ≡ item.simple ∷ item.cast ∷ item.power ∷ r)
      → K.Goal (i + 1) 0 (item.suffixes in_target in_expression ∷ item.cast ∷ item.power ∷ r)

  abbrev Both : (i v : ℕ) (k : List Item) → Type 0
  Both i v k = K.Goal i v k × BehindName i v k

  behind_stay : (i v u : ℕ) (x : Item) (k more : List Item) → turn (kind_at ts i) v x k ≡ stays u more → BehindName i u more
      → BehindName i v (x ∷ k)
  behind_stay i v u x k more e behind y r h at_zero (inl there) =
      let turns : stays 0 (item.simple ∷ item.cast ∷ item.power ∷ r) ≡ stays u more = sym (λ d. turn_of (h d) (at_zero d) (there d)) ∙ e
      in
      behind y r h (sym (ap nest_of turns)) (inr (sym (ap todo_of turns)))
  behind_stay i v u x k more e behind y r h at_zero (inr there) =
      let turns : takes 0 0 (item.suffixes in_target in_expression ∷ item.cast ∷ item.power ∷ r) ≡ stays u more = sym
      (λ d. turn_of (h d) (at_zero d) (there d)) ∙ e in
      absurd cc

  behind_take : (i v u reach : ℕ) (x : Item) (k more : List Item) → turn (kind_at ts i) v x k ≡ takes reach u more
      → K.Goal (i + 1) u more → BehindName i v (x ∷ k)
  behind_take i v u reach x k more e goal y r h at_zero (inl there) =
      let turns : stays 0 (item.simple ∷ item.cast ∷ item.power ∷ r) ≡ takes reach u more = sym
      (λ d. turn_of (h d) (at_zero d) (there d)) ∙ e in
      absurd cc
  behind_take i v u reach x k more e goal y r h at_zero (inr there) =
      let turns : takes reach u more ≡ takes 0 0 (item.suffixes in_target in_expression ∷ item.cast ∷ item.power ∷ r) = sym e ∙
      (λ d. turn_of (h d) (at_zero d) (there d)) in
      subst (λ t. K.Goal (i + 1) (nest_of t) (todo_of t)) turns goal

  behind_type : (i v : ℕ) (k : List Item) → BehindName i v (item.a_type ∷ k)
  behind_type i v k y r h at_zero (inl there) = absurd cc
  behind_type i v k y r h at_zero (inr there) = absurd cc

  behind_asking : (i v : ℕ) (x : Item) (k : List Item) → asks x ≡ true → BehindName i v (x ∷ k)
  behind_asking i v x k is y r h at_zero (inl there) = absurd (true≢false (sym is ∙ ap first_asks there))
  behind_asking i v x k is y r h at_zero (inr there) = absurd (true≢false (sym is ∙ ap first_asks there))

  behind_nothing : (i v : ℕ) → BehindName i v []
  behind_nothing i v y r h at_zero (inl there) = absurd cc
  behind_nothing i v y r h at_zero (inr there) = absurd cc

  course : Course ts n b p
  course = record {
    Asked = K.Asked;
    Goal = Both;
    stay = both_stay;
    take = both_take;
    pass = both_pass;
    hit = both_hit;
    behind_name =
        both_name;
  }
    where
      both_stay : {i v u : ℕ} {x : Item} {k more : List Item} → turn (kind_at ts i) v x k ≡ stays u more → Both i u more
          → Both i v (x ∷ k)
      both_stay {i = i} {v = v} {u = u} {x = x} {k = k} {more = more} e g =
          (K.stay i v u x k more e g.0, behind_stay i v u x k more e g.1)

      both_take : {i v u reach : ℕ} {x : Item} {k more : List Item} → turn (kind_at ts i) v x k ≡ takes reach u more → reach ≤ b
          → Both (i + 1) u more → Both i v (x ∷ k)
      both_take {i = i} {v = v} {u = u} {reach = reach} {x = x} {k = k} {more = more} e fits g =
          (K.take i v u reach x k more e fits g.0, behind_take i v u reach x k more e g.0)

      both_pass : {i v h : ℕ} {k : List Item} → IsType ts n i h → Both h v k → Both i v (item.a_type ∷ k)
      both_pass {i = i} {v = v} {h = h} {k = k} t g = (K.pass i v h k t g.0, behind_type i v k)

      both_hit : {v : ℕ} {x : Item} {k : List Item} → K.Asked → asks x ≡ true → classes.arguments (kind_at ts p) ≢ argument.Nothing
          → Both p v (x ∷ k)
      both_hit {v = v} {x = x} {k = k} a is opens = (K.hit v x k a is opens, behind_asking p v x k is)

      both_name : {i : ℕ} {k : List Item} (x : StrId) → Has ts i (token.Name x) → Both i 0 (item.unary ∷ k)
          → Both (i + 1) 0 (item.suffixes in_target in_expression ∷ item.cast ∷ item.power ∷ k)
      both_name {i = i} {k = k} x h g = (
        g.1 x k h refl (inl refl),
        behind_asking (i + 1) 0 (item.suffixes in_target in_expression)
            (item.cast ∷ item.power ∷ k) refl,
      )

  -- a block leads from its beginning to its end
  pub block_goes : {j : ℕ} {block : List Stat} → IsBlock ts n 0 block j → nest_func (main_function block) ≤ b
      → (K.Asked × Contains (call_places (main_function block)) p) ⊎ K.Goal j (nest_func (main_function block)) []
      → K.Goal 0 0 (item.block ∷ [])
  unfolding course
  block_goes {j = j} {block = block} a fits w = read w
    where
      small : deep_block block ≤ b
      small = subst (λ m. m ≤ b) (sym (deep_main block)) fits

      nests : nest_func (main_function block) ≡ max 0 (deep_block block)
      nests = sym (deep_main block) ∙ omega arith

      read : (K.Asked × Contains (call_places (main_function block)) p) ⊎ K.Goal j (nest_func (main_function block)) []
          → K.Goal 0 0 (item.block ∷ [])
      read (inl there) = (block_is_read course a 0 [] (omega (arith, small))
          (among there.0 (subst (λ places. Contains places p) (sym (asked_main block)) there.1))).0
      read (inr goal) = (block_is_read course a 0 [] (omega (arith, small))
          (past (subst (λ m. K.Goal j m []) nests goal, behind_nothing j (max 0 (deep_block block))))).0

-- ---- runs

allowed : (i : ℕ) (x : Item) → Allowed (λ i. Unit {0}) i x
allowed i (item.suffixes c u) = tt
allowed i item.arguments = tt
allowed i _ = tt

-- the runs to one state
runs_kept : (ts : List Token) (n b stop nest : ℕ) (l : List Item) → Kept ts n b 0
runs_kept ts n b stop nest l = record {
  Asked = ⊥;
  Goal = λ i v k. Runs ts n b (λ i. Unit {0}) i v k stop nest l;
  stay = λ i v u x k more e g. steps.stay i v u stop nest x k more l e g;
  take = λ i v u reach x k more e fits g. steps.take i v u stop nest reach x k more l e fits (allowed i x) g;
  pass = λ i v h k t g. steps.pass i v h stop nest k l t g;
  hit = λ v x k a is opens. absurd a;
}

-- a derivation of a block is a run from its beginning to its end
pub chunk_runs : {ts : List Token} {n b : ℕ} {block : List Stat} (c : IsChunk ts n block) → nest_func (main_function block) ≤ b
    → Runs ts n b (λ i. Unit {0}) 0 0 (item.block ∷ []) c.stop (nest_func (main_function block)) []
unfolding runs_kept
chunk_runs {ts = ts} {n = n} {b = b} {block = block} c fits =
    block_goes (runs_kept ts n b c.stop (nest_func (main_function block)) []) c.derived fits
    (inr (here c.stop (nest_func (main_function block)) []))

-- a run to a state that asks for arguments at place p
record Asking (ts : List Token) (n b p i v : ℕ) (k : List Item) : Type 0 where
  pub nest : ℕ
  pub first : Item
  pub rest : List Item
  pub run : Runs ts n b (λ i. Unit {0}) i v k p nest (first ∷ rest)
  pub asking : asks first ≡ true
  pub opens : classes.arguments (kind_at ts p) ≢ argument.Nothing

asking_kept : (ts : List Token) (n b p : ℕ) → Kept ts n b p
asking_kept ts n b p = record {
  Asked = Unit {0};
  Goal = Asking ts n b p;
  stay = λ i v u x k more e g. record {
    nest = g.nest;
    first = g.first;
    rest = g.rest;
    run = steps.stay i v u p g.nest x k more
        (g.first ∷ g.rest) e g.run;
    asking = g.asking;
    opens = g.opens;
  };
  take = λ i v u reach x k more e fits g. record {
    nest = g.nest;
    first = g.first;
    rest = g.rest;
    run = steps.take i v u p g.nest reach x k more (g.first ∷ g.rest) e fits
        (allowed i x) g.run;
    asking = g.asking;
    opens = g.opens;
  };
  pass = λ i v h k t g. record {
    nest = g.nest;
    first = g.first;
    rest = g.rest;
    run = steps.pass i v h p g.nest k (g.first ∷ g.rest) t
        g.run;
    asking = g.asking;
    opens = g.opens;
  };
  hit = λ v x k a is opens. record { nest = v; first = x; rest = k; run = here p v (x ∷ k); asking = is; opens = opens };
}

-- where arguments open in the tree, the run passes a state that asks for arguments there
pub chunk_asks : {ts : List Token} {n b p : ℕ} {block : List Stat} (c : IsChunk ts n block) → nest_func (main_function block) ≤ b
    → Contains (call_places (main_function block)) p
    → (v : ℕ) × (x : Item) × (l : List Item) × Runs ts n b (λ i. Unit {0}) 0 0 (item.block ∷ []) p v (x ∷ l) × (asks x ≡ true) ×
    (classes.arguments (kind_at ts p) ≢ argument.Nothing)
unfolding asking_kept
chunk_asks {ts = ts} {n = n} {b = b} {p = p} {block = block} c fits called =
    let g : Asking ts n b p 0 0 (item.block ∷ []) = block_goes (asking_kept ts n b p) c.derived fits (inl (tt, called)) in
    (g.nest, g.first, g.rest, g.run, g.asking, g.opens)
