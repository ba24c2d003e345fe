-- How deep nodes nest along a run: no deeper than the opening tokens that were passed, and within the limit of the run.
use Rattle.std.proofs.Common.{◌≡◌, ◌≤◌, ◌<◌, ◌+◌, ℕ, zero, suc, max, List, [], ◌∷◌, Option, Some, ◌⊎◌, inl, inr, ap, subst, ◌∙◌, arith}
use Rattle.std.specs.Prelude.{if◌then◌else◌}
use Rattle.std.proofs.lemmas.Bool.{cases_lt}
use Rattle.syntax_tree.specs.declared.token.Token.{Token}
use Rattle.syntax_tree.specs.declared.token.TokenKind.{TokenKind}
use Rattle.syntax_tree.specs.declared.token.TokenKind.TheVariants as token
use Rattle.syntax_tree.specs.Places.{kind_at}
use Rattle.type_skip.specs.Brackets.{opens_bracket, brackets}
use Rattle.type_skip.proofs.Forward.{type_forward}
use Rattle.parse_steps.specs.Items.{Item, block}
use Rattle.syntax_tree.specs.Openings.{weight, openings}
use Rattle.parse_steps.specs.Steps.{most, Runs, here, stay, take, pass, IsDeep, deep_node, deep_type}
use Rattle.parse_steps.specs.Turns.{Turn, stays, takes, turn}
use Rattle.parse_steps.proofs.Kept.{keeps}
use Rattle.parse_steps.proofs.Limits.{Fits, Keeps, none, same, deeper, fits_more}
use Rattle.parse_steps.proofs.Together.{form, reach_of, nest_of, todo_of}

-- ---- opening tokens between two places

-- what counts the tokens before a place by weights grows from place to place
grows : (f : ℕ → ℕ) → ((k : ℕ) → f k ≤ f (suc k)) → (i j : ℕ) → i ≤ j → f i ≤ f j
grows f step i j le = by_cases j (cases_lt i j) le
  where
    by_cases : (j : ℕ) → (i < j) ⊎ (j ≤ i) → i ≤ j → f i ≤ f j
    by_cases zero (inl less) le = absurd (omega (arith, less))
    by_cases (suc j) (inl less) le =
        let rest : f i ≤ f j = by_cases j (cases_lt i j) (omega (arith, less)) in
        omega (arith, rest, step j)
    by_cases j (inr more) le =
        let e : i ≡ j = omega (arith, le, more) in
        subst (λ (x : ℕ). f i ≤ f x) e (omega arith)

behind_sum : (a b : ℕ) → b ≤ a + b
behind_sum a b = omega arith

-- no fewer stand before a later place
pub openings_grow : (ts : List Token) (i j : ℕ) → i ≤ j → openings ts i ≤ openings ts j
openings_grow ts = grows (openings ts) (λ k. behind_sum (weight (kind_at ts k)) (openings ts k))

-- the token at a place counts behind it
pub openings_next : (ts : List Token) (i : ℕ) → openings ts (i + 1) ≡ openings ts i + weight (kind_at ts i)
openings_next ts i =
    let one : i + 1 ≡ suc i = omega arith in
    let swap : weight (kind_at ts i) + openings ts i ≡ openings ts i + weight (kind_at ts i) = omega arith in
    ap (openings ts) one ∙ swap

-- a bracket of a type is an opening token
bracket_weighs : (o : Option TokenKind) → (if opens_bracket o then 1 else 0) ≤ weight o
bracket_weighs (Some token.OpenParen) = omega arith
bracket_weighs (Some token.OpenBracket) = omega arith
bracket_weighs (Some token.OpenBrace) = omega arith
bracket_weighs (Some token.Less) = omega arith
bracket_weighs _ = omega arith

sums : (a b c d e f : ℕ) → a ≤ b → c + e ≤ d + f → (a + c) + e ≤ (b + d) + f
sums a b c d e f le rest = omega (arith, le, rest)

-- between two places stand no more such brackets than opening tokens
pub brackets_opened : (ts : List Token) (i j : ℕ) → i ≤ j → brackets ts j + openings ts i ≤ openings ts j + brackets ts i
brackets_opened ts i j le = by_cases j (cases_lt i j) le
  where
    by_cases : (j : ℕ) → (i < j) ⊎ (j ≤ i) → i ≤ j → brackets ts j + openings ts i ≤ openings ts j + brackets ts i
    by_cases zero (inl less) le = absurd (omega (arith, less))
    by_cases (suc j) (inl less) le =
        let rest : brackets ts j + openings ts i ≤ openings ts j + brackets ts i = by_cases j (cases_lt i j) (omega (arith, less)) in
        let one : ℕ = if opens_bracket (kind_at ts j) then 1 else 0 in
        sums one (weight (kind_at ts j)) (brackets ts j) (openings ts j) (openings ts i) (brackets ts i) (bracket_weighs (kind_at ts j)) rest
    by_cases j (inr more) le =
        let e : i ≡ j = omega (arith, le, more) in
        subst (λ (x : ℕ). brackets ts x + openings ts i ≤ openings ts x + brackets ts i) e (omega arith)

-- ---- one turn

fits_at : {m u y : ℕ} {more rest : List Item} → u ≡ y → more ≡ rest → Fits m u more → Fits m y rest
fits_at {m = m} {u = u} {rest = rest} d e f = subst (λ (x : ℕ). Fits m x rest) d (subst (λ (x : List Item). Fits m u x) e f)

-- where the token is not taken, the limit stays
pub stays_within : {m e y : ℕ} {rest : List Item} {t : Turn} → Keeps m e t → t ≡ stays y rest → Fits m y rest
stays_within none h = absurd (omega (arith, ap form h))
stays_within {m = m} (same u more f) h = fits_at {m = m} (ap nest_of h) (ap todo_of h) f
stays_within (deeper r u more le f) h = absurd (omega (arith, ap form h))

-- where it is taken, the nodes that it opens are within the weight of the token
pub takes_within : {m e r y : ℕ} {rest : List Item} {t : Turn} → Keeps m e t → t ≡ takes r y rest → (r ≤ m + e) × Fits (max m r) y rest
takes_within none h = absurd (omega (arith, ap form h))
takes_within (same u more f) h = absurd (omega (arith, ap form h))
takes_within {m = m} {e = e} {r = r} {y = y} {rest = rest} (deeper s u more le f) h =
    let reach : s ≡ r = ap reach_of h in
    let new : Fits (max m s) y rest = fits_at {m = max m s} (ap nest_of h) (ap todo_of h) f in
    (subst (λ (x : ℕ). x ≤ m + e) reach le, subst (λ (x : ℕ). Fits (max m x) y rest) reach new)

-- ---- runs

-- a run keeps within the opening tokens
pub keeps_openings : {ts : List Token} {n b : ℕ} {F : ℕ → Type 0} {i v j w : ℕ} {k l : List Item} → Runs ts n b F i v k j w l → Fits (openings ts i) v k → Fits (openings ts j) w l
keeps_openings (here i v k) f = f
keeps_openings {ts = ts} (stay i v u j w x k more l e r) f =
    keeps_openings r (stays_within (keeps (openings ts i) v x k (kind_at ts i) f) e)
keeps_openings {ts = ts} (take i v u j w reach x k more l e le a r) f =
    let step = takes_within (keeps (openings ts i) v x k (kind_at ts i) f) e in
    let next : max (openings ts i) reach ≤ openings ts (i + 1) = omega (arith, step.0, openings_next ts i) in
    keeps_openings r (fits_more u more next step.1)
keeps_openings {ts = ts} (pass i v h j w k l t r) f =
    keeps_openings r (fits_more v k (openings_grow ts i h (omega (arith, type_forward t))) f)

-- a run keeps within its own limit
pub keeps_limit : {ts : List Token} {n b : ℕ} {F : ℕ → Type 0} {i v j w : ℕ} {k l : List Item} (m : ℕ) → b ≤ m → Runs ts n b F i v k j w l → Fits m v k → Fits m w l
keeps_limit m within (here i v k) f = f
keeps_limit {ts = ts} m within (stay i v u j w x k more l e r) f =
    keeps_limit m within r (stays_within (keeps m v x k (kind_at ts i) f) e)
keeps_limit {ts = ts} m within (take i v u j w reach x k more l e le a r) f =
    let step = takes_within (keeps m v x k (kind_at ts i) f) e in
    let next : max m reach ≤ m = omega (arith, le, within) in
    keeps_limit m within r (fits_more u more next step.1)
keeps_limit m within (pass i v h j w k l t r) f = keeps_limit m within r f

-- ---- runs from a block at the first token

begins_within : (m : ℕ) → Fits m 0 (block ∷ [])
begins_within m = (omega arith, tt)

pub fits_openings : {ts : List Token} {n b : ℕ} {F : ℕ → Type 0} {i v : ℕ} {k : List Item} → Runs ts n b F 0 0 (block ∷ []) i v k → Fits (openings ts i) v k
fits_openings {ts = ts} r = keeps_openings r (begins_within (openings ts 0))

-- what a token opens there is counted
pub reach_counted : {ts : List Token} {n b : ℕ} {F : ℕ → Type 0} {i v r u : ℕ} {x : Item} {k more : List Item} → Runs ts n b F 0 0 (block ∷ []) i v (x ∷ k) → turn (kind_at ts i) v x k ≡ takes r u more → r ≤ openings ts (i + 1)
reach_counted {ts = ts} {i = i} {v = v} {x = x} {k = k} run e =
    let step = takes_within (keeps (openings ts i) v x k (kind_at ts i) (fits_openings run)) e in
    omega (arith, step.0, openings_next ts i)

pub fits_most : {ts : List Token} {n b : ℕ} {F : ℕ → Type 0} {i v : ℕ} {k : List Item} → Runs ts n b F 0 0 (block ∷ []) i v k → Fits b v k
fits_most {b = b} r = keeps_limit b (omega arith) r (begins_within b)

-- a whole block nests within the limit, and no deeper than its opening tokens
pub nest_most : {ts : List Token} {n b : ℕ} {F : ℕ → Type 0} {i v : ℕ} → Runs ts n b F 0 0 (block ∷ []) i v [] → v ≤ b
nest_most r = let f = fits_most r in omega (arith, f.0)

pub nest_counted : {ts : List Token} {n b : ℕ} {F : ℕ → Type 0} {i v : ℕ} → Runs ts n b F 0 0 (block ∷ []) i v [] → v ≤ openings ts i
nest_counted r = let f = fits_openings r in omega (arith, f.0)

-- more than the greatest number of opening tokens stand up to the one that opens too many
pub deep_counted : {ts : List Token} {n b : ℕ} {F : ℕ → Type 0} {i v p : ℕ} {k : List Item} → Runs ts n b F 0 0 (block ∷ []) i v k → IsDeep ts i v k p → most < openings ts (p + 1)
deep_counted run (deep_node i v reach u x k more e less) = omega (arith, less, reach_counted run e)
deep_counted {ts = ts} run (deep_type i v p k many) =
    let at : i ≤ p + 1 = omega (arith, many.from) in
    let opened : brackets ts (p + 1) + openings ts i ≤ openings ts (p + 1) + brackets ts i = brackets_opened ts i (p + 1) at in
    omega (arith, many.many, opened)
