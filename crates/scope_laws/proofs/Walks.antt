-- The nodes of parts that are numbered in source order.
use Rattle.std.proofs.Common.{◌≡◌, ℕ, ◌+◌, List, [], ◌∷◌, ◌++◌}
use Rattle.syntax_tree.specs.declared.tree.FuncBody.{out-FuncBody}
use Rattle.scope_laws.specs.Sight.{Sight, Part, expr, stat, function, in_part}

-- the number of a node
abbrev pub HasNumber : Part → ℕ → Type 0
HasNumber (expr e) n = e.id ≡ n
HasNumber (stat x) n = x.id ≡ n
HasNumber (function f) n = (out-FuncBody f).id ≡ n
HasNumber _ n = Unit {0}

-- the number of the first node inside a part, which has the number n itself where it is a node
abbrev pub inner : Part → ℕ → ℕ
inner (expr e) n = n + 1
inner (stat s) n = n + 1
inner (function f) n = n + 1
inner _ n = n

-- the nodes of these parts have the numbers from n up to below m, whatever is seen there
pub data Walk : ℕ → List Part → ℕ → Type 0 where
  done : (n : ℕ) → Walk n [] n
  passed : (n m r : ℕ) (p : Part) (ps : List Part) → HasNumber p n → ((s : Sight) → Walk (inner p n) (in_part p s).parts m) →
      Walk m ps r → Walk n (p ∷ ps) r

-- of one part
abbrev pub one : (n m : ℕ) (p : Part) → HasNumber p n → ((s : Sight) → Walk (inner p n) (in_part p s).parts m) → Walk n (p ∷ []) m
one n m p h w = passed n m m p [] h w (done m)

pub join : {n m r : ℕ} {ps qs : List Part} → Walk n ps m → Walk m qs r → Walk n (ps ++ qs) r
join (done n) w = w
join (passed n m r p ps h inside rest) w = passed n m _ p _ h inside (join rest w)
