-- States within a limit: no node that is open, or that the stack is to close, nests deeper.
use Rattle.std.proofs.Common.{◌≡◌, ◌≤◌, ◌+◌, ℕ, suc, max, List, [], ◌∷◌, refl, arith}
use Rattle.parse_steps.specs.declared.levels.Level.{Level}
use Rattle.parse_steps.specs.declared.levels.Level.TheVariants as levels
use Rattle.parse_steps.specs.declared.levels.Rank.TheVariants as rank
use Rattle.parse_steps.specs.Items.{Item, greater, assigned_function, depth, climb}
use Rattle.parse_steps.specs.Turns.{Turn, stops, stays, takes}

-- what was read before an item of the stack, and the node that a function is to be
abbrev pub Holds : ℕ → List Item → Type 0
Holds m [] = Unit {0}
Holds m (greater w ∷ k) = (depth k + w ≤ m) × Holds m k
Holds m (assigned_function ∷ k) = (suc (depth k) ≤ m) × Holds m k
Holds m (_ ∷ k) = Holds m k

-- all that, and what was read last
abbrev pub Fits : (m v : ℕ) (k : List Item) → Type 0
Fits m v k = (depth k + v ≤ m) × Holds m k

-- what a turn does to a state within m where the token may open so many nodes
pub data Keeps (m opened : ℕ) : Turn → Type 0 where
  none : Keeps m opened stops
  same : (u : ℕ) (more : List Item) → Fits m u more → Keeps m opened (stays u more)
  deeper : (r u : ℕ) (more : List Item) → r ≤ m + opened → Fits (max m r) u more → Keeps m opened (takes r u more)

pub le_left : (m r : ℕ) → m ≤ max m r
le_left m r = omega arith

pub le_right : (m r : ℕ) → r ≤ max m r
le_right m r = omega arith

pub max_within : (m r n : ℕ) → m ≤ n → r ≤ n → max m r ≤ n
max_within m r n le less = omega (arith, le, less)

-- a wider limit holds too
pub holds_more : {m n : ℕ} (k : List Item) → m ≤ n → Holds m k → Holds n k
holds_more [] le h = tt
holds_more (greater w ∷ k) le h = (omega (arith, le, h.0), holds_more k le h.1)
holds_more (assigned_function ∷ k) le h = (omega (arith, le, h.0), holds_more k le h.1)
holds_more (_ ∷ k) le h = holds_more k le h

pub fits_more : {m n : ℕ} (v : ℕ) (k : List Item) → m ≤ n → Fits m v k → Fits n v k
fits_more v k le f = (omega (arith, le, f.0), holds_more k le f.1)

-- the operators that may follow open nothing by themselves
pub depth_climb : (l : Level) (k : List Item) → depth (climb l k) ≡ depth k
depth_climb levels.Unaries k = refl
depth_climb (levels.Of rank.Products) k = refl
depth_climb (levels.Of rank.Sums) k = refl
depth_climb levels.Runs k = refl
depth_climb (levels.Of rank.Comparisons) k = refl
depth_climb (levels.Of rank.Ands) k = refl
depth_climb (levels.Of rank.Ors) k = refl

pub holds_climb : (m : ℕ) (l : Level) (k : List Item) → Holds m k → Holds m (climb l k)
holds_climb m levels.Unaries k h = h
holds_climb m (levels.Of rank.Products) k h = h
holds_climb m (levels.Of rank.Sums) k h = h
holds_climb m levels.Runs k h = h
holds_climb m (levels.Of rank.Comparisons) k h = h
holds_climb m (levels.Of rank.Ands) k h = h
holds_climb m (levels.Of rank.Ors) k h = h
