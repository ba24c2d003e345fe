-- What the registers of a function that are in use stand for, and what a cell of the script is in the machine: a register as long as no
-- closure has taken it, and a cell of the machine's own from then on.
use Rattle.std.specs.Prelude.{◌≡◌, ◌≢◌, ◌≤◌, ◌⊎◌, ℕ, suc, Bool, true, false, List, [], ◌∷◌, length, Option, Some, None, nat_eq, if◌then◌else◌}
use Rattle.byte_text.specs.declared.fixed.StrId.{StrId}
use Rattle.value_model.specs.Values.{Value}
use Rattle.source_meaning.specs.States.{Environment}
use Rattle.machine_meaning.specs.States.{Register, Val, Open, Registers}

-- ---- registers in use, the newest first. A slot's register is the number of slots below it

-- a variable, with its cell and whether a closure may capture it; or a value
pub data Slot : Type 0 where
  Var : (x : StrId) → (cell : ℕ) → (captured : Bool) → Slot
  Temp : (v : Value) → Slot

-- a variable in scope, as it is found by its name
pub record Local : Type 0 where
  pub register : ℕ
  pub cell : ℕ
  pub captured : Bool

-- the newest variable of the name
abbrev pub local_at : List Slot → StrId → Option Local
local_at [] x = None
local_at (Var y c cap ∷ l) x =
    if nat_eq y.0 x.0 then Some (record { register = length l; cell = c; captured = cap }) else local_at l x
local_at (Temp v ∷ l) x = local_at l x

-- the variables in scope, with their cells
abbrev pub binds : List Slot → Environment
binds [] = []
binds (Var x c cap ∷ l) = (x, c) ∷ binds l
binds (Temp v ∷ l) = binds l

-- values above, the last one on top
abbrev pub temps : List Value → List Slot → List Slot
temps [] l = l
temps (v ∷ vs) l = temps vs (Temp v ∷ l)

-- variables above, with cells from one on. Which of them may be captured is told by register
abbrev pub vars : (captured : ℕ → Bool) → List StrId → ℕ → List Slot → List Slot
vars captured [] c l = l
vars captured (x ∷ xs) c l = vars captured xs (suc c) (Var x c (captured (length l)) ∷ l)

-- no variable has that cell
abbrev pub IsApart : List Slot → ℕ → Type 0
IsApart [] c = Unit {0}
IsApart (Var x e cap ∷ l) c = (e ≢ c) × IsApart l c
IsApart (Temp v ∷ l) c = IsApart l c

-- more slots
pub data Above : List Slot → List Slot → Type 0 where
  same : {l : List Slot} → Above l l
  up : {s : Slot} {l l0 : List Slot} → Above l l0 → Above (s ∷ l) l0

-- more slots, of which no closure may capture one
pub data Plainly : List Slot → List Slot → Type 0 where
  plain_same : {l : List Slot} → Plainly l l
  plain_temp : {v : Value} {l l0 : List Slot} → Plainly l l0 → Plainly (Temp v ∷ l) l0
  plain_var : {x : StrId} {c : ℕ} {l l0 : List Slot} → Plainly l l0 → Plainly (Var x c false ∷ l) l0

-- ---- cells

-- What a cell of the script is: a variable of a function that was entered, by its coroutine and the number of functions below it, with
-- its value; or what a cell of the machine holds, which a closure has taken
pub data Tag : Type 0 where
  Nobody : Tag
  Of : (co depth : ℕ) → (v : Value) → Tag
  Taken : (cell : ℕ) → Tag

abbrev pub Tags : Type 0
Tags = ℕ → Tag

abbrev pub mark : Tags → ℕ → Tag → Tags
mark tag c x q = if nat_eq q c then x else tag q

-- ---- registers

-- A variable's cell and its register. It is open only where a closure may capture it
abbrev pub Match : (co depth : ℕ) → (captured : Bool) → Tag → Register → Type 0
Match co depth captured X Y =
    ((v : Value) × (X ≡ Of co depth v) × (Y ≡ Val v)) ⊎ ((k : ℕ) × (X ≡ Taken k) × (Y ≡ Open k) × (captured ≡ true))

-- what the registers in use hold
pub data Fits (co depth : ℕ) (tag : Tags) (regs : Registers) : List Slot → Type 0 where
  none : Fits co depth tag regs []
  temp : {v : Value} {l : List Slot} → regs (length l) ≡ Val v → Fits co depth tag regs l → Fits co depth tag regs (Temp v ∷ l)
  var : {x : StrId} {c : ℕ} {cap : Bool} {l : List Slot} → Match co depth cap (tag c) (regs (length l)) → IsApart l c → Fits co depth tag regs l
      → Fits co depth tag regs (Var x c cap ∷ l)

-- no register is open from one up
abbrev pub Clear : Registers → ℕ → Type 0
Clear regs n = (r : ℕ) → n ≤ r → (v : Value) × (regs r ≡ Val v)

-- the registers of variables that no closure may capture are the same
abbrev pub Steady : List Slot → Registers → Registers → Type 0
Steady [] regs regs' = Unit {0}
Steady (Var x c cap ∷ l) regs regs' = (cap ≡ false → regs' (length l) ≡ regs (length l)) × Steady l regs regs'
Steady (Temp v ∷ l) regs regs' = Steady l regs regs'
