-- Operations on values in the world of a machine.
use Rattle.std.proofs.Common.{◌≡◌, ℕ, ◌+◌, ℤ, pos, Bool, true, false, List, Some, refl, sym, ◌∙◌, ap}
use Rattle.value_model.specs.Choices as choice
use Rattle.value_model.specs.Metamethods.{choose, arith}
use Rattle.value_model.specs.Store.{Store}
use Rattle.value_model.specs.Values as m
use Rattle.value_model.specs.declared.operator.ArithOp.{ArithOp}
use Rattle.value_model.specs.declared.operator.ArithOp.TheVariants as op
use Rattle.value_model.specs.declared.operator.CompareOp.{CompareOp}
use Rattle.value_model.specs.declared.operator.CompareOp.TheVariants as order
use Rattle.value_model.specs.declared.value.Value.{Value}
use Rattle.value_model.specs.declared.value.Value.TheVariants as value
use Rattle.value_arena.specs.Arenas.{ArenaView}
use Rattle.value_arena.specs.Owning.{MayHold}
use Rattle.value_model.specs.declared.ids.Owner.{Owner}
use Rattle.luau_tables.specs.Own.{IsThere}
use Rattle.luau_tables.specs.Worlds.{MayUseIn}
use Rattle.luau_tables.specs.declared.globals.LibWorld.{LibWorld}
use Rattle.op_words.specs.Chunks.{ChunkOf}
use Rattle.machine_meaning.specs.States as machine
use Rattle.machine_meaning.specs.States.{value_in, set}
use Rattle.machine_meaning.specs.Moves.{inside, on, settle, store_of}
use Rattle.machine_meaning.specs.Effects.{calculate, compare, index, newindex, with_constant}
use Rattle.machine_meaning.specs.Constants.{known}
use Rattle.machine_meaning.specs.Instructions.{row}
use Rattle.machine_rows.specs.Operations.{on_registers, on_constant, jumps_on}

-- ---- what a script may use is there

held_there : (a : ArenaView) (w : Owner) (v : Value) → MayHold a w v → IsThere a v
held_there a w (value.Table t) h = h.1
held_there a w (value.Closure t) h = h.1
held_there a w (value.Wrap t) h = h.1
held_there a w (value.Thread t) h = h.1
held_there a w _ h = tt

pub usable_there : (w : LibWorld) (v : Value) → MayUseIn w v → IsThere w.arena v
usable_there w v h = held_there w.arena w.owner v h.0

-- ---- rows

-- minus does not look at a second operand
unary : (s : Store) (a b c : m.Value) → choose (choice.Arith op.Unm a b) s ≡ choose (choice.Arith op.Unm a c) s
unfolding choose arith
unary s a b c = refl

minus_alone : (a b c : m.Value) (to next : ℕ) (f : machine.Frame) (fs : List machine.Frame) (u : machine.World) →
    calculate op.Unm a b to next f fs u ≡ calculate op.Unm a c to next f fs u
minus_alone a b c to next f fs u =
    ap (λ x. settle x (machine.Into to next) f fs u) (unary (store_of u) a b c)

pub registers_row : (o : ArithOp) (chunk : ChunkOf) (words : List ℕ) (to a b next : ℕ) (f : machine.Frame) (fs : List machine.Frame) (u : machine.World) →
    row chunk words (on_registers o to a b) next f fs u ≡ calculate o (value_in f u a) (value_in f u b) to next f fs u
registers_row op.Add chunk words to a b next f fs u = refl
registers_row op.Sub chunk words to a b next f fs u = refl
registers_row op.Mul chunk words to a b next f fs u = refl
registers_row op.Div chunk words to a b next f fs u = refl
registers_row op.Idiv chunk words to a b next f fs u = refl
registers_row op.Mod chunk words to a b next f fs u = refl
registers_row op.Pow chunk words to a b next f fs u = refl
registers_row op.Unm chunk words to a b next f fs u = minus_alone (value_in f u a) (value_in f u a) (value_in f u b) to next f fs u

-- with the values that were read
pub operands_read : (o : ArithOp) (a b v x : m.Value) (to next : ℕ) (f : machine.Frame) (fs : List machine.Frame) (u : machine.World) → a ≡ v → b ≡ x →
    calculate o v x to next f fs u ≡ calculate o a b to next f fs u
operands_read o a b v x to next f fs u e d =
    ap (λ v. calculate o v x to next f fs u) (sym e) ∙ ap (λ x. calculate o a x to next f fs u) (sym d)

pub constant_row : (o : ArithOp) (chunk : ChunkOf) (words : List ℕ) (to a k next : ℕ) (c : m.Value) (f : machine.Frame) (fs : List machine.Frame) (u : machine.World) → known chunk f.proto (pos k) ≡ Some c → row chunk words (on_constant o to a k) next f fs u ≡ calculate o (value_in f u a) c to next f fs u
constant_row op.Add chunk words to a k next c f fs u is = ap (λ q. with_constant q (λ v. calculate op.Add (value_in f u a) v to next) f fs u) is
constant_row op.Sub chunk words to a k next c f fs u is = ap (λ q. with_constant q (λ v. calculate op.Sub (value_in f u a) v to next) f fs u) is
constant_row op.Mul chunk words to a k next c f fs u is = ap (λ q. with_constant q (λ v. calculate op.Mul (value_in f u a) v to next) f fs u) is
constant_row op.Div chunk words to a k next c f fs u is = ap (λ q. with_constant q (λ v. calculate op.Div (value_in f u a) v to next) f fs u) is
constant_row op.Idiv chunk words to a k next c f fs u is = ap (λ q. with_constant q (λ v. calculate op.Idiv (value_in f u a) v to next) f fs u) is
constant_row op.Mod chunk words to a k next c f fs u is = ap (λ q. with_constant q (λ v. calculate op.Mod (value_in f u a) v to next) f fs u) is
constant_row op.Pow chunk words to a k next c f fs u is = ap (λ q. with_constant q (λ v. calculate op.Pow (value_in f u a) v to next) f fs u) is
constant_row op.Unm chunk words to a k next c f fs u is = minus_alone (value_in f u a) (value_in f u a) c to next f fs u

-- ---- comparisons

pub jumps_row : (o : CompareOp) (wanted : Bool) (chunk : ChunkOf) (words : List ℕ) (a : ℕ) (by : ℤ) (b next : ℕ) (f : machine.Frame) (fs : List machine.Frame) (u : machine.World) → row chunk words (jumps_on o wanted a by b) next f fs u ≡ compare o (value_in f u a) (value_in f u b) wanted by next f fs u
jumps_row order.Eq true chunk words a by b next f fs u = refl
jumps_row order.Eq false chunk words a by b next f fs u = refl
jumps_row order.Lt true chunk words a by b next f fs u = refl
jumps_row order.Lt false chunk words a by b next f fs u = refl
jumps_row order.Le true chunk words a by b next f fs u = refl
jumps_row order.Le false chunk words a by b next f fs u = refl

pub compared_read : (o : CompareOp) (a b v x : m.Value) (wanted : Bool) (by : ℤ) (next : ℕ) (f : machine.Frame) (fs : List machine.Frame) (u : machine.World) → a ≡ v → b ≡ x →
    compare o v x wanted by next f fs u ≡ compare o a b wanted by next f fs u
compared_read o a b v x wanted by next f fs u e d =
    ap (λ v. compare o v x wanted by next f fs u) (sym e) ∙ ap (λ x. compare o a x wanted by next f fs u) (sym d)

-- ---- keys

pub indexed_read : (a b v x : m.Value) (to next : ℕ) (f : machine.Frame) (fs : List machine.Frame) (u : machine.World) → a ≡ v → b ≡ x →
    index v x to next f fs u ≡ index a b to next f fs u
indexed_read a b v x to next f fs u e d = ap (λ v. index v x to next f fs u) (sym e) ∙ ap (λ x. index a x to next f fs u) (sym d)

pub method_read : (a c b v x : m.Value) (to next : ℕ) (f : machine.Frame) (fs : List machine.Frame) (u : machine.World) → a ≡ v → c ≡ v → b ≡ x →
    on (index v x to next) (set (to + 1) v (inside f u)) fs ≡ on (index a b to next) (set (to + 1) c (inside f u)) fs
method_read a c b v x to next f fs u e k d =
    ap (λ c. on (index v x to next) (set (to + 1) c (inside f u)) fs) (sym k)
    ∙ ap (λ v. on (index v x to next) (set (to + 1) c (inside f u)) fs) (sym e) ∙ ap (λ x. on (index a x to next) (set (to + 1) c (inside f u)) fs) (sym d)

pub stored_read : (a b c v x y : m.Value) (next : ℕ) (f : machine.Frame) (fs : List machine.Frame) (u : machine.World) → a ≡ v → b ≡ x → c ≡ y →
    newindex v x y next f fs u ≡ newindex a b c next f fs u
stored_read a b c v x y next f fs u e d k =
    ap (λ v. newindex v x y next f fs u) (sym e) ∙ ap (λ x. newindex a x y next f fs u) (sym d) ∙ ap (λ y. newindex a b y next f fs u) (sym k)
