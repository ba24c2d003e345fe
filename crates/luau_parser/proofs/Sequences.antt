-- Parts that stand one behind the other, by turns: they read what is on top of the stack, and leave at most the nest of what they read.
use Rattle.std.proofs.Common.{◌≡◌, ◌+◌, ℕ, max, List, arith}
use Rattle.syntax_tree.specs.declared.token.Token.{Token}
use Rattle.parse_steps.specs.Items.{Item, depth}
use Rattle.parse_steps.specs.Steps.{most, Leads}
use Rattle.expression_parser.specs.declared.fault.Fault.{Fault}
use Rattle.expression_parser.specs.Reading.{Fails}
use Rattle.expression_parser.proofs.Leading.{then_leads, then_fails, nest_to}

-- items on a stack
abbrev pub Stack : Type 0
Stack = List Item → List Item

-- no node is around what is below these items
abbrev pub Flat : Stack → Type 0
Flat s = (k : List Item) → depth (s k) ≡ depth k

-- turns read these items from place i to place j, where nodes nest so deep
abbrev pub Passes : List Token → (room i : ℕ) → Stack → (j nest : ℕ) → Type 0
Passes ts room i s j nest = (v : ℕ) (k : List Item) → depth k + room ≡ most → Leads ts i v (s k) j (max v nest) k

-- turns from these items at place i lead to this fault
abbrev pub Refuses : List Token → (room i : ℕ) → Stack → Fault → Type 0
Refuses ts room i s f = (v : ℕ) (k : List Item) → depth k + room ≡ most → Fails ts i v (s k) f

-- turns lead from some items to others
abbrev pub Turns : List Token → (i : ℕ) → Stack → (j : ℕ) → Stack → Type 0
Turns ts i s j t = (v : ℕ) (k : List Item) → Leads ts i v (s k) j v (t k)

-- items that change no nest
pub shallow : (ts : List Token) (room i : ℕ) (s : Stack) (j : ℕ) → Turns ts i s j (λ k. k) → Passes ts room i s j 0
shallow ts room i s j runs v k deep = nest_to (omega arith) (runs v k)

-- items behind others
pub then_passes : (ts : List Token) (room i : ℕ) (s t : Stack) (j l a b : ℕ) → Flat t → Passes ts room i s j a → Passes ts room j t l b → Passes ts room i (λ k. s (t k)) l (max a b)
then_passes ts room i s t j l a b flat first second v k deep = nest_to (omega arith) (then_leads (first v (t k) (omega (arith, flat k, deep))) (second (max v a) k deep))

pub then_refuses : (ts : List Token) (room i : ℕ) (s t : Stack) (j a : ℕ) (f : Fault) → Flat t → Passes ts room i s j a → Refuses ts room j t f → Refuses ts room i (λ k. s (t k)) f
then_refuses ts room i s t j a f flat first second v k deep = then_fails (first v (t k) (omega (arith, flat k, deep))) f (second (max v a) k deep)

pub refuses_first : (ts : List Token) (room i : ℕ) (s t : Stack) (f : Fault) → Flat t → Refuses ts room i s f → Refuses ts room i (λ k. s (t k)) f
refuses_first ts room i s t f flat first v k deep = first v (t k) (omega (arith, flat k, deep))

-- turns before the items that are read
pub turns_pass : (ts : List Token) (room i : ℕ) (s t : Stack) (j l a : ℕ) → Turns ts i s j t → Passes ts room j t l a → Passes ts room i s l a
turns_pass ts room i s t j l a runs passes v k deep = then_leads (runs v k) (passes v k deep)

pub turns_refuse : (ts : List Token) (room i : ℕ) (s t : Stack) (j : ℕ) (f : Fault) → Turns ts i s j t → Refuses ts room j t f → Refuses ts room i s f
turns_refuse ts room i s t j f runs refuses v k deep = then_fails (runs v k) f (refuses v k deep)
