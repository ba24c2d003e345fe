-- The functions that the stack shows, after a change of its registers.
use Rattle.std.proofs.Common.{◌≡◌, ℕ, zero, suc, ◌+◌, ◌-◌, ◌<◌, ◌≤◌, max, Bool, true, false, cond, nat_lt, List, [], ◌∷◌, ◌++◌, map, reverse, length, take, drop, set, Option, Some, None, IsSomeAnd, slice_get, refl, sym, ◌∙◌, ap, subst, arith, lt-ltb, ◌⊎◌, inl, inr}
use Rattle.std.specs.Option.{option_map_or}
use Rattle.std.proofs.lemmas.List.{reverse-append, take-take, take-set-le, drop-set-lt}
use Rattle.std.proofs.lemmas.Bool.{ltb-true}
use mathlib.Core.Path.{fun_ext}
use Rattle.value_model.specs.Parts.{meant}
use Rattle.value_model.specs.Values as m
use Rattle.value_model.specs.declared.ids.ClosureId.{ClosureId}
use Rattle.value_model.specs.declared.value.Value.{Value}
use Rattle.value_arena.specs.declared.closure.Closure.{Closure}
use Rattle.call_frames.specs.declared.frame.Frame.{Frame}
use Rattle.call_frames.specs.declared.frame.OpenCell.{OpenCell}
use Rattle.call_frames.specs.Stacks.{StackView, AreBelow, AreApart, AreFrom, Layout}
use Rattle.call_frames.specs.Cells.{innermost, outer, place_in, place_of}
use Rattle.call_frames.proofs.Closing.{split_last, outer_below, last_below, below_push}
use Rattle.machine_meaning.specs.States as machine
use Rattle.machine_meaning.specs.States.{Register, Val, Open, Registers}
use Rattle.machine_world.specs.Functions.{register, window, with_function, function_of, waiting, running, functions_of}
use Rattle.machine_world.specs.Sound.{IsOwnOf, first, later, IsLuau, HasRegister, Runs}

-- ---- the innermost frame

-- is that of a Luau function
pub record Inner (s : StackView) : Type 0 where
  pub frame : Frame
  pub closure : ClosureId
  pub is : innermost s ≡ Some frame
  pub of : frame.closure ≡ Some closure

inner_luau : (s : StackView) (f : Frame) → innermost s ≡ Some f → (q : Option ClosureId) → f.closure ≡ q → IsSomeAnd q (λ c. Unit {0}) → Inner s
inner_luau s f e None k h = absurd h
inner_luau s f e (Some c) k h = record { frame = f; closure = c; is = e; of = k }

inner_some : (s : StackView) (q : Option Frame) → innermost s ≡ q → IsSomeAnd q IsLuau → Inner s
inner_some s None e h = absurd h
inner_some s (Some f) e h = inner_luau s f e f.closure refl h

pub inner : (s : StackView) → Runs s → Inner s
inner s h = inner_some s (innermost s) refl h

-- what is known of the innermost frame
pub of_frame : (s : StackView) (P : Frame → Type 0) (f : Frame) → innermost s ≡ Some f → IsSomeAnd (innermost s) P → P f
of_frame s P f e h = subst (λ q. IsSomeAnd q P) e h

runs_some : (r : ℕ) (q : Option Frame) → IsSomeAnd q (λ f. IsLuau f × (r < f.registers)) → IsSomeAnd q IsLuau
runs_some r None h = h
runs_some r (Some f) h = h.0

pub runs_with : (s : StackView) (r : ℕ) → HasRegister s r → Runs s
runs_with s r h = runs_some r (innermost s) h

pub has_low : (s : StackView) (r : ℕ) (f : Frame) → innermost s ≡ Some f → HasRegister s r → r < f.registers
has_low s r f e h = (of_frame s (λ f. IsLuau f × (r < f.registers)) f e h).1

pub functions_split : (texts : List m.Bytes) (cs : List Closure) (s : StackView) (f : Frame) (c : ClosureId) → innermost s ≡ Some f →
    f.closure ≡ Some c → functions_of texts cs s ≡ running texts cs s c f ∷ waiting texts cs s.registers s.cells (reverse (outer s))
unfolding functions_of
functions_split texts cs s f c e k =
    ap (λ q. option_map_or (λ f. with_function f.closure (λ c. running texts cs s c f) (waiting texts cs s.registers s.cells (reverse (outer s)))) q []) e
    ∙ ap (λ q. with_function q (λ c. running texts cs s c f) (waiting texts cs s.registers s.cells (reverse (outer s)))) k

-- where it lies
pub record Lies (s : StackView) (f : Frame) : Type 0 where
  pub at : (r : ℕ) → place_of s r ≡ f.base + r
  pub high : f.base + f.registers ≤ length s.registers
  pub below : AreBelow (f.base - f.extra) (outer s)

pub lies : (s : StackView) (f : Frame) → innermost s ≡ Some f → Layout s → Lies s f
lies s f e layout =
    let split = split_last s.frames f e in
    record {
      at = λ r. ap (λ q. place_in q r) e;
      high = last_below (length s.registers) s.frames (outer s) f split layout.below;
      below = outer_below (outer s) f (subst AreApart split layout.apart);
    }

-- a register of it
pub register_here : (texts : List m.Bytes) (cs : List Closure) (s : StackView) (r : ℕ) (f : Frame) (c : ClosureId) →
    r < max f.registers (s.top - f.base) → (running texts cs s c f).registers r ≡ register texts s.registers s.cells (f.base + r)
register_here texts cs s r f c low =
    ap (λ b. cond b (register texts s.registers s.cells (f.base + r)) (Val m.Nil)) (lt-ltb r (max f.registers (s.top - f.base)) low)

-- ---- the others

pub reverse_more : {A : Type 0} (x : A) (xs : List A) → reverse (x ∷ xs) ≡ reverse xs ++ x ∷ []
reverse_more x xs = reverse-append (x ∷ []) xs

pub below_reverse : (n : ℕ) (fs : List Frame) → AreBelow n fs → AreBelow n (reverse fs)
below_reverse n [] h = tt
below_reverse n (f ∷ fs) h = subst (AreBelow n) (sym (reverse_more f fs)) (below_push n (reverse fs) f (below_reverse n fs h.1) h.0)

-- variable arguments lie below the registers
pub extra_below : (m b n : ℕ) (regs regs' : List Value) → b ≤ n → take n regs' ≡ take n regs → drop m (take b regs') ≡ drop m (take b regs)
extra_below m b n regs regs' le same =
    ap (λ l. drop m l) (sym (take-take b n regs' le) ∙ ap (λ l. take b l) same ∙ take-take b n regs le)

register_by : (b : Bool) (texts : List m.Bytes) (regs regs' : List Value) (os os' : List OpenCell) (g : Frame) (n q : ℕ) → nat_lt q g.registers ≡ b →
    ((q : ℕ) → q < n → register texts regs' os' q ≡ register texts regs os q) → g.base + g.registers ≤ n →
    cond b (register texts regs' os' (g.base + q)) (Val m.Nil) ≡ cond b (register texts regs os (g.base + q)) (Val m.Nil)
register_by true texts regs regs' os os' g n q t same le =
    let low : q < g.registers = ltb-true q g.registers t in
    same (g.base + q) (omega (arith, low, le))
register_by false texts regs regs' os os' g n q t same le = refl

-- one that waits
one_waits : (texts : List m.Bytes) (cs : List Closure) (regs regs' : List Value) (os os' : List OpenCell) (n : ℕ) (g : Frame) (c : ClosureId) →
    ((q : ℕ) → q < n → register texts regs' os' q ≡ register texts regs os q) → take n regs' ≡ take n regs → g.base + g.registers ≤ n →
    function_of texts cs regs' os' g.registers 0 c g ≡ function_of texts cs regs os g.registers 0 c g
one_waits texts cs regs regs' os os' n g c same front le =
    ap (λ rs. record (function_of texts cs regs' os' g.registers 0 c g) { registers = rs })
    (fun_ext (λ q. register_by (nat_lt q g.registers) texts regs regs' os os' g n q refl same le))
    ∙ ap (λ vs. record (function_of texts cs regs os g.registers 0 c g) { varargs = map (meant texts) vs }) (extra_below (g.base - g.extra) g.base n regs regs' (omega (arith, le)) front)

pub with_same : (q : Option ClosureId) (f g : ClosureId → machine.Frame) (fs gs : List machine.Frame) → ((c : ClosureId) → f c ≡ g c) → fs ≡ gs →
    with_function q f fs ≡ with_function q g gs
with_same None f g fs gs same e = e
with_same (Some c) f g fs gs same e = ap (λ x. x ∷ fs) (same c) ∙ ap (λ l. g c ∷ l) e

-- what lies below does not change
pub waiting_same : (texts : List m.Bytes) (cs : List Closure) (regs regs' : List Value) (os os' : List OpenCell) (n : ℕ) (gs : List Frame) →
    ((q : ℕ) → q < n → register texts regs' os' q ≡ register texts regs os q) → take n regs' ≡ take n regs → AreBelow n gs →
    waiting texts cs regs' os' gs ≡ waiting texts cs regs os gs
waiting_same texts cs regs regs' os os' n [] same front below = refl
waiting_same texts cs regs regs' os os' n (g ∷ gs) same front below =
    with_same g.closure (λ c. function_of texts cs regs' os' g.registers 0 c g) (λ c. function_of texts cs regs os g.registers 0 c g) (waiting texts cs regs' os' gs) (waiting texts cs regs os gs)
    (λ c. one_waits texts cs regs regs' os os' n g c same front below.0)
    (waiting_same texts cs regs regs' os os' n gs same front below.1)

-- ---- a change of the innermost function

pub functions_changed : (texts : List m.Bytes) (cs : List Closure) (s : StackView) (f : Frame) (c : ClosureId) (regs : List Value) (os : List OpenCell) (top : ℕ) (rs : Registers) (n : ℕ) → innermost s ≡ Some f → f.closure ≡ Some c → AreBelow n (outer s) → n ≤ f.base → take f.base regs ≡ take f.base s.registers → ((q : ℕ) → q < n → register texts regs os q ≡ register texts s.registers s.cells q) → ((q : ℕ) → window texts regs os (max f.registers (top - f.base)) f.base q ≡ rs q) → functions_of texts cs (record s { registers = regs; top = top; cells = os }) ≡ record (running texts cs s c f) { registers = rs; top = top - f.base } ∷ waiting texts cs s.registers s.cells (reverse (outer s))
functions_changed texts cs s f c regs os top rs n e k below le front same now =
    let s' : StackView = record s { registers = regs; top = top; cells = os } in
    functions_split texts cs s' f c e k
    ∙ ap (λ fs. running texts cs s' c f ∷ fs) (waiting_same texts cs s.registers regs s.cells os n (reverse (outer s)) same (sym (take-take n f.base regs le) ∙ ap (λ l. take n l) front ∙ take-take n f.base s.registers le) (below_reverse n (outer s) below))
    ∙ ap (λ rs. record (running texts cs s' c f) { registers = rs } ∷ waiting texts cs s.registers s.cells (reverse (outer s))) (fun_ext now)
    ∙ ap (λ vs. record (running texts cs s c f) { registers = rs; top = top - f.base; varargs = map (meant texts) vs } ∷ waiting texts cs s.registers s.cells (reverse (outer s))) (extra_below (f.base - f.extra) f.base f.base s.registers regs (omega arith) front)

-- ---- an open register is written

-- it is none of the variable arguments
abbrev pub AreOutside : ℕ → List Frame → Type 0
AreOutside k [] = Unit {0}
AreOutside k (f ∷ fs) = ((k < f.base - f.extra) ⊎ (f.base ≤ k)) × AreOutside k fs

outside_from : (k n : ℕ) (fs : List Frame) → k < n → AreFrom n fs → AreOutside k fs
outside_from k n [] lt h = tt
outside_from k n (f ∷ fs) lt h = (inl (omega (arith, lt, h.0)), outside_from k n fs lt h.1)

own_from : (k n : ℕ) (fs : List Frame) → IsOwnOf fs k → AreFrom n fs → n ≤ k
own_from k n [] is h = elim is [ ]
own_from k n (f ∷ fs) (first le lt) h = omega (arith, le, h.0)
own_from k n (f ∷ fs) (later is) h = own_from k n fs is h.1

pub own_outside : (k : ℕ) (fs : List Frame) → IsOwnOf fs k → AreApart fs → AreOutside k fs
own_outside k [] is h = elim is [ ]
own_outside k (f ∷ fs) (first le lt) h = (inr le, outside_from k (f.base + f.registers) fs lt h.0)
own_outside k (f ∷ fs) (later is) h = (inr (omega (arith, own_from k (f.base + f.registers) fs is h.0)), own_outside k fs is h.1)

outside_push : (k : ℕ) (fs : List Frame) (f : Frame) → AreOutside k fs → (k < f.base - f.extra) ⊎ (f.base ≤ k) → AreOutside k (fs ++ f ∷ [])
outside_push k [] f h o = (o, tt)
outside_push k (g ∷ fs) f h o = (h.0, outside_push k fs f h.1 o)

pub outside_reverse : (k : ℕ) (fs : List Frame) → AreOutside k fs → AreOutside k (reverse fs)
outside_reverse k [] h = tt
outside_reverse k (f ∷ fs) h = subst (AreOutside k) (sym (reverse_more f fs)) (outside_push k (reverse fs) f (outside_reverse k fs h.1) h.0)

pub outside_front : (k : ℕ) (fs : List Frame) (f : Frame) → AreOutside k (fs ++ f ∷ []) → AreOutside k fs × ((k < f.base - f.extra) ⊎ (f.base ≤ k))
outside_front k [] f h = (tt, h.0)
outside_front k (g ∷ fs) f h = let r = outside_front k fs f h.1 in ((h.0, r.0), r.1)

take_set : (b k : ℕ) (v : Value) (xs : List Value) → take b (set xs k v) ≡ set (take b xs) k v
take_set zero k v xs = refl
take_set (suc b) k v [] = refl
take_set (suc b) zero v (x ∷ xs) = refl
take_set (suc b) (suc k) v (x ∷ xs) = ap (λ l. x ∷ l) (take_set b k v xs)

pub extra_outside : (m b k : ℕ) (v : Value) (regs : List Value) → (k < m) ⊎ (b ≤ k) → drop m (take b (set regs k v)) ≡ drop m (take b regs)
extra_outside m b k v regs (inl lt) = ap (λ l. drop m l) (take_set b k v regs) ∙ drop-set-lt m (take b regs) k v lt
extra_outside m b k v regs (inr le) = ap (λ l. drop m l) (take-set-le b regs k v le)

-- a function shows what it did, where each register does, and no variable argument is written
one_same : (texts : List m.Bytes) (cs : List Closure) (regs : List Value) (k : ℕ) (v : Value) (os : List OpenCell) (width top : ℕ) (c : ClosureId) (g : Frame) → ((q : ℕ) → register texts (set regs k v) os q ≡ register texts regs os q) → (k < g.base - g.extra) ⊎ (g.base ≤ k) → function_of texts cs (set regs k v) os width top c g ≡ function_of texts cs regs os width top c g
one_same texts cs regs k v os width top c g same out =
    ap (λ rs. record (function_of texts cs (set regs k v) os width top c g) { registers = rs })
    (fun_ext (λ q. ap (λ x. cond (nat_lt q width) x (Val m.Nil)) (same (g.base + q))))
    ∙ ap (λ vs. record (function_of texts cs regs os width top c g) { varargs = map (meant texts) vs }) (extra_outside (g.base - g.extra) g.base k v regs out)

waiting_all : (texts : List m.Bytes) (cs : List Closure) (regs : List Value) (k : ℕ) (v : Value) (os : List OpenCell) (gs : List Frame) →
    ((q : ℕ) → register texts (set regs k v) os q ≡ register texts regs os q) → AreOutside k gs →
    waiting texts cs (set regs k v) os gs ≡ waiting texts cs regs os gs
waiting_all texts cs regs k v os [] same out = refl
waiting_all texts cs regs k v os (g ∷ gs) same out =
    with_same g.closure (λ c. function_of texts cs (set regs k v) os g.registers 0 c g) (λ c. function_of texts cs regs os g.registers 0 c g) (waiting texts cs (set regs k v) os gs) (waiting texts cs regs os gs)
    (λ c. one_same texts cs regs k v os g.registers 0 c g same out.0)
    (waiting_all texts cs regs k v os gs same out.1)

pub functions_same : (texts : List m.Bytes) (cs : List Closure) (s : StackView) (k : ℕ) (v : Value) → ((q : ℕ) → register texts (set s.registers k v) s.cells q ≡ register texts s.registers s.cells q) → AreOutside k s.frames → functions_of texts cs (record s { registers = set s.registers k v }) ≡ functions_of texts cs s
unfolding functions_of
functions_same texts cs s k v same out = by (innermost s) refl
  where
    regs : List Value
    regs = set s.registers k v

    by : (o : Option Frame) → slice_get s.frames (length s.frames - 1) ≡ o → option_map_or (λ f. with_function f.closure (λ c. running texts cs (record s { registers = set s.registers k v }) c f) (waiting texts cs (set s.registers k v) s.cells (reverse (outer s)))) o [] ≡ option_map_or (λ f. with_function f.closure (λ c. running texts cs s c f) (waiting texts cs s.registers s.cells (reverse (outer s)))) o []
    by None e = refl
    by (Some f) e =
        let parts = outside_front k (outer s) f (subst (AreOutside k) (split_last s.frames f e) out) in
        with_same f.closure (λ c. running texts cs (record s { registers = set s.registers k v }) c f) (λ c. running texts cs s c f) (waiting texts cs (set s.registers k v) s.cells (reverse (outer s))) (waiting texts cs s.registers s.cells (reverse (outer s)))
        (λ c. one_same texts cs s.registers k v s.cells (max f.registers (s.top - f.base)) (s.top - f.base) c f same parts.1)
        (waiting_all texts cs s.registers k v s.cells (reverse (outer s)) same (outside_reverse k (outer s) parts.0))
