-- Variables of the slots, as they are found by their names; lists of slots; tags and registers after one has changed.
use Rattle.std.proofs.Common.{Bool, true, false, ◌≡◌, ◌≢◌, ℕ, suc, ◌+◌, ◌<◌, ◌≤◌, List, [], ◌∷◌, ◌++◌, length, Option, Some, None, refl, sym, ap, ◌∙◌, subst, arith, cond, ◌⊎◌, ⊎_elim, inl, inr}
use Rattle.std.specs.Prelude.{nat_eq, if◌then◌else◌}
use Rattle.std.proofs.lemmas.Bool.{eq-eqb, ne_eqb, false≢true}
use Rattle.std.proofs.lemmas.Bool.Decides.{eqb_tells}
use Rattle.byte_text.specs.declared.fixed.StrId.{StrId}
use Rattle.value_model.specs.Values.{Value}
use Rattle.source_meaning.specs.States.{Environment, cell_of}
use Rattle.source_meaning.specs.Moves.{bound}
use Rattle.machine_meaning.specs.States.{Register, Registers, put}
use Rattle.code_simulation.specs.Slots.{Slot, Var, Temp, Local, local_at, binds, temps, vars, IsApart, Above, same, up, Plainly, plain_same, plain_temp, plain_var, Tag, Tags, mark, Steady}

-- a found thing is one thing
pub same_some : {A : Type 0} {x y : A} → Some x ≡ Some y → x ≡ y
same_some e = cc

pub none_some : {A B : Type 0} {x : A} → None ≡ Some x → B
none_some e = cc

-- ---- found by name

-- the newest variable is the one, or it is found below
pub local_cases : (y x : StrId) (r : Local) (rest : Option Local) (o : Local) → (if nat_eq y.0 x.0 then Some r else rest) ≡ Some o
    → ((nat_eq y.0 x.0 ≡ true) × (r ≡ o)) ⊎ ((nat_eq y.0 x.0 ≡ false) × (rest ≡ Some o))
local_cases y x r rest o e =
    ⊎_elim
    (λ t. inl (t.0, same_some (ap (λ b. cond b (Some r) rest) (sym t.0) ∙ e)))
    (λ t. inr (t.0, ap (λ b. cond b (Some r) rest) (sym t.0) ∙ e))
    (eqb_tells y.0 x.0)

-- nothing is found: neither the newest is the one nor is it below
pub local_none : (y x : StrId) (r : Local) (rest : Option Local) → (if nat_eq y.0 x.0 then Some r else rest) ≡ None → (nat_eq y.0 x.0 ≡ false) × (rest ≡ None)
local_none y x r rest e =
    ⊎_elim
    (λ t. none_some (sym (ap (λ b. cond b (Some r) rest) (sym t.0) ∙ e)))
    (λ t. (t.0, ap (λ b. cond b (Some r) rest) (sym t.0) ∙ e))
    (eqb_tells y.0 x.0)

-- the cell of a variable of the slots
pub look_in : (l : List Slot) (outer : Environment) (x : StrId) (o : Local) → local_at l x ≡ Some o → cell_of (binds l ++ outer) x ≡ Some o.cell
look_in [] outer x o e = none_some e
look_in (Temp v ∷ l) outer x o e = look_in l outer x o e
look_in (Var y c cap ∷ l) outer x o e =
    ⊎_elim
    (λ t. ap (λ b. cond b (Some c) (cell_of (binds l ++ outer) x)) t.0 ∙ ap (λ r. Some r.cell) t.1)
    (λ t. ap (λ b. cond b (Some c) (cell_of (binds l ++ outer) x)) t.0 ∙ look_in l outer x o t.1)
    (local_cases y x _ (local_at l x) o e)

-- another name is looked up around the function
pub look_out : (l : List Slot) (outer : Environment) (x : StrId) → local_at l x ≡ None → cell_of (binds l ++ outer) x ≡ cell_of outer x
look_out [] outer x e = refl
look_out (Temp v ∷ l) outer x e = look_out l outer x e
look_out (Var y c cap ∷ l) outer x e =
    let n = local_none y x _ (local_at l x) e in
    ap (λ b. cond b (Some c) (cell_of (binds l ++ outer) x)) n.0 ∙ look_out l outer x n.1

-- a variable's register is one in use
pub below : (l : List Slot) (x : StrId) (o : Local) → local_at l x ≡ Some o → o.register < length l
below [] x o e = none_some e
below (Temp v ∷ l) x o e = let b = below l x o e in omega arith
below (Var y c cap ∷ l) x o e =
    ⊎_elim
    (λ t. let r = ap (λ z. z.register) t.1 in omega arith)
    (λ t. let b = below l x o t.1 in omega arith)
    (local_cases y x _ (local_at l x) o e)

-- a cell that no variable has is not the one that is found
pub apart_at : (l : List Slot) (c : ℕ) (x : StrId) (o : Local) → IsApart l c → local_at l x ≡ Some o → o.cell ≢ c
apart_at [] c x o a e = none_some e
apart_at (Temp v ∷ l) c x o a e = apart_at l c x o a e
apart_at (Var y d cap ∷ l) c x o a e =
    ⊎_elim
    (λ t. λ same. a.0 (ap (λ z. z.cell) t.1 ∙ same))
    (λ t. apart_at l c x o a.1 t.1)
    (local_cases y x _ (local_at l x) o e)

-- ---- lists of slots

pub length_temps : (vs : List Value) (l : List Slot) → length (temps vs l) ≡ length l + length vs
length_temps [] l = omega arith
length_temps (v ∷ vs) l = let r = length_temps vs (Temp v ∷ l) in omega (arith, r)

pub length_over : (vs : List Value) (l l' : List Slot) → length l ≡ length l' → length (temps vs l) ≡ length (temps vs l')
length_over [] l l' e = e
length_over (v ∷ vs) l l' e = length_over vs (Temp v ∷ l) (Temp v ∷ l') (ap suc e)

pub length_vars : (captured : ℕ → Bool) (xs : List StrId) (c : ℕ) (l : List Slot) → length (vars captured xs c l) ≡ length l + length xs
length_vars captured [] c l = omega arith
length_vars captured (x ∷ xs) c l =
    let r = length_vars captured xs (suc c) (Var x c (captured (length l)) ∷ l) in omega (arith, r)

-- values are no variables
pub binds_temps : (vs : List Value) (l : List Slot) → binds (temps vs l) ≡ binds l
binds_temps [] l = refl
binds_temps (v ∷ vs) l = binds_temps vs (Temp v ∷ l)

pub local_temps : (vs : List Value) (l : List Slot) (x : StrId) → local_at (temps vs l) x ≡ local_at l x
local_temps [] l x = refl
local_temps (v ∷ vs) l x = local_temps vs (Temp v ∷ l) x

-- the script's environment with new variables is that of the slots with these
pub binds_vars : (captured : ℕ → Bool) (xs : List StrId) (c : ℕ) (l : List Slot) (outer : Environment)
    → bound xs c (binds l ++ outer) ≡ binds (vars captured xs c l) ++ outer
binds_vars captured [] c l outer = refl
binds_vars captured (x ∷ xs) c l outer =
    ap (λ n. bound xs n ((x, c) ∷ (binds l ++ outer))) (omega arith)
    ∙ binds_vars captured xs (suc c) (Var x c (captured (length l)) ∷ l) outer

-- ---- more slots

pub below_one : {s : Slot} {l l0 : List Slot} → Above l (s ∷ l0) → Above l l0
below_one same = up same
below_one (up a) = up (below_one a)

pub above_vars : (captured : ℕ → Bool) (xs : List StrId) (c : ℕ) (l : List Slot) → Above (vars captured xs c l) l
above_vars captured [] c l = same
above_vars captured (x ∷ xs) c l = below_one (above_vars captured xs (suc c) (Var x c (captured (length l)) ∷ l))

pub above_temps : (vs : List Value) (l : List Slot) → Above (temps vs l) l
above_temps [] l = same
above_temps (v ∷ vs) l = below_one (above_temps vs (Temp v ∷ l))

pub above_all : {l l' l0 : List Slot} → Above l' l → Above l l0 → Above l' l0
above_all same b = b
above_all (up a) b = up (above_all a b)

pub above_length : {l l0 : List Slot} → Above l l0 → length l0 ≤ length l
above_length same = omega arith
above_length (up a) = let r = above_length a in omega arith

pub plainly_above : {l l0 : List Slot} → Plainly l l0 → Above l l0
plainly_above plain_same = same
plainly_above (plain_temp a) = up (plainly_above a)
plainly_above (plain_var a) = up (plainly_above a)

pub plainly_all : {l l' l0 : List Slot} → Plainly l' l → Plainly l l0 → Plainly l' l0
plainly_all plain_same b = b
plainly_all (plain_temp a) b = plain_temp (plainly_all a b)
plainly_all (plain_var a) b = plain_var (plainly_all a b)

-- ---- one tag, one register

pub mark_same : (tag : Tags) (c : ℕ) (x : Tag) → mark tag c x c ≡ x
mark_same tag c x = ap (λ b. cond b x (tag c)) (eq-eqb c c refl)

pub mark_other : (tag : Tags) (c : ℕ) (x : Tag) (q : ℕ) → q ≢ c → mark tag c x q ≡ tag q
mark_other tag c x q ne = ap (λ b. cond b x (tag q)) (ne_eqb q c ne)

pub put_same : (regs : Registers) (r : ℕ) (v : Register) → put regs r v r ≡ v
put_same regs r v = ap (λ b. cond b v (regs r)) (eq-eqb r r refl)

pub put_other : (regs : Registers) (r : ℕ) (v : Register) (q : ℕ) → q ≢ r → put regs r v q ≡ regs q
put_other regs r v q ne = ap (λ b. cond b v (regs q)) (ne_eqb q r ne)

-- ---- registers that no closure may capture

pub steady_all : (l : List Slot) (regs : Registers) → Steady l regs regs
steady_all [] regs = tt
steady_all (Var x c cap ∷ l) regs = (λ e. refl, steady_all l regs)
steady_all (Temp v ∷ l) regs = steady_all l regs

pub steady_on : (l : List Slot) (a b c : Registers) → Steady l a b → Steady l b c → Steady l a c
steady_on [] a b c s t = tt
steady_on (Var x e cap ∷ l) a b c s t = (λ plain. t.0 plain ∙ s.0 plain, steady_on l a b c s.1 t.1)
steady_on (Temp v ∷ l) a b c s t = steady_on l a b c s t

-- registers from the first free one on do not matter
pub steady_below : (l : List Slot) (a b : Registers) → ((r : ℕ) → r < length l → b r ≡ a r) → Steady l a b
steady_below [] a b h = tt
steady_below (Var x c cap ∷ l) a b h = (λ plain. h (length l) (omega arith), steady_below l a b (λ r lt. h r (omega arith)))
steady_below (Temp v ∷ l) a b h = steady_below l a b (λ r lt. h r (omega arith))

pub steady_put : (l : List Slot) (regs : Registers) (r : ℕ) (v : Register) → length l ≤ r → Steady l regs (put regs r v)
steady_put l regs r v le = steady_below l regs (put regs r v) (λ q lt. put_other regs r v q (omega arith))

-- what is steady over more slots is so over fewer
pub steady_less : {l l0 : List Slot} → (a b : Registers) → Above l l0 → Steady l a b → Steady l0 a b
steady_less a b same s = s
steady_less a b (up {s = Var x c cap} m) s = steady_less a b m s.1
steady_less a b (up {s = Temp v} m) s = steady_less a b m s

pub steady_temps : (vs : List Value) (l : List Slot) (a b : Registers) → Steady (temps vs l) a b → Steady l a b
steady_temps vs l a b s = steady_less a b (above_temps vs l) s

-- a variable's register
pub steady_at : (l : List Slot) (a b : Registers) (x : StrId) (o : Local) → local_at l x ≡ Some o → o.captured ≡ false → Steady l a b
    → b o.register ≡ a o.register
steady_at [] a b x o e plain s = none_some e
steady_at (Temp v ∷ l) a b x o e plain s = steady_at l a b x o e plain s
steady_at (Var y c cap ∷ l) a b x o e plain s =
    ⊎_elim
    (λ t. subst (λ r. b r ≡ a r) (ap (λ z. z.register) t.1) (s.0 (ap (λ z. z.captured) t.1 ∙ plain)))
    (λ t. steady_at l a b x o t.1 plain s.1)
    (local_cases y x _ (local_at l x) o e)

-- a write to the register of a variable that may be captured
pub steady_captured : (l : List Slot) (regs : Registers) (x : StrId) (o : Local) (v : Register) → local_at l x ≡ Some o → o.captured ≡ true
    → Steady l regs (put regs o.register v)
steady_captured [] regs x o v e cap = tt
steady_captured (Temp w ∷ l) regs x o v e cap = steady_captured l regs x o v e cap
steady_captured (Var y c capy ∷ l) regs x o v e cap =
    ⊎_elim
    (λ t. (
      λ plain. absurd (false≢true (sym plain ∙ ap (λ z. z.captured) t.1 ∙ cap)),
      subst (λ r. Steady l regs (put regs r v))
          (ap (λ z. z.register) t.1) (steady_put l regs (length l) v (omega arith)),
    ))
    (λ t. let b = below l x o t.1 in
    (λ plain. put_other regs o.register v (length l) (omega arith), steady_captured l regs x o v t.1 cap))
    (local_cases y x _ (local_at l x) o e)
