-- What a register shows after a change.
use Rattle.std.proofs.Common.{◌≡◌, ◌≢◌, ℕ, ◌<◌, Bool, true, false, cond, nat_eq, nat_lt, List, [], ◌∷◌, length, get_or, set, Option, Some, None, refl, sym, ◌∙◌, ap, lt-ltb, ⊎_elim}
use Rattle.std.specs.Option.{option_map_or}
use Rattle.std.proofs.lemmas.List.{get_or-set_same, get_or-set_other}
use Rattle.std.proofs.lemmas.Bool.{ne_eqb}
use Rattle.std.proofs.lemmas.Bool.Decides.{eqb_tells}
use Rattle.value_model.specs.declared.ids.CellId.{CellId}
use Rattle.value_model.specs.declared.ids.Owner.{Owner}
use Rattle.value_model.specs.declared.value.Value.{Value}
use Rattle.value_model.specs.declared.value.Value.TheVariants as value
use Rattle.call_frames.specs.declared.frame.OpenCell.{OpenCell}
use Rattle.call_frames.specs.Cells.{cell_on, opened, kept}
use Rattle.value_model.specs.Values as m
use Rattle.value_model.specs.Parts.{meant}
use Rattle.machine_meaning.specs.States.{Register, Val, Open, held}
use Rattle.machine_world.specs.Functions.{register, laid}
use Rattle.machine_world.specs.Sound.{AreOf}
use Rattle.machine_world.proofs.Laid.{Distinct, FirstIs, at_first, laid_on}

-- by the cell of the register

abbrev pub shown : List m.Bytes → List Value → ℕ → Option CellId → Register
shown texts regs q o = option_map_or (λ (c : CellId). Open c.place) o (Val (meant texts (get_or regs q value.Nil)))

-- ---- a register is written

pub register_beside : (texts : List m.Bytes) (regs : List Value) (os : List OpenCell) (k q : ℕ) (v : Value) → q ≢ k →
    register texts (set regs k v) os q ≡ register texts regs os q
register_beside texts regs os k q v ne =
    ap (λ w. option_map_or (λ (c : CellId). Open c.place) (cell_on q os) (Val (meant texts w))) (get_or-set_other regs k q v value.Nil ne)

pub register_open : (texts : List m.Bytes) (regs : List Value) (os : List OpenCell) (k q : ℕ) (v : Value) (c : CellId) → cell_on k os ≡ Some c →
    register texts (set regs k v) os q ≡ register texts regs os q
register_open texts regs os k q v c on = ⊎_elim (λ h. here h.1) (λ h. register_beside texts regs os k q v h.1) (eqb_tells q k)
  where
    here : q ≡ k → register texts (set regs k v) os q ≡ register texts regs os q
    here e =
        let is : cell_on q os ≡ Some c = ap (λ q. cell_on q os) e ∙ on in
        ap (shown texts (set regs k v) q) is ∙ sym (ap (shown texts regs q) is)

pub register_plain : (texts : List m.Bytes) (regs : List Value) (os : List OpenCell) (k : ℕ) (v : Value) → cell_on k os ≡ None → k < length regs →
    register texts (set regs k v) os k ≡ Val (meant texts v)
register_plain texts regs os k v none h =
    ap (shown texts (set regs k v) k) none ∙ ap (λ w. Val (meant texts w)) (get_or-set_same regs k v value.Nil h)

-- ---- a register is opened

swap : (n r q : ℕ) (x y z : Option CellId) → n ≢ r → cond (nat_eq n q) x (cond (nat_eq r q) y z) ≡ cond (nat_eq r q) y (cond (nat_eq n q) x z)
swap n r q x y z ne = ⊎_elim (λ h. here h.1) (λ h. there h.0) (eqb_tells r q)
  where
    here : r ≡ q → cond (nat_eq n q) x (cond (nat_eq r q) y z) ≡ cond (nat_eq r q) y (cond (nat_eq n q) x z)
    here e =
        let f : nat_eq n q ≡ false = ne_eqb n q (λ h. ne (h ∙ sym e)) in
        ap (λ b. cond b x (cond (nat_eq r q) y z)) f ∙ sym (ap (λ b. cond (nat_eq r q) y (cond b x z)) f)

    there : nat_eq r q ≡ false → cond (nat_eq n q) x (cond (nat_eq r q) y z) ≡ cond (nat_eq r q) y (cond (nat_eq n q) x z)
    there t = ap (λ b. cond (nat_eq n q) x (cond b y z)) t ∙ sym (ap (λ b. cond b y (cond (nat_eq n q) x z)) t)

pub on_opened : (r q : ℕ) (c : CellId) (os : List OpenCell) → cell_on r os ≡ None → cell_on q (opened r c os) ≡ cond (nat_eq r q) (Some c) (cell_on q os)
on_opened r q c [] e = refl
on_opened r q c (o ∷ os) e =
    ⊎_elim (λ (y : FirstIs r o os None). absurd (none y.found)) (λ n. by (nat_lt o.register r) n.is_not (on_opened r q c os n.found)) (at_first r o os None e)
  where
    none : Some o.cell ≡ None → ⊥
    none e = absurd (cc)

    by : (b : Bool) → o.register ≢ r → cell_on q (opened r c os) ≡ cond (nat_eq r q) (Some c) (cell_on q os) → cell_on q (cond b (o ∷ opened r c os) (record { register = r; cell = c } ∷ o ∷ os)) ≡ cond (nat_eq r q) (Some c) (cell_on q (o ∷ os))
    by true ne ih =
        ap (λ l. cond (nat_eq o.register q) (Some o.cell) l) ih ∙ swap o.register r q (Some o.cell) (Some c) (cell_on q os) ne
    by false ne ih = refl

pub register_opened : (texts : List m.Bytes) (regs : List Value) (os : List OpenCell) (r q : ℕ) (c : CellId) → cell_on r os ≡ None →
    register texts regs (opened r c os) q ≡ cond (nat_eq r q) (Open c.place) (register texts regs os q)
register_opened texts regs os r q c none = ap (shown texts regs q) (on_opened r q c os none) ∙ by (nat_eq r q)
  where
    by : (b : Bool) → shown texts regs q (cond b (Some c) (cell_on q os)) ≡ cond b (Open c.place) (register texts regs os q)
    by true = refl
    by false = refl

-- ---- registers are closed

either_way : (b : Bool) (q : Option CellId) → q ≡ cond b q q
either_way true q = refl
either_way false q = refl

pub on_kept : (r q : ℕ) (os : List OpenCell) → cell_on q (kept r os) ≡ cond (nat_lt q r) (cell_on q os) None
on_kept r q [] = either_way (nat_lt q r) None
on_kept r q (o ∷ os) = by (nat_lt o.register r) refl (on_kept r q os)
  where
    by : (b : Bool) → nat_lt o.register r ≡ b → cell_on q (kept r os) ≡ cond (nat_lt q r) (cell_on q os) None →
        cell_on q (cond b (o ∷ kept r os) (kept r os)) ≡ cond (nat_lt q r) (cell_on q (o ∷ os)) None
    by true t ih = ap (λ l. cond (nat_eq o.register q) (Some o.cell) l) ih ∙ ⊎_elim (λ h. here h.1) (λ h. there h.0) (eqb_tells o.register q)
      where
        here : o.register ≡ q →
            cond (nat_eq o.register q) (Some o.cell) (cond (nat_lt q r) (cell_on q os) None) ≡ cond (nat_lt q r) (cell_on q (o ∷ os)) None
        here e =
            let low : nat_lt q r ≡ true = ap (λ q. nat_lt q r) (sym e) ∙ t in
            ap (λ b. cond (nat_eq o.register q) (Some o.cell) (cond b (cell_on q os) None)) low ∙ sym (ap (λ b. cond b (cell_on q (o ∷ os)) None) low)

        there : nat_eq o.register q ≡ false →
            cond (nat_eq o.register q) (Some o.cell) (cond (nat_lt q r) (cell_on q os) None) ≡ cond (nat_lt q r) (cell_on q (o ∷ os)) None
        there f =
            ap (λ b. cond b (Some o.cell) (cond (nat_lt q r) (cell_on q os) None)) f
            ∙ sym (ap (λ b. cond (nat_lt q r) (cond b (Some o.cell) (cell_on q os)) None) f)
    by false t ih = ih ∙ ⊎_elim (λ h. here h.1) (λ h. there h.0) (eqb_tells o.register q)
      where
        here : o.register ≡ q → cond (nat_lt q r) (cell_on q os) None ≡ cond (nat_lt q r) (cell_on q (o ∷ os)) None
        here e =
            let high : nat_lt q r ≡ false = ap (λ q. nat_lt q r) (sym e) ∙ t in
            ap (λ b. cond b (cell_on q os) None) high ∙ sym (ap (λ b. cond b (cell_on q (o ∷ os)) None) high)

        there : nat_eq o.register q ≡ false → cond (nat_lt q r) (cell_on q os) None ≡ cond (nat_lt q r) (cell_on q (o ∷ os)) None
        there f = sym (ap (λ b. cond (nat_lt q r) (cond b (Some o.cell) (cell_on q os)) None) f)

pub register_low : (texts : List m.Bytes) (regs : List Value) (os : List OpenCell) (r q : ℕ) → q < r →
    register texts regs (kept r os) q ≡ register texts regs os q
register_low texts regs os r q h =
    ap (shown texts regs q) (on_kept r q os ∙ ap (λ b. cond b (cell_on q os) None) (lt-ltb q r h))

-- a register's value, read through its cell if it is open
pub held_is : (texts : List m.Bytes) (regs : List Value) (u : Owner) (q : ℕ) (os : List OpenCell) (cs : List m.Value) → Distinct os →
    AreOf u (length cs) os → held (laid texts regs os cs) (register texts regs os q) ≡ meant texts (get_or regs q value.Nil)
held_is texts regs u q os cs once of = by (cell_on q os) refl
  where
    by : (o : Option CellId) → cell_on q os ≡ o → held (laid texts regs os cs) (shown texts regs q o) ≡ meant texts (get_or regs q value.Nil)
    by None e = refl
    by (Some c) e = laid_on texts regs u q c os cs once of e

pub register_kept : (texts : List m.Bytes) (regs : List Value) (u : Owner) (r q : ℕ) (os : List OpenCell) (cs : List m.Value) → Distinct os →
    AreOf u (length cs) os →
    register texts regs (kept r os) q ≡ cond (nat_lt q r) (register texts regs os q) (Val (held (laid texts regs os cs) (register texts regs os q)))
register_kept texts regs u r q os cs once of = ap (shown texts regs q) (on_kept r q os) ∙ by (nat_lt q r)
  where
    by : (b : Bool) →
        shown texts regs q (cond b (cell_on q os) None) ≡ cond b (register texts regs os q) (Val (held (laid texts regs os cs) (register texts regs os q)))
    by true = refl
    by false = ap Val (sym (held_is texts regs u q os cs once of))
