-- The cells, as registers and the arena give them.
use Rattle.std.proofs.Common.{◌≡◌, ◌≢◌, ℕ, zero, suc, ◌+◌, ◌<◌, ◌≤◌, Bool, true, false, cond, nat_eq, nat_lt, List, [], ◌∷◌, ◌++◌, map, length, get_or, set, Option, Some, None, refl, sym, ◌∙◌, ap, subst, arith, le-ltb, ◌⊎◌, inl, inr, ⊎_elim}
use Rattle.std.proofs.lemmas.List.{length-set, get_or-set_same, get_or-set_other, set-set, set_comm, set_at, set-append_left, map-set}
use Rattle.std.proofs.lemmas.Bool.{eq-eqb, ne_eqb, ltb-false}
use Rattle.std.proofs.lemmas.Bool.Decides.{eqb_tells}
use Rattle.value_model.specs.declared.ids.CellId.{CellId}
use Rattle.value_model.specs.declared.ids.Owner.{Owner}
use Rattle.value_model.specs.Owners.{wide}
use Rattle.value_model.specs.declared.value.Value.{Value}
use Rattle.value_model.specs.declared.value.Value.TheVariants as value
use Rattle.value_arena.specs.Objects.{ObjectsView, no_objects}
use Rattle.value_arena.specs.Arenas.{ArenaView, objects_of, slot, with_cell}
use Rattle.call_frames.specs.declared.frame.OpenCell.{OpenCell}
use Rattle.call_frames.specs.Stacks.{Rises, AreOther, Once}
use Rattle.call_frames.proofs.Keeping.{cell_is, is_cell}
use Rattle.value_arena.proofs.Laws.{short_is}
use Rattle.call_frames.specs.Cells.{same, or_else, register_of, cell_on, opened, kept, closed}
use Rattle.value_model.specs.Values as m
use Rattle.value_model.specs.Parts.{meant}
use Rattle.machine_world.specs.Functions.{laid, kept_cells}
use Rattle.machine_world.specs.Sound.{AreOf}

-- ---- cells apart

cell_at_place : (a b : CellId) → a.owner ≡ b.owner → a.place ≡ b.place → a ≡ b
cell_at_place a b e f = ap (λ w. record { owner = w; place = a.place }) e ∙ ap (λ n. record { owner = b.owner; place = n }) f

apart : false ≡ true → ⊥
apart e = cc

-- none of the open cells stands at the place
abbrev pub IsApart : ℕ → List OpenCell → Type 0
IsApart p [] = Unit {0}
IsApart p (o ∷ os) = (p ≢ o.cell.place) × IsApart p os

-- no two stand at one place
abbrev pub Distinct : List OpenCell → Type 0
Distinct [] = Unit {0}
Distinct (o ∷ os) = IsApart o.cell.place os × Distinct os

apart_of : (u : Owner) (n : ℕ) (c : CellId) (os : List OpenCell) → wide c.owner ≡ u → AreOf u n os → AreOther c os → IsApart c.place os
apart_of u n c [] w of h = tt
apart_of u n c (o ∷ os) w of h =
    ((λ e. h.0 (cell_at_place c o.cell (short_is c.owner o.cell.owner (w ∙ sym of.0)) e)), apart_of u n c os w of.2 h.1)

-- open cells of one owner that differ have places that differ
pub distinct : (u : Owner) (n : ℕ) (os : List OpenCell) → AreOf u n os → Once os → Distinct os
distinct u n [] of h = tt
distinct u n (o ∷ os) of h = (apart_of u n o.cell os of.0 of.2 h.0, distinct u n os of.2 h.1)

-- ---- how many there are

pub laid_length : (texts : List m.Bytes) (regs : List Value) (os : List OpenCell) (cs : List m.Value) → length (laid texts regs os cs) ≡ length cs
laid_length texts regs [] cs = refl
laid_length texts regs (o ∷ os) cs =
    length-set (laid texts regs os cs) o.cell.place (meant texts (get_or regs o.register value.Nil)) ∙ laid_length texts regs os cs

-- ---- the cell of a register

-- a search for the cell of a register, at the first that is open
pub record FirstIs (k : ℕ) (o : OpenCell) (os : List OpenCell) (q : Option CellId) : Type 0 where
  pub is : o.register ≡ k
  pub found : Some o.cell ≡ q

pub record FirstIsNot (k : ℕ) (o : OpenCell) (os : List OpenCell) (q : Option CellId) : Type 0 where
  pub is_not : o.register ≢ k
  pub found : cell_on k os ≡ q

pub at_first : (k : ℕ) (o : OpenCell) (os : List OpenCell) (q : Option CellId) → cell_on k (o ∷ os) ≡ q → FirstIs k o os q ⊎ FirstIsNot k o os q
at_first k o os q e = ⊎_elim (λ h. inl (yes h.0 h.1)) (λ h. inr (no h.0 h.1)) (eqb_tells o.register k)
  where
    yes : nat_eq o.register k ≡ true → o.register ≡ k → FirstIs k o os q
    yes t same = record { is = same; found = sym (ap (λ b. cond b (Some o.cell) (cell_on k os)) t) ∙ e }

    no : nat_eq o.register k ≡ false → o.register ≢ k → FirstIsNot k o os q
    no t ne = record { is_not = ne; found = sym (ap (λ b. cond b (Some o.cell) (cell_on k os)) t) ∙ e }

some_cell : (c d : CellId) → Some c ≡ Some d → c ≡ d
some_cell c d e = cc

-- no cell behind a higher register stands for this one
pub none_behind : (r first end : ℕ) (os : List OpenCell) → Rises first end os → r < first → cell_on r os ≡ None
none_behind r first end [] rises h = refl
none_behind r first end (o ∷ os) rises h =
    ap (λ b. cond b (Some o.cell) (cell_on r os)) (ne_eqb o.register r (λ e. absurd (omega (arith, rises.0, e))))
    ∙ none_behind r (o.register + 1) end os rises.2 (omega (arith, rises.0))

pub other_found : (p k : ℕ) (c : CellId) (os : List OpenCell) → IsApart p os → cell_on k os ≡ Some c → p ≢ c.place
other_found p k c [] h e = absurd (cc)
other_found p k c (o ∷ os) h e =
    ⊎_elim (λ (y : FirstIs k o os (Some c)). subst (λ (c : CellId). p ≢ c.place) (some_cell o.cell c y.found) h.0)
    (λ (n : FirstIsNot k o os (Some c)). other_found p k c os h.1 n.found) (at_first k o os (Some c) e)

pub found_of : (u : Owner) (n k : ℕ) (c : CellId) (os : List OpenCell) → AreOf u n os → cell_on k os ≡ Some c → (wide c.owner ≡ u) × (c.place < n)
found_of u n k c [] h e = absurd (cc)
found_of u n k c (o ∷ os) h e =
    ⊎_elim (λ (y : FirstIs k o os (Some c)). subst (λ (c : CellId). (wide c.owner ≡ u) × (c.place < n)) (some_cell o.cell c y.found) (h.0, h.1))
    (λ (f : FirstIsNot k o os (Some c)). found_of u n k c os h.2 f.found) (at_first k o os (Some c) e)

-- the cell of an open register holds the register's value
pub laid_on : (texts : List m.Bytes) (regs : List Value) (u : Owner) (k : ℕ) (c : CellId) (os : List OpenCell) (cs : List m.Value) → Distinct os →
    AreOf u (length cs) os → cell_on k os ≡ Some c → get_or (laid texts regs os cs) c.place m.Nil ≡ meant texts (get_or regs k value.Nil)
laid_on texts regs u k c [] cs once of e = absurd (cc)
laid_on texts regs u k c (o ∷ os) cs once of e =
    ⊎_elim yes (λ n. no n (laid_on texts regs u k c os cs once.1 of.2 n.found)) (at_first k o os (Some c) e)
  where
    yes : FirstIs k o os (Some c) → get_or (laid texts regs (o ∷ os) cs) c.place m.Nil ≡ meant texts (get_or regs k value.Nil)
    yes y =
        let long : length (laid texts regs os cs) ≡ length cs = laid_length texts regs os cs in
        sym (ap (λ (c : CellId). get_or (laid texts regs (o ∷ os) cs) c.place m.Nil) (some_cell o.cell c y.found))
        ∙ get_or-set_same (laid texts regs os cs) o.cell.place (meant texts (get_or regs o.register value.Nil)) m.Nil (omega (arith, of.1, long))
        ∙ ap (λ k. meant texts (get_or regs k value.Nil)) y.is

    no : FirstIsNot k o os (Some c) → get_or (laid texts regs os cs) c.place m.Nil ≡ meant texts (get_or regs k value.Nil) →
        get_or (laid texts regs (o ∷ os) cs) c.place m.Nil ≡ meant texts (get_or regs k value.Nil)
    no n ih =
        get_or-set_other (laid texts regs os cs) o.cell.place c.place (meant texts (get_or regs o.register value.Nil)) m.Nil (λ e. other_found o.cell.place k c os once.0 n.found (sym e))
        ∙ ih

-- ---- a write of a register

-- that is not open
pub laid_beside : (texts : List m.Bytes) (regs : List Value) (k : ℕ) (v : Value) (os : List OpenCell) (cs : List m.Value) → cell_on k os ≡ None →
    laid texts (set regs k v) os cs ≡ laid texts regs os cs
laid_beside texts regs k v [] cs e = refl
laid_beside texts regs k v (o ∷ os) cs e =
    ⊎_elim (λ (y : FirstIs k o os None). absurd (none y.found)) (λ n. no n (laid_beside texts regs k v os cs n.found)) (at_first k o os None e)
  where
    none : Some o.cell ≡ None → ⊥
    none e = absurd (cc)

    no : FirstIsNot k o os None → laid texts (set regs k v) os cs ≡ laid texts regs os cs →
        laid texts (set regs k v) (o ∷ os) cs ≡ laid texts regs (o ∷ os) cs
    no n ih =
        ap (λ l. set l o.cell.place (meant texts (get_or (set regs k v) o.register value.Nil))) ih
        ∙ ap (λ w. set (laid texts regs os cs) o.cell.place (meant texts w)) (get_or-set_other regs k o.register v value.Nil n.is_not)

-- that is open: its cell is written
pub laid_open : (texts : List m.Bytes) (regs : List Value) (k first : ℕ) (v : Value) (c : CellId) (os : List OpenCell) (cs : List m.Value) →
    Rises first (length regs) os → Distinct os → cell_on k os ≡ Some c →
    laid texts (set regs k v) os cs ≡ set (laid texts regs os cs) c.place (meant texts v)
laid_open texts regs k first v c [] cs rises once e = absurd (cc)
laid_open texts regs k first v c (o ∷ os) cs rises once e =
    ⊎_elim yes (λ n. no n (laid_open texts regs k (o.register + 1) v c os cs rises.2 once.1 n.found)) (at_first k o os (Some c) e)
  where
    yes : FirstIs k o os (Some c) → laid texts (set regs k v) (o ∷ os) cs ≡ set (laid texts regs (o ∷ os) cs) c.place (meant texts v)
    yes y =
        let none : cell_on k os ≡ None = none_behind k (o.register + 1) (length regs) os rises.2 (omega (arith, y.is)) in
        let now : get_or (set regs k v) o.register value.Nil ≡ v = ap (λ q. get_or (set regs k v) q value.Nil) y.is ∙ get_or-set_same regs k v value.Nil (omega (arith, y.is, rises.1)) in
        ap (λ l. set l o.cell.place (meant texts (get_or (set regs k v) o.register value.Nil))) (laid_beside texts regs k v os cs none)
        ∙ ap (λ w. set (laid texts regs os cs) o.cell.place (meant texts w)) now
        ∙ sym (set-set (laid texts regs os cs) o.cell.place (meant texts (get_or regs o.register value.Nil)) (meant texts v))
        ∙ ap (λ (c : CellId). set (laid texts regs (o ∷ os) cs) c.place (meant texts v)) (some_cell o.cell c y.found)

    no : FirstIsNot k o os (Some c) → laid texts (set regs k v) os cs ≡ set (laid texts regs os cs) c.place (meant texts v) →
        laid texts (set regs k v) (o ∷ os) cs ≡ set (laid texts regs (o ∷ os) cs) c.place (meant texts v)
    no n ih =
        ap (λ l. set l o.cell.place (meant texts (get_or (set regs k v) o.register value.Nil))) ih
        ∙ ap (λ w. set (set (laid texts regs os cs) c.place (meant texts v)) o.cell.place (meant texts w)) (get_or-set_other regs k o.register v value.Nil n.is_not)
        ∙ set_comm (laid texts regs os cs) c.place o.cell.place (meant texts v) (meant texts (get_or regs o.register value.Nil)) (λ e. other_found o.cell.place k c os once.0 n.found (sym e))

-- ---- the register of a cell

-- which of them is the cell
pub found_by : (b : Bool) (o : OpenCell) (q : Option ℕ) (r : ℕ) → or_else q (cond b (Some o.register) None) ≡ Some r →
    (q ≡ Some r) ⊎ ((b ≡ true) × (o.register ≡ r))
found_by b o (Some k) r e = inl e
found_by true o None r e = inr (refl, some_is o.register r e)
  where
    some_is : (m n : ℕ) → Some m ≡ Some n → m ≡ n
    some_is m n e = cc
found_by false o None r e = absurd (cc)

pub none_by : (b : Bool) (o : OpenCell) (q : Option ℕ) → or_else q (cond b (Some o.register) None) ≡ None → (q ≡ None) × (b ≡ false)
none_by b o (Some k) e = absurd (cc)
none_by true o None e = absurd (cc)
none_by false o None e = (refl, refl)

pub register_from : (c : CellId) (first end : ℕ) (os : List OpenCell) (r : ℕ) → Rises first end os → register_of c os ≡ Some r → first ≤ r
register_from c first end [] r rises e = absurd (cc)
register_from c first end (o ∷ os) r rises e =
    ⊎_elim (λ h. omega (arith, rises.0, register_from c (o.register + 1) end os r rises.2 h)) (λ (h : (same o.cell c ≡ true) × (o.register ≡ r)). omega (arith, rises.0, h.1))
    (found_by (same o.cell c) o (register_of c os) r e)

-- the register of a cell has the cell
pub on_found : (c : CellId) (first end : ℕ) (os : List OpenCell) (r : ℕ) → Rises first end os → register_of c os ≡ Some r → cell_on r os ≡ Some c
on_found c first end [] r rises e = absurd (cc)
on_found c first end (o ∷ os) r rises e =
    ⊎_elim (λ h. later h (on_found c (o.register + 1) end os r rises.2 h)) (λ (h : (same o.cell c ≡ true) × (o.register ≡ r)). first_one h.0 h.1)
    (found_by (same o.cell c) o (register_of c os) r e)
  where
    later : register_of c os ≡ Some r → cell_on r os ≡ Some c → cell_on r (o ∷ os) ≡ Some c
    later h ih =
        let from : o.register + 1 ≤ r = register_from c (o.register + 1) end os r rises.2 h in
        ap (λ b. cond b (Some o.cell) (cell_on r os)) (ne_eqb o.register r (λ e. absurd (omega (arith, from, e)))) ∙ ih

    first_one : same o.cell c ≡ true → o.register ≡ r → cell_on r (o ∷ os) ≡ Some c
    first_one t e =
        ap (λ b. cond b (Some o.cell) (cell_on r os)) (eq-eqb o.register r e) ∙ ap Some (cell_is o.cell c t)

-- a cell without a register is none of the open ones
pub other_cell : (u : Owner) (n : ℕ) (c : CellId) (os : List OpenCell) → wide c.owner ≡ u → AreOf u n os → register_of c os ≡ None → IsApart c.place os
other_cell u n c [] w of e = tt
other_cell u n c (o ∷ os) w of e =
    let h : (register_of c os ≡ None) × (same o.cell c ≡ false) = none_by (same o.cell c) o (register_of c os) e in
    (λ p. differs o.cell c (of.0 ∙ sym w) (sym p) h.1, other_cell u n c os w of.2 h.0)
  where
    differs : (a b : CellId) → wide a.owner ≡ wide b.owner → a.place ≡ b.place → same a b ≡ false → ⊥
    differs a b e f s = absurd (apart (sym s ∙ is_cell a b (cell_at_place a b (short_is a.owner b.owner e) f)))

pub laid_closed : (texts : List m.Bytes) (regs : List Value) (p : ℕ) (os : List OpenCell) (cs : List m.Value) → IsApart p os →
    get_or (laid texts regs os cs) p m.Nil ≡ get_or cs p m.Nil
laid_closed texts regs p [] cs h = refl
laid_closed texts regs p (o ∷ os) cs h =
    get_or-set_other (laid texts regs os cs) o.cell.place p (meant texts (get_or regs o.register value.Nil)) m.Nil h.0
    ∙ laid_closed texts regs p os cs h.1

pub laid_set : (texts : List m.Bytes) (regs : List Value) (p : ℕ) (v : m.Value) (os : List OpenCell) (cs : List m.Value) → IsApart p os →
    laid texts regs os (set cs p v) ≡ set (laid texts regs os cs) p v
laid_set texts regs p v [] cs h = refl
laid_set texts regs p v (o ∷ os) cs h =
    ap (λ l. set l o.cell.place (meant texts (get_or regs o.register value.Nil))) (laid_set texts regs p v os cs h.1)
    ∙ set_comm (laid texts regs os cs) p o.cell.place v (meant texts (get_or regs o.register value.Nil)) h.0

-- ---- one more open cell

pub laid_more : (texts : List m.Bytes) (regs : List Value) (u : Owner) (os : List OpenCell) (cs ys : List m.Value) → AreOf u (length cs) os →
    laid texts regs os (cs ++ ys) ≡ laid texts regs os cs ++ ys
laid_more texts regs u [] cs ys of = refl
laid_more texts regs u (o ∷ os) cs ys of =
    let long : length (laid texts regs os cs) ≡ length cs = laid_length texts regs os cs in
    ap (λ l. set l o.cell.place (meant texts (get_or regs o.register value.Nil))) (laid_more texts regs u os cs ys of.2)
    ∙ set-append_left (laid texts regs os cs) ys o.cell.place (meant texts (get_or regs o.register value.Nil)) (omega (arith, of.1, long))

pub laid_opened : (texts : List m.Bytes) (regs : List Value) (u : Owner) (r : ℕ) (c : CellId) (v : Value) (os : List OpenCell) (cs : List m.Value) →
    AreOf u (length cs) os → c.place ≡ length cs → v ≡ get_or regs r value.Nil →
    laid texts regs (opened r c os) (cs ++ meant texts v ∷ []) ≡ laid texts regs os cs ++ meant texts v ∷ []
laid_opened texts regs u r c v [] cs of at is =
    set_at cs (meant texts v) [] (meant texts (get_or regs r value.Nil)) c.place (sym at)
    ∙ ap (λ w. cs ++ meant texts w ∷ []) (sym is)
laid_opened texts regs u r c v (o ∷ os) cs of at is = by (nat_lt o.register r) (laid_opened texts regs u r c v os cs of.2 at is)
  where
    by : (b : Bool) → laid texts regs (opened r c os) (cs ++ meant texts v ∷ []) ≡ laid texts regs os cs ++ meant texts v ∷ [] → laid texts regs (cond b (o ∷ opened r c os) (record { register = r; cell = c } ∷ o ∷ os)) (cs ++ meant texts v ∷ []) ≡ laid texts regs (o ∷ os) cs ++ meant texts v ∷ []
    by true ih =
        let long : length (laid texts regs os cs) ≡ length cs = laid_length texts regs os cs in
        ap (λ l. set l o.cell.place (meant texts (get_or regs o.register value.Nil))) ih
        ∙ set-append_left (laid texts regs os cs) (meant texts v ∷ []) o.cell.place (meant texts (get_or regs o.register value.Nil)) (omega (arith, of.1, long))
    by false ih =
        let long : length (laid texts regs (o ∷ os) cs) ≡ length cs = laid_length texts regs (o ∷ os) cs in
        ap (λ l. set l c.place (meant texts (get_or regs r value.Nil))) (laid_more texts regs u (o ∷ os) cs (meant texts v ∷ []) of)
        ∙ set_at (laid texts regs (o ∷ os) cs) (meant texts v) [] (meant texts (get_or regs r value.Nil)) c.place (long ∙ sym at)
        ∙ ap (λ w. laid texts regs (o ∷ os) cs ++ meant texts w ∷ []) (sym is)

-- ---- closing

-- the arena's cells of a script after a write of one
pub cells_written : (texts : List m.Bytes) (u : Owner) (a : ArenaView) (c : CellId) (v : Value) → wide c.owner ≡ u →
    kept_cells texts u (with_cell a c v) ≡ set (kept_cells texts u a) c.place (meant texts v)
unfolding with_cell
cells_written texts u a c v w =
    ap (λ (o : Owner). kept_cells texts u (record a { owners = set a.owners (slot o) (record (objects_of a o) { cells = set (objects_of a o).cells c.place v }) })) w
    ∙ ap (λ cs. map (meant texts) cs) (at_slot a.owners (slot (u)))
    ∙ map-set (meant texts) (objects_of a (u)).cells c.place v
  where
    at_slot : (os : List ObjectsView) (n : ℕ) → (get_or (set os n (record (get_or os n no_objects) { cells = set (get_or os n no_objects).cells c.place v })) n no_objects).cells ≡ set (get_or os n no_objects).cells c.place v
    at_slot [] n = refl
    at_slot (o ∷ os) zero = refl
    at_slot (o ∷ os) (suc n) = at_slot os n

pub kept_none : (r first end : ℕ) (os : List OpenCell) → r ≤ first → Rises first end os → kept r os ≡ []
kept_none r first end [] le h = refl
kept_none r first end (o ∷ os) le h =
    ap (λ b. cond b (o ∷ kept r os) (kept r os)) (le-ltb o.register r (omega (arith, h.0)))
    ∙ kept_none r (o.register + 1) end os (omega (arith, h.0)) h.2

-- the cells are as before
pub laid_kept : (texts : List m.Bytes) (regs : List Value) (u : Owner) (n r first end : ℕ) (os : List OpenCell) (a : ArenaView) → Rises first end os →
    AreOf u n os → laid texts regs (kept r os) (kept_cells texts u (closed r regs os a)) ≡ laid texts regs os (kept_cells texts u a)
laid_kept texts regs u n r first end [] a rises of = refl
laid_kept texts regs u n r first end (o ∷ os) a rises of = by (nat_lt o.register r) refl (laid_kept texts regs u n r (o.register + 1) end os a rises.2 of.2)
  where
    by : (b : Bool) → nat_lt o.register r ≡ b →
        laid texts regs (kept r os) (kept_cells texts u (closed r regs os a)) ≡ laid texts regs os (kept_cells texts u a) →
        laid texts regs (cond b (o ∷ kept r os) (kept r os)) (kept_cells texts u (cond b (closed r regs os a) (with_cell (closed r regs os a) o.cell (get_or regs o.register value.Nil)))) ≡ laid texts regs (o ∷ os) (kept_cells texts u a)
    by true t ih = ap (λ l. set l o.cell.place (meant texts (get_or regs o.register value.Nil))) ih
    by false t ih =
        let above : r ≤ o.register = ltb-false o.register r t in
        let none : kept r os ≡ [] = kept_none r (o.register + 1) end os (omega (arith, above)) rises.2 in
        ap (λ ks. laid texts regs ks (kept_cells texts u (with_cell (closed r regs os a) o.cell (get_or regs o.register value.Nil)))) none
        ∙ cells_written texts u (closed r regs os a) o.cell (get_or regs o.register value.Nil) of.0
        ∙ ap (λ l. set l o.cell.place (meant texts (get_or regs o.register value.Nil))) (ap (λ ks. laid texts regs ks (kept_cells texts u (closed r regs os a))) (sym none) ∙ ih)
