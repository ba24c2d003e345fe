-- What closing, unwinding and entering leave.
use Rattle.std.proofs.Common.{◌≡◌, ◌≢◌, ℕ, zero, suc, ◌+◌, ◌-◌, ◌<◌, ◌≤◌, Bool, true, false, cond, nat_lt, List, [], ◌∷◌, ◌++◌, length, take, drop, replicate, get_or, Option, Some, None, slice_get, set, refl, sym, ◌∙◌, ap, subst, rules, arith}
use Rattle.std.specs.Option.{option_map_or}
use Rattle.std.proofs.lemmas.Grind.{common_steps}
use Rattle.std.proofs.lemmas.List.{append_assoc, length-set, length-take, take_all}
use Rattle.value_model.specs.declared.ids.CellId.{CellId}
use Rattle.value_model.specs.declared.ids.Owner.{Owner}
use Rattle.value_model.specs.declared.ids.ShortOwner.{ShortOwner}
use Rattle.value_model.specs.declared.ids.ShortOwner.TheVariants as owner
use Rattle.value_model.specs.declared.value.Value.{Value}
use Rattle.value_model.specs.declared.value.Value.TheVariants.{Nil}
use Rattle.value_model.specs.contracts.ids.CellIdEq.TheImpl.Laws.{laws-law}
use Rattle.value_model.specs.contracts.ids.ShortOwnerPartialEq.TheImpl as owner_eq
use Rattle.value_arena.specs.Arenas.{ArenaView, HasCell, cell_at, with_cell, new_cell, next_cell}
use Rattle.value_arena.specs.Growing.{Grows}
use Rattle.value_arena.proofs.Growing.{grows_self, with_cell_grows}
use Rattle.value_arena.proofs.Laws.{cell_now, cell_other}
use Rattle.call_frames.specs.declared.frame.Frame.{Frame}
use Rattle.call_frames.specs.declared.frame.OpenCell.{OpenCell}
use Rattle.call_frames.specs.Stacks.{StackView, AreOther, Once}
use Rattle.call_frames.specs.Cells.{Both, AreIn, captured, cell_on, closed, kept, low, opened, or_else, popped, read_up, register_at, register_of, same, unwound, without, write_up}
use Rattle.call_frames.specs.Laws.{ClosingKeepsUpvalues, OuterFramesStay, UnwindingKeepsUpvalues, EnteringKeepsRegisters}
use Rattle.call_frames.proofs.Closing.{in_closed, in_kept, in_stays}
use Rattle.call_frames.proofs.Live.{other_kept, once_kept}

-- ---- one cell or two

owner_is : (a b : ShortOwner) → owner_eq.ghosts.eq a b ≡ true → a ≡ b
owner_is owner.Frozen owner.Frozen h = refl
owner_is (owner.Script m) (owner.Script n) h = ap owner.Script (first_of (search rules, grind (arith, common_steps)))
owner_is _ _ h = cc

pub cell_is : (a b : CellId) → same a b ≡ true → a ≡ b
cell_is a b h = first_of (search (rules, owner_is), grind (arith, common_steps, owner_is))

pub is_cell : (a b : CellId) → a ≡ b → same a b ≡ true
is_cell a b e = rw e (laws-law.refl b)

pub is_other : (a b : CellId) → b ≢ a → same a b ≡ false
is_other a b n = by (same a b) refl
  where
    by : (x : Bool) → same a b ≡ x → x ≡ false
    by true e = absurd (n (sym (cell_is a b e)))
    by false e = refl

-- ---- closing

-- what an upvalue gives, from the registers that are open
abbrev given : List Value → Option ℕ → Value → Value
given regs q v = option_map_or (λ r. get_or regs r Nil) q v

-- a cell that is not open stands for no register
none_open : (c : CellId) (os : List OpenCell) → AreOther c os → register_of c os ≡ None
none_open c [] h = refl
none_open c (o ∷ os) h =
    ap (λ q. or_else q (cond (same o.cell c) (Some o.register) None)) (none_open c os h.1)
    ∙ ap (λ b. cond b (Some o.register) None) (is_other o.cell c h.0)

-- a cell that is not open is not written
other_written : (b : Bool) (a : ArenaView) (c d : CellId) (v : Value) → d ≢ c → cell_at (cond b a (with_cell a c v)) d ≡ cell_at a d
other_written true a c d v n = refl
other_written false a c d v n = cell_other a c d v n

cell_left : (r : ℕ) (regs : List Value) (os : List OpenCell) (a : ArenaView) (c : CellId) → AreOther c os → cell_at (closed r regs os a) c ≡ cell_at a c
cell_left r regs [] a c h = refl
cell_left r regs (o ∷ os) a c h =
    other_written (nat_lt o.register r) (closed r regs os a) o.cell c (get_or regs o.register Nil) h.0
    ∙ cell_left r regs os a c h.1

-- the cell is the first one: it stays open, or holds its register's value
first_kept : (b : Bool) (regs : List Value) (os ks : List OpenCell) (a b' : ArenaView) (o : OpenCell) (v : Value) → AreOther o.cell os → AreOther o.cell ks → HasCell b' o.cell → given regs (register_of o.cell (cond b (o ∷ ks) ks)) (cell_at (cond b b' (with_cell b' o.cell (get_or regs o.register Nil))) o.cell) ≡ given regs (register_of o.cell (o ∷ os)) v
first_kept true regs os ks a b' o v h k there =
    ap (λ q. given regs q (cell_at b' o.cell)) (stands ks k) ∙ sym (ap (λ q. given regs q v) (stands os h))
  where
    stands : (xs : List OpenCell) → AreOther o.cell xs → register_of o.cell (o ∷ xs) ≡ Some o.register
    stands xs n =
        ap (λ q. or_else q (cond (same o.cell o.cell) (Some o.register) None)) (none_open o.cell xs n)
        ∙ ap (λ x. cond x (Some o.register) None) (is_cell o.cell o.cell refl)
first_kept false regs os ks a b' o v h k there =
    ap (λ q. given regs q (cell_at (with_cell b' o.cell (get_or regs o.register Nil)) o.cell)) (none_open o.cell ks k)
    ∙ cell_now b' o.cell (get_or regs o.register Nil) there
    ∙ sym (ap (λ q. given regs q v) (ap (λ q. or_else q (cond (same o.cell o.cell) (Some o.register) None)) (none_open o.cell os h) ∙ ap (λ x. cond x (Some o.register) None) (is_cell o.cell o.cell refl)))

-- the cell is another one
or_none : (q : Option ℕ) → or_else q None ≡ q
or_none None = refl
or_none (Some r) = refl

beside : (c : CellId) (o : OpenCell) (xs : List OpenCell) → c ≢ o.cell → register_of c (o ∷ xs) ≡ register_of c xs
beside c o xs n =
    ap (λ x. or_else (register_of c xs) (cond x (Some o.register) None)) (is_other o.cell c n) ∙ or_none (register_of c xs)

other_first : (b : Bool) (regs : List Value) (ks : List OpenCell) (b' : ArenaView) (o : OpenCell) (c : CellId) (v : Value) → c ≢ o.cell → given regs (register_of c (cond b (o ∷ ks) ks)) (cell_at (cond b b' (with_cell b' o.cell v)) c) ≡ given regs (register_of c ks) (cell_at b' c)
other_first true regs ks b' o c v n = ap (λ q. given regs q (cell_at b' c)) (beside c o ks n)
other_first false regs ks b' o c v n = ap (given regs (register_of c ks)) (cell_other b' o.cell c v n)

closing : (r : ℕ) (regs : List Value) (os : List OpenCell) (a : ArenaView) (c : CellId) → Once os → AreIn a os → given regs (register_of c (kept r os)) (cell_at (closed r regs os a) c) ≡ given regs (register_of c os) (cell_at a c)
closing r regs [] a c once there = refl
closing r regs (o ∷ os) a c once there =
    by (same o.cell c) refl (closing r regs os a c once.1 there.1)
  where
    by : (x : Bool) → same o.cell c ≡ x → given regs (register_of c (kept r os)) (cell_at (closed r regs os a) c) ≡ given regs (register_of c os) (cell_at a c) → given regs (register_of c (kept r (o ∷ os))) (cell_at (closed r regs (o ∷ os) a) c) ≡ given regs (register_of c (o ∷ os)) (cell_at a c)
    by true e rest =
        subst (λ d. given regs (register_of d (kept r (o ∷ os))) (cell_at (closed r regs (o ∷ os) a) d) ≡ given regs (register_of d (o ∷ os)) (cell_at a d)) (cell_is o.cell c e)
        (first_kept (nat_lt o.register r) regs os (kept r os) a (closed r regs os a) o (cell_at a o.cell) once.0 (other_kept r o.cell os once.0) (in_closed r regs os a (o ∷ []) (there.0, tt)).0)
    by false e rest =
        let n : c ≢ o.cell = λ same_cell. not_both (sym e ∙ is_cell o.cell c (sym same_cell)) in
        other_first (nat_lt o.register r) regs (kept r os) (closed r regs os a) o c (get_or regs o.register Nil) n
        ∙ rest ∙ sym (ap (λ q. given regs q (cell_at a c)) (beside c o os n))
      where
        not_both : false ≡ true → ⊥
        not_both h = cc

pub closing_keeps : ClosingKeepsUpvalues
unfolding read_up
closing_keeps s a r c layout there = closing r s.registers s.cells a c layout.once there

-- ---- unwinding

popped_take : (b : Both) → (popped b).0.frames ≡ take (length b.0.frames - 1) b.0.frames
unfolding popped
popped_take b = by (slice_get b.0.frames (length b.0.frames - 1)) refl
  where
    empty : (fs : List Frame) → slice_get fs (length fs - 1) ≡ None → fs ≡ take (length fs - 1) fs
    empty [] e = refl
    empty (f ∷ []) e = absurd (cc)
    empty (f ∷ g ∷ fs) e = absurd (some (f ∷ g ∷ fs) (omega arith) e)
      where
        some_at : (fs : List Frame) (i : ℕ) → i < length fs → slice_get fs i ≡ None → ⊥
        some_at [] i lt e = omega (arith, lt)
        some_at (f ∷ fs) zero lt e = cc
        some_at (f ∷ fs) (suc i) lt e = some_at fs i (omega (arith, lt)) e

        some : (fs : List Frame) → 0 < length fs → slice_get fs (length fs - 1) ≡ None → ⊥
        some fs lt e = some_at fs (length fs - 1) (omega (arith, lt)) e

    by : (q : Option Frame) → slice_get b.0.frames (length b.0.frames - 1) ≡ q → (option_map_or (without b) q b).0.frames ≡ take (length b.0.frames - 1) b.0.frames
    by None e = empty b.0.frames e
    by (Some f) e = refl

take_less : {A : Type 0} (m n : ℕ) (xs : List A) → m ≤ n → take m (take n xs) ≡ take m xs
take_less zero n xs le = refl
take_less (suc m) zero xs le = absurd (omega (arith, le))
take_less (suc m) (suc n) [] le = refl
take_less (suc m) (suc n) (x ∷ xs) le = ap (λ l. x ∷ l) (take_less m n xs (omega (arith, le)))

unwinding : (n : ℕ) (b : Both) → (unwound n b).0.frames ≡ take (length b.0.frames - n) b.0.frames
unwinding zero b = sym (take_all (length b.0.frames - 0) b.0.frames (omega arith))
unwinding (suc n) b =
    let fs = b.0.frames in
    let count : length (popped b).0.frames - n ≡ length fs - suc n = omega (arith, ap length (popped_take b) ∙ length-take (length fs - 1) fs) in
    unwinding n (popped b) ∙ ap (λ k. take k (popped b).0.frames) count
    ∙ ap (take (length fs - suc n)) (popped_take b)
    ∙ take_less (length fs - suc n) (length fs - 1) fs (omega arith)

pub outer_frames : OuterFramesStay
outer_frames n s a = unwinding n (s, a)

popped_keeps : (b : Both) (c : CellId) → Once b.0.cells → AreIn b.1 b.0.cells → read_up (popped b).0 (popped b).1 c ≡ read_up b.0 b.1 c
unfolding popped read_up
popped_keeps b c once there = by (slice_get b.0.frames (length b.0.frames - 1))
  where
    at : Both → Value
    at b = given b.0.registers (register_of c b.0.cells) (cell_at b.1 c)

    by : (q : Option Frame) → at (option_map_or (without b) q b) ≡ at b
    by None = refl
    by (Some f) = closing (low f) b.0.registers b.0.cells b.1 c once there

-- after it too no cell is open twice, and those that are open are of the arena
popped_stays : (b : Both) → Once b.0.cells → AreIn b.1 b.0.cells → Once (popped b).0.cells × AreIn (popped b).1 (popped b).0.cells
unfolding popped
popped_stays b once there = by (slice_get b.0.frames (length b.0.frames - 1))
  where
    Stays : Both → Type 0
    Stays b = Once b.0.cells × AreIn b.1 b.0.cells

    by : (q : Option Frame) → Stays (option_map_or (without b) q b)
    by None = (once, there)
    by (Some f) =
        (once_kept (low f) b.0.cells once, in_closed (low f) b.0.registers b.0.cells b.1 (kept (low f) b.0.cells) (in_kept (low f) b.1 b.0.cells there))

unwinding_keeps_on : (n : ℕ) (b : Both) (c : CellId) → Once b.0.cells → AreIn b.1 b.0.cells → read_up (unwound n b).0 (unwound n b).1 c ≡ read_up b.0 b.1 c
unwinding_keeps_on zero b c once there = refl
unwinding_keeps_on (suc n) b c once there =
    let stays = popped_stays b once there in
    unwinding_keeps_on n (popped b) c stays.0 stays.1 ∙ popped_keeps b c once there

pub unwinding_keeps : UnwindingKeepsUpvalues
unwinding_keeps n s a c layout there = unwinding_keeps_on n (s, a) c layout.once there

-- ---- what stays of the stack

abbrev Captured : Type 0
Captured = CellId × StackView × ArenaView

captured_by : (P : Captured → Type 0) (s : StackView) (a : ArenaView) (w : Owner) (r : ℕ) → P (next_cell a w, record s { cells = opened r (next_cell a w) s.cells }, new_cell a w (register_at s r)) → ((c : CellId) → P (c, s, a)) → P (captured s a w r)
unfolding captured
captured_by P s a w r none some = by (cell_on r s.cells)
  where
    by : (q : Option CellId) → P (option_map_or (λ c. (c, s, a)) q (next_cell a w, record s { cells = opened r (next_cell a w) s.cells }, new_cell a w (register_at s r)))
    by None = none
    by (Some c) = some c

pub captured_frames : (s : StackView) (a : ArenaView) (w : Owner) (r : ℕ) → (captured s a w r).1.frames ≡ s.frames
captured_frames s a w r = captured_by (λ k. k.1.frames ≡ s.frames) s a w r refl (λ c. refl)

pub captured_registers : (s : StackView) (a : ArenaView) (w : Owner) (r : ℕ) → (captured s a w r).1.registers ≡ s.registers
captured_registers s a w r = captured_by (λ k. k.1.registers ≡ s.registers) s a w r refl (λ c. refl)

pub captured_top : (s : StackView) (a : ArenaView) (w : Owner) (r : ℕ) → (captured s a w r).1.top ≡ s.top
captured_top s a w r = captured_by (λ k. k.1.top ≡ s.top) s a w r refl (λ c. refl)

written_by : (P : Both → Type 0) (s : StackView) (a : ArenaView) (c : CellId) (v : Value) → P (s, with_cell a c v) → ((r : ℕ) → P (record s { registers = set s.registers r v }, a)) → P (write_up s a c v)
unfolding write_up
written_by P s a c v none some = by (register_of c s.cells)
  where
    by : (q : Option ℕ) → P (option_map_or (λ r. (record s { registers = set s.registers r v }, a)) q (s, with_cell a c v))
    by None = none
    by (Some r) = some r

pub written_frames : (s : StackView) (a : ArenaView) (c : CellId) (v : Value) → (write_up s a c v).0.frames ≡ s.frames
written_frames s a c v = written_by (λ b. b.0.frames ≡ s.frames) s a c v refl (λ r. refl)

pub written_top : (s : StackView) (a : ArenaView) (c : CellId) (v : Value) → (write_up s a c v).0.top ≡ s.top
written_top s a c v = written_by (λ b. b.0.top ≡ s.top) s a c v refl (λ r. refl)

pub written_cells : (s : StackView) (a : ArenaView) (c : CellId) (v : Value) → (write_up s a c v).0.cells ≡ s.cells
written_cells s a c v = written_by (λ b. b.0.cells ≡ s.cells) s a c v refl (λ r. refl)

pub written_size : (s : StackView) (a : ArenaView) (c : CellId) (v : Value) → length (write_up s a c v).0.registers ≡ length s.registers
written_size s a c v =
    written_by (λ b. length b.0.registers ≡ length s.registers) s a c v refl (λ r. length-set s.registers r v)

pub written_grows : (s : StackView) (a : ArenaView) (c : CellId) (v : Value) → Grows a (write_up s a c v).1
written_grows s a c v = written_by (λ b. Grows a b.1) s a c v (with_cell_grows a c v) (λ r. grows_self a)

pub written_in : (s : StackView) (a : ArenaView) (c : CellId) (v : Value) → AreIn a s.cells → AreIn (write_up s a c v).1 (write_up s a c v).0.cells
written_in s a c v there =
    written_by (λ b. AreIn b.1 b.0.cells) s a c v (in_stays a c v s.cells there) (λ r. there)

-- ---- entering

front_at : (top : ℕ) (regs more : List Value) (r : ℕ) → r < top → top ≤ length regs → slice_get (take top regs ++ more) r ≡ slice_get regs r
front_at zero regs more r lt le = absurd (omega (arith, lt))
front_at (suc top) [] more r lt le = absurd (omega (arith, le))
front_at (suc top) (v ∷ regs) more zero lt le = refl
front_at (suc top) (v ∷ regs) more (suc r) lt le = front_at top regs more r (omega (arith, lt)) (omega (arith, le))

pub entering_keeps : EnteringKeepsRegisters
entering_keeps regs top end r lt le =
    let new : List Value = replicate (end - top) Nil in
    let behind : List Value = drop (top + (end - top)) regs in
    ap (λ l. slice_get l r) (append_assoc (take top regs) new behind) ∙ front_at top regs (new ++ behind) r lt le
