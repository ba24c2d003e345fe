-- Functions are left and entered.
use Rattle.std.proofs.Common.{◌≡◌, ℕ, zero, suc, ◌+◌, ◌-◌, ◌<◌, ◌≤◌, max, Bool, true, false, cond, nat_eq, nat_lt, List, [], ◌∷◌, ◌++◌, map, reverse, replicate, length, take, drop, get_or, set, Option, Some, None, IsSomeAnd, slice_get, refl, sym, ◌∙◌, ap, subst, arith, length-append, append_assoc}
use Rattle.std.specs.List.{AllByRecursion}
use Rattle.std.specs.Option.{option_map, option_map_or}
use Rattle.std.proofs.lemmas.Grind.{common_steps}
use Rattle.std.proofs.lemmas.List.{length-map, length-take, reverse-append, take_at, drop_at, get_or-append-add, get_or_past, get_or-take}
use Rattle.std.proofs.lemmas.Bool.{ltb-false, ne_eqb}
use mathlib.Core.Path.{fun_ext}
use Rattle.value_model.specs.Owners.{wide}
use Rattle.value_model.specs.Parts.{meant}
use Rattle.value_model.specs.Store as store
use Rattle.value_model.specs.Values as m
use Rattle.value_model.specs.Waits as wait
use Rattle.value_model.specs.declared.event.Reply.{Reply}
use Rattle.value_model.specs.declared.ids.CellId.{CellId}
use Rattle.value_model.specs.declared.ids.ClosureId.{ClosureId}
use Rattle.value_model.specs.declared.value.Value.{Value}
use Rattle.value_model.specs.declared.value.Value.TheVariants as value
use Rattle.value_arena.specs.declared.closure.Closure.{Closure}
use Rattle.value_arena.specs.Arenas.{ArenaView, HasClosure, objects_of}
use Rattle.luau_tables.specs.Part.{place_of_thread, store_of}
use Rattle.luau_tables.specs.Worlds.{MayUseIn, store_in}
use Rattle.luau_tables.specs.declared.globals.LibWorld.{LibWorld}
use Rattle.luau_tables.proofs.Sameness.{nil_is}
use Rattle.call_frames.specs.declared.frame.Frame.{Frame}
use Rattle.call_frames.specs.declared.frame.OpenCell.{OpenCell}
use Rattle.call_frames.specs.declared.frame.ReturnKind.TheVariants.{Idle}
use Rattle.call_frames.specs.Stacks.{StackView, AreBelow, Layout}
use Rattle.call_frames.specs.Cells.{Both, cell_on, kept, closed, innermost, outer, low, popped, end_in, end_of, entered_frame, called}
use Rattle.call_frames.proofs.Closing.{split_last, last_got, front_is, popped_is, popped_frames}
use Rattle.call_frames.proofs.Innermost.{all_below}
use Rattle.machine_meaning.specs.States as machine
use Rattle.machine_meaning.specs.States.{Register, Val, Open, Registers, Focus, State, Body, filled}
use Rattle.machine_code.specs.declared.code.Code.{Code}
use Rattle.machine_world.specs.Functions.{register, window, with_function, function_of, waiting, running, functions_of, laid, kept_cells, cells_of, wait_of, body_of, body_at}
use Rattle.machine_world.specs.Parts.{world_with, state_with, part, waits_in, left, entered}
use Rattle.machine_world.specs.Sound.{cell_count, AreOf, IsOwnOf, first, later, AreOwn, IsFunctionOf, MayWait, IsLuau, GoesOn, IsMachine}
use Rattle.machine_world.proofs.Laid.{laid_kept}
use Rattle.machine_world.proofs.Registers.{shown, register_low}
use Rattle.machine_world.proofs.Frames.{functions_split, lies, with_same, waiting_same, below_reverse}
use Rattle.machine_world.proofs.Beside.{Beside, state_beside, machine_beside}
use Rattle.machine_world.proofs.Captured.{beside_closed, count_closed, of_stays, own_stays}

-- ---- frames that wait

some_there : {A : Type 0} (y : A) (xs : List A) → y ∷ xs ≡ [] → ⊥
some_there y xs e = absurd (cc)

pub no_last : {A : Type 0} (xs : List A) → slice_get xs (length xs - 1) ≡ None → xs ≡ []
no_last [] e = refl
no_last (x ∷ []) e = absurd (cc)
no_last (x ∷ y ∷ xs) e =
    let count : length (x ∷ y ∷ xs) - 1 ≡ suc (length (y ∷ xs) - 1) = omega arith in
    absurd (some_there y xs (no_last (y ∷ xs) (subst (λ n. slice_get (x ∷ y ∷ xs) n ≡ None) count e)))

pub reverse_last : {A : Type 0} (xs ys : List A) (x : A) → xs ≡ ys ++ x ∷ [] → reverse xs ≡ x ∷ reverse ys
reverse_last xs ys x e = ap (λ l. reverse l) e ∙ reverse-append ys (x ∷ [])

-- with no list of values, each shows its own registers
pub waiting_is : (texts : List m.Bytes) (cs : List Closure) (s : StackView) → s.top ≡ 0 →
    functions_of texts cs s ≡ waiting texts cs s.registers s.cells (reverse s.frames)
unfolding functions_of
waiting_is texts cs s none = by (innermost s) refl
  where
    one : (g : Frame) (c : ClosureId) → running texts cs s c g ≡ function_of texts cs s.registers s.cells g.registers 0 c g
    one g c =
        let size : max g.registers (s.top - g.base) ≡ g.registers = omega (arith, none) in
        let top : s.top - g.base ≡ 0 = omega (arith, none) in
        ap (λ n. function_of texts cs s.registers s.cells n (s.top - g.base) c g) size
        ∙ ap (λ t. function_of texts cs s.registers s.cells g.registers t c g) top

    by : (q : Option Frame) → slice_get s.frames (length s.frames - 1) ≡ q →
        option_map_or (λ f. with_function f.closure (λ c. running texts cs s c f) (waiting texts cs s.registers s.cells (reverse (outer s)))) q [] ≡ waiting texts cs s.registers s.cells (reverse s.frames)
    by None e = sym (ap (λ fs. waiting texts cs s.registers s.cells (reverse fs)) (no_last s.frames e))
    by (Some g) e =
        with_same g.closure (λ c. running texts cs s c g) (λ c. function_of texts cs s.registers s.cells g.registers 0 c g) (waiting texts cs s.registers s.cells (reverse (outer s))) (waiting texts cs s.registers s.cells (reverse (outer s))) (one g) refl
        ∙ sym (ap (λ fs. waiting texts cs s.registers s.cells fs) (reverse_last s.frames (outer s) g (split_last s.frames g e)))

-- ---- what waits

-- the main function's own run goes on
pub here_is : (w : LibWorld) → w.arena.running ≡ None → store.here (store_in w) ≡ 0
unfolding store_of
here_is w e = ap (λ r. store.place_of_running (option_map place_of_thread r)) e

pub left_waits : (w : LibWorld) (fs gs : List Frame) (f : Frame) → w.arena.running ≡ None → fs ≡ gs ++ f ∷ [] →
    wait.leave (waits_in w fs) (store_in w) ≡ waits_in w gs
left_waits w fs gs f e split =
    ap (λ i. wait.with_waiting (waits_in w fs) i (wait.rest_of (wait.waiting (waits_in w fs) i))) (here_is w e)
    ∙ ap (λ l. wait.rest_of (map (wait_of w.names) l) ∷ replicate (length (objects_of w.arena w.owner).threads - 1) []) (reverse_last fs gs f split)

pub more_waits : (w : LibWorld) (fs : List Frame) (f : Frame) → w.arena.running ≡ None →
    waits_in w (fs ++ f ∷ []) ≡ wait.await (wait_of w.names f) (waits_in w fs) (store_in w)
more_waits w fs f e =
    ap (λ l. map (wait_of w.names) l ∷ replicate (length (objects_of w.arena w.owner).threads - 1) []) (reverse-append fs (f ∷ []))
    ∙ sym (ap (λ i. wait.with_waiting (waits_in w fs) i (wait_of w.names f ∷ wait.waiting (waits_in w fs) i)) (here_is w e))

-- ---- a function is left

abbrev pub lowered : Both → Both
lowered b = (record b.0 { top = 0 }, b.1)

abbrev pub of_both : LibWorld → Code → Focus → List Reply → Both → State
of_both w code x replies b = part (record w { arena = b.1 }) code b.0 x replies

abbrev pub BothSound : LibWorld → Both → Type 0
BothSound w b = IsMachine (record w { arena = b.1 }) b.0

pub part_left : (w : LibWorld) (code : Code) (s : StackView) (f : Frame) (c : ClosureId) (x : Focus) (replies : List Reply) → innermost s ≡ Some f →
    f.closure ≡ Some c → Layout s → IsMachine w s → of_both w code x replies (lowered (popped (s, w.arena))) ≡ left (part w code s x replies)
unfolding part cells_of
part_left w code s f c x replies e of layout is =
    let l = lies s f e layout in
    let cs : List Closure = (objects_of w.arena w.owner).closures in
    let cells : List m.Value = laid w.names s.registers s.cells (kept_cells w.names w.owner w.arena) in
    let b : ArenaView = closed (low f) s.registers s.cells w.arena in
    let s' : StackView = record s { frames = outer s; cells = kept (low f) s.cells; top = 0 } in
    let beside : Beside w b = beside_closed w (low f) s.registers s.cells (cell_count w.owner w.arena) is.world is.cells is.values in
    let others : List machine.Frame = waiting w.names cs s.registers s.cells (reverse (outer s)) in
    let functions : functions_of w.names cs s' ≡ others =
    waiting_is w.names cs s' refl
    ∙ waiting_same w.names cs s.registers s.registers s.cells (kept (low f) s.cells) (low f) (reverse (outer s)) (λ q h. register_low w.names s.registers s.cells (low f) q h) refl (below_reverse (low f) (outer s) l.below) in
    ap (λ b. of_both w code x replies (lowered b)) (popped_is (s, w.arena) f e)
    ∙ state_beside w b code (outer s) x replies (functions_of w.names (objects_of b w.owner).closures s') (laid w.names s.registers s'.cells (kept_cells w.names w.owner b)) beside
    ∙ ap (λ ks. state_with w code (outer s) x replies (functions_of w.names ks s') (laid w.names s.registers s'.cells (kept_cells w.names w.owner b))) beside.closures
    ∙ ap (λ cells. state_with w code (outer s) x replies (functions_of w.names cs s') cells) (laid_kept w.names s.registers w.owner (cell_count w.owner w.arena) (low f) 0 (length s.registers) s.cells w.arena layout.rises is.cells)
    ∙ ap (λ fs. state_with w code (outer s) x replies fs cells) functions
    ∙ ap (λ ws. record { focus = x; functions = others; world = record (world_with w code s.frames replies cells) { waits = ws } }) (sym (left_waits w s.frames (outer s) f is.main (split_last s.frames f e)))
    ∙ sym (ap (λ fs. left (state_with w code s.frames x replies fs cells)) (functions_split w.names cs s f c e of))

own_front : (gs : List Frame) (f : Frame) (q : ℕ) → q < f.base - f.extra → IsOwnOf (gs ++ f ∷ []) q → IsOwnOf gs q
own_front [] f q lt (first le high) = absurd (omega (arith, lt, le))
own_front [] f q lt (later is) = elim is [ ]
own_front (g ∷ gs) f q lt (first le high) = first le high
own_front (g ∷ gs) f q lt (later is) = later (own_front gs f q lt is)

pub all_take : {A : Type 0} (P : A → Type 0) (n : ℕ) (xs : List A) → AllByRecursion P xs → AllByRecursion P (take n xs)
all_take P zero xs h = tt
all_take P (suc n) [] h = tt
all_take P (suc n) (x ∷ xs) h = (h.0, all_take P n xs h.1)

pub keeps_left : (w : LibWorld) (s : StackView) (f : Frame) → innermost s ≡ Some f → IsMachine w s → BothSound w (lowered (popped (s, w.arena)))
keeps_left w s f e is =
    let b : ArenaView = closed (low f) s.registers s.cells w.arena in
    let count : cell_count w.owner b ≡ cell_count w.owner w.arena = count_closed w.owner (cell_count w.owner w.arena) (low f) s.registers s.cells w.arena is.cells in
    let of : AreOf w.owner (cell_count w.owner b) s.cells = subst (λ n. AreOf w.owner n s.cells) (sym count) is.cells in
    let now = machine_beside w b s (beside_closed w (low f) s.registers s.cells (cell_count w.owner w.arena) is.world is.cells is.values) of is in
    subst (λ b. BothSound w (lowered b)) (sym (popped_is (s, w.arena) f e))
    (record {
      world = now.world;
      cells = of_stays w.owner (cell_count w.owner b) (low f) s.cells of;
      own = own_stays s.frames (outer s) (low f) s.cells (λ q h own. own_front (outer s) f q h (subst (λ fs. IsOwnOf fs q) (split_last s.frames f e) own)) is.own;
      values = now.values;
      functions = all_take (IsFunctionOf w.owner b) (length s.frames - 1) s.frames now.functions;
      kinds = all_take (MayWait (record w { arena = b })) (length s.frames - 1) s.frames now.kinds;
      shared = now.shared;
      main = now.main;
      marks = now.marks;
    })

-- ---- where the innermost frame ends

pub below_end : (s : StackView) → Layout s → AreBelow (end_of s) s.frames
below_end s layout = by (innermost s) refl
  where
    by : (q : Option Frame) → slice_get s.frames (length s.frames - 1) ≡ q → AreBelow (end_in q) s.frames
    by None e = subst (AreBelow 0) (sym (no_last s.frames e)) tt
    by (Some f) e = all_below (f.base + f.registers) s f layout e (omega arith)

own_low : (n r : ℕ) (fs : List Frame) → AreBelow n fs → IsOwnOf fs r → r < n
own_low n r [] below is = elim is [ ]
own_low n r (f ∷ fs) below (first from high) = omega (arith, below.0, high)
own_low n r (f ∷ fs) below (later is) = own_low n r fs below.1 is

-- no cell is open from there on
pub none_above : (n r : ℕ) (fs : List Frame) (os : List OpenCell) → AreBelow n fs → AreOwn fs os → n ≤ r → cell_on r os ≡ None
none_above n r fs [] below own le = refl
none_above n r fs (o ∷ os) below own le =
    let high : o.register < n = own_low n o.register fs below own.0 in
    ap (λ b. cond b (Some o.cell) (cell_on r os)) (ne_eqb o.register r (λ e. absurd (omega (arith, high, le, e))))
    ∙ none_above n r fs os below own.1 le

get_front : (n q : ℕ) (xs ys : List Value) → q < n → take n xs ≡ take n ys → get_or xs q value.Nil ≡ get_or ys q value.Nil
get_front n q xs ys lt e = sym (get_or-take n xs q value.Nil lt) ∙ ap (λ l. get_or l q value.Nil) e ∙ get_or-take n ys q value.Nil lt

pub register_front : (texts : List m.Bytes) (regs regs' : List Value) (os : List OpenCell) (n q : ℕ) → take n regs' ≡ take n regs → q < n →
    register texts regs' os q ≡ register texts regs os q
register_front texts regs regs' os n q e lt = ap (λ v. option_map_or (λ (c : CellId). Open c.place) (cell_on q os) (Val (meant texts v))) (get_front n q regs' regs lt e)

-- the cells are as they were, where all open registers are below
pub laid_front : (texts : List m.Bytes) (regs regs' : List Value) (n : ℕ) (fs : List Frame) (os : List OpenCell) (cs : List m.Value) →
    take n regs' ≡ take n regs → AreBelow n fs → AreOwn fs os → laid texts regs' os cs ≡ laid texts regs os cs
laid_front texts regs regs' n fs [] cs e below own = refl
laid_front texts regs regs' n fs (o ∷ os) cs e below own =
    ap (λ l. set l o.cell.place (meant texts (get_or regs' o.register value.Nil))) (laid_front texts regs regs' n fs os cs e below own.1)
    ∙ ap (λ v. set (laid texts regs os cs) o.cell.place (meant texts v)) (get_front n o.register regs' regs (own_low n o.register fs below own.0) e)

-- ---- a function is entered

same_place : (q r : ℕ) → nat_eq q r ≡ true → q ≡ r
same_place q r e = grind (arith, common_steps)

next_place : (q r : ℕ) → nat_eq q r ≡ false → r ≤ q → suc r ≤ q
next_place q r e le = grind (arith, common_steps)

filled_by : (b : Bool) (texts : List m.Bytes) (r : ℕ) (v : Value) (vs : List Value) (q : ℕ) → nat_eq q r ≡ b → r ≤ q →
    (suc r ≤ q → filled (suc r) (map (meant texts) vs) q ≡ Val (meant texts (get_or vs (q - suc r) value.Nil))) →
    cond b (Val (meant texts v)) (filled (suc r) (map (meant texts) vs) q) ≡ Val (meant texts (get_or (v ∷ vs) (q - r) value.Nil))
filled_by true texts r v vs q e le more =
    let none : q - r ≡ 0 = omega (arith, same_place q r e) in
    sym (ap (λ n. Val (meant texts (get_or (v ∷ vs) n value.Nil))) none)
filled_by false texts r v vs q e le more =
    let above : suc r ≤ q = next_place q r e le in
    let n : q - r ≡ suc (q - suc r) = omega (arith, above) in
    more above ∙ sym (ap (λ n. Val (meant texts (get_or (v ∷ vs) n value.Nil))) n)

pub filled_is : (texts : List m.Bytes) (r : ℕ) (vs : List Value) (q : ℕ) → r ≤ q →
    filled r (map (meant texts) vs) q ≡ Val (meant texts (get_or vs (q - r) value.Nil))
filled_is texts r [] q le = ap Val (sym (nil_is texts))
filled_is texts r (v ∷ vs) q le = filled_by (nat_eq q r) texts r v vs q refl le (filled_is texts (suc r) vs q)

body_is : (cs : List Closure) (i : ℕ) → body_at cs i ≡ get_or (map body_of cs) i (record { proto = 0; cells = [] })
body_is [] i = refl
body_is (c ∷ cs) zero = refl
body_is (c ∷ cs) (suc i) = body_is cs i

-- given values, and then nil
pub given_get : (given : List Value) (n q : ℕ) → get_or (given ++ replicate n value.Nil) q value.Nil ≡ get_or given q value.Nil
given_get [] zero q = refl
given_get [] (suc n) zero = refl
given_get [] (suc n) (suc q) = given_get [] n q
given_get (v ∷ vs) n zero = refl
given_get (v ∷ vs) n (suc q) = given_get vs n q

pub record Entered (s : StackView) (n : ℕ) (given extra regs : List Value) : Type 0 where
  pub front : take (end_of s) regs ≡ take (end_of s) s.registers
  pub varargs : drop (end_of s) (take (end_of s + length extra) regs) ≡ extra
  pub own : (q : ℕ) → get_or regs (end_of s + length extra + q) value.Nil ≡ get_or given q value.Nil

entered_regs : (s : StackView) (n : ℕ) (given extra : List Value) → end_of s ≤ length s.registers →
    Entered s n given extra (take (end_of s) s.registers ++ extra ++ given ++ replicate (n - length given) value.Nil)
entered_regs s n given extra le =
    let e : ℕ = end_of s in
    let low : List Value = take e s.registers in
    let nils : List Value = replicate (n - length given) value.Nil in
    let long : length low ≡ e = length-take e s.registers ∙ omega (arith, le) in
    let both : length (low ++ extra) ≡ e + length extra = length-append low extra ∙ ap (λ k. k + length extra) long in
    let split : low ++ extra ++ given ++ nils ≡ (low ++ extra) ++ (given ++ nils) = append_assoc (low ++ extra) given nils in
    let whole : low ++ extra ++ given ++ nils ≡ low ++ (extra ++ (given ++ nils)) = split ∙ append_assoc low extra (given ++ nils) in
    record {
      front = ap (λ l. take e l) whole ∙ take_at low (extra ++ (given ++ nils)) e long;
      varargs = ap (λ l. drop e (take (e + length extra) l)) split ∙ ap (λ l. drop e l) (take_at (low ++ extra) (given ++ nils) (e + length extra) both) ∙ drop_at low extra e long;
      own = λ q. ap (λ l. get_or l (e + length extra + q) value.Nil) split ∙ ap (λ k. get_or ((low ++ extra) ++ (given ++ nils)) (k + q) value.Nil) (sym both)
          ∙ get_or-append-add (low ++ extra) (given ++ nils) q value.Nil ∙ given_get given (n - length given) q;
    }

own_entered : (texts : List m.Bytes) (regs given : List Value) (os : List OpenCell) (n base q : ℕ) →
    ((q : ℕ) → get_or regs (base + q) value.Nil ≡ get_or given q value.Nil) → cell_on (base + q) os ≡ None → length given ≤ n →
    window texts regs os (max n (length given)) base q ≡ filled 0 (map (meant texts) given) q
own_entered texts regs given os n base q own none le = by (nat_lt q (max n (length given))) refl ∙ sym (filled_is texts 0 given q (omega arith))
  where
    none_off : q - 0 ≡ q
    none_off = omega arith

    by : (b : Bool) → nat_lt q (max n (length given)) ≡ b →
        cond b (register texts regs os (base + q)) (Val m.Nil) ≡ Val (meant texts (get_or given (q - 0) value.Nil))
    by true t = ap (shown texts regs (base + q)) none ∙ ap (λ v. Val (meant texts v)) (own q) ∙ sym (ap (λ k. Val (meant texts (get_or given k value.Nil))) none_off)
    by false t =
        let high : max n (length given) ≤ q = ltb-false q (max n (length given)) t in
        ap Val (sym (nil_is texts)) ∙ sym (ap (λ v. Val (meant texts v)) (get_or_past given (q - 0) value.Nil (omega (arith, high))))

pub part_called : (w : LibWorld) (code : Code) (s : StackView) (c : ClosureId) (n : ℕ) (given extra : List Value) (x : Focus) (replies : List Reply) →
    s.top ≡ 0 → length given ≤ n → end_of s ≤ length s.registers → Layout s → IsMachine w s →
    part w code (called c n given extra s) x replies ≡ entered c.place n (map (meant w.names) given) (map (meant w.names) extra) (part w code s x replies)
unfolding part called cells_of
part_called w code s c n given extra x replies none le high layout is =
    let names = w.names in
    let e : ℕ = end_of s in
    let base : ℕ = e + length extra in
    let regs : List Value = take e s.registers ++ extra ++ given ++ replicate (n - length given) value.Nil in
    let f : Frame = entered_frame c base n (length extra) in
    let s' : StackView = record s { registers = regs; top = base + length given; frames = s.frames ++ f ∷ [] } in
    let cs : List Closure = (objects_of w.arena w.owner).closures in
    let kept : List m.Value = kept_cells names w.owner w.arena in
    let cells : List m.Value = laid names s.registers s.cells kept in
    let below : AreBelow e s.frames = below_end s layout in
    let r : Entered s n given extra regs = entered_regs s n given extra high in
    let olds : List machine.Frame = functions_of names cs s in
    let top : base + length given - base ≡ length given = omega arith in
    let low_is : base - length extra ≡ e = omega arith in
    let run : Registers → List m.Value → ℕ → Body → machine.Frame = λ rs vs t b. record { closure = c.place; proto = b.proto; size = n; upvalues = b.cells; varargs = vs; place = 0; registers = rs; top = t; purpose = machine.Idle } in
    let functions : functions_of names cs s' ≡ run (filled 0 (map (meant names) given)) (map (meant names) extra) (length (map (meant names) given)) (get_or (map body_of cs) c.place (record { proto = 0; cells = [] })) ∷ olds =
    functions_split names cs s' f c (last_got s'.frames s.frames f refl) refl
    ∙ ap (λ fs. running names cs s' c f ∷ waiting names cs regs s.cells (reverse fs)) (front_is s'.frames s.frames f refl)
    ∙ ap (λ fs. running names cs s' c f ∷ fs) (waiting_same names cs s.registers regs s.cells s.cells e (reverse s.frames) (λ q h. register_front names s.registers regs s.cells e q r.front h) r.front (below_reverse e s.frames below) ∙ sym (waiting_is names cs s none))
    ∙ ap (λ t. run (window names regs s.cells (max n t) base) (map (meant names) (drop (base - length extra) (take base regs))) t (body_at cs c.place) ∷ olds) top
    ∙ ap (λ k. run (window names regs s.cells (max n (length given)) base) (map (meant names) (drop k (take base regs))) (length given) (body_at cs c.place) ∷ olds) low_is
    ∙ ap (λ vs. run (window names regs s.cells (max n (length given)) base) (map (meant names) vs) (length given) (body_at cs c.place) ∷ olds) r.varargs
    ∙ ap (λ rs. run rs (map (meant names) extra) (length given) (body_at cs c.place) ∷ olds)
    (fun_ext (λ q. own_entered names regs given s.cells n base q r.own (none_above e (base + q) s.frames s.cells below is.own (omega arith)) le))
    ∙ ap (λ t. run (filled 0 (map (meant names) given)) (map (meant names) extra) t (body_at cs c.place) ∷ olds) (sym (length-map given (meant names)))
    ∙ ap (λ b. run (filled 0 (map (meant names) given)) (map (meant names) extra) (length (map (meant names) given)) b ∷ olds) (body_is cs c.place) in
    ap (λ fs. state_with w code s'.frames x replies fs (laid names regs s.cells kept)) functions
    ∙ ap (λ xs. state_with w code s'.frames x replies (run (filled 0 (map (meant names) given)) (map (meant names) extra) (length (map (meant names) given)) (get_or (map body_of cs) c.place (record { proto = 0; cells = [] })) ∷ olds) xs) (laid_front names s.registers regs e s.frames s.cells kept r.front below is.own)
    ∙ ap (λ ws. record { focus = x; functions = run (filled 0 (map (meant names) given)) (map (meant names) extra) (length (map (meant names) given)) (get_or (map body_of cs) c.place (record { proto = 0; cells = [] })) ∷ olds; world = record (world_with w code s.frames replies cells) { waits = ws } }) (more_waits w s.frames f is.main)

-- ---- what goes on to hold

pub all_append : {A : Type 0} (P : A → Type 0) (xs ys : List A) → AllByRecursion P xs → AllByRecursion P ys → AllByRecursion P (xs ++ ys)
all_append P [] ys h k = k
all_append P (x ∷ xs) ys h k = (h.0, all_append P xs ys h.1 k)

pub all_replicate : {A : Type 0} (P : A → Type 0) (n : ℕ) (x : A) → P x → AllByRecursion P (replicate n x)
all_replicate P zero x h = tt
all_replicate P (suc n) x h = (h, all_replicate P n x h)

own_more : (fs gs : List Frame) (q : ℕ) → IsOwnOf fs q → IsOwnOf (fs ++ gs) q
own_more [] gs q is = elim is [ ]
own_more (f ∷ fs) gs q (first le lt) = first le lt
own_more (f ∷ fs) gs q (later is) = later (own_more fs gs q is)

pub are_own_more : (fs gs : List Frame) (os : List OpenCell) → AreOwn fs os → AreOwn (fs ++ gs) os
are_own_more fs gs [] h = tt
are_own_more fs gs (o ∷ os) h = (own_more fs gs o.register h.0, are_own_more fs gs os h.1)

pub keeps_called : (w : LibWorld) (s : StackView) (c : ClosureId) (n : ℕ) (given extra : List Value) →
    (wide c.owner ≡ w.owner) × HasClosure w.arena c → AllByRecursion (MayUseIn w) given → AllByRecursion (MayUseIn w) extra → IsMachine w s →
    IsMachine w (called c n given extra s)
unfolding called
keeps_called w s c n given extra there h k is =
    let e : ℕ = end_of s in
    let nils : List Value = replicate (n - length given) value.Nil in
    record {
      world = is.world;
      cells = is.cells;
      own = are_own_more s.frames (entered_frame c (e + length extra) n (length extra) ∷ []) s.cells is.own;
      values = all_append (MayUseIn w) (take e s.registers ++ extra ++ given) nils
          (all_append (MayUseIn w) (take e s.registers ++ extra) given (all_append (MayUseIn w) (take e s.registers) extra (all_take (MayUseIn w) e s.registers is.values) k) h)
          (all_replicate (MayUseIn w) (n - length given) value.Nil (tt, tt));
      functions = all_append (IsFunctionOf w.owner w.arena) s.frames (entered_frame c (e + length extra) n (length extra) ∷ []) is.functions (there, tt);
      kinds = all_append (MayWait w) s.frames (entered_frame c (e + length extra) n (length extra) ∷ []) is.kinds (tt, tt);
      shared = is.shared;
      main = is.main;
      marks = is.marks;
    }

-- ---- the functions that are left

pub left_frames : (s s' : StackView) (a b : ArenaView) (f : Frame) → innermost s ≡ Some f → (s', b) ≡ popped (s, a) → s'.frames ≡ outer s
left_frames s s' a b f e is =
    ap (λ (p : Both). p.0.frames) is ∙ popped_frames (s, a) f e

-- the function that was entered runs
pub goes_called : (s : StackView) (c : ClosureId) (n : ℕ) (given extra : List Value) → GoesOn (called c n given extra s)
unfolding called
goes_called s c n given extra =
    let f : Frame = entered_frame c (end_of s + length extra) n (length extra) in
    subst (λ q. IsSomeAnd q (λ f. IsLuau f × (f.kind ≡ Idle))) (sym (last_got (s.frames ++ f ∷ []) s.frames f refl)) (tt, refl)
