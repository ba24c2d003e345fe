-- Slots more and less, and what a running function keeps of all else.
use Rattle.std.proofs.Common.{Bool, true, false, ◌≡◌, ℕ, zero, suc, ◌<◌, ◌≤◌, List, [], ◌∷◌, length, Some, refl, sym, ap, ◌∙◌, subst, arith, cond, ◌⊎◌, ⊎_elim, inl, inr}
use Rattle.std.specs.Prelude.{slice_get, slice_index_or, nat_lt}
use Rattle.std.proofs.lemmas.Bool.{false≢true, cases_eq, lt-ltb, le-ltb}
use Rattle.byte_text.specs.declared.fixed.StrId.{StrId}
use Rattle.value_model.specs.Values.{Value, Nil}
use Rattle.value_model.specs.Store.{place_of_running}
use Rattle.value_model.specs.Waits.{Wait, waiting}
use Rattle.source_meaning.specs.States.{Environment, cell_of}
use Rattle.source_meaning.specs.States as source
use Rattle.machine_meaning.specs.States.{Register, Val, Open, Registers, put, held, closed, trimmed}
use Rattle.machine_meaning.specs.States as machine
use Rattle.code_simulation.specs.Slots.{Slot, Var, Temp, Local, local_at, temps, Above, same, up, Plainly, plain_same, plain_temp, plain_var, Tag, Taken, Tags, Match, Fits, none, temp, var, Clear}
use Rattle.code_simulation.specs.Relation.{at, Dyn, cells_s, cells_m, store_s, Keeps, Setting, Up, UpsAlike, FuncAlike, Base, Act, Desc, AllRest, Ok, Holds, Loosely}
use Rattle.code_simulation.proofs.Names.{same_some, none_some, local_cases, put_same, put_other}

-- ---- what is kept

pub keeps_all : {co depth : ℕ} {tag : Tags} → Keeps co depth tag tag
keeps_all = record { of = λ c co' depth' v e ne. e; taken = λ c k e. e }

pub ups_keep : (tag tag' : Tags) (env : Environment) → ((c k : ℕ) → tag c ≡ Taken k → tag' c ≡ Taken k) → (ys : List StrId) (ks : List ℕ)
    → UpsAlike tag env ys ks → UpsAlike tag' env ys ks
ups_keep tag tag' env g [] [] u = tt
ups_keep tag tag' env g (y ∷ ys) (k ∷ ks) u = ((u.0.0, u.0.1, g u.0.0 k u.0.2), ups_keep tag tag' env g ys ks u.1)
ups_keep tag tag' env g [] (k ∷ ks) u = absurd u
ups_keep tag tag' env g (y ∷ ys) [] u = absurd u

pub func_keep : (p : Setting) (tag tag' : Tags) (f : source.Body) (m : machine.Body) → ((c k : ℕ) → tag c ≡ Taken k → tag' c ≡ Taken k)
    → FuncAlike p tag f m → FuncAlike p tag' f m
func_keep p tag tag' f m g a =
    record { ups = a.ups; proto = a.proto; coded = a.coded; alike = ups_keep tag tag' f.env g a.ups m.cells a.alike }

-- another function's variable keeps its register
match_keep : (co depth co0 depth0 : ℕ) (cap : Bool) (tag tag' : Tags) (c : ℕ) (Y : Register) → Keeps co0 depth0 tag tag'
    → (co ≡ co0 → depth ≡ depth0 → ⊥) → Match co depth cap (tag c) Y → Match co depth cap (tag' c) Y
match_keep co depth co0 depth0 cap tag tag' c Y k ne (inl a) = inl (a.0, k.of c co depth a.0 a.1 ne, a.2)
match_keep co depth co0 depth0 cap tag tag' c Y k ne (inr b) = inr (b.0, k.taken c b.0 b.1, b.2, b.3)

pub fits_keep : {co depth : ℕ} {tag : Tags} {regs : Registers} {l : List Slot} → (co0 depth0 : ℕ) (tag' : Tags) → Keeps co0 depth0 tag tag'
    → (co ≡ co0 → depth ≡ depth0 → ⊥) → Fits co depth tag regs l → Fits co depth tag' regs l
fits_keep co0 depth0 tag' k ne none = none
fits_keep co0 depth0 tag' k ne (temp e f) = temp e (fits_keep co0 depth0 tag' k ne f)
fits_keep {co} {depth} {tag} {regs} co0 depth0 tag' k ne (var {c = c} {cap = cap} {l = l} m a f) =
    var (match_keep co depth co0 depth0 cap tag tag' c (regs (length l)) k ne m) a (fits_keep co0 depth0 tag' k ne f)

-- those that wait below the one that runs
pub all_rest_keep : (co depth0 : ℕ) (tag tag' : Tags) → Keeps co depth0 tag tag' → (stack : List Desc) → length stack ≤ depth0 → AllRest co tag stack
    → AllRest co tag' stack
all_rest_keep co depth0 tag tag' k [] le r = tt
all_rest_keep co depth0 tag tag' k (s ∷ stack) le r = (
  record {
    fits = fits_keep co depth0 tag' k (λ e d. omega (arith, d, le)) r.0.fits;
    clear = r.0.clear;
    alike = ups_keep tag tag' s.act.outer k.taken s.act.ups s.act.cells r.0.alike;
  },
  all_rest_keep co depth0 tag tag' k stack (omega (arith, le)) r.1,
)

-- the running function has changed its own cells, and cells that closures have taken; what waits is the same
pub ok_keep : {p : Setting} {turns co : ℕ} {ws : List Wait} {roots : List Desc} {d : Dyn} → (d' : Dyn) → Base p d'
    → Keeps co (length roots) d.tag d'.tag → (store_s d').running ≡ (store_s d).running → (store_s d').coroutines ≡ (store_s d).coroutines
    → d'.script.waits ≡ d.script.waits → d'.script.elsewhere ≡ d.script.elsewhere → d'.code.elsewhere ≡ d.code.elsewhere → Ok p turns co ws roots d
    → Ok p turns co ws roots d'
ok_keep {p} {turns} {co} {ws} {roots} {d} d' base k running coroutines waits script code o = record {
  base = base;
  running = ap place_of_running running ∙ o.running;
  room = subst (λ w. co < length w) (sym waits) o.room;
  waits = ap (λ w. waiting w co) waits ∙ o.waits;
  rest = all_rest_keep co (length roots) d.tag d'.tag k roots (omega arith) o.rest;
  others = p.others_keep turns co (length roots) d d' k (record {
    running = running;
    coroutines = coroutines;
    waits = λ j ne. ap
        (λ w. waiting w j) waits;
    room = let e = ap length waits in omega (arith, e);
    script = script;
    code = code;
  }) o.others;
}

-- ---- the register of a variable
pub find : {co depth : ℕ} {tag : Tags} {regs : Registers} {l : List Slot} → (x : StrId) (o : Local) → local_at l x ≡ Some o → Fits co depth tag regs l
    → Match co depth o.captured (tag o.cell) (regs o.register)
find x o e none = none_some e
find x o e (temp h f) = find x o e f
find {co} {depth} {tag} {regs} x o e (var {x = y} {c = c} {cap = cap} {l = l} m a f) =
    ⊎_elim
    (λ t. subst (λ z. Match co depth z.captured (tag z.cell) (regs z.register)) t.1 m)
    (λ t. find x o t.1 f)
    (local_cases y x _ (local_at l x) o e)

-- an upvalue's cell
pub ups_at : (tag : Tags) (env : Environment) (ys : List StrId) (ks : List ℕ) (u : ℕ) (x : StrId) → UpsAlike tag env ys ks → slice_get ys u ≡ Some x
    → Up tag env x (slice_index_or ks u 0)
ups_at tag env [] [] u x a e = none_some e
ups_at tag env [] (k ∷ ks) u x a e = absurd a
ups_at tag env (y ∷ ys) [] u x a e = absurd a
ups_at tag env (y ∷ ys) (k ∷ ks) zero x a e = subst (λ z. Up tag env z k) (same_some e) a.0
ups_at tag env (y ∷ ys) (k ∷ ks) (suc u) x a e = ups_at tag env ys ks u x a.1 e

-- ---- slots above and below
pub fits_put : {co depth : ℕ} {tag : Tags} {regs : Registers} {l : List Slot} → (r : ℕ) (v : Register) → length l ≤ r → Fits co depth tag regs l
    → Fits co depth tag (put regs r v) l
fits_put r v le none = none
fits_put {regs = regs} r v le (temp {l = l} e f) =
    temp (put_other regs r v (length l) (omega (arith, le)) ∙ e) (fits_put r v (omega (arith, le)) f)
fits_put {co} {depth} {tag} {regs} r v le (var {c = c} {cap = cap} {l = l} m a f) =
    var (subst (Match co depth cap (tag c)) (sym (put_other regs r v (length l) (omega (arith, le)))) m) a (fits_put r v (omega (arith, le)) f)

pub drop_slot : {co depth : ℕ} {tag : Tags} {regs : Registers} {s : Slot} {l : List Slot} → Fits co depth tag regs (s ∷ l) → Fits co depth tag regs l
drop_slot (temp e f) = f
drop_slot (var m a f) = f

pub temp_reg : {co depth : ℕ} {tag : Tags} {regs : Registers} {v : Value} {l : List Slot} → Fits co depth tag regs (Temp v ∷ l) → regs (length l) ≡ Val v
temp_reg (temp e f) = e

pub fits_drop : {co depth : ℕ} {tag : Tags} {regs : Registers} {l l0 : List Slot} → Above l l0 → Fits co depth tag regs l → Fits co depth tag regs l0
fits_drop same f = f
fits_drop (up a) f = fits_drop a (drop_slot f)

pub fits_temps : {co depth : ℕ} {tag : Tags} {regs : Registers} → (vs : List Value) (l : List Slot) → Fits co depth tag regs (temps vs l)
    → Fits co depth tag regs l
fits_temps [] l f = f
fits_temps (v ∷ vs) l f = drop_slot (fits_temps vs (Temp v ∷ l) f)

-- a change below values
pub fits_over : {co depth : ℕ} {tag tag' : Tags} {regs : Registers} → (vs : List Value) (l l' : List Slot) → length l ≡ length l'
    → (Fits co depth tag regs l → Fits co depth tag' regs l') → Fits co depth tag regs (temps vs l) → Fits co depth tag' regs (temps vs l')
fits_over [] l l' e g f = g f
fits_over {regs = regs} (v ∷ vs) l l' e g f =
    fits_over vs (Temp v ∷ l) (Temp v ∷ l') (ap suc e) (λ h. temp (ap regs (sym e) ∙ temp_reg h) (g (drop_slot h))) f

-- ---- registers that are closed
closed_below : (cells : List Value) (regs : Registers) (n q : ℕ) → q < n → closed cells regs n q ≡ regs q
closed_below cells regs n q lt = ap (λ b. cond b (regs q) (Val (held cells (regs q)))) (lt-ltb q n lt)

closed_above : (cells : List Value) (regs : Registers) (n q : ℕ) → n ≤ q → closed cells regs n q ≡ Val (held cells (regs q))
closed_above cells regs n q le = ap (λ b. cond b (regs q) (Val (held cells (regs q)))) (le-ltb q n le)

fits_closed : {co depth : ℕ} {tag : Tags} {regs : Registers} {l : List Slot} → (cells : List Value) (n : ℕ) → length l ≤ n → Fits co depth tag regs l
    → Fits co depth tag (closed cells regs n) l
fits_closed cells n le none = none
fits_closed {regs = regs} cells n le (temp {l = l} e f) =
    temp (closed_below cells regs n (length l) (omega (arith, le)) ∙ e) (fits_closed cells n (omega (arith, le)) f)
fits_closed {co} {depth} {tag} {regs} cells n le (var {c = c} {cap = cap} {l = l} m a f) =
    var (subst (Match co depth cap (tag c)) (sym (closed_below cells regs n (length l) (omega (arith, le)))) m) a (fits_closed cells n (omega (arith, le)) f)

-- ---- registers beyond the frame's own
pub trimmed_below : (size top : ℕ) (regs : Registers) (q : ℕ) → q < top → trimmed size top regs q ≡ regs q
trimmed_below size top regs q lt = pick (nat_lt q size)
  where
    pick : (b : Bool) → cond b (regs q) (cond (nat_lt q top) (regs q) (Val Nil)) ≡ regs q
    pick true = refl
    pick false = ap (λ b. cond b (regs q) (Val Nil)) (lt-ltb q top lt)

-- own registers are kept, wherever the list ends
pub trimmed_own : (size top : ℕ) (regs : Registers) (q : ℕ) → q < size → trimmed size top regs q ≡ regs q
trimmed_own size top regs q lt = ap (λ b. cond b (regs q) (cond (nat_lt q top) (regs q) (Val Nil))) (lt-ltb q size lt)

pub trimmed_clear : (size top : ℕ) (regs : Registers) (r : ℕ) → (v : Value) × (regs r ≡ Val v) → (v : Value) × (trimmed size top regs r ≡ Val v)
trimmed_clear size top regs r c = pick (nat_lt r size) (nat_lt r top)
  where
    pick : (a b : Bool) → (v : Value) × (cond a (regs r) (cond b (regs r) (Val Nil)) ≡ Val v)
    pick true b = c
    pick false true = c
    pick false false = (Nil, refl)

-- a change of registers that leaves those in use
pub fits_same : {co depth : ℕ} {tag : Tags} {regs : Registers} {l : List Slot} → (regs' : Registers) → ((r : ℕ) → r < length l → regs' r ≡ regs r)
    → Fits co depth tag regs l → Fits co depth tag regs' l
fits_same regs' e none = none
fits_same regs' e (temp {l = l} h f) = temp (e (length l) (omega arith) ∙ h) (fits_same regs' (λ r lt. e r (omega (arith, lt))) f)
fits_same {co} {depth} {tag} {regs} regs' e (var {c = c} {cap = cap} {l = l} m a f) =
    var (subst (Match co depth cap (tag c)) (sym (e (length l) (omega arith))) m) a (fits_same regs' (λ r lt. e r (omega (arith, lt))) f)

put_clear : (regs : Registers) (n : ℕ) (v : Value) → Clear regs n → Clear (put regs n (Val v)) n
put_clear regs n v h r le =
    ⊎_elim
    (λ e. (v, subst (λ q. put regs n (Val v) q ≡ Val v) (sym e) (put_same regs n (Val v))))
    (λ ne. let w = h r le in (w.0, put_other regs n (Val v) r ne ∙ w.1))
    (cases_eq r n)

-- registers of which none may be open
pub clear_less : {co depth : ℕ} {tag : Tags} {regs : Registers} {l l0 : List Slot} → Plainly l l0 → Fits co depth tag regs l → Clear regs (length l)
    → Clear regs (length l0)
clear_less plain_same f c = c
clear_less {regs = regs} {l0 = l0} (plain_temp {v = v} {l = l} a) f c =
    clear_less a (drop_slot f) (λ r le. ⊎_elim
    (λ e. (v, ap regs e ∙ temp_reg f))
    (λ ne. c r (omega (arith, le, ne)))
    (cases_eq r (length l)))
clear_less {co} {depth} {tag} {regs} {l0 = l0} (plain_var {x = x} {c = y} {l = l} a) f c =
    clear_less a (drop_slot f) (λ r le. ⊎_elim
    (λ e. let v = plain_reg f in (v.0, ap regs e ∙ v.1))
    (λ ne. c r (omega (arith, le, ne)))
    (cases_eq r (length l)))
  where
    plain_match : (X : Tag) (Y : Register) → Match co depth false X Y → (v : Value) × (Y ≡ Val v)
    plain_match X Y (inl m) = (m.0, m.2)
    plain_match X Y (inr m) = absurd (false≢true m.3)

    plain_reg : Fits co depth tag regs (Var x y false ∷ l) → (v : Value) × (regs (length l) ≡ Val v)
    plain_reg (var m b g) = plain_match (tag y) (regs (length l)) m

module _ {p : Setting} {turns co : ℕ} {ws : List Wait} {roots : List Desc} {a : Act} {d : Dyn} {regs : Registers} where
  pub loosely : {l : List Slot} → Holds p turns co ws roots a l d regs → Loosely p turns co ws roots a l d regs
  loosely h = record { ok = h.ok; fits = h.fits; alike = h.alike }

  -- ---- values
  -- the first free register holds a value
  pub claim : {l : List Slot} → (v : Value) → regs (length l) ≡ Val v → Holds p turns co ws roots a l d regs → Holds p turns co ws roots a (Temp v ∷ l) d regs
  claim v e w = record { ok = w.ok; fits = temp e w.fits; clear = λ r le. w.clear r (omega (arith, le)); alike = w.alike }

  -- a value is put into the first free register, which is not open
  pub push : {l : List Slot} → (v : Value) → Holds p turns co ws roots a l d regs → Holds p turns co ws roots a (Temp v ∷ l) d (put regs (length l) (Val v))
  push {l} v w = record {
    ok = w.ok;
    fits = temp (put_same regs (length l) (Val v)) (fits_put (length l) (Val v) (omega arith) w.fits);
    clear = λ r le. put_clear regs (length l) v w.clear r (omega (arith, le));
    alike = w.alike;
  }

  pub top_is : {l : List Slot} {v : Value} → Holds p turns co ws roots a (Temp v ∷ l) d regs → regs (length l) ≡ Val v
  top_is w = temp_reg w.fits

  pub pop : {l : List Slot} {v : Value} → Holds p turns co ws roots a (Temp v ∷ l) d regs → Holds p turns co ws roots a l d regs
  pop {l} {v} w = record {
    ok = w.ok;
    fits = drop_slot w.fits;
    clear = λ r le. ⊎_elim
        (λ e. (v, subst (λ q. regs q ≡ Val v) (sym e) (temp_reg w.fits)))
        (λ ne. w.clear r (omega (arith, le, ne)))
        (cases_eq r (length l));
    alike = w.alike;
  }

  pub pop_all : (vs : List Value) (l : List Slot) → Holds p turns co ws roots a (temps vs l) d regs → Holds p turns co ws roots a l d regs
  pop_all [] l w = w
  pop_all (v ∷ vs) l w = pop (pop_all vs (Temp v ∷ l) w)

  -- other registers, where those in use are the same and none above is open
  pub other_registers : {l : List Slot} → (regs' : Registers) → ((r : ℕ) → r < length l → regs' r ≡ regs r) → Clear regs' (length l)
      → Holds p turns co ws roots a l d regs → Holds p turns co ws roots a l d regs'
  other_registers regs' e clear w = record { ok = w.ok; fits = fits_same regs' e w.fits; clear = clear; alike = w.alike }

  -- registers beyond the frame's own are gone from the end of the list on
  pub trim : {l : List Slot} → (size top : ℕ) → ((r : ℕ) → r < length l → (r < size) ⊎ (r < top)) → Holds p turns co ws roots a l d regs
      → Holds p turns co ws roots a l d (trimmed size top regs)
  trim size top kept w =
      other_registers (trimmed size top regs) (λ r lt. ⊎_elim (trimmed_own size top regs r) (trimmed_below size top regs r) (kept r lt))
      (λ r le. trimmed_clear size top regs r (w.clear r le)) w

  -- ---- blocks
  pub close : {l : List Slot} → Loosely p turns co ws roots a l d regs → Holds p turns co ws roots a l d (closed (cells_m d) regs (length l))
  close {l} w = record {
    ok = w.ok;
    fits = fits_closed (cells_m d) (length l) (omega arith) w.fits;
    clear = λ r le. (held (cells_m d) (regs r), closed_above (cells_m d) regs (length l) r le);
    alike = w.alike;
  }

  pub drop_above : {l l0 : List Slot} → Above l l0 → Loosely p turns co ws roots a l d regs → Loosely p turns co ws roots a l0 d regs
  drop_above b w = record { ok = w.ok; fits = fits_drop b w.fits; alike = w.alike }

  -- slots of which none may be open need no closing
  pub drop_plainly : {l l0 : List Slot} → Plainly l l0 → (Above l l0) → Holds p turns co ws roots a l d regs → Holds p turns co ws roots a l0 d regs
  drop_plainly b c w = record { ok = w.ok; fits = fits_drop c w.fits; clear = clear_less b w.fits w.clear; alike = w.alike }

  -- ---- reading
  pub read : {l : List Slot} → (x : StrId) (o : Local) → local_at l x ≡ Some o → Holds p turns co ws roots a l d regs
      → at (cells_s d) o.cell ≡ held (cells_m d) (regs o.register)
  read {l} x o e w =
      ⊎_elim
      (λ m. (w.ok.base.cells _ _ _ _ m.1).1 ∙ ap (held (cells_m d)) (sym m.2))
      (λ m. (w.ok.base.taken _ _ m.1).2 ∙ ap (held (cells_m d)) (sym m.2))
      (find x o e w.fits)

  -- the register of a variable that no closure may capture holds its value
  pub read_plain : {l : List Slot} → (x : StrId) (o : Local) → local_at l x ≡ Some o → o.captured ≡ false → Holds p turns co ws roots a l d regs
      → regs o.register ≡ Val (at (cells_s d) o.cell)
  read_plain {l} x o e plain w =
      ⊎_elim
      (λ m. m.2 ∙ ap Val (sym (w.ok.base.cells _ _ _ _ m.1).1))
      (λ m. absurd (false≢true (sym plain ∙ m.3)))
      (find x o e w.fits)

  pub read_up : (x : StrId) (u : ℕ) {l : List Slot} → slice_get a.ups u ≡ Some x → Holds p turns co ws roots a l d regs
      → (c : ℕ) × (cell_of a.outer x ≡ Some c) × (at (cells_s d) c ≡ at (cells_m d) (slice_index_or a.cells u 0))
  read_up x u e w =
      let o = ups_at d.tag a.outer a.ups a.cells u x w.alike e in (o.0, o.1, (w.ok.base.taken _ _ o.2).2)

  -- ---- calls: the caller waits below the callee
  pub go_down : {l : List Slot} → Holds p turns co ws roots a l d regs → Ok p turns co ws (record { act = a; slots = l; registers = regs } ∷ roots) d
  go_down w =
      record {
        base = w.ok.base;
        running = w.ok.running;
        room = w.ok.room;
        waits = w.ok.waits;
        rest = (record { fits = w.fits; clear = w.clear; alike = w.alike }, w.ok.rest);
        others = w.ok.others;
      }

  pub come_back : {l : List Slot} → Ok p turns co ws (record { act = a; slots = l; registers = regs } ∷ roots) d → Holds p turns co ws roots a l d regs
  come_back o = record {
    ok = record { base = o.base; running = o.running; room = o.room; waits = o.waits; rest = o.rest.1; others = o.others };
    fits = o.rest.0.fits;
    clear = o.rest.0.clear;
    alike = o.rest.0.alike;
  }

-- ---- fewer turns left
pub ok_later : (p : Setting) (i turns co : ℕ) (ws : List Wait) (roots : List Desc) (d : Dyn) → i ≤ turns → Ok p turns co ws roots d → Ok p i co ws roots d
ok_later p i turns co ws roots d le o =
    record { base = o.base; running = o.running; room = o.room; waits = o.waits; rest = o.rest; others = p.others_later i turns co d le o.others }

pub holds_later : (p : Setting) (i turns co : ℕ) (ws : List Wait) (roots : List Desc) (a : Act) (l : List Slot) (d : Dyn) (regs : Registers)
    → i ≤ turns → Holds p turns co ws roots a l d regs → Holds p i co ws roots a l d regs
holds_later p i turns co ws roots a l d regs le w =
    record { ok = ok_later p i turns co ws roots d le w.ok; fits = w.fits; clear = w.clear; alike = w.alike }

pub loosely_later : (p : Setting) (i turns co : ℕ) (ws : List Wait) (roots : List Desc) (a : Act) (l : List Slot) (d : Dyn) (regs : Registers)
    → i ≤ turns → Loosely p turns co ws roots a l d regs → Loosely p i co ws roots a l d regs
loosely_later p i turns co ws roots a l d regs le w =
    record { ok = ok_later p i turns co ws roots d le w.ok; fits = w.fits; alike = w.alike }
