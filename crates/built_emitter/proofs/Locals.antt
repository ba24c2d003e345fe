-- Where the values of locals and temporaries are: each local has a cell in the source and a register in the machine, and both hold its
-- value. The temporaries stand above the locals.
use Rattle.std.proofs.Common.{◌≡◌, ◌≢◌, ℕ, ◌+◌, ◌<◌, ◌≤◌, Bool, true, false, nat_eq, List, [], ◌∷◌, ◌++◌, length, Option, Some, None, refl, sym, ap, ◌∙◌, subst, arith, length-append, if◌then◌else◌}
use Rattle.std.proofs.lemmas.Bool.{eq-eqb, ne_eqb}
use Rattle.std.proofs.lemmas.Option.{same_Some}
use Rattle.std.proofs.lemmas.List.{get_or-set_same, get_or-set_other, length-set}
use Rattle.std.proofs.Math.ListN.{get_or-append}
use Rattle.std.proofs.Math.Seq.{get_or-append_seam}
use Rattle.std.specs.Prelude.{slice_index_or, slice_set}
use Rattle.byte_text.specs.declared.fixed.StrId.{StrId}
use Rattle.built_values.specs.declared.value.Value.{Value}
use Rattle.built_values.specs.declared.value.Value.TheVariants.{Nil}
use Rattle.built_source.specs.States.{Environment, cell_of}
use Rattle.built_machine.specs.States.{Registers, put}
use Rattle.built_emitter.proofs.NewestNames.{newest_register}

-- ---- registers

pub put_same : (regs : Registers) (r : ℕ) (v : Value) → put regs r v r ≡ v
put_same regs r v = ap (λ b. if b then v else regs r) (eq-eqb r r refl)

pub put_other : (regs : Registers) (r : ℕ) (v : Value) (q : ℕ) → q ≢ r → put regs r v q ≡ regs q
put_other regs r v q ne = ap (λ b. if b then v else regs q) (ne_eqb q r ne)

-- where a test chooses between two answers, each case may use the test's value
either : (t : Bool) (x y o : Option ℕ) (P : Type 0) → (t ≡ true → x ≡ o → P) → (t ≡ false → y ≡ o → P) → (if t then x else y) ≡ o → P
either true x y o P f g h = f refl h
either false x y o P f g h = g refl h

-- ---- locals

-- no variable has the cell
abbrev pub IsApart : ℕ → Environment → Type 0
IsApart c [] = Unit {0}
IsApart c (v ∷ env) = (v.1 ≢ c) × IsApart c env

-- the variables are these names, and each cell holds what its register does
pub data Locals (cells : List Value) (regs : Registers) : Environment → List StrId → Type 0 where
  none : Locals cells regs [] []
  one : (x : StrId) (c : ℕ) (env : Environment) (names : List StrId) → c < length cells →
      slice_index_or cells c Nil ≡ regs (length names) → IsApart c env → Locals cells regs env names → Locals cells regs ((x, c) ∷ env) (x ∷ names)

-- the cell and the register of a local
pub record Local (cells : List Value) (regs : Registers) (env : Environment) (x : StrId) (r : ℕ) : Type 0 where
  pub cell : ℕ
  pub found : cell_of env x ≡ Some cell
  pub same : slice_index_or cells cell Nil ≡ regs r

-- a local's register holds what its cell does
pub read : (cells : List Value) (regs : Registers) (env : Environment) (names : List StrId) (x : StrId) (r : ℕ) →
    Locals cells regs env names → newest_register names x ≡ Some r → Local cells regs env x r
read cells regs _ _ x r Locals.none h = cc
read cells regs _ _ x r (Locals.one y c env names lt same apart ls) h =
    either (nat_eq y.0 x.0) (Some (length names)) (newest_register names x) (Some r) _
    (λ t there. record {
      cell = c;
      found = ap (λ b. if b then Some c else cell_of env x) t;
      same = same ∙ ap regs (same_Some (length names) r there);
    })
    (λ t later. let l = read cells regs env names x r ls later in record {
      cell = l.cell;
      found = ap (λ b. if b then Some c else cell_of env x) t ∙ l.found;
      same = l.same;
    })
    h

-- a name without a register has no cell
pub read_none : (cells : List Value) (regs : Registers) (env : Environment) (names : List StrId) (x : StrId) →
    Locals cells regs env names → newest_register names x ≡ None → cell_of env x ≡ None
read_none cells regs _ _ x Locals.none h = refl
read_none cells regs _ _ x (Locals.one y c env names lt same apart ls) h =
    either (nat_eq y.0 x.0) (Some (length names)) (newest_register names x) None _
    (λ t there. cc)
    (λ t later. ap (λ b. if b then Some c else cell_of env x) t ∙ read_none cells regs env names x ls later)
    h

-- a register above those of the locals is written
pub locals_put : (cells : List Value) (regs : Registers) (env : Environment) (names : List StrId) (r : ℕ) (v : Value) → length names ≤ r →
    Locals cells regs env names → Locals cells (put regs r v) env names
locals_put cells regs _ _ r v le Locals.none = Locals.none
locals_put cells regs _ _ r v le (Locals.one x c env names lt same apart ls) =
    Locals.one x c env names lt (same ∙ sym (put_other regs r v (length names) (omega arith))) apart (locals_put cells regs env names r v (omega arith) ls)

-- a new cell is added
locals_append : (cells : List Value) (regs : Registers) (env : Environment) (names : List StrId) (v : Value) →
    Locals cells regs env names → Locals (cells ++ v ∷ []) regs env names
locals_append cells regs _ _ v Locals.none = Locals.none
locals_append cells regs _ _ v (Locals.one x c env names lt same apart ls) =
    Locals.one x c env names (omega (arith, lt, length-append cells (v ∷ []))) (get_or-append cells (v ∷ []) Nil c lt ∙ same) apart
    (locals_append cells regs env names v ls)

new_apart : (cells : List Value) (regs : Registers) (env : Environment) (names : List StrId) → Locals cells regs env names → IsApart (length cells) env
new_apart cells regs _ _ Locals.none = tt
new_apart cells regs _ _ (Locals.one x c env names lt same apart ls) = ((λ e. omega (arith, lt, e)), new_apart cells regs env names ls)

-- a local is declared, whose value is in the first register above
pub locals_declare : (cells : List Value) (regs : Registers) (env : Environment) (names : List StrId) (x : StrId) (v : Value) →
    regs (length names) ≡ v → Locals cells regs env names → Locals (cells ++ v ∷ []) regs ((x, length cells) ∷ env) (x ∷ names)
locals_declare cells regs env names x v h ls =
    Locals.one x (length cells) env names (omega (arith, length-append cells (v ∷ []))) (get_or-append_seam cells v [] Nil ∙ sym h)
    (new_apart cells regs env names ls) (locals_append cells regs env names v ls)

-- the registers of locals are below those above
pub register_below : (names : List StrId) (x : StrId) (r : ℕ) → newest_register names x ≡ Some r → r < length names
register_below [] x r h = cc
register_below (y ∷ ys) x r h =
    either (nat_eq y.0 x.0) (Some (length ys)) (newest_register ys x) (Some r) _
    (λ t there. let e = same_Some (length ys) r there in omega (arith, e))
    (λ t later. let below = register_below ys x r later in omega (arith, below))
    h

-- another cell and a register above are written
locals_apart : (cells : List Value) (regs : Registers) (env : Environment) (names : List StrId) (c r : ℕ) (v : Value) → length names ≤ r →
    IsApart c env → Locals cells regs env names → Locals (slice_set cells c v) (put regs r v) env names
locals_apart cells regs _ _ c r v le a Locals.none = Locals.none
locals_apart cells regs _ _ c r v le a (Locals.one x d env names lt same apart ls) =
    Locals.one x d env names
    (omega (arith, lt, length-set cells c v))
    (get_or-set_other cells c d v Nil a.0 ∙ same ∙ sym (put_other regs r v (length names) (omega arith)))
    apart
    (locals_apart cells regs env names c r v (omega arith) a.1 ls)

apart_at : (env : Environment) (c : ℕ) (x : StrId) (d : ℕ) → IsApart c env → cell_of env x ≡ Some d → d ≢ c
apart_at [] c x d a h = cc
apart_at (w ∷ env) c x d a h =
    either (nat_eq w.0.0 x.0) (Some w.1) (cell_of env x) (Some d) _
    (λ t there same. a.0 (same_Some w.1 d there ∙ same))
    (λ t later. apart_at env c x d a.1 later)
    h

-- a local is assigned, in its cell and in its register
pub locals_assign : (cells : List Value) (regs : Registers) (env : Environment) (names : List StrId) (x : StrId) (c r : ℕ) (v : Value) →
    cell_of env x ≡ Some c → newest_register names x ≡ Some r → Locals cells regs env names → Locals (slice_set cells c v) (put regs r v) env names
locals_assign cells regs _ _ x c r v found there Locals.none = cc
locals_assign cells regs _ _ x c r v found there (Locals.one y d env names lt same apart ls) =
    either (nat_eq y.0 x.0) (Some (length names)) (newest_register names x) (Some r) _
    (λ t here.
    let cell : d ≡ c = same_Some d c (ap (λ b. if b then Some d else cell_of env x) (sym t) ∙ found) in
    let register : length names ≡ r = same_Some (length names) r here in
    Locals.one y d env names
    (omega (arith, lt, length-set cells c v))
    (ap (λ q. slice_index_or (slice_set cells q v) d Nil) (sym cell) ∙ get_or-set_same cells d v Nil lt ∙ sym
    (put_same regs (length names) v) ∙ ap (λ q. put regs q v (length names)) register)
    apart
    (locals_apart cells regs env names c r v (omega (arith, register)) (subst (λ q. IsApart q env) cell apart) ls))
    (λ t later.
    let cell = ap (λ b. if b then Some d else cell_of env x) (sym t) ∙ found in
    let below = register_below names x r later in
    Locals.one y d env names
    (omega (arith, lt, length-set cells c v))
    (get_or-set_other cells c d v Nil (λ q. apart_at env d x c apart cell (sym q)) ∙ same ∙ sym (put_other regs r v (length names) (omega (arith, below))))
    apart
    (locals_assign cells regs env names x c r v cell later ls))
    there

-- ---- temporaries

-- the values of the temporaries, the newest first, from a register on
pub data Temporaries (regs : Registers) (base : ℕ) : List Value → Type 0 where
  none : Temporaries regs base []
  one : (v : Value) (vs : List Value) → regs (base + length vs) ≡ v → Temporaries regs base vs → Temporaries regs base (v ∷ vs)

pub temporaries_put : (regs : Registers) (base : ℕ) (vs : List Value) (r : ℕ) (v : Value) → base + length vs ≤ r →
    Temporaries regs base vs → Temporaries (put regs r v) base vs
temporaries_put regs base _ r v le Temporaries.none = Temporaries.none
temporaries_put regs base _ r v le (Temporaries.one w vs h ts) =
    Temporaries.one w vs (put_other regs r v (base + length vs) (omega arith) ∙ h) (temporaries_put regs base vs r v (omega arith) ts)

-- ---- what the machine keeps of the source, while values are computed

pub record Fits (cells : List Value) (regs : Registers) (env : Environment) (names : List StrId) (temps : List Value) : Type 0 where
  pub locals : Locals cells regs env names
  pub temporaries : Temporaries regs (length names) temps

-- one more temporary, in the first free register
pub fits_push : (cells : List Value) (regs : Registers) (env : Environment) (names : List StrId) (temps : List Value) (to : ℕ) (v : Value)
    → length names + length temps ≡ to → Fits cells regs env names temps → Fits cells (put regs to v) env names (v ∷ temps)
fits_push cells regs env names temps to v e f = record {
  locals = locals_put cells regs env names to v (omega (arith, e)) f.locals;
  temporaries = Temporaries.one v temps (ap (put regs to v) e ∙ put_same regs to v)
      (temporaries_put regs (length names) temps to v (omega (arith, e)) f.temporaries);
}

newest_at : (regs : Registers) (base : ℕ) (v : Value) (vs : List Value) → Temporaries regs base (v ∷ vs) →
    (regs (base + length vs) ≡ v) × Temporaries regs base vs
newest_at regs base v vs (Temporaries.one _ _ h ts) = (h, ts)

pub fits_pop : (cells : List Value) (regs : Registers) (env : Environment) (names : List StrId) (v : Value) (temps : List Value) →
    Fits cells regs env names (v ∷ temps) → Fits cells regs env names temps
fits_pop cells regs env names v temps f = record { locals = f.locals; temporaries = (newest_at regs (length names) v temps f.temporaries).1 }

pub fits_newest : (cells : List Value) (regs : Registers) (env : Environment) (names : List StrId) (v : Value) (temps : List Value) →
    Fits cells regs env names (v ∷ temps) → regs (length names + length temps) ≡ v
fits_newest cells regs env names v temps f = (newest_at regs (length names) v temps f.temporaries).0

-- ---- the variables of a block

-- variables that were declared since
pub data Since : Environment → List StrId → Environment → List StrId → Type 0 where
  unchanged : (env : Environment) (names : List StrId) → Since env names env names
  one : (x : StrId) (c : ℕ) (env : Environment) (names : List StrId) (env0 : Environment) (names0 : List StrId) →
      Since env names env0 names0 → Since ((x, c) ∷ env) (x ∷ names) env0 names0

abbrev TailFits : List Value → Registers → Environment → List StrId → Type 0
TailFits cells regs (v ∷ env) (x ∷ names) = Locals cells regs env names
TailFits cells regs _ _ = Unit {0}

locals_tail : (cells : List Value) (regs : Registers) (env : Environment) (names : List StrId) → Locals cells regs env names → TailFits cells regs env names
locals_tail cells regs _ _ Locals.none = tt
locals_tail cells regs _ _ (Locals.one x c env names lt same apart ls) = ls

-- they are forgotten
pub locals_before : (cells : List Value) (regs : Registers) (env : Environment) (names : List StrId) (env0 : Environment)
    (names0 : List StrId) → Since env names env0 names0 → Locals cells regs env names → Locals cells regs env0 names0
locals_before cells regs _ _ _ _ (Since.unchanged env names) ls = ls
locals_before cells regs _ _ _ _ (Since.one x c env names env0 names0 s) ls =
    locals_before cells regs env names env0 names0 s (locals_tail cells regs ((x, c) ∷ env) (x ∷ names) ls)

pub since_on : (env2 : Environment) (names2 : List StrId) (env1 : Environment) (names1 : List StrId) (env0 : Environment)
    (names0 : List StrId) → Since env2 names2 env1 names1 → Since env1 names1 env0 names0 → Since env2 names2 env0 names0
since_on _ _ _ _ env0 names0 (Since.unchanged env names) t = t
since_on _ _ env1 names1 env0 names0 (Since.one x c env names _ _ s) t =
    Since.one x c env names env0 names0 (since_on env names env1 names1 env0 names0 s t)
