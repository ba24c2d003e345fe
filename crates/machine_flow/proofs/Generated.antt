-- Loops over what a function gives.
use Rattle.std.proofs.Common.{◌≡◌, ℕ, ◌+◌, ◌-◌, ℤ, pos, ◌+ℤ◌, true, false, List, [], ◌∷◌, ◌++◌, map, length, take, replicate, get_or, refl, sym, ◌∙◌, ap}
use Rattle.value_model.specs.Parts.{meant}
use Rattle.value_model.specs.Values as m
use Rattle.value_model.specs.declared.value.Value.{Value}
use Rattle.value_model.specs.declared.value.Value.TheVariants as value
use Rattle.luau_tables.proofs.Sameness.{nil_is}
use Rattle.machine_meaning.specs.States as machine
use Rattle.machine_meaning.specs.States.{Inside, adjusted, set, set_all}
use Rattle.machine_meaning.specs.Moves.{inside, on, go, first, rest, jump, branch}
use Rattle.machine_meaning.specs.Effects.{turned, back, iterated, with_generator}
use Rattle.value_model.specs.Loops.{Generates}
use Rattle.machine_world.specs.Parts.{awake}
use Rattle.machine_flow.specs.Flow.{ends}
use Rattle.machine_flow.specs.Flow as flow
use Rattle.machine_flow.proofs.Steps.{branch_awake, three_place, set_place, all_place}
use Rattle.machine_flow.proofs.Gathered.{adjusted_is}
use Rattle.machine_flow.proofs.Rows.{goes_back}

-- ---- the first three values

pub first_three : (texts : List m.Bytes) (vs : List Value) →
    (first (map (meant texts) vs) ≡ meant texts (get_or vs 0 value.Nil)) × (first (rest (map (meant texts) vs)) ≡ meant texts (get_or vs 1 value.Nil)) × (first (rest (rest (map (meant texts) vs))) ≡ meant texts (get_or vs 2 value.Nil))
first_three texts [] = (sym (nil_is texts), sym (nil_is texts), sym (nil_is texts))
first_three texts (u ∷ []) = (refl, sym (nil_is texts), sym (nil_is texts))
first_three texts (u ∷ v ∷ []) = (refl, refl, sym (nil_is texts))
first_three texts (u ∷ v ∷ x ∷ vs) = (refl, refl, refl)

-- a loop begins with its jump
pub begun_there : (g s c : m.Value) (base : ℕ) (by : ℤ) (f : machine.Frame) (fs : List machine.Frame) (w : machine.World) →
    iterated (Generates g s c) base by f fs w ≡ on (branch true by 0) (awake (with_generator base g s c (inside f w))) fs
begun_there g s c base by f fs w =
    let j : Inside = with_generator base g s c (inside f w) in
    ap (λ p. jump by p j.frame fs j.world) (sym (three_place base g s c (inside f w))) ∙ sym (branch_awake true by 0 j.frame fs j.world)

-- ---- the values of a turn

pub turned_ends : (texts : List m.Bytes) (vs : List Value) (a x : ℕ) (by : ℤ) (next : ℕ) (f : machine.Frame) (fs : List machine.Frame) (w : machine.World) →
    ends vs ≡ true → turned (map (meant texts) vs) a x by next f fs w ≡ go next f fs w
unfolding meant
turned_ends texts [] a x by next f fs w e = refl
turned_ends texts (value.Nil ∷ vs) a x by next f fs w e = refl
turned_ends texts (value.Bool b ∷ vs) a x by next f fs w e = absurd (cc)
turned_ends texts (value.Num z ∷ vs) a x by next f fs w e = absurd (cc)
turned_ends texts (value.Str s ∷ vs) a x by next f fs w e = absurd (cc)
turned_ends texts (value.Table t ∷ vs) a x by next f fs w e = absurd (cc)
turned_ends texts (value.Closure c ∷ vs) a x by next f fs w e = absurd (cc)
turned_ends texts (value.Native b ∷ vs) a x by next f fs w e = absurd (cc)
turned_ends texts (value.Host h ∷ vs) a x by next f fs w e = absurd (cc)
turned_ends texts (value.Wrap t ∷ vs) a x by next f fs w e = absurd (cc)
turned_ends texts (value.Thread t ∷ vs) a x by next f fs w e = absurd (cc)

-- with its variables, of which the first is the control value too
abbrev pub turned_in : (texts : List m.Bytes) → (base variables : ℕ) → List Value → Inside → Inside
turned_in texts a x vs i = set_all (a + 3) (adjusted x (map (meant texts) vs)) (set (a + 2) (meant texts (flow.first vs)) i)

pub turned_goes : (texts : List m.Bytes) (vs : List Value) (a x : ℕ) (by : ℤ) (next : ℕ) (f : machine.Frame) (fs : List machine.Frame) (w : machine.World) →
    ends vs ≡ false → turned (map (meant texts) vs) a x by next f fs w ≡ on (back by) (turned_in texts a x vs (inside f w)) fs
unfolding meant
turned_goes texts [] a x by next f fs w e = absurd (cc)
turned_goes texts (value.Nil ∷ vs) a x by next f fs w e = absurd (cc)
turned_goes texts (value.Bool b ∷ vs) a x by next f fs w e = refl
turned_goes texts (value.Num z ∷ vs) a x by next f fs w e = refl
turned_goes texts (value.Str s ∷ vs) a x by next f fs w e = refl
turned_goes texts (value.Table t ∷ vs) a x by next f fs w e = refl
turned_goes texts (value.Closure c ∷ vs) a x by next f fs w e = refl
turned_goes texts (value.Native b ∷ vs) a x by next f fs w e = refl
turned_goes texts (value.Host h ∷ vs) a x by next f fs w e = refl
turned_goes texts (value.Wrap t ∷ vs) a x by next f fs w e = refl
turned_goes texts (value.Thread t ∷ vs) a x by next f fs w e = refl

pub turn_there : (texts : List m.Bytes) (vs us : List Value) (control : Value) (a x to : ℕ) (by : ℤ) (next : ℕ) (f : machine.Frame) (fs : List machine.Frame) (w : machine.World) → ends vs ≡ false → us ≡ take x vs ++ replicate (x - length vs) value.Nil → control ≡ flow.first vs → pos to ≡ pos (f.place + 1) +ℤ by → turned (map (meant texts) vs) a x by next f fs w ≡ on (go to) (set_all (a + 3) (map (meant texts) us) (set (a + 2) (meant texts control) (inside f w))) fs
turn_there texts vs us control a x to by next f fs w some is first_is e =
    let j : Inside = set_all (a + 3) (map (meant texts) us) (set (a + 2) (meant texts control) (inside f w)) in
    let place : j.frame.place ≡ f.place = all_place (a + 3) (map (meant texts) us) (set (a + 2) (meant texts control) (inside f w)) ∙ set_place (a + 2) (meant texts control) (inside f w) in
    turned_goes texts vs a x by next f fs w some
    ∙ ap (λ l. on (back by) (set_all (a + 3) l (set (a + 2) (meant texts (flow.first vs)) (inside f w))) fs) (adjusted_is texts x vs ∙ ap (map (meant texts)) (sym is))
    ∙ ap (λ v. on (back by) (set_all (a + 3) (map (meant texts) us) (set (a + 2) (meant texts v) (inside f w))) fs) (sym first_is)
    ∙ goes_back to by j.frame fs j.world (e ∙ ap (λ p. pos (p + 1) +ℤ by) (sym place))
