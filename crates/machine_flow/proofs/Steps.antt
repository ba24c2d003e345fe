-- One change of the function that runs after another, and the rows that they make.
use Rattle.std.proofs.Common.{◌≡◌, ℕ, suc, ◌+◌, ℤ, pos, negsuc, Bool, true, false, List, [], ◌∷◌, refl, sym, ◌∙◌, ap, subst}
use Rattle.value_model.specs.Values as m
use Rattle.value_model.specs.declared.event.Reply.{Reply}
use Rattle.luau_tables.specs.declared.globals.LibWorld.{LibWorld}
use Rattle.call_frames.specs.declared.frame.ReturnKind.{ReturnKind}
use Rattle.call_frames.specs.Stacks.{StackView}
use Rattle.machine_meaning.specs.States as machine
use Rattle.machine_meaning.specs.States.{Run, Inside, State}
use Rattle.machine_meaning.specs.Moves.{Row, inside, on, go, branch}
use Rattle.machine_meaning.specs.Effects.{receive, with_generator}
use Rattle.machine_code.specs.declared.code.Code.{Code}
use Rattle.machine_world.specs.Functions.{purpose_of}
use Rattle.machine_world.specs.Parts.{Becomes, changed, awake, part}
use Rattle.machine_world.specs.Rows.{row_in, Makes, takes, place_here}
use Rattle.machine_world.specs.Sound.{Runs, WaitsFor}
use Rattle.machine_world.proofs.Delivering.{changed_twice}
use Rattle.machine_world.proofs.Here.{Here, here, row_here, row_leads, waits_here}
use Rattle.machine_flow.specs.Flow.{gone}

-- what is looked at is the frames alone
pub runs_same : (s s' : StackView) → s'.frames ≡ s.frames → Runs s → Runs s'
runs_same s s' e h = subst (λ fs. Runs (record s' { frames = fs })) (sym e) h

pub then : (w w1 w2 : LibWorld) (code code1 : Code) (s s1 s2 : StackView) (g h : Inside → Inside) → code1 ≡ code → Becomes (changed g) w code s w1 s1 →
    Becomes (changed h) w1 code1 s1 w2 s2 → Becomes (changed (λ i. h (g i))) w code s w2 s2
then w w1 w2 code code1 s s1 s2 g h e one two = λ x replies.
    let next : Becomes (changed h) w1 code s1 w2 s2 = subst (λ c. Becomes (changed h) w1 c s1 w2 s2) e two in
    next x replies ∙ ap (changed h) (one x replies) ∙ changed_twice h g (part w code s x replies)

-- a row that goes on at a place behind a change
pub row_on : (w w' : LibWorld) (code : Code) (s s' : StackView) (r : Row) (g : Inside → Inside) (next : ℕ) → Runs s →
    Becomes (changed (λ i. gone next (g i))) w code s w' s' →
    ((replies : List Reply) (h : Here w code s replies) → r h.frame h.others h.world ≡ on (go next) (g (inside h.frame h.world)) h.others) →
    Makes r w code s w' s'
row_on w w' code s s' r g next runs becomes same = row_leads w w' code s s' r Run (changed (λ i. gone next (g i))) runs becomes same

-- what waits so is given values
pub receives : {w : LibWorld} {code : Code} {s : StackView} {replies : List Reply} (h : Here w code s replies) (kind : ReturnKind) (vs : List m.Value) → WaitsFor s kind → takes vs h.frame h.others h.world ≡ receive (purpose_of w.names kind) vs h.frame h.others h.world
receives h kind vs waits = ap (λ p. receive p vs h.frame h.others h.world) (waits_here h kind waits)

-- a row that does what another does behind a change
pub row_behind : (w w1 w' : LibWorld) (code : Code) (s s1 s' : StackView) (r q : Row) (g : Inside → Inside) → Runs s → Becomes (changed g) w code s w1 s1 → Makes q w1 code s1 w' s' →
    ((replies : List Reply) (h : Here w code s replies) → r h.frame h.others h.world ≡ on q (g (inside h.frame h.world)) h.others) → Makes r w code s w' s'
row_behind w w1 w' code s s1 s' r q g runs becomes makes same = λ replies.
    let h = here w code s replies runs in
    row_here h r
    ∙ same replies h
    ∙ sym (ap (λ (t : State). row_in q t.functions t.world) (becomes Run replies ∙ ap (changed g) (h.is Run)))
    ∙ makes replies

-- what the function waits for is not looked at by a jump
pub branch_awake : (b : Bool) (by : ℤ) (next : ℕ) (f : machine.Frame) (fs : List machine.Frame) (v : machine.World) →
    branch b by next (awake (inside f v)).frame fs v ≡ branch b by next f fs v
branch_awake true (pos k) next f fs v = refl
branch_awake true (negsuc k) next f fs v = refl
branch_awake false by next f fs v = refl

-- the place stays where nothing but what the function waits for changes
pub place_awake : (w : LibWorld) (code : Code) (s s1 : StackView) → Runs s → Runs s1 → Becomes (changed awake) w code s w s1 → place_here s1 ≡ place_here s
place_awake w code s s1 runs runs1 becomes =
    let h = here w code s [] runs in
    let k = here w code s1 [] runs1 in
    sym k.place ∙ ap place_of (sym (k.is Run) ∙ becomes Run [] ∙ ap (changed awake) (h.is Run)) ∙ h.place
  where
    place_in : List machine.Frame → ℕ
    place_in [] = 0
    place_in (f ∷ fs) = f.place

    place_of : State → ℕ
    place_of t = place_in t.functions

-- ---- writes leave the place

pub set_place : (r : ℕ) (v : m.Value) (i : Inside) → (machine.set r v i).frame.place ≡ i.frame.place
set_place r v i = by (i.frame.registers r)
  where
    by : (reg : machine.Register) → (machine.write reg r v i).frame.place ≡ i.frame.place
    by (machine.Val u) = refl
    by (machine.Open c) = refl

pub all_place : (r : ℕ) (vs : List m.Value) (i : Inside) → (machine.set_all r vs i).frame.place ≡ i.frame.place
all_place r [] i = refl
all_place r (v ∷ vs) i = all_place (suc r) vs (machine.set r v i) ∙ set_place r v i

pub three_place : (a : ℕ) (g s c : m.Value) (i : Inside) → (with_generator a g s c i).frame.place ≡ i.frame.place
three_place a g s c i =
    set_place (a + 2) c (machine.set (a + 1) s (machine.set a g i)) ∙ set_place (a + 1) s (machine.set a g i) ∙ set_place a g i
