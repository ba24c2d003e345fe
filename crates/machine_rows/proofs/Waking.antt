-- A function that waited goes on: the values of a call are taken.
use Rattle.std.proofs.Common.{◌≡◌, ℕ, ◌<◌, List, [], ◌∷◌, ◌++◌, map, get_or, Some, None, IsSomeAnd, slice_get, refl, sym, ◌∙◌, ap, subst, arith}
use Rattle.std.specs.List.{AllByRecursion}
use Rattle.value_model.specs.Parts.{meant}
use Rattle.value_model.specs.Values as m
use Rattle.value_model.specs.declared.event.Reply.{Reply}
use Rattle.value_model.specs.declared.value.Value.{Value}
use Rattle.value_model.specs.declared.value.Value.TheVariants as value
use Rattle.luau_tables.specs.Worlds.{MayUseIn}
use Rattle.luau_tables.specs.declared.globals.LibWorld.{LibWorld}
use Rattle.luau_tables.proofs.Sameness.{nil_is}
use Rattle.call_frames.specs.declared.frame.Frame.{Frame}
use Rattle.call_frames.specs.declared.frame.ReturnKind.{ReturnKind}
use Rattle.call_frames.specs.declared.frame.ReturnKind.TheVariants.{Idle}
use Rattle.call_frames.specs.Stacks.{StackView}
use Rattle.call_frames.specs.Cells.{innermost, outer}
use Rattle.call_frames.specs.Cells as opens
use Rattle.call_frames.proofs.Closing.{split_last, last_got}
use Rattle.call_frames.proofs.Innermost.{replaced, with_innermost_is}
use Rattle.op_words.specs.Chunks.{ChunkOf}
use Rattle.machine_meaning.specs.States.{Focus, Run, State}
use Rattle.machine_meaning.specs.Moves.{Row, now, state, first, waits_for}
use Rattle.machine_meaning.specs.Steps.{step}
use Rattle.machine_code.specs.declared.code.Code.{Code}
use Rattle.machine_world.specs.Functions.{purpose_of}
use Rattle.machine_world.specs.Parts.{Becomes, changed}
use Rattle.machine_world.specs.Rows.{row_in}
use Rattle.machine_world.specs.Sound.{IsLuau, Runs, GoesOn, HasRegister}
use Rattle.machine_world.proofs.Frames.{inner, of_frame}
use Rattle.machine_world.proofs.Here.{Here, here, row_here}
use Rattle.machine_rows.specs.Leading.{expects, ComesTo, Does}
use Rattle.machine_rows.specs.Texts.{HasTextsOfKind, KnowsTexts}
use Rattle.machine_rows.specs.declared.next.Next.{Next}
use Rattle.machine_rows.proofs.NamesFollowed.{comes_behind}

-- ---- the innermost frame with another kind

abbrev with_kind : ReturnKind → Frame → Frame
with_kind kind f = record f { kind = kind }

frames_waiting : (s : StackView) (kind : ReturnKind) (f : Frame) → innermost s ≡ Some f → (opens.waiting kind s).frames ≡ outer s ++ with_kind kind f ∷ []
frames_waiting s kind f e =
    sym (ap (λ (t : StackView). t.frames) (with_innermost_is (with_kind kind) s f e)) ∙ replaced s.frames f (with_kind kind f) e

innermost_waiting : (s : StackView) (kind : ReturnKind) (f : Frame) → innermost s ≡ Some f → innermost (opens.waiting kind s) ≡ Some (with_kind kind f)
innermost_waiting s kind f e =
    last_got (opens.waiting kind s).frames (outer s) (with_kind kind f) (frames_waiting s kind f e)

-- what holds of it
pub of_waiting : (s : StackView) (kind : ReturnKind) (P Q : Frame → Type 0) → Runs s → ((f : Frame) → P f → Q (record f { kind = kind })) →
    IsSomeAnd (innermost s) P → IsSomeAnd (innermost (opens.waiting kind s)) Q
of_waiting s kind P Q runs move h =
    let i = inner s runs in
    subst (λ q. IsSomeAnd q Q) (sym (innermost_waiting s kind i.frame i.is)) (move i.frame (of_frame s P i.frame i.is h))

pub goes_woken : (s : StackView) → Runs s → GoesOn (opens.waiting Idle s)
goes_woken s runs = of_waiting s Idle IsLuau (λ f. IsLuau f × (f.kind ≡ Idle)) runs (λ f h. (h, refl)) runs

pub has_woken : (s s' : StackView) (r : ℕ) → Runs s → s' ≡ opens.waiting Idle s → HasRegister s r → HasRegister s' r
has_woken s s' r runs e h =
    subst (λ t. HasRegister t r) (sym e)
    (of_waiting s Idle (λ f. IsLuau f × (r < f.registers)) (λ f. IsLuau f × (r < f.registers)) runs (λ f h. h) h)

-- ---- texts

all_front : {X : Type 0} (P : X → Type 0) (xs : List X) (x y : X) → AllByRecursion P (xs ++ x ∷ []) → P y → AllByRecursion P (xs ++ y ∷ [])
all_front P [] x y h p = (p, tt)
all_front P (z ∷ xs) x y h p = (h.0, all_front P xs x y h.1 p)

pub knows_woken : (w : LibWorld) (code code' : Code) (s s' : StackView) → Runs s → s' ≡ opens.waiting Idle s → code' ≡ code → KnowsTexts w code s → KnowsTexts w code' s'
knows_woken w code code' s s' runs e same known =
    let i = inner s runs in
    let f = i.frame in
    let frames : s'.frames ≡ outer s ++ with_kind Idle f ∷ [] = ap (λ (t : StackView). t.frames) e ∙ frames_waiting s Idle f i.is in
    subst (λ k. KnowsTexts w k s') (sym same)
    (record {
      frames =
          subst (AllByRecursion (λ (f : Frame). HasTextsOfKind w.names f.kind)) (sym frames)
          (all_front (λ (f : Frame). HasTextsOfKind w.names f.kind) (outer s) f (with_kind Idle f)
          (subst (AllByRecursion (λ (f : Frame). HasTextsOfKind w.names f.kind)) (split_last s.frames f i.is) known.frames) tt);
      imports = known.imports;
    })

-- ---- the first value

pub first_meant : (texts : List m.Bytes) (vs : List Value) → first (map (meant texts) vs) ≡ meant texts (get_or vs 0 value.Nil)
first_meant texts [] = sym (nil_is texts)
first_meant texts (v ∷ vs) = refl

pub first_use : (w : LibWorld) (vs : List Value) (v : Value) → v ≡ get_or vs 0 value.Nil → AllByRecursion (MayUseIn w) vs → MayUseIn w v
first_use w vs v e h = subst (MayUseIn w) (sym e) (by vs h)
  where
    by : (vs : List Value) → AllByRecursion (MayUseIn w) vs → MayUseIn w (get_or vs 0 value.Nil)
    by [] h = (tt, tt)
    by (v ∷ vs) h = h.0

pub first_some : (vs : List Value) (v : Value) → Some v ≡ slice_get vs 0 → v ≡ get_or vs 0 value.Nil
first_some [] v e = absurd (cc)
first_some (u ∷ vs) v e = cc

pub first_none : (vs : List Value) → None ≡ slice_get vs 0 → value.Nil ≡ get_or vs 0 value.Nil
first_none [] e = refl
first_none (u ∷ vs) e = absurd (cc)

-- ---- rows

-- The values of a call lead to something else that is to be done, whose row does not look at what is waited for
pub does_taken : (chunk : ChunkOf) (w w' : LibWorld) (code : Code) (s s1 s' : StackView) (kind : ReturnKind) (r q : Row) (x : Focus) (n : ℕ) (done : Next) → Runs s →
    Becomes (changed (expects (purpose_of w.names Idle))) w code s w s1 →
    ((replies : List Reply) (h : Here w code s replies) → r h.frame h.others h.world ≡ now x h.frame h.others h.world) →
    ((replies : List Reply) (h : Here w code s replies) → step chunk (state x h.frame h.others h.world) ≡ q (waits_for (purpose_of w.names Idle) h.frame) h.others h.world) →
    Does chunk q w code s1 n done w' s' → Does chunk r w code s n done w' s'
unfolding Does
does_taken chunk w w' code s s1 s' kind r q x n done runs becomes leads acts does = λ replies.
    let h = here w code s replies runs in
    comes_behind chunk _ 0 n n (state x h.frame h.others h.world) done w' code s' replies (row_here h r ∙ leads replies h) (omega arith)
    (subst (λ m. ComesTo chunk m n done w' code s' replies)
    (ap (λ (t : State). row_in q t.functions t.world) (becomes Run replies ∙ ap (changed (expects (purpose_of w.names Idle))) (h.is Run)) ∙ sym (acts replies h))
    (does replies))
