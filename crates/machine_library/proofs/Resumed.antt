-- A library function that asked for a text goes on with it.
use Rattle.std.proofs.Common.{◌≡◌, List, [], ◌∷◌, map, reverse, Option, Some, None, IsSomeAnd, refl, sym, ◌∙◌, ap, subst}
use Rattle.value_model.specs.Library as library
use Rattle.value_model.specs.Parts.{meant}
use Rattle.value_model.specs.Store.{here, place_of_running}
use Rattle.value_model.specs.Values as m
use Rattle.value_model.specs.Waits as wait
use Rattle.value_model.specs.Waits.{Wait, Waits, Given, Asks, Elsewise, first_of, rest_of, waiting, innermost as innermost_wait, leave}
use Rattle.value_model.specs.Waiting.{wait as waited, by_library, given, first_value}
use Rattle.value_model.specs.declared.event.Reply.{Reply}
use Rattle.value_model.specs.declared.value.Value.{Value}
use Rattle.value_model.specs.declared.waiting.Continue.{Continue}
use Rattle.luau_tables.specs.Answers.{Answered, meant_continue}
use Rattle.luau_tables.specs.Part.{place_of_thread}
use Rattle.luau_tables.specs.Part as parts
use Rattle.luau_tables.specs.Worlds.{Keeps, store_in}
use Rattle.luau_tables.specs.declared.answer.LibAnswer.{LibAnswer}
use Rattle.luau_tables.specs.declared.globals.LibWorld.{LibWorld}
use Rattle.std.specs.Prelude.{option_map}
use Rattle.call_frames.specs.declared.frame.Frame.{Frame}
use Rattle.call_frames.specs.declared.frame.ReturnKind.TheVariants.{Library}
use Rattle.call_frames.specs.Stacks.{StackView}
use Rattle.call_frames.specs.Cells.{innermost, outer}
use Rattle.call_frames.proofs.Closing.{split_last}
use Rattle.op_words.specs.Chunks.{ChunkOf}
use Rattle.machine_flow.specs.Flow.{first}
use Rattle.machine_meaning.specs.States as machine
use Rattle.machine_meaning.specs.States.{State, World, Hand}
use Rattle.machine_meaning.specs.Calls.{decided, hand, is_function}
use Rattle.machine_meaning.specs.Moves.{store_of, with_store}
use Rattle.machine_meaning.specs.Steps.{step}
use Rattle.machine_code.specs.declared.code.Code.{Code}
use Rattle.machine_world.specs.Functions.{wait_of, wait_in}
use Rattle.machine_world.specs.Parts.{part, over, waits_in, Becomes}
use Rattle.machine_world.specs.Sound.{IsMachine, IsLibrary, LibraryWaitsFor}
use Rattle.machine_world.proofs.Calling.{reverse_last}
use Rattle.machine_library.specs.Leads.{KnowsImports, Leads, IsText, WaitsForText}
use Rattle.machine_library.proofs.Kept.{part_kept, knows}
use Rattle.machine_library.proofs.Leading.{leads_of, decided_by, lists_there, runs_on}

-- ---- what waits innermost

some_frame : (q : Option Frame) (P : Frame → Type 0) → IsSomeAnd q P → (f : Frame) × (q ≡ Some f) × P f
some_frame None P h = absurd h
some_frame (Some f) P h = (f, refl, h)

asks_last : (w : LibWorld) (s : StackView) (rest : Continue) → LibraryWaitsFor s (Library rest) →
    map (wait_of w.names) (reverse s.frames) ≡ Asks (meant_continue w.names rest) ∷ map (wait_of w.names) (reverse (outer s))
unfolding meant_continue
asks_last w s rest h =
    let k = some_frame (innermost s) (λ f. IsLibrary f × (f.kind ≡ Library rest)) h in
    let f = k.0 in
    let is : wait_of w.names f ≡ Asks (meant_continue w.names rest) =
    ap (λ q. wait_in w.names q f.kind) k.2.0 ∙ ap (λ r. wait_in w.names None r) k.2.1 in
    ap (map (wait_of w.names)) (reverse_last s.frames (outer s) f (split_last s.frames f k.1))
    ∙ ap (λ x. x ∷ map (wait_of w.names) (reverse (outer s))) is

-- the main function's own run goes on
place_none : (w : LibWorld) (s : StackView) → IsMachine w s → here (store_in w) ≡ 0
unfolding parts.store_of
place_none w s is = ap (λ r. place_of_running (option_map place_of_thread r)) is.main

waiting_is : (w : LibWorld) (s : StackView) (rest : Continue) → IsMachine w s → LibraryWaitsFor s (Library rest) →
    waiting (waits_in w s.frames) (here (store_in w)) ≡ Asks (meant_continue w.names rest) ∷ map (wait_of w.names) (reverse (outer s))
waiting_is w s rest is h = ap (waiting (waits_in w s.frames)) (place_none w s is) ∙ asks_last w s rest h

-- one that waits so waits for a text
pub waits_for_text : (s : StackView) (rest : Continue) → LibraryWaitsFor s (Library rest) → WaitsForText s
waits_for_text s rest h = by (innermost s) h
  where
    by : (q : Option Frame) → IsSomeAnd q (λ (f : Frame). IsLibrary f × (f.kind ≡ Library rest)) → IsSomeAnd q (λ (f : Frame). IsLibrary f × IsText f.kind)
    by None h = h
    by (Some f) h = (h.0, subst IsText (sym h.1) tt)

-- ---- the values come to it

-- over plain variables
taken : (chunk : ChunkOf) (ws : List Wait) (vs : List m.Value) (fs : List machine.Frame) (u : World) (c : wait.Continue) → waiting u.waits (here (store_of u)) ≡ Asks c ∷ ws →
    hand chunk (is_function (innermost_wait u.waits (store_of u))) vs fs u ≡ decided chunk (by_library (library.go_on c (first_value vs) (store_of u)) (leave u.waits (store_of u)) (store_of u)) fs (record u { waits = leave u.waits (store_of u) })
unfolding waited
taken chunk ws vs fs u c is =
    ap (λ l. hand chunk (is_function (first_of l)) vs fs u) is
    ∙ ap (λ l. decided chunk (given l vs u.waits (store_of u)) fs u) is

first_meant : (texts : List m.Bytes) (vs : List Value) → meant texts (first vs) ≡ first_value (map (meant texts) vs)
unfolding meant
first_meant texts [] = refl
first_meant texts (v ∷ vs) = refl

pub led_on : (chunk : ChunkOf) (w w1 w' : LibWorld) (code : Code) (s s1 : StackView) (replies : List Reply) (rest : Continue) (v : Value) (values rs rs' : List Value) (a : LibAnswer) →
    IsMachine w s → LibraryWaitsFor s (Library rest) → w1.names ≡ w.names → Becomes over w code s w1 s1 → Keeps w1 w' → IsMachine w1 s1 → KnowsImports w1.names code → v ≡ first values →
    (h : Answered w1 w' rs rs' a Elsewise (library.go_on (meant_continue w1.names rest) (meant w1.names v) (store_in w1))) →
    Leads (step chunk (part w code s (Hand (map (meant w.names) values)) replies)) a h.given w' code s1 replies
unfolding part
led_on chunk w w1 w' code s s1 replies rest v values rs rs' a is waits names becomes keeps sound known from h =
    let vs = map (meant w.names) values in
    let t = part w code s machine.Run replies in
    let fs : List machine.Frame = t.functions in
    let u : World = t.world in
    let t1 = part w1 code s1 machine.Run replies in
    let fs1 : List machine.Frame = t1.functions in
    let u1 : World = t1.world in
    let c : wait.Continue = meant_continue w.names rest in
    let row = library.go_on c (first_value vs) (store_of u) in
    let same : t1 ≡ over t = becomes machine.Run replies in
    let st : store_in w1 ≡ store_in w = ap (λ (t : State). store_of t.world) same in
    let first_is : meant w1.names v ≡ first_value vs = ap (λ l. meant l v) names ∙ ap (meant w.names) from ∙ first_meant w.names values in
    let row_is : library.go_on (meant_continue w1.names rest) (meant w1.names v) (store_in w1) ≡ row =
    ap (λ l. library.go_on (meant_continue l rest) (meant w1.names v) (store_in w1)) names
    ∙ ap (λ x. library.go_on c x (store_in w1)) first_is
    ∙ ap (λ s. library.go_on c (first_value vs) s) st in
    leads_of (step chunk (part w code s (Hand vs) replies)) a h.given w' code s1 replies fs1 (with_store (store_in w') u1) (store_in w1) (store_in w')
    (λ x. part_kept w1 w' code s1 x replies keeps sound (knows w1 code s1 sound known)) h.stays
    (taken chunk (map (wait_of w.names) (reverse (outer s))) vs fs u c (waiting_is w s rest is waits)
    ∙ sym (ap (λ (t : State). decided chunk (by_library row t.world.waits (store_of t.world)) t.functions t.world) same)
    ∙ ap (λ r. decided chunk (by_library r u1.waits (store_of u1)) fs1 u1) (sym (h.meant ∙ row_is))
    ∙ decided_by chunk w'.names Elsewise h.given (store_in w') u1.waits fs1 u1 (lists_there w1 w' s1 keeps) (runs_on w1 w' keeps) a h.stays)
