-- The move of the function that runs is the row of its instruction.
use Rattle.std.proofs.Common.{◌≡◌, ℕ, zero, suc, ℤ, pos, negsuc, Bool, true, false, List, Result, Ok, Err, refl, sym, ◌∙◌, ap, subst, arith, nat_le}
use Rattle.std.proofs.lemmas.Bool.Decides.{nat_tests}
use Rattle.value_model.specs.Parts.{meant, meant_error}
use Rattle.value_model.specs.Values as m
use Rattle.value_model.specs.declared.value.Value.TheVariants as value
use Rattle.value_model.specs.declared.event.Reply.{Reply}
use Rattle.luau_tables.specs.declared.globals.LibWorld.{LibWorld}
use Rattle.call_frames.specs.Stacks.{StackView}
use Rattle.op_words.specs.declared.insn.Insn.{Insn}
use Rattle.op_words.specs.declared.insn.Insn.TheVariants.{Nop, JumpBack, ForNLoop, ForGLoop}
use Rattle.op_words.specs.Decoding.{insn_at}
use Rattle.op_words.specs.Chunks.{ChunkOf, ProtoOf}
use Rattle.machine_meaning.specs.Chunks.{proto_at}
use Rattle.machine_meaning.specs.Needs.{is_known}
use Rattle.machine_meaning.specs.States.{Run, Charged, Focus}
use Rattle.machine_meaning.specs.Moves.{Row, Step}
use Rattle.machine_meaning.specs.Effects.{charged}
use Rattle.machine_meaning.specs.Instructions.{row}
use Rattle.machine_meaning.specs.Steps.{step, rows, act, act_charged, code_of}
use Rattle.machine_code.specs.declared.code.Code.{Code}
use Rattle.machine_world.specs.Parts.{part}
use Rattle.machine_world.specs.Rows.{row_in, Makes, MakesTo, MakesCharged}
use Rattle.machine_world.specs.Sound.{Runs}
use Rattle.machine_world.proofs.Here.{Here, here, row_here}
use Rattle.machine_flow.specs.Counts.{Comes}
use Rattle.machine_flow.specs.declared.counts.Failure.{Failure}
use Rattle.machine_flow.specs.declared.counts.Failure.TheVariants as failure
use Rattle.machine_rows.specs.Leading.{goes, ends, ComesTo, Does}
use Rattle.machine_rows.specs.declared.next.Next.{Next}
use Rattle.machine_rows.specs.declared.next.Next.TheVariants.{Continues, Gives, Calls, Fails, Stops}
use Rattle.machine_steps.specs.Courses.{Course, Leads, Untold, Reaches, ReachesSo, is, moves, charges, Executes, course_next, next_of}
use Rattle.machine_steps.specs.Groups.{is_still, is_call}
use Rattle.machine_steps.specs.Ready.{StandsAt}

step_row : (chunk : ChunkOf) (p : ProtoOf) (w : LibWorld) (code : Code) (s : StackView) (insn : Insn) (next : ℕ) (replies : List Reply) → Runs s →
    StandsAt chunk p w code s insn next →
    step chunk (part w code s Run replies) ≡ row_in (row chunk p.code insn next) (part w code s Run replies).functions (part w code s Run replies).world
step_row chunk p w code s insn next replies runs stands =
    let h = here w code s replies runs in
    ap (step chunk) (h.is Run)
    ∙ ap (λ o. rows chunk Run (code_of o) h.frame h.others h.world) (ap (proto_at chunk) h.proto ∙ stands.there)
    ∙ ap (λ place. act chunk p.code (insn_at p.code place) h.frame h.others h.world) h.place
    ∙ ap (λ o. act chunk p.code o h.frame h.others h.world) stands.read
    ∙ sym (row_here h (row chunk p.code insn next))

-- also once it has charged a turn
pub step_charged : (chunk : ChunkOf) (p : ProtoOf) (w : LibWorld) (code : Code) (s : StackView) (insn : Insn) (next : ℕ) (replies : List Reply) → Runs s →
    StandsAt chunk p w code s insn next →
    step chunk (part w code s Charged replies) ≡ row_in (charged insn next) (part w code s Run replies).functions (part w code s Run replies).world
step_charged chunk p w code s insn next replies runs stands =
    let h = here w code s replies runs in
    ap (step chunk) (h.is Charged)
    ∙ ap (λ o. rows chunk Charged (code_of o) h.frame h.others h.world) (ap (proto_at chunk) h.proto ∙ stands.there)
    ∙ ap (λ place. act_charged (insn_at p.code place) h.frame h.others h.world) h.place
    ∙ ap (λ o. act_charged o h.frame h.others h.world) stands.read
    ∙ sym (row_here h (charged insn next))

-- so what a row comes to is what the instruction comes to
pub executes : (chunk : ChunkOf) (p : ProtoOf) (w w' : LibWorld) (code : Code) (s s' : StackView) (insn i : Insn) (next n : ℕ) (c : Course) (b : Bool) →
    insn ≡ i → charges i ≡ b → Runs s → StandsAt chunk p w code s insn next →
    ((replies : List Reply) → ReachesSo b chunk (row_in (row chunk p.code i next) (part w code s Run replies).functions (part w code s Run replies).world) n c w' code s' replies) →
    Executes chunk insn w code s n c w' s'
unfolding Executes
executes chunk p w w' code s s' insn i next n c b same turn runs stands reaches = λ replies.
    subst (λ b. ReachesSo b chunk (step chunk (part w code s Run replies)) n c w' code s' replies) (sym (ap charges same ∙ turn))
    (subst (λ m. ReachesSo b chunk m n c w' code s' replies)
    (sym (step_row chunk p w code s insn next replies runs stands
    ∙ ap (λ j. row_in (row chunk p.code j next) (part w code s Run replies).functions (part w code s Run replies).world) same))
    (reaches replies))

-- a row that goes on
pub executes_made : (chunk : ChunkOf) (p : ProtoOf) (w w' : LibWorld) (code : Code) (s s' : StackView) (insn i : Insn) (next : ℕ) (x : Focus) → insn ≡ i →
    charges i ≡ false → Runs s → StandsAt chunk p w code s insn next → MakesTo (row chunk p.code i next) w code s x w' s' →
    Executes chunk insn w code s 0 (Leads x) w' s'
executes_made chunk p w w' code s s' insn i next x same turn runs stands makes =
    executes chunk p w w' code s s' insn i next 0 (Leads x) false same turn runs stands (λ replies. goes 0 (makes replies))

-- or charges a turn, and does
pub executes_charged : (chunk : ChunkOf) (p : ProtoOf) (w w' : LibWorld) (code : Code) (s s' : StackView) (insn i : Insn) (next : ℕ) (x : Focus) → insn ≡ i →
    charges i ≡ true → Runs s → StandsAt chunk p w code s insn next → MakesCharged (row chunk p.code i next) w code s x w' s' →
    Executes chunk insn w code s 0 (Leads x) w' s'
executes_charged chunk p w w' code s s' insn i next x same turn runs stands makes =
    executes chunk p w w' code s s' insn i next 0 (Leads x) true same turn runs stands
    (λ replies. record { middle = part w' code s' x replies; charges = makes replies; reaches = is x refl })

-- ---- operations

reaches_next : (chunk : ChunkOf) (m : Step) (n : ℕ) (x : Next) (w : LibWorld) (code : Code) (s : StackView) (replies : List Reply) →
    ComesTo chunk m n x w code s replies → Reaches chunk m n (course_next w.names x) w code s replies
reaches_next chunk m n Continues w code s replies h = h
reaches_next chunk m n (Gives v) w code s replies h = h
reaches_next chunk m n (Calls f args count) w code s replies h = h
reaches_next chunk m n (Fails e) w code s replies h = h
reaches_next chunk m n (Stops stop) w code s replies h = h

pub executes_done : (chunk : ChunkOf) (p : ProtoOf) (w w' : LibWorld) (code : Code) (s s' : StackView) (insn i : Insn) (next n : ℕ) (x : Next) → insn ≡ i →
    charges i ≡ false → Runs s → StandsAt chunk p w code s insn next → Does chunk (row chunk p.code i next) w code s n x w' s' →
    Executes chunk insn w code s n (course_next w'.names x) w' s'
unfolding Does
executes_done chunk p w w' code s s' insn i next n x same turn runs stands does =
    executes chunk p w w' code s s' insn i next n (course_next w'.names x) false same turn runs stands
    (λ replies. reaches_next chunk _ n x w' code s' replies (does replies))

-- of a row that is the same there
pub does_like : (chunk : ChunkOf) (w w' : LibWorld) (code : Code) (s s' : StackView) (r r' : Row) (n : ℕ) (x : Next) → Runs s → Does chunk r' w code s n x w' s' →
    ((replies : List Reply) (h : Here w code s replies) → r h.frame h.others h.world ≡ r' h.frame h.others h.world) → Does chunk r w code s n x w' s'
unfolding Does
does_like chunk w w' code s s' r r' n x runs does same = λ replies.
    let h = here w code s replies runs in
    subst (λ m. ComesTo chunk m n x w' code s' replies) (sym (row_here h r ∙ same replies h ∙ sym (row_here h r'))) (does replies)

-- ---- turns

pub nil_is : (texts : List m.Bytes) → meant texts value.Nil ≡ m.Nil
unfolding meant
nil_is texts = refl

-- an instruction that charges a turn, or none
pub executes_nop : (chunk : ChunkOf) (p : ProtoOf) (w : LibWorld) (code : Code) (s s' : StackView) (insn : Insn) (next : ℕ) (turns : ℤ) → insn ≡ Nop turns →
    is_known insn ≡ true → Runs s → StandsAt chunk p w code s insn next → Makes (row chunk p.code (Nop (pos zero)) next) w code s w s' →
    MakesCharged (row chunk p.code (Nop (pos (suc zero))) next) w code s Run w s' →
    Executes chunk insn w code s 0 (Leads Run) w s'
executes_nop chunk p w code s s' insn next (pos zero) same known runs stands makes charges =
    executes_made chunk p w w code s s' insn (Nop (pos zero)) next Run same refl runs stands makes
executes_nop chunk p w code s s' insn next (pos (suc zero)) same known runs stands makes charges =
    executes_charged chunk p w w code s s' insn (Nop (pos (suc zero))) next Run same refl runs stands charges
executes_nop chunk p w code s s' insn next (pos (suc (suc n))) same known runs stands makes charges =
    let e : nat_le (suc (suc n)) 1 ≡ true = sym (ap is_known same) ∙ known in absurd (grind (arith, nat_tests))
executes_nop chunk p w code s s' insn next (negsuc n) same known runs stands makes charges =
    let e : false ≡ true = sym (ap is_known same) ∙ known in absurd cc

-- what follows the turn of a loop
pub executes_looped : (chunk : ChunkOf) (p : ProtoOf) (w w' : LibWorld) (code : Code) (s s' : StackView) (insn i : Insn) (next n : ℕ) (c : Course) → insn ≡ i →
    charges i ≡ true → Runs s → StandsAt chunk p w code s insn next → MakesCharged (row chunk p.code i next) w code s Charged w s →
    ((replies : List Reply) → Reaches chunk (row_in (charged i next) (part w code s Run replies).functions (part w code s Run replies).world) n c w' code s' replies) →
    Executes chunk insn w code s n c w' s'
executes_looped chunk p w w' code s s' insn i next n c same turn runs stands makes reaches =
    executes chunk p w w' code s s' insn i next n c true same turn runs stands
    (λ replies. record {
      middle = part w code s Charged replies;
      charges = makes replies;
      reaches =
          moves (subst (λ m. Reaches chunk m n c w' code s' replies)
          (sym (step_charged chunk p w code s insn next replies runs stands
          ∙ ap (λ j. row_in (charged j next) (part w code s Run replies).functions (part w code s Run replies).world) same))
          (reaches replies));
    })

-- ---- loops over numbers

reaches_counted : {A : Type 0} (chunk : ChunkOf) (w : LibWorld) (code : Code) (s s' : StackView) (r : Row) (q : Result A Failure) → Comes r w code s q s' →
    (replies : List Reply) → Reaches chunk (row_in r (part w code s Run replies).functions (part w code s Run replies).world) 0 (course_next w.names (next_of q)) w code s' replies
unfolding meant_error
reaches_counted chunk w code s s' r (Ok x) comes replies = goes 0 (comes replies)
reaches_counted chunk w code s s' r (Err (failure.NoNumber b k)) comes replies = goes 0 (comes replies)
reaches_counted chunk w code s s' r (Err (failure.Stop stop)) comes replies = ends 0 (comes replies)

pub executes_begun : {A : Type 0} (chunk : ChunkOf) (p : ProtoOf) (w : LibWorld) (code : Code) (s s' : StackView) (insn i : Insn) (next : ℕ) (q : Result A Failure) →
    insn ≡ i → charges i ≡ false → Runs s → StandsAt chunk p w code s insn next → Comes (row chunk p.code i next) w code s q s' →
    Executes chunk insn w code s 0 (course_next w.names (next_of q)) w s'
executes_begun chunk p w code s s' insn i next q same turn runs stands comes =
    executes chunk p w w code s s' insn i next 0 (course_next w.names (next_of q)) false same turn runs stands
    (reaches_counted chunk w code s s' (row chunk p.code i next) q comes)

pub executes_counted : {A : Type 0} (chunk : ChunkOf) (p : ProtoOf) (w : LibWorld) (code : Code) (s s' : StackView) (insn i : Insn) (next : ℕ) (q : Result A Failure) →
    insn ≡ i → charges i ≡ true → Runs s → StandsAt chunk p w code s insn next → MakesCharged (row chunk p.code i next) w code s Charged w s →
    Comes (charged i next) w code s q s' →
    Executes chunk insn w code s 0 (course_next w.names (next_of q)) w s'
executes_counted chunk p w code s s' insn i next q same turn runs stands makes comes =
    executes_looped chunk p w w code s s' insn i next 0 (course_next w.names (next_of q)) same turn runs stands makes
    (reaches_counted chunk w code s s' (charged i next) q comes)

-- ---- instructions that are not built

-- none of them charges a turn
charges_none : (insn : Insn) → is_still insn ≡ false → is_call insn ≡ false → charges insn ≡ false
charges_none (Nop (pos zero)) still call = refl
charges_none (Nop (pos (suc n))) still call = absurd cc
charges_none (Nop (negsuc n)) still call = refl
charges_none (JumpBack by) still call = absurd cc
charges_none (ForNLoop base by) still call = absurd cc
charges_none (ForGLoop base by variables) still call = absurd cc
charges_none insn still call = refl

pub executes_untold : (chunk : ChunkOf) (p : ProtoOf) (w : LibWorld) (code : Code) (s : StackView) (insn : Insn) (next : ℕ) → is_still insn ≡ false →
    is_call insn ≡ false → Runs s → StandsAt chunk p w code s insn next → Executes chunk insn w code s 0 Untold w s
executes_untold chunk p w code s insn next still call runs stands =
    executes chunk p w w code s s insn insn next 0 Untold false refl (charges_none insn still call) runs stands (λ replies. tt)
