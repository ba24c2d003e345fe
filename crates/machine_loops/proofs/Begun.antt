-- A generic loop is begun by the machine's row.
use Rattle.std.proofs.Common.{◌≡◌, ℕ, ◌+◌, ℤ, true, List, [], ◌∷◌, sym, ◌∙◌, ap, arith}
use Rattle.value_model.specs.Loops as loops
use Rattle.value_model.specs.Parts.{meant, meant_error}
use Rattle.value_model.specs.Values as m
use Rattle.value_model.specs.Waits.{ByLibrary}
use Rattle.value_model.specs.declared.error.RunErr.{RunErr}
use Rattle.value_model.specs.declared.event.Reply.{Reply}
use Rattle.value_model.specs.declared.value.Value.{Value}
use Rattle.value_model.specs.declared.value.Value.TheVariants as value
use Rattle.bounded_runs.specs.Runs.{Goes}
use Rattle.luau_tables.specs.Worlds.{store_in}
use Rattle.luau_tables.specs.declared.globals.LibWorld.{LibWorld}
use Rattle.call_frames.specs.Stacks.{StackView}
use Rattle.op_words.specs.Chunks.{ChunkOf}
use Rattle.op_words.specs.declared.insn.Insn.TheVariants.{ForGPrep}
use Rattle.machine_meaning.specs.States.{Run, Invoke, Fault, Inside, Begins, value_in}
use Rattle.machine_meaning.specs.Moves.{inside, jump, branch}
use Rattle.machine_meaning.specs.Effects.{iterated, with_generator}
use Rattle.machine_meaning.specs.Instructions.{row}
use Rattle.machine_code.specs.declared.code.Code.{Code}
use Rattle.machine_world.specs.Parts.{Becomes, changed, part, read_of, register_value, waits}
use Rattle.machine_world.specs.Rows.{Makes}
use Rattle.machine_world.specs.Sound.{Runs}
use Rattle.machine_world.proofs.Here.{Here, here, row_here, read_here}
use Rattle.machine_flow.proofs.Steps.{row_behind, three_place}
use Rattle.machine_rows.specs.Leading.{goes, Does}
use Rattle.machine_rows.specs.declared.next.Next.TheVariants.{Continues, Calls, Fails}
use Rattle.machine_rows.proofs.NamesFollowed.{does_made}
use Rattle.machine_rows.proofs.Steps.{leads_changed, store_here}

-- the three values that are read, and what a loop over them asks
pub record Asked (w : LibWorld) (code : Code) (s : StackView) (base : ℕ) (asks : loops.Iteration) : Type 0 where
  pub state_at : ℕ
  pub control_at : ℕ
  pub second : state_at ≡ base + 1
  pub third : control_at ≡ state_at + 1
  pub generator : m.Value
  pub state : m.Value
  pub control : m.Value
  pub reads : (replies : List Reply) → generator ≡ read_of m.Nil (register_value base) (part w code s Run replies)
  pub reads_state : (replies : List Reply) → state ≡ read_of m.Nil (register_value state_at) (part w code s Run replies)
  pub reads_control : (replies : List Reply) → control ≡ read_of m.Nil (register_value control_at) (part w code s Run replies)
  pub is : asks ≡ loops.iteration (store_in w) generator state control

module _ (chunk : ChunkOf) (words : List ℕ) (w : LibWorld) (code : Code) (s : StackView) (runs : Runs s) (base : ℕ) (by : ℤ) (next : ℕ) where
  asked_here : (asks : loops.Iteration) → Asked w code s base asks → (replies : List Reply) (h : Here w code s replies)
      → row chunk words (ForGPrep base by) next h.frame h.others h.world ≡ iterated asks base by h.frame h.others h.world
  asked_here asks a replies h =
      let f = h.frame in
      let v = h.world in
      let second : value_in f v (base + 1) ≡ a.state =
      ap (value_in f v) (sym a.second) ∙ sym (read_here h m.Nil (register_value a.state_at) Run a.state (a.reads_state replies)) in
      let two : base + 2 ≡ a.control_at = omega (arith, a.second, a.third) in
      let third : value_in f v (base + 2) ≡ a.control =
      ap (value_in f v) two ∙ sym (read_here h m.Nil (register_value a.control_at) Run a.control (a.reads_control replies)) in
      let first : value_in f v base ≡ a.generator = sym (read_here h m.Nil (register_value base) Run a.generator (a.reads replies)) in
      ap (λ st. iterated (loops.iteration st (value_in f v base) (value_in f v (base + 1)) (value_in f v (base + 2))) base by f h.others v) (sym (store_here h))
      ∙ ap (λ g. iterated (loops.iteration (store_in w) g (value_in f v (base + 1)) (value_in f v (base + 2))) base by f h.others v) first
      ∙ ap (λ u. iterated (loops.iteration (store_in w) a.generator u (value_in f v (base + 2))) base by f h.others v) second
      ∙ ap (λ u. iterated (loops.iteration (store_in w) a.generator a.state u) base by f h.others v) third
      ∙ ap (λ i. iterated i base by f h.others v) (sym a.is)

  pub generator_begins : (s1 s2 : StackView) (g u c : m.Value) (way : ℤ) → way ≡ by → Asked w code s base (loops.Generates g u c)
      → Becomes (changed (with_generator base g u c)) w code s w s1 → Makes (branch true way next) w code s1 w s2
      → Does chunk (row chunk words (ForGPrep base by) next) w code s 0 Continues w s2
  generator_begins s1 s2 g u c way same a becomes makes =
      does_made chunk w w code s s2 (row chunk words (ForGPrep base by) next)
      (row_behind w w w code s s1 s2 (row chunk words (ForGPrep base by) next) (branch true way next) (with_generator base g u c) runs becomes makes (λ replies h.
      let j : Inside = with_generator base g u c (inside h.frame h.world) in
      asked_here (loops.Generates g u c) a replies h
      ∙ ap (λ p. jump by p j.frame h.others j.world) (sym (three_place base g u c (inside h.frame h.world)))
      ∙ ap (λ z. jump z j.frame.place j.frame h.others j.world) (sym same)))

  pub iter_begins : (s1 : StackView) (f v : Value) → Asked w code s base (loops.CallsIter (meant w.names f) (meant w.names v ∷ []))
      → Becomes (changed (waits (Begins base by))) w code s w s1
      → Does chunk (row chunk words (ForGPrep base by) next) w code s 0 (Calls f (v ∷ value.Nil ∷ value.Nil ∷ []) 1) w s1
  unfolding Does
  iter_begins s1 f v a becomes = λ replies.
      let h = here w code s replies runs in
      leads_changed chunk w w code s s1 replies (row chunk words (ForGPrep base by) next) (Invoke ByLibrary (meant w.names f) (meant w.names v ∷ [])) 0
      (changed (waits (Begins base by))) h becomes (asked_here (loops.CallsIter (meant w.names f) (meant w.names v ∷ [])) a replies h)

  pub loop_fails : (e : RunErr) → Asked w code s base (loops.NotIterable (meant_error w.names e))
      → Does chunk (row chunk words (ForGPrep base by) next) w code s 0 (Fails e) w s
  unfolding Does
  loop_fails e a = λ replies.
      let h = here w code s replies runs in
      goes 0 (row_here h (row chunk words (ForGPrep base by) next) ∙ asked_here (loops.NotIterable (meant_error w.names e)) a replies h
      ∙ sym (ap (λ t. Goes [] t) (h.is (Fault (meant_error w.names e)))))
