-- The machine's loop: what the rest of a run gives, the run gives.
use Rattle.std.proofs.Common.{◌≡◌, refl, sym, ap, ◌∙◌, subst, ℕ, suc, ◌<◌, List, [], ◌∷◌, ◌++◌, Some, None, arith}
use Rattle.std.proofs.lemmas.Grind.{flat_map-append}
use Rattle.std.proofs.lemmas.List.{append-nil}
use Rattle.op_words.specs.declared.insn.Insn.{Insn}
use Rattle.op_words.specs.Decoding.{insn_at}
use Rattle.built_values.specs.declared.end.End.{End}
use Rattle.built_values.specs.declared.end.End.TheVariants.{Stuck, Unfinished}
use Rattle.built_values.specs.Runs.{Stamped, Report, Goes, Shows, Charges, Ends, after, run}
use Rattle.built_values.proofs.Together.{Comes}
use Rattle.built_machine.specs.declared.code.Constant.{Constant}
use Rattle.built_machine.specs.States.{State, start}
use Rattle.built_machine.specs.Steps.{Look, Step, row, act, step}
use Rattle.built_machine.specs.Runs.{MachineRun}
use Rattle.built_machine.proofs.Onward.{LeadsOn, row_on}
use Rattle.built_vm.specs.declared.machine.Machine.{Machine}
use Rattle.built_vm.specs.declared.machine.Moved.TheVariants as moved
use Rattle.built_vm.specs.declared.running.Ran.{Ran}
use Rattle.built_vm.specs.Shown.{line_of, lines_of, Shows as ShowsReport}
use Rattle.built_vm.specs.Moves.{registers_of, moved_by, Makes}

-- ---- a move that charges nothing leads on

by_goes : (place to : ℕ) (move : Step) → LeadsOn place move → moved.Goes to ≡ moved_by move → place < to
by_goes place to (Goes ns s) lt e = let same : to ≡ s.place = cc in omega arith
by_goes place to (Shows ns text s) lt e = let same : to ≡ s.place = cc in omega arith
by_goes place to (Charges s) lt e = cc
by_goes place to (Ends ns end) lt e = cc

pub leads_on : (ks : List Constant) (insn : Insn) (place next to : ℕ) (old new : Machine) → place < next → Makes (row ks insn place next (registers_of old.registers)) (moved.Goes to) old new → place < to
leads_on ks insn place next to old new lt m =
    by_goes place to (row ks insn place next (registers_of old.registers)) (row_on place next lt (registers_of old.registers) ks insn) m.leads

-- ---- the run so far

-- the state that the machine is in at a place
abbrev pub state_of : ℕ → Machine → State
state_of place machine = record { place = place; registers = registers_of machine.registers }

-- with so many turns left, what the rest of the run gives, the run gives, and the output has the lines of its events so far
pub record IsOn (words : List ℕ) (ks : List Constant) (turns left place : ℕ) (machine : Machine) : Type 0 where
  pub spent : ℕ
  pub events : List (Stamped (List ℕ))
  pub notes : List Look
  pub output : machine.output.items ≡ lines_of events
  pub rest : (r : Report (List ℕ) Look) → Comes (step words ks) left spent events notes (state_of place machine) r → MachineRun words ks turns r

-- what a run with this end gives
abbrev pub Gives : (words : List ℕ) → List Constant → (turns : ℕ) → Ran → Type 0
Gives words ks turns ran = (r : Report (List ℕ) Look) × MachineRun words ks turns r × ShowsReport ran r

pub starts : (words : List ℕ) (ks : List Constant) (turns : ℕ) (machine : Machine) → machine.output.items ≡ [] → registers_of machine.registers ≡ start.registers → IsOn words ks turns turns 0 machine
starts words ks turns machine e f = record {
  spent = 0;
  events = [];
  notes = [];
  output = e;
  rest = λ r h. subst (λ regs. Comes (step words ks) turns 0 [] [] (record { place = 0; registers = regs }) r) f h;
}

module _ (words : List ℕ) (ks : List Constant) (turns left place : ℕ) (old : Machine) (on : IsOn words ks turns left place old) where
  -- a move is made, and then the rest is
  by_move : (move : Step) → step words ks (state_of place old) ≡ move → (r : Report (List ℕ) Look) → (k : ℕ) × (after move (run (step words ks) k) left on.spent on.events on.notes ≡ Some r) → MachineRun words ks turns r
  by_move move e r h = on.rest r (suc h.0, ap (λ m. after m (run (step words ks) h.0) left on.spent on.events on.notes) e ∙ h.1)

  -- a state that the machine is in
  same_state : (new : Machine) (to : ℕ) (s : State) → to ≡ s.place → registers_of new.registers ≡ s.registers → state_of to new ≡ s
  same_state new to s e f = ap (λ p. record { place = p; registers = registers_of new.registers }) e ∙ ap (λ regs. record { place = s.place; registers = regs }) f

  going : (move : Step) → step words ks (state_of place old) ≡ move → (to : ℕ) (new : Machine) → Makes move (moved.Goes to) old new → IsOn words ks turns left to new
  going (Goes ns s) e to new m =
      let here : to ≡ s.place = let h = m.leads in cc in
      record {
        spent = on.spent;
        events = on.events;
        notes = on.notes ++ ns;
        output = m.output ∙ on.output;
        rest = λ r h. by_move (Goes ns s) e r (subst (λ t. Comes (step words ks) left on.spent on.events (on.notes ++ ns) t r) (same_state new to s here m.registers) h);
      }
  going (Shows ns text s) e to new m =
      let here : to ≡ s.place = let h = m.leads in cc in
      let event : Stamped (List ℕ) = record { turns = on.spent; event = text } in
      record {
        spent = on.spent;
        events = on.events ++ event ∷ [];
        notes = on.notes ++ ns;
        output = m.output ∙ ap (λ out. out ++ line_of text) on.output ∙ ap (λ out. lines_of on.events ++ out) (sym (append-nil (line_of text))) ∙ sym (flat_map-append (λ (e : Stamped (List ℕ)). line_of e.event) on.events (event ∷ []));
        rest = λ r h. by_move (Shows ns text s) e r (subst (λ t. Comes (step words ks) left on.spent (on.events ++ event ∷ []) (on.notes ++ ns) t r) (same_state new to s here m.registers) h);
      }
  going (Charges s) e to new m = let h = m.leads in cc
  going (Ends ns end) e to new m = let h = m.leads in cc

  charging : (move : Step) → step words ks (state_of place old) ≡ move → (fewer to : ℕ) (new : Machine) → left ≡ suc fewer → Makes move (moved.Charges to) old new → IsOn words ks turns fewer to new
  charging (Charges s) e fewer to new n m =
      let here : to ≡ s.place = let h = m.leads in cc in
      record {
        spent = suc on.spent;
        events = on.events;
        notes = on.notes;
        output = m.output ∙ on.output;
        rest = λ r h. by_move (Charges s) e r
            (subst (λ l. (k : ℕ) × (after (Charges s) (run (step words ks) k) l on.spent on.events on.notes ≡ Some r)) (sym n)
            (subst (λ t. Comes (step words ks) fewer (suc on.spent) on.events on.notes t r) (same_state new to s here m.registers) h));
      }
  charging (Goes ns s) e fewer to new n m = let h = m.leads in cc
  charging (Shows ns text s) e fewer to new n m = let h = m.leads in cc
  charging (Ends ns end) e fewer to new n m = let h = m.leads in cc

  spending : (move : Step) → step words ks (state_of place old) ≡ move → (to : ℕ) (new : Machine) → left ≡ 0 → Makes move (moved.Charges to) old new → Gives words ks turns (record { output = new.output; end = Unfinished })
  spending (Charges s) e to new n m =
      let r : Report (List ℕ) Look = record { end = Unfinished; events = on.events; notes = on.notes } in (
        r,
        by_move (Charges s) e r (0, ap (λ l. after (Charges s) (run (step words ks) 0) l on.spent on.events on.notes) n),
        record { output = m.output ∙ on.output; end = refl },
      )
  spending (Goes ns s) e to new n m = let h = m.leads in cc
  spending (Shows ns text s) e to new n m = let h = m.leads in cc
  spending (Ends ns end) e to new n m = let h = m.leads in cc

  ending : (move : Step) → step words ks (state_of place old) ≡ move → (end : End) (new : Machine) → Makes move (moved.Ends end) old new → Gives words ks turns (record { output = new.output; end = end })
  ending (Ends ns end) e found new m =
      let same : found ≡ end = let h = m.leads in cc in
      let r : Report (List ℕ) Look = record { end = end; events = on.events; notes = on.notes ++ ns } in (
        r,
        by_move (Ends ns end) e r (0, refl),
        record { output = m.output ∙ on.output; end = same },
      )
  ending (Goes ns s) e found new m = let h = m.leads in cc
  ending (Shows ns text s) e found new m = let h = m.leads in cc
  ending (Charges s) e found new m = let h = m.leads in cc

  -- ---- after an instruction that was read

  module _ (insn : Insn) (next : ℕ) (read : Some (insn, next) ≡ insn_at words place) where
    its_row : step words ks (state_of place old) ≡ row ks insn place next (registers_of old.registers)
    its_row = ap (λ found. act ks found place (registers_of old.registers)) (sym read)

    pub goes_on : (to : ℕ) (new : Machine) → Makes (row ks insn place next (registers_of old.registers)) (moved.Goes to) old new → IsOn words ks turns left to new
    goes_on = going (row ks insn place next (registers_of old.registers)) its_row

    pub charges : (fewer to : ℕ) (new : Machine) → left ≡ suc fewer → Makes (row ks insn place next (registers_of old.registers)) (moved.Charges to) old new → IsOn words ks turns fewer to new
    charges = charging (row ks insn place next (registers_of old.registers)) its_row

    pub spends : (to : ℕ) (new : Machine) → left ≡ 0 → Makes (row ks insn place next (registers_of old.registers)) (moved.Charges to) old new → Gives words ks turns (record { output = new.output; end = Unfinished })
    spends = spending (row ks insn place next (registers_of old.registers)) its_row

    pub ends : (end : End) (new : Machine) → Makes (row ks insn place next (registers_of old.registers)) (moved.Ends end) old new → Gives words ks turns (record { output = new.output; end = end })
    ends = ending (row ks insn place next (registers_of old.registers)) its_row

  -- no instruction was read
  pub sticks : None ≡ insn_at words place → Gives words ks turns (record { output = old.output; end = Stuck })
  sticks read =
      ending (Ends [] Stuck) (ap (λ found. act ks found place (registers_of old.registers)) (sym read)) Stuck old
      (record { leads = refl; output = refl; registers = refl })
