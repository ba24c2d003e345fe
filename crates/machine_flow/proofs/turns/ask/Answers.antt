use Rattle.std.proofs.lemmas.Int.{to_z-of_z}
use Rattle.std.proofs.Common.{w16, ◌≡◌, ◌+◌, ◌++◌, List, [], ◌∷◌, map, sym, ◌∙◌, ap, subst, arith}
use Rattle.value_model.specs.Parts.{meant}
use Rattle.value_model.specs.Values as m
use Rattle.value_model.specs.Waits.{ByScript}
use Rattle.value_model.specs.declared.value.Value.{Value}
use Rattle.op_words.specs.declared.insn.Insn.TheVariants.{ForGLoop}
use Rattle.machine_meaning.specs.Effects as row
use Rattle.machine_meaning.specs.Moves.{now, saved}
use Rattle.machine_meaning.specs.States.{Run, Invoke, Turns, value_in}
use Rattle.machine_world.specs.Parts.{Becomes, changed, waits, register_value}
use Rattle.machine_world.proofs.Going.{runs_on}
use Rattle.machine_world.proofs.Here.{row_leads, read_here}
use Rattle.machine_flow.proofs.Rows.{lower, turn_charges}
use Rattle.machine_flow.proofs.turns.ask.Goals as goal

pub behind-state_at-requires : goal.behind-state_at-requires
behind-state_at-requires c = lower c.args.machine.now.stack (c.args.base + 2) c.args.base (omega arith) c.requires.has

pub behind-control_at-requires : goal.behind-control_at-requires
behind-control_at-requires c = lower c.args.machine.now.stack (c.args.base + 2) c.behind-state_at.result (omega (arith, c.behind-state_at.ensures)) c.requires.has

pub read-generator-requires-clause-has : goal.read-generator-requires-clause-has
read-generator-requires-clause-has c = lower c.args.machine.now.stack (c.args.base + 2) c.args.base (omega arith) c.requires.has

pub read-state-requires-clause-has : goal.read-state-requires-clause-has
read-state-requires-clause-has c = lower c.args.machine.now.stack (c.args.base + 2) c.behind-state_at.result (omega (arith, c.behind-state_at.ensures)) c.requires.has

pub read-control-requires-clause-has : goal.read-control-requires-clause-has
read-control-requires-clause-has c =
    lower c.args.machine.now.stack (c.args.base + 2) c.behind-control_at.result (omega (arith, c.behind-state_at.ensures, c.behind-control_at.ensures)) c.requires.has

pub wait-requires-clause-runs : goal.wait-requires-clause-runs
wait-requires-clause-runs c = runs_on c.args.machine.now.stack c.requires.goes

pub returns-clause-makes : goal.returns-clause-makes
returns-clause-makes c =
    let w = c.args.world.now in
    let k = c.args.machine.now in
    let kind = Turns c.args.base c.args.variables c.args.by c.args.next in
    let all : c.extend_from_slice.new.self.items ≡ c.read-state.result ∷ c.read-control.result ∷ [] = c.in_ok-extend_from_slice.ensures.items ∙ ap (λ (l : List Value). l ++ c.read-state.result ∷ c.read-control.result ∷ []) c.requires.empty in
    let f = meant w.names c.read-generator.result in
    let vs = map (meant w.names) c.extend_from_slice.new.self.items in
    row_leads w w k.code k.stack c.wait.new.self.stack (row.charged (ForGLoop c.args.base c.args.by c.args.variables) c.args.next) (Invoke ByScript f vs) (changed (waits kind)) (runs_on k.stack c.requires.goes) (subst (λ z. Becomes (changed (waits (Turns c.args.base c.args.variables z c.args.next))) w k.code k.stack w c.wait.new.self.stack) (to_z-of_z w16 c.args.by c.ranges.by) c.wait.ensures.waits)
    (λ replies h.
    let a = value_in h.frame h.world in
    let state = read_here h m.Nil (register_value c.behind-state_at.result) Run (meant w.names c.read-state.result) (c.read-state.ensures.value Run replies) ∙ ap a c.behind-state_at.ensures in
    let third : c.behind-control_at.result ≡ c.args.base + 2 = omega (arith, c.behind-state_at.ensures, c.behind-control_at.ensures) in
    let control = read_here h m.Nil (register_value c.behind-control_at.result) Run (meant w.names c.read-control.result) (c.read-control.ensures.value Run replies) ∙ ap a third in
    let g = read_here h m.Nil (register_value c.args.base) Run f (c.read-generator.ensures.value Run replies) in
    ap (λ u. now (Invoke ByScript u (a (c.args.base + 1) ∷ a (c.args.base + 2) ∷ [])) (saved kind h.frame) h.others h.world) (sym g)
    ∙ ap (λ u. now (Invoke ByScript f (u ∷ a (c.args.base + 2) ∷ [])) (saved kind h.frame) h.others h.world) (sym state)
    ∙ ap (λ u. now (Invoke ByScript f (meant w.names c.read-state.result ∷ u ∷ [])) (saved kind h.frame) h.others h.world) (sym control)
    ∙ ap (λ us. now (Invoke ByScript f us) (saved kind h.frame) h.others h.world) (sym (ap (map (meant w.names)) all)))

pub returns-in_err-extend_from_slice-clause-charges : goal.returns-in_err-extend_from_slice-clause-charges
returns-in_err-extend_from_slice-clause-charges c = λ chunk words.
    let k = c.args.machine.now in
    turn_charges c.args.world.now k.code k.stack chunk words c.args.base c.args.by c.args.variables c.args.next (runs_on k.stack c.requires.goes)

pub returns-clause-charges : goal.returns-clause-charges
returns-clause-charges c = λ chunk words.
    let k = c.args.machine.now in
    turn_charges c.args.world.now k.code k.stack chunk words c.args.base c.args.by c.args.variables c.args.next (runs_on k.stack c.requires.goes)
