-- Rows that lead to what is done next.
use Rattle.std.proofs.Common.{◌≡◌, ℕ, List, ◌∷◌, sym, ◌∙◌, ap, subst}
use Rattle.value_model.specs.Choices as choice
use Rattle.value_model.specs.Metamethods.{choose, chosen}
use Rattle.value_model.specs.declared.event.Reply.{Reply}
use Rattle.bounded_runs.specs.Runs.{Goes}
use Rattle.luau_tables.specs.Worlds.{store_in}
use Rattle.luau_tables.specs.declared.globals.LibWorld.{LibWorld}
use Rattle.call_frames.specs.Stacks.{StackView}
use Rattle.op_words.specs.Chunks.{ChunkOf}
use Rattle.machine_meaning.specs.States.{Purpose, Run, Focus, Inside, State}
use Rattle.machine_meaning.specs.Moves.{Row, inside, on, store_of, with_store, comes, settle}
use Rattle.machine_code.specs.declared.code.Code.{Code}
use Rattle.machine_world.specs.Parts.{part, changed, Becomes}
use Rattle.machine_world.specs.Rows.{row_in}
use Rattle.machine_world.specs.Sound.{Runs}
use Rattle.machine_world.proofs.Here.{Here, here, row_here}
use Rattle.machine_rows.specs.Leading.{looks, LeadsTo, goes, ComesTo, Does}
use Rattle.machine_rows.specs.declared.next.Next.{Next}

-- a row that does there what another does
pub does_like : (chunk : ChunkOf) (w w' : LibWorld) (code : Code) (s s' : StackView) (r q : Row) (n : ℕ) (x : Next) → Runs s →
    ((replies : List Reply) (h : Here w code s replies) → r h.frame h.others h.world ≡ q h.frame h.others h.world) → Does chunk q w code s n x w' s' →
    Does chunk r w code s n x w' s'
unfolding Does
does_like chunk w w' code s s' r q n x runs same does = λ replies.
    let h = here w code s replies runs in
    subst (λ m. ComesTo chunk m n x w' code s' replies) (sym (row_here h r ∙ same replies h ∙ sym (row_here h q))) (does replies)

-- what another does behind a change
pub does_behind : (chunk : ChunkOf) (w w1 w2 : LibWorld) (code : Code) (s s1 s2 : StackView) (r q : Row) (g : Inside → Inside) (n : ℕ) (x : Next) →
    Runs s → Becomes (changed g) w code s w1 s1 →
    ((replies : List Reply) (h : Here w code s replies) → r h.frame h.others h.world ≡ on q (g (inside h.frame h.world)) h.others) →
    Does chunk q w1 code s1 n x w2 s2 → Does chunk r w code s n x w2 s2
unfolding Does
does_behind chunk w w1 w2 code s s1 s2 r q g n x runs becomes same does = λ replies.
    let h = here w code s replies runs in
    subst (λ m. ComesTo chunk m n x w2 code s2 replies)
    (sym (row_here h r ∙ same replies h ∙ sym (ap (λ (t : State). row_in q t.functions t.world) (becomes Run replies ∙ ap (changed g) (h.is Run)))))
    (does replies)

-- a row that leads to a changed state
pub leads_changed : (chunk : ChunkOf) (w w' : LibWorld) (code : Code) (s s' : StackView) (replies : List Reply) (r : Row) (x : Focus) (n : ℕ) (change : State → State) (h : Here w code s replies) → Becomes change w code s w' s' → r h.frame h.others h.world ≡ Goes (looks n) (change (record { focus = x; functions = h.frame ∷ h.others; world = h.world })) → LeadsTo chunk (row_in r (part w code s Run replies).functions (part w code s Run replies).world) n (part w' code s' x replies)
leads_changed chunk w w' code s s' replies r x n change h becomes same =
    goes n (row_here h r ∙ same ∙ sym (ap (λ t. Goes (looks n) t) (becomes x replies ∙ ap change (h.is x))))

-- ---- operations

pub store_here : {w : LibWorld} {code : Code} {s : StackView} {replies : List Reply} (h : Here w code s replies) → store_in w ≡ store_of h.world
unfolding part
store_here h = ap (λ (t : State). store_of t.world) (h.is Run)

-- one that writes nothing
pub settled_here : {w : LibWorld} {code : Code} {s : StackView} {replies : List Reply} (h : Here w code s replies) (op : choice.Operation) (o : choice.Outcome) (n : ℕ) (p : Purpose) → chosen (store_in w) n o ≡ choose op (store_in w) → settle (choose op (store_of h.world)) p h.frame h.others h.world ≡ comes o (looks n) p h.frame h.others h.world
settled_here h op o n p e =
    ap (λ st. settle (choose op st) p h.frame h.others h.world) (sym (store_here h))
    ∙ ap (λ c. settle c p h.frame h.others h.world) (sym e)
    ∙ ap (λ st. comes o (looks n) p h.frame h.others (with_store st h.world)) (store_here h)
