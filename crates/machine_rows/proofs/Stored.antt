-- A table is written, and nothing else of the state changes.
use Rattle.std.proofs.Common.{◌≡◌, ℕ, ◌-◌, Bool, cond, List, [], ◌∷◌, map, replicate, reverse, length, Option, Some, None, IfSome, sym, ◌∙◌, ap, subst, arith}
use Rattle.std.specs.List.{AllByRecursion}
use Rattle.value_model.specs.Choices as choice
use Rattle.value_model.specs.Metamethods.{choose}
use Rattle.value_model.specs.Owners.{wide}
use Rattle.value_model.specs.Parts.{meant}
use Rattle.value_model.specs.Store as store
use Rattle.value_model.specs.declared.event.Reply.{Reply}
use Rattle.value_model.specs.declared.ids.ClosureId.{ClosureId}
use Rattle.value_model.specs.declared.ids.Owner.TheVariants.{Frozen}
use Rattle.value_model.specs.declared.value.Value.{Value}
use Rattle.value_arena.specs.declared.closure.Closure.{Closure}
use Rattle.value_arena.specs.declared.closure.Thread.{Thread}
use Rattle.value_arena.specs.Arenas.{ArenaView, HasClosure, objects_of, table_at}
use Rattle.value_arena.proofs.Growing.{closure_stays}
use Rattle.luau_tables.specs.Own.{IsOwn}
use Rattle.luau_tables.specs.Worlds.{MayUseIn, ChangesTables, store_in}
use Rattle.luau_tables.specs.declared.globals.LibWorld.{LibWorld}
use Rattle.luau_tables.proofs.OwnKept.{script_is, usable_on}
use Rattle.call_frames.specs.Stacks.{StackView}
use Rattle.op_words.specs.Chunks.{ChunkOf}
use Rattle.machine_meaning.specs.States.{Purpose, Run, Focus, State}
use Rattle.machine_meaning.specs.Moves.{Row, store_of, with_store, comes, settle}
use Rattle.machine_code.specs.declared.code.Code.{Code}
use Rattle.machine_world.specs.Functions.{body_of, wait_of, functions_of, cells_of, laid}
use Rattle.machine_world.specs.Parts.{environment_id, imports_in, part}
use Rattle.machine_world.specs.Rows.{row_in}
use Rattle.machine_world.specs.Sound.{AreOf, IsFunctionOf, Runs, IsMachine}
use Rattle.machine_world.proofs.Here.{Here, here, row_here}
use Rattle.machine_world.proofs.FrameKinds.{kinds_on}
use Rattle.machine_rows.specs.Leading.{looks, ComesTo, Does}
use Rattle.machine_rows.specs.declared.next.Next.{Next}
use Rattle.machine_rows.proofs.Steps.{store_here}

-- with other objects
abbrev pub restored : store.Store → State → State
restored st t = record t { world = with_store st t.world }

-- the state, from what it is made of
abbrev state_by : store.Store → List Closure → List Thread → Bool → List Value → LibWorld → Code → StackView → Focus → List Reply → State
state_by st cs ts marked cells w code s x replies =
    record {
      focus = x;
      functions = functions_of w.names cs s;
      world = record {
        objects = record { store = st; bodies = map body_of cs; cells = laid w.names s.registers s.cells (map (meant w.names) cells) };
        waits = map (wait_of w.names) (reverse s.frames) ∷ replicate (length ts - 1) [];
        elsewhere = λ co. [];
        marked = cond marked (store.script_environment ∷ []) [];
        imports = imports_in w.names code;
        replies = replies;
      };
    }

pub part_stored : (w : LibWorld) (b : ArenaView) (code : Code) (s : StackView) (x : Focus) (replies : List Reply) → ChangesTables w.owner w.arena b →
    part (record w { arena = b }) code s x replies ≡ restored (store_in (record w { arena = b })) (part w code s x replies)
unfolding part cells_of
part_stored w b code s x replies h =
    let st : store.Store = store_in (record w { arena = b }) in
    let o = objects_of b w.owner in
    let p = objects_of w.arena w.owner in
    ap (λ cs. state_by st cs o.threads (table_at b (environment_id w.owner)).is_marked o.cells w code s x replies) h.closures
    ∙ ap (λ ts. state_by st p.closures ts (table_at b (environment_id w.owner)).is_marked o.cells w code s x replies) h.threads
    ∙ ap (λ k. state_by st p.closures p.threads k o.cells w code s x replies) (h.marks (environment_id w.owner))
    ∙ ap (λ cells. state_by st p.closures p.threads (table_at w.arena (environment_id w.owner)).is_marked cells w code s x replies) h.cells

-- ---- what goes on to hold

all_on : {X : Type 0} (P Q : X → Type 0) → ((x : X) → P x → Q x) → (xs : List X) → AllByRecursion P xs → AllByRecursion Q xs
all_on P Q f [] h = tt
all_on P Q f (x ∷ xs) h = (f x h.0, all_on P Q f xs h.1)

some_on : {X : Type 0} (P Q : X → Type 0) → ((x : X) → P x → Q x) → (r : Option X) → IfSome r P → IfSome r Q
some_on P Q f None h = h
some_on P Q f (Some x) h = f x h

pub machine_stored : (w : LibWorld) (b : ArenaView) (s : StackView) → IsOwn w.names w.globals b w.owner → ChangesTables w.owner w.arena b → IsMachine w s →
    IsMachine (record w { arena = b }) s
machine_stored w b s own h is =
    let others = h.others Frozen (script_is w.owner is.world.own.script) in
    record {
      world = record { owner = is.world.owner; own = own };
      cells = subst (λ (cs : List Value). AreOf w.owner (length cs) s.cells) (sym h.cells) is.cells;
      own = is.own;
      values = all_on (MayUseIn w) (MayUseIn (record w { arena = b })) (λ v. usable_on w.names w.arena b w.owner v h.grows) s.registers is.values;
      functions = all_on (IsFunctionOf w.owner w.arena) (IsFunctionOf w.owner b) (λ f. some_on (λ (c : ClosureId). (wide c.owner ≡ w.owner) × HasClosure w.arena c) (λ (c : ClosureId). (wide c.owner ≡ w.owner) × HasClosure b c) (λ c k. (k.0, closure_stays w.arena b c h.grows k.1)) f.closure) s.frames is.functions;
      kinds = kinds_on w (record w { arena = b }) (λ v. usable_on w.names w.arena b w.owner v h.grows) (omega arith) s.frames is.kinds;
      shared = ap (λ o. o.cells) others ∙ is.shared;
      main = h.running ∙ is.main;
      marks = λ t e. is.marks t (sym (h.marks t) ∙ e);
    }

-- ---- rows

-- an operation that writes: what follows it is done in the world that it leaves
pub does_stored : (chunk : ChunkOf) (w w' : LibWorld) (code : Code) (s s' : StackView) (r : Row) (op : choice.Operation) (o : choice.Outcome) (n : ℕ) (p : Purpose) (x : Next) → Runs s → ((x : Focus) (replies : List Reply) → part w' code s x replies ≡ restored (store_in w') (part w code s x replies)) → record { outcome = o; asked = n; store = store_in w' } ≡ choose op (store_in w) → ((replies : List Reply) (h : Here w code s replies) → r h.frame h.others h.world ≡ settle (choose op (store_of h.world)) p h.frame h.others h.world) → Does chunk (comes o (looks n) p) w' code s n x w' s' → Does chunk r w code s n x w' s'
unfolding Does
does_stored chunk w w' code s s' r op o n p x runs stored chosen same does = λ replies.
    let h = here w code s replies runs in
    let c : choice.Choice = record { outcome = o; asked = n; store = store_in w' } in
    subst (λ m. ComesTo chunk m n x w' code s' replies)
    (sym (row_here h r ∙ same replies h
    ∙ ap (λ st. settle (choose op st) p h.frame h.others h.world) (sym (store_here h))
    ∙ ap (λ c. settle c p h.frame h.others h.world) (sym chosen)
    ∙ sym (ap (λ (t : State). row_in (comes o (looks n) p) t.functions t.world) (stored Run replies ∙ ap (restored (store_in w')) (h.is Run)))))
    (does replies)
