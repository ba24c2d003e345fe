-- Cells are changed, and nothing else of the world.
use Rattle.std.proofs.Common.{◌≡◌, ℕ, zero, suc, ◌-◌, cond, List, [], ◌∷◌, ◌++◌, map, replicate, reverse, length, get_or, set, Option, IfSome, refl, sym, ◌∙◌, ap, subst, arith}
use Rattle.std.specs.Option.{option_map}
use Rattle.std.proofs.lemmas.List.{length-set}
use Rattle.value_model.specs.Owners.{wide}
use Rattle.value_model.specs.Store as store
use Rattle.value_model.specs.Values as m
use Rattle.value_model.specs.declared.event.Reply.{Reply}
use Rattle.value_model.specs.declared.ids.CellId.{CellId}
use Rattle.value_model.specs.declared.ids.ClosureId.{ClosureId}
use Rattle.value_model.specs.declared.ids.TableId.{TableId}
use Rattle.value_model.specs.declared.ids.ThreadId.{ThreadId}
use Rattle.value_model.specs.declared.ids.Owner.{Owner}
use Rattle.value_model.specs.declared.ids.Owner.TheVariants.{Frozen}
use Rattle.value_model.specs.declared.value.Value.{Value}
use Rattle.value_model.specs.declared.value.Value.TheVariants.{Nil}
use Rattle.value_arena.specs.declared.closure.Closure.{Closure}
use Rattle.value_arena.specs.declared.closure.Thread.{Thread}
use Rattle.value_arena.specs.Tables.{TableView, no_table}
use Rattle.value_arena.specs.Objects.{ObjectsView, no_objects, no_coroutine}
use Rattle.value_arena.specs.Arenas.{ArenaView, HasClosure, objects_of, with_objects, slot, table_at, cell_at, thread_at, with_cell, new_cell}
use Rattle.value_arena.specs.Growing.{Grows}
use Rattle.value_arena.specs.Owning.{IsOwned, MayHold}
use Rattle.value_arena.proofs.Laws.{part_kept, objects_other}
use Rattle.value_arena.proofs.Growing.{grows_self, grows_on, with_cell_grows, new_cell_grows, closure_stays}
use Rattle.value_arena.proofs.Owning.{owned_with_cell, owned_new_cell}
use Rattle.luau_tables.specs.Globals.{globals_of}
use Rattle.luau_tables.specs.Own.{HasText, HasTextsInTable, HasTexts, IsOwn}
use Rattle.luau_tables.specs.Part.{table_of, environment_of, coroutine_of, place_of_thread, store_of}
use Rattle.luau_tables.specs.Worlds.{IsWorld, MayUseIn, store_in}
use Rattle.luau_tables.specs.declared.globals.Globals.{Globals}
use Rattle.luau_tables.specs.declared.globals.LibWorld.{LibWorld}
use Rattle.luau_tables.proofs.OwnKept.{own_on, script_is, usable_on}
use Rattle.call_frames.specs.declared.frame.Frame.{Frame}
use Rattle.call_frames.specs.Stacks.{StackView}
use Rattle.machine_meaning.specs.States as machine
use Rattle.machine_meaning.specs.States.{Focus, State, World}
use Rattle.machine_code.specs.declared.code.Code.{Code}
use Rattle.machine_world.specs.Functions.{body_of, wait_of}
use Rattle.machine_world.specs.Parts.{environment_id, imports_in, state_with}
use Rattle.machine_world.specs.Sound.{cell_count, AreOf, IsFunctionOf, IsMachine}
use Rattle.machine_world.proofs.FrameKinds.{all_on, some_on, kinds_on}

-- ---- what stays

-- the arena has other cells
pub record Beside (w : LibWorld) (b : ArenaView) : Type 0 where
  pub grows : Grows w.arena b
  pub own : IsOwn w.names w.globals b w.owner
  pub tables : (t : TableId) → table_at b t ≡ table_at w.arena t
  pub store : store_of w.names w.globals b w.owner ≡ store_in w
  pub closures : (objects_of b w.owner).closures ≡ (objects_of w.arena w.owner).closures
  pub threads : (objects_of b w.owner).threads ≡ (objects_of w.arena w.owner).threads
  pub frozen : objects_of b Frozen ≡ objects_of w.arena Frozen
  pub running : b.running ≡ w.arena.running

pub beside_self : (w : LibWorld) → IsWorld w → Beside w w.arena
beside_self w h = record { grows = grows_self w.arena; own = h.own; tables = λ t. refl; store = refl; closures = refl; threads = refl; frozen = refl; running = refl }

pub beside_on : (w : LibWorld) (b c : ArenaView) → Beside w b → Beside (record w { arena = b }) c → Beside w c
beside_on w b c h k =
    record {
      grows = grows_on w.arena b c h.grows k.grows;
      own = k.own;
      tables = λ t. k.tables t ∙ h.tables t;
      store = k.store ∙ h.store;
      closures = k.closures ∙ h.closures;
      threads = k.threads ∙ h.threads;
      frozen = k.frozen ∙ h.frozen;
      running = k.running ∙ h.running;
    }

pub beside_world : (w : LibWorld) (b : ArenaView) → IsWorld w → Beside w b → IsWorld (record w { arena = b })
beside_world w b h k = record { owner = h.owner; own = k.own }

-- the state, from what it is made of
abbrev pub state_from : store.Store → List Closure → List Thread → TableView → LibWorld → Code → List Frame → Focus → List Reply → List machine.Frame →
    List m.Value → State
state_from st cs ts env w code fs x replies functions cells =
    record {
      focus = x;
      functions = functions;
      world = record {
        objects = record { store = st; bodies = map body_of cs; cells = cells };
        waits = map (wait_of w.names) (reverse fs) ∷ replicate (length ts - 1) [];
        elsewhere = λ co. [];
        marked = cond env.is_marked (store.script_environment ∷ []) [];
        imports = imports_in w.names code;
        replies = replies;
      };
    }

pub state_beside : (w : LibWorld) (b : ArenaView) (code : Code) (fs : List Frame) (x : Focus) (replies : List Reply) (functions : List machine.Frame) (cells : List m.Value) → Beside w b → state_with (record w { arena = b }) code fs x replies functions cells ≡ state_with w code fs x replies functions cells
state_beside w b code fs x replies functions cells h =
    let o : ObjectsView = objects_of b w.owner in
    let p : ObjectsView = objects_of w.arena w.owner in
    let env : TableView = table_at b (environment_id w.owner) in
    ap (λ st. state_from st o.closures o.threads env w code fs x replies functions cells) h.store
    ∙ ap (λ cs. state_from (store_in w) cs o.threads env w code fs x replies functions cells) h.closures
    ∙ ap (λ ts. state_from (store_in w) p.closures ts env w code fs x replies functions cells) h.threads
    ∙ ap (λ t. state_from (store_in w) p.closures p.threads t w code fs x replies functions cells) (h.tables (environment_id w.owner))

pub machine_beside : (w : LibWorld) (b : ArenaView) (s : StackView) → Beside w b → AreOf w.owner (cell_count w.owner b) s.cells → IsMachine w s → IsMachine (record w { arena = b }) s
machine_beside w b s h of is =
    record {
      world = beside_world w b is.world h;
      cells = of;
      own = is.own;
      values = all_on (MayUseIn w) (MayUseIn (record w { arena = b })) (λ v. usable_on w.names w.arena b w.owner v h.grows) s.registers is.values;
      functions = all_on (IsFunctionOf w.owner w.arena) (IsFunctionOf w.owner b) (λ f. some_on (λ (c : ClosureId). (wide c.owner ≡ w.owner) × HasClosure w.arena c) (λ (c : ClosureId). (wide c.owner ≡ w.owner) × HasClosure b c) (λ c k. (k.0, closure_stays w.arena b c h.grows k.1)) f.closure) s.frames is.functions;
      kinds = kinds_on w (record w { arena = b }) (λ v. usable_on w.names w.arena b w.owner v h.grows) (omega arith) s.frames is.kinds;
      shared = ap (λ o. o.cells) h.frozen ∙ is.shared;
      main = h.running ∙ is.main;
      marks = λ t e. is.marks t (sym (ap (λ (x : TableView). x.is_marked) (h.tables t)) ∙ e);
    }

-- ---- a change of an owner's cells

abbrev cells_by : ArenaView → Owner → (List Value → List Value) → ArenaView
cells_by a u g = with_objects a u (record (objects_of a u) { cells = g (objects_of a u).cells })

-- what holds of each cell goes on to hold
part_held : (Q : ObjectsView → Type 0) (f : ObjectsView → ObjectsView) (a : ArenaView) (w u : Owner) → ((o : ObjectsView) → Q o → Q (f o)) →
    Q (objects_of a u) → Q (objects_of (with_objects a w (f (objects_of a w))) u)
part_held Q f a w u step h = by a.owners (slot w) (slot u) h
  where
    by : (os : List ObjectsView) (i j : ℕ) → Q (get_or os j no_objects) → Q (get_or (set os i (f (get_or os i no_objects))) j no_objects)
    by [] i j h = h
    by (o ∷ os) zero zero h = step o h
    by (o ∷ os) zero (suc j) h = h
    by (o ∷ os) (suc i) zero h = h
    by (o ∷ os) (suc i) (suc j) h = by os i j h

set_held : (P : Value → Type 0) (xs : List Value) (i j : ℕ) (v : Value) → P (get_or xs j Nil) → P v → P (get_or (set xs i v) j Nil)
set_held P [] i j v h k = h
set_held P (x ∷ xs) zero zero v h k = k
set_held P (x ∷ xs) zero (suc j) v h k = h
set_held P (x ∷ xs) (suc i) zero v h k = h
set_held P (x ∷ xs) (suc i) (suc j) v h k = set_held P xs i j v h k

push_held : (P : Value → Type 0) (xs : List Value) (j : ℕ) (v : Value) → P (get_or xs j Nil) → P v → P (get_or (xs ++ v ∷ []) j Nil)
push_held P [] zero v h k = k
push_held P [] (suc j) v h k = h
push_held P (x ∷ xs) zero v h k = h
push_held P (x ∷ xs) (suc j) v h k = push_held P xs j v h k

texts_by : (texts : List m.Bytes) (a : ArenaView) (u : Owner) (g : List Value → List Value) →
    ((xs : List Value) (j : ℕ) → HasText texts (get_or xs j Nil) → HasText texts (get_or (g xs) j Nil)) → HasTexts texts a →
    HasTexts texts (cells_by a u g)
unfolding table_at cell_at thread_at
texts_by texts a u g step h =
    record {
      tables = λ t. part_held (λ o. HasTextsInTable texts (get_or o.tables t.place no_table)) (λ o. record o { cells = g o.cells }) a u (wide t.owner) (λ o q. q) (h.tables t);
      cells = λ c. part_held (λ o. HasText texts (get_or o.cells c.place Nil)) (λ o. record o { cells = g o.cells }) a u (wide c.owner) (λ o q. step o.cells c.place q) (h.cells c);
      bodies = λ t. part_held (λ o. HasText texts (get_or o.threads t.place no_coroutine).body) (λ o. record o { cells = g o.cells }) a u (wide t.owner) (λ o q. q) (h.bodies t);
      failures = λ t. part_held (λ o. IfSome (get_or o.threads t.place no_coroutine).failure (λ v. HasText texts v)) (λ o. record o { cells = g o.cells }) a u (wide t.owner) (λ o q. q) (h.failures t);
    }

abbrev pub store_of_parts : (texts : List m.Bytes) → Globals → (shared tables : List TableView) → List Closure → List Thread → Option ThreadId →
    store.Store
store_of_parts texts g shared tables closures threads running =
    record {
      globals = globals_of texts g;
      shared = map (table_of texts) shared;
      tables = map (table_of texts) tables;
      closures = map environment_of closures;
      coroutines = map (coroutine_of texts) threads;
      running = option_map place_of_thread running;
    }

store_by : (texts : List m.Bytes) (gs : Globals) (a : ArenaView) (u w : Owner) (g : List Value → List Value) →
    store_of texts gs (cells_by a u g) w ≡ store_of texts gs a w
unfolding store_of
store_by texts gs a u w g =
    let b : ArenaView = cells_by a u g in
    let f : ObjectsView → ObjectsView = λ o. record o { cells = g o.cells } in
    ap (λ l. store_of_parts texts gs l (objects_of b w).tables (objects_of b w).closures (objects_of b w).threads a.running) (part_kept (λ o. o.tables) f (λ o. refl) a u Frozen)
    ∙ ap (λ l. store_of_parts texts gs (objects_of a Frozen).tables l (objects_of b w).closures (objects_of b w).threads a.running) (part_kept (λ o. o.tables) f (λ o. refl) a u w)
    ∙ ap (λ l. store_of_parts texts gs (objects_of a Frozen).tables (objects_of a w).tables l (objects_of b w).threads a.running) (part_kept (λ o. o.closures) f (λ o. refl) a u w)
    ∙ ap (λ l. store_of_parts texts gs (objects_of a Frozen).tables (objects_of a w).tables (objects_of a w).closures l a.running) (part_kept (λ o. o.threads) f (λ o. refl) a u w)

beside_by : (w : LibWorld) (g : List Value → List Value) → IsWorld w → Grows w.arena (cells_by w.arena w.owner g) →
    IsOwned (cells_by w.arena w.owner g) → ((xs : List Value) (j : ℕ) → HasText w.names (get_or xs j Nil) → HasText w.names (get_or (g xs) j Nil)) →
    Beside w (cells_by w.arena w.owner g)
unfolding table_at
beside_by w g is grows owned step =
    let b : ArenaView = cells_by w.arena w.owner g in
    let f : ObjectsView → ObjectsView = λ o. record o { cells = g o.cells } in
    let frozen : objects_of b Frozen ≡ objects_of w.arena Frozen = objects_other w.arena w.owner Frozen (f (objects_of w.arena w.owner)) (script_is w.owner is.own.script) in
    record {
      grows = grows;
      own = own_on w.names w.globals w.arena b w.owner is.own grows owned (texts_by w.names w.arena w.owner g step is.own.numbered) frozen refl;
      tables = λ t. part_kept (λ o. get_or o.tables t.place no_table) f (λ o. refl) w.arena w.owner (wide t.owner);
      store = store_by w.names w.globals w.arena w.owner w.owner g;
      closures = part_kept (λ o. o.closures) f (λ o. refl) w.arena w.owner w.owner;
      threads = part_kept (λ o. o.threads) f (λ o. refl) w.arena w.owner w.owner;
      frozen = frozen;
      running = refl;
    }

-- ---- a cell is written

with_cell_by : (a : ArenaView) (w : Owner) (c : CellId) (v : Value) → wide c.owner ≡ w → with_cell a c v ≡ cells_by a w (λ cs. set cs c.place v)
unfolding with_cell
with_cell_by a w c v e = ap (λ u. cells_by a u (λ cs. set cs c.place v)) e

pub beside_write : (w : LibWorld) (c : CellId) (v : Value) → IsWorld w → wide c.owner ≡ w.owner → MayUseIn w v → Beside w (with_cell w.arena c v)
beside_write w c v is e may =
    subst (Beside w) (sym (with_cell_by w.arena w.owner c v e))
    (beside_by w (λ cs. set cs c.place v) is
    (subst (Grows w.arena) (with_cell_by w.arena w.owner c v e) (with_cell_grows w.arena c v))
    (subst IsOwned (with_cell_by w.arena w.owner c v e) (owned_with_cell w.arena c v is.own.owned (subst (λ u. hold u) (sym e) may.0)))
    (λ xs j h. set_held (λ x. HasText w.names x) xs c.place j v h may.1))
  where
    hold : Owner → Type 0
    hold u = MayHold w.arena u v

pub count_written : (w : Owner) (a : ArenaView) (c : CellId) (v : Value) → wide c.owner ≡ w → cell_count w (with_cell a c v) ≡ cell_count w a
count_written w a c v e =
    ap (cell_count w) (with_cell_by a w c v e)
    ∙ part_kept (λ o. length o.cells) (λ o. record o { cells = set o.cells c.place v }) (λ o. length-set o.cells c.place v) a w w

-- ---- a cell is made

new_cell_by : (a : ArenaView) (w : Owner) (v : Value) → new_cell a w v ≡ cells_by a w (λ cs. cs ++ v ∷ [])
unfolding new_cell
new_cell_by a w v = refl

pub beside_new : (w : LibWorld) (v : Value) → IsWorld w → MayUseIn w v → Beside w (new_cell w.arena w.owner v)
beside_new w v is may =
    subst (Beside w) (sym (new_cell_by w.arena w.owner v))
    (beside_by w (λ cs. cs ++ v ∷ []) is
    (subst (Grows w.arena) (new_cell_by w.arena w.owner v) (new_cell_grows w.arena w.owner v))
    (subst IsOwned (new_cell_by w.arena w.owner v) (owned_new_cell w.arena w.owner v is.own.owned may.0))
    (λ xs j h. push_held (λ x. HasText w.names x) xs j v h may.1))
