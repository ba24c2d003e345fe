-- A library function leaves of a script's running state all but the store as it was.
use Rattle.std.proofs.Common.{◌≡◌, ◌≤◌, ◌-◌, Bool, cond, List, [], ◌∷◌, map, replicate, reverse, length, IfSome, Option, Some, None, sym, ◌∙◌, ap, subst, arith}
use Rattle.std.proofs.lemmas.List.{length-append}
use Rattle.std.specs.List.{AllByRecursion}
use Rattle.value_model.specs.Owners.{wide}
use Rattle.value_model.specs.Parts.{meant}
use Rattle.value_model.specs.Store as store
use Rattle.value_model.specs.Values as m
use Rattle.value_model.specs.declared.event.Reply.{Reply}
use Rattle.value_model.specs.declared.ids.ClosureId.{ClosureId}
use Rattle.value_model.specs.declared.ids.Owner.{Owner}
use Rattle.value_model.specs.declared.ids.Owner.TheVariants.{Frozen}
use Rattle.value_arena.specs.declared.closure.Closure.{Closure}
use Rattle.value_arena.specs.declared.closure.Thread.{Thread}
use Rattle.value_arena.specs.Arenas.{HasClosure, objects_of, table_at}
use Rattle.value_arena.proofs.Growing.{closure_stays}
use Rattle.luau_tables.proofs.MoreTexts.{text_more}
use Rattle.luau_tables.specs.Own.{HasText}
use Rattle.luau_tables.specs.Worlds.{MayUseIn, Keeps, store_in}
use Rattle.luau_tables.specs.declared.globals.LibWorld.{LibWorld}
use Rattle.luau_tables.proofs.OwnKept.{script_is}
use Rattle.luau_tables.proofs.WorldsKept.{may_use_on, all_use_on}
use Rattle.call_frames.specs.declared.frame.Frame.{Frame}
use Rattle.call_frames.specs.declared.frame.ReturnKind.{ReturnKind}
use Rattle.call_frames.specs.declared.frame.ReturnKind.TheVariants as kind
use Rattle.call_frames.specs.Stacks.{StackView}
use Rattle.machine_meaning.specs.States.{Focus, State}
use Rattle.machine_code.specs.declared.code.Code.{Code}
use Rattle.machine_code.specs.declared.code.Function.{Function}
use Rattle.machine_world.specs.Functions.{body_of, wait_of, functions_of, laid, kept_cells, cells_of}
use Rattle.machine_world.specs.Parts.{environment_id, imports_in, part}
use Rattle.machine_world.specs.Sound.{cell_count, AreOf, IsFunctionOf, MayWaitIn, MayWait, IsMachine}
use Rattle.machine_world.proofs.FrameKinds.{all_on, some_on, kinds_on}
use Rattle.machine_rows.specs.Texts.{HasTextsOfKind, KnowsTexts}
use Rattle.machine_rows.proofs.Named.{part_named}
use Rattle.machine_library.specs.Leads.{KnowsImports, stored}

-- the state, from what it is made of
abbrev made : store.Store → List Closure → List Thread → (marked : Bool) → (kept : List m.Value) → (texts : List m.Bytes) → Code → StackView → Focus → List Reply → State
made st cs ts mark kept texts code s x replies =
    record {
      focus = x;
      functions = functions_of texts cs s;
      world = record {
        objects = record { store = st; bodies = map body_of cs; cells = laid texts s.registers s.cells kept };
        waits = map (wait_of texts) (reverse s.frames) ∷ replicate (length ts - 1) [];
        elsewhere = λ co. [];
        marked = cond mark (store.script_environment ∷ []) [];
        imports = imports_in texts code;
        replies = replies;
      };
    }

-- beside another arena, whose other objects are as they were
beside : (w w' : LibWorld) (code : Code) (s : StackView) (x : Focus) (replies : List Reply) → Keeps w w' →
    part w' code s x replies ≡ stored (store_in w') (part (record w { names = w'.names }) code s x replies)
unfolding part cells_of
beside w w' code s x replies keeps =
    let u : Owner = w'.owner in
    let closures : (objects_of w'.arena u).closures ≡ (objects_of w.arena w.owner).closures = ap (λ o. (objects_of w'.arena o).closures) keeps.owner ∙ keeps.arena.closures in
    let threads : (objects_of w'.arena u).threads ≡ (objects_of w.arena w.owner).threads = ap (λ o. (objects_of w'.arena o).threads) keeps.owner ∙ keeps.arena.threads in
    let marks : (table_at w'.arena (environment_id u)).is_marked ≡ (table_at w.arena (environment_id w.owner)).is_marked = ap (λ o. (table_at w'.arena (environment_id o)).is_marked) keeps.owner ∙ keeps.arena.marks (environment_id w.owner) in
    let cells : kept_cells w'.names u w'.arena ≡ kept_cells w'.names w.owner w.arena = ap (λ o. kept_cells w'.names o w'.arena) keeps.owner ∙ ap (map (meant w'.names)) keeps.arena.cells in
    let st : store.Store = store_in w' in
    ap (λ cs. made st cs (objects_of w'.arena u).threads (table_at w'.arena (environment_id u)).is_marked (kept_cells w'.names u w'.arena) w'.names code s x replies) closures
    ∙ ap (λ ts. made st (objects_of w.arena w.owner).closures ts (table_at w'.arena (environment_id u)).is_marked (kept_cells w'.names u w'.arena) w'.names code s x replies) threads
    ∙ ap (λ b. made st (objects_of w.arena w.owner).closures (objects_of w.arena w.owner).threads b (kept_cells w'.names u w'.arena) w'.names code s x replies) marks
    ∙ ap (λ cs. made st (objects_of w.arena w.owner).closures (objects_of w.arena w.owner).threads (table_at w.arena (environment_id w.owner)).is_marked cs w'.names code s x replies) cells

pub part_kept : (w w' : LibWorld) (code : Code) (s : StackView) (x : Focus) (replies : List Reply) → Keeps w w' → IsMachine w s → KnowsTexts w code s →
    part w' code s x replies ≡ stored (store_in w') (part w code s x replies)
part_kept w w' code s x replies keeps is known =
    beside w w' code s x replies keeps
    ∙ ap (stored (store_in w')) (part_named w w'.names code s x replies keeps.names keeps.world.own.interned is known)

-- ---- what goes on to hold

more_texts : (w w' : LibWorld) → Keeps w w' → length w.names ≤ length w'.names
more_texts w w' keeps = omega (arith, ap length keeps.names.appended, length-append w.names keeps.names.more)

pub machine_kept : (w w' : LibWorld) (s : StackView) → Keeps w w' → IsMachine w s → IsMachine w' s
machine_kept w w' s keeps is =
    let count : cell_count w'.owner w'.arena ≡ cell_count w.owner w.arena = ap (λ o. cell_count o w'.arena) keeps.owner ∙ ap length keeps.arena.cells in
    record {
      world = keeps.world;
      cells = subst (λ o. AreOf o (cell_count w'.owner w'.arena) s.cells) (sym keeps.owner) (subst (λ n. AreOf w.owner n s.cells) (sym count) is.cells);
      own = is.own;
      values = all_use_on w w' keeps s.registers is.values;
      functions = all_on (IsFunctionOf w.owner w.arena) (IsFunctionOf w'.owner w'.arena)
          (λ f. some_on (λ (c : ClosureId). (wide c.owner ≡ w.owner) × HasClosure w.arena c) (λ (c : ClosureId). (wide c.owner ≡ w'.owner) × HasClosure w'.arena c) (λ c k. (k.0 ∙ sym keeps.owner, closure_stays w.arena w'.arena c keeps.arena.grows k.1)) f.closure) s.frames is.functions;
      kinds = kinds_on w w' (may_use_on w w' keeps) (more_texts w w' keeps) s.frames is.kinds;
      shared = ap (λ o. o.cells) (keeps.arena.others Frozen (script_is w.owner is.world.own.script)) ∙ is.shared;
      main = keeps.arena.running ∙ is.main;
      marks = λ t e. let k = is.marks t (sym (keeps.arena.marks t) ∙ e) in (k.0 ∙ sym keeps.owner, k.1);
    }

-- ---- texts

-- what a frame waits for has its texts
of_kind : (w : LibWorld) (q : Option ClosureId) (k : ReturnKind) → MayWaitIn w q k → HasTextsOfKind w.names k
of_kind w (Some c) (kind.Join to left next) h = all_on (MayUseIn w) (HasText w.names) (λ v m. m.1) left h
of_kind w (Some c) (kind.Import to names next) h = h
of_kind w (Some c) (kind.Library rest) h = absurd h
of_kind w (Some c) (kind.Protected handler) h = absurd h
of_kind w (Some c) _ h = tt
of_kind w None (kind.Library rest) h = all_on (MayUseIn w) (HasText w.names) (λ v m. m.1) rest.args.items h.2
of_kind w None (kind.Protected handler) h = some_on (MayUseIn w) (HasText w.names) (λ v m. m.1) handler h
of_kind w None (kind.Join to left next) h = absurd h
of_kind w None (kind.Import to names next) h = absurd h
of_kind w None _ h = tt

pub knows : (w : LibWorld) (code : Code) (s : StackView) → IsMachine w s → KnowsImports w.names code → KnowsTexts w code s
knows w code s is imports =
    record {
      frames = all_on (MayWait w) (λ (f : Frame). HasTextsOfKind w.names f.kind) (λ f. of_kind w f.closure f.kind) s.frames is.kinds;
      imports = imports;
    }

pub imports_kept : (w w' : LibWorld) (code : Code) → Keeps w w' → KnowsImports w.names code → KnowsImports w'.names code
imports_kept w w' code keeps known =
    all_on (λ (f : Function). AllByRecursion (λ v. IfSome v (HasText w.names)) f.imports) (λ (f : Function). AllByRecursion (λ v. IfSome v (HasText w'.names)) f.imports)
    (λ f. all_on (λ v. IfSome v (HasText w.names)) (λ v. IfSome v (HasText w'.names)) (λ v. some_on (HasText w.names) (HasText w'.names) (text_more w.names w'.names keeps.names) v) f.imports) code.functions known
