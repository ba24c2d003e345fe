-- Texts come behind those that were there: a script's running state means what it meant.
use Rattle.std.proofs.Common.{◌≡◌, ℕ, zero, suc, ◌+◌, ◌-◌, ◌<◌, ◌≤◌, max, cond, nat_lt, List, [], ◌∷◌, ◌++◌, map, replicate, reverse, length, take, drop, get_or, set, Option, Some, None, IfSome, slice_get, refl, sym, ◌∙◌, ap, subst, arith}
use Rattle.std.specs.List.{AllByRecursion}
use Rattle.std.proofs.lemmas.List.{length-append}
use Rattle.std.specs.Option.{option_map, option_map_or, option_and_then}
use mathlib.Core.Path.{fun_ext}
use Rattle.byte_text.specs.declared.fixed.StrId.{StrId}
use Rattle.value_model.specs.Parts.{meant}
use Rattle.value_model.specs.Store as store
use Rattle.value_model.specs.Values as m
use Rattle.value_model.specs.Waits as wait
use Rattle.value_model.specs.declared.event.Reply.{Reply}
use Rattle.value_model.specs.declared.ids.CellId.{CellId}
use Rattle.value_model.specs.declared.ids.ClosureId.{ClosureId}
use Rattle.value_model.specs.declared.value.Value.{Value}
use Rattle.value_model.specs.declared.value.Value.TheVariants as value
use Rattle.value_arena.specs.declared.closure.Closure.{Closure}
use Rattle.value_arena.specs.Arenas.{objects_of, cell_at, narrow}
use Rattle.value_arena.proofs.Laws.{wide_narrow}
use Rattle.luau_tables.specs.Own.{AreTexts, HasText}
use Rattle.luau_tables.specs.Worlds.{IsWorld, MayUseIn, Extends, store_in}
use Rattle.luau_tables.specs.declared.globals.LibWorld.{LibWorld}
use Rattle.luau_tables.proofs.MoreTexts as more
use Rattle.luau_tables.proofs.WorldsKept.{texts_keep, texts_store, may_use_on}
use Rattle.call_frames.specs.declared.frame.Frame.{Frame}
use Rattle.call_frames.specs.declared.frame.OpenCell.{OpenCell}
use Rattle.call_frames.specs.declared.frame.ReturnKind.{ReturnKind}
use Rattle.call_frames.specs.declared.frame.ReturnKind.TheVariants as kind
use Rattle.call_frames.specs.Stacks.{StackView}
use Rattle.call_frames.specs.Cells.{cell_on, innermost, outer}
use Rattle.machine_meaning.specs.States as machine
use Rattle.machine_meaning.specs.States.{Register, Val, Open, Focus, Purpose}
use Rattle.machine_code.specs.declared.code.Code.{Code}
use Rattle.machine_code.specs.declared.code.Function.{Function}
use Rattle.machine_world.specs.Functions.{register, window, text_of, purpose_of, wait_of, wait_in, wait_by, protects, function_of, with_function, waiting, running, functions_of, laid, kept_cells, cells_of, body_of}
use Rattle.machine_world.specs.Parts.{import_in, imports_in, part, state_with, marked_in}
use Rattle.machine_world.specs.Sound.{IsMachine}
use Rattle.machine_world.proofs.Frames.{with_same, reverse_more}
use Rattle.machine_world.proofs.FrameKinds.{kinds_on}
use Rattle.machine_rows.specs.Texts.{HasTextsOfKind, KnowsTexts}

-- ---- lists

map_all : {X Y : Type 0} (f g : X → Y) (P : X → Type 0) → ((x : X) → P x → f x ≡ g x) → (xs : List X) → AllByRecursion P xs → map f xs ≡ map g xs
map_all f g P same [] h = refl
map_all f g P same (x ∷ xs) h = ap (λ y. y ∷ map f xs) (same x h.0) ∙ ap (λ ys. g x ∷ ys) (map_all f g P same xs h.1)

all_get : {X : Type 0} (P : X → Type 0) (xs : List X) (i : ℕ) (d : X) → P d → AllByRecursion P xs → P (get_or xs i d)
all_get P [] i d p h = p
all_get P (x ∷ xs) zero d p h = h.0
all_get P (x ∷ xs) (suc i) d p h = all_get P xs i d p h.1

all_take : {X : Type 0} (P : X → Type 0) (n : ℕ) (xs : List X) → AllByRecursion P xs → AllByRecursion P (take n xs)
all_take P zero xs h = tt
all_take P (suc n) [] h = tt
all_take P (suc n) (x ∷ xs) h = (h.0, all_take P n xs h.1)

all_drop : {X : Type 0} (P : X → Type 0) (n : ℕ) (xs : List X) → AllByRecursion P xs → AllByRecursion P (drop n xs)
all_drop P zero xs h = h
all_drop P (suc n) [] h = tt
all_drop P (suc n) (x ∷ xs) h = all_drop P n xs h.1

all_append : {X : Type 0} (P : X → Type 0) (xs ys : List X) → AllByRecursion P xs → AllByRecursion P ys → AllByRecursion P (xs ++ ys)
all_append P [] ys h k = k
all_append P (x ∷ xs) ys h k = (h.0, all_append P xs ys h.1 k)

all_reverse : {X : Type 0} (P : X → Type 0) (xs : List X) → AllByRecursion P xs → AllByRecursion P (reverse xs)
all_reverse P [] h = tt
all_reverse P (x ∷ xs) h =
    subst (AllByRecursion P) (sym (reverse_more x xs)) (all_append P (reverse xs) (x ∷ []) (all_reverse P xs h.1) (h.0, tt))

all_on : {X : Type 0} (P Q : X → Type 0) → ((x : X) → P x → Q x) → (xs : List X) → AllByRecursion P xs → AllByRecursion Q xs
all_on P Q f [] h = tt
all_on P Q f (x ∷ xs) h = (f x h.0, all_on P Q f xs h.1)

some_on : {X : Type 0} (P Q : X → Type 0) → ((x : X) → P x → Q x) → (r : Option X) → IfSome r P → IfSome r Q
some_on P Q f None h = h
some_on P Q f (Some x) h = f x h

all_found : {X : Type 0} (P : X → Type 0) (d : X) (xs : List X) → ((i : ℕ) → P (get_or xs i d)) → AllByRecursion P xs
all_found P d [] h = tt
all_found P d (x ∷ xs) h = (h 0, all_found P d xs (λ i. h (suc i)))

got : {X : Type 0} (P : X → Type 0) (q : Option X) (xs : List X) (i : ℕ) → slice_get xs i ≡ q → AllByRecursion P xs → IfSome q P
got P None xs i e h = tt
got P (Some y) [] i e h = absurd (cc)
got P (Some y) (x ∷ xs) zero e h = let same : x ≡ y = cc in subst P same h.0
got P (Some y) (x ∷ xs) (suc i) e h = got P (Some y) xs i e h.1

module _ (texts after : List m.Bytes) (extends : Extends texts after) where
  same_value : (v : Value) → HasText texts v → meant after v ≡ meant texts v
  same_value v h = more.meant_more texts after extends v h

  same_values : (vs : List Value) → AllByRecursion (HasText texts) vs → map (meant after) vs ≡ map (meant texts) vs
  same_values vs h = map_all (meant after) (meant texts) (HasText texts) same_value vs h

  -- ---- what waits

  same_purpose : (k : ReturnKind) → HasTextsOfKind texts k → purpose_of after k ≡ purpose_of texts k
  same_purpose (kind.Join to left next) h = ap (λ vs. machine.Joins vs to next) (same_values left h)
  same_purpose (kind.Import to names next) h =
      ap (λ xs. machine.Follows xs to next) (map_all (text_of after) (text_of texts) (λ (x : StrId). x.0 < length texts) (λ x l. more.bytes_more texts after extends x.0 l) names h)
  same_purpose kind.Idle h = refl
  same_purpose (kind.Call to results next) h = refl
  same_purpose (kind.Answer to next) h = refl
  same_purpose (kind.Store next) h = refl
  same_purpose (kind.Jump by wanted next) h = refl
  same_purpose (kind.Iterate base by) h = refl
  same_purpose (kind.Turn base variables by next) h = refl
  same_purpose (kind.Protected handler) h = refl
  same_purpose kind.Handler h = refl
  same_purpose (kind.Library rest) h = refl
  same_purpose (kind.Coroutine wrapped) h = refl

  same_handler : (q : Option Value) → IfSome q (HasText texts) → protects after q ≡ protects texts q
  same_handler None h = refl
  same_handler (Some v) h = ap (λ v. wait.Guards v) (same_value v h)

  same_wait_by : (k : ReturnKind) → HasTextsOfKind texts k → wait_by after k ≡ wait_by texts k
  same_wait_by (kind.Library rest) h =
      ap (λ vs. wait.Asks (record { builtin = rest.builtin; arguments = vs; at = rest.at; text = rest.text })) (same_values rest.args.items h)
  same_wait_by (kind.Protected handler) h = same_handler handler h
  same_wait_by kind.Idle h = refl
  same_wait_by (kind.Call to results next) h = refl
  same_wait_by (kind.Answer to next) h = refl
  same_wait_by (kind.Store next) h = refl
  same_wait_by (kind.Jump by wanted next) h = refl
  same_wait_by (kind.Join to left next) h = refl
  same_wait_by (kind.Import to names next) h = refl
  same_wait_by (kind.Iterate base by) h = refl
  same_wait_by (kind.Turn base variables by next) h = refl
  same_wait_by kind.Handler h = refl
  same_wait_by (kind.Coroutine wrapped) h = refl

  same_wait : (f : Frame) → HasTextsOfKind texts f.kind → wait_of after f ≡ wait_of texts f
  same_wait f h = by f.closure
    where
      by : (q : Option ClosureId) → wait_in after q f.kind ≡ wait_in texts q f.kind
      by None = same_wait_by f.kind h
      by (Some c) = refl

  -- ---- functions

  module _ (regs : List Value) (values : AllByRecursion (HasText texts) regs) (os : List OpenCell) where
    same_held : (r : ℕ) → meant after (get_or regs r value.Nil) ≡ meant texts (get_or regs r value.Nil)
    same_held r = same_value (get_or regs r value.Nil) (all_get (HasText texts) regs r value.Nil tt values)

    same_register : (r : ℕ) → register after regs os r ≡ register texts regs os r
    same_register r = ap (λ v. option_map_or (λ (c : CellId). Open c.place) (cell_on r os) (Val v)) (same_held r)

    same_function : (cs : List Closure) (width top : ℕ) (c : ClosureId) (f : Frame) → HasTextsOfKind texts f.kind →
        function_of after cs regs os width top c f ≡ function_of texts cs regs os width top c f
    same_function cs width top c f h =
        ap (λ rs. record (function_of after cs regs os width top c f) { registers = rs }) (fun_ext (λ q. ap (λ x. cond (nat_lt q width) x (Val m.Nil)) (same_register (f.base + q))))
        ∙ ap (λ vs. record (function_of after cs regs os width top c f) { registers = window texts regs os width f.base; varargs = vs }) (same_values (drop (f.base - f.extra) (take f.base regs)) (all_drop (HasText texts) (f.base - f.extra) (take f.base regs) (all_take (HasText texts) f.base regs values)))
        ∙ ap (λ p. record (function_of texts cs regs os width top c f) { purpose = p }) (same_purpose f.kind h)

    same_waiting : (cs : List Closure) (fs : List Frame) → AllByRecursion (λ (f : Frame). HasTextsOfKind texts f.kind) fs →
        waiting after cs regs os fs ≡ waiting texts cs regs os fs
    same_waiting cs [] h = refl
    same_waiting cs (f ∷ fs) h =
        with_same f.closure (λ c. function_of after cs regs os f.registers 0 c f) (λ c. function_of texts cs regs os f.registers 0 c f) (waiting after cs regs os fs) (waiting texts cs regs os fs)
        (λ c. same_function cs f.registers 0 c f h.0) (same_waiting cs fs h.1)

    same_laid : (xs : List OpenCell) (cells cells' : List m.Value) → cells' ≡ cells → laid after regs xs cells' ≡ laid texts regs xs cells
    same_laid [] cells cells' e = e
    same_laid (o ∷ xs) cells cells' e =
        ap (λ l. set l o.cell.place (meant after (get_or regs o.register value.Nil))) (same_laid xs cells cells' e)
        ∙ ap (λ v. set (laid texts regs xs cells) o.cell.place v) (same_held o.register)

  same_functions : (cs : List Closure) (s : StackView) → AllByRecursion (HasText texts) s.registers →
      AllByRecursion (λ (f : Frame). HasTextsOfKind texts f.kind) s.frames → functions_of after cs s ≡ functions_of texts cs s
  unfolding functions_of
  same_functions cs s values frames = by (innermost s) (got (λ (f : Frame). HasTextsOfKind texts f.kind) (innermost s) s.frames (length s.frames - 1) refl frames)
    where
      by : (q : Option Frame) → IfSome q (λ (f : Frame). HasTextsOfKind texts f.kind) → option_map_or (λ f. with_function f.closure (λ c. running after cs s c f) (waiting after cs s.registers s.cells (reverse (outer s)))) q [] ≡ option_map_or (λ f. with_function f.closure (λ c. running texts cs s c f) (waiting texts cs s.registers s.cells (reverse (outer s)))) q []
      by None h = refl
      by (Some f) h =
          with_same f.closure (λ c. running after cs s c f) (λ c. running texts cs s c f) (waiting after cs s.registers s.cells (reverse (outer s))) (waiting texts cs s.registers s.cells (reverse (outer s)))
          (λ c. same_function s.registers values s.cells cs (max f.registers (s.top - f.base)) (s.top - f.base) c f h)
          (same_waiting s.registers values s.cells cs (reverse (outer s)) (all_reverse (λ (f : Frame). HasTextsOfKind texts f.kind) (outer s) (all_take (λ (f : Frame). HasTextsOfKind texts f.kind) (length s.frames - 1) s.frames frames)))

  -- ---- imports

  same_import : (q : Option Value) → IfSome q (HasText texts) → option_map (meant after) q ≡ option_map (meant texts) q
  same_import None h = refl
  same_import (Some v) h = ap (λ x. Some x) (same_value v h)

  same_imports : (code : Code) → AllByRecursion (λ (f : Function). AllByRecursion (λ v. IfSome v (HasText texts)) f.imports) code.functions →
      imports_in after code ≡ imports_in texts code
  same_imports code h = fun_ext (λ p. fun_ext (λ k. of_function k (slice_get code.functions p) (got (λ (f : Function). AllByRecursion (λ v. IfSome v (HasText texts)) f.imports) (slice_get code.functions p) code.functions p refl h)))
    where
      of_import : (q : Option (Option Value)) → IfSome q (λ v. IfSome v (HasText texts)) → option_map (meant after) (option_and_then (λ v. v) q) ≡ option_map (meant texts) (option_and_then (λ v. v) q)
      of_import None h = refl
      of_import (Some v) h = same_import v h

      of_function : (k : ℕ) (q : Option Function) → IfSome q (λ (f : Function). AllByRecursion (λ v. IfSome v (HasText texts)) f.imports) → option_and_then (λ f. import_in after f k) q ≡ option_and_then (λ f. import_in texts f k) q
      of_function k None h = refl
      of_function k (Some f) h = of_import (slice_get f.imports k) (got (λ v. IfSome v (HasText texts)) (slice_get f.imports k) f.imports k refl h)

-- ---- the state

cells_known : (w : LibWorld) → IsWorld w → AllByRecursion (HasText w.names) (objects_of w.arena w.owner).cells
unfolding cell_at
cells_known w is =
    all_found (HasText w.names) value.Nil (objects_of w.arena w.owner).cells
    (λ i. subst (λ u. HasText w.names (get_or (objects_of w.arena u).cells i value.Nil)) (wide_narrow w.owner) (is.own.numbered.cells (record { owner = narrow w.owner; place = i })))

-- the state, with the texts that each part is told by
abbrev named_from : store.Store → (waits imports : List m.Bytes) → LibWorld → Code → StackView → Focus → List Reply → machine.State
named_from st ws is w code s x replies =
    record {
      focus = x;
      functions = functions_of w.names (objects_of w.arena w.owner).closures s;
      world = record {
        objects = record { store = st; bodies = map body_of (objects_of w.arena w.owner).closures; cells = laid w.names s.registers s.cells (kept_cells w.names w.owner w.arena) };
        waits = map (wait_of ws) (reverse s.frames) ∷ replicate (length (objects_of w.arena w.owner).threads - 1) [];
        elsewhere = λ co. [];
        marked = marked_in w;
        imports = imports_in is code;
        replies = replies;
      };
    }

pub part_named : (w : LibWorld) (names : List m.Bytes) (code : Code) (s : StackView) (x : Focus) (replies : List Reply) → Extends w.names names → AreTexts names →
    IsMachine w s → KnowsTexts w code s → part (record w { names = names }) code s x replies ≡ part w code s x replies
unfolding part cells_of
part_named w names code s x replies extends interned is known =
    let w' : LibWorld = record w { names = names } in
    let cs : List Closure = (objects_of w.arena w.owner).closures in
    let texts : AllByRecursion (HasText w.names) s.registers = all_on (MayUseIn w) (HasText w.names) (λ v h. h.1) s.registers is.values in
    let functions = same_functions w.names names extends cs s texts known.frames in
    let cells = same_laid w.names names extends s.registers texts s.cells s.cells (kept_cells w.names w.owner w.arena) (kept_cells names w.owner w.arena) (same_values w.names names extends (objects_of w.arena w.owner).cells (cells_known w is.world)) in
    let waits = map_all (wait_of names) (wait_of w.names) (λ (f : Frame). HasTextsOfKind w.names f.kind) (same_wait w.names names extends) (reverse s.frames) (all_reverse (λ (f : Frame). HasTextsOfKind w.names f.kind) s.frames known.frames) in
    ap (λ fs. state_with w' code s.frames x replies fs (laid names s.registers s.cells (kept_cells names w.owner w.arena))) functions
    ∙ ap (λ cs'. state_with w' code s.frames x replies (functions_of w.names cs s) cs') cells
    ∙ ap (λ st. named_from st names names w code s x replies) (texts_store w is.world names extends interned)
    ∙ ap (λ l. record (named_from (store_in w) w.names names w code s x replies) { world = record (named_from (store_in w) w.names names w code s x replies).world { waits = l ∷ replicate (length (objects_of w.arena w.owner).threads - 1) [] } }) waits
    ∙ ap (λ i. record (named_from (store_in w) w.names w.names w code s x replies) { world = record (named_from (store_in w) w.names w.names w code s x replies).world { imports = i } }) (same_imports w.names names extends code known.imports)

-- ---- what goes on to hold

longer : (texts after : List m.Bytes) → Extends texts after → length texts ≤ length after
longer texts after extends =
    omega (arith, ap length extends.appended, length-append texts extends.more)

pub machine_named : (w : LibWorld) (names : List m.Bytes) (s : StackView) → Extends w.names names → AreTexts names → IsMachine w s →
    IsMachine (record w { names = names }) s
machine_named w names s extends interned is =
    let keeps = texts_keep w is.world names extends interned in
    record {
      world = keeps.world;
      cells = is.cells;
      own = is.own;
      values = all_on (MayUseIn w) (MayUseIn (record w { names = names })) (may_use_on w (record w { names = names }) keeps) s.registers is.values;
      functions = is.functions;
      kinds = kinds_on w (record w { names = names }) (may_use_on w (record w { names = names }) keeps) (longer w.names names extends) s.frames is.kinds;
      shared = is.shared;
      main = is.main;
      marks = is.marks;
    }

kind_on : (texts after : List m.Bytes) → Extends texts after → (k : ReturnKind) → HasTextsOfKind texts k → HasTextsOfKind after k
kind_on texts after extends (kind.Join to left next) h = all_on (HasText texts) (HasText after) (more.text_more texts after extends) left h
kind_on texts after extends (kind.Import to names next) h = all_on (λ (x : StrId). x.0 < length texts) (λ (x : StrId). x.0 < length after) (λ x l. more.number_on texts after extends x.0 l) names h
kind_on texts after extends (kind.Library rest) h = all_on (HasText texts) (HasText after) (more.text_more texts after extends) rest.args.items h
kind_on texts after extends (kind.Protected handler) h = some_on (HasText texts) (HasText after) (more.text_more texts after extends) handler h
kind_on texts after extends kind.Idle h = tt
kind_on texts after extends (kind.Call to results next) h = tt
kind_on texts after extends (kind.Answer to next) h = tt
kind_on texts after extends (kind.Store next) h = tt
kind_on texts after extends (kind.Jump by wanted next) h = tt
kind_on texts after extends (kind.Iterate base by) h = tt
kind_on texts after extends (kind.Turn base variables by next) h = tt
kind_on texts after extends kind.Handler h = tt
kind_on texts after extends (kind.Coroutine wrapped) h = tt

pub knows_named : (w : LibWorld) (names : List m.Bytes) (code : Code) (s : StackView) → Extends w.names names → KnowsTexts w code s → KnowsTexts (record w { names = names }) code s
knows_named w names code s extends known =
    record {
      frames = all_on (λ (f : Frame). HasTextsOfKind w.names f.kind) (λ (f : Frame). HasTextsOfKind names f.kind) (λ f. kind_on w.names names extends f.kind) s.frames known.frames;
      imports = all_on (λ (f : Function). AllByRecursion (λ v. IfSome v (HasText w.names)) f.imports) (λ (f : Function). AllByRecursion (λ v. IfSome v (HasText names)) f.imports) (λ f. all_on (λ v. IfSome v (HasText w.names)) (λ v. IfSome v (HasText names)) (λ v. some_on (HasText w.names) (HasText names) (more.text_more w.names names extends) v) f.imports) code.functions known.imports;
    }
