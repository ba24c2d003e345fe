-- What frames may wait for.
use Rattle.std.proofs.Common.{◌≡◌, ◌<◌, ◌≤◌, List, [], ◌∷◌, length, Option, Some, None, IfSome, sym, subst, arith}
use Rattle.std.specs.List.{AllByRecursion}
use Rattle.byte_text.specs.declared.fixed.StrId.{StrId}
use Rattle.value_model.specs.declared.ids.ClosureId.{ClosureId}
use Rattle.value_model.specs.declared.value.Value.{Value}
use Rattle.luau_tables.specs.Worlds.{MayUseIn}
use Rattle.luau_tables.specs.declared.globals.LibWorld.{LibWorld}
use Rattle.call_frames.specs.declared.frame.Frame.{Frame}
use Rattle.call_frames.specs.declared.frame.ReturnKind.{ReturnKind}
use Rattle.call_frames.specs.declared.frame.ReturnKind.TheVariants as kind
use Rattle.machine_world.specs.Sound.{MayWaitInCode, MayWaitInLibrary, MayWaitIn, MayWait}

pub all_on : {X : Type 0} (P Q : X → Type 0) → ((x : X) → P x → Q x) → (xs : List X) → AllByRecursion P xs → AllByRecursion Q xs
all_on P Q f [] h = tt
all_on P Q f (x ∷ xs) h = (f x h.0, all_on P Q f xs h.1)

pub some_on : {X : Type 0} (P Q : X → Type 0) → ((x : X) → P x → Q x) → (r : Option X) → IfSome r P → IfSome r Q
some_on P Q f None h = h
some_on P Q f (Some x) h = f x h

-- by what closure a frame has
pub waits_in_code : (w : LibWorld) (f : Frame) (c : ClosureId) → f.closure ≡ Some c → MayWaitInCode w f.kind → MayWait w f
waits_in_code w f c e h = subst (λ q. MayWaitIn w q f.kind) (sym e) h

pub waits_in_library : (w : LibWorld) (f : Frame) → f.closure ≡ None → MayWaitInLibrary w f.kind → MayWait w f
waits_in_library w f e h = subst (λ q. MayWaitIn w q f.kind) (sym e) h

pub of_code : (w : LibWorld) (f : Frame) (c : ClosureId) → f.closure ≡ Some c → MayWait w f → MayWaitInCode w f.kind
of_code w f c e h = subst (λ q. MayWaitIn w q f.kind) e h

pub of_library : (w : LibWorld) (f : Frame) → f.closure ≡ None → MayWait w f → MayWaitInLibrary w f.kind
of_library w f e h = subst (λ q. MayWaitIn w q f.kind) e h

-- ---- another world, in which the script may use what it might, and no text has gone

module _ (w w' : LibWorld) (uses : (v : Value) → MayUseIn w v → MayUseIn w' v) (more : length w.names ≤ length w'.names) where
  pub code_on : (k : ReturnKind) → MayWaitInCode w k → MayWaitInCode w' k
  code_on (kind.Join to left next) h = all_on (MayUseIn w) (MayUseIn w') uses left h
  code_on (kind.Import to names next) h = all_on (λ (x : StrId). x.0 < length w.names) (λ (x : StrId). x.0 < length w'.names) (λ x lt. omega (arith, lt, more)) names h
  code_on kind.Idle h = tt
  code_on (kind.Call to results next) h = tt
  code_on (kind.Answer to next) h = tt
  code_on (kind.Store next) h = tt
  code_on (kind.Jump by wanted next) h = tt
  code_on (kind.Iterate base by) h = tt
  code_on (kind.Turn base variables by next) h = tt
  code_on (kind.Protected handler) h = absurd h
  code_on kind.Handler h = absurd h
  code_on (kind.Library rest) h = absurd h
  code_on (kind.Coroutine wrapped) h = absurd h

  pub library_on : (k : ReturnKind) → MayWaitInLibrary w k → MayWaitInLibrary w' k
  library_on (kind.Protected handler) h = some_on (MayUseIn w) (MayUseIn w') uses handler h
  library_on kind.Handler h = tt
  library_on (kind.Library rest) h = (h.0, h.1, all_on (MayUseIn w) (MayUseIn w') uses rest.args.items h.2)
  library_on kind.Idle h = absurd h
  library_on (kind.Call to results next) h = absurd h
  library_on (kind.Answer to next) h = absurd h
  library_on (kind.Store next) h = absurd h
  library_on (kind.Jump by wanted next) h = absurd h
  library_on (kind.Join to left next) h = absurd h
  library_on (kind.Import to names next) h = absurd h
  library_on (kind.Iterate base by) h = absurd h
  library_on (kind.Turn base variables by next) h = absurd h
  library_on (kind.Coroutine wrapped) h = absurd h

  wait_on : (q : Option ClosureId) (k : ReturnKind) → MayWaitIn w q k → MayWaitIn w' q k
  wait_on None k h = library_on k h
  wait_on (Some c) k h = code_on k h

  pub kinds_on : (fs : List Frame) → AllByRecursion (MayWait w) fs → AllByRecursion (MayWait w') fs
  kinds_on fs h = all_on (MayWait w) (MayWait w') (λ f. wait_on f.closure f.kind) fs h
