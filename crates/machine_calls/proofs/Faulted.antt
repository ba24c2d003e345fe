-- The text of a run error comes behind the texts of the interner, and is raised.
use Rattle.std.proofs.Common.{◌≡◌, sym, ap, ◌∙◌, ℕ, zero, suc, ◌<◌, List, [], ◌∷◌, length, Option, Some, None, IfSome, slice_get, arith}
use Rattle.std.specs.List.{AllByRecursion}
use Rattle.std.proofs.lemmas.Option.{get_or_from_slice_get}
use Rattle.byte_text.specs.declared.fixed.StrId.{StrId}
use Rattle.value_model.specs.Errors.{error_text}
use Rattle.value_model.specs.Parts.{meant, meant_error, bytes_at}
use Rattle.value_model.specs.Values as m
use Rattle.value_model.specs.declared.error.RunErr.{RunErr}
use Rattle.value_model.specs.declared.ids.ClosureId.{ClosureId}
use Rattle.value_model.specs.declared.value.Value.TheVariants as value
use Rattle.bounded_runs.specs.Runs.{Goes}
use Rattle.luau_tables.specs.Own.{AreTexts, HasText}
use Rattle.luau_tables.specs.Worlds.{Extends, MayUseIn}
use Rattle.luau_tables.specs.declared.globals.LibWorld.{LibWorld}
use Rattle.luau_tables.proofs.MoreTexts as more
use Rattle.call_frames.specs.declared.frame.Frame.{Frame}
use Rattle.call_frames.specs.declared.frame.ReturnKind.{ReturnKind}
use Rattle.call_frames.specs.declared.frame.ReturnKind.TheVariants as kind
use Rattle.call_frames.specs.Stacks.{StackView}
use Rattle.op_words.specs.Chunks.{ChunkOf}
use Rattle.machine_meaning.specs.States as machine
use Rattle.machine_code.specs.declared.code.Code.{Code}
use Rattle.machine_code.specs.declared.code.Function.{Function}
use Rattle.machine_world.specs.Parts.{part}
use Rattle.machine_world.specs.Sound.{MayWaitInCode, MayWaitInLibrary, MayWaitIn, MayWait, IsMachine}
use Rattle.machine_world.proofs.FrameKinds.{all_on, some_on}
use Rattle.machine_rows.specs.Texts.{HasTextsOfKind, KnowsTexts}
use Rattle.machine_rows.proofs.Named.{part_named}
use Rattle.machine_calls.specs.Moving.{GoesTo, KnowsImports}

-- ---- texts in what frames wait for

code_texts : (w : LibWorld) (k : ReturnKind) → MayWaitInCode w k → HasTextsOfKind w.names k
code_texts w (kind.Join to left next) h = all_on (MayUseIn w) (HasText w.names) (λ v u. u.1) left h
code_texts w (kind.Import to names next) h = h
code_texts w (kind.Library rest) h = absurd h
code_texts w (kind.Protected handler) h = absurd h
code_texts w kind.Idle h = tt
code_texts w (kind.Call to results next) h = tt
code_texts w (kind.Answer to next) h = tt
code_texts w (kind.Store next) h = tt
code_texts w (kind.Jump by wanted next) h = tt
code_texts w (kind.Iterate base by) h = tt
code_texts w (kind.Turn base variables by next) h = tt
code_texts w kind.Handler h = tt
code_texts w (kind.Coroutine wrapped) h = tt

library_texts : (w : LibWorld) (k : ReturnKind) → MayWaitInLibrary w k → HasTextsOfKind w.names k
library_texts w (kind.Protected handler) h = some_on (MayUseIn w) (HasText w.names) (λ v u. u.1) handler h
library_texts w (kind.Library rest) h = all_on (MayUseIn w) (HasText w.names) (λ v u. u.1) rest.args.items h.2
library_texts w (kind.Join to left next) h = absurd h
library_texts w (kind.Import to names next) h = absurd h
library_texts w kind.Idle h = tt
library_texts w (kind.Call to results next) h = tt
library_texts w (kind.Answer to next) h = tt
library_texts w (kind.Store next) h = tt
library_texts w (kind.Jump by wanted next) h = tt
library_texts w (kind.Iterate base by) h = tt
library_texts w (kind.Turn base variables by next) h = tt
library_texts w kind.Handler h = tt
library_texts w (kind.Coroutine wrapped) h = tt

kind_texts : (w : LibWorld) (q : Option ClosureId) (k : ReturnKind) → MayWaitIn w q k → HasTextsOfKind w.names k
kind_texts w None k h = library_texts w k h
kind_texts w (Some c) k h = code_texts w k h

-- each has its number
pub knows_texts : (w : LibWorld) (code : Code) (s : StackView) → IsMachine w s → KnowsImports w.names code → KnowsTexts w code s
knows_texts w code s is imports =
    record {
      frames = all_on (MayWait w) (λ (f : Frame). HasTextsOfKind w.names f.kind) (λ f. kind_texts w f.closure f.kind) s.frames is.kinds;
      imports = imports;
    }

-- those in imports keep theirs
pub imports_known : (texts after : List m.Bytes) (code : Code) → Extends texts after → KnowsImports texts code → KnowsImports after code
imports_known texts after code extends h =
    all_on (λ (f : Function). AllByRecursion (λ v. IfSome v (HasText texts)) f.imports) (λ (f : Function). AllByRecursion (λ v. IfSome v (HasText after)) f.imports) (λ f. all_on (λ v. IfSome v (HasText texts)) (λ v. IfSome v (HasText after)) (λ v. some_on (HasText texts) (HasText after) (more.text_more texts after extends) v) f.imports) code.functions h

-- ---- the text is raised

pub faults : (chunk : ChunkOf) (w : LibWorld) (names : List m.Bytes) (code : Code) (s : StackView) (e : RunErr) (x : StrId) (text : m.Bytes) → IsMachine w s → KnowsImports w.names code → Extends w.names names → AreTexts names → slice_get names x.0 ≡ Some text → text ≡ error_text (meant_error w.names e) → GoesTo chunk w code s (machine.Fault (meant_error w.names e)) (record w { names = names }) s (machine.Raise (meant names (value.Str x)))
unfolding part meant
faults chunk w names code s e x text is imports extends interned at is_text replies =
    let bytes : error_text (meant_error w.names e) ≡ bytes_at names x.0 = sym is_text ∙ sym (get_or_from_slice_get names x.0 text [] at) in
    ap (λ t. Goes [] (part w code s (machine.Raise (m.Text t)) replies)) bytes
    ∙ sym (ap (λ t. Goes [] t) (part_named w names code s (machine.Raise (m.Text (bytes_at names x.0))) replies extends interned is (knows_texts w code s is imports)))

text_low : (names : List m.Bytes) (i : ℕ) (t : m.Bytes) → slice_get names i ≡ Some t → i < length names
text_low [] i t e = absurd (cc)
text_low (y ∷ ys) zero t e = omega arith
text_low (y ∷ ys) (suc i) t e = let low : i < length ys = text_low ys i t e in omega (arith, low)

pub text_usable : (w : LibWorld) (names : List m.Bytes) (x : StrId) (t : m.Bytes) → slice_get names x.0 ≡ Some t → MayUseIn (record w { names = names }) (value.Str x)
text_usable w names x t e = (tt, text_low names x.0 t e)
