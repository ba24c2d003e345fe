-- Which texts a script's running state holds beside those of its values and objects.
use Rattle.std.specs.Prelude.{◌<◌, List, length, IfSome}
use Rattle.std.specs.List.{AllByRecursion}
use Rattle.byte_text.specs.declared.fixed.StrId.{StrId}
use Rattle.value_model.specs.Values.{Bytes}
use Rattle.luau_tables.specs.Own.{HasText}
use Rattle.luau_tables.specs.declared.globals.LibWorld.{LibWorld}
use Rattle.call_frames.specs.declared.frame.Frame.{Frame}
use Rattle.call_frames.specs.declared.frame.ReturnKind.{ReturnKind}
use Rattle.call_frames.specs.declared.frame.ReturnKind.TheVariants as kind
use Rattle.call_frames.specs.Stacks.{StackView}
use Rattle.machine_code.specs.declared.code.Code.{Code}
use Rattle.machine_code.specs.declared.code.Function.{Function}

-- what a frame that waits holds
abbrev pub HasTextsOfKind : (texts : List Bytes) → ReturnKind → Type 0
HasTextsOfKind texts (kind.Join to left next) = AllByRecursion (HasText texts) left
HasTextsOfKind texts (kind.Import to names next) = AllByRecursion (λ (x : StrId). x.0 < length texts) names
HasTextsOfKind texts (kind.Library rest) = AllByRecursion (HasText texts) rest.args.items
HasTextsOfKind texts (kind.Protected handler) = IfSome handler (HasText texts)
HasTextsOfKind texts k = Unit {0}

-- Each text in what frames wait for, and in what imports hold, has its number
pub record KnowsTexts (w : LibWorld) (code : Code) (s : StackView) : Type 0 where
  pub frames : AllByRecursion (λ (f : Frame). HasTextsOfKind w.names f.kind) s.frames
  pub imports : AllByRecursion (λ (f : Function). AllByRecursion (λ v. IfSome v (HasText w.names)) f.imports) code.functions
