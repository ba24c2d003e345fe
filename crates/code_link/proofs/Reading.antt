-- Linked code is read as its items: what stands in it is what decoding finds there.
use Rattle.std.proofs.Common.{refl, ap, ℕ, ◌+◌, ℤ, List, length, drop, arith, length-append}
use Rattle.std.specs.Prelude.{FitsSigned}
use Rattle.std.specs.Int.{w16}
use Rattle.std.proofs.lemmas.List.{length-drop}
use Rattle.op_words.specs.declared.insn.Insn.{Insn as Instruction}
use Rattle.op_words.specs.declared.insn.Insn.TheVariants.{Jump, JumpBack, JumpIf, JumpIfNot, JumpIfEq, JumpIfLe, JumpIfLt, JumpIfNotEq, JumpIfNotLe, JumpIfNotLt, ForNPrep, ForNLoop, ForGPrep, ForGLoop, JumpXEqKNil, JumpXEqKB, JumpXEqKN, JumpXEqKS}
use Rattle.op_words.specs.Encoding.{encoded, IsFit}
use Rattle.op_words.specs.Decoding.{StandsAt}
use Rattle.code_link.specs.Linking.{jumping, WordsAt}

-- an instruction whose fields fit stands where its words are
pub stands_at : (code : List ℕ) (at : ℕ) (insn : Instruction) → WordsAt code at insn → IsFit insn → StandsAt code at insn (at + length (encoded insn))
stands_at code at insn words fit =
    record {
      fit = fit;
      spelled = words;
      there = refl;
      within = omega (arith, ap length words, length-drop at code, length-append (encoded insn) (drop (at + length (encoded insn)) code));
    }

-- a jump whose fields fit does so at each distance that fits
pub IsFit-jumping : (insn : Instruction) (by : ℤ) → IsFit insn → FitsSigned w16 by → IsFit (jumping insn by)
IsFit-jumping (Jump _) by fit f = record { fields = (fit.fields.0, f); aux = fit.aux }
IsFit-jumping (JumpBack _) by fit f = record { fields = (fit.fields.0, f); aux = fit.aux }
IsFit-jumping (JumpIf value _) by fit f = record { fields = (fit.fields.0, f); aux = fit.aux }
IsFit-jumping (JumpIfNot value _) by fit f = record { fields = (fit.fields.0, f); aux = fit.aux }
IsFit-jumping (JumpIfEq left _ right) by fit f = record { fields = (fit.fields.0, f); aux = fit.aux }
IsFit-jumping (JumpIfLe left _ right) by fit f = record { fields = (fit.fields.0, f); aux = fit.aux }
IsFit-jumping (JumpIfLt left _ right) by fit f = record { fields = (fit.fields.0, f); aux = fit.aux }
IsFit-jumping (JumpIfNotEq left _ right) by fit f = record { fields = (fit.fields.0, f); aux = fit.aux }
IsFit-jumping (JumpIfNotLe left _ right) by fit f = record { fields = (fit.fields.0, f); aux = fit.aux }
IsFit-jumping (JumpIfNotLt left _ right) by fit f = record { fields = (fit.fields.0, f); aux = fit.aux }
IsFit-jumping (ForNPrep base _) by fit f = record { fields = (fit.fields.0, f); aux = fit.aux }
IsFit-jumping (ForNLoop base _) by fit f = record { fields = (fit.fields.0, f); aux = fit.aux }
IsFit-jumping (ForGPrep base _) by fit f = record { fields = (fit.fields.0, f); aux = fit.aux }
IsFit-jumping (ForGLoop base _ variables) by fit f = record { fields = (fit.fields.0, f); aux = fit.aux }
IsFit-jumping (JumpXEqKNil value _ test) by fit f = record { fields = (fit.fields.0, f); aux = fit.aux }
IsFit-jumping (JumpXEqKB value _ test) by fit f = record { fields = (fit.fields.0, f); aux = fit.aux }
IsFit-jumping (JumpXEqKN value _ test) by fit f = record { fields = (fit.fields.0, f); aux = fit.aux }
IsFit-jumping (JumpXEqKS value _ test) by fit f = record { fields = (fit.fields.0, f); aux = fit.aux }
IsFit-jumping insn by fit f = fit
