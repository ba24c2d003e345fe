use Rattle.std.proofs.Common.{◌∙◌, refl, sym, ap, subst, [], arith}
use Rattle.std.proofs.lemmas.Option.{slice_get_within}
use Rattle.op_words.specs.Chunks.{chunk_of}
use Rattle.value_model.specs.Fresh.{NoField}
use Rattle.call_frames.specs.Stacks.{StackView}
use Rattle.machine_meaning.specs.States.{Run}
use Rattle.machine_meaning.specs.Runs.{loaded}
use Rattle.machine_meaning.specs.WellFormed.{IsWellFormed}
use Rattle.machine_code.specs.Code.{IsCodeOf}
use Rattle.machine_code.specs.declared.code.Code.{Code}
use Rattle.machine_world.specs.Parts.{entered, part}
use Rattle.machine_load.specs.Loaded.{KnowsImports}
use Rattle.machine_load.proofs.Decoding.{is_code, knows_imports}
use Rattle.machine_load.proofs.Loads.{main_there, state_begins}
use Rattle.machine_load.proofs.loading.load.Goals as goal

pub function-requires : goal.function-requires
function-requires c =
    let chunk = c.chunk-chunk.result.now in
    let sound = subst IsWellFormed (sym c.chunk-chunk.ensures.chunk) c.chunk-chunk.ensures.well_formed in
    let there = main_there (chunk_of chunk) (c.loaded_is_safe.ensures (chunk_of chunk) sound NoField []) in
    let code = is_code c.begin.new.world chunk c.in_ok-code.code c.in_ok-code.ensures in
    omega (arith, slice_get_within (chunk_of chunk).protos chunk.main there.0 there.1, code.count)

pub returns : goal.returns
returns c = λ host starts.
    let chunk = c.chunk-chunk.result.now in
    let w = c.begin.new.world in
    let code = c.in_ok-code.code in
    let machine = c.enter.new.self in
    let f = c.function.result.now in
    let sound = subst IsWellFormed (sym c.chunk-chunk.ensures.chunk) c.chunk-chunk.ensures.well_formed in
    let main = main_there (chunk_of chunk) (c.loaded_is_safe.ensures (chunk_of chunk) sound NoField []) in
    let is = is_code w chunk code c.in_ok-code.ensures in
    let size = (is.functions chunk.main main.0 f main.1 c.function.ensures).registers in
    record {
      code = subst (λ k. IsCodeOf k w.names machine.code) c.chunk-chunk.ensures.chunk
          (subst (λ (k : Code). IsCodeOf (chunk_of chunk) w.names k) (sym c.in_ok-enter.ensures.code) is);
      state = λ replies.
          ap (λ (k : Code). part w k machine.stack Run replies) c.in_ok-enter.ensures.code
          ∙ c.in_ok-enter.ensures.entered Run replies
          ∙ ap (λ n. entered n f.registers [] [] (part w code c.new.result Run replies)) c.in_ok-function.ensures.main
          ∙ ap (λ (s : StackView). entered 0 f.registers [] [] (part w code s Run replies)) c.new.ensures
          ∙ state_begins chunk host c.note_strings.new.world w code f chunk.main refl c.in_ok-function.ensures.started
          (c.in_ok-numbers.ensures.store ∙ starts) c.in_ok-code.ensures c.function.ensures main.0 main.1 size replies
          ∙ ap (λ k. loaded k host replies) c.chunk-chunk.ensures.chunk;
      imports = subst (λ (k : Code). KnowsImports w.names k) (sym c.in_ok-enter.ensures.code) (knows_imports w chunk code c.in_ok-code.ensures);
      sound = c.in_ok-enter.ensures.sound;
      goes = c.in_ok-enter.ensures.goes;
    }
