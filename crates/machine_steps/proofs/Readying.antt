-- What a safe state of well-formed code says of the machine's own.
use Rattle.std.proofs.Common.{◌≡◌, ℕ, ◌+◌, ◌-◌, ◌<◌, ◌^◌, ℤ, pos, negsuc, Bool, true, false, List, [], ◌∷◌, length, Option, Some, None, IsSomeAnd, refl, sym, ◌∙◌, ap, subst, arith, get_or}
use Rattle.std.specs.Prelude.{MatchOption, slice_get}
use Rattle.std.specs.Option.{option_and_then}
use Rattle.std.proofs.lemmas.Option.{slice_get_within}
use Rattle.std.proofs.lemmas.List.{length-map}
use Rattle.value_model.specs.Values.{Bytes}
use Rattle.value_model.specs.declared.event.Reply.{Reply}
use Rattle.value_arena.specs.declared.closure.Closure.{Closure}
use Rattle.value_arena.specs.Objects.{no_closure}
use Rattle.value_arena.specs.Arenas.{objects_of, closure_at}
use Rattle.luau_tables.specs.declared.globals.LibWorld.{LibWorld}
use Rattle.call_frames.specs.Stacks.{StackView}
use Rattle.call_frames.specs.Cells.{innermost}
use Rattle.op_words.specs.declared.chunk.Const.{Const}
use Rattle.op_words.specs.Decoding.{insn_at}
use Rattle.op_words.specs.Chunks.{ChunkOf, ProtoOf}
use Rattle.machine_meaning.specs.Chunks.{proto_at}
use Rattle.machine_meaning.specs.Constants.{constant_at}
use Rattle.machine_meaning.specs.Needs.{Want, registers_of, constants_of, upvalue_of, jump_of, goes_back}
use Rattle.machine_meaning.specs.States as machine
use Rattle.machine_meaning.specs.States.{Run}
use Rattle.machine_code.specs.Code.{IsCodeOf, IsFunctionOf, IsConstant, value_or_nil}
use Rattle.machine_code.specs.declared.code.Code.{Code}
use Rattle.machine_code.specs.declared.code.Function.{Function}
use Rattle.machine_code.proofs.Lists.{some_at, all_at}
use Rattle.machine_code.proofs.Reading.{line_fetched, read_within}
use Rattle.machine_code.specs.Laws as decoded
use Rattle.machine_world.specs.Functions.{running, place_of_cell}
use Rattle.machine_world.specs.Rows.{place_here, proto_here}
use Rattle.machine_world.specs.Sound.{IsLuau, Runs, IsMachine, GoesOn, HasRegister, HasUpvalue}
use Rattle.machine_world.proofs.Frames.{Inner, inner, of_frame}
use Rattle.machine_world.proofs.Going.{runs_on}
use Rattle.machine_world.proofs.Here.{Here, here}
use Rattle.machine_world.proofs.Upvalues.{function_there, closure_is}
use Rattle.checked_runs.specs.Places.{LeadsOn, LeadsBack}
use Rattle.checked_runs.specs.Safe.{Each, IsSafe}
use Rattle.checked_runs.specs.Operands.{AreOwn as AreOwnOf, IsConstant as IsConstantOf, HasOperands}
use Rattle.checked_runs.proofs.Lines.{line_read}
use Rattle.checked_runs.proofs.Operands.{operands_are_there}
use Rattle.machine_steps.specs.Ready.{AreOwn, HasConstant, IsReady, Jumps, function_here}
use Rattle.machine_steps.specs.Laws.{IsAtLine, SafeCodeIsReady}
use Rattle.machine_steps.proofs.Beyond.{running_is}
use Rattle.machine_steps.proofs.Constants.{some_is, some_on}

each_on : {X : Type 0} (P Q : X → Type 0) → ((x : X) → P x → Q x) → (xs : List X) → Each P xs → Each Q xs
each_on P Q f [] h = tt
each_on P Q f (x ∷ xs) h = (f x h.0, each_on P Q f xs h.1)

match_on : {X : Type 0} (P Q : X → Type 0) → ((x : X) → P x → Q x) → (o : Option X) → MatchOption o (Unit {0}) P → MatchOption o (Unit {0}) Q
match_on P Q f None h = h
match_on P Q f (Some x) h = f x h

-- ---- constants

-- each constant of the chunk's function is one of the decoded function
module _ (chunk : ChunkOf) (texts : List Bytes) (n : ℕ) (p : ProtoOf) (at : proto_at chunk n ≡ Some p) (o : Option Function) (f : Function) (is : o ≡ Some f)
    (of : IsFunctionOf chunk texts p f) where
  constant_kept : (j : ℕ) (c : Const) → slice_get p.consts j ≡ Some c → IsSomeAnd (slice_get f.consts j) (IsConstant texts)
  constant_kept j c e =
      let count : length f.consts ≡ length p.consts = sym (length-map f.consts _) ∙ ap length of.consts.values ∙ length-map p.consts (value_or_nil chunk) in
      let low : j < length f.consts = omega (arith, slice_get_within p.consts j c e, count) in
      let v = some_at f.consts j low in
      some_is (slice_get f.consts j) v.0 (IsConstant texts) v.1 (all_at (IsConstant texts) f.consts j v.0 of.consts.plain v.1)

  constant_decoded : (k : ℤ) (w : Want) → IsConstantOf chunk n k w → HasConstant texts o k
  constant_decoded (pos j) w i =
      let there : constant_at chunk n (pos j) ≡ slice_get p.consts j = ap (λ q. option_and_then (λ (q : ProtoOf). slice_get q.consts j) q) at in
      some_is o f (λ f. IsSomeAnd (slice_get f.consts j) (IsConstant texts)) is (constant_kept j i.constant (sym there ∙ i.is))
  constant_decoded (negsuc j) w i = absurd (let e = i.is in cc)

-- ---- the function that runs

module _ (w : LibWorld) (s : StackView) (runs : Runs s) (is : IsMachine w s) where
  abbrev i : Inner s
  i = inner s runs

  luau : IsLuau i.frame
  luau = of_frame s IsLuau i.frame i.is runs

  abbrev run : machine.Frame
  run = running w.names (objects_of w.arena w.owner).closures s i.closure i.frame

  register_own : (r : ℕ) → r < run.size → HasRegister s r
  register_own r l = some_is (innermost s) i.frame (λ f. IsLuau f × (r < f.registers)) i.is (luau, l)

  upvalue_own : (u : ℕ) → u < length run.upvalues → HasUpvalue w.arena s u
  upvalue_own u l =
      let cs : List Closure = (objects_of w.arena w.owner).closures in
      let there = function_there w.owner w.arena s.frames (length s.frames - 1) i.frame i.closure is.functions i.is i.of in
      let g : Closure = get_or cs i.closure.place no_closure in
      let low : u < length g.cells = subst (λ n. u < n) (length-map g.cells place_of_cell) l in
      let mine : u < length (closure_at w.arena i.closure).cells = subst (λ (g : Closure). u < length g.cells) (sym (closure_is w.owner w.arena i.closure there.0)) low in
      some_is (innermost s) i.frame (λ f. IsSomeAnd f.closure (λ c. u < length (closure_at w.arena c).cells)) i.is
      (some_is i.frame.closure i.closure (λ c. u < length (closure_at w.arena c).cells) i.of mine)

-- ---- jumps

jump_on : (b : Bool) (place count : ℕ) (p : ProtoOf) (by : ℤ) → length p.code ≡ count → count < 2 ^ 64 → (b ≡ false → LeadsOn p place by) →
    (b ≡ true → LeadsBack place by) → Jumps b place by
jump_on true place count p by e small on back = let l = back refl in (l.words, l.is, l.within)
jump_on false place count p by e small on back =
    let l = on refl in
    let t = l.stands in
    let read = (line_read p.code t.before t.line t.after t.split).read in
    let low = read_within p.code t.line.place (t.line.insn, t.line.next) read in
    (l.words, l.is, omega (arith, low, t.there, e, small))

-- ---- all of it

module _ (chunk : ChunkOf) (w : LibWorld) (code : Code) (s : StackView) (replies : List Reply) (of : IsCodeOf chunk w.names code) (is : IsMachine w s)
    (goes : GoesOn s) (o : HasOperands chunk (here w code s replies (runs_on s goes)).frame) where
  abbrev h : Here w code s replies
  h = here w code s replies (runs_on s goes)

  same : run w s (runs_on s goes) is ≡ h.frame
  same = running_is w s (inner s (runs_on s goes)).frame (inner s (runs_on s goes)).closure (inner s (runs_on s goes)).is (inner s (runs_on s goes)).of code replies h

  n : ℕ
  n = proto_here w code s

  there : proto_at chunk n ≡ Some o.code
  unfolding n
  there = ap (proto_at chunk) (sym h.proto) ∙ o.is

  read : insn_at o.code.code (place_here s) ≡ Some (o.insn, o.next)
  read = ap (insn_at o.code.code) (sym h.place) ∙ o.read

  found : decoded.HasLine code n (place_here s) o.insn o.next
  found = line_fetched chunk w.names code n o.code (place_here s) o.insn o.next of there read

  function_is : IsFunctionOf chunk w.names o.code found.function
  function_is = of.functions n o.code found.function there found.there

  ready : IsSomeAnd (function_here w code s) (λ f. length f.lines < 2 ^ 64) → IsReady w code s o.insn
  unfolding n
  ready small =
      let runs = runs_on s goes in
      let lines = some_on (function_here w code s) found.function (λ f. length f.lines < 2 ^ 64) found.there small in
      record {
        runs = o.runs;
        known = o.known;
        own = o.own;
        registers =
            each_on (AreOwnOf h.frame.size) (AreOwn s) (λ r own. λ k l. register_own w s runs is (r.0 + k) (subst (λ (g : machine.Frame). r.0 + k < g.size) (sym same) (own k l)))
            (registers_of o.insn) o.registers;
        constants =
            each_on (λ (k : ℤ × Want). IsConstantOf chunk h.frame.proto k.0 k.1) (λ k. HasConstant w.names (function_here w code s) k.0)
            (λ k i. constant_decoded chunk w.names n o.code there (function_here w code s) found.function found.there function_is k.0 k.1 (subst (λ j. IsConstantOf chunk j k.0 k.1) h.proto i))
            (constants_of o.insn) o.constants;
        upvalue =
            match_on (λ u. u < length h.frame.upvalues) (HasUpvalue w.arena s) (λ u l. upvalue_own w s runs is u (subst (λ (g : machine.Frame). u < length g.upvalues) (sym same) l))
            (upvalue_of o.insn) o.upvalue;
        jump = jumps lines (jump_of o.insn) o.jump_on o.jump_back;
      }
    where
      jumps : length found.function.lines < 2 ^ 64 → (q : Option ℤ) → (goes_back o.insn ≡ false → MatchOption q (Unit {0}) (λ by. LeadsOn o.code h.frame.place by)) →
          (goes_back o.insn ≡ true → MatchOption q (Unit {0}) (λ by. LeadsBack h.frame.place by)) → MatchOption q (Unit {0}) (Jumps (goes_back o.insn) (place_here s))
      jumps small None on back = tt
      jumps small (Some by) on back =
          subst (λ p. Jumps (goes_back o.insn) p by) h.place
          (jump_on (goes_back o.insn) h.frame.place (length found.function.lines) o.code by (sym function_is.lines.count) small on back)

  at_line : IsAtLine chunk w code s
  unfolding n
  at_line =
      let f = found.function in
      record {
        proto = o.code;
        insn = o.insn;
        next = o.next;
        has = some_is (function_here w code s) f (λ f. place_here s < length f.lines) found.there found.within;
        line = ap (λ q. option_and_then (λ (f : Function). slice_get f.lines (place_here s)) q) found.there ∙ found.line;
        stands =
            record {
              of = of;
              there = there;
              read = read;
              constants = subst (λ j. Each (λ (k : ℤ × Want). IsConstantOf chunk j k.0 k.1) (constants_of o.insn)) h.proto o.constants;
            };
        ready = ready;
      }

pub safe_ready : SafeCodeIsReady
safe_ready chunk well w code s replies safe of is goes =
    let h = here w code s replies (runs_on s goes) in
    at_line chunk w code s replies of is goes
    (operands_are_there chunk well (record { focus = Run; functions = h.frame ∷ h.others; world = h.world }) (subst (IsSafe chunk) (h.is Run) safe) refl h.frame h.others refl)
