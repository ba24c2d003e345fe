-- What decoded code gives at a place.
use Rattle.std.proofs.Common.{◌≡◌, refl, sym, ap, ◌∙◌, ℕ, ◌+◌, ◌<◌, ◌≤◌, pos, List, [], ◌∷◌, ◌++◌, length, map, Option, Some, None, option_map, arith, subst, length-append}
use Rattle.std.specs.Prelude.{slice_get, unwrap_or}
use Rattle.std.specs.Option.{option_and_then}
use Rattle.std.proofs.lemmas.Option.{slice_get-map, slice_get_within}
use Rattle.op_words.specs.declared.insn.Insn.{Insn}
use Rattle.op_words.specs.declared.chunk.Const.{Const}
use Rattle.op_words.specs.Chunks.{ChunkOf, ProtoOf}
use Rattle.op_words.specs.Decoding.{insn_at, insn_of, parts_of, with_next}
use Rattle.value_model.specs.Parts.{meant}
use Rattle.value_model.specs.Values as m
use Rattle.value_model.specs.Values.{Bytes}
use Rattle.value_model.specs.declared.value.Value.{Value}
use Rattle.machine_meaning.specs.Chunks.{proto_at}
use Rattle.machine_meaning.specs.Constants.{value_of, constant_at, known}
use Rattle.machine_meaning.specs.States.{Frame, World}
use Rattle.machine_meaning.specs.Effects.{charged}
use Rattle.machine_meaning.specs.Instructions.{row}
use Rattle.machine_meaning.specs.Steps.{act, act_charged}
use Rattle.machine_code.specs.declared.code.Code.{Code}
use Rattle.machine_code.specs.declared.code.Function.{Function}
use Rattle.machine_code.specs.declared.code.Line.{Line}
use Rattle.machine_code.specs.Code.{line_of, AreLinesOf, IsConstant, value_or_nil, AreConstantsOf, IsFunctionOf, IsCodeOf}
use Rattle.machine_code.specs.Rows.{IsRowAt}
use Rattle.machine_code.specs.Laws.{HasLine, HasConstant}
use Rattle.machine_code.proofs.Lists.{push_at, some_at, all_at}

-- ---- lines

-- the lines of the places below one
pub record AreLinesTo (code : List ℕ) (place : ℕ) (lines : List Line) : Type 0 where
  pub count : length lines ≡ place
  pub at : (i : ℕ) (l : Line) → slice_get lines i ≡ Some l → l ≡ line_of (insn_at code i)
  pub within : place ≤ length code

pub no_lines : (code : List ℕ) → AreLinesTo code 0 []
no_lines code = record { count = refl; at = λ i l e. absurd cc; within = omega arith }

pub one_line : (code : List ℕ) (place : ℕ) (lines : List Line) (l : Line) → place < length code → AreLinesTo code place lines
    → l ≡ line_of (insn_at code place) → AreLinesTo code (place + 1) (lines ++ l ∷ [])
one_line code place lines l below so e =
    record {
      count = omega (arith, length-append lines (l ∷ []), so.count);
      at =
          push_at (λ i l. l ≡ line_of (insn_at code i)) lines l so.at
          (e ∙ ap (λ i. line_of (insn_at code i)) (sym so.count));
      within = omega arith;
    }

pub all_lines : (code : List ℕ) (place : ℕ) (lines : List Line) → AreLinesTo code place lines → length code ≤ place → AreLinesOf code lines
all_lines code place lines so end = record { count = omega (arith, so.count, so.within); at = so.at }

-- an instruction is read at a place of the code alone
read_within_of : (code : List ℕ) (at : ℕ) (o : Option ℕ) (x : Insn × ℕ) → slice_get code at ≡ o
    → option_and_then (λ word. option_map (with_next at) (insn_of (parts_of word (slice_get code (at + 1))))) o ≡ Some x → at < length code
read_within_of code at None x e read = absurd cc
read_within_of code at (Some word) x e read = slice_get_within code at word e

pub read_within : (code : List ℕ) (at : ℕ) (x : Insn × ℕ) → insn_at code at ≡ Some x → at < length code
read_within code at x read = read_within_of code at (slice_get code at) x refl read

pub line_fetched : (chunk : ChunkOf) (texts : List Bytes) (code : Code) (n : ℕ) (p : ProtoOf) (place : ℕ) (insn : Insn) (next : ℕ)
    → IsCodeOf chunk texts code → proto_at chunk n ≡ Some p → insn_at p.code place ≡ Some (insn, next) → HasLine code n place insn next
line_fetched chunk texts code n p place insn next is at read =
    let number : n < length code.functions = omega (arith, slice_get_within chunk.protos n p at, is.count) in
    let f = some_at code.functions n number in
    let lines = (is.functions n p f.0 at f.1).lines in
    let within : place < length f.0.lines = omega (arith, read_within p.code place (insn, next) read, lines.count) in
    let l = some_at f.0.lines place within in
    record {
      number = number;
      function = f.0;
      there = f.1;
      within = within;
      line = l.1 ∙ ap Some (lines.at place l.0 l.1 ∙ ap line_of read);
    }

-- ---- rows

runs_by : (chunk : ChunkOf) (code : List ℕ) (o : Option (Insn × ℕ)) (l : Line) → l ≡ line_of o → (f : Frame) (fs : List Frame) (w : World)
    → act chunk code o f fs w ≡ row chunk code l.insn l.next f fs w
runs_by chunk code None l e f fs w = sym (ap (λ (l : Line). row chunk code l.insn l.next f fs w) e)
runs_by chunk code (Some (insn, next)) l e f fs w = sym (ap (λ (l : Line). row chunk code l.insn l.next f fs w) e)

charges_by : (o : Option (Insn × ℕ)) (l : Line) → l ≡ line_of o → (f : Frame) (fs : List Frame) (w : World)
    → act_charged o f fs w ≡ charged l.insn l.next f fs w
charges_by None l e f fs w = sym (ap (λ (l : Line). charged l.insn l.next f fs w) e)
charges_by (Some (insn, next)) l e f fs w = sym (ap (λ (l : Line). charged l.insn l.next f fs w) e)

pub line_row : (chunk : ChunkOf) (texts : List Bytes) (p : ProtoOf) (f : Function) (place : ℕ) (l : Line) → IsFunctionOf chunk texts p f
    → slice_get f.lines place ≡ Some l → IsRowAt chunk p.code place l
line_row chunk texts p f place l is at =
    let e = is.lines.at place l at in
    record {
      runs = runs_by chunk p.code (insn_at p.code place) l e;
      charges = charges_by (insn_at p.code place) l e;
    }

-- ---- constants

module _ (chunk : ChunkOf) (texts : List Bytes) (p : ProtoOf) (f : Function) (is : IsFunctionOf chunk texts p f) (k : ℕ) (v : m.Value) where
  meant_by : (c : Const) (o : Option Value) → slice_get f.consts k ≡ o → option_map (meant texts) o ≡ Some (value_or_nil chunk c)
      → value_of chunk c ≡ Some v → HasConstant texts f k v
  meant_by c None at e is_v = absurd cc
  meant_by c (Some u) at e is_v =
      let same : meant texts u ≡ value_or_nil chunk c = cc in
      record {
        index = slice_get_within f.consts k u at;
        value = u;
        there = at;
        means = same ∙ ap (λ o. unwrap_or o m.Nil) is_v;
        plain = all_at (IsConstant texts) f.consts k u is.consts.plain at;
      }

  at_place : (o : Option Const) → slice_get p.consts k ≡ o → option_and_then (value_of chunk) o ≡ Some v → HasConstant texts f k v
  at_place None at e = absurd cc
  at_place (Some c) at e =
      meant_by c (slice_get f.consts k) refl
      (sym (slice_get-map (meant texts) f.consts k)
      ∙ ap (λ vs. slice_get vs k) is.consts.values
      ∙ slice_get-map (value_or_nil chunk) p.consts k
      ∙ ap (option_map (value_or_nil chunk)) at)
      e

  pub constant_known : (n : ℕ) → proto_at chunk n ≡ Some p → known chunk n (pos k) ≡ Some v → HasConstant texts f k v
  constant_known n at e =
      let there : constant_at chunk n (pos k) ≡ slice_get p.consts k = ap (λ o. option_and_then (λ (q : ProtoOf). slice_get q.consts k) o) at in
      at_place (slice_get p.consts k) refl (sym (ap (option_and_then (value_of chunk)) there) ∙ e)
