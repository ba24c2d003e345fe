-- Registers are written one after another.
use Rattle.std.proofs.Common.{◌≡◌, ℕ, suc, ◌+◌, ◌<◌, ◌≤◌, List, [], ◌∷◌, ◌++◌, map, length, take, get_or, Option, Some, None, IsSomeAnd, refl, sym, ◌∙◌, ap, subst, arith}
use Rattle.std.proofs.lemmas.List.{length-map, length-take, map-append, take_more}
use mathlib.Core.Path.{fun_ext}
use Rattle.value_model.specs.Parts.{meant}
use Rattle.value_model.specs.Values as m
use Rattle.value_model.specs.declared.value.Value.{Value}
use Rattle.value_model.specs.declared.value.Value.TheVariants as value
use Rattle.luau_tables.specs.declared.globals.LibWorld.{LibWorld}
use Rattle.call_frames.specs.declared.frame.Frame.{Frame}
use Rattle.call_frames.specs.Stacks.{StackView}
use Rattle.call_frames.specs.Cells.{innermost}
use Rattle.machine_meaning.specs.States.{Inside, State, set, set_all}
use Rattle.machine_code.specs.declared.code.Code.{Code}
use Rattle.machine_world.specs.Parts.{Becomes, changed, part}
use Rattle.machine_world.specs.Sound.{IsLuau, HasRegister, IsMachine}
use Rattle.machine_world.proofs.Delivering.{changed_twice, changed_same}
use Rattle.machine_flow.specs.Flow.{HasRange}

-- so many of the values are written, from a register on, and this register comes next
pub record Wrote (w : LibWorld) (code : Code) (s : StackView) (from : ℕ) (vs : List Value) (n to : ℕ) (code' : Code) (s' : StackView) : Type 0 where
  pub next : to ≡ from + n
  pub written : Becomes (changed (set_all from (map (meant w.names) (take n vs)))) w code s w s'
  pub sound : IsMachine w s'
  pub frames : s'.frames ≡ s.frames
  pub same : code' ≡ code

pub none_wrote : (w : LibWorld) (code : Code) (s : StackView) (from : ℕ) (vs : List Value) → IsMachine w s → Wrote w code s from vs 0 from code s
none_wrote w code s from vs is =
    record { next = omega arith; written = λ x replies. sym (changed_same (part w code s x replies)); sound = is; frames = refl; same = refl }

all_more : (r : ℕ) (vs : List m.Value) (v : m.Value) (i : Inside) → set_all r (vs ++ v ∷ []) i ≡ set (r + length vs) v (set_all r vs i)
all_more r [] v i = let same : r ≡ r + 0 = omega arith in ap (λ n. set n v i) same
all_more r (u ∷ vs) v i =
    let same : suc r + length vs ≡ r + length (u ∷ vs) = omega arith in
    all_more (suc r) vs v (set r u i) ∙ ap (λ n. set n v (set_all (suc r) vs (set r u i))) same

-- one more
pub more_wrote : (w : LibWorld) (code code1 code2 : Code) (s s1 s2 : StackView) (from n to : ℕ) (vs : List Value) → n < length vs → Wrote w code s from vs n to code1 s1 →
    Becomes (changed (set to (meant w.names (get_or vs n value.Nil)))) w code1 s1 w s2 → IsMachine w s2 → s2.frames ≡ s1.frames → code2 ≡ code1 →
    (next : ℕ) → next ≡ to + 1 → Wrote w code s from vs (n + 1) next code2 s2
more_wrote w code code1 code2 s s1 s2 from n to vs lt h becomes is frames same next e =
    let v : m.Value = meant w.names (get_or vs n value.Nil) in
    let us : List m.Value = map (meant w.names) (take n vs) in
    let place : from + length us ≡ to = omega (arith, length-map (take n vs) (meant w.names), length-take n vs, lt, h.next) in
    let all : map (meant w.names) (take (n + 1) vs) ≡ us ++ v ∷ [] = ap (map (meant w.names)) (take_more vs n value.Nil lt) ∙ map-append (meant w.names) (take n vs) (get_or vs n value.Nil ∷ []) in
    let here : Becomes (changed (set to v)) w code s1 w s2 = subst (λ c. Becomes (changed (set to v)) w c s1 w s2) h.same becomes in
    record {
      next = omega (arith, e, h.next);
      written = λ x replies.
          let t = part w code s x replies in
          here x replies
          ∙ ap (changed (set to v)) (h.written x replies)
          ∙ changed_twice (set to v) (set_all from us) t
          ∙ ap (λ k. changed (λ i. set k v (set_all from us i)) t) (sym place)
          ∙ sym (changed_all (λ i. set_all from (us ++ v ∷ []) i) (λ i. set (from + length us) v (set_all from us i)) (all_more from us v) t)
          ∙ sym (ap (λ l. changed (set_all from l) t) all);
      sound = is;
      frames = frames ∙ h.frames;
      same = same ∙ h.same;
    }
  where
    changed_all : (g k : Inside → Inside) → ((i : Inside) → g i ≡ k i) → (t : State) → changed g t ≡ changed k t
    changed_all g k e t = ap (λ f. changed f t) (fun_ext e)

-- each of the registers is there
pub in_range : (s s' : StackView) (from count n to : ℕ) → s'.frames ≡ s.frames → to ≡ from + n → n < count → HasRange s from count → HasRegister s' to
in_range s s' from count n to e is lt h = subst (λ fs. HasRegister (record s' { frames = fs }) to) (sym e) (by (innermost s) h)
  where
    by : (o : Option Frame) → IsSomeAnd o (λ f. IsLuau f × (from + count ≤ f.registers)) → IsSomeAnd o (λ f. IsLuau f × (to < f.registers))
    by None h = h
    by (Some f) h = (h.0, omega (arith, is, lt, h.1))

pub range_behind : (s s' : StackView) (base count from : ℕ) → s'.frames ≡ s.frames → from ≡ base + 3 → HasRange s base (3 + count) → HasRange s' from count
range_behind s s' base count from e is h = subst (λ fs. HasRange (record s' { frames = fs }) from count) (sym e) (by (innermost s) h)
  where
    by : (o : Option Frame) → IsSomeAnd o (λ f. IsLuau f × (base + (3 + count) ≤ f.registers)) → IsSomeAnd o (λ f. IsLuau f × (from + count ≤ f.registers))
    by None h = h
    by (Some f) h = (h.0, omega (arith, is, h.1))

pub turn_written : (w : LibWorld) (code : Code) (s s' : StackView) (base control_at from : ℕ) (v : m.Value) (vs : List m.Value) → control_at ≡ base + 2 → from ≡ base + 3 →
    Becomes (changed (λ i. set_all from vs (set control_at v i))) w code s w s' → Becomes (changed (λ i. set_all (base + 3) vs (set (base + 2) v i))) w code s w s'
turn_written w code s s' base control_at from v vs e k becomes = λ x replies.
    let t = part w code s x replies in
    becomes x replies
    ∙ ap (λ n. changed (λ i. set_all n vs (set control_at v i)) t) k
    ∙ ap (λ n. changed (λ i. set_all (base + 3) vs (set n v i)) t) e
