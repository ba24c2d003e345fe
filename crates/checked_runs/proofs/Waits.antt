-- What waits in the coroutine that runs.
use Rattle.std.proofs.Common.{◌≡◌, refl, sym, ap, ◌∙◌, ℕ, zero, suc, ◌<◌, false, List, [], ◌∷◌, length, get_or, set, Option, Some, None, arith, subst, nat_eq, length-set}
use Rattle.std.proofs.lemmas.Bool.Decides.{nat_tests}
use Rattle.value_model.specs.Values.{Value}
use Rattle.value_model.specs.Store.{Store, here, place_of_running}
use Rattle.value_model.specs.Waits.{Wait, Waits, waiting, with_waiting, rest_of}
use Rattle.op_words.specs.Chunks.{ChunkOf, ProtoOf}
use Rattle.machine_meaning.specs.States.{Frame, World}
use Rattle.machine_meaning.specs.Moves.{store_of}
use Rattle.machine_meaning.specs.Calls.{hand_back}
use Rattle.checked_runs.specs.Safe.{Each, Sizes, AreMade, IsResumer, IsStore, IsWait, AreWaits, AreStacked, IsWorld, IsSafeMove}
use Rattle.checked_runs.proofs.Elements.{each_or, each_set}
use Rattle.checked_runs.proofs.Settings.{Setting}

-- ---- places in a list

pub set_here : {X : Type 0} (xs : List X) (i : ℕ) (x d : X) → i < length xs → get_or (set xs i x) i d ≡ x
set_here [] i x d l = absurd (omega arith)
set_here (y ∷ xs) zero x d l = refl
set_here (y ∷ xs) (suc i) x d l = set_here xs i x d (omega arith)

pub set_elsewhere : {X : Type 0} (xs : List X) (i j : ℕ) (x d : X) → nat_eq j i ≡ false → get_or (set xs i x) j d ≡ get_or xs j d
set_elsewhere [] i j x d e = refl
set_elsewhere (y ∷ xs) zero zero x d e = absurd (grind (arith, nat_tests))
set_elsewhere (y ∷ xs) zero (suc j) x d e = refl
set_elsewhere (y ∷ xs) (suc i) zero x d e = refl
set_elsewhere (y ∷ xs) (suc i) (suc j) x d e = set_elsewhere xs i j x d (grind (arith, nat_tests))

-- ---- the coroutine that runs

running_below : (o : Option ℕ) (count : ℕ) → 0 < count → IsResumer count o → place_of_running o < count
running_below None count some i = some
running_below (Some j) count some i = i.1

pub here_below : {n : ℕ} (s : Store) → IsStore n s → here s < length s.coroutines
here_below s i = running_below s.running (length s.coroutines) i.some i.running

pub rest_each : (n : ℕ) (ws : List Wait) → Each (IsWait n) ws → Each (IsWait n) (rest_of ws)
rest_each n [] e = tt
rest_each n (w ∷ ws) e = e.1

module _ {chunk : ChunkOf} {z : Sizes} where
  -- other things wait in it
  pub waits_set : {s : Store} {ws : Waits} {elsewhere : ℕ → List Frame} → (new : List Wait) → AreWaits chunk z s ws elsewhere
      → Each (IsWait z.functions) new
      → AreWaits chunk z s (with_waiting ws (here s) new) elsewhere
  waits_set {s} {ws} {elsewhere} new i m = record {
    enough = let e = i.enough in omega (arith, length-set ws (here s) new);
    each = each_set (Each (IsWait z.functions)) ws (here s) new i.each m;
    stacked = λ j e. subst (λ l. AreStacked chunk z l (elsewhere j)) (sym (set_elsewhere ws (here s) j new [] e)) (i.stacked j e);
    dead = λ j e d. subst (λ l. AreStacked chunk z l []) (sym (set_elsewhere ws (here s) j new [] e)) (i.dead j e d);
  }

  pub waits_here : {s : Store} {ws : Waits} {elsewhere : ℕ → List Frame} → (new : List Wait) → IsStore z.functions s → AreWaits chunk z s ws elsewhere
      → waiting (with_waiting ws (here s) new) (here s) ≡ new
  waits_here {s} {ws} new is i =
      let below = here_below s is in
      let e = i.enough in
      set_here ws (here s) new [] (omega arith)

  pub with_waits : {w : World} → (new : List Wait) → IsWorld chunk z w → Each (IsWait z.functions) new
      → IsWorld chunk z (record w { waits = with_waiting w.waits (here (store_of w)) new })
  with_waits new i m = record {
    functions = i.functions;
    environments = i.environments;
    cells = i.cells;
    bodies = i.bodies;
    values = i.values;
    store = i.store;
    waits = waits_set new i.waits m;
    imports = i.imports;
  }

  pub those_here : {w : World} → IsWorld chunk z w → Each (IsWait z.functions) (waiting w.waits (here (store_of w)))
  those_here {w} i = each_or (Each (IsWait z.functions)) w.waits (here (store_of w)) [] i.waits.each tt

  -- a function is left with values
  pub hands_back : {p : ProtoOf} {f : Frame} {fs : List Frame} {w : World} → Setting chunk z p f fs w → (vs : List Value) → AreMade z.functions vs
      → IsSafeMove chunk (hand_back vs fs w)
  hands_back {p} {f} {fs} {w} s vs m =
      let new = rest_of (waiting w.waits (here (store_of w))) in
      let below : new ≡ s.below = ap rest_of s.waits in
      record {
        sizes = z;
        world = with_waits new s.world (rest_each z.functions (waiting w.waits (here (store_of w))) (those_here s.world));
        doing = (m, subst (λ ws. AreStacked chunk z ws fs) (sym (waits_here new s.world.store s.world.waits ∙ below)) s.stacked);
      }
