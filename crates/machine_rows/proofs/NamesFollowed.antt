-- Names are looked up one after the other.
use Rattle.std.proofs.Common.{zero, suc, ◌-◌, ◌<◌, ◌≤◌, map, length, drop, take, get_or, ◌≡◌, ℕ, ◌+◌, List, [], ◌∷◌, Some, refl, sym, ◌∙◌, ap, subst, arith}
use Rattle.std.specs.List.{AllByRecursion}
use Rattle.std.proofs.Math.Seq.{drop-cons}
use Rattle.std.proofs.lemmas.List.{drop_all, take_all, length-drop}
use Rattle.byte_text.specs.declared.fixed.StrId.{StrId}
use Rattle.value_model.specs.Choices as choice
use Rattle.value_model.specs.Metamethods.{choose, chosen}
use Rattle.value_model.specs.Parts.{meant}
use Rattle.value_model.specs.Values as m
use Rattle.value_model.specs.declared.event.Reply.{Reply}
use Rattle.value_model.specs.declared.value.Value.{Value}
use Rattle.value_model.specs.declared.value.Value.TheVariants as value
use Rattle.bounded_runs.specs.Runs.{Goes}
use Rattle.luau_tables.specs.Worlds.{MayUseIn, store_in}
use Rattle.luau_tables.specs.declared.globals.LibWorld.{LibWorld}
use Rattle.call_frames.specs.Stacks.{StackView}
use Rattle.op_words.specs.Chunks.{ChunkOf}
use Rattle.meta_ops.specs.Outcomes.{meant_outcome}
use Rattle.meta_ops.specs.declared.outcome.Outcome.{Outcome}
use Rattle.meta_ops.specs.declared.outcome.Outcome.TheVariants.{Done}
use Rattle.machine_meaning.specs.States as machine
use Rattle.machine_meaning.specs.States.{Purpose, Follows, GiveAll, Follow, State}
use Rattle.machine_meaning.specs.Moves.{Look, Row, Step, state, store_of, with_store, waits_for, comes, settle, give}
use Rattle.machine_meaning.specs.Effects.{follow_names, follow}
use Rattle.machine_meaning.specs.Steps.{step}
use Rattle.machine_code.specs.declared.code.Code.{Code}
use Rattle.machine_world.specs.Functions.{text_of}
use Rattle.machine_world.specs.Rows.{Makes}
use Rattle.machine_world.specs.Sound.{Runs}
use Rattle.machine_world.proofs.Calling.{all_take}
use Rattle.machine_world.proofs.Here.{Here, here, row_here}
use Rattle.machine_rows.specs.Leading.{looks, goes, goes_on, ends_on, ComesTo, Does}
use Rattle.machine_rows.specs.declared.next.Next.{Next}
use Rattle.machine_rows.specs.declared.next.Next.TheVariants.{Continues, Gives, Calls, Fails, Stops}
use Rattle.machine_rows.proofs.Following.{given_waiting}
use Rattle.machine_rows.proofs.Steps.{does_like, settled_here}

-- a move before others
pub comes_behind : (chunk : ChunkOf) (m : Step) (n k all : ℕ) (t : State) (x : Next) (w : LibWorld) (code : Code) (s : StackView) (replies : List Reply) →
    m ≡ Goes (looks n) t → n + k ≡ all → ComesTo chunk (step chunk t) k x w code s replies → ComesTo chunk m all x w code s replies
comes_behind chunk m n k all t Continues w code s replies e sum h = goes_on n k all e h sum
comes_behind chunk m n k all t (Gives v) w code s replies e sum h = goes_on n k all e h sum
comes_behind chunk m n k all t (Calls f args count) w code s replies e sum h = goes_on n k all e h sum
comes_behind chunk m n k all t (Fails r) w code s replies e sum h = goes_on n k all e h sum
comes_behind chunk m n k all t (Stops stop) w code s replies e sum h = ends_on n k all e h sum

-- ---- what is waited for is done alike where nothing was

comes_waiting : (o : choice.Outcome) (ns : List Look) (q p : Purpose) (f : machine.Frame) (fs : List machine.Frame) (u : machine.World) →
    comes o ns q (waits_for p f) fs u ≡ comes o ns q f fs u
comes_waiting (choice.Done v) ns q p f fs u = refl
comes_waiting (choice.CallThis g vs) ns q p f fs u = refl
comes_waiting (choice.Errs e) ns q p f fs u = refl
comes_waiting (choice.Halts s) ns q p f fs u = refl

pub settle_waiting : (c : choice.Choice) (q p : Purpose) (f : machine.Frame) (fs : List machine.Frame) (u : machine.World) →
    settle c q (waits_for p f) fs u ≡ settle c q f fs u
settle_waiting c q p f fs u = comes_waiting c.outcome (looks c.asked) q p f fs (with_store c.store u)

pub follow_waiting : (b : m.Value) (xs : List m.Bytes) (to next : ℕ) (p : Purpose) (f : machine.Frame) (fs : List machine.Frame) (u : machine.World) →
    follow_names b xs to next (waits_for p f) fs u ≡ follow_names b xs to next f fs u
follow_waiting b [] to next p f fs u = given_waiting to next b p f fs u
follow_waiting b (x ∷ xs) to next p f fs u = settle_waiting (choose (choice.Index b (m.Text x)) (store_of u)) (Follows xs to next) p f fs u

-- a row that is made at once
pub does_made : (chunk : ChunkOf) (w w' : LibWorld) (code : Code) (s s' : StackView) (r : Row) → Makes r w code s w' s' → Does chunk r w code s 0 Continues w' s'
unfolding Does
does_made chunk w w' code s s' r makes = λ replies. goes 0 (makes replies)

-- ---- one name

-- a look-up gives a value, in which the next name is looked up
pub follows_value : (chunk : ChunkOf) (w w' : LibWorld) (code : Code) (s s' : StackView) (base : m.Value) (name : m.Bytes) (rest : List m.Bytes) (to next : ℕ) (o : Outcome) (v : Value) (n k : ℕ) (x : Next) → Runs s → o ≡ Done v → chosen (store_in w) n (meant_outcome w.names o) ≡ choose (choice.Index base (m.Text name)) (store_in w) → Does chunk (follow_names (meant w.names v) rest to next) w code s k x w' s' → Does chunk (follow_names base (name ∷ rest) to next) w code s (n + k) x w' s'
unfolding Does meant_outcome
follows_value chunk w w' code s s' base name rest to next o v n k x runs e chosen does = λ replies.
    let h = here w code s replies runs in
    let p = Follows rest to next in
    let f = waits_for p h.frame in
    let b = meant w.names v in
    let given : State = state (GiveAll (b ∷ [])) f h.others h.world in
    let asks : State = state (Follow b rest to next) f h.others h.world in
    let row = follow_names b rest to next in
    comes_behind chunk _ n k (n + k) given x w' code s' replies
    (row_here h (follow_names base (name ∷ rest) to next)
    ∙ settled_here h (choice.Index base (m.Text name)) (meant_outcome w.names o) n p chosen
    ∙ ap (λ o. comes (meant_outcome w.names o) (looks n) p h.frame h.others h.world) e)
    refl
    (comes_behind chunk (step chunk given) 0 k k asks x w' code s' replies refl (omega arith)
    (subst (λ m. ComesTo chunk m k x w' code s' replies) (row_here h row ∙ sym (follow_waiting b rest to next p h.frame h.others h.world)) (does replies)))

-- or ends them
pub follows_last : (chunk : ChunkOf) (w w' : LibWorld) (code : Code) (s s' : StackView) (base : m.Value) (name : m.Bytes) (rest : List m.Bytes) (to next : ℕ) (o : Outcome) (n : ℕ) (x : Next) → Runs s → chosen (store_in w) n (meant_outcome w.names o) ≡ choose (choice.Index base (m.Text name)) (store_in w) → Does chunk (comes (meant_outcome w.names o) (looks n) (Follows rest to next)) w code s n x w' s' → Does chunk (follow_names base (name ∷ rest) to next) w code s n x w' s'
follows_last chunk w w' code s s' base name rest to next o n x runs chosen does =
    does_like chunk w w' code s s' (follow_names base (name ∷ rest) to next) (comes (meant_outcome w.names o) (looks n) (Follows rest to next)) n x runs
    (λ replies h. settled_here h (choice.Index base (m.Text name)) (meant_outcome w.names o) n (Follows rest to next) chosen) does

-- ---- the instruction

-- it begins with a look-up
pub begins_to_follow : (chunk : ChunkOf) (w w' : LibWorld) (code : Code) (s s' : StackView) (r : Row) (base : m.Value) (names : List m.Bytes) (to next n : ℕ) (x : Next) → Runs s → ((replies : List Reply) (h : Here w code s replies) → r h.frame h.others h.world ≡ follow base (Some names) to next h.frame h.others h.world) → Does chunk (follow_names base names to next) w code s n x w' s' → Does chunk r w code s n x w' s'
unfolding Does
begins_to_follow chunk w w' code s s' r base names to next n x runs same does = λ replies.
    let h = here w code s replies runs in
    let asks : State = state (Follow base names to next) h.frame h.others h.world in
    comes_behind chunk _ 0 n n asks x w' code s' replies (row_here h r ∙ same replies h) (omega arith)
    (subst (λ m. ComesTo chunk m n x w' code s' replies) (row_here h (follow_names base names to next)) (does replies))

-- ---- the name at a place

name_at_place : (texts : List m.Bytes) (path : List StrId) (i : ℕ) (d : StrId) → i < length path → map (text_of texts) (drop i path) ≡ text_of texts (get_or path i d) ∷ map (text_of texts) (drop (i + 1) path)
name_at_place texts path i d low =
    let next : suc i ≡ i + 1 = omega arith in
    ap (map (text_of texts)) (drop-cons path i d low ∙ ap (λ j. get_or path i d ∷ drop j path) next)

pub name_use : (w : LibWorld) (path : List StrId) (i : ℕ) (d : StrId) → i < length path → AllByRecursion (λ (x : StrId). x.0 < length w.names) path → MayUseIn w (value.Str (get_or path i d))
name_use w path i d low known = (tt, at_place path i low known)
  where
    at_place : (xs : List StrId) (i : ℕ) → i < length xs → AllByRecursion (λ (x : StrId). x.0 < length w.names) xs → (get_or xs i d).0 < length w.names
    at_place [] i low h = absurd (omega (arith, low))
    at_place (x ∷ xs) zero low h = h.0
    at_place (x ∷ xs) (suc i) low h = at_place xs i (omega (arith, low)) h.1

-- so do those behind it
pub later_known : (w : LibWorld) (path names : List StrId) (i : ℕ) → names ≡ take (length path - (i + 1)) (drop (i + 1) path) →
    AllByRecursion (λ (x : StrId). x.0 < length w.names) path → AllByRecursion (λ (x : StrId). x.0 < length w.names) names
later_known w path names i e h =
    let Known : StrId → Type 0 = λ x. x.0 < length w.names in
    subst (AllByRecursion Known) (sym e) (all_take Known (length path - (i + 1)) (drop (i + 1) path) (all_drop Known (i + 1) path h))
  where
    all_drop : {A : Type 0} (P : A → Type 0) (n : ℕ) (xs : List A) → AllByRecursion P xs → AllByRecursion P (drop n xs)
    all_drop P zero xs h = h
    all_drop P (suc n) [] h = tt
    all_drop P (suc n) (x ∷ xs) h = all_drop P n xs h.1

pub follows_on : (chunk : ChunkOf) (w w' : LibWorld) (code : Code) (s s' : StackView) (base : m.Value) (path : List StrId) (i to next : ℕ) (d : StrId) (o : Outcome) (v : Value) (n k : ℕ) (x : Next) → Runs s → i < length path → o ≡ Done v → chosen (store_in w) n (meant_outcome w.names o) ≡ choose (choice.Index base (meant w.names (value.Str (get_or path i d)))) (store_in w) → Does chunk (follow_names (meant w.names v) (map (text_of w.names) (drop (i + 1) path)) to next) w code s k x w' s' → Does chunk (follow_names base (map (text_of w.names) (drop i path)) to next) w code s (n + k) x w' s'
unfolding meant
follows_on chunk w w' code s s' base path i to next d o v n k x runs low e chosen does =
    subst (λ l. Does chunk (follow_names base l to next) w code s (n + k) x w' s') (sym (name_at_place w.names path i d low))
    (follows_value chunk w w' code s s' base (text_of w.names (get_or path i d)) (map (text_of w.names) (drop (i + 1) path)) to next o v n k x runs e chosen does)

pub follows_out : (chunk : ChunkOf) (w w' : LibWorld) (code : Code) (s s' : StackView) (base : m.Value) (path names : List StrId) (i to next : ℕ) (d : StrId) (o : Outcome) (n : ℕ) (x : Next) → Runs s → i < length path → names ≡ take (length path - (i + 1)) (drop (i + 1) path) → chosen (store_in w) n (meant_outcome w.names o) ≡ choose (choice.Index base (meant w.names (value.Str (get_or path i d)))) (store_in w) → Does chunk (comes (meant_outcome w.names o) (looks n) (Follows (map (text_of w.names) names) to next)) w code s n x w' s' → Does chunk (follow_names base (map (text_of w.names) (drop i path)) to next) w code s n x w' s'
unfolding meant
follows_out chunk w w' code s s' base path names i to next d o n x runs low rest chosen does =
    let few : length (drop (i + 1) path) ≤ length path - (i + 1) = omega (arith, length-drop (i + 1) path) in
    let same : names ≡ drop (i + 1) path = rest ∙ take_all (length path - (i + 1)) (drop (i + 1) path) few in
    subst (λ l. Does chunk (follow_names base l to next) w code s n x w' s') (sym (name_at_place w.names path i d low))
    (follows_last chunk w w' code s s' base (text_of w.names (get_or path i d)) (map (text_of w.names) (drop (i + 1) path)) to next o n x runs chosen
    (subst (λ l. Does chunk (comes (meant_outcome w.names o) (looks n) (Follows (map (text_of w.names) l) to next)) w code s n x w' s') same does))

-- behind the last name
pub follows_none : (chunk : ChunkOf) (w w' : LibWorld) (code : Code) (s s' : StackView) (base : m.Value) (path : List StrId) (i to next : ℕ) → Runs s → length path ≤ i → Makes (give to base next) w code s w' s' → Does chunk (follow_names base (map (text_of w.names) (drop i path)) to next) w code s 0 Continues w' s'
follows_none chunk w w' code s s' base path i to next runs high makes =
    subst (λ l. Does chunk (follow_names base (map (text_of w.names) l) to next) w code s 0 Continues w' s') (sym (drop_all i path high))
    (does_like chunk w w' code s s' (follow_names base [] to next) (give to base next) 0 Continues runs (λ replies h. refl) (does_made chunk w w' code s s' (give to base next) makes))
