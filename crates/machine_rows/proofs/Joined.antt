-- Values are joined from the right.
use Rattle.std.proofs.Common.{◌≡◌, ℕ, zero, suc, ◌+◌, ◌-◌, ◌<◌, ◌≤◌, List, [], ◌∷◌, ◌++◌, map, reverse, length, drop, take, get_or, refl, sym, ◌∙◌, ap, subst, arith}
use Rattle.std.specs.List.{AllByRecursion}
use Rattle.std.proofs.Math.Seq.{drop-cons}
use Rattle.std.proofs.lemmas.List.{take_all, drop_all, length-drop, reverse-append, map-append}
use Rattle.value_model.specs.Choices as choice
use Rattle.value_model.specs.Metamethods.{choose, chosen}
use Rattle.value_model.specs.Parts.{meant}
use Rattle.value_model.specs.Values as m
use Rattle.value_model.specs.declared.event.Reply.{Reply}
use Rattle.value_model.specs.declared.value.Value.{Value}
use Rattle.value_model.specs.declared.value.Value.TheVariants as value
use Rattle.luau_tables.specs.Worlds.{MayUseIn, store_in}
use Rattle.luau_tables.specs.declared.globals.LibWorld.{LibWorld}
use Rattle.luau_tables.proofs.WorldsKept.{meant_on, all_meant_on}
use Rattle.call_frames.specs.Stacks.{StackView}
use Rattle.op_words.specs.Chunks.{ChunkOf}
use Rattle.meta_ops.specs.Outcomes.{meant_outcome, IsJoined}
use Rattle.meta_ops.specs.declared.outcome.Outcome.{Outcome}
use Rattle.meta_ops.specs.declared.outcome.Outcome.TheVariants.{Done}
use Rattle.machine_meaning.specs.States as machine
use Rattle.machine_meaning.specs.States.{Purpose, Run, Focus, Joins, GiveAll, Join, State, value_in, values_in}
use Rattle.machine_meaning.specs.Moves.{Row, now, state, store_of, waits_for, comes, give, inside}
use Rattle.machine_meaning.specs.Effects.{join}
use Rattle.machine_meaning.specs.Steps.{step}
use Rattle.machine_code.specs.declared.code.Code.{Code}
use Rattle.machine_world.specs.Parts.{part, read_of, register_value}
use Rattle.machine_world.specs.Rows.{row_in, Makes}
use Rattle.machine_world.specs.Sound.{Runs, IsMachine}
use Rattle.machine_world.proofs.Frames.{reverse_more}
use Rattle.machine_world.proofs.Here.{Here, here, row_here, read_here}
use Rattle.machine_rows.specs.Leading.{looks, ComesTo, Does}
use Rattle.machine_rows.specs.Operations.{operands}
use Rattle.machine_rows.specs.Texts.{KnowsTexts}
use Rattle.machine_rows.specs.declared.next.Next.{Next}
use Rattle.machine_rows.specs.declared.next.Next.TheVariants.{Continues}
use Rattle.machine_rows.proofs.Following.{given_waiting}
use Rattle.machine_rows.proofs.Growing.{Growth, growth_keeps, growth_machine, growth_knows, growth_part, growth_store, growth_on}
use Rattle.machine_rows.proofs.NamesFollowed.{comes_behind, settle_waiting, does_made}
use Rattle.machine_rows.proofs.Steps.{does_like, settled_here}

-- ---- two operands

pub join_waiting : (vs : List m.Value) (to next : ℕ) (p : Purpose) (f : machine.Frame) (fs : List machine.Frame) (u : machine.World) →
    join vs to next (waits_for p f) fs u ≡ join vs to next f fs u
join_waiting [] to next p f fs u = refl
join_waiting (v ∷ []) to next p f fs u = given_waiting to next v p f fs u
join_waiting (v ∷ x ∷ vs) to next p f fs u = settle_waiting (choose (choice.Concat x v) (store_of u)) (Joins vs to next) p f fs u

-- by texts that may have come
joined_here : {w : LibWorld} {code : Code} {s : StackView} {replies : List Reply} (h : Here w code s replies) (w' : LibWorld) (last u : m.Value) (below : List m.Value) (to next : ℕ) (o : choice.Outcome) → store_in w' ≡ store_in w → chosen (store_in w') 0 o ≡ choose (choice.Concat u last) (store_in w) → join (last ∷ u ∷ below) to next h.frame h.others h.world ≡ comes o (looks 0) (Joins below to next) h.frame h.others h.world
joined_here h w' last u below to next o same is =
    settled_here h (choice.Concat u last) o 0 (Joins below to next) (ap (λ st. chosen st 0 o) (sym same) ∙ is)

-- they give a value, which is then the last operand
joins_value : (chunk : ChunkOf) (w w' w2 : LibWorld) (code : Code) (s s2 : StackView) (last u v : m.Value) (below : List m.Value) (to next n : ℕ) (o : choice.Outcome) (x : Next) → Runs s → ((x : Focus) (replies : List Reply) → part w' code s x replies ≡ part w code s x replies) → store_in w' ≡ store_in w → o ≡ choice.Done v → chosen (store_in w') 0 o ≡ choose (choice.Concat u last) (store_in w) → Does chunk (join (v ∷ below) to next) w' code s n x w2 s2 → Does chunk (join (last ∷ u ∷ below) to next) w code s n x w2 s2
unfolding Does
joins_value chunk w w' w2 code s s2 last u v below to next n o x runs same store e is does = λ replies.
    let h = here w code s replies runs in
    let p = Joins below to next in
    let f = waits_for p h.frame in
    let given : State = state (GiveAll (v ∷ [])) f h.others h.world in
    let asks : State = state (Join (v ∷ below) to next) f h.others h.world in
    comes_behind chunk _ 0 n n given x w2 code s2 replies
    (row_here h (join (last ∷ u ∷ below) to next)
    ∙ joined_here h w' last u below to next o store is
    ∙ ap (λ o. comes o (looks 0) p h.frame h.others h.world) e)
    (omega arith)
    (comes_behind chunk (step chunk given) 0 n n asks x w2 code s2 replies refl (omega arith)
    (subst (λ m. ComesTo chunk m n x w2 code s2 replies)
    (ap (λ (t : State). row_in (join (v ∷ below) to next) t.functions t.world) (same Run replies)
    ∙ row_here h (join (v ∷ below) to next)
    ∙ sym (join_waiting (v ∷ below) to next p h.frame h.others h.world))
    (does replies)))

-- or not
joins_last : (chunk : ChunkOf) (w w' w2 : LibWorld) (code : Code) (s s2 : StackView) (last u : m.Value) (below : List m.Value) (to next n : ℕ) (o : choice.Outcome) (x : Next) → Runs s → ((x : Focus) (replies : List Reply) → part w' code s x replies ≡ part w code s x replies) → store_in w' ≡ store_in w → chosen (store_in w') 0 o ≡ choose (choice.Concat u last) (store_in w) → Does chunk (comes o (looks 0) (Joins below to next)) w' code s n x w2 s2 → Does chunk (join (last ∷ u ∷ below) to next) w code s n x w2 s2
unfolding Does
joins_last chunk w w' w2 code s s2 last u below to next n o x runs same store is does = λ replies.
    let h = here w code s replies runs in
    subst (λ m. ComesTo chunk m n x w2 code s2 replies)
    (ap (λ (t : State). row_in (comes o (looks 0) (Joins below to next)) t.functions t.world) (same Run replies)
    ∙ row_here h (comes o (looks 0) (Joins below to next))
    ∙ sym (joined_here h w' last u below to next o store is)
    ∙ sym (row_here h (join (last ∷ u ∷ below) to next)))
    (does replies)

-- ---- the operand at a place

mapped_at : {X Y : Type 0} (f : X → Y) (xs : List X) (i : ℕ) (d : X) → i < length xs → map f (drop i xs) ≡ f (get_or xs i d) ∷ map f (drop (i + 1) xs)
mapped_at f xs i d low =
    let next : suc i ≡ i + 1 = omega arith in
    ap (map f) (drop-cons xs i d low ∙ ap (λ j. get_or xs i d ∷ drop j xs) next)

all_drop : (P : Value → Type 0) (n : ℕ) (vs : List Value) → AllByRecursion P vs → AllByRecursion P (drop n vs)
all_drop P zero vs h = h
all_drop P (suc n) [] h = tt
all_drop P (suc n) (v ∷ vs) h = all_drop P n vs h.1

outcome_done : (texts : List m.Bytes) (o : Outcome) (v : Value) → o ≡ Done v → meant_outcome texts o ≡ choice.Done (meant texts v)
unfolding meant_outcome
outcome_done texts o v e = ap (meant_outcome texts) e

module _ (chunk : ChunkOf) (w0 w w2 : LibWorld) (code : Code) (s s2 : StackView) (left : List Value) (i to next : ℕ) (u last : Value) (names : List m.Bytes) (o : Outcome) (x : Next) (runs : Runs s) (is : IsMachine w0 s) (known : KnowsTexts w0 code s) (g : Growth w0 w) (more : Growth w (record w { names = names })) (may : AllByRecursion (MayUseIn w0) left) (low : i < length left) (at : u ≡ get_or left i value.Nil) (use_u : MayUseIn w0 u) (joined : IsJoined w.names names w.globals w.arena w.owner u last o) where
  same_part : (x : Focus) (replies : List Reply) → part (record w { names = names }) code s x replies ≡ part w code s x replies
  same_part x replies = growth_part w (record w { names = names }) more code s (growth_machine w0 w g s is) (growth_knows w0 w g code s known) x replies

  same_store : store_in (record w { names = names }) ≡ store_in w
  same_store = growth_store w (record w { names = names }) more (growth_machine w0 w g s is).world

  same_choice : chosen (store_in (record w { names = names })) 0 (meant_outcome names o) ≡ choose (choice.Concat (meant w0.names u) (meant w.names last)) (store_in w)
  same_choice =
      joined.meant
      ∙ ap (λ v. choose (choice.Concat v (meant w.names last)) (store_in w)) (meant_on w0 w (growth_keeps w0 w g is.world) u use_u)

  first_left : map (meant w0.names) (drop i left) ≡ meant w0.names u ∷ map (meant w0.names) (drop (i + 1) left)
  first_left =
      mapped_at (meant w0.names) left i value.Nil low ∙ ap (λ v. meant w0.names v ∷ map (meant w0.names) (drop (i + 1) left)) (sym at)

  pub joins_on : (v : Value) → o ≡ Done v → Does chunk (join (meant names v ∷ map (meant w0.names) (drop (i + 1) left)) to next) (record w { names = names }) code s 0 x w2 s2 → Does chunk (join (meant w.names last ∷ map (meant w0.names) (drop i left)) to next) w code s 0 x w2 s2
  joins_on v e does =
      subst (λ l. Does chunk (join (meant w.names last ∷ l) to next) w code s 0 x w2 s2) (sym first_left)
      (joins_value chunk w (record w { names = names }) w2 code s s2 (meant w.names last) (meant w0.names u) (meant names v) (map (meant w0.names) (drop (i + 1) left)) to next 0 (meant_outcome names o) x runs same_part same_store (outcome_done names o v e) same_choice does)

  pub joins_out : (rest : List Value) → rest ≡ take (length left - (i + 1)) (drop (i + 1) left) → Does chunk (comes (meant_outcome names o) (looks 0) (Joins (map (meant names) rest) to next)) (record w { names = names }) code s 0 x w2 s2 → Does chunk (join (meant w.names last ∷ map (meant w0.names) (drop i left)) to next) w code s 0 x w2 s2
  joins_out rest e does =
      let w' : LibWorld = record w { names = names } in
      let few : length (drop (i + 1) left) ≤ length left - (i + 1) = omega (arith, length-drop (i + 1) left) in
      let all : rest ≡ drop (i + 1) left = e ∙ take_all (length left - (i + 1)) (drop (i + 1) left) few in
      let grown : Growth w0 w' = growth_on w0 w names g more.extends (λ t. more.interned) in
      let same : map (meant names) rest ≡ map (meant w0.names) (drop (i + 1) left) =
      ap (map (meant names)) all
      ∙ all_meant_on w0 w' (growth_keeps w0 w' grown is.world) (drop (i + 1) left) (all_drop (MayUseIn w0) (i + 1) left may) in
      subst (λ l. Does chunk (join (meant w.names last ∷ l) to next) w code s 0 x w2 s2) (sym first_left)
      (joins_last chunk w w' w2 code s s2 (meant w.names last) (meant w0.names u) (map (meant w0.names) (drop (i + 1) left)) to next 0 (meant_outcome names o) x runs same_part same_store same_choice
      (subst (λ l. Does chunk (comes (meant_outcome names o) (looks 0) (Joins l to next)) w' code s 0 x w2 s2) same does))

-- the last value is given
pub joins_none : (chunk : ChunkOf) (w w' : LibWorld) (code : Code) (s s' : StackView) (v : m.Value) (texts : List m.Bytes) (left : List Value) (i to next : ℕ) → Runs s → length left ≤ i → Makes (give to v next) w code s w' s' → Does chunk (join (v ∷ map (meant texts) (drop i left)) to next) w code s 0 Continues w' s'
joins_none chunk w w' code s s' v texts left i to next runs high makes =
    subst (λ l. Does chunk (join (v ∷ map (meant texts) l) to next) w code s 0 Continues w' s') (sym (drop_all i left high))
    (does_like chunk w w' code s s' (join (v ∷ []) to next) (give to v next) 0 Continues runs (λ replies h. refl) (does_made chunk w w' code s s' (give to v next) makes))

-- ---- the instruction

-- it begins with its operands
pub begins_to_join : (chunk : ChunkOf) (w w' : LibWorld) (code : Code) (s s' : StackView) (r : Row) (vs : List m.Value) (to next n : ℕ) (x : Next) → Runs s → ((replies : List Reply) (h : Here w code s replies) → r h.frame h.others h.world ≡ now (Join vs to next) h.frame h.others h.world) → Does chunk (join vs to next) w code s n x w' s' → Does chunk r w code s n x w' s'
unfolding Does
begins_to_join chunk w w' code s s' r vs to next n x runs same does = λ replies.
    let h = here w code s replies runs in
    let asks : State = state (Join vs to next) h.frame h.others h.world in
    comes_behind chunk _ 0 n n asks x w' code s' replies (row_here h r ∙ same replies h) (omega arith)
    (subst (λ m. ComesTo chunk m n x w' code s' replies) (row_here h (join vs to next)) (does replies))

values_more : (f : machine.Frame) (u : machine.World) (a n : ℕ) → values_in f u a (suc n) ≡ values_in f u a n ++ value_in f u (a + n) ∷ []
values_more f u a zero = let e : a ≡ a + 0 = omega arith in ap (λ r. value_in f u r ∷ []) e
values_more f u a (suc n) =
    let e : suc a + n ≡ a + suc n = omega arith in
    ap (λ l. value_in f u a ∷ l) (values_more f u (suc a) n ∙ ap (λ r. values_in f u (suc a) n ++ value_in f u r ∷ []) e)

-- the last of them comes first
pub operands_last : (f : machine.Frame) (u : machine.World) (first last : ℕ) → first ≤ last → reverse (values_in f u first (last + 1 - first)) ≡ value_in f u last ∷ operands first (last - first) (inside f u)
operands_last f u first last le =
    let count : last + 1 - first ≡ suc (last - first) = omega (arith, le) in
    let end : first + (last - first) ≡ last = omega (arith, le) in
    ap (λ n. reverse (values_in f u first n)) count
    ∙ ap reverse (values_more f u first (last - first))
    ∙ reverse-append (values_in f u first (last - first)) (value_in f u (first + (last - first)) ∷ [])
    ∙ ap (λ r. value_in f u r ∷ reverse (values_in f u first (last - first))) end

-- one more is read
pub operands_more : (texts : List m.Bytes) {w : LibWorld} {code : Code} {s : StackView} {replies : List Reply} (h : Here w code s replies) (x : Focus) (vs : List Value) (v : Value) (last i r : ℕ) → r ≡ last - 1 - i → i < last → map (meant texts) vs ≡ read_of [] (operands (last - i) i) (part w code s x replies) → meant texts v ≡ read_of m.Nil (register_value r) (part w code s x replies) → map (meant texts) (vs ++ v ∷ []) ≡ read_of [] (operands (last - (i + 1)) (i + 1)) (part w code s x replies)
operands_more texts {w} {code} {s} {replies} h x vs v last i r at low read one =
    let from : last - (i + 1) ≡ r = omega (arith, at) in
    let up : suc r ≡ last - i = omega (arith, at, low) in
    let count : i + 1 ≡ suc i = omega arith in
    let f = h.frame in
    let u = h.world in
    map-append (meant texts) vs (v ∷ [])
    ∙ ap (λ l. l ++ meant texts v ∷ []) (read_here h [] (operands (last - i) i) x (map (meant texts) vs) read)
    ∙ ap (λ y. operands (last - i) i (inside f u) ++ y ∷ []) (read_here h m.Nil (register_value r) x (meant texts v) one)
    ∙ ap (λ k. reverse (values_in f u k i) ++ value_in f u r ∷ []) (sym up)
    ∙ sym (reverse_more (value_in f u r) (values_in f u (suc r) i))
    ∙ ap (λ n. reverse (values_in f u r n)) (sym count)
    ∙ ap (λ k. operands k (i + 1) (inside f u)) (sym from)
    ∙ sym (ap (λ (t : State). read_of [] (operands (last - (i + 1)) (i + 1)) t) (h.is x))

pub all_more : (P : Value → Type 0) (vs : List Value) (v : Value) → AllByRecursion P vs → P v → AllByRecursion P (vs ++ v ∷ [])
all_more P [] v h p = (p, tt)
all_more P (u ∷ vs) v h p = (h.0, all_more P vs v h.1 p)
