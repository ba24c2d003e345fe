-- Runs from one state go together: a token does one thing, and a type ends at one place. So of two runs from one state on lists that agree
-- where the first went, the one is a beginning of the other.
use Rattle.std.proofs.Common.{◌≡◌, ◌≢◌, ◌≤◌, ◌+◌, ℕ, List, [], length, ◌⊎◌, inl, inr, refl, sym, ap, subst, ◌∙◌, arith}
use Rattle.syntax_tree.specs.declared.token.Token.{Token}
use Rattle.syntax_tree.specs.Places.{kind_at}
use Rattle.type_skip.specs.Reading.{SameBelow}
use Rattle.type_skip.proofs.Forward.{type_forward}
use Rattle.type_skip.proofs.Moved.{same_type, more_brackets}
use Rattle.type_skip.proofs.OneType.{one_type}
use Rattle.parse_steps.specs.Items.{Item, suffixes, arguments}
use Rattle.parse_steps.specs.Turns.{Turn, stops, stays, takes, turn}
use Rattle.parse_steps.specs.Steps.{Runs, here, stay, take, pass, Allowed}

-- ---- what a turn is

abbrev pub form : Turn → ℕ
form stops = 0
form (stays u more) = 1
form (takes r u more) = 2

abbrev pub reach_of : Turn → ℕ
reach_of stops = 0
reach_of (stays u more) = 0
reach_of (takes r u more) = r

abbrev pub nest_of : Turn → ℕ
nest_of stops = 0
nest_of (stays u more) = u
nest_of (takes r u more) = u

abbrev pub todo_of : Turn → List Item
todo_of stops = []
todo_of (stays u more) = more
todo_of (takes r u more) = more

-- turns of two forms
pub two_forms : {A : Type 0} {t s : Turn} → t ≡ s → form t ≢ form s → A
two_forms e h = absurd (h (ap form e))

-- ---- one list

-- places only grow
pub places_grow : {ts : List Token} {n b : ℕ} {F : ℕ → Type 0} {i v j w : ℕ} {k l : List Item} → Runs ts n b F i v k j w l → i ≤ j
places_grow (here i v k) = omega arith
places_grow (stay i v u j w x k more l e r) = places_grow r
places_grow (take i v u j w reach x k more l e le a r) = omega (arith, places_grow r)
places_grow (pass i v h j w k l t r) = omega (arith, type_forward t, places_grow r)

-- runs one behind the other
pub then_runs : {ts : List Token} {n b : ℕ} {F : ℕ → Type 0} {i v j w p z : ℕ} {k l m : List Item} → Runs ts n b F i v k j w l → Runs ts n b F j w l p z m → Runs ts n b F i v k p z m
then_runs (here i v k) s = s
then_runs (stay i v u j w x k more l e r) s = stay i v u _ _ x k more _ e (then_runs r s)
then_runs (take i v u j w reach x k more l e le a r) s = take i v u _ _ reach x k more _ e le a (then_runs r s)
then_runs (pass i v h j w k l t r) s = pass i v h _ _ k _ t (then_runs r s)

-- where one place is fine, another one is
allowed : (F G : ℕ → Type 0) (i : ℕ) (x : Item) → (F i → G i) → Allowed F i x → Allowed G i x
allowed F G i (suffixes c u) f a = f a
allowed F G i arguments f a = f a
allowed F G i _ f a = tt

-- the limits may be wider
pub wider : {ts : List Token} {n m b c : ℕ} {F G : ℕ → Type 0} {i v j w : ℕ} {k l : List Item} → n ≤ m → b ≤ c → ((q : ℕ) → F q → G q) → Runs ts n b F i v k j w l → Runs ts m c G i v k j w l
wider le less f (here i v k) = here i v k
wider le less f (stay i v u j w x k more l e r) = stay i v u j w x k more l e (wider le less f r)
wider {F = F} {G = G} le less f (take i v u j w reach x k more l e h a r) =
    take i v u j w reach x k more l e (omega (arith, h, less)) (allowed F G i x (f i) a) (wider le less f r)
wider {ts = ts} {n = n} {m = m} le less f (pass i v h j w k l t r) = pass i v h j w k l (more_brackets ts n m i h le t) (wider le less f r)

-- a run from a state that is given by equations
pub begins_at : {ts : List Token} {n b : ℕ} {F : ℕ → Type 0} {i v u j w h : ℕ} {k m l : List Item} → i ≡ h → v ≡ u → k ≡ m → Runs ts n b F i v k j w l → Runs ts n b F h u m j w l
begins_at {ts = ts} {n = n} {b = b} {F = F} {v = v} {u = u} {j = j} {w = w} {h = h} {k = k} {l = l} d e f r =
    subst (λ (x : List Item). Runs ts n b F h u x j w l) f
    (subst (λ (x : ℕ). Runs ts n b F h x k j w l) e (subst (λ (x : ℕ). Runs ts n b F x v k j w l) d r))

-- ---- two lists

-- the lists agree at a place that was passed
agree : (ts us : List Token) {i j : ℕ} → i ≤ j → SameBelow (j + 1) ts us → kind_at us i ≡ kind_at ts i
agree ts us {i = i} le same = same i (omega (arith, le))

fewer : (ts us : List Token) {i j : ℕ} → i ≤ j → SameBelow (j + 1) ts us → SameBelow (i + 1) ts us
fewer ts us le same = λ q h. same q (omega (arith, le, h))

-- of two runs from one state the one is a beginning of the other
pub onward : {ts us : List Token} {n b m c : ℕ} {F G : ℕ → Type 0} {i v j w p z : ℕ} {k l o : List Item} → Runs ts n b F i v k j w l → SameBelow (j + 1) ts us → Runs us m c G i v k p z o → Runs us m c G j w l p z o ⊎ Runs ts n b F p z o j w l
onward (here i v k) same s = inl s
onward (stay i v u j w x k more l e r) same (here _ _ _) = inr (stay i v u j w x k more l e r)
onward {ts = ts} {us = us} (stay i v u j w x k more l e r) same (stay _ _ y p z _ _ rest o d s) =
    let there : kind_at us i ≡ kind_at ts i = agree ts us (places_grow r) same in
    let both : stays y rest ≡ stays u more = sym d ∙ ap (λ t. turn t v x k) there ∙ e in
    onward r same (begins_at refl (ap nest_of both) (ap todo_of both) s)
onward {ts = ts} {us = us} (stay i v u j w x k more l e r) same (take _ _ y p z reach _ _ rest o d h a s) =
    let there : kind_at us i ≡ kind_at ts i = agree ts us (places_grow r) same in
    let both : takes reach y rest ≡ stays u more = sym d ∙ ap (λ t. turn t v x k) there ∙ e in
    absurd (omega (arith, ap form both))
onward (stay i v u j w x k more l e r) same (pass _ _ h p z _ o t s) = absurd (omega (arith, ap form e))
onward (take i v u j w reach x k more l e le a r) same (here _ _ _) = inr (take i v u j w reach x k more l e le a r)
onward {ts = ts} {us = us} (take i v u j w reach x k more l e le a r) same (stay _ _ y p z _ _ rest o d s) =
    let there : kind_at us i ≡ kind_at ts i = agree ts us (omega (arith, places_grow r)) same in
    let both : stays y rest ≡ takes reach u more = sym d ∙ ap (λ t. turn t v x k) there ∙ e in
    absurd (omega (arith, ap form both))
onward {ts = ts} {us = us} (take i v u j w reach x k more l e le a r) same (take _ _ y p z other _ _ rest o d h f s) =
    let there : kind_at us i ≡ kind_at ts i = agree ts us (omega (arith, places_grow r)) same in
    let both : takes other y rest ≡ takes reach u more = sym d ∙ ap (λ t. turn t v x k) there ∙ e in
    onward r same (begins_at refl (ap nest_of both) (ap todo_of both) s)
onward (take i v u j w reach x k more l e le a r) same (pass _ _ h p z _ o t s) = absurd (omega (arith, ap form e))
onward (pass i v h j w k l t r) same (here _ _ _) = inr (pass i v h j w k l t r)
onward (pass i v h j w k l t r) same (stay _ _ y p z _ _ rest o d s) = absurd (omega (arith, ap form d))
onward (pass i v h j w k l t r) same (take _ _ y p z reach _ _ rest o d le f s) = absurd (omega (arith, ap form d))
onward {ts = ts} {us = us} {n = n} (pass i v h j w k l t r) same (pass _ _ g p z _ o q s) =
    let moved = same_type ts us n i h (fewer ts us (places_grow r) same) t in
    onward r same (begins_at (one_type q moved refl) refl refl s)

-- nothing follows an empty stack
pub at_rest : {ts : List Token} {n b : ℕ} {F : ℕ → Type 0} {i v j w : ℕ} {k l : List Item} → k ≡ [] → Runs ts n b F i v k j w l → (i ≡ j) × (v ≡ w) × (k ≡ l)
at_rest e (here i v k) = (refl, refl, refl)
at_rest e (stay i v u j w x k more l d r) = absurd (omega (arith, ap length e))
at_rest e (take i v u j w reach x k more l d le a r) = absurd (omega (arith, ap length e))
at_rest e (pass i v h j w k l t r) = absurd (omega (arith, ap length e))

-- a run that has come to an empty stack is the longer one
pub passes : {ts us : List Token} {n b m c : ℕ} {F G : ℕ → Type 0} {i v j w p z : ℕ} {k l : List Item} → Runs ts n b F i v k j w l → SameBelow (j + 1) ts us → Runs us m c G i v k p z [] → Runs us m c G j w l p z []
passes {ts = ts} {us = us} {n = n} {b = b} {m = m} {c = c} {F = F} {G = G} {j = j} {w = w} {p = p} {z = z} {l = l} r same s =
    either (onward r same s)
  where
    either : Runs us m c G j w l p z [] ⊎ Runs ts n b F p z [] j w l → Runs us m c G j w l p z []
    either (inl s) = s
    either (inr r) = let end = at_rest refl r in begins_at end.0 end.1 end.2 (here p z [])

-- runs from one state to an empty stack end at one place and with one nest
pub one_end : {ts : List Token} {n b m c : ℕ} {F G : ℕ → Type 0} {i v j w p z : ℕ} {k : List Item} → Runs ts n b F i v k j w [] → Runs ts m c G i v k p z [] → (j ≡ p) × (w ≡ z)
one_end r s = let end = at_rest refl (passes r (λ q h. refl) s) in (end.0, end.1)
