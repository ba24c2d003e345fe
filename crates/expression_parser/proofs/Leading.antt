-- Turns one after the other.
use Rattle.std.proofs.Common.{◌≡◌, ◌≢◌, ◌≤◌, ◌<◌, ◌+◌, ℕ, List, ◌∷◌, subst}
use Rattle.syntax_tree.specs.declared.token.Token.{Token}
use Rattle.syntax_tree.specs.Places.{kind_at}
use Rattle.syntax_tree.specs.Types.{IsType}
use Rattle.parse_steps.specs.Items.{Item, a_type}
use Rattle.parse_steps.specs.Turns.{turn, stops, stays, takes}
use Rattle.parse_steps.specs.Steps.{here, stay, take, pass, most, InTime, Allowed, Leads, Reaches, no_turn, deep_node}
use Rattle.expression_parser.specs.declared.fault.Fault.{Fault}
use Rattle.expression_parser.specs.declared.fault.Fault.TheVariants as fault
use Rattle.expression_parser.specs.Reading.{Fails}

pub then_leads : {ts : List Token} {i v j w h u : ℕ} {k l m : List Item} → Leads ts i v k j w l → Leads ts j w l h u m → Leads ts i v k h u m
then_leads (here i v k) b = b
then_leads (stay i v u j w x k more l e rest) b = stay i v u _ _ x k more _ e (then_leads rest b)
then_leads (take i v u j w r x k more l e le fine rest) b = take i v u _ _ r x k more _ e le fine (then_leads rest b)
then_leads (pass i v h j w k l t rest) b = pass i v h _ _ k _ t (then_leads rest b)

pub then_reaches : {ts : List Token} {i v j w : ℕ} {k l : List Item} {End : (j w : ℕ) (l : List Item) → Type 0} → Leads ts i v k j w l → Reaches ts j w l End → Reaches ts i v k End
then_reaches a r = record { at = r.at; nest = r.nest; todo = r.todo; run = then_leads a r.run; ends = r.ends }

pub then_fails : {ts : List Token} {i v j w : ℕ} {k l : List Item} → Leads ts i v k j w l → (f : Fault) → Fails ts j w l f → Fails ts i v k f
then_fails a (fault.Unexpected p) r = then_reaches a r
then_fails a (fault.TooDeep p) r = then_reaches a r
then_fails a (fault.Late p) r = then_reaches a r
then_fails a fault.OutOfMemory r = tt

-- one turn
pub staying : {ts : List Token} {i v u : ℕ} {x : Item} {k more : List Item} → turn (kind_at ts i) v x k ≡ stays u more → Leads ts i v (x ∷ k) i u more
staying e = stay _ _ _ _ _ _ _ _ _ e (here _ _ _)

pub taking : {ts : List Token} {i v u r : ℕ} {x : Item} {k more : List Item} → turn (kind_at ts i) v x k ≡ takes r u more → r ≤ most → Allowed (InTime ts) i x → Leads ts i v (x ∷ k) (i + 1) u more
taking e le fine = take _ _ _ _ _ _ _ _ _ _ e le fine (here _ _ _)

pub passing : {ts : List Token} {i v j : ℕ} {k : List Item} → IsType ts most i j → Leads ts i v (a_type ∷ k) j v k
passing t = pass _ _ _ _ _ _ _ t (here _ _ _)

-- a state where nothing follows
pub stuck_here : {ts : List Token} {i v : ℕ} {x : Item} {k : List Item} → turn (kind_at ts i) v x k ≡ stops → x ≢ a_type → Fails ts i v (x ∷ k) (fault.Unexpected i)
stuck_here e other = record { at = _; nest = _; todo = _; run = here _ _ _; ends = no_turn _ _ _ _ e other }

pub deep_here : {ts : List Token} {i v u r : ℕ} {x : Item} {k more : List Item} → turn (kind_at ts i) v x k ≡ takes r u more → most < r → Fails ts i v (x ∷ k) (fault.TooDeep i)
deep_here e less = record { at = _; nest = _; todo = _; run = here _ _ _; ends = deep_node _ _ _ _ _ _ _ e less }

-- the same state, with another nest that is equal
pub nest_to : {ts : List Token} {i v j w w' : ℕ} {k l : List Item} → w ≡ w' → Leads ts i v k j w l → Leads ts i v k j w' l
nest_to {ts = ts} {i = i} {v = v} {j = j} {k = k} {l = l} e a = subst (λ (n : ℕ). Leads ts i v k j n l) e a

pub place_to : {ts : List Token} {i v j w j' : ℕ} {k l : List Item} → j ≡ j' → Leads ts i v k j w l → Leads ts i v k j' w l
place_to {ts = ts} {i = i} {v = v} {w = w} {k = k} {l = l} e a = subst (λ (n : ℕ). Leads ts i v k n w l) e a
