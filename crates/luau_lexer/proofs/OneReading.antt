-- Each text has either one list of tokens or one fault.
use Rattle.std.proofs.Common.{◌≡◌, ℕ, zero, suc, ◌<◌, ◌≤◌, List, [], ◌∷◌, length, refl, sym, ap, ◌∙◌, arith, length-drop}
use Rattle.syntax_tree.specs.declared.fault.Refusal.{Refusal}
use Rattle.syntax_tree.specs.Spellings.{Place, start, Step, What, Passes, Ends, Fails, behind, Stands, StandInTurn, Spelled, tokens_of, Spells, HasFault}
use Rattle.luau_lexer.specs.Laws.{Reading, Tokens, Fault, HasReading, HasOneReading, AllHaveOneReading}
use Rattle.luau_lexer.proofs.UniquePlaces.{IsStop, turn_once}
use Rattle.luau_lexer.proofs.EachPlace.{each_place, step_len, step_some, end_stays, behind_bytes}

-- ---- a reading

-- things in turn, up to one that is not passed
pub record Course (p : Place) : Type 0 where
  pub steps : List Step
  pub to : Place
  pub what : What
  pub turn : StandInTurn p steps to
  pub stands : Stands to what
  pub stop : IsStop what

stays : (p : Place) (w : What) → Stands p w → IsStop w → Course p
stays p w h k = record { steps = []; to = p; what = w; turn = refl; stands = h; stop = k }

shorter : (p : Place) (s : Step) → Stands p (Passes s) → length (behind p s).bytes < length p.bytes
shorter p s h = by p.bytes refl
  where
    by : (bytes : List ℕ) → p.bytes ≡ bytes → length (behind p s).bytes < length p.bytes
    by [] is = absurd (end_stays p s is h)
    by (b ∷ bs) is =
        omega (arith, ap length is, ap length (behind_bytes p s), length-drop (step_len s) p.bytes, step_some p s h)

passes : (p : Place) (s : Step) → Stands p (Passes s) → Course (behind p s) → Course p
passes p s h more = record {
  steps = s ∷ more.steps;
  to = more.to;
  what = more.what;
  turn = (h, more.turn);
  stands = more.stands;
  stop = more.stop;
}

-- the course from a place, given those from all places with fewer bytes
on : (p : Place) → ((q : Place) → length q.bytes < length p.bytes → Course q) → Course p
on p later = by (each_place p).0 (each_place p).1
  where
    by : (w : What) → Stands p w → Course p
    by Ends h = stays p Ends h tt
    by (Fails fault) h = stays p (Fails fault) h tt
    by (Passes s) h = passes p s h (later (behind p s) (shorter p s h))

course : (n : ℕ) (p : Place) → length p.bytes ≤ n → Course p
course zero p few = on p (λ q less. absurd (omega arith))
course (suc n) p few = on p (λ q less. course n q (omega arith))

each_course : (bytes : List ℕ) → Course (start bytes)
each_course bytes = course (length bytes) (start bytes) (omega arith)

pub each_reading : (bytes : List ℕ) → (r : Reading) × HasReading bytes r
each_reading bytes = by c.what c.stands c.stop
  where
    c : Course (start bytes)
    c = each_course bytes

    by : (w : What) → Stands c.to w → IsStop w → (r : Reading) × HasReading bytes r
    by (Passes s) h k = absurd k
    by Ends h k = (Tokens (tokens_of (start bytes) c.steps), record { steps = c.steps; to = c.to; turn = c.turn; «end» = h; tokens_are = refl })
    by (Fails fault) h k = (Fault fault, record { steps = c.steps; to = c.to; turn = c.turn; fails = h })

-- ---- no other

pub tokens_once : (bytes : List ℕ) (ts us : List Spelled) → Spells bytes ts → Spells bytes us → ts ≡ us
tokens_once bytes ts us g h =
    let same = turn_once (start bytes) g.steps h.steps g.to h.to Ends Ends g.turn h.turn g.end h.end tt tt in
    g.tokens_are ∙ ap (tokens_of (start bytes)) same.0 ∙ sym h.tokens_are

fault_once : (bytes : List ℕ) (e f : Refusal) → HasFault bytes e → HasFault bytes f → e ≡ f
fault_once bytes e f g h =
    let same = (turn_once (start bytes) g.steps h.steps g.to h.to (Fails e) (Fails f) g.turn h.turn g.fails h.fails tt tt).1 in cc

pub not_both : (bytes : List ℕ) (ts : List Spelled) (e : Refusal) → Spells bytes ts → HasFault bytes e → ⊥
not_both bytes ts e g h =
    let same = (turn_once (start bytes) g.steps h.steps g.to h.to Ends (Fails e) g.turn h.turn g.end h.fails tt tt).1 in cc

pub reading_once : (bytes : List ℕ) (r s : Reading) → HasReading bytes r → HasReading bytes s → r ≡ s
reading_once bytes (Tokens ts) (Tokens us) g h = ap Tokens (tokens_once bytes ts us g h)
reading_once bytes (Tokens ts) (Fault e) g h = absurd (not_both bytes ts e g h)
reading_once bytes (Fault e) (Tokens ts) g h = absurd (not_both bytes ts e h g)
reading_once bytes (Fault e) (Fault f) g h = ap Fault (fault_once bytes e f g h)

pub all_have_one_reading : AllHaveOneReading
all_have_one_reading = record {
  each = λ bytes.
      let r = each_reading bytes in
      let one : HasOneReading bytes = record { reading = r.0; has = r.1; only = λ other h. reading_once bytes other r.0 h r.1 } in
      one;
}
