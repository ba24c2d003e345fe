-- Runs that end with the empty stack at the end of a text, and what is left of one behind a part of it.
--
-- At a place of a text a `(` stands, or nothing. A run owes an answer if, further on, arguments open at that place.
use Rattle.std.proofs.Common.{◌≡◌, ℕ, zero, suc, ◌+◌, ◌<◌, Bool, true, false, if◌then◌else◌, List, [], ◌∷◌, ◌++◌, Option, Some, None, IsTrue, IsFalse, ◌⊎◌, inl, inr, refl, sym, ap, subst, ◌∙◌, arith, true≢false, rules, Contains}
use Rattle.std.proofs.lemmas.List.Elements.{Contains-append_left, Contains-append_right}
use Rattle.byte_text.specs.declared.StrId.{StrId}
use Rattle.syntax_tree.specs.declared.token.Token.{Token}
use Rattle.syntax_tree.specs.declared.token.TokenKind.{TokenKind}
use Rattle.syntax_tree.specs.declared.token.TokenKind.TheVariants as token
use Rattle.syntax_tree.specs.Calls.{Places}
use Rattle.syntax_tree.specs.Places.{kind_at, Has, Lacks}
use Rattle.syntax_tree.specs.Types.{is_open_paren, IsType}
use Rattle.type_skip.specs.declared.words.Word.{Word}
use Rattle.parse_steps.specs.Classes as classes
use Rattle.parse_steps.specs.Items.{Item}
use Rattle.parse_steps.specs.Items as item
use Rattle.parse_steps.specs.Steps.{asks}
use Rattle.parse_steps.specs.Turns.{Turn, turn, stops, stays, takes, word_or, name_turn}
use Rattle.type_skip.specs.Words.{token_of, is_word}
use Rattle.type_skip.proofs.WordTests.{has, lacks}

-- tokens, and a place where no token but a `(` stands; so many brackets of a type may be open at once
pub record Text : Type 0 where
  pub tokens : List Token
  pub brackets : ℕ
  pub place : ℕ
  pub paren : (kind : TokenKind) → Has tokens place kind → IsTrue (is_open_paren (Some kind))

-- m turns lead from place i with the stack k to the end. Where the run is said to owe an answer, it opens arguments at the text's place
pub data Accepts (s : Text) : (m i v : ℕ) (k : List Item) (owed : Bool) → Type 0 where
  over : (i v : ℕ) → kind_at s.tokens i ≡ None → Accepts s zero i v [] false
  stay : (m i v u : ℕ) (x : Item) (k more : List Item) (f : Bool) → turn (kind_at s.tokens i) v x k ≡ stays u more → Accepts s m i u more f → Accepts s (suc m) i v (x ∷ k) f
  take : (m i v u reach : ℕ) (x : Item) (k more : List Item) (f g : Bool) → turn (kind_at s.tokens i) v x k ≡ takes reach u more → (IsTrue f → (IsTrue (asks x) × (i ≡ s.place)) ⊎ IsTrue g) → Accepts s m (i + 1) u more g → Accepts s (suc m) i v (x ∷ k) f
  pass : (m i v h : ℕ) (k : List Item) (f : Bool) → IsType s.tokens s.brackets i h → Accepts s m h v k f → Accepts s (suc m) i v (item.a_type ∷ k) f

-- fewer than g turns lead from there to the end
pub record Rest (s : Text) (g i : ℕ) (k : List Item) (f : Bool) : Type 0 where
  pub left : ℕ
  pub nest : ℕ
  pub less : left < g
  pub run : Accepts s left i nest k f

-- behind a token that may open arguments
pub record Opened (s : Text) (g i : ℕ) (k : List Item) (f : Bool) : Type 0 where
  pub owed : Bool
  pub opens : IsTrue f → (i ≡ s.place) ⊎ IsTrue owed
  pub rest : Rest s g (i + 1) k owed

abbrev pub Taken : Text → (asking : Bool) → (g i : ℕ) → List Item → Bool → Type 0
Taken s false g i k f = Rest s g (i + 1) k f
Taken s true g i k f = Opened s g i k f

-- the rest behind a turn
abbrev pub Behind : Text → (g i : ℕ) → (Stopped : Type 0) → (asking f : Bool) → Turn → Type 0
Behind s g i Stopped asking f stops = Stopped
Behind s g i Stopped asking f (stays u more) = Rest s g i more f
Behind s g i Stopped asking f (takes reach u more) = Taken s asking g i more f

pub record After (s : Text) (g i : ℕ) (Stopped : Type 0) (asking f : Bool) (t : Turn) : Type 0 where
  pub rest : Behind s g i Stopped asking f t

-- a type has no turn
pub record Passed (s : Text) (g i : ℕ) (k : List Item) (f : Bool) : Type 0 where
  pub stop : ℕ
  pub is : IsType s.tokens s.brackets i stop
  pub rest : Rest s g stop k f

abbrev pub Stopped : Text → (g i : ℕ) → Item → List Item → Bool → Type 0
Stopped s g i item.a_type k f = Passed s g i k f
Stopped s g i _ k f = ⊥

abbrev pub Next : Text → (g i v : ℕ) → Item → List Item → Bool → Type 0
Next s g i v x k f = After s g i (Stopped s g i x k f) (asks x) f (turn (kind_at s.tokens i) v x k)

-- a run that owes an answer owes one where less is asked
pub weaker : {s : Text} {m i v : ℕ} {k : List Item} {g : Bool} (f : Bool) → (IsTrue f → IsTrue g) → Accepts s m i v k g → Accepts s m i v k f
weaker false h (over i v e) = over i v e
weaker true h (over i v e) = absurd (true≢false (sym (h refl)))
weaker f h (stay m i v u x k more _ e a) = stay m i v u x k more f e (weaker f h a)
weaker f h (take m i v u reach x k more _ q e o a) = take m i v u reach x k more f q e (λ t. o (h t)) a
weaker f h (pass m i v j k _ t a) = pass m i v j k f t (weaker f h a)

pub weakened : {s : Text} {g i : ℕ} {k : List Item} {q : Bool} (f : Bool) → (IsTrue f → IsTrue q) → Rest s g i k q → Rest s g i k f
weakened f h r = record { left = r.left; nest = r.nest; less = r.less; run = weaker f h r.run }

-- no arguments open at another token
pub unopened : {s : Text} {g i : ℕ} {k : List Item} {f : Bool} (kind : TokenKind) → IsFalse (is_open_paren (Some kind)) → Has s.tokens i kind → Opened s g i k f → Rest s g (i + 1) k f
unopened {s = s} {i = i} {f = f} kind other stands o = weakened f (λ t. decide (o.opens t)) o.rest
  where
    decide : (i ≡ s.place) ⊎ IsTrue o.owed → IsTrue o.owed
    decide (inl here) = absurd (true≢false (sym (s.paren kind (ap (kind_at s.tokens) (sym here) ∙ stands)) ∙ other))
    decide (inr later) = later

pub sooner : {s : Text} {g i : ℕ} {k : List Item} {f : Bool} → Rest s g i k f → Rest s (suc g) i k f
sooner r = record { left = r.left; nest = r.nest; less = omega (arith, r.less); run = r.run }

taken_quiet : {s : Text} {g m i v : ℕ} {k : List Item} {f q : Bool} (asking : Bool) → IsFalse asking → m < g → (IsTrue f → (IsTrue asking × (i ≡ s.place)) ⊎ IsTrue q) → Accepts s m (i + 1) v k q → Rest s g (i + 1) k f
taken_quiet {s = s} {m = m} {i = i} {v = v} {f = f} {q = q} asking e less o a = weakened f (λ t. decide (o t)) (record { left = m; nest = v; less = less; run = a })
  where
    decide : (IsTrue asking × (i ≡ s.place)) ⊎ IsTrue q → IsTrue q
    decide (inl both) = absurd (true≢false (sym both.0 ∙ e))
    decide (inr later) = later

taken_asking : {s : Text} {g m i v : ℕ} {k : List Item} {f q : Bool} (asking : Bool) → m < g → (IsTrue f → (IsTrue asking × (i ≡ s.place)) ⊎ IsTrue q) → Accepts s m (i + 1) v k q → Opened s g i k f
taken_asking {s = s} {m = m} {i = i} {v = v} {q = q} asking less o a = record { owed = q; opens = λ t. decide (o t); rest = record { left = m; nest = v; less = less; run = a } }
  where
    decide : (IsTrue asking × (i ≡ s.place)) ⊎ IsTrue q → (i ≡ s.place) ⊎ IsTrue q
    decide (inl both) = inl both.1
    decide (inr later) = inr later

taken : {s : Text} {g m i v : ℕ} {k : List Item} {f q : Bool} (asking b : Bool) → asking ≡ b → m < g → (IsTrue f → (IsTrue asking × (i ≡ s.place)) ⊎ IsTrue q) → Accepts s m (i + 1) v k q → Taken s b g i k f
taken asking false e less o a = taken_quiet asking e less o a
taken asking true e less o a = taken_asking asking less o a

turned_run : {s : Text} {g m i v : ℕ} {x : Item} {k : List Item} {f : Bool} → m < suc g → Accepts s m i v (x ∷ k) f → Behind s g i (Stopped s g i x k f) (asks x) f (turn (kind_at s.tokens i) v x k)
turned_run {s = s} {g = g} less (stay m i v u x k more f e a) = subst (Behind s g i (Stopped s g i x k f) (asks x) f) (sym e) (record { left = m; nest = u; less = omega (arith, less); run = a })
turned_run {s = s} {g = g} less (take m i v u reach x k more f q e o a) = subst (Behind s g i (Stopped s g i x k f) (asks x) f) (sym e) (taken (asks x) (asks x) refl (omega (arith, less)) o a)
turned_run less (pass m i v h k f t a) = record { stop = h; is = t; rest = record { left = m; nest = v; less = omega (arith, less); run = a } }

-- the first turn of a run
pub turned : {s : Text} {g i : ℕ} {x : Item} {k : List Item} {f : Bool} (r : Rest s (suc g) i (x ∷ k) f) → Next s g i r.nest x k f
turned r = record { rest = turned_run r.less r.run }

-- and where what is left need not be less
pub turned_once : {s : Text} {g i : ℕ} {x : Item} {k : List Item} {f : Bool} (r : Rest s g i (x ∷ k) f) → Next s g i r.nest x k f
turned_once r = record { rest = turned_run (omega (arith, r.less)) r.run }

-- ---- one item

-- by cases on a word
pub by_word : {C : Type 0} {s : Text} {g i : ℕ} {S : Type 0} {asking f : Bool} (w : Word) (here other : Turn) → After s g i S asking f (word_or w (kind_at s.tokens i) here other) → (Has s.tokens i (token_of w) → Behind s g i S asking f here → C) → (Lacks s.tokens i (token_of w) → After s g i S asking f other → C) → C
by_word {C = C} {s = s} {g = g} {i = i} {S = S} {asking = asking} {f = f} w here other a stands stands_not = decide (is_word w (kind_at s.tokens i)) refl a
  where
    decide : (b : Bool) → is_word w (kind_at s.tokens i) ≡ b → After s g i S asking f (if b then here else other) → C
    decide true h a = stands (has w (kind_at s.tokens i) h) a.rest
    decide false h a = stands_not (lacks w (kind_at s.tokens i) h) a

-- a token with a name is a name
pub named : (t : Option TokenKind) (x : StrId) → classes.name_of t ≡ Some x → t ≡ Some (token.Name x)
named (Some (token.Name y)) x h = search (rules, h)
named _ x h = search (rules, h)

-- by cases on a name
pub by_option : {C : Type 0} {s : Text} {g i : ℕ} {S : Type 0} {asking f : Bool} (o : Option StrId) (here other : Turn) → After s g i S asking f (name_turn o here other) → ((x : StrId) → o ≡ Some x → Behind s g i S asking f here → C) → (o ≡ None → After s g i S asking f other → C) → C
by_option (Some x) here other a stands stands_not = stands x refl a.rest
by_option None here other a stands stands_not = stands_not refl a

pub by_name : {C : Type 0} {s : Text} {g i : ℕ} {S : Type 0} {asking f : Bool} (here other : Turn) → After s g i S asking f (name_turn (classes.name_of (kind_at s.tokens i)) here other) → ((x : StrId) → Has s.tokens i (token.Name x) → Behind s g i S asking f here → C) → (classes.name_of (kind_at s.tokens i) ≡ None → After s g i S asking f other → C) → C
by_name {s = s} {i = i} here other a stands stands_not = by_option (classes.name_of (kind_at s.tokens i)) here other a (λ x h. stands x (named (kind_at s.tokens i) x h)) stands_not

pub read_word : {s : Text} {g i : ℕ} {k : List Item} {f : Bool} (w : Word) → Rest s g i (item.expects w ∷ k) f → Has s.tokens i (token_of w) × Rest s g (i + 1) k f
read_word w r = by_word w _ _ (turned_once r) (λ h rest. (h, rest)) (λ h rest. absurd rest.rest)

pub read_name : {s : Text} {g i : ℕ} {k : List Item} {f : Bool} → Rest s g i (item.a_name ∷ k) f → (x : StrId) × Has s.tokens i (token.Name x) × Rest s g (i + 1) k f
read_name r = by_name _ _ (turned_once r) (λ x h rest. (x, h, rest)) (λ h rest. absurd rest.rest)

pub wrapped : {s : Text} {g i : ℕ} {k : List Item} {f : Bool} → Rest s g i (item.wrap ∷ k) f → Rest s g i k f
wrapped r = (turned_once r).rest

pub greater : {s : Text} {g i v : ℕ} {k : List Item} {f : Bool} → Rest s g i (item.greater v ∷ k) f → Rest s g i k f
greater r = (turned_once r).rest

-- ---- parts

-- arguments open there in a part, or further on
pub data Owes (s : Text) (places : Places) (f : Bool) : Type 0 where
  in_part : Contains places s.place → Owes s places f
  further : IsTrue f → Owes s places f

-- a part without calls, and the rest behind it
pub record Passes (s : Text) (A : Type 0) (Is : A → ℕ → Type 0) (g : ℕ) (k : List Item) (f : Bool) : Type 0 where
  pub tree : A
  pub stop : ℕ
  pub is : Is tree stop
  pub rest : Rest s g stop k f

-- A part, and the rest behind it. Where the run owes an answer, it is in the part or behind it; also one that something before has
pub record Reads (s : Text) (A : Type 0) (Is : A → ℕ → Type 0) (calls : A → Places) (before : Places) (g : ℕ) (k : List Item) (f : Bool) : Type 0 where
  pub tree : A
  pub stop : ℕ
  pub is : Is tree stop
  pub owed : Bool
  pub owes : Owes s before f → Owes s (calls tree) owed
  pub rest : Rest s g stop k owed

pub raised : {s : Text} {A : Type 0} {Is : A → ℕ → Type 0} {calls : A → Places} {before : Places} {g : ℕ} {k : List Item} {f : Bool} → Reads s A Is calls before g k f → Reads s A Is calls before (suc g) k f
raised r = record { tree = r.tree; stop = r.stop; is = r.is; owed = r.owed; owes = r.owes; rest = sooner r.rest }

pub raised_pass : {s : Text} {A : Type 0} {Is : A → ℕ → Type 0} {g : ℕ} {k : List Item} {f : Bool} → Passes s A Is g k f → Passes s A Is (suc g) k f
raised_pass r = record { tree = r.tree; stop = r.stop; is = r.is; rest = sooner r.rest }

-- ---- what is owed

pub nowhere : {A : Type 0} {x : ℕ} → Contains [] x → A
nowhere c = absurd (omega (arith, c.1))

-- nothing before
pub anything : {s : Text} {f : Bool} (cs : Places) → Owes s [] f → Owes s cs f
anything cs (in_part c) = nowhere c
anything cs (further t) = further t

on_left : {s : Text} {f : Bool} (cs ds : Places) → Owes s cs f → Owes s (cs ++ ds) f
on_left {s = s} cs ds (in_part c) = in_part (Contains-append_left cs ds s.place c)
on_left cs ds (further t) = further t

on_right : {s : Text} {f : Bool} (cs ds : Places) → Owes s ds f → Owes s (cs ++ ds) f
on_right {s = s} cs ds (in_part c) = in_part (Contains-append_right cs ds s.place c)
on_right cs ds (further t) = further t

-- a part behind a left part
pub behind : {s : Text} {f h : Bool} (cs ds : Places) → (Owes s [] f → Owes s ds h) → Owes s cs f → Owes s (cs ++ ds) h
behind {s = s} cs ds two (in_part c) = in_part (Contains-append_left cs ds s.place c)
behind cs ds two (further t) = on_right cs ds (two (further t))

-- two parts in their order
pub in_order : {s : Text} {f g h : Bool} (cs ds : Places) → (Owes s [] f → Owes s cs g) → (Owes s [] g → Owes s ds h) → Owes s [] f → Owes s (cs ++ ds) h
in_order cs ds one two o = behind cs ds two (one o)

-- of equal lists
pub same : {s : Text} {f : Bool} {cs ds : Places} → ds ≡ cs → Owes s cs f → Owes s ds f
same {s = s} {f = f} e o = subst (λ (places : Places). Owes s places f) (sym e) o

-- arguments open at this place
pub opening : {s : Text} {i : ℕ} {f g : Bool} (cs : Places) → (IsTrue f → (i ≡ s.place) ⊎ IsTrue g) → Owes s [] f → Owes s (i ∷ cs) g
opening cs o (in_part c) = nowhere c
opening {s = s} {i = i} {g = g} cs o (further t) = decide (o t)
  where
    decide : (i ≡ s.place) ⊎ IsTrue g → Owes s (i ∷ cs) g
    decide (inl here) = in_part (0, omega arith, here)
    decide (inr later) = further later
