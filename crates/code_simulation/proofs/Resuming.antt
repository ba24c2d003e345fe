-- A coroutine is resumed, or the one that runs is left for the one that has resumed it: both go on along with their code.
use Rattle.std.proofs.Common.{Bool, ◌≡◌, ◌≢◌, ℕ, suc, ◌<◌, ◌≤◌, List, [], ◌∷◌, length, Option, Some, None, refl, sym, ap, ◌∙◌, subst, arith, ⊎_elim, inl, inr}
use Rattle.std.specs.Prelude.{slice_set}
use Rattle.std.proofs.lemmas.Bool.{cases_eq}
use Rattle.std.proofs.lemmas.List.{length-set}
use Rattle.value_model.specs.declared.kind.CoStatus.{CoStatus}
use Rattle.value_model.specs.declared.kind.CoStatus.TheVariants.{Running, Suspended, Normal, Dead}
use Rattle.value_model.specs.Values.{Value, Nil}
use Rattle.value_model.specs.Store.{CoroutineOf, here, place_of_running}
use Rattle.value_model.specs.CoroutineRows.{coroutine_of}
use Rattle.value_model.specs.Waits.{Wait, Resumes, Waits, waiting, ByLibrary, Answer}
use Rattle.value_model.specs.Waiting.{left}
use Rattle.value_model.specs.Waiting as decision
use Rattle.source_meaning.specs.States as source
use Rattle.source_meaning.specs.Calls as source_calls
use Rattle.source_meaning.specs.Steps as source_steps
use Rattle.machine_meaning.specs.States as machine
use Rattle.machine_meaning.specs.Calls as machine_calls
use Rattle.machine_meaning.specs.Steps as machine_steps
use Rattle.code_simulation.specs.Relation.{Dyn, store_s, Setting, Base, Desc, Ok}
use Rattle.code_simulation.proofs.Along.{Alike, Stands, Outside, Invokes, Hands, CallsGo}
use Rattle.code_simulation.proofs.Deciding.{decides, base_decides, Follows, AlikeOutside, decided_same}
use Rattle.code_simulation.proofs.Outside.{waiting_more, waiting_more_others}
use Rattle.code_simulation.proofs.Promises.{coroutine_at, Promise, Chain, on_other, OtherCoroutines, Before, Within, promised, setting, placed, ok_placed, stood_of, stands_of}
use Rattle.code_simulation.proofs.Chains.{turned, resumed_one, resumed_is, left_is, left_running, written, unwritten, is_there, length_turned, turned_other, chain_resumed, chain_left}
use Rattle.code_simulation.proofs.Switching.{switches, base_switches, switched_same, Changes, switched_depth, stayed_depth, switched_placed, stayed_placed}

running_dead : {A : Type 0} → Running ≡ Dead → A
running_dead e = cc

suspended_dead : {A : Type 0} → Suspended ≡ Dead → A
suspended_dead e = cc

normal_dead : {A : Type 0} → Normal ≡ Dead → A
normal_dead e = cc

-- the one that runs is not dead behind another status
turned_alive : (status : CoStatus) (o : Option ℕ) (cs : List CoroutineOf) → status ≢ Dead → (coroutine_at cs (place_of_running o)).status ≢ Dead
    → (coroutine_at (turned status o cs) (place_of_running o)).status ≢ Dead
turned_alive status None cs ne alive e = alive e
turned_alive status (Some k) cs ne alive e =
    let x = decision.with_status (coroutine_at cs k) status in
    ne (sym (ap (λ y. y.status) (written cs k x (is_there cs k alive))) ∙ e)

-- ---- a coroutine that waits is resumed

resume_changes : {p : Setting} {R : Promise} {turns co : ℕ} {ws : List Wait} {ds : List Desc} {d : Dyn} {line : List ℕ}
    → (wrapped : Bool) (i : ℕ) (args : List Value) → (coroutine_at (store_s d).coroutines i).status ≡ Suspended → Ok p turns co ws ds d
    → OtherCoroutines R line co d → Changes d (decision.resume_it wrapped i args d.script.waits (store_s d)) co i (Resumes wrapped ∷ ws) (i ∷ line)
resume_changes {co = co} {ws = ws} {d = d} {line = line} wrapped i args e o c =
    let s = store_s d in
    let w = Resumes wrapped in
    let cs = turned Normal s.running s.coroutines in
    let there = is_there s.coroutines i (λ r. suspended_dead (sym e ∙ r)) in
    let many = length-set d.script.waits (here s) (w ∷ waiting d.script.waits (here s)) in
    let chain = chain_resumed s line i e c.chain in
    record {
      runs = refl;
      own = waiting_more w d.script.waits s co o.running o.room ∙ ap (λ v. w ∷ v) o.waits;
      others = λ j ne. waiting_more_others w d.script.waits s co j o.running ne;
      room = omega (arith, there, c.enough, many);
      enough =
          let e1 = ap length (resumed_is i s) in
          let e2 = length-set cs i (resumed_one s.running) in
          let e3 = length_turned Normal s.running s.coroutines in
          omega (arith, e1, e2, e3, c.enough, many);
      chain = chain;
      alive = λ r. running_dead (sym chain.2 ∙ r);
      empty = λ j ne r.
          let is = ap (λ cs. (coroutine_at cs j).status) (resumed_is i s) ∙ ap (λ y. y.status) (unwritten cs i j (resumed_one s.running) ne) in
          ⊎_elim
          (λ same. absurd (turned_alive Normal s.running s.coroutines (λ x. normal_dead x)
          (subst (λ k. (coroutine_at s.coroutines k).status ≢ Dead) (sym o.running) c.alive)
          (ap (λ k. (coroutine_at cs k).status) (o.running ∙ sym same) ∙ sym is ∙ r)))
          (λ apart. waiting_more_others w d.script.waits s co j o.running apart
          ∙ c.empty j apart (sym (ap (λ y. y.status) (turned_other Normal s.running s.coroutines j (λ x. apart (x ∙ o.running)))) ∙ sym is ∙ r))
          (cases_eq j co);
    }

goes_follow : (p : Setting) (l : ℕ) (f : Value) (args : List Value) (fs : List source.Activation) (ms : List machine.Frame) (d : Dyn)
    → ((x : Outside) → AlikeOutside p l x fs ms d) → Follows p l (decision.goes_into f args) fs ms d
goes_follow p l Nil args fs ms d go = go (Hands args)
goes_follow p l f args fs ms d go = go (Invokes ByLibrary f args)

-- with fewer turns left all is earlier
earlier_fewer : (l n k depth : ℕ) → l < n → (i j : ℕ) → Before i j l k → Before i j n depth
earlier_fewer l n k depth lt i j (inl b) = inl (omega (arith, b, lt))
earlier_fewer l n k depth lt i j (inr b) = inl (omega (arith, b.0, lt))

within_fewer : (l n k deep depth : ℕ) → l < n → (i j : ℕ) → Before i j l k → (i ≤ n) × Within n deep i j
within_fewer l n k deep depth lt i j (inl b) = (omega (arith, b, lt), (omega (arith, b, lt), λ e. absurd (omega (arith, b, lt, e))))
within_fewer l n k deep depth lt i j (inr b) = (omega (arith, b.0, lt), (omega (arith, b.0, lt), λ e. absurd (omega (arith, b.0, lt, e))))

-- with as many turns and a resume fewer
within_less : (n k deep : ℕ) → k ≤ deep → (i j : ℕ) → Before i j n k → (i ≤ n) × Within n deep i j
within_less n k deep le i j (inl b) = (omega (arith, b), (omega (arith, b), λ e. absurd (omega (arith, b, e))))
within_less n k deep le i j (inr b) = (omega (arith, b.0), (omega (arith, b.0), λ e. omega (arith, b.1, le)))

earlier_less : (n k depth : ℕ) → k < depth → (i j : ℕ) → Before i j n k → Before i j n depth
earlier_less n k depth lt i j (inl b) = inl b
earlier_less n k depth lt i j (inr b) = inr (b.0, omega (arith, b.1, lt))

earlier_within : (n k depth : ℕ) → k < depth → (i j : ℕ) → i ≤ n → Within n k i j → Before i j n depth
earlier_within n k depth lt i j le w =
    ⊎_elim
    (λ e. let last = w.1 e in inr (e, omega (arith, last, lt)))
    (λ ne. inl (omega (arith, le, ne)))
    (cases_eq i n)

module _ (q : Setting) (n deep : ℕ) (fewer_calls : (i : ℕ) → i < n → CallsGo (setting q n deep) i) where
  -- its functions go on with one turn fewer, and those of the one that resumed it wait
  pub resume_goes : (wrapped : Bool) (i : ℕ) (args : List Value) {co : ℕ} {ws : List Wait} {fs : List source.Activation} {ms : List machine.Frame}
      {ds : List Desc} {d : Dyn} → Ok (setting q n deep) n co ws ds d → Stands (setting q n deep) n co ws fs ms ds
      → (coroutine_at (store_s d).coroutines i).status ≡ Suspended → (s : source.State) (m : machine.State)
      → source_steps.step q.texts s ≡ source_calls.decided (decision.resume_it wrapped i args d.script.waits (store_s d)) fs d.script
      → machine_steps.step q.chunk m ≡ machine_calls.decided q.chunk (decision.resume_it wrapped i args d.script.waits (store_s d)) ms d.code
      → Alike q n s m
  resume_goes wrapped i args {co} {ws} {fs} {ms} {ds} {d} o stands e s m es em = ⊎_elim stays moves (cases_eq i co)
    where
      moves : i ≢ co → Alike q n s m
      moves ne =
          let a = decision.resume_it wrapped i args d.script.waits (store_s d) in
          let c = o.others.2.2 in
          let changes = resume_changes wrapped i args e o c in
          let w = c.waiters i ne in
          switched_same (setting q n deep) a co i n fs ms d o.running refl (λ r. ne (sym r)) o.base
          (λ l f.
          let lt : l < n = omega (arith, f) in
          let depth = o.others.0 in
          let stood = on_other refl (stood_of q l (suc depth) (within_fewer l n (suc depth) deep depth lt) stands) in
          goes_follow (setting q n deep) l (coroutine_of (store_s d) i).body args (d.script.elsewhere i) (d.code.elsewhere i) (switches d a co i fs ms)
          (λ x. fewer_calls l lt x i (waiting d.script.waits i) (d.script.elsewhere i) (d.code.elsewhere i) w.roots (switches d a co i fs ms)
          (ok_placed q (switched_placed q n depth l (suc depth) (earlier_fewer l n (suc depth) depth lt) a fs ms ne changes (placed q o) w) (
            suc depth,
            (omega (arith, lt), λ r. absurd (omega (arith, lt, r))),
            switched_depth q n depth l (suc depth) (earlier_fewer l n (suc depth) depth lt) a ne changes (ap suc o.others.2.1) c o.rest stood,
          ))
          (stands_of q n deep l (λ i k le within. inl (omega (arith, le, lt))) w.stands)))
          s m es em

      stays : i ≡ co → Alike q n s m
      stays same =
          let a = decision.resume_it wrapped i args d.script.waits (store_s d) in
          let c = o.others.2.2 in
          let changes = subst (λ k. Changes d a co k (Resumes wrapped ∷ ws) (i ∷ o.others.2.0)) same (resume_changes wrapped i args e o c) in
          decided_same (setting q n deep) a co n fs ms d o.running changes.runs o.base
          (λ l f.
          let lt : l < n = omega (arith, f) in
          let depth = o.others.0 in
          let stood = on_other {w = Resumes wrapped} refl (stood_of q (suc l) 0 (λ i k b. on_time l lt i k b) stands) in
          goes_follow (setting q n deep) l (coroutine_of (store_s d) i).body args fs ms (decides d a)
          (λ x. fewer_calls l lt x co (Resumes wrapped ∷ ws) fs ms ds (decides d a)
          (ok_placed q (stayed_placed q n depth l (suc depth) (earlier_fewer l n (suc depth) depth lt) a changes (placed q o)) (
            suc depth,
            (omega (arith, lt), λ r. absurd (omega (arith, lt, r))),
            stayed_depth q n depth l (suc depth) (earlier_fewer l n (suc depth) depth lt) a changes (ap suc o.others.2.1) c,
          ))
          (stands_of q {n = suc l} {depth = 0} n deep l (λ i k le within. inl (omega (arith, le))) stood)))
          s m es em
        where
          on_time : (l : ℕ) → l < n → (i k : ℕ) → Before i k (suc l) 0 → (i ≤ n) × Within n deep i k
          on_time l lt i k (inl b) = (omega (arith, b, lt), (omega (arith, b, lt), λ r. absurd (omega (arith, b, lt, r))))
          on_time l lt i k (inr b) = absurd (omega (arith, b.1))

-- ---- the one that runs is left

-- where no other one runs, the main function's own run does
main_runs : (cs : List CoroutineOf) (line : List ℕ) (o : Option ℕ) → Chain cs Running o line → (coroutine_at cs (place_of_running o)).status ≡ Dead → o ≡ None
main_runs cs line None c e = refl
main_runs cs [] (Some k) c e = absurd c
main_runs cs (j ∷ js) (Some k) c e = running_dead (sym c.2 ∙ e)

module _ (x : CoroutineOf) (answer : Answer) (ws2 : Waits) (i : ℕ) {p : Setting} {R : Promise} {turns co j : ℕ} {ws : List Wait} {ds : List Desc} {d : Dyn}
    {line : List ℕ} (running : (store_s d).running ≡ Some i) (many : length ws2 ≡ length d.script.waits) (own : waiting ws2 co ≡ ws)
    (others : (k : ℕ) → k ≢ co → waiting ws2 k ≡ waiting d.script.waits k) (ended : x.status ≡ Dead → ws ≡ []) (o : Ok p turns co ws ds d)
    (c : OtherCoroutines R (j ∷ line) co d) where
  left_chain : Chain (left i x (store_s d)).coroutines Running (left i x (store_s d)).running line
  left_chain = chain_left (store_s d) i j line x (subst (λ r. Chain (store_s d).coroutines Running r (j ∷ line)) running c.chain)

  left_there : i < length (store_s d).coroutines
  left_there = (subst (λ r. Chain (store_s d).coroutines Running r (j ∷ line)) running c.chain).1

  left_here : i ≡ co
  left_here = sym (ap place_of_running running) ∙ o.running

  left_count : length (left i x (store_s d)).coroutines ≡ length (store_s d).coroutines
  left_count =
      let s = store_s d in
      ap length (left_is i x s) ∙ length_turned Running (coroutine_at s.coroutines i).resumer (slice_set s.coroutines i x) ∙ length-set s.coroutines i x

  -- where one is dead nothing waits in it
  left_set : (k : ℕ) → (coroutine_at (slice_set (store_s d).coroutines i x) k).status ≡ Dead → waiting ws2 k ≡ []
  left_set k e =
      ⊎_elim
      (λ same.
      let is = ap (λ y. y.status) (written (store_s d).coroutines i x left_there) in
      ap (waiting ws2) (same ∙ left_here) ∙ own
      ∙ ended (sym is ∙ ap (λ k. (coroutine_at (slice_set (store_s d).coroutines i x) k).status) (sym same) ∙ e))
      (λ ne.
      let apart : k ≢ co = λ r. ne (r ∙ sym left_here) in
      others k apart ∙ c.empty k apart (sym (ap (λ y. y.status) (unwritten (store_s d).coroutines i k x ne)) ∙ e))
      (cases_eq k i)

  left_main : (left i x (store_s d)).running ≡ None → (coroutine_at (left i x (store_s d)).coroutines 0).status ≡ Dead → waiting ws2 0 ≡ []
  left_main r e =
      let s = store_s d in
      let none : (coroutine_at s.coroutines i).resumer ≡ None = sym (left_running i x s) ∙ r in
      left_set 0 (sym (ap (λ cs. (coroutine_at cs 0).status) (left_is i x s ∙ ap (λ o. turned Running o (slice_set s.coroutines i x)) none)) ∙ e)

  leave_changes : (coroutine_at (left i x (store_s d)).coroutines (here (left i x (store_s d)))).status ≢ Dead
      → Changes d (decision.now answer ws2 (left i x (store_s d))) co (here (left i x (store_s d))) ws line
  leave_changes alive =
      let s = store_s d in
      let there = is_there (left i x s).coroutines (here (left i x s)) alive in
      record {
        runs = refl;
        own = own;
        others = others;
        room = omega (arith, there, left_count, c.enough, many);
        enough = omega (arith, left_count, c.enough, many);
        chain = left_chain;
        alive = alive;
        empty = λ k ne e.
            let r = (coroutine_at s.coroutines i).resumer in
            let apart : k ≢ place_of_running r = λ same. ne (same ∙ ap place_of_running (sym (left_running i x s))) in
            left_set k (sym (ap (λ cs. (coroutine_at cs k).status) (left_is i x s)
            ∙ ap (λ y. y.status) (turned_other Running r (slice_set s.coroutines i x) k apart)) ∙ e);
      }

module _ (q : Setting) (n deep : ℕ) (shorter : (k : ℕ) → k < deep → CallsGo (setting q n k) n) where
  -- the one that has resumed it goes on, with as many turns left
  pub leave_goes : (x : CoroutineOf) (answer : Answer) (y : Outside) (ws2 : Waits) (i : ℕ) {co : ℕ} {ws : List Wait} {fs : List source.Activation}
      {ms : List machine.Frame} {ds : List Desc} {d : Dyn}
      → ((fs : List source.Activation) (ms : List machine.Frame) (d : Dyn) → AlikeOutside q n y fs ms d → Follows (setting q n deep) n answer fs ms d)
      → ((fs : List source.Activation) (ms : List machine.Frame) (d : Dyn) → Base (setting q n deep) d → (store_s d).running ≡ None
      → waiting d.script.waits 0 ≡ [] → AlikeOutside q n y fs ms d)
      → (store_s d).running ≡ Some i → length ws2 ≡ length d.script.waits → waiting ws2 co ≡ ws
      → ((k : ℕ) → k ≢ co → waiting ws2 k ≡ waiting d.script.waits k) → (x.status ≡ Dead → ws ≡ [])
      → Ok (setting q n deep) n co ws ds d → Stands (setting q n deep) n co ws fs ms ds → (s : source.State) (m : machine.State)
      → source_steps.step q.texts s ≡ source_calls.decided (decision.now answer ws2 (left i x (store_s d))) fs d.script
      → machine_steps.step q.chunk m ≡ machine_calls.decided q.chunk (decision.now answer ws2 (left i x (store_s d))) ms d.code
      → Alike q n s m
  leave_goes x answer y ws2 i {co} {ws} {fs} {ms} {ds} {d} follow at_end running many own others ended o stands s m es em =
      by_line o.others.2.0 o.others.2.1 o.others.2.2
    where
      by_line : (line : List ℕ) → length line ≡ o.others.0 → OtherCoroutines (promised q n o.others.0) line co d → Alike q n s m
      by_line [] long c = absurd (subst (λ r. Chain (store_s d).coroutines Running r []) running c.chain)
      by_line (j ∷ line) long c = by_status _ refl
        where
          -- nothing waits in the main function's own run
          ends : (coroutine_at (left i x (store_s d)).coroutines (here (left i x (store_s d)))).status ≡ Dead → Alike q n s m
          ends e =
              let a = decision.now answer ws2 (left i x (store_s d)) in
              let none = main_runs (left i x (store_s d)).coroutines line (left i x (store_s d)).running
              (left_chain x answer ws2 i running many own others ended o c) e in
              let empty = left_main x answer ws2 i running many own others ended o c none
              (ap (λ o. (coroutine_at (left i x (store_s d)).coroutines (place_of_running o)).status) (sym none) ∙ e) in
              ⊎_elim
              (λ same. decided_same (setting q n deep) a co n fs ms d o.running same o.base
              (follow fs ms (decides d a) (at_end fs ms (decides d a) (base_decides a o.base) none empty)) s m es em)
              (λ ne.
              let to = here (left i x (store_s d)) in
              switched_same (setting q n deep) a co to n fs ms d o.running refl (λ r. ne (sym r)) o.base
              (follow (d.script.elsewhere to) (d.code.elsewhere to) (switches d a co to fs ms)
              (at_end (d.script.elsewhere to) (d.code.elsewhere to) (switches d a co to fs ms) (base_switches a co to fs ms o.base) none empty))
              s m es em)
              (cases_eq (here (left i x (store_s d))) co)

          goes : (coroutine_at (left i x (store_s d)).coroutines (here (left i x (store_s d)))).status ≢ Dead → Alike q n s m
          goes alive =
              let a = decision.now answer ws2 (left i x (store_s d)) in
              let k = length line in
              let depth = o.others.0 in
              let most : depth ≤ deep = o.others.1.1 refl in
              let deeper : k < depth = omega (arith, long) in
              let lt : k < deep = omega (arith, long, most) in
              let changes = leave_changes x answer ws2 i running many own others ended o c alive in
              let earlier = earlier_less n k depth deeper in
              ⊎_elim
              (λ same.
              let kept = subst (λ to. Changes d a co to ws line) same changes in
              let stood = stood_of q n depth (within_less n depth deep most) stands in
              decided_same (setting q n deep) a co n fs ms d o.running same o.base
              (follow fs ms (decides d a) (shorter k lt y co ws fs ms ds (decides d a)
              (ok_placed q (stayed_placed q n depth n k earlier a kept (placed q o))
              (k, (omega arith, λ r. omega arith), stayed_depth q n depth n k earlier a kept refl c))
              (stands_of q {n = n} {depth = depth} n k n (earlier_within n k depth deeper) stood)))
              s m es em)
              (λ ne.
              let to = here (left i x (store_s d)) in
              let w = c.waiters to ne in
              let stood = stood_of q n k (within_less n k deep (omega (arith, lt))) stands in
              switched_same (setting q n deep) a co to n fs ms d o.running refl (λ r. ne (sym r)) o.base
              (follow (d.script.elsewhere to) (d.code.elsewhere to) (switches d a co to fs ms)
              (shorter k lt y to (waiting d.script.waits to) (d.script.elsewhere to) (d.code.elsewhere to) w.roots (switches d a co to fs ms)
              (ok_placed q (switched_placed q n depth n k earlier a fs ms ne changes (placed q o) w)
              (k, (omega arith, λ r. omega arith), switched_depth q n depth n k earlier a ne changes refl c o.rest stood))
              (stands_of q {n = n} {depth = depth} n k n (earlier_within n k depth deeper) w.stands)))
              s m es em)
              (cases_eq (here (left i x (store_s d))) co)

          by_status : (status : CoStatus) → (coroutine_at (left i x (store_s d)).coroutines (here (left i x (store_s d)))).status ≡ status → Alike q n s m
          by_status Dead e = ends e
          by_status Running e = goes (λ r. running_dead (sym e ∙ r))
          by_status Suspended e = goes (λ r. suspended_dead (sym e ∙ r))
          by_status Normal e = goes (λ r. normal_dead (sym e ∙ r))
