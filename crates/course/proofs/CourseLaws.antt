-- The states along a sequence of actions, by its first action: by shifting the table of its beginnings by one. And what a walk along a list has written of them, by
-- the cases of its loop: from each position on it writes what the whole walk writes. Assumes nothing.
use Rattle.std.specs.Prelude.{Err, Ok}
use Prim.Native.Nat.{ℕ, zero, suc, ◌+◌, ◌*◌, ◌≤◌, ◌<◌}
use native.Mathlib.Omega.{arith}
use native.Mathlib.Numerals.{add-one}
use mathlib.Core.Path.{◌≡◌, refl, sym, ◌∙◌, ap}
use mathlib.Core.Bool.{Bool, true, false}
use mathlib.Core.Option.{Option, none}
use mathlib.Core.List.{List, [], ◌∷◌, append-nil, flatten}
use lib.ListN.{length, get_or, take, drop, drop_of_length-le}
use lib.Seq.{sets}
use Rattle.access.proofs.StoreLaws.{stores_joined}
use Rattle.refusal.specs.Refusal.{Verdict}
use Rattle.refusal.specs.declared.Refusal.{Refusal}
use Rattle.refusal.specs.Refusal.{told}
use Rattle.refusal.specs.Check.{answer}
use Rattle.sas.specs.Task.{State, Action}
use Rattle.sas.specs.Plan.{applicable, apply, run}
use Rattle.sas.proofs.ActionLaws.{apply_length, result_stuck}
use Rattle.sas.proofs.RunLaws.{run_applied, run_no_result}
use Rattle.sheet.specs.Limits.{limits}
use Rattle.sheet.specs.Decode.{initial, action, table}
use Rattle.sheet.proofs.TableLaws.{table_same}
use Rattle.step.specs.State.{front, in_array}
use Rattle.step.specs.Between.Advance.{Advances}
use Rattle.step.proofs.StateLaws.{front_initial}
use Rattle.plan.specs.Limits.{most_steps}
use Rattle.plan.specs.Valid.{steps}
use Rattle.plan.specs.Readable.{Readable}
use Rattle.plan.proofs.PlanLaws.{read_readable}
use Rattle.plan.proofs.FaultLaws.{drop_next}
use Rattle.course.specs.Course.{defined, states_along, course_checks, Courses}
use Rattle.course.specs.Between.Follows.{Follows}

-- a table that begins one later
table_shifted : {A : Type 0} (f : ℕ → A) (i n : ℕ) → table f (i + 1) n ≡ table (λ k. f (k + 1)) i n
unfolding table
table_shifted f i zero = refl
table_shifted f i (suc n) = ap (λ l. f (i + 1) ∷ l) (table_shifted f (i + 1) n)

-- where none is defined there is none
none_defined : (f : ℕ → Option State) (i n : ℕ) → ((k : ℕ) → f k ≡ none) → defined (table f i n) ≡ []
unfolding table defined
none_defined f i zero never = refl
none_defined f i (suc n) never = ap (λ o. defined (o ∷ table f (i + 1) n)) (never i) ∙ none_defined f (i + 1) n never

-- the first state, and those behind it
along_first : (s : State) (p : List Action) → states_along s p ≡ s ∷ defined (table (λ k. run s (take (k + 1) p)) 0 (length p))
unfolding states_along defined table run
along_first s p =
    ap (λ n. defined (table (λ k. run s (take k p)) 0 n)) (add-one (length p)) ∙ ap (λ l. s ∷ defined l) (table_shifted (λ k. run s (take k p)) 0 (length p))

pub along_nothing : (s : State) → states_along s [] ≡ s ∷ []
unfolding table defined
along_nothing s = along_first s []

-- the beginnings of a sequence, behind its first action
beginning : (a : Action) (p : List Action) (k : ℕ) → take (k + 1) (a ∷ p) ≡ a ∷ take k p
beginning a p k = ap (λ n. take n (a ∷ p)) (add-one k)

pub along_stuck : (s : State) (a : Action) (p : List Action) → applicable s a ≡ false → states_along s (a ∷ p) ≡ s ∷ []
along_stuck s a p stuck =
    along_first s (a ∷ p)
    ∙ ap (λ l. s ∷ l) (none_defined _ 0 (suc (length p)) (λ k. ap (run s) (beginning a p k) ∙ run_no_result s a (take k p) (result_stuck s a stuck)))

pub along_applied : (s : State) (a : Action) (p : List Action) → applicable s a ≡ true → states_along s (a ∷ p) ≡ s ∷ states_along (apply s a) p
unfolding states_along
along_applied s a p can =
    along_first s (a ∷ p)
    ∙ ap (λ l. s ∷ defined l) (table_same _ (λ k. run (apply s a) (take k p)) 0 (suc (length p)) (λ k low high. ap (run s) (beginning a p k) ∙ run_applied s a (take k p) can))
    ∙ ap (λ n. s ∷ defined (table (λ k. run (apply s a) (take k p)) 0 n)) (sym (add-one (length p)))

-- where the walk stands before step i + 1, with the words written before index `at`: what it writes from there on is what it writes in all
pub record Going (w l s before state states : List ℕ) (at i : ℕ) : Type 0 where
  pub reached : i ≤ length l
  pub values : length state ≡ length s
  pub room : length states ≡ length before
  pub low : at ≤ limits.variables * i
  pub counted : i + length (states_along state (steps w (drop i l))) ≡ length (states_along s (steps w l))
  pub stored : sets states at (flatten (states_along state (steps w (drop i l)))) ≡ sets before 0 (flatten (states_along s (steps w l)))

pub going_start : (w l s before : List ℕ) → Going w l s before s before 0 0
going_start w l s before = record { reached = omega arith; values = refl; room = refl; low = omega arith; counted = omega arith; stored = refl }

module _ (w l s before state states states' : List ℕ) (at i : ℕ) (going : Going w l s before state states at i) (written : states' ≡ sets states at state) where
  -- the last state is written
  last_written : states_along state (steps w (drop i l)) ≡ state ∷ [] → Follows w l s before (i + 1) states'
  unfolding flatten
  last_written is =
      record {
        counted = ap (λ ss. i + length ss) (sym is) ∙ going.counted;
        states = written ∙ ap (sets states at) (sym (append-nil state)) ∙ ap (λ ss. sets states at (flatten ss)) (sym is) ∙ going.stored;
      }

  pub follows_over : length l ≤ i → Follows w l s before (i + 1) states'
  follows_over past = last_written (ap (λ r. states_along state (steps w r)) (drop_of_length-le l past) ∙ along_nothing state)

  module _ (here : i < length l) (state' : List ℕ) (done : Bool) (advances : Advances w state (get_or l i 0) done state') where
    -- the step can't be done
    pub follows_stuck : done ≡ false → Follows w l s before (i + 1) states'
    follows_stuck is =
        last_written
        (ap (λ r. states_along state (steps w r)) (drop_next l i here) ∙ along_stuck state (action w (get_or l i 0)) (steps w (drop (i + 1) l)) (sym advances.applied ∙ is))

    -- the step is done
    pub going_more : (n : ℕ) → n ≡ length s → length s ≤ limits.variables → done ≡ true → length states' ≡ length before → Going w l s before state' states' (at + n) (i + 1)
    unfolding flatten
    going_more n wide few is room =
        let a = action w (get_or l i 0) in
        let rest = steps w (drop (i + 1) l) in
        let next : state' ≡ apply state a = advances.state ∙ rw is in
        let along : states_along state (steps w (drop i l)) ≡ state ∷ states_along state' rest =
        ap (λ r. states_along state (steps w r)) (drop_next l i here) ∙ along_applied state a rest (sym advances.applied ∙ is) ∙ ap (λ t. state ∷ states_along t rest) (sym next) in
        let behind : at + n ≡ at + length state = omega (arith, going.values) in
        record {
          reached = omega arith;
          values = ap length next ∙ apply_length state a ∙ going.values;
          room = room;
          low = omega (arith, going.low);
          counted = omega (arith, going.counted, ap length along);
          stored = ap (λ k. sets states' k (flatten (states_along state' rest))) behind
              ∙ ap (λ words. sets words (at + length state) (flatten (states_along state' rest))) written
              ∙ stores_joined states state (flatten (states_along state' rest)) at
              ∙ ap (λ ss. sets states at (flatten ss)) (sym along)
              ∙ going.stored;
        }

-- the service refuses what is read
module _ (w l : List ℕ) (v : Verdict) (read : told v ≡ answer (course_checks w l)) (before : List ℕ) where
  pub course_refused : (r : Refusal) → v ≡ Err r → Courses w l (Err r) 0 before before
  course_refused r e =
      let fires : answer (course_checks w l) ≡ told (Err r) = sym read ∙ ap told e in
      record { refusal = sym fires; counted = rw fires; states = rw fires }

  -- or follows it from the starting values, at the front of an array
  module _ (passed : v ≡ Ok tt) where
    passes : answer (course_checks w l) ≡ none
    passes = sym read ∙ ap told passed

    pub course_readable : Readable w l
    course_readable = read_readable most_steps w l passes

    pub course_followed : (values start after : List ℕ) (count : ℕ) → values ≡ in_array (initial w) → start ≡ front w values → Follows w l start before count after
        → Courses w l (Ok tt) count before after
    course_followed values start after count starts lent follows =
        let begins : start ≡ initial w = lent ∙ rw starts (front_initial w course_readable.accepted) in
        let done : Follows w l (initial w) before count after = rw begins at follows in
        record { refusal = sym passes; counted = rw passes done.counted; states = rw passes done.states }
