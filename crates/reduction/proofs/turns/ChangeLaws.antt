-- A step that changes nothing that matters behind it is not worth keeping. From the state without it, which holds all that is needed later of what the other
-- holds, and has the same values where a later condition reads, the same steps can be done, their effects act alike, and the goal is met: each assignment
-- to both states keeps them so. By list induction. Assumes nothing.
use Prim.Native.Nat.{ℕ, ◌+◌, ◌≤◌, ◌<◌}
use native.Mathlib.Numerals.{add-one}
use native.Mathlib.Omega.{arith}
use mathlib.Core.Path.{◌≡◌, refl, sym, ◌∙◌, ap}
use mathlib.Core.Logic.{◌⊎◌, ⊎_elim}
use mathlib.Core.Bool.{Bool, true, false, true≢false, not, ◌&&◌, or-true}
use mathlib.Core.List.{List, [], ◌∷◌, Memᴰ}
use lib.ListN.{length, get_or, set, drop, length-set, get_or-eq_default}
use lib.Seq.{drop-cons, set_split, set_out, get_or-set_same, get_or-set_other, take-set-le}
use lib.Dec.{ltb, eqb}
use borrow.Author.Tests.{eqb-true, eqb-false, eq-eqb, ltb-true, ltb-false}
use Rattle.sas.specs.Task.{Fact, Assignment, State, Effect, Action, idle}
use Rattle.sas.specs.Plan.{holds, satisfies, applicable, assign, acting, apply, needed, needs}
use Rattle.sas.specs.Conflict.{some_of}
use Rattle.sas.proofs.FactLaws.{holds_variable, holds_value, holds_there, satisfied_holds, all_satisfied}
use Rattle.sas.proofs.SomeLaws.{found, or_neither}
use Rattle.sas.proofs.EffectLaws.{acting_alike}
use Rattle.sas.proofs.ActionLaws.{result_applied, applicable_needed, needed_holds, apply_length, acting_or_held}
use Rattle.sas.proofs.RunLaws.{run_nothing}
use Rattle.reduction.specs.Reduction.{Reduction, keeps, kept, ValidFor, meets, Before}
use Rattle.reduction.specs.Landmark.{step}
use Rattle.reduction.specs.Between.Order.{Contains}
use Rattle.reduction.specs.Between.Search.{Visit}
use Rattle.reduction.specs.Between.Sound.{Visited, Cut}
use Rattle.reduction.specs.Between.Cuts.{needed_in, reads, read_in, matters, changing, unless_flagged}
use Rattle.reduction.proofs.ValidLaws.{runs_valid, valid_end}
use Rattle.reduction.proofs.MemberLaws.{member_has}
use Rattle.reduction.proofs.minimal.BeforeLaws.{completed_valid}
use Rattle.reduction.proofs.minimal.WinsLaws.{not_lower_through}
use Rattle.reduction.proofs.minimal.MinimalTheorem.{struck_valid, kept_valid, valid_struck, valid_kept}
use Rattle.reduction.proofs.turns.CutLaws.{contains_not_lower, follows_rest}

-- the second state will do for the first: it holds all of some facts that the first holds, and has the same values of some variables
record WillDo (needed_facts : Fact → Bool) (read_variables : ℕ → Bool) (t u : State) : Type 0 where
  sized : length t ≡ length u
  supplied : (f : Fact) → needed_facts f ≡ true → holds t f ≡ true → holds u f ≡ true
  same : (v : ℕ) → read_variables v ≡ true → get_or t v 0 ≡ get_or u v 0

module _ {needed_facts : Fact → Bool} {read_variables : ℕ → Bool} where
  -- it stays so where one variable of both is set to one value
  set_will_do : {t u : State} (g : Fact) → WillDo needed_facts read_variables t u
      → WillDo needed_facts read_variables (set t g.variable g.value) (set u g.variable g.value)
  set_will_do {t} {u} g does =
      record {
        sized = length-set t g.variable g.value ∙ does.sized ∙ sym (length-set u g.variable g.value);
        supplied = supplied;
        same = λ v r. value v r (eqb v g.variable) (ltb g.variable (length t)) refl refl;
      }
    where
      new : State → State
      new s = set s g.variable g.value

      supplied : (f : Fact) → needed_facts f ≡ true → holds (new t) f ≡ true → holds (new u) f ≡ true
      supplied f need h = by_case (eqb f.variable g.variable) refl
        where
          below : f.variable < length (new t)
          below = holds_variable (new t) f h

          there : f.variable < length (new u)
          there = rw (length-set, ← does.sized, ← length-set t g.variable g.value) below

          by_case : (b : Bool) → eqb f.variable g.variable ≡ b → holds (new u) f ≡ true
          by_case true e =
              let one : f.variable ≡ g.variable = eqb-true _ _ e in
              let given : f.value ≡ g.value =
              sym (holds_value (new t) f h) ∙ ap (λ v. get_or (new t) v 0) one ∙ get_or-set_same t g.variable g.value 0 (rw (← one, ← length-set t g.variable g.value) below) in
              holds_there (new u) f there (ap (λ v. get_or (new u) v 0) one ∙ get_or-set_same u g.variable g.value 0 (rw (← one, ← length-set u g.variable g.value) there) ∙ sym given)
          by_case false e =
              let other = eqb-false f.variable g.variable e in
              let before : holds t f ≡ true =
              holds_there t f (rw length-set at below) (sym (get_or-set_other t g.variable f.variable g.value 0 other) ∙ holds_value (new t) f h) in
              holds_there (new u) f there (get_or-set_other u g.variable f.variable g.value 0 other ∙ holds_value u f (does.supplied f need before))

      value : (v : ℕ) → read_variables v ≡ true → (b c : Bool) → eqb v g.variable ≡ b → ltb g.variable (length t) ≡ c → get_or (new t) v 0 ≡ get_or (new u) v 0
      value v r false c e k =
          get_or-set_other t g.variable v g.value 0 (eqb-false _ _ e) ∙ does.same v r ∙ sym (get_or-set_other u g.variable v g.value 0 (eqb-false _ _ e))
      value v r true true e k =
          let inside : g.variable < length t = ltb-true _ _ k in
          rw (eqb-true v g.variable e)
          (get_or-set_same t g.variable g.value 0 inside ∙ sym (get_or-set_same u g.variable g.value 0 (rw (← does.sized) inside)))
      value v r true false e k =
          let past : length t ≤ g.variable = ltb-false _ _ k in
          rw (set_out t g.variable g.value past, set_out u g.variable g.value (rw (← does.sized) past)) (does.same v r)

  -- and so where the same facts are assigned to both
  assign_will_do : {t u : State} (e : Assignment) → WillDo needed_facts read_variables t u → WillDo needed_facts read_variables (assign t e) (assign u e)
  unfolding assign
  assign_will_do [] does = does
  assign_will_do (g ∷ e) does = assign_will_do e (set_will_do g does)

  -- facts of variables that are read hold alike
  satisfies_alike : {t u : State} (q : Assignment) → WillDo needed_facts read_variables t u → ((f : Fact) → Memᴰ f q → read_variables f.variable ≡ true)
      → satisfies t q ≡ satisfies u q
  unfolding satisfies holds
  satisfies_alike [] does own = refl
  satisfies_alike (f ∷ q) does own =
      rw (does.sized, does.same f.variable (own f (Memᴰ.head refl)), satisfies_alike q does (λ g m. own g (Memᴰ.tail m)))

-- what is needed or read behind a step is so before it
module _ (goal : Assignment) (a : Action) (p : List Action) where
  pub later_needed : (f : Fact) → needed_in goal p f ≡ true → needed_in goal (a ∷ p) f ≡ true
  unfolding needed_in
  later_needed f h = rw (h, or-true)

  pub first_needed : (f : Fact) → needs a f → needed_in goal (a ∷ p) f ≡ true
  unfolding needed_in
  first_needed f need = rw (member_has need)

  later_read : (v : ℕ) → read_in p v ≡ true → read_in (a ∷ p) v ≡ true
  unfolding read_in
  later_read v h = rw (h, or-true)

  first_read : (e : Effect) → Memᴰ e a.effects → (f : Fact) → Memᴰ f e.condition → read_in (a ∷ p) f.variable ≡ true
  unfolding read_in reads
  first_read e m f n =
      rw (found (λ d. some_of (λ g. eqb g.variable f.variable) d.condition) m (found (λ g. eqb g.variable f.variable) n (eq-eqb f.variable f.variable refl)))

abbrev WillDoBefore : Assignment → List Action → State → State → Type 0
WillDoBefore goal p t u = WillDo (needed_in goal p) (read_in p) t u

-- behind a step, too
will_do_later : {t u : State} (goal : Assignment) (a : Action) (p : List Action) → WillDoBefore goal (a ∷ p) t u → WillDoBefore goal p t u
will_do_later goal a p does =
    record {
      sized = does.sized;
      supplied = λ f need. does.supplied f (later_needed goal a p f need);
      same = λ v r. does.same v (later_read goal a p v r);
    }

-- what is valid from a state is valid from one that will do for it
will_do_valid : (goal : Assignment) (p : List Action) (n : Reduction) (t u : State) → WillDoBefore goal p t u → ValidFor (meets goal) t p n → ValidFor (meets goal) u p n
unfolding kept needed_in apply
will_do_valid goal [] n t u does v =
    record {
      fits = v.fits;
      valid_left =
          runs_valid (meets goal) u u [] (run_nothing u)
          ∙ all_satisfied u goal (λ f m. does.supplied f (member_has m) (satisfied_holds t (valid_end (meets goal) t v.valid_left) m));
    }
will_do_valid goal (a ∷ p) [] t u does v = absurd (omega (arith, v.fits))
will_do_valid goal (a ∷ p) (false ∷ n) t u does v =
    struck_valid (meets goal) u a p (will_do_valid goal p n t u (will_do_later goal a p does) (valid_struck (meets goal) t a p v))
will_do_valid goal (a ∷ p) (true ∷ n) t u does v =
    let (able, rest) = valid_kept (meets goal) t a p v in
    let alike : acting t a.effects ≡ acting u a.effects =
    acting_alike t u a.effects (λ e m. satisfies_alike e.condition does (λ f k. first_read goal a p e m f k)) in
    let carried : WillDoBefore goal p (apply t a) (apply u a) = rw (← alike) (assign_will_do (acting t a.effects) (will_do_later goal a p does)) in
    kept_valid (meets goal) u a p
    (applicable_needed u a ∙ all_satisfied u (needed a) (λ f need. does.supplied f (first_needed goal a p f need) (needed_holds t a able need)))
    (will_do_valid goal p n (apply t a) (apply u a) carried rest)

-- a reduction keeps all that it keeps with one step more struck
strikes_more : (r : Reduction) (i : ℕ) → i < length r → Contains r (set r i false)
strikes_more r i inside k up = by_case (eqb k i) refl
  where
    by_case : (b : Bool) → eqb k i ≡ b → keeps r k
    by_case true e = absurd (true≢false (sym up ∙ rw (eqb-true k i e) (get_or-set_same r i false false inside)))
    by_case false e = sym (get_or-set_other r i k false false (eqb-false k i e)) ∙ up

-- a sound cut is sound where it is asked at unflagged steps alone
pub unless_flagged_cut : {ends : State → Bool} {s : State} {p : List Action} {flags : Reduction} {choice : Bool} (x : Visit → Bool)
    → Cut ends s p flags choice x → Cut ends s p flags choice (unless_flagged flags x)
unless_flagged_cut {flags = flags} x cut v inside visited tried barred =
    cut v inside visited tried (or_neither (get_or flags v.index false) (x v) barred).1

-- a cut that bars less than a sound one is sound
pub weaker_cut : {ends : State → Bool} {s : State} {p : List Action} {flags : Reduction} {choice : Bool} (x y : Visit → Bool)
    → Cut ends s p flags choice x → ((v : Visit) → v.index < length p → Visited s p flags v → y v ≡ false → x v ≡ false) → Cut ends s p flags choice y
weaker_cut x y cut less v inside visited tried barred = cut v inside visited tried (less v inside visited barred)

-- Where a step changes nothing that matters behind it, every valid reduction that keeps it is valid without it, and that is to strike the step, which has no
-- chance any more.
pub change_cut : {s : State} {p : List Action} {flags : Reduction} (goal : Assignment) → Cut (meets goal) s p flags true (changing goal p)
unfolding changing matters
change_cut {s} {p} {flags} goal v inside visited tried barred r follows =
    not_lower_through (kept r p) (kept without p) (kept v.best p)
    (contains_not_lower p r without follows.valid.fits (length-set r v.index false ∙ follows.valid.fits) (strikes_more r v.index fewer))
    (tried refl without
    (record {
      valid = without_valid;
      decided = take-set-le v.index r v.index false (omega arith) ∙ follows.decided;
      chosen = get_or-set_same r v.index false false fewer;
    }))
  where
    here : Action
    here = step p v.index

    later : List Action
    later = drop (v.index + 1) p

    without : Reduction
    without = set r v.index false

    fewer : v.index < length r
    fewer = omega (arith, follows.valid.fits)

    kept_there : (applicable v.state here ≡ true) × ValidFor (meets goal) (apply v.state here) later (drop (v.index + 1) r)
    kept_there = valid_kept (meets goal) v.state here later (follows_rest inside visited follows)

    -- what acts and matters holds already
    held_already : (f : Fact) → matters goal later f ≡ true → Memᴰ f (acting v.state here.effects) → holds v.state f ≡ true
    held_already f counts acts = by_case (holds v.state f) refl
      where
        by_case : (b : Bool) → holds v.state f ≡ b → holds v.state f ≡ true
        by_case true e = e
        by_case false e = absurd (true≢false (sym (found (λ g. matters goal later g && not (holds v.state g)) acts (rw (counts, e))) ∙ barred))

    -- so what matters and holds after the step held before it
    held_before : (f : Fact) → matters goal later f ≡ true → holds (apply v.state here) f ≡ true → holds v.state f ≡ true
    held_before f counts h =
        ⊎_elim (held_already f counts) (λ held. held) (acting_or_held v.state here (result_applied v.state here kept_there.0) f h)

    does : WillDoBefore goal later (apply v.state here) v.state
    does =
        record {
          sized = apply_length v.state here;
          supplied = λ f need. held_before f (rw need);
          same = λ x r. value x r (ltb x (length v.state)) refl;
        }
      where
        value : (x : ℕ) → read_in later x ≡ true → (b : Bool) → ltb x (length v.state) ≡ b → get_or (apply v.state here) x 0 ≡ get_or v.state x 0
        value x r true e =
            let now : State = apply v.state here in
            let f : Fact = record { variable = x; value = get_or now x 0 } in
            let holds_now : holds now f ≡ true = holds_there now f (rw (apply_length v.state here) (ltb-true _ _ e)) refl in
            sym (holds_value v.state f (held_before f (rw (r, or-true)) holds_now))
        value x r false e =
            let past : length v.state ≤ x = ltb-false _ _ e in
            get_or-eq_default (apply v.state here) 0 (rw (apply_length v.state here) past) ∙ sym (get_or-eq_default v.state 0 past)

    rest : ValidFor (meets goal) v.state later (drop (v.index + 1) r)
    rest = will_do_valid goal later (drop (v.index + 1) r) (apply v.state here) v.state does kept_there.1

    without_valid : ValidFor (meets goal) s p without
    without_valid =
        let reached : Before s p r v.index v.state = rw follows.decided visited.reached in
        rw (set_split r v.index false fewer)
        (completed_valid s v.state p r v.index reached follows.valid.fits (omega arith)
        (rw (drop-cons p v.index idle inside, ← add-one) (struck_valid (meets goal) v.state here later rest)))
