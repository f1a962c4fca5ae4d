-- A list of checks answers t just where the first of them that fires tells t, and nothing just where none fires. By list
-- induction. Assumes nothing.
use Rattle.std.specs.Prelude.{None, Some}
use Prim.Native.Nat.{ℕ}
use mathlib.Core.Path.{◌≡◌, refl, sym, ◌∙◌, ap}
use mathlib.Core.Option.{Option, none, some, some-ne-none, some-injective}
use mathlib.Core.List.Memᴰ
use mathlib.Core.List.{List, [], ◌∷◌, map}
use Rattle.refusal.specs.Place.{Place}
use Rattle.refusal.specs.Refusal.{Told}
use Rattle.refusal.specs.Check.{Check, answer}
use Rattle.refusal.proofs.CheckLaws.{told_parts, answer_fires, answer_passes, answer_nothing, none_fires, answer_second}
use Rattle.demands.specs.One.{NoneFires, FirstToFire, RefusesJust}

silent_answers : (cs : List Check) → NoneFires cs → answer cs ≡ none
silent_answers [] h = answer_nothing
silent_answers (c ∷ cs) h = answer_passes c cs (h c (Memᴰ.head refl)) ∙ silent_answers cs (λ d m. h d (Memᴰ.tail m))

answers_silent : (cs : List Check) → answer cs ≡ none → NoneFires cs
answers_silent [] h c m = absurd (Memᴰ.not-nil m)
answers_silent (d ∷ cs) h c (Memᴰ.head e) = rw e (none_fires d cs h).0
answers_silent (d ∷ cs) h c (Memᴰ.tail m) = answers_silent cs (none_fires d cs h).1 c m

first_answers : (cs : List Check) (t : Told) → FirstToFire cs t → answer cs ≡ some t
first_answers cs t f =
    ap answer f.parts
    ∙ answer_second f.earlier (f.here ∷ f.later) (silent_answers f.earlier f.before_it)
    ∙ answer_fires f.here f.later t.place f.fires
    ∙ ap some (told_parts t f.here.number f.number)

answers_first : (cs : List Check) (t : Told) → answer cs ≡ some t → FirstToFire cs t
answers_first [] t h = absurd (some-ne-none t (sym h ∙ answer_nothing))
answers_first (c ∷ cs) t h = by_case (answers_first cs t) c.fires refl
  where
    by_case : (answer cs ≡ some t → FirstToFire cs t) → (p : Place) → c.fires ≡ p → FirstToFire (c ∷ cs) t
    by_case rest None e =
        let f : FirstToFire cs t = rest (sym (answer_passes c cs e) ∙ h) in
        record {
          earlier = c ∷ f.earlier;
          here = f.here;
          later = f.later;
          parts = ap (λ ds. c ∷ ds) f.parts;
          number = f.number;
          fires = f.fires;
          before_it = passed_too f.earlier f.before_it;
        }
      where
        passed_too : (ds : List Check) → NoneFires ds → NoneFires (c ∷ ds)
        passed_too ds silent d (Memᴰ.head same) = rw same e
        passed_too ds silent d (Memᴰ.tail m) = silent d m
    by_case rest (Some k) e =
        let same : ◌≡◌ {A = Told} (record { number = c.number; place = k }) t = some-injective _ _ (sym (answer_fires c cs k e) ∙ h) in
        record {
          earlier = [];
          here = c;
          later = cs;
          parts = refl;
          number = ap (λ u. u.number) same;
          fires = e ∙ ap (λ u. Some u.place) same;
          before_it = λ d m. absurd (Memᴰ.not-nil m);
        }

pub refuses_just : (numbers : List ℕ) (checks : List Check) (refusal : Option Told) → map (λ c. c.number) checks ≡ numbers → refusal ≡ answer checks
    → RefusesJust numbers checks refusal
refuses_just numbers checks refusal numbered is =
    record {
      numbered = numbered;
      refuses = λ t. (λ h. answers_first checks t (sym is ∙ h), λ f. is ∙ first_answers checks t f);
      answers = (λ h. answers_silent checks (sym is ∙ h), λ silent. is ∙ silent_answers checks silent);
    }
