-- An action's effects, each against those behind it, by the cases of a loop along them: none is left, or one more is. A place behind the effects of the first
-- one's fact serves the next effect too: it is passed on, or skipped to anew. Assumes nothing.
use Prim.Native.Nat.{ℕ, ◌/◌}
use mathlib.Core.Path.{◌≡◌, refl, sym, ◌∙◌, ap}
use mathlib.Core.Bool.{Bool, true, false, not, and-false}
use mathlib.Core.List.{List, [], ◌∷◌}
use lib.Dec.{eqb}
use borrow.Author.Tests.{eq-eqb, ne_eqb, eqb-true, eqb-false}
use Rattle.sas.specs.Task.{Assignment, State, Effect}
use Rattle.sas.specs.Plan.{assign}
use Rattle.sas.specs.Conflict.{some_of}
use Rattle.sheet.specs.declared.group.Group.{Group}
use Rattle.sheet.specs.declared.effects.Effects.{Effects}
use Rattle.sas.proofs.SomeLaws.{or_neither}
use Rattle.sheet.specs.Limits.{limits}
use Rattle.sheet.specs.Decode.{fact_of, action}
use Rattle.sheet.specs.Between.Encode.{fact_word}
use Rattle.sheet.specs.Between.Group.{needed_group, facts_in}
use Rattle.sheet.specs.Between.Effects.{effects_of, effects_in}
use Rattle.sheet.proofs.FactWords.{word_of_fact}
use Rattle.conflict.specs.Between.Table.{blank, denies}
use Rattle.conflict.specs.Between.Clash.{beyond, first_writes, some_fits, clashes, some_clash, beside, neighbours, some_beside}

pub beyond_nothing : (x : ℕ) → beyond x [] ≡ []
unfolding beyond
beyond_nothing x = refl

-- an effect of the fact is passed
pub beyond_more : (x : ℕ) (e : Effect) (es : List Effect) → fact_word e.fact ≡ x → beyond x (e ∷ es) ≡ beyond x es
unfolding beyond
beyond_more x e es same = rw (eq-eqb (fact_word e.fact) x same, beyond)

-- one of another is not
pub beyond_here : (x : ℕ) (e : Effect) (es : List Effect) → (fact_word e.fact ≡ x → ⊥) → beyond x (e ∷ es) ≡ e ∷ es
unfolding beyond
beyond_here x e es other = rw (ne_eqb (fact_word e.fact) x other, beyond)

-- behind them none is passed again
beyond_again : (x : ℕ) (es : List Effect) → beyond x (beyond x es) ≡ beyond x es
beyond_again x [] = ap (beyond x) (beyond_nothing x)
beyond_again x (e ∷ es) = by_case (beyond_again x es) (eqb (fact_word e.fact) x) refl
  where
    by_case : beyond x (beyond x es) ≡ beyond x es → (b : Bool) → eqb (fact_word e.fact) x ≡ b → beyond x (beyond x (e ∷ es)) ≡ beyond x (e ∷ es)
    by_case again true h = rw (beyond_more x e es (eqb-true _ _ h)) again
    by_case again false h = ap (beyond x) (beyond_here x e es (eqb-false _ _ h))

-- effects `later` are ahead of effects `all`: those of the fact of the first of these passed, what is left is the same
abbrev pub Ahead : List Effect → List Effect → Type 0
Ahead all later = (d : Effect) (es : List Effect) → all ≡ d ∷ es → beyond (fact_word d.fact) es ≡ beyond (fact_word d.fact) later

-- from the start, all are
pub ahead_first : (all : List Effect) → Ahead all all
ahead_first all d es same = sym (ap (beyond (fact_word d.fact)) same ∙ beyond_more _ d es refl)

-- and what is left behind the effects of the first one's fact is ahead of all but the first
pub ahead_next : (d : Effect) (es : List Effect) → Ahead es (beyond (fact_word d.fact) es)
ahead_next d es e later same = by_case (eqb (fact_word e.fact) (fact_word d.fact)) refl
  where
    x : ℕ
    x = fact_word d.fact

    y : ℕ
    y = fact_word e.fact

    by_case : (b : Bool) → eqb y x ≡ b → beyond y later ≡ beyond y (beyond x es)
    by_case true h =
        let alike : y ≡ x = eqb-true _ _ h in
        rw (same, beyond_more x e later alike, alike) (sym (beyond_again x later))
    by_case false h = rw (same, beyond_here x e later (eqb-false _ _ h)) (sym (beyond_more y e later refl))

-- an effect that is read: its condition, and the word of its fact
abbrev pub read : Assignment → ℕ → Effect
read q x = record { condition = q; fact = fact_of x }

module _ (es : List Effect) where
  -- where no effect is left, none is passed, and none fits, clashes or has a neighbour
  pub past_over : (x : ℕ) → es ≡ [] → es ≡ beyond x es
  past_over x over = rw over (sym (beyond_nothing x))

  pub first_writes_none : (v : ℕ) → es ≡ [] → false ≡ first_writes v es
  unfolding first_writes
  first_writes_none v over = rw over

  pub fits_over : (t : State) (v : ℕ) → es ≡ [] → some_fits t v es ≡ false
  unfolding some_fits
  fits_over t v over = rw over

  pub clash_over : (q : Assignment) → es ≡ [] → some_clash q es ≡ false
  unfolding some_clash
  clash_over q over = rw over

  pub neighbours_over : (x : ℕ) → es ≡ [] → neighbours x es ≡ false
  unfolding neighbours
  neighbours_over x over = rw over

  pub beside_over : es ≡ [] → false ≡ some_beside es
  unfolding some_beside
  beside_over over = rw over

  -- where one is left, its fact's word is x
  module _ (q : Assignment) (x : ℕ) (later : List Effect) (first : es ≡ read q x ∷ later) where
    pub past_here : (y : ℕ) → (x ≡ y → ⊥) → es ≡ beyond y es
    past_here y other = rw first (sym (beyond_here y (read q x) later (λ same. other (sym (word_of_fact x) ∙ same))))

    pub past_next : (y : ℕ) → x ≡ y → beyond y es ≡ beyond y later
    past_next y same = rw first (beyond_more y (read q x) later (word_of_fact x ∙ same))

    pub first_writes_told : (v : ℕ) → eqb (fact_of x).variable v ≡ first_writes v es
    unfolding first_writes
    first_writes_told v = rw first

    pub fits_apart : (t : State) (v : ℕ) → ((fact_of x).variable ≡ v → ⊥) → some_fits t v es ≡ false
    unfolding some_fits
    fits_apart t v other = rw (first, ne_eqb (fact_of x).variable v other)

    pub fits_here : (t : State) (v : ℕ) (b : Bool) → (fact_of x).variable ≡ v → b ≡ some_of (denies t) q → b ≡ false → some_fits t v es ≡ true
    unfolding some_fits
    fits_here t v b same denied fits = rw (first, eq-eqb (fact_of x).variable v same, ← denied, fits)

    pub fits_later : (t : State) (v : ℕ) (b : Bool) → (fact_of x).variable ≡ v → b ≡ some_of (denies t) q → b ≡ true → some_fits t v es ≡ some_fits t v later
    unfolding some_fits
    fits_later t v b same denied fails = rw (first, eq-eqb (fact_of x).variable v same, ← denied, fails)

    pub neighbours_here : (y : ℕ) (b : Bool) → b ≡ beside y (fact_of x) → b ≡ true → neighbours y es ≡ true
    unfolding neighbours
    neighbours_here y b tested close = rw (first, ← tested, close)

    pub neighbours_later : (y : ℕ) (b : Bool) → b ≡ beside y (fact_of x) → b ≡ false → neighbours y es ≡ neighbours x later
    unfolding neighbours
    neighbours_later y b tested apart = rw (first, ← tested, apart, word_of_fact x)

    pub beside_first : neighbours x later ≡ some_beside es
    unfolding some_beside
    beside_first = rw (first, word_of_fact x)

    -- and what stands behind the effects of its fact is found from a place ahead of it
    module _ (behind further : List Effect) (ahead : Ahead es behind) (passed : further ≡ beyond x behind) where
      stands_behind : further ≡ beyond (fact_word (fact_of x)) later
      stands_behind = passed ∙ ap (λ y. beyond y behind) (sym (word_of_fact x)) ∙ sym (ahead (read q x) later first)

      pub still_ahead : Ahead later further
      still_ahead = rw stands_behind (ahead_next (read q x) later)

      module _ (p : Assignment) (r : Bool) (found : r ≡ clashes p (read q x) further) where
        pub clash_here : r ≡ true → some_clash p es ≡ true
        unfolding some_clash
        clash_here clash = rw (first, ← stands_behind, ← found, clash)

        pub clash_later : r ≡ false → some_clash p es ≡ some_clash p later
        unfolding some_clash
        clash_later none = rw (first, ← stands_behind, ← found, none)

-- where no effect that writes the variable comes first, none fits
fits_none : (t : State) (v : ℕ) (es : List Effect) → first_writes v es ≡ false → some_fits t v es ≡ false
unfolding first_writes some_fits
fits_none t v [] h = refl
fits_none t v (e ∷ es) h = rw h

-- an effect against those behind it, by the tests in turn
module _ (p q : Assignment) (x : ℕ) (es : List Effect) where
  -- none behind it writes its variable
  pub clash_apart : first_writes (fact_of x).variable es ≡ false → false ≡ clashes p (read q x) es
  unfolding clashes
  clash_apart apart =
      rw (word_of_fact x, fits_none (assign (assign blank p) q) (fact_of x).variable es apart) (sym (and-false (not (some_of (denies (assign blank p)) q))))

  module _ (t : State) (b : Bool) (noted : t ≡ assign blank p) (tested : b ≡ some_of (denies t) q) where
    told : b ≡ some_of (denies (assign blank p)) q
    told = rw noted at tested

    -- the precondition denies its condition
    pub clash_denied : b ≡ true → false ≡ clashes p (read q x) es
    unfolding clashes
    clash_denied denied = rw (← told, denied)

    -- or does not
    pub clash_fits : (u : State) (r : Bool) → b ≡ false → u ≡ assign t q → r ≡ some_fits u (fact_of x).variable es → r ≡ clashes p (read q x) es
    unfolding clashes
    clash_fits u r passed both found =
        let noted_both : u ≡ assign (assign blank p) q = rw noted at both in
        found ∙ rw (word_of_fact x, ← told, passed, ← noted_both)

-- two facts by their words: one is beside the other, or not
pub beside_same : (x y : ℕ) → y ≡ x → not (eqb y x) ≡ beside x (fact_of y)
unfolding beside
beside_same x y same = rw (word_of_fact y, eq-eqb y x same)

pub beside_other : (x y : ℕ) → (y ≡ x → ⊥) → eqb (y / limits.values) (x / limits.values) ≡ beside x (fact_of y)
unfolding beside
beside_other x y other = rw (word_of_fact y, ne_eqb y x other)

-- where there are none, what stands behind an effect and those of its fact does not begin with its variable
first_apart : (x : ℕ) (es : List Effect) → neighbours x es ≡ false → first_writes (x / limits.values) (beyond x es) ≡ false
unfolding neighbours first_writes beside
first_apart x [] none = rw (beyond_nothing x)
first_apart x (e ∷ es) none =
    by_case (or_neither (beside x e.fact) (neighbours (fact_word e.fact) es) none).0 (or_neither (beside x e.fact) (neighbours (fact_word e.fact) es) none).1 (first_apart x es)
    (eqb (fact_word e.fact) x) refl
  where
    by_case : beside x e.fact ≡ false → neighbours (fact_word e.fact) es ≡ false → (neighbours x es ≡ false → first_writes (x / limits.values) (beyond x es) ≡ false)
        → (b : Bool) → eqb (fact_word e.fact) x ≡ b → first_writes (x / limits.values) (beyond x (e ∷ es)) ≡ false
    by_case here later next true h =
        let same : fact_word e.fact ≡ x = eqb-true _ _ h in
        rw (beyond_more x e es same) (next (rw same at later))
    by_case here later next false h = rw (beyond_here x e es (eqb-false _ _ h)) (rw h at here)

-- so none clashes
pub none_beside : (q : Assignment) (x : ℕ) (es : List Effect) → neighbours x es ≡ false → some_clash q es ≡ false
unfolding neighbours some_clash clashes
none_beside q x [] none = refl
none_beside q x (d ∷ es) none =
    let later : neighbours (fact_word d.fact) es ≡ false = (or_neither (beside x d.fact) (neighbours (fact_word d.fact) es) none).1 in
    rw (
      fits_none (assign (assign blank q) d.condition) (fact_word d.fact / limits.values) (beyond (fact_word d.fact) es) (first_apart (fact_word d.fact) es later),
      and-false (not (some_of (denies (assign blank q)) d.condition)),
      none_beside q (fact_word d.fact) es later,
    )

pub none_neighbours : (q : Assignment) (es : List Effect) → some_beside es ≡ false → some_clash q es ≡ false
unfolding some_beside neighbours beside
none_neighbours q [] none = none_beside q 0 [] none
none_neighbours q (e ∷ es) none = none_beside q (fact_word e.fact) (e ∷ es) (rw (eq-eqb (fact_word e.fact) (fact_word e.fact) refl) none)

-- and they are those of the action
pub clash_of : (w : List ℕ) (a : ℕ) (p : Group) (e : Effects) → p ≡ needed_group w a → e ≡ effects_of w a
    → some_clash (facts_in w p) (effects_in w e) ≡ some_clash (action w a).precondition (action w a).effects
unfolding facts_in effects_in action
clash_of w a p e group effects = rw (group, effects)
