-- The supports of facts, noted in a row and raised from it, by the cases of the loops that do so. Past the last place of the rows all places are
-- alike, by list induction, so that a loop need not count any further there. Assumes nothing.
use Prim.Native.Nat.{ℕ, ◌+◌, ◌≤◌}
use native.Mathlib.Omega.{arith}
use mathlib.Core.Path.{◌≡◌, refl, sym, ◌∙◌, ap}
use mathlib.Core.Bool.{true}
use mathlib.Core.List.{List, [], ◌∷◌}
use lib.ListN.{length, get_or, set, get_or-eq_default}
use lib.Seq.{set_out}
use Rattle.sas.specs.Task.{Assignment}
use Rattle.reduction.specs.Reduction.{Reduction}
use Rattle.sheet.specs.Decode.{fact_of}
use Rattle.sheet.proofs.FactWords.{word_of_fact}
use Rattle.trace.specs.Between.Traces.{trace_start}
use Rattle.landmark.specs.Between.Rows.{supports_noted, row_raised}

-- past the last place nothing is noted
noted_none : (t : List ℕ) (i : ℕ) (e : Assignment) (rows : List ℕ) → length rows ≤ i → supports_noted t i e rows ≡ rows
unfolding supports_noted
noted_none t i [] rows past = refl
noted_none t i (f ∷ e) rows past = rw (set_out rows i _ past) (noted_none t (i + 1) e rows (omega arith))

module _ (t rows : List ℕ) (i : ℕ) (q : Assignment) where
  -- where no fact is left nothing is noted
  pub noted_over : q ≡ [] → supports_noted t i q rows ≡ rows
  unfolding supports_noted
  noted_over over = rw over

  -- else the support y of the first, the fact x, is noted first
  module _ (later : Assignment) (x y : ℕ) (first : q ≡ fact_of x ∷ later) (support : y ≡ get_or t (trace_start x + 1) 0) where
    pub noted_next : supports_noted t i q rows ≡ supports_noted t (i + 1) later (set rows i y)
    unfolding supports_noted
    noted_next = rw (support, first) (ap (λ j. supports_noted t (i + 1) later (set rows i (get_or t (trace_start j + 1) 0))) (word_of_fact x))

    pub noted_past : length (set rows i y) ≤ i → supports_noted t i q rows ≡ supports_noted t i later (set rows i y)
    noted_past past =
        noted_next ∙ noted_none t (i + 1) later (set rows i y) (omega arith) ∙ sym (noted_none t i later (set rows i y) past)

-- past the last place the same flag is raised at each
raised_alike : (rows : List ℕ) (i : ℕ) (e : Assignment) (m : Reduction) → length rows ≤ i → row_raised rows (i + 1) e m ≡ row_raised rows i e m
unfolding row_raised
raised_alike rows i [] m past = refl
raised_alike rows i (f ∷ e) m past =
    let behind : length rows ≤ i + 1 = omega arith in
    rw (get_or-eq_default rows 0 past, get_or-eq_default rows 0 behind) (raised_alike rows (i + 1) e (set m 0 true) behind)

module _ (rows : List ℕ) (i : ℕ) (q : Assignment) (m : Reduction) where
  -- where no fact is left nothing is raised
  pub raised_over : q ≡ [] → row_raised rows i q m ≡ m
  unfolding row_raised
  raised_over over = rw over

  -- else the flag of the support y that stands here is raised first
  module _ (later : Assignment) (x y : ℕ) (first : q ≡ fact_of x ∷ later) (support : y ≡ get_or rows i 0) where
    pub raised_next : row_raised rows i q m ≡ row_raised rows (i + 1) later (set m y true)
    unfolding row_raised
    raised_next = rw (support, first)

    pub raised_past : length rows ≤ i → row_raised rows i q m ≡ row_raised rows i later (set m y true)
    raised_past past = raised_next ∙ raised_alike rows i later (set m y true) past
