-- The walk of a pass along the positions of a plan tells the traces of all known facts, and its rows the supports of what each position needs: by induction on
-- the steps, since a row has room for all that a step needs. So the walk back raises what the traces say. Assumes nothing.
use Prim.Native.Nat.{ℕ, zero, suc, ◌+◌, ◌≤◌, ◌<◌}
use native.Mathlib.Nat.{add-zero}
use native.Mathlib.Numerals.{add-one}
use native.Mathlib.Omega.{arith}
use mathlib.Core.Path.{◌≡◌, refl, ◌∙◌, ap}
use mathlib.Core.Logic.{◌≢◌, ⊎_elim}
use mathlib.Core.Bool.{Bool, true, false, cond}
use mathlib.Core.List.{List, [], ◌∷◌, Memᴰ}
use lib.ListN.{length, get_or, set, length-set}
use lib.Seq.{get_or-set_same, get_or-set_other}
use Rattle.sas.specs.Task.{Fact, Assignment, Action}
use Rattle.sas.specs.Plan.{written, needed, needs}
use Rattle.sas.specs.Between.WellFormed.{Known, ActionFormed}
use Rattle.reduction.specs.Reduction.{Reduction}
use Rattle.reduction.specs.Landmark.{step}
use Rattle.reduction.specs.Between.Wanted.{has}
use Rattle.reduction.specs.Between.Landmarks.{passed, trace, support, raised, supported}
use Rattle.reduction.proofs.marks.LinkLaws.{before_or_at}
use Rattle.sheet.specs.Limits.{limits}
use Rattle.sheet.specs.Decode.{domains}
use Rattle.sheet.specs.Between.Encode.{fact_word}
use Rattle.sheet.specs.Causes.{Accepted}
use Rattle.trace.specs.Between.Traces.{trace_start, Tables, tables}
use Rattle.landmark.specs.Between.Rows.{most_positions, row_start, supports_noted, row_raised}
use Rattle.landmark.specs.Between.Passes.{Walk, walked_step, walked, closed, pass_from}
use Rattle.trace.proofs.TraceTheorem.{read, Sized, step_sized, step_read}

-- the last writer of a fact before a position behind the start stands before it
last_before : (q : List Action) (m : Reduction) (g : Fact) (j : ℕ) → 1 ≤ j → (trace q m g j).last < j
unfolding trace passed
last_before q m g zero later = absurd (omega arith)
last_before q m g (suc zero) later = by_case (has (written (step q 0)) g)
  where
    by_case : (b : Bool) → cond b 0 0 < 1
    by_case true = omega arith
    by_case false = omega arith
last_before q m g (suc (suc j)) later = by_case (has (written (step q (suc j))) g) (last_before q m g (suc j) (omega arith))
  where
    by_case : (b : Bool) → (trace q m g (suc j)).last < suc j → cond b (suc j) (trace q m g (suc j)).last < suc (suc j)
    by_case true earlier = omega arith
    by_case false earlier = omega arith

-- the places from i on have what `at` gives for the facts of an assignment
abbrev pub NotedRow : List ℕ → ℕ → Assignment → (Fact → ℕ) → Type 0
NotedRow rows i [] at = Unit
NotedRow rows i (f ∷ e) at = (get_or rows i 0 ≡ at f) × NotedRow rows (i + 1) e at

-- so to raise a row is to raise those
row_raises : (rows : List ℕ) (i : ℕ) (e : Assignment) (at : Fact → ℕ) (n : Reduction) → NotedRow rows i e at → row_raised rows i e n ≡ raised at e n
unfolding row_raised raised
row_raises rows i [] at n told = refl
row_raises rows i (f ∷ e) at n (here, rest) = rw here (row_raises rows (i + 1) e at (set n (at f) true) rest)

module _ (traces : List ℕ) where
  noted_length : (i : ℕ) (e : Assignment) (rows : List ℕ) → length (supports_noted traces i e rows) ≡ length rows
  unfolding supports_noted
  noted_length i [] rows = refl
  noted_length i (f ∷ e) rows = noted_length (i + 1) e _ ∙ length-set rows i (get_or traces (trace_start (fact_word f) + 1) 0)

  -- places before a row stay
  noted_before : (i : ℕ) (e : Assignment) (rows : List ℕ) (x : ℕ) → x < i → get_or (supports_noted traces i e rows) x 0 ≡ get_or rows x 0
  unfolding supports_noted
  noted_before i [] rows x h = refl
  noted_before i (f ∷ e) rows x h =
      noted_before (i + 1) e (set rows i (get_or traces (trace_start (fact_word f) + 1) 0)) x (omega arith)
      ∙ get_or-set_other rows i x (get_or traces (trace_start (fact_word f) + 1) 0) 0 (λ same. omega arith)

  -- and so do rows
  row_stays : (i : ℕ) (e : Assignment) (rows : List ℕ) (y : ℕ) (d : Assignment) (at : Fact → ℕ) → y + length d ≤ i → NotedRow rows y d at
      → NotedRow (supports_noted traces i e rows) y d at
  row_stays i e rows y [] at h told = tt
  row_stays i e rows y (f ∷ d) at h (here, rest) =
      (noted_before i e rows y (omega arith) ∙ here, row_stays i e rows (y + 1) d at (omega arith) rest)

  -- a row has what the table tells
  row_noted : (i : ℕ) (e : Assignment) (rows : List ℕ) (at : Fact → ℕ) → i + length e ≤ length rows
      → ((f : Fact) → Memᴰ f e → get_or traces (trace_start (fact_word f) + 1) 0 ≡ at f) → NotedRow (supports_noted traces i e rows) i e at
  unfolding supports_noted
  row_noted i [] rows at room tells = tt
  row_noted i (f ∷ e) rows at room tells =
      let x : ℕ = get_or traces (trace_start (fact_word f) + 1) 0 in
      let here : get_or (supports_noted traces (i + 1) e (set rows i x)) i 0 ≡ at f
      = noted_before (i + 1) e (set rows i x) i (omega arith) ∙ get_or-set_same rows i x 0 (omega arith) ∙ tells f (Memᴰ.head refl) in
      (here, row_noted (i + 1) e (set rows i x) at (omega (arith, length-set rows i x)) (λ g m. tells g (Memᴰ.tail m)))

module _ (w : List ℕ) (accepted : Accepted w) (q : List Action) (m : Reduction)
    (few : (x : ℕ) → length (needed (step q x)) ≤ limits.variables) (known : (x : ℕ) (f : Fact) → needs (step q x) f → Known (domains w) f) where
  -- the rows of the positions before j have the supports of what they need
  abbrev pub RowsTold : ℕ → List ℕ → Type 0
  RowsTold j rows = (x : ℕ) → x < j → NotedRow rows (row_start x) (needed (step q x)) (support q m x)

  -- where the walk stands before position j
  pub record Told (j : ℕ) (t : Walk) : Type 0 where
    pub sized : Sized (tables t.traces t.latest)
    pub rows_sized : length t.rows ≡ row_start most_positions
    pub reads : (g : Fact) → Known (domains w) g → read (tables t.traces t.latest) g ≡ trace q m g j
    pub rows_told : RowsTold j t.rows

  -- one row more
  pub more_noted : (j : ℕ) (t : Walk) → j < most_positions → Told j t → RowsTold (suc j) (supports_noted t.traces (row_start j) (needed (step q j)) t.rows)
  more_noted j t inside told x h =
      ⊎_elim
      (λ before. row_stays t.traces (row_start j) (needed (step q j)) t.rows (row_start x) (needed (step q x)) (support q m x) (omega (arith, few x)) (told.rows_told x before))
      (λ same.
      rw same
      (row_noted t.traces (row_start j) (needed (step q j)) t.rows (support q m j) (omega (arith, few j, told.rows_sized))
      (λ f need. ap (λ k. k.support) (told.reads f (known j f need)))))
      (before_or_at x j h)

  told_step : (j : ℕ) (t : Walk) → 1 ≤ j → j < most_positions → ActionFormed (domains w) (step q j) → Told j t → Told (suc j) (walked_step m j (step q j) t)
  unfolding walked_step trace
  told_step j t later inside formed told =
      let before : Tables = tables t.traces t.latest in
      record {
        sized = step_sized w accepted (step q j) j (get_or m j false) before told.sized;
        rows_sized = noted_length t.traces (row_start j) (needed (step q j)) t.rows ∙ told.rows_sized;
        reads = λ g here. step_read w accepted (step q j) j (get_or m j false) before told.sized g formed here (unwritten g here) ∙ rw (told.reads g here);
        rows_told = more_noted j t inside told;
      }
    where
      -- no step before the one at j stands at j
      unwritten : (g : Fact) → Known (domains w) g → (read (tables t.traces t.latest) g).last ≢ j
      unwritten g here same = omega (arith, last_before q m g j later, ap (λ k. k.last) (told.reads g here))

  -- the walk along the steps p, which stand from position j on
  pub told_along : (p : List Action) (j : ℕ) (t : Walk) → 1 ≤ j → j + length p ≤ most_positions
      → ((i : ℕ) → i < length p → (step q (j + i) ≡ step p i) × ActionFormed (domains w) (step p i)) → Told j t → Told (j + length p) (walked m j p t)
  unfolding walked
  told_along [] j t later room there told = rw (add-zero j) told
  told_along (a ∷ p) j t later room there told =
      let (is, formed) = there 0 (omega arith) in
      let here : step q j ≡ a = rw (add-zero j) at is in
      let next : Told (j + 1) (walked_step m j a t) = rw add-one (rw here at (told_step j t later (omega arith) (rw here formed) told)) in
      let length_more : j + suc (length p) ≡ j + 1 + length p = omega arith in
      rw length_more
      (told_along p (j + 1) (walked_step m j a t) (omega arith) (omega arith)
      (λ i h. let further : j + 1 + i ≡ j + suc i = omega arith in rw further (there (suc i) (omega arith)))
      next)

  -- the walk back raises what the traces say
  pub closed_passes : (rows : List ℕ) (n j : ℕ) (a : Reduction) → j ≤ n → RowsTold n rows → closed rows q j a ≡ pass_from q m j a
  unfolding closed pass_from
  closed_passes rows n zero a h told = refl
  closed_passes rows n (suc j) a h told =
      let row : row_raised rows (row_start j) (needed (step q j)) a ≡ supported q m j a
      = row_raises rows (row_start j) (needed (step q j)) (support q m j) a (told j (omega arith)) in
      rw row (closed_passes rows n j (cond (get_or a j false) (supported q m j a) a) (omega arith) told)
