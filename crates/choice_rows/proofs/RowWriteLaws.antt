-- What a row does: a state has all that it asks for just where the facts that were stamped into it hold, and to write it over a state is to assign the facts
-- that were stamped into it one after another. A fact that is put into a row changes what it says of one variable; the rest by induction on the facts, whose
-- variables rise. Assumes nothing.
use Prim.Native.Nat.{ℕ, zero, suc, ◌-◌, ◌/◌, ◌%◌, ◌^◌, ◌≤◌, ◌<◌}
use native.Mathlib.Nat.{pow-suc}
use native.Mathlib.Decide.{le_ind}
use native.Mathlib.Omega.{arith}
use mathlib.Core.Path.{◌≡◌, refl, sym, ◌∙◌, ap, ap₂}
use mathlib.Core.Logic.{◌≢◌}
use mathlib.Core.Bool.{Bool, true, false, cond, not, ◌&&◌, and-true, and_assoc, not-not}
use mathlib.Core.List.{List, [], ◌∷◌}
use lib.ListN.{length, get_or, take, set, length-set, length-replicate, get_or-replicate}
use lib.Seq.{length-take-le, take_all, take-set-lt, get_or-take, get_or-set_same, get_or-set_other, ext_get_or}
use lib.Pow.{pow_pos}
use lib.Dec.{ltb, eqb}
use borrow.Author.Tests.{eqb-true, eqb-false, eq-eqb, lt-ltb}
use Rattle.sas.specs.Task.{Fact, Assignment, State, Action}
use Rattle.sas.specs.Plan.{holds, satisfies, written, assign}
use Rattle.sas.specs.Between.WellFormed.{Known, Rising, Plain}
use Rattle.sas.specs.Between.WellFormed.Rising.{empty, fact}
use Rattle.sas.proofs.FactLaws.{satisfies_nothing, satisfies_more, satisfies_failing}
use Rattle.sas.proofs.WellFormedLaws.{rising_few}
use Rattle.sas.proofs.AssignLaws.{assign_length}
use Rattle.sas.proofs.ActionLaws.{plain_apply}
use Rattle.reduction.specs.Between.Course.{held_after}
use Rattle.reduction.proofs.turns.HeldLaws.{apply_held}
use Rattle.fact_bits.specs.Between.Bits.{bits_hold}
use Rattle.packed_state.specs.declared.packed.Row.{Row}
use Rattle.packed_state.specs.Between.Packed.{state_bytes, no_row, asks_at, value_at, meeting, has_first, has_all, written_over}
use Rattle.packed_state.proofs.PackedLaws.{over_length, over_at}
use Rattle.choice_rows.specs.Between.Rows.{all_bits, laid, laid_all, stamped_row}

-- the variable of a fact has its value
abbrev pub has_byte : List ℕ → Fact → Bool
has_byte b f = eqb (get_or b f.variable 0) f.value

-- two rows say the same of a variable
abbrev SameAt : Row → Row → ℕ → Type 0
SameAt after row v = (asks_at after v ≡ asks_at row v) × (value_at after v ≡ value_at row v)

-- a row asks for nothing from variable `from` on
abbrev pub BlankFrom : Row → ℕ → Type 0
BlankFrom row from = (v : ℕ) → from ≤ v → v < state_bytes → asks_at row v ≡ false

-- a row has a place for each variable
pub record RowSized (row : Row) : Type 0 where
  pub asked : length row.asked ≡ state_bytes
  pub values : length row.values ≡ state_bytes

-- a fact put into a row
abbrev fact_put : Row → Fact → Row
fact_put row f = record { asked = set row.asked f.variable true; values = set row.values f.variable f.value }

-- the row without facts is blank
no_row_blank : BlankFrom no_row 0
no_row_blank v above below = get_or-replicate state_bytes v false false below

pub no_row_sized : RowSized no_row
no_row_sized = record { asked = length-replicate {A = Bool} state_bytes false; values = length-replicate {A = ℕ} state_bytes 0 }

module _ (row : Row) (f : Fact) where
  put_sized : RowSized row → RowSized (fact_put row f)
  put_sized sized = record { asked = length-set row.asked f.variable true ∙ sized.asked; values = length-set row.values f.variable f.value ∙ sized.values }

  -- a fact whose bit is zero is not laid
  laid_none : (bits : ℕ) → eqb (bits % 2) 1 ≡ false → laid row bits f ≡ row
  unfolding laid
  laid_none bits e = rw e

  laid_sized : (bits : ℕ) → RowSized row → RowSized (laid row bits f)
  unfolding laid
  laid_sized bits sized = by_case (eqb (bits % 2) 1 && ltb f.variable state_bytes)
    where
      by_case : (c : Bool) → RowSized (cond c (fact_put row f) row)
      by_case true = put_sized sized
      by_case false = sized

  -- another variable stays
  put_other : (v : ℕ) → v ≢ f.variable → SameAt (fact_put row f) row v
  put_other v apart = (get_or-set_other row.asked f.variable v true false apart, get_or-set_other row.values f.variable v f.value 0 apart)

  module _ (low : f.variable < state_bytes) where
    -- one whose bit is one is put into the row
    laid_put : (bits : ℕ) → eqb (bits % 2) 1 ≡ true → laid row bits f ≡ fact_put row f
    unfolding laid
    laid_put bits e = rw (e, lt-ltb f.variable state_bytes low)

    module _ (sized : RowSized row) where
      -- its own variable is asked for, at its value
      put_asks : asks_at (fact_put row f) f.variable ≡ true
      put_asks = get_or-set_same row.asked f.variable true false (omega (arith, sized.asked))

      put_value : value_at (fact_put row f) f.variable ≡ f.value
      put_value = get_or-set_same row.values f.variable f.value 0 (omega (arith, sized.values))

-- to lay an assignment keeps the size
laid_all_sized : (row : Row) (bits : ℕ) (q : Assignment) → RowSized row → RowSized (laid_all row bits q)
unfolding laid_all
laid_all_sized row bits [] sized = sized
laid_all_sized row bits (f ∷ q) sized = laid_all_sized (laid row bits f) (bits / 2) q (laid_sized row f bits sized)

-- and so does to stamp a row with one
pub stamped_sized : (row : Row) (bits : ℕ) (q : Assignment) → RowSized row → RowSized (stamped_row row bits q)
stamped_sized row bits q sized = laid_all_sized row bits (take state_bytes q) sized

-- what a state has is told by what the row says of the variables
has_alike : (after row : Row) (b : List ℕ) (n : ℕ) → ((v : ℕ) → v < n → SameAt after row v) → has_first after b n ≡ has_first row b n
unfolding has_first
has_alike after row b zero same = refl
has_alike after row b (suc n) same =
    ap₂ ◌&&◌ (has_alike after row b n (λ v below. same v (omega arith)))
    (ap₂ (λ x y. meeting x y (get_or b n 0)) (same n (omega arith)).0 (same n (omega arith)).1)

-- each state has what a row asks for that asks for nothing
blank_first : (row : Row) (b : List ℕ) (n : ℕ) → n ≤ state_bytes → BlankFrom row 0 → has_first row b n ≡ true
unfolding has_first
blank_first row b zero within blank = refl
blank_first row b (suc n) within blank = rw (blank_first row b n (omega arith) blank, blank n (omega arith) within) refl

-- one test more, which is not asked for or asked for at last
swapped : (x y z : Bool) → (x && y && z) ≡ (x && z && y)
swapped true true true = refl
swapped true true false = refl
swapped true false true = refl
swapped true false false = refl
swapped false y z = refl

module _ (row : Row) (f : Fact) (low : f.variable < state_bytes) (sized : RowSized row) (b : List ℕ) (free : asks_at row f.variable ≡ false) where
  -- a state has what it had to have, and the fact that was put into the row
  has_more : (n : ℕ) → f.variable < n → n ≤ state_bytes → has_first (fact_put row f) b n ≡ (has_first row b n && has_byte b f)
  unfolding has_first
  has_more n above within = le_ind (λ k. k ≤ state_bytes → has_first (fact_put row f) b k ≡ (has_first row b k && has_byte b f)) here on n above within
    where
      here : suc f.variable ≤ state_bytes → has_first (fact_put row f) b (suc f.variable) ≡ (has_first row b (suc f.variable) && has_byte b f)
      here h =
          rw (
            put_asks row f low sized,
            put_value row f low sized,
            free,
            has_alike (fact_put row f) row b f.variable (λ v below. put_other row f v (omega arith)),
            and-true,
          )

      on : (k : ℕ) → f.variable < k → (k ≤ state_bytes → has_first (fact_put row f) b k ≡ (has_first row b k && has_byte b f)) → suc k ≤ state_bytes
          → has_first (fact_put row f) b (suc k) ≡ (has_first row b (suc k) && has_byte b f)
      on k later so_far h =
          rw ((put_other row f k (omega arith)).0, (put_other row f k (omega arith)).1, so_far (omega arith))
          (swapped (has_first row b k) (has_byte b f) (meeting (asks_at row k) (value_at row k) (get_or b k 0)))

  laid_asked : (bits : ℕ) → has_all (laid row bits f) b ≡ (has_all row b && not (eqb (bits % 2) 1 && not (has_byte b f)))
  laid_asked bits = by_case (eqb (bits % 2) 1) refl
    where
      by_case : (c : Bool) → eqb (bits % 2) 1 ≡ c → has_all (laid row bits f) b ≡ (has_all row b && not (c && not (has_byte b f)))
      by_case true e = rw (laid_put row f low bits e, not-not) (has_more state_bytes low (omega arith))
      by_case false e = rw (laid_none row f bits e, and-true)

-- a fact leaves the variables above its own
laid_blank : (row : Row) (bits : ℕ) (f : Fact) → f.variable < state_bytes → (from : ℕ) → from ≤ f.variable → BlankFrom row from
    → BlankFrom (laid row bits f) (suc f.variable)
laid_blank row bits f low from above blank v past below = by_case (eqb (bits % 2) 1) refl
  where
    by_case : (c : Bool) → eqb (bits % 2) 1 ≡ c → asks_at (laid row bits f) v ≡ false
    by_case true e = rw (laid_put row f low bits e) ((put_other row f v (omega arith)).0 ∙ blank v (omega arith) below)
    by_case false e = rw (laid_none row f bits e) (blank v (omega arith) below)

module _ {domains : List ℕ} (narrow : length domains ≤ state_bytes) (b : List ℕ) (u : State)
    (told : (f : Fact) → Known domains f → has_byte b f ≡ holds u f) where
  laid_all_asked : {from : ℕ} {q : Assignment} (row : Row) (bits : ℕ) → RowSized row → Rising domains from q
      → BlankFrom row from → has_all (laid_all row bits q) b ≡ (has_all row b && bits_hold u bits q)
  unfolding laid_all bits_hold
  laid_all_asked row bits sized empty blank = sym (and-true (has_all row b))
  laid_all_asked row bits sized (fact {from = from} {f = f} {q = q} known above rest) blank =
      let low : f.variable < state_bytes = omega (arith, known.variable) in
      laid_all_asked (laid row bits f) (bits / 2) (laid_sized row f bits sized) rest (laid_blank row bits f low from above blank)
      ∙ ap (λ c. c && bits_hold u (bits / 2) q)
      (laid_asked row f low sized b (blank f.variable above low) bits ∙ ap (λ c. has_all row b && not (eqb (bits % 2) 1 && not c)) (told f known))
      ∙ and_assoc (has_all row b) (not (eqb (bits % 2) 1 && not (holds u f))) (bits_hold u (bits / 2) q)

  -- a state has all that a stamped row asks for just where the facts whose bits are one hold
  pub stamped_asked : {q : Assignment} (bits : ℕ) → Rising domains 0 q → has_all (stamped_row no_row bits q) b ≡ bits_hold u bits q
  stamped_asked {q} bits rising =
      rw (take_all state_bytes q (omega (arith, rising_few rising)))
      (laid_all_asked no_row bits no_row_sized rising no_row_blank
      ∙ ap (λ c. c && bits_hold u bits q) (blank_first no_row b state_bytes (omega arith) no_row_blank))

-- where all bits are one, all facts are asked for
ones_hold : (u : State) (n : ℕ) (q : Assignment) → length q ≤ n → bits_hold u (2 ^ n - 1) q ≡ satisfies u q
unfolding bits_hold
ones_hold u n [] short = sym (satisfies_nothing u)
ones_hold u zero (f ∷ q) short = absurd (omega arith)
ones_hold u (suc n) (f ∷ q) short =
    let odd : (2 ^ suc n - 1) % 2 ≡ 1 = omega (arith, pow-suc 2 n, pow_pos n) in
    let half : (2 ^ suc n - 1) / 2 ≡ 2 ^ n - 1 = omega (arith, pow-suc 2 n, pow_pos n) in
    rw (odd, half) (by_case (ones_hold u n q (omega arith)) (holds u f) refl)
  where
    by_case : bits_hold u (2 ^ n - 1) q ≡ satisfies u q → (b : Bool) → holds u f ≡ b → (not (not b) && bits_hold u (2 ^ n - 1) q) ≡ satisfies u (f ∷ q)
    by_case rest true e = rest ∙ sym (satisfies_more u f q e)
    by_case rest false e = sym (satisfies_failing u f q e)

pub all_bits_hold : (u : State) (q : Assignment) → length q ≤ state_bytes → bits_hold u all_bits q ≡ satisfies u q
all_bits_hold u q short = ones_hold u state_bytes q short

-- the row without facts writes nothing
pub none_written : (b : List ℕ) → length b ≡ state_bytes → written_over no_row b ≡ b
none_written b sized =
    ext_get_or 0 (written_over no_row b) b (over_length no_row b ∙ sym sized)
    (λ v h. let below : v < state_bytes = omega (arith, over_length no_row b) in over_at no_row b v below ∙ rw (no_row_blank v (omega arith) below))

module _ (row : Row) (f : Fact) (low : f.variable < state_bytes) (sized : RowSized row) (b : List ℕ) where
  -- a fact put into a row is written last
  put_written : written_over (fact_put row f) b ≡ set (written_over row b) f.variable f.value
  put_written =
      ext_get_or 0 (written_over (fact_put row f) b) (set (written_over row b) f.variable f.value)
      (over_length (fact_put row f) b ∙ sym (length-set (written_over row b) f.variable f.value ∙ over_length row b))
      (λ v h. by_case v (omega (arith, over_length (fact_put row f) b)) (eqb v f.variable) refl)
    where
      by_case : (v : ℕ) → v < state_bytes → (c : Bool) → eqb v f.variable ≡ c
          → get_or (written_over (fact_put row f) b) v 0 ≡ get_or (set (written_over row b) f.variable f.value) v 0
      by_case v below true e =
          over_at (fact_put row f) b v below
          ∙ rw (eqb-true v f.variable e, put_asks row f low sized, put_value row f low sized)
          (sym (get_or-set_same (written_over row b) f.variable f.value 0 (omega (arith, over_length row b))))
      by_case v below false e =
          let apart : v ≢ f.variable = eqb-false v f.variable e in
          over_at (fact_put row f) b v below
          ∙ rw ((put_other row f v apart).0, (put_other row f v apart).1)
          (sym (get_or-set_other (written_over row b) f.variable v f.value 0 apart ∙ over_at row b v below))

module _ {domains : List ℕ} (narrow : length domains ≤ state_bytes) (b : List ℕ) where
  ones_written : {from : ℕ} {q : Assignment} (row : Row) (n : ℕ) → RowSized row → Rising domains from q → length q ≤ n
      → written_over (laid_all row (2 ^ n - 1) q) b ≡ assign (written_over row b) q
  unfolding laid_all assign
  ones_written row n sized empty short = refl
  ones_written row zero sized (fact known above rest) short = absurd (omega arith)
  ones_written row (suc n) sized (fact {f = f} {q = q} known above rest) short =
      let low : f.variable < state_bytes = omega (arith, known.variable) in
      let odd : eqb ((2 ^ suc n - 1) % 2) 1 ≡ true = eq-eqb ((2 ^ suc n - 1) % 2) 1 (omega (arith, pow-suc 2 n, pow_pos n)) in
      let half : (2 ^ suc n - 1) / 2 ≡ 2 ^ n - 1 = omega (arith, pow-suc 2 n, pow_pos n) in
      rw (half, laid_put row f low (2 ^ suc n - 1) odd)
      (ones_written (fact_put row f) n (put_sized row f sized) rest (omega arith) ∙ ap (λ s. assign s q) (put_written row f low sized b))

  -- to write a row that was stamped with an assignment is to write the row and then to assign it
  stamped_written : {q : Assignment} (row : Row) → RowSized row → Rising domains 0 q → written_over (stamped_row row all_bits q) b ≡ assign (written_over row b) q
  stamped_written {q} row sized rising =
      rw (take_all state_bytes q (omega (arith, rising_few rising))) (ones_written row state_bytes sized rising (omega (arith, rising_few rising)))

-- what is assigned to an array's front is so there
front_assigned : {domains : List ℕ} {from : ℕ} {q : Assignment} (b : List ℕ) → Rising domains from q
    → take (length domains) (assign b q) ≡ assign (take (length domains) b) q
unfolding assign
front_assigned b empty = refl
front_assigned {domains} b (fact {f = f} {q = q} known above rest) =
    front_assigned (set b f.variable f.value) rest
    ∙ ap (λ s. assign s q) (take-set-lt (length domains) b f.variable f.value known.variable)

-- a known fact holds in the front just where its variable has its value
front_holds : {domains : List ℕ} (b : List ℕ) (f : Fact) → length domains ≤ length b → Known domains f
    → holds (take (length domains) b) f ≡ has_byte b f
unfolding holds
front_holds {domains} b f long known =
    rw (
      length-take-le (length domains) b long,
      lt-ltb f.variable (length domains) known.variable,
      get_or-take (length domains) b f.variable 0 known.variable,
    )

module _ {domains : List ℕ} (narrow : length domains ≤ state_bytes) (b : List ℕ) (row : Row) (sized : RowSized row) (a : Action) (plain : Plain domains a) where
  -- to write a row that was stamped with what an action writes is to write the row and then to do the action
  pub stamped_held : (f : Fact) → Known domains f → has_byte (written_over (stamped_row row all_bits (written a)) b) f
      ≡ held_after a f (has_byte (written_over row b) f)
  stamped_held f known =
      let over : List ℕ = written_over row b in
      let long : length domains ≤ length over = omega (arith, over_length row b) in
      let longer : length domains ≤ length (assign over (written a)) = omega (arith, assign_length over (written a)) in
      rw (stamped_written narrow b row sized plain.rising)
      (sym (front_holds (assign over (written a)) f longer known)
      ∙ ap (λ s. holds s f) (front_assigned over plain.rising ∙ sym (plain_apply (take (length domains) over) a plain))
      ∙ apply_held a f (take (length domains) over) plain (length-take-le (length domains) over long)
      ∙ ap (held_after a f) (front_holds over f long known))
