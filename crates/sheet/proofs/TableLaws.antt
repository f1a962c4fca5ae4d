-- A table's length, its element at an index, its parts and its members, by induction on its length; and the facts among a task's words, which are a table,
-- by the cases of a loop over them, and so a run of stores of a table. Assumes nothing.
use Prim.Native.Nat.{ℕ, zero, suc, ◌+◌, ◌-◌, ◌≤◌, ◌<◌}
use native.Mathlib.Numerals.{add-one}
use native.Mathlib.Omega.{arith}
use mathlib.Core.Path.{◌≡◌, refl, ◌∙◌, ap}
use mathlib.Core.Logic.{⊎_elim}
use mathlib.Core.Bool.{Bool, true, false}
use mathlib.Core.List.Memᴰ
use mathlib.Core.List.{List, [], ◌∷◌, ◌++◌, Memᴰ, append-nil}
use lib.ListN.{length, get_or, set, take, drop, drop_of_length-le}
use lib.Seq.{sets, sets-eq}
use lib.Dec.{eqb}
use borrow.Author.Tests.{eqb-true, eqb-false}
use Rattle.refusal.proofs.PlaceLaws.{one_fewer, none_left}
use Rattle.sheet.specs.Layout.{word}
use Rattle.sheet.specs.Decode.{table, fact_of, facts}

module _ {A : Type 0} (f : ℕ → A) where
  pub table_nothing : (i : ℕ) → table f i zero ≡ []
  unfolding table
  table_nothing i = refl

  pub table_more : (i n : ℕ) → table f i (suc n) ≡ f i ∷ table f (i + 1) n
  unfolding table
  table_more i n = refl

  pub table_length : (i n : ℕ) → length (table f i n) ≡ n
  unfolding table
  table_length i zero = refl
  table_length i (suc n) = ap suc (table_length (i + 1) n)

  -- one element more behind
  pub table_last : (i n : ℕ) → table f i (suc n) ≡ table f i n ++ (f (i + n) ∷ [])
  unfolding table
  table_last i zero = ap (λ k. f k ∷ []) (omega arith)
  table_last i (suc n) = let on : i + 1 + n ≡ i + suc n = omega arith in ap (λ l. f i ∷ l) (table_last (i + 1) n ∙ rw on)

  -- the element at index k is the value at number j = i + k
  pub table_at : (i n k j : ℕ) (d : A) → k < n → j ≡ i + k → get_or (table f i n) k d ≡ f j
  unfolding table
  table_at i zero k j d h e = absurd (omega arith)
  table_at i (suc n) zero j d h e = ap f (omega arith)
  table_at i (suc n) (suc k) j d h e = table_at (i + 1) n k j d (omega arith) (omega arith)

  -- the first m elements, and m elements from index k on, at number j = i + k
  pub table_take : (i m n : ℕ) → m ≤ n → take m (table f i n) ≡ table f i m
  unfolding table
  table_take i zero n h = refl
  table_take i (suc m) zero h = absurd (omega arith)
  table_take i (suc m) (suc n) h = ap (λ l. f i ∷ l) (table_take (i + 1) m n (omega arith))

  pub table_part : (i k m n j : ℕ) → k + m ≤ n → j ≡ i + k → take m (drop k (table f i n)) ≡ table f j m
  unfolding table
  table_part i zero m n j h e = let same : j ≡ i = omega arith in rw same (table_take i m n (omega arith))
  table_part i (suc k) m zero j h e = absurd (omega arith)
  table_part i (suc k) m (suc n) j h e = table_part (i + 1) k m n j (omega arith) (omega arith)

  -- a function that agrees with f at each number of the table makes the same table
  pub table_same : (g : ℕ → A) (i n : ℕ) → ((k : ℕ) → i ≤ k → k < i + n → f k ≡ g k) → table f i n ≡ table g i n
  unfolding table
  table_same g i zero same = refl
  table_same g i (suc n) same = rw (same i (omega arith) (omega arith), table_same g (i + 1) n (λ k low high. same k (omega arith) (omega arith)))

  -- each value at a number of the table is one of its members
  pub table_member : (i n k : ℕ) → i ≤ k → k < i + n → Memᴰ (f k) (table f i n)
  unfolding table
  table_member i zero k low high = absurd (omega arith)
  table_member i (suc n) k low high = by_case (table_member (i + 1) n k) (eqb k i) refl
    where
      by_case : (i + 1 ≤ k → k < i + 1 + n → Memᴰ (f k) (table f (i + 1) n)) → (b : Bool) → eqb k i ≡ b → Memᴰ (f k) (f i ∷ table f (i + 1) n)
      by_case later true e = Memᴰ.head (ap f (eqb-true k i e))
      by_case later false e = Memᴰ.tail (later (omega (arith, eqb-false k i e)) (omega arith))

  -- and each member is the value at one of them
  pub table_member_at : (i n : ℕ) {x : A} → Memᴰ x (table f i n) → (k : ℕ) × (i ≤ k) × (k < i + n) × (x ≡ f k)
  unfolding table
  table_member_at i zero m = absurd (Memᴰ.not-nil m)
  table_member_at i (suc n) m =
      ⊎_elim
      (λ here. (i, omega arith, omega arith, here))
      (λ later. let (k, low, high, e) = table_member_at (i + 1) n later in (k, omega arith, omega arith, e))
      (Memᴰ.cases_cons m)

pub facts_length : (w : List ℕ) (i end : ℕ) → length (facts w i end) ≡ end - i
unfolding facts
facts_length w i end = table_length _ i (end - i)

-- from the end on there is no fact
pub facts_over : (w : List ℕ) (i end : ℕ) → end ≤ i → facts w i end ≡ []
unfolding facts table
facts_over w i end h = rw (none_left i end h)

-- before the end, the fact here comes first
pub facts_next : (w : List ℕ) (i end : ℕ) → i < end → facts w i end ≡ fact_of (word w i) ∷ facts w (i + 1) end
unfolding facts table
facts_next w i end h = rw (one_fewer i end h)

-- and the one before the end comes last
pub facts_last : (w : List ℕ) (i end : ℕ) → i < end → facts w i end ≡ facts w i (end - 1) ++ (fact_of (word w (end - 1)) ∷ [])
unfolding facts
facts_last w i end h =
    let more : end - i ≡ suc (end - 1 - i) = omega arith in
    let there : i + (end - 1 - i) ≡ end - 1 = omega arith in
    rw (more, table_last (λ j. fact_of (word w j)) i (end - 1 - i), there)

-- from the end on nothing is stored
pub stores_over : (f : ℕ → ℕ) (l : List ℕ) (i end : ℕ) → end ≤ i → sets l i (table f i (end - i)) ≡ l
stores_over f l i end h = rw (none_left i end h, table_nothing f i)

-- before the end, the value here is stored first
pub stores_next : (f : ℕ → ℕ) (l : List ℕ) (i end : ℕ) → i < end
    → sets l i (table f i (end - i)) ≡ sets (set l i (f i)) (i + 1) (table f (i + 1) (end - (i + 1)))
stores_next f l i end h = rw (one_fewer i end h, table_more f i (end - (i + 1)), add-one i)

-- a table stored over as many words is all that is left
pub stores_whole : (f : ℕ → ℕ) (l : List ℕ) (n : ℕ) → length l ≡ n → sets l 0 (table f 0 n) ≡ table f 0 n
stores_whole f l n e =
    let long : length (table f 0 n) ≡ n = table_length f 0 n in
    let none_after : drop (0 + length (table f 0 n)) l ≡ [] = drop_of_length-le l {i = 0 + length (table f 0 n)} (omega arith) in
    sets-eq (table f 0 n) l 0 (omega arith) ∙ rw (none_after, append-nil)
