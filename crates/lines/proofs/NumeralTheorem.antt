-- A numeral stands for its number, and digits with no needless zero are the numeral of what they stand for. Assumes
-- nothing.
use Prim.Native.Nat.{ℕ, zero, suc, ◌+◌, ◌-◌, ◌*◌, ◌/◌, ◌%◌, ◌≤◌, ◌<◌}
use native.Mathlib.Omega.{arith}
use native.Mathlib.Nat.{mod-lt, div-add-mod}
use mathlib.Core.Path.{◌≡◌, refl, sym, ◌∙◌, ap}
use mathlib.Core.Bool.{Bool, true, false, ◌&&◌, and-eq-true_iff}
use mathlib.Core.List.{List, [], ◌∷◌, ◌++◌, append-nil}
use lib.ListN.{length, length-append}
use lib.Seq.{append_snoc}
use lib.Dec.{ltb, leb, lit<}
use borrow.Author.Tests.{ltb-true, ltb-false, le-leb, leb-true}
use Rattle.ascii.specs.Bytes.{ascii_zero, ascii_nine, ascii_digit, all_digits, decimal_from}
use Rattle.lines.specs.Lines.{digit_sign, numeral_within, numeral}
use Rattle.lines.proofs.NumeralLaws.{within_one, within_more}

-- two tests that both hold
pub both : (s t : Bool) → (s && t) ≡ true → (s ≡ true) × (t ≡ true)
both s t e = (and-eq-true_iff s t).0 e

-- a last digit
decimal_last : (v : ℕ) (ds : List ℕ) (b : ℕ) → decimal_from v (ds ++ (b ∷ [])) ≡ 10 * decimal_from v ds + (b - ascii_zero)
unfolding decimal_from
decimal_last v [] b = refl
decimal_last v (d ∷ ds) b = decimal_last (10 * v + (d - ascii_zero)) ds b

all_digits_last : (ds : List ℕ) (b : ℕ) → all_digits ds ≡ true → ascii_digit b ≡ true → all_digits (ds ++ (b ∷ [])) ≡ true
unfolding all_digits
all_digits_last [] b first last = rw last
all_digits_last (d ∷ ds) b first last = let (here, there) = both (ascii_digit d) (all_digits ds) first in rw (here, all_digits_last ds b there last)

-- digits that stand for a number
pub record StandsFor (x : ℕ) (ds : List ℕ) : Type 0 where
  pub all : all_digits ds ≡ true
  pub value : decimal_from 0 ds ≡ x
  pub some_digit : 0 < length ds

sign_digit : (d : ℕ) → d < 10 → ascii_digit (digit_sign d) ≡ true
sign_digit d small =
    let low : ascii_zero ≤ digit_sign d = omega arith in
    let high : digit_sign d ≤ ascii_nine = omega arith in
    rw (le-leb ascii_zero (digit_sign d) low, le-leb (digit_sign d) ascii_nine high)

-- one digit, and a digit more
one_digit : (x : ℕ) → x < 10 → StandsFor x (digit_sign x ∷ [])
unfolding all_digits decimal_from
one_digit x small = record { all = rw (sign_digit x small); value = omega arith; some_digit = omega arith }

digit_more : (x : ℕ) (ds : List ℕ) → StandsFor (x / 10) ds → StandsFor x (ds ++ (digit_sign (x % 10) ∷ []))
digit_more x ds before =
    record {
      all = all_digits_last ds (digit_sign (x % 10)) before.all (sign_digit (x % 10) (mod-lt x (lit< tt)));
      value = decimal_last 0 ds (digit_sign (x % 10)) ∙ ap (λ v. 10 * v + (digit_sign (x % 10) - ascii_zero)) before.value ∙ omega (arith, div-add-mod x 10);
      some_digit = rw length-append (omega arith);
    }

-- so a numeral stands for its number
within_stands : (n x : ℕ) → x < n → StandsFor x (numeral_within n x)
unfolding numeral_within
within_stands zero x low = absurd (omega arith)
within_stands (suc n) x low = by_case (within_stands n (x / 10)) (ltb x 10) refl
  where
    by_case : (x / 10 < n → StandsFor (x / 10) (numeral_within n (x / 10))) → (b : Bool) → ltb x 10 ≡ b → StandsFor x (numeral_within (suc n) x)
    by_case before true e = rw (numeral_within, e) (one_digit x (ltb-true x 10 e))
    by_case before false e = rw (numeral_within, e) (digit_more x (numeral_within n (x / 10)) (before (omega (arith, ltb-false x 10 e, div-add-mod x 10))))

pub numeral_stands : (x : ℕ) → StandsFor x (numeral x)
unfolding numeral
numeral_stands x = within_stands (suc x) x (omega arith)

-- and for no other
pub numeral_once : (x y : ℕ) → numeral x ≡ numeral y → x ≡ y
numeral_once x y e = sym (numeral_stands x).value ∙ ap (decimal_from 0) e ∙ (numeral_stands y).value

-- it makes no difference how many digits there may be, as long as they suffice
within_same : (n m x : ℕ) → x < n → x < m → numeral_within n x ≡ numeral_within m x
unfolding numeral_within
within_same zero m x low few = absurd (omega arith)
within_same (suc n) zero x low few = absurd (omega arith)
within_same (suc n) (suc m) x low few = by_case (within_same n m (x / 10)) (ltb x 10) refl
  where
    by_case : (x / 10 < n → x / 10 < m → numeral_within n (x / 10) ≡ numeral_within m (x / 10)) → (b : Bool) → ltb x 10 ≡ b
        → numeral_within (suc n) x ≡ numeral_within (suc m) x
    by_case before true e = rw (numeral_within, e)
    by_case before false e =
        rw (numeral_within, e)
        (ap (λ ds. ds ++ (digit_sign (x % 10) ∷ []))
        (before (omega (arith, ltb-false x 10 e, div-add-mod x 10)) (omega (arith, ltb-false x 10 e, div-add-mod x 10))))

numeral_one : (x : ℕ) → x < 10 → numeral x ≡ digit_sign x ∷ []
unfolding numeral
numeral_one x small = within_one x x small

numeral_more : (x : ℕ) → 10 ≤ x → numeral x ≡ numeral (x / 10) ++ (digit_sign (x % 10) ∷ [])
unfolding numeral
numeral_more x large =
    within_more x x large
    ∙ ap (λ ds. ds ++ (digit_sign (x % 10) ∷ []))
    (within_same x (suc (x / 10)) (x / 10) (omega (arith, div-add-mod x 10)) (omega arith))

below_ten : (x : ℕ) → x % 10 < 10
below_ten x = mod-lt x (lit< tt)

-- digits of which the first is no zero
abbrev pub High : List ℕ → Type 0
High [] = ⊥
High (d ∷ ds) = ascii_zero < d

high_more : (ds : List ℕ) (b : ℕ) → High ds → High (ds ++ (b ∷ []))
high_more [] b high = elim high [ ]
high_more (d ∷ ds) b high = high

within_high : (n x : ℕ) → x < n → 1 ≤ x → High (numeral_within n x)
unfolding numeral_within
within_high zero x low some_one = absurd (omega arith)
within_high (suc n) x low some_one = by_case (within_high n (x / 10)) (ltb x 10) refl
  where
    by_case : (x / 10 < n → 1 ≤ x / 10 → High (numeral_within n (x / 10))) → (b : Bool) → ltb x 10 ≡ b → High (numeral_within (suc n) x)
    by_case before true e = rw (numeral_within, e) (omega arith)
    by_case before false e =
        rw (numeral_within, e)
        (high_more (numeral_within n (x / 10)) (digit_sign (x % 10))
        (before (omega (arith, ltb-false x 10 e, div-add-mod x 10)) (omega (arith, ltb-false x 10 e, div-add-mod x 10, below_ten x))))

-- the numeral of a number above zero begins with no zero
pub numeral_high : (x : ℕ) → 1 ≤ x → High (numeral x)
unfolding numeral
numeral_high x some_one = within_high (suc x) x (omega arith) some_one

pub numeral_zero : numeral 0 ≡ ascii_zero ∷ []
unfolding numeral numeral_within
numeral_zero = refl

-- a digit is a sign of a number below 10
sign_of : (b : ℕ) → ascii_digit b ≡ true → (ascii_zero ≤ b) × (b < ascii_zero + 10)
sign_of b e =
    let (low, high) = both (leb ascii_zero b) (leb b ascii_nine) e in
    (leb-true ascii_zero b low, omega (arith, leb-true b ascii_nine high))

-- digits behind those of a number above zero
digits_behind : (v : ℕ) (ds : List ℕ) → 1 ≤ v → all_digits ds ≡ true → numeral (decimal_from v ds) ≡ numeral v ++ ds
unfolding decimal_from all_digits
digits_behind v [] some_one all = sym (append-nil (numeral v))
digits_behind v (b ∷ bs) some_one all =
    let (here, there) = both (ascii_digit b) (all_digits bs) all in
    let (low, high) = sign_of b here in
    let next : ℕ = 10 * v + (b - ascii_zero) in
    let tenth : next / 10 ≡ v = omega (arith, div-add-mod next 10, below_ten next) in
    let last : digit_sign (next % 10) ≡ b = omega (arith, div-add-mod next 10, below_ten next) in
    let longer : numeral next ≡ numeral v ++ (b ∷ []) =
    numeral_more next (omega arith) ∙ ap (λ n. numeral n ++ (digit_sign (next % 10) ∷ [])) tenth ∙ ap (λ d. numeral v ++ (d ∷ [])) last in
    digits_behind next bs (omega arith) there
    ∙ ap (λ ds. ds ++ bs) longer
    ∙ append_snoc (numeral v) b bs

pub digit_numeral : (b : ℕ) → ascii_digit b ≡ true → numeral (b - ascii_zero) ≡ b ∷ []
digit_numeral b e =
    let (low, high) = sign_of b e in
    let same : digit_sign (b - ascii_zero) ≡ b = omega arith in
    numeral_one (b - ascii_zero) (omega arith) ∙ rw same

-- digits that begin with no zero are the numeral of what they stand for
pub decimal_numeral : (b : ℕ) (bs : List ℕ) → all_digits (b ∷ bs) ≡ true → ascii_zero < b → numeral (decimal_from 0 (b ∷ bs)) ≡ b ∷ bs
unfolding decimal_from all_digits
decimal_numeral b bs all high =
    let (here, there) = both (ascii_digit b) (all_digits bs) all in
    let first : 10 * 0 + (b - ascii_zero) ≡ b - ascii_zero = omega arith in
    ap (λ v. numeral (decimal_from v bs)) first ∙ digits_behind (b - ascii_zero) bs (omega arith) there ∙ (ap (λ ds. ds ++ bs) (digit_numeral b here))
