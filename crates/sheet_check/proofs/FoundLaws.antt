-- What `find` gives over a range of numbers is the first place at which a test holds, by induction on how many numbers are left. Assumes nothing.
use Prim.Native.Nat.{ℕ, zero, suc, ◌+◌, ◌-◌}
use mathlib.Core.Path.{◌≡◌, refl, sym, ◌∙◌}
use mathlib.Core.Bool.{Bool, true, false}
use Rattle.std.specs.Prelude.{Option, None, Some}
use Rattle.std.specs.Option.{option_map}
use Rattle.std.specs.List.{find, range_with_len}
use Rattle.refusal.specs.Place.{when, first_of_next, first_of, first}

found_next : (t : ℕ → Bool) (i n : ℕ) → find t (range_with_len i n) ≡ first_of_next (λ k. when (t k) k) i n
unfolding first_of_next
found_next t i zero = refl
found_next t i (suc n) = by_case (found_next t (i + 1) n) (t i) refl
  where
    by_case : find t (range_with_len (i + 1) n) ≡ first_of_next (λ k. when (t k) k) (i + 1) n → (b : Bool) → t i ≡ b
        → find t (range_with_len i (suc n)) ≡ first_of_next (λ k. when (t k) k) i (suc n)
    by_case later true e = rw (e, first_of_next)
    by_case later false e = rw (e, first_of_next) later

same : (r : Option ℕ) → option_map (λ k. k) r ≡ r
same None = refl
same (Some k) = refl

pub first_found : (t : ℕ → Bool) (i end : ℕ) (r : Option ℕ) → option_map (λ k. k) r ≡ find t (range_with_len i (end - i)) → r ≡ first t i end
unfolding first first_of
first_found t i end r found = sym (same r) ∙ found ∙ found_next t i (end - i)
