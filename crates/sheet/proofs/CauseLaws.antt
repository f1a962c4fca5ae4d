-- Where no cause of refusal is found, none is there: a choice of tests that is false has no true test, and in an accepted task no check fires.
-- Assumes nothing.
use Rattle.std.specs.Prelude.{None}
use Prim.Native.Nat.{ℕ}
use mathlib.Core.Path.{◌≡◌, refl, sym}
use mathlib.Core.Bool.{Bool, true, false, ◌&&◌, ◌||◌, false≢true}
use mathlib.Core.List.{List}
use Rattle.refusal.proofs.PlaceLaws.{when_nowhere}
use Rattle.refusal.proofs.CheckLaws.{none_fires}
use Rattle.sheet.specs.Causes.{bad_length, bad_edition, bad_counts, pair_place, variable_place, fact_place, cost_place, conflict_place, sheet_checks, Accepted}

-- where a choice of tests is false, each of them is
pub neither : (a b : Bool) → (a || b) ≡ false → (a ≡ false) × (b ≡ false)
neither true b h = absurd (false≢true (sym h))
neither false b h = (refl, h)

pub none_of_three : (a b c : Bool) → (a || (b || c)) ≡ false → (a ≡ false) × (b ≡ false) × (c ≡ false)
none_of_three a b c h = let (x, yz) = neither a (b || c) h in let (y, z) = neither b c yz in (x, y, z)

-- of two tests that don't both hold, the second fails where the first holds
pub not_both : (a b : Bool) → (a && b) ≡ false → a ≡ true → b ≡ false
not_both true b h e = h
not_both false b h e = absurd (false≢true e)

-- none of the sheet's checks fires
pub record Clear (w : List ℕ) : Type 0 where
  pub length : bad_length w ≡ false
  pub edition : bad_edition w ≡ false
  pub counts : bad_counts w ≡ false
  pub pairs : pair_place w ≡ None
  pub variables : variable_place w ≡ None
  pub facts : fact_place w ≡ None
  pub costs : cost_place w ≡ None
  pub conflicts : conflict_place w ≡ None

pub accepted_clear : (w : List ℕ) → Accepted w → Clear w
unfolding sheet_checks
accepted_clear w h =
    let (length_clear, after_length) = none_fires _ _ h in
    let (edition_clear, after_edition) = none_fires _ _ after_length in
    let (counts_clear, after_counts) = none_fires _ _ after_edition in
    let (pairs_clear, after_pairs) = none_fires _ _ after_counts in
    let (variables_clear, after_variables) = none_fires _ _ after_pairs in
    let (facts_clear, after_facts) = none_fires _ _ after_variables in
    let (costs_clear, after_costs) = none_fires _ _ after_facts in
    let (conflicts_clear, done) = none_fires _ _ after_costs in
    record {
      length = when_nowhere (bad_length w) 0 length_clear;
      edition = when_nowhere (bad_edition w) 0 edition_clear;
      counts = when_nowhere (bad_counts w) 0 counts_clear;
      pairs = pairs_clear;
      variables = variables_clear;
      facts = facts_clear;
      costs = costs_clear;
      conflicts = conflicts_clear;
    }
