-- The words of a row as they are stored one after the other, the rows so far, and with them what the service answers. Assumes nothing.
use Rattle.std.specs.Prelude.{Err, Ok}
use Prim.Native.Nat.{ℕ, suc, ◌+◌, ◌-◌, ◌*◌, ◌≤◌, ◌<◌}
use native.Mathlib.Omega.{arith}
use mathlib.Core.Path.{◌≡◌, refl, sym, ◌∙◌, ap}
use mathlib.Core.Bool.{Bool, false}
use mathlib.Core.Option.{none}
use mathlib.Core.List.{List, ◌∷◌, ◌++◌, flatten}
use lib.ListN.{length, get_or, set}
use lib.Seq.{sets, take_all}
use Rattle.access.proofs.StoreLaws.{stores_joined}
use Rattle.refusal.specs.Refusal.{Verdict}
use Rattle.refusal.specs.declared.Refusal.{Refusal}
use Rattle.refusal.specs.Refusal.{told}
use Rattle.refusal.specs.Check.{answer}
use Rattle.tally.specs.declared.Tally.{Tally}
use Rattle.sheet.specs.Layout.{cost_word}
use Rattle.sheet.specs.Decode.{action, table}
use Rattle.sheet.proofs.TableLaws.{table_length, table_at, table_more}
use Rattle.plan.specs.Limits.{most_steps}
use Rattle.plan.specs.Checked.{lodged_tally}
use Rattle.plan.specs.Readable.{Readable}
use Rattle.plan.proofs.PlanLaws.{read_readable}
use Rattle.reduction.specs.Reduction.{Reduction, kept}
use Rattle.mask.specs.Mask.{digit, bit_up}
use Rattle.lent.specs.Words.{tally_words}
use Rattle.moves.specs.declared.tallies.Tallies.{Tallies}
use Rattle.moves.specs.Moves.{of_mask, struck_by, row, all_rows, moves_checks, Moves}
use Rattle.moves.specs.Between.Tallied.{row_length, none_yet, with_one, row_words, WritesRows}
use Rattle.moves.proofs.CountLaws.{Counting, counting_start, counting_more, lodged_plain, left_plain, struck_plain}

-- nine words, stored one after the other
row_written : (rows : List ℕ) (at c k m : ℕ) (t u v : Tally)
    → sets (sets (sets (set (set (set rows at c) (at + 1) k) (at + 2) m) (at + 3) (tally_words t)) (at + 5) (tally_words u)) (at + 7) (tally_words v)
    ≡ sets rows at (c ∷ k ∷ m ∷ (tally_words t ++ (tally_words u ++ tally_words v)))
row_written rows at c k m t u v =
    let one : at + 1 ≡ suc at = omega arith in
    let two : at + 2 ≡ suc (suc at) = omega arith in
    let three : at + 3 ≡ suc (suc (suc at)) = omega arith in
    let five : at + 5 ≡ suc (suc (suc (suc (suc at)))) = omega arith in
    let seven : at + 7 ≡ suc (suc (suc (suc (suc (suc (suc at)))))) = omega arith in
    rw (one, two, three, five, seven)

pub row_laid : (rows first second third fourth fifth sixth : List ℕ) (at c k m : ℕ) (is_kept is_marked : Bool) (t : Tallies)
    → first ≡ set rows at c → k ≡ digit is_kept → second ≡ set first (at + 1) k → m ≡ digit is_marked → third ≡ set second (at + 2) m
    → fourth ≡ sets third (at + 3) (tally_words t.lodged) → fifth ≡ sets fourth (at + 5) (tally_words t.left) → sixth ≡ sets fifth (at + 7) (tally_words t.struck)
    → sixth ≡ sets rows at (row_words c is_kept is_marked t)
row_laid rows first second third fourth fifth sixth at c k m is_kept is_marked t e1 d1 e2 d2 e3 e4 e5 e6 =
    e6 ∙ rw (e5, e4, e3, e2, e1, d1, d2) (row_written rows at c (digit is_kept) (digit is_marked) t.lodged t.left t.struck)

module _ (w l mask marks before : List ℕ) where
  abbrev flags : Reduction
  flags = of_mask mask (length l)

  -- where the walk stands before the step at index i: what it writes from there on is what it writes in all
  pub record Walking (rows : List ℕ) (t : Tallies) (i : ℕ) : Type 0 where
    pub reached : i ≤ length l
    pub room : length rows ≡ length before
    pub counting : Counting w l flags i t
    pub stored : sets rows (row_length * i) (flatten (table (row w l mask marks) i (length l - i))) ≡ sets before 0 (all_rows w l mask marks)

  pub walking_start : (t : Tallies) → t ≡ none_yet → Walking before t 0
  walking_start t is =
      let all : length l - 0 ≡ length l = omega arith in
      record { reached = omega arith; room = refl; counting = rw is (counting_start w l flags); stored = rw all }

  module _ (readable : Readable w l) (rows : List ℕ) (t : Tallies) (i : ℕ) (so : Walking rows t i) where
    pub walking_low : row_length * i ≤ row_length * most_steps
    walking_low = omega (arith, so.reached, readable.few)

    module _ (here : i < length l) (c : ℕ) (b d : Bool) (rows' : List ℕ) (t' : Tallies) (price : c ≡ cost_word w (get_or l i 0)) (up : b ≡ bit_up mask i) (marked : d ≡ bit_up marks i)
        (added : t' ≡ with_one t c b) (written : rows' ≡ sets rows (row_length * i) (row_words c b d t')) where
      next : Counting w l flags (i + 1) t'
      next =
          rw added
          (counting_more w l flags i t so.counting here (table_length (bit_up mask) 0 (length l)) c price b (up ∙ sym (table_at (bit_up mask) 0 (length l) i i false here (omega arith))))

      is_row : row_words c b d t' ≡ row w l mask marks i
      unfolding row action
      is_row =
          rw (price, up, marked, lodged_plain w l readable flags (i + 1) t' next, left_plain w l readable flags (i + 1) t' next, struck_plain w l readable flags (i + 1) t' next)

      pub walking_more : length rows' ≡ length before → Walking rows' t' (i + 1)
      unfolding flatten
      walking_more room =
          let R = row w l mask marks in
          let rest = flatten (table R (i + 1) (length l - (i + 1))) in
          let one_left : length l - i ≡ suc (length l - (i + 1)) = omega arith in
          let along : table R i (length l - i) ≡ R i ∷ table R (i + 1) (length l - (i + 1)) = rw one_left (table_more R i (length l - (i + 1))) in
          let on : row_length * (i + 1) ≡ row_length * i + length (R i) = omega (arith, ap length (sym is_row)) in
          record {
            reached = omega arith;
            room = room;
            counting = next;
            stored = ap (λ k. sets rows' k rest) on
                ∙ ap (λ words. sets words (row_length * i + length (R i)) rest) (written ∙ ap (sets rows (row_length * i)) is_row)
                ∙ stores_joined rows (R i) rest (row_length * i)
                ∙ ap (λ rs. sets rows (row_length * i) (flatten rs)) (sym along)
                ∙ so.stored;
          }

    pub walking_over : length l ≤ i → WritesRows w l mask marks t.struck before rows
    unfolding flatten table
    walking_over past =
        let none_left : length l - i ≡ 0 = omega arith in
        record {
          tally = struck_plain w l readable flags i t so.counting ∙ ap (λ p. lodged_tally w (kept (struck_by flags) p)) (take_all i l past);
          rows = ap (λ n. sets rows (row_length * i) (flatten (table (row w l mask marks) i n))) (sym none_left) ∙ so.stored;
        }

-- the service refuses what is read
module _ (w l mask marks : List ℕ) (v : Verdict) (read : told v ≡ answer (moves_checks w l)) (before : List ℕ) where
  pub moves_refused : (r : Refusal) → v ≡ Err r → Moves w l mask marks (Err r) before before
  moves_refused r e =
      let fires : answer (moves_checks w l) ≡ told (Err r) = sym read ∙ ap told e in
      record { refusal = sym fires; tally = rw fires; rows = rw fires }

  -- or writes its rows
  module _ (passed : v ≡ Ok tt) where
    passes : answer (moves_checks w l) ≡ none
    passes = sym read ∙ ap told passed

    pub moves_readable : Readable w l
    moves_readable = read_readable most_steps w l passes

    pub moves_written : (t : Tally) (after : List ℕ) → WritesRows w l mask marks t before after → Moves w l mask marks (Ok t) before after
    moves_written t after writes = record { refusal = sym passes; tally = rw passes writes.tally; rows = rw passes writes.rows }
