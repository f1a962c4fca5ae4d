-- How much room suffices: the text of as many words as a text may have is no longer than `text_bytes`, so that nothing of it is dropped where so many bytes are lent. By
-- counting a word with its space, and its line's end, as 12 bytes, and then the comments. Assumes nothing.
use Prim.Native.Nat.{ℕ, zero, suc, ◌+◌, ◌-◌, ◌*◌, ◌^◌, ◌≤◌, max}
use native.Mathlib.Omega.{arith}
use mathlib.Core.Path.{◌≡◌, refl, ap}
use mathlib.Core.Bool.{Bool, true, false, cond}
use mathlib.Core.List.{List, [], ◌∷◌, ◌++◌}
use lib.ListN.{length, take, drop, length-append, take-append-drop}
use lib.Dec.{ltb, lit≤}
use borrow.Author.Tests.{ltb-false}
use Rattle.ascii.specs.Bytes.{ascii, line_end}
use Rattle.lines.specs.Lines.{spaced, numeral}
use Rattle.lines.proofs.NumeralLaws.{numeral_length}
use Rattle.sheet.specs.Limits.{limits}
use Rattle.sheet.specs.Layout.{actions}
use Rattle.sheet.specs.Decode.{table}
use Rattle.std.specs.Prelude.{Result, Ok, Err}
use Rattle.records.specs.declared.frame.Extent.{Extent}
use Rattle.records.specs.declared.frame.Fault.{Fault}
use Rattle.records.specs.Bytes.{WordSized, nothing, word}
use Rattle.text.specs.Limits.{most}
use Rattle.word_rows.specs.Rows.{rows_within, rows}
use Rattle.layout.specs.Layout.{comment, Section, laid_out, action_title, action_section, sections, list_sections, record_text}
use Rattle.layout.specs.Shown.{text_whole, text_framed}
use Rattle.layout.specs.Between.Room.{text_bytes}

-- parts of words are words
small_take : (n : ℕ) {ws : List ℕ} → WordSized ws → WordSized (take n ws)
small_take zero small = nothing
small_take (suc n) nothing = nothing
small_take (suc n) (word fits small) = word fits (small_take n small)

small_drop : (n : ℕ) {ws : List ℕ} → WordSized ws → WordSized (drop n ws)
small_drop zero small = small
small_drop (suc n) nothing = nothing
small_drop (suc n) (word fits small) = small_drop n small

parts_length : (n : ℕ) (ws : List ℕ) → length (take n ws) + length (drop n ws) ≡ length ws
parts_length n ws = omega (arith, length-append (take n ws) (drop n ws), ap length (take-append-drop n ws))

-- words on a line, and in lines
spaced_length : {ws : List ℕ} → WordSized ws → length (spaced ws) ≤ 11 * length ws
unfolding spaced
spaced_length nothing = omega arith
spaced_length (word {x} {xs} fits small) =
    let wide : 2 ^ 32 ≤ 10 ^ 10 = lit≤ tt in
    let few : length (numeral x) ≤ 10 = numeral_length 10 x (omega arith) (lit≤ tt) in
    omega (arith, length-append (numeral x) (spaced xs), spaced_length small)

lines_length : (n : ℕ) {ws : List ℕ} → WordSized ws → length (rows_within n ws) ≤ 12 * length ws
unfolding rows_within
lines_length zero small = omega arith
lines_length (suc n) nothing = omega arith
lines_length (suc n) (word {x} {xs} fits small) =
    let ws = x ∷ xs in
    let first = spaced_length (small_take 10 (word fits small)) in
    let rest = lines_length n (small_drop 10 (word fits small)) in
    omega (arith, length-append (spaced (take 10 ws) ++ (line_end ∷ [])) (rows_within n (drop 10 ws)), length-append (spaced (take 10 ws)) (line_end ∷ []), parts_length 10 ws)

rows_length : {ws : List ℕ} → WordSized ws → length (rows ws) ≤ 12 * length ws
unfolding rows
rows_length {ws} small = lines_length (length ws) small

-- the comments of sections
abbrev comments_length : List Section → ℕ
comments_length [] = 0
comments_length (s ∷ ss) = length s.title + 3 + comments_length ss

laid_length : (at : ℕ) (ss : List Section) {ws : List ℕ} → WordSized ws → length (laid_out at ss ws) ≤ comments_length ss + 12 * length ws
unfolding laid_out
laid_length at [] small = omega (arith, rows_length small)
laid_length at (s ∷ ss) {ws} small =
    let k = s.end - at in
    let left = laid_out (max at s.end) ss (drop k ws) in
    let part = rows_length (small_take k small) in
    let rest = laid_length (max at s.end) ss (small_drop k small) in
    let title : length (comment s.title) ≡ length s.title + 3 = omega (arith, length-append s.title (line_end ∷ [])) in
    omega (arith, length-append (comment s.title) (rows (take k ws) ++ left), length-append (rows (take k ws)) left, parts_length k ws)

actions_length : (w : List ℕ) (i n : ℕ) → i + n ≤ 10 ^ 4 → comments_length (table (action_section w) i n) ≤ 14 * n
unfolding table
actions_length w i zero few = omega arith
actions_length w i (suc n) few =
    let digits : length (numeral i) ≤ 4 = numeral_length 4 i (omega arith) (lit≤ tt) in
    let title : length (action_title i) ≡ 7 + length (numeral i) = length-append (ascii "action ") (numeral i) in
    omega (arith, actions_length w (i + 1) n (omega arith))

-- a task and its plan
record_length : (n : ℕ) {ws : List ℕ} → WordSized ws → actions (take n ws) ≤ limits.actions → length (record_text n ws) ≤ 14611 + 12 * length ws
unfolding record_text sections
record_length n {ws} small few =
    let w = take n ws in
    let l = drop n ws in
    let task = laid_length 0 (sections w) (small_take n small) in
    let list = laid_length 0 (list_sections l) (small_drop n small) in
    let fixed : comments_length (sections w) ≡ 47 + 3 + (38 + 3 + (12 + 3 + (15 + 3 + (39 + 3 + (78 + 3 + comments_length (table (action_section w) 0 (actions w))))))) = refl in
    let of_list : comments_length (list_sections l) ≡ 18 + 3 + (4 + 3 + 0) = refl in
    let wide : 1024 ≤ 10 ^ 4 = lit≤ tt in
    omega (arith, length-append (laid_out 0 (sections w) w) (laid_out 0 (list_sections l) l), parts_length n ws, actions_length w 0 (actions w) (omega arith))

pub text_fits : (f : Result Extent Fault) (ws : List ℕ) → WordSized ws → length ws ≤ most → length (text_framed f ws) ≤ text_bytes
unfolding text_whole
text_fits (Err f) ws small low = omega (arith, rows_length small)
text_fits (Ok x) ws small low = by_case (ltb limits.actions (actions (take x.task ws))) refl
  where
    by_case : (b : Bool) → ltb limits.actions (actions (take x.task ws)) ≡ b → length (cond b (rows ws) (record_text x.task ws)) ≤ text_bytes
    by_case true e = omega (arith, rows_length small)
    by_case false e = omega (arith, record_length x.task small (ltb-false limits.actions (actions (take x.task ws)) e))
