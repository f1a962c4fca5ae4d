-- The round trip: the words of the text that is printed for words are those words, whatever their form. By laying the text out line by line. Assumes nothing.
use Prim.Native.Nat.{ℕ, zero, suc, ◌+◌, ◌-◌, ◌*◌, ◌/◌, ◌%◌, ◌≤◌, max}
use native.Mathlib.Omega.{arith}
use mathlib.Core.Path.{◌≡◌, refl, sym, ◌∙◌, ap, subst}
use mathlib.Core.Bool.{Bool, true, false, cond, ◌&&◌, not, and-eq-true_iff}
use mathlib.Core.List.{List, [], ◌∷◌, ◌++◌, append_assoc, append-nil}
use lib.ListN.{length, take, drop, length-drop, take-append-drop}
use lib.Dec.{ltb}
use borrow.Author.Tests.{le-ltb, eq-eqb}
use Rattle.ascii.specs.Bytes.{ascii, line_end}
use Rattle.lines.specs.Lines.{spaced}
use Rattle.sheet.specs.Limits.{limits}
use Rattle.sheet.specs.Layout.{actions}
use Rattle.sheet.specs.Decode.{table}
use Rattle.std.specs.Prelude.{Result, Ok, Err}
use Rattle.records.specs.declared.frame.Extent.{Extent}
use Rattle.records.specs.declared.frame.Fault.{Fault}
use Rattle.records.specs.RecordForm.{word_bytes, unpacked, input_form}
use Rattle.records.specs.Bytes.{all_bytes, WordSized}
use Rattle.records.proofs.BytesTheorem.{bytes_read_back, all_bytes_length}
use Rattle.ascii.specs.Bytes.{ends_line}
use Rattle.text.specs.Text.{Words, reading, found_in}
use Rattle.text.specs.Limits.{most}
use Rattle.layout.specs.Between.Lays.{Unbroken, Lays}
use Rattle.layout.specs.Between.Lays as lays
use Rattle.text.proofs.ReaderLaws.{found_whole}
use Rattle.layout.proofs.LaysTheorem.{round_trip, numeral_unbroken}
use Rattle.layout.proofs.RoomTheorem.{text_fits}
use Rattle.word_rows.specs.Rows.{rows_within, rows}
use Rattle.layout.specs.Layout.{comment, Section, laid_out, action_title, action_section, sections, list_sections, record_text}
use Rattle.layout.specs.Shown.{words_in, text_whole, text_framed, text_of, shown}

-- words in lines, in front of a text
lines_lay : (n : ℕ) (ws : List ℕ) {ys t : List ℕ} → length ws ≤ n → Lays ys t → Lays (ws ++ ys) (rows_within n ws ++ t)
unfolding rows_within
lines_lay zero [] low rest = rest
lines_lay zero (x ∷ xs) low rest = absurd (omega arith)
lines_lay (suc n) [] low rest = rest
lines_lay (suc n) (x ∷ xs) {ys} {t} low rest =
    let ws = x ∷ xs in
    let later = lines_lay n (drop 10 ws) (omega (arith, length-drop 10 ws)) rest in
    let words : take 10 ws ++ (drop 10 ws ++ ys) ≡ ws ++ ys = sym (append_assoc (take 10 ws) (drop 10 ws) ys) ∙ ap (λ l. l ++ ys) (take-append-drop 10 ws) in
    let text : spaced (take 10 ws) ++ line_end ∷ (rows_within n (drop 10 ws) ++ t) ≡ ((spaced (take 10 ws) ++ (line_end ∷ [])) ++ rows_within n (drop 10 ws)) ++ t =
    sym (append_assoc (spaced (take 10 ws) ++ (line_end ∷ [])) (rows_within n (drop 10 ws)) t ∙ append_assoc (spaced (take 10 ws)) (line_end ∷ []) (rows_within n (drop 10 ws) ++ t)) in
    subst (λ l. Lays l (rows_within (suc n) ws ++ t)) words (subst (Lays (take 10 ws ++ (drop 10 ws ++ ys))) text (lays.words (take 10 ws) later))

rows_lay : (ws : List ℕ) {ys t : List ℕ} → Lays ys t → Lays (ws ++ ys) (rows ws ++ t)
unfolding rows
rows_lay ws rest = lines_lay (length ws) ws (omega arith) rest

-- a comment in front of a text
comment_lays : (title : List ℕ) {ys t : List ℕ} → Unbroken title → Lays ys t → Lays ys (comment title ++ t)
comment_lays title {ys} {t} unbroken rest =
    subst (λ l. Lays ys (ascii "# " ++ l)) (sym (append_assoc title (line_end ∷ []) t)) (lays.comment (lays.byte refl unbroken) rest)

-- sections whose titles have no line end
data Titled : List Section → Type 0 where
  none_titled : Titled []
  titled_too : {s : Section} {ss : List Section} → Unbroken s.title → Titled ss → Titled (s ∷ ss)

sections_lay : (at : ℕ) {ss : List Section} (ws : List ℕ) {ys t : List ℕ} → Titled ss → Lays ys t → Lays (ws ++ ys) (laid_out at ss ws ++ t)
unfolding laid_out
sections_lay at ws none_titled rest = rows_lay ws rest
sections_lay at ws {ys} {t} (titled_too {s} {ss} unbroken others) rest =
    let k = s.end - at in
    let later = sections_lay (max at s.end) (drop k ws) others rest in
    let words : take k ws ++ (drop k ws ++ ys) ≡ ws ++ ys = sym (append_assoc (take k ws) (drop k ws) ys) ∙ ap (λ l. l ++ ys) (take-append-drop k ws) in
    let left = laid_out (max at s.end) ss (drop k ws) in
    let text : comment s.title ++ (rows (take k ws) ++ (left ++ t)) ≡ (comment s.title ++ (rows (take k ws) ++ left)) ++ t =
    ap (λ l. comment s.title ++ l) (sym (append_assoc (rows (take k ws)) left t)) ∙ sym (append_assoc (comment s.title) (rows (take k ws) ++ left) t) in
    subst (λ l. Lays l (laid_out at (s ∷ ss) ws ++ t)) words (subst (Lays (take k ws ++ (drop k ws ++ ys))) text (comment_lays s.title unbroken (rows_lay (take k ws) later)))

-- the titles of a task and its plan
abbrev no_end : List ℕ → Bool
no_end [] = true
no_end (b ∷ bs) = not (ends_line b) && no_end bs

unbroken : (bs : List ℕ) → no_end bs ≡ true → Unbroken bs
unbroken [] e = lays.Unbroken.nothing
unbroken (b ∷ bs) e = let (here, there) = (and-eq-true_iff (not (ends_line b)) (no_end bs)).0 e in lays.byte (no_line_end (ends_line b) here) (unbroken bs there)
  where
    no_line_end : (t : Bool) → not t ≡ true → t ≡ false
    no_line_end true e = sym e
    no_line_end false e = refl

action_titled : (w : List ℕ) (i n : ℕ) → Titled (table (action_section w) i n)
unfolding table
action_titled w i zero = none_titled
action_titled w i (suc n) = titled_too (open_title i) (action_titled w (i + 1) n)
  where
    open_title : (a : ℕ) → Unbroken (action_title a)
    open_title a = lays.byte refl (lays.byte refl (lays.byte refl (lays.byte refl (lays.byte refl (lays.byte refl (lays.byte refl (numeral_unbroken a)))))))

task_titled : (w : List ℕ) → Titled (sections w)
unfolding sections
task_titled w =
    titled_too (unbroken _ refl)
    (titled_too (unbroken _ refl) (titled_too (unbroken _ refl) (titled_too (unbroken _ refl) (titled_too (unbroken _ refl) (titled_too (unbroken _ refl) (action_titled w 0 (actions w)))))))

list_titled : (l : List ℕ) → Titled (list_sections l)
list_titled l = titled_too (unbroken _ refl) (titled_too (unbroken _ refl) none_titled)

-- so each text that is printed lays its words out
record_lays : (n : ℕ) (ws : List ℕ) → Lays ws (record_text n ws)
unfolding record_text
record_lays n ws =
    let list = sections_lay 0 (drop n ws) (list_titled (drop n ws)) lays.Lays.nothing in
    let both = sections_lay 0 (take n ws) (task_titled (take n ws)) list in
    subst (λ l. Lays ws (laid_out 0 (sections (take n ws)) (take n ws) ++ l)) (append-nil (laid_out 0 (list_sections (drop n ws)) (drop n ws)))
    (subst (λ l. Lays l (laid_out 0 (sections (take n ws)) (take n ws) ++ (laid_out 0 (list_sections (drop n ws)) (drop n ws) ++ []))) (ap (λ l. take n ws ++ l) (append-nil (drop n ws)) ∙ take-append-drop n ws) both)

plain_lays : (ws : List ℕ) → Lays ws (rows ws)
plain_lays ws = subst (λ l. Lays l (rows ws)) (append-nil ws) (subst (Lays (ws ++ [])) (append-nil (rows ws)) (rows_lay ws lays.Lays.nothing))

text_lays : (f : Result Extent Fault) (ws : List ℕ) → Lays ws (text_framed f ws)
unfolding text_whole
text_lays (Err f) ws = plain_lays ws
text_lays (Ok x) ws = by_case (ltb limits.actions (actions (take x.task ws)))
  where
    by_case : (b : Bool) → Lays ws (cond b (rows ws) (record_text x.task ws))
    by_case true = plain_lays ws
    by_case false = record_lays x.task ws

pub printed_read_back : (f : Result Extent Fault) (ws : List ℕ) (room : ℕ) → WordSized ws → length ws ≤ room → reading room (text_framed f ws) ≡ Words ws
printed_read_back f ws room small low = round_trip ws (text_framed f ws) (text_lays f ws) small room low

-- so the text that is shown of the bytes of words is read as those words
pub shown_read_back : (ws : List ℕ) → WordSized ws → length ws ≤ most → found_in most (shown (all_bytes ws)) ≡ Words ws
unfolding shown text_of
shown_read_back ws small low =
    let bytes = all_bytes ws in
    let form = input_form 0 bytes in
    let long : length bytes ≡ word_bytes * length ws = all_bytes_length ws in
    let few : length bytes ≤ word_bytes * most = omega arith in
    let whole : length bytes % word_bytes ≡ 0 = omega arith in
    let count : length bytes / word_bytes ≡ length ws = omega arith in
    let words : words_in bytes ≡ ws = ap (unpacked bytes) count ∙ bytes_read_back ws small in
    let text : shown bytes ≡ text_framed form ws =
    rw (shown, le-ltb (word_bytes * most) (length bytes) few, eq-eqb (length bytes % word_bytes) 0 whole) (ap (text_framed form) words) in
    ap (found_in most) text ∙ sym (found_whole most (text_framed form ws) (omega (arith, text_fits form ws small low))) ∙ printed_read_back form ws most small low
