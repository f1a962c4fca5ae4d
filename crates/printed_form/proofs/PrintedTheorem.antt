-- Bytes have the form exactly where a text prints them, and just one does; elsewhere just one line breaks it: the first
-- with which what has been read can't be completed. Assumes nothing.
use Prim.Native.Nat.{ℕ, suc, ◌+◌, ◌≤◌, ◌<◌}
use native.Mathlib.Omega.{arith}
use mathlib.Core.Path.{◌≡◌, refl, sym, ◌∙◌, ap, subst}
use mathlib.Core.Bool.{Bool, true, false, false≢true, and-eq-true_iff}
use mathlib.Core.List.{List, [], ◌∷◌, ◌++◌, map-append, append_assoc, append-nil, append_cancel_right, nil≢cons, cons≢nil, head-eq_of_cons-eq, tail-eq_of_cons-eq, Memᴰ}
use lib.ListN.{length, take, length-append}
use lib.Seq.{append_snoc}
use lib.Dec.{ltb}
use borrow.Author.Tests.{ltb-true, ltb-false}
use Rattle.ascii.specs.Bytes.{ends_line, runs, split}
use Rattle.fields.specs.Between.Numbers.{most_number}
use Rattle.form.specs.Between.Form as form
use Rattle.form.specs.Between.Form.{Due}
use Rattle.planner.specs.Text.{Text, most_bytes}
use Rattle.planner.specs.Printed.{Line, lines, printed}
use Rattle.planner.specs.Meant.{first_barred, unsayable}
use Rattle.planner.specs.Broken.{OneLine, Formed, Prints, Begins, Breaks}
use Rattle.printed_form.specs.Between.Datum.{line}
use Rattle.printed_form.specs.Between.Filled.{Takes, Fills}
use Rattle.printed_form.proofs.JoinLaws.{runs_free, runs_ended, bytes_of_runs, runs_bytes}
use Rattle.printed_form.proofs.DatumLaws.{datum_fits}
use Rattle.printed_form.proofs.FillLaws.{bytes_each, takes_both, GoesOn, takes_same, takes_one_line, lines_free}
use Rattle.printed_form.proofs.TextTheorem.{text_tape, text_fills, IsText, text_whole, text_once}
use Rattle.printed_form.proofs.CompletionLaws.{possible_text, takes_possible, FilledUp, filled_up}
use Rattle.printed_form.proofs.WalkLaws.{Found, AllShort, walk_found}
use Rattle.printed_form.proofs.RunLaws.{runs_few, runs_short, not_empty, cut_last, cut_twice}

-- bytes and their runs
printed_runs : (t : Text) (bytes : List ℕ) → Prints t bytes → runs (split ends_line bytes) ≡ bytes_each (lines t) ++ ([] ∷ [])
unfolding split
printed_runs t bytes prints =
    ap (λ b. runs (split ends_line b)) (sym prints.print ∙ sym (append-nil (printed t)))
    ∙ runs_ended (bytes_each (lines t)) [] (lines_free (lines t) prints.formed.one_each)

length_each : (ls : List Line) → length (bytes_each ls) ≡ length ls
length_each [] = refl
length_each (l ∷ ls) = ap suc (length_each ls)

-- each line has a byte, its line end
pub lines_few : (t : Text) (bytes : List ℕ) → Prints t bytes → length (lines t) ≤ length bytes
lines_few t bytes prints =
    let many : suc (length (split ends_line bytes).others) ≡ length (bytes_each (lines t)) + 1 =
    ap length (printed_runs t bytes prints) ∙ length-append (bytes_each (lines t)) ([] ∷ []) in
    omega (arith, runs_few bytes, length_each (lines t))

runs_printed : (t : Text) (bytes : List ℕ) → Formed t → runs (split ends_line bytes) ≡ bytes_each (lines t) ++ ([] ∷ []) → Prints t bytes
runs_printed t bytes formed e =
    record {
      formed = formed;
      print =
          sym (append-nil (printed t))
          ∙ sym (runs_bytes (bytes_each (lines t)) [] (split ends_line bytes).first (split ends_line bytes).others e) ∙ bytes_of_runs bytes;
    }

no_lines : (ls : List Line) → bytes_each ls ≡ [] → ls ≡ []
no_lines [] e = refl
no_lines (l ∷ ls) e = absurd (cons≢nil e)

-- a text is told by its bytes
pub prints_once : (t u : Text) (bytes : List ℕ) → Prints t bytes → Prints u bytes → t ≡ u
prints_once t u bytes first second =
    let same : bytes_each (lines u) ≡ bytes_each (lines t) =
    append_cancel_right (bytes_each (lines u)) (bytes_each (lines t)) ([] ∷ []) (sym (printed_runs u bytes second) ∙ printed_runs t bytes first) in
    let on : GoesOn (lines t) [] (text_tape t) (lines u) (text_tape u) [] =
    takes_same (lines t) form.text_lines (text_tape t) [] (lines u) (text_tape u) [] (text_fills t first.formed) (text_fills u second.formed)
    (same ∙ sym (append-nil (bytes_each (lines t)))) in
    text_once t u first.formed second.formed (sym (append-nil (lines t)) ∙ ap (λ ls. lines t ++ ls) (sym (no_lines on.behind on.bytes)) ∙ sym on.lines)

-- what is due next, where it is the same for one line at least
due_none : (ds es : List Due) (k : ℕ) → take (suc k) ds ≡ take (suc k) es → ds ≡ [] → es ≡ []
due_none ds [] k near none_due = refl
due_none [] (e ∷ es) k near none_due = absurd (nil≢cons near)
due_none (d ∷ ds) (e ∷ es) k near none_due = absurd (cons≢nil none_due)

due_next : (ds : List Due) (e : Due) (es : List Due) (k : ℕ) → take (suc k) ds ≡ take (suc k) (e ∷ es) → (fs : List Due) × (ds ≡ e ∷ fs)
due_next [] e es k near = absurd (nil≢cons near)
due_next (d ∷ ds) e es k near = (ds, ap (λ c. c ∷ ds) (head-eq_of_cons-eq near))

nothing_due_none : (ds : List Due) → form.nothing_due ds ≡ true → ds ≡ []
nothing_due_none [] e = refl
nothing_due_none (d ∷ ds) e = absurd (false≢true e)

nothing_left_none : (here : List ℕ) (behind : List (List ℕ)) → form.nothing_left (here ∷ behind) ≡ true → here ∷ behind ≡ [] ∷ []
unfolding form.nothing_left
nothing_left_none [] [] e = refl
nothing_left_none [] (m ∷ behind) e = absurd (false≢true e)
nothing_left_none (b ∷ here) behind e = absurd (false≢true e)

-- bytes that are no more than a text may have, as they are read
module _ (text : List ℕ) (few : length text ≤ most_bytes) where
  abbrev cuts : List (List ℕ)
  cuts = runs (split ends_line text)

  found : Found (form.walked text) cuts form.text_lines
  unfolding form.walked
  found =
      walk_found (split ends_line text).others (split ends_line text).first form.text_lines form.text_lines (omega (arith, runs_few text))
      (runs_short text (omega arith)).0 (runs_free ends_line text) refl

  here_short : (before : List (List ℕ)) (here : List ℕ) (behind : List (List ℕ)) → cuts ≡ before ++ (here ∷ behind) → length here < most_number
  here_short before here behind e = among before (subst AllShort e (runs_short text (omega arith)).0)
    where
      among : (rs : List (List ℕ)) → AllShort (rs ++ (here ∷ behind)) → length here < most_number
      among [] short = short.0
      among (r ∷ rs) short = among rs short.1

  -- a text whose lines begin with those that were read and the next
  no_further : (t : Text) → Formed t → (rest : List (List ℕ)) → (found.behind ≡ [] → ⊥)
      → bytes_each (lines t) ≡ bytes_each found.lines ++ (found.here ∷ rest) → ⊥
  no_further t formed rest more e =
      refused (takes_same found.lines form.text_lines found.numbers found.end (lines t) (text_tape t) (found.here ∷ rest) found.takes (text_fills t formed) e)
    where
      first : (ls : List Line) (end : List Due) (xs : List ℕ) → take (suc (length found.behind)) (form.walked text).due ≡ take (suc (length found.behind)) end
          → Fills end ls xs → bytes_each ls ≡ found.here ∷ rest → ⊥
      first [] end xs near fills is = nil≢cons is
      first (l ∷ ls) [] xs near fills is = fills
      first (l ∷ ls) (d ∷ ds) xs near fills is =
          let (fs, due) = due_next (form.walked text).due d ds (length found.behind) near in
          let bytes : (line d fills.datum).bytes ≡ found.here = ap (λ k. k.bytes) fills.is ∙ head-eq_of_cons-eq is in
          let short : length (line d fills.datum).bytes < most_number =
          subst (λ b. length b < most_number) (sym bytes) (here_short (bytes_each found.lines) found.here found.behind found.runs) in
          false≢true (sym (found.stops more d fs due) ∙ ap (form.fits d) (sym bytes) ∙ datum_fits d fills.datum short)

      refused : GoesOn found.lines found.end found.numbers (lines t) (text_tape t) (found.here ∷ rest) → ⊥
      refused on = first on.behind found.end on.kept_behind found.near on.fills on.bytes

  -- the lines that were read, where nothing is due behind them, are those of a text
  text_read : found.end ≡ [] → IsText found.lines
  text_read over = text_whole found.lines found.numbers (subst (Takes found.lines form.text_lines found.numbers) over found.takes)

  formed_by : (ls : List Line) → IsText ls → ((l : Line) → Memᴰ l ls → OneLine l.bytes) → (t : Text) × Formed t × (lines t ≡ ls)
  formed_by ls is one = (
    is.text,
    record { one_each = subst (λ ks. (l : Line) → Memᴰ l ks → OneLine l.bytes) (sym is.are) one; values = is.values },
    is.are,
  )

  -- bytes that have the form are those of a text
  pub whole_printed : form.whole (form.walked text) ≡ true → (t : Text) × Prints t text
  unfolding form.whole
  whole_printed e =
      let (no_due, no_left) = (and-eq-true_iff (form.nothing_due (form.walked text).due) (form.nothing_left (form.walked text).left)).0 e in
      let over : found.end ≡ [] =
      due_none (form.walked text).due found.end (length found.behind) found.near (nothing_due_none (form.walked text).due no_due) in
      let last : found.here ∷ found.behind ≡ [] ∷ [] =
      nothing_left_none found.here found.behind (ap form.nothing_left (sym found.left) ∙ no_left) in
      let (t, formed, are) =
      formed_by found.lines (text_read over) (takes_one_line found.lines form.text_lines found.numbers found.end found.takes) in
      (t, runs_printed t text formed (found.runs ∙ ap (λ r. bytes_each found.lines ++ r) last ∙ ap (λ ls. bytes_each ls ++ ([] ∷ [])) (sym are)))

  -- what was read, of bytes that are those of a text
  module _ (t : Text) (prints : Prints t text) where
    abbrev Rest : Type 0
    Rest = (rest : List (List ℕ)) × (bytes_each (lines t) ≡ bytes_each found.lines ++ rest) × (found.here ∷ found.behind ≡ rest ++ ([] ∷ []))

    rest_of : Rest
    rest_of =
        cut_last (bytes_each (lines t)) [] (bytes_each found.lines) found.here found.behind (sym (printed_runs t text prints) ∙ found.runs)

    none_left : (rest : List (List ℕ)) → bytes_each (lines t) ≡ bytes_each found.lines ++ rest → found.here ∷ found.behind ≡ rest ++ ([] ∷ [])
        → (bytes_each (lines t) ≡ bytes_each found.lines) × (found.here ∷ found.behind ≡ [] ∷ [])
    none_left [] e last = (e ∙ append-nil (bytes_each found.lines), last)
    none_left (r ∷ rest) e last =
        absurd (no_further t prints.formed rest (λ none_behind. not_empty rest [] [] (sym none_behind ∙ tail-eq_of_cons-eq last))
        (e ∙ ap (λ c. bytes_each found.lines ++ (c ∷ rest)) (sym (head-eq_of_cons-eq last))))

    all_read : (bytes_each (lines t) ≡ bytes_each found.lines) × (found.here ∷ found.behind ≡ [] ∷ [])
    all_read = let (rest, e, last) = rest_of in none_left rest e last

    going : GoesOn found.lines found.end found.numbers (lines t) (text_tape t) []
    going =
        takes_same found.lines form.text_lines found.numbers found.end (lines t) (text_tape t) [] found.takes (text_fills t prints.formed)
        (all_read.0 ∙ sym (append-nil (bytes_each found.lines)))

    none_due : found.end ≡ []
    none_due = ended going.behind (no_lines going.behind going.bytes) going.fills
      where
        ended : (ls : List Line) → ls ≡ [] → Fills found.end ls going.kept_behind → found.end ≡ []
        ended [] e fills = fills.0
        ended (l ∷ ls) e fills = absurd (cons≢nil e)

    no_numbers : going.kept_behind ≡ []
    no_numbers = ended going.behind (no_lines going.behind going.bytes) going.fills
      where
        ended : (ls : List Line) → ls ≡ [] → Fills found.end ls going.kept_behind → going.kept_behind ≡ []
        ended [] e fills = fills.1
        ended (l ∷ ls) e fills = absurd (cons≢nil e)

    same_lines : lines t ≡ found.lines
    same_lines = going.lines ∙ ap (λ ls. found.lines ++ ls) (no_lines going.behind going.bytes) ∙ append-nil found.lines

    -- they have the form, and the numbers and the first line that no sheet can say are the text's
    pub printed_whole : form.whole (form.walked text) ≡ true
    unfolding form.whole form.nothing_left
    printed_whole =
        let due : (form.walked text).due ≡ [] =
        due_none found.end (form.walked text).due (length found.behind) (sym found.near) none_due in
        let left : (form.walked text).left ≡ [] ∷ [] = found.left ∙ all_read.1 in
        rw (due, left)

    pub printed_numbers : form.numbers_of text ≡ text_tape t
    unfolding form.numbers_of
    printed_numbers =
        found.kept ∙ sym (append-nil found.numbers) ∙ ap (λ xs. found.numbers ++ xs) (sym no_numbers) ∙ sym going.kept

    pub printed_barred : form.unsupported_line text ≡ unsayable t
    unfolding form.unsupported_line
    printed_barred = found.barred 1 ∙ ap (λ ls. first_barred 1 ls) (sym same_lines)

  -- bytes that don't have the form: the first line at which reading stops breaks it
  completed : Begins (bytes_each found.lines)
  completed =
      let more : FilledUp found.end =
      filled_up found.end (takes_possible found.lines form.text_lines found.numbers found.end found.takes possible_text) in
      let fills : Fills form.text_lines (found.lines ++ more.lines) (found.numbers ++ more.numbers) =
      takes_both found.lines more.lines form.text_lines found.numbers more.numbers found.end [] found.takes more.fills in
      let (t, formed, are) =
      formed_by (found.lines ++ more.lines) (text_whole (found.lines ++ more.lines) (found.numbers ++ more.numbers) fills)
      (takes_one_line (found.lines ++ more.lines) form.text_lines (found.numbers ++ more.numbers) [] fills) in
      record {
        text = t;
        formed = formed;
        behind = bytes_each more.lines;
        goes_on = ap bytes_each are ∙ map-append (λ l. l.bytes) found.lines more.lines;
      }

  pub broken_breaks : form.whole (form.walked text) ≡ false → Breaks text (length (form.walked text).read + 1)
  broken_breaks e =
      record {
        before = bytes_each found.lines;
        line = found.here;
        behind = found.behind;
        parts = found.runs;
        place = ap (λ n. n + 1) (found.read ∙ sym (length_each found.lines));
        begins = completed;
        ended = λ more b. no_further b.text b.formed b.behind more (b.goes_on ∙ append_snoc (bytes_each found.lines) found.here b.behind);
        unended = λ over t prints. false≢true (sym e ∙ printed_whole t prints);
      }

-- lines that begin a text, and fewer
begins_fewer : (ls ms : List (List ℕ)) → Begins (ls ++ ms) → Begins ls
begins_fewer ls ms b =
    record { text = b.text; formed = b.formed; behind = ms ++ b.behind; goes_on = b.goes_on ∙ append_assoc ls ms b.behind }

-- a line that breaks the form comes behind no other
not_earlier : (bytes : List ℕ) (n m : ℕ) → (b : Breaks bytes n) (c : Breaks bytes m) → length b.before < length c.before → ⊥
not_earlier bytes n m b c less =
    let (middle, longer, rest) =
    cut_twice b.before b.line b.behind c.before c.line c.behind (sym b.parts ∙ c.parts) less in
    b.ended (λ none_behind. not_empty middle c.line c.behind (sym none_behind ∙ rest))
    (begins_fewer (b.before ++ (b.line ∷ [])) middle
    (subst Begins (longer ∙ sym (append_snoc b.before b.line middle)) c.begins))

pub breaks_once : (bytes : List ℕ) (n m : ℕ) → Breaks bytes n → Breaks bytes m → n ≡ m
breaks_once bytes n m b c = by_case (ltb (length b.before) (length c.before)) refl (ltb (length c.before) (length b.before)) refl
  where
    by_case : (s : Bool) → ltb (length b.before) (length c.before) ≡ s → (t : Bool) → ltb (length c.before) (length b.before) ≡ t → n ≡ m
    by_case true e t f = absurd (not_earlier bytes n m b c (ltb-true _ _ e))
    by_case false e true f = absurd (not_earlier bytes m n c b (ltb-true _ _ f))
    by_case false e false f =
        let one : length c.before ≤ length b.before = ltb-false (length b.before) (length c.before) e in
        let other : length b.before ≤ length c.before = ltb-false (length c.before) (length b.before) f in
        let first = b.place in
        let second = c.place in
        omega arith

-- and in no text does a line break the form
pub no_text_breaks : (bytes : List ℕ) (n : ℕ) (t : Text) → Breaks bytes n → Prints t bytes → ⊥
no_text_breaks bytes n t b prints =
    let (rest, e, last) =
    cut_last (bytes_each (lines t)) [] b.before b.line b.behind (sym (printed_runs t bytes prints) ∙ b.parts) in
    by_case rest e last
  where
    by_case : (rest : List (List ℕ)) → bytes_each (lines t) ≡ b.before ++ rest → b.line ∷ b.behind ≡ rest ++ ([] ∷ []) → ⊥
    by_case [] e last = b.unended (tail-eq_of_cons-eq last) t prints
    by_case (r ∷ rest) e last =
        b.ended (λ none_behind. not_empty rest [] [] (sym none_behind ∙ tail-eq_of_cons-eq last))
        (record {
          text = t;
          formed = prints.formed;
          behind = rest;
          goes_on =
              e ∙ ap (λ c. b.before ++ (c ∷ rest)) (sym (head-eq_of_cons-eq last)) ∙ sym (append_snoc b.before b.line rest);
        })
