-- The line of a refusal, by its number and its place; and what must have been read, where it has. Assumes nothing.
use Prim.Native.Nat.{ℕ, ◌+◌, ◌≤◌, ◌<◌}
use native.Mathlib.Omega.{arith}
use native.Mathlib.Nat.{zero-add}
use mathlib.Core.Path.{◌≡◌, sym, ◌∙◌, ap}
use mathlib.Core.Bool.{true, false, false≢true}
use mathlib.Core.List.{List, [], ◌∷◌, ◌++◌}
use lib.ListN.{length, take, drop}
use lib.Seq.{length-take-le, sets-eq, take-append-add, take-append_seam, drop-append_seam}
use lib.Dec.{lit<}
use Rattle.io.specs.Counts.{IsPrefixLen}
use Rattle.ascii.specs.Bytes.{ascii}
use Rattle.lines.specs.Lines.{line}
use Rattle.lines.specs.Prints.{Prints}
use Rattle.lines.specs.Puts.{Puts}
use Rattle.lines.specs.declared.Page.{Page}
use Rattle.lines.proofs.PutsLaws.{puts_prints}
use Rattle.refusal.specs.Refusal.{Told}
use Rattle.program.specs.Between.Room.{line_room, TextPut}
use Rattle.records.specs.Between.Needed.{bytes_to_read}
use Rattle.records.proofs.FormLaws.{reads_header}
use Rattle.records.proofs.FormTheorem.{still_needed}
use Rattle.program.specs.Printed.{refusal_line, HasRead, HasDone}
use Rattle.program.specs.declared.input.Input.{Input}

pub refusal_printed : {before after : Page} (t : Told) {number place : ℕ} → number ≡ t.number → place ≡ t.place
    → Puts (line (ascii "refused") (number ∷ place ∷ [])) before after → Puts (refusal_line t) before after
refusal_printed t numbered placed puts = rw (← numbered, ← placed) puts

pub refusal_fits : (t : Told) {number place : ℕ} → number ≡ t.number → place ≡ t.place → length (line (ascii "refused") (number ∷ place ∷ [])) ≤ line_room
    → length (refusal_line t) ≤ line_room
refusal_fits t numbered placed short = rw (← numbered, ← placed) short

-- so many bytes at the front
front_counts : (n : ℕ) (bytes : List ℕ) → n ≤ length bytes → IsPrefixLen n bytes
front_counts n bytes h = (h, sym (length-take-le n bytes h))

module _ (further beyond : ℕ) (bytes : List ℕ) where
  -- nothing has been read
  pub read_nothing : HasRead further beyond bytes (record { count = 0; ended = true })
  read_nothing =
      record {
        counted = front_counts 0 bytes (omega arith);
        enough = λ e. absurd (false≢true (sym e));
        short = λ e. rw (reads_header further beyond [] (lit< tt)) (lit< tt);
      }

  module _ (n want : ℕ) (there : n ≤ length bytes) (is : want ≡ bytes_to_read further beyond (take n bytes)) where
    -- all that must be
    pub read_enough : want ≤ n → HasRead further beyond bytes (record { count = n; ended = false })
    read_enough low = record { counted = front_counts n bytes there; enough = λ e. rw (← is) low; short = λ e. absurd (false≢true e) }

    -- or less, though more was asked for
    pub read_short : (rest after : List ℕ) (got : ℕ) → after ≡ take n bytes ++ rest → n + got ≤ length after → n + got < want
        → HasRead further beyond after (record { count = n + got; ended = true })
    read_short rest after got is_after room less =
        let front : length (take n bytes) ≡ n = length-take-le n bytes there in
        let read : take (n + got) after ≡ take n bytes ++ take got rest = rw is_after (rw front at (take-append-add (take n bytes) rest got)) in
        let long : length (take n bytes ++ take got rest) ≡ n + got = ap length (sym read) ∙ length-take-le (n + got) after room in
        let same = still_needed further beyond (take n bytes) (take got rest) (omega (arith, long, is)) in
        record {
          counted = front_counts (n + got) after room;
          enough = λ e. absurd (false≢true (sym e));
          short = λ e. rw read (omega (arith, same, is));
        }

-- a text that is put at the front, where there is room for it
module _ (text before after : List ℕ) (written : ℕ) (room : length text ≤ length before) (prints : Prints text 0 before after written) where
  all_written : written ≡ length text
  all_written = omega (arith, prints.ends)

  parts : after ≡ text ++ drop (length text) before
  parts = prints.written ∙ sets-eq text before 0 (omega arith) ∙ rw zero-add

  front_text : take written after ≡ text
  front_text = rw (parts, all_written) (take-append_seam text (drop (length text) before))

  rest_stays : drop written after ≡ drop written before
  rest_stays = rw (parts, all_written) (drop-append_seam text (drop (length text) before))

-- a program that has read, and has printed its answer to what it has read on a page of its own
pub has_done : (further : ℕ) (text : List ℕ → List ℕ) (bytes : List ℕ) (input : Input) {before after : List ℕ} (room : ℕ) {page page' : Page} → room ≤ length before
    → HasRead further 1 bytes input → TextPut room page page' (text (take input.count bytes)) → page.bytes.now ≡ before → page.end ≡ 0 → after ≡ page'.bytes.now
    → HasDone further text bytes (record { input = input; written = page'.end }) before after
has_done further text bytes input {before} {after} room {page} {page'} roomy read (puts, short) lent empty left =
    let fits : length (text (take input.count bytes)) ≤ length before = omega (arith, short, roomy) in
    let prints : Prints (text (take input.count bytes)) 0 before after page'.end = puts_prints lent empty puts left in
    record { read = read; printed = front_text _ before after page'.end fits prints; others = rest_stays _ before after page'.end fits prints }
