-- A sheet and its list, as the bytes of an input, are opened as that sheet and that list: the words are read back from their bytes, and the form is that of a whole
-- record with nothing behind it. Assumes nothing.
use Prim.Native.Nat.{ℕ, ◌+◌, ◌*◌, ◌<◌}
use native.Mathlib.Omega.{arith}
use mathlib.Core.Path.{◌≡◌, refl, sym, ◌∙◌, ap}
use mathlib.Core.Bool.{false}
use mathlib.Core.List.{List, [], ◌∷◌, ◌++◌}
use lib.ListN.{length, get_or, take, drop, length-append, get_or-append}
use lib.Seq.{take_at, drop-append-add, take_all, get_or_at}
use borrow.Author.Tests.{le-ltb}
use Rattle.sheet.specs.Decode.{table}
use Rattle.sheet.proofs.TableLaws.{table_at, table_take, table_part, table_nothing}
use Rattle.sheet.proofs.Parts.{Measured, accepted_measured}
use Rattle.plan.specs.Readable.{Readable}
use Rattle.std.specs.Prelude.{Ok}
use Rattle.records.specs.declared.frame.Extent.{Extent}
use Rattle.records.specs.RecordForm.{word_bytes, word_at, length_at, task_length, outside, input_form, unpacked, plan_words}
use Rattle.records.specs.Bytes.{input_of, word}
use Rattle.program.specs.Opening.{Lodged, opening}
use Rattle.records.proofs.BytesTheorem.{bytes_read_back, all_bytes_length, sized_append}
use Rattle.records.proofs.SizedTheorem.{readable_sized}
use Rattle.records.proofs.FormLaws.{form_whole, input_ends}
use Rattle.program.proofs.OpeningLaws.{opening_whole}

module _ (w l : List ℕ) (readable : Readable w l) where
  abbrev words : List ℕ
  words = w ++ (length l ∷ l)

  count_words : length words ≡ length w + 1 + length l
  count_words = length-append w (length l ∷ l) ∙ omega arith

  bytes_count : length (input_of w l) ≡ word_bytes * (length w + 1 + length l)
  bytes_count = all_bytes_length words ∙ ap (λ n. word_bytes * n) count_words

  read_back : table (word_at (input_of w l)) 0 (length words) ≡ words
  read_back =
      let (sized, sized_list) = readable_sized w l readable in
      bytes_read_back words (sized_append sized (word (omega (arith, readable.few)) sized_list))

  measured : Measured w
  measured = accepted_measured w readable.accepted

  word_is : (i : ℕ) → i < length words → word_at (input_of w l) i ≡ get_or words i 0
  word_is i h = sym (table_at (word_at (input_of w l)) 0 (length words) i i 0 h (omega arith)) ∙ ap (λ ws. get_or ws i 0) read_back

  says_task : length w ≡ task_length (input_of w l)
  says_task =
      let some : length_at < length w = omega (arith, measured.header) in
      sym (word_is length_at (omega (arith, count_words)) ∙ get_or-append w (length l ∷ l) 0 length_at some ∙ measured.stated)

  says_plan : length l ≡ word_at (input_of w l) (length w)
  says_plan = sym (word_is (length w) (omega (arith, count_words)) ∙ get_or_at w (length l) l 0 (length w) refl)

  fits : outside (length w) ≡ false
  fits = rw (le-ltb _ _ measured.header, le-ltb _ _ measured.words)

  abbrev end : ℕ
  end = word_bytes * (length w + 1) + word_bytes * (length l + 0)

  abbrev extent : Extent
  extent = record { task = length w; plan = length l; end = end }

  form : input_form 0 (input_of w l) ≡ Ok extent
  form =
      let whole = form_whole 0 (input_of w l) (length w) says_task fits (omega (arith, bytes_count)) (length l) says_plan readable.few end refl (omega (arith, bytes_count)) in
      input_ends 0 (input_of w l) extent (sym whole) (omega (arith, bytes_count))

  task_back : unpacked (input_of w l) (length w) ≡ w
  task_back =
      sym (table_take (word_at (input_of w l)) 0 (length w) (length words) (omega (arith, count_words)))
      ∙ ap (take (length w)) read_back
      ∙ take_at w (length l ∷ l) (length w) refl

  plan_back : plan_words (input_of w l) (length w) (length l) ≡ l
  plan_back =
      sym (table_part (word_at (input_of w l)) 0 (length w + 1) (length l) (length words) (length w + 1) (omega (arith, count_words)) (omega arith))
      ∙ ap (λ ws. take (length l) (drop (length w + 1) ws)) read_back
      ∙ ap (take (length l)) (drop-append-add w (length l ∷ l) 1)
      ∙ take_all (length l) l (omega arith)

  pub record_opened : opening 0 (input_of w l) ≡ Lodged w l []
  record_opened = opening_whole 0 (input_of w l) extent form ∙ rw (task_back, plan_back, table_nothing)
