-- The room suffices: the bytes of a sheet are no more than the array that `main` lends has, since a longer sheet is refused. So does the room for the input:
-- a text that is cut behind more bytes than one may have is answered as it would be whole, and so what is answered to the bytes read is what is answered to the
-- whole input. Assumes nothing.
use Prim.Native.Nat.{ℕ, ◌*◌, ◌≤◌, ◌<◌}
use native.Mathlib.Omega.{arith}
use mathlib.Core.Path.{◌≡◌, refl, sym, ◌∙◌, ap}
use mathlib.Core.Bool.{Bool, true, false}
use mathlib.Core.Logic.{◌⊎◌, inl, inr}
use mathlib.Core.Option.{Option, none, some}
use mathlib.Core.List.{List}
use lib.ListN.{length, take}
use lib.Seq.{take_all, length-take-le}
use lib.Dec.{ltb}
use Rattle.std.specs.Prelude.{Option as Maybe, Some, None}
use borrow.Author.Tests.{lt-ltb, ltb-true, ltb-false}
use Rattle.refusal.specs.Place.{when}
use Rattle.refusal.specs.Refusal.{Told}
use Rattle.refusal.specs.Check.{answer}
use Rattle.refusal.proofs.CheckLaws.{none_fires, answer_fires}
use Rattle.refusal.proofs.PlaceLaws.{when_nowhere}
use Rattle.sheet.specs.Limits.{limits}
use Rattle.planner.specs.Text.{most_bytes}
use Rattle.records.specs.RecordForm.{word_bytes}
use Rattle.records.proofs.BytesTheorem.{all_bytes_length}
use Rattle.translation.specs.Between.Checks.{text_sheet, task_checks, translation_checks}
use Rattle.translate.specs.declared.input.Input.{Input}
use Rattle.translate.specs.Input.{HasReadText, TextFrom}
use Rattle.translate.specs.Translate.{only_refuses, translated, translated_input}

-- where no check fires, the last does not
sheet_fits : (text : List ℕ) (room : ℕ) → answer (translation_checks text room) ≡ none → length (text_sheet text) ≤ room
unfolding translation_checks task_checks
sheet_fits text room passes =
    let (long, after_long) = none_fires _ _ passes in
    let (broken, after_broken) = none_fires _ _ after_long in
    let (unsupported, after_unsupported) = none_fires _ _ after_broken in
    let (unwritable, after_unwritable) = none_fires _ _ after_unsupported in
    let (short, after_short) = none_fires _ _ after_unwritable in
    ltb-false room (length (text_sheet text)) (when_nowhere _ _ short)

pub sheet_bytes_fit : (text : List ℕ) → length (translated text).written ≤ word_bytes * limits.words
unfolding translated
sheet_bytes_fit text = by_case (answer (translation_checks text limits.words)) refl
  where
    by_case : (a : Option Told) → answer (translation_checks text limits.words) ≡ a → length (translated text).written ≤ word_bytes * limits.words
    by_case none e = rw (translated, e) (omega (arith, all_bytes_length (text_sheet text), sheet_fits text limits.words e))
    by_case (some t) e = rw (translated, e) (omega arith)

-- a text of more bytes than one may have is refused, whatever they are
long_fires : (text : List ℕ) (room : ℕ) → most_bytes < length text → answer (translation_checks text room) ≡ some (record { number = 13; place = 0 })
unfolding translation_checks
long_fires text room long = answer_fires _ _ 0 (ap (λ b. when b 0) (lt-ltb most_bytes (length text) long))

longer_refused : (text : List ℕ) → most_bytes < length text → translated text ≡ only_refuses (record { number = 13; place = 0 })
unfolding translated
longer_refused text long = rw (translated, long_fires text limits.words long)

pub cut_translated : (text : List ℕ) (n : ℕ) → most_bytes < n → translated (take n text) ≡ translated text
cut_translated text n more = by_case (ltb n (length text)) refl
  where
    by_case : (b : Bool) → ltb n (length text) ≡ b → translated (take n text) ≡ translated text
    by_case true e =
        let past : n < length text = ltb-true n (length text) e in
        let cut : length (take n text) ≡ n = length-take-le n text (omega arith) in
        longer_refused (take n text) (omega arith) ∙ sym (longer_refused text (omega arith))
    by_case false e = ap translated (take_all n text (ltb-false n (length text) e))

-- so what is answered to the bytes read, into more bytes than a text may have, is what is answered to the whole input
module _ (whole bytes : List ℕ) (input : Input) (more : most_bytes < length bytes) (read : HasReadText bytes input) (from : TextFrom whole bytes input) where
  read_suffices : (k : ℕ) → input.last ≡ Some k → translated (take input.count whole) ≡ translated whole
  read_suffices k gave = by_room (ltb input.count (length bytes)) refl
    where
      by_room : (b : Bool) → ltb input.count (length bytes) ≡ b → translated (take input.count whole) ≡ translated whole
      by_room true e = by_end (read.to_the_end k gave)
        where
          room : input.count < length bytes
          room = ltb-true input.count (length bytes) e

          by_end : (k ≡ 0) ⊎ (input.count ≡ length bytes) → translated (take input.count whole) ≡ translated whole
          by_end (inl no_byte) = ap translated (take_all input.count whole (from.at_end (gave ∙ ap Some no_byte) room))
          by_end (inr full) = absurd (omega (arith, room))
      by_room false e = cut_translated whole input.count (omega (arith, ltb-false input.count (length bytes) e))

  pub answered_to_all : translated_input input.last (take input.count bytes) ≡ translated_input input.last whole
  answered_to_all = by_case input.last refl
    where
      by_case : (o : Maybe ℕ) → input.last ≡ o → translated_input o (take input.count bytes) ≡ translated_input o whole
      by_case (Some k) gave = ap translated from.in_order ∙ read_suffices k gave
      by_case None gave = refl
