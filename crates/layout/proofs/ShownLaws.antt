-- The text of bytes, by the form that they have, and what is shown of them, by how many they are. Assumes nothing.
use Prim.Native.Nat.{ℕ, ◌*◌, ◌/◌, ◌%◌, ◌≤◌, ◌<◌}
use native.Mathlib.Omega.{arith}
use mathlib.Core.Path.{◌≡◌, sym, ◌∙◌, ap}
use mathlib.Core.List.{List, []}
use lib.ListN.{length, take}
use borrow.Author.Tests.{lt-ltb, le-ltb, eq-eqb, ne_eqb}
use Rattle.sheet.specs.Limits.{limits}
use Rattle.sheet.specs.Layout.{actions}
use Rattle.sheet.proofs.TableLaws.{table_take}
use Rattle.std.specs.Prelude.{Result}
use Rattle.records.specs.declared.frame.Extent.{Extent}
use Rattle.records.specs.declared.frame.Fault.{Fault}
use Rattle.records.specs.RecordForm.{word_bytes, word_at, unpacked, input_form}
use Rattle.text.specs.Limits.{most}
use Rattle.word_rows.specs.Rows.{rows}
use Rattle.layout.specs.Layout.{record_text}
use Rattle.layout.specs.Shown.{words_in, text_whole, text_framed, text_of, shown}

-- the text of words whose first n are a task, of so many actions
module _ (n : ℕ) (ws task : List ℕ) (count : ℕ) (these : task ≡ take n ws) (counted : count ≡ actions task) where
  same_count : actions (take n ws) ≡ count
  same_count = ap actions (sym these) ∙ sym counted

  pub whole_plain : limits.actions < count → rows ws ≡ text_whole n ws
  unfolding text_whole
  whole_plain many = rw (text_whole, same_count, lt-ltb limits.actions count many)

  pub whole_record : count ≤ limits.actions → record_text n ws ≡ text_whole n ws
  unfolding text_whole
  whole_record few = rw (text_whole, same_count, le-ltb limits.actions count few)

-- the words of bytes, at the front of an array
pub text_is : (bytes space words : List ℕ) (f : Result Extent Fault) (room : ℕ) → length bytes ≤ word_bytes * most → room ≡ most → space ≡ unpacked bytes room
    → words ≡ take (length bytes / word_bytes) space → f ≡ input_form 0 bytes → text_framed f words ≡ text_of bytes
unfolding text_of
text_is bytes space words f room few all unpacks are framed =
    let low : length bytes / word_bytes ≤ room = omega arith in
    let these : words ≡ words_in bytes = are ∙ ap (take (length bytes / word_bytes)) unpacks ∙ table_take (word_at bytes) 0 (length bytes / word_bytes) room low in
    ap (λ g. text_framed g words) framed ∙ ap (text_framed (input_form 0 bytes)) these

-- what is shown of bytes, by how many they are
module _ (bytes : List ℕ) where
  pub shown_long : word_bytes * most < length bytes → [] ≡ shown bytes
  unfolding shown
  shown_long long = rw (shown, lt-ltb (word_bytes * most) (length bytes) long)

  module _ (few : length bytes ≤ word_bytes * most) where
    pub shown_broken : (length bytes % word_bytes ≡ 0 → ⊥) → [] ≡ shown bytes
    unfolding shown
    shown_broken broken = rw (shown, le-ltb (word_bytes * most) (length bytes) few, ne_eqb (length bytes % word_bytes) 0 broken)

    pub shown_whole : length bytes % word_bytes ≡ 0 → text_of bytes ≡ shown bytes
    unfolding shown
    shown_whole whole = rw (shown, le-ltb (word_bytes * most) (length bytes) few, eq-eqb (length bytes % word_bytes) 0 whole)
