-- The text of the words that bytes are: a task with its plan in sections, other words in plain lines. Assumes nothing.
use Rattle.std.specs.Prelude.{ℕ, ◌*◌, ◌/◌, ◌%◌, cond, List, [], length, take, ltb, eqb, Result, Ok, Err}
use Rattle.sheet.specs.Limits.{limits}
use Rattle.sheet.specs.Layout.{actions}
use Rattle.records.specs.declared.frame.Extent.{Extent}
use Rattle.records.specs.declared.frame.Fault.{Fault}
use Rattle.records.specs.RecordForm.{word_bytes, unpacked, input_form}
use Rattle.text.specs.Limits.{most}
use Rattle.word_rows.specs.Rows.{rows}
use Rattle.layout.specs.Layout.{record_text}

-- the words of bytes
abbrev pub words_in : List ℕ → List ℕ
words_in bytes = unpacked bytes (length bytes / word_bytes)

-- words of which the first n are a task, with its plan behind it: in sections, unless it has more actions than any
unfoldable pub text_whole : ℕ → List ℕ → List ℕ
text_whole n ws = cond (ltb limits.actions (actions (take n ws))) (rows ws) (record_text n ws)

-- words by the form of their bytes: plain where they are no task with its plan
abbrev pub text_framed : Result Extent Fault → List ℕ → List ℕ
text_framed (Err f) ws = rows ws
text_framed (Ok x) ws = text_whole x.task ws

unfoldable pub text_of : List ℕ → List ℕ
text_of bytes = text_framed (input_form 0 bytes) (words_in bytes)

-- what is shown of bytes: the text of their words; nothing where they have more words than a text, or where the last
-- word breaks off
unfoldable pub shown : List ℕ → List ℕ
shown bytes =
    cond (ltb (word_bytes * most) (length bytes)) []
    (cond (eqb (length bytes % word_bytes) 0) (text_of bytes) [])
