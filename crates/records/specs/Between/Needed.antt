-- How many bytes of an input must be read to tell its form. Assumes nothing.
use Rattle.std.specs.Prelude.{ℕ, ◌+◌, ◌*◌, List, Result, Ok, Err}
use Rattle.sheet.specs.Limits.{limits}
use Rattle.plan.specs.Limits.{most_steps}
use Rattle.records.specs.declared.frame.Extent.{Extent}
use Rattle.records.specs.declared.frame.NoEnd.{NoEnd}
use Rattle.records.specs.declared.frame.NoEnd.TheVariants.{Untold, Unfit, Long}
use Rattle.records.specs.RecordForm.{word_bytes, record_ending}

-- how many bytes in all must have been read to tell the form, by where the record ends as far as those read so far
-- show: as many as tell more; none more where it ends nowhere; else the record, and so many bytes beyond it: one for an
-- input of one record, to see that nothing follows, and none where other records may
abbrev pub needed_for : ℕ → Result Extent NoEnd → ℕ
needed_for beyond (Err (Untold k)) = k
needed_for beyond (Err Unfit) = 0
needed_for beyond (Err (Long n)) = 0
needed_for beyond (Ok x) = x.end + beyond

unfoldable pub bytes_to_read : ℕ → ℕ → List ℕ → ℕ
bytes_to_read further beyond bytes = needed_for beyond (record_ending further bytes)

-- the most words of a record before its further ones, and the most bytes that are ever read
abbrev pub most_words : ℕ
most_words = limits.words + 1 + most_steps

abbrev pub most_bytes : ℕ → ℕ → ℕ
most_bytes further beyond = word_bytes * (most_words + further) + beyond
