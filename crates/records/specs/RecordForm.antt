-- The form in which a program reads a task and a plan (document 01, "Worked lists", on the program; its sheet and its
-- list): a record of little_endian words, the task, as many as its word 3 says, a length, the plan, of that length, and
-- so many further words as a program asks for, which document 01's does not. Assumes nothing.
use Rattle.std.specs.Prelude.{ℕ, ◌+◌, ◌*◌, Bool, cond, ◌||◌, List, [], ◌∷◌, length, take, drop, ltb}
use Rattle.std.specs.Prelude.{Result, Ok, Err}
use Rattle.sheet.specs.Limits.{limits}
use Rattle.sheet.specs.Layout.{header}
use Rattle.sheet.specs.Decode.{table}
use Rattle.plan.specs.Limits.{most_steps}
use Rattle.records.specs.declared.frame.Extent.{Extent}
use Rattle.records.specs.declared.frame.NoEnd.{NoEnd}
use Rattle.records.specs.declared.frame.NoEnd.TheVariants as no_end
use Rattle.records.specs.declared.frame.Fault.{Fault}
use Rattle.records.specs.declared.frame.Fault.TheVariants.{Broken, Long}

-- how many bytes a word has, and how many values a byte
abbrev pub word_bytes : ℕ
word_bytes = 4

abbrev pub byte_values : ℕ
byte_values = 256

-- the number that bytes stand for, the lowest first
unfoldable pub little_endian : List ℕ → ℕ
little_endian [] = 0
little_endian (b ∷ bs) = b + byte_values * little_endian bs

-- word i of the input; what is past its end reads as 0
unfoldable pub word_at : List ℕ → ℕ → ℕ
word_at bytes i = little_endian (take word_bytes (drop (word_bytes * i) bytes))

-- the first n words of the input: a task of n words
abbrev pub unpacked : List ℕ → ℕ → List ℕ
unpacked bytes n = table (word_at bytes) 0 n

-- behind a task of n words and the length: the plan, of m words; and behind that, the k further words
abbrev pub plan_words : List ℕ → ℕ → ℕ → List ℕ
plan_words bytes n m = table (word_at bytes) (n + 1) m

abbrev pub further_words : List ℕ → ℕ → ℕ → ℕ → List ℕ
further_words bytes n m k = table (word_at bytes) (n + 1 + m) k

-- the word of the task that says how many words it has
abbrev pub length_at : ℕ
length_at = 3

-- how many words the task has
abbrev pub task_length : List ℕ → ℕ
task_length bytes = word_at bytes length_at

-- outside 4 to 8,192
abbrev pub outside : ℕ → Bool
outside n = ltb n header || ltb limits.words n

-- how many words the plan has, by the word after the task
abbrev pub plan_length : List ℕ → ℕ
plan_length bytes = word_at bytes (task_length bytes)

-- the byte at which the plan begins, after the task and the length; and the byte behind the record
abbrev pub plan_start : List ℕ → ℕ
plan_start bytes = word_bytes * (task_length bytes + 1)

abbrev pub record_end : ℕ → List ℕ → ℕ
record_end further bytes = plan_start bytes + word_bytes * (plan_length bytes + further)

-- the bytes to word 3, the last of the words that every task has
abbrev pub header_bytes : ℕ
header_bytes = word_bytes * header

-- where the record at the front of bytes ends, whatever follows it. Document 02, C-20, on "a record whose end can't be
-- found": it is not told while bytes to word 3, or to the plan's length, are lacking ("input cut short"), with how many
-- there must be to tell more; it is nowhere for "word 3 outside 4 to 8,192" and for "a list over 255"; else it is
-- found, with the words of the record, be the bytes to it there or not
unfoldable pub record_ending : ℕ → List ℕ → Result Extent NoEnd
record_ending further bytes =
    cond (ltb (length bytes) header_bytes) (Err (no_end.Untold header_bytes))
    (cond (outside (task_length bytes)) (Err no_end.Unfit)
    (cond (ltb (length bytes) (plan_start bytes)) (Err (no_end.Untold (plan_start bytes)))
    (cond (ltb most_steps (plan_length bytes)) (Err (no_end.Long (task_length bytes)))
    (Ok (record { task = task_length bytes; plan = plan_length bytes; end = record_end further bytes })))))

-- the form of a record by where it ends. Document 01: "A word 3 outside 4 to 8,192, or input that breaks off": broken,
-- before the end is told or before it; "After a length above 255 nothing more is read": long; else whole, with its
-- words and its end
abbrev pub as_fault : NoEnd → Fault
as_fault (no_end.Untold k) = Broken
as_fault no_end.Unfit = Broken
as_fault (no_end.Long n) = Long n

abbrev pub as_record : List ℕ → Result Extent NoEnd → Result Extent Fault
as_record bytes (Err e) = Err (as_fault e)
as_record bytes (Ok x) = cond (ltb (length bytes) x.end) (Err Broken) (Ok x)

-- the form of the record at the front of bytes, whatever follows it
unfoldable pub record_form : ℕ → List ℕ → Result Extent Fault
record_form further bytes = as_record bytes (record_ending further bytes)

-- a record's form where nothing may follow it (document 01: "or runs on"): broken where something does
abbrev pub as_input : List ℕ → Result Extent Fault → Result Extent Fault
as_input bytes (Err f) = Err f
as_input bytes (Ok x) = cond (ltb x.end (length bytes)) (Err Broken) (Ok x)

-- the form of an input of one record
unfoldable pub input_form : ℕ → List ℕ → Result Extent Fault
input_form further bytes = as_input bytes (record_form further bytes)
