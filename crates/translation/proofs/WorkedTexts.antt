-- Texts computed by the definitions: a good one to the words of its sheet, and one for each cause of refusal. In the good one a name reads like a keyword,
-- another is empty, and a mutex group has numbers of no variable. Assumes nothing.
use Rattle.std.specs.Prelude.{None, Some}
use Prim.Native.Nat.{ℕ, ◌<◌}
use mathlib.Core.Path.{◌≡◌, refl}
use mathlib.Core.Bool.{true}
use mathlib.Core.Option.{none, some}
use mathlib.Core.List.{List, [], ◌∷◌, ◌++◌, flatten}
use lib.ListN.{length}
use lib.Dec.{lit≤}
use borrow.Author.Tests.{lt-ltb}
use Rattle.ascii.specs.Bytes.{ascii, split, all_digits, decimal_from}
use Rattle.refusal.specs.Refusal.{Told}
use Rattle.refusal.specs.Check.{answer}
use Rattle.sheet.specs.Decode.{table}
use Rattle.sheet.specs.Between.Encode.{effects_part, action_part, parts, pairs_of, body, sheet_of, encode}
use Rattle.fields.specs.Between.Fields.{same, is_number, number, word_reads, word_number, all_read, all_plain, plain_but_old}
use Rattle.form.specs.Between.Form.{numbers_fit, fits, times, after_count, further, walk, nothing_left, whole, walked, broken_line, bars}
use Rattle.form.specs.Between.Form.{first_barred as first_barred_entry}
use Rattle.planner.specs.Text.{most_bytes}
use Rattle.form.specs.Between.Form.{unsupported_line, kept, kept_of, numbers_of}
use Rattle.meaning.specs.Between.Sections.{fact_at, facts_at, ranges, state, goal, action_at, actions_from, meaning}
use Rattle.meaning.specs.Between.Order.{insert, put_in, ordered_action, ordered}
use Rattle.meaning.specs.Between.Writable.{known, has, fit_in, variables_fit, no_condition, action_fits, actions_fit, writable}
use Rattle.lines.specs.Lines.{numeral, numeral_within}
use Rattle.sas.specs.Task.{Assignment, always}
use Rattle.sas.specs.Plan.{written}
use Rattle.planner.specs.Text.{Text}
use Rattle.planner.specs.Printed.{joined, counted, ended, printed}
use Rattle.planner.specs.Printed.{lines as printed_lines}
use Rattle.planner.specs.Meant.{meant, first_barred, unsayable}
use Rattle.planner.specs.Broken.{Breaks}
use Rattle.printed_form.proofs.PrintedTheorem.{broken_breaks}
use Rattle.translation.specs.Between.Checks.{text_sheet, task_checks, translation_checks}

-- a lock with one gate, up to the line of its one effect, that line, and the rest
abbrev before : List ℕ
before = ascii "begin_version\n3\nend_version\nbegin_metric\n1\nend_metric\n1\nbegin_variable\nend_variable\n-1\n2\nshut\n\nend_variable\n1\nbegin_mutex_group\n1\n7 9\nend_mutex_group\nbegin_state\n0\nend_state\nbegin_goal\n1\n0 1\nend_goal\n1\nbegin_operator\nlift\n0\n1\n"

abbrev after : List ℕ
after = ascii "\n5\nend_operator\n0\n"

abbrev with_effect : List ℕ → List ℕ
with_effect line = before ++ (line ++ after)

abbrev refused : ℕ → ℕ → Told
refused n place = record { number = n; place = place }

pub good_text : (text_sheet (with_effect (ascii "0 0 0 1")) ≡ 1 ∷ 1 ∷ 1 ∷ 19 ∷ 12 ∷ 1 ∷ 13 ∷ 1 ∷ 14 ∷ 1 ∷ 15 ∷ 4 ∷ 2 ∷ 0 ∷ 1 ∷ 5 ∷ 1 ∷ 0 ∷ 1 ∷ [])
    × (answer (translation_checks (with_effect (ascii "0 0 0 1")) 19) ≡ none)
unfolding answer translation_checks task_checks split all_digits decimal_from table effects_part action_part parts pairs_of body sheet_of encode same is_number number word_reads word_number all_read all_plain plain_but_old numbers_fit fits times after_count further walk nothing_left whole walked broken_line bars first_barred_entry unsupported_line kept kept_of numbers_of fact_at facts_at ranges state goal action_at actions_from meaning insert put_in written ordered_action ordered known has fit_in variables_fit no_condition action_fits actions_fit writable flatten
good_text = (refl, refl)

-- by the line of the effect, in a buffer of so many words: a needless zero, a sign where none stands, an old value that may be −1, a condition, a value and a
-- variable that are not there, and a buffer that is too short
pub texts_refused : (answer (translation_checks (with_effect (ascii "0 0 00 1")) 19) ≡ some (refused 13 32))
    × (answer (translation_checks (with_effect (ascii "0 -0 0 1")) 19) ≡ some (refused 13 32))
    × (answer (translation_checks (with_effect (ascii "0 0 -1 1")) 19) ≡ none)
    × (answer (translation_checks (with_effect (ascii "1 0 0 0 0 1")) 19) ≡ some (refused 14 32))
    × (answer (translation_checks (with_effect (ascii "0 0 0 2")) 19) ≡ some (refused 15 0))
    × (answer (translation_checks (with_effect (ascii "0 1 -1 0")) 19) ≡ some (refused 15 0))
    × (answer (translation_checks (with_effect (ascii "0 0 0 1")) 18) ≡ some (refused 10 19))
unfolding answer translation_checks task_checks split all_digits decimal_from table effects_part action_part parts pairs_of body sheet_of encode same is_number number word_reads word_number all_read all_plain plain_but_old numbers_fit fits times after_count further walk nothing_left whole walked broken_line bars first_barred_entry unsupported_line kept kept_of numbers_of fact_at facts_at ranges state goal action_at actions_from meaning insert put_in written ordered_action ordered known has fit_in variables_fit no_condition action_fits actions_fit writable flatten
texts_refused = (refl, refl, refl, refl, refl, refl, refl)

-- a line that is missing, and one too many
pub texts_cut : (answer (translation_checks before 19) ≡ some (refused 13 32))
    × (answer (translation_checks (with_effect (ascii "0 0 0 1\n0 0 0 1")) 19) ≡ some (refused 13 33))
    × (answer (translation_checks [] 19) ≡ some (refused 13 1))
unfolding answer translation_checks task_checks split all_digits decimal_from table effects_part action_part parts pairs_of body sheet_of encode same is_number number word_reads word_number all_read all_plain plain_but_old numbers_fit fits times after_count further walk nothing_left whole walked broken_line bars first_barred_entry unsupported_line kept kept_of numbers_of fact_at facts_at ranges state goal action_at actions_from meaning insert put_in written ordered_action ordered known has fit_in variables_fit no_condition action_fits actions_fit writable flatten
texts_cut = (refl, refl, refl)

-- a text of more than 65,536 bytes
pub text_long : (text : List ℕ) (room : ℕ) → most_bytes < length text → answer (translation_checks text room) ≡ some (refused 13 0)
unfolding answer translation_checks
text_long text room long = rw (lt-ltb most_bytes (length text) long)

-- the same text as data, where its one effect has these conditions
abbrev lock : Assignment → Text
lock conditions =
    record {
      metric = true;
      variables = record { name = ascii "end_variable"; layer = none; values = ascii "shut" ∷ [] ∷ [] } ∷ [];
      groups = (record { variable = 7; value = 9 } ∷ []) ∷ [];
      state = 0 ∷ [];
      goal = record { variable = 0; value = 1 } ∷ [];
      operators =
          record {
            name = ascii "lift";
            prevail = [];
            effects = record { conditions = conditions; change = record { variable = 0; old = some 0; new = 1 } } ∷ [];
            cost = 5;
          }
          ∷ [];
      axioms = [];
    }

abbrev open_gate : Assignment
open_gate = record { variable = 0; value = 0 } ∷ []

-- how it is printed, which of its lines no sheet can say, and what it means
pub lock_printed : (printed (lock []) ≡ with_effect (ascii "0 0 0 1")) × (printed (lock open_gate) ≡ with_effect (ascii "1 0 0 0 0 1"))
unfolding printed_lines counted joined ended numeral numeral_within flatten
lock_printed = (refl, refl)

pub lock_barred : (unsayable (lock []) ≡ None) × (unsayable (lock open_gate) ≡ Some 32)
unfolding printed_lines counted first_barred flatten
lock_barred = (refl, refl)

pub lock_meant : meant (lock [])
    ≡ record {
      domains = 2 ∷ [];
      actions = record { precondition = open_gate; effects = always (record { variable = 0; value = 1 }) ∷ []; cost = 5 } ∷ [];
      initial = 0 ∷ [];
      goal = record { variable = 0; value = 1 } ∷ [];
    }
unfolding meant flatten
lock_meant = refl

-- a line with a needless zero breaks the form, and so does one that is missing
pub line_breaks : Breaks (with_effect (ascii "0 0 00 1")) 32 × Breaks before 32
unfolding split all_digits same is_number number decimal_from word_reads word_number all_read all_plain plain_but_old numbers_fit fits times after_count further walk nothing_left whole walked
line_breaks = (broken_breaks (with_effect (ascii "0 0 00 1")) (lit≤ tt) refl, broken_breaks before (lit≤ tt) refl)
