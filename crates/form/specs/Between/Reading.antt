-- A text that is read up to some line: what the rest of it means to a reader that stands there. Only the contracts of
-- the reading's steps cite this file, so it need not be believed. Assumes nothing.
use Rattle.std.specs.Prelude.{ℕ, ◌+◌, ◌≡◌, Bool, cond, List, [], ◌∷◌, ◌++◌, length, set, take}
use Rattle.std.specs.Prelude.{None, Result, Ok, Err}
use Rattle.std.specs.Borrow.{MutBor}
use Rattle.refusal.specs.Place.{Place, when, or_else}
use Rattle.form.specs.declared.reader.Reader.{Reader}
use Rattle.form.specs.Between.Form.{Row, Due, numbers, after_row, Walk, walk_from, whole, first_barred, kept_of}

-- what reading a text finds: the first line that is not what it must be; or the numbers, and the first line that no
-- sheet can say
pub data Outcome : Type 0 where
  Broken : ℕ → Outcome
  Whole : List ℕ → Place → Outcome

-- the outcome, where n lines were read before with these numbers, and such a line was met before or not
unfoldable pub outcome : ℕ → Place → List ℕ → Walk → Outcome
outcome n met xs w =
    cond (whole w) (Whole (xs ++ kept_of w.read) (or_else met (first_barred (n + 1) w.read)))
    (Broken (n + length w.read + 1))

-- where a reader stands: the bytes that are left, the tape and where it lies, how many lines and numbers were read, and
-- the first line that no sheet can say
pub record Stand : Type 0 where
  pub rest : List ℕ
  pub tape : List ℕ
  pub tape_at : ℕ × ℕ
  pub line : ℕ
  pub count : ℕ
  pub barred : Place

abbrev pub stand : Reader → Stand
stand r =
    record {
      rest = r.rest.now;
      tape = r.tape.now;
      tape_at = r.tape.ref_ptr;
      line = r.line;
      count = r.count;
      barred = r.barred;
    }

-- at the beginning of a text, with a tape that lies there
abbrev pub starting : List ℕ → List ℕ → ℕ × ℕ → Stand
starting text tape there =
    record { rest = text; tape = tape; tape_at = there; line = 0; count = 0; barred = None }

-- past a line, with these bytes behind it
abbrev pub passed : List ℕ → Stand → Stand
passed rest s =
    record {
      rest = rest;
      tape = s.tape;
      tape_at = s.tape_at;
      line = s.line + 1;
      count = s.count;
      barred = s.barred;
    }

-- with one number more
abbrev pub keeping : ℕ → Stand → Stand
keeping x s =
    record {
      rest = s.rest;
      tape = set s.tape s.count x;
      tape_at = s.tape_at;
      line = s.line;
      count = s.count + 1;
      barred = s.barred;
    }

-- with the line that was passed last, if no sheet can say it
abbrev pub noting : Bool → Stand → Stand
noting bars s =
    record {
      rest = s.rest;
      tape = s.tape;
      tape_at = s.tape_at;
      line = s.line;
      count = s.count;
      barred = or_else s.barred (when bars s.line);
    }

-- what going on finds, where these lines are due and the numbers read stand at the front of the tape
unfoldable pub going_on : List Due → Stand → Outcome
going_on ds s = outcome s.line s.barred (take s.count s.tape) (walk_from ds s.rest)

-- what is found where reading went well, and these lines are due then, or stopped at a line
abbrev pub found : Result (Unit {0}) ℕ → List Due → Stand → Outcome
found (Ok u) ds s = going_on ds s
found (Err n) ds s = Broken n

-- going on from there finds what going on with these lines found before
pub record FindsSame (ds : List Due) (r : Reader) (result : Result (Unit {0}) ℕ) (r' : Reader) : Type 0 where
  pub same : (next : List Due) → found result next (stand r') ≡ going_on (ds ++ next) (stand r)

-- each call of a step finds the same so
pub record AlwaysFindsSame (ds : List Due)
    (post : MutBor Reader → Result (Unit {0}) ℕ → MutBor Reader → Type 0) : Type 0 where
  pub each : (r : MutBor Reader) (result : Result (Unit {0}) ℕ) (r' : MutBor Reader) → post r result r'
      → FindsSame ds r.now result r'.now

-- reading these lines takes a reader on, with the same tape: going on from there finds what going on with these lines
-- found before
pub record Reads (ds : List Due) (r : Reader) (result : Result (Unit {0}) ℕ) (r' : Reader) : Type 0 where
  pub same : (next : List Due) → found result next (stand r') ≡ going_on (ds ++ next) (stand r)
  pub same_tape : r'.tape.ref_ptr ≡ r.tape.ref_ptr

-- each call of a step reads these lines
pub record AlwaysReads (ds : List Due)
    (post : MutBor Reader → Result (Unit {0}) ℕ → MutBor Reader → Type 0) : Type 0 where
  pub each : (r : MutBor Reader) (result : Result (Unit {0}) ℕ) (r' : MutBor Reader) → post r result r'
      → Reads ds r.now result r'.now

-- the lines that a line of numbers adds to those due, by its first number
abbrev pub after_first : Row → ℕ → List Due
after_first row x = after_row row (x ∷ [])

-- the same where its first number is told
abbrev pub found_row : Row → Result ℕ ℕ → List Due → Stand → Outcome
found_row row (Ok x) ds s = going_on (after_first row x ++ ds) s
found_row row (Err n) ds s = Broken n

-- going on from there, by the first number that is told, finds what going on with a line of numbers found before
pub record FindsSameRow (row : Row) (r : Reader) (result : Result ℕ ℕ) (r' : Reader) : Type 0 where
  pub same : (next : List Due) → found_row row result next (stand r') ≡ going_on (numbers row ∷ next) (stand r)

-- reading a line of numbers tells its first number
pub record ReadsRow (row : Row) (r : Reader) (result : Result ℕ ℕ) (r' : Reader) : Type 0 where
  pub same : (next : List Due) → found_row row result next (stand r') ≡ going_on (numbers row ∷ next) (stand r)
  pub same_tape : r'.tape.ref_ptr ≡ r.tape.ref_ptr
