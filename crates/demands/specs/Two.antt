-- Demand 2 as one statement. docs/DEMANDS.md has the demand in full, with numbered clauses, and the comments here name
-- those that a field says. A field for each service says them of whatever the service's contract allows, for every
-- sheet, whoever wrote it (2.8). Steps stand at indices from 0, one less than document 01's positions. Assumes nothing.
use Rattle.std.specs.Prelude.{ℕ, ◌+◌, ◌-◌, ◌≤◌, ◌<◌, ◌≡◌, ◌⊎◌, ◌↔◌, true, length, get_or, take, replicate}
use Rattle.std.proofs.Math.Option.{Option, none, some}
use mathlib.Core.List.{List, [], ◌++◌, flatten}
use Rattle.std.proofs.lemmas.List.Edits.{sets}
use Rattle.refusal.specs.Refusal.{Verdict}
use Rattle.refusal.specs.Refusal.{Told, told}
use Rattle.sas.specs.Task.{State}
use Rattle.sas.specs.Plan.{run, cost, Plan, Stuck}
use Rattle.reduction.specs.Reduction.{Reduction, keeps, kept, count, whole}
use Rattle.mask.specs.Mask.{mask_length, ones_of, bit_up}
use Rattle.tally.specs.declared.Tally.{Tally}
use Rattle.std.specs.declared.cmp.Ordering.{Ordering}
use Rattle.std.specs.declared.cmp.Ordering.TheVariants.{Less, Equal, Greater}
use Rattle.tally.specs.Tally.{bounds, nothing, one_more, comparison}
use Rattle.sheet.specs.Limits.{limits}
use Rattle.sheet.specs.Layout.{variables}
use Rattle.sheet.specs.Decode.{initial, task}
use Rattle.plan.specs.Checked.{Answer}
use Rattle.plan.specs.Readable.{Readable}
use Rattle.plan.specs.Valid.{steps}
use Rattle.plan.specs.Checked.{plan_checks, told_answer, told_tally, no_state, Checks}
use Rattle.plan.specs.Valid.{FailsAt}
use Rattle.course.specs.Course.{Courses}
use Rattle.reduced.specs.Reduced.{tally_left}
use Rattle.landmark.specs.Marks.{marks, Masks}
use Rattle.elimination.specs.declared.single.Elimination.{Elimination}
use Rattle.elimination.specs.declared.single.Elimination.TheVariants.{Plain, Greedy}
use Rattle.elimination.specs.Eliminations.{RuleLeaves, Eliminates}
use Rattle.cheaper.specs.Cheaper.{ReducesBoth, cheaper_part}
use Rattle.minimal.specs.Minimised.{Shortening}
use Rattle.minimal.specs.Minimised.{most_unmarked, Minimises}
use Rattle.minimal.specs.Statement.{IsMarked, AreMarks}
use Rattle.claim.specs.Licensing.{Licensing}
use Rattle.claim.specs.Licensed.{Licenses}

-- a mask tells the reduction m
pub record MaskTruly (m : Reduction) (refusal : Option Told) (mask : List ℕ) : Type 0 where
  -- 2.7: bit i is one exactly where step i + 1 is kept
  pub bits : refusal ≡ none → (i : ℕ) → bit_up mask i ≡ true ↔ keeps m i
  -- 2.6: the number of ones is that of the kept steps
  pub ones : refusal ≡ none → ones_of mask ≡ count m
  -- 2.7: in a refusal it is zero
  pub zeros : (t : Told) → refusal ≡ some t → mask ≡ replicate mask_length 0

-- a tally is lower than another: lower price, then fewer steps
abbrev pub TallyLower : Tally → Tally → Type 0
TallyLower t u = (t.cost < u.cost) ⊎ ((t.cost ≡ u.cost) × (t.steps < u.steps))

-- of the list l of the sheet w
module _ (w l : List ℕ) where
  -- a tally tells the reduction m
  pub record TallyTruly (m : Reduction) (refusal : Option Told) (tally : Tally) : Type 0 where
    -- 2.6: the plain sum of the prices of the kept steps, and their number
    pub plain : refusal ≡ none → tally ≡ record { cost = cost (kept m (steps w l)); steps = count m }
    -- 2.7: in a refusal it is zero
    pub zeros : (t : Told) → refusal ≡ some t → tally ≡ nothing

  -- the check of the list
  pub record CheckedTruly (given : Answer) (state : List ℕ) : Type 0 where
    -- 2.1: it passes exactly when it can be read, on an accepted sheet and with at most 255 known moves, and is a plan
    -- by the rules of SAS+
    pub passes : told_answer given ≡ none ↔ (Readable w l × Plan (task w) (steps w l))
    -- 2.2 and 2.3: otherwise a list that can be read is refused with 11 at the place where it fails: that of the first
    -- step that can't be done, or one past the last where only the goal is unmet
    pub otherwise : Readable w l
        → (t : Told) → told_answer given ≡ some t ↔ ((t.number ≡ 11) × FailsAt w l t.place)
    -- 2.6: the tally is that of all steps
    pub tally : TallyTruly (whole l) (told_answer given) (told_tally given)
    -- 2.7: the end state is γ(I, ⟨a₁, …, aₙ⟩), with zeros past V; in a refusal all zeros
    pub end : told_answer given ≡ none → (reached : State) × (run (initial w) (steps w l) ≡ some reached)
        × (state ≡ reached ++ replicate (limits.variables - variables w) 0)
    pub zeros : (t : Told) → told_answer given ≡ some t → state ≡ no_state

  -- the states along the list
  pub record CourseTruly (refusal : Option Told) (count : ℕ) (before after : List ℕ) : Type 0 where
    pub states : List State
    -- 2.6: so many are told
    pub number : refusal ≡ none → count ≡ length states
    -- 2.7: they are γ(I, ⟨a₁, …, aᵢ⟩) for i from 0 on, written one behind the other
    pub reached : refusal ≡ none → (i : ℕ) → i < count → run (initial w) (take i (steps w l)) ≡ some (get_or states i [])
    pub written : refusal ≡ none → after ≡ sets before 0 (flatten states)
    -- 2.1 and 2.2: of a plan they are one more than its steps; otherwise they end before the first step that can't be
    -- done
    pub of_plan : refusal ≡ none → Plan (task w) (steps w l) → count ≡ length l + 1
    pub of_stuck : refusal ≡ none → (k : ℕ) → Stuck (initial w) (steps w l) k → count ≡ k
    -- 2.7: in a refusal there is none
    pub zero : (t : Told) → refusal ≡ some t → count ≡ 0

  -- the marks of the list
  pub record MarksTruly (refusal : Option Told) (mask : List ℕ) : Type 0 where
    -- 2.4: bit i of the mask is one exactly where step i + 1 is marked by the published rule
    pub bits : refusal ≡ none → (i : ℕ) → bit_up mask i ≡ true ↔ IsMarked w l i
    -- 2.7: in a refusal it is zero
    pub zeros : (t : Told) → refusal ≡ some t → mask ≡ replicate mask_length 0

  -- what is told of the list that is shortened to the reduction m (2.6): its tally and its mask, the tally of the
  -- lodged list and how many of its steps are marked; in a refusal none
  pub record ShortenedTruly (m : Reduction) (r : Shortening) : Type 0 where
    pub tally : TallyTruly m (told_answer r.answer) (told_tally r.answer)
    pub mask : MaskTruly m (told_answer r.answer) r.mask.words
    pub lodged : TallyTruly (whole l) (told_answer r.answer) r.lodged
    pub flagged : AreMarks w l (marks w l)
    pub marked : told_answer r.answer ≡ none → r.marked ≡ count (marks w l)
    pub no_marks : (t : Told) → told_answer r.answer ≡ some t → r.marked ≡ 0

  -- of two reductions the first leaves the cheaper list
  abbrev pub Cheaper : Reduction → Reduction → Type 0
  Cheaper m n = TallyLower (tally_left w l m) (tally_left w l n)

  -- the part shown of two reductions (2.5), elimination's and greedy elimination's: the list of the cheaper,
  -- elimination's where greedy elimination's is not cheaper; nothing after a refusal
  pub record ShownTruly (first second : Reduction) (refusal : Option Told) (part : List ℕ) : Type 0 where
    pub of_greedy : refusal ≡ none → Cheaper second first → part ≡ kept second l
    pub of_elimination : refusal ≡ none → (Cheaper second first → ⊥) → part ≡ kept first l
    pub of_neither : (t : Told) → refusal ≡ some t → part ≡ []

-- one step more on a tally (2.6). Document 01: "It comes back unchanged when it already has 255 steps or more or its
-- price would pass 255,000,000"
pub record AddedTruly (t : Tally) (price : ℕ) (r : Tally) : Type 0 where
  pub counted : t.steps < bounds.steps → t.cost + price ≤ bounds.cost
      → r ≡ record { cost = t.cost + price; steps = t.steps + 1 }
  pub full : bounds.steps ≤ t.steps → r ≡ t
  pub dear : bounds.cost < t.cost + price → r ≡ t

-- two tallies compared (2.6)
pub record ComparedTruly (t u : Tally) (r : Ordering) : Type 0 where
  pub less : r ≡ Less ↔ TallyLower t u
  pub equal : r ≡ Equal ↔ t ≡ u
  pub greater : r ≡ Greater ↔ TallyLower u t

pub record DemandTwo : Type 0 where
  -- 2.1, 2.2, 2.3 and 2.6: the check of a list
  pub list_check : (w l : List ℕ) (given : Answer) (state : List ℕ) → Checks (plan_checks w l) w l given state
      → CheckedTruly w l given state
  -- 2.1, 2.2 and 2.6: the states along it
  pub course : (w l : List ℕ) (verdict : Verdict) (count : ℕ) (before after : List ℕ)
      → Courses w l verdict count before after → CourseTruly w l (told verdict) count before after
  -- 2.4: its marks
  pub marks : (w l : List ℕ) (verdict : Verdict) (mask : List ℕ) → Masks w l verdict mask
      → MarksTruly w l (told verdict) mask
  -- 2.5 and 2.6: elimination, or greedy elimination
  pub elimination : (by : Elimination) (w l before : List ℕ) (given : Answer) (mask after : List ℕ)
      (eliminates : Eliminates by w l before given mask after)
      → (told_answer given ≡ none → RuleLeaves by w l eliminates.left)
      × TallyTruly w l eliminates.left (told_answer given) (told_tally given)
      × MaskTruly eliminates.left (told_answer given) mask
  -- 2.5 and 2.6: both eliminations
  pub both_eliminations : (w l before before' : List ℕ) (verdict : Verdict) (first second : Tally)
      (after after' : List ℕ) (both : ReducesBoth w l before before' verdict first second after after')
      → (told verdict ≡ none → RuleLeaves Plain w l both.elimination.left)
      × (told verdict ≡ none → RuleLeaves Greedy w l both.greedy.left)
      × TallyTruly w l both.elimination.left (told verdict) first
      × TallyTruly w l both.greedy.left (told verdict) second
  -- 2.5: the cheaper of what both leave
  pub cheaper_shown : (w l before before' : List ℕ) (verdict : Verdict) (first second : Tally)
      (after after' part : List ℕ) (both : ReducesBoth w l before before' verdict first second after after')
      → part ≡ cheaper_part after after' first second
      → ShownTruly w l both.elimination.left both.greedy.left (told verdict) part
  -- 2.6: the exact reduction, of which demand 3 says what it leaves
  pub exact_reduction : (w l before : List ℕ) (r : Shortening) (after : List ℕ)
      (minimises : Minimises most_unmarked w l before r after) → ShortenedTruly w l minimises.answers.left r
  -- 2.6: the licence, of which `MayBeLodged` says what it leaves
  pub licence : (w l before : List ℕ) (r : Licensing) (after : List ℕ) (licenses : Licenses w l before r after)
      → ShortenedTruly w l licenses.answers.left r.told
  -- 2.6: a tally with one step more, and which of two tallies is the lower
  pub tally_add : (t : Tally) (price : ℕ) (r : Tally) → r ≡ one_more t price → AddedTruly t price r
  pub tally_compare : (t u : Tally) (r : Ordering) → r ≡ comparison t u → ComparedTruly t u r
