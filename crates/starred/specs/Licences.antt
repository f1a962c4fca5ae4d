-- A list of each claim of `license`, from the words of its sheet: what the cheaper elimination leaves of it, how many
-- steps are unmarked there, the claim, and what is kept. Assumes nothing.
use Rattle.std.specs.Prelude.{ℕ, ◌+◌, ◌≡◌, ◌↔◌, List, [], ◌∷◌, ◌++◌, map, length, replicate}
use Rattle.sas.specs.Plan.{Plan}
use Rattle.reduction.specs.Reduction.{Reduction, keeps, kept, whole}
use Rattle.sheet.specs.Decode.{task}
use Rattle.plan.specs.Valid.{steps}
use Rattle.plan.specs.Readable.{Readable}
use Rattle.reduced.specs.Reduced.{tally_left}
use Rattle.landmark.specs.Marks.{unmarked}
use Rattle.cheaper.specs.Cheaper.{LeftByCheaper}
use Rattle.minimal.specs.Statement.{ValidStriking}
use Rattle.claim.specs.declared.answer.Claim.{Claim}
use Rattle.claim.specs.declared.answer.Claim.TheVariants.{Least, Irreducible, Open}
use Rattle.claim.specs.Statement.{Licence, AllMarked}
use Rattle.starred.specs.Sheets.{sheet_p}
use Rattle.starred.specs.Rows.{Each, JustAt}
use Rattle.starred.specs.Rounds.{list_3}

pub record LicenceRow : Type 0 where
  pub sheet : List ℕ
  pub list : List ℕ
  -- the steps that the cheaper elimination leaves, and how many of them are unmarked
  pub eliminated : ℕ
  pub others : ℕ
  pub claim : Claim
  -- the positions that are kept in the end, and their price
  pub positions : List ℕ
  pub price : ℕ

-- a row holds: its list can be read and is a plan, its claim is that of a licence, and what is said of the reduction
-- that the licence is made of, and of what the cheaper elimination leaves, is what the definitions give
pub record RowLicensed (r : LicenceRow) : Type 0 where
  pub readable : Readable r.sheet r.list
  pub plan : Plan (task r.sheet) (steps r.sheet r.list)
  pub cheaper : Reduction
  pub by_cheaper : LeftByCheaper r.sheet r.list cheaper
  pub cheaper_left : length (kept cheaper r.list) ≡ r.eliminated
  pub unmarked_there : unmarked r.sheet (kept cheaper r.list) ≡ r.others
  pub left : Reduction
  pub licence : Licence r.sheet r.list r.claim left
  pub just : JustAt r.positions (keeps left)
  pub tally : tally_left r.sheet r.list left ≡ record { cost = r.price; steps = length r.positions }

-- two gates are lifted, and one move drops both, for which both must be open; at the end all is as before. Without one
-- of the lifts the other gate stays open, since the drop can't be done, and without the drop both do: so neither
-- elimination strikes anything, though all three could be struck together, and none is marked
abbrev pub two_gates : List ℕ
two_gates =
    1 ∷ 2 ∷ 3 ∷ 34
    ∷ 16 ∷ 2 ∷ 18 ∷ 2 ∷ 20 ∷ 2 ∷ 22 ∷ 3 ∷ 25 ∷ 3 ∷ 28 ∷ 6
    ∷ 2 ∷ 2
    ∷ 0 ∷ 0
    ∷ 0 ∷ 256
    ∷ 1 ∷ 0 ∷ 1
    ∷ 1 ∷ 0 ∷ 257
    ∷ 1 ∷ 2 ∷ 1 ∷ 257 ∷ 0 ∷ 256
    ∷ []

-- the same two gates beside a basin that is drained through a third, and a lamp: lift A, drain, drop A, lift B, lift C,
-- drop B and C, lamp
abbrev pub gates_and_lamp : List ℕ
gates_and_lamp =
    1 ∷ 5 ∷ 7 ∷ 65
    ∷ 24 ∷ 5 ∷ 29 ∷ 5 ∷ 34 ∷ 4 ∷ 38 ∷ 4 ∷ 42 ∷ 4 ∷ 46 ∷ 4 ∷ 50 ∷ 3 ∷ 53 ∷ 3 ∷ 56 ∷ 6 ∷ 62 ∷ 3
    ∷ 2 ∷ 2 ∷ 2 ∷ 2 ∷ 2
    ∷ 0 ∷ 0 ∷ 0 ∷ 0 ∷ 0
    ∷ 0 ∷ 257 ∷ 512 ∷ 768
    ∷ 5 ∷ 1 ∷ 0 ∷ 1
    ∷ 2 ∷ 1 ∷ 1 ∷ 257
    ∷ 5 ∷ 1 ∷ 1 ∷ 0
    ∷ 3 ∷ 0 ∷ 513
    ∷ 3 ∷ 0 ∷ 769
    ∷ 4 ∷ 2 ∷ 513 ∷ 769 ∷ 512 ∷ 768
    ∷ 1 ∷ 0 ∷ 1025
    ∷ []

-- the lamp nine times, twice: 21 moves are unmarked. The eliminations strike the lamps alone
abbrev pub nine_lamps : List ℕ
nine_lamps = replicate 9 6

abbrev pub lamps_between : List ℕ
lamps_between = nine_lamps ++ (3 ∷ 4 ∷ 5 ∷ nine_lamps) ++ (0 ∷ 1 ∷ 2 ∷ [])

-- twenty gates are lifted, and one move drops them all, for which all must be open: neither elimination strikes
-- anything, and none of the 21 moves is marked
abbrev pub twenty_gates : List ℕ
twenty_gates =
    1 ∷ 20 ∷ 21 ∷ 214
    ∷ 52 ∷ 20 ∷ 72 ∷ 20 ∷ 92 ∷ 20 ∷ 112 ∷ 3 ∷ 115 ∷ 3 ∷ 118 ∷ 3 ∷ 121 ∷ 3 ∷ 124 ∷ 3
    ∷ 127 ∷ 3 ∷ 130 ∷ 3 ∷ 133 ∷ 3 ∷ 136 ∷ 3 ∷ 139 ∷ 3 ∷ 142 ∷ 3 ∷ 145 ∷ 3 ∷ 148 ∷ 3
    ∷ 151 ∷ 3 ∷ 154 ∷ 3 ∷ 157 ∷ 3 ∷ 160 ∷ 3 ∷ 163 ∷ 3 ∷ 166 ∷ 3 ∷ 169 ∷ 3 ∷ 172 ∷ 42
    ∷ 2 ∷ 2 ∷ 2 ∷ 2 ∷ 2 ∷ 2 ∷ 2 ∷ 2 ∷ 2 ∷ 2 ∷ 2 ∷ 2 ∷ 2 ∷ 2 ∷ 2 ∷ 2 ∷ 2 ∷ 2 ∷ 2 ∷ 2
    ∷ 0 ∷ 0 ∷ 0 ∷ 0 ∷ 0 ∷ 0 ∷ 0 ∷ 0 ∷ 0 ∷ 0 ∷ 0 ∷ 0 ∷ 0 ∷ 0 ∷ 0 ∷ 0 ∷ 0 ∷ 0 ∷ 0 ∷ 0
    ∷ 0 ∷ 256 ∷ 512 ∷ 768 ∷ 1024 ∷ 1280 ∷ 1536 ∷ 1792 ∷ 2048 ∷ 2304
    ∷ 2560 ∷ 2816 ∷ 3072 ∷ 3328 ∷ 3584 ∷ 3840 ∷ 4096 ∷ 4352 ∷ 4608 ∷ 4864
    ∷ 1 ∷ 0 ∷ 1
    ∷ 1 ∷ 0 ∷ 257
    ∷ 1 ∷ 0 ∷ 513
    ∷ 1 ∷ 0 ∷ 769
    ∷ 1 ∷ 0 ∷ 1025
    ∷ 1 ∷ 0 ∷ 1281
    ∷ 1 ∷ 0 ∷ 1537
    ∷ 1 ∷ 0 ∷ 1793
    ∷ 1 ∷ 0 ∷ 2049
    ∷ 1 ∷ 0 ∷ 2305
    ∷ 1 ∷ 0 ∷ 2561
    ∷ 1 ∷ 0 ∷ 2817
    ∷ 1 ∷ 0 ∷ 3073
    ∷ 1 ∷ 0 ∷ 3329
    ∷ 1 ∷ 0 ∷ 3585
    ∷ 1 ∷ 0 ∷ 3841
    ∷ 1 ∷ 0 ∷ 4097
    ∷ 1 ∷ 0 ∷ 4353
    ∷ 1 ∷ 0 ∷ 4609
    ∷ 1 ∷ 0 ∷ 4865
    ∷ 1 ∷ 20
    ∷ 1 ∷ 257 ∷ 513 ∷ 769 ∷ 1025 ∷ 1281 ∷ 1537 ∷ 1793 ∷ 2049 ∷ 2305
    ∷ 2561 ∷ 2817 ∷ 3073 ∷ 3329 ∷ 3585 ∷ 3841 ∷ 4097 ∷ 4353 ∷ 4609 ∷ 4865
    ∷ 0 ∷ 256 ∷ 512 ∷ 768 ∷ 1024 ∷ 1280 ∷ 1536 ∷ 1792 ∷ 2048 ∷ 2304
    ∷ 2560 ∷ 2816 ∷ 3072 ∷ 3328 ∷ 3584 ∷ 3840 ∷ 4096 ∷ 4352 ∷ 4608 ∷ 4864
    ∷ []

abbrev pub all_lifted : List ℕ
all_lifted =
    0 ∷ 1 ∷ 2 ∷ 3 ∷ 4 ∷ 5 ∷ 6 ∷ 7 ∷ 8 ∷ 9 ∷ 10 ∷ 11 ∷ 12 ∷ 13 ∷ 14 ∷ 15 ∷ 16 ∷ 17 ∷ 18 ∷ 19 ∷ 20 ∷ []

-- the row of a list
abbrev pub least_row : LicenceRow
least_row =
    record {
      sheet = two_gates;
      list = 0 ∷ 1 ∷ 2 ∷ [];
      eliminated = 3;
      others = 3;
      claim = Least;
      positions = [];
      price = 0;
    }

abbrev pub irreducible_row : LicenceRow
irreducible_row =
    record {
      sheet = gates_and_lamp;
      list = lamps_between;
      eliminated = 6;
      others = 3;
      claim = Irreducible;
      positions = 22 ∷ 23 ∷ 24 ∷ [];
      price = 12;
    }

abbrev pub open_row : LicenceRow
open_row =
    record {
      sheet = twenty_gates;
      list = all_lifted;
      eliminated = 21;
      others = 21;
      claim = Open 21;
      positions = map (λ i. i + 1) all_lifted;
      price = 21;
    }

abbrev pub LicencesHold : Type 0
LicencesHold = Each RowLicensed (least_row ∷ irreducible_row ∷ open_row ∷ [])

-- all steps of worked list 3 are marked, and so it has no valid striking but the whole
abbrev pub List3Whole : Type 0
List3Whole =
    AllMarked sheet_p list_3 × ((m : Reduction) → ValidStriking sheet_p list_3 m ↔ (m ≡ whole list_3))
