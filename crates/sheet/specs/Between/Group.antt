-- The groups of facts of a sheet as the code goes through them, fact by fact, from either end. Assumes nothing.
use Rattle.std.specs.Prelude.{ℕ, ◌+◌, ◌-◌, cond, List, ltb}
use Rattle.sas.specs.Task.{Assignment}
use Rattle.sheet.specs.declared.group.Group.{Group}
use Rattle.sheet.specs.declared.group.GroupFacts.{GroupFacts}
use Rattle.sheet.specs.Layout.{word, goal_start, goal_end, precondition_start, effect_start}
use Rattle.sheet.specs.Decode.{facts}

-- the goal's group
abbrev pub goal_group : List ℕ → Group
goal_group w = record { at = goal_start w; end = goal_end w }

-- the group of what action a needs
abbrev pub needed_group : List ℕ → ℕ → Group
needed_group w a = record { at = precondition_start w a; end = effect_start w a }

-- the facts of a group
unfoldable pub facts_in : List ℕ → Group → Assignment
facts_in w g = facts w g.at g.end

-- the facts that are left of a walk along a group
abbrev pub group_left : GroupFacts → Assignment
group_left f = facts_in f.words.now f.rest

-- the word of a group's first fact
abbrev pub first_fact : List ℕ → Group → ℕ
first_fact w g = word w g.at

-- the group without its first fact, which is one word; an empty group is all that is left of it
unfoldable pub rest_of : Group → Group
rest_of g = cond (ltb g.at g.end) (record { at = g.at + 1; end = g.end }) g

-- the word of a group's last fact, and 0 of an empty group
unfoldable pub last_fact : List ℕ → Group → ℕ
last_fact w g = cond (ltb g.at g.end) (word w (g.end - 1)) 0

-- the group without its last fact; an empty group is all that is left of it
unfoldable pub front_of : Group → Group
front_of g = cond (ltb g.at g.end) (record { at = g.at; end = g.end - 1 }) g
