-- `actions` meets its contract. The loop's invariant: the actions passed are put. Assumes nothing.
use Prim.Native.Nat.{◌-◌}
use mathlib.Core.Path.{◌≡◌}
use Rattle.sheet.specs.Layout.{actions}
use Rattle.sheet.specs.Decode.{table}
use Rattle.layout.specs.Layout.{action_section}
use Rattle.layout.specs.Between.Walk.{Goes}
use Rattle.layout.proofs.sections.Walk.actions.Given as goal

abbrev pub invariant-loop-a : goal.invariant-loop-a
invariant-loop-a l =
    record {
      same : l.self.page.ghost_name ≡ l.initial.self.page.ghost_name;
      goes : Goes (table (action_section l.sheet) 0 (actions l.sheet)) l.initial.self (table (action_section l.sheet) l.a (actions l.sheet - l.a)) l.self;
    }
