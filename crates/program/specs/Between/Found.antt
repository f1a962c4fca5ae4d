-- What the code finds of its input, as the definitions have it. Assumes nothing.
use Rattle.std.specs.Prelude.{ℕ, ◌+◌, List, take, drop, Result, Ok, Err}
use Rattle.refusal.specs.declared.Refusal.{Refusal}
use Rattle.refusal.specs.Refusal.{told_refusal}
use Rattle.records.specs.declared.frame.Extent.{Extent}
use Rattle.program.specs.Opening.{Opening, Refused, Lodged}

-- that which the code answers, where the words of the input are at the front of ws
abbrev pub opening_of : ℕ → Result Extent Refusal → List ℕ → Opening
opening_of further (Err r) ws = Refused (told_refusal r)
opening_of further (Ok x) ws =
    Lodged (take x.task ws) (take x.plan (drop (x.task + 1) ws)) (take further (drop (x.task + 1 + x.plan) ws))
