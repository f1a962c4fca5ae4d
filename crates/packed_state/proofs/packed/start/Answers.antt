-- `start` meets its contract. Assumes nothing.
use Prim.Native.Nat.{ℕ, ◌%◌, ◌<◌}
use native.Mathlib.Omega.{arith}
use mathlib.Core.Path.{◌≡◌, sym, ◌∙◌}
use lib.ListN.{length, get_or, get_or-map, length-map}
use lib.Seq.{ext_get_or}
use Rattle.std.proofs.Common.{rules}
use Rattle.packed_state.specs.Between.Packed.{packed_start}
use Rattle.packed_state.proofs.packed.start.Goals as goal

pub returns : goal.returns
returns c =
    let long : length c.initial.result ≡ 64 = search rules in
    let longer : length c.map.result ≡ 64 = c.map.ensures.items.long in
    let each : (i : ℕ) → i < 64 → get_or c.map.result i 0 ≡ get_or c.initial.result i 0 % 256 =
    λ i h. let p = c.map.ensures.items.at i 0 0 h in search rules in
    rw (← c.initial.ensures)
    (ext_get_or 0 c.map.result (packed_start c.initial.result) (longer ∙ sym (length-map c.initial.result _ ∙ long))
    (λ i h. let below : i < 64 = omega arith in each i below ∙ sym (get_or-map _ c.initial.result i 0)))
