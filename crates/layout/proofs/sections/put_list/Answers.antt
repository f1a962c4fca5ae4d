-- `put_list` meets its contract: two sections, and what is left. Assumes nothing.
use mathlib.Core.Path.{refl}
use mathlib.Core.List.{[], ◌∷◌}
use lib.ListN.{length}
use Rattle.layout.specs.Layout.{titled}
use Rattle.std.proofs.Common.{rules}
use Rattle.layout.proofs.WalkLaws.{goes_both, laid_all}
use Rattle.layout.proofs.sections.put_list.Goals as goal

pub returns : goal.returns
returns c =
    let list = c.args.list.now in
    let sections = goes_both (c.section.ensures.goes (titled "list" (length list) ∷ [])) (c.section-2.ensures.goes []) in
    laid_all list refl refl sections c.rest.ensures.puts (search rules)
