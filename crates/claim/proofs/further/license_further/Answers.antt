-- `license_further` meets its contract: the cheaper elimination leaves a plan, and the minimal reduction of that answers or refuses. Assumes nothing.
use native.Mathlib.Omega.{arith}
use mathlib.Core.Path.{refl, sym}
use Rattle.claim.proofs.FurtherLaws.{cheaper_asked, marked_fits, flags_leave, flags_few, inside, front_long, licenses_irreducible, licenses_open}
use Rattle.claim.proofs.further.license_further.Goals as goal

pub overflow_cast-marked : goal.overflow_cast-marked
overflow_cast-marked c = omega (arith, marked_fits _ _ _ _ _ c.requires)

pub flags_of_cheaper-flags-requires : goal.flags_of_cheaper-flags-requires
flags_of_cheaper-flags-requires c =
    let asked = cheaper_asked _ _ _ _ _ c.requires in
    record { readable = asked.0; plan_value = asked.1 }

pub slice_bounds-flags-end : goal.slice_bounds-flags-end
slice_bounds-flags-end c = (flags_leave _ _ _ _ _ c.requires _ c.flags_of_cheaper-flags.ensures).within

pub slice_bounds-finish-end : goal.slice_bounds-finish-end
slice_bounds-finish-end c = sym (flags_leave _ _ _ _ _ c.requires _ c.flags_of_cheaper-flags.ensures).fits

pub slice_bounds-list-end : goal.slice_bounds-list-end
slice_bounds-list-end c =
    let further = c.requires in
    let flagged = c.flags_of_cheaper-flags.ensures in
    let finished = c.finish-kept.ensures in
    inside _ _ _ _ _ further _ flagged _ _ _ finished

pub slice_bounds-minimal_reduction-end : goal.slice_bounds-minimal_reduction-end
slice_bounds-minimal_reduction-end c =
    let further = c.requires in
    let flagged = c.flags_of_cheaper-flags.ensures in
    let finished = c.finish-kept.ensures in
    sym (front_long _ _ _ _ _ further _ flagged _ _ _ finished)

pub slice_bounds-flags-end-in-Ok : goal.slice_bounds-flags-end-in-Ok
slice_bounds-flags-end-in-Ok c =
    let further = c.requires in
    let flagged = c.flags_of_cheaper-flags.ensures in
    (flags_leave _ _ _ _ _ further _ flagged).within

pub slice_bounds-mask_through-end : goal.slice_bounds-mask_through-end
slice_bounds-mask_through-end c =
    let further = c.requires in
    let flagged = c.flags_of_cheaper-flags.ensures in
    sym (flags_leave _ _ _ _ _ further _ flagged).fits

pub mask_through-mask-requires : goal.mask_through-mask-requires
mask_through-mask-requires c =
    let further = c.requires in
    let flagged = c.flags_of_cheaper-flags.ensures in
    flags_few _ _ _ _ _ further _ flagged

pub slice_bounds-list-end-in-Err : goal.slice_bounds-list-end-in-Err
slice_bounds-list-end-in-Err c =
    let further = c.requires in
    let flagged = c.flags_of_cheaper-flags.ensures in
    let finished = c.finish-kept.ensures in
    inside _ _ _ _ _ further _ flagged _ _ _ finished

pub slice_bounds-put_all-end : goal.slice_bounds-put_all-end
slice_bounds-put_all-end c =
    let further = c.requires in
    let flagged = c.flags_of_cheaper-flags.ensures in
    let finished = c.finish-kept.ensures in
    sym (front_long _ _ _ _ _ further _ flagged _ _ _ finished)

pub returns-in-Ok : goal.returns-in-Ok
returns-in-Ok c =
    let further = c.requires in
    let flagged = c.flags_of_cheaper-flags.ensures in
    let finished = c.finish-kept.ensures in
    rw c.grant.ensures
    (licenses_irreducible _ _ _ _ _ further _ flagged _ _ _ finished _ _ c.in-Ok.ensures.answer _ _ refl c.mask_through-mask.ensures _ refl)

pub returns-in-Err : goal.returns-in-Err
returns-in-Err c =
    let further = c.requires in
    let flagged = c.flags_of_cheaper-flags.ensures in
    let finished = c.finish-kept.ensures in
    rw c.grant-in-Err.ensures
    (licenses_open _ _ _ _ _ further _ flagged _ _ _ finished _ _ c.in-Err.ensures.answer _ _ _ _ refl c.place.ensures refl c.put_all.ensures _ refl)
