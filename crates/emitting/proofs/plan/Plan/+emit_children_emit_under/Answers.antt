-- `emit_children` and `emit_under`, a cycle of calls: what is below the higher node is emitted first.
use Rattle.std.proofs.Common.{◌≡◌, true, false, arith}
use Rattle.finite.proofs.Laws.Bools.{clash}
use Rattle.emitting.proofs.Laws.Deep.{children_stay, deep_none, deep_then, paid, both_of}
use Rattle.emitting.proofs.Laws.Emitted.{emitting_none, emitting_then, emittable_then}
use Rattle.emitting.proofs.plan.Plan.+emit_children_emit_under.Goals as goal

pub emit_children-emit_under-requires : goal.emit_children-emit_under-requires
emit_children-emit_under-requires t c =
    let q : c.emit-under_higher.result ≡ true = cc in
    (omega arith, ((c.emit-under_higher.ensures.one.below q, omega arith), emittable_then (emittable_then c.requires.emittable c.emit-under_lower.ensures.emitting) c.emit-under_higher.ensures.emitting))

pub emit_children-emit_under-requires-in-true-true : goal.emit_children-emit_under-requires-in-true-true
emit_children-emit_under-requires-in-true-true t c =
    let q : c.emit-under_lower.result ≡ true = cc in (
      omega arith,
      (
        (c.emit-under_lower.ensures.one.below q, omega arith),
        emittable_then (emittable_then (emittable_then c.requires.emittable c.emit-under_lower.ensures.emitting) c.emit-under_higher.ensures.emitting) c.emit_under.ensures.emitting,
      ),
    )

pub emit_children-emit_under-requires-in-true-false : goal.emit_children-emit_under-requires-in-true-false
emit_children-emit_under-requires-in-true-false t c =
    let q : c.emit-under_lower.result ≡ true = cc in
    (omega arith, ((c.emit-under_lower.ensures.one.below q, omega arith), emittable_then (emittable_then c.requires.emittable c.emit-under_lower.ensures.emitting) c.emit-under_higher.ensures.emitting))

pub emit_children-emit_under-requires-in-false-true : goal.emit_children-emit_under-requires-in-false-true
emit_children-emit_under-requires-in-false-true t c =
    let q : c.emit-under_higher.result ≡ true = cc in
    (omega arith, ((c.emit-under_higher.ensures.one.below q, omega arith), emittable_then (emittable_then c.requires.emittable c.emit-under_lower.ensures.emitting) c.emit-under_higher.ensures.emitting))

pub emit_children-returns-in-true-true-clause-emitting : goal.emit_children-returns-in-true-true-clause-emitting
emit_children-returns-in-true-true-clause-emitting t c =
    emitting_then c.emit-under_lower.ensures.emitting (emitting_then c.emit-under_higher.ensures.emitting (emitting_then c.emit_under.ensures.emitting c.emit_under-in-true-true.ensures.emitting))

pub emit_children-returns-in-true-true-clause-emitted : goal.emit_children-returns-in-true-true-clause-emitted
emit_children-returns-in-true-true-clause-emitted t c =
    let lo = c.emit-under_higher.ensures.emitting.stays _ c.emit-under_lower.ensures.emitted in
    let hi = c.emit-under_higher.ensures.emitted in
    both_of _ c.args.l c.args.r c.min-lower.ensures c.max-higher.ensures ((emitting_then c.emit_under.ensures.emitting c.emit_under-in-true-true.ensures.emitting).stays _ lo) ((emitting_then c.emit_under.ensures.emitting c.emit_under-in-true-true.ensures.emitting).stays _ hi)

pub emit_children-returns-in-true-true-clause-deep : goal.emit_children-returns-in-true-true-clause-deep
emit_children-returns-in-true-true-clause-deep t c =
    paid c.emit-under_lower.ensures.one c.emit-under_higher.ensures.emitting c.emit-under_higher.ensures.one (emitting_then c.emit_under.ensures.emitting c.emit_under-in-true-true.ensures.emitting)
    (deep_then c.emit_under.ensures.deep c.emit_under-in-true-true.ensures.emitting c.emit_under-in-true-true.ensures.deep)
    (λ q. c.emit_under-in-true-true.ensures.children) (λ q. children_stay c.emit_under-in-true-true.ensures.emitting c.emit_under.ensures.children)

pub emit_children-returns-in-true-false-clause-emitting : goal.emit_children-returns-in-true-false-clause-emitting
emit_children-returns-in-true-false-clause-emitting t c =
    emitting_then c.emit-under_lower.ensures.emitting (emitting_then c.emit-under_higher.ensures.emitting c.emit_under-in-true-false.ensures.emitting)

pub emit_children-returns-in-true-false-clause-emitted : goal.emit_children-returns-in-true-false-clause-emitted
emit_children-returns-in-true-false-clause-emitted t c =
    let lo = c.emit-under_higher.ensures.emitting.stays _ c.emit-under_lower.ensures.emitted in
    let hi = c.emit-under_higher.ensures.emitted in
    both_of _ c.args.l c.args.r c.min-lower.ensures c.max-higher.ensures (c.emit_under-in-true-false.ensures.emitting.stays _ lo) (c.emit_under-in-true-false.ensures.emitting.stays _ hi)

pub emit_children-returns-in-true-false-clause-deep : goal.emit_children-returns-in-true-false-clause-deep
emit_children-returns-in-true-false-clause-deep t c =
    paid c.emit-under_lower.ensures.one c.emit-under_higher.ensures.emitting c.emit-under_higher.ensures.one c.emit_under-in-true-false.ensures.emitting
    c.emit_under-in-true-false.ensures.deep
    (λ q. c.emit_under-in-true-false.ensures.children) (λ q. let z : c.emit-under_higher.result ≡ false = cc in clash q z)

pub emit_children-returns-in-false-true-clause-emitting : goal.emit_children-returns-in-false-true-clause-emitting
emit_children-returns-in-false-true-clause-emitting t c =
    emitting_then c.emit-under_lower.ensures.emitting (emitting_then c.emit-under_higher.ensures.emitting c.emit_under-in-false-true.ensures.emitting)

pub emit_children-returns-in-false-true-clause-emitted : goal.emit_children-returns-in-false-true-clause-emitted
emit_children-returns-in-false-true-clause-emitted t c =
    let lo = c.emit-under_higher.ensures.emitting.stays _ c.emit-under_lower.ensures.emitted in
    let hi = c.emit-under_higher.ensures.emitted in
    both_of _ c.args.l c.args.r c.min-lower.ensures c.max-higher.ensures (c.emit_under-in-false-true.ensures.emitting.stays _ lo) (c.emit_under-in-false-true.ensures.emitting.stays _ hi)

pub emit_children-returns-in-false-true-clause-deep : goal.emit_children-returns-in-false-true-clause-deep
emit_children-returns-in-false-true-clause-deep t c =
    paid c.emit-under_lower.ensures.one c.emit-under_higher.ensures.emitting c.emit-under_higher.ensures.one c.emit_under-in-false-true.ensures.emitting
    c.emit_under-in-false-true.ensures.deep
    (λ q. let z : c.emit-under_lower.result ≡ false = cc in clash q z) (λ q. c.emit_under-in-false-true.ensures.children)

pub emit_children-returns-in-false-false-clause-emitting : goal.emit_children-returns-in-false-false-clause-emitting
emit_children-returns-in-false-false-clause-emitting t c =
    emitting_then c.emit-under_lower.ensures.emitting c.emit-under_higher.ensures.emitting

pub emit_children-returns-in-false-false-clause-emitted : goal.emit_children-returns-in-false-false-clause-emitted
emit_children-returns-in-false-false-clause-emitted t c =
    let lo = c.emit-under_higher.ensures.emitting.stays _ c.emit-under_lower.ensures.emitted in
    let hi = c.emit-under_higher.ensures.emitted in
    both_of _ c.args.l c.args.r c.min-lower.ensures c.max-higher.ensures lo hi

pub emit_children-returns-in-false-false-clause-deep : goal.emit_children-returns-in-false-false-clause-deep
emit_children-returns-in-false-false-clause-deep t c =
    paid c.emit-under_lower.ensures.one c.emit-under_higher.ensures.emitting c.emit-under_higher.ensures.one emitting_none
    deep_none
    (λ q. let z : c.emit-under_lower.result ≡ false = cc in clash q z) (λ q. let z : c.emit-under_higher.result ≡ false = cc in clash q z)
