-- The spelling of a block, edit by edit.
use Rattle.std.proofs.Common.{refl}
use Rattle.spelling.proofs.Laws.Spelling.{spells_as, spells_cn1, spells_cn2, spells_ap, spells_dp, spells_at, spells_dt1, spells_dt2, spells_rt, at_link, dt1_link, dt2_link, rt_link}
use Rattle.spelling.proofs.spell.Goals as goal

pub returns-in-Cn1 : goal.returns-in-Cn1
returns-in-Cn1 c = spells_as c.in-Cn1.is (rw (c.then_some.ensures, c.is_leaf.ensures, c.with.ensures) refl) (spells_cn1 c.in-Cn1.n1 c.in-Cn1.n2 c.args.kind c.args.param)

pub returns-in-Cn2 : goal.returns-in-Cn2
returns-in-Cn2 c = spells_as c.in-Cn2.is (rw (c.then_some-in-Cn2.ensures, c.is_leaf-in-Cn2.ensures, c.with-in-Cn2.ensures) refl) (spells_cn2 c.in-Cn2.n1 c.in-Cn2.n2 c.in-Cn2.f c.args.kind c.args.param (rw c.in-Cn2.is at c.requires))

pub returns-in-Ap : goal.returns-in-Ap
returns-in-Ap c = spells_as c.in-Ap.is (rw (c.then_some-in-Ap.ensures, c.is_leaf-in-Ap.ensures, c.with-in-Ap.ensures) refl) (spells_ap c.in-Ap.n c.in-Ap.p c.args.kind c.args.param)

pub returns-in-Dp : goal.returns-in-Dp
returns-in-Dp c = spells_as c.in-Dp.is (rw (c.then_some-in-Dp.ensures, c.is_leaf-in-Dp.ensures, c.with-in-Dp.ensures) refl) (spells_dp c.in-Dp.n c.in-Dp.p c.args.kind c.args.param)

pub by_way-requires : goal.by_way-requires
by_way-requires c = at_link c.in-At.m c.in-At.n1 c.in-At.n2 (rw c.in-At.is at c.requires)

pub returns-in-At : goal.returns-in-At
returns-in-At c =
    spells_as c.in-At.is c.by_way.ensures (spells_at c.in-At.m c.in-At.n1 c.in-At.n2 c.args.kind c.args.param)

pub by_way-requires-in-Dt1 : goal.by_way-requires-in-Dt1
by_way-requires-in-Dt1 c = dt1_link c.in-Dt1.m c.in-Dt1.n1 c.in-Dt1.n2 (rw c.in-Dt1.is at c.requires)

pub returns-in-Dt1 : goal.returns-in-Dt1
returns-in-Dt1 c =
    spells_as c.in-Dt1.is c.by_way-in-Dt1.ensures (spells_dt1 c.in-Dt1.m c.in-Dt1.n1 c.in-Dt1.n2 c.args.kind c.args.param)

pub by_way-requires-in-Dt2 : goal.by_way-requires-in-Dt2
by_way-requires-in-Dt2 c = dt2_link c.in-Dt2.f c.in-Dt2.n (rw c.in-Dt2.is at c.requires)

pub returns-in-Dt2 : goal.returns-in-Dt2
returns-in-Dt2 c =
    spells_as c.in-Dt2.is c.by_way-in-Dt2.ensures (spells_dt2 c.in-Dt2.f c.in-Dt2.n c.args.kind c.args.param)

pub by_way-requires-in-Rt : goal.by_way-requires-in-Rt
by_way-requires-in-Rt c = rt_link c.in-Rt.f c.in-Rt.n1 c.in-Rt.n2 (rw c.in-Rt.is at c.requires)

pub returns-in-Rt : goal.returns-in-Rt
returns-in-Rt c =
    spells_as c.in-Rt.is c.by_way-in-Rt.ensures (spells_rt c.in-Rt.f c.in-Rt.n1 c.in-Rt.n2 c.args.kind c.args.param)
