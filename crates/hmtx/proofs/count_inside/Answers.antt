use Rattle.std.proofs.Common.{◌≡◌, true, ◌+◌, ◌<◌, ◌≤◌, length, get_or, refl, sym, ◌∙◌, arith}
use Rattle.std.proofs.Math.Seq.{drop-length}
use Rattle.model.specs.Bytes.{all}
use Rattle.hmtx.specs.Places.{bearing_place, inside, metric_at, metrics_at}
use Rattle.hmtx.proofs.Places.{bearing_small, advance_in, inside-turn, inside-stop}
use Rattle.hmtx.proofs.Count.{count-start, count_same, count-new, count_end}
use Rattle.hmtx.proofs.Written.{metrics_at-get, length-metrics_at}
use Rattle.hmtx.proofs.Step.{counted-inside, counted-outside}
use Rattle.hmtx.proofs.count_inside.Goals as goal
use Rattle.hmtx.proofs.count_inside.Goals.{else-advance-last, then-advance-last}

pub loop-i-init : goal.loop-i-init
loop-i-init c = record { rest = refl; counting = count-start _ }

pub overflow_add-bearing_place : goal.overflow_add-bearing_place
overflow_add-bearing_place c =
    omega (arith, bearing_small c.args.c c.from-id.result (omega arith) (omega arith))

pub returns-then-hmtx-bearing_place : goal.returns-then-hmtx-bearing_place
returns-then-hmtx-bearing_place c =
    let l = c.loop-i in
    let a = c.args in
    let out : length a.hmtx.now < bearing_place a.c (get_or a.roster.now l.i 0) + 2 = rw (← c.from-id.ensures, ← c.bearing_place.ensures) c.if-hmtx-bearing_place.true in
    sym (counted-outside _ _ _ (l.invariant.rest ∙ inside-stop a.hmtx.now a.c a.roster.now l.i (omega arith) out))

pub u16_at-advance-requires : goal.u16_at-advance-requires
u16_at-advance-requires c =
    let p = c.requires in
    omega (arith, advance_in c.args.c c.from-id.result (length c.args.hmtx.now) p.0 p.2 (omega arith))

pub loop-i-preserved : goal.loop-i-preserved
unfolding metric_at
loop-i-preserved c =
    let l = c.loop-i in
    let a = c.args in
    let h = a.hmtx.now in
    let ids = a.roster.now in
    let g = get_or ids l.i 0 in
    let ms = metrics_at h a.c ids in
    let lt : l.i < length ids = omega arith in
    let lt' : l.i < length ms = rw length-metrics_at lt in
    let e = metrics_at-get h a.c ids l.i lt in
    let ea : c.u16_at-advance.result ≡ (metric_at h a.c g).0 = cc in
    let within : bearing_place a.c g + 2 ≤ length h = rw (← c.from-id.ensures, ← c.bearing_place.ensures) c.if-hmtx-bearing_place.false in
    record {
      rest = l.invariant.rest ∙ inside-turn _ _ _ _ lt within;
      counting = elim c.if-advance-last.branch [ then-advance-last w ↦ rw (w.count-is, w.last-is) (count-new _ _ _ _ _ _ l.invariant.counting lt' e ea w.if-advance-last.true) | else-advance-last w ↦ rw (w.count-is, w.last-is) (count_same _ _ _ _ _ _ l.invariant.counting lt' e ea w.if-advance-last.false) ];
    }

pub returns : goal.returns
returns c =
    let l = c.loop-i in
    let a = c.args in
    let h = a.hmtx.now in
    let ids = a.roster.now in
    let e : l.i ≡ length ids = omega arith in
    let t : all (inside h a.c) ids ≡ true = rw (l.invariant.rest, e, drop-length) in
    rw (counted-inside h a.c ids t, count_end _ _ _ _ l.invariant.counting (omega (arith, length-metrics_at h a.c ids)))
