use Rattle.std.proofs.Common.{set, ◌≡◌, ℕ, ◌+◌, ◌*◌, ◌≤◌, length, refl, sym, ap, ◌∙◌, subst, arith}
use Rattle.std.specs.Prelude.{Option, Some, is_some}
use Rattle.std.specs.Option.{unwrap_or}
use Rattle.places.specs.declared.Place.{Place}
use Rattle.places.specs.Places.{missing}
use Rattle.construct.specs.Construct.{count_to, start_at, directory_length, places_to, raised}
use Rattle.construct.proofs.Lists.{start-there, start_none, count_small}
use Rattle.construct.proofs.Placing.{place-left, place-next, place-none, layout_end, start_small}
use Rattle.construct.proofs.lay_out.Goals as goal
use Rattle.construct.proofs.lay_out.Goals.{in-Some, in_default}

pub overflow_mul-at : goal.overflow_mul-at
overflow_mul-at c = let s = count_small c.args.sized 11 in omega arith

pub overflow_add-at : goal.overflow_add-at
overflow_add-at c = let s = count_small c.args.sized 11 in omega arith

pub loop-place-init : goal.loop-place-init
unfolding start_at directory_length places_to
loop-place-init c = (ap (λ (n : ℕ). 12 + 16 * n) c.count-count.ensures, refl)

pub raised-at-requires : goal.raised-at-requires
raised-at-requires c =
    let t = c.args.sized in
    let l = c.loop-place in
    let long : length t.places ≡ 11 = omega arith in
    let i = sym (place-left t l.place-items l.place-index (omega arith) l.invariant.1) ∙ c.in-Some.is in
    subst (λ (n : ℕ). n ≤ 1099511627776) (ap (λ (o : Option Place). (unwrap_or o missing).length) i) (c.requires l.place-index c.loop-place-test.true)

pub overflow_add-at-in-Some : goal.overflow_add-at-in-Some
unfolding raised directory_length
overflow_add-at-in-Some c =
    let t = c.args.sized in
    let l = c.loop-place in
    let k = l.place-index in
    let s = start_small t (directory_length (count_to t 11)) k (omega arith) c.requires in
    let n = count_small t 11 in
    let b = c.requires k c.loop-place-test.true in
    let i = sym (place-left t l.place-items k (omega arith) l.invariant.1) ∙ c.in-Some.is in
    let e = ap (λ (o : Option Place). (unwrap_or o missing).length) i in
    let r = c.raised-at.ensures in
    let v = l.invariant.0 in
    omega arith

pub loop-place-preserved : goal.loop-place-preserved
loop-place-preserved c =
    let t = c.args.sized in
    let l = c.loop-place in
    let k = l.place-index in
    let d = directory_length (count_to t 11) in
    let long : length t.places ≡ 11 = omega arith in
    let p = place-left t l.place-items k (omega arith) l.invariant.1 in
    let v = l.invariant.0 in
    (elim c.match-place.branch [
      | in-Some w ↦
          (let i = sym p ∙ w.in-Some.is in (
            rw w.at-is
                (let s = start-there t d k (ap is_some i) in
                let e = ap (λ (o : Option Place). raised (unwrap_or o missing).length) i in
                let r = w.raised-at.ensures in
                omega arith),
            w.place-items-is ∙ ap (λ (n : ℕ). set l.place-items k (Some (record { offset = n; length = w.in-Some.p.length }))) v
                ∙ place-next t l.place-items k (omega arith) l.invariant.1 _ w.in-Some.is,
          ))
      | in_default w ↦ (
        rw w.at-is (let s = start_none t d k (ap is_some (sym p ∙ w.in_default.is)) in omega arith),
        w.place-items-is ∙ place-none t l.place-items k (omega arith) l.invariant.1 w.in_default.is,
      )
    ])

pub returns : goal.returns
returns c =
    let l = c.loop-place in
    layout_end c.args.sized l.place-items l.at c.count-count.result l.place-index (omega arith) (omega arith) c.count-count.ensures l.invariant.0 l.invariant.1
