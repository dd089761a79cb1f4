use mathlib.Core.Path.{refl, ◌∙◌}
use native.Mathlib.Omega.{arith}
use Rattle.tables.specs.Writing.{new_body, others_to}
use Rattle.tables.proofs.Order.{other_more, glyf_skipped, loca_skipped}
use Rattle.tables.proofs.Cut.put_others.Goals as goal
use Rattle.tables.proofs.Cut.put_others.Goals.{then-k-ne-GLYF+then-k-ne-LOCA, else-k-ne-GLYF, else-k-ne-GLYF-via-then-k-ne-GLYF+else-k-ne-LOCA, else-k-ne-GLYF-via-else-k-ne-GLYF}

pub loop-k-init : goal.loop-k-init
unfolding others_to
loop-k-init c = (refl, refl)

pub loop-k-preserved : goal.loop-k-preserved
loop-k-preserved c =
    let l = c.loop-k in
    let a = c.args in
    let body = new_body a.self.now in
    elim c.if-k-ne-GLYF.branch [
      | then-k-ne-GLYF+then-k-ne-LOCA w ↦
          rw w.out-is (
            w.put_table.auto.out ∙ l.invariant.0,
            other_more a.new body l.k a.out.now (record { known = omega arith; no_glyf = w.if-k-ne-GLYF.true; no_loca = w.if-k-ne-LOCA.true }) l.invariant.1 w.put_table.ensures,
          )
      | else-k-ne-GLYF w ↦
          rw w.out-is (
            l.invariant.0,
            elim w.else-k-ne-GLYF.branch [
              | else-k-ne-GLYF-via-then-k-ne-GLYF+else-k-ne-LOCA v ↦ loca_skipped a.new body l.k a.out.now v.if-k-ne-LOCA.false l.invariant.1
              | else-k-ne-GLYF-via-else-k-ne-GLYF v ↦ glyf_skipped a.new body l.k a.out.now v.if-k-ne-GLYF.false l.invariant.1
            ],
          )
    ]
