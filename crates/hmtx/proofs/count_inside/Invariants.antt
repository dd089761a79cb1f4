-- `hmtx::count_inside` meets its contract: while the metrics from i on decide whether all are inside, the count is that of the first i.
use Rattle.std.proofs.Common.{◌≡◌, drop}
use Rattle.model.specs.Bytes.{all}
use Rattle.hmtx.specs.Places.{inside, metrics_at}
use Rattle.hmtx.proofs.Count.{Counting}
use Rattle.hmtx.proofs.count_inside.Given as goal

abbrev pub invariant-loop-i : goal.invariant-loop-i
invariant-loop-i l = record {
  rest : all (inside l.hmtx l.c) l.roster ≡ all (inside l.hmtx l.c) (drop l.i l.roster);
  counting : Counting (metrics_at l.hmtx l.c l.roster) l.count l.last l.i;
}
