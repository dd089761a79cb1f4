-- The file lies in the output and the roster in the scratch, as the public call promises.
use Rattle.std.proofs.Common.{sym, length-take-le}
use Rattle.lines.proofs.Bounds.{font-kept, font-file}
use Rattle.cut.proofs.cut.Goals as goal

pub slice_bounds-out-end : goal.slice_bounds-out-end
slice_bounds-out-end g c = font-file _ c.subset.result c.in-Ok.font c.subset.new.out c.subset.new.scratch c.in-Ok.is c.subset.ensures

pub slice_bounds-save-end : goal.slice_bounds-save-end
slice_bounds-save-end g c =
    sym (length-take-le c.in-Ok.font.length c.subset.new.out (font-file _ c.subset.result c.in-Ok.font c.subset.new.out c.subset.new.scratch c.in-Ok.is c.subset.ensures))

pub slice_bounds-scratch-end : goal.slice_bounds-scratch-end
slice_bounds-scratch-end g c = font-kept _ c.subset.result c.in-Ok.font c.subset.new.out c.subset.new.scratch c.in-Ok.is c.subset.ensures

pub slice_bounds-print_kept-end : goal.slice_bounds-print_kept-end
slice_bounds-print_kept-end g c =
    sym (length-take-le c.in-Ok.font.kept c.subset.new.scratch (font-kept _ c.subset.result c.in-Ok.font c.subset.new.out c.subset.new.scratch c.in-Ok.is c.subset.ensures))
