-- Every sample is computed. They stand in this crate so that an edit which plants a slip in a definition is refused here.
use mathlib.Core.Path.{refl}
use Rattle.model.specs.Font.{read, face_start, directory, gather}
use Rattle.model.specs.Outline.{outline, records}
use Rattle.model.specs.Walk.{numbered, full, begin, walk}
use Rattle.model.specs.Glyf.{glyph_bytes}
use Rattle.model.specs.Metrics.{metric, metrics}
use Rattle.model.specs.Bytes.{put, over}
use Rattle.model.specs.File.{entries, file, directory_of, adjustment}
use Rattle.model.specs.Cut.{closure, rewrite, cut_tables, outline_of, parts_of, piece_of}
use Rattle.model.specs.Call.{answer, out_after, scratch_after, ready, made}
use Rattle.model.specs.Samples.{Starred, Slips, ProgramSample}

pub starred : Starred
unfolding walk begin numbered full outline records
starred = tt

pub slips : Slips
unfolding outline records
slips = tt

pub program_sample : ProgramSample
unfolding entries file directory_of adjustment answer ready made read face_start directory gather cut_tables rewrite closure walk begin numbered full parts_of piece_of outline_of glyph_bytes outline records metrics metric put over out_after scratch_after
program_sample = record { answers = refl; roster = refl; sums = refl }
