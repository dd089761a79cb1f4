-- The file that was written is read by the same steps 1 to 3.
use Rattle.std.specs.Prelude.{◌≡◌, ℕ, ◌≤◌, ◌<◌, length}
use Rattle.model.specs.Res.{ok}
use Rattle.model.specs.Bytes.{Bytes, be32, put}
use Rattle.model.specs.Font.{Tables, read}
use Rattle.model.specs.File.{entries, file, adjustment}

-- tables with another head
abbrev pub with_head : Bytes → Tables → Tables
with_head head t =
    record {
      cvt = t.cvt;
      fpgm = t.fpgm;
      glyf = t.glyf;
      head = head;
      hhea = t.hhea;
      hmtx = t.hmtx;
      loca = t.loca;
      maxp = t.maxp;
      name = t.name;
      post = t.post;
      prep = t.prep;
    }

-- the tables as they stand in the file: "head's bytes 8 to 11 [..] become 0xB1B0AFBA minus S"
abbrev pub as_written : Tables → Tables
as_written t = with_head (put t.head 8 (be32 (adjustment (entries t)))) t

-- the least lengths that step 3 asks for
pub record LongEnough (t : Tables) : Type 0 where
  pub head : 52 ≤ length t.head
  pub hhea : 36 ≤ length t.hhea
  pub maxp : 6 ≤ length t.maxp

-- a written file of a size that fits, read at any index, gives the tables that were written
abbrev pub ReadBack : Type 0
ReadBack = (t : Tables) (index : ℕ) → LongEnough t → length (file (entries t)) < 4294967296 → read (file (entries t)) index ≡ ok (as_written t)
