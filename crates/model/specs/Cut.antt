-- Steps 5 to 8: from the tables and the requests to the roster and the new tables.
use Rattle.std.proofs.Math.Option.{Option, none, some}
use Rattle.std.specs.Prelude.{List, ◌++◌, ℕ, ◌+◌, ◌*◌, length, drop}
use Rattle.model.specs.Res.{Res, ok, each, map_res, ◌>>=◌}
use Rattle.model.specs.Bytes.{Bytes, be16, be32, place}
use Rattle.model.specs.Font.{Tables}
use Rattle.model.specs.Outline.{Outline, outline, components, renumber, written}
use Rattle.model.specs.Walk.{walk}
use Rattle.model.specs.Glyf.{width_of, glyphs, glyph_bytes, size, new_width, new_glyf, new_loca, new_head}
use Rattle.model.specs.Metrics.{Metric, metrics, new_count, new_hmtx, new_hhea}
use Rattle.model.specs.Name.{cut_name}
use Rattle.model.specs.Post.{cut_post}

-- n of a font
abbrev pub count : Tables → ℕ
count t = glyphs (width_of t.head) t.loca

-- glyph g's outline; its components; its bytes as they are written, with new ids
unfoldable pub outline_of : Tables → ℕ → Res Outline
outline_of t g = glyph_bytes (width_of t.head) t.loca t.glyf g >>= λ b. outline (count t) b

unfoldable pub parts_of : Tables → ℕ → Res (List ℕ)
parts_of t g = map_res components (outline_of t g)

unfoldable pub piece_of : Tables → (ℕ → ℕ) → ℕ → Res Bytes
piece_of t new g = map_res (λ o. written (renumber new o)) (outline_of t g)

-- Step 5. An outline has fewer components than glyf has bytes, and an outline's components are pushed once: so many turns are enough (theorem `turns-enough`)
abbrev pub turns : Tables → List ℕ → ℕ
turns t ids = 2 + length ids + count t * length t.glyf

unfoldable pub closure : Tables → List ℕ → Res (List ℕ)
closure t ids = walk (turns t ids) (count t) (parts_of t) ids

-- maxp: "0x00010000, N, old bytes from 6"
abbrev pub new_maxp : Bytes → ℕ → Bytes
new_maxp maxp n = be32 0x00010000 ++ (be16 n ++ drop 6 maxp)

-- an absent table stays absent
abbrev pub optional : (Bytes → Res Bytes) → Option Bytes → Res (Option Bytes)
optional f none = ok none
optional f (some b) = f b >>= λ c. ok (some c)

-- the new tables, from what the steps found. "cvt, fpgm, prep: copied"
abbrev pub new_tables : Tables → ℕ → List Bytes → List Metric → Option Bytes → Option Bytes → Tables
new_tables t n bs ms name post =
    let w = new_width (size bs) in
    record {
      cvt = t.cvt;
      fpgm = t.fpgm;
      glyf = new_glyf w bs;
      head = new_head w t.head;
      hhea = new_hhea t.hhea (new_count ms);
      hmtx = new_hmtx (new_count ms) ms;
      loca = new_loca w 0 bs;
      maxp = new_maxp t.maxp n;
      name = name;
      post = post;
      prep = t.prep;
    }

pub record CutFont : Type 0 where
  pub roster : List ℕ
  pub tables : Tables

-- Steps 6 to 8, and the outlines with the roster's numbers (the walk read each of them, so they refuse nothing: theorem `pieces-ok`)
unfoldable pub rewrite : Tables → List ℕ → Res CutFont
rewrite t roster = do
  bs ← each (piece_of t (place roster)) roster
  ms ← metrics t.hhea t.hmtx roster
  name ← optional cut_name t.name
  post ← optional (λ b. cut_post b roster) t.post
  ok (record { roster = roster; tables = new_tables t (length roster) bs ms name post })

-- Steps 5 to 8
unfoldable pub cut_tables : Tables → List ℕ → Res CutFont
cut_tables t ids = do
  roster ← closure t ids
  rewrite t roster
