-- The Outline rule by places in a glyph's bytes, as the code goes through them. proofs/ ties each to the model's definition.
use Rattle.std.specs.Prelude.{List, ◌++◌, map, Option, None, Some, ℕ, suc, ◌+◌, ◌-◌, ◌≤◌, ltb, leb, eqb, length, drop}
use Rattle.model.specs.Res.{Res, refuse, ok, pick, map_res, value_of}
use Rattle.model.specs.Bytes.{Bytes, word16, flag, holds, part, concat}
use Rattle.model.specs.Glyf.{Width, entry}
pub use Rattle.model.specs.Glyf.{width}
use Rattle.model.specs.Outline.{Outline, outline, Records, records, record_size, id_of, written}
use Rattle.outline.specs.declared.Span.{Span}
use Rattle.outline.specs.declared.Shape.{Shape}
use Rattle.outline.specs.declared.Shape.TheVariants as shape
use Rattle.outline.specs.declared.Component.{Component}
use Rattle.outline.specs.declared.Component.TheVariants as component

-- where glyph g's bytes stand in glyf; None: its offsets are past glyf or descending
unfoldable pub span_at : Width → Bytes → Bytes → ℕ → Option Span
span_at w loca glyf g =
    pick (leb (entry w loca g) (entry w loca (suc g)))
    (pick (leb (entry w loca (suc g)) (length glyf)) (Some (record { start = entry w loca g; end = entry w loca (suc g) })) None)
    None

-- the bytes that stand there, that they are all there, and what the answer says of them
abbrev pub span_bytes : Bytes → Span → Bytes
span_bytes glyf s = part glyf s.start (s.end - s.start)

pub record Within (glyf : Bytes) (s : Span) : Type 0 where
  pub up : s.start ≤ s.end
  pub inside : s.end ≤ length glyf

abbrev pub span_of : Bytes → Option Span → Res Bytes
span_of glyf (Some s) = ok (span_bytes glyf s)
span_of glyf None = refuse 3

-- what an outline is, before its records are read; None: one byte, or a composite whose header is cut
unfoldable pub shape_of : Bytes → Option Shape
shape_of b =
    pick (eqb (length b) 0) (Some shape.Empty)
    (pick (holds b 0 2)
    (pick (ltb (word16 b 0) 0x8000) (Some shape.Simple) (pick (holds b 0 10) (Some shape.Composite) None))
    None)

-- the component record at a place: its id, the place behind it, and of the last one whether the bytes behind it are kept;
-- None: it is cut, or its id has no glyph
unfoldable pub component_at : ℕ → Bytes → ℕ → Option Component
component_at n b at =
    pick (holds b at 4)
    (pick (holds b at (record_size (word16 b at)))
    (pick (ltb (word16 b (at + 2)) n)
    (pick (flag 0x0020 (word16 b at))
    (Some (component.More (word16 b (at + 2)) (at + record_size (word16 b at))))
    (Some (component.Last (word16 b (at + 2)) (at + record_size (word16 b at)) (flag 0x0100 (word16 b at)))))
    None)
    None)
    None

abbrev pub component_id : Component → ℕ
component_id (component.More id next) = id
component_id (component.Last id next keep) = id

-- the records from a place on; their ids; the place where the bytes end that are kept
unfoldable pub rest : ℕ → Bytes → ℕ → Res Records
rest n b at = records n (length b) (drop at b)

unfoldable pub ids_from : ℕ → Bytes → ℕ → Res (List ℕ)
ids_from n b at = map_res (λ (r : Records). map id_of r.0) (rest n b at)

unfoldable pub end_from : ℕ → Bytes → ℕ → Res ℕ
end_from n b at = map_res (λ (r : Records). at + length (concat r.0 ++ r.1)) (rest n b at)

-- how many bytes are kept of an outline (of an unreadable one, 0)
unfoldable pub kept_length : ℕ → Bytes → ℕ
kept_length n b = value_of 0 (map_res (λ (o : Outline). length (written o)) (outline n b))
